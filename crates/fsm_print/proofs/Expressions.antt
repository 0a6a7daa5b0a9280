-- Expressions and targets of a state machine as they are written: they have no fault, and are read as the same.
use Rattle.std.proofs.Common.{◌≡◌, ℕ, true, List, [], ◌∷◌, Option, None, Some, refl, sym, ap, ◌∙◌}
use Rattle.vlsi_base.specs.declared.name.Name.{Name}
use Rattle.vlsi_base.specs.Tree.{Tree}
use Rattle.bool_expr.specs.Expression.{Expression, constant, variable, inverse as not_of, pair, choice}
use Rattle.source_checks.specs.declared.symbol_table.Role.TheVariants as role
use Rattle.source_checks.specs.declared.symbol_table.Symbol.{Symbol}
use Rattle.source_checks.specs.Symbols.{find}
use Rattle.source_checks.specs.Formula.{named, numbered, place}
use Rattle.source_checks.specs.Widths.{if_not, target_width, target_faults}
use Rattle.source_checks.specs.Drivers.{target_names}
use Rattle.vbe_print.specs.Expressions.{name_of}
use Rattle.vbe_print.specs.Placed.{placed_bit, placed_name, tree, placed_target}
use Rattle.vbe_laws.proofs.Plain.{IsDeclared, IsReadable, IsPlain, plain_bit, plain_whole, plain_index, plain_not, plain_pair, nothing, names_found, width_found, bit_fits}
use Rattle.vbe_laws.proofs.Formulas.{formula_of}
use Rattle.fsm_machine.specs.Fsm.{Fsm}
use Rattle.fsm_core.specs.Checked.{IsInput, ReadsInputs}
use Rattle.fsm_io.specs.Unsupported.{is_input, may_read, expression_forms}
use Rattle.fsm_print.specs.Writable.{IsPlain as HasNoChoice}

-- the name is an input that can be read
pub record IsReadName (known : List Symbol) (clock : List ℕ) (n : Name) : Type 0 where
  pub readable : IsReadable known (Some clock) n
  pub input : readable.declared.symbol.role ≡ role.Input

-- the variable has the name of such an input, which has its number
pub record IsReadInput (known : List Symbol) (clock : List ℕ) (vars : List Name) (k : ℕ) : Type 0 where
  pub name : IsReadName known clock (name_of vars k)
  pub again : place vars (name_of vars k) ≡ k

-- so it is with each input but the clock
abbrev pub InputsAreRead : List Symbol → List ℕ → List Name → Fsm → Type 0
InputsAreRead known clock vars f = (k : ℕ) → IsInput f k → IsReadInput known clock vars k

-- an expression without a fault that is read as this one
pub record IsSaid (known : List Symbol) (clock : List ℕ) (vars : List Name) (t : Tree) (e : Expression) : Type 0 where
  pub plain : IsPlain known (Some clock) t (formula_of vars e)
  pub forms : expression_forms known t ≡ []
  pub again : numbered vars (formula_of vars e) ≡ e

may : (known : List Symbol) (n : Name) (d : IsDeclared known n) → d.symbol.role ≡ role.Input → may_read (find known n.text) ≡ true
may known n d e = ap may_read d.found ∙ ap is_input e

bit_forms : (known : List Symbol) (n : Name) (d : IsDeclared known n) → d.symbol.role ≡ role.Input → (line : ℕ) (b : Option ℕ) → expression_forms known (placed_bit n.text line b) ≡ []
bit_forms known n d e line None = ap (λ b. if_not b line) (may known n d e)
bit_forms known n d e line (Some k) = ap (λ b. if_not b line) (may known n d e)

plain_name : (known : List Symbol) (clock : List ℕ) (n : Name) (line : ℕ) → IsReadable known (Some clock) n → IsPlain known (Some clock) (placed_name line n) (named n)
plain_name known clock n line r = by n.bit refl where
  by : (b : Option ℕ) → n.bit ≡ b → IsPlain known (Some clock) (placed_bit n.text line b) (named n)
  by None e = plain_whole known (Some clock) n line r e
  by (Some k) e = plain_index known (Some clock) n line k r e

pub said : (known : List Symbol) (clock : List ℕ) (vars : List Name) (f : Fsm) → InputsAreRead known clock vars f → (e : Expression) → ReadsInputs f e → HasNoChoice e → (line : ℕ) → IsSaid known clock vars (tree vars line e) e
said known clock vars f all (constant b) reads free line = record { plain = plain_bit known (Some clock) b line; forms = refl; again = refl }
said known clock vars f all (variable k) reads free line =
    let r = all k reads in
    record {
      plain = plain_name known clock (name_of vars k) line r.name.readable;
      forms = bit_forms known (name_of vars k) r.name.readable.declared r.name.input line (name_of vars k).bit;
      again = ap (λ (j : ℕ). variable j) r.again;
    }
said known clock vars f all (not_of e) reads free line =
    let s = said known clock vars f all e reads free line in
    record { plain = plain_not known (Some clock) (tree vars line e) (formula_of vars e) line s.plain; forms = s.forms; again = ap (λ (x : Expression). not_of x) s.again }
said known clock vars f all (pair g a b) reads free line =
    let s = said known clock vars f all a reads.0 free.0 line in
    let t = said known clock vars f all b reads.1 free.1 line in
    record {
      plain = plain_pair known (Some clock) g (tree vars line a) (tree vars line b) (formula_of vars a) (formula_of vars b) line s.plain t.plain;
      forms = nothing (expression_forms known (tree vars line a)) (expression_forms known (tree vars line b)) s.forms t.forms;
      again = ap (λ (x : Expression). pair g x (numbered vars (formula_of vars b))) s.again ∙ ap (λ (x : Expression). pair g a x) t.again;
    }
said known clock vars f all (choice c a b) reads free line = absurd free

-- ---- targets

pub names_are : (known : List Symbol) (n : Name) (line : ℕ) → IsDeclared known n → target_names known (placed_target line n) ≡ n ∷ []
names_are known n line d = by n.bit refl where
  with_bit : Option ℕ → Name
  with_bit b = record { text = n.text; bit = b }

  by : (b : Option ℕ) → n.bit ≡ b → target_names known (placed_target line (record { text = n.text; bit = b })) ≡ n ∷ []
  by None e = names_found known n d e ∙ ap (λ (b : Option ℕ). with_bit b ∷ []) (sym e)
  by (Some k) e = ap (λ (b : Option ℕ). with_bit b ∷ []) (sym e)

pub width_is : (known : List Symbol) (n : Name) (line : ℕ) → IsDeclared known n → target_width known (placed_target line n) ≡ Some 1
width_is known n line d = by n.bit refl where
  by : (b : Option ℕ) → n.bit ≡ b → target_width known (placed_target line (record { text = n.text; bit = b })) ≡ Some 1
  by None e = ap Some (width_found known n d e)
  by (Some k) e = refl

pub faults_are : (known : List Symbol) (n : Name) (line : ℕ) → IsDeclared known n → target_faults known (placed_target line n) ≡ []
faults_are known n line d = by n.bit refl where
  by : (b : Option ℕ) → n.bit ≡ b → target_faults known (placed_target line (record { text = n.text; bit = b })) ≡ []
  by None e = refl
  by (Some k) e = ap (λ b. if_not b line) (bit_fits known n d k e)
