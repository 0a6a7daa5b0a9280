-- The formulas of a machine's expressions as they are written, and what a text's checks see of values and assignments.
use Rattle.std.proofs.Common.{◌≡◌, ℕ, ◌<◌, Bool, true, cond, List, [], ◌∷◌, ◌++◌, length, Option, None, Some, refl, sym, ap, ◌∙◌}
use Rattle.vlsi_base.specs.declared.name.Name.{Name}
use Rattle.vlsi_base.specs.Tree.{inverse}
use Rattle.bool_expr.specs.declared.expr.Gate.TheVariants as gate
use Rattle.bool_expr.specs.Expression.{Expression, constant, variable, inverse as not_of, pair, choice, IsOver}
use Rattle.source_checks.specs.declared.symbol_table.Symbol.{Symbol}
use Rattle.source_checks.specs.Symbols.{find}
use Rattle.source_checks.specs.Formula.{Formula, fixed, named, opposite, joined, chosen}
use Rattle.source_checks.specs.Widths.{if_not, width_faults, condition_faults, target_width, target_faults}
use Rattle.source_checks.specs.Drivers.{needs_driver, target_names, counted_names}
use Rattle.source_checks.specs.Unsupported.{literal_faults, may_drive}
use Rattle.source_checks.specs.Elaboration.{defined}
use Rattle.vbe_text.specs.Source.{AssignmentTree}
use Rattle.spell_theory.specs.Layout.{line_behind}
use Rattle.vbe_print.specs.Expressions.{name_of}
use Rattle.vbe_print.specs.Placed.{placed_bit, placed_name, tree, placed_value, placed_target, placed_assignment}
use Rattle.vbe_laws.proofs.RenamedTrees.{in_choice_of, all_wide_of, bits_of, uses_in, widths_in, drivers_in, forms_in, clocks_in, definitions_in}
use Rattle.vbe_laws.proofs.Plain.{IsDeclared, IsReadable, AreUsed, is_used, IsPlain, plain_bit, plain_whole, plain_index, plain_not, plain_pair, nothing, IsValued, valued_alone, valued_more, names_found, width_found, bit_fits}

-- an expression over the names of its variables; a choice within it stands as `and`, `or` and `not`
abbrev pub formula_of : List Name → Expression → Formula
formula_of names (constant b) = fixed b
formula_of names (variable k) = named (name_of names k)
formula_of names (not_of e) = opposite (formula_of names e)
formula_of names (pair g a b) = joined g (formula_of names a) (formula_of names b)
formula_of names (choice c a b) =
    joined gate.Or (joined gate.And (formula_of names c) (formula_of names a)) (joined gate.And (opposite (formula_of names c)) (formula_of names b))

-- a whole value
abbrev pub value_formula : List Name → Expression → Formula
value_formula names (choice c a b) = chosen (formula_of names c) (formula_of names a) (value_formula names b)
value_formula names e = formula_of names e

-- each variable is a name that can be read
abbrev pub AreReadable : List Symbol → Option (List ℕ) → List Name → Type 0
AreReadable known ck vars = (k : ℕ) → k < length vars → IsReadable known ck (name_of vars k)

-- ---- expressions

plain_name : (known : List Symbol) (ck : Option (List ℕ)) (n : Name) (line : ℕ) → IsReadable known ck n → IsPlain known ck (placed_name line n) (named n)
plain_name known ck n line r = by n.bit refl where
  by : (b : Option ℕ) → n.bit ≡ b → IsPlain known ck (placed_bit n.text line b) (named n)
  by None e = plain_whole known ck n line r e
  by (Some k) e = plain_index known ck n line k r e

pub plain_tree : (known : List Symbol) (ck : Option (List ℕ)) (vars : List Name) → AreReadable known ck vars → (e : Expression) → IsOver e (length vars) → (line : ℕ)
    → IsPlain known ck (tree vars line e) (formula_of vars e)
plain_tree known ck vars all (constant b) over line = plain_bit known ck b line
plain_tree known ck vars all (variable k) over line = plain_name known ck (name_of vars k) line (all k over)
plain_tree known ck vars all (not_of e) over line = plain_not known ck (tree vars line e) (formula_of vars e) line (plain_tree known ck vars all e over line)
plain_tree known ck vars all (pair g a b) over line =
    plain_pair known ck g (tree vars line a) (tree vars line b) (formula_of vars a) (formula_of vars b) line (plain_tree known ck vars all a over.0 line) (plain_tree known ck vars all b over.1 line)
plain_tree known ck vars all (choice c a b) over line =
    let C = tree vars line c in
    let A = tree vars line a in
    let B = tree vars line b in
    let fc = formula_of vars c in
    let fa = formula_of vars a in
    let fb = formula_of vars b in
    let p = plain_tree known ck vars all c over.0 line in
    plain_pair known ck gate.Or _ _ (joined gate.And fc fa) (joined gate.And (opposite fc) fb) line
    (plain_pair known ck gate.And C A fc fa line p (plain_tree known ck vars all a over.1.0 line))
    (plain_pair known ck gate.And (inverse line C) B (opposite fc) fb line (plain_not known ck C fc line p) (plain_tree known ck vars all b over.1.1 line))

pub valued_tree : (known : List Symbol) (ck : Option (List ℕ)) (vars : List Name) → AreReadable known ck vars → (e : Expression) → IsOver e (length vars) → (line : ℕ)
    → IsValued known ck (placed_value vars line e) (value_formula vars e)
valued_tree known ck vars all (constant b) over line = valued_alone known ck (tree vars line (constant b)) (formula_of vars (constant b)) (plain_tree known ck vars all (constant b) over line)
valued_tree known ck vars all (variable k) over line = valued_alone known ck (tree vars line (variable k)) (formula_of vars (variable k)) (plain_tree known ck vars all (variable k) over line)
valued_tree known ck vars all (not_of e) over line = valued_alone known ck (tree vars line (not_of e)) (formula_of vars (not_of e)) (plain_tree known ck vars all (not_of e) over line)
valued_tree known ck vars all (pair g a b) over line = valued_alone known ck (tree vars line (pair g a b)) (formula_of vars (pair g a b)) (plain_tree known ck vars all (pair g a b) over line)
valued_tree known ck vars all (choice c a b) over line =
    valued_more known ck (tree vars line a) (tree vars line c) line (placed_value vars (line_behind line) b) (formula_of vars a) (formula_of vars c) (value_formula vars b)
    (plain_tree known ck vars all a over.1.0 line) (plain_tree known ck vars all c over.0 line) (valued_tree known ck vars all b over.1.1 (line_behind line))

-- ---- targets

-- a name that is driven, in a block or outside
pub record IsDriven (known : List Symbol) (in_block : Bool) (n : Name) : Type 0 where
  pub declared : IsDeclared known n
  pub may : may_drive in_block (find known n.text) ≡ true
  pub needs : needs_driver declared.symbol.role ≡ true

names_are : (known : List Symbol) (n : Name) (line : ℕ) → IsDeclared known n → target_names known (placed_target line n) ≡ n ∷ []
names_are known n line d = by n.bit refl where
  with_bit : Option ℕ → Name
  with_bit b = record { text = n.text; bit = b }

  by : (b : Option ℕ) → n.bit ≡ b → target_names known (placed_target line (record { text = n.text; bit = b })) ≡ n ∷ []
  by None e = names_found known n d e ∙ ap (λ (b : Option ℕ). with_bit b ∷ []) (sym e)
  by (Some k) e = ap (λ (b : Option ℕ). with_bit b ∷ []) (sym e)

width_is : (known : List Symbol) (n : Name) (line : ℕ) → IsDeclared known n → target_width known (placed_target line n) ≡ Some 1
width_is known n line d = by n.bit refl where
  by : (b : Option ℕ) → n.bit ≡ b → target_width known (placed_target line (record { text = n.text; bit = b })) ≡ Some 1
  by None e = ap Some (width_found known n d e)
  by (Some k) e = refl

faults_are : (known : List Symbol) (n : Name) (line : ℕ) → IsDeclared known n → target_faults known (placed_target line n) ≡ []
faults_are known n line d = by n.bit refl where
  by : (b : Option ℕ) → n.bit ≡ b → target_faults known (placed_target line (record { text = n.text; bit = b })) ≡ []
  by None e = refl
  by (Some k) e = ap (λ b. if_not b line) (bit_fits known n d k e)

-- ---- assignments

-- an assignment without a fault, which drives this name with this formula
pub record IsAssigned (known : List Symbol) (ck : Option (List ℕ)) (in_block : Bool) (a : AssignmentTree) (n : Name) (f : Formula) : Type 0 where
  pub widths : widths_in known a ≡ []
  pub forms : forms_in known in_block a ≡ []
  pub clocks : clocks_in ck a ≡ []
  pub uses : AreUsed known (uses_in a)
  pub definitions : definitions_in known a ≡ record { name = n; formula = f } ∷ []
  pub drivers : drivers_in known a ≡ record { line = a.target.line; names = n ∷ [] } ∷ []

pub is_assigned : (known : List Symbol) (ck : Option (List ℕ)) (in_block : Bool) (vars : List Name) → AreReadable known ck vars → (n : Name) (e : Expression) → IsDriven known in_block n → IsOver e (length vars) → (line : ℕ)
    → IsAssigned known ck in_block (placed_assignment vars line n e) n (value_formula vars e)
is_assigned known ck in_block vars all n e d over line =
    let v = valued_tree known ck vars all e over line in
    let c = placed_value vars line e in
    let t = placed_target line n in
    let wide : all_wide_of known (target_width known t) c.alternatives c.otherwise ≡ true = ap (λ (o : Option ℕ). all_wide_of known o c.alternatives c.otherwise) (width_is known n line d.declared) ∙ v.wide in
    record {
      widths =
          nothing (if_not (all_wide_of known (target_width known t) c.alternatives c.otherwise) line) (target_faults known t ++ in_choice_of (width_faults known) (condition_faults known) c)
          (ap (λ b. if_not b line) wide)
          (nothing (target_faults known t) (in_choice_of (width_faults known) (condition_faults known) c) (faults_are known n line d.declared) v.faults);
      forms = nothing (if_not (may_drive in_block (find known n.text)) line) (in_choice_of literal_faults (λ line e. literal_faults e) c) (ap (λ b. if_not b line) d.may) v.forms;
      clocks = v.clocks;
      uses = (is_used known n d.declared, v.uses);
      definitions =
          ap (λ (ns : List Name). defined ns (bits_of known c)) (names_are known n line d.declared)
          ∙ ap (λ (fs : List Formula). defined (n ∷ []) fs) v.bits;
      drivers =
          ap (λ (ns : List Name). record { line = line; names = counted_names (find known n.text) ns } ∷ []) (names_are known n line d.declared)
          ∙ ap (λ (o : Option Symbol). record { line = line; names = counted_names o (n ∷ []) } ∷ []) d.declared.found
          ∙ ap (λ (b : Bool). record { line = line; names = cond b (n ∷ []) [] } ∷ []) d.needs;
    }
