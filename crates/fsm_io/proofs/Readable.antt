-- What expressions read in which nothing is at fault: inputs other than the clock, bit by bit.
use Rattle.std.proofs.Common.{◌≡◌, ℕ, Bool, true, false, List, [], Option, Some, None, refl, sym, ap, ◌∙◌}
use Rattle.vlsi_base.specs.Tree.{Tree, bit, literal, name, index, slice, stable, inverse, binary}
use Rattle.vlsi_base.specs.declared.name.Name.{Name}
use Rattle.vlsi_base.specs.declared.name.Dir.TheVariants as dir
use Rattle.vlsi_base.specs.Name.{is_supply}
use Rattle.vlsi_base.specs.Member.{In}
use Rattle.source_checks.specs.declared.symbol_table.Role.{Role}
use Rattle.source_checks.specs.declared.symbol_table.Role.TheVariants as role
use Rattle.source_checks.specs.declared.symbol_table.Symbol.{Symbol}
use Rattle.source_checks.specs.Symbols.{find, names_in, bit_name}
use Rattle.source_checks.specs.Formula.{Formula, formulas, formula_names, literal_bits, names_of_found}
use Rattle.source_checks.specs.Clock.{clock_lines}
use Rattle.source_checks.specs.Elaboration.{port_bits, port_of}
use Rattle.source_checks.specs.Places.{reads}
use Rattle.source_checks.specs.Widths.{width_faults}
use Rattle.source_checks.proofs.Names.{find_text}
use Rattle.vlsi_model.proofs.Bits.{text_in, found_in}
use Rattle.vlsi_model.proofs.Formulas.{Each, Each-operator, Each-fixed, Each-opposite, Each-leaf, Holds-leaf, Each-In}
use Rattle.vlsi_model.proofs.Numbering.{holds_In}
use Rattle.vlsi_model.proofs.Expressions.{AreKnown, empty_left, empty_right, no_line, IsReadable, IsScalarClock, reads_are}
use Rattle.vlsi_model.proofs.PortBits.{is_port_bit}
use Rattle.fsm_io.specs.Unsupported.{is_input, may_read, read_forms, expression_forms}

-- where no read is at fault, each name that is read may be read
reads_may : (known : List Symbol) (may : List ℕ → Bool) (e : Tree) → read_forms may false e ≡ [] → Each (λ (n : Name). may n.text ≡ true) (formulas known e)
reads_may known may (bit b line) w = (tt, tt)
reads_may known may (literal r digits line) w = Each-fixed (λ (n : Name). may n.text ≡ true) (literal_bits r digits)
reads_may known may (name text line) w = Each-leaf (λ (n : Name). may n.text ≡ true) (names_of_found (find known text)) (λ n i supply. by n (find known text) refl i) where
  fits : may text ≡ true
  fits = no_line (may text) line w

  by : (n : Name) (o : Option Symbol) → find known text ≡ o → In n (names_of_found o) → may n.text ≡ true
  by n None e i = elim i [ ]
  by n (Some s) e i = ap may (text_in s.text s.range n i ∙ find_text known text s e) ∙ fits
reads_may known may (index text line k) w = (Holds-leaf (λ (n : Name). may n.text ≡ true) (bit_name text k) (λ supply. no_line (may text) line w), tt)
reads_may known may (slice text line range) w = Each-leaf (λ (n : Name). may n.text ≡ true) (names_in text (Some range)) (λ n i supply. ap may (text_in text (Some range) n i) ∙ no_line (may text) line w)
reads_may known may (stable text line) w = (tt, tt)
reads_may known may (inverse line e) w = Each-opposite (λ (n : Name). may n.text ≡ true) (formulas known e) (reads_may known may e w)
reads_may known may (binary op line left right) w =
    Each-operator (λ (n : Name). may n.text ≡ true) op (formulas known left) (formulas known right) (reads_may known may left (empty_left (read_forms may false left) _ w))
    (reads_may known may right (empty_right (read_forms may false left) _ w))

input_role : (r : Role) → is_input r ≡ true → r ≡ role.Input
input_role role.Input e = refl
input_role role.Output e = absurd cc
input_role role.Both e = absurd cc
input_role role.Inner e = absurd cc
input_role role.Register e = absurd cc

-- an input bit that is no supply and not the clock
pub record IsRead (known : List Symbol) (clock : List ℕ) (n : Name) : Type 0 where
  pub port : In (port_of dir.In n) (port_bits known)
  pub no_clock : n.text ≡ clock → ⊥

pub reads_ports : (known : List Symbol) (clock : List ℕ) (e : Tree) → IsScalarClock known (Some clock) → AreKnown known (reads e) → width_faults known e ≡ [] → clock_lines (Some clock) e ≡ [] → expression_forms known e ≡ []
    → (x : Formula) → In x (formulas known e) → (n : Name) → In n (formula_names x) → IsRead known clock n
reads_ports known clock e scalar k w c f x i n j =
    let r = holds_In (IsReadable known (Some clock)) x (Each-In (IsReadable known (Some clock)) (formulas known e) x (reads_are known (Some clock) scalar e k w c) i) n j in
    let may : may_read (find known n.text) ≡ true = holds_In (λ (m : Name). may_read (find known m.text) ≡ true) x (Each-In (λ (m : Name). may_read (find known m.text) ≡ true) (formulas known e) x (reads_may known (λ text. may_read (find known text)) e f) i) n j in
    let s = r.symbol in
    let found : find known n.text ≡ Some s = r.bit.found in
    let input : s.role ≡ role.Input = input_role s.role (ap may_read (sym found) ∙ may) in
    let text : n.text ≡ s.text = sym (find_text known n.text s found) in
    record {
      port = is_port_bit known s n dir.In (found_in known n.text s found) r.bit.among (ap is_supply (sym text) ∙ r.no_supply) input;
      no_clock = λ same. r.no_clock (ap Some (sym same));
    }
