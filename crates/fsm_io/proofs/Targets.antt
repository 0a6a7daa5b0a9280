-- The clock and the targets of a text in which nothing is at fault.
use Rattle.std.proofs.Common.{◌≡◌, ℕ, Bool, true, false, cond, List, [], ◌∷◌, ◌++◌, length, Option, Some, None, refl, sym, ap, subst, ◌∙◌, bytes_eq, arith, inl, inr}
use Rattle.std.specs.Prelude.{◌&&◌, ◌||◌, not, is_none}
use Rattle.std.specs.List.{list_any}
use Rattle.std.proofs.lemmas.Bool.Decides.{nat_tests}
use Rattle.vlsi_base.specs.Tree.{Tree}
use Rattle.vlsi_base.specs.declared.entity.NewName.{NewName}
use Rattle.vlsi_base.specs.declared.entity.PortGroup.{PortGroup}
use Rattle.vlsi_base.specs.declared.entity.Generic.{Generic}
use Rattle.vlsi_base.specs.declared.entity.Mode.{Mode}
use Rattle.vlsi_base.specs.declared.entity.Mode.TheVariants as mode
use Rattle.vlsi_base.specs.declared.name.Name.{Name}
use Rattle.vlsi_base.specs.declared.range.Range.{Range}
use Rattle.vlsi_base.specs.Range.{range_bits}
use Rattle.vlsi_base.specs.Name.{is_supply}
use Rattle.vlsi_base.specs.Member.{In, here, there}
use Rattle.machine_core.proofs.Values.{In-left, In-right, In-split}
use Rattle.source_checks.specs.declared.symbol_table.Role.{Role}
use Rattle.source_checks.specs.declared.symbol_table.Role.TheVariants as role
use Rattle.source_checks.specs.declared.symbol_table.Symbol.{Symbol}
use Rattle.source_checks.specs.declared.statement.Target.{Target}
use Rattle.source_checks.specs.declared.statement.Selection.{Selection}
use Rattle.source_checks.specs.declared.statement.Selection.TheVariants as selection
use Rattle.source_checks.specs.Symbols.{find, symbol_names, bit_name, symbols_named, port_symbols, role_of_mode}
use Rattle.source_checks.specs.Drivers.{target_names}
use Rattle.source_checks.specs.Formula.{formulas, names_of_found}
use Rattle.source_checks.specs.Places.{reads}
use Rattle.source_checks.specs.Unsupported.{is_in_mode, is_bit_word, supply_faults, port_form, port_forms}
use Rattle.source_checks.specs.Widths.{width, differ, found_width, target_width, target_faults, width_faults, index_fits, range_fits, if_not}
use Rattle.source_checks.proofs.Lookups.{same_of}
use Rattle.vlsi_model.proofs.Bits.{IsBit}
use Rattle.vlsi_model.proofs.Expressions.{AreKnown, empty_left, empty_right, no_line, length-names_in, range_range, width_is}
use Rattle.vlsi_model.proofs.FineAssignments.{whole_bit, index_bit, range_bit, and_left, and_right}
use Rattle.fsm_text.specs.Written.{MachineTree}
use Rattle.fsm_io.specs.Known.{symbols, inner_symbols, generic_symbols, is_clock_port}

-- ---- the clock

named_symbol : (role : Role) (range : Option Range) (line : ℕ) (text : List ℕ) (names : List NewName) → list_any (λ (n : NewName). bytes_eq n.text text) names ≡ true
    → In (record { text = text; role = role; range = range; line = line }) (symbols_named role range line names)
named_symbol role range line text [] e = absurd cc
named_symbol role range line text (n ∷ names) e = by (bytes_eq n.text text) refl e (named_symbol role range line text names) where
  by : (b : Bool) → bytes_eq n.text text ≡ b → (b || list_any (λ (n : NewName). bytes_eq n.text text) names) ≡ true
      → (list_any (λ (n : NewName). bytes_eq n.text text) names ≡ true → In (record { text = text; role = role; range = range; line = line }) (symbols_named role range line names))
      → In (record { text = text; role = role; range = range; line = line }) (symbols_named role range line (n ∷ names))
  by true is e rest = subst (λ (t : List ℕ). In (record { text = t; role = role; range = range; line = line }) (symbols_named role range line (n ∷ names))) (same_of n.text text is) here
  by false is e rest = there (rest e)

in_mode : (m : Mode) → is_in_mode m ≡ true → role_of_mode m ≡ role.Input
in_mode mode.In e = refl
in_mode mode.Out e = absurd cc
in_mode mode.Inout e = absurd cc

none_is : {A : Type 0} (o : Option A) → is_none o ≡ true → o ≡ None
none_is None e = refl
none_is (Some x) e = absurd cc

not_true : (b : Bool) → not b ≡ true → b ≡ false
not_true true e = absurd cc
not_true false e = refl

-- the clock is a scalar input that is no supply
pub record IsClock (known : List Symbol) (t : List ℕ) : Type 0 where
  pub symbol : Symbol
  pub declared : In symbol known
  pub text : symbol.text ≡ t
  pub role : symbol.role ≡ role.Input
  pub range : symbol.range ≡ None
  pub no_supply : is_supply t ≡ false

clock_here : (g : PortGroup) (text : List ℕ) → list_any (λ (n : NewName). bytes_eq n.text text) g.names ≡ true → ((is_in_mode g.mode && (is_bit_word g.kind.word && is_none g.kind.range)) && not (is_supply text)) ≡ true
    → IsClock (symbols_named (role_of_mode g.mode) g.kind.range g.line g.names) text
clock_here g text has e =
    let left = and_left (is_in_mode g.mode && (is_bit_word g.kind.word && is_none g.kind.range)) (not (is_supply text)) e in record {
      symbol = record { text = text; role = role_of_mode g.mode; range = g.kind.range; line = g.line };
      declared = named_symbol (role_of_mode g.mode) g.kind.range g.line text g.names has;
      text = refl;
      role = in_mode g.mode (and_left (is_in_mode g.mode) _ left);
      range = none_is g.kind.range (and_right (is_bit_word g.kind.word) _ (and_right (is_in_mode g.mode) _ left));
      no_supply = not_true (is_supply text) (and_right (is_in_mode g.mode && (is_bit_word g.kind.word && is_none g.kind.range)) _ e);
    }

clock_more : (xs ys : List Symbol) (text : List ℕ) → IsClock ys text → IsClock (xs ++ ys) text
clock_more xs ys text c = record { symbol = c.symbol; declared = In-right c.symbol xs ys c.declared; text = c.text; role = c.role; range = c.range; no_supply = c.no_supply }

pub clock_less : (xs ys : List Symbol) (text : List ℕ) → IsClock xs text → IsClock (xs ++ ys) text
clock_less xs ys text c = record { symbol = c.symbol; declared = In-left c.symbol xs ys c.declared; text = c.text; role = c.role; range = c.range; no_supply = c.no_supply }

pub clock_among : (groups : List PortGroup) (text : List ℕ) → is_clock_port groups text ≡ true → IsClock (port_symbols groups) text
clock_among [] text e = absurd cc
clock_among (g ∷ groups) text e = by (list_any (λ (n : NewName). bytes_eq n.text text) g.names) refl e (clock_among groups text) where
  by : (b : Bool) → list_any (λ (n : NewName). bytes_eq n.text text) g.names ≡ b
      → cond b ((is_in_mode g.mode && (is_bit_word g.kind.word && is_none g.kind.range)) && not (is_supply text)) (is_clock_port groups text) ≡ true
      → (is_clock_port groups text ≡ true → IsClock (port_symbols groups) text) → IsClock (port_symbols (g ∷ groups)) text
  by true has e rest = clock_less (symbols_named (role_of_mode g.mode) g.kind.range g.line g.names) (port_symbols groups) text (clock_here g text has e)
  by false has e rest = clock_more (symbols_named (role_of_mode g.mode) g.kind.range g.line g.names) (port_symbols groups) text (rest e)

-- ---- outputs are no supplies

inner_roles : (line : ℕ) (names : List NewName) (s : Symbol) → In s (inner_symbols line names) → s.role ≡ role.Inner
inner_roles line [] s i = elim i [ ]
inner_roles line (n ∷ names) s here = refl
inner_roles line (n ∷ names) s (there i) = inner_roles line names s i

generic_roles : (groups : List Generic) (s : Symbol) → In s (generic_symbols groups) → s.role ≡ role.Inner
generic_roles [] s i = elim i [ ]
generic_roles (g ∷ groups) s i = elim (In-split s (inner_symbols g.line g.names) (generic_symbols groups) i) [
  | inl a ↦ inner_roles g.line g.names s a
  | inr b ↦ generic_roles groups s b
]

no_inner : (s : Symbol) → s.role ≡ role.Inner → s.role ≡ role.Output → ⊥
no_inner s a b = let h : role.Inner ≡ role.Output = sym a ∙ b in absurd cc

-- an output is a port
pub output_port : (m : MachineTree) (s : Symbol) → In s (symbols m) → s.role ≡ role.Output → In s (port_symbols m.entity.ports)
output_port m s i output = elim (In-split s (port_symbols m.entity.ports) _ i) [
  | inl a ↦ a
  | inr b ↦ elim (In-split s (generic_symbols m.entity.generics) _ b) [
    | inl a ↦ absurd (no_inner s (generic_roles m.entity.generics s a) output)
    | inr d ↦ elim (In-split s (inner_symbols m.states.line (m.states.name ∷ m.states.states)) _ d) [
      | inl a ↦ absurd (no_inner s (inner_roles m.states.line (m.states.name ∷ m.states.states) s a) output)
      | inr a ↦ absurd (no_inner s (inner_roles m.signals.line (m.signals.first ∷ m.signals.second ∷ []) s a) output)
    ]
  ]
]

unsupplied : (role : Role) (range : Option Range) (line : ℕ) (names : List NewName) (s : Symbol) → supply_faults false names ≡ [] → In s (symbols_named role range line names) → is_supply s.text ≡ false
unsupplied role range line [] s e i = elim i [ ]
unsupplied role range line (n ∷ names) s e here = not_true (is_supply n.text) (no_line (not (is_supply n.text)) n.line (empty_left (if_not (not (is_supply n.text)) n.line) (supply_faults false names) e))
unsupplied role range line (n ∷ names) s e (there i) = unsupplied role range line names s (empty_right (if_not (not (is_supply n.text)) n.line) (supply_faults false names) e) i

role_in : (role : Role) (range : Option Range) (line : ℕ) (names : List NewName) (s : Symbol) → In s (symbols_named role range line names) → s.role ≡ role
role_in role range line [] s i = elim i [ ]
role_in role range line (n ∷ names) s here = refl
role_in role range line (n ∷ names) s (there i) = role_in role range line names s i

out_mode : (m : Mode) → role_of_mode m ≡ role.Output → is_in_mode m ≡ false
out_mode mode.In e = absurd cc
out_mode mode.Out e = refl
out_mode mode.Inout e = absurd cc

pub output_no_supply : (groups : List PortGroup) (s : Symbol) → port_forms groups ≡ [] → In s (port_symbols groups) → s.role ≡ role.Output → is_supply s.text ≡ false
output_no_supply [] s e i output = elim i [ ]
output_no_supply (g ∷ groups) s e i output =
    let names = symbols_named (role_of_mode g.mode) g.kind.range g.line g.names in
    elim (In-split s names (port_symbols groups) i) [
      | inl a ↦
          let out : is_in_mode g.mode ≡ false = out_mode g.mode (sym (role_in (role_of_mode g.mode) g.kind.range g.line g.names s a) ∙ output) in
          let none : supply_faults (is_in_mode g.mode && is_bit_word g.kind.word) g.names ≡ [] = empty_left _ _ (empty_left (port_form g) (port_forms groups) e) in
          unsupplied (role_of_mode g.mode) g.kind.range g.line g.names s (ap (λ b. supply_faults (b && is_bit_word g.kind.word) g.names) (sym out) ∙ none) a
      | inr b ↦ output_no_supply groups s (empty_right (port_form g) (port_forms groups) e) b output
    ]

-- ---- targets

pub record IsFineTarget (known : List Symbol) (t : Target) (s : Symbol) : Type 0 where
  pub bits : (n : Name) → In n (target_names known t) → IsBit known n s
  pub width : target_width known t ≡ Some (length (target_names known t))

pub fine_target : (known : List Symbol) (t : Target) (s : Symbol) → find known t.name ≡ Some s → target_faults known t ≡ [] → IsFineTarget known t s
fine_target known t s found w = by t.selection w where
  whole : names_of_found (find known t.name) ≡ symbol_names s
  whole = ap names_of_found found

  by : (sel : Selection) → target_faults known (record t { selection = sel }) ≡ [] → IsFineTarget known (record t { selection = sel }) s
  by selection.Whole w = record {
    bits = λ n i. whole_bit known t.name s n found (subst (λ (ns : List Name). In n ns) whole i);
    width = ap (λ (o : Option Symbol). Some (found_width o)) found ∙ ap Some (sym (length-names_in s.text s.range)) ∙ ap (λ (ns : List Name). Some (length ns)) (sym whole);
  }
  by (selection.Bit k) w =
      let fits : index_fits (Some s) k ≡ true = ap (λ (o : Option Symbol). index_fits o k) (sym found) ∙ no_line (index_fits (find known t.name) k) t.line w in record {
        bits = λ n i. subst (λ (m : Name). IsBit known m s) (by_one n i) (index_bit known t.name s k found fits);
        width = refl;
      } where
        by_one : (n : Name) → In n (bit_name t.name k ∷ []) → bit_name t.name k ≡ n
        by_one n here = refl
        by_one n (there h) = elim h [ ]
  by (selection.Bits r) w =
      let fits : range_fits (Some s) r ≡ true = ap (λ (o : Option Symbol). range_fits o r) (sym found) ∙ no_line (range_fits (find known t.name) r) r.line w in record {
        bits = λ n i. range_bit known t.name s r n found fits i;
        width = ap (λ b. cond b (Some (length (range_bits r))) None) (range_range s r fits).2 ∙ ap Some (sym (length-names_in t.name (Some r)));
      }

not_different : (a m : ℕ) → not (differ (Some a) (Some m)) ≡ true → m ≡ a
not_different a m e = grind (arith, nat_tests)

-- what is assigned has as many bits as its target
pub equal_widths : (known : List Symbol) (t : Target) (s : Symbol) (e : Tree) → IsFineTarget known t s → AreKnown known (reads e) → width_faults known e ≡ [] → not (differ (width known e) (target_width known t)) ≡ true
    → length (target_names known t) ≡ length (formulas known e)
equal_widths known t s e f k w d =
    not_different (length (formulas known e)) (length (target_names known t))
    (ap (λ (o : Option ℕ). not (differ o (Some (length (target_names known t))))) (sym (width_is known e k w)) ∙ ap (λ (o : Option ℕ). not (differ (width known e) o)) (sym f.width) ∙ d)
