-- What holds of a text in which no check fails, place by place.
use Rattle.std.proofs.Common.{◌≡◌, ℕ, List, [], ◌∷◌, ◌++◌, Option, Some, None, refl, sym, ap, subst, ◌∙◌, inl, inr}
use Rattle.std.specs.List.{flat_map}
use Rattle.vlsi_base.specs.Member.{In}
use Rattle.vlsi_base.specs.declared.fault.FaultKind.{FaultKind}
use Rattle.vlsi_base.specs.declared.fault.FaultKind.TheVariants as kind
use Rattle.vlsi_base.specs.declared.fault.ReadError.{ReadError}
use Rattle.source_checks.specs.declared.symbol_table.Symbol.{Symbol}
use Rattle.source_checks.specs.declared.drivers.NameFault.{NameFault}
use Rattle.source_checks.specs.Places.{Use, first_unknown}
use Rattle.source_checks.specs.Checks.{if_use, if_line, if_name}
use Rattle.vlsi_model.proofs.Members.{In-cases}
use Rattle.vlsi_model.proofs.Expressions.{AreKnown, known_uses, known_left, known_right, empty_left, empty_right}
use Rattle.fsm_text.specs.Written.{MachineTree}
use Rattle.fsm_io.specs.Known.{Named, symbols}
use Rattle.fsm_io.specs.Looks.{Mention, all_mentions, uses_at, all_uses, clock_uses}
use Rattle.fsm_io.specs.Widths.{widths_at, all_widths, clock_widths}
use Rattle.fsm_io.specs.Drivers.{first_unassigned, or_else}
use Rattle.fsm_io.specs.Unsupported.{forms_at, all_forms}
use Rattle.fsm_io.specs.Clock.{clock_reads_at, all_clock_reads}
use Rattle.fsm_io.specs.States.{all_bad_states}
use Rattle.fsm_io.specs.Assigned.{left_out}
use Rattle.fsm_io.specs.Checks.{if_state, fault_behind}
use Rattle.fsm_io.specs.Pieces.{names_fault, forms_fault, states_fault, early_fault}

of_use : (o : Option Use) (later : Option ReadError) → if_use o later ≡ None → (o ≡ None) × (later ≡ None)
of_use None later e = (refl, e)
of_use (Some s) later e = absurd cc

of_line : (k : FaultKind) (o : List ℕ) (later : Option ReadError) → if_line k o later ≡ None → (o ≡ []) × (later ≡ None)
of_line k [] later e = (refl, e)
of_line k (s ∷ _) later e = absurd cc

of_name : (k : FaultKind) (o : Option NameFault) (later : Option ReadError) → if_name k o later ≡ None → (o ≡ None) × (later ≡ None)
of_name k None later e = (refl, e)
of_name k (Some s) later e = absurd cc

of_state : (o : List Use) (later : Option ReadError) → if_state o later ≡ None → (o ≡ []) × (later ≡ None)
of_state [] later e = (refl, e)
of_state (s ∷ _) later e = absurd cc

pub of_else : {A : Type 0} (a b : Option A) → or_else a b ≡ None → (a ≡ None) × (b ≡ None)
of_else None b e = (refl, e)
of_else (Some x) b e = absurd cc

-- no check before that for what is assigned fails
pub record EarlyFine (m : MachineTree) (n : Named) : Type 0 where
  pub unknown : first_unknown (symbols m) (all_uses m n) ≡ None
  pub width : all_widths m n ≡ []
  pub form : all_forms m n ≡ []
  pub clock : all_clock_reads m n ≡ []
  pub state : all_bad_states m n ≡ []

pub early_fine : (m : MachineTree) (n : Named) → early_fault m n ≡ None → EarlyFine m n
early_fine m n e =
    let a = of_else (names_fault m n) (or_else (forms_fault m n) (states_fault m n)) e in
    let b = of_else (forms_fault m n) (states_fault m n) a.1 in
    let c = of_use (first_unknown (symbols m) (all_uses m n)) _ a.0 in
    let d = of_line kind.Width (all_widths m n) None c.1 in
    let f = of_name kind.Undriven (first_unassigned m) _ b.0 in
    let g = of_line kind.Unsupported (all_forms m n) None f.1 in
    let h = of_line kind.ClockUse (all_clock_reads m n) _ b.1 in
    let k = of_state (all_bad_states m n) None h.1 in
    record { unknown = c.0; width = d.0; form = g.0; clock = h.0; state = k.0 }

or_use : (o : Option Use) (a b : Option ReadError) → if_use o (or_else a b) ≡ or_else (if_use o a) b
or_use None a b = refl
or_use (Some x) a b = refl

or_line : (k : FaultKind) (o : List ℕ) (a b : Option ReadError) → if_line k o (or_else a b) ≡ or_else (if_line k o a) b
or_line k [] a b = refl
or_line k (x ∷ xs) a b = refl

or_name : (k : FaultKind) (o : Option NameFault) (a b : Option ReadError) → if_name k o (or_else a b) ≡ or_else (if_name k o a) b
or_name k None a b = refl
or_name k (Some x) a b = refl

or_state : (o : List Use) (a b : Option ReadError) → if_state o (or_else a b) ≡ or_else (if_state o a) b
or_state [] a b = refl
or_state (x ∷ xs) a b = refl

else_else : (a b c : Option ReadError) → or_else (or_else a b) c ≡ or_else a (or_else b c)
else_else None b c = refl
else_else (Some x) b c = refl

-- the stages, one behind another
pub stages : (m : MachineTree) (n : Named) → fault_behind m n ≡ or_else (early_fault m n) (if_name kind.NotAssigned (left_out m n) None)
stages m n =
    let uses = first_unknown (symbols m) (all_uses m n) in
    let late = if_name kind.NotAssigned (left_out m n) None in
    let states = states_fault m n in
    let forms = forms_fault m n in
    let s1 : if_line kind.ClockUse (all_clock_reads m n) (if_state (all_bad_states m n) late) ≡ or_else states late =
    ap (if_line kind.ClockUse (all_clock_reads m n)) (or_state (all_bad_states m n) None late) ∙ or_line kind.ClockUse (all_clock_reads m n) (if_state (all_bad_states m n) None) late in
    let s2 : if_name kind.Undriven (first_unassigned m) (if_line kind.Unsupported (all_forms m n) (or_else states late)) ≡ or_else forms (or_else states late) =
    ap (if_name kind.Undriven (first_unassigned m)) (or_line kind.Unsupported (all_forms m n) None (or_else states late)) ∙ or_name kind.Undriven (first_unassigned m) (if_line kind.Unsupported (all_forms m n) None) (or_else states late) in
    let s3 : if_use uses (if_line kind.Width (all_widths m n) (or_else forms (or_else states late))) ≡ or_else (names_fault m n) (or_else forms (or_else states late)) =
    ap (if_use uses) (or_line kind.Width (all_widths m n) None (or_else forms (or_else states late))) ∙ or_use uses (if_line kind.Width (all_widths m n) None) (or_else forms (or_else states late)) in
    ap (λ (o : Option ReadError). if_use uses (if_line kind.Width (all_widths m n) (if_name kind.Undriven (first_unassigned m) (if_line kind.Unsupported (all_forms m n) o)))) s1
    ∙ ap (λ (o : Option ReadError). if_use uses (if_line kind.Width (all_widths m n) o)) s2 ∙ s3
    ∙ ap (or_else (names_fault m n)) (sym (else_else forms states late)) ∙ sym (else_else (names_fault m n) (or_else forms states) late)

pub late_fine : (m : MachineTree) (n : Named) → fault_behind m n ≡ None → (early_fault m n ≡ None) × (left_out m n ≡ None)
late_fine m n e =
    let a = of_else (early_fault m n) (if_name kind.NotAssigned (left_out m n) None) (sym (stages m n) ∙ e) in
    let b = of_name kind.NotAssigned (left_out m n) None a.1 in (a.0, b.0)

-- ---- each place

none_in : {A : Type 0} (look : Mention → List A) (ms : List Mention) → flat_map look ms ≡ [] → (x : Mention) → In x ms → look x ≡ []
none_in look [] e x i = elim i [ ]
none_in {A} look (m ∷ ms) e x i = elim (In-cases x m ms i) [
  | inl same ↦ subst (λ (y : Mention). look y ≡ []) same (empty_left (look m) (flat_map look ms) e)
  | inr j ↦ none_in look ms (empty_right (look m) (flat_map look ms) e) x j
]

known_in : (known : List Symbol) (look : Mention → List Use) (ms : List Mention) → AreKnown known (flat_map look ms) → (x : Mention) → In x ms → AreKnown known (look x)
known_in known look [] h x i = elim i [ ]
known_in known look (m ∷ ms) h x i = elim (In-cases x m ms i) [
  | inl same ↦ subst (λ (y : Mention). AreKnown known (look y)) same (known_left known (look m) (flat_map look ms) h)
  | inr j ↦ known_in known look ms (known_right known (look m) (flat_map look ms) h) x j
]

-- nothing is at fault in what stands in one place
pub record IsFine (known : List Symbol) (n : Named) (x : Mention) : Type 0 where
  pub uses : AreKnown known (uses_at n x)
  pub widths : widths_at known n x ≡ []
  pub forms : forms_at known n x ≡ []
  pub clock : clock_reads_at n x ≡ []

pub each_fine : (m : MachineTree) (n : Named) → EarlyFine m n → (x : Mention) → In x (all_mentions m) → IsFine (symbols m) n x
each_fine m n f x i =
    let known = symbols m in
    let ms = all_mentions m in
    let u = known_uses known (all_uses m n) f.unknown in
    let u' = known_left known (flat_map (uses_at n) ms) (clock_uses m.clock) (known_right known _ (flat_map (uses_at n) ms ++ clock_uses m.clock) u) in
    let w = empty_left (flat_map (widths_at known n) ms) _ (empty_right _ (flat_map (widths_at known n) ms ++ clock_widths known n m.clock) f.width) in
    let g = empty_left (flat_map (forms_at known n) ms) _ (empty_right _ _ (empty_right _ _ f.form)) in
    let c = empty_left (flat_map (clock_reads_at n) ms) _ f.clock in
    record { uses = known_in known (uses_at n) ms u' x i; widths = none_in (widths_at known n) ms w x i; forms = none_in (forms_at known n) ms g x i; clock = none_in (clock_reads_at n) ms c x i }
