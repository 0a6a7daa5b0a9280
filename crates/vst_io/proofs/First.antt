-- The first fault of a text, check by check.
use Rattle.std.proofs.Common.{◌≡◌, ℕ, ◌-◌, ◌<◌, ◌≤◌, ◌^◌, Bool, true, false, cond, List, [], ◌∷◌, length, min, Option, None, Some, refl, sym, ap, ◌∙◌, arith}
use Rattle.std.specs.Prelude.{nat_lt, filter, Result, Ok, Err, IfErr}
use Rattle.std.proofs.lemmas.Bool.Decides.{nat_tests}
use Rattle.vlsi_base.specs.declared.fault.FaultKind.{FaultKind}
use Rattle.vlsi_base.specs.declared.fault.FaultKind.TheVariants as kind
use Rattle.vlsi_base.specs.declared.fault.LimitKind.TheVariants as limit
use Rattle.vlsi_base.specs.declared.fault.ReadError.{ReadError}
use Rattle.vlsi_base.specs.declared.fault.ReadError.TheVariants as errors
use Rattle.vlsi_base.specs.Names.{scalar}
use Rattle.source_checks.specs.declared.symbol_table.Symbol.{Symbol}
use Rattle.source_checks.specs.Lines.{first_line}
use Rattle.source_checks.specs.Checks.{fault, if_line, if_symbol, first_repeated}
use Rattle.net_core.specs.declared.pins.ModelPins.{ModelPins}
use Rattle.vst_text.specs.declared.file.Component.{Component}
use Rattle.vst_text.specs.declared.file.InstanceStatement.{InstanceStatement}
use Rattle.vst_text.specs.declared.file.StructuralFile.{StructuralFile}
use Rattle.vst_io.specs.Nets.{nets, components}
use Rattle.vst_io.specs.Faults.{all_widths, all_forms, first_unlisted, bad_maps, terminal_count, first_label_again, if_unlisted, if_many, if_again, first_fault}
use Rattle.vst_io.specs.Checked.{IsDeclared, IsChecked, IsFaultOf}
use Rattle.vst_io.specs.Drafts.{IsLabelFault}

-- ---- what the checks from one on find

abbrev at_labels : StructuralFile → Option ReadError
at_labels f = if_again (first_label_again [] f.instances) None

abbrev at_nets : StructuralFile → Option ReadError
at_nets f = if_symbol (first_repeated [] (nets f)) (at_labels f)

abbrev at_count : List ModelPins → StructuralFile → Option ReadError
at_count table f = if_many (terminal_count table f) (at_nets f)

abbrev at_maps : List ModelPins → StructuralFile → Option ReadError
at_maps table f = if_line kind.BadMap (bad_maps table f) (at_count table f)

abbrev at_components : List ModelPins → StructuralFile → Option ReadError
at_components table f = if_unlisted (first_unlisted table (components f.declarations)) (at_maps table f)

abbrev at_forms : List ModelPins → StructuralFile → Option ReadError
at_forms table f = if_line kind.Unsupported (all_forms f) (at_components table f)

-- ---- one check

pub none_line : (xs : List ℕ) → None ≡ first_line xs → xs ≡ []
none_line [] e = refl
none_line (x ∷ xs) e = absurd cc

by_line : (k : FaultKind) (xs : List ℕ) (line : ℕ) (later : Option ReadError) → Some line ≡ first_line xs → if_line k xs later ≡ Some (fault k line [])
by_line k [] line later e = absurd cc
by_line k (x ∷ xs) line later e = let same : x ≡ line = cc in ap (λ (n : ℕ). Some (fault k n [])) same

past_line : (k : FaultKind) (xs : List ℕ) (later : Option ReadError) → xs ≡ [] → if_line k xs later ≡ later
past_line k xs later e = ap (λ (ys : List ℕ). if_line k ys later) e

few_test : (n : ℕ) → n < 2 ^ 32 → nat_lt n (2 ^ 32) ≡ true
few_test n h = grind (arith, nat_tests)

many_test : (n : ℕ) → 2 ^ 32 ≤ n → nat_lt n (2 ^ 32) ≡ false
many_test n h = grind (arith, nat_tests)

abbrev too_many : ℕ → ReadError
too_many n = errors.Limit (record { which = limit.Bits; reached = min n (2 ^ 64 - 1) })

past_count : (n : ℕ) (later : Option ReadError) → n < 2 ^ 32 → if_many n later ≡ later
past_count n later h = ap (λ (b : Bool). cond b later (Some (too_many n))) (few_test n h)

by_count : (n : ℕ) (later : Option ReadError) → 2 ^ 32 ≤ n → if_many n later ≡ Some (too_many n)
by_count n later h = ap (λ (b : Bool). cond b later (Some (too_many n))) (many_test n h)

-- ---- all of them

past_widths : (table : List ModelPins) (f : StructuralFile) → all_widths f ≡ [] → first_fault table f ≡ at_forms table f
past_widths table f e = past_line kind.Width (all_widths f) (at_forms table f) e

past_forms : (table : List ModelPins) (f : StructuralFile) → all_widths f ≡ [] → all_forms f ≡ [] → first_fault table f ≡ at_components table f
past_forms table f e g = past_widths table f e ∙ past_line kind.Unsupported (all_forms f) (at_components table f) g

past_declared : (table : List ModelPins) (f : StructuralFile) → IsDeclared table f → first_fault table f ≡ at_maps table f
past_declared table f d = past_forms table f d.widths d.forms ∙ ap (λ (o : Option Component). if_unlisted o (at_maps table f)) d.listed

past_maps : (table : List ModelPins) (f : StructuralFile) → IsDeclared table f → bad_maps table f ≡ [] → first_fault table f ≡ at_count table f
past_maps table f d e = past_declared table f d ∙ past_line kind.BadMap (bad_maps table f) (at_count table f) e

past_many : (table : List ModelPins) (f : StructuralFile) → IsDeclared table f → bad_maps table f ≡ [] → terminal_count table f < 2 ^ 32 → first_fault table f ≡ at_nets f
past_many table f d e few = past_maps table f d e ∙ past_count (terminal_count table f) (at_nets f) few

past_checked : (table : List ModelPins) (f : StructuralFile) → IsChecked table f → first_fault table f ≡ at_labels f
past_checked table f c = past_many table f c.declared c.maps c.few ∙ ap (λ (o : Option Symbol). if_symbol o (at_labels f)) c.once

pub width_found : (table : List ModelPins) (f : StructuralFile) (line : ℕ) → Some line ≡ first_line (all_widths f) → first_fault table f ≡ Some (fault kind.Width line [])
width_found table f line e = by_line kind.Width (all_widths f) line (at_forms table f) e

pub form_found : (table : List ModelPins) (f : StructuralFile) (line : ℕ) → all_widths f ≡ [] → Some line ≡ first_line (all_forms f) → first_fault table f ≡ Some (fault kind.Unsupported line [])
form_found table f line w e = past_widths table f w ∙ by_line kind.Unsupported (all_forms f) line (at_components table f) e

pub unlisted_found : (table : List ModelPins) (f : StructuralFile) (c : Component) → all_widths f ≡ [] → all_forms f ≡ [] → Some c ≡ first_unlisted table (components f.declarations)
    → first_fault table f ≡ Some (fault kind.UnknownCell c.line (scalar c.name ∷ []))
unlisted_found table f c w x e = past_forms table f w x ∙ ap (λ (o : Option Component). if_unlisted o (at_maps table f)) (sym e)

pub map_found : (table : List ModelPins) (f : StructuralFile) (line : ℕ) → IsDeclared table f → Some line ≡ first_line (bad_maps table f) → first_fault table f ≡ Some (fault kind.BadMap line [])
map_found table f line d e = past_declared table f d ∙ by_line kind.BadMap (bad_maps table f) line (at_count table f) e

pub many_found : (table : List ModelPins) (f : StructuralFile) → IsDeclared table f → bad_maps table f ≡ [] → 2 ^ 32 ≤ terminal_count table f → first_fault table f ≡ Some (too_many (terminal_count table f))
many_found table f d e h = past_maps table f d e ∙ by_count (terminal_count table f) (at_nets f) h

pub twice_found : (table : List ModelPins) (f : StructuralFile) (s : Symbol) → IsDeclared table f → bad_maps table f ≡ [] → terminal_count table f < 2 ^ 32 → Some s ≡ first_repeated [] (nets f)
    → first_fault table f ≡ Some (fault kind.Twice s.line (scalar s.text ∷ []))
twice_found table f s d e few h = past_many table f d e few ∙ ap (λ (o : Option Symbol). if_symbol o (at_labels f)) (sym h)

pub label_found : (table : List ModelPins) (f : StructuralFile) → IsChecked table f → (e : ReadError) → IsLabelFault f.instances e → IsFaultOf table f e
label_found table f c errors.Memory h = tt
label_found table f c (errors.Input i) h = past_checked table f c ∙ h
label_found table f c (errors.Limit l) h = past_checked table f c ∙ h

pub no_fault : (table : List ModelPins) (f : StructuralFile) → IsChecked table f → first_label_again [] f.instances ≡ None → first_fault table f ≡ None
no_fault table f c once = past_checked table f c ∙ ap (λ (o : Option InstanceStatement). if_again o None) once

-- an error that there may be, for another reason
pub in_err : {X : Type 0} {P Q : ReadError → Type 0} → ((e : ReadError) → P e → Q e) → (r : Result X ReadError) → IfErr r P → IfErr r Q
in_err f (Ok x) h = h
in_err f (Err e) h = f e h

-- a list has no more elements that pass a test than elements
pub filter_few : {X : Type 0} (p : X → Bool) (xs : List X) → length (filter p xs) ≤ length xs
filter_few p [] = omega arith
filter_few p (x ∷ xs) = by (p x) (filter_few p xs) where
  by : (b : Bool) → length (filter p xs) ≤ length xs → length (cond b (x ∷ filter p xs) (filter p xs)) ≤ length (x ∷ xs)
  by true h = omega (arith, h)
  by false h = omega (arith, h)

-- ---- a text without a fault

line_nothing : (k : FaultKind) (xs : List ℕ) (later : Option ReadError) → if_line k xs later ≡ None → (xs ≡ []) × (later ≡ None)
line_nothing k [] later e = (refl, e)
line_nothing k (x ∷ xs) later e = absurd cc

unlisted_nothing : (o : Option Component) (later : Option ReadError) → if_unlisted o later ≡ None → (o ≡ None) × (later ≡ None)
unlisted_nothing None later e = (refl, e)
unlisted_nothing (Some c) later e = absurd cc

many_nothing : (n : ℕ) (later : Option ReadError) → if_many n later ≡ None → (n < 2 ^ 32) × (later ≡ None)
many_nothing n later e = by (nat_lt n (2 ^ 32)) refl e where
  by : (b : Bool) → nat_lt n (2 ^ 32) ≡ b → cond b later (Some (too_many n)) ≡ None → (n < 2 ^ 32) × (later ≡ None)
  by true is e = (grind (arith, nat_tests), e)
  by false is e = absurd cc

symbol_nothing : (o : Option Symbol) (later : Option ReadError) → if_symbol o later ≡ None → o ≡ None
symbol_nothing None later e = refl
symbol_nothing (Some s) later e = absurd cc

-- it has passed the checks before its netlist is made
pub faultless : (table : List ModelPins) (f : StructuralFile) → first_fault table f ≡ None → IsChecked table f
faultless table f e =
    let w = line_nothing kind.Width (all_widths f) (at_forms table f) e in
    let x = line_nothing kind.Unsupported (all_forms f) (at_components table f) w.1 in
    let u = unlisted_nothing (first_unlisted table (components f.declarations)) (at_maps table f) x.1 in
    let m = line_nothing kind.BadMap (bad_maps table f) (at_count table f) u.1 in
    let n = many_nothing (terminal_count table f) (at_nets f) m.1 in
    record {
      declared = record { widths = w.0; forms = x.0; listed = u.0 };
      maps = m.0;
      few = n.0;
      once = symbol_nothing (first_repeated [] (nets f)) (at_labels f) n.1;
    }
