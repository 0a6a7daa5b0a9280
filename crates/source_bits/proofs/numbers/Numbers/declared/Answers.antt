use Rattle.std.proofs.Common.{rules, arith, ◌≡◌, ◌<◌, List, length, get_or, Option, Some, sym, ap, subst, ◌∙◌, refl}
use Rattle.std.specs.Prelude.{option_map}
use Rattle.vlsi_base.specs.declared.range.Range.{Range}
use Rattle.machine_core.specs.Order.{AllDifferent}
use Rattle.source_checks.specs.declared.symbol_table.Symbol.{Symbol}
use Rattle.source_checks.specs.Symbols.{all_names, find}
use Rattle.source_checks.specs.Formula.{place}
use Rattle.source_checks.specs.Known.{position_of}
use Rattle.source_checks.proofs.Knowing.{found_at, not_found}
use Rattle.source_bits.specs.declared.ranges.Declared.{Declared}
use Rattle.source_bits.specs.Numbering.{named_bit, number_in, LiesWithin}
use Rattle.source_bits.proofs.Standing.{texts, length_starts, first_at, number_at, lies_within, stands_nowhere}
use Rattle.source_bits.proofs.numbers.Numbers.declared.Goals as goal

pub index-first-requires : goal.index-first-requires
index-first-requires c =
    let inside = (found_at c.self.inside.table c.args.text.now c.in-Some.place (sym c.in-Some.ensures)).within in
    omega (arith, inside, c.self.inside.starts.ok.0, ap length c.self.invariant.starts_are, length_starts 0 c.self.inside.table)

pub offset_bounds-symbols-place : goal.offset_bounds-symbols-place
offset_bounds-symbols-place c =
    let inside = (found_at c.self.inside.table c.args.text.now c.in-Some.place (sym c.in-Some.ensures)).within in
    let below : c.in-Some.place < length c.as_slice-symbols.result.now = omega (arith, inside, ap length c.as_slice-symbols.ensures) in
    search rules

pub bounds-symbols-place : goal.bounds-symbols-place
bounds-symbols-place c =
    let inside = (found_at c.self.inside.table c.args.text.now c.in-Some.place (sym c.in-Some.ensures)).within in
    omega (arith, inside, ap length c.as_slice-symbols.ensures)

pub returns-in-Some-clause-number : goal.returns-in-Some-clause-number
returns-in-Some-clause-number c = λ bit.
    let known = c.self.inside.table in
    let text = c.args.text.now in
    let at : position_of known text ≡ Some c.in-Some.place = sym c.in-Some.ensures in
    let d = c.index-symbols-place.result in
    let is : d ≡ get_or known c.in-Some.place d = c.index-symbols-place.is ∙ ap (λ (ks : List Symbol). get_or ks c.in-Some.place d) c.as_slice-symbols.ensures in
    let declared : Declared = record { first = c.index-first.result.now; range = d.range } in
    let first = first_at c.self.inside.starts.items known c.in-Some.place c.index-first.result.now c.self.invariant.starts_are (found_at known text c.in-Some.place at).within c.index-first.ensures in
    let different : AllDifferent (texts known) = subst (λ (ks : List Symbol). AllDifferent (texts ks)) (sym c.self.view_is) c.requires in
    subst (λ (ks : List Symbol). number_in (length (all_names ks)) (Some declared) (named_bit text bit) ≡ place (all_names ks) (named_bit text bit)) c.self.view_is (number_at known text bit c.in-Some.place d declared different at is first refl)

pub returns-in-Some-clause-within : goal.returns-in-Some-clause-within
returns-in-Some-clause-within c =
    let known = c.self.inside.table in
    let text = c.args.text.now in
    let at : position_of known text ≡ Some c.in-Some.place = sym c.in-Some.ensures in
    let d = c.index-symbols-place.result in
    let is : d ≡ get_or known c.in-Some.place d = c.index-symbols-place.is ∙ ap (λ (ks : List Symbol). get_or ks c.in-Some.place d) c.as_slice-symbols.ensures in
    let declared : Declared = record { first = c.index-first.result.now; range = d.range } in
    let first = first_at c.self.inside.starts.items known c.in-Some.place c.index-first.result.now c.self.invariant.starts_are (found_at known text c.in-Some.place at).within c.index-first.ensures in
    let different : AllDifferent (texts known) = subst (λ (ks : List Symbol). AllDifferent (texts ks)) (sym c.self.view_is) c.requires in
    subst (λ (ks : List Symbol). LiesWithin (length (all_names ks)) (Some declared)) c.self.view_is (lies_within known text c.in-Some.place d declared different at is first refl)

pub returns-in-Some-clause-range : goal.returns-in-Some-clause-range
returns-in-Some-clause-range c =
    let known = c.self.inside.table in
    let text = c.args.text.now in
    let at : position_of known text ≡ Some c.in-Some.place = sym c.in-Some.ensures in
    let d = c.index-symbols-place.result in
    let is : d ≡ get_or known c.in-Some.place d = c.index-symbols-place.is ∙ ap (λ (ks : List Symbol). get_or ks c.in-Some.place d) c.as_slice-symbols.ensures in
    let found : find known text ≡ Some d = (found_at known text c.in-Some.place at).there d ∙ ap Some (sym is) in
    let range : Option Symbol → Option (Option Range) = option_map (λ (s : Symbol). s.range) in
    sym (ap (λ (ks : List Symbol). range (find ks text)) (sym c.self.view_is) ∙ ap range found)

pub returns-in-None-clause-number : goal.returns-in-None-clause-number
returns-in-None-clause-number c = λ bit.
    let text = c.args.text.now in
    subst (λ (ks : List Symbol). length (all_names ks) ≡ place (all_names ks) (named_bit text bit)) c.self.view_is (sym (stands_nowhere c.self.inside.table text bit (sym c.in-None.ensures)))

pub returns-in-None-clause-range : goal.returns-in-None-clause-range
returns-in-None-clause-range c =
    let text = c.args.text.now in
    let range : Option Symbol → Option (Option Range) = option_map (λ (s : Symbol). s.range) in
    sym (ap (λ (ks : List Symbol). range (find ks text)) (sym c.self.view_is) ∙ ap range (not_found c.self.inside.table text (sym c.in-None.ensures)))
