use Rattle.std.proofs.Common.{rules, arith, ◌≡◌, ℕ, ◌<◌, ◌-◌, List, [], length, get_or, Some, sym, ap, subst, ◌∙◌}
use Rattle.std.specs.List.{slice_get}
use Rattle.source_checks.specs.declared.symbol_table.Symbol.{Symbol}
use Rattle.source_checks.specs.Symbols.{all_names, symbol_names}
use Rattle.source_bits.specs.Numbering.{named_bit, starts_from, Begins}
use Rattle.source_bits.proofs.Standing.{length_starts, first_at, some_known, first_zero, nth_name, same_count}
use Rattle.source_bits.proofs.numbers.Numbers.name.Goals as goal

pub place_below-place-requires-clause-some : goal.place_below-place-requires-clause-some
place_below-place-requires-clause-some c =
    let known = c.self.inside.table in
    let within : c.args.number < length (all_names known) = subst (λ (ks : List Symbol). c.args.number < length (all_names ks)) (sym c.self.view_is) c.requires in
    let are = c.deref.ensures.value ∙ c.self.invariant.starts_are in
    omega (arith, some_known known c.args.number within, ap length are, length_starts 0 known)

pub place_below-place-requires-clause-first : goal.place_below-place-requires-clause-first
place_below-place-requires-clause-first c =
    let are = c.deref.ensures.value ∙ c.self.invariant.starts_are in
    omega (arith, ap (λ (s : List ℕ). get_or s 0 0) are, first_zero c.self.inside.table)

pub offset_bounds-symbols-place : goal.offset_bounds-symbols-place
offset_bounds-symbols-place c =
    let are = c.deref.ensures.value ∙ c.self.invariant.starts_are in
    let below : c.place_below-place.result < length c.as_slice-symbols.result.now = omega (arith, c.place_below-place.ensures.inside, ap length are, length_starts 0 c.self.inside.table, ap length c.as_slice-symbols.ensures) in
    search rules

pub bounds-symbols-place : goal.bounds-symbols-place
bounds-symbols-place c =
    let are = c.deref.ensures.value ∙ c.self.invariant.starts_are in
    omega (arith, c.place_below-place.ensures.inside, ap length are, length_starts 0 c.self.inside.table, ap length c.as_slice-symbols.ensures)

pub bit_at-bit-requires : goal.bit_at-bit-requires
bit_at-bit-requires c =
    let known = c.self.inside.table in
    let i = c.place_below-place.result in
    let d = c.index-symbols-place.result in
    let within : c.args.number < length (all_names known) = subst (λ (ks : List Symbol). c.args.number < length (all_names ks)) (sym c.self.view_is) c.requires in
    let are = c.deref.ensures.value ∙ c.self.invariant.starts_are in
    let begins : Begins (starts_from 0 known) c.args.number i = subst (λ (s : List ℕ). Begins s c.args.number i) are c.place_below-place.ensures in
    let is : d ≡ get_or known i d = c.index-symbols-place.is ∙ ap (λ (ks : List Symbol). get_or ks i d) c.as_slice-symbols.ensures in
    let inside : i < length known = omega (arith, begins.inside, length_starts 0 known) in
    let first = first_at c.self.inside.starts.items known i c.index-first.result.now c.self.invariant.starts_are inside c.index-first.ensures in
    let nth = nth_name known 0 c.args.number i d begins (omega arith) is in
    omega (arith, first, nth.inside, same_count [] d.text d.range)

pub returns : goal.returns
returns c =
    let known = c.self.inside.table in
    let i = c.place_below-place.result in
    let d = c.index-symbols-place.result in
    let within : c.args.number < length (all_names known) = subst (λ (ks : List Symbol). c.args.number < length (all_names ks)) (sym c.self.view_is) c.requires in
    let are = c.deref.ensures.value ∙ c.self.invariant.starts_are in
    let begins : Begins (starts_from 0 known) c.args.number i = subst (λ (s : List ℕ). Begins s c.args.number i) are c.place_below-place.ensures in
    let is : d ≡ get_or known i d = c.index-symbols-place.is ∙ ap (λ (ks : List Symbol). get_or ks i d) c.as_slice-symbols.ensures in
    let inside : i < length known = omega (arith, begins.inside, length_starts 0 known) in
    let first = first_at c.self.inside.starts.items known i c.index-first.result.now c.self.invariant.starts_are inside c.index-first.ensures in
    let nth = nth_name known 0 c.args.number i d begins (omega arith) is in
    let same : c.args.number - 0 ≡ c.args.number = omega arith in
    ap (λ (ks : List Symbol). slice_get (all_names ks) c.args.number) (sym c.self.view_is)
    ∙ ap (slice_get (all_names known)) (sym same) ∙ nth.there_is
    ∙ ap (λ k. slice_get (symbol_names d) (c.args.number - k)) (sym first)
    ∙ c.bit_at-bit.ensures d.text
    ∙ ap (λ (t : List ℕ). Some (named_bit t c.bit_at-bit.result)) (sym c.in_ok-text.ensures)
