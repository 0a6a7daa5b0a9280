use Rattle.std.proofs.Common.{◌≡◌, ◌+◌, ◌-◌, Bool, true, false, length, refl, sym, ◌∙◌, subst, arith, rules}
use Rattle.std.specs.Prelude.{slice_set}
use mathlib.Core.Bool.{beq}
use Rattle.bool_expr.specs.View.{view}
use Rattle.loon_buffer.specs.Drives.{HaveSameValues}
use Rattle.loon_buffer.proofs.Vectors.{known_same, known_here, less_known, both_known}
use Rattle.loon_buffer.proofs.drive.+same_values.Goals as goal

same_bit : (a b : Bool) → beq a b ≡ true → a ≡ b
same_bit true true h = refl
same_bit false false h = refl
same_bit true false h = absurd cc
same_bit false true h = absurd cc

bit_same : (a b : Bool) → a ≡ b → beq a b ≡ true
bit_same true true h = refl
bit_same false false h = refl
bit_same true false h = absurd cc
bit_same false true h = absurd cc

pub returns-then-known-eq0 : goal.returns-then-known-eq0
returns-then-known-eq0 t c =
    let e = view c.args.e.now in
    let x = view c.args.x.now in
    let zero : c.args.known ≡ 0 = c.if-known-eq0.true in (
      (λ h. subst (λ m. HaveSameValues (view c.args.e.now) (view c.args.x.now) c.args.bits m) (sym zero)
          (known_same (view c.args.e.now) (view c.args.x.now) c.requires.one c.requires.other c.args.bits
          (sym c.value_at.ensures ∙ same_bit c.value_at.result c.value_at-then-known-eq0.result h ∙ c.value_at-then-known-eq0.ensures))),
      (λ h. bit_same c.value_at.result c.value_at-then-known-eq0.result
          (c.value_at.ensures ∙ known_here (view c.args.e.now) (view c.args.x.now) c.args.bits c.args.known h ∙ sym c.value_at-then-known-eq0.ensures)),
    )

pub returns : goal.returns
returns t c =
    let many : length c.args.bits ≡ 6 = search rules in
    let apart = c.if-known-eq0.false in
    let is : c.args.known ≡ (c.args.known - 1) + 1 = omega arith in
    let low : HaveSameValues (view c.args.e.now) (view c.args.x.now) (slice_set c.args.bits (c.args.known - 1) false) (c.args.known - 1) = c.if-not-same_values.ensures.0 refl in (
      (λ h. both_known (view c.args.e.now) (view c.args.x.now) c.args.bits c.args.known (c.args.known - 1) is c.requires.within many low (c.same_values-2.ensures.0 h)),
      (λ h. c.same_values-2.ensures.1 (less_known (view c.args.e.now) (view c.args.x.now) c.args.bits c.args.known (c.args.known - 1) is c.requires.within many true h)),
    )
