use Rattle.std.proofs.Common.{refl}
use Rattle.cell_checks.proofs.Loops.{differ, differs}
use Rattle.cell_checks.proofs.Numbers.{none_apart, none_apart_right, apart_numbers, numbers_apart}
use Rattle.cell_checks.proofs.joined.have_apart.Goals as goal

pub returns-in_default : goal.returns-in_default
returns-in_default c = (λ h. none_apart c.args.shapes.now c.args.one.now c.args.other.now c.in_default.ensures.none, λ a. refl)

pub returns-in_default-number_of : goal.returns-in_default-number_of
returns-in_default-number_of c =
    (λ h. none_apart_right c.args.shapes.now c.args.one.now c.args.other.now c.in_default-number_of.ensures.none, λ a. refl)

pub returns : goal.returns
returns c = (
  λ h. apart_numbers c.args.shapes.now c.args.numbers.now c.requires c.args.one.now c.args.other.now c.in-Some.first c.in-Some-number_of.second
      c.in-Some.ensures.number c.in-Some-number_of.ensures.number (differ c.in-Some.first c.in-Some-number_of.second h),
  λ a. differs c.in-Some.first c.in-Some-number_of.second
      (numbers_apart c.args.shapes.now c.args.numbers.now c.requires c.args.one.now c.args.other.now c.in-Some.first c.in-Some-number_of.second
      c.in-Some.ensures.number c.in-Some-number_of.ensures.number a),
)
