use Rattle.std.proofs.Common.{◌≡◌, ◌+◌, ◌*◌, ◌≤◌, Bool, true, false, nat_eq, if◌then◌else◌, ◌++◌, ◌∷◌, [], ℕ, List, ap, ◌∙◌, arith}
use Rattle.scan_checks.proofs.Taken.{start_names, more_names, end_names}
use Rattle.scan_checks.proofs.names.push_gate_names.Goals as goal

pub loop-number-init : goal.loop-number-init
loop-number-init c = start_names c.args.names.now.items c.first_number-first.result

pub loop-number-preserved : goal.loop-number-preserved
loop-number-preserved c =
    more_names c.args.names.now.items c.loop-number.names.items c.push.new.self.items c.first_number-first.result c.loop-number.number c.loop-number.auto.number c.loop-number.invariant
    (c.in_ok-push.ensures.items ∙ ap (λ (t : List ℕ). c.loop-number.names.items ++ t ∷ []) c.in_ok-gate_name.ensures)

pub returns : goal.returns
returns c =
    let first = c.first_number-first.ensures in
    let inside : c.first_number-first.result ≤ 3 * c.args.many + 3 = few (nat_eq c.args.many 0) c.first_number-first.result c.args.many first in
    let end = c.loop-number.auto.number-end inside in
    let over = c.loop-number-test.false in
    end_names c.args.names.now.items c.loop-number.names.items c.args.many c.first_number-first.result c.loop-number.number first (omega (arith, end, over)) c.loop-number.auto.number c.loop-number.invariant where
      few : (b : Bool) (first many : ℕ) → first ≡ (if b then 1 else 0) → first ≤ 3 * many + 3
      few true first many is = omega (arith, is)
      few false first many is = omega (arith, is)
