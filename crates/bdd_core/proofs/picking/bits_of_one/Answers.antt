use Rattle.std.proofs.Common.{ℕ, ◌+◌, ◌<◌, subst, sym, arith}
use Rattle.bdd_core.proofs.OnTheWay.{IsOnTheWay, turn_low, turn_high, ended}
use Rattle.bdd_core.proofs.picking.bits_of_one.Goals.{then-bit, else-bit}
use Rattle.bdd_core.proofs.picking.bits_of_one.Goals as goal

pub loop-variable-preserved : goal.loop-variable-preserved
loop-variable-preserved c =
    let d = c.args.table.now in
    let v = c.loop-variable.variable in
    let h = c.halves-low.ensures in
    let less : v < d.vars = omega (arith, c.loop-variable-test.true, c.vars-variable-end.ensures) in
    let P : ℕ → Type 0 = λ at. IsOnTheWay d c.args.start at (v + 1) c.push.new.self.items in
    elim c.if-bit.branch [
      | then-bit w ↦ subst P (sym w.at-is)
          (turn_high d c.args.start c.loop-variable.at v c.halves-low.result.0 c.halves-low.result.1 c.constant-zero.result c.loop-variable.bits.items c.push.new.self.items
          c.requires.whole c.loop-variable.invariant less c.constant-zero.ensures.place c.constant-zero.ensures.within h.low h.high h.joined c.in_ok-push.ensures.items w.if-bit.true)
      | else-bit w ↦ subst P (sym w.at-is)
          (turn_low d c.args.start c.loop-variable.at v c.halves-low.result.0 c.halves-low.result.1 c.constant-zero.result c.loop-variable.bits.items c.push.new.self.items
          c.requires.whole c.loop-variable.invariant less c.constant-zero.ensures.place c.constant-zero.ensures.within h.low h.high h.joined c.in_ok-push.ensures.items w.if-bit.false)
    ]

pub returns-clause-one : goal.returns-clause-one
returns-clause-one c =
    ended c.args.table.now c.args.start c.loop-variable.at c.loop-variable.variable c.loop-variable.bits.items c.loop-variable.invariant
    (omega (arith, c.loop-variable-test.false, c.loop-variable.auto.variable-end, c.vars-variable-end.ensures))
