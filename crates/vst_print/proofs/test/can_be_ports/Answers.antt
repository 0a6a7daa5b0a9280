use Rattle.std.proofs.Common.{◌∙◌, refl, sym, subst, arith}
use Rattle.vlsi_base.specs.declared.name.Port.{Port}
use Rattle.net_right.specs.Writable.{IsIdentifier}
use Rattle.vst_print.proofs.Tested.{tested_more, tested_all, goes_here, some_ports, none_can_be}
use Rattle.vst_print.proofs.test.can_be_ports.Goals.{else-k-gt0-via-then-k-gt0+else-not-can_follow, else-k-gt0-via-else-k-gt0}
use Rattle.vst_print.proofs.test.can_be_ports.Goals as goal

pub returns-then-is_empty : goal.returns-then-is_empty
returns-then-is_empty c = (λ no. absurd cc, λ w. absurd (none_can_be c.args.ports.now (sym c.is_empty.ensures ∙ c.if-is_empty.true) w))

pub loop-k-preserved : goal.loop-k-preserved
loop-k-preserved c =
    let ports = c.args.ports.now in
    let k = c.loop-k.k in
    let p = c.index-ports-k.result in
    let less = c.loop-k-test.true in
    let word : IsIdentifier p.name.text = subst (λ (x : Port). IsIdentifier x.name.text) (sym c.index-ports-k.is) (c.is_identifier.ensures.0 c.if-not-is_identifier.false) in
    elim c.else-k-gt0.branch [
      | else-k-gt0-via-then-k-gt0+else-not-can_follow w ↦ tested_more ports k p less c.index-ports-k.is word
          (goes_here ports k p w.index-ports-k-then-k-gt0.result w.index-ports-k-then-k-gt0-2.result less c.index-ports-k.is w.index-ports-k-then-k-gt0.is w.index-ports-k-then-k-gt0-2.is (w.can_follow.ensures.0 w.if-not-can_follow.false))
          c.loop-k.invariant
      | else-k-gt0-via-else-k-gt0 w ↦ tested_more ports k p less c.index-ports-k.is word (λ b some at. absurd (omega (arith, some, w.if-k-gt0.false))) c.loop-k.invariant
    ]

pub returns : goal.returns
returns c = (
  λ yes. tested_all c.args.ports.now c.loop-k.k (omega (arith, c.loop-k-test.false)) (some_ports c.args.ports.now (sym c.is_empty.ensures ∙ c.if-is_empty.false)) c.loop-k.invariant,
  λ w. refl,
)
