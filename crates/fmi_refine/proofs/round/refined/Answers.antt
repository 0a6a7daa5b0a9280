use Rattle.std.proofs.Common.{◌<◌, ℕ, List, length, ap, subst, arith, add-one}
use Rattle.fsm_merge.specs.Numbering.{nth}
use Rattle.fmi_refine.specs.Rows.{AreSame}
use Rattle.fmi_refine.proofs.Growing.{kept_few}
use Rattle.fmi_refine.proofs.Rounds.{joined, added}
use Rattle.fmi_refine.proofs.round.refined.Goals as goal
use Rattle.fmi_refine.proofs.round.refined.Goals.{in-Some+in_ok-push-in-Some, in-None+in_ok-push-in-None+in_ok-push-in-None-2}

pub class_of-requires-clause-few : goal.class_of-requires-clause-few
class_of-requires-clause-few c =
    let few = kept_few c.loop-s.s c.loop-s.state_of.items c.loop-s.kept.items c.loop-s.invariant.numbered in
    omega (arith, few, ap length c.deref.ensures.value)

pub overflow_cast-len : goal.overflow_cast-len
overflow_cast-len c =
    let few = kept_few c.loop-s.s c.loop-s.state_of.items c.loop-s.kept.items c.loop-s.invariant.numbered in
    let low = c.loop-s-test.true in
    let size = c.len.ensures in
    let rows = c.requires.rows.few in
    grind (arith, few, low, size, rows)

pub loop-s-preserved : goal.loop-s-preserved
loop-s-preserved c =
    let rows = c.args.rows.now in
    let classes = c.args.classes.now in
    let s = c.loop-s.s in
    let of = c.loop-s.state_of.items in
    let kept = c.loop-s.kept.items in
    elim c.match-class_of.branch [
      | in-Some+in_ok-push-in-Some w ↦
          (let h = w.in-Some.ensures.some in
          rw (w.state_of-is, w.kept-is, w.in_ok-push-in-Some.ensures.items, add-one s)
          (joined rows classes s of kept w.in-Some.class c.loop-s.invariant
          (subst (λ (ks : List ℕ). w.in-Some.class < length ks) c.deref.ensures.value h.0)
          (subst (λ (ks : List ℕ). AreSame rows classes (nth ks w.in-Some.class) s) c.deref.ensures.value h.1)))
      | in-None+in_ok-push-in-None+in_ok-push-in-None-2 w ↦
          (let h = w.in-None.ensures.none in
          rw (w.state_of-is, w.kept-is, w.in_ok-push-in-None.ensures.items, w.in_ok-push-in-None-2.ensures.items, w.len.ensures, c.loop-s.kept.ok.0, add-one s)
          (added rows classes s of kept c.loop-s.invariant
          (subst (λ (ks : List ℕ). (k : ℕ) → k < length ks → AreSame rows classes (nth ks k) s → ⊥) c.deref.ensures.value h)))
    ]
