use Rattle.std.proofs.Common.{◌≡◌, ◌∙◌, ◌<◌, ℕ, length, get_or, sym, IsTrue, arith, rules}
use Rattle.sym_shapes.specs.Shape.{Shape}
use Rattle.sym_shapes.specs.Joined.{Linked, touching}
use Rattle.sym_groups.specs.Ties.{JoinsTies, Tied}
use Rattle.sym_shapes.specs.Joints.{AddsLink, LinksLead, Grows}
use Rattle.sym_shapes.specs.Sweep.{Touch, CoversRun}
use Rattle.sym_shapes.proofs.Joins.{grows_by, grows_none, grows_then}
use Rattle.sym_shapes.proofs.Sweeps.{none, touch_at, run_next, run_whole}
use Rattle.sym_shapes.proofs.sweep.join_run.Goals as goal
use Rattle.sym_shapes.proofs.sweep.join_run.Goals.{then-touching+in_ok-link, else-touching}

pub loop-q-preserved : goal.loop-q-preserved
loop-q-preserved c =
    let shapes = c.args.shapes.now in
    let entries = c.args.entries.now in
    let p = c.args.p in
    let q = c.loop-q.q in
    let hq : q < length entries = omega (arith, c.loop-q-test.true, c.run_end-end.ensures.within) in
    let i : ℕ = (get_or entries p none).place in
    let j : ℕ = (get_or entries q none).place in
    let hi : i < length shapes = c.requires.places p none c.requires.p_within in
    let hj : j < length shapes = c.requires.places q none hq in
    let meets = touch_at shapes i j c.index-shapes-first.result c.index-shapes-second.result hi hj c.index-shapes-first.is c.index-shapes-second.is in
    let inv = c.loop-q.invariant in
    elim c.if-touching.branch [
      | then-touching+in_ok-link w ↦
          let joins : JoinsTies c.loop-q.forest.groups c.if-touching.forest.groups i j = rw w.forest-is w.in_ok-link.ensures.joins in
          let adds : AddsLink c.loop-q.forest.links.items c.if-touching.forest.links.items i j = rw w.forest-is w.in_ok-link.ensures.adds in
          let leads : LinksLead c.loop-q.forest → LinksLead c.if-touching.forest = rw w.forest-is w.in_ok-link.ensures.leads in
          let told : Touch c.index-shapes-first.result c.index-shapes-second.result = c.touching.ensures.0 (search (rules, w.if-touching.true)) in
          let truly : (d : Shape) → Linked (get_or shapes i d) (get_or shapes j d) = λ d. let t = (meets d).0 told in touching t.0 t.1 in
          let grows : Grows shapes c.loop-q.forest c.if-touching.forest = grows_by shapes c.loop-q.forest c.if-touching.forest i j hi hj truly joins adds leads in
          record {
            count = sym grows.many ∙ inv.count;
            grows = grows_then inv.grows grows;
            run = run_next shapes entries c.loop-q.forest c.if-touching.forest p q c.requires.p_within hq grows inv.run (λ d t. joins.added);
          }
      | else-touching w ↦
          let grows : Grows shapes c.loop-q.forest c.if-touching.forest = rw w.forest-is (grows_none shapes c.loop-q.forest) in
          let not_so : IsTrue c.touching.result → Tied c.if-touching.forest.groups i j = λ h. absurd (search (rules, w.if-touching.false, h)) in
          record {
            count = sym grows.many ∙ inv.count;
            grows = grows_then inv.grows grows;
            run = run_next shapes entries c.loop-q.forest c.if-touching.forest p q c.requires.p_within hq grows inv.run (λ d t. not_so (c.touching.ensures.1 ((meets d).1 t)));
          }
    ]

pub returns-clause-covers : goal.returns-clause-covers
returns-clause-covers c =
    let shapes = c.args.shapes.now in
    let entries = c.args.entries.now in
    let p = c.args.p in
    let i : ℕ = (get_or entries p none).place in
    let hi : i < length shapes = c.requires.places p none c.requires.p_within in
    let e : c.loop-q.q ≡ c.run_end-end.result = omega (arith, c.loop-q-test.false, c.loop-q.auto.q-end, c.run_end-end.ensures.after) in
    let run : CoversRun shapes entries c.loop-q.forest.groups p c.run_end-end.result = rw e at c.loop-q.invariant.run in
    run_whole shapes entries c.loop-q.forest.groups p c.run_end-end.result run c.run_end-end.ensures.after (λ e. c.run_end-end.ensures.last e)
