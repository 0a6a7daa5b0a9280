use Rattle.std.proofs.Common.{◌≡◌, ◌+◌, ◌<◌, ◌∙◌, List, Option, ℕ, true, false, ap, length, get_or, refl, sym, subst, arith}
use Rattle.std.specs.Global.{Vec}
use Rattle.std.proofs.lemmas.Option.{slice_get-get_or, slice_get_read}
use Rattle.vlsi_base.specs.declared.name.Port.{Port}
use Rattle.net_core.specs.Places.{Stands}
use Rattle.delay_sta.specs.Graph.{IsStartPort}
use Rattle.delay_sta.proofs.Edges.{StartedSoFar, class_low, ports_few, started_then, started_else, started_all}
use Rattle.delay_sta.proofs.analysis.starts.Goals.{then-is_start, else-is_start}
use Rattle.delay_sta.proofs.analysis.starts.Goals as goal

pub index_mut-requires : goal.index_mut-requires
index_mut-requires c =
    let e = ap length c.ports-ports.ensures in
    let t = c.loop-k-test.true in
    let l = class_low c.args.netlist.now c.classes-classes.ensures.sound c.loop-k.k (omega (arith, e, t)) in
    let m = c.loop-k.invariant.many in
    let same = ap (λ (xs : List ℕ). get_or xs c.loop-k.k 0) c.classes-classes.ensures.classes in
    omega (arith, l, m, same)

pub loop-k-preserved : goal.loop-k-preserved
loop-k-preserved c =
    let s : Stands c.args.netlist.now.ports c.loop-k.k c.index-ports-k.result =
    subst (λ (ps : List Port). Stands ps c.loop-k.k c.index-ports-k.result) c.ports-ports.ensures
    (slice_get_read c.ports-ports.result.now (length c.ports-ports.result.now) c.loop-k.k c.index-ports-k.result refl c.loop-k-test.true c.index-ports-k.is) in
    elim c.if-is_start.branch [
      | then-is_start w ↦
          let e = ap length c.ports-ports.ensures in
          let f = ap length c.classes-classes.ensures.classes in
          let few = ports_few c.args.netlist.now c.classes-classes.ensures.sound in
          let t = c.loop-k-test.true in
          let low : c.loop-k.k < length c.classes-classes.result.now = omega (arith, e, f, few, t) in
          let j : Stands c.args.netlist.now.classes c.loop-k.k (get_or c.classes-classes.result.now c.loop-k.k 0) =
          subst (λ (cs : List ℕ). Stands cs c.loop-k.k (get_or c.classes-classes.result.now c.loop-k.k 0)) c.classes-classes.ensures.classes
          (slice_get-get_or c.classes-classes.result.now c.loop-k.k 0 low) in
          let h : IsStartPort c.index-ports-k.result = c.is_start.ensures.0 w.if-is_start.true in
          subst (λ (v : Vec (Option ℕ)). StartedSoFar c.args.netlist.now v.items (c.loop-k.k + 1)) (sym w.arrivals-is)
          (started_then c.args.netlist.now c.classes-classes.ensures.sound c.loop-k.arrivals.items c.loop-k.k c.index-ports-k.result (get_or c.classes-classes.result.now c.loop-k.k 0)
          c.loop-k.invariant s j h)
      | else-is_start w ↦
          subst (λ (v : Vec (Option ℕ)). StartedSoFar c.args.netlist.now v.items (c.loop-k.k + 1)) (sym w.arrivals-is)
          (started_else c.args.netlist.now c.loop-k.arrivals.items c.loop-k.k c.index-ports-k.result c.loop-k.invariant s
          (λ h. let no : true ≡ false = sym (c.is_start.ensures.1 h) ∙ w.if-is_start.false in absurd cc))
    ]

pub returns : goal.returns
returns c =
    let e = ap length c.ports-ports.ensures in
    let t = c.loop-k-test.false in
    started_all c.args.netlist.now c.classes-classes.ensures.sound c.loop-k.arrivals.items c.loop-k.k (omega (arith, e, t)) c.loop-k.invariant
