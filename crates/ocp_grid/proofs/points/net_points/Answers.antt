use Rattle.std.proofs.Common.{◌≡◌, refl, ℕ, ◌<◌, ◌++◌, ◌∷◌, [], length, sym, ap, subst, arith}
use Rattle.std.specs.Prelude.{Some, slice_get}
use Rattle.std.proofs.lemmas.List.{length-append}
use Rattle.std.proofs.lemmas.Option.{slice_get_read}
use Rattle.net_meaning.specs.Netlist.{AbstractNetlist}
use Rattle.net_right.specs.View.{IsSeenAs}
use Rattle.ocp_grid.specs.Points.{IsNetOf}
use Rattle.ocp_grid.proofs.Nets.{AreNetsOf, ends_on, net_is, one_more, all_nets}
use Rattle.ocp_grid.proofs.points.net_points.Goals as goal

pub points_of-requires-clause-grid : goal.points_of-requires-clause-grid
points_of-requires-clause-grid c =
    let classes = c.in_ok-classes.classes.items in
    let k = c.loop-k.k in
    let class = c.index.result.now in
    let at : slice_get classes k ≡ Some class = slice_get_read classes (length classes) k class refl (omega arith) c.index.ensures in
    let low : class < length c.args.placement.now.ends =
    subst (λ (x : ℕ). x < length c.args.placement.now.ends) (sym c.index.ensures) (c.in_ok-classes.ensures.inside k class (omega arith)) in
    ends_on c.args.library.now c.args.netlist.now c.args.placement.now c.requires.placed c.requires.columns classes c.in_ok-classes.ensures.classes k class at low
    c.ends.result.now c.ends.ensures.points

pub loop-k-preserved : goal.loop-k-preserved
loop-k-preserved c =
    let l = c.args.library.now in
    let n = c.args.netlist.now in
    let p = c.args.placement.now in
    let nets = c.loop-k.nets.items in
    let classes = c.in_ok-classes.classes.items in
    let k = c.loop-k.k in
    let class = c.index.result.now in
    let q = c.in_ok-points.points in
    let at : slice_get classes k ≡ Some class = slice_get_read classes (length classes) k class refl (omega arith) c.index.ensures in
    let low : class < length p.ends = subst (λ (x : ℕ). x < length p.ends) (sym c.index.ensures) (c.in_ok-classes.ensures.inside k class (omega arith)) in
    let more : c.push.new.self.items ≡ nets ++ q ∷ [] = c.in_ok-push.ensures.items in
    let place : k ≡ length nets = sym c.loop-k.invariant.many in
    let last : (v : AbstractNetlist) → IsSeenAs n v → IsNetOf v l p k q =
    net_is l n p c.requires.placed c.requires.columns classes c.in_ok-classes.ensures.classes k class at low _ c.ends.ensures.points (length c.ports-ports.result.now) (ap length c.ports-ports.ensures.ports)
    q c.in_ok-points.ensures.port c.in_ok-points.ensures.terminals in
    record {
      many = let a = ap length more in let b = length-append nets (q ∷ []) in let d = c.loop-k.invariant.many in omega (arith, a, b, d);
      each = subst (AreNetsOf l n p) (sym more) (one_more l n p nets q c.loop-k.invariant.each (λ v seen. subst (λ (j : ℕ). IsNetOf v l p j q) place (last v seen)));
    }

pub returns : goal.returns
returns c =
    all_nets c.args.library.now c.args.netlist.now c.args.placement.now c.requires.placed c.requires.columns c.in_ok-classes.classes.items c.in_ok-classes.ensures.classes
    c.loop-k.nets.items (omega arith) c.loop-k.invariant.each
