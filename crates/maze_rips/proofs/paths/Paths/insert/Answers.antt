use Rattle.std.proofs.Common.{◌<◌, List, length, arith, sym, subst}
use Rattle.std.proofs.lemmas.List.{length-map}
use Rattle.std.proofs.lemmas.Result.{on_ok_weaker}
use Rattle.grid_core.specs.declared.grid.Node.{Node as AnyNode}
use Rattle.maze_rips.specs.Paths.{paths_under}
use Rattle.maze_rips.proofs.Keyed.{inserted_keys, inserted_paths}
use Rattle.maze_rips.proofs.paths.Paths.insert.Goals as goal

pub invariant_of-self : goal.invariant_of-self
invariant_of-self c =
    let keys = c.self.inside.keys.items in
    let k = c.keep.ensures in
    let few = subst (λ (p : List (List (List AnyNode))). c.args.net < length p) (sym c.self.view_is) c.requires in
    let lt : c.args.net < length keys = omega (arith, few, length-map keys (paths_under c.self.inside.kept)) in
    inserted_keys keys c.args.net c.index_mut.result.now c.keep.new.keys lt c.index_mut.ensures.value c.self.inside.kept c.keep.new.kept c.self.invariant
    c.keep.result c.args.path k.kept k.same k.same_keys

pub returns : goal.returns
returns c =
    let keys = c.self.inside.keys.items in
    let few = subst (λ (p : List (List (List AnyNode))). c.args.net < length p) (sym c.self.view_is) c.requires in
    let lt : c.args.net < length keys = omega (arith, few, length-map keys (paths_under c.self.inside.kept)) in
    rw (← c.self.view_is) (on_ok_weaker c.keep.result
    (inserted_paths keys c.args.net c.index_mut.result.now c.keep.new.keys lt c.index_mut.ensures.value c.self.inside.kept c.keep.new.kept c.self.invariant c.args.path) c.keep.ensures.kept)
