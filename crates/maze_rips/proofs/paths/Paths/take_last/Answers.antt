use Rattle.std.proofs.Common.{ℕ, ◌<◌, List, length, arith, sym, subst, ap, ◌∙◌}
use Rattle.std.specs.Prelude.{slice_get}
use Rattle.std.proofs.lemmas.List.{length-map}
use Rattle.std.proofs.lemmas.Option.{IfSome_then}
use Rattle.grid_core.specs.declared.grid.Node.{Node as AnyNode}
use Rattle.maze_rips.specs.Paths.{paths_under}
use Rattle.maze_rips.proofs.Keyed.{keys_read, taken_keys, taken_paths, none_before, none_taken, by_none, by_three}
use Rattle.maze_rips.proofs.paths.Paths.take_last.Goals as goal

pub give_last-requires : goal.give_last-requires
give_last-requires c =
    let keys = c.self.inside.keys.items in
    let few = subst (λ (p : List (List (List AnyNode))). c.args.net < length p) (sym c.self.view_is) c.requires in
    let lt : c.args.net < length keys = omega (arith, few, length-map keys (paths_under c.self.inside.kept)) in
    let read = keys_read keys c.args.net c.index_mut.result.now lt c.index_mut.ensures.value in
    record { lead = λ at key e. c.self.invariant.lead c.args.net at key (ap (λ (xs : List ℕ). slice_get xs at) read ∙ e) }

pub invariant_of-self : goal.invariant_of-self
invariant_of-self c =
    let keys = c.self.inside.keys.items in
    let g = c.give_last.ensures in
    let few = subst (λ (p : List (List (List AnyNode))). c.args.net < length p) (sym c.self.view_is) c.requires in
    let lt : c.args.net < length keys = omega (arith, few, length-map keys (paths_under c.self.inside.kept)) in
    taken_keys keys c.args.net c.index_mut.result.now c.give_last.new.keys lt c.index_mut.ensures.value c.self.inside.kept c.give_last.new.kept c.self.invariant
    c.give_last.result g.given g.none g.same g.same_keys

pub returns-clause-taken : goal.returns-clause-taken
returns-clause-taken c =
    let keys = c.self.inside.keys.items in
    let few = subst (λ (p : List (List (List AnyNode))). c.args.net < length p) (sym c.self.view_is) c.requires in
    let lt : c.args.net < length keys = omega (arith, few, length-map keys (paths_under c.self.inside.kept)) in
    rw (← c.self.view_is) (IfSome_then c.give_last.result c.give_last.ensures.given
    (taken_paths keys c.args.net c.index_mut.result.now c.give_last.new.keys lt c.index_mut.ensures.value c.self.inside.kept c.give_last.new.kept c.self.invariant))

pub returns-clause-none : goal.returns-clause-none
returns-clause-none c =
    let keys = c.self.inside.keys.items in
    let few = subst (λ (p : List (List (List AnyNode))). c.args.net < length p) (sym c.self.view_is) c.requires in
    let lt : c.args.net < length keys = omega (arith, few, length-map keys (paths_under c.self.inside.kept)) in
    rw (← c.self.view_is) (by_none c.give_last.result
    (none_before keys c.args.net c.index_mut.result.now c.give_last.new.keys lt c.index_mut.ensures.value c.self.inside.kept c.give_last.new.kept c.self.invariant) c.give_last.ensures.none)

pub returns-clause-same : goal.returns-clause-same
returns-clause-same c =
    let keys = c.self.inside.keys.items in
    let g = c.give_last.ensures in
    let few = subst (λ (p : List (List (List AnyNode))). c.args.net < length p) (sym c.self.view_is) c.requires in
    let lt : c.args.net < length keys = omega (arith, few, length-map keys (paths_under c.self.inside.kept)) in
    rw (← c.self.view_is) (by_three c.give_last.result
    (none_taken keys c.args.net c.index_mut.result.now c.give_last.new.keys lt c.index_mut.ensures.value c.self.inside.kept c.give_last.new.kept c.self.invariant) g.none g.same g.same_keys)
