use Rattle.std.proofs.Common.{◌≡◌, ◌<◌, ◌∷◌, [], length, arith, refl}
use Rattle.grid_core.specs.Numbers.{node_of}
use Rattle.nero_maze.proofs.Theory.{read_at}
use Rattle.nero_maze.proofs.Telling.{walk_first, walk_goes, walk_on, walk_ends, walk_last, none_some}
use Rattle.nero_maze.proofs.history.path_from.Goals as goal
use Rattle.nero_maze.proofs.history.path_from.Goals.{in-Some-step+in_ok-push-3, in_default-step}

pub loop-on-init : goal.loop-on-init
loop-on-init c =
    let g = c.args.room.now.grid in
    let path : c.push.new.self.items ≡ node_of g c.args.end ∷ [] = rw (c.in_ok-push.ensures.items, c.new-path.ensures.items, c.node_at.ensures.node) refl in
    walk_first g c.args.room.now.links.items c.args.end c.push.new.self.items c.requires.end c.requires.told path

pub overflow_sub-index : goal.overflow_sub-index
overflow_sub-index c =
    let g = c.args.room.now.grid in
    let l = c.args.room.now.links.items in
    let inv = c.loop-on.invariant in
    let lt : c.loop-on.node < length l = (let a = inv.within in let e = c.requires.room.links in omega arith) in
    let tested = read_at l c.loop-on.node c.index.result.now lt c.index.ensures in
    let word = read_at l c.loop-on.node c.index-in-loop-on.result.now lt c.index-in-loop-on.ensures in
    let low = c.loop-on-test.true in
    (walk_goes g l _ c.loop-on.path.items c.loop-on.node c.index-in-loop-on.result.now word (omega arith) inv).0

pub returns-in_default : goal.returns-in_default
returns-in_default c =
    let g = c.args.room.now.grid in
    let l = c.args.room.now.links.items in
    let inv = c.loop-on.invariant in
    let lt : c.loop-on.node < length l = (let a = inv.within in let e = c.requires.room.links in omega arith) in
    let tested = read_at l c.loop-on.node c.index.result.now lt c.index.ensures in
    let word = read_at l c.loop-on.node c.index-in-loop-on.result.now lt c.index-in-loop-on.ensures in
    let low = c.loop-on-test.true in
    let goes = walk_goes g l _ c.loop-on.path.items c.loop-on.node c.index-in-loop-on.result.now word (omega arith) inv in
    absurd (none_some c.step.result _ goes.1.0 c.step.ensures.is goes.1.1 c.in_default.is)

pub loop-on-preserved : goal.loop-on-preserved
loop-on-preserved c =
    let g = c.args.room.now.grid in
    let l = c.args.room.now.links.items in
    let inv = c.loop-on.invariant in
    let lt : c.loop-on.node < length l = (let a = inv.within in let e = c.requires.room.links in omega arith) in
    let tested = read_at l c.loop-on.node c.index.result.now lt c.index.ensures in
    let word = read_at l c.loop-on.node c.index-in-loop-on.result.now lt c.index-in-loop-on.ensures in
    let low = c.loop-on-test.true in
    walk_on g l _ c.loop-on.path.items c.push-in-loop-on.new.self.items c.loop-on.node c.in-Some.on c.index-in-loop-on.result.now c.step.result word (omega arith) inv
    c.step.ensures.is c.in-Some.is c.in-Some.ensures.within (rw (c.in_ok-push-2.ensures.items, c.node_at-in-loop-on.ensures.node) refl)

pub step-requires-2-clause-way : goal.step-requires-2-clause-way
step-requires-2-clause-way c =
    let g = c.args.room.now.grid in
    let l = c.args.room.now.links.items in
    let inv = c.loop-on.invariant in
    let lt : c.loop-on.node < length l = (let a = inv.within in let e = c.requires.room.links in omega arith) in
    let tested = read_at l c.loop-on.node c.index.result.now lt c.index.ensures in
    let word = read_at l c.loop-on.node c.index-2.result.now lt c.index-2.ensures in
    let high = c.loop-on-test.false in
    let ends = walk_ends g l _ c.loop-on.path.items c.loop-on.node c.index-2.result.now word (omega arith) inv in
    let few = ends.0 in
    omega arith

pub returns : goal.returns
returns c =
    let g = c.args.room.now.grid in
    let l = c.args.room.now.links.items in
    let inv = c.loop-on.invariant in
    let lt : c.loop-on.node < length l = (let a = inv.within in let e = c.requires.room.links in omega arith) in
    let tested = read_at l c.loop-on.node c.index.result.now lt c.index.ensures in
    let word = read_at l c.loop-on.node c.index-2.result.now lt c.index-2.ensures in
    let high = c.loop-on-test.false in
    elim c.match-step-2.branch [
      | in-Some-step+in_ok-push-3 w ↦ rw w.path-is (walk_last g l _ c.loop-on.path.items w.push-in-Some-step.new.self.items c.loop-on.node w.in-Some-step.last c.index-2.result.now c.step-2.result
          word (omega arith) inv c.step-2.ensures.is w.in-Some-step.is (rw (w.in_ok-push-3.ensures.items, w.node_at-in-Some-step.ensures.node) refl))
      | in_default-step w ↦ (
          let ends = walk_ends g l _ c.loop-on.path.items c.loop-on.node c.index-2.result.now word (omega arith) inv in
          absurd (none_some c.step-2.result _ ends.1.0 c.step-2.ensures.is ends.1.1 w.in_default-step.is))
    ]
