use Rattle.std.proofs.Common.{ℕ, ◌≡◌, ◌+◌, ◌-◌, ◌<◌, ◌≤◌, slice_index, set, Some, inl, inr, arith, sym, ◌∙◌, ap, refl, subst}
use Rattle.std.specs.Vec.{with_item}
use Rattle.grid_core.specs.declared.grid.Grid.{Grid}
use Rattle.grid_core.specs.Numbers.{nodes}
use Rattle.nero_maze.specs.declared.frontier.Room.{Room}
use Rattle.nero_maze.specs.Ways.{weight, next, opposite}
use Rattle.nero_maze.proofs.Theory.{weight_least}
use Rattle.nero_maze.proofs.Claiming.{Walk, turn, walk_begin, walk_on, walk_end}
use Rattle.nero_maze.proofs.Holding.{holds_more}
use Rattle.nero_maze.proofs.claim.claim.Goals as goal

pub loop-node-init : goal.loop-node-init
loop-node-init c =
    record {
      walk = walk_begin c.args.net c.args.target c.args.room.now c.args.marks.now c.args.meeting.node c.args.meeting.cost c.requires.room c.requires.met c.requires.own c.requires.trace c.requires.least;
      holds = c.requires.holds;
    }

pub overflow_sub-way : goal.overflow_sub-way
overflow_sub-way c =
    let t = turn c.args.net c.args.target c.args.meeting.cost c.args.room.now c.loop-node.room c.args.marks.now c.loop-node.node c.loop-node.left c.loop-node.joining c.loop-node.invariant.walk c.loop-node-test.true in
    let m = t.0.mark in omega arith

pub opposite_of-requires : goal.opposite_of-requires
opposite_of-requires c =
    let t = turn c.args.net c.args.target c.args.meeting.cost c.args.room.now c.loop-node.room c.args.marks.now c.loop-node.node c.loop-node.left c.loop-node.joining c.loop-node.invariant.walk c.loop-node-test.true in
    let m = t.0.mark in let f = t.0.few in omega arith

pub weight_of-left-requires : goal.weight_of-left-requires
weight_of-left-requires c =
    let t = turn c.args.net c.args.target c.args.meeting.cost c.args.room.now c.loop-node.room c.args.marks.now c.loop-node.node c.loop-node.left c.loop-node.joining c.loop-node.invariant.walk c.loop-node-test.true in
    let m = t.0.mark in let f = t.0.few in omega arith

pub returns-in_default-clause-claimed : goal.returns-in_default-clause-claimed
returns-in_default-clause-claimed c =
    let t = turn c.args.net c.args.target c.args.meeting.cost c.args.room.now c.loop-node.room c.args.marks.now c.loop-node.node c.loop-node.left c.loop-node.joining c.loop-node.invariant.walk c.loop-node-test.true in
    let m = t.0.mark in
    let same : slice_index c.args.marks.now c.loop-node.node - 1 ≡ t.0.way = omega arith in
    let g = c.loop-node.invariant.walk.grid in
    let e : c.step.result ≡ Some t.0.on = c.step.ensures.is ∙ (ap (λ (w : ℕ). next c.loop-node.room.grid c.loop-node.node w) (c.opposite_of.ensures.is ∙ ap opposite same) ∙ (ap (λ (h : Grid). next h c.loop-node.node (opposite t.0.way)) g ∙ t.0.ahead)) in
    let other = c.in_default.is in let impossible : ⊥ = cc in absurd impossible

pub overflow_add-way-in-loop-node : goal.overflow_add-way-in-loop-node
overflow_add-way-in-loop-node c =
    let t = turn c.args.net c.args.target c.args.meeting.cost c.args.room.now c.loop-node.room c.args.marks.now c.loop-node.node c.loop-node.left c.loop-node.joining c.loop-node.invariant.walk c.loop-node-test.true in
    let m = t.0.mark in let f = t.0.few in let j : c.loop-node.joining ≤ 4 = elim c.loop-node.invariant.walk.told [ inl h ↦ (let h0 = h.0 in omega arith) | inr h ↦ (let h0 = h.0 in omega arith) ] in omega arith

pub overflow_sub-left : goal.overflow_sub-left
overflow_sub-left c =
    let t = turn c.args.net c.args.target c.args.meeting.cost c.args.room.now c.loop-node.room c.args.marks.now c.loop-node.node c.loop-node.left c.loop-node.joining c.loop-node.invariant.walk c.loop-node-test.true in
    let m = t.0.mark in
    let same : slice_index c.args.marks.now c.loop-node.node - 1 ≡ t.0.way = omega arith in
    rw (c.weight_of-left.ensures, same) t.0.enough

pub loop-node-smaller : goal.loop-node-smaller
loop-node-smaller c =
    let t = turn c.args.net c.args.target c.args.meeting.cost c.args.room.now c.loop-node.room c.args.marks.now c.loop-node.node c.loop-node.left c.loop-node.joining c.loop-node.invariant.walk c.loop-node-test.true in
    let m = t.0.mark in
    let same : slice_index c.args.marks.now c.loop-node.node - 1 ≡ t.0.way = omega arith in
    let some = weight_least t.0.way in
    let enough = t.0.enough in
    let cost : c.weight_of-left.result ≡ weight t.0.way = c.weight_of-left.ensures ∙ ap weight same in
    omega arith

pub loop-node-preserved : goal.loop-node-preserved
loop-node-preserved c =
    let t = turn c.args.net c.args.target c.args.meeting.cost c.args.room.now c.loop-node.room c.args.marks.now c.loop-node.node c.loop-node.left c.loop-node.joining c.loop-node.invariant.walk c.loop-node-test.true in
    let m = t.0.mark in
    let same : slice_index c.args.marks.now c.loop-node.node - 1 ≡ t.0.way = omega arith in
    let g = c.loop-node.invariant.walk.grid in
    let e : c.step.result ≡ Some t.0.on = c.step.ensures.is ∙ (ap (λ (w : ℕ). next c.loop-node.room.grid c.loop-node.node w) (c.opposite_of.ensures.is ∙ ap opposite same) ∙ (ap (λ (h : Grid). next h c.loop-node.node (opposite t.0.way)) g ∙ t.0.ahead)) in
    let e2 = c.in-Some.is in
    let on_is : t.0.on ≡ c.in-Some.on = cc in
    let cost : weight t.0.way ≡ c.weight_of-left.result = sym (c.weight_of-left.ensures ∙ ap weight same) in
    let lt : t.0.on < nodes c.args.room.now.grid = subst (λ (n : ℕ). n < nodes c.args.room.now.grid) (sym on_is) (subst (λ (h : Grid). c.in-Some.on < nodes h) g c.in-Some.ensures.within) in
    let link = slice_index c.args.marks.now c.loop-node.node - 1 + 1 + c.loop-node.joining in
    let link_is : link ≡ t.0.way + 1 + c.loop-node.joining = omega arith in
    let mid = c.loop-node.room in
    let new : Room = record { grid = mid.grid; owners = with_item mid.owners c.in-Some.on c.args.net; links = with_item mid.links c.in-Some.on link } in
    let w = walk_on c.args.net c.args.target c.args.meeting.cost c.args.room.now mid new c.args.marks.now c.loop-node.node c.loop-node.left c.loop-node.joining link c.loop-node.invariant.walk
    t.0 t.1 c.requires.target lt refl (ap (λ (n : ℕ). set mid.owners.items n c.args.net) (sym on_is)) (ap (λ (n : ℕ). set mid.links.items n link) (sym on_is)) link_is in
    let walk = subst (λ (n : ℕ). Walk c.args.net c.args.target c.args.meeting.cost c.args.room.now new c.args.marks.now n (c.loop-node.left - c.weight_of-left.result) 0) on_is
    (subst (λ (n : ℕ). Walk c.args.net c.args.target c.args.meeting.cost c.args.room.now new c.args.marks.now t.0.on (c.loop-node.left - n) 0) cost w) in
    record {
      walk = walk;
      holds = holds_more mid.grid c.loop-node.hull c.with_node-hull.result mid.owners.items mid.links.items c.args.net c.in-Some.on link c.loop-node.invariant.holds
          c.with_node-hull.ensures.holds c.with_node-hull.ensures.kept;
    }

pub returns-clause-claimed : goal.returns-clause-claimed
returns-clause-claimed c =
    walk_end c.args.net c.args.target c.args.meeting.cost c.args.room.now c.loop-node.room c.args.marks.now c.loop-node.node c.loop-node.left c.loop-node.joining c.loop-node.invariant.walk c.loop-node-test.false c.requires.outside
