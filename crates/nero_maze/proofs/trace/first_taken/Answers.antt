use Rattle.std.proofs.Common.{ℕ, ◌≡◌, ◌-◌, ◌<◌, length, Some, inl, inr, arith, sym, ◌∙◌, ap, subst}
use Rattle.grid_core.specs.Numbers.{nodes}
use Rattle.nero_maze.specs.Ways.{weight, next, opposite}
use Rattle.nero_maze.specs.Search.{IsFree}
use Rattle.nero_maze.proofs.Theory.{read_at, weight_least}
use Rattle.nero_maze.proofs.Tracing.{Goes, goes_begin, ahead_of, taken_here, last_taken}
use Rattle.nero_maze.proofs.trace.first_taken.Goals as goal

pub loop-node-init : goal.loop-node-init
loop-node-init c = goes_begin c.args.board.now c.args.net c.args.target c.args.meeting.node c.args.meeting.cost c.requires.met c.requires.trace

pub returns-then-not-is_free : goal.returns-then-not-is_free
returns-then-not-is_free c =
    let b = c.args.board.now in
    let node = c.loop-node.node in
    let inv = c.loop-node.invariant in
    let within = inv.within in
    let o = b.room.owners.items in
    let lt : node < length o = (let e = c.requires.room.owners in omega arith) in
    let word = read_at o node c.index-owner.result.now lt c.index-owner.ensures in
    let r = c.is_free.ensures.taken c.if-not-is_free.true in
    taken_here b c.args.net c.args.target c.args.meeting.node c.args.meeting.cost node c.loop-node.left c.index-owner.result.now inv word
    (λ f. elim f [ inl e ↦ r.0 (sym word ∙ e) | inr e ↦ r.1 (sym word ∙ e) ])

pub overflow_sub-way : goal.overflow_sub-way
overflow_sub-way c =
    let b = c.args.board.now in
    let node = c.loop-node.node in
    let inv = c.loop-node.invariant in
    let within = inv.within in
    let t = ahead_of b c.args.net c.args.target c.args.meeting.node c.args.meeting.cost node c.loop-node.left inv c.loop-node-test.true in
    let lt : node < length b.frontier.marks.items = (let e = c.requires.marks in omega arith) in
    let read = read_at b.frontier.marks.items node c.index-mark.result.now lt c.index-mark.ensures in
    let m = t.mark in
    let f = t.few in
    omega arith

pub opposite_of-requires : goal.opposite_of-requires
opposite_of-requires c =
    let b = c.args.board.now in
    let node = c.loop-node.node in
    let inv = c.loop-node.invariant in
    let within = inv.within in
    let t = ahead_of b c.args.net c.args.target c.args.meeting.node c.args.meeting.cost node c.loop-node.left inv c.loop-node-test.true in
    let lt : node < length b.frontier.marks.items = (let e = c.requires.marks in omega arith) in
    let read = read_at b.frontier.marks.items node c.index-mark.result.now lt c.index-mark.ensures in
    let m = t.mark in
    let f = t.few in
    omega arith

pub returns-in_default : goal.returns-in_default
returns-in_default c =
    let b = c.args.board.now in
    let node = c.loop-node.node in
    let inv = c.loop-node.invariant in
    let within = inv.within in
    let t = ahead_of b c.args.net c.args.target c.args.meeting.node c.args.meeting.cost node c.loop-node.left inv c.loop-node-test.true in
    let lt : node < length b.frontier.marks.items = (let e = c.requires.marks in omega arith) in
    let read = read_at b.frontier.marks.items node c.index-mark.result.now lt c.index-mark.ensures in
    let m = t.mark in
    let f = t.few in
    let same : c.index-mark.result.now - 1 ≡ t.way = omega arith in
    let e : c.step.result ≡ Some t.on = c.step.ensures.is ∙ (ap (λ (w : ℕ). next b.room.grid node w) (c.opposite_of.ensures.is ∙ ap opposite same) ∙ t.ahead) in
    let other = c.in_default.is in let impossible : ⊥ = cc in absurd impossible

pub weight_of-left-requires : goal.weight_of-left-requires
weight_of-left-requires c =
    let b = c.args.board.now in
    let node = c.loop-node.node in
    let inv = c.loop-node.invariant in
    let within = inv.within in
    let t = ahead_of b c.args.net c.args.target c.args.meeting.node c.args.meeting.cost node c.loop-node.left inv c.loop-node-test.true in
    let lt : node < length b.frontier.marks.items = (let e = c.requires.marks in omega arith) in
    let read = read_at b.frontier.marks.items node c.index-mark.result.now lt c.index-mark.ensures in
    let m = t.mark in
    let f = t.few in
    omega arith

pub overflow_sub-left : goal.overflow_sub-left
overflow_sub-left c =
    let b = c.args.board.now in
    let node = c.loop-node.node in
    let inv = c.loop-node.invariant in
    let within = inv.within in
    let t = ahead_of b c.args.net c.args.target c.args.meeting.node c.args.meeting.cost node c.loop-node.left inv c.loop-node-test.true in
    let lt : node < length b.frontier.marks.items = (let e = c.requires.marks in omega arith) in
    let read = read_at b.frontier.marks.items node c.index-mark.result.now lt c.index-mark.ensures in
    let m = t.mark in
    let f = t.few in
    let same : c.index-mark.result.now - 1 ≡ t.way = omega arith in
    rw (c.weight_of-left.ensures, same) t.enough

pub loop-node-smaller : goal.loop-node-smaller
loop-node-smaller c =
    let b = c.args.board.now in
    let node = c.loop-node.node in
    let inv = c.loop-node.invariant in
    let within = inv.within in
    let t = ahead_of b c.args.net c.args.target c.args.meeting.node c.args.meeting.cost node c.loop-node.left inv c.loop-node-test.true in
    let lt : node < length b.frontier.marks.items = (let e = c.requires.marks in omega arith) in
    let read = read_at b.frontier.marks.items node c.index-mark.result.now lt c.index-mark.ensures in
    let m = t.mark in
    let f = t.few in
    let same : c.index-mark.result.now - 1 ≡ t.way = omega arith in
    let some = weight_least t.way in
    let enough = t.enough in
    let cost : c.weight_of-left.result ≡ weight t.way = c.weight_of-left.ensures ∙ ap weight same in
    omega arith

pub loop-node-preserved : goal.loop-node-preserved
loop-node-preserved c =
    let b = c.args.board.now in
    let node = c.loop-node.node in
    let inv = c.loop-node.invariant in
    let within = inv.within in
    let t = ahead_of b c.args.net c.args.target c.args.meeting.node c.args.meeting.cost node c.loop-node.left inv c.loop-node-test.true in
    let lt : node < length b.frontier.marks.items = (let e = c.requires.marks in omega arith) in
    let read = read_at b.frontier.marks.items node c.index-mark.result.now lt c.index-mark.ensures in
    let m = t.mark in
    let f = t.few in
    let o = b.room.owners.items in
    let lt_o : node < length o = (let e = c.requires.room.owners in omega arith) in
    let word = read_at o node c.index-owner.result.now lt_o c.index-owner.ensures in
    let free : IsFree o c.args.net node = elim (c.is_free.ensures.free c.if-not-is_free.false) [ inl e ↦ inl (word ∙ e) | inr e ↦ inr (word ∙ e) ] in
    let same : c.index-mark.result.now - 1 ≡ t.way = omega arith in
    let e : c.step.result ≡ Some t.on = c.step.ensures.is ∙ (ap (λ (w : ℕ). next b.room.grid node w) (c.opposite_of.ensures.is ∙ ap opposite same) ∙ t.ahead) in
    let e2 = c.in-Some.is in
    let on_is : t.on ≡ c.in-Some.on = cc in
    let cost : weight t.way ≡ c.weight_of-left.result = sym (c.weight_of-left.ensures ∙ ap weight same) in
    let below : t.on < nodes b.room.grid = subst (λ (n : ℕ). n < nodes b.room.grid) (sym on_is) c.in-Some.ensures.within in
    let goes = t.goes free below in
    subst (λ (n : ℕ). Goes b c.args.net c.args.target c.args.meeting.node c.args.meeting.cost n (c.loop-node.left - c.weight_of-left.result)) on_is
    (subst (λ (n : ℕ). Goes b c.args.net c.args.target c.args.meeting.node c.args.meeting.cost t.on (c.loop-node.left - n)) cost goes)

pub returns : goal.returns
returns c =
    let b = c.args.board.now in
    let node = c.loop-node.node in
    let inv = c.loop-node.invariant in
    let within = inv.within in
    let o = b.room.owners.items in
    let lt : node < length o = (let e = c.requires.room.owners in omega arith) in
    let word = read_at o node c.index.result.now lt c.index.ensures in
    taken_here b c.args.net c.args.target c.args.meeting.node c.args.meeting.cost node c.loop-node.left c.index.result.now inv word
    (last_taken b c.args.net c.args.target c.args.meeting.node c.args.meeting.cost node c.loop-node.left inv c.loop-node-test.false)
