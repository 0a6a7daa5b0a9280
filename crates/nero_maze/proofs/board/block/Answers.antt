use Rattle.std.proofs.Common.{inl, inr, sym, ◌∙◌}
use Rattle.nero_maze.specs.Search.{IsFree}
use Rattle.nero_maze.specs.Board.{reserved_of}
use Rattle.nero_maze.proofs.Theory.{leads-trace}
use Rattle.nero_maze.proofs.Blocking.{leads_by, last_free}
use Rattle.nero_maze.proofs.board.block.Goals as goal

pub returns-then-not-is_free-clause-none : goal.returns-then-not-is_free-clause-none
returns-then-not-is_free-clause-none c =
    let word = sym c.reserved_word-word.ensures in
    let r = c.is_free.ensures.taken c.if-not-is_free.true in
    λ free v back cost own lead. elim free [ inl e ↦ r.0 (sym word ∙ e) | inr e ↦ r.1 (sym word ∙ e) ]

pub first_taken-owner-requires-clause-trace : goal.first_taken-owner-requires-clause-trace
first_taken-owner-requires-clause-trace c =
    let b = c.args.board.now in
    let g = b.room.grid in
    let f = reserved_of b in
    let o = b.room.owners.items in
    let net = c.args.net in
    let target = c.args.target in
    let node = c.in-Some.meeting.node in
    let cost = c.in-Some.meeting.cost in
    let (back, small, trace) = c.in-Some.ensures.trace in
    let lead = leads-trace g f net target c.search-found.new.frontier.marks.items node back cost trace in
    (back, trace, λ all. c.requires.stuck (last_free g f o net target node back cost all lead) node back cost c.in-Some.ensures.own (leads_by g f o net target node back cost all lead))

pub returns-clause-blocks : goal.returns-clause-blocks
returns-clause-blocks c =
    let b = c.args.board.now in
    let f = reserved_of b in
    let net = c.args.net in
    let target = c.args.target in
    let word = sym c.reserved_word-word.ensures in
    let free : IsFree f net target = elim (c.is_free.ensures.free c.if-not-is_free.false) [ inl e ↦ inl (word ∙ e) | inr e ↦ inr (word ∙ e) ] in
    let (back, trace, taken) = c.first_taken-owner.ensures in
    record {
      passable = free;
      from = c.in-Some.meeting.node;
      back = back;
      cost = c.in-Some.meeting.cost;
      within = c.in-Some.ensures.within;
      own = c.in-Some.ensures.own;
      leads = leads-trace b.room.grid f net target c.search-found.new.frontier.marks.items c.in-Some.meeting.node back c.in-Some.meeting.cost trace;
      least = c.in-Some.ensures.least;
      taken = taken;
    }
