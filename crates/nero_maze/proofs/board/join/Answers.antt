use Rattle.std.proofs.Common.{◌∷◌, ◌<◌, length, arith, sym, ◌∙◌, inl, inr}
use Rattle.nero_maze.specs.Search.{IsFree}
use Rattle.nero_maze.proofs.Theory.{read_at}
use Rattle.nero_maze.proofs.Ties.{far_all}
use Rattle.nero_maze.proofs.Sounds.{unmarked_own, unmarked_free, changed_own}
use Rattle.nero_maze.proofs.Holding.{hulls_with}
use Rattle.nero_maze.proofs.board.join.Goals as goal

pub push-requires-clause-unmarked : goal.push-requires-clause-unmarked
push-requires-clause-unmarked c =
    let o = c.args.board.now.room.owners.items in
    let lt : c.args.target < length o = (let e = c.requires.sound.room.owners in let h = c.requires.target in omega arith) in
    let word = read_at o c.args.target c.index-owner.result.now lt c.index-owner.ensures in
    unmarked_own c.args.board.now c.args.net c.args.target c.requires.new (word ∙ c.if-owner-net.true)

pub claim-grown-requires-clause-least : goal.claim-grown-requires-clause-least
claim-grown-requires-clause-least c =
    let o = c.args.board.now.room.owners.items in
    let lt : c.args.target < length o = (let e = c.requires.sound.room.owners in let h = c.requires.target in omega arith) in
    let word = read_at o c.args.target c.index-owner.result.now lt c.index-owner.ensures in
    let free : IsFree o c.args.net c.args.target = elim c.else-owner.either [ inl h ↦ inr (word ∙ h.1) | inr h ↦ inl (word ∙ h) ] in
    far_all c.args.board.now.room.grid o c.args.board.now.room.links.items c.args.net c.args.target c.in-Some.meeting.cost c.requires.sound.owned free c.in-Some.ensures.least

pub push-requires-2-clause-unmarked : goal.push-requires-2-clause-unmarked
push-requires-2-clause-unmarked c =
    let o = c.args.board.now.room.owners.items in
    let l = c.args.board.now.room.links.items in
    let lt : c.args.target < length o = (let e = c.requires.sound.room.owners in let h = c.requires.target in omega arith) in
    let lt_l : c.args.target < length l = (let e = c.requires.sound.room.links in let h = c.requires.target in omega arith) in
    let word = read_at o c.args.target c.index-owner.result.now lt c.index-owner.ensures in
    let link = read_at l c.args.target c.index.result.now lt_l c.index.ensures in
    let free : IsFree o c.args.net c.args.target = elim c.else-owner.either [ inl h ↦ inr (word ∙ h.1) | inr h ↦ inl (word ∙ h) ] in
    unmarked_free c.args.board.now c.args.net c.args.target c.requires.sound free
    (λ own. elim c.else-index-ne0.either [ inl h ↦ h.1 (sym word ∙ own.1) | inr h ↦ own.0 (link ∙ h) ])

pub returns-clause-holds : goal.returns-clause-holds
returns-clause-holds c =
    let r = c.args.board.now.room in
    let r' = c.claim-grown.new.room in
    let (rest, claimed) = c.claim-grown.ensures.claimed in
    let own = c.claim-grown.ensures.holds in
    rw c.keep_hull.ensures (hulls_with r'.grid c.args.board.now.hulls.items c.claim-grown.result r.owners.items r.links.items r'.owners.items r'.links.items c.args.net
    (rw claimed.grid c.requires.sound.holds) own (λ k v ne mine. changed_own c.args.net (c.args.target ∷ rest) r.owners.items r.links.items r'.owners.items r'.links.items claimed.changed k v ne mine))
