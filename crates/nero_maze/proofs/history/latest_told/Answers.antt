use Rattle.std.proofs.Common.{◌≢◌, ◌<◌, length, arith, sym, ◌∙◌}
use Rattle.nero_maze.proofs.Theory.{read_at}
use Rattle.nero_maze.proofs.Telling.{last_within, last_marked, latest_touched, latest_began, latest_joined}
use Rattle.nero_maze.proofs.history.latest_told.Goals as goal

pub returns-then-index-eq-TOUCHED : goal.returns-then-index-eq-TOUCHED
returns-then-index-eq-TOUCHED c =
    let b = c.args.board.now in
    let s = c.requires.sound in
    let v = c.index-at.result.now in
    let some : b.log.count ≢ 0 = c.if-board-eq0.false in
    let within = last_within b s v some c.index-at.ensures in
    let m_lt : v < length b.log.marks.items = (let e = s.logged in omega arith) in
    let mark = read_at b.log.marks.items v c.index.result.now m_lt c.index.ensures in
    rw (latest_touched b s v some c.index-at.ensures (mark ∙ c.if-index-eq-TOUCHED.true), ← c.node_at-node.ensures.node) c.path_of_one.ensures

pub returns-then-index-eq-ROOT : goal.returns-then-index-eq-ROOT
returns-then-index-eq-ROOT c =
    let b = c.args.board.now in
    let s = c.requires.sound in
    let v = c.index-at.result.now in
    let some : b.log.count ≢ 0 = c.if-board-eq0.false in
    let within = last_within b s v some c.index-at.ensures in
    let m_lt : v < length b.log.marks.items = (let e = s.logged in omega arith) in
    let l_lt : v < length b.room.links.items = (let e = s.room.links in omega arith) in
    let mark = read_at b.log.marks.items v c.index.result.now m_lt c.index.ensures in
    let link = read_at b.room.links.items v c.index-2.result.now l_lt c.index-2.ensures in
    rw (latest_began b s v some c.index-at.ensures (λ e. c.if-index-eq-TOUCHED.false (sym mark ∙ e)) (link ∙ c.if-index-eq-ROOT.true), ← c.node_at-node.ensures.node)
    c.path_of_one-then-index-eq-ROOT.ensures

pub path_from-requires-clause-told : goal.path_from-requires-clause-told
path_from-requires-clause-told c =
    let b = c.args.board.now in
    let s = c.requires.sound in
    let v = c.index-at.result.now in
    let some : b.log.count ≢ 0 = c.if-board-eq0.false in
    let within = last_within b s v some c.index-at.ensures in
    let m_lt : v < length b.log.marks.items = (let e = s.logged in omega arith) in
    let l_lt : v < length b.room.links.items = (let e = s.room.links in omega arith) in
    let mark = read_at b.log.marks.items v c.index.result.now m_lt c.index.ensures in
    let link = read_at b.room.links.items v c.index-2.result.now l_lt c.index-2.ensures in
    s.told v (last_marked b s v some c.index-at.ensures) (λ e. c.if-index-eq-TOUCHED.false (sym mark ∙ e)) (λ e. c.if-index-eq-ROOT.false (sym link ∙ e))

pub returns : goal.returns
returns c =
    let b = c.args.board.now in
    let s = c.requires.sound in
    let v = c.index-at.result.now in
    let some : b.log.count ≢ 0 = c.if-board-eq0.false in
    let within = last_within b s v some c.index-at.ensures in
    let m_lt : v < length b.log.marks.items = (let e = s.logged in omega arith) in
    let l_lt : v < length b.room.links.items = (let e = s.room.links in omega arith) in
    let mark = read_at b.log.marks.items v c.index.result.now m_lt c.index.ensures in
    let link = read_at b.room.links.items v c.index-2.result.now l_lt c.index-2.ensures in
    rw (latest_joined b s v some c.index-at.ensures (λ e. c.if-index-eq-TOUCHED.false (sym mark ∙ e)) (λ e. c.if-index-eq-ROOT.false (sym link ∙ e))) c.path_from.ensures
