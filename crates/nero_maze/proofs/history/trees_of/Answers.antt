use Rattle.std.proofs.Common.{◌<◌, length, arith, sym, ◌∙◌, refl, length-set}
use Rattle.nero_maze.proofs.Theory.{read_at}
use Rattle.nero_maze.proofs.Telling.{logged, tree_at, tells_touched, tells_began, tells_joined}
use Rattle.nero_maze.proofs.history.trees_of.Goals as goal
use Rattle.nero_maze.proofs.history.trees_of.Goals.{then-index-eq-TOUCHED+in_ok-path_of_one+in_ok-grow, else-index-eq-TOUCHED+then-index-eq-ROOT+in-Some-1, else-index-eq-TOUCHED+then-index-eq-ROOT+in-None-1, else-index-eq-TOUCHED+else-index-eq-ROOT+in_ok-path_from+in_ok-grow-2}

pub index_mut-requires : goal.index_mut-requires
index_mut-requires c =
    let h = logged c.args.board.now c.loop-i.i c.args.nets c.index-at.result.now c.index.result.now c.requires.sound c.requires.nets c.loop-i-test.true c.index-at.ensures c.index.ensures in
    let few = h.few in
    let size = c.loop-i.invariant.size in
    omega arith

pub index_mut-requires-then-index-eq-ROOT : goal.index_mut-requires-then-index-eq-ROOT
index_mut-requires-then-index-eq-ROOT c =
    let h = logged c.args.board.now c.loop-i.i c.args.nets c.index-at.result.now c.index.result.now c.requires.sound c.requires.nets c.loop-i-test.true c.index-at.ensures c.index.ensures in
    let few = h.few in
    let size = c.loop-i.invariant.size in
    omega arith

pub index_mut-requires-else-index-eq-ROOT : goal.index_mut-requires-else-index-eq-ROOT
index_mut-requires-else-index-eq-ROOT c =
    let h = logged c.args.board.now c.loop-i.i c.args.nets c.index-at.result.now c.index.result.now c.requires.sound c.requires.nets c.loop-i-test.true c.index-at.ensures c.index.ensures in
    let few = h.few in
    let size = c.loop-i.invariant.size in
    omega arith

pub path_from-requires-clause-told : goal.path_from-requires-clause-told
path_from-requires-clause-told c =
    let b = c.args.board.now in
    let h = logged b c.loop-i.i c.args.nets c.index-at.result.now c.index.result.now c.requires.sound c.requires.nets c.loop-i-test.true c.index-at.ensures c.index.ensures in
    let within = h.within in
    let m_lt : c.index-at.result.now < length b.log.marks.items = (let e = c.requires.sound.logged in omega arith) in
    let l_lt : c.index-at.result.now < length b.room.links.items = (let e = c.requires.sound.room.links in omega arith) in
    let mark = read_at b.log.marks.items c.index-at.result.now c.index-in-loop-i.result.now m_lt c.index-in-loop-i.ensures in
    let link = read_at b.room.links.items c.index-at.result.now c.index-else-index-eq-TOUCHED.result.now l_lt c.index-else-index-eq-TOUCHED.ensures in
    c.requires.sound.told c.index-at.result.now h.marked (λ e. c.if-index-eq-TOUCHED.false (sym mark ∙ e)) (λ e. c.if-index-eq-ROOT.false (sym link ∙ e))

pub loop-i-preserved : goal.loop-i-preserved
loop-i-preserved c =
    let b = c.args.board.now in
    let g = b.room.grid in
    let o = b.room.owners.items in
    let l = b.room.links.items in
    let m = b.log.marks.items in
    let ord = b.log.order.items in
    let v = c.index-at.result.now in
    let net = c.index.result.now in
    let ts = c.loop-i.trees.items in
    let h = logged b c.loop-i.i c.args.nets v net c.requires.sound c.requires.nets c.loop-i-test.true c.index-at.ensures c.index.ensures in
    let within = h.within in
    let few = h.few in
    let size = c.loop-i.invariant.size in
    let lt : net < length ts = omega arith in
    let m_lt : v < length m = (let e = c.requires.sound.logged in omega arith) in
    let l_lt : v < length l = (let e = c.requires.sound.room.links in omega arith) in
    let mark = read_at m v c.index-in-loop-i.result.now m_lt c.index-in-loop-i.ensures in
    elim c.if-index-eq-TOUCHED.branch [
      | then-index-eq-TOUCHED+in_ok-path_of_one+in_ok-grow w ↦ rw w.trees-is (record {
        size = length-set ts net w.grow.new.tree ∙ size;
        tells = tells_touched g o l m ord c.loop-i.i v net ts w.grow.new.tree h.at h.owner lt c.loop-i.invariant.tells (mark ∙ w.if-index-eq-TOUCHED.true)
            (w.in_ok-grow.ensures
            ∙ (rw (w.in_ok-path_of_one.ensures, c.node_at-node.ensures.node, tree_at ts net w.index_mut.result.now lt w.index_mut.ensures.value) refl));
      })
      | else-index-eq-TOUCHED+then-index-eq-ROOT+in-Some-1 w ↦ (
          let link = read_at l v w.index-else-index-eq-TOUCHED.result.now l_lt w.index-else-index-eq-TOUCHED.ensures in
          rw w.trees-is (record {
            size = length-set ts net _ ∙ size;
            tells = tells_began g o l m ord c.loop-i.i v net ts _ h.at h.owner lt c.loop-i.invariant.tells (λ e. w.if-index-eq-TOUCHED.false (sym mark ∙ e)) (link ∙ w.if-index-eq-ROOT.true)
                (rw (w.new.ensures.items, c.node_at-node.ensures.node) refl);
          }))
      | else-index-eq-TOUCHED+then-index-eq-ROOT+in-None-1 w ↦ (
          let link = read_at l v w.index-else-index-eq-TOUCHED.result.now l_lt w.index-else-index-eq-TOUCHED.ensures in
          rw w.trees-is (record {
            size = length-set ts net _ ∙ size;
            tells = tells_began g o l m ord c.loop-i.i v net ts _ h.at h.owner lt c.loop-i.invariant.tells (λ e. w.if-index-eq-TOUCHED.false (sym mark ∙ e)) (link ∙ w.if-index-eq-ROOT.true)
                (rw (w.new.ensures.items, c.node_at-node.ensures.node) refl);
          }))
      | else-index-eq-TOUCHED+else-index-eq-ROOT+in_ok-path_from+in_ok-grow-2 w ↦ (
          let link = read_at l v w.index-else-index-eq-TOUCHED.result.now l_lt w.index-else-index-eq-TOUCHED.ensures in
          rw w.trees-is (record {
            size = length-set ts net w.grow-else-index-eq-ROOT.new.tree ∙ size;
            tells = tells_joined g o l m ord c.loop-i.i v net ts w.grow-else-index-eq-ROOT.new.tree h.at h.owner lt c.loop-i.invariant.tells
                (λ e. w.if-index-eq-TOUCHED.false (sym mark ∙ e)) (λ e. w.if-index-eq-ROOT.false (sym link ∙ e))
                (w.in_ok-grow-2.ensures
                ∙ (rw (w.in_ok-path_from.ensures, tree_at ts net w.index_mut-else-index-eq-ROOT.result.now lt w.index_mut-else-index-eq-ROOT.ensures.value) refl));
          }))
    ]
