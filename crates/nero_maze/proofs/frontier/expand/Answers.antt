use Rattle.std.proofs.Common.{◌+◌, ◌<◌, ◌≤◌, inl, inr, arith, sym}
use Rattle.std.proofs.lemmas.Bool.{cases_eq}
use Rattle.nero_maze.specs.Hulls.{far}
use Rattle.nero_maze.specs.Search.{words_in}
use Rattle.nero_maze.proofs.Theory.{Grown-none, Grown-step, mark_stays}
use Rattle.nero_maze.proofs.Levels.{spread_later}
use Rattle.nero_maze.proofs.frontier.expand.Goals as goal

pub loop-at-init : goal.loop-at-init
loop-at-init c =
    record {
      size = c.requires.size;
      kept = c.requires.kept;
      grown = Grown-none c.args.field.now.grid (words_in c.args.field.now.words) c.args.field.now.net (far c.args.field.now.grid c.args.field.now.hull) c.args.rise c.args.span.from c.args.span.to
          c.args.frontier.now.order.items c.args.frontier.now.marks.items c.args.frontier.now.count;
      spread = λ j k fj jt k4. absurd (omega arith);
    }

pub loop-at-preserved : goal.loop-at-preserved
loop-at-preserved c =
    let g = c.args.field.now.grid in
    let o = words_in c.args.field.now.words in
    let t = c.args.field.now.net in
    let h = far g c.args.field.now.hull in
    let rise = c.args.rise in
    let ord = c.args.frontier.now.order.items in
    let m = c.args.frontier.now.marks.items in
    let n = c.args.frontier.now.count in
    let from = c.args.span.from in
    let to = c.args.span.to in
    let at = c.loop-at.at in
    let inv = c.loop-at.invariant in
    let f1 = c.loop-at.frontier in
    let e = c.expand_one.ensures in
    let f2 = c.expand_one.new.frontier in
    let at_lt : at < to = omega arith in
    let from_le : from ≤ at = omega arith in
    let stay = mark_stays g o t h rise at (at + 1) f1.order.items f1.marks.items f1.count f2.order.items f2.marks.items f2.count e.grown in
    let at_n : at < n = (let a = c.requires.to in omega arith) in
    let e0 = inv.grown.prefix at at_n in
    record {
      size = e.size;
      kept = e.kept;
      grown = Grown-step g o t h rise from to at (at + 1) ord m n f1.order.items f1.marks.items f1.count f2.order.items f2.marks.items f2.count c.requires.to inv.grown e.grown from_le (omega arith);
      spread = λ j k fj jt k4. elim (cases_eq j at) [
        | inr ne ↦ (λ v is sum free. (let lt : j < at = omega arith in stay v (inv.spread j k fj lt k4 v is sum free)))
        | inl ej ↦ rw ej (spread_later g o t h rise f1.order.items f2.marks.items ord f2.marks.items at k (sym e0) (λ v ne. ne) (e.spread k k4))
      ];
    }
