use Rattle.std.proofs.Common.{◌+◌, ◌<◌, ◌≤◌, inl, inr, arith, sym, ◌∙◌}
use Rattle.std.proofs.lemmas.Bool.{cases_eq}
use Rattle.nero_maze.specs.Hulls.{far}
use Rattle.nero_maze.specs.Search.{words_in}
use Rattle.nero_maze.proofs.Theory.{Grown-none, Grown-step, mark_stays}
use Rattle.nero_maze.proofs.Levels.{spread_later}
use Rattle.nero_maze.proofs.frontier.expand_one.Goals as goal

pub loop-way-init : goal.loop-way-init
loop-way-init c =
    record {
      size = c.requires.size;
      kept = c.requires.kept;
      grown = Grown-none c.args.field.now.grid (words_in c.args.field.now.words) c.args.field.now.net (far c.args.field.now.grid c.args.field.now.hull) c.args.rise c.args.at (c.args.at + 1)
          c.args.frontier.now.order.items c.args.frontier.now.marks.items c.args.frontier.now.count;
      spread = λ k lt. absurd (omega arith);
    }

pub visit-requires-clause-source : goal.visit-requires-clause-source
visit-requires-clause-source c =
    let s = c.source_at-source.ensures.source in
    let at : c.args.at < c.args.frontier.now.count = c.requires.at in
    let e = c.loop-way.invariant.grown.prefix c.args.at at in
    let same = c.source_at-source.ensures.at in
    record {
      at = rw same (e ∙ (rw same at s.at));
      within = s.within;
      layer = s.layer;
      row = s.row;
      column = s.column;
      place = s.place;
      reach = s.reach;
    }

pub loop-way-preserved : goal.loop-way-preserved
loop-way-preserved c =
    let g = c.args.field.now.grid in
    let o = words_in c.args.field.now.words in
    let t = c.args.field.now.net in
    let h = far g c.args.field.now.hull in
    let rise = c.args.rise in
    let ord = c.args.frontier.now.order.items in
    let m = c.args.frontier.now.marks.items in
    let n = c.args.frontier.now.count in
    let at = c.args.at in
    let way = c.loop-way.way in
    let inv = c.loop-way.invariant in
    let f1 = c.loop-way.frontier in
    let e = c.visit.ensures in
    let f2 = c.visit.new.frontier in
    let same = c.source_at-source.ensures.at in
    let same_rise = c.source_at-source.ensures.rise in
    let grown = rw (same, same_rise) at e.grown in
    let spread = rw (same, same_rise) at e.spread in
    let stay = mark_stays g o t h rise at (at + 1) f1.order.items f1.marks.items f1.count f2.order.items f2.marks.items f2.count grown in
    let at_n : at < n = c.requires.at in
    let to_n : at + 1 ≤ n = omega arith in
    let e0 = inv.grown.prefix at at_n in
    record {
      size = e.size;
      kept = e.kept;
      grown = Grown-step g o t h rise at (at + 1) at (at + 1) ord m n f1.order.items f1.marks.items f1.count f2.order.items f2.marks.items f2.count to_n inv.grown grown (omega arith) (omega arith);
      spread = λ k kt. elim (cases_eq k way) [
        | inr ne ↦ (λ v is sum free. (let lt : k < way = omega arith in stay v (inv.spread k lt v is sum free)))
        | inl ek ↦ rw ek (spread_later g o t h rise f1.order.items f2.marks.items ord f2.marks.items at way (sym e0) (λ v ne. ne) spread)
      ];
    }
