use Rattle.std.proofs.Common.{ℕ, ◌≢◌, ◌<◌, length, slice_index, slice_set, inl, inr, arith, sym, ◌∙◌, subst, get_or-set_same}
use Rattle.std.proofs.lemmas.Bool.{cases_lt}
use Rattle.std.proofs.lemmas.List.{length-set}
use Rattle.grid_core.specs.Numbers.{nodes}
use Rattle.nero_maze.specs.Hulls.{far}
use Rattle.nero_maze.specs.Search.{Kept, NoneBelow, LeadsTo, Trace, words_in}
use Rattle.nero_maze.proofs.Theory.{Kept-none, Kept-more}
use Rattle.nero_maze.proofs.Levels.{IsFirstLevel, begun, shift, closed, arrived, none_below}
use Rattle.nero_maze.proofs.Slope.{far_slope, far-place}
use Rattle.nero_maze.proofs.search.search.Goals as goal

pub loop-level-init : goal.loop-level-init
loop-level-init c =
    let g = c.args.room.now.grid in
    let h = far g c.args.hull in
    let ord = c.args.frontier.now.order.items in
    let m = c.args.frontier.now.marks.items in
    let z = c.args.target in
    let none = Kept-none ord m (omega arith) c.requires.clear in
    let hz = c.requires.target in
    let size = c.requires.marks in
    let lt : z < length m = omega arith in
    let some : 0 < length ord = (let e = c.requires.order in omega arith) in
    let kept : Kept (slice_set ord 0 z) (slice_set m z 13) 1 = Kept-more ord m 0 z 12 none lt (c.requires.clear z) in
    let e = c.place_of.ensures in
    let p = c.place_of.result in
    let few = c.far_from-sum.ensures.few in
    let at = c.far_from-sum.ensures.is ∙ far-place g c.args.hull z p.layer p.row p.column e.layer e.row e.column in
    let fl = c.first_level-level.ensures in
    let first : IsFirstLevel c.first_level-level.result z (h z) = record {
      target = fl.target;
      sum = fl.sum ∙ at;
      now = fl.first;
      one = fl.one;
      two = fl.two;
      three = fl.three;
      four = fl.four;
      five = fl.five;
      six = fl.six;
    } in
    let e0 = fl.first in
    let sum = fl.sum in
    record {
      target = fl.target;
      knows = begun g (words_in c.args.words) c.args.net h c.first_level-level.result z (slice_set ord 0 z) (slice_set m z 13) (far_slope g c.args.hull) first kept
          (length-set m z 13 ∙ size) hz (get_or-set_same ord 0 z 0 some) (get_or-set_same m z 13 0 lt);
      flat = λ i below. absurd (omega arith);
      spread = λ j k v below. absurd (omega arith);
      unmet = λ i below. absurd (omega arith);
      bound = omega arith;
    }

pub next_level-level-requires : goal.next_level-level-requires
next_level-level-requires c =
    let inv = c.loop-level.invariant in
    let k = inv.knows in
    let bound = inv.bound in
    let r0 = k.in_five in
    let r1 = k.in_four in
    let r2 = k.in_three in
    let r3 = k.in_two in
    let r4 = k.in_one in
    let r5 = k.in_now in
    let r6 = k.in_all in
    let full = k.kept.full in
    let size = k.size in
    let few = c.requires.room.few in
    omega arith

pub advance-requires-clause-knows : goal.advance-requires-clause-knows
advance-requires-clause-knows c =
    let g = c.args.room.now.grid in
    let o = words_in c.args.words in
    let net = c.args.net in
    let h = far g c.args.hull in
    let inv = c.loop-level.invariant in
    let l = c.loop-level.level in
    let f0 = c.loop-level.frontier in
    let f1 = c.spill.new.frontier in
    let e1 = c.spill.ensures in
    shift g o net h l c.next_level-level.result f1.order.items f1.marks.items f1.count e1.knows e1.all c.next_level-level.ensures

pub loop-level-smaller : goal.loop-level-smaller
loop-level-smaller c =
    let g = c.args.room.now.grid in
    let o = words_in c.args.words in
    let net = c.args.net in
    let h = far g c.args.hull in
    let inv = c.loop-level.invariant in
    let l = c.loop-level.level in
    let f0 = c.loop-level.frontier in
    let f1 = c.spill.new.frontier in
    let e1 = c.spill.ensures in
    let k = e1.knows in
    let r0 = k.in_five in
    let r1 = k.in_four in
    let r2 = k.in_three in
    let r3 = k.in_two in
    let r4 = k.in_one in
    let r5 = k.in_now in
    let r6 = k.in_all in
    let full = k.kept.full in
    let size = k.size in
    let more = e1.longer.more in
    let test = c.loop-level-test.true in
    let nx = c.next_level-level.ensures in
    let n1 = nx.first in
    let n2 = nx.one in
    let n3 = nx.two in
    let n4 = nx.three in
    let n5 = nx.four in
    let n6 = nx.five in
    let n7 = nx.six in
    omega arith

pub loop-level-preserved : goal.loop-level-preserved
loop-level-preserved c =
    let g = c.args.room.now.grid in
    let o = words_in c.args.words in
    let net = c.args.net in
    let h = far g c.args.hull in
    let inv = c.loop-level.invariant in
    let l = c.loop-level.level in
    let f0 = c.loop-level.frontier in
    let f1 = c.spill.new.frontier in
    let e1 = c.spill.ensures in
    let nx = c.next_level-level.ensures in
    let n0 = nx.sum in
    let n1 = nx.first in
    let n2 = nx.one in
    let n3 = nx.two in
    let n4 = nx.three in
    let n5 = nx.four in
    let n6 = nx.five in
    let n7 = nx.six in
    let f2 = c.advance.new.frontier in
    let e2 = c.advance.ensures in
    let more = e1.longer.more in
    let test = c.loop-level-test.true in
    let bound = inv.bound in
    let here = c.in_default.ensures.none in
    record {
      target = nx.target ∙ inv.target;
      knows = e2.knows;
      flat = e2.flat;
      spread = e2.spread;
      unmet = λ i lt own.
          let i1 : i < f1.count = omega arith in
          let same = e2.longer.prefix i i1 in
          elim (cases_lt i l.first) [
            | inl low ↦ (
                let r6 = inv.knows.in_all in
                let i0 : i < f0.count = omega arith in
                let same0 = e1.longer.prefix i i0 in
                inv.unmet i low (rw (same, same0) at own))
            | inr high ↦ here i high i1 (rw same at own)
          ];
      bound = omega arith;
    }

pub returns-in-Some-clause-trace : goal.returns-in-Some-clause-trace
returns-in-Some-clause-trace c =
    let g = c.args.room.now.grid in
    let o = words_in c.args.words in
    let net = c.args.net in
    let h = far g c.args.hull in
    let inv = c.loop-level.invariant in
    let l = c.loop-level.level in
    let f0 = c.loop-level.frontier in
    let f1 = c.spill.new.frontier in
    let e1 = c.spill.ensures in
    let v = c.in-Some.node in
    let own = c.in-Some.ensures.own in
    let size = e1.knows.size in
    let later : (i : ℕ) → i < l.first → slice_index f1.order.items i ≢ v = λ i lt e. (
    let r6 = inv.knows.in_all in
    let i0 : i < f0.count = omega arith in
    let same0 = e1.longer.prefix i i0 in
    inv.unmet i lt (rw (← same0, e) own)) in
    let r = arrived g o net h l f1.order.items f1.marks.items f1.count v e1.knows e1.flat later c.in-Some.ensures.marked (c.requires.hull v own) in
    let small : length r.0 < nodes g = (let r1 = r.1 in omega arith) in
    let family : ℕ → Type 0 = λ z. Trace g o net f1.marks.items z v r.0 l.sum in
    (r.0, small, subst family inv.target r.2)

pub returns-in-Some-clause-least : goal.returns-in-Some-clause-least
returns-in-Some-clause-least c = λ v own.
    let g = c.args.room.now.grid in
    let o = words_in c.args.words in
    let net = c.args.net in
    let h = far g c.args.hull in
    let inv = c.loop-level.invariant in
    let l = c.loop-level.level in
    let f0 = c.loop-level.frontier in
    let f1 = c.spill.new.frontier in
    let e1 = c.spill.ensures in
    let later : (i : ℕ) → i < l.first → slice_index f0.order.items i ≢ v = λ i lt e. inv.unmet i lt (rw e own) in
    let family : ℕ → Type 0 = λ z. NoneBelow g o net z v l.sum in
    subst family inv.target (none_below g o net h l f0.order.items f0.marks.items f0.count v inv.knows later (c.requires.hull v own))

pub returns-in-Some-clause-marks : goal.returns-in-Some-clause-marks
returns-in-Some-clause-marks c = c.spill.ensures.knows.size

pub returns-in-Some-clause-kept : goal.returns-in-Some-clause-kept
returns-in-Some-clause-kept c = c.spill.ensures.knows.kept

pub returns-clause-none : goal.returns-clause-none
returns-clause-none c = λ v back e own p.
    let g = c.args.room.now.grid in
    let o = words_in c.args.words in
    let net = c.args.net in
    let h = far g c.args.hull in
    let inv = c.loop-level.invariant in
    let l = c.loop-level.level in
    let f0 = c.loop-level.frontier in
    let k = inv.knows in
    let r0 = k.in_five in
    let r1 = k.in_four in
    let r2 = k.in_three in
    let r3 = k.in_two in
    let r4 = k.in_one in
    let r5 = k.in_now in
    let family : ℕ → Type 0 = λ z. LeadsTo g o net z v back e in
    let path = subst family (sym inv.target) p in
    let ge = c.loop-level-test.false in
    let ne = closed g o net h l f0.order.items f0.marks.items f0.count (far_slope g c.args.hull) k ge v back e path in
    let (i, lt, at) = k.kept.found v ne in
    inv.unmet i (omega arith) (rw at own)

pub returns-clause-marks : goal.returns-clause-marks
returns-clause-marks c = c.loop-level.invariant.knows.size

pub returns-clause-kept : goal.returns-clause-kept
returns-clause-kept c = c.loop-level.invariant.knows.kept
