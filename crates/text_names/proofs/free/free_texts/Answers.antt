use Rattle.std.proofs.Common.{◌≡◌, ◌≤◌, ◌+◌, length, map, sym, ap, ◌∙◌, subst, ℕ, arith}
use Rattle.text_names.specs.Free.{numbered}
use Rattle.text_names.specs.Known.{is_known}
use Rattle.text_names.proofs.Enough.{found, more_found, not_too_many, all_found, rest_found, same_length}
use Rattle.text_names.proofs.free.free_texts.Goals as goal

pub returns-then-len-many : goal.returns-then-len-many
returns-then-len-many c =
    let l = c.loop-number in
    let n : length l.texts.items ≡ c.args.many = let a = c.if-len-many.true in let b = c.len.ensures in omega arith in
    l.invariant.same
    ∙ all_found c.args.stem.now c.args.taken.now c.args.many l.number (let a = l.auto.number-end in let b = c.loop-number-test.true in omega arith)
    (sym (ap length l.invariant.same ∙ same_length (numbered c.args.stem.now) (found c.args.stem.now c.args.taken.now l.number)) ∙ n)

pub returns : goal.returns
returns c =
    let l = c.loop-number in
    let e : l.number ≡ c.args.many + length c.args.taken.now = let a = c.loop-number-test.false in let b = l.auto.number-end in omega arith in
    let P : ℕ → Type 0 = λ k. length (found c.args.stem.now c.args.taken.now k) ≤ c.args.many in
    let size = ap length l.invariant.same ∙ same_length (numbered c.args.stem.now) (found c.args.stem.now c.args.taken.now l.number) in
    l.invariant.same ∙ ap (λ k. map (numbered c.args.stem.now) (found c.args.stem.now c.args.taken.now k)) e
    ∙ rest_found c.args.stem.now c.args.taken.now c.args.many (subst P e (let a = l.invariant.few in omega arith))

pub loop-number-preserved : goal.loop-number-preserved
loop-number-preserved c =
    let l = c.loop-number in
    let stem = c.args.stem.now in
    let taken = c.args.taken.now in
    let same = more_found stem taken l.number (is_known (numbered stem l.number) c.in_ok-set.set) l.texts.items c.push_free.new.texts.items (c.in_ok-set.ensures (numbered stem l.number))
    l.invariant.same c.in_ok-push_free.ensures in
    let few = not_too_many stem taken c.args.many l.number l.texts.items l.invariant.same l.invariant.few (λ e. c.if-len-many.false (let size = c.len.ensures in omega arith)) in
    record {
      few = let size = ap length same ∙ same_length (numbered stem) (found stem taken (l.number + 1)) in omega arith;
      same = same;
    }
