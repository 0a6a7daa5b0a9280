use Rattle.std.proofs.Common.{◌≡◌, ◌∷◌, ◌<◌, [], ℕ, List, length, length-append, sym, ap, ◌∙◌, subst, arith}
use Rattle.fsm_merge.specs.Numbering.{nth}
use Rattle.fmi_refine.specs.Refined.{last_level}
use Rattle.std.specs.List.{slice_index_or}
use Rattle.fmi_min.specs.Tests.{TellsApart, AreTestsWith, kept_at}
use Rattle.fmi_min.proofs.Listing.{pushed}
use Rattle.fmi_min.proofs.Keeping.{kept_below, kept_apart, kept_read}
use Rattle.fmi_min.proofs.tests.tests_with.Goals as goal

pub test_between-requires-clause-first : goal.test_between-requires-clause-first
test_between-requires-clause-first c =
    let levels = c.args.by.now.levels.now in
    let known = c.requires.known in
    let less = c.loop-p-test.true in
    let kept : c.as_slice-kept.result.now ≡ (last_level levels).kept =
    kept_read levels c.index-levels-levels.result c.as_slice-kept.result.now c.requires.levels.some c.as_slice-kept.ensures in
    subst (λ (ks : List ℕ). nth ks c.loop-p.p < length c.args.by.now.rows.now) (sym kept) (kept_below c.args.by.now.rows.now levels c.requires.levels c.loop-p.p (omega arith))

pub test_between-requires-clause-second : goal.test_between-requires-clause-second
test_between-requires-clause-second c =
    let levels = c.args.by.now.levels.now in
    let kept : c.as_slice-kept.result.now ≡ (last_level levels).kept =
    kept_read levels c.index-levels-levels.result c.as_slice-kept.result.now c.requires.levels.some c.as_slice-kept.ensures in
    subst (λ (ks : List ℕ). nth ks c.args.q < length c.args.by.now.rows.now) (sym kept) (kept_below c.args.by.now.rows.now levels c.requires.levels c.args.q c.requires.known)

pub test_between-requires-clause-apart : goal.test_between-requires-clause-apart
test_between-requires-clause-apart c =
    let levels = c.args.by.now.levels.now in
    let of = (last_level levels).state_of in
    let kept : c.as_slice-kept.result.now ≡ (last_level levels).kept =
    kept_read levels c.index-levels-levels.result c.as_slice-kept.result.now c.requires.levels.some c.as_slice-kept.ensures in
    subst (λ (ks : List ℕ). nth of (nth ks c.loop-p.p) ≡ nth of (nth ks c.args.q) → ⊥) (sym kept)
    (kept_apart c.args.by.now.rows.now levels c.requires.levels c.loop-p.p c.args.q c.loop-p-test.true c.requires.known)

pub loop-p-preserved : goal.loop-p-preserved
loop-p-preserved c =
    let rows = c.args.by.now.rows.now in
    let levels = c.args.by.now.levels.now in
    let p = c.loop-p.p in
    let q = c.args.q in
    let row = c.loop-p.row.items in
    let test = c.in_ok-test_between.field-0 in
    let count = c.loop-p.invariant.each in
    let items = c.in_ok-push.ensures.items in
    let size = ap (λ (ts : List (List ℕ)). length ts) items ∙ length-append row (test ∷ []) in
    let kept : c.as_slice-kept.result.now ≡ (last_level levels).kept =
    kept_read levels c.index-levels-levels.result c.as_slice-kept.result.now c.requires.levels.some c.as_slice-kept.ensures in
    let told : TellsApart rows levels (kept_at levels p) (kept_at levels q) test =
    subst (λ (ks : List ℕ). TellsApart rows levels (nth ks p) (nth ks q) test) kept c.in_ok-test_between.ensures in
    let last : TellsApart rows levels (kept_at levels (length row)) (kept_at levels q) test =
    subst (λ (n : ℕ). TellsApart rows levels (kept_at levels n) (kept_at levels q) test) (sym count) told in
    record {
      each = omega arith;
      told = subst (λ (ts : List (List ℕ)). (k : ℕ) → k < length ts → TellsApart rows levels (kept_at levels k) (kept_at levels q) (slice_index_or ts k []))
          (sym items)
          (pushed (λ (k : ℕ) (t : List ℕ). TellsApart rows levels (kept_at levels k) (kept_at levels q) t) row test [] c.loop-p.invariant.told last);
    }

pub returns : goal.returns
returns c =
    let count = c.loop-p.invariant.each in
    let past = c.loop-p-test.false in
    let low = c.loop-p.auto.p-end in
    subst (λ (row : List (List ℕ)). AreTestsWith c.args.by.now.rows.now c.args.by.now.levels.now c.args.q row) (sym c.new.ensures)
    (record { each = omega arith; told = λ p l. c.loop-p.invariant.told p (omega arith) })
