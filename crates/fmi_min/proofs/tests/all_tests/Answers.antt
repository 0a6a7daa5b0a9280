use Rattle.std.proofs.Common.{◌≡◌, ◌∷◌, ◌<◌, [], ℕ, List, length, length-append, sym, ap, ◌∙◌, subst, arith}
use Rattle.fmi_refine.specs.Refined.{last_level}
use Rattle.std.specs.List.{slice_index_or}
use Rattle.fmi_min.specs.Tests.{AreTestsWith, AreAllTests}
use Rattle.fmi_min.proofs.Listing.{pushed}
use Rattle.fmi_min.proofs.Keeping.{kept_read}
use Rattle.fmi_min.proofs.tests.all_tests.Goals as goal

pub loop-q-preserved : goal.loop-q-preserved
loop-q-preserved c =
    let rows = c.args.by.now.rows.now in
    let levels = c.args.by.now.levels.now in
    let tests = c.loop-q.tests.items in
    let row = c.in_ok-tests_with.field-0 in
    let count = c.loop-q.invariant.each in
    let items = c.in_ok-push.ensures.items in
    let size = ap (λ (ts : List (List (List ℕ))). length ts) items ∙ length-append tests (row ∷ []) in
    let last : AreTestsWith rows levels (length tests) row =
    subst (λ (n : ℕ). AreTestsWith rows levels n row) (sym count) c.in_ok-tests_with.ensures in
    record {
      each = omega arith;
      told = subst (λ (ts : List (List (List ℕ))). (k : ℕ) → k < length ts → AreTestsWith rows levels k (slice_index_or ts k [])) (sym items)
          (pushed (λ (k : ℕ) (r : List (List ℕ)). AreTestsWith rows levels k r) tests row [] c.loop-q.invariant.told last);
    }

pub returns : goal.returns
returns c =
    let levels = c.args.by.now.levels.now in
    let kept : c.as_slice-count.result.now ≡ (last_level levels).kept =
    kept_read levels c.index-levels-levels.result c.as_slice-count.result.now c.requires.levels.some c.as_slice-count.ensures in
    let size = ap (λ (ks : List ℕ). length ks) kept in
    let count = c.loop-q.invariant.each in
    let past = c.loop-q-test.false in
    let low = c.loop-q.auto.q-end in
    subst (λ (tests : List (List (List ℕ))). AreAllTests c.args.by.now.rows.now levels tests) (sym c.new.ensures)
    (record { each = omega arith; told = c.loop-q.invariant.told })
