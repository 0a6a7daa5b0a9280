use Rattle.std.proofs.Common.{◌<◌, ◌≤◌, length, ◌∙◌, arith}
use Rattle.scapin_run.proofs.Placing.{found_at, passed_at, other_at, end_at, test_at}
use Rattle.scapin_run.proofs.refusals.line_of.Goals as goal

pub returns-then-left-eq0 : goal.returns-then-left-eq0
returns-then-left-eq0 c =
    let low : c.loop-place.place < length c.args.path.now.names.items = let end = c.len-place-end.ensures in let before = c.loop-place-test.true in omega (arith, end, before) in
    let same = test_at c.args.path.now.names.items c.loop-place.place c.index.result.now c.args.text.now c.is_same.result low c.index.ensures c.is_same.ensures in
    c.line_at.ensures
    ∙ found_at c.args.path.now.names.items c.args.path.now.lines.items c.args.path.now.last _ c.args.text.now c.loop-place.place c.loop-place.left low (same ∙ c.if-not-is_same.false)
    c.if-left-eq0.true c.loop-place.invariant

pub loop-place-preserved-then-not-is_same : goal.loop-place-preserved-then-not-is_same
loop-place-preserved-then-not-is_same c =
    let low : c.loop-place.place < length c.args.path.now.names.items = let end = c.len-place-end.ensures in let before = c.loop-place-test.true in omega (arith, end, before) in
    let same = test_at c.args.path.now.names.items c.loop-place.place c.index.result.now c.args.text.now c.is_same.result low c.index.ensures c.is_same.ensures in
    other_at c.args.path.now.names.items c.args.path.now.lines.items c.args.path.now.last _ c.args.text.now c.loop-place.place c.loop-place.left low (same ∙ c.if-not-is_same.true)
    c.loop-place.invariant

pub loop-place-preserved : goal.loop-place-preserved
loop-place-preserved c =
    let low : c.loop-place.place < length c.args.path.now.names.items = let end = c.len-place-end.ensures in let before = c.loop-place-test.true in omega (arith, end, before) in
    let same = test_at c.args.path.now.names.items c.loop-place.place c.index.result.now c.args.text.now c.is_same.result low c.index.ensures c.is_same.ensures in
    passed_at c.args.path.now.names.items c.args.path.now.lines.items c.args.path.now.last _ c.args.text.now c.loop-place.place c.loop-place.left low (same ∙ c.if-not-is_same.false)
    (let other = c.if-left-eq0.false in omega (arith, other)) c.loop-place.invariant

pub returns : goal.returns
returns c =
    let over : length c.args.path.now.names.items ≤ c.loop-place.place = let end = c.len-place-end.ensures in let past = c.loop-place-test.false in omega (arith, end, past) in
    end_at c.args.path.now.names.items c.args.path.now.lines.items c.args.path.now.last _ c.args.text.now c.loop-place.place c.loop-place.left over c.loop-place.invariant
