use Rattle.std.proofs.Common.{◌<◌, length, arith}
use Rattle.std.proofs.lemmas.List.{get_or_read}
use Rattle.std.proofs.lemmas.Result.{err_from_is_err_and}
use Rattle.boom_muxes.proofs.Finding.{found_none, says_even, low_refused, high_refused, absent_above, chosen_found}
use Rattle.boom_muxes.proofs.rebuild.+literal_of.Goals as goal

pub returns-in_default-branch : goal.returns-in_default-branch
returns-in_default-branch t c = (
  found_none c.args.diagram.now c.args.at c.args.muxes.now c.args.known.now.entries c.requires.table c.requires.known,
  says_even c.args.muxes.now c.args.diagram.now c.args.at c.same-is_zero.result c.requires.diagram c.in_default-branch.ensures.none c.same-is_zero.ensures,
)

pub returns-in-Some : goal.returns-in-Some
returns-in-Some t c = (
  found_none c.args.diagram.now c.args.at c.args.muxes.now c.args.known.now.entries c.requires.table c.requires.known,
  c.requires.known.says c.args.at c.in-Some.literal c.in-Some.ensures.found,
)

pub returns-in_err-low : goal.returns-in_err-low
returns-in_err-low t c =
    let b = c.in_Some-branch.branch in
    let p = err_from_is_err_and c.from_residual.result c.from_residual.ensures.1 in
    rw (p.1, p.2)
    (low_refused c.args.diagram.now c.args.at b.low b.high c.in_Some-branch.ensures.split c.in_Some-branch.ensures.low.1 c.in_Some-branch.ensures.high.1
    c.args.muxes.now c.literal_of.new.muxes c.args.known.now.entries c.literal_of.new.known.entries c.in_err-low.field-0.0 c.in_err-low.ensures)

pub returns-in_err-high : goal.returns-in_err-high
returns-in_err-high t c =
    let b = c.in_Some-branch.branch in
    let p = err_from_is_err_and c.from_residual-in_err-high.result c.from_residual-in_err-high.ensures.1 in
    rw (p.1, p.2)
    (high_refused c.args.diagram.now c.args.at b.low b.high c.in_Some-branch.ensures.split c.in_Some-branch.ensures.low.1 c.in_Some-branch.ensures.high.1
    c.args.muxes.now c.literal_of.new.muxes c.literal_of-2.new.muxes c.args.known.now.entries c.literal_of.new.known.entries c.literal_of-2.new.known.entries c.in_err-high.field-0.0
    c.in_ok-low.ensures.0 c.in_err-high.ensures)

pub choose-requires-clause-absent : goal.choose-requires-clause-absent
choose-requires-clause-absent t c =
    let b = c.in_Some-branch.branch in
    absent_above c.args.diagram.now b.high c.args.at c.literal_of.new.muxes c.literal_of-2.new.muxes c.literal_of.new.known.entries c.literal_of-2.new.known.entries c.in_Some-branch.ensures.high.1
    c.in_ok-high.ensures.0
    (absent_above c.args.diagram.now b.low c.args.at c.args.muxes.now c.literal_of.new.muxes c.args.known.now.entries c.literal_of.new.known.entries c.in_Some-branch.ensures.low.1
    c.in_ok-low.ensures.0 c.in_default.ensures.absent)

pub returns : goal.returns
returns t c =
    let b = c.in_Some-branch.branch in
    let within : b.variable < length c.args.diagram.now.order.items = (let w = c.in_Some-branch.ensures.branch.within in let v = c.requires.diagram.vars in omega (arith, w, v)) in
    chosen_found c.args.diagram.now c.args.at b.low b.high c.in_Some-branch.ensures.split c.in_Some-branch.ensures.low.1 c.in_Some-branch.ensures.high.1
    c.args.muxes.now c.literal_of.new.muxes c.literal_of-2.new.muxes c.choose.new.muxes c.args.known.now.entries c.literal_of.new.known.entries c.literal_of-2.new.known.entries c.choose.new.known.entries
    c.requires.diagram c.requires.node c.in_default.ensures.absent c.in_ok-low.ensures.0 c.in_ok-high.ensures.0
    (record { select = c.index-select.result.now; low = c.in_ok-low.low; high = c.in_ok-high.high }) c.in_ok-low.ensures.1 c.in_ok-high.ensures.1
    b.variable c.in_Some-branch.ensures.branch (get_or_read c.args.diagram.now.order.items _ _ within c.index-select.ensures 0) c.choose.result c.choose.ensures
