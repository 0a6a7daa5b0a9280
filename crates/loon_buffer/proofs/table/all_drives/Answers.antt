use Rattle.std.proofs.Common.{◌≡◌, length, arith}
use Rattle.loon_buffer.proofs.Listing.{drives_more, drives_all}
use Rattle.loon_buffer.proofs.table.all_drives.Goals as goal

pub loop-place-preserved : goal.loop-place-preserved
loop-place-preserved c =
    drives_more c.args.cells.now c.loop-place.drives.items c.push.new.self.items c.loop-place.place c.in_ok-other_drives.field-0 c.in_ok-other_drives.ensures c.in_ok-push.ensures.items c.loop-place.invariant

pub returns : goal.returns
returns c =
    let l = c.loop-place-test.false in
    let m = c.loop-place.auto.place-end in
    let e : c.loop-place.place ≡ length c.args.cells.now = omega (arith, l, m) in
    drives_all c.args.cells.now c.loop-place.drives.items c.loop-place.place e c.loop-place.invariant
