use Rattle.std.proofs.Common.{◌≡◌, ◌+◌, ℕ, true, false, length, ap, sym, ◌∙◌, subst, arith}
use Rattle.std.specs.Global.{Vec}
use Rattle.loon_buffer.specs.Drives.{AreOtherDrives}
use Rattle.loon_buffer.proofs.Listing.{one_more, no_more}
use Rattle.loon_buffer.proofs.table.other_drives.Goals.{then-is_other_drive+in_ok-push, else-is_other_drive}
use Rattle.loon_buffer.proofs.table.other_drives.Goals as goal

pub loop-k-preserved : goal.loop-k-preserved
loop-k-preserved c = elim c.if-is_other_drive.branch [
  | then-is_other_drive+in_ok-push w ↦
      one_more c.args.cells.now c.args.place c.loop-k.k c.loop-k.drives.items c.if-is_other_drive.drives.items (c.is_other_drive.ensures.0 w.if-is_other_drive.true)
      (ap (λ (v : Vec ℕ). v.items) w.drives-is ∙ w.in_ok-push.ensures.items) c.loop-k.invariant
  | else-is_other_drive w ↦
      subst (λ (v : Vec ℕ). AreOtherDrives c.args.cells.now c.args.place (c.loop-k.k + 1) v.items) (sym w.drives-is)
      (no_more c.args.cells.now c.args.place c.loop-k.k c.loop-k.drives.items
      (λ h. let no : true ≡ false = sym (c.is_other_drive.ensures.1 h) ∙ w.if-is_other_drive.false in absurd cc) c.loop-k.invariant)
]

pub returns : goal.returns
returns c =
    let l = c.loop-k-test.false in
    let m = c.loop-k.auto.k-end in
    let e : c.loop-k.k ≡ length c.args.cells.now = omega (arith, l, m) in
    subst (λ end. AreOtherDrives c.args.cells.now c.args.place end c.loop-k.drives.items) e c.loop-k.invariant
