use Rattle.std.proofs.Common.{Option, sym, subst}
use Rattle.tool_drive.specs.declared.tool.Written.{Written}
use Rattle.tool_drive.specs.Outside.{outside}
use Rattle.tool_drive.specs.Table.{IsLeft}
use Rattle.tool_drive.proofs.Rows.{left_refused}
use Rattle.tool_drive.proofs.run.refuse.Goals as goal

pub returns-in-Ok : goal.returns-in-Ok
returns-in-Ok g c t =
    left_refused c.args.refusal.status c.args.refusal.part (outside (g.S.Shelf.seen c.args.shelf.now) t) (outside (g.S.Shelf.seen c.write.new.self) t) c.requires
    (subst (λ (p : Option Written). IsLeft (g.S.Shelf.seen c.args.shelf.now).files (g.S.Shelf.seen c.write.new.self).files p) (sym c.in-Some.is) (rw (sym c.as_bytes.ensures) c.in-Ok.ensures.ok))
