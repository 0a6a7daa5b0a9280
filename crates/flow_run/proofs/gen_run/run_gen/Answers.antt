use Rattle.std.proofs.Common.{refl, subst}
use Rattle.tool_drive.specs.declared.status.Status.{Status}
use Rattle.tool_drive.specs.Outside.{outside}
use Rattle.flow_run.specs.Generated.{IsUnwritten, unwritten, laid}
use Rattle.flow_run.proofs.gen_run.run_gen.Goals as goal

pub returns-in-Ok-clause-run : goal.returns-in-Ok-clause-run
returns-in-Ok-clause-run g c =
    laid (outside (g.S.Shelf.seen c.write_source.new.shelf) (g.T.Sink.seen c.args.out.now))
    (record { files = c.in-Ok.ensures.written; counts = c.in-Ok.ensures.counts; told = refl; faults = refl }) c.run_flow.ensures.cause c.run_flow.ensures.complete

pub returns-in-Err-clause-run : goal.returns-in-Err-clause-run
returns-in-Err-clause-run g c = unwritten (c.in-Err.ensures.unwritten (g.T.Sink.seen c.args.out.now) (g.T.Sink.seen c.tell.new.out))

pub returns-in-Err-clause-never_usage : goal.returns-in-Err-clause-never_usage
returns-in-Err-clause-never_usage g c is =
    subst
    (λ (s : Status).
    IsUnwritten c.args.command.now (outside (g.S.Shelf.seen c.args.shelf.now) (g.T.Sink.seen c.args.out.now))
    (outside (g.S.Shelf.seen c.write_source.new.shelf) (g.T.Sink.seen c.args.out.now)) s)
    is (c.in-Err.ensures.unwritten (g.T.Sink.seen c.args.out.now) (g.T.Sink.seen c.args.out.now))
