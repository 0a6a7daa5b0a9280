use Rattle.std.proofs.Common.{IfSome, Some, sym, subst}
use Rattle.flow_run.specs.declared.command.Command.{Command}
use Rattle.flow_run.specs.Commands.{word_of, as_gen}
use Rattle.tool_drive.specs.Outside.{outside, IsLine}
use Rattle.tool_drive.specs.Lines.{line_of}
use Rattle.flow_run.specs.Generated.{IsRun}
use Rattle.flow_run.proofs.top.run.Goals as goal

pub returns-in-Gen-clause-run : goal.returns-in-Gen-clause-run
returns-in-Gen-clause-run g c =
    subst
    (λ (k : Command).
    IfSome (as_gen (Some k))
    (λ made.
    IsRun made (outside (g.S.Shelf.seen c.args.shelf.now) (g.T.Sink.seen c.args.out.now)) (outside (g.S.Shelf.seen c.run_gen.new.shelf) (g.T.Sink.seen c.run_gen.new.out))
    c.run_gen.result))
    (sym c.in-Gen.is) c.run_gen.ensures.run

pub returns-in-Tool-clause-line : goal.returns-in-Tool-clause-line
returns-in-Tool-clause-line g c lined =
    subst (λ (k : Command). IsLine (g.T.Sink.seen c.args.out.now) (g.T.Sink.seen c.run_tool.new.out) (line_of (word_of k) c.run_tool.result)) (sym c.in-Tool.is)
    (c.run_tool.ensures.line lined)

pub returns-in-Flow-clause-line : goal.returns-in-Flow-clause-line
returns-in-Flow-clause-line g c lined =
    subst (λ (k : Command). IsLine (g.T.Sink.seen c.args.out.now) (g.T.Sink.seen c.run_flow.new.out) (line_of (word_of k) c.run_flow.result)) (sym c.in-Flow.is)
    (c.run_flow.ensures.line lined)

pub returns-in-Gen-clause-line : goal.returns-in-Gen-clause-line
returns-in-Gen-clause-line g c lined =
    subst (λ (k : Command). IsLine (g.T.Sink.seen c.args.out.now) (g.T.Sink.seen c.run_gen.new.out) (line_of (word_of k) c.run_gen.result)) (sym c.in-Gen.is)
    (c.run_gen.ensures.line lined)
