use Rattle.std.proofs.Common.{sym, subst}
use Rattle.tool_drive.specs.Outside.{IsLine}
use Rattle.tool_drive.specs.Lines.{line_of}
use Rattle.asimut_run.specs.declared.words.AsimutTask.{AsimutTask}
use Rattle.tool_run.specs.declared.words.Command.TheVariants as command
use Rattle.tool_run.specs.Answers.{word_of}
use Rattle.tool_run.proofs.run.run_asimut.Goals as goal

pub returns-in-Source-clause-line : goal.returns-in-Source-clause-line
returns-in-Source-clause-line g c lined =
    subst (λ (t : AsimutTask). IsLine (g.T.Sink.seen c.args.out.now) (g.T.Sink.seen c.drive.new.out) (line_of (word_of (command.Asimut t)) c.drive.result)) (sym c.in-Source.is)
    (c.drive.ensures.line lined)

pub returns-in-Netlist-clause-line : goal.returns-in-Netlist-clause-line
returns-in-Netlist-clause-line g c lined =
    subst (λ (t : AsimutTask). IsLine (g.T.Sink.seen c.args.out.now) (g.T.Sink.seen c.drive-in-Netlist.new.out) (line_of (word_of (command.Asimut t)) c.drive-in-Netlist.result)) (sym c.in-Netlist.is)
    (c.drive-in-Netlist.ensures.line lined)
