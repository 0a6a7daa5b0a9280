use Rattle.std.proofs.Common.{sym, subst}
use Rattle.tool_drive.specs.Outside.{IsLine}
use Rattle.tool_drive.specs.Lines.{line_of}
use Rattle.tool_run.specs.declared.words.Command.{Command}
use Rattle.tool_run.specs.Answers.{word_of}
use Rattle.tool_run.proofs.run.run_tool.Goals as goal

pub returns-in-Syf-clause-line : goal.returns-in-Syf-clause-line
returns-in-Syf-clause-line g c lined =
    subst (λ (k : Command). IsLine (g.T.Sink.seen c.args.out.now) (g.T.Sink.seen c.drive.new.out) (line_of (word_of k) c.drive.result)) (sym c.in-Syf.is)
    (c.drive.ensures.line lined)

pub returns-in-Boom-clause-line : goal.returns-in-Boom-clause-line
returns-in-Boom-clause-line g c lined =
    subst (λ (k : Command). IsLine (g.T.Sink.seen c.args.out.now) (g.T.Sink.seen c.drive-in-Boom.new.out) (line_of (word_of k) c.drive-in-Boom.result)) (sym c.in-Boom.is)
    (c.drive-in-Boom.ensures.line lined)

pub returns-in-Boog-clause-line : goal.returns-in-Boog-clause-line
returns-in-Boog-clause-line g c lined =
    subst (λ (k : Command). IsLine (g.T.Sink.seen c.args.out.now) (g.T.Sink.seen c.drive-in-Boog.new.out) (line_of (word_of k) c.drive-in-Boog.result)) (sym c.in-Boog.is)
    (c.drive-in-Boog.ensures.line lined)

pub returns-in-Loon-clause-line : goal.returns-in-Loon-clause-line
returns-in-Loon-clause-line g c lined =
    subst (λ (k : Command). IsLine (g.T.Sink.seen c.args.out.now) (g.T.Sink.seen c.drive-in-Loon.new.out) (line_of (word_of k) c.drive-in-Loon.result)) (sym c.in-Loon.is)
    (c.drive-in-Loon.ensures.line lined)

pub returns-in-Ocp-clause-line : goal.returns-in-Ocp-clause-line
returns-in-Ocp-clause-line g c lined =
    subst (λ (k : Command). IsLine (g.T.Sink.seen c.args.out.now) (g.T.Sink.seen c.drive-in-Ocp.new.out) (line_of (word_of k) c.drive-in-Ocp.result)) (sym c.in-Ocp.is)
    (c.drive-in-Ocp.ensures.line lined)

pub returns-in-Nero-clause-line : goal.returns-in-Nero-clause-line
returns-in-Nero-clause-line g c lined =
    subst (λ (k : Command). IsLine (g.T.Sink.seen c.args.out.now) (g.T.Sink.seen c.drive-in-Nero.new.out) (line_of (word_of k) c.drive-in-Nero.result)) (sym c.in-Nero.is)
    (c.drive-in-Nero.ensures.line lined)

pub returns-in-Asimut-clause-line : goal.returns-in-Asimut-clause-line
returns-in-Asimut-clause-line g c lined =
    subst (λ (k : Command). IsLine (g.T.Sink.seen c.args.out.now) (g.T.Sink.seen c.run_asimut.new.out) (line_of (word_of k) c.run_asimut.result)) (sym c.in-Asimut.is)
    (c.run_asimut.ensures.line lined)

pub returns-in-Cougar-clause-line : goal.returns-in-Cougar-clause-line
returns-in-Cougar-clause-line g c lined =
    subst (λ (k : Command). IsLine (g.T.Sink.seen c.args.out.now) (g.T.Sink.seen c.drive-in-Cougar.new.out) (line_of (word_of k) c.drive-in-Cougar.result)) (sym c.in-Cougar.is)
    (c.drive-in-Cougar.ensures.line lined)

pub returns-in-Lvx-clause-line : goal.returns-in-Lvx-clause-line
returns-in-Lvx-clause-line g c lined =
    subst (λ (k : Command). IsLine (g.T.Sink.seen c.args.out.now) (g.T.Sink.seen c.drive-in-Lvx.new.out) (line_of (word_of k) c.drive-in-Lvx.result)) (sym c.in-Lvx.is)
    (c.drive-in-Lvx.ensures.line lined)

pub returns-in-Druc-clause-line : goal.returns-in-Druc-clause-line
returns-in-Druc-clause-line g c lined =
    subst (λ (k : Command). IsLine (g.T.Sink.seen c.args.out.now) (g.T.Sink.seen c.drive-in-Druc.new.out) (line_of (word_of k) c.drive-in-Druc.result)) (sym c.in-Druc.is)
    (c.drive-in-Druc.ensures.line lined)

pub returns-in-Proof-clause-line : goal.returns-in-Proof-clause-line
returns-in-Proof-clause-line g c lined =
    subst (λ (k : Command). IsLine (g.T.Sink.seen c.args.out.now) (g.T.Sink.seen c.drive-in-Proof.new.out) (line_of (word_of k) c.drive-in-Proof.result)) (sym c.in-Proof.is)
    (c.drive-in-Proof.ensures.line lined)

pub returns-in-Flatbeh-clause-line : goal.returns-in-Flatbeh-clause-line
returns-in-Flatbeh-clause-line g c lined =
    subst (λ (k : Command). IsLine (g.T.Sink.seen c.args.out.now) (g.T.Sink.seen c.drive-in-Flatbeh.new.out) (line_of (word_of k) c.drive-in-Flatbeh.result)) (sym c.in-Flatbeh.is)
    (c.drive-in-Flatbeh.ensures.line lined)

pub returns-in-S2r-clause-line : goal.returns-in-S2r-clause-line
returns-in-S2r-clause-line g c lined =
    subst (λ (k : Command). IsLine (g.T.Sink.seen c.args.out.now) (g.T.Sink.seen c.drive-in-S2r.new.out) (line_of (word_of k) c.drive-in-S2r.result)) (sym c.in-S2r.is)
    (c.drive-in-S2r.ensures.line lined)

pub returns-in-Scapin-clause-line : goal.returns-in-Scapin-clause-line
returns-in-Scapin-clause-line g c lined =
    subst (λ (k : Command). IsLine (g.T.Sink.seen c.args.out.now) (g.T.Sink.seen c.drive-in-Scapin.new.out) (line_of (word_of k) c.drive-in-Scapin.result)) (sym c.in-Scapin.is)
    (c.drive-in-Scapin.ensures.line lined)

pub returns-in-Fmi-clause-line : goal.returns-in-Fmi-clause-line
returns-in-Fmi-clause-line g c lined =
    subst (λ (k : Command). IsLine (g.T.Sink.seen c.args.out.now) (g.T.Sink.seen c.drive-in-Fmi.new.out) (line_of (word_of k) c.drive-in-Fmi.result)) (sym c.in-Fmi.is)
    (c.drive-in-Fmi.ensures.line lined)

pub returns-in-Rip-clause-line : goal.returns-in-Rip-clause-line
returns-in-Rip-clause-line g c lined =
    subst (λ (k : Command). IsLine (g.T.Sink.seen c.args.out.now) (g.T.Sink.seen c.drive-in-Rip.new.out) (line_of (word_of k) c.drive-in-Rip.result)) (sym c.in-Rip.is)
    (c.drive-in-Rip.ensures.line lined)

pub returns-in-Area-clause-line : goal.returns-in-Area-clause-line
returns-in-Area-clause-line g c lined =
    subst (λ (k : Command). IsLine (g.T.Sink.seen c.args.out.now) (g.T.Sink.seen c.drive-in-Area.new.out) (line_of (word_of k) c.drive-in-Area.result)) (sym c.in-Area.is)
    (c.drive-in-Area.ensures.line lined)
