use Rattle.std.proofs.Common.{◌∙◌, sym}
use Rattle.scan_theory.specs.Gates.{read_class}
use Rattle.scapin.specs.Gates.{reads_of}
use Rattle.scapin.proofs.Stepping.{read_next}
use Rattle.scapin.proofs.classes.read_class.Goals as goal

pub loop-place-preserved : goal.loop-place-preserved
loop-place-preserved c =
    read_next c.args.inputs.now (reads_of c.args.gate) c.args.output (read_class c.args.inputs.now (reads_of c.args.gate) c.args.output c.args.pin.now) c.args.pin.now
    c.index-inputs-place.result c.loop-place.place c.loop-place-test.true c.index-inputs-place.is (sym c.is_same.ensures ∙ c.if-is_same.false) c.loop-place.invariant
