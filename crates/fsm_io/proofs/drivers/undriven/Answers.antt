use Rattle.std.proofs.Common.{◌∙◌, map}
use Rattle.fsm_text.specs.Written.{machine_view}
use Rattle.fsm_io.specs.Pieces.{mention_of}
use Rattle.fsm_io.proofs.Suiting.{undriven_is}
use Rattle.fsm_io.proofs.drivers.undriven.Goals as goal

pub returns : goal.returns
returns c =
    c.in_ok-found.ensures
    ∙ undriven_is (machine_view c.args.file.now) c.args.numbers.now c.as_slice.result.now (map mention_of c.args.mentions.now) c.in_ok-marks.marks.items c.deref.result.now
    c.requires.known (c.as_slice.ensures ∙ c.table.ensures) c.deref.ensures.value c.requires.mentions c.requires.different c.in_ok-marks.ensures
