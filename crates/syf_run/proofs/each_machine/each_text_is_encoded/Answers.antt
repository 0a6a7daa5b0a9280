use Rattle.syf_run.proofs.EncodedCodes.{encoded}
use Rattle.syf_run.proofs.each_machine.each_text_is_encoded.Goals as goal

pub returns : goal.returns
returns c =
    encoded c.fsm_is_checked.ensures c.machine_has_few_signals.ensures.styles c.encodings_are_codes.ensures c.texts_are_free.ensures.free
    c.machine_is_ordered.ensures c.machine_does_as.ensures
