use Rattle.syf_machine.proofs.Encoded.{does_as}
use Rattle.syf_machine.proofs.law.machine_does_as.Goals as goal

pub returns : goal.returns
returns c = λ f k m checked are made.
    does_as f k m c.texts_are_free.ensures.free c.assigned_is_known.ensures c.steps_with_state.ensures c.resets_from_all.ensures c.runs_from_state.ensures c.runs_after_reset.ensures checked are made
