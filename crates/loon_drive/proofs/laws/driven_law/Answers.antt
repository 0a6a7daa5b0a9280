use Rattle.loon_drive.proofs.Grown.{driven_is_grown, driven_is_chosen, buffers_have_few_pins}
use Rattle.loon_drive.proofs.Nets.{driven_joins_nothing, driven_has_few_inputs, driven_needs_its_buffers}
use Rattle.loon_drive.proofs.laws.driven_law.Goals as goal

pub returns-clause-grown : goal.returns-clause-grown
returns-clause-grown c = driven_is_grown c.limited_law.ensures

pub returns-clause-chosen : goal.returns-clause-chosen
returns-clause-chosen c = driven_is_chosen c.limited_law.ensures

pub returns-clause-pins : goal.returns-clause-pins
returns-clause-pins c = buffers_have_few_pins c.limited_law.ensures

pub returns-clause-joins_nothing : goal.returns-clause-joins_nothing
returns-clause-joins_nothing c = driven_joins_nothing c.joins_nothing_law.ensures

pub returns-clause-inputs : goal.returns-clause-inputs
returns-clause-inputs c = driven_has_few_inputs c.few_inputs_law.ensures.buffered

pub returns-clause-needed : goal.returns-clause-needed
returns-clause-needed c = driven_needs_its_buffers c.needed_law.ensures
