use Rattle.std.proofs.Common.{refl, sym, ◌∙◌, ap, subst}
use Rattle.boog_area.specs.Refused.{IsTreeRefusal}
use Rattle.boog_area.specs.declared.error.TreeError.{TreeError}
use Rattle.boog_area.specs.declared.error.TreeError.TheVariants as error
use Rattle.tool_drive.specs.declared.status.Status.TheVariants as status
use Rattle.area_run.specs.Area.{no_cell}
use Rattle.area_run.proofs.Sizes.{numberable, fits, low_roots, reads_earlier}
use Rattle.area_run.proofs.Measuring.{cover_measures}
use Rattle.area_run.proofs.measure.measured.Goals as goal

pub needed_part-requires : goal.needed_part-requires
needed_part-requires c = numberable c.args.machine.now c.requires c.in_ok-check_size.ensures.small

pub held_count-held-requires : goal.held_count-held-requires
held_count-held-requires c = numberable c.args.machine.now c.requires c.in_ok-check_size.ensures.small

pub least_area-requires-clause-numbers : goal.least_area-requires-clause-numbers
least_area-requires-clause-numbers c =
    fits c.args.machine.now c.in-Ok.part c.in-Ok.ensures.part c.held_count-held.result c.held_count-held.ensures
    (numberable c.args.machine.now c.requires c.in_ok-check_size.ensures.small)

pub least_area-requires-clause-earlier : goal.least_area-requires-clause-earlier
least_area-requires-clause-earlier c =
    reads_earlier c.args.machine.now c.in-Ok.part c.in-Ok.ensures.part c.held_count-held.result c.held_count-held.ensures c.in-Ok.ensures.earlier

pub least_area-requires-clause-roots : goal.least_area-requires-clause-roots
least_area-requires-clause-roots c = low_roots c.args.machine.now c.in-Ok.part c.in-Ok.ensures.part c.held_count-held.result c.held_count-held.ensures

pub measure_of-requires-clause-numbers : goal.measure_of-requires-clause-numbers
measure_of-requires-clause-numbers c =
    fits c.args.machine.now c.in-Ok.part c.in-Ok.ensures.part c.held_count-held.result c.held_count-held.ensures
    (numberable c.args.machine.now c.requires c.in_ok-check_size.ensures.small)

pub measure_of-requires-clause-earlier : goal.measure_of-requires-clause-earlier
measure_of-requires-clause-earlier c =
    reads_earlier c.args.machine.now c.in-Ok.part c.in-Ok.ensures.part c.held_count-held.result c.held_count-held.ensures c.in-Ok.ensures.earlier

pub measure_of-requires-clause-roots : goal.measure_of-requires-clause-roots
measure_of-requires-clause-roots c =
    low_roots c.args.machine.now c.in-Ok.part c.in-Ok.ensures.part c.held_count-held.result c.held_count-held.ensures

pub returns-in-Ok-measure_of-clause-has : goal.returns-in-Ok-measure_of-clause-has
returns-in-Ok-measure_of-clause-has c =
    cover_measures c.args.library.now c.args.machine.now c.in-Ok.part c.in-Ok-least_area.cover c.held_count-held.result c.in-Ok-measure_of.measure.trees
    c.in-Ok-measure_of.measure.area c.in-Ok.ensures.part c.held_count-held.ensures c.in-Ok-least_area.ensures.least c.in-Ok-measure_of.ensures.bounds
    c.in-Ok-measure_of.ensures.trees c.in-Ok-measure_of.ensures.area

pub returns-clause-refused : goal.returns-clause-refused
returns-clause-refused c =
    let missing =
    subst (λ (e : TreeError). IsTreeRefusal c.args.library.now e) c.in-Err-NoCover.field-0-is c.in-Err-NoCover.ensures.refused in
    no_cell c.in_ok-check_size.ensures.small c.in-Err-NoCover.kind missing (ap status.NoCover c.in-Err-NoCover.kind-is)
