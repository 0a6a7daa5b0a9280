use Rattle.std.proofs.Common.{sym, rules}
use Rattle.real_boxes.proofs.Firsts.{unfit_layer, unfit_refusal}
use Rattle.real_boxes.proofs.making.check_fit.Goals as goal

pub name_of-real-requires : goal.name_of-real-requires
name_of-real-requires c = unfit_layer c.args.entries.now c.args.grid c.args.boxes.now c.in-Some.one c.requires.layers (sym c.in-Some.ensures)

pub returns-clause-refused : goal.returns-clause-refused
returns-clause-refused c =
    let refused =
    unfit_refusal c.args.entries.now c.args.grid c.args.boxes.now c.in-Some.one c.name_of-real.result.now c.unfit.result (sym c.in-Some.ensures) c.name_of-real.ensures c.unfit.ensures in
    search rules
