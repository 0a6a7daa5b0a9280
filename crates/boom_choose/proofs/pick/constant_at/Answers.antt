use Rattle.std.proofs.Common.{sym, subst}
use Rattle.bdd_core.specs.Diagram.{function_of}
use Rattle.boom_choose.specs.Pick.{IsEverywhere}
use Rattle.boom_choose.proofs.Constant.{found_or_not}
use Rattle.boom_choose.proofs.pick.constant_at.Goals as goal

pub returns : goal.returns
returns c =
    let n = c.args.diagrams.now.table.vars in
    let f = function_of c.args.diagrams.now c.args.at in
    subst (IsEverywhere n f) (sym c.is_some.ensures)
    (found_or_not (λ v. v.items) n f c.in_ok-one.one c.requires.constant c.in_ok-one.ensures.length c.in_ok-one.ensures.one c.in_ok-one.ensures.none)
