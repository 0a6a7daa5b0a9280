use Rattle.bdd_core.specs.Diagram.{function_of}
use Rattle.boom_choose.proofs.Constant.{branch_apart, other_bit}
use Rattle.boom_choose.proofs.pick.is_everywhere.Goals as goal

pub returns-in_Some-diagrams-clause-no : goal.returns-in_Some-diagrams-clause-no
returns-in_Some-diagrams-clause-no c = λ _ is.
    let b = c.in_Some-diagrams.field-0 in
    branch_apart c.args.diagrams.now.table.vars b.variable (function_of c.args.diagrams.now c.args.at) (function_of c.args.diagrams.now b.low)
    (function_of c.args.diagrams.now b.high) c.args.bit c.in_Some-diagrams.ensures.branch is

pub returns-in_ok-constant-in_None-diagrams-clause-no : goal.returns-in_ok-constant-in_None-diagrams-clause-no
returns-in_ok-constant-in_None-diagrams-clause-no c =
    other_bit c.args.diagrams.now.table.vars (function_of c.args.diagrams.now c.args.at) c.in_ok-constant-in_None-diagrams.constant c.args.bit
    c.in_ok-constant-in_None-diagrams.ensures
