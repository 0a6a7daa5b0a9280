use Rattle.std.proofs.Common.{Option, subst, sym}
use Rattle.vlsi_base.specs.declared.kind.Kind.{Kind}
use Rattle.boog_area.proofs.TreeKinds.{Told, told, told_none, some_told, none_told}
use Rattle.boog_area.proofs.kinds.missing_kind.Goals as goal

pub returns-in-Some-clause-missing : goal.returns-in-Some-clause-missing
returns-in-Some-clause-missing c =
    some_told c.args.cells.now c.tree_kind.result
    (subst (λ (r : Option Kind). Told c.args.cells.now r) (sym c.tree_kind.ensures) (told c.args.cells.now c.in-Some.kind c.in-Some.ensures.missing))

pub returns-in-Some-clause-none : goal.returns-in-Some-clause-none
returns-in-Some-clause-none c =
    none_told c.args.cells.now c.tree_kind.result
    (subst (λ (r : Option Kind). Told c.args.cells.now r) (sym c.tree_kind.ensures) (told c.args.cells.now c.in-Some.kind c.in-Some.ensures.missing))

pub returns-in-None-clause-none : goal.returns-in-None-clause-none
returns-in-None-clause-none c = told_none c.args.cells.now c.in-None.ensures.none
