use Rattle.std.proofs.Common.{sym, subst, Bool}
use Rattle.vlsi_base.specs.Member.{In}
use Rattle.vlsi_base.specs.declared.kind.Kind.{Kind}
use Rattle.vlsi_base.specs.declared.kind.Kind.TheVariants as kind
use Rattle.cell_model.specs.Covering.{HasCellOf, needed}
use Rattle.boog_map.proofs.Choosing.{needs_inv, needs_dff}
use Rattle.boog_map.proofs.choice.register_part.Goals as goal
use Rattle.boog_map.proofs.choice.register_part.Goals.{then-registers, else-registers}

pub chosen-requires-clause-there : goal.chosen-requires-clause-there
chosen-requires-clause-there c = elim c.if-registers.branch [
  | then-registers w ↦
      subst (λ (k : Kind). HasCellOf c.args.cells.now k) (sym w.kind-is)
      (c.requires.there kind.Dff (subst (λ (b : Bool). In kind.Dff (needed b)) (sym w.if-registers.true) needs_dff))
  | else-registers w ↦ subst (λ (k : Kind). HasCellOf c.args.cells.now k) (sym w.kind-is) (c.requires.there kind.Inv (needs_inv c.args.registers))
]
