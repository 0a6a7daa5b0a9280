use Rattle.std.proofs.Common.{[], ◌∷◌, length, sym, subst}
use Rattle.sym_geom.specs.declared.item.Item.{Item}
use Rattle.vlsi_base.specs.Member.{In, here}
use Rattle.cell_model.specs.Layout.{instances_of}
use Rattle.cell_checks.specs.Checked.{library_of}
use Rattle.net_core.specs.Joins.{draft_terminals}
use Rattle.cougar_extract.proofs.PinCounts.{room_for}
use Rattle.cougar_extract.proofs.build.add_item.Goals as goal

pub add_instance-requires-clause-known : goal.add_instance-requires-clause-known
add_instance-requires-clause-known c =
    c.requires.known c.in-Instance.instance (subst (λ (x : Item). In c.in-Instance.instance (instances_of (x ∷ []))) (sym c.in-Instance.is) here)

pub add_instance-requires-clause-fresh : goal.add_instance-requires-clause-fresh
add_instance-requires-clause-fresh c =
    c.requires.fresh c.in-Instance.instance (subst (λ (x : Item). In c.in-Instance.instance (instances_of (x ∷ []))) (sym c.in-Instance.is) here)

pub add_instance-requires-clause-room : goal.add_instance-requires-clause-room
add_instance-requires-clause-room c =
    room_for (length (draft_terminals c.args.builder.now)) (library_of c.args.cells.now) c.args.item.now c.in-Instance.instance c.in-Instance.is c.requires.room
