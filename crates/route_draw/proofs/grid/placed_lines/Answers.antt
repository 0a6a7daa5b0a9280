use Rattle.std.proofs.Common.{◌<◌, List, length, sym, ap, subst, ◌∙◌}
use Rattle.std.specs.Prelude.{◌/◌}
use Rattle.vlsi_base.specs.declared.name.Name.{Name}
use Rattle.vlsi_base.specs.declared.name.Port.{Port}
use Rattle.sym_geom.specs.declared.grid.TheConstants.{PITCH}
use Rattle.route_draw.specs.Pieces.{signal_names}
use Rattle.route_draw.specs.GridPieces.{bare_lines}
use Rattle.route_draw.proofs.grid.placed_lines.Goals as goal

pub bare_lines-requires-clause-wide : goal.bare_lines-requires-clause-wide
bare_lines-requires-clause-wide c =
    subst (λ (names : List Name). length names < c.args.placement.now.width / PITCH)
    (sym (c.deref.ensures.value ∙ c.in_ok-names.ensures ∙ ap (λ (ports : List Port). signal_names ports) c.ports.ensures)) c.requires.wide

pub returns : goal.returns
returns c =
    c.in_ok-items.ensures
    ∙ ap (λ (names : List Name). bare_lines names c.args.netlist.now c.args.placement.now)
    (c.deref.ensures.value ∙ c.in_ok-names.ensures ∙ ap (λ (ports : List Port). signal_names ports) c.ports.ensures)
