use Rattle.std.proofs.Common.{◌≡◌, ◌<◌, ◌++◌, List, length, sym, ap, ap₂, subst, ◌∙◌}
use Rattle.std.specs.Prelude.{◌/◌}
use Rattle.vlsi_base.specs.declared.name.Name.{Name}
use Rattle.vlsi_base.specs.declared.name.Port.{Port}
use Rattle.sym_geom.specs.declared.grid.TheConstants.{PITCH}
use Rattle.sym_geom.specs.declared.item.Item.{Item}
use Rattle.route_draw.specs.Pieces.{signal_names}
use Rattle.route_draw.specs.GridPieces.{bare_lines, wired_lines}
use Rattle.route_draw.proofs.Gridded.{bare_and_wired}
use Rattle.route_draw.proofs.grid.grid_lines.Goals as goal

pub bare_lines-requires-clause-wide : goal.bare_lines-requires-clause-wide
bare_lines-requires-clause-wide c =
    subst (λ (names : List Name). length names < c.args.placement.now.width / PITCH)
    (sym (c.deref.ensures.value ∙ c.in_ok-names.ensures ∙ ap (λ (ports : List Port). signal_names ports) c.ports.ensures)) c.requires.wide

pub returns : goal.returns
returns c =
    let n = c.args.netlist.now in
    let p = c.args.placement.now in
    let nets = c.args.nets.now in
    let signals : c.in_ok-names.names.items ≡ signal_names n.ports = c.in_ok-names.ensures ∙ ap (λ (ports : List Port). signal_names ports) c.ports.ensures in
    let bare = c.in_ok-items.ensures ∙ ap (λ (names : List Name). bare_lines names n p) (c.deref.ensures.value ∙ signals) in
    c.in_ok-push_wired.ensures
    ∙ ap₂ (λ (is js : List Item). is ++ js) bare (ap (λ (names : List Name). wired_lines 0 names nets) (c.deref-2.ensures.value ∙ signals))
    ∙ sym (bare_and_wired n p nets)
