-- The connectors of a cell.
use Rattle.std.specs.Prelude.{◌≡◌, ◌⊎◌, ◌↔◌, List, map, filter}
use Rattle.vlsi_base.specs.declared.name.Name.{Name}
use Rattle.vlsi_base.specs.Member.{In}
use Rattle.vlsi_base.specs.Names.{vdd, vss}
use Rattle.machine_core.specs.Machine.{names_of}
use Rattle.sym_geom.specs.declared.rect.Rect.{Rect}
use Rattle.sym_shapes.specs.Shape.{drawn, connector_names}
use Rattle.cell_model.specs.Cell.{Cell, pin_ports}
use Rattle.cell_model.specs.Access.{is_named}

-- the pins' names, with vdd and vss, are those of the layout's connectors, on whatever layer
abbrev pub PinsAreConnectors : Cell → Type 0
PinsAreConnectors c =
    (name : Name) → In name (connector_names c.items) ↔ ((name ≡ vdd) ⊎ ((name ≡ vss) ⊎ In name (names_of (pin_ports c))))

-- the connector rectangles of this name, in the order of the layout's lines
abbrev pub connector_rects : Cell → Name → List Rect
connector_rects c pin = map (λ s. s.rect) (filter (λ s. is_named pin s.name) (drawn c.items))
