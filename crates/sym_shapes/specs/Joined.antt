-- When two shapes of a layout are joined.
use Rattle.std.specs.Prelude.{◌≡◌, List, Some}
use Rattle.vlsi_base.specs.declared.name.Name.{Name}
use Rattle.vlsi_base.specs.declared.name.Terminal.{Terminal}
use Rattle.sym_geom.specs.Rect.{Meet}
use Rattle.vlsi_base.specs.Member.{In}
use Rattle.sym_shapes.specs.Shape.{Shape}

-- Two shapes are linked where their closed rectangles meet on one metal; where one line gives both, as the two pads of
-- a via; and where they are connectors of one name. The last two within the figure itself, or within one instance. The
-- names of nets are no links.
pub data Linked (a b : Shape) : Type 0 where
  touching : a.metal ≡ b.metal → Meet a.rect b.rect → Linked a b
  one_line : a.owner ≡ b.owner → a.line ≡ b.line → Linked a b
  one_name : a.owner ≡ b.owner → (name : Name) → a.name ≡ Some name → b.name ≡ Some name → Linked a b

-- a chain of links over shapes of the layout
pub data Joined (shapes : List Shape) : Shape → Shape → Type 0 where
  itself : {a : Shape} → In a shapes → Joined shapes a a
  through : {a b c : Shape} → In a shapes → Linked a b → Joined shapes b c → Joined shapes a c

-- the shape is a connector of the terminal
pub record Shows (t : Terminal) (s : Shape) : Type 0 where
  pub owner : s.owner ≡ t.instance
  pub name : s.name ≡ Some t.pin

-- two terminals have joined shapes
pub record AreJoined (all : List Shape) (a b : Terminal) : Type 0 where
  pub from : Shape
  pub to : Shape
  pub shows_from : Shows a from
  pub shows_to : Shows b to
  pub joined : Joined all from to
