-- Which shapes of a list are joined.
use Rattle.std.specs.Prelude.{◌≡◌, List, Some}
use Rattle.block_geom.specs.Rect.{Meet}
use Rattle.block_geom.specs.Figure.{Shape, Name, In}

-- Rectangles of one metal that meet, the pads of one via, connectors of one name; the last two within the figure itself
-- or within one instance.
pub data Linked (a b : Shape) : Type 0 where
  touching : a.metal ≡ b.metal → Meet a.rect b.rect → Linked a b
  one_line : a.owner ≡ b.owner → a.line ≡ b.line → Linked a b
  one_name : a.owner ≡ b.owner → (n : Name) → a.name ≡ Some n → b.name ≡ Some n → Linked a b

-- a chain of links
pub data Joined (xs : List Shape) : Shape → Shape → Type 0 where
  same : {a : Shape} → Joined xs a a
  link : {a b c : Shape} → In b xs → Linked a b → Joined xs b c → Joined xs a c
