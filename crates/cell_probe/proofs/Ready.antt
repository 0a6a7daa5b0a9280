-- The lines of a figure that was read are such that their shapes are computed.
use Rattle.std.proofs.Common.{ℕ, List, ◌<◌, ◌^◌, length, get_or, All, arith}
use Rattle.std.specs.Prelude.{ℤ}
use Rattle.std.proofs.lemmas.Int.{ints}
use Rattle.sym_geom.specs.Rect.{IsCoordinate}
use Rattle.sym_geom.specs.declared.item.Item.{Item}
use Rattle.sym_geom.specs.declared.item.Item.TheVariants as item
use Rattle.sym_shapes.specs.Ready.{IsReady}
use Rattle.ap_io.specs.declared.figure.Figure.{Figure}
use Rattle.ap_io.specs.ApText.{IsNear, IsItemWithin, IsApText}
use Rattle.ap_io.specs.Within.{IsWide}
use Rattle.ap_io.proofs.Within.{items_within, widths_positive, few_items}

coordinate : (z : ℤ) → IsNear z → IsCoordinate z
coordinate z h = record { low = omega (arith, ints, h); high = omega (arith, ints, h) }

item_ready : (one : Item) → IsItemWithin one → IsWide one → IsReady one
item_ready (item.Segment s) h w = record {
  x1 = coordinate s.x1 h.0;
  y1 = coordinate s.y1 h.1;
  x2 = coordinate s.x2 h.2;
  y2 = coordinate s.y2 h.3;
  positive = w;
  width = coordinate s.width h.4;
}
item_ready (item.Connector c) h w = record { x = coordinate c.x h.0; y = coordinate c.y h.1; positive = w; width = coordinate c.width h.2 }
item_ready (item.Via v) h w = record { x = coordinate v.x h.0; y = coordinate v.y h.1 }
item_ready (item.Instance i) h w = tt
item_ready (item.Reference r) h w = tt
item_ready (item.Remark text) h w = tt

pub items_ready : (bytes : List ℕ) (f : Figure) → IsApText bytes f → All IsReady f.items
items_ready bytes f t =
    let within = items_within bytes f t in
    let wide = widths_positive bytes f t in
    λ k d h. item_ready (get_or f.items k d) (within k d h) (wide k d h)

pub items_few : (bytes : List ℕ) (f : Figure) → IsApText bytes f → length f.items < 2 ^ 32
items_few bytes f t = let few = t.few in omega (arith, few_items bytes f t, few)
