-- What marks show on metals is what the layout shows.
use Rattle.std.proofs.Common.{◌≡◌, ℕ, suc, ◌+◌, Bool, true, false, List, [], ◌∷◌, ◌++◌, map, Option, None, Some, refl, sym, ap, ◌∙◌, append_assoc, arith, neg_ℤ}
use Rattle.std.specs.Prelude.{ℤ, pos}
use Rattle.std.proofs.lemmas.Int.{ints}
use Rattle.std.proofs.lemmas.List.{map-append}
use Rattle.vlsi_base.specs.declared.name.Name.{Name}
use Rattle.sym_geom.specs.Rect.{square, moved, turned}
use Rattle.sym_geom.specs.Metal.{metal_of}
use Rattle.sym_geom.specs.Items.{segment_rect, lower_metal, pads_on}
use Rattle.sym_geom.specs.declared.rect.Rect.{Rect}
use Rattle.sym_geom.specs.declared.rect.Transform.{Transform}
use Rattle.sym_geom.specs.declared.rect.Transform.TheVariants.{NoSym, SymX, SymY, SymXY}
use Rattle.sym_geom.specs.declared.item.Instance.{Instance as Placed}
use Rattle.sym_geom.specs.declared.item.Item.{Item}
use Rattle.sym_geom.specs.declared.item.Item.TheVariants as item
use Rattle.sym_shapes.specs.Shape.{Shape, on_metal as drawn_on, pad_shapes, wire_name, item_shapes, drawn_from, drawn}
use Rattle.cell_model.specs.Cell.{Cell, cell_width, cell_height}
use Rattle.cell_model.specs.Library.{Library, cell_of}
use Rattle.cell_model.specs.Layout.{placed, instance_shapes, instances_of, all_instances_show, shapes}
use Rattle.cougar_extract.specs.Stages.{placed_rect}
use Rattle.real_boxes.specs.declared.mark.Mark.{Mark}
use Rattle.real_boxes.specs.Marks.{is_upright, shortened, metal_above, point, item_marks, drawn_marks, placed_mark, instance_marks, shown_marks, marks}
use Rattle.real_boxes.specs.Metals.{bare, on_metal, lengthened, padded, shown_by, shown_rect, mark_shapes, metal_shapes}

-- ---- rectangles

abbrev mk : ℤ → ℤ → ℤ → ℤ → Rect
mk a b c d = record { x1 = a; y1 = b; x2 = c; y2 = d }

same_rect : (r : Rect) (a b c d : ℤ) → a ≡ r.x1 → b ≡ r.y1 → c ≡ r.x2 → d ≡ r.y2 → record { x1 = a; y1 = b; x2 = c; y2 = d } ≡ r
same_rect r a b c d p q u v =
    ap (λ (z : ℤ). mk z b c d) p ∙ ap (λ (z : ℤ). mk r.x1 z c d) q ∙ ap (λ (z : ℤ). mk r.x1 r.y1 z d) u ∙ ap (λ (z : ℤ). mk r.x1 r.y1 r.x2 z) v

longer : (upright : Bool) (r : Rect) → lengthened upright (shortened upright r) ≡ r
longer true r = same_rect r _ _ _ _ refl (omega (arith, ints)) refl (omega (arith, ints))
longer false r = same_rect r _ _ _ _ (omega (arith, ints)) refl (omega (arith, ints)) refl

-- a rectangle of a cell grows as that which an instance shows
grown_placed : (t : Transform) (above : Option ℕ) (upright : Bool) (r b : Rect) (w h x y : ℤ)
    → shown_by above upright (moved (turned t (moved r (neg_ℤ b.x1) (neg_ℤ b.y1)) w h) x y) ≡ moved (turned t (moved (shown_by above upright r) (neg_ℤ b.x1) (neg_ℤ b.y1)) w h) x y
grown_placed NoSym None true r b w h x y = same_rect _ _ _ _ _ refl (omega (arith, ints)) refl (omega (arith, ints))
grown_placed NoSym None false r b w h x y = same_rect _ _ _ _ _ (omega (arith, ints)) refl (omega (arith, ints)) refl
grown_placed NoSym (Some k) upright r b w h x y = same_rect _ _ _ _ _ (omega (arith, ints)) (omega (arith, ints)) (omega (arith, ints)) (omega (arith, ints))
grown_placed SymX None true r b w h x y = same_rect _ _ _ _ _ refl (omega (arith, ints)) refl (omega (arith, ints))
grown_placed SymX None false r b w h x y = same_rect _ _ _ _ _ (omega (arith, ints)) refl (omega (arith, ints)) refl
grown_placed SymX (Some k) upright r b w h x y = same_rect _ _ _ _ _ (omega (arith, ints)) (omega (arith, ints)) (omega (arith, ints)) (omega (arith, ints))
grown_placed SymY None true r b w h x y = same_rect _ _ _ _ _ refl (omega (arith, ints)) refl (omega (arith, ints))
grown_placed SymY None false r b w h x y = same_rect _ _ _ _ _ (omega (arith, ints)) refl (omega (arith, ints)) refl
grown_placed SymY (Some k) upright r b w h x y = same_rect _ _ _ _ _ (omega (arith, ints)) (omega (arith, ints)) (omega (arith, ints)) (omega (arith, ints))
grown_placed SymXY None true r b w h x y = same_rect _ _ _ _ _ refl (omega (arith, ints)) refl (omega (arith, ints))
grown_placed SymXY None false r b w h x y = same_rect _ _ _ _ _ (omega (arith, ints)) refl (omega (arith, ints)) refl
grown_placed SymXY (Some k) upright r b w h x y = same_rect _ _ _ _ _ (omega (arith, ints)) (omega (arith, ints)) (omega (arith, ints)) (omega (arith, ints))

-- ---- one line

shapes_append : (xs ys : List Mark) → metal_shapes (xs ++ ys) ≡ metal_shapes xs ++ metal_shapes ys
shapes_append [] ys = refl
shapes_append (x ∷ xs) ys = ap (λ (ss : List Shape). mark_shapes x ++ ss) (shapes_append xs ys) ∙ sym (append_assoc (mark_shapes x) (metal_shapes xs) (metal_shapes ys))

wire_shows : (metal : Option ℕ) (r : Rect) (upright : Bool) (line : ℕ) (name : Option Name)
    → (on_metal metal (lengthened upright (shortened upright r)) ++ []) ++ [] ≡ map bare (drawn_on metal line r name)
wire_shows None r upright line name = refl
wire_shows (Some k) r upright line name = ap (λ (x : Rect). on_metal (Some k) x) (longer upright r)

pad_is : (x y : ℤ) → padded (point x y) ≡ square x y (pos 200)
pad_is x y = same_rect _ _ _ _ _ refl refl (omega (arith, ints)) (omega (arith, ints))

via_shows : (low : Option ℕ) (x y : ℤ) (line : ℕ)
    → (on_metal low (shown_by (metal_above low) true (point x y)) ++ on_metal (metal_above low) (shown_by (metal_above low) true (point x y))) ++ []
    ≡ map bare (pad_shapes line (pads_on low (square x y (pos 200))))
via_shows None x y line = refl
via_shows (Some k) x y line = ap (λ (r : Rect). on_metal (Some k) r ++ on_metal (Some (k + 1)) r) (pad_is x y)

item_same : (line : ℕ) (one : Item) → metal_shapes (item_marks one) ≡ map bare (item_shapes line one)
item_same line (item.Segment s) = wire_shows (metal_of s.layer) (segment_rect s) (is_upright s.direction) line (wire_name s.layer s.name)
item_same line (item.Connector c) = wire_shows (metal_of c.layer) (square c.x c.y c.width) true line c.name
item_same line (item.Via v) = via_shows (lower_metal v.contact) v.x v.y line
item_same line (item.Instance i) = refl
item_same line (item.Reference r) = refl
item_same line (item.Remark text) = refl

drawn_same : (line : ℕ) (items : List Item) → metal_shapes (drawn_marks items) ≡ map bare (drawn_from line items)
drawn_same line [] = refl
drawn_same line (one ∷ rest) =
    shapes_append (item_marks one) (drawn_marks rest) ∙ ap (λ (ss : List Shape). ss ++ metal_shapes (drawn_marks rest)) (item_same line one)
    ∙ ap (λ (ss : List Shape). map bare (item_shapes line one) ++ ss) (drawn_same (suc line) rest) ∙ sym (map-append bare (item_shapes line one) (drawn_from (suc line) rest))

-- ---- instances

module _ (c : Cell) (i : Placed) where
  abbrev place : Shape → Shape
  place s = record { metal = s.metal; rect = placed_rect c i s.rect; owner = None; line = 0; name = None }

  on_placed : (metal : Option ℕ) (r q : Rect) → q ≡ placed_rect c i r → on_metal metal q ≡ map place (on_metal metal r)
  on_placed None r q is = refl
  on_placed (Some k) r q is = ap (λ (x : Rect). on_metal (Some k) x) is

  mark_placed : (m : Mark) → mark_shapes (placed_mark c i m) ≡ map place (mark_shapes m)
  mark_placed m =
      let r = grown_placed i.transform m.above m.upright m.core c.bounds (cell_width c) (cell_height c) i.x i.y in
      ap (λ (ss : List Shape). ss ++ on_metal m.above (shown_rect (placed_mark c i m))) (on_placed m.metal (shown_rect m) (shown_rect (placed_mark c i m)) r)
      ∙ ap (λ (ss : List Shape). map place (on_metal m.metal (shown_rect m)) ++ ss) (on_placed m.above (shown_rect m) (shown_rect (placed_mark c i m)) r)
      ∙ sym (map-append place (on_metal m.metal (shown_rect m)) (on_metal m.above (shown_rect m)))

  all_placed : (ms : List Mark) → metal_shapes (map (placed_mark c i) ms) ≡ map place (metal_shapes ms)
  all_placed [] = refl
  all_placed (m ∷ rest) =
      ap (λ (ss : List Shape). ss ++ metal_shapes (map (placed_mark c i) rest)) (mark_placed m)
      ∙ ap (λ (ss : List Shape). map place (mark_shapes m) ++ ss) (all_placed rest) ∙ sym (map-append place (mark_shapes m) (metal_shapes rest))

  both_bare : (ss : List Shape) → map place (map bare ss) ≡ map bare (map (placed c i) ss)
  both_bare [] = refl
  both_bare (s ∷ rest) = ap (λ (xs : List Shape). bare (placed c i s) ∷ xs) (both_bare rest)

instance_same : (o : Option Cell) (i : Placed) → metal_shapes (instance_marks o i) ≡ map bare (instance_shapes o i)
instance_same None i = refl
instance_same (Some c) i = all_placed c i (drawn_marks c.items) ∙ ap (λ (ss : List Shape). map (place c i) ss) (drawn_same 0 c.items) ∙ both_bare c i (drawn c.items)

shown_same : (l : Library) (items : List Item) → metal_shapes (shown_marks l items) ≡ map bare (all_instances_show l (instances_of items))
shown_same l [] = refl
shown_same l (item.Segment s ∷ rest) = shown_same l rest
shown_same l (item.Connector c ∷ rest) = shown_same l rest
shown_same l (item.Via v ∷ rest) = shown_same l rest
shown_same l (item.Instance i ∷ rest) =
    shapes_append (instance_marks (cell_of l i.model) i) (shown_marks l rest)
    ∙ ap (λ (ss : List Shape). ss ++ metal_shapes (shown_marks l rest)) (instance_same (cell_of l i.model) i)
    ∙ ap (λ (ss : List Shape). map bare (instance_shapes (cell_of l i.model) i) ++ ss) (shown_same l rest)
    ∙ sym (map-append bare (instance_shapes (cell_of l i.model) i) (all_instances_show l (instances_of rest)))
shown_same l (item.Reference r ∷ rest) = shown_same l rest
shown_same l (item.Remark text ∷ rest) = shown_same l rest

-- what marks show on metals are the shapes of the layout
pub shapes_same : (items : List Item) (l : Library) → metal_shapes (marks l items) ≡ map bare (shapes items l)
shapes_same items l =
    shapes_append (drawn_marks items) (shown_marks l items) ∙ ap (λ (ss : List Shape). ss ++ metal_shapes (shown_marks l items)) (drawn_same 0 items)
    ∙ ap (λ (ss : List Shape). map bare (drawn items) ++ ss) (shown_same l items) ∙ sym (map-append bare (drawn items) (all_instances_show l (instances_of items)))
