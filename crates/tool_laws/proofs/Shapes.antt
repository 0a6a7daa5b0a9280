-- Libraries with the same cells show the same shapes.
use Rattle.std.proofs.Common.{◌≡◌, ◌++◌, Bool, true, false, cond, List, [], ◌∷◌, ℕ, map, Option, None, Some, refl, sym, ap, ◌∙◌}
use Rattle.std.specs.Prelude.{neg_ℤ, ◌-ℤ◌}
use Rattle.machine_core.specs.Named.{is_same_text}
use Rattle.sym_geom.specs.Rect.{moved, turned}
use Rattle.sym_geom.specs.declared.rect.Rect.{Rect}
use Rattle.sym_geom.specs.declared.item.Instance.{Instance as Placed}
use Rattle.sym_geom.specs.declared.item.Item.{Item}
use Rattle.sym_shapes.specs.Shape.{Shape, drawn}
use Rattle.cell_model.specs.Cell.{Cell}
use Rattle.cell_model.specs.Library.{Library, cell_named, cell_of}
use Rattle.cell_model.specs.Layout.{instances_of, placed, instance_shapes, all_instances_show, shapes}
use Rattle.flow_run.specs.Same.{IsSameCell, AreSameCells}

-- ---- the cell of a name

-- both are the same cell, or there is none
abbrev pub AreSameOptions : Option Cell → Option Cell → Type 0
AreSameOptions None None = Unit {0}
AreSameOptions (Some c) (Some d) = IsSameCell c d
AreSameOptions None (Some d) = ⊥
AreSameOptions (Some c) None = ⊥

named_same : (cs ds : List Cell) → AreSameCells cs ds → (model : List ℕ) → AreSameOptions (cell_named cs model) (cell_named ds model)
named_same [] [] s model = tt
named_same [] (d ∷ ds) s model = absurd s
named_same (c ∷ cs) [] s model = absurd s
named_same (c ∷ cs) (d ∷ ds) s model =
    by (is_same_text c.name model) (is_same_text d.name model) (ap (λ (name : List ℕ). is_same_text name model) s.0.name) (named_same cs ds s.1 model) where
      by : (a b : Bool) → a ≡ b → AreSameOptions (cell_named cs model) (cell_named ds model)
          → AreSameOptions (cond a (Some c) (cell_named cs model)) (cond b (Some d) (cell_named ds model))
      by true true e rest = s.0
      by false false e rest = rest
      by true false e rest = absurd (cc e)
      by false true e rest = absurd (cc e)

pub cell_same : (l k : Library) → AreSameCells l.cells k.cells → (model : List ℕ) → AreSameOptions (cell_of l model) (cell_of k model)
cell_same l k s model = named_same l.cells k.cells s model

-- where the one has none, the other has none
pub lacking_too : (o p : Option Cell) → AreSameOptions o p → o ≡ None → (c : Cell) → p ≡ Some c → ⊥
lacking_too None None s none c some = let both : None ≡ Some c = some in cc
lacking_too None (Some d) s none c some = absurd s
lacking_too (Some b) p s none c some = let both : Some b ≡ None = none in cc

pub had_too : (o p : Option Cell) → AreSameOptions o p → (c : Cell) → o ≡ Some c → p ≡ None → ⊥
had_too None p s c some none = let both : None ≡ Some c = some in cc
had_too (Some b) None s c some none = absurd s
had_too (Some b) (Some d) s c some none = let both : Some d ≡ None = none in cc

-- ---- shapes

-- as `placed`, by the cell's box
abbrev placed_by : Rect → Placed → Shape → Shape
placed_by box i s = record s {
  owner = Some i.name;
  rect = moved (turned i.transform (moved s.rect (neg_ℤ box.x1) (neg_ℤ box.y1)) (box.x2 -ℤ box.x1) (box.y2 -ℤ box.y1)) i.x i.y;
}

is_placed : (c : Cell) (i : Placed) → map (placed c i) (drawn c.items) ≡ map (placed_by c.bounds i) (drawn c.items)
is_placed c i = refl

shown_same : (o p : Option Cell) → AreSameOptions o p → (i : Placed) → instance_shapes o i ≡ instance_shapes p i
shown_same None None s i = refl
shown_same None (Some d) s i = absurd s
shown_same (Some c) None s i = absurd s
shown_same (Some c) (Some d) s i =
    is_placed c i ∙ ap (λ (r : Rect). map (placed_by r i) (drawn c.items)) s.bounds ∙ ap (λ (items : List Item). map (placed_by d.bounds i) (drawn items)) s.items
    ∙ sym (is_placed d i)

all_shown : (l k : Library) → AreSameCells l.cells k.cells → (is : List Placed) → all_instances_show l is ≡ all_instances_show k is
all_shown l k s [] = refl
all_shown l k s (i ∷ is) =
    ap (λ (ss : List Shape). ss ++ all_instances_show l is) (shown_same (cell_of l i.model) (cell_of k i.model) (cell_same l k s i.model) i)
    ∙ ap (λ (ss : List Shape). instance_shapes (cell_of k i.model) i ++ ss) (all_shown l k s is)

pub shapes_same : (l k : Library) → AreSameCells l.cells k.cells → (items : List Item) → shapes items l ≡ shapes items k
shapes_same l k s items = ap (λ (ss : List Shape). drawn items ++ ss) (all_shown l k s (instances_of items))
