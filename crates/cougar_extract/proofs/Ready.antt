-- A figure that was read is one of which a netlist can be asked.
use Rattle.std.proofs.Common.{◌≡◌, ◌≢◌, ℕ, ◌<◌, List, [], ◌∷◌, map, get_or, refl, sym, ap, subst, ◌∙◌, arith}
use Rattle.std.specs.Prelude.{ℤ, AllPairs}
use Rattle.std.proofs.lemmas.Int.{ints}
use Rattle.std.proofs.lemmas.Option.{slice_get_within, get_or_from_slice_get}
use Rattle.sym_geom.specs.Rect.{IsCoordinate}
use Rattle.sym_geom.specs.declared.item.Instance.{Instance as Placed}
use Rattle.sym_geom.specs.declared.item.Item.{Item}
use Rattle.sym_geom.specs.declared.item.Item.TheVariants as item
use Rattle.sym_shapes.specs.Ready.{IsReady}
use Rattle.ap_io.specs.declared.figure.Figure.{Figure}
use Rattle.ap_io.specs.ApText.{IsNear, IsLine, IsItemWithin, IsApText, instance_names}
use Rattle.ap_io.specs.Laws.{ReadIsAFigure}
use Rattle.cell_model.specs.Layout.{instances_of}
use Rattle.cell_model.proofs.Members.{All-In}
use Rattle.net_core.specs.Places.{Stands, NoneTwice}
use Rattle.cougar_extract.specs.Extracted.{IsReadyFigure}
use Rattle.cougar_extract.proofs.Instances.{instance_line}

coordinate : (z : ℤ) → IsNear z → IsCoordinate z
coordinate z h = record { low = omega (arith, ints, h); high = omega (arith, ints, h) }

item_ready : (one : Item) → IsItemWithin one → IsLine one → IsReady one
item_ready (item.Segment s) h w = record {
  x1 = coordinate s.x1 h.0;
  y1 = coordinate s.y1 h.1;
  x2 = coordinate s.x2 h.2;
  y2 = coordinate s.y2 h.3;
  positive = w.0;
  width = coordinate s.width h.4;
}
item_ready (item.Connector c) h w = record { x = coordinate c.x h.0; y = coordinate c.y h.1; positive = w.0; width = coordinate c.width h.2 }
item_ready (item.Via v) h w = record { x = coordinate v.x h.0; y = coordinate v.y h.1 }
item_ready (item.Instance i) h w = tt
item_ready (item.Reference r) h w = tt
item_ready (item.Remark text) h w = tt

-- the names of instances, in two words
names_are : (items : List Item) → instance_names items ≡ map (λ (i : Placed). i.name) (instances_of items)
names_are [] = refl
names_are (item.Segment s ∷ rest) = names_are rest
names_are (item.Connector c ∷ rest) = names_are rest
names_are (item.Via v ∷ rest) = names_are rest
names_are (item.Instance i ∷ rest) = ap (λ (ns : List (List ℕ)). i.name ∷ ns) (names_are rest)
names_are (item.Reference r ∷ rest) = names_are rest
names_are (item.Remark text ∷ rest) = names_are rest

apart_once : (names : List (List ℕ)) → AllPairs (λ a b. a ≢ b) names → NoneTwice names
apart_once names apart i j x p q = omega (arith, below, above) where
  clash : (a b : ℕ) → a < b → Stands names a x → Stands names b x → ⊥
  clash a b less s t =
      let first : get_or names a x ≡ x = get_or_from_slice_get names a x x s in
      let second : get_or names b x ≡ x = get_or_from_slice_get names b x x t in
      apart a b x less (slice_get_within names b x t) (first ∙ sym second)

  below : i < j → ⊥
  below l = clash i j l p q

  above : j < i → ⊥
  above l = clash j i l q p

pub ready_figure : ReadIsAFigure → (bytes : List ℕ) (f : Figure) → IsApText bytes f → IsReadyFigure f
ready_figure law bytes f text =
    let read = law bytes f text in
    let few = text.few in
    let less = read.2 in
    record {
      ready = λ k d low. item_ready (get_or f.items k d) (read.1.items k d low) (read.0.lines k d low);
      places = λ i h. let near = All-In IsItemWithin f.items read.1.items (item.Instance i) (instance_line f.items i h) in (coordinate i.x near.0, coordinate i.y near.1);
      few = omega (arith, few, less);
      once = subst (λ (ns : List (List ℕ)). NoneTwice ns) (names_are f.items) (apart_once (instance_names f.items) read.0.instances);
    }
