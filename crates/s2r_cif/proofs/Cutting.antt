-- Boxes and cuts, one more.
use Rattle.std.proofs.Common.{◌≡◌, ℕ, ◌+◌, ◌<◌, List, [], ◌∷◌, ◌++◌, map, length, take, get_or, refl, sym, ◌∙◌, ap, subst, append_assoc, append-nil}
use Rattle.std.specs.Prelude.{ℤ, pos, ◌+ℤ◌, ◌-ℤ◌}
use Rattle.std.proofs.lemmas.List.Elements.{All-push}
use Rattle.sym_geom.specs.Rect.{square}
use Rattle.sym_geom.specs.declared.rect.Rect.{Rect}
use Rattle.s2r_cif.specs.declared.making.TheConstants.{CUT_WIDTH}
use Rattle.std.proofs.lemmas.List.{take_more, map-append}
use Rattle.sym_geom.specs.declared.item.Item.{Item}
use Rattle.sym_shapes.specs.Shape.{Shape}
use Rattle.s2r_cif.specs.declared.table.RealTable.{RealTable}
use Rattle.s2r_cif.specs.declared.layout.RealBox.{RealBox}
use Rattle.s2r_cif.specs.Real.{box_of, item_cuts, cuts_of, AreRealBoxes, HasRealEdges}

taken_next : {A : Type 0} (xs : List A) (k : ℕ) (x : A) → k < length xs → x ≡ get_or xs k x → take (k + 1) xs ≡ take k xs ++ x ∷ []
taken_next xs k x low is = take_more xs k x low ∙ ap (λ y. take k xs ++ y ∷ []) (sym is)

-- the box of one shape more
pub boxes_next : (t : RealTable) (all : List Shape) (k : ℕ) (s : Shape) (b : RealBox) (before after : List RealBox) → k < length all → s ≡ get_or all k s
    → before ≡ map (box_of t) (take k all) → after ≡ before ++ b ∷ [] → b ≡ box_of t s → after ≡ map (box_of t) (take (k + 1) all)
boxes_next t all k s b before after low is so_far made own =
    made
    ∙ ap (λ (bs : List RealBox). bs ++ b ∷ []) so_far
    ∙ ap (λ (x : RealBox). map (box_of t) (take k all) ++ x ∷ []) own
    ∙ sym (map-append (box_of t) (take k all) (s ∷ []))
    ∙ ap (map (box_of t)) (sym (taken_next all k s low is))

cuts_push : (t : RealTable) (items : List Item) (one : Item) → cuts_of t (items ++ one ∷ []) ≡ cuts_of t items ++ item_cuts t one
cuts_push t [] one = append-nil (item_cuts t one)
cuts_push t (x ∷ xs) one = ap (λ (bs : List RealBox). item_cuts t x ++ bs) (cuts_push t xs one) ∙ sym (append_assoc (item_cuts t x) (cuts_of t xs) (item_cuts t one))

-- the cut of one line more
pub cuts_next : (t : RealTable) (items : List Item) (k : ℕ) (one : Item) (before after : List RealBox) → k < length items → one ≡ get_or items k one
    → before ≡ cuts_of t (take k items) → after ≡ before ++ item_cuts t one → after ≡ cuts_of t (take (k + 1) items)
cuts_next t items k one before after low is so_far made =
    made ∙ ap (λ (bs : List RealBox). bs ++ item_cuts t one) so_far ∙ sym (cuts_push t (take k items) one) ∙ ap (cuts_of t) (sym (taken_next items k one low is))

-- the square of a via's cut by its edges
pub cut_square : (x y x1 y1 x2 y2 : ℤ) → x1 ≡ x -ℤ pos 50 → y1 ≡ y -ℤ pos 50 → x2 ≡ x +ℤ pos 50 → y2 ≡ y +ℤ pos 50
    → ◌≡◌ {A = Rect} (record { x1 = x1; y1 = y1; x2 = x2; y2 = y2 }) (square x y (pos CUT_WIDTH))
cut_square x y x1 y1 x2 y2 p q u v = λ i. record { x1 = p i; y1 = q i; x2 = u i; y2 = v i }

-- boxes with another one have edges with which the writer computes
pub edges_push : (olds news : List RealBox) (one : RealBox) → news ≡ olds ++ one ∷ [] → AreRealBoxes olds → HasRealEdges one.rect → AreRealBoxes news
edges_push olds news one made before own =
    subst (λ (bs : List RealBox). AreRealBoxes bs) (sym made) (All-push (λ (b : RealBox). HasRealEdges b.rect) olds one before own)
