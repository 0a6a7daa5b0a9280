-- Each box lies on a layer of the table.
use Rattle.std.proofs.Common.{◌≡◌, inl, inr, ℕ, ◌<◌, Bool, true, false, not, List, [], ◌∷◌, length, get_or, refl, sym, subst, ap, arith, if◌then◌else◌}
use Rattle.std.specs.Prelude.{bytes_eq}
use Rattle.std.proofs.lemmas.Bool.{false≢true, both_ways, not-true, not-false, cases_lt}
use Rattle.std.proofs.lemmas.List.Sums.{prefix_len_passes, prefix_len_stops}
use Rattle.std.proofs.lemmas.Slice.Eq.{bytes_eq-Decides}
use Rattle.vlsi_base.specs.Member.{In, here, there}
use Rattle.cell_model.proofs.Members.{place-In, In-split, All-from}
use Rattle.real_table.specs.declared.table.Rule.{Rule}
use Rattle.real_table.specs.declared.table.Entry.{Entry}
use Rattle.real_table.specs.declared.table.Entry.TheVariants as entry
use Rattle.real_boxes.specs.declared.mark.Mark.{Mark}
use Rattle.real_boxes.specs.declared.boxes.RealBox.{RealBox}
use Rattle.real_boxes.specs.Boxes.{names_layer, layer_of, box_rect, rule_boxes, boxes_by, boxes_of}
use Rattle.real_boxes.specs.Bounds.{IsLayer, AreOnLayers}

-- ---- where a line of the table has its layer

module _ (all : List Entry) (r : Rule) (k : ℕ) (low : k < length all) (is : get_or all k entry.Nothing ≡ entry.Rule r) where
  named : names_layer r.real (get_or all k entry.Nothing) ≡ true
  named = subst (λ (e : Entry). names_layer r.real e ≡ true) (sym is) ((bytes_eq-Decides r.real r.real).1 refl)

  within : layer_of all r.real < length all
  within = elim (cases_lt (layer_of all r.real) (length all)) [
    | inl less ↦ less
    | inr most ↦ absurd (both_ways _ (not-true _ (prefix_len_passes (λ (e : Entry). not (names_layer r.real e)) all k entry.Nothing (omega (arith, low, most)))) named)
  ]

  at_layer : names_layer r.real (get_or all (layer_of all r.real) entry.Nothing) ≡ true
  at_layer = not-false _ (prefix_len_stops (λ (e : Entry). not (names_layer r.real e)) all entry.Nothing within)

  found : (e : Entry) → get_or all (layer_of all r.real) entry.Nothing ≡ e → names_layer r.real e ≡ true → IsLayer all (layer_of all r.real)
  found (entry.Rule s) at same =
      record { rule = s; there = within; line = at; first = ap (λ (real : List ℕ). layer_of all real) ((bytes_eq-Decides s.real r.real).0 same) }
  found (entry.Metal m real) at same = absurd (false≢true same)
  found (entry.Space real gap) at same = absurd (false≢true same)
  found (entry.Label layer real) at same = absurd (false≢true same)
  found entry.Nothing at same = absurd (false≢true same)

  line_on : IsLayer all (layer_of all r.real)
  line_on = found (get_or all (layer_of all r.real) entry.Nothing) refl at_layer

line_in : (all : List Entry) (r : Rule) → In (entry.Rule r) all → IsLayer all (layer_of all r.real)
line_in all r i = let p = place-In (entry.Rule r) all i in line_on all r p.0 p.1 (p.2 entry.Nothing)

-- ---- boxes

-- a list of one element, or of none
pub only : (P : RealBox → Type 0) (t : Bool) (b x : RealBox) → P x → In b (if t then x ∷ [] else []) → P b
only P true b x h here = h
only P true b x h (there j) = elim j [ ]
only P false b x h j = elim j [ ]

module _ (all : List Entry) (scale : ℕ) where
  rule_in : (r : Rule) (m : Mark) (b : RealBox) → IsLayer all (layer_of all r.real) → In b (rule_boxes all scale r m) → IsLayer all b.layer
  rule_in r m b h i =
      only (λ (x : RealBox). IsLayer all x.layer) (bytes_eq r.word m.word) b (record { layer = layer_of all r.real; rect = box_rect scale r.growth m.upright m.core }) h i

  by_in : (rest : List Entry) (m : Mark) (b : RealBox) → ((e : Entry) → In e rest → In e all) → In b (boxes_by all scale rest m) → IsLayer all b.layer
  by_in [] m b each i = elim i [ ]
  by_in (entry.Rule r ∷ rest) m b each i = elim (In-split b (rule_boxes all scale r m) (boxes_by all scale rest m) i) [
    | inl x ↦ rule_in r m b (line_in all r (each (entry.Rule r) here)) x
    | inr y ↦ by_in rest m b (λ e h. each e (there h)) y
  ]
  by_in (entry.Metal k real ∷ rest) m b each i = by_in rest m b (λ e h. each e (there h)) i
  by_in (entry.Space real gap ∷ rest) m b each i = by_in rest m b (λ e h. each e (there h)) i
  by_in (entry.Label layer real ∷ rest) m b each i = by_in rest m b (λ e h. each e (there h)) i
  by_in (entry.Nothing ∷ rest) m b each i = by_in rest m b (λ e h. each e (there h)) i

  of_in : (ms : List Mark) (b : RealBox) → In b (boxes_of all scale ms) → IsLayer all b.layer
  of_in [] b i = elim i [ ]
  of_in (m ∷ rest) b i = elim (In-split b (boxes_by all scale all m) (boxes_of all scale rest) i) [
    | inl x ↦ by_in all m b (λ e h. h) x
    | inr y ↦ of_in rest b y
  ]

  -- the boxes of marks lie on layers of the table
  pub are_on_layers : (ms : List Mark) (boxes : List RealBox) → boxes ≡ boxes_of all scale ms → AreOnLayers all boxes
  are_on_layers ms boxes are =
      subst (λ (bs : List RealBox). AreOnLayers all bs) (sym are) (All-from (λ (b : RealBox). IsLayer all b.layer) (boxes_of all scale ms) (λ b i. of_in ms b i))
