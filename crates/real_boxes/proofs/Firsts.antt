-- The first mark whose metal would be lost, and the first box that doesn't fit.
use Rattle.std.proofs.Common.{◌≡◌, ◌⊎◌, inl, inr, ℕ, ◌+◌, ◌<◌, Bool, true, false, not, List, [], ◌∷◌, length, drop, get_or, Some, cond, refl, sym, ◌∙◌, ap, subst}
use Rattle.std.specs.Prelude.{find}
use Rattle.std.proofs.lemmas.Bool.{cond-true, not_from_false}
use Rattle.std.proofs.lemmas.List.{at_drop_more}
use Rattle.std.proofs.lemmas.Option.{same_Some}
use Rattle.vlsi_base.specs.Member.{In, here, there}
use Rattle.cell_model.proofs.Members.{All-In}
use Rattle.real_table.specs.declared.table.Entry.{Entry}
use Rattle.real_table.specs.declared.table.ProcessTable.{ProcessTable}
use Rattle.real_boxes.specs.declared.mark.Mark.{Mark}
use Rattle.real_boxes.specs.declared.boxes.RealBox.{RealBox}
use Rattle.real_boxes.specs.declared.error.ProcessError.{ProcessError}
use Rattle.real_boxes.specs.declared.error.ProcessError.TheVariants as errors
use Rattle.real_boxes.specs.Boxes.{layer_of}
use Rattle.real_boxes.specs.Metals.{is_kept}
use Rattle.real_boxes.specs.Bounds.{IsLayer, AreOnLayers}
use Rattle.real_boxes.specs.Refused.{first_lost, IsLostRefusal, fits, first_unfit, IsFitRefusal}

-- ---- marks

pub lost_at : (t : ProcessTable) (all : List Mark) (k : ℕ) (m : Mark) (e : ProcessError) → k < length all → m ≡ get_or all k m
    → first_lost t (drop k all) ≡ first_lost t all → is_kept t m ≡ false → (e ≡ errors.Memory) ⊎ (e ≡ errors.Lost m.word) → IsLostRefusal t all e
lost_at t all k m e low is before lost h = elim h [
  | inl x ↦ subst (λ (y : ProcessError). IsLostRefusal t all y) (sym x) tt
  | inr x ↦ subst (λ (y : ProcessError). IsLostRefusal t all y) (sym x) (record { mark = m; first = first; word_is = refl })
] where
  first : first_lost t all ≡ Some m
  first =
      sym before ∙ at_drop_more (λ (ms : List Mark). first_lost t ms) all k m low ∙ ap (λ (x : Mark). first_lost t (x ∷ drop (k + 1) all)) (sym is)
      ∙ cond-true (not (is_kept t m)) (Some m) (first_lost t (drop (k + 1) all)) (not_from_false (is_kept t m) lost)

-- ---- boxes

-- what is found stands in the list
pub found_in : {A : Type 0} (p : A → Bool) (xs : List A) (x : A) → find p xs ≡ Some x → In x xs
found_in p [] x h = absurd (cc h)
found_in {A} p (y ∷ ys) x h = by (p y) h (found_in p ys x) where
  by : (t : Bool) → cond t (Some y) (find p ys) ≡ Some x → (find p ys ≡ Some x → In x ys) → In x (y ∷ ys)
  by true found rest = subst (λ (z : A). In z (y ∷ ys)) (same_Some y x found) here
  by false found rest = there (rest found)

-- it lies on a layer of the table
pub unfit_layer : (all : List Entry) (grid : ℕ) (boxes : List RealBox) (b : RealBox) → AreOnLayers all boxes → first_unfit grid boxes ≡ Some b → IsLayer all b.layer
unfit_layer all grid boxes b on found = All-In (λ (x : RealBox). IsLayer all x.layer) boxes on b (found_in (λ (x : RealBox). not (fits grid x.rect)) boxes b found)

pub unfit_refusal : (all : List Entry) (grid : ℕ) (boxes : List RealBox) (b : RealBox) (real : List ℕ) (e : ProcessError) → first_unfit grid boxes ≡ Some b
    → layer_of all real ≡ b.layer → (e ≡ errors.Memory) ⊎ (e ≡ errors.OffGrid real b.rect) → IsFitRefusal all grid boxes e
unfit_refusal all grid boxes b real e found on h = elim h [
  | inl x ↦ subst (λ (y : ProcessError). IsFitRefusal all grid boxes y) (sym x) tt
  | inr x ↦ subst (λ (y : ProcessError). IsFitRefusal all grid boxes y) (sym x) (record { box = b; first = found; edges = refl; on = sym on })
]
