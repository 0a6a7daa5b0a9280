-- Where the members of classes are, as terminals are met one after the other.
use Rattle.std.proofs.Common.{◌≡◌, ◌⊎◌, inl, inr, ℕ, ◌+◌, ◌<◌, ◌≤◌, Bool, true, false, cond, List, [], ◌∷◌, ◌++◌, length, get_or, take, Option, Some, None, nat_eq, refl, sym, subst, ◌∙◌, arith}
use Rattle.std.specs.Prelude.{slice_set}
use Rattle.std.proofs.lemmas.List.{get_or-set_same, get_or-set_other, length-set, length-take-le, take_more, take_all}
use Rattle.std.proofs.lemmas.Bool.{eqb-true, eqb-false, cases_eq}
use Rattle.std.proofs.lemmas.Option.{slice_get_within, same_Some}
use Rattle.net_core.specs.Places.{Stands}
use Rattle.net_core.proofs.Standing.{Split, left, right, split, only_one, stands_left, stands_last, stands_same}
use Rattle.lvx_compare.specs.declared.images.Image.{Image}
use Rattle.lvx_compare.specs.declared.images.Image.TheVariants as image
use Rattle.lvx_compare.specs.Stages.{with_member, IsScattered, IsImage, AreImages}

-- the place behind a list holds the last element alone
at_end : {X : Type 0} (xs : List X) (x y : X) → Stands (xs ++ x ∷ []) (length xs) y → x ≡ y
at_end xs x y s = stands_same (xs ++ x ∷ []) (length xs) x y (stands_last xs x) s

-- below it they are as before
before_end : {X : Type 0} (xs : List X) (x : X) (k : ℕ) (y : X) → k < length xs → Stands (xs ++ x ∷ []) k y → Stands xs k y
before_end {X} xs x k y l s = by (split xs (x ∷ []) k y s) where
  by : Split xs (x ∷ []) k y → Stands xs k y
  by (left h) = h
  by (right j e h) = absurd (omega (arith, l, e))

scattered_still : (cs : List ℕ) (fs : List (Option ℕ)) (c d : ℕ) (f : Option ℕ) → length fs ≡ length cs → IsScattered cs fs c → IsScattered (cs ++ d ∷ []) (fs ++ f ∷ []) c
scattered_still cs fs c d f e h = record {
  first = h.first;
  second = h.second;
  one = stands_left cs (d ∷ []) h.first c h.one;
  other = stands_left cs (d ∷ []) h.second c h.other;
  apart = λ x p q.
      let l = slice_get_within cs h.first c h.one in let m = slice_get_within cs h.second c h.other in
      h.apart x (before_end fs f h.first (Some x) (omega (arith, l, e)) p) (before_end fs f h.second (Some x) (omega (arith, m, e)) q);
}

-- a terminal of another class changes nothing
image_still : (cs : List ℕ) (fs : List (Option ℕ)) (c d : ℕ) (f : Option ℕ) (i : Image) → length fs ≡ length cs → (d ≡ c → ⊥) → IsImage cs fs c i → IsImage (cs ++ d ∷ []) (fs ++ f ∷ []) c i
image_still cs fs c d f image.Unseen e ne none = λ h. by (split cs (d ∷ []) h.0 c h.1) where
  by : {k : ℕ} → Split cs (d ∷ []) k c → ⊥
  by {k} (left s) = none (k, s)
  by (right j e s) = ne (only_one d c (j, s))
image_still cs fs c d f (image.Within x) e ne h = ((h.0.0, stands_left cs (d ∷ []) h.0.0 c h.0.1), λ k s. by k (split cs (d ∷ []) k c s)) where
  by : (k : ℕ) → Split cs (d ∷ []) k c → Stands (fs ++ f ∷ []) k (Some x)
  by k (left s) = stands_left fs (f ∷ []) k (Some x) (h.1 k s)
  by k (right j e s) = absurd (ne (only_one d c (j, s)))
image_still cs fs c d f image.Scattered e ne h = scattered_still cs fs c d f e h

-- one more member
image_more : (cs : List ℕ) (fs : List (Option ℕ)) (c : ℕ) (f : Option ℕ) (i : Image) → length fs ≡ length cs → IsImage cs fs c i → IsImage (cs ++ c ∷ []) (fs ++ f ∷ []) c (with_member i f)
image_more cs fs c (Some d) image.Unseen e none = ((length cs, stands_last cs c), λ k s. by k (split cs (c ∷ []) k c s)) where
  by : (k : ℕ) → Split cs (c ∷ []) k c → Stands (fs ++ Some d ∷ []) k (Some d)
  by k (left s) = absurd (none (k, s))
  by k (right j m s) =
      let w = slice_get_within (c ∷ []) j c s in
      let at : length fs ≡ k = omega (arith, w, m, e) in
      subst (λ i. Stands (fs ++ Some d ∷ []) i (Some d)) at (stands_last fs (Some d))
image_more cs fs c (Some d) (image.Within x) e h = by (nat_eq d x) refl where
  kept : d ≡ x → (k : ℕ) → Split cs (c ∷ []) k c → Stands (fs ++ Some d ∷ []) k (Some x)
  kept same k (left s) = stands_left fs (Some d ∷ []) k (Some x) (h.1 k s)
  kept same k (right j m s) =
      let w = slice_get_within (c ∷ []) j c s in
      let at : length fs ≡ k = omega (arith, w, m, e) in
      subst (λ i. Stands (fs ++ Some d ∷ []) i (Some x)) at (subst (λ y. Stands (fs ++ Some d ∷ []) (length fs) (Some y)) same (stands_last fs (Some d)))

  by : (b : Bool) → nat_eq d x ≡ b → IsImage (cs ++ c ∷ []) (fs ++ Some d ∷ []) c (cond b (image.Within x) image.Scattered)
  by true is = ((h.0.0, stands_left cs (c ∷ []) h.0.0 c h.0.1), λ k s. kept (eqb-true d x is) k (split cs (c ∷ []) k c s))
  by false is = record {
    first = h.0.0;
    second = length cs;
    one = stands_left cs (c ∷ []) h.0.0 c h.0.1;
    other = stands_last cs c;
    apart = λ y p q.
        let l = slice_get_within cs h.0.0 c h.0.1 in
        let own : Some x ≡ Some y = stands_same fs h.0.0 (Some x) (Some y) (h.1 h.0.0 h.0.1) (before_end fs (Some d) h.0.0 (Some y) (omega (arith, l, e)) p) in
        let new : Some d ≡ Some y = at_end fs (Some d) (Some y) (subst (λ k. Stands (fs ++ Some d ∷ []) k (Some y)) (sym e) q) in
        let same : d ≡ x = same_Some d x (new ∙ sym own) in
        eqb-false d x is same;
  }
image_more cs fs c (Some d) image.Scattered e h = scattered_still cs fs c c (Some d) e h
image_more cs fs c None i e h = by i where
  lost : IsScattered (cs ++ c ∷ []) (fs ++ None ∷ []) c
  lost = record {
    first = length cs;
    second = length cs;
    one = stands_last cs c;
    other = stands_last cs c;
    apart = λ y p q. let no : None ≡ Some y = at_end fs None (Some y) (subst (λ k. Stands (fs ++ None ∷ []) k (Some y)) (sym e) p) in absurd cc;
  }

  by : (i : Image) → IsImage (cs ++ c ∷ []) (fs ++ None ∷ []) c (with_member i None)
  by image.Unseen = lost
  by (image.Within x) = lost
  by image.Scattered = lost

images_step : (cs : List ℕ) (fs : List (Option ℕ)) (images : List Image) (c : ℕ) (f : Option ℕ) (old : Image) → length fs ≡ length cs → AreImages cs fs images → c < length images → old ≡ get_or images c old
    → AreImages (cs ++ c ∷ []) (fs ++ f ∷ []) (slice_set images c (with_member old f))
images_step cs fs images c f old e are low at = record { each = λ k d l. by k d l (cases_eq c k) } where
  by : (k : ℕ) (d : Image) → k < length (slice_set images c (with_member old f)) → (c ≡ k) ⊎ (c ≡ k → ⊥) → IsImage (cs ++ c ∷ []) (fs ++ f ∷ []) k (get_or (slice_set images c (with_member old f)) k d)
  by k d l (inl same) =
      let P : ℕ → Type 0 = λ j. IsImage (cs ++ c ∷ []) (fs ++ f ∷ []) j (get_or (slice_set images c (with_member old f)) j d) in
      subst P same (subst (λ (i : Image). IsImage (cs ++ c ∷ []) (fs ++ f ∷ []) c i) (sym (get_or-set_same images c (with_member old f) d low))
      (image_more cs fs c f old e (subst (λ (i : Image). IsImage cs fs c i) (sym at) (are.each c old low))))
  by k d l (inr ne) =
      let n = length-set images c (with_member old f) in
      subst (λ (i : Image). IsImage (cs ++ c ∷ []) (fs ++ f ∷ []) k i) (sym (get_or-set_other images c k (with_member old f) d (λ q. ne (sym q))))
      (image_still cs fs k c f (get_or images k d) e ne (are.each k d (omega (arith, l, n))))

-- one more terminal
pub images_more : (classes : List ℕ) (found : List (Option ℕ)) (k : ℕ) (images : List Image) (old : Image) → length found ≡ length classes → k < length classes
    → get_or classes k 0 < length images → old ≡ get_or images (get_or classes k 0) old → AreImages (take k classes) (take k found) images
    → AreImages (take (k + 1) classes) (take (k + 1) found) (slice_set images (get_or classes k 0) (with_member old (get_or found k None)))
images_more classes found k images old e l low is are =
    subst (λ (cs : List ℕ). AreImages cs (take (k + 1) found) (slice_set images (get_or classes k 0) (with_member old (get_or found k None)))) (sym (take_more classes k 0 l))
    (subst (λ (fs : List (Option ℕ)). AreImages (take k classes ++ get_or classes k 0 ∷ []) fs (slice_set images (get_or classes k 0) (with_member old (get_or found k None))))
    (sym (take_more found k None (omega (arith, l, e))))
    (images_step (take k classes) (take k found) images (get_or classes k 0) (get_or found k None) old even are low is)) where
      even : length (take k found) ≡ length (take k classes)
      even = let p = length-take-le k found (omega (arith, l, e)) in let q = length-take-le k classes (omega (arith, l)) in p ∙ sym q

pub images_all : (classes : List ℕ) (found : List (Option ℕ)) (k : ℕ) (images : List Image) → length found ≡ length classes → length classes ≤ k → AreImages (take k classes) (take k found) images → AreImages classes found images
images_all classes found k images e l are =
    subst (λ (cs : List ℕ). AreImages cs found images) (take_all k classes l)
    (subst (λ (fs : List (Option ℕ)). AreImages (take k classes) fs images) (take_all k found (omega (arith, e, l))) are)

pub images_none : (images : List Image) → ((c : ℕ) (d : Image) → c < length images → get_or images c d ≡ image.Unseen) → AreImages [] [] images
images_none images all = record { each = λ c d l. subst (λ (i : Image). IsImage [] [] c i) (sym (all c d l)) (λ h. absurd cc) }
