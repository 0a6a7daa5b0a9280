-- One more name among those that are used.
use Rattle.std.proofs.Common.{◌≡◌, ◌⊎◌, inl, inr, ℕ, Bool, true, false, not, cond, List, [], ◌∷◌, ◌++◌, refl, sym, ap, ◌∙◌, subst}
use Rattle.std.specs.Global.{Vec}
use Rattle.std.specs.BTreeSet.{BTreeSet}
use Rattle.std.specs.Ordering.{nat_cmp, is_eq}
use Rattle.std.specs.Cmp.Lexicographic.{slice_cmp}
use Rattle.std.proofs.lemmas.Map.Text.{is_eq-slice_cmp}
use Rattle.std.proofs.lemmas.Slice.Eq.{bytes_eq-Decides}
use Rattle.vlsi_base.specs.Member.{In, here, there}
use Rattle.catal.specs.Used.{has, Holds, Adds}
use Rattle.catal.specs.Lines.{AddsCell}

-- ---- members of a list with one more at its end

pub in_front : {A : Type 0} (x : A) (xs ys : List A) → In x xs → In x (xs ++ ys)
in_front x _ ys here = here
in_front x _ ys (there h) = there (in_front x _ ys h)

pub in_last : {A : Type 0} (x : A) (xs : List A) → In x (xs ++ x ∷ [])
in_last x [] = here
in_last x (y ∷ xs) = there (in_last x xs)

pub front_or_last : {A : Type 0} (x y : A) (xs : List A) → In x (xs ++ y ∷ []) → In x xs ⊎ (y ≡ x)
front_or_last x y [] here = inr refl
front_or_last x y [] (there h) = elim h [ ]
front_or_last x y (z ∷ xs) here = inl here
front_or_last x y (z ∷ xs) (there h) = elim (front_or_last x y xs h) [ inl k ↦ inl (there k) | inr e ↦ inr e ]

-- ---- the set

abbrev pub is_key : Vec ℕ → Vec ℕ → Bool
is_key key q = is_eq (slice_cmp nat_cmp key.items q.items)

key_is : (key q : Vec ℕ) → is_key key q ≡ true → key.items ≡ q.items
key_is key q h = (bytes_eq-Decides key.items q.items).0 (sym (is_eq-slice_cmp key.items q.items) ∙ h)

same_key : (key q : Vec ℕ) → key.items ≡ q.items → is_key key q ≡ true
same_key key q e = is_eq-slice_cmp key.items q.items ∙ (bytes_eq-Decides key.items q.items).1 e

-- what the set says of a name once this key is put in
abbrev pub Updated : BTreeSet (Vec ℕ) → BTreeSet (Vec ℕ) → Vec ℕ → Type 0
Updated old new key = (q : Vec ℕ) → has new q ≡ cond (is_key key q) true (has old q)

grown : (old new : BTreeSet (Vec ℕ)) (key : Vec ℕ) (names : List (List ℕ)) → Updated old new key → Holds old names → Holds new (names ++ key.items ∷ [])
grown old new key names updated holds q = (to, from) where
  to : has new q ≡ true → In q.items (names ++ key.items ∷ [])
  to h = by (is_key key q) refl where
    by : (e : Bool) → is_key key q ≡ e → In q.items (names ++ key.items ∷ [])
    by true is = subst (λ (x : List ℕ). In x (names ++ key.items ∷ [])) (key_is key q is) (in_last key.items names)
    by false is = in_front q.items names (key.items ∷ []) ((holds q).0 (sym (updated q ∙ ap (λ b. cond b true (has old q)) is) ∙ h))

  from : In q.items (names ++ key.items ∷ []) → has new q ≡ true
  from i = elim (front_or_last q.items key.items names i) [
    | inl k ↦ updated q ∙ ap (λ b. cond (is_key key q) true b) ((holds q).1 k) ∙ always (is_key key q)
    | inr e ↦ updated q ∙ ap (λ b. cond b true (has old q)) (same_key key q e)
  ] where
    always : (e : Bool) → cond e true true ≡ true
    always true = refl
    always false = refl

pub adds : (old new : BTreeSet (Vec ℕ)) (key : Vec ℕ) (added : Bool) (name : List ℕ) (names : List (List ℕ)) → key.items ≡ name → added ≡ not (has old key)
    → Updated old new key → Holds old names → Adds added names name new
adds old new key added name names is fresh updated holds = subst (λ (x : List ℕ). Adds added names x new) is (by added (has old key) fresh refl) where
  by : (a h : Bool) → a ≡ not h → has old key ≡ h → Adds a names key.items new
  by true false e k = ((λ i. let no : true ≡ false = sym ((holds key).1 i) ∙ k in absurd cc), grown old new key names updated holds)
  by false true e k = (holds key).0 k
  by true true e k = absurd cc
  by false false e k = absurd cc

pub cell_added : (added : Bool) (names pushed : List (List ℕ)) (bytes name : List ℕ) (used : BTreeSet (Vec ℕ)) → bytes ≡ name → added ≡ true
    → Adds added names bytes used → pushed ≡ names ++ name ∷ [] → AddsCell added names name (record { names = pushed; used = used })
cell_added true names pushed bytes name used is put h p =
    let g : Adds true names name used = subst (λ (x : List ℕ). Adds true names x used) is h in (g.0, p, subst (λ (l : List (List ℕ)). Holds used l) (sym p) g.1)
cell_added false names pushed bytes name used is put h p = absurd cc

pub cell_there : (added : Bool) (names : List (List ℕ)) (bytes name : List ℕ) (used : BTreeSet (Vec ℕ)) → bytes ≡ name → added ≡ false
    → Adds added names bytes used → AddsCell added names name (record { names = names; used = used })
cell_there false names bytes name used is other h = subst (λ (x : List ℕ). In x names) is h
cell_there true names bytes name used is other h = absurd cc
