-- Where elements stand in a list that grows.
use Rattle.std.proofs.Common.{◌≡◌, ℕ, suc, zero, ◌+◌, Bool, true, false, cond, List, [], ◌∷◌, ◌++◌, length, Option, Some, None, refl, sym, ap, subst, ◌∙◌, bytes_eq, arith}
use Rattle.std.specs.Prelude.{option_map}
use Rattle.std.specs.Global.{Vec}
use Rattle.std.specs.BTreeMap.{BTreeMap}
use Rattle.std.proofs.lemmas.Option.{slice_get_within}
use Rattle.net_core.specs.Places.{Stands, IsThere, NoneTwice, position_of, place_at, KnowsPlaces}
use Rattle.net_core.proofs.Lookups.{same_of, itself}

pub stands_left : {X : Type 0} (xs ys : List X) (k : ℕ) (x : X) → Stands xs k x → Stands (xs ++ ys) k x
stands_left [] ys k x e = absurd cc
stands_left (y ∷ xs) ys zero x e = e
stands_left (y ∷ xs) ys (suc k) x e = stands_left xs ys k x e

pub stands_right : {X : Type 0} (xs ys : List X) (k : ℕ) (x : X) → Stands ys k x → Stands (xs ++ ys) (length xs + k) x
stands_right {X} [] ys k x e = let n : 0 + k ≡ k = omega arith in subst (λ i. Stands ys i x) (sym n) e
stands_right (y ∷ xs) ys k x e = let n : length (y ∷ xs) + k ≡ suc (length xs + k) = omega arith in rw n (stands_right xs ys k x e)

-- an element of two lists stands in the first or in the second
pub data Split {X : Type 0} (xs ys : List X) (k : ℕ) (x : X) : Type 0 where
  left : Stands xs k x → Split xs ys k x
  right : (j : ℕ) → k ≡ length xs + j → Stands ys j x → Split xs ys k x

pub split : {X : Type 0} (xs ys : List X) (k : ℕ) (x : X) → Stands (xs ++ ys) k x → Split xs ys k x
split [] ys k x e = right k (omega arith) e
split (y ∷ xs) ys zero x e = left e
split {X} (y ∷ xs) ys (suc k) x e = by (split xs ys k x e) where
  by : Split xs ys k x → Split (y ∷ xs) ys (suc k) x
  by (left s) = left s
  by (right j n s) = right j (omega (arith, n)) s

pub stands_same : {X : Type 0} (xs : List X) (k : ℕ) (x y : X) → Stands xs k x → Stands xs k y → x ≡ y
stands_same xs k x y p q = let e : Some x ≡ Some y = sym p ∙ q in cc

pub none_twice_append : {X : Type 0} (xs ys : List X) → NoneTwice xs → NoneTwice ys → ((x : X) → IsThere xs x → IsThere ys x → ⊥) → NoneTwice (xs ++ ys)
none_twice_append {X} xs ys one two apart i j x p q = by (split xs ys i x p) (split xs ys j x q) where
  by : Split xs ys i x → Split xs ys j x → i ≡ j
  by (left a) (left b) = one i j x a b
  by (left a) (right l n b) = absurd (apart x (i, a) (l, b))
  by (right k m a) (left b) = absurd (apart x (j, b) (k, a))
  by (right k m a) (right l n b) = let e : k ≡ l = two k l x a b in omega arith

pub none_twice_one : {X : Type 0} (x : X) → NoneTwice (x ∷ [])
none_twice_one x zero zero y p q = refl
none_twice_one x zero (suc j) y p q = absurd cc
none_twice_one x (suc i) j y p q = absurd cc

pub only_one : {X : Type 0} (x y : X) → IsThere (x ∷ []) y → x ≡ y
only_one {X} x y f = by f.0 f.1 where
  by : (k : ℕ) → Stands (x ∷ []) k y → x ≡ y
  by zero e = cc
  by (suc k) e = absurd cc

pub none_twice_push : {X : Type 0} (xs : List X) (x : X) → NoneTwice xs → (IsThere xs x → ⊥) → NoneTwice (xs ++ x ∷ [])
none_twice_push {X} xs x once lacks = none_twice_append xs (x ∷ []) once (none_twice_one x) (λ y there last. lacks (subst (λ (z : X). IsThere xs z) (sym (only_one x y last)) there))

suc_of : (o : Option ℕ) (k : ℕ) → option_map suc o ≡ Some k → (j : ℕ) × (o ≡ Some j) × (k ≡ suc j)
suc_of None k e = absurd cc
suc_of (Some j) k e = (j, refl, cc)

suc_none : (o : Option ℕ) → option_map suc o ≡ None → o ≡ None
suc_none None e = refl
suc_none (Some j) e = absurd cc

pub position_stands : (texts : List (List ℕ)) (t : List ℕ) (k : ℕ) → position_of texts t ≡ Some k → Stands texts k t
position_stands [] t k e = absurd cc
position_stands (x ∷ texts) t k e = by (position_stands texts t) (bytes_eq x t) refl e where
  by : ((j : ℕ) → position_of texts t ≡ Some j → Stands texts j t) → (b : Bool) → bytes_eq x t ≡ b → cond b (Some 0) (option_map suc (position_of texts t)) ≡ Some k → Stands (x ∷ texts) k t
  by rest true here e = let z : 0 ≡ k = cc in subst (λ i. Stands (x ∷ texts) i t) z (ap Some (same_of x t here))
  by rest false here e = let f = suc_of (position_of texts t) k e in subst (λ i. Stands (x ∷ texts) i t) (sym f.2) (rest f.0 f.1)

pub position_absent : (texts : List (List ℕ)) (t : List ℕ) → position_of texts t ≡ None → IsThere texts t → ⊥
position_absent [] t e f = absurd cc
position_absent (x ∷ texts) t e f = by (position_absent texts t) (bytes_eq x t) refl e f.0 f.1 where
  by : (position_of texts t ≡ None → IsThere texts t → ⊥) → (b : Bool) → bytes_eq x t ≡ b → cond b (Some 0) (option_map suc (position_of texts t)) ≡ None → (k : ℕ) → Stands (x ∷ texts) k t → ⊥
  by rest true here e k s = absurd cc
  by rest false here e zero s = let same : x ≡ t = cc in let no : true ≡ false = sym (itself x) ∙ subst (λ (z : List ℕ). bytes_eq x z ≡ false) (sym same) here in absurd cc
  by rest false here e (suc k) s = rest (suc_none (position_of texts t) e) (k, s)

pub position_there : (texts : List (List ℕ)) (t : List ℕ) (k : ℕ) → NoneTwice texts → Stands texts k t → position_of texts t ≡ Some k
position_there texts t k once s = by (position_of texts t) refl where
  by : (o : Option ℕ) → position_of texts t ≡ o → o ≡ Some k
  by None e = absurd (position_absent texts t e (k, s))
  by (Some j) e = ap Some (once j k t (position_stands texts t j e) s)

suc_cond : (b : Bool) (n : ℕ) (o : Option ℕ) → option_map suc (cond b (Some n) o) ≡ cond b (Some (suc n)) (option_map suc o)
suc_cond true n o = refl
suc_cond false n o = refl

pub position_push : (texts : List (List ℕ)) (text t : List ℕ) → position_of texts text ≡ None → position_of (texts ++ text ∷ []) t ≡ cond (bytes_eq text t) (Some (length texts)) (position_of texts t)
position_push [] text t e = refl
position_push (x ∷ texts) text t e = by (position_push texts text t) (bytes_eq x text) refl (bytes_eq x t) refl e where
  by : (position_of texts text ≡ None → position_of (texts ++ text ∷ []) t ≡ cond (bytes_eq text t) (Some (length texts)) (position_of texts t))
      → (a : Bool) → bytes_eq x text ≡ a → (b : Bool) → bytes_eq x t ≡ b → cond a (Some 0) (option_map suc (position_of texts text)) ≡ None
      → cond b (Some 0) (option_map suc (position_of (texts ++ text ∷ []) t)) ≡ cond (bytes_eq text t) (Some (suc (length texts))) (cond b (Some 0) (option_map suc (position_of texts t)))
  by rest true p b q e = absurd cc
  by rest false p false q e = ap (option_map suc) (rest (suc_none (position_of texts text) e)) ∙ suc_cond (bytes_eq text t) (length texts) (position_of texts t)
  by rest false p true q e = by_other (bytes_eq text t) refl where
    by_other : (d : Bool) → bytes_eq text t ≡ d → Some 0 ≡ cond d (Some (suc (length texts))) (Some 0)
    by_other false r = refl
    by_other true r = let same : text ≡ t = same_of text t r in let no : true ≡ false = sym q ∙ subst (λ (z : List ℕ). bytes_eq x z ≡ false) same p in absurd cc

pub knows_push : (old new : BTreeMap (Vec ℕ) ℕ) (texts items : List (List ℕ)) (text : List ℕ) (n : ℕ) → KnowsPlaces old texts → position_of texts text ≡ None → n ≡ length texts
    → ((t : List ℕ) → place_at new t ≡ cond (bytes_eq text t) (Some n) (place_at old t)) → items ≡ texts ++ text ∷ [] → KnowsPlaces new items
knows_push old new texts items text n knows lacks count puts pushed = record {
  each = λ t. puts t ∙ ap (λ (o : Option ℕ). cond (bytes_eq text t) (Some n) o) (knows.each t) ∙ ap (λ i. cond (bytes_eq text t) (Some i) (position_of texts t)) count ∙ sym (position_push texts text t lacks) ∙ ap (λ (xs : List (List ℕ)). position_of xs t) (sym pushed);
  once = subst (λ (xs : List (List ℕ)). NoneTwice xs) (sym pushed) (none_twice_push texts text knows.once (position_absent texts text lacks));
}

pub stands_last : {X : Type 0} (xs : List X) (x : X) → Stands (xs ++ x ∷ []) (length xs) x
stands_last [] x = refl
stands_last (y ∷ xs) x = stands_last xs x

none_twice_left : {X : Type 0} (xs : List X) (x : X) → NoneTwice (xs ++ x ∷ []) → NoneTwice xs
none_twice_left xs x once i j y p q = once i j y (stands_left xs (x ∷ []) i y p) (stands_left xs (x ∷ []) j y q)

none_twice_last : {X : Type 0} (xs : List X) (x : X) → NoneTwice (xs ++ x ∷ []) → IsThere xs x → ⊥
none_twice_last xs x once t =
    let e : t.0 ≡ length xs = once t.0 (length xs) x (stands_left xs (x ∷ []) t.0 x t.1) (stands_last xs x) in
    let w = slice_get_within xs t.0 x t.1 in omega (arith, e, w)

absent_position : (texts : List (List ℕ)) (t : List ℕ) → (IsThere texts t → ⊥) → position_of texts t ≡ None
absent_position texts t lacks = by (position_of texts t) refl where
  by : (o : Option ℕ) → position_of texts t ≡ o → o ≡ None
  by None e = refl
  by (Some k) e = absurd (lacks (k, position_stands texts t k e))

pub knows_pop : (old new : BTreeMap (Vec ℕ) ℕ) (items texts : List (List ℕ)) (text : List ℕ) → KnowsPlaces old items → items ≡ texts ++ text ∷ []
    → ((t : List ℕ) → place_at new t ≡ cond (bytes_eq text t) None (place_at old t)) → KnowsPlaces new texts
knows_pop old new items texts text knows is puts = record {
  each = λ t. puts t ∙ by t (bytes_eq text t) refl;
  once = none_twice_left texts text once;
} where
  once : NoneTwice (texts ++ text ∷ [])
  once = subst (λ (xs : List (List ℕ)). NoneTwice xs) is knows.once

  lacks : position_of texts text ≡ None
  lacks = absent_position texts text (none_twice_last texts text once)

  by : (t : List ℕ) (b : Bool) → bytes_eq text t ≡ b → cond b None (place_at old t) ≡ position_of texts t
  by t true e = sym (ap (position_of texts) (sym (same_of text t e)) ∙ lacks)
  by t false e = knows.each t ∙ ap (λ (xs : List (List ℕ)). position_of xs t) is ∙ position_push texts text t lacks ∙ ap (λ b. cond b (Some (length texts)) (position_of texts t)) e
