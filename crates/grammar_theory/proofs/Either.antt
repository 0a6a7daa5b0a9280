-- A choice by the set of tokens that one grammar begins with.
use Rattle.std.proofs.Common.{◌≡◌, Bool, true, false, cond, List, [], ◌∷◌, ◌++◌, inl, inr, refl, sym, ap, subst, ◌∙◌, Ok, Err}
use Rattle.std.proofs.lemmas.List.{append-nil}
use Rattle.vhdl_token.specs.declared.token.PlacedToken.{PlacedToken}
use Rattle.grammar_theory.specs.Tokens.{code_of, among}
use Rattle.grammar_theory.specs.declared.refusal.Breach.{Breach}
use Rattle.grammar_theory.specs.declared.refusal.Reason.{Reason}
use Rattle.grammar_theory.specs.declared.refusal.Reason.TheVariants as reason
use Rattle.grammar_theory.specs.declared.refusal.Refusal.{Refusal}
use Rattle.grammar_theory.specs.Marks.{Item, State}
use Rattle.grammar_theory.specs.Grammar.{Grammar, ◌or◌, Begins}
use Rattle.grammar_theory.specs.Outcome.{At, Outcome}
use Rattle.grammar_theory.specs.Answers.{Meets, Faults, Breaks, Blames, Answers, tokens_of}
use Rattle.grammar_theory.proofs.Sets.{Set, has, elem, disjoint, clash, by_test, elem-left, elem-right}
use Rattle.grammar_theory.proofs.Exact.{Shape}
use Rattle.grammar_theory.proofs.Sequence.{when_null, in_null, Away}

pub either_shape : {A : Type 0} (L M : Grammar A) (fl ll : Set) (nm : Bool) (fm lm : Set)
    → Shape L false fl ll → Shape M nm fm lm → disjoint fl fm ≡ true
    → Shape (L or M) nm (fl ++ fm) (ll ++ (lm ++ when_null nm fl))
either_shape {A} L M fl ll nm fm lm shl shm apart = record {
  same = λ p v w h g. elim h [
    | inl a ↦ elim g [ inl b ↦ shl.same p v w a b | inr b ↦ absurd (mixed p [] v w a (subst (λ (z : List Item). M z w) (sym (append-nil p)) b)) ]
    | inr a ↦ elim g [ inl b ↦ absurd (mixed p [] w v b (subst (λ (z : List Item). M z v) (sym (append-nil p)) a)) | inr b ↦ shm.same p v w a b ]
  ];
  empty = λ v h. elim h [ inl a ↦ absurd (never v a) | inr b ↦ shm.empty v b ];
  begins = λ t q v h. elim h [ inl a ↦ elem-left (code_of t.token) fl fm (shl.begins t q v a) | inr b ↦ elem-right (code_of t.token) fl fm (shm.begins t q v b) ];
  goes_on = λ p t q v w h g. elim h [
    | inl a ↦ elim g [ inl b ↦ elem-left (code_of t.token) ll (lm ++ when_null nm fl) (shl.goes_on p t q v w a b) | inr b ↦ absurd (mixed p (t ∷ q) v w a b) ]
    | inr a ↦ elim g [ inl b ↦ crossed p t q v w a b | inr b ↦ elem-right (code_of t.token) ll (lm ++ when_null nm fl) (elem-left (code_of t.token) lm (when_null nm fl) (shm.goes_on p t q v w a b)) ]
  ];
  marks = λ p i j w z v u h g e. elim h [
    | inl a ↦ elim g [ inl b ↦ shl.marks p i j w z v u a b e | inr b ↦ absurd (apart_marks p i j w z v u a b e) ]
    | inr a ↦ elim g [ inl b ↦ absurd (apart_marks p j i z w u v b a (sym e)) | inr b ↦ shm.marks p i j w z v u a b e ]
  ];
} where
  never : (v : A) → L [] v → ⊥
  never v h = let e = shl.empty v h in cc

  mixed : (p q : List Item) (v w : A) → L p v → M (p ++ q) w → ⊥
  mixed [] q v w a b = never v a
  mixed (t ∷ p) q v w a b = clash (code_of t.token) fl fm apart (shl.begins t p v a) (shm.begins t (p ++ q) w b)

  apart_marks : (p : List Item) (i j : Item) (w z : List Item) (v u : A) → L (p ++ i ∷ w) v → M (p ++ j ∷ z) u → i.token ≡ j.token → ⊥
  apart_marks [] i j w z v u a b e =
      let first : elem (code_of j.token) fl ≡ true = subst (λ (t : PlacedToken). elem (code_of t) fl ≡ true) e (shl.begins i w v a) in
      clash (code_of j.token) fl fm apart first (shm.begins j z u b)
  apart_marks (t ∷ p) i j w z v u a b e = clash (code_of t.token) fl fm apart (shl.begins t (p ++ i ∷ w) v a) (shm.begins t (p ++ j ∷ z) u b)

  crossed : (p : List Item) (t : Item) (q : List Item) (v w : A) → M p v → L (p ++ t ∷ q) w → has (ll ++ (lm ++ when_null nm fl)) t ≡ true
  crossed [] t q v w a b = elem-right (code_of t.token) ll (lm ++ when_null nm fl) (elem-right (code_of t.token) lm (when_null nm fl) (in_null nm fl t (shm.empty v a) (shl.begins t q w b)))
  crossed (u ∷ p) t q v w a b = absurd (clash (code_of u.token) fl fm apart (shl.begins u (p ++ t ∷ q) w b) (shm.begins u p v a))

-- ---- at a token of the set

-- a token of the set, as the next of a sentence
abbrev first_of_set : Set → PlacedToken → Bool
first_of_set fl t = elem (code_of t) fl

-- a sentence of the other grammar does not go on from here
near : {A : Type 0} (M : Grammar A) (fl : Set) (nm : Bool) (fm lm : Set) → Shape M nm fm lm → disjoint fl fm ≡ true
    → (t : PlacedToken) (ts : List PlacedToken) → first_of_set fl t ≡ true → (p : List Item) (rest : List PlacedToken) → t ∷ ts ≡ tokens_of p ++ rest → (w : List Item) (v : A) → M (p ++ w) v → Meets w rest → ⊥
near M fl nm fm lm shm apart t ts first [] rest parts w v h m =
    let same : m.next.token ≡ t = heads rest m.next.token m.rest_more m.rest_is parts in
    clash (code_of t) fl fm apart first (subst (λ (z : PlacedToken). first_of_set fm z ≡ true) same (shm.begins m.next m.w_more v (subst (λ (z : List Item). M z v) m.w_is h))) where
      heads : (r : List PlacedToken) (u : PlacedToken) (k : List PlacedToken) → r ≡ u ∷ k → t ∷ ts ≡ r → u ≡ t
      heads r u k e f = cc
near M fl nm fm lm shm apart t ts first (u ∷ p) rest parts w v h m =
    let same : u.token ≡ t = cc in
    clash (code_of t) fl fm apart first (subst (λ (z : PlacedToken). first_of_set fm z ≡ true) same (shm.begins u (p ++ w) v h))

-- nor does it end here, unless nothing was taken
started : {A : Type 0} (M : Grammar A) (fl : Set) (nm : Bool) (fm lm : Set) → Shape M nm fm lm → disjoint fl fm ≡ true
    → (t : PlacedToken) (ts : List PlacedToken) → first_of_set fl t ≡ true → (u : Item) (p : List Item) (rest : List PlacedToken) → t ∷ ts ≡ tokens_of (u ∷ p) ++ rest → (w : List Item) (v : A) → M ((u ∷ p) ++ w) v → ⊥
started M fl nm fm lm shm apart t ts first u p rest parts w v h =
    let same : u.token ≡ t = cc in
    clash (code_of t) fl fm apart first (subst (λ (z : PlacedToken). first_of_set fm z ≡ true) same (shm.begins u (p ++ w) v h))

left_faults : {A : Type 0} (L M : Grammar A) (fl : Set) (nm : Bool) (fm lm : Set) → Shape M nm fm lm → disjoint fl fm ≡ true
    → (t : PlacedToken) (ts : List PlacedToken) → first_of_set fl t ≡ true → (mark : Item) → mark.token ≡ t → Begins L (mark ∷ []) → (p : List Item) (rest : List PlacedToken) → t ∷ ts ≡ tokens_of p ++ rest → Faults L p rest → Faults (L or M) p rest
left_faults L M fl nm fm lm shm apart t ts first mark is via [] rest parts f =
    absurd (f.dead (mark ∷ via.0) via.1 via.2 (record { next = mark; w_more = via.0; rest_more = ts; w_is = refl; rest_is = sym parts ∙ ap (λ (z : PlacedToken). z ∷ ts) (sym is) }))
left_faults L M fl nm fm lm shm apart t ts first mark is via (u ∷ p) rest parts f = record {
  unfinished = λ w v h e. elim h [ inl a ↦ f.unfinished w v a e | inr b ↦ started M fl nm fm lm shm apart t ts first u p rest parts w v b ];
  dead = λ w v h m. elim h [ inl a ↦ f.dead w v a m | inr b ↦ started M fl nm fm lm shm apart t ts first u p rest parts w v b ];
}

left_blames : {A : Type 0} (L M : Grammar A) (fl : Set) (nm : Bool) (fm lm : Set) → Shape M nm fm lm → disjoint fl fm ≡ true
    → (t : PlacedToken) (ts : List PlacedToken) → first_of_set fl t ≡ true → (mark : Item) → mark.token ≡ t → Begins L (mark ∷ []) → (p : List Item) (rest : List PlacedToken) → t ∷ ts ≡ tokens_of p ++ rest → (s : State) (which : Reason) → Blames L s which p rest → Blames (L or M) s which p rest
left_blames L M fl nm fm lm shm apart t ts first mark is via p rest parts s reason.Syntax f = left_faults L M fl nm fm lm shm apart t ts first mark is via p rest parts f
left_blames L M fl nm fm lm shm apart t ts first mark is via p rest parts s (reason.Breach b) f = record { next = f.next; more = f.more; rest_is = f.rest_is; alive = (f.alive.0, f.alive.1, inl f.alive.2); broken = f.broken }

pub left_answers : {A : Type 0} (L M : Grammar A) (fl : Set) (nm : Bool) (fm lm : Set) → Shape M nm fm lm → disjoint fl fm ≡ true
    → (s : State) (t : PlacedToken) (ts : List PlacedToken) → first_of_set fl t ≡ true → (mark : Item) → mark.token ≡ t → Begins L (mark ∷ []) → (o : Outcome A) → Answers L (record { state = s; rest = t ∷ ts }) o → Answers (L or M) (record { state = s; rest = t ∷ ts }) o
left_answers L M fl nm fm lm shm apart s t ts first mark is via (Ok (v, there)) a = record {
  front = a.front;
  parts = a.parts;
  sentence = inl a.sentence;
  clean = a.clean;
  longest = λ w u h m. elim h [ inl b ↦ a.longest w u b m | inr b ↦ near M fl nm fm lm shm apart t ts first a.front there.rest a.parts w u b m ];
}
left_answers L M fl nm fm lm shm apart s t ts first mark is via (Err r) a = record {
  front = a.front;
  rest = a.rest;
  state = a.state;
  parts = a.parts;
  place = a.place;
  viable = (a.viable.0, a.viable.1, inl a.viable.2);
  clean = a.clean;
  blame = left_blames L M fl nm fm lm shm apart t ts first mark is via a.front a.rest a.parts a.state r.reason a.blame;
}

-- ---- at another token

far : {A : Type 0} (L : Grammar A) (fl ll : Set) → Shape L false fl ll → (ts : List PlacedToken) → among fl ts ≡ false → (p : List Item) (rest : List PlacedToken) → ts ≡ tokens_of p ++ rest
    → (w : List Item) (v : A) → L (p ++ w) v → Away w rest
far {A} L fl ll sh ts other p rest parts w v h = go p parts h where
  at_it : (t : Item) (q : List PlacedToken) → has fl t ≡ true → ts ≡ t.token ∷ q → ⊥
  at_it t q e f = let found : among fl ts ≡ true = subst (λ (z : List PlacedToken). among fl z ≡ true) (sym f) e in cc (other, found)

  go : (p : List Item) → ts ≡ tokens_of p ++ rest → L (p ++ w) v → Away w rest
  go [] f g = record {
    more = λ n. let e = sh.empty v (subst (λ (z : List Item). L z v) n g) in cc;
    apart = λ m. at_it m.next m.rest_more (sh.begins m.next m.w_more v (subst (λ (z : List Item). L z v) m.w_is g)) (f ∙ m.rest_is);
  }
  go (u ∷ p) f g = absurd (at_it u (tokens_of p ++ rest) (sh.begins u (p ++ w) v g) f)

right_blames : {A : Type 0} (L M : Grammar A) (fl ll : Set) → Shape L false fl ll → (ts : List PlacedToken) → among fl ts ≡ false
    → (p : List Item) (rest : List PlacedToken) → ts ≡ tokens_of p ++ rest → (s : State) (which : Reason) → Blames M s which p rest → Blames (L or M) s which p rest
right_blames L M fl ll sh ts other p rest parts s reason.Syntax f = record {
  unfinished = λ w v h e. elim h [ inl a ↦ (far L fl ll sh ts other p rest parts w v a).more e | inr b ↦ f.unfinished w v b e ];
  dead = λ w v h m. elim h [ inl a ↦ (far L fl ll sh ts other p rest parts w v a).apart m | inr b ↦ f.dead w v b m ];
}
right_blames L M fl ll sh ts other p rest parts s (reason.Breach b) f = record { next = f.next; more = f.more; rest_is = f.rest_is; alive = (f.alive.0, f.alive.1, inr f.alive.2); broken = f.broken }

pub right_answers : {A : Type 0} (L M : Grammar A) (fl ll : Set) → Shape L false fl ll → (here : At) → among fl here.rest ≡ false
    → (o : Outcome A) → Answers M here o → Answers (L or M) here o
right_answers L M fl ll sh here other (Ok (v, there)) a = record {
  front = a.front;
  parts = a.parts;
  sentence = inr a.sentence;
  clean = a.clean;
  longest = λ w u h m. elim h [ inl b ↦ (far L fl ll sh here.rest other a.front there.rest a.parts w u b).apart m | inr b ↦ a.longest w u b m ];
}
right_answers L M fl ll sh here other (Err r) a = record {
  front = a.front;
  rest = a.rest;
  state = a.state;
  parts = a.parts;
  place = a.place;
  viable = (a.viable.0, a.viable.1, inr a.viable.2);
  clean = a.clean;
  blame = right_blames L M fl ll sh here.rest other a.front a.rest a.parts a.state r.reason a.blame;
}

-- ---- both

-- a token of the set begins a sentence, with some mark
pub record Opened {A : Type 0} (L : Grammar A) (t : PlacedToken) : Type 0 where
  pub mark : Item
  pub is : mark.token ≡ t
  pub begins : Begins L (mark ∷ [])

either_from : {A : Type 0} (L M : Grammar A) (fl ll : Set) (nm : Bool) (fm lm : Set) → Shape L false fl ll → Shape M nm fm lm
    → disjoint fl fm ≡ true → ((t : PlacedToken) → first_of_set fl t ≡ true → Opened L t)
    → (s : State) (ts : List PlacedToken) (x y : Outcome A) → Answers L (record { state = s; rest = ts }) x → (among fl ts ≡ false → Answers M (record { state = s; rest = ts }) y) → Answers (L or M) (record { state = s; rest = ts }) (cond (among fl ts) x y)
either_from L M fl ll nm fm lm shl shm apart starts s [] x y a b = right_answers L M fl ll shl (record { state = s; rest = [] }) refl y (b refl)
either_from {A} L M fl ll nm fm lm shl shm apart starts s (t ∷ ts) x y a b =
    by_test (λ (o : Outcome A). Answers (L or M) (record { state = s; rest = t ∷ ts }) o) (among fl (t ∷ ts)) x y
    (λ first. let o = starts t first in left_answers L M fl nm fm lm shm apart s t ts first o.mark o.is o.begins x a)
    (λ other. right_answers L M fl ll shl (record { state = s; rest = t ∷ ts }) other y (b other))

pub either_answers : {A : Type 0} (L M : Grammar A) (fl ll : Set) (nm : Bool) (fm lm : Set) → Shape L false fl ll → Shape M nm fm lm
    → disjoint fl fm ≡ true → ((t : PlacedToken) → elem (code_of t) fl ≡ true → Opened L t)
    → (here : At) (x y : Outcome A) → Answers L here x → (among fl here.rest ≡ false → Answers M here y) → Answers (L or M) here (cond (among fl here.rest) x y)
either_answers L M fl ll nm fm lm shl shm apart starts here x y a b = either_from L M fl ll nm fm lm shl shm apart starts here.state here.rest x y a b
