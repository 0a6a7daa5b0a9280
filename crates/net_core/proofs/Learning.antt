-- Texts that are learned one after the other.
use Rattle.std.proofs.Common.{◌≡◌, ℕ, ◌+◌, ◌<◌, List, [], ◌∷◌, ◌++◌, length, get_or, take, Option, Some, None, refl, sym, ap, subst, ◌∙◌, append_assoc, append-nil, arith, ◌⊎◌, inl, inr}
use Rattle.std.specs.Prelude.{MatchOption}
use Rattle.std.specs.List.{All}
use Rattle.std.proofs.lemmas.List.{take_more, get_or-take, length-take-le}
use Rattle.std.proofs.lemmas.List.Elements.{All-more, All-weaker}
use Rattle.std.proofs.lemmas.Option.{slice_get_within, get_or_from_slice_get, slice_get-get_or}
use Rattle.net_core.specs.Places.{Stands, IsThere, NoneTwice, Begins, AddsOnly, Learned, position_of}
use Rattle.net_core.proofs.Standing.{Split, left, right, split, only_one, stands_left, stands_last, position_stands}
use Rattle.net_core.proofs.Growing.{learned_grows}

pub record AreLearned (old now texts : List (List ℕ)) (i : ℕ) : Type 0 where
  pub grown : Begins old now
  pub there : All (IsThere now) (take i texts)
  pub only : AddsOnly old now (take i texts)
  pub same : old ≡ [] → NoneTwice texts → now ≡ take i texts

pub learned_start : (old texts : List (List ℕ)) → AreLearned old old texts 0
learned_start old texts = record {
  grown = ([], sym (append-nil old));
  there = λ k d l. absurd (omega (arith, l));
  only = λ x t. inl t;
  same = λ e once. e;
}

absent_of : (texts : List (List ℕ)) (i : ℕ) → i < length texts → NoneTwice texts → position_of (take i texts) (get_or texts i []) ≡ None
absent_of texts i l once = by (position_of (take i texts) (get_or texts i [])) refl where
  by : (o : Option ℕ) → position_of (take i texts) (get_or texts i []) ≡ o → o ≡ None
  by None e = refl
  by (Some k) e =
      let s : Stands (take i texts) k (get_or texts i []) = position_stands (take i texts) (get_or texts i []) k e in
      let w = slice_get_within (take i texts) k (get_or texts i []) s in
      let n : length (take i texts) ≡ i = length-take-le i texts (omega (arith, l)) in
      let t : get_or (take i texts) k [] ≡ get_or texts i [] = get_or_from_slice_get (take i texts) k (get_or texts i []) [] s in
      let u : get_or texts k [] ≡ get_or texts i [] = sym (get_or-take i texts k [] (omega (arith, w, n))) ∙ t in
      let here : Stands texts k (get_or texts i []) = slice_get-get_or texts k [] (omega (arith, w, n, l)) ∙ ap Some u in
      let same : k ≡ i = once k i (get_or texts i []) here (slice_get-get_or texts i [] l) in
      absurd (omega (arith, same, w, n))

-- what stands there once a text was learned
pub learned_only : (now new : List (List ℕ)) (t : List ℕ) → Learned now new t → (x : List ℕ) → IsThere new x → IsThere now x ⊎ (t ≡ x)
learned_only now new t l x there = by (position_of now t) l where
  by : (o : Option ℕ) → MatchOption o (new ≡ now ++ t ∷ []) (λ _. new ≡ now) → IsThere now x ⊎ (t ≡ x)
  by None e = cases (split now (t ∷ []) there.0 x (subst (λ (xs : List (List ℕ)). Stands xs there.0 x) e there.1)) where
    cases : Split now (t ∷ []) there.0 x → IsThere now x ⊎ (t ≡ x)
    cases (left s) = inl (there.0, s)
    cases (right j n s) = inr (only_one t x (j, s))
  by (Some k) e = inl (there.0, subst (λ (xs : List (List ℕ)). Stands xs there.0 x) e there.1)

pub learned_step : (old now new texts : List (List ℕ)) (i k : ℕ) → AreLearned old now texts i → i < length texts → Learned now new (get_or texts i []) → Stands new k (get_or texts i []) → AreLearned old new texts (i + 1)
learned_step old now new texts i k a l learned stands = record {
  grown = let g = learned_grows now new (get_or texts i []) learned in (a.grown.0 ++ g.0, g.1 ∙ ap (λ (xs : List (List ℕ)). xs ++ g.0) a.grown.1 ∙ append_assoc old a.grown.0 g.0);
  there = All-more (IsThere new) texts i [] l (All-weaker (IsThere now) (IsThere new) (λ x t. more x t) (take i texts) a.there) (k, stands);
  only = λ x t. from x t (a.only x) (learned_only now new (get_or texts i []) learned x t);
  same = λ e once.
      let before : now ≡ take i texts = a.same e once in
      let absent : position_of now (get_or texts i []) ≡ None = ap (λ (xs : List (List ℕ)). position_of xs (get_or texts i [])) before ∙ absent_of texts i l once in
      let pushed : new ≡ now ++ get_or texts i [] ∷ [] = subst (λ (o : Option ℕ). MatchOption o (new ≡ now ++ get_or texts i [] ∷ []) (λ _. new ≡ now)) absent learned in
      pushed ∙ ap (λ (xs : List (List ℕ)). xs ++ get_or texts i [] ∷ []) before ∙ sym (take_more texts i [] l);
} where
  last : IsThere (take (i + 1) texts) (get_or texts i [])
  last = subst (λ (xs : List (List ℕ)). IsThere xs (get_or texts i [])) (sym (take_more texts i [] l)) (length (take i texts), stands_last (take i texts) (get_or texts i []))

  kept : (x : List ℕ) → IsThere (take i texts) x → IsThere (take (i + 1) texts) x
  kept x t = subst (λ (xs : List (List ℕ)). IsThere xs x) (sym (take_more texts i [] l)) (t.0, stands_left (take i texts) (get_or texts i [] ∷ []) t.0 x t.1)

  from : (x : List ℕ) → IsThere new x → (IsThere now x → IsThere old x ⊎ IsThere (take i texts) x) → IsThere now x ⊎ (get_or texts i [] ≡ x) → IsThere old x ⊎ IsThere (take (i + 1) texts) x
  from x t before (inl n) = by (before n) where
    by : IsThere old x ⊎ IsThere (take i texts) x → IsThere old x ⊎ IsThere (take (i + 1) texts) x
    by (inl o) = inl o
    by (inr k) = inr (kept x k)
  from x t before (inr e) = inr (subst (λ (y : List ℕ). IsThere (take (i + 1) texts) y) e last)

  more : (x : List ℕ) → IsThere now x → IsThere new x
  more x t = let g = learned_grows now new (get_or texts i []) learned in (t.0, subst (λ (xs : List (List ℕ)). Stands xs t.0 x) (sym g.1) (stands_left now g.0 t.0 x t.1))

pub learned_all : (old now texts : List (List ℕ)) (i : ℕ) → i ≡ length texts → AreLearned old now texts i → AreLearned old now texts (length texts)
learned_all old now texts i e a = subst (λ n. AreLearned old now texts n) e a

pub there_still : (xs ys texts : List (List ℕ)) → Begins xs ys → All (IsThere xs) texts → All (IsThere ys) texts
there_still xs ys texts b all = All-weaker (IsThere xs) (IsThere ys) (λ x t. (t.0, subst (λ (zs : List (List ℕ)). Stands zs t.0 x) (sym b.1) (stands_left xs b.0 t.0 x t.1))) texts all
