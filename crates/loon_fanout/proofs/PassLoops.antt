-- Numbers that lead to each other, and loops of them.
use Rattle.std.proofs.Common.{◌≡◌, ◌≢◌, ◌⊎◌, inl, inr, ℕ, zero, suc, ◌+◌, ◌<◌, Bool, true, false, List, [], ◌∷◌, length, Some, refl, sym, ◌∙◌, subst, arith}
use Rattle.vlsi_base.specs.Member.{In, here, there, AllDifferent}
use Rattle.net_core.specs.Places.{Stands}

-- ---- a closed way has a ring of different ones

-- each leads to the next, and the last to z
abbrev pub Chain : {A : Type 0} → (A → A → Type 0) → A → List A → A → Type 0
Chain R a [] z = R a z
Chain R a (b ∷ xs) z = R a b × Chain R b xs z

pub record Ring {A : Type 0} (R : A → A → Type 0) : Type 0 where
  pub start : A
  pub rest : List A
  pub round : Chain R start rest start
  pub different : AllDifferent (start ∷ rest)

-- a way back to a by some of these
record Back {A : Type 0} (R : A → A → Type 0) (a b : A) (xs : List A) : Type 0 where
  rest : List A
  way : Chain R b rest a
  different : AllDifferent (a ∷ b ∷ rest)
  among : (y : A) → In y rest → In y xs

data Met {A : Type 0} (R : A → A → Type 0) (a b : A) (xs : List A) : Type 0 where
  at_once : a ≡ b → Met R a b xs
  later : Back R a b xs → Met R a b xs
  never : (In a (b ∷ xs) → ⊥) → Met R a b xs

in_one : {A : Type 0} (a b : A) (xs : List A) → a ≢ b → (In a xs → ⊥) → In a (b ∷ xs) → ⊥
in_one a b xs apart absent here = apart refl
in_one a b xs apart absent (there h) = absent h

in_more : {A : Type 0} (c : A) (ys xs : List A) → ((y : A) → In y ys → In y xs) → (y : A) → In y (c ∷ ys) → In y (c ∷ xs)
in_more c ys xs among y here = here
in_more c ys xs among y (there h) = there (among y h)

nothing : {A : Type 0} (a : A) → In a [] → ⊥
nothing a h = elim h [ ]

module _ {A : Type 0} (test : A → A → Bool) (same : (a b : A) → test a b ≡ true → a ≡ b) (itself : (a : A) → test a a ≡ true) (R : A → A → Type 0) where
  apart : (a b : A) → test a b ≡ false → a ≢ b
  apart a b e s = let yes : test a b ≡ true = subst (λ (x : A). test a x ≡ true) s (itself a) in let no : true ≡ false = sym yes ∙ e in absurd (cc no)

  meet : (a b : A) (xs : List A) (z : A) → Chain R b xs z → AllDifferent (b ∷ xs) → Met R a b xs
  meet a b [] z way d = by (test a b) refl where
    by : (t : Bool) → test a b ≡ t → Met R a b []
    by true e = at_once (same a b e)
    by false e = never (in_one a b [] (apart a b e) (nothing a))
  meet a b (c ∷ xs) z way d = by (test a b) refl (meet a c xs z way.1 d.1) where
    by : (t : Bool) → test a b ≡ t → Met R a c xs → Met R a b (c ∷ xs)
    by true e rest = at_once (same a b e)
    by false e (at_once is) = later (record {
      rest = [];
      way = subst (λ (x : A). R b x) (sym is) way.0;
      different = (in_one a b [] (apart a b e) (nothing a), (nothing b, tt));
      among = λ y h. absurd (nothing y h);
    })
    by false e (later r) = later (record {
      rest = c ∷ r.rest;
      way = (way.0, r.way);
      different = (in_one a b (c ∷ r.rest) (apart a b e) r.different.0, (λ h. d.0 (in_more c r.rest xs r.among b h), r.different.1));
      among = in_more c r.rest xs r.among;
    })
    by false e (never absent) = never (in_one a b (c ∷ xs) (apart a b e) absent)

  find : (a : A) (xs : List A) (z : A) → Chain R a xs z → Ring R ⊎ AllDifferent (a ∷ xs)
  find a [] z way = inr (nothing a, tt)
  find a (b ∷ xs) z way = by (find b xs z way.1) where
    met : AllDifferent (b ∷ xs) → Met R a b xs → Ring R ⊎ AllDifferent (a ∷ b ∷ xs)
    met d (at_once is) = inl (record { start = a; rest = []; round = subst (λ (x : A). R a x) (sym is) way.0; different = (nothing a, tt) })
    met d (later r) = inl (record { start = a; rest = b ∷ r.rest; round = (way.0, r.way); different = r.different })
    met d (never absent) = inr (absent, d)

    by : Ring R ⊎ AllDifferent (b ∷ xs) → Ring R ⊎ AllDifferent (a ∷ b ∷ xs)
    by (inl ring) = inl ring
    by (inr d) = met d (meet a b xs z way.1 d)

  -- a closed way has a ring
  pub ring_in : (a : A) (xs : List A) → Chain R a xs a → Ring R
  ring_in a xs way = by (find a xs a way) where
    by : Ring R ⊎ AllDifferent (a ∷ xs) → Ring R
    by (inl ring) = ring
    by (inr d) = record { start = a; rest = xs; round = way; different = d }

first_is : {A : Type 0} (x : A) (xs : List A) (b : A) → Stands (x ∷ xs) 0 b → x ≡ b
first_is x xs b s = let e : Some x ≡ Some b = s in cc e

shift : {A : Type 0} (x : A) (xs : List A) (k : ℕ) (b : A) → Stands (x ∷ xs) (k + 1) b → Stands xs k b
shift {A} x xs k b s = let e : k + 1 ≡ suc k = omega arith in subst (λ j. Stands (x ∷ xs) j b) e s

pub chain_next : {A : Type 0} (R : A → A → Type 0) (a : A) (xs : List A) (z : A) → Chain R a xs z → (k : ℕ) (x y : A) → Stands (a ∷ xs) k x → Stands (a ∷ xs) (k + 1) y → R x y
chain_next R a [] z way k x y p q = absurd (let s = shift a [] k y q in cc s)
chain_next {A} R a (b ∷ xs) z way zero x y p q =
    subst (λ (v : A). R v y) (first_is a (b ∷ xs) x p) (subst (λ (v : A). R a v) (first_is b xs y (shift a (b ∷ xs) 0 y q)) way.0)
chain_next R a (b ∷ xs) z way (suc k) x y p q =
    let e : suc k ≡ k + 1 = omega arith in
    chain_next R b xs z way.1 k x y p (subst (λ j. Stands (b ∷ xs) j y) e (shift a (b ∷ xs) (suc k) y q))

pub chain_last : {A : Type 0} (R : A → A → Type 0) (a : A) (xs : List A) (z : A) → Chain R a xs z → (x : A) → Stands (a ∷ xs) (length xs) x → R x z
chain_last {A} R a [] z way x p = subst (λ (v : A). R v z) (first_is a [] x p) way
chain_last R a (b ∷ xs) z way x p = chain_last R b xs z way.1 x p

-- ---- ways of numbers

pub data Plus (E : ℕ → ℕ → Type 0) : ℕ → ℕ → Type 0 where
  one : {a b : ℕ} → E a b → Plus E a b
  more : {a b c : ℕ} → E a b → Plus E b c → Plus E a c

abbrev pub HasNoLoop : (ℕ → ℕ → Type 0) → Type 0
HasNoLoop E = (a : ℕ) → Plus E a a → ⊥

-- steps of F fall within a number of E, or are steps of E
pub contracted : (E F : ℕ → ℕ → Type 0) (f : ℕ → ℕ) → ((a b : ℕ) → F a b → ((f a ≡ f b) × (b < a)) ⊎ E (f a) (f b)) → HasNoLoop E → HasNoLoop F
contracted E F f each none a way = by (walk a a way) where
  walk : (a b : ℕ) → Plus F a b → ((f a ≡ f b) × (b < a)) ⊎ Plus E (f a) (f b)
  walk a b (one s) = elim (each a b s) [ inl x ↦ inl x | inr y ↦ inr (one y) ]
  walk a c (more {b = b} s rest) = joined (each a b s) (walk b c rest) where
    joined : ((f a ≡ f b) × (b < a)) ⊎ E (f a) (f b) → ((f b ≡ f c) × (c < b)) ⊎ Plus E (f b) (f c) → ((f a ≡ f c) × (c < a)) ⊎ Plus E (f a) (f c)
    joined (inl x) (inl y) = let p = x.1 in let q = y.1 in inl (x.0 ∙ y.0, omega (arith, p, q))
    joined (inl x) (inr y) = inr (subst (λ z. Plus E z (f c)) (sym x.0) y)
    joined (inr x) (inl y) = inr (one (subst (λ z. E (f a) z) y.0 x))
    joined (inr x) (inr y) = inr (more x y)

  by : ((f a ≡ f a) × (a < a)) ⊎ Plus E (f a) (f a) → ⊥
  by (inl x) = let p = x.1 in absurd (omega (arith, p))
  by (inr y) = none (f a) y

-- terminals in turn lead round
pub along : {A : Type 0} (E : ℕ → ℕ → Type 0) (f : A → ℕ) (a : A) (xs : List A) (z : ℕ)
    → ((k : ℕ) (x y : A) → Stands (a ∷ xs) k x → Stands (a ∷ xs) (k + 1) y → E (f x) (f y)) → ((x : A) → Stands (a ∷ xs) (length xs) x → E (f x) z) → Plus E (f a) z
along E f a [] z next close = one (close a refl)
along E f a (b ∷ xs) z next close =
    more (next 0 a b refl refl) (along E f b xs z (λ k x y p q.
    let e : k + 1 + 1 ≡ suc (k + 1) = omega arith in
    let g : k + 1 ≡ suc k = omega arith in
    next (k + 1) x y (subst (λ j. Stands (a ∷ b ∷ xs) j x) (sym g) p) (subst (λ j. Stands (a ∷ b ∷ xs) j y) (sym e) q)) (λ x p. close x p))
