-- The equations to which names alone lead, one after another.
use Rattle.std.proofs.Common.{◌≡◌, ◌⊎◌, inl, inr, ℕ, zero, suc, ◌+◌, ◌-◌, ◌<◌, ◌≤◌, true, false, List, [], ◌∷◌, length, map, Option, None, Some, slice_get, refl, sym, ap, subst, ◌∙◌, arith}
use Rattle.std.specs.Prelude.{is_some}
use Rattle.std.specs.List.{slice_index_or}
use Rattle.std.proofs.lemmas.Option.{slice_get-get_or}
use Rattle.std.proofs.Math.ListN.{set}
use Rattle.std.proofs.lemmas.List.{length-map}
use Rattle.bool_expr.specs.declared.expr.Expr.{Expr, Const, Var, Not', Pair', Choice'}
use Rattle.bool_expr.specs.Expression.{Expression, constant, variable, inverse, pair, choice}
use Rattle.bool_expr.specs.View.{view}
use Rattle.machine_core.specs.declared.equation.Equation.{Equation as EquationParts}
use Rattle.machine_core.specs.Machine.{Equation}
use Rattle.machine_core.specs.View.{equation_view}
use Rattle.boom_literal.specs.declared.literal.Literal.{Literal}
use Rattle.boom_muxes.specs.Planning.{Shows, LeadsTo, at_once, onward, EachLeadsBack, IsFollowed}

-- one more than the number of the name that an expression is, and else 0
abbrev pub name_number : Expression → ℕ
name_number (constant b) = 0
name_number (variable k) = k + 1
name_number (inverse e) = 0
name_number (pair g a b) = 0
name_number (choice c a b) = 0

-- so far, where the names lead on to what the rest shows
pub record IsFollowing (held : ℕ) (equations : List Equation) (l : Literal) (e rest : Expression) (old now : List (Option Literal)) : Type 0 where
  pub each : length now ≡ length old
  pub kept : (j : ℕ) (k : Literal) → slice_get old j ≡ Some (Some k) → slice_get now j ≡ Some (Some k)
  pub more : (j : ℕ) (k : Literal) → slice_get now j ≡ Some (Some k) → slice_get old j ≡ Some None → (k ≡ l) × LeadsTo held equations e j
  pub led : (j : ℕ) → Shows held rest j → LeadsTo held equations e j
  pub first : (j : ℕ) → Shows held e j → ((k : Literal) × (slice_get now j ≡ Some (Some k))) ⊎ Shows held rest j
  pub closed : (i j : ℕ) (k : Literal) (x : Equation) → slice_get now i ≡ Some (Some k) → slice_get old i ≡ Some None → slice_get equations i ≡ Some x → Shows held x.expr j
      → ((q : Literal) × (slice_get now j ≡ Some (Some q))) ⊎ Shows held rest j
  pub within : (k : ℕ) → rest ≡ variable k → k < held + length equations

pub following_none : (held : ℕ) (equations : List Equation) (l : Literal) (e : Expression) (old : List (Option Literal)) → EachLeadsBack held equations e
    → IsFollowing held equations l e e old old
following_none held equations l e old back = record {
  each = refl;
  kept = λ j k is. is;
  more = λ j k is none. absurd (cc (is, none));
  led = λ j shows. at_once shows;
  first = λ j shows. inr shows;
  closed = λ i j k x is none at shows. absurd (cc (is, none));
  within = back.first;
}

pub followed : (held : ℕ) (equations : List Equation) (l : Literal) (e rest : Expression) (old now : List (Option Literal)) → IsFollowing held equations l e rest old now
    → ((j : ℕ) → Shows held rest j → (k : Literal) × (slice_get now j ≡ Some (Some k))) → IsFollowed held equations l e old now
followed held equations l e rest old now f ended = record {
  each = f.each;
  kept = f.kept;
  first = λ j shows. elim (f.first j shows) [ inl h ↦ h | inr h ↦ ended j h ];
  more = f.more;
  closed = λ i j k x is none at shows. elim (f.closed i j k x is none at shows) [ inl h ↦ h | inr h ↦ ended j h ];
}

-- ---- one more

set_here : {A : Type 0} (xs : List A) (i : ℕ) (v : A) → i < length xs → slice_get (set xs i v) i ≡ Some v
set_here [] i v h = absurd (omega arith)
set_here (x ∷ xs) zero v h = refl
set_here (x ∷ xs) (suc i) v h = set_here xs i v (omega arith)

set_other : {A : Type 0} (xs : List A) (i j : ℕ) (v : A) → (i ≡ j → ⊥) → slice_get (set xs i v) j ≡ slice_get xs j
set_other [] i j v apart = refl
set_other (x ∷ xs) zero zero v apart = absurd (apart refl)
set_other (x ∷ xs) zero (suc j) v apart = refl
set_other (x ∷ xs) (suc i) zero v apart = refl
set_other (x ∷ xs) (suc i) (suc j) v apart = set_other xs i j v (λ e. apart (ap suc e))

length_set : {A : Type 0} (xs : List A) (i : ℕ) (v : A) → length (set xs i v) ≡ length xs
length_set [] i v = refl
length_set (x ∷ xs) zero v = refl
length_set (x ∷ xs) (suc i) v = let a = length_set xs i v in omega (arith, a)

one_or_other : (i j : ℕ) → (i ≡ j) ⊎ (i ≡ j → ⊥)
one_or_other zero zero = inl refl
one_or_other zero (suc j) = inr (λ e. let f : 0 ≡ suc j = e in omega (arith, f))
one_or_other (suc i) zero = inr (λ e. let f : suc i ≡ 0 = e in omega (arith, f))
one_or_other (suc i) (suc j) = by (one_or_other i j) where
  by : (i ≡ j) ⊎ (i ≡ j → ⊥) → (suc i ≡ suc j) ⊎ (suc i ≡ suc j → ⊥)
  by (inl e) = inl (ap suc e)
  by (inr n) = inr (λ e. n (omega (arith, e)))

-- the name at which the rest stands has this literal now, and what its equation says is the rest
module _ (held : ℕ) (equations : List Equation) (l : Literal) (e : Expression) (old now : List (Option Literal)) (i : ℕ) (x : Equation)
    (f : IsFollowing held equations l e (variable (held + i)) old now) (inside : i < length now) (none : slice_get now i ≡ Some None) (at : slice_get equations i ≡ Some x) where
  has : (j : ℕ) (k : Literal) → slice_get now j ≡ Some (Some k) → (q : Literal) × (slice_get (set now i (Some l)) j ≡ Some (Some q))
  has j k is = by (one_or_other i j) where
    by : (i ≡ j) ⊎ (i ≡ j → ⊥) → (q : Literal) × (slice_get (set now i (Some l)) j ≡ Some (Some q))
    by (inl same) = (l, subst (λ (n : ℕ). slice_get (set now i (Some l)) n ≡ Some (Some l)) same (set_here now i (Some l) inside))
    by (inr apart) = (k, set_other now i j (Some l) apart ∙ is)

  has_here : (j : ℕ) → Shows held (variable (held + i)) j → (q : Literal) × (slice_get (set now i (Some l)) j ≡ Some (Some q))
  has_here j shows =
      let sums : held + i ≡ held + j = cc shows in
      let same : i ≡ j = omega (arith, sums) in
      (l, subst (λ (n : ℕ). slice_get (set now i (Some l)) n ≡ Some (Some l)) same (set_here now i (Some l) inside))

  still : (j : ℕ) (k : Literal) → slice_get now j ≡ Some (Some k) → slice_get (set now i (Some l)) j ≡ Some (Some k)
  still j k is = by (one_or_other i j) where
    by : (i ≡ j) ⊎ (i ≡ j → ⊥) → slice_get (set now i (Some l)) j ≡ Some (Some k)
    by (inl same) = absurd (let n : slice_get now j ≡ Some None = subst (λ (n : ℕ). slice_get now n ≡ Some None) same none in cc (n, is))
    by (inr apart) = set_other now i j (Some l) apart ∙ is

  back_to : (j : ℕ) (k : Literal) → slice_get (set now i (Some l)) j ≡ Some (Some k) → ((i ≡ j) × (k ≡ l)) ⊎ (slice_get now j ≡ Some (Some k))
  back_to j k is = by (one_or_other i j) where
    by : (i ≡ j) ⊎ (i ≡ j → ⊥) → ((i ≡ j) × (k ≡ l)) ⊎ (slice_get now j ≡ Some (Some k))
    by (inl same) =
        let now_l : slice_get (set now i (Some l)) j ≡ Some (Some l) = subst (λ (n : ℕ). slice_get (set now i (Some l)) n ≡ Some (Some l)) same (set_here now i (Some l) inside) in
        inl (same, cc (now_l, is))
    by (inr apart) = inr (sym (set_other now i j (Some l) apart) ∙ is)

  pub following_more : EachLeadsBack held equations e → IsFollowing held equations l e x.expr old (set now i (Some l))
  following_more leads = record {
    each = length_set now i (Some l) ∙ f.each;
    kept = λ j k is. still j k (f.kept j k is);
    more = λ j k is was. elim (back_to j k is) [
      | inl p ↦ (p.1, subst (λ (n : ℕ). LeadsTo held equations e n) p.0 (f.led i refl))
      | inr p ↦ f.more j k p was
    ];
    led = λ j shows. onward x (f.led i refl) at shows;
    first = λ j shows. elim (f.first j shows) [ inl h ↦ inl (has j h.0 h.1) | inr h ↦ inl (has_here j h) ];
    closed = λ a j k y is was there_is shows. elim (back_to a k is) [
      | inl p ↦ (let same : x ≡ y = (let here_is : slice_get equations a ≡ Some x = subst (λ (n : ℕ). slice_get equations n ≡ Some x) p.0 at in cc (here_is, there_is)) in
          inr (subst (λ (z : Equation). Shows held z.expr j) (sym same) shows))
      | inr p ↦ elim (f.closed a j k y p was there_is shows) [ inl h ↦ inl (has j h.0 h.1) | inr h ↦ inl (has_here j h) ]
    ];
    within = λ k is. let low = leads.back i k x at is in let high = f.within (held + i) refl in omega (arith, low, high);
  }

-- ---- expressions that are names

pub name_view : (e : Expr) (k : ℕ) → view e ≡ variable k → e ≡ Var k
name_view (Const b) k h = absurd (cc h)
name_view (Var j) k h = ap Var (cc h)
name_view (Not' p a) k h = absurd (cc h)
name_view (Pair' g p a q b) k h = absurd (cc h)
name_view (Choice' p c q a r b) k h = absurd (cc h)

-- the names that follow one another come earlier and earlier
pub name_smaller : (held : ℕ) (equations : List Equation) (e x : Expression) (i k : ℕ) (q : Equation) → EachLeadsBack held equations e → slice_get equations i ≡ Some q → q.expr ≡ x
    → k ≡ held + i → name_number x < k + 1
name_smaller held equations e (constant b) i k q leads at is sum = omega arith
name_smaller held equations e (variable j) i k q leads at is sum = let low = leads.back i j q at is in omega (arith, low, sum)
name_smaller held equations e (inverse a) i k q leads at is sum = omega arith
name_smaller held equations e (pair g a b) i k q leads at is sum = omega arith
name_smaller held equations e (choice c a b) i k q leads at is sum = omega arith

pub equation_at : (es : List EquationParts) (i : ℕ) (d : EquationParts) → i < length es → slice_get (map equation_view es) i ≡ Some (equation_view (slice_index_or es i d))
equation_at [] i d h = absurd (omega arith)
equation_at (x ∷ es) zero d h = refl
equation_at (x ∷ es) (suc i) d h = equation_at es i d (omega arith)

pub some_at : (items : List (Option Literal)) (i : ℕ) (o : Option Literal) → i < length items → o ≡ slice_index_or items i o → is_some o ≡ true
    → (q : Literal) × (slice_get items i ≡ Some (Some q))
some_at items i None h is some = absurd (cc some)
some_at items i (Some q) h is some = (q, slice_get-get_or items i (Some q) h ∙ ap (λ (x : Option Literal). Some x) (sym is))

pub none_at : (items : List (Option Literal)) (i : ℕ) (o : Option Literal) → i < length items → o ≡ slice_index_or items i o → is_some o ≡ false
    → slice_get items i ≡ Some None
none_at items i None h is none = slice_get-get_or items i None h ∙ ap (λ (x : Option Literal). Some x) (sym is)
none_at items i (Some q) h is none = absurd (cc none)

-- ---- how the loop goes on

pub following_next : (held : ℕ) (es : List EquationParts) (l : Literal) (e rest : Expr) (old now : List (Option Literal)) (k : ℕ) (d : EquationParts)
    → IsFollowing held (map equation_view es) l (view e) (view rest) old now → rest ≡ Var k → held ≤ k → k - held < length now → length now ≡ length es → slice_get now (k - held) ≡ Some None
    → EachLeadsBack held (map equation_view es) (view e)
    → IsFollowing held (map equation_view es) l (view e) (view (slice_index_or es (k - held) d).expr) old (set now (k - held) (Some l))
following_next held es l e rest old now k d f is more inside each none leads =
    let sum : k ≡ held + (k - held) = omega (arith, more) in
    let shown : view rest ≡ variable (held + (k - held)) = ap view is ∙ ap variable sum in
    following_more held (map equation_view es) l (view e) old now (k - held) (equation_view (slice_index_or es (k - held) d))
    (subst (λ (r : Expression). IsFollowing held (map equation_view es) l (view e) r old now) shown f) inside none (equation_at es (k - held) d (omega (arith, inside, each))) leads

pub next_smaller : (held : ℕ) (es : List EquationParts) (e rest : Expr) (k : ℕ) (d : EquationParts) → rest ≡ Var k → held ≤ k → k - held < length es
    → EachLeadsBack held (map equation_view es) (view e) → name_number (view (slice_index_or es (k - held) d).expr) < name_number (view rest)
next_smaller held es e rest k d is more inside leads =
    let sum : k ≡ held + (k - held) = omega (arith, more) in
    let number : name_number (view rest) ≡ k + 1 = ap (λ (x : Expr). name_number (view x)) is in
    let less = name_smaller held (map equation_view es) (view e) (view (slice_index_or es (k - held) d).expr) (k - held) k (equation_view (slice_index_or es (k - held) d)) leads (equation_at es (k - held) d inside) refl sum in
    omega (arith, number, less)

-- how it ends at a name
pub shown_place : (held : ℕ) (rest : Expr) (k j : ℕ) → rest ≡ Var k → Shows held (view rest) j → k ≡ held + j
shown_place held rest k j is shows = let e : variable k ≡ variable (held + j) = sym (ap view is) ∙ shows in cc e

pub place_within : (held : ℕ) (es : List EquationParts) (rest : Expr) (k : ℕ) → rest ≡ Var k → held ≤ k → ((j : ℕ) → view rest ≡ variable j → j < held + length (map equation_view es)) → k - held < length es
place_within held es rest k is more within = let low = within k (ap view is) in let n = length-map es equation_view in omega (arith, low, n, more)
