-- A grammar and its reader: all laws in one, and how they follow for what is built of such parts. S is a part of the
-- grammar, as the sentences that are nested less deep. All but the laws of shape is under a premise P, since the laws of
-- shape alone are needed where there is no reader.
use Rattle.std.proofs.Common.{◌≡◌, ℕ, Bool, true, false, cond, eqb, List, [], ◌∷◌, ◌++◌, inl, inr, refl, sym, ap, subst, ◌∙◌, Ok}
use Rattle.std.proofs.lemmas.Bool.{eqb-true}
use Rattle.vhdl_token.specs.declared.token.PlacedToken.{PlacedToken}
use Rattle.grammar_theory.specs.declared.form.Form.{Form}
use Rattle.grammar_theory.specs.Tokens.{code, code_of, is_of, is_at, among}
use Rattle.grammar_theory.specs.Marks.{Mark, plain, Item}
use Rattle.grammar_theory.specs.Grammar.{Grammar, none, nothing, item, marked, one, Then, ◌or◌, Begins}
use Rattle.grammar_theory.specs.Answers.{Answers}
use Rattle.grammar_theory.specs.Outcome.{At, Outcome, Reader, ◌>>=◌, take_marked, take_at}
use Rattle.grammar_theory.proofs.Sets.{Set, elem, has, disjoint, or_true, either_of}
use Rattle.grammar_theory.proofs.Exact.{Shape, Reads, nothing_shape, nothing_reads, one_shape, one_reads}
use Rattle.grammar_theory.proofs.Sequence.{null_both, when_null, then_shape, then_reads}
use Rattle.grammar_theory.proofs.Either.{Opened, either_shape, either_answers}
use Rattle.grammar_theory.proofs.Samples.{some_of, some_of-code}

-- The sets are no larger than they have to be.
pub record Starts {A : Type 0} (B : Grammar A) (null : Bool) (firsts : Set) : Type 0 where
  pub nullable : null ≡ true → (v : A) × B [] v
  pub starts : (t : PlacedToken) → elem (code_of t) firsts ≡ true → Opened B t

pub record Exact (P : Type 0) {A : Type 0} (S B : Grammar A) (null : Bool) (firsts lasts : Set) (read : Reader A) : Type 0 where
  pub shape : Shape B null firsts lasts
  pub inside : P → (p : List Item) (v : A) → S p v → B p v
  pub reads : P → Reads B read
  pub starts : P → Starts B null firsts

null_parts : (a b : Bool) → null_both a b ≡ true → (a ≡ true) × (b ≡ true)
null_parts true b e = (refl, e)
null_parts false b e = absurd cc

null_part : (a : Bool) (s : Set) (n : ℕ) → elem n (when_null a s) ≡ true → (a ≡ true) × (elem n s ≡ true)
null_part true s n e = (refl, e)
null_part false s n e = absurd cc

is_code : (t : PlacedToken) (f : Form) → elem (code_of t) (code f ∷ []) ≡ true → code_of t ≡ code f
is_code t f e = elim (or_true (eqb (code_of t) (code f)) false e) [ inl g ↦ eqb-true _ _ g | inr g ↦ absurd cc ]

pub exact_nothing : {P A : Type 0} (x : A) → Exact P (nothing x) (nothing x) true [] [] (λ here. Ok (x, here))
exact_nothing x = record { shape = nothing_shape x; inside = λ p q v h. h; reads = λ p. nothing_reads x; starts = λ p. record { nullable = λ e. (x, (refl, refl)); starts = λ t e. absurd cc } }

pub exact_marked : {P : Type 0} (f : Form) (m : PlacedToken → Mark) → Exact P (marked f m) (marked f m) false (code f ∷ []) [] (take_marked f m)
exact_marked f m = record {
  shape = one_shape f m;
  inside = λ p q v h. h;
  reads = λ p. one_reads f m (some_of f) (some_of-code f);
  starts = λ p. record { nullable = λ e. absurd cc; starts = λ t e. record { mark = item t (m t); is = refl; begins = ([], t, record { alone = refl; kind = is_code t f e }) } };
}

pub exact_one : {P : Type 0} (f : Form) → Exact P (one f) (one f) false (code f ∷ []) [] (take_at f)
exact_one f = exact_marked f (λ _. plain)

pub exact_then : {P A C : Type 0} {SL BL : Grammar A} {SM BM : A → Grammar C} {nl : Bool} {fl ll : Set} {nm : Bool} {fm lm : Set} {r : Reader A} {s : A → Reader C}
    → Exact P SL BL nl fl ll r → ((x : A) → Exact P (SM x) (BM x) nm fm lm (s x)) → disjoint ll fm ≡ true
    → Exact P (Then SL SM) (Then BL BM) (null_both nl nm) (fl ++ when_null nl fm) (lm ++ when_null nm ll) (λ here. r here >>= λ x. s x.0 x.1)
exact_then {P} {A} {C} {SL} {BL} {SM} {BM} {nl} {fl} {ll} {nm} {fm} {lm} {r} {s} el em apart = record {
  shape = then_shape BL BM nl fl ll nm fm lm el.shape (λ x. (em x).shape) apart;
  inside = λ p q y h. record { front = h.front; back = h.back; value = h.value; parts = h.parts; before = el.inside p h.front h.value h.before; behind = (em h.value).inside p h.back y h.behind };
  reads = λ p. then_reads BL BM nl fl ll nm fm lm el.shape (λ x. (em x).shape) apart r s (el.reads p) (λ x. (em x).reads p);
  starts = λ p. record {
    nullable = λ e.
        let b = null_parts nl nm e in
        let x = (el.starts p).nullable b.0 in
        let y = ((em x.0).starts p).nullable b.1 in
        (y.0, record { front = []; back = []; value = x.0; parts = refl; before = x.1; behind = y.1 });
    starts = λ t e. elim (either_of (code_of t) fl (when_null nl fm) e) [
      | inl f ↦
          let o = (el.starts p).starts t f in
          let x = o.begins in
          let rm = (em x.1).reads p in
          record { mark = o.mark; is = o.is; begins = (x.0 ++ rm.some_items, rm.some_value, record { front = o.mark ∷ x.0; back = rm.some_items; value = x.1; parts = refl; before = x.2; behind = rm.some }) }
      | inr f ↦
          let g = null_part nl fm (code_of t) f in
          let x = (el.starts p).nullable g.0 in
          let o = ((em x.0).starts p).starts t g.1 in
          let y = o.begins in
          record { mark = o.mark; is = o.is; begins = (y.0, y.1, record { front = []; back = o.mark ∷ y.0; value = x.0; parts = refl; before = x.1; behind = y.2 }) }
    ];
  };
}

-- alternatives, by the tokens that the first begins with
pub exact_either : {P A : Type 0} {SL BL SM BM : Grammar A} {fl ll : Set} {nm : Bool} {fm lm : Set} {r s : Reader A}
    → Exact P SL BL false fl ll r → Exact P SM BM nm fm lm s → disjoint fl fm ≡ true
    → Exact P (SL or SM) (BL or BM) nm (fl ++ fm) (ll ++ (lm ++ when_null nm fl)) (λ here. cond (among fl here.rest) (r here) (s here))
exact_either {P} {A} {SL} {BL} {SM} {BM} {fl} {ll} {nm} {fm} {lm} {r} {s} el em apart = record {
  shape = either_shape BL BM fl ll nm fm lm el.shape em.shape apart;
  inside = λ p q v h. elim h [ inl a ↦ inl (el.inside p q v a) | inr b ↦ inr (em.inside p q v b) ];
  reads = λ p.
      let rl = el.reads p in
      let rm = em.reads p in
      record {
        some_items = rl.some_items;
        some_value = rl.some_value;
        some = inl rl.some;
        answers = λ here. either_answers BL BM fl ll nm fm lm el.shape em.shape apart (el.starts p).starts here (r here) (s here) (rl.answers here) (λ e. rm.answers here);
      };
  starts = λ p. record {
    nullable = λ e. let x = (em.starts p).nullable e in (x.0, inr x.1);
    starts = λ t e. elim (either_of (code_of t) fl fm e) [
      | inl f ↦ let o = (el.starts p).starts t f in let x = o.begins in record { mark = o.mark; is = o.is; begins = (x.0, x.1, inl x.2) }
      | inr f ↦ let o = (em.starts p).starts t f in let x = o.begins in record { mark = o.mark; is = o.is; begins = (x.0, x.1, inr x.2) }
    ];
  };
}

pub among_one : (f : Form) (ts : List PlacedToken) → among (code f ∷ []) ts ≡ is_at f ts
among_one f [] = refl
among_one f (t ∷ ts) = same (is_of f t) where
  same : (b : Bool) → cond b true false ≡ b
  same true = refl
  same false = refl

-- the same reader, in other words
pub reads_as : {P A : Type 0} {S B : Grammar A} {null : Bool} {f l : Set} {r : Reader A} (s : Reader A) → ((here : At) → r here ≡ s here) → Exact P S B null f l r → Exact P S B null f l s
reads_as {P} {A} {S} {B} s same e = record {
  shape = e.shape;
  inside = e.inside;
  reads = λ p. record {
    some_items = (e.reads p).some_items;
    some_value = (e.reads p).some_value;
    some = (e.reads p).some;
    answers = λ here. let Right : Outcome A → Type 0 = λ o. Answers B here o in subst Right (same here) ((e.reads p).answers here);
  };
  starts = e.starts;
}

-- alternatives, the first behind a token of one form
pub exact_behind : {P A : Type 0} {SL BL SM BM : Grammar A} {ll : Set} {nm : Bool} {fm lm : Set} {r s : Reader A} (f : Form)
    → Exact P SL BL false (code f ∷ []) ll r → Exact P SM BM nm fm lm s → disjoint (code f ∷ []) fm ≡ true
    → Exact P (SL or SM) (BL or BM) nm (code f ∷ fm) (ll ++ (lm ++ when_null nm (code f ∷ []))) (λ here. cond (is_at f here.rest) (r here) (s here))
exact_behind {P} {A} {SL} {BL} {SM} {BM} {ll} {nm} {fm} {lm} {r} {s} f el em apart =
    reads_as (λ here. cond (is_at f here.rest) (r here) (s here)) (λ here. ap (λ (b : Bool). cond b (r here) (s here)) (among_one f here.rest)) (exact_either el em apart)

-- ---- larger sets

abbrev pub subset : Set → Set → Bool
subset [] ys = true
subset (x ∷ xs) ys = cond (elem x ys) (subset xs ys) false

taken : (b c : Bool) → cond b c false ≡ true → (b ≡ true) × (c ≡ true)
taken true c e = (refl, e)
taken false c e = absurd cc

pub subset_has : (n : ℕ) (xs ys : Set) → subset xs ys ≡ true → elem n xs ≡ true → elem n ys ≡ true
subset_has n [] ys s h = absurd cc
subset_has n (x ∷ xs) ys s h =
    let both = taken (elem x ys) (subset xs ys) s in
    elim (or_true (eqb n x) (elem n xs) h) [
      | inl e ↦ let same = eqb-true n x e in rw same both.0
      | inr later ↦ subset_has n xs ys both.1 later
    ]

pub larger : {A : Type 0} (B : Grammar A) (null : Bool) (f l f' l' : Set) → Shape B null f l
    → ((n : ℕ) → elem n f ≡ true → elem n f' ≡ true) → ((n : ℕ) → elem n l ≡ true → elem n l' ≡ true) → Shape B null f' l'
larger B null f l f' l' sh ff ll = record {
  same = sh.same;
  empty = sh.empty;
  begins = λ t q v h. ff (code_of t.token) (sh.begins t q v h);
  goes_on = λ p t q v w h g. ll (code_of t.token) (sh.goes_on p t q v w h g);
  marks = sh.marks;
}

pub within : {P A : Type 0} {S B : Grammar A} {null : Bool} {f l : Set} {r : Reader A} (f' l' : Set) → Exact P S B null f l r → subset f f' ≡ true → subset l l' ≡ true → subset f' f ≡ true → Exact P S B null f' l' r
within {P} {A} {S} {B} {null} {f} {l} {r} f' l' e sf sl sg = record {
  shape = larger B null f l f' l' e.shape (λ n. subset_has n f f' sf) (λ n. subset_has n l l' sl);
  inside = e.inside;
  reads = e.reads;
  starts = λ p. record { nullable = (e.starts p).nullable; starts = λ t h. (e.starts p).starts t (subset_has (code_of t) f' f sg h) };
}

pub none_shape : {A : Type 0} (null : Bool) (f l : Set) → Shape (none {A = A}) null f l
none_shape null f l = record {
  same = λ p v w h g. absurd h;
  empty = λ v h. absurd h;
  begins = λ t q v h. absurd h;
  goes_on = λ p t q v w h g. absurd h;
  marks = λ p i j w z v u h g e. absurd h;
}
