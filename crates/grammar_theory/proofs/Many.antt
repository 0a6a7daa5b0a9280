-- Items one behind the other, as many as there are.
use Rattle.std.proofs.Common.{◌≡◌, ℕ, zero, suc, ◌+◌, ◌≤◌, ◌<◌, Bool, true, false, cond, List, [], ◌∷◌, ◌++◌, length, inl, inr, refl, sym, ap, subst, ◌∙◌, Ok, Err, arith}
use Rattle.std.proofs.lemmas.List.{append-nil, length-append}
use Rattle.vhdl_token.specs.declared.token.PlacedToken.{PlacedToken}
use Rattle.grammar_theory.specs.Tokens.{code_of, among}
use Rattle.grammar_theory.specs.declared.refusal.Breach.{Breach}
use Rattle.grammar_theory.specs.declared.refusal.Reason.{Reason}
use Rattle.grammar_theory.specs.declared.refusal.Reason.TheVariants as reason
use Rattle.grammar_theory.specs.declared.refusal.Refusal.{Refusal}
use Rattle.grammar_theory.specs.Marks.{Item, State, run}
use Rattle.grammar_theory.specs.Grammar.{Grammar, none, nothing, Then, ◌or◌, Begins, list}
use Rattle.grammar_theory.specs.Outcome.{At, Outcome, Reader, ◌>>=◌, many_at, list_at}
use Rattle.grammar_theory.specs.Answers.{Accepts, Blames, Answers, tokens_of}
use Rattle.grammar_theory.proofs.Sets.{Set, elem, has, disjoint, either_of, elem-left, elem-right}
use Rattle.grammar_theory.proofs.Exact.{Shape, Reads, nothing_shape, nothing_reads}
use Rattle.grammar_theory.proofs.Sequence.{when_null, Parts, then_shape, then_answers}
use Rattle.grammar_theory.proofs.Either.{Opened, either_shape, either_answers}
use Rattle.grammar_theory.proofs.Bundle.{Exact, larger, none_shape}

abbrev cons : {A : Type 0} → Grammar A → Grammar (List A) → Grammar (List A)
cons L M = Then L (λ v. Then M (λ vs. nothing (v ∷ vs)))

-- fewer than n items
abbrev fewer : {A : Type 0} → ℕ → Grammar A → Grammar (List A)
fewer zero L = none
fewer (suc n) L = cons L (fewer n L) or nothing []

disjoint-nil : (xs : Set) → disjoint xs [] ≡ true
disjoint-nil [] = refl
disjoint-nil (x ∷ xs) = disjoint-nil xs

-- ---- a list is one of fewer than some number of items

list_fewer : {A : Type 0} (L : Grammar A) (vs : List A) (ts : List Item) (n : ℕ) → length vs ≤ n → list L ts vs → fewer (suc n) L ts vs
list_fewer L [] ts n le h = inr (h, refl)
list_fewer L (v ∷ vs) ts zero le h = absurd (omega arith)
list_fewer L (v ∷ vs) ts (suc n) le h =
    inl (record {
      front = h.0;
      back = h.1;
      value = v;
      parts = h.2;
      before = h.3;
      behind = record { front = h.1; back = []; value = vs; parts = sym (append-nil h.1); before = list_fewer L vs h.1 n (omega arith) h.4; behind = (refl, refl) };
    })

-- ---- a list is one item and a list, or nothing

unroll : {A : Type 0} (L : Grammar A) (ts : List Item) (vs : List A) → list L ts vs → (cons L (list L) or nothing []) ts vs
unroll L ts [] h = inr (h, refl)
unroll L ts (v ∷ vs) h = inl (record { front = h.0; back = h.1; value = v; parts = h.2; before = h.3; behind = record { front = h.1; back = []; value = vs; parts = sym (append-nil h.1); before = h.4; behind = (refl, refl) } })

roll : {A : Type 0} (L : Grammar A) (ts : List Item) (vs : List A) → (cons L (list L) or nothing []) ts vs → list L ts vs
roll {A} L ts vs h = elim h [
  | inl a ↦
      let b = a.behind in
      let e : a.back ≡ b.front = b.parts ∙ ap (λ (z : List Item). b.front ++ z) b.behind.0 ∙ append-nil b.front in
      subst (λ (z : List A). list L ts z) (sym b.behind.1) (a.front, b.front, a.parts ∙ ap (λ (z : List Item). a.front ++ z) e, a.before, b.before)
  | inr e ↦ subst (λ (z : List A). list L ts z) (sym e.1) e.0
]

-- ---- the shape

fewer_shape : {A : Type 0} (L : Grammar A) (f l : Set) → Shape L false f l → disjoint l f ≡ true → (n : ℕ) → Shape (fewer n L) true f (l ++ f)
fewer_shape L f l sh apart zero = none_shape true f (l ++ f)
fewer_shape {A} L f l sh apart (suc n) =
    let rest = fewer_shape L f l sh apart n in
    let tail : (v : A) → Shape (Then (fewer n L) (λ vs. nothing (v ∷ vs))) true f (l ++ f) =
    λ v. larger (Then (fewer n L) (λ vs. nothing (v ∷ vs))) true (f ++ []) ([] ++ (l ++ f)) f (l ++ f)
    (then_shape (fewer n L) (λ vs. nothing (v ∷ vs)) true f (l ++ f) true [] [] rest (λ vs. nothing_shape (v ∷ vs)) (disjoint-nil (l ++ f)))
    (λ n h. elim (either_of n f [] h) [ inl a ↦ a | inr b ↦ absurd cc ]) (λ n h. h) in
    let both : Shape (cons L (fewer n L)) false f (l ++ f) =
    larger (cons L (fewer n L)) false (f ++ []) ((l ++ f) ++ l) f (l ++ f)
    (then_shape L (λ v. Then (fewer n L) (λ vs. nothing (v ∷ vs))) false f l true f (l ++ f) sh tail apart)
    (λ n h. elim (either_of n f [] h) [ inl a ↦ a | inr b ↦ absurd cc ])
    (λ n h. elim (either_of n (l ++ f) l h) [ inl a ↦ a | inr b ↦ elem-left n l f b ]) in
    larger (fewer (suc n) L) true (f ++ []) ((l ++ f) ++ ([] ++ f)) f (l ++ f)
    (either_shape (cons L (fewer n L)) (nothing []) f (l ++ f) true [] [] both (nothing_shape []) (disjoint-nil f))
    (λ n h. elim (either_of n f [] h) [ inl a ↦ a | inr b ↦ absurd cc ])
    (λ n h. elim (either_of n (l ++ f) f h) [ inl a ↦ a | inr b ↦ elem-right n l f b ])

pub list_shape : {A : Type 0} (L : Grammar A) (f l : Set) → Shape L false f l → disjoint l f ≡ true → Shape (list L) true f (l ++ f)
list_shape L f l sh apart = record {
  same = λ p v w h g. (fewer_shape L f l sh apart (suc (length v + length w))).same p v w (list_fewer L v p (length v + length w) (omega arith) h) (list_fewer L w p (length v + length w) (omega arith) g);
  empty = λ v h. refl;
  begins = λ t q v h. (fewer_shape L f l sh apart (suc (length v))).begins t q v (list_fewer L v (t ∷ q) (length v) (omega arith) h);
  goes_on = λ p t q v w h g. (fewer_shape L f l sh apart (suc (length v + length w))).goes_on p t q v w (list_fewer L v p (length v + length w) (omega arith) h) (list_fewer L w (p ++ t ∷ q) (length v + length w) (omega arith) g);
  marks = λ p i j w z v u h g e. (fewer_shape L f l sh apart (suc (length v + length u))).marks p i j w z v u (list_fewer L v (p ++ i ∷ w) (length v + length u) (omega arith) h) (list_fewer L u (p ++ j ∷ z) (length v + length u) (omega arith) g) e;
}

-- ---- the reader

-- two grammars with the same sentences
same_blames : {A : Type 0} (B B' : Grammar A) → ((p : List Item) (v : A) → B p v → B' p v) → ((p : List Item) (v : A) → B' p v → B p v)
    → (s : State) (front : List Item) (rest : List PlacedToken) (which : Reason) → Blames B s which front rest → Blames B' s which front rest
same_blames B B' put back s front rest reason.Syntax f = record { unfinished = λ w v h. f.unfinished w v (back (front ++ w) v h); dead = λ w v h. f.dead w v (back (front ++ w) v h) }
same_blames B B' put back s front rest (reason.Breach b) f = record { next = f.next; more = f.more; rest_is = f.rest_is; alive = (f.alive.0, f.alive.1, put ((front ++ f.next ∷ []) ++ f.alive.0) f.alive.1 f.alive.2); broken = f.broken }

pub same_answers : {A : Type 0} (B B' : Grammar A) → ((p : List Item) (v : A) → B p v → B' p v) → ((p : List Item) (v : A) → B' p v → B p v)
    → (here : At) (o : Outcome A) → Answers B here o → Answers B' here o
same_answers B B' put back here (Ok (v, there)) a = record { front = a.front; parts = a.parts; sentence = put a.front v a.sentence; clean = a.clean; longest = λ w u h. a.longest w u (back (a.front ++ w) u h) }
same_answers B B' put back here (Err r) a = record {
  front = a.front;
  rest = a.rest;
  state = a.state;
  parts = a.parts;
  place = a.place;
  viable = (a.viable.0, a.viable.1, put (a.front ++ a.viable.0) a.viable.1 a.viable.2);
  clean = a.clean;
  blame = same_blames B B' put back a.state a.front a.rest r.reason a.blame;
}

list_inside : {A : Type 0} (S B : Grammar A) → ((p : List Item) (v : A) → S p v → B p v) → (items : List Item) (vs : List A) → list S items vs → list B items vs
list_inside S B inside items [] h = h
list_inside S B inside items (v ∷ vs) h = (h.0, h.1, h.2, inside h.0 v h.3, list_inside S B inside h.1 vs h.4)

-- an item is not empty, so that fewer tokens are left
pub shorter : {A : Type 0} (B : Grammar A) (f l : Set) → Shape B false f l → (here there : At) (v : A) → Accepts B here v there → length there.rest < length here.rest
shorter {A} B f l sh here there v a = go a.front a.sentence a.parts where
  go : (p : List Item) → B p v → here.rest ≡ tokens_of p ++ there.rest → length there.rest < length here.rest
  go [] h e = let n = sh.empty v h in absurd cc
  go (t ∷ p) h e = omega (arith, ap length e, length-append (tokens_of p) there.rest)

list_answers : {A : Type 0} (B : Grammar A) (f l : Set) → Shape B false f l → disjoint l f ≡ true → ((t : PlacedToken) → elem (code_of t) f ≡ true → Opened B t) → (r : Reader A) → Reads B r
    → (n : ℕ) (here : At) → length here.rest ≤ n → Answers (list B) here (many_at f r n here)
unfolding many_at
list_answers B f l sh apart starts r rl zero here le = record { front = []; parts = refl; sentence = refl; clean = refl; longest = λ w v h m. absurd (omega (arith, ap length m.rest_is, le)) }
list_answers {A} B f l sh apart starts r rl (suc n) here le =
    let shape = list_shape B f l sh apart in
    let tail : (v : A) → Shape (Then (list B) (λ vs. nothing (v ∷ vs))) true f (l ++ f) =
    λ v. larger (Then (list B) (λ vs. nothing (v ∷ vs))) true (f ++ []) ([] ++ (l ++ f)) f (l ++ f)
    (then_shape (list B) (λ vs. nothing (v ∷ vs)) true f (l ++ f) true [] [] shape (λ vs. nothing_shape (v ∷ vs)) (disjoint-nil (l ++ f)))
    (λ n h. elim (either_of n f [] h) [ inl a ↦ a | inr b ↦ absurd cc ]) (λ n h. h) in
    let both : Shape (cons B (list B)) false f (l ++ f) =
    larger (cons B (list B)) false (f ++ []) ((l ++ f) ++ l) f (l ++ f)
    (then_shape B (λ v. Then (list B) (λ vs. nothing (v ∷ vs))) false f l true f (l ++ f) sh tail apart)
    (λ n h. elim (either_of n f [] h) [ inl a ↦ a | inr b ↦ absurd cc ])
    (λ n h. elim (either_of n (l ++ f) l h) [ inl a ↦ a | inr b ↦ elem-left n l f b ]) in
    let behind : (v : A) → Parts (list B) (λ vs. nothing (v ∷ vs)) true f (l ++ f) true [] [] =
    λ v. record { shl = shape; shm = λ vs. nothing_shape (v ∷ vs); apart = disjoint-nil (l ++ f); some_items = λ vs. []; some_value = λ vs. v ∷ vs; some = λ vs. (refl, refl) } in
    let parts : Parts B (λ v. Then (list B) (λ vs. nothing (v ∷ vs))) false f l true f (l ++ f) =
    record {
      shl = sh;
      shm = tail;
      apart = apart;
      some_items = λ v. [];
      some_value = λ v. v ∷ [];
      some = λ v. record { front = []; back = []; value = []; parts = refl; before = refl; behind = (refl, refl) };
    } in
    let items : Answers (cons B (list B)) here (r here >>= λ v. many_at f r n v.1 >>= λ vs. Ok (v.0 ∷ vs.0, vs.1)) =
    then_answers B (λ v. Then (list B) (λ vs. nothing (v ∷ vs))) false f l true f (l ++ f) parts (λ v there. many_at f r n there >>= λ vs. Ok (v ∷ vs.0, vs.1)) here (r here) (rl.answers here)
    (λ v there e.
    let Right : Outcome A → Type 0 = λ o. Answers B here o in
    let a : Accepts B here v there = subst Right e (rl.answers here) in
    let less : length there.rest ≤ n = omega (arith, shorter B f l sh here there v a, le) in
    then_answers (list B) (λ vs. nothing (v ∷ vs)) true f (l ++ f) true [] [] (behind v) (λ vs end. Ok (v ∷ vs, end)) there (many_at f r n there) (list_answers B f l sh apart starts r rl n there less)
    (λ vs end g. (nothing_reads (v ∷ vs)).answers end)) in
    same_answers (cons B (list B) or nothing []) (list B) (roll B) (unroll B) here (many_at f r (suc n) here)
    (either_answers (cons B (list B)) (nothing []) f (l ++ f) true [] [] both (nothing_shape []) (disjoint-nil f)
    (λ t h. let o = starts t h in let b = o.begins in record { mark = o.mark; is = o.is; begins = (b.0, b.1 ∷ [], record { front = o.mark ∷ b.0; back = []; value = b.1; parts = sym (append-nil (o.mark ∷ b.0)); before = b.2; behind = record { front = []; back = []; value = []; parts = refl; before = refl; behind = (refl, refl) } }) })
    here (r here >>= λ v. many_at f r n v.1 >>= λ vs. Ok (v.0 ∷ vs.0, vs.1)) (Ok ([], here)) items (λ e. (nothing_reads []).answers here))

pub exact_list : {P A : Type 0} {S B : Grammar A} {f l : Set} {r : Reader A} → Exact P S B false f l r → disjoint l f ≡ true → Exact P (list S) (list B) true f (l ++ f) (list_at f r)
unfolding list_at
exact_list {P} {A} {S} {B} {f} {l} {r} e apart = record {
  shape = list_shape B f l e.shape apart;
  inside = λ p. list_inside S B (e.inside p);
  reads = λ p. record {
    some_items = [];
    some_value = [];
    some = refl;
    answers = λ here. list_answers B f l e.shape apart (e.starts p).starts r (e.reads p) (length here.rest) here (omega arith);
  };
  starts = λ p. record {
    nullable = λ g. ([], refl);
    starts = λ t h. let o = (e.starts p).starts t h in let b = o.begins in record { mark = o.mark; is = o.is; begins = (b.0, b.1 ∷ [], (o.mark ∷ b.0, [], sym (append-nil (o.mark ∷ b.0)), b.2, refl)) };
  };
}
