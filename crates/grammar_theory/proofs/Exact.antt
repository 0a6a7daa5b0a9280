-- The laws of a grammar that is read from left to right by the next token alone, and of its reader.
use Rattle.std.proofs.Common.{◌≡◌, ℕ, Bool, true, false, cond, eqb, List, [], ◌∷◌, ◌++◌, refl, sym, ap, ◌∙◌, Result, Ok, Err}
use Rattle.std.proofs.lemmas.Bool.{eqb-true, eq-eqb}
use Rattle.vhdl_token.specs.declared.token.PlacedToken.{PlacedToken}
use Rattle.grammar_theory.specs.declared.form.Form.{Form}
use Rattle.grammar_theory.specs.Tokens.{code, code_of, is_of}
use Rattle.grammar_theory.specs.declared.refusal.Breach.{Breach}
use Rattle.grammar_theory.specs.declared.refusal.Reason.{Reason}
use Rattle.grammar_theory.specs.declared.refusal.Reason.TheVariants as reason
use Rattle.grammar_theory.specs.declared.refusal.Refusal.{Refusal}
use Rattle.grammar_theory.specs.Marks.{Mark, Item, State, step, run, go_on}
use Rattle.grammar_theory.specs.Grammar.{Grammar, nothing, item, One, marked, Begins}
use Rattle.grammar_theory.specs.Outcome.{At, Outcome, Reader, refusal, passed, take_from, take_marked}
use Rattle.grammar_theory.specs.Answers.{Meets, Answers, tokens_of}
use Rattle.grammar_theory.proofs.Sets.{Set, elem, has, by_test, cond_true}

-- The value of a sentence is one. `null`: the empty list may be a sentence. `firsts`: the tokens that a sentence may
-- begin with. `lasts`: the tokens with which a sentence may go on behind a shorter sentence. A token's mark follows
-- from what stands before it.
pub record Shape {A : Type 0} (B : Grammar A) (null : Bool) (firsts lasts : Set) : Type 0 where
  pub same : (p : List Item) (v w : A) → B p v → B p w → v ≡ w
  pub empty : (v : A) → B [] v → null ≡ true
  pub begins : (t : Item) (q : List Item) (v : A) → B (t ∷ q) v → has firsts t ≡ true
  pub goes_on : (p : List Item) (t : Item) (q : List Item) (v w : A) → B p v → B (p ++ t ∷ q) w → has lasts t ≡ true
  pub marks : (p : List Item) (i j : Item) (w z : List Item) (v u : A) → B (p ++ i ∷ w) v → B (p ++ j ∷ z) u → i.token ≡ j.token → i ≡ j

pub record Reads {A : Type 0} (B : Grammar A) (read : Reader A) : Type 0 where
  pub some_items : List Item
  pub some_value : A
  pub some : B some_items some_value
  pub answers : (here : At) → Answers B here (read here)

-- ---- nothing

pub nothing_shape : {A : Type 0} (x : A) → Shape (nothing x) true [] []
nothing_shape x = record {
  same = λ p v w h g. h.1 ∙ sym g.1;
  empty = λ v h. refl;
  begins = λ t q v h. absurd (nil-cons t q (sym h.0));
  goes_on = λ p t q v w h g. absurd (nil-behind p t q g.0);
  marks = λ p i j w z v u h g e. absurd (nil-behind p i w h.0);
} where
  nil-cons : (t : Item) (q : List Item) → [] ≡ t ∷ q → ⊥
  nil-cons t q e = cc

  nil-behind : (p : List Item) (t : Item) (q : List Item) → p ++ t ∷ q ≡ [] → ⊥
  nil-behind [] t q e = cc
  nil-behind (x ∷ p) t q e = cc

pub nothing_reads : {A : Type 0} (x : A) → Reads (nothing x) (λ here. Ok (x, here))
nothing_reads x = record {
  some_items = [];
  some_value = x;
  some = (refl, refl);
  answers = λ here. record { front = []; parts = refl; sentence = (refl, refl); clean = refl; longest = λ w v h m. ends w m.next m.w_more h.0 m.w_is };
} where
  ends : (w : List Item) (t : Item) (q : List Item) → w ≡ [] → w ≡ t ∷ q → ⊥
  ends w t q e f = cc

-- ---- one token

pub in_first : (t : Item) (k : Form) (ks : Set) → code_of t.token ≡ code k → has (code k ∷ ks) t ≡ true
in_first t k ks e = cond_true (eqb (code_of t.token) (code k)) true (elem (code_of t.token) ks) (eq-eqb _ _ e)

two_in_one : (p : List Item) (t : Item) (q : List Item) (v w : Item) → p ≡ v ∷ [] → p ++ t ∷ q ≡ w ∷ [] → ⊥
two_in_one [] t q v w e f = cc
two_in_one (x ∷ []) t q v w e f = cc
two_in_one (x ∷ y ∷ p) t q v w e f = cc

head : (t : Item) (q : List Item) (v : Item) (r : List Item) → t ∷ q ≡ v ∷ r → t ≡ v
head t q v r e = cc

token_of : (v w : Item) → v ≡ w → v.token ≡ w.token
token_of v w e = ap (λ (i : Item). i.token) e

pub one_shape : (k : Form) (m : PlacedToken → Mark) → Shape (marked k m) false (code k ∷ []) []
one_shape k m = record {
  same = λ p v w h g. token_of (item v (m v)) (item w (m w)) (single p (item v (m v)) (item w (m w)) h.alone g.alone);
  empty = λ v h. absurd (no (item v (m v)) h.alone);
  begins = λ t q v h. in_first t k [] (ap code_of (token_of t (item v (m v)) (head t q (item v (m v)) [] h.alone)) ∙ h.kind);
  goes_on = λ p t q v w h g. absurd (two_in_one p t q (item v (m v)) (item w (m w)) h.alone g.alone);
  marks = λ p i j w z v u h g e. at_once p i j w z v u h.alone g.alone e;
} where
  at_once : (p : List Item) (i j : Item) (w z : List Item) (v u : PlacedToken) → p ++ i ∷ w ≡ item v (m v) ∷ [] → p ++ j ∷ z ≡ item u (m u) ∷ [] → i.token ≡ j.token → i ≡ j
  at_once [] i j w z v u h g e =
      let one : i ≡ item v (m v) = cc in
      let two : j ≡ item u (m u) = cc in
      let same : v ≡ u = sym (token_of i (item v (m v)) one) ∙ e ∙ token_of j (item u (m u)) two in
      one ∙ ap (λ (t : PlacedToken). item t (m t)) same ∙ sym two
  at_once (x ∷ []) i j w z v u h g e = absurd cc
  at_once (x ∷ y ∷ p) i j w z v u h g e = absurd cc

  single : (p : List Item) (v w : Item) → p ≡ v ∷ [] → p ≡ w ∷ [] → v ≡ w
  single p v w e f = cc

  no : (v : Item) → [] ≡ v ∷ [] → ⊥
  no v e = cc

-- how a sentence of one token goes on from the empty list, where the next token is not of its kind
other_kind : (k : Form) (m : PlacedToken → Mark) (w : List Item) (rest : List PlacedToken) (v : PlacedToken) → One k m w v → (n : Meets w rest) → code_of n.next.token ≡ code k
other_kind k m w rest v h n = ap code_of (token_of n.next (item v (m v)) (head n.next n.w_more (item v (m v)) [] (sym n.w_is ∙ h.alone))) ∙ h.kind

-- nothing is taken, and the next token is not of this kind
missed : (k : Form) (m : PlacedToken → Mark) (some : PlacedToken) → code_of some ≡ code k → (s : State) (ts : List PlacedToken)
    → ((t : PlacedToken) (q : List PlacedToken) → ts ≡ t ∷ q → code_of t ≡ code k → ⊥) → Answers (marked k m) (record { state = s; rest = ts }) (Err (refusal reason.Syntax ts))
missed k m some kind s ts other = record {
  front = [];
  rest = ts;
  state = s;
  parts = refl;
  place = refl;
  viable = (item some (m some) ∷ [], some, record { alone = refl; kind = kind });
  clean = refl;
  blame = record {
    unfinished = λ w v h e. no w (item v (m v)) h.alone e;
    dead = λ w v h n. other n.next.token n.rest_more n.rest_is (other_kind k m w ts v h n);
  };
} where
  no : (w : List Item) (v : Item) → w ≡ v ∷ [] → w ≡ [] → ⊥
  no w v e f = cc

-- the next token is of this kind
found : (k : Form) (m : PlacedToken → Mark) (s : State) (t : PlacedToken) (ts : List PlacedToken) → code_of t ≡ code k → (r : Result State Breach) → step (m t) s ≡ r
    → Answers (marked k m) (record { state = s; rest = t ∷ ts }) (passed t ts r)
found k m s t ts kind (Ok s') e = record {
  front = item t (m t) ∷ [];
  parts = refl;
  sentence = record { alone = refl; kind = kind };
  clean = ap (λ (r : Result State Breach). go_on r (run [])) e;
  longest = λ w v h n. two_in_one (item t (m t) ∷ []) n.next n.w_more (item t (m t)) (item v (m v)) refl (ap (λ (z : List Item). item t (m t) ∷ z) (sym n.w_is) ∙ h.alone);
}
found k m s t ts kind (Err b) e = record {
  front = [];
  rest = t ∷ ts;
  state = s;
  parts = refl;
  place = refl;
  viable = (item t (m t) ∷ [], t, record { alone = refl; kind = kind });
  clean = refl;
  blame = record { next = item t (m t); more = ts; rest_is = refl; alive = ([], t, record { alone = refl; kind = kind }); broken = e };
}

take_answers : (k : Form) (m : PlacedToken → Mark) (some : PlacedToken) → code_of some ≡ code k → (s : State) (ts : List PlacedToken) → Answers (marked k m) (record { state = s; rest = ts }) (take_from k m s ts)
take_answers k m some kind s [] = missed k m some kind s [] (λ t q e g. none_left t q e) where
  none_left : (t : PlacedToken) (q : List PlacedToken) → [] ≡ t ∷ q → ⊥
  none_left t q e = cc
take_answers k m some kind s (t ∷ ts) =
    by_test (λ (o : Outcome PlacedToken). Answers (marked k m) (record { state = s; rest = t ∷ ts }) o) (is_of k t) (passed t ts (step (m t) s)) (Err (refusal reason.Syntax (t ∷ ts)))
    (λ e. found k m s t ts (eqb-true _ _ e) (step (m t) s) refl)
    (λ e. missed k m some kind s (t ∷ ts) (λ u q f g. wrong u q f g e)) where
      wrong : (u : PlacedToken) (q : List PlacedToken) → t ∷ ts ≡ u ∷ q → code_of u ≡ code k → is_of k t ≡ false → ⊥
      wrong u q f g e = let same : t ≡ u = cc in let h = eq-eqb (code_of t) (code k) (ap code_of same ∙ g) in cc (e, h)

pub one_reads : (k : Form) (m : PlacedToken → Mark) (some : PlacedToken) → code_of some ≡ code k → Reads (marked k m) (take_marked k m)
one_reads k m some kind = record {
  some_items = item some (m some) ∷ [];
  some_value = some;
  some = record { alone = refl; kind = kind };
  answers = λ here. take_answers k m some kind here.state here.rest;
}
