-- What holds of each higher level holds of all levels.
use Rattle.std.proofs.Common.{◌≡◌, ℕ, ◌+◌, ◌<◌, Bool, List, [], ◌∷◌, ◌++◌, length, refl, sym, ap, subst, ◌∙◌, append_assoc, Ok, Err, arith}
use Rattle.std.proofs.lemmas.List.{append-nil, length-append}
use Rattle.vhdl_token.specs.declared.token.PlacedToken.{PlacedToken}
use Rattle.grammar_theory.specs.declared.refusal.Breach.{Breach}
use Rattle.grammar_theory.specs.declared.refusal.Reason.{Reason}
use Rattle.grammar_theory.specs.declared.refusal.Reason.TheVariants as reason
use Rattle.grammar_theory.specs.declared.refusal.Refusal.{Refusal}
use Rattle.grammar_theory.specs.Marks.{Item, State, run}
use Rattle.grammar_theory.specs.Grammar.{Grammar, at_some, Begins}
use Rattle.grammar_theory.specs.Outcome.{At, Outcome, Reader}
use Rattle.grammar_theory.specs.Answers.{Meets, Accepts, Refuses, Blames, Answers, tokens_of}
use Rattle.grammar_theory.proofs.Sets.{Set}
use Rattle.grammar_theory.proofs.Exact.{Shape}

-- ---- the marks of a beginning are those of its tokens

agree_from : {A : Type 0} (B : Grammar A) (null : Bool) (f l : Set) → Shape B null f l → (r p q w z : List Item) (v u : A)
    → B (r ++ (p ++ w)) v → B (r ++ (q ++ z)) u → tokens_of p ≡ tokens_of q → p ≡ q
agree_from B null f l sh r [] [] w z v u h g e = refl
agree_from B null f l sh r [] (j ∷ q) w z v u h g e = absurd cc
agree_from B null f l sh r (i ∷ p) [] w z v u h g e = absurd cc
agree_from B null f l sh r (i ∷ p) (j ∷ q) w z v u h g e =
    let token : i.token ≡ j.token = cc in
    let tokens : tokens_of p ≡ tokens_of q = cc in
    let same : i ≡ j = sh.marks r i j (p ++ w) (q ++ z) v u h g token in
    let at_i = subst (λ (k : List Item). B k v) (sym (append_assoc r (i ∷ []) (p ++ w))) h in
    let at_j = subst (λ (t : Item). B ((r ++ t ∷ []) ++ (q ++ z)) u) (sym same) (subst (λ (k : List Item). B k u) (sym (append_assoc r (j ∷ []) (q ++ z))) g) in
    let rest : p ≡ q = agree_from B null f l sh (r ++ i ∷ []) p q w z v u at_i at_j tokens in
    ap (λ (k : List Item). i ∷ k) rest ∙ ap (λ (t : Item). t ∷ q) same

pub agree : {A : Type 0} (B : Grammar A) (null : Bool) (f l : Set) → Shape B null f l → (p q w z : List Item) (v u : A)
    → B (p ++ w) v → B (q ++ z) u → tokens_of p ≡ tokens_of q → p ≡ q
agree B null f l sh p q w z v u h g e = agree_from B null f l sh [] p q w z v u h g e

-- the same tokens with as many left are parted at one place
pub cancel : (a r b s : List PlacedToken) → a ++ r ≡ b ++ s → length r ≡ length s → (a ≡ b) × (r ≡ s)
cancel [] r [] s e f = (refl, e)
cancel [] r (t ∷ b) s e f = absurd (omega (arith, ap length e, f, length-append (t ∷ b) s))
cancel (t ∷ a) r [] s e f = absurd (omega (arith, ap length e, f, length-append (t ∷ a) r))
cancel (t ∷ a) r (u ∷ b) s e f =
    let heads : t ≡ u = cc in
    let tails : a ++ r ≡ b ++ s = cc in
    let same = cancel a r b s tails f in
    (cc (same.0, heads), same.1)

-- ---- levels

-- grammars of which each is part of those later ones that are above a floor
pub record Rising {A : Type 0} (G : ℕ → Grammar A) (floor : ℕ) : Type 0 where
  pub null : Bool
  pub firsts : Set
  pub lasts : Set
  pub shape : (e : ℕ) → Shape (G e) null firsts lasts
  pub rises : (d e : ℕ) → d < e → floor < e → (p : List Item) (v : A) → G d p v → G e p v

into_all : {A : Type 0} (G : ℕ → Grammar A) (d : ℕ) (p : List Item) (v : A) → G d p v → at_some G p v
into_all G d p v h = record { level = d; sentence = h }

at_end : {A : Type 0} (B : Grammar A) (p : List Item) (v : A) → B p v → B (p ++ []) v
at_end B p v h = subst (λ (k : List Item). B k v) (sym (append-nil p)) h

all_blames : {A : Type 0} (G : ℕ → Grammar A) → (f : ℕ) → Rising G f → (s : State) (front : List Item) (rest : List PlacedToken) (which : Reason)
    → ((e : ℕ) → f < e → Blames (G e) s which front rest) → Blames (at_some G) s which front rest
all_blames G f ri s front rest reason.Syntax all = record {
  unfinished = λ w v h g. (all (h.level + f + 1) (omega arith)).unfinished w v (ri.rises h.level (h.level + f + 1) (omega arith) (omega arith) (front ++ w) v h.sentence) g;
  dead = λ w v h m. (all (h.level + f + 1) (omega arith)).dead w v (ri.rises h.level (h.level + f + 1) (omega arith) (omega arith) (front ++ w) v h.sentence) m;
}
all_blames G f ri s front rest (reason.Breach b) all =
    let p = all (f + 1) (omega arith) in
    record { next = p.next; more = p.more; rest_is = p.rest_is; alive = (p.alive.0, p.alive.1, into_all G (f + 1) ((front ++ p.next ∷ []) ++ p.alive.0) p.alive.1 p.alive.2); broken = p.broken }

pub all_answers : {A : Type 0} (G : ℕ → Grammar A) → (f : ℕ) → Rising G f → (here : At) (o : Outcome A) → ((e : ℕ) → f < e → Answers (G e) here o) → Answers (at_some G) here o
all_answers {A} G f ri here (Ok (v, there)) all =
    let a = all (f + 1) (omega arith) in
    record {
      front = a.front;
      parts = a.parts;
      sentence = into_all G (f + 1) a.front v a.sentence;
      clean = a.clean;
      longest = λ w u h m.
          let e = h.level + f + 2 in
          let b = all e (omega arith) in
          let tokens = (cancel (tokens_of b.front) there.rest (tokens_of a.front) there.rest (sym b.parts ∙ a.parts) refl).0 in
          let up = ri.rises (f + 1) e (omega arith) (omega arith) a.front v a.sentence in
          let same = agree (G e) ri.null ri.firsts ri.lasts (ri.shape e) b.front a.front [] [] v v (at_end (G e) b.front v b.sentence) (at_end (G e) a.front v up) tokens in
          b.longest w u (subst (λ (z : List Item). G e (z ++ w) u) (sym same) (ri.rises h.level e (omega arith) (omega arith) (a.front ++ w) u h.sentence)) m;
    }
all_answers {A} G f ri here (Err r) all =
    let a = all (f + 1) (omega arith) in
    record {
      front = a.front;
      rest = a.rest;
      state = a.state;
      parts = a.parts;
      place = a.place;
      viable = (a.viable.0, a.viable.1, into_all G (f + 1) (a.front ++ a.viable.0) a.viable.1 a.viable.2);
      clean = a.clean;
      blame = all_blames G f ri a.state a.front a.rest r.reason (λ e less. blamed e less a (all (e + 1) (omega arith)) (all e less));
    } where
      state_is : (p q : List Item) (s t : State) → p ≡ q → run p here.state ≡ Ok s → run q here.state ≡ Ok t → s ≡ t
      state_is p q s t same h g = let e : run p here.state ≡ run q here.state = ap (λ (z : List Item). run z here.state) same in cc (e, h, g)

      blamed : (e : ℕ) → f < e → (a : Refuses (G (f + 1)) here r) → Refuses (G (e + 1)) here r → (b : Refuses (G e) here r) → Blames (G e) a.state r.reason a.front a.rest
      blamed e less a c b =
          let parted = cancel (tokens_of b.front) b.rest (tokens_of a.front) a.rest (sym b.parts ∙ a.parts) (sym b.place ∙ a.place) in
          let up = ri.rises (f + 1) (e + 1) (omega arith) (omega arith) (a.front ++ a.viable.0) a.viable.1 a.viable.2 in
          let over = ri.rises e (e + 1) (omega arith) (omega arith) (b.front ++ b.viable.0) b.viable.1 b.viable.2 in
          let same = agree (G (e + 1)) ri.null ri.firsts ri.lasts (ri.shape (e + 1)) b.front a.front b.viable.0 a.viable.0 b.viable.1 a.viable.1 over up parted.0 in
          let states = state_is b.front a.front b.state a.state same b.clean a.clean in
          subst (λ (z : List Item). Blames (G e) a.state r.reason z a.rest) same
          (subst (λ (z : List PlacedToken). Blames (G e) a.state r.reason b.front z) parted.1
          (subst (λ (z : State). Blames (G e) z r.reason b.front b.rest) states b.blame))
