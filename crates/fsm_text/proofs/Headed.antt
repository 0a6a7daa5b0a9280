-- A sentence with what is kept of its first token.
use Rattle.std.proofs.Common.{◌≡◌, true, false, List, [], ◌∷◌, ◌++◌, refl, sym, ap, ◌∙◌, Ok, Err}
use Rattle.vhdl_token.specs.declared.token.PlacedToken.{PlacedToken}
use Rattle.grammar_theory.specs.declared.refusal.Reason.{Reason}
use Rattle.grammar_theory.specs.declared.refusal.Reason.TheVariants as reason
use Rattle.grammar_theory.specs.Marks.{Item, State}
use Rattle.grammar_theory.specs.Grammar.{Grammar, Begins}
use Rattle.grammar_theory.specs.Outcome.{At, Outcome, Reader, ◌>>=◌}
use Rattle.grammar_theory.specs.Answers.{Blames, Answers, tokens_of}
use Rattle.grammar_theory.proofs.Sets.{Set, has}
use Rattle.grammar_theory.proofs.Exact.{Shape}
use Rattle.grammar_theory.proofs.Bundle.{Exact}
use Rattle.fsm_text.specs.declared.file.FirstToken.{FirstToken}
use Rattle.fsm_text.specs.Written.{kept_of}
use Rattle.fsm_text.specs.Fsm.{headed}
use Rattle.fsm_text.specs.FsmReading.{kept_here, headed_at}

same_value : {A : Type 0} (v w : FirstToken × A) → v.0 ≡ w.0 → v.1 ≡ w.1 → v ≡ w
same_value (m, x) (n, y) e f = cc

headed_shape : {A : Type 0} (B : Grammar A) (f l : Set) → Shape B false f l → Shape (headed B) false f l
headed_shape {A} B f l sh = record {
  same = same;
  empty = λ v h. absurd h;
  begins = λ t q v h. sh.begins t q v.1 h.0;
  goes_on = goes_on;
  marks = marks;
} where
  same : (p : List Item) (v w : FirstToken × A) → headed B p v → headed B p w → v ≡ w
  same [] v w h g = absurd h
  same (t ∷ q) v w h g = same_value v w (h.1 ∙ sym g.1) (sh.same (t ∷ q) v.1 w.1 h.0 g.0)

  goes_on : (p : List Item) (t : Item) (q : List Item) (v w : FirstToken × A) → headed B p v → headed B (p ++ t ∷ q) w → has l t ≡ true
  goes_on [] t q v w h g = absurd h
  goes_on (x ∷ p) t q v w h g = sh.goes_on (x ∷ p) t q v.1 w.1 h.0 g.0

  marks : (p : List Item) (i j : Item) (w z : List Item) (v u : FirstToken × A) → headed B (p ++ i ∷ w) v → headed B (p ++ j ∷ z) u → i.token ≡ j.token → i ≡ j
  marks [] i j w z v u h g e = sh.marks [] i j w z v.1 u.1 h.0 g.0 e
  marks (x ∷ p) i j w z v u h g e = sh.marks (x ∷ p) i j w z v.1 u.1 h.0 g.0 e

abbrev first_of : List Item → FirstToken
first_of [] = record { line = 0; is_name = false }
first_of (t ∷ items) = kept_of t.token

-- a sentence, and one with its first token
put : {A : Type 0} (B : Grammar A) (f l : Set) → Shape B false f l → (p : List Item) (v : A) → B p v → headed B p (first_of p, v)
put B f l sh [] v h = let n = sh.empty v h in absurd cc
put B f l sh (t ∷ p) v h = (h, refl)

out : {A : Type 0} (B : Grammar A) (p : List Item) (v : FirstToken × A) → headed B p v → B p v.1
out B [] v h = absurd h
out B (t ∷ p) v h = h.0

-- the first token of what is taken is the next
put_here : {A : Type 0} (B : Grammar A) (f l : Set) → Shape B false f l → (p : List Item) (v : A) (ts rest : List PlacedToken) → ts ≡ tokens_of p ++ rest → B p v → headed B p (kept_here ts, v)
put_here B f l sh [] v ts rest e h = let n = sh.empty v h in absurd cc
put_here B f l sh (t ∷ p) v ts rest e h = (h, ap kept_here e)

headed_begins : {A : Type 0} (B : Grammar A) (f l : Set) → Shape B false f l → (p : List Item) → Begins B p → Begins (headed B) p
headed_begins B f l sh p b = (b.0, (first_of (p ++ b.0), b.1), put B f l sh (p ++ b.0) b.1 b.2)

headed_blames : {A : Type 0} (B : Grammar A) (f l : Set) → Shape B false f l → (s : State) (front : List Item) (rest : List PlacedToken) (which : Reason) → Blames B s which front rest → Blames (headed B) s which front rest
headed_blames B f l sh s front rest reason.Syntax b = record {
  unfinished = λ w v h. b.unfinished w v.1 (out B (front ++ w) v h);
  dead = λ w v h. b.dead w v.1 (out B (front ++ w) v h);
}
headed_blames B f l sh s front rest (reason.Breach w) b = record { next = b.next; more = b.more; rest_is = b.rest_is; alive = headed_begins B f l sh (front ++ b.next ∷ []) b.alive; broken = b.broken }

headed_answers : {A : Type 0} (B : Grammar A) (f l : Set) → Shape B false f l → (here : At) (o : Outcome A) → Answers B here o → Answers (headed B) here (o >>= λ v. Ok ((kept_here here.rest, v.0), v.1))
headed_answers B f l sh here (Ok (v, there)) a = record {
  front = a.front;
  parts = a.parts;
  sentence = put_here B f l sh a.front v here.rest there.rest a.parts a.sentence;
  clean = a.clean;
  longest = λ w u h. a.longest w u.1 (out B (a.front ++ w) u h);
}
headed_answers B f l sh here (Err r) a = record {
  front = a.front;
  rest = a.rest;
  state = a.state;
  parts = a.parts;
  place = a.place;
  viable = headed_begins B f l sh a.front a.viable;
  clean = a.clean;
  blame = headed_blames B f l sh a.state a.front a.rest r.reason a.blame;
}

-- for a grammar without the empty sentence
pub exact_headed : {P A : Type 0} {S B : Grammar A} {f l : Set} {r : Reader A} → Exact P S B false f l r → Exact P (headed S) (headed B) false f l (headed_at r)
unfolding headed_at
exact_headed {P} {A} {S} {B} {f} {l} {r} e = record {
  shape = headed_shape B f l e.shape;
  inside = inside;
  reads = λ p.
      let rl = e.reads p in
      record {
        some_items = rl.some_items;
        some_value = (first_of rl.some_items, rl.some_value);
        some = put B f l e.shape rl.some_items rl.some_value rl.some;
        answers = λ here. headed_answers B f l e.shape here (r here) (rl.answers here);
      };
  starts = λ p. record {
    nullable = λ g. absurd cc;
    starts = λ t h.
        let o = (e.starts p).starts t h in
        let b = o.begins in
        record { mark = o.mark; is = o.is; begins = (b.0, (first_of (o.mark ∷ b.0), b.1), put B f l e.shape (o.mark ∷ b.0) b.1 b.2) };
  };
} where
  inside : P → (q : List Item) (v : FirstToken × A) → headed S q v → headed B q v
  inside p [] v h = h
  inside p (t ∷ q) v h = (e.inside p (t ∷ q) v.1 h.0, h.1)
