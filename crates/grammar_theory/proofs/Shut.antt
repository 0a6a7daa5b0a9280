-- A token that is a breach wherever it stands.
use Rattle.std.proofs.Common.{◌≡◌, Bool, true, false, List, [], ◌∷◌, ◌++◌, refl, sym, ap, ◌∙◌, Result, Ok, Err}
use Rattle.std.proofs.lemmas.List.{append-nil}
use Rattle.vhdl_token.specs.declared.token.PlacedToken.{PlacedToken}
use Rattle.grammar_theory.specs.declared.form.Form.{Form}
use Rattle.grammar_theory.specs.declared.refusal.Breach.{Breach}
use Rattle.grammar_theory.specs.declared.refusal.Reason.TheVariants as reason
use Rattle.grammar_theory.specs.Tokens.{code, code_of, is_of}
use Rattle.grammar_theory.specs.Marks.{Mark, Item, State, step}
use Rattle.grammar_theory.specs.Grammar.{Grammar, item, marked, Then}
use Rattle.grammar_theory.specs.Outcome.{At, Outcome, Reader, refusal, passed, take_from, take_marked, ◌>>=◌}
use Rattle.grammar_theory.proofs.Sets.{Set, disjoint, by_test}
use Rattle.grammar_theory.proofs.Exact.{Shape, one_shape}
use Rattle.grammar_theory.proofs.Sequence.{Parts, when_null, then_shape, then_answers}
use Rattle.grammar_theory.proofs.Bundle.{Exact, exact_marked}

abbrev Missing : PlacedToken → At → Outcome PlacedToken → Type 0
Missing t there o = o ≡ Ok (t, there) → ⊥

not_taken : (f : Form) (m : PlacedToken → Mark) (b : Breach) → ((t : PlacedToken) (s : State) → step (m t) s ≡ Err b) → (s : State) (ts : List PlacedToken) (x : PlacedToken) (there : At) → take_from f m s ts ≡ Ok (x, there) → ⊥
not_taken f m b broken s [] x there e = cc
not_taken f m b broken s (t ∷ ts) x there e =
    by_test (Missing x there) (is_of f t) (passed t ts (step (m t) s)) (Err (refusal reason.Syntax (t ∷ ts)))
    (λ g h. no (step (m t) s) (broken t s) h)
    (λ g h. missed h) e where
      no : (r : Result State Breach) → r ≡ Err b → passed t ts r ≡ Ok (x, there) → ⊥
      no (Ok u) g h = cc
      no (Err c) g h = cc

      wrong : Outcome PlacedToken
      wrong = Err (refusal reason.Syntax (t ∷ ts))

      missed : Missing x there (Err (refusal reason.Syntax (t ∷ ts)))
      missed h = cc

-- whatever a reader does behind such a token
pub exact_shut : {P A : Type 0} {S B : PlacedToken → Grammar A} {nm : Bool} {fm lm : Set} (f : Form) (m : PlacedToken → Mark) (b : Breach) → ((t : PlacedToken) (s : State) → step (m t) s ≡ Err b)
    → ((t : PlacedToken) → Shape (B t) nm fm lm) → (P → (t : PlacedToken) (q : List Item) (v : A) → S t q v → B t q v) → ((t : PlacedToken) → (q : List Item) × (v : A) × B t q v)
    → (r : PlacedToken → Reader A) → Exact P (Then (marked f m) S) (Then (marked f m) B) false (code f ∷ []) (lm ++ when_null nm []) (λ here. take_marked f m here >>= λ x. r x.0 x.1)
exact_shut {P} {A} {S} {B} {nm} {fm} {lm} f m b broken shape inside some r =
    let first : Exact P (marked f m) (marked f m) false (code f ∷ []) [] (take_marked f m) = exact_marked f m in
    let parts : Parts (marked f m) B false (code f ∷ []) [] nm fm lm = record { shl = one_shape f m; shm = shape; apart = refl; some_items = λ t. (some t).0; some_value = λ t. (some t).1; some = λ t. (some t).2 } in
    record {
      shape = then_shape (marked f m) B false (code f ∷ []) [] nm fm lm (one_shape f m) shape refl;
      inside = λ p q v h. record { front = h.front; back = h.back; value = h.value; parts = h.parts; before = h.before; behind = inside p h.value h.back v h.behind };
      reads = λ p.
          let rl = first.reads p in
          let s = some rl.some_value in
          record {
            some_items = rl.some_items ++ s.0;
            some_value = s.1;
            some = record { front = rl.some_items; back = s.0; value = rl.some_value; parts = refl; before = rl.some; behind = s.2 };
            answers = λ here. then_answers (marked f m) B false (code f ∷ []) [] nm fm lm parts r here (take_marked f m here) (rl.answers here) (λ x there e. absurd (not_taken f m b broken here.state here.rest x there e));
          };
      starts = λ p. record {
        nullable = λ e. absurd cc;
        starts = λ t e.
            let o = (first.starts p).starts t e in
            let x = o.begins in
            let s = some x.1 in
            record { mark = o.mark; is = o.is; begins = (x.0 ++ s.0, s.1, record { front = o.mark ∷ x.0; back = s.0; value = x.1; parts = refl; before = x.2; behind = s.2 }) };
      };
    }
