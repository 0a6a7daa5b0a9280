-- All of the tokens.
use Rattle.std.proofs.Common.{◌≡◌, List, [], ◌∷◌, ◌++◌, refl, sym, subst, ◌∙◌, Ok, Err}
use Rattle.std.proofs.lemmas.List.{append-nil}
use Rattle.vhdl_token.specs.declared.token.PlacedToken.{PlacedToken}
use Rattle.grammar_theory.specs.declared.refusal.Refusal.{Refusal}
use Rattle.grammar_theory.specs.declared.refusal.Reason.{Reason}
use Rattle.grammar_theory.specs.declared.refusal.Reason.TheVariants as reason
use Rattle.grammar_theory.specs.Marks.{Item, State, run}
use Rattle.grammar_theory.specs.Grammar.{Grammar}
use Rattle.grammar_theory.specs.Outcome.{At, Outcome, finished, finish}
use Rattle.grammar_theory.specs.Answers.{Accepts, Blames, Answers, Ends, AnswersAll}

ends : {A : Type 0} (B : Grammar A) (s : State) (front : List Item) (rest : List PlacedToken) (which : Reason) → Blames B s which front rest → Ends B s which front rest
ends B s front rest reason.Syntax f = record { unfinished = λ e v h. f.unfinished [] v (subst (λ (z : List Item). B z v) (sym (append-nil front)) h) refl; dead = f.dead }
ends B s front rest (reason.Breach b) f = f

behind_it : {A : Type 0} (B : Grammar A) (here : At) (v : A) (s : State) (rest : List PlacedToken) → Accepts B here v (record { state = s; rest = rest }) → AnswersAll B here (finished v s rest)
behind_it B here v s [] a = (a, refl)
behind_it B here v s (t ∷ more) a = record {
  front = a.front;
  rest = t ∷ more;
  state = s;
  parts = a.parts;
  place = refl;
  viable = ([], v, subst (λ (z : List Item). B z v) (sym (append-nil a.front)) a.sentence);
  clean = a.clean;
  blame = record { unfinished = λ e. absurd (some t more e); dead = a.longest };
} where
  some : (u : PlacedToken) (q : List PlacedToken) → u ∷ q ≡ [] → ⊥
  some u q e = cc

pub answers_all : {A : Type 0} (B : Grammar A) (here : At) (o : Outcome A) → Answers B here o → AnswersAll B here (finish o)
answers_all B here (Ok (v, there)) a = behind_it B here v there.state there.rest a
answers_all B here (Err r) a = record { front = a.front; rest = a.rest; state = a.state; parts = a.parts; place = a.place; viable = a.viable; clean = a.clean; blame = ends B a.state a.front a.rest r.reason a.blame }
