-- That exactly one answer is right.
use Rattle.std.specs.Prelude.{◌≡◌}
use Rattle.grammar_theory.specs.Grammar.{Grammar}
use Rattle.grammar_theory.specs.Outcome.{At, Outcome}
use Rattle.grammar_theory.specs.Answers.{Answers, AnswersAll}

-- Whatever tokens are left, exactly one outcome is right: either they begin with a sentence from which none goes on with the
-- next token, and it has one value and one end, or they are refused at one place for one reason.
abbrev pub OneAnswer : {A : Type 0} → Grammar A → Type 0
OneAnswer {A} G = (here : At) → (x : Outcome A) × Answers G here x × ((y : Outcome A) → Answers G here y → y ≡ x)

-- The same where all of the tokens have to be one sentence.
abbrev pub OneAnswerToAll : {A : Type 0} → Grammar A → Type 0
OneAnswerToAll {A} G = (here : At) → (x : Outcome A) × AnswersAll G here x × ((y : Outcome A) → AnswersAll G here y → y ≡ x)
