-- From reading to what the grammar says.
use Rattle.std.proofs.Common.{◌≡◌, List, [], ◌++◌, Ok, Err, refl, sym, ap, subst, ◌∙◌, append-nil}
use Rattle.vlsi_base.specs.declared.fault.ReadError.{ReadError}
use Rattle.vhdl_token.specs.declared.token.PlacedToken.{PlacedToken}
use Rattle.vhdl_token.specs.declared.token.Tokens.{Tokens}
use Rattle.grammar_theory.specs.declared.refusal.Refusal.{Refusal}
use Rattle.grammar_theory.specs.Outcome.{At, Outcome, start, finish}
use Rattle.grammar_theory.specs.Answers.{tokens_of, Rejects, AnswersAll}
use Rattle.grammar_theory.proofs.End.{answers_all}
use Rattle.pat_text.specs.declared.parsed.PatternFile.{PatternFile}
use Rattle.pat_text.specs.Patterns.{file}
use Rattle.pat_text.specs.Reading.{file_at}
use Rattle.pat_text.specs.Answers.{syntax_for, IsFile, IsSyntaxFault, IsRefusal}
use Rattle.pat_text.proofs.PatLanguage.{file_answers}

whole : (here : At) → AnswersAll file here (finish (file_at here))
whole here = answers_all file here (file_at here) (file_answers here)

pub is_file : (here : At) (ts : List PlacedToken) (parsed : PatternFile) (there : At) → here ≡ start ts → finish (file_at here) ≡ Ok (parsed, there) → IsFile ts parsed
is_file here ts parsed there first e =
    let Right : Outcome PatternFile → Type 0 = λ o. AnswersAll file here o in
    let a = subst Right e (whole here) in
    let at : here.rest ≡ ts = ap (λ (h : At). h.rest) first in
    record {
      items = a.0.front;
      all = sym at ∙ a.0.parts ∙ ap (λ (z : List PlacedToken). tokens_of a.0.front ++ z) a.1 ∙ append-nil (tokens_of a.0.front);
      sentence = a.0.sentence;
      state = there.state;
      fitting = rw (← ap (λ (h : At). h.state) first) a.0.clean;
    }

pub is_refused : (text : Tokens) (here : At) (r : Refusal) (e : ReadError) → here ≡ start text.items → finish (file_at here) ≡ Err r → e ≡ syntax_for text r.left → IsRefusal text e
is_refused text here r e first refused is =
    let Right : Outcome PatternFile → Type 0 = λ o. AnswersAll file here o in
    let At : At → Type 0 = λ h. Rejects file h r in
    let right : Rejects file here r = subst Right refused (whole here) in
    let Refused : ReadError → Type 0 = λ x. IsRefusal text x in
    let fault : IsSyntaxFault text (syntax_for text r.left) = record { refusal = r; is = refl; right = subst At first right } in
    subst Refused (sym is) fault
