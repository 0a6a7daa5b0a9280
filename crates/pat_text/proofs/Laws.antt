-- Of a text one answer is right.
use Rattle.std.proofs.Common.{◌≡◌, false, List, [], ◌∷◌, ◌++◌, ◌⊎◌, inl, inr, append-nil, refl, ap, sym, ◌∙◌, Ok, Err}
use Rattle.vlsi_base.specs.declared.fault.ReadError.{ReadError}
use Rattle.vhdl_token.specs.declared.keyword.Keyword.TheVariants as word
use Rattle.vhdl_token.specs.declared.token.PlacedToken.{PlacedToken}
use Rattle.vhdl_token.specs.declared.token.Tokens.{Tokens}
use Rattle.grammar_theory.specs.declared.form.Form.TheVariants as form
use Rattle.grammar_theory.specs.declared.refusal.Refusal.{Refusal}
use Rattle.grammar_theory.specs.Marks.{Item}
use Rattle.grammar_theory.specs.Outcome.{At, start}
use Rattle.grammar_theory.specs.Answers.{Meets, AnswersAll, tokens_of}
use Rattle.grammar_theory.specs.Unique.{OneAnswerToAll}
use Rattle.grammar_theory.proofs.Unique as unique
use Rattle.pat_text.specs.declared.parsed.PatternFile.{PatternFile}
use Rattle.pat_text.specs.Patterns.{file}
use Rattle.pat_text.specs.Answers.{syntax_for, IsFile, IsSyntaxFault}
use Rattle.pat_text.specs.Reading.{file_at}
use Rattle.pat_text.specs.Laws.{EachFile, OneFile, NeverBothFile, OneSyntaxFault}
use Rattle.pat_text.proofs.PatLanguage.{forms, exact_file, file_answers}

one : OneAnswerToAll file
one = unique.one_answer_to_all file false (forms (form.Keyword word.In ∷ form.Keyword word.Out ∷ form.Keyword word.Begin ∷ [])) [] exact_file.shape file_at file_answers

nothing_meets : (w : List Item) → Meets w [] → ⊥
nothing_meets w m = no m.next.token m.rest_more m.rest_is where
  no : (t : PlacedToken) (ts : List PlacedToken) → [] ≡ t ∷ ts → ⊥
  no t ts e = cc

-- a pattern file is what the grammar asks of a whole text
answers : (ts : List PlacedToken) (parsed : PatternFile) (f : IsFile ts parsed) → AnswersAll file (start ts) (Ok (parsed, record { state = f.state; rest = [] }))
answers ts parsed f = (
  record {
    front = f.items;
    parts = f.all ∙ sym (append-nil _);
    sentence = f.sentence;
    clean = f.fitting;
    longest = λ w v h m. nothing_meets w m;
  },
  refl,
)

pub one_file : OneFile
one_file text a b h g = unique.same_value file one (start text.items) _ _ a b (answers text.items a h) (answers text.items b g)

pub never_both : NeverBothFile
never_both text parsed e h g = unique.never_both file one (start text.items) _ parsed g.refusal (answers text.items parsed h) g.right

pub one_fault : OneSyntaxFault
one_fault text d e h g =
    let same : h.refusal ≡ g.refusal = unique.same_refusal file one (start text.items) h.refusal g.refusal h.right g.right in
    h.is ∙ ap (λ (r : Refusal). syntax_for text r.left) same ∙ sym g.is

is_file : (ts : List PlacedToken) (parsed : PatternFile) (there : At) → AnswersAll file (start ts) (Ok (parsed, there)) → IsFile ts parsed
is_file ts parsed there a = record {
  items = a.0.front;
  all = a.0.parts ∙ ap (λ (z : List PlacedToken). tokens_of a.0.front ++ z) a.1 ∙ append-nil (tokens_of a.0.front);
  sentence = a.0.sentence;
  state = there.state;
  fitting = a.0.clean;
}

pub each_file : EachFile
each_file text = elim (unique.some_answer file one (start text.items)) [
  | inl a ↦ inl (a.0, is_file text.items a.0 a.1 a.2)
  | inr r ↦ inr (syntax_for text r.0.left, record { refusal = r.0; is = refl; right = r.1 })
]
