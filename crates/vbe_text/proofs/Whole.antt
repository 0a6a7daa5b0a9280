-- From reading to what the grammar says of a whole text.
use Rattle.std.proofs.Common.{◌≡◌, ℕ, Bool, true, false, cond, ◌||◌, List, [], ◌∷◌, ◌++◌, length, refl, sym, ap, subst, ◌∙◌, Ok, Err}
use Rattle.std.proofs.lemmas.List.{append-nil}
use Rattle.vlsi_base.specs.declared.fault.ReadError.{ReadError}
use Rattle.vlsi_base.specs.declared.fault.ReadError.TheVariants as errors
use Rattle.vhdl_token.specs.declared.keyword.Keyword.TheVariants as word
use Rattle.vhdl_token.specs.declared.token.PlacedToken.{PlacedToken}
use Rattle.vhdl_token.specs.declared.token.Tokens.{Tokens}
use Rattle.grammar_theory.specs.declared.form.Form.{Form}
use Rattle.grammar_theory.specs.declared.form.Form.TheVariants as form
use Rattle.grammar_theory.specs.declared.limits.TheConstants.{DEPTH}
use Rattle.grammar_theory.specs.declared.refusal.Refusal.{Refusal}
use Rattle.grammar_theory.specs.declared.refusal.Stop.{Stop}
use Rattle.grammar_theory.specs.declared.refusal.Stop.TheVariants as stop
use Rattle.grammar_theory.specs.Tokens.{code, is_of, is_at, among}
use Rattle.grammar_theory.specs.Marks.{Item}
use Rattle.grammar_theory.specs.Outcome.{At, Outcome, Fails, start, finish}
use Rattle.grammar_theory.specs.Answers.{Rejects, AnswersAll, tokens_of}
use Rattle.grammar_theory.proofs.End.{answers_all}
use Rattle.grammar_theory.proofs.Levels.{agree, cancel}
use Rattle.vhdl_front.specs.Cursor.{names_of}
use Rattle.vhdl_front.specs.Front.{error_of, OrMemory, Becomes}
use Rattle.vhdl_front.proofs.Language.{numbers}
use Rattle.vbe_text.specs.Source.{SourceTree}
use Rattle.vbe_text.specs.Vbe.{vbe, IsSource, IsRefusedSource}
use Rattle.vbe_text.specs.VbeReading.{source_at}
use Rattle.vbe_text.proofs.VbeLanguage.{exact_source, source_answers}

pub among_two : (f g : Form) (ts : List PlacedToken) → among (code f ∷ code g ∷ []) ts ≡ is_at f ts || is_at g ts
among_two f g [] = refl
among_two f g (t ∷ ts) = same (is_of f t) (is_of g t) where
  same : (a b : Bool) → cond a true (cond b true false) ≡ a || b
  same true b = refl
  same false true = refl
  same false false = refl

all_read : (here : At) → AnswersAll vbe here (finish (source_at DEPTH here))
all_read here = answers_all vbe here (source_at DEPTH here) (source_answers DEPTH here)

pub is_source : (tokens : Tokens) (here there : At) (v : SourceTree) → here ≡ start tokens.items → finish (source_at DEPTH here) ≡ Ok (v, there) → IsSource tokens v
is_source tokens here there v e read =
    let Right : Outcome SourceTree → Type 0 = λ o. AnswersAll vbe here o in
    let From : At → Type 0 = λ at. AnswersAll vbe at (Ok (v, there)) in
    record { end = there; read = subst From e (subst Right read (all_read here)) }

rejected : (here : At) (r : Refusal) → finish (source_at DEPTH here) ≡ Err r → Rejects vbe here r
rejected here r read = let Right : Outcome SourceTree → Type 0 = λ o. AnswersAll vbe here o in subst Right read (all_read here)

refused_as : (tokens : Tokens) (r : Refusal) → Rejects vbe (start tokens.items) r → (e : ReadError) → OrMemory (error_of tokens.last_line tokens.items r) e → IsRefusedSource tokens e
refused_as tokens r right errors.Memory h = tt
refused_as tokens r right (errors.Input f) h = record { refusal = r; right = right; is = h }
refused_as tokens r right (errors.Limit l) h = record { refusal = r; right = right; is = h }

pub is_refused : (tokens : Tokens) (here : At) (s : Stop) (e : ReadError) → here ≡ start tokens.items → Fails s (finish (source_at DEPTH here)) → Becomes tokens.last_line tokens.items s e → IsRefusedSource tokens e
is_refused tokens here stop.Memory e at f h = subst (IsRefusedSource tokens) (sym h) tt
is_refused tokens here (stop.Refused r) e at f h = refused_as tokens r (subst (λ (a : At). Rejects vbe a r) at (rejected here r f)) e h
