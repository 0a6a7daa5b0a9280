-- Of a text one answer is right.
use Rattle.std.proofs.Common.{◌≡◌, false, [], ◌∷◌, ◌⊎◌, inl, inr, refl, ap, sym, ◌∙◌, Ok, Err}
use Rattle.vlsi_base.specs.declared.fault.ReadError.{ReadError}
use Rattle.vhdl_token.specs.declared.keyword.Keyword.TheVariants as word
use Rattle.vhdl_token.specs.declared.token.Tokens.{Tokens}
use Rattle.grammar_theory.specs.declared.form.Form.TheVariants as form
use Rattle.grammar_theory.specs.declared.limits.TheConstants.{DEPTH}
use Rattle.grammar_theory.specs.declared.refusal.Refusal.{Refusal}
use Rattle.grammar_theory.specs.Outcome.{start}
use Rattle.grammar_theory.specs.Unique.{OneAnswerToAll}
use Rattle.grammar_theory.proofs.Unique as unique
use Rattle.vhdl_front.specs.Front.{error_of}
use Rattle.vhdl_front.proofs.Language.{numbers}
use Rattle.vbe_text.specs.Source.{SourceTree}
use Rattle.vbe_text.specs.Vbe.{vbe, IsSource, RefusedAs}
use Rattle.vbe_text.specs.VbeReading.{source_at}
use Rattle.vbe_text.specs.Laws.{EachSource, OneSource, NeverBothSource, OneRefusedSource}
use Rattle.vbe_text.proofs.VbeLanguage.{exact_source, source_answers}

one : OneAnswerToAll vbe
one = unique.one_answer_to_all vbe false (numbers (form.Keyword word.Entity ∷ [])) [] (exact_source DEPTH).shape (source_at DEPTH) (source_answers DEPTH)

pub one_source : OneSource
one_source tokens a b h g = unique.same_value vbe one (start tokens.items) h.end g.end a b h.read g.read

pub never_both : NeverBothSource
never_both tokens source e h g = unique.never_both vbe one (start tokens.items) h.end source g.refusal h.read g.right

pub one_refusal : OneRefusedSource
one_refusal tokens d e h g =
    let same : h.refusal ≡ g.refusal = unique.same_refusal vbe one (start tokens.items) h.refusal g.refusal h.right g.right in
    h.is ∙ ap (λ (r : Refusal). error_of tokens.last_line tokens.items r) same ∙ sym g.is

pub each_source : EachSource
each_source tokens = elim (unique.some_answer vbe one (start tokens.items)) [
  | inl a ↦ inl (a.0, record { end = a.1; read = a.2 })
  | inr r ↦ inr (error_of tokens.last_line tokens.items r.0, record { refusal = r.0; right = r.1; is = refl })
]
