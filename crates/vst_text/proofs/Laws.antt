-- Of a text one answer is right.
use Rattle.std.proofs.Common.{◌≡◌, false, [], ◌∷◌, ◌⊎◌, inl, inr, refl, ap, sym, ◌∙◌, Ok, Err}
use Rattle.vlsi_base.specs.declared.fault.ReadError.{ReadError}
use Rattle.vhdl_token.specs.declared.keyword.Keyword.TheVariants as word
use Rattle.vhdl_token.specs.declared.token.Tokens.{Tokens}
use Rattle.grammar_theory.specs.declared.form.Form.TheVariants as form
use Rattle.grammar_theory.specs.declared.limits.TheConstants.{DEPTH}
use Rattle.grammar_theory.specs.declared.refusal.Refusal.{Refusal}
use Rattle.grammar_theory.specs.Outcome.{start}
use Rattle.grammar_theory.specs.Unique.{OneAnswerToAll}
use Rattle.grammar_theory.proofs.Unique as unique
use Rattle.vhdl_front.specs.Front.{error_of}
use Rattle.vhdl_front.proofs.Language.{numbers}
use Rattle.vst_text.specs.declared.file.StructuralFile.{StructuralFile}
use Rattle.vst_text.specs.Vst.{vst, IsStructure, RefusedAs}
use Rattle.vst_text.specs.VstReading.{structure_at}
use Rattle.vst_text.specs.Laws.{EachStructure, OneStructure, NeverBothStructure, OneRefusedStructure}
use Rattle.vst_text.proofs.VstLanguage.{exact_structure, structure_answers}

one : OneAnswerToAll vst
one = unique.one_answer_to_all vst false (numbers (form.Keyword word.Entity ∷ [])) [] (exact_structure DEPTH).shape (structure_at DEPTH) (structure_answers DEPTH)

pub one_structure : OneStructure
one_structure tokens a b h g = unique.same_value vst one (start tokens.items) h.end g.end a b h.read g.read

pub never_both : NeverBothStructure
never_both tokens file e h g = unique.never_both vst one (start tokens.items) h.end file g.refusal h.read g.right

pub one_refusal : OneRefusedStructure
one_refusal tokens d e h g =
    let same : h.refusal ≡ g.refusal = unique.same_refusal vst one (start tokens.items) h.refusal g.refusal h.right g.right in
    h.is ∙ ap (λ (r : Refusal). error_of tokens.last_line tokens.items r) same ∙ sym g.is

pub each_structure : EachStructure
each_structure tokens = elim (unique.some_answer vst one (start tokens.items)) [
  | inl a ↦ inl (a.0, record { end = a.1; read = a.2 })
  | inr r ↦ inr (error_of tokens.last_line tokens.items r.0, record { refusal = r.0; right = r.1; is = refl })
]
