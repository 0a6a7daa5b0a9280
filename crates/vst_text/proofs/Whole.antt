-- From reading to what the grammar says of a whole text.
use Rattle.std.proofs.Common.{◌≡◌, subst, sym, Ok, Err}
use Rattle.vlsi_base.specs.declared.fault.ReadError.{ReadError}
use Rattle.vlsi_base.specs.declared.fault.ReadError.TheVariants as errors
use Rattle.vhdl_token.specs.declared.token.Tokens.{Tokens}
use Rattle.grammar_theory.specs.declared.limits.TheConstants.{DEPTH}
use Rattle.grammar_theory.specs.declared.refusal.Refusal.{Refusal}
use Rattle.grammar_theory.specs.declared.refusal.Stop.{Stop}
use Rattle.grammar_theory.specs.declared.refusal.Stop.TheVariants as stop
use Rattle.grammar_theory.specs.Outcome.{At, Outcome, Fails, start, finish}
use Rattle.grammar_theory.specs.Answers.{Rejects, AnswersAll}
use Rattle.grammar_theory.proofs.End.{answers_all}
use Rattle.vhdl_front.specs.Front.{error_of, OrMemory, Becomes}
use Rattle.vst_text.specs.declared.file.StructuralFile.{StructuralFile}
use Rattle.vst_text.specs.Vst.{vst, IsStructure, IsRefusedStructure}
use Rattle.vst_text.specs.VstReading.{structure_at}
use Rattle.vst_text.proofs.VstLanguage.{structure_answers}

all_read : (here : At) → AnswersAll vst here (finish (structure_at DEPTH here))
all_read here = answers_all vst here (structure_at DEPTH here) (structure_answers DEPTH here)

pub is_structure : (tokens : Tokens) (here there : At) (v : StructuralFile) → here ≡ start tokens.items → finish (structure_at DEPTH here) ≡ Ok (v, there) → IsStructure tokens v
is_structure tokens here there v e read =
    let Right : Outcome StructuralFile → Type 0 = λ o. AnswersAll vst here o in
    let From : At → Type 0 = λ at. AnswersAll vst at (Ok (v, there)) in
    record { end = there; read = subst From e (subst Right read (all_read here)) }

rejected : (here : At) (r : Refusal) → finish (structure_at DEPTH here) ≡ Err r → Rejects vst here r
rejected here r read = let Right : Outcome StructuralFile → Type 0 = λ o. AnswersAll vst here o in subst Right read (all_read here)

refused_as : (tokens : Tokens) (r : Refusal) → Rejects vst (start tokens.items) r → (e : ReadError) → OrMemory (error_of tokens.last_line tokens.items r) e → IsRefusedStructure tokens e
refused_as tokens r right errors.Memory h = tt
refused_as tokens r right (errors.Input f) h = record { refusal = r; right = right; is = h }
refused_as tokens r right (errors.Limit l) h = record { refusal = r; right = right; is = h }

pub is_refused : (tokens : Tokens) (here : At) (s : Stop) (e : ReadError) → here ≡ start tokens.items → Fails s (finish (structure_at DEPTH here)) → Becomes tokens.last_line tokens.items s e → IsRefusedStructure tokens e
is_refused tokens here stop.Memory e at f h = subst (IsRefusedStructure tokens) (sym h) tt
is_refused tokens here (stop.Refused r) e at f h = refused_as tokens r (subst (λ (a : At). Rejects vst a r) at (rejected here r f)) e h
