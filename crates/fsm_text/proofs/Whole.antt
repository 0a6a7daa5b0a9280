-- From reading to what the grammar says of a whole text.
use Rattle.std.proofs.Common.{◌≡◌, ℕ, Bool, true, false, cond, ◌||◌, ◌<◌, List, [], ◌∷◌, refl, sym, subst, ◌∙◌, Ok, Err}
use Rattle.vlsi_base.specs.declared.fault.ReadError.{ReadError}
use Rattle.vlsi_base.specs.declared.fault.ReadError.TheVariants as errors
use Rattle.vhdl_token.specs.declared.keyword.Keyword.TheVariants as word
use Rattle.vhdl_token.specs.declared.token.PlacedToken.{PlacedToken}
use Rattle.vhdl_token.specs.declared.token.Tokens.{Tokens}
use Rattle.grammar_theory.specs.declared.form.Form.{Form}
use Rattle.grammar_theory.specs.declared.form.Form.TheVariants as form
use Rattle.grammar_theory.specs.declared.limits.TheConstants.{DEPTH}
use Rattle.grammar_theory.specs.declared.refusal.Refusal.{Refusal}
use Rattle.grammar_theory.specs.declared.refusal.Stop.{Stop}
use Rattle.grammar_theory.specs.declared.refusal.Stop.TheVariants as stop
use Rattle.grammar_theory.specs.Tokens.{code, is_of, is_at, among}
use Rattle.grammar_theory.specs.Outcome.{At, Outcome, Fails, start, finish}
use Rattle.grammar_theory.specs.Answers.{Rejects, AnswersAll}
use Rattle.grammar_theory.specs.Unique.{OneAnswerToAll}
use Rattle.grammar_theory.proofs.Unique as unique
use Rattle.grammar_theory.proofs.End.{answers_all}
use Rattle.vhdl_front.specs.Front.{error_of, OrMemory, Becomes}
use Rattle.vhdl_front.proofs.Language.{numbers}
use Rattle.fsm_text.specs.Written.{MachineTree}
use Rattle.fsm_text.specs.Fsm.{fsm}
use Rattle.fsm_text.specs.FsmReading.{machine_at, statement_kinds}
use Rattle.fsm_text.specs.Texts.{PassesChain, PassesBefore, chain_error, IsMachine, RefusedAs, refused, chained, IsRefusedMachine, StopsText}
use Rattle.fsm_text.proofs.Texts.{exact_machine, machine_answers}

pub among_four : (ts : List PlacedToken) → among statement_kinds ts
    ≡ (((is_at (form.Keyword word.Assert) ts || is_at (form.Keyword word.If) ts) || is_at (form.Keyword word.Case) ts) || is_at form.Identifier ts)
among_four [] = refl
among_four (t ∷ ts) = same (is_of (form.Keyword word.Assert) t) (is_of (form.Keyword word.If) t) (is_of (form.Keyword word.Case) t) (is_of form.Identifier t) where
  same : (a b c d : Bool) → cond a true (cond b true (cond c true (cond d true false))) ≡ (((a || b) || c) || d)
  same true b c d = refl
  same false true c d = refl
  same false false true d = refl
  same false false false true = refl
  same false false false false = refl

pub one : OneAnswerToAll fsm
one = unique.one_answer_to_all fsm false (numbers (form.Keyword word.Entity ∷ [])) [] (exact_machine DEPTH).shape (machine_at DEPTH) (machine_answers DEPTH)

all_read : (here : At) → AnswersAll fsm here (finish (machine_at DEPTH here))
all_read here = answers_all fsm here (machine_at DEPTH here) (machine_answers DEPTH here)

pub whole_read : (tokens : Tokens) (here there : At) (v : MachineTree) → here ≡ start tokens.items → finish (machine_at DEPTH here) ≡ Ok (v, there) → AnswersAll fsm (start tokens.items) (Ok (v, there))
whole_read tokens here there v e read =
    let Right : Outcome MachineTree → Type 0 = λ o. AnswersAll fsm here o in
    let From : At → Type 0 = λ at. AnswersAll fsm at (Ok (v, there)) in
    subst From e (subst Right read (all_read here))

-- a text that is read, and in which no assignment is one too many
pub is_machine : (tokens : Tokens) (here there : At) (v : MachineTree) → here ≡ start tokens.items → finish (machine_at DEPTH here) ≡ Ok (v, there) → (PassesBefore tokens 0 → ⊥) → IsMachine tokens v
is_machine tokens here there v e read few = record { end = there; read = whole_read tokens here there v e read; few = few }

-- in a text that is read, one is
pub chained_whole : (tokens : Tokens) (here there : At) (v : MachineTree) → here ≡ start tokens.items → finish (machine_at DEPTH here) ≡ Ok (v, there) → PassesBefore tokens 0 → RefusedAs tokens chain_error
chained_whole tokens here there v e read p =
    chained p.0 p.1 (λ r no. absurd (unique.never_both fsm one (start tokens.items) there v r (whole_read tokens here there v e read) no)) refl

rejected : (here : At) (r : Refusal) → finish (machine_at DEPTH here) ≡ Err r → Rejects fsm here r
rejected here r read = let Right : Outcome MachineTree → Type 0 = λ o. AnswersAll fsm here o in subst Right read (all_read here)

pub stops_text : (tokens : Tokens) (here : At) (s : Stop) → here ≡ start tokens.items → Fails s (finish (machine_at DEPTH here)) → StopsText tokens s
stops_text tokens here stop.Memory e f = tt
stops_text tokens here (stop.Refused r) e f = subst (λ (a : At). Rejects fsm a r) e (rejected here r f)

-- an assignment before what the grammar refuses is one too many
pub chained_before : (tokens : Tokens) (r : Refusal) → Rejects fsm (start tokens.items) r → PassesBefore tokens r.left → RefusedAs tokens chain_error
chained_before tokens r right p = chained p.0 p.1 (λ q no. subst (λ (k : Refusal). k.left < p.0) (unique.same_refusal fsm one (start tokens.items) r q right no) p.2) refl

refused_error : (tokens : Tokens) (r : Refusal) → Rejects fsm (start tokens.items) r → (PassesBefore tokens r.left → ⊥) → (e : ReadError) → OrMemory (error_of tokens.last_line tokens.items r) e → IsRefusedMachine tokens e
refused_error tokens r right few errors.Memory h = tt
refused_error tokens r right few (errors.Input f) h = refused r right few h
refused_error tokens r right few (errors.Limit l) h = refused r right few h

-- what the grammar refuses, where no assignment before it is one too many
pub is_refused : (tokens : Tokens) (s : Stop) (e : ReadError) → StopsText tokens s → ((r : Refusal) → s ≡ stop.Refused r → PassesBefore tokens r.left → ⊥) → Becomes tokens.last_line tokens.items s e → IsRefusedMachine tokens e
is_refused tokens stop.Memory e right few h = subst (IsRefusedMachine tokens) (sym h) tt
is_refused tokens (stop.Refused r) e right few h = refused_error tokens r right (few r refl) e h
