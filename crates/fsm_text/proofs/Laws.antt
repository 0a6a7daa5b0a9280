-- Of a text one answer is right.
use Rattle.std.proofs.Common.{◌≡◌, ℕ, ◌<◌, [], ◌⊎◌, inl, inr, refl, ap, sym, ◌∙◌}
use Rattle.vlsi_base.specs.declared.fault.ReadError.{ReadError}
use Rattle.vhdl_token.specs.declared.token.Tokens.{Tokens}
use Rattle.grammar_theory.specs.declared.refusal.Refusal.{Refusal}
use Rattle.grammar_theory.specs.Outcome.{start}
use Rattle.grammar_theory.proofs.Unique as unique
use Rattle.vhdl_front.specs.Front.{error_of}
use Rattle.fsm_text.specs.Written.{MachineTree}
use Rattle.fsm_text.specs.Fsm.{fsm}
use Rattle.fsm_text.specs.Texts.{counted_in, PassesBefore, chain_error, IsMachine, RefusedAs, refused, chained}
use Rattle.fsm_text.specs.Laws.{EachMachine, OneMachine, NeverBothMachine, OneRefusedMachine}
use Rattle.fsm_text.proofs.Whole.{one, chained_before}
use Rattle.fsm_text.proofs.Chains.{place_above, decided}

pub one_machine : OneMachine
one_machine tokens a b h g = unique.same_value fsm one (start tokens.items) h.end g.end a b h.read g.read

pub never_both : NeverBothMachine
never_both tokens machine e h (refused r right few is) = unique.never_both fsm one (start tokens.items) h.end machine r h.read right
never_both tokens machine e h (chained left chain before is) = h.few (left, chain, place_above (counted_in tokens chain.front) [] chain.behind.rest left chain.place)

pub one_refusal : OneRefusedMachine
one_refusal tokens d e (refused r right few is) (refused q wrong none same) =
    let at : r ≡ q = unique.same_refusal fsm one (start tokens.items) r q right wrong in
    is ∙ ap (λ (k : Refusal). error_of tokens.last_line tokens.items k) at ∙ sym same
one_refusal tokens d e (refused r right few is) (chained left chain before same) = absurd (few (left, chain, before r right))
one_refusal tokens d e (chained left chain before same) (refused r right few is) = absurd (few (left, chain, before r right))
one_refusal tokens d e (chained left chain before is) (chained other there after same) = is ∙ sym same

-- `decided` says whether an assignment before so many tokens are left is one too many
pub each_machine : EachMachine
each_machine tokens = elim (unique.some_answer fsm one (start tokens.items)) [
  | inl a ↦ elim (decided tokens 0) [
    | inl p ↦ inr (chain_error, chained p.0 p.1 (λ r no. absurd (unique.never_both fsm one (start tokens.items) a.1 a.0 r a.2 no)) refl)
    | inr few ↦ inl (a.0, record { end = a.1; read = a.2; few = few })
  ]
  | inr r ↦ elim (decided tokens r.0.left) [
    | inl p ↦ inr (chain_error, chained_before tokens r.0 r.1 p)
    | inr few ↦ inr (error_of tokens.last_line tokens.items r.0, refused r.0 r.1 few refl)
  ]
]
