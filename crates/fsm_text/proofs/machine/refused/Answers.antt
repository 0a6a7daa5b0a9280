use Rattle.std.proofs.Common.{rules, ◌≡◌, List, sym, subst}
use Rattle.vhdl_token.specs.declared.token.PlacedToken.{PlacedToken}
use Rattle.grammar_theory.specs.declared.refusal.Refusal.{Refusal}
use Rattle.grammar_theory.specs.declared.refusal.Stop.TheVariants as stop
use Rattle.vhdl_front.specs.Front.{Becomes}
use Rattle.fsm_text.specs.Texts.{PassesBefore, IsRefusedMachine, StopsText}
use Rattle.fsm_text.proofs.Whole.{is_refused, chained_before}
use Rattle.fsm_text.proofs.machine.refused.Goals as goal
use Rattle.fsm_text.proofs.machine.refused.Goals.{in-Refused+in_ok-passes_chain+else-branch, in_default}

-- an assignment before what the grammar refuses is one too many
pub returns-then-branch : goal.returns-then-branch
returns-then-branch c =
    let tokens = c.args.tokens.now in
    let is : c.args.stop ≡ stop.Refused c.in-Refused.refusal = search rules in
    let before : PassesBefore tokens c.in-Refused.refusal.left = search rules in
    subst (IsRefusedMachine tokens) (sym c.too_long_chain.ensures) (chained_before tokens c.in-Refused.refusal (subst (StopsText tokens) is c.requires) before)

-- none is, or memory ran out
pub returns : goal.returns
returns c =
    let tokens = c.args.tokens.now in
    let Right : List PlacedToken → Type 0 = λ ts. Becomes tokens.last_line ts c.args.stop c.stop_error.result in
    let becomes : Becomes tokens.last_line tokens.items c.args.stop c.stop_error.result = subst Right c.as_slice.ensures c.stop_error.ensures in
    elim c.match-stop.branch [
      | in-Refused+in_ok-passes_chain+else-branch w ↦
          let is : c.args.stop ≡ stop.Refused w.in-Refused.refusal = search rules in
          let few : PassesBefore tokens w.in-Refused.refusal.left → ⊥ = search rules in
          is_refused tokens c.args.stop c.stop_error.result c.requires
          (λ r at. let same : w.in-Refused.refusal ≡ r = cc in subst (λ (k : Refusal). PassesBefore tokens k.left → ⊥) same few) becomes
      | in_default w ↦
          let is : c.args.stop ≡ stop.Memory = search rules in
          is_refused tokens c.args.stop c.stop_error.result c.requires (λ r at. absurd cc) becomes
    ]
