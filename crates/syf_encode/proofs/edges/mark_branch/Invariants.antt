use Rattle.std.proofs.Common.{◌≡◌, ℕ}
use Rattle.fsm_machine.specs.Encoding.{branches_lead}
use Rattle.fsm_code.specs.View.{branches_view}
use Rattle.syf_encode.proofs.edges.mark_branch.Given as goal

-- the branches that are left lead to the same states
abbrev pub invariant-loop-rest : goal.invariant-loop-rest
invariant-loop-rest l = record {
  kept : l.marks ≡ l.initial.marks;
  same : (t : ℕ) → branches_lead l.state t (branches_view l.rest) ≡ branches_lead l.state t (branches_view l.branches);
}
