use Rattle.fsm_machine.specs.MachineOf.{code_given}
use Rattle.fsm_machine.specs.Signals.{assigned}
use Rattle.fsm_machine.specs.Statements.{next}
use Rattle.fsm_code.proofs.Targeted.{MadeBelow}
use Rattle.fsm_code.proofs.target.Sought.put_code.Given as goal

-- the bits so far
abbrev pub invariant-loop-k : goal.invariant-loop-k
invariant-loop-k l = MadeBelow (λ k v. assigned (code_given l.codes k (next l.state)) l.path v) l.initial.values l.values l.k
