-- A state machine's parts, without where they lie in memory.
use Rattle.std.specs.Prelude.{ℕ, List}
use Rattle.vlsi_base.specs.declared.name.Name.{Name}
use Rattle.vlsi_base.specs.declared.name.Port.{Port}
use Rattle.fsm_machine.specs.Fsm.{Fsm}
use Rattle.fsm_code.specs.declared.statements.Statements.{Statements}
use Rattle.fsm_code.specs.View.{body_view}

abbrev pub fsm_with : List ℕ → List Port → Name → List Name → Statements → Fsm
fsm_with name ports clock states body = record { name = name; ports = ports; clock = clock; states = states; body = body_view body }
