use Rattle.std.proofs.Common.{◌≡◌, ◌-◌}
use Rattle.std.specs.List.{list_all}
use Rattle.vlsi_base.specs.Range.{rising}
use Rattle.fsm_machine.specs.Assigned.{sure}
use Rattle.fsm_code.specs.View.{body_view}
use Rattle.fsm_io.specs.Assigned.{always}
use Rattle.fsm_io.specs.Pieces.{sets_of}
use Rattle.fsm_io.proofs.assigned.is_always.Given as goal

abbrev pub invariant-loop-state : goal.invariant-loop-state
invariant-loop-state l =
    list_all (λ s. sure (sets_of l.sought) s (body_view l.body)) (rising l.state (l.count - l.state)) ≡ always l.count (sets_of l.sought) (body_view l.body)
