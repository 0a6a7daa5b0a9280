use Rattle.std.proofs.Common.{◌≡◌, map}
use Rattle.fsm_machine.specs.MachineOf.{up}
use Rattle.fsm_code.specs.View.{body_view}
use Rattle.syf_encode.specs.Pieces.{edge, neighbours_by}
use Rattle.syf_encode.proofs.Neighbours.{Tells}
use Rattle.syf_encode.proofs.edges.all_neighbours.Given as goal

-- the first rows tell which states lead to which
abbrev pub invariant-loop-state : goal.invariant-loop-state
invariant-loop-state l = Tells (body_view l.body) l.count l.state (map (λ v. v.items) l.leads.items)

abbrev pub invariant-loop-state-2 : goal.invariant-loop-state-2
invariant-loop-state-2 l = map (λ v. v.items) l.near.items ≡ map (neighbours_by (edge (map (λ v. v.items) l.leads.items)) l.count) (up 0 l.state)
