use Rattle.std.proofs.Common.{◌≡◌, ◌==◌, ◌++◌, ◌&&◌, not, map, length, filter}
use Rattle.fsm_machine.specs.MachineOf.{up}
use Rattle.syf_encode.specs.Pieces.{edge}
use Rattle.syf_encode.proofs.edges.neighbours.Given as goal

abbrev pub invariant-loop-target : goal.invariant-loop-target
invariant-loop-target l = l.near.items ≡ filter (λ t. edge (map (λ v. v.items) l.leads) l.state t && not (l.state == t)) (up 0 l.target)

abbrev pub invariant-loop-source : goal.invariant-loop-source
invariant-loop-source l =
    l.near.items
    ≡ filter (λ t. edge (map (λ v. v.items) l.leads) l.state t && not (l.state == t)) (up 0 (length l.leads))
    ++ filter (λ t. edge (map (λ v. v.items) l.leads) t l.state && not (t == l.state)) (up 0 l.source)
