use Rattle.std.proofs.Common.{◌≡◌, drop, bytes_eq}
use Rattle.std.specs.List.{list_any}
use Rattle.fsm_io.proofs.known.has_name.Given as goal

abbrev pub invariant-loop-name : goal.invariant-loop-name
invariant-loop-name l = list_any (λ n. bytes_eq n.text l.text) (drop l.name-index l.names) ≡ list_any (λ n. bytes_eq n.text l.text) l.names
