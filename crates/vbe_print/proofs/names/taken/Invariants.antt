use Rattle.std.proofs.Common.{◌≡◌, ◌++◌, map, take}
use Rattle.vbe_print.proofs.names.taken.Given as goal

abbrev pub invariant-loop-port : goal.invariant-loop-port
invariant-loop-port l = l.texts.items ≡ map (λ p. p.name.text) (take l.port-index l.ports)

abbrev pub invariant-loop-register : goal.invariant-loop-register
invariant-loop-register l = l.texts.items ≡ map (λ p. p.name.text) l.ports ++ map (λ r. r.name.text) (take l.register-index l.registers)
