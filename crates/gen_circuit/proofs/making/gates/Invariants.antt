use Rattle.std.proofs.Common.{◌≡◌, ◌-◌, ◌++◌, map}
use Rattle.rand_core.specs.Steps.{first_words}
use Rattle.rand_pcg.specs.Pcg.{pcg32}
use Rattle.machine_core.specs.View.{equation_view}
use Rattle.gen_circuit.specs.Generated.{gates, words_of}
use Rattle.gen_circuit.proofs.making.gates.Given as goal

-- the gates so far, and behind them those by the generator's next words
abbrev pub invariant-loop-gate : goal.invariant-loop-gate
invariant-loop-gate l = map equation_view l.made.items ++ gates l.gate (first_words pcg32 (l.size - l.gate) l.generator) ≡ gates 0 (words_of l.seed l.size)
