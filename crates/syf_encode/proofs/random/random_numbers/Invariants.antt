use Rattle.std.proofs.Common.{◌≡◌, ◌-◌, ◌≤◌, length}
use Rattle.rand_core.specs.Steps.{first_words}
use Rattle.rand_pcg.specs.Pcg.{pcg32}
use Rattle.fsm_machine.specs.Encoding.{shuffled}
use Rattle.fsm_machine.specs.MachineOf.{up}
use Rattle.syf_encode.specs.Codes.{words_of}
use Rattle.syf_encode.proofs.random.random_numbers.Given as goal

-- the places from this one down are still to be shuffled, by the generator's next words
abbrev pub invariant-loop-place : goal.invariant-loop-place
invariant-loop-place l = record {
  within : l.place ≤ l.count - 1;
  each : length l.numbers.items ≡ l.count;
  same : shuffled l.place (first_words pcg32 l.place l.generator) l.numbers.items ≡ shuffled (l.count - 1) (words_of l.seed (l.count - 1)) (up 0 l.count);
}

abbrev pub decreases-loop-place : goal.decreases-loop-place
decreases-loop-place l = l.place
