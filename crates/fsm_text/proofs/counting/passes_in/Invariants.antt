use Rattle.std.proofs.Common.{◌≡◌, length, List}
use Rattle.vlsi_base.specs.declared.name.Name.{Name}
use Rattle.fsm_text.specs.Chains.{IsTally}
use Rattle.fsm_text.proofs.Chains.{Counting}
use Rattle.fsm_text.proofs.counting.passes_in.Given as goal

abbrev pub invariant-loop-rest : goal.invariant-loop-rest
invariant-loop-rest l = (l.tally.numbers ≡ l.fn.tally.numbers)
    × ((before : List Name) × IsTally l.tally.numbers l.tally.times.items before × Counting l.tally.numbers l.left before l.rest l.fn.tokens)

abbrev pub decreases-loop-rest : goal.decreases-loop-rest
decreases-loop-rest l = length l.rest
