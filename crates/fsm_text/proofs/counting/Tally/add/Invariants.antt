use Rattle.std.proofs.Common.{◌≡◌, List}
use Rattle.vlsi_base.specs.declared.name.Name.{Name}
use Rattle.source_checks.specs.Drivers.{target_names}
use Rattle.fsm_text.specs.Chains.{IsTally}
use Rattle.fsm_text.proofs.Tally.{Taking}
use Rattle.fsm_text.proofs.counting.Tally.add.Given as goal

abbrev pub invariant-loop-number : goal.invariant-loop-number
invariant-loop-number l = record {
  numbers : l.self.numbers ≡ l.fn.self.numbers;
  counted : (before : List Name) → IsTally l.fn.self.numbers l.fn.self.times.items before
      → Taking l.fn.self.numbers before (target_names l.fn.self.numbers l.fn.target) l.number-index l.self.times.items;
}
