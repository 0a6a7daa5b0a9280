use Rattle.loon_wiring.specs.Repeaters.{buffer}
use Rattle.loon_wiring.proofs.repeater.make_repeater.Goals as goal

pub returns-in_ok-repeater_of-in-Some-clause-found : goal.returns-in_ok-repeater_of-in-Some-clause-found
returns-in_ok-repeater_of-in-Some-clause-found c = record {
  repeater = record { cell = c.in-Some.cell.now; gates = 1 };
  chosen = buffer c.in-Some.ensures.found;
  is = c.in_ok-repeater_of-in-Some.ensures;
}
