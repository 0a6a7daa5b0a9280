use Rattle.std.proofs.Common.{◌≡◌, drop}
use Rattle.grammar_theory.specs.Outcome.{start}
use Rattle.vhdl_reader.specs.Place.{place, AreAccepted}
use Rattle.vhdl_reader.proofs.done.read_again.Given as goal

abbrev pub invariant-loop-step : goal.invariant-loop-step
invariant-loop-step l = (place (drop l.step-index l.done) l.cursor ≡ place l.done (start l.tokens)) × AreAccepted (drop l.step-index l.done) l.cursor
