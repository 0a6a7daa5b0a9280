use Rattle.std.proofs.Common.{◌≡◌, length}
use Rattle.vhdl_reader.specs.Place.{with_left}
use Rattle.vhdl_reader.proofs.done.pass.Given as goal

abbrev pub invariant-loop-cursor : goal.invariant-loop-cursor
invariant-loop-cursor l = with_left l.left l.cursor ≡ with_left l.left l.initial.cursor

abbrev pub decreases-loop-cursor : goal.decreases-loop-cursor
decreases-loop-cursor l = length l.cursor.rest
