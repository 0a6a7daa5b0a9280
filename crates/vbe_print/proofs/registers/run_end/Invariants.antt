use Rattle.std.proofs.Common.{◌-◌, length}
use Rattle.vst_print.proofs.Runs.{OneText}
use Rattle.vbe_print.proofs.Lines.{ports_of}
use Rattle.vbe_print.proofs.registers.run_end.Given as goal

-- all up to here have the text of the first
abbrev pub invariant-loop-end : goal.invariant-loop-end
invariant-loop-end l = OneText (ports_of l.registers) l.start l.end

abbrev pub decreases-loop-end : goal.decreases-loop-end
decreases-loop-end l = length l.registers - l.end
