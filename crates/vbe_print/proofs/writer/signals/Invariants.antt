use Rattle.std.proofs.Common.{◌≡◌, ◌++◌, drop}
use Rattle.spell_theory.specs.Layout.{text_of}
use Rattle.vst_print.specs.Structure.{signals_layout}
use Rattle.vbe_print.proofs.writer.signals.Given as goal

abbrev pub invariant-loop-text : goal.invariant-loop-text
invariant-loop-text l = l.out ++ text_of (signals_layout (drop l.text-index l.texts)) ≡ l.fn.out ++ text_of (signals_layout l.texts)
