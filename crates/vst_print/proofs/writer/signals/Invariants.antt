use Rattle.std.proofs.Common.{◌≡◌, ◌++◌, drop, map}
use Rattle.spell_theory.specs.Layout.{text_of}
use Rattle.vst_print.specs.Structure.{signals_layout}
use Rattle.vst_print.proofs.writer.signals.Given as goal

abbrev pub invariant-loop-name : goal.invariant-loop-name
invariant-loop-name l = l.out ++ text_of (signals_layout (map (λ n. n.text) (drop l.name-index l.names))) ≡ l.fn.out ++ text_of (signals_layout (map (λ n. n.text) l.names))
