use Rattle.std.proofs.Common.{◌≡◌, ◌++◌, drop, map}
use Rattle.spell_theory.specs.Layout.{text_of}
use Rattle.vst_print.specs.Structure.{components_layout}
use Rattle.vst_print.specs.Written.{component_of}
use Rattle.vst_print.proofs.writer.components.Given as goal

abbrev pub invariant-loop-model : goal.invariant-loop-model
invariant-loop-model l = l.out ++ text_of (components_layout (map (component_of l.listed) (drop l.model-index l.models))) ≡ l.fn.out ++ text_of (components_layout (map (component_of l.listed) l.models))
