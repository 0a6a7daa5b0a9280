use Rattle.std.proofs.Common.{◌≡◌, ◌++◌, map}
use Rattle.machine_core.specs.View.{register_view}
use Rattle.spell_theory.specs.Layout.{text_of}
use Rattle.vbe_print.specs.Written.{blocks_layout}
use Rattle.vbe_print.proofs.Texts.{blocks_left}
use Rattle.vbe_print.proofs.writer.blocks.Given as goal

abbrev pub invariant-loop-number : goal.invariant-loop-number
invariant-loop-number l =
    l.out ++ text_of (blocks_left l.speller.names.now l.clock l.registers l.number) ≡ l.fn.out ++ text_of (blocks_layout l.speller.names.now l.clock 0 (map register_view l.registers))
