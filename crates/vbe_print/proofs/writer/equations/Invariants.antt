use Rattle.std.proofs.Common.{◌≡◌, ◌++◌, map}
use Rattle.machine_core.specs.View.{equation_view}
use Rattle.spell_theory.specs.Layout.{text_of}
use Rattle.vbe_print.specs.Written.{equations_layout}
use Rattle.vbe_print.proofs.Texts.{equations_left}
use Rattle.vbe_print.proofs.writer.equations.Given as goal

abbrev pub invariant-loop-place : goal.invariant-loop-place
invariant-loop-place l =
    l.out ++ text_of (equations_left l.speller.names.now l.names l.equations l.place) ≡ l.fn.out ++ text_of (equations_layout l.speller.names.now l.names (map equation_view l.equations))
