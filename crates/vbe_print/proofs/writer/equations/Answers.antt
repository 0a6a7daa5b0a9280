use Rattle.std.proofs.Common.{◌++◌, ◌<◌, map, length, get_or, ap, arith}
use Rattle.machine_core.specs.declared.equation.Equation.{Equation}
use Rattle.machine_core.specs.View.{equation_view}
use Rattle.spell_theory.specs.Layout.{text_of}
use Rattle.vbe_print.specs.Written.{equations_layout}
use Rattle.vbe_print.proofs.Texts.{equations_next}
use Rattle.vbe_print.proofs.writer.equations.Goals as goal

pub loop-place-preserved : goal.loop-place-preserved
loop-place-preserved c =
    let vars = c.args.speller.now.names.now in
    let names = c.args.names.now in
    let es = c.args.equations.now in
    let k = c.loop-place.place in
    let n = c.index-names-place.result in
    let e = get_or es k c.index-equations-place.result in
    let each = c.requires.each in
    let within : k < length es = c.loop-place-test.true in
    equations_next vars names es k n e c.loop-place.out c.equation.new.out (c.args.out.now ++ text_of (equations_layout vars names (map equation_view es)))
    (omega (arith, each, within)) c.index-names-place.is within (ap (λ (x : Equation). get_or es k x) c.index-equations-place.is)
    c.in_ok-equation.ensures c.loop-place.invariant
