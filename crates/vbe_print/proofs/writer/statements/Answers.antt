use Rattle.std.proofs.Common.{◌≡◌, ◌∙◌, ◌++◌, List, map, length, ap}
use Rattle.std.proofs.lemmas.Result.{on_ok_weaker}
use Rattle.machine_core.specs.Machine.{Equation}
use Rattle.machine_core.specs.View.{equation_view}
use Rattle.spell_theory.specs.Layout.{text_of}
use Rattle.vbe_print.specs.Written.{equations_layout, storage_layout, last_layout}
use Rattle.vbe_print.proofs.Naming.{stated_over}
use Rattle.vbe_print.proofs.Texts.{put_two}
use Rattle.vbe_print.proofs.writer.statements.Goals as goal

pub equations-requires-2-clause-over : goal.equations-requires-2-clause-over
equations-requires-2-clause-over c =
    stated_over c.args.machine.now c.as_slice.result.now (length c.args.speller.now.names.now) c.equations.ensures.checked
    (ap (map equation_view) c.as_slice.ensures ∙ c.equations.ensures.value) c.requires.all

pub returns : goal.returns
returns c =
    let m = c.args.machine.now in
    let vars = c.args.speller.now.names.now in
    let names = c.args.names.now in
    let o = c.args.out.now in
    let a = c.equations-2.new.out in
    let z = c.append.new.self in
    let same : map equation_view c.as_slice.result.now ≡ m.equations = ap (map equation_view) c.as_slice.ensures ∙ c.equations.ensures.value in
    let first : a ≡ o ++ text_of (equations_layout vars names m.equations) = c.in_ok-equations.ensures ∙ ap (λ (es : List Equation). o ++ text_of (equations_layout vars names es)) same in
    let stored = storage_layout vars m.clock m.registers in
    on_ok_weaker c.append.result
    (λ e. put_two (equations_layout vars names m.equations) (stored ++ last_layout) o a z first (put_two stored last_layout a c.storage.new.out z c.in_ok-storage.ensures e))
    c.append.ensures.ok
