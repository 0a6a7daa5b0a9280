use Rattle.std.proofs.Common.{◌≡◌, List, map, sym, ap, subst, ◌∙◌}
use Rattle.machine_core.specs.Machine.{Equation}
use Rattle.machine_core.specs.View.{equation_view, register_view}
use Rattle.vbe_free.specs.Second.{AreOnes}
use Rattle.vbe_free.proofs.Checks.{parts_checked, parts_machine, parts_free}
use Rattle.vbe_free.proofs.copying.with_equations.Goals as goal

pub new-requires-5 : goal.new-requires-5
new-requires-5 c =
    let low = c.args.low.now in
    let said : AreOnes low c.args.design.now (map equation_view c.new-3.result) =
    subst (λ (l : List Equation). AreOnes low c.args.design.now l) (ap (map equation_view) (sym c.new-3.ensures)) c.requires.ones in
    let regs : map register_view c.new-4.result ≡ low.registers =
    ap (map register_view) c.new-4.ensures ∙ c.in_ok-registers.ensures ∙ ap (map register_view) c.as_slice-3.ensures ∙ c.registers.ensures.value in
    parts_checked low c.args.design.now c.requires.first (map equation_view c.new-3.result) said
    c.in_ok-name.name c.new.result c.in_ok-clock.clock c.new-2.result (map register_view c.new-4.result)
    (c.in_ok-name.ensures ∙ c.name.ensures.value) (c.new.ensures ∙ c.in_ok-ports.ensures ∙ c.as_slice.ensures ∙ c.ports.ensures.value)
    (c.in_ok-clock.ensures ∙ c.clock.ensures.value) (c.new-2.ensures ∙ c.in_ok-vars.ensures ∙ c.as_slice-2.ensures ∙ c.vars.ensures.value) regs

pub returns-clause-machine : goal.returns-clause-machine
returns-clause-machine c =
    let low = c.args.low.now in
    let said : AreOnes low c.args.design.now (map equation_view c.new-3.result) =
    subst (λ (l : List Equation). AreOnes low c.args.design.now l) (ap (map equation_view) (sym c.new-3.ensures)) c.requires.ones in
    let regs : map register_view c.new-4.result ≡ low.registers =
    ap (map register_view) c.new-4.ensures ∙ c.in_ok-registers.ensures ∙ ap (map register_view) c.as_slice-3.ensures ∙ c.registers.ensures.value in
    parts_machine low c.args.design.now c.requires.first (map equation_view c.new-3.result) said
    c.in_ok-name.name c.new.result c.in_ok-clock.clock c.new-2.result (map register_view c.new-4.result)
    (c.in_ok-name.ensures ∙ c.name.ensures.value) (c.new.ensures ∙ c.in_ok-ports.ensures ∙ c.as_slice.ensures ∙ c.ports.ensures.value)
    (c.in_ok-clock.ensures ∙ c.clock.ensures.value) (c.new-2.ensures ∙ c.in_ok-vars.ensures ∙ c.as_slice-2.ensures ∙ c.vars.ensures.value) regs
    c.new-5.result c.new-5.ensures

pub returns-clause-free : goal.returns-clause-free
returns-clause-free c =
    let low = c.args.low.now in
    let said : AreOnes low c.args.design.now (map equation_view c.new-3.result) =
    subst (λ (l : List Equation). AreOnes low c.args.design.now l) (ap (map equation_view) (sym c.new-3.ensures)) c.requires.ones in
    let regs : map register_view c.new-4.result ≡ low.registers =
    ap (map register_view) c.new-4.ensures ∙ c.in_ok-registers.ensures ∙ ap (map register_view) c.as_slice-3.ensures ∙ c.registers.ensures.value in
    parts_free low c.args.design.now c.requires.first (map equation_view c.new-3.result) said
    c.in_ok-name.name c.new.result c.in_ok-clock.clock c.new-2.result (map register_view c.new-4.result)
    (c.in_ok-name.ensures ∙ c.name.ensures.value) (c.new.ensures ∙ c.in_ok-ports.ensures ∙ c.as_slice.ensures ∙ c.ports.ensures.value)
    (c.in_ok-clock.ensures ∙ c.clock.ensures.value) (c.new-2.ensures ∙ c.in_ok-vars.ensures ∙ c.as_slice-2.ensures ∙ c.vars.ensures.value) regs
    c.new-5.result c.new-5.ensures
