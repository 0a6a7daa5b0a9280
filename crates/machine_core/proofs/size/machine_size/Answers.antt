use Rattle.std.proofs.Common.{arith, ap, ◌∙◌, map}
use Rattle.machine_core.specs.View.{equation_view, register_view}
use Rattle.machine_core.proofs.WholeSize.{machine_size_is}
use Rattle.machine_core.proofs.size.machine_size.Goals as goal

pub returns : goal.returns
returns c =
    let m = c.args.m.now in
    let es = ap (map equation_view) c.as_slice-2.ensures ∙ c.equations.ensures.value in
    let rs = ap (map register_view) c.as_slice-registers.ensures ∙ c.registers.ensures.value in
    let ps = c.as_slice.ensures ∙ c.ports.ensures.value in
    omega (arith, machine_size_is m _ _ _ es rs ps)
