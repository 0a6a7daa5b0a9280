use Rattle.std.proofs.Common.{◌≡◌, map, sym, subst, ◌∙◌}
use Rattle.std.proofs.lemmas.Result.{IfOk-weaker}
use Rattle.machine_core.specs.Checked.{IsChecked}
use Rattle.machine_core.specs.View.{equation_view, register_view}
use Rattle.gen_circuit.specs.Generated.{circuit_of, generated}
use Rattle.gen_circuit.proofs.Made.{made_is}
use Rattle.gen_circuit.proofs.making.circuit.Goals as goal

pub circuit_of-requires : goal.circuit_of-requires
circuit_of-requires c =
    subst IsChecked
    (sym (made_is c.args.seed c.args.size (map equation_view c.in_ok-equations.equations.items) (map register_view c.in_ok-registers.registers.items) c.in_ok-equations.ensures
    c.in_ok-registers.ensures))
    (c.circuits_are_checked.ensures c.args.seed c.args.size c.requires.least c.requires.most)

pub returns : goal.returns
returns c =
    let es = map equation_view c.in_ok-equations.equations.items in
    let rs = map register_view c.in_ok-registers.registers.items in
    IfOk-weaker c.circuit_of.result (λ m. m ≡ circuit_of es rs) (λ m. m ≡ generated c.args.seed c.args.size)
    (λ m e. e ∙ made_is c.args.seed c.args.size es rs c.in_ok-equations.ensures c.in_ok-registers.ensures) c.circuit_of.ensures
