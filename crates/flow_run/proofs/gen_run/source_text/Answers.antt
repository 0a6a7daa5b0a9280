use Rattle.std.proofs.Common.{sym, subst, ap, ◌+◌, ◌<◌, ◌^◌, length, arith, ◌≡◌, ◌∙◌}
use Rattle.std.proofs.lemmas.Result.{IfOk-weaker}
use Rattle.machine_core.specs.Machine.{Machine}
use Rattle.vbe_print.specs.Writable.{CanBeVbe}
use Rattle.gen_circuit.specs.Written.{text}
use Rattle.flow_run.specs.Generated.{circuit_text}
use Rattle.flow_run.proofs.gen_run.source_text.Goals as goal

pub write_vbe_by-requires-clause-names : goal.write_vbe_by-requires-clause-names
write_vbe_by-requires-clause-names c =
    subst CanBeVbe (sym c.in_ok-machine.ensures)
    (c.circuits_can_be_written.ensures c.args.command.now.flow.seed c.args.command.now.size c.requires.least c.requires.most).0

pub write_vbe_by-requires-clause-few : goal.write_vbe_by-requires-clause-few
write_vbe_by-requires-clause-few c =
    let h = c.circuits_are_small.ensures c.args.command.now.flow.seed c.args.command.now.size c.requires.least c.requires.most in
    let most = c.requires.most in
    let ports = h.ports in
    let vars = h.vars in
    subst (λ (m : Machine). length m.vars + length m.ports < 2 ^ 32) (sym c.in_ok-machine.ensures) (omega (arith, most, ports, vars))

pub returns : goal.returns
returns c =
    IfOk-weaker c.write_vbe_by.result (λ bytes. bytes ≡ text c.in_ok-machine.machine) (λ bytes. bytes ≡ circuit_text c.args.command.now)
    (λ bytes e. e ∙ ap text c.in_ok-machine.ensures) c.write_vbe_by.ensures
