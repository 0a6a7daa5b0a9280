use Rattle.std.proofs.Common.{◌∙◌}
use Rattle.bit_machine.specs.System.{system_of}
use Rattle.net_flat.proofs.Assembling.{system_is, system_few, vars_few, system_falls, system_fits, renamed_is}
use Rattle.net_flat.proofs.renaming.named.Goals as goal

pub machine_of_bits-requires-clause-system : goal.machine_of_bits-requires-clause-system
machine_of_bits-requires-clause-system c = system_is c.args.machine.now c.args.names.now (system_of c.in_ok-bits.bits) c.name.ensures.checked c.requires.free c.in_ok-bits.ensures

pub machine_of_bits-requires-clause-falls : goal.machine_of_bits-requires-clause-falls
machine_of_bits-requires-clause-falls c = system_falls c.args.machine.now c.args.names.now (system_of c.in_ok-bits.bits) c.name.ensures.checked c.requires.free c.in_ok-bits.ensures

pub machine_of_bits-requires-clause-ports : goal.machine_of_bits-requires-clause-ports
machine_of_bits-requires-clause-ports c =
    system_fits c.args.machine.now c.args.names.now (system_of c.in_ok-bits.bits) c.name.ensures.checked c.requires.free c.in_ok-bits.ensures c.in_ok-ports.ports c.in_ok-clock.clock
    (c.in_ok-ports.ensures ∙ c.as_slice.ensures ∙ c.ports.ensures.value) (c.in_ok-clock.ensures ∙ c.clock.ensures.value)

pub machine_of_bits-requires-clause-few : goal.machine_of_bits-requires-clause-few
machine_of_bits-requires-clause-few c = system_few c.args.machine.now c.args.names.now (system_of c.in_ok-bits.bits) c.name.ensures.checked c.requires.free c.in_ok-bits.ensures c.requires.few

pub returns-clause-renamed : goal.returns-clause-renamed
returns-clause-renamed c =
    renamed_is c.args.machine.now c.args.names.now (system_of c.in_ok-bits.bits) c.name.ensures.checked c.requires.free c.in_ok-bits.ensures c.in_ok-name.name c.in_ok-ports.ports c.in_ok-clock.clock
    c.in_ok-made.made (c.in_ok-name.ensures ∙ c.name.ensures.value) (c.in_ok-ports.ensures ∙ c.as_slice.ensures ∙ c.ports.ensures.value) (c.in_ok-clock.ensures ∙ c.clock.ensures.value) c.in_ok-made.ensures.machine

pub returns-clause-numbered : goal.returns-clause-numbered
returns-clause-numbered c =
    vars_few c.args.machine.now c.args.names.now (system_of c.in_ok-bits.bits) c.name.ensures.checked c.requires.free c.in_ok-bits.ensures c.in_ok-made.made c.in_ok-made.ensures.few
