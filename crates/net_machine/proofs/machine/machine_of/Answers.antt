use Rattle.std.proofs.Common.{◌≡◌, ℕ, List, Option, sym, ap, ◌∙◌, subst, arith}
use Rattle.std.specs.Prelude.{slice_index_or}
use Rattle.vlsi_base.specs.declared.name.Name.{Name}
use Rattle.net_core.specs.declared.frame.Node.{Node}
use Rattle.net_machine.specs.Signals.{signal_ports}
use Rattle.net_machine.specs.Gathered.{KnowsModels, AreBitsOf}
use Rattle.net_machine.proofs.Knowing.{AreNodes, knows_models, has_behaviour, refused}
use Rattle.net_machine.proofs.Made.{Gathered, all_known, system_is, system_few, vars_few, system_falls, system_fits, machine_made, in_order_made}
use Rattle.net_machine.proofs.machine.machine_of.Goals as goal

pub returns-in-Some-clause-refused : goal.returns-in-Some-clause-refused
returns-in-Some-clause-refused c =
    let n = c.args.netlist.now in
    let l = c.args.library.now in
    let are : AreNodes c.args.netlist.now c.nodes-nodes.result.now = record { seen = c.nodes-nodes.ensures.seen; inside = c.nodes-nodes.ensures.known } in
    let knows : KnowsModels c.args.netlist.now c.args.library.now c.in_ok-known.known.items = knows_models n l c.models-models.result.now c.cells.result.now c.in_ok-known.known.items c.in_ok-known.ensures c.models-models.ensures c.cells.ensures.value in
    let models = c.models-models.result.now in
    let named : c.index-models-nodes.result ≡ slice_index_or c.models-models.result.now c.index-nodes-place.result.model c.index-models-nodes.result =
    c.index-models-nodes.is ∙ ap (λ (d : Node). slice_index_or models d.model c.index-models-nodes.result) (sym c.index-nodes-place.is) in
    refused n l c.models-models.result.now c.deref.result.now c.nodes-nodes.result.now c.in-Some.place c.index-nodes-place.result c.in_ok-model.model c.models-models.ensures are
    (subst (KnowsModels n l) (sym c.deref.ensures.value) knows) c.in-Some.ensures.some c.index-nodes-place.is
    (subst (λ (t : List ℕ). t ≡ slice_index_or c.models-models.result.now c.index-nodes-place.result.model t) (sym c.in_ok-model.ensures) named)

pub count_bits-bits-requires : goal.count_bits-bits-requires
count_bits-bits-requires c =
    let n = c.args.netlist.now in
    let l = c.args.library.now in
    let knows : KnowsModels c.args.netlist.now c.args.library.now c.in_ok-known.known.items = knows_models n l c.models-models.result.now c.cells.result.now c.in_ok-known.known.items c.in_ok-known.ensures c.models-models.ensures c.cells.ensures.value in
    all_known n l c.deref-2.result.now c.classes.ensures.sound c.cells.ensures.checked c.requires (subst (KnowsModels n l) (sym c.deref-2.ensures.value) knows)

pub clock_port-requires : goal.clock_port-requires
clock_port-requires c =
    let n = c.args.netlist.now in
    let l = c.args.library.now in
    let knows : KnowsModels c.args.netlist.now c.args.library.now c.in_ok-known.known.items = knows_models n l c.models-models.result.now c.cells.result.now c.in_ok-known.known.items c.in_ok-known.ensures c.models-models.ensures c.cells.ensures.value in
    all_known n l c.deref-3.result.now c.classes.ensures.sound c.cells.ensures.checked c.requires (subst (KnowsModels n l) (sym c.deref-3.ensures.value) knows)

pub returns-then-bits-from-clause-refused : goal.returns-then-bits-from-clause-refused
returns-then-bits-from-clause-refused c =
    let n = c.args.netlist.now in
    let l = c.args.library.now in
    let are : AreNodes c.args.netlist.now c.nodes-nodes.result.now = record { seen = c.nodes-nodes.ensures.seen; inside = c.nodes-nodes.ensures.known } in
    let knows : KnowsModels c.args.netlist.now c.args.library.now c.in_ok-known.known.items = knows_models n l c.models-models.result.now c.cells.result.now c.in_ok-known.known.items c.in_ok-known.ensures c.models-models.ensures c.cells.ensures.value in
    let count = c.count_bits-bits.ensures l (subst (KnowsModels n l) (sym c.deref-2.ensures.value) knows) in (
      has_behaviour n l c.deref.result.now c.nodes-nodes.result.now are (subst (KnowsModels n l) (sym c.deref.ensures.value) knows) c.in_default.ensures.none,
      record { many = omega (arith, count, c.if-bits-from.true, c.from.ensures); reached_is = count },
    )

pub gather-requires-clause-few : goal.gather-requires-clause-few
gather-requires-clause-few c = λ l knows.
    let n = c.args.netlist.now in
    let count = c.count_bits-bits.ensures l (subst (KnowsModels n l) (c.deref-4.ensures.value ∙ sym c.deref-2.ensures.value) knows) in
    omega (arith, count, c.if-bits-from.false, c.from.ensures)

pub gather-requires-clause-known : goal.gather-requires-clause-known
gather-requires-clause-known c =
    let n = c.args.netlist.now in
    let l = c.args.library.now in
    let knows : KnowsModels c.args.netlist.now c.args.library.now c.in_ok-known.known.items = knows_models n l c.models-models.result.now c.cells.result.now c.in_ok-known.known.items c.in_ok-known.ensures c.models-models.ensures c.cells.ensures.value in
    all_known n l c.deref-4.result.now c.classes.ensures.sound c.cells.ensures.checked c.requires (subst (KnowsModels n l) (sym c.deref-4.ensures.value) knows)

gathered : (c : goal.After-system-2-1) → Gathered c.args.netlist.now c.args.library.now c.in_ok-clock.clock c.in_ok-system.system
gathered c =
    let n = c.args.netlist.now in
    let l = c.args.library.now in
    let are : AreNodes c.args.netlist.now c.nodes-nodes.result.now = record { seen = c.nodes-nodes.ensures.seen; inside = c.nodes-nodes.ensures.known } in
    let knows : KnowsModels c.args.netlist.now c.args.library.now c.in_ok-known.known.items = knows_models n l c.models-models.result.now c.cells.result.now c.in_ok-known.known.items c.in_ok-known.ensures c.models-models.ensures c.cells.ensures.value in
    record {
      net = c.classes.ensures.sound;
      checked = c.cells.ensures.checked;
      meets = c.requires;
      known = has_behaviour n l c.deref.result.now c.nodes-nodes.result.now are (subst (KnowsModels n l) (sym c.deref.ensures.value) knows) c.in_default.ensures.none;
      clock_is = c.in_ok-clock.ensures l (subst (KnowsModels n l) (sym c.deref-3.ensures.value) knows);
      bits = subst (λ (o : Option Name). AreBitsOf n l o c.in_ok-system.system) c.as_ref.ensures.value (c.in_ok-system.ensures l (subst (KnowsModels n l) (sym c.deref-4.ensures.value) knows));
    }

pub machine_of_bits-requires-clause-system : goal.machine_of_bits-requires-clause-system
machine_of_bits-requires-clause-system c = system_is c.args.netlist.now c.args.library.now c.in_ok-clock.clock c.in_ok-system.system (gathered c)

pub machine_of_bits-requires-clause-falls : goal.machine_of_bits-requires-clause-falls
machine_of_bits-requires-clause-falls c = system_falls c.args.netlist.now c.args.library.now c.in_ok-clock.clock c.in_ok-system.system (gathered c)

pub machine_of_bits-requires-clause-ports : goal.machine_of_bits-requires-clause-ports
machine_of_bits-requires-clause-ports c =
    system_fits c.args.netlist.now c.args.library.now c.in_ok-clock.clock c.in_ok-system.system (gathered c) c.in_ok-ports.ports (c.in_ok-ports.ensures ∙ ap signal_ports c.ports.ensures)

pub machine_of_bits-requires-clause-few : goal.machine_of_bits-requires-clause-few
machine_of_bits-requires-clause-few c =
    let n = c.args.netlist.now in
    let l = c.args.library.now in
    let knows : KnowsModels c.args.netlist.now c.args.library.now c.in_ok-known.known.items = knows_models n l c.models-models.result.now c.cells.result.now c.in_ok-known.known.items c.in_ok-known.ensures c.models-models.ensures c.cells.ensures.value in
    let count = c.count_bits-bits.ensures l (subst (KnowsModels n l) (sym c.deref-2.ensures.value) knows) in
    system_few n l c.in_ok-clock.clock c.in_ok-system.system (gathered c) (omega (arith, count, c.if-bits-from.false, c.from.ensures))

gathered_last : (c : goal.After-drop-known-2) → Gathered c.args.netlist.now c.args.library.now c.in_ok-clock.clock c.in_ok-system.system
gathered_last c =
    let n = c.args.netlist.now in
    let l = c.args.library.now in
    let are : AreNodes c.args.netlist.now c.nodes-nodes.result.now = record { seen = c.nodes-nodes.ensures.seen; inside = c.nodes-nodes.ensures.known } in
    let knows : KnowsModels c.args.netlist.now c.args.library.now c.in_ok-known.known.items = knows_models n l c.models-models.result.now c.cells.result.now c.in_ok-known.known.items c.in_ok-known.ensures c.models-models.ensures c.cells.ensures.value in
    record {
      net = c.classes.ensures.sound;
      checked = c.cells.ensures.checked;
      meets = c.requires;
      known = has_behaviour n l c.deref.result.now c.nodes-nodes.result.now are (subst (KnowsModels n l) (sym c.deref.ensures.value) knows) c.in_default.ensures.none;
      clock_is = c.in_ok-clock.ensures l (subst (KnowsModels n l) (sym c.deref-3.ensures.value) knows);
      bits = subst (λ (o : Option Name). AreBitsOf n l o c.in_ok-system.system) c.as_ref.ensures.value (c.in_ok-system.ensures l (subst (KnowsModels n l) (sym c.deref-4.ensures.value) knows));
    }

pub returns-clause-machine : goal.returns-clause-machine
returns-clause-machine c =
    machine_made c.args.netlist.now c.args.library.now c.in_ok-clock.clock c.in_ok-system.system (gathered_last c) c.in_ok-name.name c.in_ok-ports.ports c.in_ok-machine.machine (c.in_ok-name.ensures ∙ c.name.ensures)
    (c.in_ok-ports.ensures ∙ ap signal_ports c.ports.ensures) c.in_ok-machine.ensures.machine

pub returns-clause-order : goal.returns-clause-order
returns-clause-order c =
    in_order_made c.args.netlist.now c.args.library.now c.in_ok-clock.clock c.in_ok-system.system (gathered_last c) c.in_ok-name.name c.in_ok-ports.ports c.in_ok-machine.machine (c.in_ok-name.ensures ∙ c.name.ensures)
    (c.in_ok-ports.ensures ∙ ap signal_ports c.ports.ensures) c.in_ok-machine.ensures.machine

pub returns-clause-numbered : goal.returns-clause-numbered
returns-clause-numbered c = vars_few c.args.netlist.now c.args.library.now c.in_ok-clock.clock c.in_ok-system.system (gathered_last c) c.in_ok-machine.machine c.in_ok-machine.ensures.few

pub returns-clause-known : goal.returns-clause-known
returns-clause-known c = (gathered_last c).known

pub returns-clause-few : goal.returns-clause-few
returns-clause-few c =
    let n = c.args.netlist.now in
    let l = c.args.library.now in
    let knows : KnowsModels c.args.netlist.now c.args.library.now c.in_ok-known.known.items = knows_models n l c.models-models.result.now c.cells.result.now c.in_ok-known.known.items c.in_ok-known.ensures c.models-models.ensures c.cells.ensures.value in
    let count = c.count_bits-bits.ensures l (subst (KnowsModels n l) (sym c.deref-2.ensures.value) knows) in
    omega (arith, count, c.if-bits-from.false, c.from.ensures)
