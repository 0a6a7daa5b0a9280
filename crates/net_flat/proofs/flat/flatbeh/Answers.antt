use Rattle.std.proofs.Common.{◌≡◌, ◌∙◌, List, ap, sym, subst, arith}
use Rattle.vlsi_base.specs.declared.name.Name.{Name}
use Rattle.net_machine.specs.Answers.{IsMachineRefusal}
use Rattle.net_machine.specs.declared.error.NetMachineError.{NetMachineError}
use Rattle.net_machine.specs.declared.error.NetMachineError.TheVariants as error
use Rattle.net_flat.specs.Parts.{registers_of}
use Rattle.net_flat.specs.Renamed.{AreFree, IsRenamed}
use Rattle.net_flat.proofs.Knowing.{never_opaque}
use Rattle.net_flat.proofs.Naming.{are_free}
use Rattle.net_flat.proofs.Flattening.{is_flat}
use Rattle.net_flat.proofs.Texts.{can_be_text}
use Rattle.net_flat.proofs.flat.flatbeh.Goals as goal

pub returns-in-Err-NoBehaviour-clause-refused : goal.returns-in-Err-NoBehaviour-clause-refused
returns-in-Err-NoBehaviour-clause-refused c =
    absurd (never_opaque c.args.netlist.now c.args.library.now _ c.in_ok-names.ensures.plain
    (subst (λ (e : NetMachineError). IsMachineRefusal c.args.netlist.now c.args.library.now e) c.in-Err-NoBehaviour.field-0-is c.in-Err-NoBehaviour.ensures.refused))

pub unreachable-requires : goal.unreachable-requires
unreachable-requires c =
    let told = c.in-Err-TooManyBits.field-0-is in
    let h = subst (λ (e : NetMachineError). IsMachineRefusal c.args.netlist.now c.args.library.now e) told c.in-Err-TooManyBits.ensures.refused in
    let few = c.requires.few c.in_ok-names.ensures.plain in
    let many = h.1.many in
    omega (arith, few, many)

pub named-requires-clause-free : goal.named-requires-clause-free
named-requires-clause-free c =
    subst (λ (ns : List Name). AreFree c.in-Ok.machine ns) (sym (c.deref.ensures.value ∙ c.in_ok-names.ensures.names))
    (are_free c.args.netlist.now c.args.library.now c.in-Ok.machine c.classes.ensures.sound c.requires.condition c.in_ok-names.ensures.plain c.in_ok-names.ensures.apart c.in-Ok.ensures.order)

pub named-requires-clause-few : goal.named-requires-clause-few
named-requires-clause-few c = omega (arith, c.in-Ok.ensures.numbered, c.in-Ok.ensures.few)

pub returns-clause-numbered : goal.returns-clause-numbered
returns-clause-numbered c = omega (arith, c.in_ok-made.ensures.numbered, c.in-Ok.ensures.numbered)

pub returns-clause-machine : goal.returns-clause-machine
returns-clause-machine c = λ table table_is condition.
    is_flat c.settles_once.ensures c.args.netlist.now c.args.library.now table c.in-Ok.machine c.in_ok-made.made c.vars.ensures.checked c.in_ok-names.ensures.plain
    (c.in-Ok.ensures.order table table_is condition)
    (subst (λ (ns : List Name). IsRenamed c.in-Ok.machine ns c.in_ok-made.made) (c.deref.ensures.value ∙ c.in_ok-names.ensures.names) c.in_ok-made.ensures.renamed)

pub returns-clause-text : goal.returns-clause-text
returns-clause-text c =
    let table = c.requires.condition.0 in
    let is = c.in-Ok.ensures.order c.requires.condition.0 c.requires.condition.1 c.requires.condition.2 in
    let flat = returns-clause-machine c c.requires.condition.0 c.requires.condition.1 c.requires.condition.2 in
    can_be_text c.args.netlist.now c.args.library.now c.in_ok-made.made c.in_ok-made.ensures.renamed.checked flat.of_netlist.name flat.of_netlist.ports (λ name. (flat.registers name).0) c.in_ok-names.ensures.apart
