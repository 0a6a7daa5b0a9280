use Rattle.std.proofs.Common.{◌∙◌, List, ap, sym, subst, arith, length}
use Rattle.std.specs.List.{All}
use Rattle.asimut_sim.specs.declared.layout.Load.{Load}
use Rattle.asimut_sim.specs.Flat.{IsLoadBelow, held_after}
use Rattle.asimut_sim.specs.Program.{extent}
use Rattle.asimut_sim.proofs.CycleLemmas.{loads_from, as_many_contents}
use Rattle.asimut_sim.proofs.LoadsLemmas.{loads_weaker}
use Rattle.asimut_sim.proofs.cycle.load.Goals as goal

pub run-requires-clause-program : goal.run-requires-clause-program
run-requires-clause-program c = c.requires.flat.loading

pub run-requires-clause-room : goal.run-requires-clause-room
run-requires-clause-room c = let size = c.requires.bits.size in omega (arith, size)

pub run-requires-clause-constants : goal.run-requires-clause-constants
run-requires-clause-constants c = c.requires.bits.constants

pub load_all-requires-clause-below : goal.load_all-requires-clause-below
load_all-requires-clause-below c =
    let size = c.requires.bits.size in
    let more = c.run.auto.bits in
    let P : List Load → Type 0 = λ x. All (IsLoadBelow (length c.run.new.bits)) x in
    subst P (sym c.deref.ensures.value) (loads_weaker (extent c.args.flat.now.loading) (length c.run.new.bits) c.args.flat.now.loads.items (omega (arith, size, more)) c.requires.flat.loads_within)

pub load_all-requires-clause-lengths : goal.load_all-requires-clause-lengths
load_all-requires-clause-lengths c =
    as_many_contents c.args.flat.now c.requires.flat _ c.run.new.bits c.args.contents.now c.run.ensures.obeys c.requires.held ∙ sym (ap length c.deref.ensures.value)

pub returns-clause-loads : goal.returns-clause-loads
returns-clause-loads c =
    loads_from c.args.flat.now c.requires.flat c.args.bits.now c.run.new.bits c.args.contents.now c.load_all.new.contents c.run.ensures.obeys c.run.ensures.before c.requires.held
    (c.load_all.ensures ∙ ap (λ (x : List Load). held_after c.run.new.bits x c.args.contents.now) c.deref.ensures.value)

pub returns-clause-bits : goal.returns-clause-bits
returns-clause-bits c = record { size = c.run.auto.bits ∙ c.requires.bits.size; constants = c.run.ensures.obeys.constants }
