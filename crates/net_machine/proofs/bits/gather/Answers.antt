use Rattle.std.proofs.Common.{◌++◌, List, map, ap, ◌∙◌, arith}
use Rattle.std.specs.Option.{option_copied}
use Rattle.std.specs.List.{flat_map}
use Rattle.source_bits.specs.declared.driven.StoredBit.{StoredBit}
use Rattle.source_bits.specs.Driven.{Numbered, stored_view}
use Rattle.net_machine.specs.Bits.{placed_from, placed_stored, placed_driven}
use Rattle.net_machine.proofs.Gathering.{bits_are}
use Rattle.net_machine.proofs.bits.gather.Goals as goal

pub first_base-first-requires : goal.first_base-first-requires
first_base-first-requires c = let few = c.requires.few c.requires.known.library c.requires.known.knows in omega (arith, few)

pub push_instances-requires-clause-few : goal.push_instances-requires-clause-few
push_instances-requires-clause-few c = λ l knows. let few = c.requires.few l knows in omega (arith, few, c.first_base-first.ensures)

pub returns : goal.returns
returns c = λ l knows.
    let n = c.args.netlist.now in
    let first = c.first_base-first.result in
    let end = c.in_ok-end.end in
    bits_are n l (option_copied c.args.clock) _ first end c.first_base-first.ensures (c.in_ok-end.ensures.end l knows) c.in_ok-system-2.ensures
    (c.in_ok-end.ensures.inputs ∙ c.in_ok-system.ensures.inputs)
    (λ class function. c.in_ok-end.ensures.stored l knows class function
    ∙ ap (λ (xs : List StoredBit). map stored_view xs ++ flat_map (placed_stored class) (placed_from l first n.instances)) c.in_ok-system.ensures.stored)
    (λ class function. c.in_ok-end.ensures.driven l knows class function
    ∙ ap (λ (xs : List Numbered). xs ++ flat_map (placed_driven class) (placed_from l first n.instances)) (c.in_ok-system.ensures.driven class function))
