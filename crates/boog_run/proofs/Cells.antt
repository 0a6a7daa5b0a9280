-- The cells of a right netlist's instances are cells of the library.
use Rattle.std.proofs.Common.{◌≡◌, List, Some, sym, subst, ap, ◌∙◌}
use Rattle.vlsi_base.specs.Member.{In}
use Rattle.machine_core.specs.Machine.{Machine}
use Rattle.cell_model.specs.Cell.{Cell}
use Rattle.cell_model.specs.Library.{Library, cell_of}
use Rattle.cell_model.proofs.Members.{In-map_back}
use Rattle.net_core.specs.Netlist.{Instance, Netlist}
use Rattle.net_meaning.specs.Netlist.{Member}
use Rattle.net_theory.specs.Sources.{Seat}
use Rattle.net_right.specs.View.{member_of}
use Rattle.net_right.specs.Right.{IsRightNetlist}
use Rattle.net_right.proofs.Lists.{in_place}
use Rattle.net_right.proofs.Models.{named_cell}
use Rattle.net_right.proofs.Seen.{right_member}

pub model_cell : (n : Netlist) (l : Library) (m : Machine) → IsRightNetlist n l m → (i : Instance) → In i n.instances → (c : Cell) × In c l.cells × (c.name ≡ i.model)
model_cell n l m right i at =
    let listed = right_member n l m right i (in_place i n.instances at) in
    let p = In-map_back (λ (p : Seat). p.member) (member_of i) right.shows.seats (subst (λ (ms : List Member). In (member_of i) ms) right.shows.instances listed) in
    let seated = right.shows.seated p.0 p.1 in
    let found : cell_of l i.model ≡ Some seated.cell = ap (λ (x : Member). cell_of l x.model) (sym p.2) ∙ seated.found in
    let named = named_cell l.cells i.model seated.cell found in
    (seated.cell, named.0, named.1)
