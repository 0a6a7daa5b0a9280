-- Right netlists may be drawn.
use Rattle.std.proofs.Common.{◌≡◌, List, map, sym, subst}
use Rattle.vlsi_base.specs.declared.name.Name.{Name}
use Rattle.vlsi_base.specs.declared.name.Port.{Port}
use Rattle.vlsi_base.specs.Names.{vdd, vss}
use Rattle.vlsi_base.specs.Member.{In}
use Rattle.cell_model.proofs.Members.{In-map}
use Rattle.cell_pins.specs.Pins.{supply}
use Rattle.net_core.specs.Places.{IsThere}
use Rattle.net_right.proofs.Lists.{in_place}
use Rattle.net_right.proofs.Meets.{right_meets_condition}
use Rattle.net_right.proofs.Ports.{with_both, vdd_there, vss_there}
use Rattle.net_right.proofs.Seen.{right_cell}
use Rattle.ocp_place.specs.Law.{RightMayBeDrawn}

supply_there : (name : Name) (ps all : List Port) → all ≡ with_both ps → In (supply name) (with_both ps) → IsThere (map (λ p. p.name) all) name
supply_there name ps all same i =
    in_place name (map (λ p. p.name) all) (In-map (λ (p : Port). p.name) (supply name) all (subst (λ (xs : List Port). In (supply name) xs) (sym same) i))

pub right_may_be_drawn : RightMayBeDrawn
right_may_be_drawn l n m all table passed of_library is_table sound checked right pins = record {
  sound = sound;
  all = all;
  table = table;
  listed = of_library;
  meets = right_meets_condition n l m sound checked passed right pins all table of_library is_table;
  usable = λ i h. right_cell n l m checked right i h;
  has_vdd = supply_there vdd m.ports n.ports right.ports (vdd_there m.ports);
  has_vss = supply_there vss m.ports n.ports right.ports (vss_there m.ports);
}
