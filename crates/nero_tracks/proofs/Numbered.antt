-- The nets of a netlist are numbered as a drawing with tracks asks, and are all classes but the supplies'.
use Rattle.std.proofs.Common.{◌≡◌, ℕ, ◌<◌, ◌≤◌, filter, Some, arith}
use Rattle.std.specs.Prelude.{slice_get, IsTrue, not}
use Rattle.std.proofs.lemmas.List.Kept.{AllPairs-filter}
use Rattle.vlsi_base.specs.declared.name.Name.{Name}
use Rattle.vlsi_base.specs.declared.name.Terminal.{Terminal}
use Rattle.vlsi_base.specs.Names.{comes_before}
use Rattle.vlsi_base.specs.Member.{In}
use Rattle.cell_model.specs.Library.{Library}
use Rattle.cell_pins.proofs.Ports.{in_filter}
use Rattle.net_core.proofs.Frames.{mapped, unmapped}
use Rattle.net_meaning.specs.Netlist.{AbstractNetlist, port}
use Rattle.net_drawing.specs.Shown.{IsSupplyClass, IsOnNet}
use Rattle.net_right.proofs.Lists.{filter_in}
use Rattle.ocp_rows.specs.Placement.{net_count}
use Rattle.net_drawing.proofs.Coding.{In_get}
use Rattle.net_drawing.proofs.Cells.{names_distinct}
use Rattle.ocp_place.specs.Nets.{is_signal, signal_ports, port_classes, driven, is_among, net_classes, net_number}
use Rattle.ocp_place.specs.Orderly.{IsOrderly}
use Rattle.nero_tracks.specs.Law.{NetsAreNumbered, NetsHaveNumbers, NetsAreCounted}
use Rattle.nero_tracks.proofs.Among.{placed, not_placed, one_place, first_at}
use Rattle.nero_tracks.proofs.Drivers.{signal_true, signal_so, listed, port_free, not_net, not_more, not_fewer}

module _ (n : AbstractNetlist) (l : Library) (orderly : IsOrderly n l) where
  below : (t : Terminal) → IsOnNet n l t → net_number n l (n.class t) < net_count n
  below t h =
      let less = (placed (net_classes n l) (n.class t) (listed n l orderly t h)).0 in
      let most = not_more n l orderly in
      omega (arith, less, most)

  past : (class : ℕ) → IsSupplyClass n class → net_count n ≤ net_number n l class
  past class h =
      let e = not_placed (net_classes n l) class (not_net n l orderly class h) in
      let least = not_fewer n l orderly in
      omega (arith, e, least)

  -- the class of port k stands first at place k
  port_net : (k : ℕ) (name : Name) → slice_get (signal_ports n) k ≡ Some name → net_number n l (n.class (port name)) ≡ k
  port_net k name at =
      first_at (port_classes n) (filter (λ class. not (is_among (port_classes n) class)) (driven n l n.instances)) k (n.class (port name))
      (mapped (λ (x : Name). n.class (port x)) (signal_ports n) k name at) none
    where
      there_in : (j : ℕ) (x : Name) → slice_get (signal_ports n) j ≡ Some x → In x n.ports
      there_in j x e = (in_filter is_signal n.ports x (In_get (signal_ports n) j x e)).0

      none : (j : ℕ) → j < k → slice_get (port_classes n) j ≡ Some (n.class (port name)) → ⊥
      none j less e =
          let u = unmapped (λ (x : Name). n.class (port x)) (signal_ports n) j (n.class (port name)) e in
          let same : u.0 ≡ name = orderly.apart u.0 name (there_in j u.0 u.1) (there_in k name at) u.2 in
          let one : j ≡ k = names_distinct (signal_ports n) (AllPairs-filter (λ a b. IsTrue (comes_before a b)) is_signal n.ports orderly.order) j k u.0 name u.1 at same in
          omega (arith, less, one)

pub nets_have_numbers : NetsHaveNumbers
nets_have_numbers n l orderly = record {
  models = orderly.models;
  names = orderly.names;
  order = AllPairs-filter (λ a b. IsTrue (comes_before a b)) is_signal n.ports orderly.order;
  port_names = λ name. (
    λ h. let r = in_filter is_signal n.ports name h in let s = signal_so name r.1 in (r.0, s.0, s.1),
    λ h. filter_in is_signal n.ports name h.0 (signal_true name h.1 h.2),
  );
  has_vdd = orderly.has_vdd;
  has_vss = orderly.has_vss;
  high = orderly.high;
  low = orderly.low;
  free = port_free n l orderly;
  below = below n l orderly;
  past = past n l orderly;
  one_class = λ t u is_t is_u e. one_place (net_classes n l) (n.class t) (n.class u) (listed n l orderly t is_t) (listed n l orderly u is_u) e;
  port_nets = port_net n l orderly;
}

pub nets_are_numbered : NetsAreNumbered
nets_are_numbered n l orderly columns = record { nets = nets_have_numbers n l orderly; columns = columns }

pub nets_are_counted : NetsAreCounted
nets_are_counted n l orderly =
    let most = not_more n l orderly in
    let least = not_fewer n l orderly in
    omega (arith, most, least)
