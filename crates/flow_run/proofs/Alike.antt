-- What is right for a machine is right for one alike.
use Rattle.std.proofs.Common.{◌≡◌, ◌⊎◌, ◌↔◌, ℕ, ◌<◌, Bool, List, ◌++◌, length, map, Option, sym, ap, subst, ◌∙◌}
use Rattle.std.specs.List.{All}
use Rattle.vlsi_base.specs.declared.name.Name.{Name}
use Rattle.vlsi_base.specs.declared.name.Port.{Port}
use Rattle.vlsi_base.specs.declared.name.Terminal.{Terminal}
use Rattle.vlsi_base.specs.Member.{In}
use Rattle.vlsi_base.specs.Names.{vdd, vss}
use Rattle.machine_core.specs.Machine.{Machine, inputs, outputs, names_of}
use Rattle.machine_core.specs.Runs.{Run}
use Rattle.machine_core.specs.Cycles.{AreVectors, RunOf}
use Rattle.machine_core.specs.Order.{IsOrdered}
use Rattle.machine_core.specs.Alike.{IsAlike, AlikeRun, AlikeBothWays}
use Rattle.machine_core.proofs.Runs.{inputs_same, outputs_same, registers_same}
use Rattle.cell_model.specs.Library.{Library}
use Rattle.net_meaning.specs.Netlist.{AbstractNetlist}
use Rattle.net_meaning.specs.Behaviour.{Contents, Valuation, NetSettles, NetTrace, net_next, net_outs}
use Rattle.net_meaning.specs.Agreement.{Agrees, register_instance}
use Rattle.net_meaning.specs.Well.{IsDriver, an_input, an_output, OneDriver, IsSpecial, of_vdd, of_vss, of_clock, IsWell, gate_instance, buffer_instance}
use Rattle.cell_model.specs.Access.{count_to}
use Rattle.ocp_rows.specs.Placement.{Placement}
use Rattle.net_meaning.specs.Order.{IsInNetlistOrder}
use Rattle.ocp_rows.specs.Tracks.{IsTrackRow}
use Rattle.ap_io.specs.declared.figure.Figure.{Figure}
use Rattle.flow_run.specs.Route.{Route, on_tracks, over_rows}
use Rattle.flow_run.specs.GridLayout.{IsLaidBy}
use Rattle.cell_pins.specs.Pins.{with_supply}
use Rattle.loon_fanout.specs.Nets.{HasFewInputs}
use Rattle.flow_netlist.specs.Netlist.{IsDrivenAs}

module _ (n : AbstractNetlist) (l : Library) (m o : Machine) (a : IsAlike m o) where
  driver_to : (t : Terminal) → IsDriver n l o t → IsDriver n l m t
  driver_to t (an_input {name} h) = an_input (subst (λ (names : List Name). In name names) (inputs_same m o a) h)
  driver_to t (an_output i c has is) = an_output i c has is

  driver_from : (t : Terminal) → IsDriver n l m t → IsDriver n l o t
  driver_from t (an_input {name} h) = an_input (subst (λ (names : List Name). In name names) (sym (inputs_same m o a)) h)
  driver_from t (an_output i c has is) = an_output i c has is

  special_to : (t : Terminal) → IsSpecial n o t → IsSpecial n m t
  special_to t (of_vdd e) = of_vdd e
  special_to t (of_vss e) = of_vss e
  special_to t (of_clock name c e) = of_clock name (sym a.clock ∙ c) e

  one_driver : (t : Terminal) → OneDriver n l o t → OneDriver n l m t
  one_driver t d = record {
    driver = d.driver;
    drives = driver_to d.driver d.drives;
    joined = d.joined;
    alone = λ another drives joined. d.alone another (driver_from another drives) joined;
  }

  pub well_alike : IsWell n l o → IsWell n l m
  well_alike w = record {
    models = w.models;
    ports = λ name.
        subst (λ (ports : List Port). In name n.ports ↔ ((name ≡ vdd) ⊎ ((name ≡ vss) ⊎ In name (names_of ports)))) a.ports (w.ports name);
    apart = w.apart;
    high = w.high;
    low = w.low;
    clock = λ name c t is. w.clock name (a.clock ∙ c) t is;
    unclocked = λ none. w.unclocked (a.clock ∙ none);
    drivers = λ t is apart. one_driver t (w.drivers t is (λ s. apart (special_to t s)));
    registers = λ i c has flip. let r = w.registers i c has flip in (r.0, subst (λ (k : ℕ). r.0 < k) (registers_same m o a) r.1, r.2);
    all_registers = λ k less. w.all_registers k (subst (λ (x : ℕ). k < x) (sym (registers_same m o a)) less);
    gates = w.gates;
  }

  -- the netlist runs alike, since it is told the same inputs and the same clock
  abbrev told : List Name → Option Name → Contents → List (List Bool) → List (List Bool) → Type 0
  told names clock t v ws = Run (NetSettles n l names clock) (λ (w : Valuation). w.classes) (net_next n l) t v ws

  trace_to : (t : Contents) (v ws : List (List Bool)) → NetTrace n l o t v ws → NetTrace n l m t v ws
  trace_to t v ws p =
      subst (λ (names : List Name). told names m.clock t v ws) (inputs_same m o a) (subst (λ (clock : Option Name). told (inputs o) clock t v ws) a.clock p)

  trace_from : (t : Contents) (v ws : List (List Bool)) → NetTrace n l m t v ws → NetTrace n l o t v ws
  trace_from t v ws p =
      subst (λ (names : List Name). told names o.clock t v ws) (sym (inputs_same m o a))
      (subst (λ (clock : Option Name). told (inputs m) clock t v ws) (sym a.clock) p)

  vectors : (v : List (List Bool)) → AreVectors m v → AreVectors o v
  vectors v h = subst (λ (names : List Name). All (λ (i : List Bool). length i ≡ length names) v) (sym (inputs_same m o a)) h

  pub agrees_alike : AlikeRun → AlikeBothWays → IsOrdered m → IsOrdered o → Agrees n l o → Agrees n l m
  agrees_alike runs both om oo g = record {
    once = λ t v h.
        let r = g.once t v (vectors v h) in
        (r.0, trace_to t v r.0 r.1, λ others p. r.2 others (trace_from t v others p));
    same = λ s t v ws size matched h p.
        let run = g.same s t v ws (size ∙ sym (registers_same m o a)) matched (vectors v h) (trace_from t v ws p) in
        let outs : map (net_outs n (outputs o)) ws ≡ map (net_outs n (outputs m)) ws = λ j. map (net_outs n (outputs_same m o a j)) ws in
        runs o m s v (map (net_outs n (outputs m)) ws) oo om (both m o a) (size ∙ sym (registers_same m o a)) (vectors v h)
        (subst (λ (y : List (List Bool)). RunOf o s v y) outs run);
  }

  -- the order of its instances is one of registers, of which both have the same number
  pub order_alike : (buffers : ℕ) → IsInNetlistOrder n l o buffers → IsInNetlistOrder n l m buffers
  order_alike buffers q = record {
    gates = q.gates;
    names = q.names
        ∙ ap (λ (k : ℕ). map register_instance (count_to k) ++ (map gate_instance (count_to q.gates) ++ map buffer_instance (count_to buffers))) (registers_same m o a);
    after = q.after;
  }

  -- so one row in this order is such a row for both
  pub row_alike : (p : Placement) (buffers : ℕ) → IsTrackRow n l o p buffers → IsTrackRow n l m p buffers
  row_alike p buffers q = record { tracks = q.tracks; one_row = q.one_row; order = order_alike buffers q.order }

  -- and what is laid out for the one is so for the other
  pub route_alike : (route : Route) (f : Figure) (p : Placement) (buffers : ℕ) → IsLaidBy route f n l o p buffers → IsLaidBy route f n l m p buffers
  route_alike on_tracks f p buffers q = row_alike p buffers q
  route_alike (over_rows asked) f p buffers q = record { order = order_alike buffers q.order; grid = q.grid }

  -- few input pins read each class, since the same classes are left out
  pub inputs_alike : (limit : ℕ) → HasFewInputs n l o limit → HasFewInputs n l m limit
  inputs_alike limit few k pins apart each = few k pins apart (λ t i. let e = each t i in (e.0, e.1, λ s. e.2 (special_to t s)))

  -- and it is driven, by the same ports
  pub driven_alike : (delay : ℕ) → IsDrivenAs n l o delay → IsDrivenAs n l m delay
  driven_alike delay d = record {
    held = d.held;
    sound = d.sound;
    ports = subst (λ (ports : List Port). d.held.ports ≡ with_supply vss (with_supply vdd ports)) a.ports d.ports;
    seen = d.seen;
    pins = d.pins;
    worst = d.worst;
    driven = d.driven;
  }
