-- The terminals of a netlist in memory are those of the netlist that it is seen as.
use Rattle.std.proofs.Common.{◌≡◌, Bool, List, map, All, Some, sym, ◌∙◌, ap, subst}
use Rattle.std.proofs.lemmas.Option.{same_Some}
use Rattle.vlsi_base.specs.declared.name.Name.{Name}
use Rattle.vlsi_base.specs.declared.name.Port.{Port}
use Rattle.vlsi_base.specs.declared.name.Terminal.{Terminal}
use Rattle.vlsi_base.specs.Member.{In}
use Rattle.machine_core.specs.Machine.{names_of}
use Rattle.net_core.specs.declared.pins.ModelPin.{ModelPin}
use Rattle.net_core.specs.declared.pins.ModelPins.{ModelPins}
use Rattle.net_core.specs.Places.{IsThere}
use Rattle.net_core.specs.Netlist.{Instance, Netlist as InMemory, port, pin_of, terminals}
use Rattle.net_core.specs.Checks.{pins_named, Fits}
use Rattle.cell_model.specs.Cell.{Cell, pin_ports}
use Rattle.cell_model.specs.Connectors.{PinsAreConnectors}
use Rattle.cell_model.specs.Library.{Library, cell_of}
use Rattle.cell_model.proofs.Members.{In-map, In-map_back, All-In}
use Rattle.cell_checks.specs.Checked.{IsChecked as HasPassed}
use Rattle.cell_checks.specs.declared.verdict.Check.TheVariants as check
use Rattle.sym_shapes.specs.Shape.{connector_names}
use Rattle.cell_pins.specs.Pins.{all_ports}
use Rattle.cell_pins.specs.Table.{IsListed, IsTableOf}
use Rattle.cell_pins.proofs.Sound.{member_at as in_from_place, pin_names}
use Rattle.net_meaning.specs.Netlist.{Member, AbstractNetlist, IsTerminal, a_port, a_pin}
use Rattle.net_right.specs.View.{member_of, IsSeenAs}
use Rattle.net_right.specs.Laws.{TerminalsAreThere}
use Rattle.net_right.proofs.Lists.{in_place}
use Rattle.net_right.proofs.Ports.{names_to, names_from}
use Rattle.net_right.proofs.Models.{named_cell, model_found, cell_listed}
use Rattle.net_right.proofs.Places.{Which, which_port, which_pin, which, port_there, pin_there}

pub seen_ports : (n : InMemory) (k : AbstractNetlist) → IsSeenAs n k → k.ports ≡ map (λ p. p.name) n.ports
seen_ports n k seen = ap (λ (x : AbstractNetlist). x.ports) seen.is

pub seen_instances : (n : InMemory) (k : AbstractNetlist) → IsSeenAs n k → k.instances ≡ map member_of n.instances
seen_instances n k seen = ap (λ (x : AbstractNetlist). x.instances) seen.is

pub seen_classes : (n : InMemory) (k : AbstractNetlist) → IsSeenAs n k → k.classes ≡ n.count
seen_classes n k seen = ap (λ (x : AbstractNetlist). x.classes) seen.is

-- an instance with its cell, whose pins it has and whose connectors these are
pub record IsCelled (l : Library) (i : Instance) : Type 0 where
  pub cell : Cell
  pub found : cell_of l i.model ≡ Some cell
  pub connected : PinsAreConnectors cell
  pub pins : i.pins ≡ names_of (all_ports cell)

module _ (n : InMemory) (l : Library) (k : AbstractNetlist) (seen : IsSeenAs n k) (celled : (i : Instance) → IsThere n.instances i → IsCelled l i) where
  -- a connector of an instance's cell is a pin of it, and the other way round
  connector_pin : (j : Instance) (t : IsThere n.instances j) (name : Name) → In name (connector_names (celled j t).cell.items) → IsThere (terminals n) (pin_of j.name name)
  connector_pin j t name h =
      let c = celled j t in
      let i : In name (names_of (all_ports c.cell)) = names_to (pin_ports c.cell) name ((c.connected name).0 h) in
      pin_there n j name t (in_place name j.pins (subst (λ (ns : List Name). In name ns) (sym c.pins) i))

  pin_connector : (j : Instance) (t : IsThere n.instances j) (name : Name) → IsThere j.pins name → In name (connector_names (celled j t).cell.items)
  pin_connector j t name h =
      let c = celled j t in
      let i : In name (names_of (all_ports c.cell)) = subst (λ (ns : List Name). In name ns) c.pins (in_from_place j.pins h.0 name h.1) in
      (c.connected name).1 (names_from (pin_ports c.cell) name i)

  pub terminal_there : (t : Terminal) → IsTerminal k l t → IsThere (terminals n) t
  terminal_there t (a_port {name = name} h) =
      let r = In-map_back (λ (p : Port). p.name) name n.ports (subst (λ (ns : List Name). In name ns) (seen_ports n k seen) h) in
      subst (λ (x : Name). IsThere (terminals n) (port x)) r.2 (port_there n r.0 (in_place r.0 n.ports r.1))
  terminal_there t (a_pin {name = name} i c is_listed found h) =
      let r = In-map_back member_of i n.instances (subst (λ (is : List Member). In i is) (seen_instances n k seen) is_listed) in
      let place = in_place r.0 n.instances r.1 in
      let own : cell_of l i.model ≡ Some (celled r.0 place).cell = subst (λ (x : Member). cell_of l x.model ≡ Some (celled r.0 place).cell) r.2 (celled r.0 place).found in
      let same : c ≡ (celled r.0 place).cell = same_Some c (celled r.0 place).cell (sym found ∙ own) in
      let connector : In name (connector_names (celled r.0 place).cell.items) = subst (λ (x : Cell). In name (connector_names x.items)) same h in
      subst (λ (x : Member). IsThere (terminals n) (pin_of x.name name)) r.2 (connector_pin r.0 place name connector)

  pub there_terminal : (t : Terminal) → IsThere (terminals n) t → IsTerminal k l t
  there_terminal t h = by (which n t h) where
    by : Which n t → IsTerminal k l t
    by (which_port p g is) =
        let i : In p.name k.ports = subst (λ (ns : List Name). In p.name ns) (sym (seen_ports n k seen)) (In-map (λ (x : Port). x.name) p n.ports (in_from_place n.ports g.0 p g.1)) in
        subst (λ (x : Terminal). IsTerminal k l x) is (a_port i)
    by (which_pin i name g q is) =
        let m : In (member_of i) k.instances = subst (λ (ms : List Member). In (member_of i) ms) (sym (seen_instances n k seen)) (In-map member_of i n.instances (in_from_place n.instances g.0 i g.1)) in
        subst (λ (x : Terminal). IsTerminal k l x) is (a_pin (member_of i) (celled i g).cell m (celled i g).found (pin_connector i g name q))

-- the instances of a netlist that fits the table of a checked library
fitted : (n : InMemory) (l : Library) (tracks all : Bool) (table : List ModelPins) → Fits n table → IsTableOf l all table → HasPassed tracks l → (i : Instance) → IsThere n.instances i → IsCelled l i
fitted n l tracks all table fits is_table passed i t =
    let i_in = in_from_place n.instances t.0 i t.1 in
    let known : IsThere (map (λ m. m.model) table) i.model = All-In (λ (x : Instance). IsThere (map (λ m. m.model) table) x.model) n.instances fits.listed i i_in in
    let c = cell_listed (IsListed all) l.cells table i.model passed.names is_table known in
    let m = model_found (IsListed all) l.cells table c.0 i.model is_table c.1 c.2 in
    let pins : i.pins ≡ map (λ p. p.name) (pins_named table i.model) = All-In (λ (x : Instance). x.pins ≡ map (λ p. p.name) (pins_named table x.model)) n.instances fits.pins i i_in in
    let connected : All PinsAreConnectors l.cells = λ k d low. (passed.passes k d low).0 check.Connectors in
    record {
      cell = c.0;
      found = c.1;
      connected = All-In PinsAreConnectors l.cells connected c.0 (named_cell l.cells i.model c.0 c.1).0;
      pins = pins ∙ ap (map (λ (p : ModelPin). p.name)) m.pins ∙ pin_names c.0.function (all_ports c.0) (all_ports c.0) m.found.pins m.is.pins;
    }

pub terminals_are_there : TerminalsAreThere
terminals_are_there n l tracks all table k fits is_table passed seen t = (
  terminal_there n l k seen (fitted n l tracks all table fits is_table passed) t,
  there_terminal n l k seen (fitted n l tracks all table fits is_table passed) t,
)
