-- A right netlist whose instances have the pins of their cells meets the condition of the stages behind.
use Rattle.std.proofs.Common.{◌≡◌, ◌⊎◌, inl, inr, ℕ, Bool, List, ◌++◌, map, None, Some, bytes_eq, codes, refl, sym, ◌∙◌, ap, subst}
use Rattle.std.specs.Prelude.{IsTrue}
use Rattle.std.proofs.lemmas.Bool.{or_cases}
use Rattle.vlsi_base.specs.declared.name.Name.{Name}
use Rattle.vlsi_base.specs.declared.name.Port.{Port}
use Rattle.vlsi_base.specs.declared.name.Dir.TheVariants as dir
use Rattle.vlsi_base.specs.declared.name.Terminal.{Terminal}
use Rattle.vlsi_base.specs.Name.{is_supply}
use Rattle.vlsi_base.specs.Names.{vdd, vss}
use Rattle.vlsi_base.specs.Member.{In}
use Rattle.machine_core.specs.Machine.{Machine, names_of}
use Rattle.machine_core.specs.Checked.{IsNoSupply}
use Rattle.net_core.specs.declared.pins.ModelPins.{ModelPins}
use Rattle.net_core.specs.Places.{IsThere}
use Rattle.net_core.specs.Netlist.{Instance, Netlist as InMemory, port, pin_of, terminals, HasClass}
use Rattle.net_core.proofs.Lookups.{same_of}
use Rattle.cell_model.specs.Cell.{pin_ports}
use Rattle.cell_model.specs.Library.{Library}
use Rattle.cell_model.proofs.Members.{In-left, In-map, All-In}
use Rattle.cell_pins.specs.Pins.{supply, all_ports}
use Rattle.cell_pins.proofs.Sound.{member_at as in_from_place}
use Rattle.net_meaning.specs.Netlist.{AbstractNetlist, IsTerminal}
use Rattle.net_theory.proofs.Well.{vdd_port, vss_port, joined}
use Rattle.net_right.specs.Condition.{AreTogether, MeetsCondition}
use Rattle.net_right.specs.Right.{RightMeetsCondition}
use Rattle.net_right.proofs.Lists.{in_place}
use Rattle.net_right.proofs.Ports.{with_both, both_cases, names_to}
use Rattle.net_right.proofs.Places.{Which, which_port, which_pin, which, pin_there}
use Rattle.net_right.proofs.Terminals.{seen_ports, terminal_there, there_terminal}
use Rattle.net_right.proofs.Seen.{right_well, right_celled, seen_class}
use Rattle.net_right.proofs.Filled.{Given, cell_at, fits, seat_at}
use Rattle.net_right.proofs.Soundness.{passes}

module _ (n : InMemory) (l : Library) (m : Machine) (all : Bool) (table : List ModelPins) (given : Given n l m all table) where
  abbrev net : AbstractNetlist
  net = given.right.sourced.netlist

  -- ---- ports of supplies

  no_supply : (p : Port) → In p m.ports → IsTrue (is_supply p.name.text) → ⊥
  no_supply p i h =
      let free : IsNoSupply p.name = All-In IsNoSupply (names_of m.ports ++ m.vars) given.checked.supplies p.name (In-left p.name (names_of m.ports) m.vars (In-map (λ (x : Port). x.name) p m.ports i)) in
      elim (or_cases (bytes_eq p.name.text (codes "vdd")) (bytes_eq p.name.text (codes "vss")) h) [
        | inl is ↦ free.0 (same_of p.name.text (codes "vdd") is)
        | inr is ↦ free.1 (same_of p.name.text (codes "vss") is)
      ]

  supplies : (p : Port) → IsThere n.ports p → IsTrue (is_supply p.name.text) → (p.name.bit ≡ None) × (p.dir ≡ dir.In)
  supplies p t h =
      let i : In p (with_both m.ports) = subst (λ (ps : List Port). In p ps) given.right.ports (in_from_place n.ports t.0 p t.1) in
      elim (both_cases m.ports p i) [
        | inl is ↦ subst (λ (x : Port). (x.name.bit ≡ None) × (x.dir ≡ dir.In)) (sym is) (refl, refl)
        | inr rest ↦ elim rest [
          | inl is ↦ subst (λ (x : Port). (x.name.bit ≡ None) × (x.dir ≡ dir.In)) (sym is) (refl, refl)
          | inr j ↦ absurd (no_supply p j h)
        ]
      ]

  -- ---- pins of supplies

  there_of : (t : Terminal) → IsTerminal net l t → IsThere (terminals n) t
  there_of t h = terminal_there n l net given.right.seen (right_celled n l m given.checked given.right given.pins) t h

  terminal_of : (t : Terminal) → IsThere (terminals n) t → IsTerminal net l t
  terminal_of t h = there_terminal n l net given.right.seen (right_celled n l m given.checked given.right given.pins) t h

  class_of : (t : Terminal) → IsThere (terminals n) t → HasClass n t (net.class t)
  class_of t h = seen_class n net given.netlist given.right.seen t h

  together : (supply : Name) (owner : List ℕ) → IsThere (terminals n) (port supply) → IsThere (terminals n) (pin_of owner supply)
      → net.class (pin_of owner supply) ≡ net.class (port supply) → AreTogether n supply owner
  together supply owner p q same = record {
    class = net.class (port supply);
    of_port = class_of (port supply) p;
    of_pin = subst (λ (c : ℕ). HasClass n (pin_of owner supply) c) same (class_of (pin_of owner supply) q);
  }

  supply_pin : (i : Instance) (supply : Name) → IsThere n.instances i → (supply ≡ vdd) ⊎ (supply ≡ vss) → IsThere (terminals n) (pin_of i.name supply)
  supply_pin i supply t is =
      let c = cell_at n l m all table given i t in
      let listed : In supply (names_of (all_ports c.0)) = names_to (pin_ports c.0) supply (elim is [ inl a ↦ inl a | inr b ↦ inr (inl b) ]) in
      pin_there n i supply t (in_place supply i.pins (subst (λ (ns : List Name). In supply ns) (sym (given.pins i c.0 t c.1)) listed))

  tied : (i : Instance) (supply : Name) → IsThere n.instances i → (supply ≡ vdd) ⊎ (supply ≡ vss) → AreTogether n supply i.name
  tied i supply t (inl is) =
      let c = cell_at n l m all table given i t in
      let s = seat_at n l m all table given i t c.0 c.1 in
      let r = given.right in
      let pin = supply_pin i vdd t (inl refl) in
      let a_vdd = vdd_port r.sourced l m r.values r.roots given.checked r.shows in
      subst (λ (x : Name). AreTogether n x i.name) (sym is)
      (together vdd i.name (there_of (port vdd) a_vdd) pin
      (joined r.sourced l m r.values r.roots given.checked r.shows (pin_of i.name vdd) (port vdd) (terminal_of (pin_of i.name vdd) pin) a_vdd (s.on_vdd ∙ sym r.shows.on_vdd)))
  tied i supply t (inr is) =
      let c = cell_at n l m all table given i t in
      let s = seat_at n l m all table given i t c.0 c.1 in
      let r = given.right in
      let pin = supply_pin i vss t (inr refl) in
      let a_vss = vss_port r.sourced l m r.values r.roots given.checked r.shows in
      subst (λ (x : Name). AreTogether n x i.name) (sym is)
      (together vss i.name (there_of (port vss) a_vss) pin
      (joined r.sourced l m r.values r.roots given.checked r.shows (pin_of i.name vss) (port vss) (terminal_of (pin_of i.name vss) pin) a_vss (s.on_vss ∙ sym r.shows.on_vss)))

  -- ---- ports apart

  port_listed : (a : Name) (k : ℕ) → HasClass n (port a) k → In a net.ports
  port_listed a k h = by (which n (port a) (h.0, h.1)) where
    by : Which n (port a) → In a net.ports
    by (which_port p t e) =
        let named : p.name ≡ a = ap (λ (x : Terminal). x.pin) e in
        let listed : In p.name (map (λ x. x.name) n.ports) = In-map (λ (x : Port). x.name) p n.ports (in_from_place n.ports t.0 p t.1) in
        subst (λ (x : Name). In x net.ports) named (subst (λ (ns : List Name). In p.name ns) (sym (seen_ports n net given.right.seen)) listed)
    by (which_pin i name t q e) = let clash : Some i.name ≡ None = ap (λ (x : Terminal). x.instance) e in absurd cc

  apart : (a b : Name) (k : ℕ) → HasClass n (port a) k → HasClass n (port b) k → a ≡ b
  apart a b k h g =
      let well = right_well n l m given.checked given.right in
      well.apart a b (port_listed a k h) (port_listed b k g) (given.right.seen.classes.each (port a) k h ∙ sym (given.right.seen.classes.each (port b) k g))

  pub meets : MeetsCondition table n
  meets = record {
    fits = fits n l m all table given;
    passes = passes n l m all table given;
    supplies = supplies;
    tied = tied;
    apart = apart;
  }

pub right_meets_condition : RightMeetsCondition
right_meets_condition n l m is checked passed right pins all table is_table is_pin_table =
    meets n l m all table (record { netlist = is; checked = checked; passed = passed; right = right; pins = pins; is_table = is_table; is_pin_table = is_pin_table })
