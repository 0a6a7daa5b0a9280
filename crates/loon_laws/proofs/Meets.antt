-- A netlist with buffers and other drives meets what the stages ask.
use Rattle.std.proofs.Common.{◌≡◌, ◌⊎◌, inl, inr, ℕ, false, List, Some, None, refl, sym, ap, ◌∙◌, subst}
use Rattle.vlsi_base.specs.declared.name.Name.{Name}
use Rattle.vlsi_base.specs.declared.name.Port.{Port}
use Rattle.vlsi_base.specs.declared.name.Terminal.{Terminal}
use Rattle.vlsi_base.specs.Names.{vdd, vss}
use Rattle.vlsi_base.specs.Member.{In}
use Rattle.machine_core.specs.Machine.{names_of}
use Rattle.cell_model.specs.Cell.{Cell, pin_ports}
use Rattle.cell_model.specs.Library.{Library}
use Rattle.cell_model.proofs.Members.{In-map}
use Rattle.cell_checks.specs.Checked.{IsChecked as HasPassed}
use Rattle.cell_pins.specs.Pins.{supply as supply_port, all_ports}
use Rattle.cell_pins.specs.Table.{IsTableOf}
use Rattle.cell_pins.proofs.Sound.{member_at}
use Rattle.net_core.specs.declared.pins.ModelPins.{ModelPins}
use Rattle.net_core.specs.Places.{IsThere}
use Rattle.net_core.specs.Netlist.{Instance, Netlist, IsNetlist, port, pin_of, terminals, HasClass}
use Rattle.net_core.specs.Checks.{Fits, Passes}
use Rattle.net_core.proofs.Finishing.{netlist_terminals_once}
use Rattle.net_right.specs.Condition.{AreTogether, MeetsCondition}
use Rattle.net_right.proofs.Lists.{in_place}
use Rattle.net_right.proofs.Places.{Which, which_port, which_pin, which, port_there, pin_there, has_class}
use Rattle.net_right.proofs.Ports.{vdd_there, vss_there}
use Rattle.loon_fanout.specs.Sinks.{Wired, wired_of}
use Rattle.loon_fanout.specs.Limited.{IsOfCells}
use Rattle.loon_fanout.specs.Laws.{BufferedPasses}
use Rattle.loon_fanout.specs.Nets.{BufferedRemains}
use Rattle.loon_fanout.proofs.Terminals.{class_is}
use Rattle.loon_fanout.proofs.RightStay.{new_names}
use Rattle.loon_drive.specs.Driven.{most_sinks, IsDrivenFrom}
use Rattle.loon_drive.specs.Laws.{CellsStay, DrivenIsGrown}
use Rattle.loon_drive.proofs.Fitting.{fits_again}
use Rattle.loon_run.specs.Loon.{bare, driven}
use Rattle.loon_laws.specs.Meets.{DrivenMeetsCondition, MadeMeetsCondition}
use Rattle.loon_laws.proofs.Tied.{AreTied, Keeps, limited_keeps}
use Rattle.loon_laws.proofs.Passes.{IsUsed, has_back, origin, passes_again}

-- what is known of buffers and of exchanges
pub record Known : Type 0 where
  pub passes : BufferedPasses
  pub remains : BufferedRemains
  pub cells : CellsStay
  pub grown : DrivenIsGrown

-- the class of a terminal in memory
class_at : (n : Netlist) → IsNetlist n → (t : Terminal) (k : ℕ) → HasClass n t k → (wired_of n).class t ≡ k
class_at n is t k h = class_is (terminals n) n.classes t h.0 k (netlist_terminals_once n is) h.1 h.2

class_there : (n : Netlist) → IsNetlist n → (t : Terminal) → IsThere (terminals n) t → HasClass n t ((wired_of n).class t)
class_there n is t h = let c = has_class n is t h in subst (λ (k : ℕ). HasClass n t k) (sym (class_at n is t c.0 c.1)) c.1

-- each cell's pins have the supplies
supply_pin : (c : Cell) (supply : Name) → (supply ≡ vdd) ⊎ (supply ≡ vss) → In supply (names_of (all_ports c))
supply_pin c supply (inl e) = subst (λ (s : Name). In s (names_of (all_ports c))) (sym e) (In-map (λ (p : Port). p.name) (supply_port vdd) (all_ports c) (vdd_there (pin_ports c)))
supply_pin c supply (inr e) = subst (λ (s : Name). In s (names_of (all_ports c))) (sym e) (In-map (λ (p : Port). p.name) (supply_port vss) (all_ports c) (vss_there (pin_ports c)))

module _ (known : Known) (n : Netlist) (l : Library) (table : List ModelPins) (fanout : ℕ) (k : Netlist) (delay : ℕ) (passed : HasPassed false l) (of : IsTableOf l false table)
    (is_n : IsNetlist n) (is_k : IsNetlist k) (of_cells : IsOfCells n l) (met : MeetsCondition table n) (d : IsDrivenFrom n l fanout k delay) where
  abbrev r : Netlist
  r = d.buffered

  abbrev wired : Wired
  wired = d.is_buffered.wired

  cells_r : IsOfCells r l
  cells_r = (known.remains false n l (most_sinks fanout) r passed is_n d.sound of_cells d.is_buffered).0

  cells_k : IsOfCells k l
  cells_k = known.cells l r k d.exchanged cells_r

  usable_r : (i : Instance) → IsThere r.instances i → IsUsed l i
  usable_r i h = let c = cells_r.found i h in (c.0, c.1, c.2)

  ports_same : k.ports ≡ n.ports
  ports_same = (known.grown n l fanout k delay d).ports

  -- ---- it fits and passes

  fits_k : Fits k table
  fits_k = fits_again l table of passed k met.fits.table_is cells_k.found

  passes_r : Passes table r
  passes_r = (known.passes false false n l (most_sinks fanout) r table passed is_n d.sound of_cells met.tied of met.fits met.passes d.is_buffered).1

  passes_k : Passes table k
  passes_k = passes_again l false table of r k d.exchanged usable_r passes_r

  -- ---- its classes

  tied_n : AreTied (wired_of n)
  tied_n i supply at which =
      let both = met.tied i supply (in_place i n.instances at) which in
      class_at n is_n (pin_of i.name supply) both.class both.of_pin ∙ sym (class_at n is_n (port supply) both.class both.of_port)

  keeps : Keeps (wired_of n) wired
  keeps = limited_keeps l (most_sinks fanout) d.is_buffered.repeater d.is_buffered.names (wired_of n) wired d.is_buffered.limited tied_n
      (new_names false n l (most_sinks fanout) r passed is_n d.sound of_cells d.is_buffered)

  in_r : (t : Terminal) (c : ℕ) → HasClass k t c → HasClass r t c
  in_r t c h = has_back l false table of r k d.exchanged usable_r t c h

  -- a port of the answer is one of the given netlist
  port_before : (name : Name) → IsThere (terminals k) (port name) → IsThere (terminals n) (port name)
  port_before name h = by (which k (port name) h) where
    by : Which k (port name) → IsThere (terminals n) (port name)
    by (which_port p g is) =
        subst (λ (t : Terminal). IsThere (terminals n) t) is (port_there n p (subst (λ (ps : List Port). IsThere ps p) ports_same g))
    by (which_pin i pin g q is) = let wrong : Some i.name ≡ None = ap (λ (t : Terminal). t.instance) is in absurd (cc wrong)

  apart_k : (a b : Name) (c : ℕ) → HasClass k (port a) c → HasClass k (port b) c → a ≡ b
  apart_k a b c h g =
      let same : (wired_of n).class (port a) ≡ (wired_of n).class (port b) =
      sym (keeps.ports a) ∙ (d.is_buffered.is.classes (port a) (port b) c c (in_r (port a) c h) (in_r (port b) c g)).0 refl ∙ keeps.ports b in
      met.apart a b ((wired_of n).class (port a)) (class_there n is_n (port a) (port_before a (h.0, h.1)))
      (subst (λ (x : ℕ). HasClass n (port b) x) (sym same) (class_there n is_n (port b) (port_before b (g.0, g.1))))

  supply_there : (supply : Name) → (supply ≡ vdd) ⊎ (supply ≡ vss) → IsThere (terminals k) (port supply)
  supply_there supply (inl e) = subst (λ (s : Name). IsThere (terminals k) (port s)) (sym e) cells_k.on_vdd
  supply_there supply (inr e) = subst (λ (s : Name). IsThere (terminals k) (port s)) (sym e) cells_k.on_vss

  tied_k : (i : Instance) (supply : Name) → IsThere k.instances i → (supply ≡ vdd) ⊎ (supply ≡ vss) → AreTogether k supply i.name
  tied_k i supply at side =
      let c = cells_k.found i at in
      let listed = subst (λ (ns : List Name). IsThere ns supply) (sym c.3) (in_place supply (names_of (all_ports c.0)) (supply_pin c.0 supply side)) in
      let on_port = has_class k is_k (port supply) (supply_there supply side) in
      let on_pin = has_class k is_k (pin_of i.name supply) (pin_there k i supply at listed) in
      let o = origin l false table of r k d.exchanged usable_r i at in
      let old = subst (λ (is : List Instance). In o.before is) d.is_buffered.is.instances (member_at r.instances o.there_is.0 o.before o.there_is.1) in
      let wires : wired.class (pin_of i.name supply) ≡ wired.class (port supply) =
      ap (λ (m : List ℕ). wired.class (pin_of m supply)) o.name ∙ keeps.tied o.before supply old side in
      let same : on_pin.0 ≡ on_port.0 =
      (d.is_buffered.is.classes (pin_of i.name supply) (port supply) on_pin.0 on_port.0
      (in_r (pin_of i.name supply) on_pin.0 on_pin.1) (in_r (port supply) on_port.0 on_port.1)).1 wires in
      record { class = on_port.0; of_port = on_port.1; of_pin = subst (λ (x : ℕ). HasClass k (pin_of i.name supply) x) same on_pin.1 }

  pub meets : MeetsCondition table k
  meets = record {
    fits = fits_k;
    passes = passes_k;
    supplies = λ p h. met.supplies p (subst (λ (ps : List Port). IsThere ps p) ports_same h);
    tied = tied_k;
    apart = apart_k;
  }

pub driven_meets : Known → DrivenMeetsCondition
driven_meets known n l table fanout k delay passed of is_n is_k of_cells met d =
    meets known n l table fanout k delay passed of is_n is_k of_cells met d

pub made_meets : Known → MadeMeetsCondition
made_meets known n l table fanout _ _ passed of is_n is_k met (bare none) = met
made_meets known n l table fanout k delay passed of is_n is_k met (driven of_cells d few) =
    meets known n l table fanout k delay passed of is_n is_k of_cells met d

-- ---- what was used on the way

pub cells_after : Known → (n : Netlist) (l : Library) (fanout : ℕ) (k : Netlist) (delay : ℕ) → HasPassed false l → IsNetlist n → IsOfCells n l → IsDrivenFrom n l fanout k delay
    → IsOfCells k l
cells_after known n l fanout k delay passed is_n of_cells d =
    known.cells l d.buffered k d.exchanged (known.remains false n l (most_sinks fanout) d.buffered passed is_n d.sound of_cells d.is_buffered).0

pub ports_after : Known → (n : Netlist) (l : Library) (fanout : ℕ) (k : Netlist) (delay : ℕ) → IsDrivenFrom n l fanout k delay → k.ports ≡ n.ports
ports_after known n l fanout k delay d = (known.grown n l fanout k delay d).ports
