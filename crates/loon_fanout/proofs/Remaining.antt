-- A limited netlist is of usable cells, and no net of it has too many sinks.
use Rattle.std.proofs.Common.{◌≡◌, inl, inr, ℕ, Bool, List, [], map, None, Some, refl, sym, ap, subst}
use Rattle.vlsi_base.specs.declared.name.Name.{Name}
use Rattle.vlsi_base.specs.declared.name.Port.{Port}
use Rattle.vlsi_base.specs.declared.name.Terminal.{Terminal}
use Rattle.vlsi_base.specs.Names.{vdd, vss}
use Rattle.vlsi_base.specs.Member.{In}
use Rattle.machine_core.specs.Machine.{names_of}
use Rattle.cell_model.specs.Cell.{Cell}
use Rattle.cell_model.specs.Library.{Library, cell_of, IsUsable}
use Rattle.cell_model.proofs.Members.{In-split, In-map_back}
use Rattle.cell_checks.specs.Checked.{IsChecked as HasPassed}
use Rattle.cell_pins.specs.Pins.{all_ports}
use Rattle.cell_pins.proofs.Sound.{member_at as in_from_place}
use Rattle.net_core.specs.Places.{IsThere}
use Rattle.net_core.specs.Netlist.{Instance, Netlist as InMemory, IsNetlist, port, terminals}
use Rattle.net_core.proofs.Finishing.{netlist_terminals_once}
use Rattle.net_right.proofs.Lists.{in_place}
use Rattle.net_right.proofs.Places.{Which, which_port, which_pin, which, port_there}
use Rattle.loon_fanout.specs.Sinks.{wired_of}
use Rattle.loon_fanout.specs.Limited.{IsBuffered, HasFanout, IsOfCells}
use Rattle.loon_fanout.specs.Laws.{gate_named}
use Rattle.loon_fanout.specs.Nets.{BufferedRemains, BufferedHasFewInputs}
use Rattle.loon_fanout.proofs.Gating.{has_fanout}
use Rattle.loon_fanout.proofs.Kept.{limited_stays_beside}
use Rattle.loon_fanout.proofs.FewInputs.{right_has_few_inputs}
use Rattle.loon_fanout.proofs.RightStay.{WasLimited, unchanged, by_gates, gate_cell, how, all_instances, ports_same, buffered_stays_right}

-- ---- cells

module _ (tracks : Bool) (n : InMemory) (l : Library) (limit : ℕ) (r : InMemory) (passed : HasPassed tracks l) (is_n : IsNetlist n) (is_r : IsNetlist r) (of_cells : IsOfCells n l)
    (buffered : IsBuffered n l limit r) where
  abbrev IsMadeOf : Instance → Type 0
  IsMadeOf i = (c : Cell) × (cell_of l i.model ≡ Some c) × IsUsable c × (i.pins ≡ names_of (all_ports c))

  new_cell : WasLimited l buffered.repeater buffered.names (wired_of n) buffered.wired → (i : Instance) → In i (map (gate_named buffered.repeater.cell) buffered.names) → IsMadeOf i
  new_cell (unchanged none alike) i h = absurd (nothing (subst (λ (all : List (List ℕ)). In i (map (gate_named buffered.repeater.cell) all)) none h)) where
    nothing : In i [] → ⊥
    nothing g = elim g [ ]
  new_cell (by_gates repeats) i h =
      let b = gate_cell l buffered.repeater.cell buffered.repeater.gates repeats in
      let x = In-map_back (gate_named buffered.repeater.cell) i buffered.names h in
      let it : IsMadeOf (gate_named buffered.repeater.cell x.0) = (buffered.repeater.cell, b.found, b.usable, refl) in
      subst (λ (y : Instance). IsMadeOf y) x.2 it

  found : (i : Instance) → IsThere r.instances i → IsMadeOf i
  found i h =
      let listed = subst (λ (all : List Instance). In i all) (all_instances tracks n l limit r passed is_n is_r of_cells buffered) (in_from_place r.instances h.0 i h.1) in
      elim (In-split i n.instances (map (gate_named buffered.repeater.cell) buffered.names) listed) [
        | inl old ↦ of_cells.found i (in_place i n.instances old)
        | inr new ↦ new_cell (how tracks n l limit r passed is_n is_r of_cells buffered) i new
      ]

  port_kept : (name : Name) → IsThere (terminals n) (port name) → IsThere (terminals r) (port name)
  port_kept name h = by (which n (port name) h) where
    by : Which n (port name) → IsThere (terminals r) (port name)
    by (which_port p g is) =
        subst (λ (t : Terminal). IsThere (terminals r) t) is
        (port_there r p (subst (λ (ps : List Port). IsThere ps p) (sym (ports_same tracks n l limit r passed is_n is_r of_cells buffered)) g))
    by (which_pin i pin g q is) = let wrong : Some i.name ≡ None = ap (λ (t : Terminal). t.instance) is in absurd (cc wrong)

  pub still_of_cells : IsOfCells r l
  still_of_cells = record { found = found; on_vdd = port_kept vdd of_cells.on_vdd; on_vss = port_kept vss of_cells.on_vss }

  pub still_fanout : HasFanout l limit r
  still_fanout =
      let on = still_of_cells in
      let few = (limited_stays_beside l limit buffered.repeater buffered.names (wired_of n) buffered.wired buffered.limited).few in
      has_fanout l limit r buffered.wired buffered.is is_r (netlist_terminals_once r is_r) few
      (in_from_place (terminals r) on.on_vdd.0 (port vdd) on.on_vdd.1) (in_from_place (terminals r) on.on_vss.0 (port vss) on.on_vss.1)

pub buffered_remains : BufferedRemains
buffered_remains tracks n l limit r passed is_n is_r of_cells buffered = (
  still_of_cells tracks n l limit r passed is_n is_r of_cells buffered,
  still_fanout tracks n l limit r passed is_n is_r of_cells buffered,
)

pub buffered_has_few_inputs : BufferedHasFewInputs
buffered_has_few_inputs tracks n l m limit r k passed is_n is_r checked of_cells right buffered seen =
    right_has_few_inputs r l m limit k is_r checked (still_of_cells tracks n l limit r passed is_n is_r of_cells buffered)
    (buffered_stays_right tracks n l limit r passed is_n is_r of_cells buffered m checked right)
    (still_fanout tracks n l limit r passed is_n is_r of_cells buffered) seen
