-- The block by numbers of a netlist whose instances stand at given places.
use Rattle.std.proofs.Common.{◌≡◌, ◌≢◌, ℕ, ◌+◌, ◌<◌, ◌≤◌, inr, Bool, List, length, Some, sym, ap, ◌∙◌, subst, arith}
use Rattle.std.specs.Prelude.{slice_get}
use Rattle.vlsi_base.specs.declared.name.Name as name
use Rattle.machine_core.specs.Machine.{names_of}
use Rattle.vlsi_base.specs.Member.{In}
use Rattle.vlsi_base.specs.Names.{vdd, vss}
use Rattle.cell_model.specs.Cell.{pin_ports}
use Rattle.cell_model.specs.Library.{Library, cell_of}
use Rattle.net_meaning.specs.Netlist.{Member, AbstractNetlist, port, pin_of, IsTerminal, a_port, a_pin}
use Rattle.ocp_rows.specs.Placement.{net_count}
use Rattle.block_geom.specs.Block.{Cell, Block, Passes}
use Rattle.net_drawing.specs.Shown.{IsOnNet}
use Rattle.net_drawing.specs.Drawing.{Numbering, HasNumberedNets}
use Rattle.net_drawing.proofs.Coding.{In_get, get_there, name_or, cell_by}
use Rattle.net_drawing.proofs.Cells.{passes}
use Rattle.net_drawing.proofs.Numbers.{signals, cell_or, member_or, member_at, own, pins_at, pin_terminal, pins_before, number_or, number_past, places_apart, IsModel}

-- where instances stand, in columns and rows; which nets have something drawn; and how many rows and columns there are
pub record Places : Type 0 where
  pub column : ℕ → ℕ
  pub row : ℕ → ℕ
  pub many : ℕ → Bool
  pub rows : ℕ
  pub columns : ℕ

abbrev pub block_with : AbstractNetlist → Library → Numbering → List name.Name → Places → Block
block_with n l net ports put = record {
  count = length n.instances;
  cell = λ i. cell_or (cell_of l (member_at n.instances i).model);
  column = put.column;
  row = put.row;
  net = λ i p. number_or (net_count n) (net (n.class (pin_terminal n l i p))) (pins_before l 0 n.instances i + p);
  ports = length ports;
  port_net = λ k. k;
  nets = net_count n;
  many = put.many;
  rows = put.rows;
  columns = put.columns;
}

abbrev pub IsPinAt : AbstractNetlist → (l : Library) → ℕ → ℕ → (one : Member) → IsModel l one → name.Name → Type 0
IsPinAt n l i p one m pin = (slice_get n.instances i ≡ Some one) × (slice_get (names_of (pin_ports m.cell)) p ≡ Some pin)

module _ (n : AbstractNetlist) (l : Library) (net : Numbering) (ports : List name.Name) (put : Places) (ok : HasNumberedNets n l net ports) where
  pub model_of : (one : Member) → In one n.instances → IsModel l one
  model_of one h = let r = ok.models one h in record { cell = r.0; found = r.1; usable = r.2; clean = r.3 }

  -- instance i
  pub member_there : (i : ℕ) → i < length n.instances → (one : Member) × (slice_get n.instances i ≡ Some one) × IsModel l one
  member_there i lt = let r = get_there n.instances i lt in (r.0, r.1, model_of r.0 (In_get n.instances i r.0 r.1))

  pub cell_is : (i : ℕ) (one : Member) (m : IsModel l one) → slice_get n.instances i ≡ Some one → (block_with n l net ports put).cell i ≡ cell_by m.cell
  cell_is i one m e = ap (λ o. cell_or (cell_of l (member_or o).model)) e ∙ ap cell_or m.found

  pub pins_are : (i : ℕ) (one : Member) (m : IsModel l one) → slice_get n.instances i ≡ Some one → pins_at n l i ≡ names_of (pin_ports m.cell)
  pins_are i one m e = ap (λ o. signals (cell_of l (member_or o).model)) e ∙ ap signals m.found

  pub own_is : (i : ℕ) (one : Member) → slice_get n.instances i ≡ Some one → own n i ≡ one.name
  own_is i one e = ap (λ o. (member_or o).name) e

  pub cell_passes : (i : ℕ) → i < length n.instances → Passes ((block_with n l net ports put).cell i)
  cell_passes i lt = let r = member_there i lt in subst Passes (sym (cell_is i r.0 r.2 r.1)) (passes r.2.cell r.2.usable r.2.clean)

  pub pin_is : (i p : ℕ) (one : Member) (m : IsModel l one) (pin : name.Name) → IsPinAt n l i p one m pin → pin_terminal n l i p ≡ pin_of one.name pin
  pin_is i p one m pin h =
      ap (λ v. pin_of v (name_or (slice_get (pins_at n l i) p))) (own_is i one h.0)
      ∙ ap (λ v. pin_of one.name (name_or (slice_get v p))) (pins_are i one m h.0)
      ∙ ap (λ v. pin_of one.name (name_or v)) h.1

  pub net_is : (i p : ℕ) (one : Member) (m : IsModel l one) (pin : name.Name) → IsPinAt n l i p one m pin
      → (block_with n l net ports put).net i p ≡ number_or (net_count n) (net (n.class (pin_of one.name pin))) (pins_before l 0 n.instances i + p)
  net_is i p one m pin h = ap (λ v. number_or (net_count n) (net (n.class v)) (pins_before l 0 n.instances i + p)) (pin_is i p one m pin h)

  pub pin_there : (i p : ℕ) → i < length n.instances → p < ((block_with n l net ports put).cell i).pins → (one : Member) × (m : IsModel l one) × (pin : name.Name) × IsPinAt n l i p one m pin
  pin_there i p hi hp =
      let r = member_there i hi in
      let c : ((block_with n l net ports put).cell i).pins ≡ length (names_of (pin_ports r.2.cell)) = ap (λ (v : Cell). v.pins) (cell_is i r.0 r.2 r.1) in
      let q = get_there (names_of (pin_ports r.2.cell)) p (omega arith) in
      (r.0, r.2, q.0, (r.1, q.1))

  pub pin_listed : (i p : ℕ) (one : Member) (m : IsModel l one) (pin : name.Name) → IsPinAt n l i p one m pin → IsTerminal n l (pin_of one.name pin)
  pin_listed i p one m pin h = a_pin one m.cell (In_get n.instances i one h.0) m.found ((m.usable.connectors pin).1 (inr (inr (In_get (names_of (pin_ports m.cell)) p pin h.1))))

  pub pin_signal : (i p : ℕ) (one : Member) (m : IsModel l one) (pin : name.Name) → IsPinAt n l i p one m pin → (pin ≢ vdd) × (pin ≢ vss)
  pin_signal i p one m pin h = m.clean.signals pin (In_get (names_of (pin_ports m.cell)) p pin h.1)

  pub port_there : (k : ℕ) (m : name.Name) → slice_get ports k ≡ Some m → IsOnNet n l (port m)
  port_there k m e = let i = In_get ports k m e in record { terminal = a_port ((ok.port_names m).0 i).0; free = ok.free m i }

  pub port_below : (k : ℕ) → k < length ports → k < net_count n
  port_below k lt = let r = get_there ports k lt in subst (λ v. v < net_count n) (ok.port_nets k r.0 r.1) (ok.below (port r.0) (port_there k r.0 r.1))

  -- no other pin has the number of a pin that is on no net
  pub past_apart : (i p j q : ℕ) → i < length n.instances → p < ((block_with n l net ports put).cell i).pins → j < length n.instances → q < ((block_with n l net ports put).cell j).pins
      → net_count n ≤ (block_with n l net ports put).net i p → (block_with n l net ports put).net i p ≡ (block_with n l net ports put).net j q → (i ≡ j) × (p ≡ q)
  past_apart i p j q hi hp hj hq past e =
      let a = (number_past (net_count n) (net (n.class (pin_terminal n l i p))) (pins_before l 0 n.instances i + p) past).1 in
      let c = (number_past (net_count n) (net (n.class (pin_terminal n l j q))) (pins_before l 0 n.instances j + q) (subst (λ v. net_count n ≤ v) e past)).1 in
      let f : net_count n + (pins_before l 0 n.instances i + p) ≡ net_count n + (pins_before l 0 n.instances j + q) = sym a ∙ e ∙ c in
      places_apart l n.instances i p j q hi hj hp hq (omega (arith, f))
