-- A netlist that shows nodes with the meaning of a machine, and what is new to it.
use Rattle.std.proofs.Common.{◌≡◌, ◌≢◌, inl, inr, ℕ, suc, ◌+◌, ◌<◌, ◌≤◌, List, [], ◌∷◌, length, Some, refl, ◌∙◌, ap, subst, arith}
use Rattle.vlsi_base.specs.declared.name.Name.{Name}
use Rattle.vlsi_base.specs.declared.name.Terminal.{Terminal}
use Rattle.vlsi_base.specs.Names.{vdd, vss}
use Rattle.vlsi_base.specs.Member.{In, here, there}
use Rattle.bool_expr.specs.Expression.{Expression}
use Rattle.machine_core.specs.Machine.{Machine, inputs, outputs, names_of}
use Rattle.cell_model.specs.Cell.{Function, gate, flip_flop, other, opaque, Cell, pin_ports, cell_inputs}
use Rattle.cell_model.specs.Library.{Library, cell_of, IsUsable, IsPlain}
use Rattle.net_meaning.specs.Netlist.{port, pin_of, IsTerminal, a_port}
use Rattle.net_meaning.specs.Agreement.{register_instance}
use Rattle.net_theory.specs.Sources.{Source, node, Values, Seat, Roots, Sourced, source_of, Plays, ComesFrom, Shows}
use Rattle.net_theory.specs.Meaning.{Means}
use Rattle.net_theory.proofs.Basics.{at_number, number_in, In-names}
use Rattle.net_theory.proofs.Seats.{seat_has, input_terminal}
use Rattle.loon_fanout.specs.Sinks.{Wired}
use Rattle.loon_fanout.specs.Laws.{as_netlist, sourced}

-- a netlist shows nodes that mean the machine
pub record State (l : Library) (m : Machine) (w : Wired) : Type 0 where
  pub source : ℕ → Source
  pub rank : ℕ → ℕ
  pub values : Values
  pub roots : Roots
  pub shows : Shows (sourced w source rank) l m values roots
  pub means : Means m values roots

-- a gate of one input; its pins are no supplies
pub record IsGateCell (l : Library) (c : Cell) : Type 0 where
  pub found : cell_of l c.name ≡ Some c
  pub usable : IsUsable c
  pub expr : Expression
  pub is_gate : c.function ≡ gate expr
  pub one : length (cell_inputs c) ≡ 1
  pub signals : (name : Name) → In name (names_of (pin_ports c)) → (name ≢ vdd) × (name ≢ vss)

-- a number above all nodes of seats
abbrev pub above_all : ℕ → List Seat → ℕ
above_all least [] = least
above_all least (p ∷ ps) = suc (p.node + above_all least ps)

above_least : (least : ℕ) (ps : List Seat) → least ≤ above_all least ps
above_least least [] = omega arith
above_least least (p ∷ ps) = let h = above_least least ps in omega (arith, h)

above_seat : (least : ℕ) (ps : List Seat) (p : Seat) → In p ps → p.node < above_all least ps
above_seat least [] p h = elim h [ ]
above_seat least (q ∷ ps) p here = omega arith
above_seat least (q ∷ ps) p (there h) = let k = above_seat least ps p h in omega (arith, k)

module _ (l : Library) (m : Machine) (w : Wired) (s : State l m w) where
  abbrev pub net : Sourced
  net = sourced w s.source s.rank

  abbrev pub fresh : ℕ
  fresh = above_all (length (inputs m) + length m.registers) s.shows.seats

  pub fresh_beyond : length (inputs m) + length m.registers ≤ fresh
  fresh_beyond = above_least (length (inputs m) + length m.registers) s.shows.seats

  pub seat_low : (p : Seat) → In p s.shows.seats → p.node < fresh
  seat_low p h = above_seat (length (inputs m) + length m.registers) s.shows.seats p h

  -- what classes show is below the new number
  pub node_low : (c y : ℕ) → c < w.count → s.source c ≡ node y → y < fresh
  node_low c y below is = elim (subst (λ (x : Source). ComesFrom m s.shows.seats x) is (s.shows.origins c below)) [
    | inl low_one ↦ let all = fresh_beyond in omega (arith, all, low_one)
    | inr p ↦ let low_one = seat_low p.0 p.1 in let same = p.2 in omega (arith, low_one, same)
  ]

  pub terminal_low : (t : Terminal) (y : ℕ) → IsTerminal (as_netlist w) l t → source_of net t ≡ node y → y < fresh
  terminal_low t y is shows_y = node_low (w.class t) y (s.shows.numbered t is) shows_y

  -- the register of a number, with its data pin
  pub record IsRegister (k : ℕ) : Type 0 where
    pub seat : Seat
    pub listed : In seat s.shows.seats
    pub cell : Cell
    pub data_pin : Name
    pub clock_pin : Name
    pub found : cell_of l seat.member.model ≡ Some cell
    pub usable : IsUsable cell
    pub is : cell.function ≡ flip_flop data_pin clock_pin
    pub named : seat.member.name ≡ register_instance k
    pub loads : source_of net (pin_of seat.member.name data_pin) ≡ node (s.roots.load k)

  pub register : (k : ℕ) → k < length m.registers → IsRegister k
  register k within = by p.0 p.1 (s.shows.seated p.0 p.1).cell (s.shows.seated p.0 p.1).cell.function (s.shows.seated p.0 p.1).found (s.shows.seated p.0 p.1).usable refl (s.shows.seated p.0 p.1).plays p.2 where
    p : (q : Seat) × In q s.shows.seats × (q.node ≡ length (inputs m) + k)
    p = s.shows.all_registers k within

    by : (q : Seat) → In q s.shows.seats → (c : Cell) (u : Function) → cell_of l q.member.model ≡ Some c → IsUsable c → c.function ≡ u
        → Plays net m s.values s.roots q c u → q.node ≡ length (inputs m) + k → IsRegister k
    by q g c (gate e) found usable is plays at = absurd (let b = plays.beyond in omega (arith, b, at, within))
    by q g c (flip_flop d ck) found usable is plays at =
        let place = plays.place in
        let same : plays.number ≡ k = omega (arith, place, at) in
        record {
          seat = q;
          listed = g;
          cell = c;
          data_pin = d;
          clock_pin = ck;
          found = found;
          usable = usable;
          is = is;
          named = plays.named ∙ ap register_instance same;
          loads = plays.loads ∙ ap (λ (x : ℕ). node (s.roots.load x)) same;
        }
    by q g c (other machine) found usable is plays at = absurd plays
    by q g c opaque found usable is plays at = absurd plays

  pub register_terminal : (k : ℕ) (r : IsRegister k) → IsTerminal (as_netlist w) l (pin_of r.seat.member.name r.data_pin)
  register_terminal k r =
      let plain : IsPlain r.cell (flip_flop r.data_pin r.clock_pin) = subst (λ (u : Function). IsPlain r.cell u) r.is r.usable.function in
      let has = seat_has net l m s.values s.roots s.shows r.seat r.listed in
      input_terminal (as_netlist w) l r.seat.member r.cell r.data_pin (record { listed = has.listed; found = r.found }) r.usable plain.2

  pub load_low : (k : ℕ) → k < length m.registers → s.roots.load k < fresh
  load_low k within =
      let r = register k within in terminal_low (pin_of r.seat.member.name r.data_pin) (s.roots.load k) (register_terminal k r) r.loads

  pub output_low : (k : ℕ) → k < length (outputs m) → s.roots.output k < fresh
  output_low k within =
      let name = at_number (outputs m) k within in
      let is : IsTerminal (as_netlist w) l (port name.0) = a_port ((s.shows.ports name.0).1 (inr (inr (In-names _ m.ports name.0 (number_in (outputs m) k name.0 name.1))))) in
      terminal_low (port name.0) (s.roots.output k) is (s.shows.out_ports k name.0 name.1)
