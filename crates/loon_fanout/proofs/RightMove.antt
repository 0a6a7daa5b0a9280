-- Sinks moved to another class with the same bits, in a netlist that shows nodes.
use Rattle.std.proofs.Common.{◌≡◌, inl, inr, ℕ, ◌-◌, ◌<◌, Bool, true, false, List, [], ◌∷◌, map, Some, None, refl, sym, ◌∙◌, ap, subst, if◌then◌else◌}
use Rattle.std.specs.List.{list_any}
use Rattle.vlsi_base.specs.declared.name.Name.{Name}
use Rattle.vlsi_base.specs.declared.name.Terminal.{Terminal}
use Rattle.vlsi_base.specs.Names.{vdd, vss}
use Rattle.vlsi_base.specs.Member.{In, here, there}
use Rattle.bool_expr.specs.Expression.{val}
use Rattle.machine_core.specs.Machine.{Machine}
use Rattle.machine_core.specs.Named.{is_same_text, is_same_name}
use Rattle.machine_core.proofs.Names.{same_name-itself}
use Rattle.cell_model.specs.Cell.{Function, gate, flip_flop, other, opaque, Cell, cell_inputs, cell_outputs}
use Rattle.cell_model.specs.Library.{Library, cell_of, IsUsable, IsPlain}
use Rattle.cell_model.proofs.Members.{In-map}
use Rattle.cell_model.proofs.Texts.{text_itself}
use Rattle.net_core.specs.Netlist.{Instance}
use Rattle.net_meaning.specs.Netlist.{Member, port, pin_of, IsTerminal, a_port, a_pin}
use Rattle.net_meaning.specs.Agreement.{register_instance}
use Rattle.net_meaning.specs.Well.{Has}
use Rattle.net_theory.specs.Sources.{Source, high, low, ticking, node, Seat, Roots, Sourced, source_of, pin_sources, Plays, IsSeated, Shows}
use Rattle.net_theory.specs.Meaning.{Means}
use Rattle.net_theory.proofs.Seats.{In-two, sits, seat_has, input_terminal, pin_source}
use Rattle.net_right.specs.View.{member_of}
use Rattle.loon_loads.specs.Sinks.{is_clock_of}
use Rattle.loon_fanout.specs.Sinks.{Wired, is_same_owner, is_same_terminal}
use Rattle.loon_fanout.specs.Wired.{with_moved}
use Rattle.loon_fanout.specs.Laws.{as_netlist, sourced, roots_after}
use Rattle.loon_fanout.proofs.Picking.{any_in, in_any, is_false}
use Rattle.loon_fanout.proofs.Terminals.{terminal_same, terminal_itself, owner_same}
use Rattle.loon_fanout.proofs.Splitting.{in_or_out}
use Rattle.loon_fanout.proofs.RightStates.{State, net, IsRegister, register}

-- an input of an instance's cell, and no clock pin
pub record IsSink (l : Library) (w : Wired) (t : Terminal) : Type 0 where
  pub owner : Instance
  pub listed : In owner w.instances
  pub cell : Cell
  pub found : cell_of l owner.model ≡ Some cell
  pub pin : Name
  pub input : In pin (cell_inputs cell)
  pub no_clock : is_clock_of cell.function pin ≡ false
  pub is : t ≡ pin_of owner.name pin

-- ---- what a sink reads

module _ (l : Library) (m : Machine) (w : Wired) (s : State l m w) where
  abbrev here_net : Sourced
  here_net = net l m w s

  -- an instance of the sink's name is its owner
  pub record Owns (i : Member) (d : Cell) (t : Terminal) (x : IsSink l w t) : Type 0 where
    pub usable : IsUsable d
    pub cell : x.cell ≡ d

  pub owns : (i : Member) (d : Cell) → Has (as_netlist w) l i d → (t : Terminal) (x : IsSink l w t) → x.owner.name ≡ i.name → Owns i d t x
  owns i d has t x name =
      let mine = sits here_net l m s.values s.roots s.shows i d has.listed has.found in
      let others = sits here_net l m s.values s.roots s.shows (member_of x.owner) x.cell (In-map member_of x.owner w.instances x.listed) x.found in
      let seats = s.shows.one_name mine.seat others.seat mine.listed others.listed
      (ap (λ (y : Member). y.name) mine.member ∙ sym name ∙ sym (ap (λ (y : Member). y.name) others.member)) in
      let members : i ≡ member_of x.owner = sym mine.member ∙ ap (λ (y : Seat). y.member) seats ∙ others.member in
      let again : cell_of l i.model ≡ Some x.cell = subst (λ (y : Member). cell_of l y.model ≡ Some x.cell) (sym members) x.found in
      let found = has.found in
      record { usable = mine.usable; cell = cc (again, found) }

  -- the only sink of a flip-flop is its data pin
  pub data_pin_of : (c : Cell) (d ck pin : Name) → IsUsable c → c.function ≡ flip_flop d ck → In pin (cell_inputs c) → is_clock_of c.function pin ≡ false → pin ≡ d
  data_pin_of c d ck pin usable is input no_clock =
      let off : is_same_name ck pin ≡ false = subst (λ (u : Function). is_clock_of u pin ≡ false) is no_clock in
      let two : IsPlain c (flip_flop d ck) = subst (λ (u : Function). IsPlain c u) is usable.function in
      elim (In-two d ck pin (cell_inputs c) two.1 two.2 two.3 two.4 input) [
        | inl on_data ↦ on_data
        | inr on_clock ↦ absurd (
            let yes = subst (λ (n : Name). is_same_name ck n ≡ false) on_clock off in
            let itself = same_name-itself ck in
            let no : false ≡ true = sym yes ∙ itself in cc no)
      ]

  pub own_has : (t : Terminal) (x : IsSink l w t) → Has (as_netlist w) l (member_of x.owner) x.cell
  own_has t x = record { listed = In-map member_of x.owner w.instances x.listed; found = x.found }

  pub sink_terminal : (t : Terminal) → IsSink l w t → IsTerminal (as_netlist w) l t
  sink_terminal t x =
      let o = owns (member_of x.owner) x.cell (own_has t x) t x refl in
      subst (λ (y : Terminal). IsTerminal (as_netlist w) l y) (sym x.is) (input_terminal (as_netlist w) l (member_of x.owner) x.cell x.pin (own_has t x) o.usable x.input)

  pub sink_shows : (t : Terminal) → IsSink l w t → (a : ℕ) × (source_of here_net t ≡ node a)
  sink_shows t x =
      let mine = sits here_net l m s.values s.roots s.shows (member_of x.owner) x.cell (In-map member_of x.owner w.instances x.listed) x.found in
      let r = by mine.seat mine.member x.cell.function refl mine.usable mine.plays in
      (r.0, ap (source_of here_net) x.is ∙ r.1) where
        by : (p : Seat) → p.member ≡ member_of x.owner → (u : Function) → x.cell.function ≡ u → IsUsable x.cell → Plays here_net m s.values s.roots p x.cell u
            → (a : ℕ) × (source_of here_net (pin_of x.owner.name x.pin) ≡ node a)
        by p member (gate e) is usable plays =
            let r = pin_source here_net p.member.name (cell_inputs x.cell) plays.leaves x.pin plays.reads x.input in
            (r.0, subst (λ (y : Member). source_of here_net (pin_of y.name x.pin) ≡ node r.0) member r.2)
        by p member (flip_flop d ck) is usable plays =
            let on = data_pin_of x.cell d ck x.pin usable is x.input x.no_clock in (
              s.roots.load plays.number,
              ap (λ (y : Name). source_of here_net (pin_of x.owner.name y)) on
                  ∙ subst (λ (y : Member). source_of here_net (pin_of y.name d) ≡ node (s.roots.load plays.number)) member plays.loads,
            )
        by p member (other machine) is usable plays = absurd plays
        by p member opaque is usable plays = absurd plays

  -- a sink that can read node b in place of its own
  pub record IsMovable (b : ℕ) (t : Terminal) : Type 0 where
    pub sink : IsSink l w t
    pub from : ℕ
    pub shows : source_of here_net t ≡ node from
    pub bits : (i r : List Bool) → s.values i r from ≡ s.values i r b
    pub later : (p : Seat) → In p s.shows.seats → sink.owner.name ≡ p.member.name → s.rank from < s.rank p.node → s.rank b < s.rank p.node

-- ---- the move

module _ (l : Library) (m : Machine) (w : Wired) (s : State l m w) (group : List Terminal) (to b : ℕ) (to_is : w.count - 1 ≡ to) (low_to : to < w.count) (shows_b : s.source to ≡ node b)
    (each : (t : Terminal) → In t group → IsMovable l m w s b t) where
  abbrev old : Sourced
  old = net l m w s

  abbrev after : Wired
  after = with_moved group w

  abbrev there_net : Sourced
  there_net = sourced after s.source s.rank

  abbrev roots_there : Roots
  roots_there = roots_after s.roots group b

  abbrev pub moved : Terminal → Bool
  moved t = list_any (is_same_terminal t) group

  pub movable : (t : Terminal) → moved t ≡ true → IsMovable l m w s b t
  movable t e =
      let u = any_in (is_same_terminal t) group e in
      each t (subst (λ (x : Terminal). In x group) (sym (terminal_same t u.0 u.2)) u.1)

  pub class_after : (t : Terminal) → after.class t ≡ (if moved t then to else w.class t)
  class_after t = ap (λ (x : ℕ). if moved t then x else w.class t) to_is

  pub source_by : (t : Terminal) → source_of there_net t ≡ (if moved t then node b else source_of old t)
  source_by t = ap s.source (class_after t) ∙ by (moved t) where
    by : (e : Bool) → s.source (if e then to else w.class t) ≡ (if e then node b else source_of old t)
    by true = shows_b
    by false = refl

  pub source_kept : (t : Terminal) → moved t ≡ false → source_of there_net t ≡ source_of old t
  source_kept t stays = source_by t ∙ ap (λ (e : Bool). if e then node b else source_of old t) stays

  -- what shows no node keeps its class
  pub not_moved : (t : Terminal) (x : Source) → source_of old t ≡ x → ((y : ℕ) → x ≡ node y → ⊥) → moved t ≡ false
  not_moved t x is apart = is_false (moved t) (λ e. let g = movable t e in absurd (apart g.from (sym is ∙ g.shows)))

  pub no_port : (n : Name) → moved (port n) ≡ false
  no_port n = is_false (moved (port n)) (λ e. let g = movable (port n) e in
      let wrong : None ≡ Some g.sink.owner.name = ap (λ (x : Terminal). x.instance) g.sink.is in absurd (cc wrong))

  pub no_output : (i : Member) (d : Cell) (pin : Name) → Has (as_netlist w) l i d → In pin (cell_outputs d) → moved (pin_of i.name pin) ≡ false
  no_output i d pin has out = is_false (moved (pin_of i.name pin)) (λ e.
      let g = movable (pin_of i.name pin) e in
      let names : Some i.name ≡ Some g.sink.owner.name = ap (λ (x : Terminal). x.instance) g.sink.is in
      let name : i.name ≡ g.sink.owner.name = cc names in
      let o = owns l m w s i d has (pin_of i.name pin) g.sink (sym name) in
      let pins : pin ≡ g.sink.pin = ap (λ (x : Terminal). x.pin) g.sink.is in
      let input = g.sink.input in
      let mine : In pin (cell_inputs g.sink.cell) = subst (λ (n : Name). In n (cell_inputs g.sink.cell)) (sym pins) input in
      in_or_out d pin o.usable (subst (λ (x : Cell). In pin (cell_inputs x)) o.cell mine) out)

  pub choose : (e : Bool) (y : ℕ) (x : Source) → x ≡ node y → (if e then node b else x) ≡ node (if e then b else y)
  choose true y x is = refl
  choose false y x is = is

  pub from_is : (t : Terminal) (y : ℕ) (g : IsMovable l m w s b t) → source_of old t ≡ node y → g.from ≡ y
  from_is t y g is = let nodes : node g.from ≡ node y = sym g.shows ∙ is in cc nodes

  pub leaf_bits : (t : Terminal) (y : ℕ) → source_of old t ≡ node y → (i r : List Bool) → s.values i r (if moved t then b else y) ≡ s.values i r y
  leaf_bits t y is i r = by (moved t) refl where
    by : (e : Bool) → moved t ≡ e → s.values i r (if e then b else y) ≡ s.values i r y
    by true e = let g = movable t e in sym (g.bits i r) ∙ ap (s.values i r) (from_is t y g is)
    by false e = refl

  pub leaf_rank : (p : Seat) → In p s.shows.seats → (pin : Name) (y : ℕ) → source_of old (pin_of p.member.name pin) ≡ node y → s.rank y < s.rank p.node
      → s.rank (if moved (pin_of p.member.name pin) then b else y) < s.rank p.node
  leaf_rank p listed pin y is before = by (moved (pin_of p.member.name pin)) refl where
    by : (e : Bool) → moved (pin_of p.member.name pin) ≡ e → s.rank (if e then b else y) < s.rank p.node
    by true e =
        let g = movable (pin_of p.member.name pin) e in
        let names : Some p.member.name ≡ Some g.sink.owner.name = ap (λ (x : Terminal). x.instance) g.sink.is in
        let name : p.member.name ≡ g.sink.owner.name = cc names in
        g.later p listed (sym name) (subst (λ (x : ℕ). s.rank x < s.rank p.node) (sym (from_is (pin_of p.member.name pin) y g is)) before)
    by false e = before

  abbrev leaves_after : List ℕ → List Name → List ℕ → List ℕ
  leaves_after owner [] leaves = []
  leaves_after owner (p ∷ pins) [] = []
  leaves_after owner (p ∷ pins) (y ∷ leaves) = (if moved (pin_of owner p) then b else y) ∷ leaves_after owner pins leaves

  pub reads_after : (owner : List ℕ) (pins : List Name) (leaves : List ℕ) → pin_sources old owner pins ≡ map node leaves
      → pin_sources there_net owner pins ≡ map node (leaves_after owner pins leaves)
  reads_after owner [] [] same = refl
  reads_after owner [] (y ∷ leaves) same = absurd (cc same)
  reads_after owner (p ∷ pins) [] same = absurd (cc same)
  reads_after owner (p ∷ pins) (y ∷ leaves) same =
      let first : source_of old (pin_of owner p) ≡ node y = cc same in
      let others : pin_sources old owner pins ≡ map node leaves = cc same in
      let z = if moved (pin_of owner p) then b else y in
      let shown_z : source_of there_net (pin_of owner p) ≡ node z = source_by (pin_of owner p) ∙ choose (moved (pin_of owner p)) y (source_of old (pin_of owner p)) first in
      ap (λ (x : Source). x ∷ pin_sources there_net owner pins) shown_z ∙ ap (λ (xs : List Source). node z ∷ xs) (reads_after owner pins leaves others)

  pub bits_after : (owner : List ℕ) (pins : List Name) (leaves : List ℕ) → pin_sources old owner pins ≡ map node leaves
      → (i r : List Bool) → map (s.values i r) (leaves_after owner pins leaves) ≡ map (s.values i r) leaves
  bits_after owner [] [] same i r = refl
  bits_after owner [] (y ∷ leaves) same i r = absurd (cc same)
  bits_after owner (p ∷ pins) [] same i r = absurd (cc same)
  bits_after owner (p ∷ pins) (y ∷ leaves) same i r =
      let first : source_of old (pin_of owner p) ≡ node y = cc same in
      let others : pin_sources old owner pins ≡ map node leaves = cc same in
      ap (λ (x : Bool). x ∷ map (s.values i r) (leaves_after owner pins leaves)) (leaf_bits (pin_of owner p) y first i r)
      ∙ ap (λ (xs : List Bool). s.values i r y ∷ xs) (bits_after owner pins leaves others i r)

  pub ranks_after : (p : Seat) → In p s.shows.seats → (pins : List Name) (leaves : List ℕ) → pin_sources old p.member.name pins ≡ map node leaves
      → ((y : ℕ) → In y leaves → s.rank y < s.rank p.node) → (z : ℕ) → In z (leaves_after p.member.name pins leaves) → s.rank z < s.rank p.node
  ranks_after p listed [] leaves same before z h = elim h [ ]
  ranks_after p listed (pin ∷ pins) [] same before z h = elim h [ ]
  ranks_after p listed (pin ∷ pins) (y ∷ leaves) same before z here =
      let first : source_of old (pin_of p.member.name pin) ≡ node y = cc same in leaf_rank p listed pin y first (before y here)
  ranks_after p listed (pin ∷ pins) (y ∷ leaves) same before z (there h) =
      let others : pin_sources old p.member.name pins ≡ map node leaves = cc same in ranks_after p listed pins leaves others (λ x g. before x (there g)) z h

  pub outputs_kept : (i : Member) (d : Cell) → Has (as_netlist w) l i d → (names : List Name) → ((y : Name) → In y names → In y (cell_outputs d))
      → pin_sources there_net i.name names ≡ pin_sources old i.name names
  outputs_kept i d has [] among = refl
  outputs_kept i d has (p ∷ names) among =
      ap (λ (x : Source). x ∷ pin_sources there_net i.name names) (source_kept (pin_of i.name p) (no_output i d p has (among p here)))
      ∙ ap (λ (xs : List Source). source_of old (pin_of i.name p) ∷ xs) (outputs_kept i d has names (λ y g. among y (there g)))

  -- a register loads the new node exactly where its data pin is moved
  pub any_is : (i : Member) (d : Cell) (data_pin clock_pin : Name) (j : ℕ) → Has (as_netlist w) l i d → d.function ≡ flip_flop data_pin clock_pin → i.name ≡ register_instance j
      → list_any (λ t. is_same_owner t.instance (Some (register_instance j))) group ≡ moved (pin_of i.name data_pin)
  any_is i d data_pin clock_pin j has is number = by (moved (pin_of i.name data_pin)) refl where
    by : (y : Bool) → moved (pin_of i.name data_pin) ≡ y → list_any (λ t. is_same_owner t.instance (Some (register_instance j))) group ≡ y
    by true e =
        let u = any_in (is_same_terminal (pin_of i.name data_pin)) group e in
        let t_is = terminal_same (pin_of i.name data_pin) u.0 u.2 in
        in_any (λ (t : Terminal). is_same_owner t.instance (Some (register_instance j))) group u.0 u.1
        (subst (λ (t : Terminal). is_same_owner t.instance (Some (register_instance j)) ≡ true) t_is
        (subst (λ (n : List ℕ). is_same_text i.name n ≡ true) number (text_itself i.name)))
    by false e = is_false (list_any (λ t. is_same_owner t.instance (Some (register_instance j))) group) (λ any.
        let u = any_in (λ (t : Terminal). is_same_owner t.instance (Some (register_instance j))) group any in
        let g = each u.0 u.1 in
        let own : u.0.instance ≡ Some (register_instance j) = owner_same u.0.instance (Some (register_instance j)) u.2 in
        let names : Some g.sink.owner.name ≡ Some (register_instance j) = ap (λ (t : Terminal). t.instance) (sym g.sink.is) ∙ own in
        let one_name : g.sink.owner.name ≡ register_instance j = cc names in
        let o = owns l m w s i d has u.0 g.sink (one_name ∙ sym number) in
        let function : g.sink.cell.function ≡ flip_flop data_pin clock_pin = ap (λ (y : Cell). y.function) o.cell ∙ is in
        let usable : IsUsable g.sink.cell = subst (λ (y : Cell). IsUsable y) (sym o.cell) o.usable in
        let data_is = data_pin_of l m w s g.sink.cell data_pin clock_pin g.sink.pin usable function g.sink.input g.sink.no_clock in
        let t_is : u.0 ≡ pin_of i.name data_pin = g.sink.is ∙ ap (λ (n : List ℕ). pin_of n g.sink.pin) (one_name ∙ sym number) ∙ ap (pin_of i.name) data_is in
        let hit = in_any (is_same_terminal (pin_of i.name data_pin)) group u.0 u.1 (subst (λ (t : Terminal). is_same_terminal (pin_of i.name data_pin) t ≡ true) (sym t_is) (terminal_itself (pin_of i.name data_pin))) in
        let no : false ≡ true = sym e ∙ hit in absurd (cc no))

  pub plays : (p : Seat) (d : Cell) (u : Function) → In p s.shows.seats → Has (as_netlist w) l p.member d → IsUsable d → d.function ≡ u → IsPlain d u
      → Plays old m s.values s.roots p d u → Plays there_net m s.values roots_there p d u
  plays p d (gate e) g has usable is plain was = record {
    beyond = was.beyond;
    named = was.named;
    leaves = leaves_after p.member.name (cell_inputs d) was.leaves;
    reads = reads_after p.member.name (cell_inputs d) was.leaves was.reads;
    shows = outputs_kept p.member d has (cell_outputs d) (λ y h. h) ∙ was.shows;
    value = λ i r held. was.value i r held ∙ ap (val e) (sym (bits_after p.member.name (cell_inputs d) was.leaves was.reads i r));
    earlier = λ z h. ranks_after p g (cell_inputs d) was.leaves was.reads was.earlier z h;
  }
  plays p d (flip_flop x ck) g has usable is plain was = record {
    number = was.number;
    within = was.within;
    named = was.named;
    place = was.place;
    shows = outputs_kept p.member d has (cell_outputs d) (λ y h. h) ∙ was.shows;
    loads = source_by (pin_of p.member.name x)
        ∙ choose (moved (pin_of p.member.name x)) (s.roots.load was.number) (source_of old (pin_of p.member.name x)) was.loads
        ∙ ap (λ (y : Bool). node (if y then b else s.roots.load was.number)) (sym (any_is p.member d x ck was.number has is was.named));
    clocked = source_kept (pin_of p.member.name ck) (not_moved (pin_of p.member.name ck) ticking was.clocked (λ y e. absurd (cc e))) ∙ was.clocked;
  }
  plays p d (other machine) g has usable is plain was = absurd was
  plays p d opaque g has usable is plain was = absurd was

  pub seated : (p : Seat) → In p s.shows.seats → IsSeated there_net l m s.values roots_there p
  seated p g =
      let t = s.shows.seated p g in
      let has = seat_has old l m s.values s.roots s.shows p g in
      record {
        cell = t.cell;
        found = t.found;
        usable = t.usable;
        on_vdd = source_kept (pin_of p.member.name vdd) (not_moved (pin_of p.member.name vdd) high t.on_vdd (λ y e. absurd (cc e))) ∙ t.on_vdd;
        on_vss = source_kept (pin_of p.member.name vss) (not_moved (pin_of p.member.name vss) low t.on_vss (λ y e. absurd (cc e))) ∙ t.on_vss;
        plays = plays p t.cell t.cell.function g has t.usable refl t.usable.function t.plays;
      }

  pub port_kept : (n : Name) → source_of there_net (port n) ≡ source_of old (port n)
  port_kept n = source_kept (port n) (no_port n)

  pub same_terminal : (t : Terminal) → IsTerminal (as_netlist after) l t → IsTerminal (as_netlist w) l t
  same_terminal t (a_port {name = n} g) = a_port g
  same_terminal t (a_pin {name = n} i d listed found g) = a_pin i d listed found g

  pub numbered : (t : Terminal) → IsTerminal (as_netlist after) l t → after.class t < w.count
  numbered t is = subst (λ (x : ℕ). x < w.count) (sym (class_after t)) (by (moved t)) where
    by : (e : Bool) → (if e then to else w.class t) < w.count
    by true = low_to
    by false = s.shows.numbered t (same_terminal t is)

  abbrev shows_after : Shows there_net l m s.values roots_there
  shows_after = record {
    seats = s.shows.seats;
    instances = s.shows.instances;
    seated = seated;
    one_node = s.shows.one_node;
    one_name = s.shows.one_name;
    all_registers = s.shows.all_registers;
    numbered = numbered;
    one_class = s.shows.one_class;
    origins = s.shows.origins;
    ports = s.shows.ports;
    on_vdd = port_kept vdd ∙ s.shows.on_vdd;
    on_vss = port_kept vss ∙ s.shows.on_vss;
    on_clock = λ n is. port_kept n ∙ s.shows.on_clock n is;
    in_ports = λ i n is. port_kept n ∙ s.shows.in_ports i n is;
    out_ports = λ i n is. port_kept n ∙ s.shows.out_ports i n is;
    no_input = s.shows.no_input;
    different = s.shows.different;
  }

  pub load_bits : (k : ℕ) (r : IsRegister l m w s k) (i t : List Bool) → s.values i t (roots_there.load k) ≡ s.values i t (s.roots.load k)
  load_bits k r i t =
      let has = seat_has old l m s.values s.roots s.shows r.seat r.listed in
      ap (λ (y : Bool). s.values i t (if y then b else s.roots.load k)) (any_is r.seat.member r.cell r.data_pin r.clock_pin k (record { listed = has.listed; found = r.found }) r.is r.named)
      ∙ leaf_bits (pin_of r.seat.member.name r.data_pin) (s.roots.load k) r.loads i t

  pub means_after : Means m s.values roots_there
  means_after = record {
    held_inputs = s.means.held_inputs;
    held_registers = s.means.held_registers;
    shown = s.means.shown;
    loaded = λ i t v settled k within. load_bits k (register l m w s k within) i t ∙ s.means.loaded i t v settled k within;
  }

  -- the netlist with the sinks moved
  abbrev pub moved_state : State l m after
  moved_state = record {
    source = s.source;
    rank = s.rank;
    values = s.values;
    roots = roots_there;
    shows = shows_after;
    means = means_after;
  }
