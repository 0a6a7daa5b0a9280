-- Where the terminals of a netlist that shows nodes get their sources from.
use Rattle.std.proofs.Common.{◌≡◌, ◌≢◌, ◌⊎◌, inl, inr, ℕ, ◌≤◌, List, [], ◌∷◌, length, map, Some, refl, sym, subst, arith}
use Rattle.vlsi_base.specs.declared.name.Name.{Name}
use Rattle.vlsi_base.specs.declared.name.Terminal.{Terminal}
use Rattle.machine_core.specs.Machine.{Machine, inputs, outputs, names_of}
use Rattle.vlsi_base.specs.Member.{In, here, there}
use Rattle.cell_model.specs.Cell.{Function, gate, flip_flop, other, opaque, Cell, pin_ports, cell_inputs, cell_outputs}
use Rattle.cell_model.specs.Library.{Library, cell_of, IsUsable, IsPlain}
use Rattle.net_meaning.specs.Netlist.{Member, AbstractNetlist, port, pin_of, IsTerminal, a_port, a_pin}
use Rattle.vlsi_base.specs.Names.{vdd, vss}
use Rattle.net_meaning.specs.Well.{Has, IsClockPin, a_clock_pin}
use Rattle.net_theory.specs.Sources.{Source, high, low, ticking, node, Values, Seat, Roots, Sourced, source_of, pin_sources, Plays, Shows}
use Rattle.net_theory.proofs.Basics.{number_of, In-map, In-map_back, In-ports, In-names, In-pins}

-- an element of a mapped list of one
pub only : {A B : Type 0} (f : A → B) (xs : List A) (b : B) → map f xs ≡ b ∷ [] → (x : A) × (xs ≡ x ∷ []) × (f x ≡ b)
only f [] b h = absurd (cc h)
only f (x ∷ []) b h = (x, refl, cc h)
only f (x ∷ y ∷ xs) b h = absurd (cc h)

In-one : {A : Type 0} (x y : A) → In y (x ∷ []) → y ≡ x
In-one x y here = refl
In-one x y (there k) = elim k [ ]

pub In-only : {A : Type 0} (x y : A) (xs : List A) → xs ≡ x ∷ [] → In y xs → y ≡ x
In-only {A} x y xs h g = In-one x y (subst (λ (all : List A). In y all) h g)

-- of a list of two, which holds two different ones, each is one of these
pub In-two : {A : Type 0} (a b x : A) (xs : List A) → length xs ≡ 2 → In a xs → In b xs → a ≢ b → In x xs → (x ≡ a) ⊎ (x ≡ b)
In-two a b x [] size p q apart h = elim h [ ]
In-two a b x (y ∷ []) size p q apart h = absurd (omega (arith, size))
In-two a b x (y ∷ z ∷ w ∷ xs) size p q apart h = absurd (omega (arith, size))
In-two a b x (y ∷ z ∷ []) size here here apart h = absurd (apart refl)
In-two a b x (y ∷ z ∷ []) size here (there here) apart here = inl refl
In-two a b x (y ∷ z ∷ []) size here (there here) apart (there here) = inr refl
In-two a b x (y ∷ z ∷ []) size here (there here) apart (there (there h)) = elim h [ ]
In-two a b x (y ∷ z ∷ []) size here (there (there q)) apart h = elim q [ ]
In-two a b x (y ∷ z ∷ []) size (there here) here apart here = inr refl
In-two a b x (y ∷ z ∷ []) size (there here) here apart (there here) = inl refl
In-two a b x (y ∷ z ∷ []) size (there here) here apart (there (there h)) = elim h [ ]
In-two a b x (y ∷ z ∷ []) size (there here) (there here) apart h = absurd (apart refl)
In-two a b x (y ∷ z ∷ []) size (there here) (there (there q)) apart h = elim q [ ]
In-two a b x (y ∷ z ∷ []) size (there (there p)) q apart h = elim p [ ]

-- what a seat is, where its cell is known
pub record Sits (n : Sourced) (l : Library) (m : Machine) (f : Values) (r : Roots) (all : List Seat) (i : Member) (c : Cell) : Type 0 where
  pub seat : Seat
  pub listed : In seat all
  pub member : seat.member ≡ i
  pub usable : IsUsable c
  pub on_vdd : source_of n (pin_of i.name vdd) ≡ high
  pub on_vss : source_of n (pin_of i.name vss) ≡ low
  pub plays : Plays n m f r seat c c.function

pub sits : (n : Sourced) (l : Library) (m : Machine) (f : Values) (r : Roots) (h : Shows n l m f r) (i : Member) (c : Cell)
    → In i n.netlist.instances → cell_of l i.model ≡ Some c → Sits n l m f r h.seats i c
sits n l m f r h i c listed found =
    let found_seat = In-map_back (λ (p : Seat). p.member) i h.seats (subst (λ (all : List Member). In i all) h.instances listed) in
    let p = found_seat.0 in
    let s = h.seated p found_seat.1 in
    let is : p.member ≡ i = found_seat.2 in
    let again : cell_of l i.model ≡ Some s.cell = subst (λ (x : Member). cell_of l x.model ≡ Some s.cell) is s.found in
    let same : s.cell ≡ c = cc (again, found) in
    record {
      seat = p;
      listed = found_seat.1;
      member = is;
      usable = subst (λ (x : Cell). IsUsable x) same s.usable;
      on_vdd = subst (λ (x : Member). source_of n (pin_of x.name vdd) ≡ high) is s.on_vdd;
      on_vss = subst (λ (x : Member). source_of n (pin_of x.name vss) ≡ low) is s.on_vss;
      plays = subst (λ (x : Cell). Plays n m f r p x x.function) same s.plays;
    }

-- an instance's seat, the other way round
pub seat_has : (n : Sourced) (l : Library) (m : Machine) (f : Values) (r : Roots) (h : Shows n l m f r) (p : Seat) (g : In p h.seats)
    → Has n.netlist l p.member (h.seated p g).cell
seat_has n l m f r h p g = record {
  listed = subst (λ (all : List Member). In p.member all) (sym h.instances) (In-map (λ (q : Seat). q.member) p h.seats g);
  found = (h.seated p g).found;
}

-- the output of what plays a part shows its node
pub shown : (n : Sourced) (m : Machine) (f : Values) (r : Roots) (p : Seat) (c : Cell) (u : Function) → Plays n m f r p c u → pin_sources n p.member.name (cell_outputs c) ≡ node p.node ∷ []
shown n m f r p c (gate e) h = h.shows
shown n m f r p c (flip_flop d k) h = h.shows
shown n m f r p c (other machine) h = absurd h
shown n m f r p c opaque h = absurd h

pub above : (n : Sourced) (m : Machine) (f : Values) (r : Roots) (p : Seat) (c : Cell) (u : Function) → Plays n m f r p c u → length (inputs m) ≤ p.node
above n m f r p c (gate e) h = let b = h.beyond in omega (arith, b)
above n m f r p c (flip_flop d k) h = let b = h.place in omega (arith, b)
above n m f r p c (other machine) h = absurd h
above n m f r p c opaque h = absurd h

-- the pins of a cell are terminals
pub pin_terminal : (n : AbstractNetlist) (l : Library) (i : Member) (c : Cell) (name : Name) → Has n l i c → IsUsable c → In name (names_of (pin_ports c)) → IsTerminal n l (pin_of i.name name)
pin_terminal n l i c name has usable h = a_pin i c has.listed has.found ((usable.connectors name).1 (inr (inr h)))

pub output_terminal : (n : AbstractNetlist) (l : Library) (i : Member) (c : Cell) (name : Name) → Has n l i c → IsUsable c → In name (cell_outputs c) → IsTerminal n l (pin_of i.name name)
output_terminal n l i c name has usable h = pin_terminal n l i c name has usable (In-names _ (pin_ports c) name h)

pub input_terminal : (n : AbstractNetlist) (l : Library) (i : Member) (c : Cell) (name : Name) → Has n l i c → IsUsable c → In name (cell_inputs c) → IsTerminal n l (pin_of i.name name)
input_terminal n l i c name has usable h = pin_terminal n l i c name has usable (In-names _ (pin_ports c) name h)

-- what source a terminal has, and why
pub data At (n : Sourced) (l : Library) (m : Machine) (t : Terminal) : Type 0 where
  at_high : t.pin ≡ vdd → source_of n t ≡ high → At n l m t
  at_low : t.pin ≡ vss → source_of n t ≡ low → At n l m t
  at_clock : (name : Name) → m.clock ≡ Some name → t ≡ port name → source_of n t ≡ ticking → At n l m t
  at_clock_pin : IsClockPin n.netlist l t → source_of n t ≡ ticking → At n l m t
  at_node : (a : ℕ) → source_of n t ≡ node a → At n l m t

pub pin_source : (n : Sourced) (owner : List ℕ) (pins : List Name) (nodes : List ℕ) (name : Name) → pin_sources n owner pins ≡ map node nodes → In name pins
    → (a : ℕ) × In a nodes × (source_of n (pin_of owner name) ≡ node a)
pin_source n owner pins nodes name same h =
    let g : In (source_of n (pin_of owner name)) (map node nodes) =
    subst (λ (all : List Source). In (source_of n (pin_of owner name)) all) same (In-map (λ (p : Name). source_of n (pin_of owner p)) name pins h) in
    let back = In-map_back node (source_of n (pin_of owner name)) nodes g in
    (back.0, back.1, sym back.2)

pub output_at : (n : Sourced) (l : Library) (m : Machine) (f : Values) (r : Roots) (p : Seat) (c : Cell) → Plays n m f r p c c.function → (name : Name) → In name (cell_outputs c) → source_of n (pin_of p.member.name name) ≡ node p.node
output_at n l m f r p c plays name h =
    let one = only (λ (q : Name). source_of n (pin_of p.member.name q)) (cell_outputs c) (node p.node) (shown n m f r p c c.function plays) in
    let is : name ≡ one.0 = In-only one.0 name (cell_outputs c) one.1 h in
    subst (λ (x : Name). source_of n (pin_of p.member.name x) ≡ node p.node) (sym is) one.2

pub input_at : (n : Sourced) (l : Library) (m : Machine) (f : Values) (r : Roots) (p : Seat) (c : Cell) (u : Function) → Has n.netlist l p.member c → c.function ≡ u → IsPlain c u → Plays n m f r p c u
    → (name : Name) → In name (cell_inputs c) → At n l m (pin_of p.member.name name)
input_at n l m f r p c (gate e) has is plain plays name h =
    let s = pin_source n p.member.name (cell_inputs c) plays.leaves name plays.reads h in at_node s.0 s.2
input_at n l m f r p c (flip_flop d k) has is plain plays name h =
    elim (In-two d k name (cell_inputs c) plain.1 plain.2 plain.3 plain.4 h) [
      | inl on_d ↦ at_node (r.load plays.number) (subst (λ (x : Name). source_of n (pin_of p.member.name x) ≡ node (r.load plays.number)) (sym on_d) plays.loads)
      | inr on_k ↦
          subst (λ (x : Name). At n l m (pin_of p.member.name x)) (sym on_k) (at_clock_pin (a_clock_pin p.member c d k has is) plays.clocked)
    ]
input_at n l m f r p c (other machine) has is plain plays name h = absurd plays
input_at n l m f r p c opaque has is plain plays name h = absurd plays

port_at : (n : Sourced) (l : Library) (m : Machine) (f : Values) (r : Roots) → Shows n l m f r → (name : Name) → In name n.netlist.ports → At n l m (port name)
port_at n l m f r h name listed = elim ((h.ports name).0 listed) [
  | inl is_vdd ↦ at_high is_vdd (subst (λ (x : Name). source_of n (port x) ≡ high) (sym is_vdd) h.on_vdd)
  | inr rest ↦ elim rest [
    | inl is_vss ↦ at_low is_vss (subst (λ (x : Name). source_of n (port x) ≡ low) (sym is_vss) h.on_vss)
    | inr named ↦ elim (In-ports m.clock m.ports name named) [
      | inl a ↦ elim a [
        | inl x ↦ let k = number_of name (inputs m) x in at_node k.0 (h.in_ports k.0 name k.1)
        | inr y ↦ at_clock name y refl (h.on_clock name y)
      ]
      | inr z ↦ let k = number_of name (outputs m) z in at_node (r.output k.0) (h.out_ports k.0 name k.1)
    ]
  ]
]

pub at : (n : Sourced) (l : Library) (m : Machine) (f : Values) (r : Roots) → Shows n l m f r → (t : Terminal) → IsTerminal n.netlist l t → At n l m t
at n l m f r h t (a_port {name = name} listed) = port_at n l m f r h name listed
at n l m f r h t (a_pin {name = name} i c listed found named) =
    let s = sits n l m f r h i c listed found in
    let has : Has n.netlist l s.seat.member c = subst (λ (x : Member). Has n.netlist l x c) (sym s.member) (record { listed = listed; found = found }) in
    elim ((s.usable.connectors name).0 named) [
      | inl is_vdd ↦ at_high is_vdd (subst (λ (x : Name). source_of n (pin_of i.name x) ≡ high) (sym is_vdd) s.on_vdd)
      | inr rest ↦ elim rest [
        | inl is_vss ↦ at_low is_vss (subst (λ (x : Name). source_of n (pin_of i.name x) ≡ low) (sym is_vss) s.on_vss)
        | inr pin ↦ subst (λ (x : Member). At n l m (pin_of x.name name)) s.member (elim (In-pins (pin_ports c) name pin) [
          | inl x ↦ input_at n l m f r s.seat c c.function has refl s.usable.function s.plays name x
          | inr y ↦ at_node s.seat.node (output_at n l m f r s.seat c s.plays name y)
        ])
      ]
    ]
