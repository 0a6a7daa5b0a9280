-- Instances, their cells and their terminals.
use Rattle.std.proofs.Common.{◌≡◌, ◌⊎◌, inl, inr, List, [], ◌∷◌, ◌++◌, map, Some, refl, subst}
use Rattle.std.specs.List.{flat_map}
use Rattle.vlsi_base.specs.declared.name.Name.{Name}
use Rattle.vlsi_base.specs.declared.name.Port.{Port}
use Rattle.vlsi_base.specs.declared.name.Terminal.{Terminal}
use Rattle.vlsi_base.specs.Member.{In, here, there}
use Rattle.machine_core.specs.Machine.{names_of}
use Rattle.cell_model.specs.Cell.{Cell, pin_ports, cell_inputs, cell_outputs}
use Rattle.cell_model.specs.Library.{Library, cell_of, IsUsable}
use Rattle.cell_model.proofs.Members.{In-split, In-left, In-right, In-map, In-map_back}
use Rattle.cell_pins.specs.Pins.{all_ports}
use Rattle.net_core.specs.Netlist.{Instance, port, pin_of, pins_of, terminals_of}
use Rattle.net_theory.proofs.Basics.{In-names}
use Rattle.net_right.proofs.Ports.{names_to}

pub in_cons : {A : Type 0} (p : A) (xs : List A) (q : A) → In q (p ∷ xs) → (q ≡ p) ⊎ In q xs
in_cons p xs _ here = inl refl
in_cons p xs q (there h) = inr h

pub flat_in : {A B : Type 0} (f : A → List B) (y : B) (xs : List A) → In y (flat_map f xs) → (x : A) × In x xs × In y (f x)
flat_in f y [] h = elim h [ ]
flat_in f y (x ∷ xs) h = elim (In-split y (f x) (flat_map f xs) h) [
  | inl a ↦ (x, here, a)
  | inr b ↦ let r = flat_in f y xs b in (r.0, there r.1, r.2)
]

pub in_flat : {A B : Type 0} (f : A → List B) (x : A) (y : B) (xs : List A) → In x xs → In y (f x) → In y (flat_map f xs)
in_flat f x y [] i h = elim i [ ]
in_flat f x y (z ∷ xs) here h = In-left y (f z) (flat_map f xs) h
in_flat f x y (z ∷ xs) (there i) h = In-right y (f z) (flat_map f xs) (in_flat f x y xs i h)

pub In-one : {A : Type 0} (x y : A) → In y (x ∷ []) → y ≡ x
In-one x y here = refl
In-one x y (there k) = elim k [ ]

-- a terminal is a port or a pin of an instance
pub data Origin (ports : List Port) (is : List Instance) (t : Terminal) : Type 0 where
  of_port : (p : Port) → In p ports → port p.name ≡ t → Origin ports is t
  of_pin : (i : Instance) (pin : Name) → In i is → In pin i.pins → pin_of i.name pin ≡ t → Origin ports is t

pub origin : (ports : List Port) (is : List Instance) (t : Terminal) → In t (terminals_of ports is) → Origin ports is t
origin ports is t h = elim (In-split t (map (λ (p : Port). port p.name) ports) (flat_map pins_of is) h) [
  | inl a ↦ let r = In-map_back (λ (p : Port). port p.name) t ports a in of_port r.0 r.1 r.2
  | inr b ↦ let r = flat_in pins_of t is b in let q = In-map_back (pin_of r.0.name) t r.0.pins r.2 in of_pin r.0 q.0 r.1 q.1 q.2
]

pub port_in : (ports : List Port) (is : List Instance) (p : Port) → In p ports → In (port p.name) (terminals_of ports is)
port_in ports is p h = In-left (port p.name) (map (λ (q : Port). port q.name) ports) (flat_map pins_of is) (In-map (λ (q : Port). port q.name) p ports h)

-- by its name
pub named_in : (ports : List Port) (is : List Instance) (name : Name) → In name (map (λ (p : Port). p.name) ports) → In (port name) (terminals_of ports is)
named_in ports is name h =
    let r = In-map_back (λ (p : Port). p.name) name ports h in
    subst (λ (x : Name). In (port x) (terminals_of ports is)) r.2 (port_in ports is r.0 r.1)

pub pin_in : (ports : List Port) (is : List Instance) (i : Instance) (pin : Name) → In i is → In pin i.pins → In (pin_of i.name pin) (terminals_of ports is)
pin_in ports is i pin i_in pin_in_i =
    In-right (pin_of i.name pin) (map (λ (q : Port). port q.name) ports) (flat_map pins_of is)
    (in_flat pins_of i (pin_of i.name pin) is i_in (In-map (pin_of i.name) pin i.pins pin_in_i))

-- more instances have more terminals
pub more_in : (ports : List Port) (is more : List Instance) (t : Terminal) → In t (terminals_of ports is) → In t (terminals_of ports (is ++ more))
more_in ports is more t h = by (origin ports is t h) where
  by : Origin ports is t → In t (terminals_of ports (is ++ more))
  by (of_port p p_in e) = subst (λ (x : Terminal). In x (terminals_of ports (is ++ more))) e (port_in ports (is ++ more) p p_in)
  by (of_pin i pin i_in q e) = subst (λ (x : Terminal). In x (terminals_of ports (is ++ more))) e (pin_in ports (is ++ more) i pin (In-left i is more i_in) q)

-- ---- cells

-- pins of a cell are pins of its gates
pub input_pin : (c : Cell) (name : Name) → In name (cell_inputs c) → In name (names_of (all_ports c))
input_pin c name h = names_to (pin_ports c) name (inr (inr (In-names _ (pin_ports c) name h)))

pub output_pin : (c : Cell) (name : Name) → In name (cell_outputs c) → In name (names_of (all_ports c))
output_pin c name h = names_to (pin_ports c) name (inr (inr (In-names _ (pin_ports c) name h)))

-- an instance has a usable cell, and its pins
abbrev pub IsMadeOf : Library → Instance → Type 0
IsMadeOf l i = (c : Cell) × (cell_of l i.model ≡ Some c) × IsUsable c × (i.pins ≡ names_of (all_ports c))
