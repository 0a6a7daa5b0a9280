-- What stands at a place of a netlist's terminals, and what it does there.
use Rattle.std.proofs.Common.{◌≡◌, ℕ, suc, ◌+◌, List, [], ◌∷◌, ◌++◌, map, length, All, flat_map, zip, take, refl, sym, ◌∙◌, ap, subst, arith}
use Rattle.std.proofs.lemmas.List.{map-append}
use Rattle.std.proofs.lemmas.Option.{slice_get_within}
use Rattle.vlsi_base.specs.declared.name.Name.{Name}
use Rattle.vlsi_base.specs.declared.name.Port.{Port}
use Rattle.vlsi_base.specs.declared.name.Terminal.{Terminal}
use Rattle.net_core.specs.declared.pins.ModelPin.{ModelPin}
use Rattle.net_core.specs.declared.pins.ModelPins.{ModelPins}
use Rattle.net_core.specs.declared.tally.Role.{Role}
use Rattle.net_core.specs.Places.{Stands, IsThere}
use Rattle.net_core.specs.Netlist.{Instance, Netlist, IsNetlist, port, pin_of, pins_of, terminals, HasClass}
use Rattle.net_core.specs.Checks.{pins_named, Fits, port_role, pin_role, roles}
use Rattle.net_core.proofs.Standing.{Split, left, right, split, stands_left, stands_right, stands_same}
use Rattle.net_core.proofs.Frames.{flat_split, flat_join, mapped, unmapped, port_terminals}
use Rattle.net_core.proofs.Classes.{roles_length}
use Rattle.net_core.proofs.Rings.{at_place}
use Rattle.net_right.proofs.Lists.{map_twice, zip_place, zip_back}
use Rattle.net_right.proofs.Tallies.{in_class}

-- ---- terminals by what they are

-- a port, or a pin of an instance
pub data Which (n : Netlist) (t : Terminal) : Type 0 where
  which_port : (p : Port) → IsThere n.ports p → port p.name ≡ t → Which n t
  which_pin : (i : Instance) (name : Name) → IsThere n.instances i → IsThere i.pins name → pin_of i.name name ≡ t → Which n t

pub which : (n : Netlist) (t : Terminal) → IsThere (terminals n) t → Which n t
which n t h = by (split (port_terminals n.ports) (flat_map pins_of n.instances) h.0 t h.1) where
  by : Split (port_terminals n.ports) (flat_map pins_of n.instances) h.0 t → Which n t
  by (left s) = let u = unmapped (λ (p : Port). port p.name) n.ports h.0 t s in which_port u.0 (h.0, u.1) u.2
  by (right j e s) =
      let w = flat_split pins_of n.instances j t s in
      let u = unmapped (pin_of w.item.name) w.item.pins w.inner t w.inside in
      which_pin w.item u.0 (w.place, w.stands) (w.inner, u.1) u.2

pub port_there : (n : Netlist) (p : Port) → IsThere n.ports p → IsThere (terminals n) (port p.name)
port_there n p h = (h.0, stands_left (port_terminals n.ports) (flat_map pins_of n.instances) h.0 (port p.name) (mapped (λ (x : Port). port x.name) n.ports h.0 p h.1))

pub pin_there : (n : Netlist) (i : Instance) (name : Name) → IsThere n.instances i → IsThere i.pins name → IsThere (terminals n) (pin_of i.name name)
pin_there n i name h g =
    let place = length (flat_map pins_of (take h.0 n.instances)) + g.0 in (
      length (port_terminals n.ports) + place,
      stands_right (port_terminals n.ports) (flat_map pins_of n.instances) place (pin_of i.name name)
          (flat_join pins_of n.instances h.0 g.0 i (pin_of i.name name) h.1 (mapped (pin_of i.name) i.pins g.0 name g.1)),
    )

-- a terminal that is there has a class
pub has_class : (n : Netlist) → IsNetlist n → (t : Terminal) → IsThere (terminals n) t → (k : ℕ) × HasClass n t k
has_class n is t h =
    let low = slice_get_within (terminals n) h.0 t h.1 in
    let many = is.each in
    let c = at_place n.classes h.0 (omega (arith, low, many)) in (c.0, (h.0, h.1, c.1))

-- ---- terminals with their roles

abbrev Mark : Type 0
Mark = Terminal × Role

abbrev marked : Terminal → Role → Mark
marked t r = (t, r)

abbrev terminal_of : Mark → Terminal
terminal_of a = a.0

abbrev role_of : Mark → Role
role_of a = a.1

abbrev port_mark : Port → Mark
port_mark p = marked (port p.name) (port_role p)

abbrev pin_mark : List ℕ → ModelPin → Mark
pin_mark owner q = marked (pin_of owner q.name) (pin_role q)

abbrev instance_marks : List ModelPins → Instance → List Mark
instance_marks table i = map (pin_mark i.name) (pins_named table i.model)

abbrev marks : List ModelPins → Netlist → List Mark
marks table n = map port_mark n.ports ++ flat_map (instance_marks table) n.instances

one_terminals : (table : List ModelPins) (i : Instance) → i.pins ≡ map (λ p. p.name) (pins_named table i.model) → map terminal_of (instance_marks table i) ≡ pins_of i
one_terminals table i e =
    map_twice terminal_of (pin_mark i.name) (pins_named table i.model)
    ∙ sym (map_twice (pin_of i.name) (λ (p : ModelPin). p.name) (pins_named table i.model))
    ∙ ap (map (pin_of i.name)) (sym e)

pin_terminals : (table : List ModelPins) (is : List Instance) → All (λ i. i.pins ≡ map (λ p. p.name) (pins_named table i.model)) is
    → map terminal_of (flat_map (instance_marks table) is) ≡ flat_map pins_of is
pin_terminals table [] each = refl
pin_terminals table (i ∷ is) each =
    let rest : map terminal_of (flat_map (instance_marks table) is) ≡ flat_map pins_of is = pin_terminals table is (λ k d l. each (suc k) d (omega (arith, l))) in
    map-append terminal_of (instance_marks table i) (flat_map (instance_marks table) is)
    ∙ ap (λ (ts : List Terminal). ts ++ map terminal_of (flat_map (instance_marks table) is)) (one_terminals table i (each 0 i (omega arith)))
    ∙ ap (λ (ts : List Terminal). pins_of i ++ ts) rest

pin_role_list : (table : List ModelPins) (is : List Instance) → map role_of (flat_map (instance_marks table) is) ≡ flat_map (λ i. map pin_role (pins_named table i.model)) is
pin_role_list table [] = refl
pin_role_list table (i ∷ is) =
    map-append role_of (instance_marks table i) (flat_map (instance_marks table) is)
    ∙ ap (λ (rs : List Role). rs ++ map role_of (flat_map (instance_marks table) is)) (map_twice role_of (pin_mark i.name) (pins_named table i.model))
    ∙ ap (λ (rs : List Role). map pin_role (pins_named table i.model) ++ rs) (pin_role_list table is)

marks_terminals : (table : List ModelPins) (n : Netlist) → Fits n table → map terminal_of (marks table n) ≡ terminals n
marks_terminals table n fits =
    map-append terminal_of (map port_mark n.ports) (flat_map (instance_marks table) n.instances)
    ∙ ap (λ (ts : List Terminal). ts ++ map terminal_of (flat_map (instance_marks table) n.instances)) (map_twice terminal_of port_mark n.ports)
    ∙ ap (λ (ts : List Terminal). port_terminals n.ports ++ ts) (pin_terminals table n.instances fits.pins)

marks_roles : (table : List ModelPins) (n : Netlist) → map role_of (marks table n) ≡ roles table n
marks_roles table n =
    map-append role_of (map port_mark n.ports) (flat_map (instance_marks table) n.instances)
    ∙ ap (λ (rs : List Role). rs ++ map role_of (flat_map (instance_marks table) n.instances)) (map_twice role_of port_mark n.ports)
    ∙ ap (λ (rs : List Role). map port_role n.ports ++ rs) (pin_role_list table n.instances)

-- a terminal with its role: that of a port, or of a pin of its instance's model
pub data Does (table : List ModelPins) (n : Netlist) (t : Terminal) (r : Role) : Type 0 where
  does_port : (p : Port) → IsThere n.ports p → t ≡ port p.name → r ≡ port_role p → Does table n t r
  does_pin : (i : Instance) (q : ModelPin) → IsThere n.instances i → IsThere (pins_named table i.model) q → t ≡ pin_of i.name q.name → r ≡ pin_role q → Does table n t r

pub does : (table : List ModelPins) (n : Netlist) → Fits n table → (k : ℕ) (t : Terminal) (r : Role) → Stands (terminals n) k t → Stands (roles table n) k r → Does table n t r
does table n fits k t r s p =
    let a = unmapped terminal_of (marks table n) k t (subst (λ (ts : List Terminal). Stands ts k t) (sym (marks_terminals table n fits)) s) in
    let b = unmapped role_of (marks table n) k r (subst (λ (rs : List Role). Stands rs k r) (sym (marks_roles table n)) p) in
    let one : a.0 ≡ b.0 = stands_same (marks table n) k a.0 b.0 a.1 b.1 in
    by (split (map port_mark n.ports) (flat_map (instance_marks table) n.instances) k b.0 b.1) (sym a.2 ∙ ap terminal_of one) (sym b.2) where
      by : {m : Mark} → Split (map port_mark n.ports) (flat_map (instance_marks table) n.instances) k m → t ≡ m.0 → r ≡ m.1 → Does table n t r
      by {m} (left h) e f =
          let u = unmapped port_mark n.ports k m h in
          does_port u.0 (k, u.1) (e ∙ ap terminal_of (sym u.2)) (f ∙ ap role_of (sym u.2))
      by {m} (right j g h) e f =
          let w = flat_split (instance_marks table) n.instances j m h in
          let u = unmapped (pin_mark w.item.name) (pins_named table w.item.model) w.inner m w.inside in
          does_pin w.item u.0 (w.place, w.stands) (w.inner, u.1) (e ∙ ap terminal_of (sym u.2)) (f ∙ ap role_of (sym u.2))

-- a place of a terminal and of its role
pub record Placed (table : List ModelPins) (n : Netlist) (t : Terminal) (r : Role) : Type 0 where
  pub place : ℕ
  pub terminal : Stands (terminals n) place t
  pub part : Stands (roles table n) place r

placed_mark : (table : List ModelPins) (n : Netlist) → Fits n table → (k : ℕ) (t : Terminal) (r : Role) → Stands (marks table n) k (marked t r) → Placed table n t r
placed_mark table n fits k t r s = record {
  place = k;
  terminal = subst (λ (ts : List Terminal). Stands ts k t) (marks_terminals table n fits) (mapped terminal_of (marks table n) k (marked t r) s);
  part = subst (λ (rs : List Role). Stands rs k r) (marks_roles table n) (mapped role_of (marks table n) k (marked t r) s);
}

pub port_placed : (table : List ModelPins) (n : Netlist) → Fits n table → (p : Port) → IsThere n.ports p → Placed table n (port p.name) (port_role p)
port_placed table n fits p h =
    placed_mark table n fits h.0 (port p.name) (port_role p)
    (stands_left (map port_mark n.ports) (flat_map (instance_marks table) n.instances) h.0 (port_mark p) (mapped port_mark n.ports h.0 p h.1))

pub pin_placed : (table : List ModelPins) (n : Netlist) → Fits n table → (i : Instance) (q : ModelPin) → IsThere n.instances i → IsThere (pins_named table i.model) q
    → Placed table n (pin_of i.name q.name) (pin_role q)
pin_placed table n fits i q h g =
    let place = length (flat_map (instance_marks table) (take h.0 n.instances)) + g.0 in
    placed_mark table n fits (length (map port_mark n.ports) + place) (pin_of i.name q.name) (pin_role q)
    (stands_right (map port_mark n.ports) (flat_map (instance_marks table) n.instances) place (pin_mark i.name q)
    (flat_join (instance_marks table) n.instances h.0 g.0 i (pin_mark i.name q) h.1 (mapped (pin_mark i.name) (pins_named table i.model) g.0 q g.1)))

-- ---- members of classes

-- the roles of a netlist's terminals, each with its class
abbrev pub members : List ModelPins → Netlist → List (Role × ℕ)
members table n = zip (roles table n) n.classes

-- the terminal of a class that stands at a place
pub record IsMember (table : List ModelPins) (n : Netlist) (k : ℕ) (r : Role) (c : ℕ) : Type 0 where
  pub terminal : Terminal
  pub stands : Stands (terminals n) k terminal
  pub here : Stands n.classes k c
  pub doing : Does table n terminal r

pub member_at : (table : List ModelPins) (n : Netlist) → Fits n table → (k : ℕ) (r : Role) (c : ℕ) → Stands (members table n) k (in_class r c) → IsMember table n k r c
member_at table n fits k r c s =
    let z = zip_back (roles table n) n.classes k r c s in
    let low = slice_get_within (roles table n) k r z.0 in
    let many = roles_length table n fits in
    let t = at_place (terminals n) k (omega (arith, low, many)) in
    record { terminal = t.0; stands = t.1; here = z.1; doing = does table n fits k t.0 r t.1 z.0 }

pub member_place : (table : List ModelPins) (n : Netlist) (t : Terminal) (r : Role) (h : Placed table n t r) (c : ℕ) → Stands n.classes h.place c → Stands (members table n) h.place (in_class r c)
member_place table n t r h c s = zip_place (roles table n) n.classes h.place r c h.part s
