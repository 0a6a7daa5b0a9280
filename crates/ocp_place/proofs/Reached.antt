-- Where the pins of a cell are reached, pin by pin.
use Rattle.std.proofs.Common.{◌≡◌, ◌≢◌, ◌⊎◌, inl, inr, ℕ, ◌+◌, ◌<◌, true, not, List, [], ◌∷◌, ◌++◌, map, length, get_or, take, Option, None, refl, sym, ap, subst, ◌∙◌, arith}
use Rattle.std.specs.Prelude.{filter, option_map}
use Rattle.std.specs.Ordering.{is_lt, ordering_reverse}
use Rattle.std.specs.declared.cmp.Ordering.{Ordering}
use Rattle.std.specs.declared.cmp.Ordering.TheVariants.{Less, Equal, Greater}
use Rattle.std.specs.List.{All}
use Rattle.std.proofs.lemmas.List.{take_more, get_or-map, length-map, get_or_default}
use Rattle.std.proofs.Math.Seq.{take-length}
use Rattle.std.proofs.lemmas.Option.{get_or_from_slice_get, slice_get_within}
use Rattle.vlsi_base.specs.declared.name.Name.{Name}
use Rattle.vlsi_base.specs.declared.name.Port.{Port}
use Rattle.vlsi_base.specs.Name.{name_cmp}
use Rattle.vlsi_base.specs.Names.{vdd, vss, comes_before}
use Rattle.vlsi_base.specs.Member.{In, there}
use Rattle.vlsi_base.proofs.NameOrder.{name_total, name_exact}
use Rattle.machine_core.specs.Machine.{names_of, is_input}
use Rattle.cell_model.specs.declared.cell.Pin.{Pin}
use Rattle.cell_model.specs.Cell.{Cell, pin_ports}
use Rattle.cell_model.specs.Access.{Point, access_point}
use Rattle.cell_model.specs.Usable.{IsFormed}
use Rattle.cell_model.proofs.Members.{In-left, In-right, In-map, In-at}
use Rattle.cell_checks.specs.declared.points.GridPoint.{GridPoint}
use Rattle.cell_checks.specs.Points.{point_of}
use Rattle.cell_pins.specs.Pins.{supply, with_supply, all_ports}
use Rattle.net_core.specs.Places.{IsThere, Stands}
use Rattle.net_core.proofs.Frames.{unmapped}
use Rattle.net_drawing.proofs.Coding.{get_In}
use Rattle.net_right.proofs.Lists.{filter_in}
use Rattle.ocp_place.specs.declared.reach.PinReach.{PinReach}
use Rattle.ocp_place.specs.Reaches.{IsPinReach, ArePinReaches, no_pins, one_pin}

-- one more pin
pub pins_push : (c : Cell) (ports : List Port) (pins : List PinReach) (p : Port) (r : PinReach) → ArePinReaches c ports pins → IsPinReach c p r → ArePinReaches c (ports ++ p ∷ []) (pins ++ r ∷ [])
pins_push c [] [] p r no_pins is = one_pin is no_pins
pins_push c [] (s ∷ pins) p r are is = elim are [ ]
pins_push c (q ∷ ports) [] p r are is = elim are [ ]
pins_push c (q ∷ ports) (s ∷ pins) p r (one_pin is_s rest) is = one_pin is_s (pins_push c ports pins p r rest is)

pub pins_next : (c : Cell) (ports : List Port) (k : ℕ) (d : Port) (pins : List PinReach) (r : PinReach) → ArePinReaches c (take k ports) pins → k < length ports → IsPinReach c (get_or ports k d) r
    → ArePinReaches c (take (k + 1) ports) (pins ++ r ∷ [])
pins_next c ports k d pins r are low is =
    subst (λ (ps : List Port). ArePinReaches c ps (pins ++ r ∷ [])) (sym (take_more ports k d low)) (pins_push c (take k ports) pins (get_or ports k d) r are is)

-- a name that no port has
pub nowhere : (ports : List Port) (name : Name) (k : ℕ) → k ≡ length ports → All (λ (p : Port). p.name ≡ name → ⊥) (take k ports) → IsThere (names_of ports) name → ⊥
nowhere ports name k ended none h =
    let all : All (λ (p : Port). p.name ≡ name → ⊥) ports =
    subst (λ (ps : List Port). All (λ (p : Port). p.name ≡ name → ⊥) ps) (ap (λ (j : ℕ). take j ports) ended ∙ take-length ports) none in
    let u = unmapped (λ (p : Port). p.name) ports h.0 name h.1 in
    let is : get_or ports h.0 u.0 ≡ u.0 = get_or_from_slice_get ports h.0 u.0 u.0 u.1 in
    all h.0 u.0 (slice_get_within ports h.0 u.0 u.1) (ap (λ (p : Port). p.name) is ∙ u.2)

-- ---- the place of a pin among all pins

before_or_behind : (a b : Name) → a ≢ b → (comes_before a b ≡ true) ⊎ (comes_before b a ≡ true)
before_or_behind a b apart = by (name_cmp a b) refl where
  by : (o : Ordering) → name_cmp a b ≡ o → (comes_before a b ≡ true) ⊎ (comes_before b a ≡ true)
  by Less e = inl (ap is_lt e)
  by Equal e = absurd (apart (name_exact a b e))
  by Greater e = inr (ap is_lt (name_total.antisymm b a ∙ ap ordering_reverse e))

in_supplied : (name : Name) (ps : List Port) (x : Port) → x.name ≢ name → In x ps → In x (with_supply name ps)
in_supplied name ps x apart i = elim (before_or_behind x.name name apart) [
  | inl e ↦ In-left x (filter (λ p. comes_before p.name name) ps) (supply name ∷ filter (λ p. comes_before name p.name) ps) (filter_in (λ p. comes_before p.name name) ps x i e)
  | inr e ↦ In-right x (filter (λ p. comes_before p.name name) ps) (supply name ∷ filter (λ p. comes_before name p.name) ps) (there (filter_in (λ p. comes_before name p.name) ps x i e))
]

pub among_all : (c : Cell) (p : Port) → IsFormed c → In p (pin_ports c) → IsThere (names_of (all_ports c)) p.name
among_all c p formed i =
    let own = formed.signals p.name (In-map (λ (q : Port). q.name) p (pin_ports c) i) in
    let in_all : In p (all_ports c) = in_supplied vss (with_supply vdd (pin_ports c)) p own.1 (in_supplied vdd (pin_ports c) p own.0 i) in
    get_In (names_of (all_ports c)) p.name (In-map (λ (q : Port). q.name) p (all_ports c) in_all)

-- there is a point for each pin
pub points_many : (c : Cell) (points : List (Option GridPoint)) → map (option_map point_of) points ≡ map (access_point c) (names_of (pin_ports c)) → length points ≡ length c.pins
points_many c points are =
    sym (length-map points (option_map point_of)) ∙ ap length are ∙ length-map (names_of (pin_ports c)) (access_point c) ∙ length-map (pin_ports c) (λ (q : Port). q.name)
    ∙ length-map c.pins (λ (q : Pin). q.port)

pub ports_many : (c : Cell) → length (pin_ports c) ≡ length c.pins
ports_many c = length-map c.pins (λ (q : Pin). q.port)

-- one pin of a cell
pub pin_is : (c : Cell) (pins : List Pin) (ports : List Port) (points : List (Option GridPoint)) (k : ℕ) (pin : Pin) (r : PinReach) → IsFormed c → pins ≡ c.pins → ports ≡ all_ports c
    → map (option_map point_of) points ≡ map (access_point c) (names_of (pin_ports c)) → k < length pins → pin ≡ get_or pins k pin
    → (IsThere (names_of ports) pin.port.name → Stands (names_of ports) r.place pin.port.name) → r.drives ≡ not (is_input pin.port.dir) → r.point ≡ get_or points k r.point
    → IsPinReach c (get_or (pin_ports c) k pin.port) r
pin_is c pins ports points k pin r formed pins_are ports_are points_are low is placed drives point =
    let own : k < length c.pins = let e = ap length pins_are in omega (arith, low, e) in
    let pin_at : get_or (pin_ports c) k pin.port ≡ pin.port =
    get_or-map (λ (q : Pin). q.port) c.pins k pin pin.port own ∙ ap (λ (q : Pin). q.port) (ap (λ (ps : List Pin). get_or ps k pin) (sym pins_are) ∙ sym is) in
    let ports_many : k < length (pin_ports c) = let e = length-map c.pins (λ (q : Pin). q.port) in omega (arith, own, e) in
    let listed : In pin.port (pin_ports c) = subst (λ (q : Port). In q (pin_ports c)) pin_at (In-at (pin_ports c) k pin.port ports_many) in
    let there_all = among_all c pin.port formed listed in
    let place : Stands (names_of (all_ports c)) r.place pin.port.name = subst (λ (ps : List Port). Stands (names_of ps) r.place pin.port.name) ports_are
    (placed (subst (λ (ps : List Port). IsThere (names_of ps) pin.port.name) (sym ports_are) there_all)) in
    let names_many : k < length (names_of (pin_ports c)) = let e = length-map (pin_ports c) (λ (q : Port). q.name) in omega (arith, ports_many, e) in
    let points_low : k < length points =
    let a = length-map points (option_map point_of) in
    let b = ap length points_are in
    let e = length-map (names_of (pin_ports c)) (access_point c) in
    omega (arith, names_many, a, b, e) in
    let reached : option_map point_of r.point ≡ access_point c pin.port.name =
    ap (option_map point_of) (point ∙ get_or_default points k r.point None points_low)
    ∙ sym (get_or-map (option_map point_of) points k None None points_low)
    ∙ ap (λ (qs : List (Option Point)). get_or qs k None) points_are
    ∙ get_or-map (access_point c) (names_of (pin_ports c)) k pin.port.name None names_many
    ∙ ap (access_point c) (get_or-map (λ (q : Port). q.name) (pin_ports c) k pin.port pin.port.name ports_many ∙ ap (λ (q : Port). q.name) pin_at) in
    subst (λ (q : Port). IsPinReach c q r) (sym pin_at) (record { place = place; drives = drives; point = reached })
