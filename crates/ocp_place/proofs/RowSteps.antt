-- A row, instance by instance.
use Rattle.std.proofs.Common.{◌≡◌, ℕ, ◌+◌, Bool, true, false, not, cond, List, [], ◌∷◌, ◌++◌, map, filter, length, get_or, take, drop, Some, ◌*◌, Option, None, refl, sym, ap, ap₂, subst, ◌∙◌, arith, append-nil, append_assoc}
use Rattle.std.specs.Prelude.{ℤ, pos, ◌+ℤ◌, flat_map, slice_index, option_map}
use Rattle.std.proofs.lemmas.Int.{ints}
use Rattle.std.proofs.lemmas.List.{get_or-take, get_or-drop}
use Rattle.std.proofs.lemmas.Option.{slice_get_within, slice_get-get_or, get_or_from_slice_get}
use Rattle.vlsi_base.specs.declared.name.Name.{Name}
use Rattle.vlsi_base.specs.declared.name.Port.{Port}
use Rattle.vlsi_base.specs.declared.name.Terminal.{Terminal}
use Rattle.machine_core.specs.Machine.{is_input, names_of}
use Rattle.cell_model.specs.Cell.{Cell}
use Rattle.cell_model.specs.Library.{Library, cell_of}
use Rattle.cell_model.specs.Access.{access_point}
use Rattle.cell_pins.specs.Pins.{all_ports}
use Rattle.cell_checks.specs.Points.{point_of}
use Rattle.net_core.specs.declared.frame.Node.{Node}
use Rattle.net_core.specs.Places.{Stands}
use Rattle.net_core.specs.Netlist.{Instance, Netlist as InMemory, IsNetlist, terminals, terminals_of, HasClass}
use Rattle.net_core.specs.Netlist as core
use Rattle.net_core.specs.Frame.{instance_of, node_pins, AreNumbered}
use Rattle.net_core.proofs.Frames.{port_terminals, terminals_are, pin_found}
use Rattle.net_meaning.specs.Netlist.{Member, AbstractNetlist, pin_of}
use Rattle.ocp_rows.specs.Placement.{model_width, row_width}
use Rattle.ocp_place.specs.declared.reach.PinReach.{PinReach}
use Rattle.ocp_place.specs.Nets.{driven_by, driven}
use Rattle.ocp_place.specs.Sites.{Site, site_at, own_sites, row_sites, row_starts}
use Rattle.ocp_place.specs.Reaches.{ArePinReaches, no_pins, one_pin, reached_sites, spot_point, spot_sites, reached_drivers}
use Rattle.ocp_place.specs.Stood.{point_site}
use Rattle.cell_checks.specs.declared.points.GridPoint.{GridPoint}

-- ---- one more instance

width_push : (l : Library) (ms : List Member) (one : Member) → row_width l (ms ++ one ∷ []) ≡ row_width l ms +ℤ model_width l one.model
width_push l [] one = let w = model_width l one.model in omega (arith, ints)
width_push l (m ∷ ms) one =
    let r = row_width l ms in let w = model_width l one.model in let v = model_width l m.model in
    ap (λ (z : ℤ). v +ℤ z) (width_push l ms one) ∙ moved v r w
  where
    moved : (a b c : ℤ) → a +ℤ (b +ℤ c) ≡ (a +ℤ b) +ℤ c
    moved a b c = omega (arith, ints)

shift : (x v r : ℤ) → (x +ℤ v) +ℤ r ≡ x +ℤ (v +ℤ r)
shift x v r = omega (arith, ints)

stay : (x : ℤ) → x ≡ x +ℤ pos 0
stay x = omega (arith, ints)

pub sites_push : (n : AbstractNetlist) (l : Library) (x : ℤ) (ms : List Member) (one : Member)
    → row_sites n l x (ms ++ one ∷ []) ≡ row_sites n l x ms ++ own_sites n (x +ℤ row_width l ms) one.name (cell_of l one.model)
sites_push n l x [] one =
    append-nil (own_sites n x one.name (cell_of l one.model)) ∙ ap (λ (z : ℤ). own_sites n z one.name (cell_of l one.model)) (stay x)
sites_push n l x (m ∷ ms) one =
    let own = own_sites n x m.name (cell_of l m.model) in
    ap (λ (ss : List Site). own ++ ss) (sites_push n l (x +ℤ model_width l m.model) ms one)
    ∙ ap (λ (z : ℤ). own ++ (row_sites n l (x +ℤ model_width l m.model) ms ++ own_sites n z one.name (cell_of l one.model))) (shift x (model_width l m.model) (row_width l ms))
    ∙ sym (append_assoc own (row_sites n l (x +ℤ model_width l m.model) ms) (own_sites n (x +ℤ row_width l (m ∷ ms)) one.name (cell_of l one.model)))

pub starts_push : (l : Library) (x : ℤ) (ms : List Member) (one : Member) → row_starts l x (ms ++ one ∷ []) ≡ row_starts l x ms ++ (x +ℤ row_width l ms) ∷ []
starts_push l x [] one = ap (λ (z : ℤ). z ∷ []) (stay x)
starts_push l x (m ∷ ms) one =
    ap (λ (zs : List ℤ). x ∷ zs) (starts_push l (x +ℤ model_width l m.model) ms one)
    ∙ ap (λ (z : ℤ). x ∷ (row_starts l (x +ℤ model_width l m.model) ms ++ z ∷ [])) (shift x (model_width l m.model) (row_width l ms))

pub driven_push : (n : AbstractNetlist) (l : Library) (ms : List Member) (one : Member) → driven n l (ms ++ one ∷ []) ≡ driven n l ms ++ driven_by n one.name (cell_of l one.model)
driven_push n l [] one = append-nil (driven_by n one.name (cell_of l one.model))
driven_push n l (m ∷ ms) one =
    ap (λ (ks : List ℕ). driven_by n m.name (cell_of l m.model) ++ ks) (driven_push n l ms one)
    ∙ sym (append_assoc (driven_by n m.name (cell_of l m.model)) (driven n l ms) (driven_by n one.name (cell_of l one.model)))

pub widened : (l : Library) (ms : List Member) (one : Member) (w v : ℕ) → pos w ≡ row_width l ms → pos v ≡ model_width l one.model → pos (w + v) ≡ row_width l (ms ++ one ∷ [])
widened l ms one w v p q =
    let e : pos (w + v) ≡ pos w +ℤ pos v = omega (arith, ints) in
    e ∙ ap (λ (z : ℤ). z +ℤ pos v) p ∙ ap (λ (z : ℤ). row_width l ms +ℤ z) q ∙ sym (width_push l ms one)

-- ---- the pins of an instance

-- each pin of the cell has the class of its place among the instance's classes
abbrev pub HasClasses : AbstractNetlist → List ℕ → Cell → List ℕ → Type 0
HasClasses n owner c classes = (place : ℕ) (name : Name) → Stands (names_of (all_ports c)) place name → slice_index classes place ≡ n.class (pin_of owner name)

pub reached_are : (n : AbstractNetlist) (x : ℤ) (owner : List ℕ) (c : Cell) (classes : List ℕ) → HasClasses n owner c classes → (ports : List Port) (pins : List PinReach) → ArePinReaches c ports pins
    → reached_sites x classes pins ≡ flat_map (λ pin. site_at (n.class (pin_of owner pin)) x (access_point c pin)) (names_of ports)
reached_are n x owner c classes has [] [] no_pins = refl
reached_are n x owner c classes has [] (r ∷ pins) are = elim are [ ]
reached_are n x owner c classes has (p ∷ ports) [] are = elim are [ ]
reached_are n x owner c classes has (p ∷ ports) (r ∷ pins) (one_pin is rest) =
    ap (λ (k : ℕ). site_at k x (option_map point_of r.point) ++ reached_sites x classes pins) (has r.place p.name is.place)
    ∙ ap (λ o. site_at (n.class (pin_of owner p.name)) x o ++ reached_sites x classes pins) is.point
    ∙ ap (λ (ss : List Site). site_at (n.class (pin_of owner p.name)) x (access_point c p.name) ++ ss) (reached_are n x owner c classes has ports pins rest)

-- a pin in the lowest row lies as its cell shows it
pub level_sites : (x : ℕ) (classes : List ℕ) (pins : List PinReach) → spot_sites x 0 classes pins ≡ reached_sites (pos x) classes pins
level_sites x classes [] = refl
level_sites x classes (r ∷ pins) = ap₂ (λ (a b : List Site). a ++ b) (level (slice_index classes r.place) r.point) (level_sites x classes pins) where
  level : (class : ℕ) (o : Option GridPoint) → point_site class (spot_point x 0 o) ≡ site_at class (pos x) (option_map point_of o)
  level class None = refl
  level class (Some q) =
      let a : pos (x + q.x) ≡ pos q.x +ℤ pos x = omega (arith, ints) in
      let b : 5000 * 0 + q.y ≡ q.y = omega arith in
      ap₂ (λ (z : ℤ) (y : ℕ). (class, (z, pos y)) ∷ []) a b

pub drivers_are : (n : AbstractNetlist) (owner : List ℕ) (c : Cell) (classes : List ℕ) → HasClasses n owner c classes → (ports : List Port) (pins : List PinReach) → ArePinReaches c ports pins
    → reached_drivers classes pins ≡ map (λ pin. n.class (pin_of owner pin)) (names_of (filter (λ p. not (is_input p.dir)) ports))
drivers_are n owner c classes has [] [] no_pins = refl
drivers_are n owner c classes has [] (r ∷ pins) are = elim are [ ]
drivers_are n owner c classes has (p ∷ ports) [] are = elim are [ ]
drivers_are n owner c classes has (p ∷ ports) (r ∷ pins) (one_pin is rest) = by (not (is_input p.dir)) is.drives (drivers_are n owner c classes has ports pins rest) where
  by : (b : Bool) → r.drives ≡ b → reached_drivers classes pins ≡ map (λ pin. n.class (pin_of owner pin)) (names_of (filter (λ q. not (is_input q.dir)) ports))
      → map (λ s. slice_index classes s.place) (cond r.drives (r ∷ filter (λ s. s.drives) pins) (filter (λ s. s.drives) pins))
      ≡ map (λ pin. n.class (pin_of owner pin)) (names_of (cond b (p ∷ filter (λ q. not (is_input q.dir)) ports) (filter (λ q. not (is_input q.dir)) ports)))
  by true e more =
      ap (λ (b : Bool). map (λ s. slice_index classes s.place) (cond b (r ∷ filter (λ s. s.drives) pins) (filter (λ s. s.drives) pins))) e
      ∙ ap (λ (k : ℕ). k ∷ reached_drivers classes pins) (has r.place p.name is.place)
      ∙ ap (λ (ks : List ℕ). n.class (pin_of owner p.name) ∷ ks) more
  by false e more = ap (λ (b : Bool). map (λ s. slice_index classes s.place) (cond b (r ∷ filter (λ s. s.drives) pins) (filter (λ s. s.drives) pins))) e ∙ more

-- the classes of an instance's pins stand from its first number on
pub class_there : (n : InMemory) (models : List (List ℕ)) (nodes : List Node) → IsNetlist n → map (instance_of models) nodes ≡ n.instances → AreNumbered n.ports nodes
    → (i : ℕ) (node : Node) → Stands nodes i node → (place : ℕ) (name : Name) → Stands node.pins place name
    → HasClass n (core.pin_of node.name name) (slice_index (take (length node.pins) (drop node.first n.classes)) place)
class_there n models nodes is seen numbered i node s place name named =
    let first : node.first ≡ length n.ports + length (flat_map node_pins (take i nodes)) =
    subst (λ (x : Node). x.first ≡ length n.ports + length (flat_map node_pins (take i nodes))) (get_or_from_slice_get nodes i node node s) (numbered i node (slice_get_within nodes i node s)) in
    let e : length n.ports + (length (flat_map node_pins (take i nodes)) + place) ≡ node.first + place = omega (arith, first) in
    let all : terminals n ≡ port_terminals n.ports ++ flat_map node_pins nodes = ap (λ (xs : List Instance). terminals_of n.ports xs) (sym seen) ∙ terminals_are n.ports models nodes in
    let at : Stands (terminals n) (node.first + place) (core.pin_of node.name name) =
    subst (λ (ts : List Terminal). Stands ts (node.first + place) (core.pin_of node.name name)) (sym all)
    (subst (λ j. Stands (port_terminals n.ports ++ flat_map node_pins nodes) j (core.pin_of node.name name)) e (pin_found n.ports nodes i place node name s named)) in
    let low = slice_get_within (terminals n) (node.first + place) (core.pin_of node.name name) at in
    let each = is.each in
    let same : get_or (take (length node.pins) (drop node.first n.classes)) place 0 ≡ get_or n.classes (node.first + place) 0 =
    get_or-take (length node.pins) (drop node.first n.classes) place 0 (slice_get_within node.pins place name named) ∙ get_or-drop node.first n.classes place 0 in
    (node.first + place, at, slice_get-get_or n.classes (node.first + place) 0 (omega (arith, low, each)) ∙ ap Some (sym same))
