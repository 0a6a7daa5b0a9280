-- A netlist whose bits are gathered, and the classes of its terminals.
use Rattle.std.proofs.Common.{◌≡◌, inl, inr, ℕ, ◌<◌, true, not, List, [], ◌∷◌, map, get_or, filter, Option, refl, sym, ap, ◌∙◌, subst}
use Rattle.std.specs.Ordering.{is_lt, ordering_reverse}
use Rattle.std.specs.declared.cmp.Ordering.{Ordering}
use Rattle.std.specs.declared.cmp.Ordering.TheVariants.{Less, Equal, Greater}
use Rattle.vlsi_base.specs.declared.name.Name.{Name}
use Rattle.vlsi_base.specs.declared.name.Port.{Port}
use Rattle.vlsi_base.specs.declared.name.Dir.TheVariants as dir
use Rattle.vlsi_base.specs.declared.name.Terminal.{Terminal}
use Rattle.vlsi_base.specs.Name.{name_cmp}
use Rattle.vlsi_base.specs.Names.{comes_before}
use Rattle.vlsi_base.specs.Member.{In, AllDifferent}
use Rattle.vlsi_base.proofs.NameOrder.{name_total}
use Rattle.machine_core.specs.Machine.{is_input, names_of, outputs}
use Rattle.machine_core.proofs.Values.{In-map}
use Rattle.source_checks.specs.Formula.{place}
use Rattle.vlsi_model.proofs.Members.{In-map_back, different_Sub}
use Rattle.vlsi_model.proofs.PortBits.{Sub-map, Sub-filter, filter-In}
use Rattle.vlsi_model.proofs.Sorting.{different_from_pairs}
use Rattle.vlsi_model.proofs.Building.{map-then}
use Rattle.bool_expr.specs.Expression.{variable}
use Rattle.cell_model.specs.Cell.{Function, gate, flip_flop, other, opaque, Cell, pin_ports, cell_outputs}
use Rattle.cell_model.specs.Library.{Library, cell_of}
use Rattle.cell_model.specs.Usable.{IsFormed, FitsPins}
use Rattle.cell_pins.specs.Pins.{supply, all_ports}
use Rattle.net_core.specs.declared.pins.ModelPin.{ModelPin}
use Rattle.net_core.specs.declared.pins.ModelPins.{ModelPins}
use Rattle.net_core.specs.declared.tally.Role.{Role}
use Rattle.net_core.specs.Netlist.{Instance, Netlist as InMemory, pin_of, HasClass, IsClassFunction}
use Rattle.net_core.specs.Checks.{pins_named, port_role, pin_role}
use Rattle.net_core.proofs.Rings.{class_below}
use Rattle.net_machine.specs.Signals.{HasBehaviour}
use Rattle.net_machine.specs.Body.{Shown, Body, body_of, body_at}
use Rattle.net_machine.specs.Gathered.{IsLonger, HasClockOf}
use Rattle.net_machine.proofs.Drivers.{In_there, IsAt, is_driver, one_driver}
use Rattle.net_machine.proofs.Bodies.{shows_pin, machine_outputs}
use Rattle.net_machine.proofs.Cells.{Ground, sound_of, Seated, seated, pin_at, port_of_pin, signal_in, all_cases, there_is, class_there}

pub record Scene : Type 0 where
  pub n : InMemory
  pub l : Library
  pub table : List ModelPins
  pub class : Terminal → ℕ
  pub clock : Option Name
  pub text : List ℕ
  pub ground : Ground n l table
  pub classes : IsClassFunction n class
  pub known : HasBehaviour n l
  pub clock_is : HasClockOf n l clock
  pub longer : IsLonger n.ports text

pub has_class : (s : Scene) (t : Terminal) (r : Role) → IsAt s.table s.n t r → HasClass s.n t (s.class t)
has_class s t r at =
    let c = class_there s.n s.l s.table s.ground t (there_is s.n s.l s.table s.ground t r at) in
    subst (λ k. HasClass s.n t k) (sym (s.classes.each t c.0 c.1)) c.1

pub class_low : (s : Scene) (t : Terminal) (r : Role) → IsAt s.table s.n t r → s.class t < s.n.count
class_low s t r at = class_below s.n s.ground.netlist t (s.class t) (has_class s t r at)

pub once : (s : Scene) (t u : Terminal) (r q : Role) → IsAt s.table s.n t r → IsAt s.table s.n u q → is_driver r ≡ 1 → is_driver q ≡ 1 → s.class t ≡ s.class u → t ≡ u
once s t u r q at bt dr dq e =
    one_driver s.table s.n (sound_of s.n s.l s.table s.ground) t u r q (s.class u) at bt dr dq (subst (λ k. HasClass s.n t k) e (has_class s t r at)) (has_class s u q bt)

pub input_driver : (p : Port) → p.dir ≡ dir.In → is_driver (port_role p) ≡ 1
input_driver p e = rw e refl

pub output_driver : (q : ModelPin) → q.dir ≡ dir.Out → is_driver (pin_role q) ≡ 1
output_driver q e = rw e refl

-- ---- output pins

pub itself_not_before : (a : Name) → comes_before a a ≡ true → ⊥
itself_not_before a h = by (name_cmp a a) refl h where
  by : (o : Ordering) → name_cmp a a ≡ o → is_lt o ≡ true → ⊥
  by Less e t = let turned : Less ≡ Greater = sym e ∙ name_total.antisymm a a ∙ ap ordering_reverse e in absurd cc
  by Equal e t = absurd cc
  by Greater e t = absurd cc

pub outputs_different : (c : Cell) → IsFormed c → AllDifferent (cell_outputs c)
outputs_different c h =
    different_Sub (cell_outputs c) (names_of (pin_ports c)) (Sub-map (λ (p : Port). p.name) (filter (λ (p : Port). not (is_input p.dir)) (pin_ports c)) (pin_ports c) (Sub-filter (λ (p : Port). not (is_input p.dir)) (pin_ports c)))
    (different_from_pairs (names_of (pin_ports c)) (λ i j d low high e.
    itself_not_before (get_or (names_of (pin_ports c)) i d) (subst (λ (x : Name). comes_before (get_or (names_of (pin_ports c)) i d) x ≡ true) (sym e) (h.order i j d low high))))

-- the pins that a body shows are the output pins of its cell
pub shown_pins : (c : Cell) (f : Function) → FitsPins c f → (f ≡ opaque → ⊥) → map (λ (s : Shown). s.pin) (body_of c f).shows ≡ cell_outputs c
shown_pins c (gate e) fits known = map-then (λ (s : Shown). s.pin) (λ (o : Name). record { pin = o; expr = e }) (cell_outputs c) ∙ map_itself (cell_outputs c) where
  map_itself : (ns : List Name) → map (λ (o : Name). o) ns ≡ ns
  map_itself [] = refl
  map_itself (n ∷ ns) = ap (λ (x : List Name). n ∷ x) (map_itself ns)
shown_pins c (flip_flop d k) fits known = map-then (λ (s : Shown). s.pin) (λ (o : Name). record { pin = o; expr = variable 1 }) (cell_outputs c) ∙ map_itself (cell_outputs c) where
  map_itself : (ns : List Name) → map (λ (o : Name). o) ns ≡ ns
  map_itself [] = refl
  map_itself (n ∷ ns) = ap (λ (x : List Name). n ∷ x) (map_itself ns)
shown_pins c (other m) fits known = map-then (λ (s : Shown). s.pin) (λ (o : Name). record { pin = o; expr = variable (place m.vars o) }) (outputs m) ∙ map_itself (outputs m) ∙ machine_outputs c m fits.0 where
  map_itself : (ns : List Name) → map (λ (o : Name). o) ns ≡ ns
  map_itself [] = refl
  map_itself (n ∷ ns) = ap (λ (x : List Name). n ∷ x) (map_itself ns)
shown_pins c opaque fits known = absurd (known refl)

-- an instance, with its cell and its place
pub record Member (s : Scene) (i : Instance) : Type 0 where
  pub listed : In i s.n.instances
  pub seat : Seated s.l s.table i

pub member : (s : Scene) (i : Instance) → In i s.n.instances → Member s i
member s i j = record { listed = j; seat = seated s.n s.l s.table s.ground i j }

pub body_is : (s : Scene) (i : Instance) (m : Member s i) → body_at (cell_of s.l i.model) ≡ body_of m.seat.cell m.seat.cell.function
body_is s i m = ap body_at m.seat.found

pub not_opaque : (s : Scene) (i : Instance) (m : Member s i) → m.seat.cell.function ≡ opaque → ⊥
not_opaque s i m e = s.known i (In_there s.n.instances i m.listed) (record { cell = m.seat.cell; found = m.seat.found; unknown = e })

-- an output pin of an instance
pub record IsOutput (s : Scene) (i : Instance) (pin : Name) : Type 0 where
  pub q : ModelPin
  pub at : IsAt s.table s.n (pin_of i.name pin) (pin_role q)
  pub gives : q.dir ≡ dir.Out

pub shown_output : (s : Scene) (i : Instance) (m : Member s i) (x : Shown) → In x (body_at (cell_of s.l i.model)).shows → IsOutput s i x.pin
shown_output s i m x j =
    let p = shows_pin m.seat.cell m.seat.cell.function m.seat.formed.function x (subst (λ (b : Body). In x b.shows) (body_is s i m) j) in
    let a = pin_at s.n s.l s.table i m.seat m.listed p.port (signal_in m.seat.cell m.seat.formed p.port p.listed) in
    record { q = a.0; at = subst (λ (y : Name). IsAt s.table s.n (pin_of i.name y) (pin_role a.0)) p.name_is a.1; gives = a.2.dir ∙ p.dir_is }

pub shows_different : (s : Scene) (i : Instance) (m : Member s i) → AllDifferent (map (λ (x : Shown). x.pin) (body_at (cell_of s.l i.model)).shows)
shows_different s i m =
    subst (λ (b : Body). AllDifferent (map (λ (x : Shown). x.pin) b.shows)) (sym (body_is s i m))
    (subst (λ (ns : List Name). AllDifferent ns) (sym (shown_pins m.seat.cell m.seat.cell.function m.seat.formed.function (not_opaque s i m))) (outputs_different m.seat.cell m.seat.formed))

-- each output pin of the table is shown
pub output_shown : (s : Scene) (i : Instance) (m : Member s i) (q : ModelPin) → In q (pins_named s.table i.model) → q.dir ≡ dir.Out
    → (x : Shown) × In x (body_at (cell_of s.l i.model)).shows × (x.pin ≡ q.name)
output_shown s i m q j out =
    let c = m.seat.cell in
    let r = port_of_pin c.function (all_ports c) (all_ports c) (pins_named s.table i.model) q m.seat.pins j in
    let d : r.0.dir ≡ dir.Out = sym r.2.dir ∙ out in
    by r.0 r.1 d (sym r.2.name) where
      no_supply : (x : Port) (name : Name) → supply name ≡ x → x.dir ≡ dir.Out → ⊥
      no_supply x name e d = let no : dir.In ≡ dir.Out = ap (λ (p : Port). p.dir) e ∙ d in absurd cc

      by : (x : Port) → In x (all_ports m.seat.cell) → x.dir ≡ dir.Out → x.name ≡ q.name → (y : Shown) × In y (body_at (cell_of s.l i.model)).shows × (y.pin ≡ q.name)
      by x k d e = elim (all_cases m.seat.cell x k) [
        | inl v ↦ absurd (no_supply x _ v d)
        | inr w ↦ elim w [
          | inl v ↦ absurd (no_supply x _ v d)
          | inr g ↦
              let out_test : not (is_input x.dir) ≡ true = rw d refl in
              let o : In x.name (cell_outputs m.seat.cell) = In-map (λ (p : Port). p.name) x (filter (λ (p : Port). not (is_input p.dir)) (pin_ports m.seat.cell)) (filter-In (λ (p : Port). not (is_input p.dir)) (pin_ports m.seat.cell) x g out_test) in
              let t : In x.name (map (λ (y : Shown). y.pin) (body_of m.seat.cell m.seat.cell.function).shows) =
              subst (λ (ns : List Name). In x.name ns) (sym (shown_pins m.seat.cell m.seat.cell.function m.seat.formed.function (not_opaque s i m))) o in
              let u = In-map_back (λ (y : Shown). y.pin) x.name (body_of m.seat.cell m.seat.cell.function).shows t in
              (u.0, subst (λ (b : Body). In u.0 b.shows) (sym (body_is s i m)) u.1, u.2 ∙ e)
        ]
      ]
