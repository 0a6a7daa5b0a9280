-- The loads of a netlist behind an exchange.
use Rattle.std.proofs.Common.{◌≡◌, ℕ, ◌+◌, ◌*◌, ◌^◌, ◌<◌, ◌≤◌, List, map, length, get_or, refl, sym, ap, ◌∙◌, subst, arith}
use Rattle.std.specs.List.{All}
use Rattle.vlsi_base.specs.declared.name.Name.{Name}
use Rattle.cell_model.specs.declared.cell.Pin.{Pin}
use Rattle.cell_model.specs.Cell.{Cell}
use Rattle.cell_model.specs.Library.{Library}
use Rattle.cell_checks.specs.Checked.{library_of}
use Rattle.net_core.specs.Netlist.{Instance, Netlist}
use Rattle.net_core.specs.declared.frame.Node.{Node}
use Rattle.net_core.specs.Frame.{instance_of}
use Rattle.net_core.specs.Places.{Stands}
use Rattle.net_core.proofs.Frames.{mapped}
use Rattle.net_core.proofs.Standing.{stands_same}
use Rattle.std.proofs.lemmas.Option.{slice_get_read, get_or_from_slice_get}
use Rattle.cell_checks.specs.Arcs.{HaveTheirArcs}
use Rattle.delay_sta.specs.Loads.{input_capacitance}
use Rattle.delay_sta.specs.Timed.{CanBeTimed}
use Rattle.delay_sta.specs.Exchanged.{IsExchangeAt, IsSetTo}
use Rattle.delay_sta.specs.Changes.{pin_load, ArePinClasses, AreLoads}
use Rattle.delay_sta.proofs.Differing.{changed, differ_at, set_to_is}
use Rattle.delay_sta.proofs.Reloading.{load_moves, load_had, load_room, short_over}

-- the element at a place
pub at_index : {X : Type 0} (xs : List X) (k : ℕ) (x y : X) → x ≡ get_or xs k x → Stands xs k y → x ≡ y
at_index xs k x y at s = at ∙ get_or_from_slice_get xs k y x s

pub cells_stand : (l : Library) (cells : List Cell) (k : ℕ) (x : Cell) → library_of cells ≡ l → Stands l.cells k x → Stands cells k x
cells_stand l cells k x e s = subst (λ (cs : List Cell). Stands cs k x) (sym (ap (λ (m : Library). m.cells) e)) s

pub cell_there : (l : Library) (cells : List Cell) (k : ℕ) (r x : Cell) → library_of cells ≡ l → Stands l.cells k x → Stands l.cells k (get_or cells k r)
cell_there l cells k r x e s = subst (λ (d : Cell). Stands l.cells k d) (sym (get_or_from_slice_get cells k x r (cells_stand l cells k x e s))) s

pub names_at : (n : Netlist) (nodes : List Node) (k : ℕ) (node : Node) (i : Instance) → map (instance_of n.models) nodes ≡ n.instances → k < length nodes → node ≡ get_or nodes k node → Stands n.instances k i
    → node.pins ≡ i.pins
names_at n nodes k node i seen low at s =
    let here = mapped (instance_of n.models) nodes k node (slice_get_read nodes (length nodes) k node refl low at) in
    ap (λ (o : Instance). o.pins) (stands_same n.instances k (instance_of n.models node) i (subst (λ (is : List Instance). Stands is k (instance_of n.models node)) seen here) s)

pub names_each : (n : Netlist) (number : ℕ) (owner : Instance) → Stands n.instances number owner → (classes : List ℕ) (c : ArePinClasses n number classes) (names : List Name) → names ≡ owner.pins → length names ≡ length classes
names_each n number owner s classes c names names_are = ap length names_are ∙ ap (λ (o : Instance). length o.pins) (stands_same n.instances number owner c.owner s c.stands) ∙ sym c.many

module _ (l : Library) (n : Netlist) (number place : ℕ) (x : IsExchangeAt l n number place) (timed : CanBeTimed l n) (have : HaveTheirArcs l)
    (classes : List ℕ) (c : ArePinClasses n number classes) (loads : List ℕ) (are : AreLoads n l loads) (names : List Name) (old : List Pin)
    (names_are : names ≡ x.owner.pins) (old_are : old ≡ x.was.pins) where
  low : (class : ℕ) → class < length loads → class < n.count
  low class h = let m = are.many in omega (arith, h, m)

  old_load : (class : ℕ) → pin_load old names classes class ≡ pin_load x.was.pins x.owner.pins classes class
  old_load class = ap (λ (ps : List Pin). pin_load ps names classes class) old_are ∙ ap (λ (ns : List Name). pin_load x.was.pins ns classes class) names_are

  pub old_had : (class : ℕ) → class < length loads → pin_load old names classes class ≤ get_or loads class 0
  old_had class h =
      let a = load_had l n (changed n number x.owner x.now.name) number (differ_at l n number place x timed have) classes c class in
      let b = are.each class (low class h) in
      let e = old_load class in
      omega (arith, a, b, e)

  -- what is left when those of the old cell are taken away
  pub new_room : (left : List ℕ) → length left ≡ length loads → ((class : ℕ) → class < length loads → get_or left class 0 + pin_load old names classes class ≡ get_or loads class 0)
      → length n.classes < 2 ^ 32 → (class : ℕ) → class < length left → get_or left class 0 + length names * 4294967296 < 2 ^ 64
  new_room left many taken few class h =
      let t = taken class (omega (arith, h, many)) in
      let b = are.each class (low class (omega (arith, h, many))) in
      let e = old_load class in
      let r = load_room l n (changed n number x.owner x.now.name) number (differ_at l n number place x timed have) classes c are.short few class (get_or left class 0) (omega (arith, t, b, e)) in
      let m = ap length names_are in
      omega (arith, r, m)

  pub now_loads : (new : List Pin) → new ≡ x.now.pins → (left : List ℕ) → length left ≡ length loads → ((class : ℕ) → class < length loads → get_or left class 0 + pin_load old names classes class ≡ get_or loads class 0)
      → (now : List ℕ) → length now ≡ length left → ((class : ℕ) → class < length left → get_or now class 0 ≡ get_or left class 0 + pin_load new names classes class)
      → All (λ k. k < 2 ^ 32) (map (input_capacitance new) names) → (m : Netlist) → IsSetTo l n m number place → AreLoads m l now
  now_loads new new_are left many taken now as_many given short m set = subst (λ (k : Netlist). AreLoads k l now) (sym (set_to_is l n m number place x set)) (record {
    many = as_many ∙ many ∙ are.many;
    each = λ class h.
        let s : class < length left = (let a = are.many in omega (arith, h, many, a)) in
        let g = given class s in
        let t = taken class (omega (arith, s, many)) in
        let b = are.each class h in
        let e = old_load class in
        let f : pin_load new names classes class ≡ pin_load x.now.pins x.owner.pins classes class =
        ap (λ (ps : List Pin). pin_load ps names classes class) new_are ∙ ap (λ (ns : List Name). pin_load x.now.pins ns classes class) names_are in
        let v = load_moves l n (changed n number x.owner x.now.name) number (differ_at l n number place x timed have) classes c class in
        omega (arith, g, t, b, e, f, v);
    short = short_over l n (changed n number x.owner x.now.name) number (differ_at l n number place x timed have) classes c are.short
        (subst (λ (ps : List Pin). All (λ k. k < 2 ^ 32) (map (input_capacitance ps) x.owner.pins)) new_are
        (subst (λ (ns : List Name). All (λ k. k < 2 ^ 32) (map (input_capacitance new) ns)) names_are short));
  })
