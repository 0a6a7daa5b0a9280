-- Where the cells of a row and their pins lie, and how many lines the pins have.
use Rattle.std.proofs.Common.{◌≡◌, ◌⊎◌, inl, inr, ℕ, suc, ◌+◌, ◌*◌, ◌≤◌, Bool, true, false, cond, List, [], ◌∷◌, length, Option, None, Some, refl, sym, ap, subst, ◌∙◌, arith, length-append}
use Rattle.std.specs.Prelude.{ℤ, pos, ◌+ℤ◌, ◌-ℤ◌, ◌≤ℤ◌, flat_map, slice_get, sum_by}
use Rattle.std.proofs.lemmas.Int.{ints}
use Rattle.std.proofs.lemmas.List.{length-map}
use Rattle.std.proofs.lemmas.List.Sums.{sum_by-cons}
use Rattle.vlsi_base.specs.declared.name.Name.{Name}
use Rattle.vlsi_base.specs.declared.name.Port.{Port}
use Rattle.vlsi_base.specs.Member.{In, here, there}
use Rattle.sym_geom.specs.declared.rect.Rect.{Rect}
use Rattle.sym_geom.specs.declared.rect.Transform.{Transform}
use Rattle.sym_geom.specs.declared.item.Instance.{Instance}
use Rattle.sym_geom.specs.declared.item.Item.{Item}
use Rattle.machine_core.specs.Machine.{names_of}
use Rattle.sym_shapes.specs.Shape.{Shape, drawn}
use Rattle.cell_model.specs.Cell.{Function, gate, flip_flop, other, opaque, Cell, pin_ports, cell_outputs, cell_width}
use Rattle.cell_model.specs.Library.{Library, cell_of, IsPlain, IsUsable}
use Rattle.cell_model.specs.Access.{Point, access_point, count_to}
use Rattle.cell_model.proofs.Members.{In-split}
use Rattle.net_meaning.specs.Netlist.{Member, AbstractNetlist, pin_of}
use Rattle.ocp_rows.specs.Placement.{width_of, model_width, row_width, standing}
use Rattle.net_drawing.specs.Clean.{IsInside, IsInStrip, IsClean}
use Rattle.net_drawing.specs.Drawing.{Numbering, along, at_point, of_pin, of_cell, of_pins, riser, port_xs, track_over, net_wiring}
use Rattle.net_drawing.proofs.Access.{reached}
use Rattle.net_drawing.proofs.Coding.{In_get}
use Rattle.net_drawing.proofs.Ranges.{flat_all}
use Rattle.ocp_place.specs.Nets.{driven, driven_by}
use Rattle.route_draw.proofs.Pins.{cell_pins, signal_pins}
use Rattle.route_draw.proofs.Counts.{summed, summed_least, summed_both, summed_none, summed_ones, only_at, only_once, flat_long, flat_sum}

-- the cell of an instance, at most 32 columns wide
pub record IsModelOf (l : Library) (one : Member) : Type 0 where
  pub cell : Cell
  pub found : cell_of l one.model ≡ Some cell
  pub usable : IsUsable cell
  pub clean : IsClean cell
  pub narrow : clean.columns ≤ 32

-- ---- places

pub wide_is : (l : Library) (one : Member) (m : IsModelOf l one) → model_width l one.model ≡ pos (500 * m.clean.columns)
wide_is l one m =
    let a : model_width l one.model ≡ cell_width m.cell = ap width_of m.found in
    let b : cell_width m.cell ≡ pos (500 * m.clean.columns) -ℤ pos 0 = ap (λ (v : Rect). v.x2 -ℤ v.x1) m.clean.box in
    let e : pos (500 * m.clean.columns) -ℤ pos 0 ≡ pos (500 * m.clean.columns) = omega (arith, ints) in
    a ∙ b ∙ e

-- what stands along a row stands at an instance of it
pub spread : {A : Type 0} (l : Library) (h : ℤ → Member → List A) (ms : List Member) (a : ℕ) → ((one : Member) → In one ms → IsModelOf l one) → (y : A) → In y (along l h (pos a) ms)
    → (one : Member) × (b : ℕ) × In one ms × (b ≤ a + 16000 * length ms) × In y (h (pos b) one)
spread l h [] a each y i = elim i [ ]
spread l h (one ∷ rest) a each y i =
    elim (In-split y (h (pos a) one) (along l h (pos a +ℤ model_width l one.model) rest) i) [
      | inl g ↦ (one, a, here, omega arith, g)
      | inr g ↦
          let m = each one here in
          let r = spread l h rest (a + 500 * m.clean.columns) (λ o j. each o (there j)) y
          (subst (λ (z : ℤ). In y (along l h (pos a +ℤ z) rest)) (wide_is l one m) g) in
          let low = r.3 in
          let narrow = m.narrow in
          (r.0, r.1, there r.2, omega (arith, low, narrow), r.4)
    ]

abbrev pub stood : Transform → ℤ → ℤ → Member → List Instance
stood turn y x one = record { x = x; y = y; model = one.model; name = one.name; transform = turn } ∷ []

pub standing_is : (l : Library) (turn : Transform) (y x : ℤ) (ms : List Member) → standing l turn y x ms ≡ along l (stood turn y) x ms
standing_is l turn y x [] = refl
standing_is l turn y x (one ∷ rest) =
    ap (λ (is : List Instance). record { x = x; y = y; model = one.model; name = one.name; transform = turn } ∷ is) (standing_is l turn y (x +ℤ model_width l one.model) rest)

pub standing_long : (l : Library) (turn : Transform) (y x : ℤ) (ms : List Member) → length (standing l turn y x ms) ≡ length ms
standing_long l turn y x [] = refl
standing_long l turn y x (one ∷ rest) = ap suc (standing_long l turn y (x +ℤ model_width l one.model) rest)

-- how wide a row is
pub row_is : (l : Library) (ms : List Member) → ((one : Member) → In one ms → IsModelOf l one) → (w : ℕ) × (pos w ≡ row_width l ms) × (w ≤ 16000 * length ms)
row_is l [] each = (0, refl, omega arith)
row_is l (one ∷ rest) each =
    let m = each one here in
    let r = row_is l rest (λ o j. each o (there j)) in
    let e = r.1 in
    let f = wide_is l one m in
    let low = r.2 in
    let narrow = m.narrow in
    (500 * m.clean.columns + r.0, omega (arith, ints), omega (arith, low, narrow))

-- ---- points of pins

held : (c : Cell) (d : IsClean c) (s : Shape) → In s (drawn c.items) → (s.rect.x2 ≤ℤ pos (500 * d.columns + 300)) × (s.rect.y2 ≤ℤ pos 5000)
held c d s h = by (d.inside s h) where
  by : IsInside d.columns s.rect ⊎ IsInStrip d.columns 0 600 s.rect ⊎ IsInStrip d.columns 4400 5000 s.rect → (s.rect.x2 ≤ℤ pos (500 * d.columns + 300)) × (s.rect.y2 ≤ℤ pos 5000)
  by (inl a) = let p = a.right in let q = a.high in (omega (arith, ints), q)
  by (inr (inl a)) = let p = a.right in let q = a.high in (p, omega (arith, ints))
  by (inr (inr a)) = let p = a.right in let q = a.high in (p, q)

-- a point that isn't far away
pub record IsPinPoint (q : Point) : Type 0 where
  pub x : ℕ
  pub y : ℕ
  pub is : q ≡ (pos x, pos y)
  pub near : x ≤ 1100000000
  pub low : y ≤ 5000

kept : {A : Type 0} (t : Bool) (xs : List A) (y : A) → In y (cond t xs []) → In y xs
kept true xs y i = i
kept false xs y i = elim i [ ]

own_pin : {A : Type 0} (P : A → Type 0) (n : AbstractNetlist) (net : Numbering) (k : ℕ) (g : Point → List A) (l : Library) (one : Member) (m : IsModelOf l one) (b : ℕ) → b ≤ 1060000000
    → ((q : Point) → IsPinPoint q → (y : A) → In y (g q) → P y) → (owner : List ℕ) (pin : Name) → In pin (names_of (pin_ports m.cell))
    → (y : A) → In y (of_pin n net k g (pos b) owner m.cell pin) → P y
own_pin P n net k g l one m b near ok owner pin listed y i =
    let r = reached m.cell m.clean pin listed in
    let s = held m.cell m.clean r.pin r.listed in
    let wide = s.0 in
    let high = s.1 in
    let right = r.holds.right in
    let top = r.holds.high in
    let narrow = m.narrow in
    let column : r.column ≤ 33 = omega (arith, ints) in
    let row : 500 * r.row ≤ 5000 = omega (arith, ints) in
    let j : In y (at_point g (pos b) (access_point m.cell pin)) = kept _ (at_point g (pos b) (access_point m.cell pin)) y i in
    let h : In y (at_point g (pos b) (Some (pos (500 * r.column), pos (500 * r.row)))) = subst (λ (o : Option Point). In y (at_point g (pos b) o)) r.point j in
    ok (pos (500 * r.column + b), pos (500 * r.row))
    (record { x = 500 * r.column + b; y = 500 * r.row; is = refl; near = omega (arith, column, near); low = row })
    y h

-- what holds of all that points of pins give
pub pins_all : {A : Type 0} (P : A → Type 0) (n : AbstractNetlist) (l : Library) (net : Numbering) (k : ℕ) (g : Point → List A)
    → ((one : Member) → In one n.instances → IsModelOf l one) → length n.instances ≤ 65536
    → ((q : Point) → IsPinPoint q → (y : A) → In y (g q) → P y) → (y : A) → In y (of_pins n l net k g) → P y
pins_all P n l net k g each few ok y i =
    let r = spread l (λ x one. of_cell n net k g x one.name (cell_of l one.model)) n.instances 1500 each y i in
    let m = each r.0 r.2 in
    let low = r.3 in
    let j : In y (of_cell n net k g (pos r.1) r.0.name (Some m.cell)) =
    subst (λ (o : Option Cell). In y (of_cell n net k g (pos r.1) r.0.name o)) m.found r.4 in
    flat_all P (names_of (pin_ports m.cell)) (of_pin n net k g (pos r.1) r.0.name m.cell)
    (λ p pin at z h. own_pin P n net k g l r.0 m r.1 (omega (arith, low, few)) ok r.0.name pin (In_get (names_of (pin_ports m.cell)) p pin at) z h) y j

-- ---- how many outputs there are

plain_outputs : (c : Cell) (f : Function) → IsPlain c f → length (cell_outputs c) ≡ 1
plain_outputs c (gate e) h = h.0
plain_outputs c (flip_flop data_pin clock_pin) h = h.0
plain_outputs c (other machine) h = elim h [ ]
plain_outputs c opaque h = elim h [ ]

pub driven_few : (n : AbstractNetlist) (l : Library) (ms : List Member) → ((one : Member) → In one ms → IsModelOf l one) → length (driven n l ms) ≤ length ms
driven_few n l [] each = omega arith
driven_few n l (one ∷ rest) each =
    let m = each one here in
    let a = length-append (driven_by n one.name (cell_of l one.model)) (driven n l rest) in
    let b = ap (λ (o : Option Cell). length (driven_by n one.name o)) m.found in
    let d = length-map (cell_outputs m.cell) (λ (pin : Name). n.class (pin_of one.name pin)) in
    let e = plain_outputs m.cell m.cell.function m.usable.function in
    let f = driven_few n l rest (λ o j. each o (there j)) in
    omega (arith, a, b, d, e, f)

-- ---- how many lines the nets have together

track_most : (k : ℕ) (name : Option Name) (ps xs : List ℤ) → length (track_over k name ps xs) ≤ 1
track_most k name ps [] = omega arith
track_most k name ps (x ∷ xs) = omega arith

point_most : (k : ℕ) (name : Option Name) (x : ℤ) (o : Option Point) → length (at_point (riser k name) x o) ≤ 4
point_most k name x None = omega arith
point_most k name x (Some q) = omega arith

pin_most : {A : Type 0} (t : Bool) (xs : List A) → length xs ≤ 4 → length (cond t xs []) ≤ cond t 4 0
pin_most true xs h = h
pin_most false xs h = omega arith

along_sum : {A : Type 0} (l : Library) (f : ℕ → ℤ → Member → List A) (b : Member → ℕ) (many : ℕ) (ms : List Member) (x : ℤ)
    → ((one : Member) → In one ms → (z : ℤ) → summed (λ k. length (f k z one)) many ≤ 4 * b one) → summed (λ k. length (along l (f k) x ms)) many ≤ 4 * sum_by b ms
along_sum l f b many [] x each = let a = summed_none many in omega (arith, a)
along_sum l f b many (one ∷ rest) x each =
    let y = x +ℤ model_width l one.model in
    let a = summed_both (λ k. length (along l (f k) x (one ∷ rest))) (λ k. length (f k x one)) (λ k. length (along l (f k) y rest)) many (λ k. length-append (f k x one) (along l (f k) y rest)) in
    let c = each one here x in
    let d = along_sum l f b many rest y (λ o i. each o (there i)) in
    let e = sum_by-cons b one rest in
    omega (arith, a, c, d, e)

module _ (n : AbstractNetlist) (l : Library) (net : Numbering) (ports : List Name) (many : ℕ) where
  abbrev rises : ℕ → Point → List Item
  rises k = riser k (slice_get ports k)

  one_pin : (x : ℤ) (owner : List ℕ) (c : Cell) (pin : Name) → summed (λ k. length (of_pin n net k (rises k) x owner c pin)) many ≤ 4
  one_pin x owner c pin =
      let a = net (n.class (pin_of owner pin)) in
      let b = summed_least (λ k. length (of_pin n net k (rises k) x owner c pin)) (only_at 4 a) many
      (λ k. pin_most _ (at_point (rises k) x (access_point c pin)) (point_most k (slice_get ports k) x (access_point c pin))) in
      let d = only_once 4 a many in
      omega (arith, b, d)

  one_cell : (one : Member) → IsModelOf l one → (x : ℤ) → summed (λ k. length (of_cell n net k (rises k) x one.name (cell_of l one.model))) many ≤ 4 * signal_pins l one
  one_cell one m x =
      subst (λ (o : Option Cell). summed (λ k. length (of_cell n net k (rises k) x one.name o)) many ≤ 4 * cell_pins o) (sym m.found)
      (let a = flat_sum (λ k. of_pin n net k (rises k) x one.name m.cell) 4 many (names_of (pin_ports m.cell)) (λ pin i. one_pin x one.name m.cell pin) in
      let b = length-map (pin_ports m.cell) (λ (p : Port). p.name) in
      omega (arith, a, b))

  pub nets_few : ((one : Member) → In one n.instances → IsModelOf l one)
      → length (flat_map (net_wiring n l net ports) (count_to many)) ≤ many + 4 * sum_by (signal_pins l) n.instances
  nets_few each =
      let xs = λ (k : ℕ). track_over k (slice_get ports k) (port_xs (slice_get ports k)) (of_pins n l net k (λ (q : Point). q.0 ∷ [])) in
      let a = flat_long (net_wiring n l net ports) many in
      let b = summed_both (λ k. length (net_wiring n l net ports k)) (λ k. length (xs k)) (λ k. length (of_pins n l net k (rises k))) many
      (λ k. length-append (xs k) (of_pins n l net k (rises k))) in
      let c = summed_least (λ k. length (xs k)) (λ k. 1) many
      (λ k. track_most k (slice_get ports k) (port_xs (slice_get ports k)) (of_pins n l net k (λ (q : Point). q.0 ∷ []))) in
      let d = summed_ones many in
      let e = along_sum l (λ k x one. of_cell n net k (rises k) x one.name (cell_of l one.model)) (signal_pins l) many n.instances (pos 1500) (λ one i x. one_cell one (each one i) x) in
      omega (arith, a, b, c, d, e)
