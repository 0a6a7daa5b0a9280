-- The points at which pins are reached lie in the boxes of their cells.
use Rattle.std.proofs.Common.{◌≡◌, inl, inr, ℕ, zero, suc, ◌+◌, ◌*◌, ◌<◌, ◌≤◌, Bool, true, false, List, [], ◌∷◌, map, length, Option, Some, None, sym, ap, subst, ◌∙◌, arith, if◌then◌else◌}
use Rattle.std.specs.Prelude.{ℤ, pos, negsuc, ◌≤ℤ◌, option_map}
use Rattle.std.specs.List.{All}
use Rattle.std.proofs.lemmas.Int.{ints}
use Rattle.std.proofs.lemmas.Option.{same_Some}
use Rattle.vlsi_base.specs.declared.name.Name.{Name}
use Rattle.vlsi_base.specs.declared.name.Port.{Port}
use Rattle.vlsi_base.specs.Member.{In, here, there}
use Rattle.machine_core.specs.Machine.{names_of}
use Rattle.sym_geom.specs.declared.grid.TheConstants.{PITCH}
use Rattle.cell_model.specs.Cell.{Cell, cell_width, cell_height}
use Rattle.cell_model.specs.Access.{Point, count_to, grid_lines, grid_points, is_access_node, access_nodes, access_point}
use Rattle.cell_model.proofs.Members.{In-split, In-map_back, All-from}
use Rattle.cell_checks.specs.Checks.{StandsInRow}
use Rattle.cell_checks.specs.Points.{point_of}
use Rattle.cell_checks.specs.declared.points.GridPoint.{GridPoint}
use Rattle.cell_pins.specs.Pins.{all_ports}
use Rattle.cell_pins.proofs.Sound.{member_at}
use Rattle.std.proofs.lemmas.Option.{slice_get_within}
use Rattle.ocp_place.specs.declared.reach.PinReach.{PinReach}
use Rattle.ocp_place.specs.Reaches.{ArePinReaches, no_pins, one_pin}
use Rattle.ocp_place.specs.Rows.{IsShort, HasShortPins}
use Rattle.ocp_place.proofs.Points.{kept_back, flat_back}

counted_below : (k a : ℕ) → In a (count_to k) → a < k
counted_below zero a i = elim i [ ]
counted_below (suc k) a i = elim (In-split a (count_to k) (k ∷ []) i) [
  | inl h ↦ let less = counted_below k a h in omega (arith, less)
  | inr h ↦ last a h
] where
  last : (x : ℕ) → In x (k ∷ []) → x < suc k
  last x here = omega arith
  last x (there j) = elim j [ ]

-- a grid line lies within the width
line_within : (w : ℤ) (a : ℕ) → a < grid_lines w → pos (PITCH * a) ≤ℤ w
line_within (pos n) a low = omega (arith, ints, low)
line_within (negsuc n) a low = absurd (omega (arith, low))

-- a point of a cell's box, at most as high as a row
pub record LiesIn (c : Cell) (q : Point) : Type 0 where
  pub x : ℕ
  pub y : ℕ
  pub is : q ≡ (pos x, pos y)
  pub wide : pos x ≤ℤ cell_width c
  pub high : y ≤ 5000

pub access_within : (c : Cell) (name : Name) (q : Point) → StandsInRow c → access_point c name ≡ Some q → LiesIn c q
access_within c name q row e =
    let low = row.box.low in let top = row.box.high in
    let height : cell_height c ≡ pos 5000 = omega (arith, ints) in
    let node : In q (access_nodes c name) = member_at (access_nodes c name) _ q e in
    let kept = kept_back (λ (p : Point). if is_access_node c name p then Some p else None) (grid_points c) q node in
    let same : kept.0 ≡ q = passed (is_access_node c name kept.0) kept.0 kept.2 in
    let column = flat_back (λ a. map (λ b. (pos (PITCH * a), pos (PITCH * b))) (count_to (grid_lines (cell_height c)))) (count_to (grid_lines (cell_width c))) kept.0 kept.1 in
    let line = In-map_back (λ b. (pos (PITCH * column.0), pos (PITCH * b))) kept.0 (count_to (grid_lines (cell_height c))) column.2 in
    let across : column.0 < grid_lines (cell_width c) = counted_below (grid_lines (cell_width c)) column.0 column.1 in
    let upwards : line.0 < grid_lines (pos 5000) = subst (λ (z : ℤ). line.0 < grid_lines z) height (counted_below (grid_lines (cell_height c)) line.0 line.1) in
    let inside : pos (PITCH * line.0) ≤ℤ pos 5000 = line_within (pos 5000) line.0 upwards in
    record {
      x = PITCH * column.0;
      y = PITCH * line.0;
      is = sym same ∙ sym line.2;
      wide = line_within (cell_width c) column.0 across;
      high = omega (arith, ints, inside);
    }
  where
    passed : (b : Bool) (p : Point) → (if b then Some p else None) ≡ Some q → p ≡ q
    passed true p h = same_Some p q h
    passed false p h = absurd (cc h)

-- the pins of a cell in a row, where it stands at x
pub short_pins : (c : Cell) (x width : ℕ) → StandsInRow c → pos width ≡ cell_width c → x + width ≤ 100000000000000 → (ports : List Port) (pins : List PinReach) → ArePinReaches c ports pins
    → HasShortPins x pins
short_pins c x width row wide fits ports pins are = All-from (λ (r : PinReach). IsShort x r.point) pins (each ports pins are) where
  short : (r : PinReach) (name : Name) (o : Option GridPoint) → option_map point_of o ≡ access_point c name → IsShort x o
  short r name None e = tt
  short r name (Some g) e =
      let at = access_within c name (pos g.x, pos g.y) row (sym e) in
      let is_x : pos g.x ≡ pos at.x = ap (λ (q : Point). q.0) at.is in
      let is_y : pos g.y ≡ pos at.y = ap (λ (q : Point). q.1) at.is in
      let w = at.wide in let h = at.high in
      (omega (arith, ints, is_x, w, wide, fits), omega (arith, ints, is_y, h))

  each : (ports : List Port) (pins : List PinReach) → ArePinReaches c ports pins → (r : PinReach) → In r pins → IsShort x r.point
  each [] [] no_pins r i = elim i [ ]
  each [] (s ∷ pins) are r i = elim are [ ]
  each (p ∷ ports) [] are r i = elim are [ ]
  each (p ∷ ports) (s ∷ pins) (one_pin is rest) r here = short s p.name s.point is.point
  each (p ∷ ports) (s ∷ pins) (one_pin is rest) r (there i) = each ports pins rest r i

-- each pin of a cell has its place among all pins
pub pins_inside : (c : Cell) (n : ℕ) → length (names_of (all_ports c)) ≡ n → (ports : List Port) (pins : List PinReach) → ArePinReaches c ports pins → All (λ (r : PinReach). r.place < n) pins
pins_inside c n many ports pins are = All-from (λ (r : PinReach). r.place < n) pins (each ports pins are) where
  each : (ports : List Port) (pins : List PinReach) → ArePinReaches c ports pins → (r : PinReach) → In r pins → r.place < n
  each [] [] no_pins r i = elim i [ ]
  each [] (s ∷ pins) are r i = elim are [ ]
  each (p ∷ ports) [] are r i = elim are [ ]
  each (p ∷ ports) (s ∷ pins) (one_pin is rest) r here =
      let low = slice_get_within (names_of (all_ports c)) s.place p.name is.place in omega (arith, low, many)
  each (p ∷ ports) (s ∷ pins) (one_pin is rest) r (there i) = each ports pins rest r i
