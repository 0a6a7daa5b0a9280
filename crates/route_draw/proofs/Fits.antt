-- Lines over rows that the format can hold and that are within its limits.
use Rattle.std.proofs.Common.{ℕ, zero, suc, ◌+◌, ◌-◌, ◌*◌, ◌<◌, ◌≤◌, Bool, true, false, List, [], ◌∷◌, ◌++◌, map, length, Option, Some, sym, subst, arith, rules, if◌then◌else◌}
use Rattle.std.specs.Prelude.{ℤ, pos, ◌/◌, nat_eq, flat_map, codes}
use Rattle.std.specs.List.{AllByRecursion}
use Rattle.std.specs.Fmt.{decimal}
use Rattle.std.proofs.lemmas.Int.{ints}
use Rattle.std.proofs.lemmas.List.Sums.{AllPass-from_list_all}
use Rattle.std.proofs.lemmas.Grind.{flat_map-append}
use Rattle.std.proofs.Math.Nat.{mul-le-mul_right}
use Rattle.vlsi_base.specs.declared.name.Name.{Name}
use Rattle.vlsi_base.specs.Names.{vdd, vss}
use Rattle.vlsi_base.specs.Member.{In, here, there}
use Rattle.sym_geom.specs.declared.layer.Layer.{Layer}
use Rattle.sym_geom.specs.declared.layer.Layer.TheVariants.{Alu}
use Rattle.sym_geom.specs.declared.layer.Level.TheVariants.{One, Three}
use Rattle.sym_geom.specs.declared.item.Contact.TheVariants.{Via1, Via2, Via3, Via4, Via5}
use Rattle.sym_geom.specs.declared.item.Item.{Item}
use Rattle.ap_io.specs.ApText.{IsLine, IsContact, IsNear, IsItemWithin, is_field_byte}
use Rattle.ap_io.proofs.NumbersAgain.{number_again}
use Rattle.cell_model.specs.Access.{count_to}
use Rattle.ocp_rows.specs.Placement.{level_wire, upright_wire, north_port, column_x, row_y, port_column, port_row, grid_ports, last_of, strap_vias, strap}
use Rattle.ocp_place.specs.Stood.{is_turned}
use Rattle.grid_core.specs.declared.grid.Node.{Node}
use Rattle.grid_core.specs.Grid.{is_level}
use Rattle.maze_drawing.specs.Wiring.{level_of, contact_of, wire_between, via_item}
use Rattle.maze_drawing.specs.Law.{mark}
use Rattle.route_draw.specs.GridPieces.{rail_ys_from, rail_ys, row_rails, supplies_over}
use Rattle.route_draw.proofs.Goods.{IsGood, IsGoodLabel, vdd_label, vss_label, level_good, upright_good, low_via_good, high_via_good}
use Rattle.route_draw.proofs.Written.{wire_width, rail_width, near_pos}

-- a line that the format can hold, within the limits
pub record IsFit (one : Item) : Type 0 where
  pub line : IsLine one
  pub within : IsItemWithin one

abbrev pub AreFit : List Item → Type 0
AreFit items = AllByRecursion IsFit items

pub fit : {one : Item} → IsGood one → IsFit one
fit good = record { line = good.line; within = good.within }

pub fit_append : (xs ys : List Item) → AreFit xs → AreFit ys → AreFit (xs ++ ys)
fit_append [] ys a b = b
fit_append (x ∷ xs) ys a b = (a.0, fit_append xs ys a.1 b)

pub map_fit : {A : Type 0} (f : A → Item) (xs : List A) → ((x : A) → In x xs → IsFit (f x)) → AreFit (map f xs)
map_fit f [] each = tt
map_fit f (x ∷ xs) each = (each x here, map_fit f xs (λ y i. each y (there i)))

pub numbered_fit : (f : ℕ → List Item) (many : ℕ) → ((k : ℕ) → k < many → AreFit (f k)) → AreFit (flat_map f (count_to many))
numbered_fit f zero each = tt
numbered_fit f (suc many) each =
    subst (λ (items : List Item). AreFit items) (sym (flat_map-append f (count_to many) (many ∷ [])))
    (fit_append (flat_map f (count_to many)) (flat_map f (many ∷ [])) (numbered_fit f many (λ k low. each k (omega (arith, low))))
    (fit_append (f many) [] (each many (omega arith)) tt))

-- ---- places

pub near_column : (c : ℕ) → c ≤ 100000000 → IsNear (column_x c)
near_column c low = near_pos (1500 + 500 * c) (omega (arith, low))

pub near_row : (r : ℕ) → r ≤ 100000000 → IsNear (row_y r)
near_row r low = near_pos (500 * r) (omega (arith, low))

-- ---- ports

north_fit : (x y : ℤ) (name : Name) → IsNear x → IsNear y → IsGoodLabel (Some name) → IsFit (north_port (Alu Three) (pos 200) x y name)
north_fit x y name a b good = record {
  line = (omega (arith, ints), good.label);
  within = (a, b, near_pos 200 (omega arith), good.short, omega arith);
}

pub port_column_low : (count columns k : ℕ) → k < count → 1 ≤ columns → port_column count columns k ≤ columns
port_column_low count columns k low some =
    let q = (columns - 1) / count in
    let a : k * q ≤ count * q = mul-le-mul_right q (omega (arith, low)) in
    let b : count * ((columns - 1) / count) ≤ columns - 1 = omega (arith, low) in
    omega (arith, a, b, some)

pub ports_fit : (column : ℕ → ℕ) (rows k : ℕ) (names : List Name) → rows ≤ 256 → ((j : ℕ) → j < k + length names → column j ≤ 100000000)
    → ((name : Name) → In name names → IsGoodLabel (Some name)) → AreFit (grid_ports column rows k names)
ports_fit column rows k [] few low labels = tt
ports_fit column rows k (name ∷ rest) few low labels = (
  north_fit (column_x (column k)) (row_y (port_row rows)) name (near_column (column k) (low k (omega arith))) (near_row (10 * rows + 1) (omega (arith, few))) (labels name here),
  ports_fit column rows (suc k) rest few (λ j less. low j (omega (arith, less))) (λ other i. labels other (there i)),
)

-- ---- supplies

abbrev AreLow : List ℕ → Type 0
AreLow ys = AllByRecursion (λ y. y ≤ 2000000) ys

pick_low : (b : Bool) (u t : ℕ) → u ≤ 5000 → t ≤ 5000 → (if b then t else u) ≤ 5000
pick_low true u t p q = q
pick_low false u t p q = p

ys_low : (u t r many : ℕ) → u ≤ 5000 → t ≤ 5000 → r + many ≤ 256 → AreLow (rail_ys_from u t r many)
ys_low u t r zero p q few = tt
ys_low u t r (suc many) p q few =
    let a = pick_low (is_turned r) u t p q in (
      omega (arith, a, few),
      ys_low u t (suc r) many p q (omega (arith, few)),
    )

near_low : (y : ℕ) → y ≤ 2000000 → IsNear (pos y)
near_low y low = near_pos y (omega (arith, low))

rails_fit : (end : ℕ) (lows highs : List ℕ) → IsNear (pos end) → AreLow lows → AreLow highs → AreFit (row_rails end lows highs)
rails_fit end [] highs near a b = tt
rails_fit end (low ∷ lows) [] near a b = tt
rails_fit end (low ∷ lows) (high ∷ highs) near a b =
    let start = near_pos 500 (omega arith) in (
      fit (level_good (Alu One) 600 (pos 500) (pos end) (pos low) (Some vss) rail_width start near (near_low low a.0) vss_label),
      (
        fit (level_good (Alu One) 600 (pos 500) (pos end) (pos high) (Some vdd) rail_width start near (near_low high b.0) vdd_label),
        rails_fit end lows highs near a.1 b.1,
      ),
    )

vias_fit : (x : ℤ) (name : Name) (ys : List ℕ) → IsNear x → IsGoodLabel (Some name) → AreLow ys → AreFit (strap_vias x name (map pos ys))
vias_fit x name [] near label low = tt
vias_fit x name (y ∷ ys) near label low = (
  fit (low_via_good x (pos y) (Some name) near (near_low y low.0) label),
  (fit (high_via_good x (pos y) (Some name) near (near_low y low.0) label), vias_fit x name ys near label low.1),
)

last_near : (y : ℕ) (ys : List ℕ) → y ≤ 2000000 → AreLow ys → IsNear (last_of (pos y) (map pos ys))
last_near y [] a low = near_low y a
last_near y (z ∷ zs) a low = last_near z zs low.0 low.1

strap_fit : (x : ℤ) (name : Name) (ys : List ℕ) → IsNear x → IsGoodLabel (Some name) → AreLow ys → AreFit (strap x name (map pos ys))
strap_fit x name [] near label low = tt
strap_fit x name (y ∷ ys) near label low = (
  fit (upright_good (Alu Three) 200 x (pos y) (last_of (pos y) (map pos ys)) (Some name) wire_width near (near_low y low.0) (last_near y ys low.0 low.1) label),
  vias_fit x name (y ∷ ys) near label low,
)

pub supplies_fit : (width rows : ℕ) → width ≤ 1100000000 → rows ≤ 256 → AreFit (supplies_over width rows)
supplies_fit width rows narrow few =
    let lows = ys_low 300 4700 0 rows (omega arith) (omega arith) (omega (arith, few)) in
    let highs = ys_low 4700 300 0 rows (omega arith) (omega arith) (omega (arith, few)) in
    fit_append (row_rails (1500 + width) (rail_ys 300 4700 rows) (rail_ys 4700 300 rows)) _
    (rails_fit (1500 + width) (rail_ys 300 4700 rows) (rail_ys 4700 300 rows) (near_pos (1500 + width) (omega (arith, narrow))) lows highs)
    (fit_append (strap (pos 500) vss (map pos (rail_ys 300 4700 rows))) _
    (strap_fit (pos 500) vss (rail_ys 300 4700 rows) (near_pos 500 (omega arith)) vss_label lows)
    (strap_fit (pos 1000) vdd (rail_ys 4700 300 rows) (near_pos 1000 (omega arith)) vdd_label highs))

-- ---- wires and vias

between_fit : (v : Bool) (layer : Layer) (x1 x2 y1 y2 : ℤ) (name : Option Name) → IsNear x1 → IsNear x2 → IsNear y1 → IsNear y2 → IsGoodLabel name
    → IsFit (if v then level_wire layer (pos 200) x1 x2 y1 name else upright_wire layer (pos 200) x1 y1 y2 name)
between_fit true layer x1 x2 y1 y2 name a b c d label = fit (level_good layer 200 x1 x2 y1 name wire_width a b c label)
between_fit false layer x1 x2 y1 y2 name a b c d label = fit (upright_good layer 200 x1 y1 y2 name wire_width a c d label)

-- a node that isn't far away
pub record IsNearNode (q : Node) : Type 0 where
  pub column : q.column ≤ 100000000
  pub row : q.row ≤ 100000000

pub wire_fit : (name : Option Name) (a b : Node) → IsNearNode a → IsNearNode b → IsGoodLabel name → IsFit (wire_between name a b)
wire_fit name a b p q label =
    between_fit (is_level a.metal) (Alu (level_of a.metal)) (column_x a.column) (column_x b.column) (row_y a.row) (row_y b.row) name
    (near_column a.column p.column) (near_column b.column q.column) (near_row a.row p.row) (near_row b.row q.row) label

contact_by : (a b c d : Bool) → IsContact (if a then Via2 else if b then Via3 else if c then Via4 else if d then Via5 else Via1)
contact_by true b c d = tt
contact_by false true c d = tt
contact_by false false true d = tt
contact_by false false false true = tt
contact_by false false false false = tt

contact_plain : (m : ℕ) → IsContact (contact_of m)
contact_plain m = contact_by (nat_eq m 2) (nat_eq m 3) (nat_eq m 4) (nat_eq m 5)

pub via_fit : (name : Option Name) (v : Node) → IsNearNode v → IsGoodLabel name → IsFit (via_item name v)
via_fit name v near label = record {
  line = (contact_plain v.metal, label.label);
  within = (near_column v.column near.column, near_row v.row near.row, label.short);
}

-- ---- marks

pub mark_fit : (k : ℕ) (q : Node) → k ≤ 1000000 → IsNearNode q → IsFit (mark k q)
mark_fit k q low near = record {
  line = ((search rules, search rules), AllPass-from_list_all is_field_byte (codes "n" ++ decimal k) (number_again (pos k) (omega (arith, low))).bytes);
  within = (near_column q.column near.column, near_row q.row near.row, omega arith);
}
