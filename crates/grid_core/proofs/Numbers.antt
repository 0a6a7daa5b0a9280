-- Nodes and their numbers.
use Rattle.std.proofs.Common.{ℕ, zero, suc, ◌≡◌, ◌+◌, ◌-◌, ◌*◌, ◌/◌, ◌%◌, ◌<◌, ◌≤◌, arith, sym, ◌∙◌, ap, refl, mul_comm, zero-mul, mul-zero}
use Rattle.std.proofs.lemmas.Nat.{div-mul-add, mod-mul-add, mul-add-lt, div-add-mod', mod_below, div_below, mul-le}
use Rattle.grid_core.specs.declared.grid.Grid.{Grid}
use Rattle.grid_core.specs.declared.grid.Node.{Node}
use Rattle.grid_core.specs.Grid.{IsInGrid}
use Rattle.grid_core.specs.Numbers.{number, node_of, plane, nodes}

pub below_plane : (g : Grid) (r c : ℕ) → r < g.rows → c < g.columns → r * g.columns + c < plane g
below_plane g r c hr hc = mul-add-lt r g.columns c g.rows hr hc

pub below_nodes : (g : Grid) (l x : ℕ) → l < g.metals - 1 → x < plane g → l * plane g + x < nodes g
below_nodes g l x hl hx = mul-add-lt l (plane g) x (g.metals - 1) hl hx

pub number_below : (g : Grid) (p : Node) → IsInGrid g p → number g p < nodes g
number_below g p h =
    let low = h.low in
    let high = h.high in
    below_nodes g (p.metal - 2) (p.row * g.columns + p.column) (omega arith) (below_plane g p.row p.column h.row h.column)

-- the parts of a number
pub layer_of : (g : Grid) (l r c : ℕ) → r < g.rows → c < g.columns → (l * plane g + (r * g.columns + c)) / plane g ≡ l
layer_of g l r c hr hc = let lt = below_plane g r c hr hc in div-mul-add l (plane g) (r * g.columns + c) lt

pub rest_of : (g : Grid) (l r c : ℕ) → r < g.rows → c < g.columns → (l * plane g + (r * g.columns + c)) % plane g ≡ r * g.columns + c
rest_of g l r c hr hc = let lt = below_plane g r c hr hc in mod-mul-add l (plane g) (r * g.columns + c) lt

same_node : (p : Node) (m c r : ℕ) → m ≡ p.metal → c ≡ p.column → r ≡ p.row → (let q : Node = record { metal = m; column = c; row = r } in q ≡ p)
same_node p m c r em ec er = rw (em, ec, er) refl

pub node_of-number : (g : Grid) (p : Node) → IsInGrid g p → node_of g (number g p) ≡ p
node_of-number g p h =
    let low = h.low in
    let e1 = layer_of g (p.metal - 2) p.row p.column h.row h.column in
    let e2 = rest_of g (p.metal - 2) p.row p.column h.row h.column in
    let e3 : p.metal - 2 + 2 ≡ p.metal = omega arith in
    let hc = h.column in
    same_node p _ _ _ (ap (λ x. x + 2) e1 ∙ e3)
    (ap (λ x. x % g.columns) e2 ∙ mod-mul-add p.row g.columns p.column hc)
    (ap (λ x. x / g.columns) e2 ∙ div-mul-add p.row g.columns p.column hc)

pub same_number : (g : Grid) (p q : Node) → IsInGrid g p → IsInGrid g q → number g p ≡ number g q → p ≡ q
same_number g p q hp hq e = sym (node_of-number g p hp) ∙ ap (node_of g) e ∙ node_of-number g q hq

pub positive : (a b x : ℕ) → x < a * b → (0 < a) × (0 < b)
positive zero b x h = let h' : x < 0 = rw (zero-mul b) at h in omega arith
positive (suc a) zero x h = let h' : x < 0 = rw (mul-zero (suc a)) at h in omega arith
positive (suc a) (suc b) x h = (omega arith, omega arith)

-- where a number of the grid lies
pub record Lies (g : Grid) (u : ℕ) : Type 0 where
  pub layer : u / plane g < g.metals - 1
  pub row : u % plane g / g.columns < g.rows
  pub column : u % plane g % g.columns < g.columns
  pub columns : 0 < g.columns
  pub some : 0 < plane g
  pub rest : u % plane g < plane g

pub lies : (g : Grid) (u : ℕ) → u < nodes g → Lies g u
lies g u hu =
    let p = positive (plane g) (g.metals - 1) u hu in
    let below = mod_below u (plane g) p.0 in
    let q = positive g.columns g.rows (u % plane g) below in
    record {
      layer = div_below u (plane g) (g.metals - 1) p.0 (rw (mul_comm (g.metals - 1) (plane g)) hu);
      row = div_below (u % plane g) g.columns g.rows q.0 (rw (mul_comm g.rows g.columns) below);
      column = mod_below (u % plane g) g.columns q.0;
      columns = q.0;
      some = p.0;
      rest = below;
    }

pub node_in_grid : (g : Grid) (u : ℕ) → u < nodes g → IsInGrid g (node_of g u)
node_in_grid g u hu =
    let h = lies g u hu in
    let l = h.layer in
    record { low = omega arith; high = omega arith; column = h.column; row = h.row }

pub number-node_of : (g : Grid) (u : ℕ) → number g (node_of g u) ≡ u
number-node_of g u =
    let e : u / plane g + 2 - 2 ≡ u / plane g = omega arith in
    rw (e, div-add-mod' (u % plane g) g.columns) (div-add-mod' u (plane g))

-- a metal has no more nodes than the grid
pub plane_few : (g : Grid) (l : ℕ) → l < g.metals - 1 → plane g ≤ nodes g
plane_few g l hl =
    let one : 1 ≤ g.metals - 1 = omega arith in
    let a = mul-le (plane g) 1 (plane g) (g.metals - 1) (omega arith) one in
    omega arith
