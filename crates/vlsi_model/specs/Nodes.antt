-- Defined bits as nodes that read each other. A node is a place in the list of the defined bits.
use Rattle.std.specs.Prelude.{◌≡◌, ℕ, ◌<◌, List, map, length, nat_lt, filter, slice_index}
use Rattle.bool_expr.specs.Expression.{Expression, variables}
use Rattle.bool_expr.specs.Support.{first_meetings}
use Rattle.bit_order.specs.declared.outcome.Order.{Order}
use Rattle.bit_order.specs.Order.{IsOrderOf}

-- each bit that is defined has its place, and every other bit has the number of them all
pub record HasNodes (bits nodes : List ℕ) (total : ℕ) : Type 0 where
  pub each : length nodes ≡ total
  pub there : (j : ℕ) → j < length bits → slice_index nodes (slice_index bits j) ≡ j
  pub back : (b : ℕ) → b < total → slice_index nodes b < length bits → slice_index bits (slice_index nodes b) ≡ b

-- the nodes that an expression reads
abbrev pub nodes_read : ℕ → List ℕ → Expression → List ℕ
nodes_read count nodes e = filter (λ n. nat_lt n count) (map (slice_index nodes) (first_meetings (variables e)))

-- an order of the bits by what they read among each other, or a ring of them
pub record IsOrderOfBits (bits : List ℕ) (exprs : List Expression) (total : ℕ) (o : Order) : Type 0 where
  pub nodes : List ℕ
  pub has : HasNodes bits nodes total
  pub order : IsOrderOf (map (nodes_read (length bits) nodes) exprs) o
