-- What mapping asks of a machine and of a library, and what it gives beside a right netlist.
use Rattle.std.specs.Prelude.{◌≡◌, ◌==◌, ◌↔◌, ℕ, ◌+◌, ◌*◌, ◌^◌, ◌<◌, ◌≤◌, Bool, not, List, length, IsTrue, filter, sum_by}
use Rattle.vlsi_base.specs.Member.{In}
use Rattle.bool_expr.specs.Expression.{bit}
use Rattle.machine_core.specs.Machine.{Machine}
use Rattle.machine_core.specs.Size.{machine_size}
use Rattle.vlsi_base.specs.declared.kind.Kind.{Kind}
use Rattle.cell_model.specs.Library.{Library}
use Rattle.cell_model.specs.Covering.{HasCellOf, needed, IsFirstMissing}
use Rattle.net_core.specs.Netlist.{Netlist as InMemory}
use Rattle.net_meaning.specs.Netlist.{AbstractNetlist}
use Rattle.net_right.specs.View.{IsSeenAs}
use Rattle.net_meaning.specs.Order.{IsInNetlistOrder, IsLean}
use Rattle.net_tight.specs.Tight.{IsTight}
use Rattle.graph_theory.specs.Graph.{Graph, held_count}
use Rattle.boog_map.specs.declared.error.MapError.{MapError}
use Rattle.boog_map.specs.declared.error.MapError.TheVariants as error
use Rattle.boog_map.specs.Reached.{IsReached}

abbrev pub has_registers : Machine → Bool
has_registers m = not (length m.registers == 0)

-- the pins of a netlist's instances are fewer than 2^32
abbrev pub HasRoomForCells : Machine → Type 0
HasRoomForCells m = 8 * (length m.ports + length m.registers + machine_size m + 4) < 2 ^ 32

-- the library has a usable cell of each kind that mapping needs
abbrev pub Covers : Library → Machine → Type 0
Covers l m = (k : Kind) → In k (needed (has_registers m)) → HasCellOf l.cells k

-- why a machine isn't mapped, if memory hasn't run out
abbrev pub IsMapRefusal : Library → Machine → MapError → Type 0
IsMapRefusal l m error.Memory = Unit {0}
IsMapRefusal l m (error.NoCover k) = IsFirstMissing l.cells k (needed (has_registers m))

-- its instances stand in the order of a netlist: q0, q1 and so on, then g0, g1 and so on, each gate after those
-- that it reads
abbrev pub StandsInOrder : InMemory → Library → Machine → Type 0
StandsInOrder n l m = (k : AbstractNetlist) → IsSeenAs n k → IsInNetlistOrder k l m 0

-- there is at most one cell for each register and for each node that is reached from a root
pub record HasOneCellAtMost (n : InMemory) (m : Machine) (g : Graph) : Type 0 where
  pub reached : List Bool
  pub many : length reached ≡ length g.nodes
  pub each : (j : ℕ) → j < length g.nodes → IsTrue (bit reached j) ↔ IsReached (held_count m) g (held_count m + j)
  pub count : length n.instances ≤ length m.registers + length (filter (λ b. b) reached)

-- beside an output and two supplies each instance has its inputs, and there are at most two of these for each register and each
-- node of the graph
abbrev pub HasFewInputs : InMemory → Machine → Graph → Type 0
HasFewInputs n m g = sum_by (λ i. length i.pins) n.instances ≤ 3 * length n.instances + 2 * (length m.registers + length g.nodes)

-- so at most 2 more gates than the machine's size
abbrev pub IsLeanFor : InMemory → Machine → Type 0
IsLeanFor n m = (k : AbstractNetlist) → IsSeenAs n k → IsLean k m

-- no usable cell could stand for two gates, however the netlist is seen
abbrev pub IsTightFor : InMemory → Library → Type 0
IsTightFor n l = (k : AbstractNetlist) → IsSeenAs n k → IsTight k l
