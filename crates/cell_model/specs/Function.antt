-- What cells compute.
use Rattle.vlsi_base.specs.declared.name.Name.{Name}
use Rattle.bool_expr.specs.Expression.{Expression}
use Rattle.machine_core.specs.Machine.{Machine}

-- what a cell computes
pub data Function : Type 0 where
  -- its one output has this value, where variable k is input pin k
  gate : Expression → Function
  -- a plain flip-flop: at the rise of the second pin, the clock, it takes the bit of the first, the data pin; its output
  -- shows the bit that it holds
  flip_flop : Name → Name → Function
  -- what a machine does whose ports are the pins: a cell with other registers, with several outputs, or with pins that are
  -- bits of vectors
  other : Machine → Function
  -- nothing is known of it
  opaque : Function
