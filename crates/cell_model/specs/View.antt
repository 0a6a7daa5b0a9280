-- What a function in memory is, without where its parts lie.
use Rattle.bool_expr.specs.View.{view}
use Rattle.cell_model.specs.Function.{Function, gate, flip_flop, other, opaque}
use Rattle.cell_model.specs.declared.function.Function.{Function as Parts}
use Rattle.cell_model.specs.declared.function.Function.TheVariants as parts

abbrev pub function_view : Parts → Function
function_view (parts.Gate e) = gate (view e)
function_view (parts.FlipFlop data_pin clock_pin) = flip_flop data_pin clock_pin
function_view (parts.Other m) = other m
function_view parts.Opaque = opaque
