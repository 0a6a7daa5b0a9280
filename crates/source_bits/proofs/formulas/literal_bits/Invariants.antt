use Rattle.std.proofs.Common.{◌≡◌, ◌++◌, map, drop}
use Rattle.bool_expr.specs.View.{view}
use Rattle.bool_expr.specs.Expression.{constant}
use Rattle.vlsi_base.specs.Radix.{digit_width}
use Rattle.source_checks.specs.Formula.{literal_bits}
use Rattle.source_bits.proofs.formulas.literal_bits.Given as goal

abbrev pub invariant-loop-digit : goal.invariant-loop-digit
invariant-loop-digit l =
    (l.count ≡ digit_width l.fn.radix) × (map view l.bits.items ++ map constant (literal_bits l.fn.radix (drop l.digit-index l.digits)) ≡ map constant (literal_bits l.fn.radix l.digits))
