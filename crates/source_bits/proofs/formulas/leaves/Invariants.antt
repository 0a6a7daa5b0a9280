use Rattle.std.proofs.Common.{◌≡◌, ◌++◌, map, drop}
use Rattle.bool_expr.specs.View.{view}
use Rattle.source_bits.specs.Numbering.{named_bit}
use Rattle.source_bits.specs.Formulas.{leaf_in}
use Rattle.source_bits.proofs.formulas.leaves.Given as goal

abbrev pub invariant-loop-bit : goal.invariant-loop-bit
invariant-loop-bit l =
    map view l.made.items ++ map (λ b. leaf_in l.total l.declared (named_bit l.text b)) (drop l.bit-index l.bits) ≡ map (λ b. leaf_in l.total l.declared (named_bit l.text b)) l.bits
