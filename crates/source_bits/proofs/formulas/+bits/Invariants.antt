use Rattle.std.proofs.Common.{◌≡◌, map, drop}
use Rattle.bool_expr.specs.View.{view}
use Rattle.source_bits.specs.Formulas.{folded_bits}
use Rattle.source_bits.proofs.formulas.+bits.Given as goal

abbrev pub invariant-chain_bits-loop-e : goal.invariant-chain_bits-loop-e
invariant-chain_bits-loop-e l =
    folded_bits l.numbers l.operator (map view l.all.items) (drop l.e-index l.others) ≡ folded_bits l.numbers l.operator (map view l.fn.first.items) l.others
