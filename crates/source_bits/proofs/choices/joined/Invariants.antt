use Rattle.std.proofs.Common.{◌≡◌, map, drop, Bor}
use Rattle.vlsi_base.specs.declared.expression.ParsedExpr.{ParsedExpr}
use Rattle.vlsi_base.specs.Tree.{view as tree}
use Rattle.bool_expr.specs.View.{view}
use Rattle.source_bits.specs.Formulas.{grouped_of, condition_of}
use Rattle.source_bits.proofs.choices.joined.Given as goal

abbrev pub invariant-loop-e : goal.invariant-loop-e
invariant-loop-e l =
    grouped_of (view l.all) (map (λ (r : Bor ParsedExpr). condition_of l.numbers (tree r.now)) (drop l.e-index l.others)) ≡ grouped_of (view l.fn.first) (map (λ (r : Bor ParsedExpr). condition_of l.numbers (tree r.now)) l.others)
