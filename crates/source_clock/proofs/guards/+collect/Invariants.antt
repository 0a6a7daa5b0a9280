use Rattle.std.proofs.Common.{◌≡◌, ◌++◌, map, drop, Bor}
use Rattle.vlsi_base.specs.Tree.{view, operand_of}
use Rattle.vlsi_base.specs.declared.expression.ParsedExpr.{ParsedExpr}
use Rattle.source_clock.specs.Operands.{conjuncts_of}
use Rattle.source_clock.proofs.guards.+collect.Given as goal

abbrev pub invariant-collect_all-loop-e : goal.invariant-collect_all-loop-e
invariant-collect_all-loop-e l =
    map (λ (r : Bor ParsedExpr). view r.now) l.found.items ++ conjuncts_of (map operand_of (drop l.e-index l.others)) ≡ map (λ (r : Bor ParsedExpr). view r.now) l.initial.found.items ++ conjuncts_of (map operand_of l.others)
