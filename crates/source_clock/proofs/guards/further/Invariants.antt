use Rattle.std.proofs.Common.{◌≡◌, ◌++◌, map, drop, Bor}
use Rattle.vlsi_base.specs.Tree.{view}
use Rattle.vlsi_base.specs.declared.expression.ParsedExpr.{ParsedExpr}
use Rattle.source_checks.specs.Clock.{conditions_among}
use Rattle.source_clock.proofs.guards.further.Given as goal

abbrev pub invariant-loop-part : goal.invariant-loop-part
invariant-loop-part l =
    map (λ (r : Bor ParsedExpr). view r.now) l.found.items ++ conditions_among l.clock (map (λ (r : Bor ParsedExpr). view r.now) (drop l.part-index l.parts)) ≡ conditions_among l.clock (map (λ (r : Bor ParsedExpr). view r.now) l.parts)
