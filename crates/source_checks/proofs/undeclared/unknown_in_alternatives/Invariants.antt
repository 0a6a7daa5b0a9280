use Rattle.std.proofs.Common.{◌≡◌, drop}
use Rattle.source_checks.specs.Places.{reads, first_unknown, in_alternatives}
use Rattle.source_checks.proofs.undeclared.unknown_in_alternatives.Given as goal

abbrev pub invariant-loop-guarded : goal.invariant-loop-guarded
invariant-loop-guarded l = first_unknown l.table (in_alternatives reads (λ line e. reads e) (drop l.guarded-index l.alternatives)) ≡ first_unknown l.table (in_alternatives reads (λ line e. reads e) l.alternatives)
