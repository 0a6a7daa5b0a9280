use Rattle.std.proofs.Common.{◌++◌, Some, None, sym, append_assoc}
use Rattle.vlsi_base.specs.Tree.{view}
use Rattle.source_checks.specs.declared.statement.Guarded.{Guarded}
use Rattle.source_checks.specs.Places.{reads, first_unknown, in_alternatives}
use Rattle.source_checks.specs.Uses.{use_of}
use Rattle.source_checks.proofs.Turns.{turn}
use Rattle.source_checks.proofs.Unknowns.{first_unknown_append}
use Rattle.source_checks.proofs.undeclared.unknown_in_alternatives.Goals as goal

pub returns-in-Some : goal.returns-in-Some
returns-in-Some c =
    turn (first_unknown c.args.table.now) (first_unknown_append c.args.table.now) (λ (g : Guarded). reads (view g.value) ++ reads (view g.condition)) (in_alternatives reads (λ line e. reads e)) (λ g rest. sym (append_assoc (reads (view g.value)) (reads (view g.condition)) (in_alternatives reads (λ line e. reads e) rest))) c.args.alternatives.now c.loop-guarded.guarded-index c.guarded-item.result _ c.loop-guarded-test.true c.guarded-item.is c.loop-guarded.invariant (Some (use_of c.in-Some.place)) c.in-Some.ensures

pub loop-guarded-preserved : goal.loop-guarded-preserved
loop-guarded-preserved c =
    turn (first_unknown c.args.table.now) (first_unknown_append c.args.table.now) (λ (g : Guarded). reads (view g.value) ++ reads (view g.condition)) (in_alternatives reads (λ line e. reads e)) (λ g rest. sym (append_assoc (reads (view g.value)) (reads (view g.condition)) (in_alternatives reads (λ line e. reads e) rest))) c.args.alternatives.now c.loop-guarded.guarded-index c.guarded-item.result _ c.loop-guarded-test.true c.guarded-item.is c.loop-guarded.invariant None c.in_default.ensures
