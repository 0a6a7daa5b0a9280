use Rattle.std.proofs.lemmas.Result.{IfOk-weaker, IfErr-weaker}
use Rattle.proof_run.proofs.Few.{few_compared}
use Rattle.proof_run.proofs.Refusing.{by_source}
use Rattle.proof_run.proofs.proof.sources_are_equal.Goals as goal

pub other_is_equal-requires : goal.other_is_equal-requires
other_is_equal-requires c =
    few_compared c.args.source.now c.in-Ok.first c.in-Ok.ensures.machine (c.source_has_few_names.ensures c.args.source.now c.in-Ok.first c.in-Ok.ensures.machine)

pub returns-in-Ok-clause-equal : goal.returns-in-Ok-clause-equal
returns-in-Ok-clause-equal c = IfOk-weaker c.other_is_equal.result _ _ (λ u h. h c.args.source.now c.in-Ok.ensures.machine) c.other_is_equal.ensures.equal

pub returns-in-Ok-clause-refused : goal.returns-in-Ok-clause-refused
returns-in-Ok-clause-refused c = IfErr-weaker c.other_is_equal.result _ _ (λ s h. h c.args.source.now c.in-Ok.ensures.machine) c.other_is_equal.ensures.refused

pub returns-in-Err-clause-refused : goal.returns-in-Err-clause-refused
returns-in-Err-clause-refused c = by_source c.args.command.now c.args.source.now c.args.other.now c.in-Err.status c.in-Err.ensures.refused
