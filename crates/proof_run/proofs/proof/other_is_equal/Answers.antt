use Rattle.std.proofs.lemmas.Result.{IfOk-weaker, IfErr-weaker}
use Rattle.proof_run.proofs.Few.{few_compared}
use Rattle.proof_run.proofs.Refusing.{by_other, by_finding}
use Rattle.proof_run.proofs.proof.other_is_equal.Goals as goal

pub equal_within-requires-clause-second : goal.equal_within-requires-clause-second
equal_within-requires-clause-second c =
    few_compared c.args.other.now c.in-Ok.second c.in-Ok.ensures.machine (c.source_has_few_names.ensures c.args.other.now c.in-Ok.second c.in-Ok.ensures.machine)

pub returns-in-Ok-clause-equal : goal.returns-in-Ok-clause-equal
returns-in-Ok-clause-equal c =
    IfOk-weaker c.equal_within.result _ _
    (λ u h source machine. record { first = c.args.first.now; second = c.in-Ok.second; machine = machine; other_machine = c.in-Ok.ensures.machine; equal = h }) c.equal_within.ensures.equal

pub returns-in-Ok-clause-refused : goal.returns-in-Ok-clause-refused
returns-in-Ok-clause-refused c =
    IfErr-weaker c.equal_within.result _ _
    (λ s h source machine. by_finding c.args.command.now source c.args.other.now c.args.first.now c.in-Ok.second s machine c.in-Ok.ensures.machine h) c.equal_within.ensures.refused

pub returns-in-Err-clause-refused : goal.returns-in-Err-clause-refused
returns-in-Err-clause-refused c = λ source machine. by_other c.args.command.now source c.args.other.now c.args.first.now c.in-Err.status machine c.in-Err.ensures.refused
