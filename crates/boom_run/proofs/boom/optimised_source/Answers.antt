use Rattle.std.proofs.Common.{Err, sym, subst, arith}
use Rattle.tool_drive.specs.declared.tool.Refusal.{Refusal}
use Rattle.tool_drive.specs.Table.{IsJudged}
use Rattle.boom_run.specs.Boom.{MakesSmaller}
use Rattle.boom_run.proofs.Declared.{can_be_vbe}
use Rattle.boom_run.proofs.FewNames.{few_made, few_weighed}
use Rattle.boom_run.proofs.Refusing.{by_size, by_budget}
use Rattle.boom_run.proofs.boom.optimised_source.Goals as goal

pub returns-in-Err : goal.returns-in-Err
returns-in-Err c = λ source read.
    subst (λ (r : Refusal). IsJudged (MakesSmaller c.args.command.now source) (Err r)) (sym c.plain.ensures)
    (by_size c.args.command.now source c.args.machine.now c.in-Err.status read c.in-Err.ensures.large.0 c.in-Err.ensures.large.1)

pub returns-in-Err-optimise_within : goal.returns-in-Err-optimise_within
returns-in-Err-optimise_within c = λ source read.
    subst (λ (r : Refusal). IsJudged (MakesSmaller c.args.command.now source) (Err r)) (sym c.plain-in-Err-optimise_within.ensures)
    (by_budget c.args.command.now source c.args.machine.now c.in-Err-optimise_within.status read c.in-Ok.ensures.small
    c.in-Err-optimise_within.ensures.refused)

pub product-requires-clause-small : goal.product-requires-clause-small
product-requires-clause-small c =
    let given = c.in-Ok.ensures.small in
    let made = c.in-Ok-optimise_within.ensures.made.optimised.small.size in
    omega (arith, given, made)

pub optimise_within-requires : goal.optimise_within-requires
optimise_within-requires c =
    record { few = few_weighed c.args.machine.now (c.source_has_few_names.ensures c.requires.0 c.args.machine.now c.requires.1) c.in-Ok.ensures.small }

pub product-requires-clause-few : goal.product-requires-clause-few
product-requires-clause-few c =
    few_made c.args.machine.now c.in-Ok-optimise_within.made.machine c.requires.1.machine.checked.ordered.vars
    (few_weighed c.args.machine.now (c.source_has_few_names.ensures c.requires.0 c.args.machine.now c.requires.1) c.in-Ok.ensures.small)
    c.in-Ok-optimise_within.ensures.made.optimised

pub product-requires-clause-names : goal.product-requires-clause-names
product-requires-clause-names c =
    can_be_vbe c.machine_is_named.ensures c.registers_are_named.ensures c.in_order_can_be_written.ensures c.requires.0 c.args.machine.now
    c.in-Ok-optimise_within.made.machine c.requires.1 c.in-Ok-optimise_within.ensures.made.optimised.alike

pub returns : goal.returns
returns c = λ source read. record {
  m = c.args.machine.now;
  machine = read;
  small = c.in-Ok.ensures.small;
  o = c.in-Ok-optimise_within.made.machine;
  checked = c.name.ensures.checked;
  made = c.in-Ok-optimise_within.ensures.made;
  written = c.in_ok-written.ensures;
}
