use Rattle.std.proofs.Common.{subst, arith}
use Rattle.nero_nets.proofs.Routed.{few_columns}
use Rattle.nero_rip.specs.Answers.{IsRefusal}
use Rattle.rip_run.proofs.written.ripped_text.Goals as goal

pub whole_text-requires-clause-columns : goal.whole_text-requires-clause-columns
whole_text-requires-clause-columns c =
    let some = c.requires.metals.0 in
    few_columns c.args.library.now c.args.netlist.now c.args.placement.now c.requires.placed c.args.metals (omega (arith, some)) c.requires.few

pub part_text-requires-clause-columns : goal.part_text-requires-clause-columns
part_text-requires-clause-columns c =
    let some = c.requires.metals.0 in
    few_columns c.args.library.now c.args.netlist.now c.args.placement.now c.requires.placed c.args.metals (omega (arith, some)) c.requires.few

pub part_text-requires-clause-routes : goal.part_text-requires-clause-routes
part_text-requires-clause-routes c =
    let spent = subst (λ e. IsRefusal c.args.library.now c.args.netlist.now c.args.placement.now c.args.metals c.args.allowed e) c.in-Err-NoPath.field-0-is c.in-Err-NoPath.ensures.refused in
    record { metals = c.args.metals; few = c.requires.metals.1; trees = spent.trees }
