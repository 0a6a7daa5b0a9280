use Rattle.std.proofs.Common.{Err, sym, subst}
use Rattle.tool_drive.specs.declared.tool.Refusal.{Refusal}
use Rattle.tool_drive.specs.Table.{IsJudged}
use Rattle.flow_run.specs.View.{origin_view}
use Rattle.flow_run.specs.Flow.{LaysOut}
use Rattle.flow_run.proofs.Refusing.{by_unread, by_kinds, by_budget, judged_product}
use Rattle.flow_run.proofs.Drawing.{source_declared, few_names, may_be_drawn}
use Rattle.flow_run.proofs.flow.laid_out.Goals as goal

pub netlist_within-mapped-requires : goal.netlist_within-mapped-requires
netlist_within-mapped-requires c = record {
  ports = (source_declared c.netlist_law.ensures.declared c.encoded_law.ensures.declared c.args.command.now c.args.source.now
      (origin_view c.in-Ok.read.source.origin) c.in-Ok.read.source.machine c.in-Ok.ensures.read.machine).few_ports;
  small = c.in-Ok.ensures.read.small;
  covered = c.in-Ok-check_kinds.ensures.covered;
  few = few_names c.source_has_few_names.ensures c.args.command.now c.args.source.now c.args.catal.now c.args.cells.now
      (origin_view c.in-Ok.read.source.origin) c.in-Ok.read.source.machine c.in-Ok.read.library c.in-Ok.ensures.read;
}

pub product-requires-clause-netlist : goal.product-requires-clause-netlist
product-requires-clause-netlist c =
    may_be_drawn c.library_law.ensures.passes c.library_law.ensures.plain c.netlist_law.ensures.declared c.encoded_law.ensures.declared
    c.driven_netlist_law.ensures.drawable c.args.command.now c.args.source.now c.args.catal.now c.args.cells.now
    (origin_view c.in-Ok.read.source.origin) c.in-Ok.read.source.machine c.in-Ok.read.library c.in-Ok-mapped.mapped.driven.netlist c.in-Ok-mapped.mapped.driven.delay
    c.in-Ok-mapped.mapped.nodes c.in-Ok.ensures.read c.in-Ok-mapped.ensures.mapped

pub returns-in-Err : goal.returns-in-Err
returns-in-Err c =
    subst (λ (r : Refusal). IsJudged (LaysOut c.args.command.now c.args.source.now c.args.catal.now c.args.cells.now) (Err r)) (sym c.plain.ensures)
    (by_unread c.args.command.now c.args.source.now c.args.catal.now c.args.cells.now c.in-Err.status c.in-Err.ensures.refused)

pub returns-in-Err-check_kinds : goal.returns-in-Err-check_kinds
returns-in-Err-check_kinds c =
    subst (λ (r : Refusal). IsJudged (LaysOut c.args.command.now c.args.source.now c.args.catal.now c.args.cells.now) (Err r)) (sym c.plain-in-Err-check_kinds.ensures)
    (by_kinds c.args.command.now c.args.source.now c.args.catal.now c.args.cells.now (origin_view c.in-Ok.read.source.origin) c.in-Ok.read.source.machine
    c.in-Ok.read.library c.in-Err-check_kinds.status c.in-Ok.ensures.read c.in-Err-check_kinds.ensures.missing)

pub returns-in-Err-mapped : goal.returns-in-Err-mapped
returns-in-Err-mapped c =
    subst (λ (r : Refusal). IsJudged (LaysOut c.args.command.now c.args.source.now c.args.catal.now c.args.cells.now) (Err r)) (sym c.plain-in-Err-mapped.ensures)
    (by_budget c.args.command.now c.args.source.now c.args.catal.now c.args.cells.now (origin_view c.in-Ok.read.source.origin) c.in-Ok.read.source.machine
    c.in-Ok.read.library c.in-Err-mapped.status c.in-Ok.ensures.read c.in-Ok-check_kinds.ensures.covered c.in-Err-mapped.ensures.refused)

pub returns : goal.returns
returns c =
    judged_product c.args.command.now c.args.source.now c.args.catal.now c.args.cells.now (origin_view c.in-Ok.read.source.origin) c.in-Ok.read.source.machine
    c.in-Ok.read.library c.in-Ok.ensures.read c.in-Ok-check_kinds.ensures.covered c.in-Ok-mapped.ensures.mapped.made.within c.product.result c.product.ensures.drawn c.product.ensures.stuck
