use Rattle.std.proofs.Common.{sym, ap, ◌∙◌, subst}
use Rattle.catal.specs.declared.error.CatalError.{CatalError}
use Rattle.catal.specs.declared.error.CatalError.TheVariants as errors
use Rattle.catal.specs.Catal.{IsCatalRefusal}
use Rattle.catal.proofs.Once.{one_list, none_refused}
use Rattle.cell_lib.specs.Files.{cell_files}
use Rattle.cell_lib.proofs.files.named_files.Goals as goal

pub returns-in-Ok : goal.returns-in-Ok
returns-in-Ok c = rw (one_list c.args.catal.now c.in-Ok.names c.in-Ok.ensures.accepted) c.cell_files.ensures

pub returns-in-Err-BadLine : goal.returns-in-Err-BadLine
returns-in-Err-BadLine c =
    c.new.ensures.items
    ∙ sym (ap (cell_files c.args.dir.now) (none_refused c.args.catal.now (errors.BadLine c.in-Err-BadLine.field-0-0)
    (subst (λ (e : CatalError). IsCatalRefusal c.args.catal.now e) c.in-Err-BadLine.field-0-is c.in-Err-BadLine.ensures.refused)))

pub returns-in-Err-Limit : goal.returns-in-Err-Limit
returns-in-Err-Limit c =
    c.new-in-Err-Limit.ensures.items
    ∙ sym (ap (cell_files c.args.dir.now) (none_refused c.args.catal.now (errors.Limit c.in-Err-Limit.field-0-0)
    (subst (λ (e : CatalError). IsCatalRefusal c.args.catal.now e) c.in-Err-Limit.field-0-is c.in-Err-Limit.ensures.refused)))
