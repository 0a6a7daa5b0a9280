use Rattle.std.proofs.Common.{false, Err, sym, subst, refl}
use Rattle.ap_io.specs.Refusal.{IsApRefusal}
use Rattle.tool_drive.specs.Refusals.{refused_file}
use Rattle.tool_drive.specs.declared.tool.Refusal.{Refusal}
use Rattle.tool_drive.specs.Table.{IsJudged}
use Rattle.cougar_run.specs.Cougar.{bad_layout, Extracts}
use Rattle.cougar_extract.proofs.Ready.{ready_figure}
use Rattle.cougar_run.proofs.Refusing.{by_extract, by_write}
use Rattle.cougar_run.proofs.Writing.{writable, extraction}
use Rattle.cougar_run.proofs.cougar.extracted.Goals as goal

pub extract-requires : goal.extract-requires
extract-requires c = ready_figure c.what_is_read_is_a_figure.ensures c.args.source.now c.in-Ok.figure c.in-Ok.ensures.accepted

pub product-requires : goal.product-requires
product-requires c =
    let read = c.requires in
    writable c.cell_can_be_written.ensures c.extracted_fits.ensures.fits read.0 read.1 c.args.library.now c.in-Ok.figure c.in-Ok-extract.netlist read.2
    (c.library_law.ensures.passes false read.0 read.1 c.args.library.now read.2) c.in-Ok-extract.ensures.extracted

pub returns-in-Err : goal.returns-in-Err
returns-in-Err c = λ catal cells library.
    refused_file (Extracts c.args.command.now c.args.source.now catal cells) c.args.command.now.source (IsApRefusal c.args.source.now) c.in-Err.error c.refused.result c.plain.result c.in-Err.ensures.refused
    c.refused.ensures c.plain.ensures (λ o. (refl, bad_layout c.args.library.now library o))

pub returns-in-Err-extract : goal.returns-in-Err-extract
returns-in-Err-extract c = λ catal cells library.
    subst (λ (r : Refusal). IsJudged (Extracts c.args.command.now c.args.source.now catal cells) (Err r)) (sym c.plain-in-Err-extract.ensures)
    (by_extract c.args.command.now c.args.source.now catal cells c.args.library.now library c.in-Ok.figure c.in-Ok.ensures.accepted
    c.in-Err-extract.error c.extract_status.result c.in-Err-extract.ensures.refused c.extract_status.ensures)

pub returns : goal.returns
returns c = λ catal cells library.
    subst (λ (r : Refusal). IsJudged (Extracts c.args.command.now c.args.source.now catal cells) (Err r)) (sym c.plain-in-Err-product.ensures)
    (by_write c.args.command.now c.args.source.now catal cells c.args.library.now library c.in-Ok.figure c.in-Ok.ensures.accepted
    c.in-Ok-extract.netlist c.in-Ok-extract.ensures.extracted c.in-Ok-extract.ensures.few c.in-Ok-extract.ensures.apart c.in-Err-product.error c.write_status.result c.in-Err-product.ensures.refused c.write_status.ensures)

pub returns-in-Ok-product : goal.returns-in-Ok-product
returns-in-Ok-product c = λ catal cells library.
    extraction c.args.command.now c.args.source.now catal cells c.args.library.now c.in-Ok.figure c.in-Ok-extract.netlist c.in-Ok-product.product
    library c.in-Ok.ensures.accepted c.in-Ok-extract.ensures.extracted c.in-Ok-extract.ensures.few c.in-Ok-extract.ensures.apart c.in-Ok-product.ensures.named c.in-Ok-product.ensures.written
