use Rattle.std.proofs.Common.{Err, sym, subst, refl}
use Rattle.vbe_io.specs.Text.{IsVbeRefusal}
use Rattle.tool_drive.specs.Refusals.{refused_file}
use Rattle.tool_drive.specs.declared.tool.Refusal.{Refusal}
use Rattle.tool_drive.specs.Table.{IsJudged}
use Rattle.area_run.specs.Area.{bad_source, Measures}
use Rattle.area_run.proofs.Sizes.{few_ports}
use Rattle.area_run.proofs.Measuring.{by_cover}
use Rattle.area_run.proofs.area.told.Goals as goal

pub measured-requires : goal.measured-requires
measured-requires c = few_ports c.args.source.now c.in-Ok.machine c.in-Ok.ensures.accepted

pub returns-in-Err : goal.returns-in-Err
returns-in-Err c = λ catal cells library.
    refused_file (Measures c.args.command.now c.args.source.now catal cells) c.args.command.now.source (IsVbeRefusal c.args.source.now) c.in-Err.error c.refused.result c.plain.result c.in-Err.ensures.refused
    c.refused.ensures c.plain.ensures (λ o. (refl, bad_source c.args.library.now library o))

pub returns-in-Err-measured : goal.returns-in-Err-measured
returns-in-Err-measured c = λ catal cells library.
    subst (λ (r : Refusal). IsJudged (Measures c.args.command.now c.args.source.now catal cells) (Err r)) (sym c.plain-in-Err-measured.ensures)
    (by_cover c.args.command.now c.args.source.now catal cells c.args.library.now c.in-Ok.machine c.in-Err-measured.status library
    c.in-Ok.ensures.accepted c.in-Err-measured.ensures.refused)

pub returns : goal.returns
returns c = λ catal cells library. record {
  l = c.args.library.now;
  library = library;
  m = c.in-Ok.machine;
  machine = c.in-Ok.ensures.accepted;
  small = c.in-Ok-measured.ensures.small;
  covered = c.in-Ok-measured.ensures.covered;
  trees = c.in-Ok-measured.measure.trees;
  area = c.in-Ok-measured.measure.area;
  has = c.in-Ok-measured.ensures.has;
  name = c.in_ok-name.ensures;
  file = refl;
  text = c.in_ok-text.ensures;
}
