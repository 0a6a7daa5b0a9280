use Rattle.std.proofs.Common.{◌≡◌, List, subst}
use Rattle.vlsi_base.specs.declared.fault.FaultKind.TheVariants as kind
use Rattle.vlsi_base.specs.declared.name.Name.{Name}
use Rattle.tool_drive.specs.Refusals.{MemoryOr, whole_fault}
use Rattle.nero_run.proofs.Refusing.{layout_refused, isnt_placed}
use Rattle.nero_run.proofs.placed.read_placement.Goals as goal

pub returns-in-Err-clause-refused : goal.returns-in-Err-clause-refused
returns-in-Err-clause-refused c =
    layout_refused c.args.file.now c.args.bytes.now c.args.library.now c.args.netlist.now c.in-Err.error c.refused.result c.in-Err.ensures.refused c.refused.ensures

pub returns-clause-refused : goal.returns-clause-refused
returns-clause-refused c =
    let s = c.whole_fault.result in
    let told = subst (λ (names : List Name). MemoryOr s (s ≡ whole_fault c.args.file.now kind.NotPlaced names)) c.new.ensures.items c.whole_fault.ensures in
    isnt_placed c.args.file.now c.args.bytes.now c.args.library.now c.args.netlist.now c.in-Ok.figure s c.in-Ok.ensures.accepted
    (c.in-Err-NotPlaced.ensures.refused c.in-Err-NotPlaced.field-0-is) told

pub returns-in-Ok-of_figure-clause-placed : goal.returns-in-Ok-of_figure-clause-placed
returns-in-Ok-of_figure-clause-placed c = record {
  figure = c.in-Ok.figure;
  file = c.in-Ok.ensures.accepted;
  placed = c.in-Ok-of_figure.ensures.placed;
  drawn = c.in-Ok-of_figure.ensures.drawn;
}
