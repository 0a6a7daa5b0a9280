use Rattle.std.proofs.Common.{arith}
use Rattle.vlsi_base.specs.Lines.{lines_of}
use Rattle.catal.proofs.Listing.{nothing_read, one_line_more, number_fits}
use Rattle.catal.proofs.reader.used_cells.Goals as goal

pub loop-line-init : goal.loop-line-init
loop-line-init c = nothing_read (lines_of c.args.bytes.now) c.new-lines.result c.new-cells.result c.new-lines.ensures c.new-cells.ensures.names c.new-cells.ensures.holds

pub overflow_add-number : goal.overflow_add-number
overflow_add-number c =
    let within = number_fits c.args.bytes.now c.next_line.new.self c.loop-line.lines c.loop-line.number c.in-Some.line.now c.loop-line.cells c.loop-line.invariant
    c.in-Some.ensures.some c.requires in
    omega (arith, within)

pub loop-line-preserved : goal.loop-line-preserved
loop-line-preserved c =
    one_line_more (lines_of c.args.bytes.now) c.next_line.new.self c.loop-line.lines c.loop-line.number c.in-Some.line.now c.loop-line.cells c.take.new.self
    c.loop-line.invariant c.in-Some.ensures.some c.in_ok-take.ensures.taken c.in_ok-take.ensures.holds
