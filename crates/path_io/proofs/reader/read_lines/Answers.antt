use Rattle.std.proofs.Common.{refl, arith, ◌+◌}
use Rattle.vlsi_base.specs.Lines.{lines_of}
use Rattle.path_io.proofs.Listing.{nothing_read, blank_read, name_read, number_fits}
use Rattle.path_io.proofs.reader.read_lines.Goals as goal

pub loop-line-init : goal.loop-line-init
loop-line-init c = nothing_read (lines_of c.args.bytes.now) c.new-lines.result _ c.new-lines.ensures refl c.new.ensures.items c.new-2.ensures.items

pub overflow_add-file : goal.overflow_add-file
overflow_add-file c =
    let within = number_fits c.args.bytes.now c.next_line.new.self c.loop-line.lines c.in-Some.line.now c.loop-line.file c.loop-line.invariant c.in-Some.ensures.some c.requires in
    omega (arith, within)

pub loop-line-preserved-in-Continue-1 : goal.loop-line-preserved-in-Continue-1
loop-line-preserved-in-Continue-1 c =
    name_read (lines_of c.args.bytes.now) c.next_line.new.self c.loop-line.lines c.in-Some.line.now c.in-Ok-Some.name c.loop-line.file
    (record { names = c.loop-line.file.names; lines = c.loop-line.file.lines; last = c.loop-line.file.last + 1 }) c.push_name.new.file
    c.loop-line.invariant c.in-Some.ensures.some (rw c.in-Ok-Some.field-0-is at c.in-Ok-Some.ensures.some) refl refl refl c.in_ok-push_name-in-Ok-Some.ensures

pub loop-line-preserved : goal.loop-line-preserved
loop-line-preserved c =
    blank_read (lines_of c.args.bytes.now) c.next_line.new.self c.loop-line.lines c.in-Some.line.now c.loop-line.file
    (record { names = c.loop-line.file.names; lines = c.loop-line.file.lines; last = c.loop-line.file.last + 1 })
    c.loop-line.invariant c.in-Some.ensures.some ((rw c.in-Ok-None.field-0-is at c.in-Ok-None.ensures.none) refl) refl refl refl
