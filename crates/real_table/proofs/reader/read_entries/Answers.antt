use Rattle.std.proofs.Common.{refl}
use Rattle.real_table.specs.Bounds.{IsEntryWithin}
use Rattle.real_table.specs.Lines.{IsEntry}
use Rattle.real_table.proofs.Entries.{known_of}
use Rattle.real_table.proofs.Listing.{nothing_read, one_line_more}
use Rattle.real_table.proofs.reader.read_entries.Goals as goal

pub loop-line-init : goal.loop-line-init
loop-line-init c = nothing_read c.args.lines.now c.args.lines.now c.new-entries.result.items refl c.new-entries.ensures.items

pub loop-line-preserved : goal.loop-line-preserved
loop-line-preserved c =
    one_line_more c.args.lines.now c.next_line.new.self c.loop-line.lines c.loop-line.number c.in-Some.line.now c.loop-line.entries.items c.push.new.self.items c.in-Some-2.entry
    c.loop-line.invariant c.in-Some.ensures.some c.in_ok-push.ensures.items
    (known_of (IsEntry c.in-Some.line.now) c.in_ok-entry.field-0 c.in-Some-2.entry c.in-Some-2.is c.in_ok-entry.ensures.some)
    (known_of IsEntryWithin c.in_ok-entry.field-0 c.in-Some-2.entry c.in-Some-2.is c.in_ok-entry.ensures.within)
