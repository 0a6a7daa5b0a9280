use Rattle.std.proofs.Common.{refl, rules, sym, subst}
use Rattle.vlsi_base.specs.declared.fault.ReadError.{ReadError}
use Rattle.real_table.specs.Process.{bad_head, IsProcessRefusalOf}
use Rattle.real_table.proofs.Listing.{bad_of}
use Rattle.real_table.proofs.reader.read_lines.Goals as goal

pub returns-in_default-read_head-clause-refused : goal.returns-in_default-read_head-clause-refused
returns-in_default-read_head-clause-refused c =
    subst (λ (e : ReadError). IsProcessRefusalOf c.args.lines.now e) (sym c.fault-in_default-read_head.ensures)
    (bad_head c.in-Some.first.now c.next_line.new.self c.in-Some.ensures.some (c.in_default-read_head.ensures.none refl) refl)

pub returns-in_err-entries-clause-refused : goal.returns-in_err-entries-clause-refused
returns-in_err-entries-clause-refused c =
    let refused =
    bad_of c.args.lines.now c.next_line.new.self c.in-Some.first.now c.in-Some-read_head.head c.in_err-entries.field-0.0 c.in-Some.ensures.some c.in-Some-read_head.ensures.some
    c.in_err-entries.ensures.refused in
    search rules
