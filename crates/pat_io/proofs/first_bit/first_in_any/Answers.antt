use Rattle.std.proofs.Common.{rules, ◌≡◌, ◌<◌, Some, length, take, get_or}
use Rattle.std.specs.List.{list_any}
use Rattle.pat_io.specs.Known.{lists}
use Rattle.pat_io.proofs.Firsts.{first_more}
use Rattle.pat_io.proofs.first_bit.first_in_any.Goals as goal

pub loop-column-preserved : goal.loop-column-preserved
loop-column-preserved c =
    let text = c.args.name.now in
    let columns = c.args.columns.now in
    let place = c.loop-column.column-index in
    let column = c.column-item.result in
    let within : place < length columns = search rules in
    let is : get_or columns place column ≡ column = search rules in
    first_more text c.args.range columns place column c.leftmost-first.result within is
    (c.leftmost-first.ensures (λ k. list_any (lists (record { text = text; bit = Some k })) (take place columns)) (λ k. lists (record { text = text; bit = Some k }) column) c.loop-column.invariant c.first_in.ensures)
