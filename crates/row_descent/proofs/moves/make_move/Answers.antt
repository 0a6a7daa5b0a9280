use Rattle.std.proofs.Common.{◌%◌, ◌-◌, ℕ, length, sym, ap, ◌∙◌, refl}
use Rattle.std.specs.Global.{Vec}
use Rattle.std.proofs.lemmas.List.{length-map}
use Rattle.row_meaning.specs.Length.{block_of}
use Rattle.row_descent.specs.Tables.{rows_of}
use Rattle.row_descent.proofs.Moving.{moved_yes, moved_no}
use Rattle.row_descent.proofs.moves.make_move.Goals as goal

pub returns-then-many-ge2-clause-rows : goal.returns-then-many-ge2-clause-rows
returns-then-many-ge2-clause-rows c =
    let rows = c.args.rows.now in
    c.try_exchange.ensures.rows
    ∙ moved_yes (block_of c.args.cells.now) c.args.u c.args.v (rows_of rows) (c.args.u % length rows) c.places-many.result (c.args.v % (c.places-many.result - 1))
    (ap (λ (n : ℕ). c.args.u % n) (sym (length-map rows (λ (v : Vec ℕ). v.items)))) c.places-many.ensures refl c.if-many-ge2.true

pub returns-else-many-ge2-clause-rows : goal.returns-else-many-ge2-clause-rows
returns-else-many-ge2-clause-rows c =
    let rows = c.args.rows.now in
    moved_no (block_of c.args.cells.now) c.args.u c.args.v (rows_of rows) (c.args.u % length rows) c.places-many.result
    (ap (λ (n : ℕ). c.args.u % n) (sym (length-map rows (λ (v : Vec ℕ). v.items)))) c.places-many.ensures c.if-many-ge2.false
