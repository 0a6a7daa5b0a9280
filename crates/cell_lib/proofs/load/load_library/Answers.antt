use Rattle.std.proofs.Common.{◌∙◌, ap, List, ℕ, [], get_or}
use Rattle.cell_lib.proofs.Loading.{more_so}
use Rattle.cell_lib.proofs.load.load_library.Goals as goal

pub returns-clause-err : goal.returns-clause-err
returns-clause-err g c =
    rw (c.stopped-in-Err-load_cells.ensures)
    (more_so (g.S.Shelf.seen c.args.shelf.now) (g.S.Shelf.seen c.load_catal.new.shelf) (g.S.Shelf.seen c.load_cells.new.shelf) c.args.dir.now c.in-Ok.first.items
    c.bytes_at.result.now c.in-Ok-read_catal.names c.in-Err-load_cells.stop (c.bytes_at.ensures ∙ ap (λ (l : List (List ℕ)). get_or l 0 []) c.deref.ensures.value)
    c.in-Ok.ensures.reads c.in-Ok.ensures.ok c.in-Ok-read_catal.ensures.accepted c.in-Err-load_cells.ensures.err)
