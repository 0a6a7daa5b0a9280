use Rattle.std.proofs.Common.{List, ℕ, sym, subst}
use Rattle.vlsi_base.specs.Member.{AllDifferent}
use Rattle.cell_lib.proofs.Judging.{library_checked}
use Rattle.cell_lib.proofs.library.listed_library.Goals as goal

pub new-requires : goal.new-requires
new-requires c =
    library_checked c.args.tracks c.as_slice.result.now c.args.files.now c.in_ok-cells.cells.items (subst (λ (l : List (List ℕ)). AllDifferent l) (sym c.as_slice.ensures) c.requires)
    c.in_ok-cells.ensures.ok
