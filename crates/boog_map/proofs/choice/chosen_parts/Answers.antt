use Rattle.std.proofs.Common.{ℕ, List, All, sym, subst}
use Rattle.cell_checks.specs.Checked.{library_of}
use Rattle.boog_map.specs.Tied.{IsUsableAt}
use Rattle.boog_map.proofs.PartsAt.{all_usable}
use Rattle.boog_map.proofs.choice.chosen_parts.Goals as goal

pub parts_at-requires : goal.parts_at-requires
parts_at-requires c =
    subst (λ (ps : List ℕ). All (IsUsableAt c.args.cells.now) ps) (sym c.deref.ensures.value) (all_usable (library_of c.args.cells.now) c.args.gates c.requires.gates)
