-- Names and their lines.
use Rattle.std.specs.Prelude.{ℕ, List, [], ◌∷◌, ◌++◌}
use Rattle.vlsi_base.specs.Tree.{Tree}
use Rattle.source_checks.specs.declared.undeclared.Place.{Place}
use Rattle.source_checks.specs.Places.{Use, reads}

abbrev pub use_of : Place → Use
use_of p = record { text = p.text.now; line = p.line }

-- the names that operands read
abbrev pub reads_among : List (ℕ × Tree) → List Use
reads_among [] = []
reads_among (e ∷ others) = reads e.1 ++ reads_among others
