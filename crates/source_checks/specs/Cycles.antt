-- Rings of signals: each reads the next, and the last reads the first.
use Rattle.std.specs.Prelude.{◌≡◌, List, [], ◌∷◌}
use Rattle.std.specs.List.{All}
use Rattle.std.specs.declared.cmp.Ordering.TheVariants.{Greater}
use Rattle.vlsi_base.specs.declared.name.Name.{Name}
use Rattle.vlsi_base.specs.Name.{name_cmp}
use Rattle.machine_core.specs.Order.{In, AllDifferent}
use Rattle.source_checks.specs.Formula.{formula_names}
use Rattle.source_checks.specs.Elaboration.{Definition}

-- a signal has the value of a formula that reads another
abbrev pub Reads : List Definition → Name → Name → Type 0
Reads all a b = (d : Definition) × In d all × (d.name ≡ a) × In b (formula_names d.formula)

-- each of the names reads the next, and the last of them reads `first`
abbrev pub ReadsAlong : List Definition → Name → Name → List Name → Type 0
ReadsAlong all first a [] = Reads all a first
ReadsAlong all first a (b ∷ rest) = Reads all a b × ReadsAlong all first b rest

-- the names are different, and a ring that is named from the least of them on
abbrev pub IsRing : List Definition → List Name → Type 0
IsRing all [] = ⊥
IsRing all (a ∷ rest) = AllDifferent (a ∷ rest) × ReadsAlong all a a rest × All (λ b. name_cmp a b ≡ Greater → ⊥) rest
