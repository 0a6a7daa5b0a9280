-- How long the arcs of cells take.
use Rattle.std.specs.Prelude.{ℕ, ◌+◌, ◌*◌, max, List, [], ◌∷◌, Option, None, Some}
use Rattle.std.specs.List.{flat_map}
use Rattle.std.specs.Option.{unwrap_or}
use Rattle.cell_model.specs.declared.cell.Arc.{Arc}

-- the time of one edge in femtoseconds: its generic, which is in picoseconds, and what the load adds; none where the generic isn't
-- given
abbrev pub time_of : Option ℕ → ℕ → List ℕ
time_of None drag = []
time_of (Some time) drag = (1000 * time + drag) ∷ []

-- the times of all edges with a load in femtofarads, which a resistance in ohm makes femtoseconds: of the falls, then of the rises
abbrev pub times : Arc → ℕ → List ℕ
times a load = flat_map (λ (t : Option ℕ × ℕ). time_of t.0 t.1)
    ((a.tphl, a.rdown * load) ∷ (a.tpll, a.rdown * load) ∷ (a.taf, a.rdown * load)
    ∷ (a.tplh, a.rup * load) ∷ (a.tphh, a.rup * load) ∷ (a.tar, a.rup * load) ∷ [])

abbrev pub greater_of : ℕ → Option ℕ → ℕ
greater_of x None = x
greater_of x (Some y) = max x y

abbrev pub greatest : List ℕ → Option ℕ
greatest [] = None
greatest (x ∷ xs) = Some (greater_of x (greatest xs))

-- an arc takes the greatest of them; where none is given, the load with the greater resistance
unfoldable pub arc_delay : Arc → ℕ → ℕ
arc_delay a load = unwrap_or (greatest (times a load)) (max (a.rdown * load) (a.rup * load))
