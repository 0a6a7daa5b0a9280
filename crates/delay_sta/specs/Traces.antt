-- Going back along a longest path.
use Rattle.std.specs.Prelude.{◌≡◌, ℕ, Bool, true, false, List, Option, None, Some, slice_set, slice_index_or}
use Rattle.std.specs.Global.{Vec}
use Rattle.cell_model.specs.Library.{Library}
use Rattle.net_core.specs.Places.{IsThere}
use Rattle.net_core.specs.Netlist.{Netlist}
use Rattle.delay_sta.specs.declared.graph.TimedArc.{TimedArc}
use Rattle.delay_sta.specs.Graph.{group_of, arrival_by}
use Rattle.delay_sta.specs.Paths.{IsEnd, IsWorst}

-- a longest path ends at the class
pub record IsLatestEnd (n : Netlist) (l : Library) (arrivals : List (Option ℕ)) (class : ℕ) : Type 0 where
  pub end : IsEnd n l class
  pub time : ℕ
  pub arrives : slice_index_or arrivals class None ≡ Some time
  pub longest : IsWorst n l time

-- a latest path to the class ends with this arc
pub record IsLatestArc (arcs : List (Vec TimedArc)) (arrivals : List (Option ℕ)) (class : ℕ) (x : TimedArc) : Type 0 where
  pub listed : IsThere (group_of arcs class) x
  pub time : ℕ
  pub arrives : slice_index_or arrivals class None ≡ Some time
  pub by : arrival_by arrivals x ≡ Some time

-- A latest path to a class has no step; or it ends with an arc, and then the class is marked: the path begins with it, or comes from
-- another class.
pub data GoesBack (arcs : List (Vec TimedArc)) (arrivals : List (Option ℕ)) (class : ℕ) (old new : List Bool) : Option ℕ → Type 0 where
  without_step : ((x : TimedArc) → IsLatestArc arcs arrivals class x → ⊥) → new ≡ old → GoesBack arcs arrivals class old new None
  at_first : (x : TimedArc) → IsLatestArc arcs arrivals class x → x.begins ≡ true → new ≡ slice_set old class true → GoesBack arcs arrivals class old new None
  back : (x : TimedArc) → IsLatestArc arcs arrivals class x → x.begins ≡ false → new ≡ slice_set old class true → GoesBack arcs arrivals class old new (Some x.from)
