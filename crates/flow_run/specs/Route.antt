-- The two ways in which nets are routed.
use Rattle.std.specs.Prelude.{ℕ, Bool, true, false, Option}
use Rattle.flow_words.specs.declared.words.FlowCommand.{FlowCommand}

-- what is asked of a layout in rows: how many they are, if the words say so; the random moves by which they were tried to be made shorter,
-- and the seed of their words; and the highest metal of routes
pub record InRows : Type 0 where
  pub rows : Option ℕ
  pub seed : ℕ
  pub moves : ℕ
  pub metals : ℕ

-- on a track of its own for each net, above one row; or over rows
pub data Route : Type 0 where
  on_tracks : Route
  over_rows : InRows → Route

abbrev pub route_by : Bool → InRows → Route
route_by true a = on_tracks
route_by false a = over_rows a

-- what a command asks for
abbrev pub rows_asked : FlowCommand → InRows
rows_asked c = record { rows = c.rows; seed = c.seed; moves = c.moves; metals = c.metals }

abbrev pub route_of : FlowCommand → Route
route_of c = route_by c.tracks (rows_asked c)
