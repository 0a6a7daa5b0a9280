-- What rounds leave as it was.
use Rattle.std.proofs.Common.{◌≡◌, ℕ, ◌≤◌, List, [], ◌∷◌, ◌++◌, length, map, refl, sym, ◌∙◌, ap, append_assoc, append-nil}
use Rattle.std.proofs.lemmas.List.{map-append}
use Rattle.std.specs.List.{flat_map}
use Rattle.cell_model.specs.Cell.{Cell}
use Rattle.cell_model.specs.Library.{Library}
use Rattle.net_core.specs.Netlist.{Instance}
use Rattle.loon_fanout.specs.Sinks.{Wired, sinks}
use Rattle.loon_fanout.specs.Wired.{with_gate, with_row, with_group}
use Rattle.loon_wiring.specs.Repeaters.{Repeater}
use Rattle.loon_fanout.specs.Limited.{Row, with_round, IsLimited, within, round}
use Rattle.loon_fanout.specs.Laws.{gate_named, LimitedStaysBeside}

-- the ports, and the instances with gates behind them
record Beside (c : Cell) (names : List (List ℕ)) (n k : Wired) : Type 0 where
  pub ports : k.ports ≡ n.ports
  pub instances : k.instances ≡ n.instances ++ map (gate_named c) names

row_kept : (c : Cell) (names : List (List ℕ)) (n : Wired) (read : ℕ) → Beside c names n (with_row c n read names)
row_kept c [] n read = record { ports = refl; instances = sym (append-nil n.instances) }
row_kept c (name ∷ names) n read =
    let r = row_kept c names (with_gate c n read name) n.count in
    record { ports = r.ports; instances = r.instances ∙ append_assoc n.instances (gate_named c name ∷ []) (map (gate_named c) names) }

group_kept : (c : Cell) (n : Wired) (class : ℕ) (row : Row) → Beside c row.names n (with_group c n class row.names row.group)
group_kept c n class row =
    let r = row_kept c row.names n class in
    record { ports = r.ports; instances = r.instances }

both_kept : (c : Cell) (first next : List (List ℕ)) (n m k : Wired) → Beside c first n m → Beside c next m k → Beside c (first ++ next) n k
both_kept c first next n m k a b = record {
  ports = b.ports ∙ a.ports;
  instances =
      b.instances
      ∙ ap (λ (is : List Instance). is ++ map (gate_named c) next) a.instances
      ∙ append_assoc n.instances (map (gate_named c) first) (map (gate_named c) next)
      ∙ ap (λ (is : List Instance). n.instances ++ is) (sym (map-append (gate_named c) first next));
}

round_kept : (c : Cell) (n : Wired) (class : ℕ) (rows : List Row) → Beside c (flat_map (λ r. r.names) rows) n (with_round c n class rows)
round_kept c n class [] = record { ports = refl; instances = sym (append-nil n.instances) }
round_kept c n class (row ∷ rows) =
    both_kept c row.names (flat_map (λ (r : Row). r.names) rows) n (with_group c n class row.names row.group) (with_round c (with_group c n class row.names row.group) class rows)
    (group_kept c n class row) (round_kept c (with_group c n class row.names row.group) class rows)

limited_kept : (l : Library) (limit : ℕ) (b : Repeater) (names : List (List ℕ)) (n k : Wired) → IsLimited l limit b names n k → Beside b.cell names n k
limited_kept l limit b names n k (within few) = record { ports = refl; instances = sym (append-nil n.instances) }
limited_kept l limit b names n k (round {later = later} class rows large earlier groups many rest) =
    both_kept b.cell (flat_map (λ (r : Row). r.names) rows) later n (with_round b.cell n class rows) k (round_kept b.cell n class rows)
    (limited_kept l limit b later (with_round b.cell n class rows) k rest)

limited_within : (l : Library) (limit : ℕ) (b : Repeater) (names : List (List ℕ)) (n k : Wired) → IsLimited l limit b names n k
    → (class : ℕ) → length (sinks l k class) ≤ limit
limited_within l limit b names n k (within few) class = few class
limited_within l limit b names n k (round {later = later} c rows large earlier groups many rest) class =
    limited_within l limit b later (with_round b.cell n c rows) k rest class

pub limited_stays_beside : LimitedStaysBeside
limited_stays_beside l limit b names n k h =
    let r = limited_kept l limit b names n k h in
    record { few = limited_within l limit b names n k h; ports = r.ports; instances = r.instances }
