-- When a netlist behaves as a machine.
use Rattle.std.specs.Prelude.{◌≡◌, ℕ, ◌<◌, Bool, List, [], ◌∷◌, ◌++◌, map, length, codes}
use Rattle.std.specs.Fmt.{decimal}
use Rattle.bool_expr.specs.Expression.{bit}
use Rattle.machine_core.specs.Machine.{Machine, outputs}
use Rattle.machine_core.specs.Cycles.{RunOf, AreVectors}
use Rattle.cell_model.specs.Library.{Library}
use Rattle.net_meaning.specs.Netlist.{AbstractNetlist}
use Rattle.net_meaning.specs.Behaviour.{Contents, NetTrace, net_outs}

-- the instance of register number k, in the order of the registers' names
abbrev pub register_instance : ℕ → List ℕ
register_instance k = codes "q" ++ decimal k

-- the register instances hold what the machine's registers hold, one bit each
pub record IsMatched (s : List Bool) (t : Contents) : Type 0 where
  pub bits : (k : ℕ) → k < length s → t (register_instance k) ≡ bit s k ∷ []

-- From any contents and for every list of vectors, of every length, the netlist has exactly one list of valuations; and
-- from matched contents its outputs are those of the machine.
pub record Agrees (n : AbstractNetlist) (l : Library) (m : Machine) : Type 0 where
  pub once : (t : Contents) (v : List (List Bool)) → AreVectors m v
      → (ws : List (List Bool)) × NetTrace n l m t v ws × ((others : List (List Bool)) → NetTrace n l m t v others → others ≡ ws)
  pub same : (s : List Bool) (t : Contents) (v ws : List (List Bool)) → length s ≡ length m.registers → IsMatched s t → AreVectors m v
      → NetTrace n l m t v ws → RunOf m s v (map (net_outs n (outputs m)) ws)
