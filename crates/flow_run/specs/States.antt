-- When a netlist does what a state machine does.
use Rattle.std.specs.Prelude.{◌≡◌, ℕ, ◌<◌, Bool, List, ◌∷◌, map, length}
use Rattle.machine_core.specs.Machine.{Machine, outputs}
use Rattle.machine_core.specs.Cycles.{AreVectors}
use Rattle.fsm_machine.specs.Fsm.{Fsm, Resets, FsmRun}
use Rattle.fsm_machine.specs.Codes.{Codes, code_of}
use Rattle.cell_model.specs.Library.{Library}
use Rattle.net_meaning.specs.Netlist.{AbstractNetlist}
use Rattle.net_meaning.specs.Behaviour.{Contents, NetTrace, net_outs}
use Rattle.net_meaning.specs.Agreement.{IsMatched}
use Rattle.flow_run.specs.Origin.{Origin, equations, states}

-- Where the register instances hold the code of a state, instance qk its bit k, the netlist's outputs are those of the state machine
-- from there. And whatever they hold, where the first vector resets, the outputs behind it are those from the state to which it resets.
pub record AgreesWithStates (n : AbstractNetlist) (l : Library) (f : Fsm) (k : Codes) (m : Machine) : Type 0 where
  pub matched : (s : ℕ) (t : Contents) (v y ws : List (List Bool)) → s < length f.states → IsMatched (code_of k s) t → AreVectors m v
      → FsmRun f s v y → NetTrace n l m t v ws → map (net_outs n (outputs m)) ws ≡ y
  -- and so from each state and for all vectors, since the state machine runs there
  pub runs : (s : ℕ) (v : List (List Bool)) → s < length f.states → (y : List (List Bool)) × FsmRun f s v y
  pub reset : (r : ℕ) (t : Contents) (i w : List Bool) (v y ws : List (List Bool)) → AreVectors m (i ∷ v) → Resets f i r → FsmRun f r v y
      → NetTrace n l m t (i ∷ v) (w ∷ ws) → map (net_outs n (outputs m)) ws ≡ y

-- of a data-flow text nothing more is said than that the netlist agrees with the machine
abbrev pub AgreesWith : Origin → AbstractNetlist → Library → Machine → Type 0
AgreesWith equations n l m = Unit {0}
AgreesWith (states f k) n l m = AgreesWithStates n l f k m
