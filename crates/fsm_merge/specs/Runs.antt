-- State machines that do the same, and that don't.
use Rattle.std.specs.Prelude.{◌≡◌, ◌≤◌, ℕ, Bool, List, length}
use Rattle.std.specs.List.{All}
use Rattle.fsm_machine.specs.Fsm.{Fsm, fsm_inputs, FsmRun}

-- under the vectors v the machine f runs from s with the same outputs as g from t
pub record Agree (f : Fsm) (s : ℕ) (g : Fsm) (t : ℕ) (v : List (List Bool)) : Type 0 where
  pub outputs : List (List Bool)
  pub first : FsmRun f s v outputs
  pub second : FsmRun g t v outputs

-- under the vectors v the machine runs from p with other outputs than from q
pub record Differ (f : Fsm) (p q : ℕ) (v : List (List Bool)) : Type 0 where
  pub of_first : List (List Bool)
  pub of_second : List (List Bool)
  pub first : FsmRun f p v of_first
  pub second : FsmRun f q v of_second
  pub apart : of_first ≡ of_second → ⊥

-- vectors, each with a bit for each input, that tell p from q, and not more of them than there are states
pub record IsTest (f : Fsm) (p q : ℕ) (v : List (List Bool)) : Type 0 where
  pub apart : Differ f p q v
  pub short : length v ≤ length f.states
  pub vectors : All (λ i. length i ≡ length (fsm_inputs f)) v
