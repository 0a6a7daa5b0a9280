-- State machines by their statements, what they do in a cycle, and their runs.
use Rattle.std.specs.Prelude.{◌≡◌, ℕ, Bool, not, List, [], ◌∷◌, map, filter, Option, None, Some}
use Rattle.vlsi_base.specs.declared.name.Name.{Name}
use Rattle.vlsi_base.specs.declared.name.Port.{Port}
use Rattle.machine_core.specs.Named.{is_same_name, values_at}
use Rattle.machine_core.specs.Machine.{is_input, names_of}
use Rattle.fsm_machine.specs.Statements.{Statements}
use Rattle.fsm_machine.specs.Walk.{walk, given_next, given_output}

-- a state machine as it is written, after its checks
pub record Fsm : Type 0 where
  pub name : List ℕ
  -- the bits of the ports without vdd and vss, in the order of names; variable k of an expression is number k of them
  pub ports : List Port
  pub clock : Name
  pub states : List Name
  pub body : Statements

-- the input bits but the clock, in the order of names: what a vector has a bit for
abbrev pub fsm_inputs : Fsm → List Name
fsm_inputs f = filter (λ name. not (is_same_name f.clock name)) (names_of (filter (λ p. is_input p.dir) f.ports))

-- the output bits in the order of names
abbrev pub fsm_outputs : Fsm → List Name
fsm_outputs f = names_of (filter (λ p. not (is_input p.dir)) f.ports)

-- a bit for each port, under an input vector; a port that is no input reads as 0
abbrev pub seen : Fsm → List Bool → List Bool
seen f i = values_at (fsm_inputs f) i (names_of f.ports)

-- what the walk through the statements, with this state or with none, knows at its end of the next state
abbrev pub walked_next : Fsm → List Bool → Option ℕ → Option ℕ
walked_next f i st = walk given_next (seen f i) st f.body None

-- what it knows at its end of an output bit
abbrev pub walked_output : Fsm → List Bool → Option ℕ → Name → Option Bool
walked_output f i st name = walk (given_output (seen f i) name) (seen f i) st f.body None

-- the vector leads to the state r whatever the state is
abbrev pub Resets : Fsm → List Bool → ℕ → Type 0
Resets f i r = walked_next f i None ≡ Some r

-- from the state s, the vectors v give the outputs y
abbrev pub FsmRun : Fsm → ℕ → List (List Bool) → List (List Bool) → Type 0
FsmRun f s [] y = y ≡ []
FsmRun f s (i ∷ v) y =
    (outs : List Bool) × (map (walked_output f i (Some s)) (fsm_outputs f) ≡ map (λ b. Some b) outs)
    × ((after : ℕ) × (walked_next f i (Some s) ≡ Some after)
    × ((rest : List (List Bool)) × (y ≡ outs ∷ rest) × FsmRun f after v rest))
