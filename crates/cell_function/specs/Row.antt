-- The value of a machine's output, vector by vector, and expressions that have it.
use Rattle.std.specs.Prelude.{◌≡◌, ℕ, ◌≤◌, Bool, true, false, not, ◌&&◌, List, [], ◌∷◌, ◌++◌, length, filter, nat_eq, Option, None, Some, if◌then◌else◌}
use Rattle.vlsi_base.specs.declared.name.Name.{Name}
use Rattle.vlsi_base.specs.declared.name.Port.{Port}
use Rattle.bool_expr.specs.Expression.{Expression, val}
use Rattle.bool_expr.specs.View.{view}
use Rattle.bool_expr.specs.declared.expr.Expr.{Expr}
use Rattle.machine_core.specs.Machine.{Machine, Register, inputs, outputs, is_input, names_of}
use Rattle.machine_core.specs.Named.{value_at}
use Rattle.machine_core.specs.Built.{built}
use Rattle.cell_function.specs.Function.{most_inputs, AreScalar, IsGate, IsNoGate, IsFlipFlop, IsNoFlipFlop}

abbrev pub first : {A : Type 0} → List A → Option A
first [] = None
first (x ∷ rest) = Some x

-- the names of the output ports
abbrev pub output_names : List Port → List Name
output_names ports = names_of (filter (λ p. not (is_input p.dir)) ports)

-- the one output, where there is just one
abbrev pub only_output : List Port → Option Name
only_output ports = if nat_eq (length (output_names ports)) 1 then first (output_names ports) else None

-- the output's value under an input vector, where each equation in turn adds its value
abbrev pub row : Machine → Name → List Bool → Bool
row m output i = value_at m.vars (built (i ++ []) m.equations) output

-- the expression has these values, whatever n bits stand behind the front
abbrev pub HasRows : (List Bool → Bool) → List Bool → ℕ → Expression → Type 0
HasRows f front n e = (back : List Bool) → length back ≡ n → val e (front ++ back) ≡ f (front ++ back)

-- the gate that a machine is, or that it is none
abbrev pub IsGateOr : Machine → Option Expr → Type 0
IsGateOr m (Some e) = IsGate m (view e)
IsGateOr m None = IsNoGate m

abbrev pub IsFlipFlopOr : Machine → Option (Name × Name) → Type 0
IsFlipFlopOr m (Some pins) = IsFlipFlop m pins.0 pins.1
IsFlipFlopOr m None = IsNoFlipFlop m

-- the shape of a gate with this output
pub record HasGateShape (m : Machine) (output : Name) : Type 0 where
  pub scalars : AreScalar m.ports
  pub one : outputs m ≡ output ∷ []
  pub few : length (inputs m) ≤ most_inputs
  pub unclocked : m.clock ≡ None
  pub stateless : m.registers ≡ []

abbrev pub IsGateOutput : Machine → Option Name → Type 0
IsGateOutput m (Some output) = HasGateShape m output
IsGateOutput m None = IsNoGate m

-- the shape of a flip-flop with this output, but for its clock
pub record HasStorageShape (m : Machine) (output : Name) : Type 0 where
  pub scalars : AreScalar m.ports
  pub one : outputs m ≡ output ∷ []
  pub data_input : length (inputs m) ≡ 1
  pub stored : length m.registers ≡ 1

abbrev pub IsStorageOutput : Machine → Option Name → Type 0
IsStorageOutput m (Some output) = HasStorageShape m output
IsStorageOutput m None = IsNoFlipFlop m

abbrev pub same : Bool → Bool → Bool
same a b = if a then b else not b

-- in this valuation the one register loads the given bit, and the output has the held one
abbrev pub kept : List Register → List Name → Name → Bool → Bool → List Bool → Bool
kept [] vars output held given w = false
kept (r ∷ []) vars output held given w = same (val r.next w) given && (val r.enable w && same (value_at vars w output) held)
kept (r ∷ q ∷ rest) vars output held given w = false

abbrev pub keeps : Machine → Name → Bool → Bool → Bool
keeps m output held given = kept m.registers m.vars output held given (built ((given ∷ []) ++ (held ∷ [])) m.equations)

-- so for each bit that is held, and each that is given
abbrev pub keeps_always : Machine → Name → Bool
keeps_always m output = keeps m output false false && (keeps m output false true && (keeps m output true false && keeps m output true true))
