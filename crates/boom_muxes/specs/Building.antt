-- The optimised machine, part by part.
use Rattle.std.specs.Prelude.{◌≡◌, ℕ, suc, ◌+◌, ◌*◌, ◌<◌, ◌^◌, false, nat_lt, List, [], ◌∷◌, ◌++◌, map, length, Option, None, Some, IfSome, if◌then◌else◌}
use Rattle.std.specs.List.{slice_index_or}
use Rattle.vlsi_base.specs.Range.{rising}
use Rattle.machine_core.specs.Machine.{Machine, Equation, Register, names_of}
use Rattle.machine_core.specs.Order.{held_names, equation_names}
use Rattle.machine_core.specs.Checked.{IsChecked}
use Rattle.machine_walk.specs.Expansion.{held_count}
use Rattle.boom_literal.specs.declared.literal.Literal.{Literal}
use Rattle.boom_literal.specs.declared.literal.Literal.TheVariants.{Constant}
use Rattle.boom_muxes.specs.declared.mux.Mux.{Mux}
use Rattle.boom_muxes.specs.declared.plan.Plan.{Plan}
use Rattle.boom_literal.specs.Literals.{said}
use Rattle.boom_muxes.specs.Muxes.{mux_expression, EachIsBelow, IsLiteralBelow}
use Rattle.boom_muxes.specs.Names.{IsFreshText, new_names}

-- the numbers of the names, where so many new ones stand behind the first ones
abbrev pub numbers_behind : ℕ → ℕ → ℕ → List ℕ
numbers_behind held count total = map (λ k. if nat_lt k held then k else k + count) (rising 0 total)

-- the literal of equation number k by a plan: 0 where it has none
abbrev pub or_zero : Option Literal → Option Literal
or_zero None = Some (Constant false)
or_zero (Some l) = Some l

abbrev pub literal_for : Option Plan → ℕ → Option Literal
literal_for None k = None
literal_for (Some p) k = or_zero (slice_index_or p.equations.items k None)

-- the literal of what registers load, number k of them by a plan
abbrev pub load_for : Option Plan → ℕ → Option Literal
load_for None k = None
load_for (Some p) k = Some (slice_index_or p.loads.items k (Constant false))

abbrev pub equations_said : List ℕ → Option Plan → ℕ → List Equation → List Equation
equations_said numbers plan k [] = []
equations_said numbers plan k (e ∷ rest) =
    record { name = e.name; expr = said numbers (literal_for plan k) e.expr } ∷ equations_said numbers plan (suc k) rest

abbrev pub registers_said : List ℕ → Option Plan → ℕ → List Register → List Register
registers_said numbers plan k [] = []
registers_said numbers plan k (r ∷ rest) = record {
  name = r.name;
  next = said numbers (load_for plan (2 * k)) r.next;
  enable = said numbers (load_for plan (2 * k + 1)) r.enable;
} ∷ registers_said numbers plan (suc k) rest

-- the equations of choices, the first of which has the bit k of their name
abbrev pub mux_equations : List ℕ → ℕ → List Mux → List Equation
mux_equations text k [] = []
mux_equations text k (x ∷ rest) = record { name = record { text = text; bit = Some k }; expr = mux_expression x } ∷ mux_equations text (suc k) rest

-- a plan for all equations and registers of a machine, whose literals are inputs, registers and choices
pub record IsPlanFor (m : Machine) (muxes : List Mux) (p : Plan) : Type 0 where
  pub equations : length p.equations.items ≡ length m.equations
  pub loads : length p.loads.items ≡ 2 * length m.registers
  pub below : (k : ℕ) (l : Literal) → slice_index_or p.equations.items k None ≡ Some l → IsLiteralBelow (held_count m + length muxes) l
  pub loads_below : (k : ℕ) → k < length p.loads.items → IsLiteralBelow (held_count m + length muxes) (slice_index_or p.loads.items k (Constant false))

-- Each choice reads inputs, registers and earlier choices, and so does what the plan says; without a plan there are no choices.
pub record MayBeBuilt (m : Machine) (muxes : List Mux) (plan : Option Plan) : Type 0 where
  pub checked : IsChecked m
  pub below : EachIsBelow (held_count m) (held_count m) muxes
  pub planned : IfSome plan (λ p. IsPlanFor m muxes p)

-- the machine of these choices and of this plan
pub record IsBuilt (m : Machine) (muxes : List Mux) (plan : Option Plan) (o : Machine) : Type 0 where
  pub text : List ℕ
  pub fresh : IsFreshText (names_of m.ports ++ m.vars) text
  pub few : length m.vars + length muxes < 2 ^ 32
  pub name : o.name ≡ m.name
  pub ports : o.ports ≡ m.ports
  pub clock : o.clock ≡ m.clock
  pub vars : o.vars ≡ held_names m ++ (new_names text (length muxes) ++ equation_names m)
  pub equations : o.equations ≡ mux_equations text 0 muxes
      ++ equations_said (numbers_behind (held_count m) (length muxes) (length m.vars)) plan 0 m.equations
  pub registers : o.registers ≡ registers_said (numbers_behind (held_count m) (length muxes) (length m.vars)) plan 0 m.registers
