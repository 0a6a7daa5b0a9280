-- What is kept of a machine in whose place another one stands, and how large that may be.
use Rattle.std.specs.Prelude.{◌≡◌, ◌⊎◌, ℕ, ◌+◌, ◌<◌, ◌≤◌, Bool, not, nat_lt, List, ◌++◌, map, filter, if◌then◌else◌}
use Rattle.std.specs.List.{AllZip, list_any, sum_by}
use Rattle.vlsi_base.specs.declared.name.Name.{Name}
use Rattle.vlsi_base.specs.declared.name.Port.{Port}
use Rattle.vlsi_base.specs.Member.{In}
use Rattle.bool_expr.specs.Expression.{Expression, variable, size_of}
use Rattle.machine_core.specs.Named.{is_same_name}
use Rattle.machine_core.specs.Machine.{Machine, Equation, Register, outputs, names_of, is_input}
use Rattle.machine_core.specs.Size.{machine_size}
use Rattle.machine_core.specs.Order.{held_names, equation_names}
use Rattle.machine_core.specs.Alike.{IsAlike}
use Rattle.machine_walk.specs.Expansion.{with_variables, held_count}
use Rattle.boom_muxes.specs.Names.{new_names}

-- the name is that of an output among these ports
abbrev pub is_shown : List Port → Name → Bool
is_shown ports name = list_any (λ n. is_same_name n name) (names_of (filter (λ p. not (is_input p.dir)) ports))

-- how large these equations are, but for those of outputs
abbrev pub hidden_size : List Port → List Equation → ℕ
hidden_size ports es = sum_by (λ e. if is_shown ports e.name then 0 else size_of e.expr) es

-- how large the equations of inner signals are: of those that are no outputs
abbrev pub is_output : Machine → Name → Bool
is_output m name = list_any (λ n. is_same_name n name) (outputs m)

abbrev pub inner_size : Machine → ℕ
inner_size m = sum_by (λ e. if is_output m e.name then 0 else size_of e.expr) m.equations

-- the same expression, name by name, where so many new names stand behind inputs and registers
abbrev pub behind_new : ℕ → ℕ → Expression → Expression
behind_new held count e = with_variables (λ k. variable (if nat_lt k held then k else k + count)) e

-- the one that was given, or a strictly smaller one
abbrev pub IsGivenOrSmaller : Expression → Expression → Type 0
IsGivenOrSmaller given made = (made ≡ given) ⊎ (size_of made < size_of given)

-- The names of the machine stay, in their order; new ones are bits of a vector of a name that it doesn't have, and their equations
-- stand before the others. There are no more new ones than the given machine weighs. What an equation or a register of the given machine
-- says is kept, or is strictly smaller.
pub record IsKept (m o : Machine) : Type 0 where
  pub text : List ℕ
  pub made : List Equation
  pub kept : List Equation
  pub count : ℕ
  pub few : count ≤ machine_size m
  pub fresh : (name : Name) → In name (names_of m.ports ++ m.vars) → name.text ≡ text → ⊥
  pub vars : o.vars ≡ held_names m ++ (new_names text count ++ equation_names m)
  pub equations : o.equations ≡ made ++ kept
  pub new : map (λ e. e.name) made ≡ new_names text count
  pub said : AllZip (λ (e f : Equation). (f.name ≡ e.name) × IsGivenOrSmaller (behind_new (held_count m) count e.expr) f.expr) m.equations kept
  pub loads : AllZip (λ (r q : Register). (q.name ≡ r.name) × IsGivenOrSmaller (behind_new (held_count m) count r.next) q.next
      × IsGivenOrSmaller (behind_new (held_count m) count r.enable) q.enable) m.registers o.registers

-- it does the same, keeps what isn't smaller, isn't larger itself, and its inner signals weigh at most so much
pub record IsAcceptable (m : Machine) (most : ℕ) (o : Machine) : Type 0 where
  pub alike : IsAlike m o
  pub kept : IsKept m o
  pub size : machine_size o ≤ machine_size m
  pub inner : inner_size o ≤ most
