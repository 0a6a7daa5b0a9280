-- The parts of a machine that is made anew.
use Rattle.std.proofs.Common.{◌≡◌, ℕ, zero, suc, ◌+◌, ◌-◌, ◌^◌, ◌<◌, ◌≤◌, List, [], ◌∷◌, ◌++◌, length, map, take, drop, Option, refl, sym, ap, subst, ◌∙◌, arith}
use Rattle.std.specs.List.{All}
use Rattle.std.proofs.lemmas.List.{length-map}
use Rattle.vlsi_base.specs.declared.name.Name.{Name}
use Rattle.vlsi_base.specs.declared.name.Port.{Port}
use Rattle.bool_expr.specs.Expression.{IsOver}
use Rattle.bool_expr.specs.View.{view}
use Rattle.machine_core.specs.declared.equation.Equation.{Equation as EquationParts}
use Rattle.machine_core.specs.declared.equation.Register.{Register as RegisterParts}
use Rattle.machine_core.specs.Machine.{Machine, Equation, Register, names_of}
use Rattle.machine_core.specs.Order.{held_names, equation_names, EachReadsBelow}
use Rattle.machine_core.specs.Checked.{IsChecked}
use Rattle.machine_core.specs.View.{equation_view, register_view, machine_of}
use Rattle.machine_walk.specs.Expansion.{held_count}
use Rattle.boom_muxes.specs.declared.mux.Mux.{Mux}
use Rattle.boom_muxes.specs.declared.plan.Plan.{Plan}
use Rattle.boom_muxes.specs.Names.{IsFreshText, new_names}
use Rattle.boom_muxes.specs.Building.{numbers_behind, equations_said, registers_said, mux_equations, IsBuilt}
use Rattle.boom_muxes.proofs.Numbered.{over_more, all_names}

over_each : (n total : ℕ) (es : List EquationParts) → EachReadsBelow n (map equation_view es) → n + length es ≤ total → All (λ (e : EquationParts). IsOver (view e.expr) total) es
over_each n total [] reads room k d h = absurd (omega arith)
over_each n total (e ∷ es) reads room zero d h = over_more (view e.expr) n total (omega (arith, room)) reads.0
over_each n total (e ∷ es) reads room (suc k) d h = over_each (n + 1) total es reads.1 (omega (arith, room)) k d (omega arith)

-- the equations read the machine's names
pub equations_over : (m : Machine) (total : ℕ) (es : List EquationParts) → IsChecked m → map equation_view es ≡ m.equations → total ≡ length m.vars → All (λ (e : EquationParts). IsOver (view e.expr) total) es
equations_over m total es checked is long =
    over_each (held_count m) total es (subst (λ (l : List Equation). EachReadsBelow (held_count m) l) (sym is) checked.ordered.below)
    (let a = all_names m checked in let b = ap length is in let c = length-map es equation_view in omega (arith, a, b, c, long))

registers_each : (total : ℕ) (rs : List RegisterParts) → All (λ (r : Register). IsOver r.next total × IsOver r.enable total) (map register_view rs)
    → All (λ (r : RegisterParts). IsOver (view r.next) total × IsOver (view r.enable) total) rs
registers_each total [] all k d h = absurd (omega arith)
registers_each total (r ∷ rs) all zero d h = all 0 (register_view r) (omega arith)
registers_each total (r ∷ rs) all (suc k) d h = registers_each total rs (λ i e q. all (suc i) e (omega arith)) k d (omega arith)

loads_each : (m : Machine) (total : ℕ) (rs : List RegisterParts) → IsChecked m → map register_view rs ≡ m.registers → total ≡ length m.vars
    → All (λ (r : RegisterParts). IsOver (view r.next) total × IsOver (view r.enable) total) rs
loads_each m total rs checked is long =
    registers_each total rs (subst (λ (n : ℕ). All (λ (r : Register). IsOver r.next n × IsOver r.enable n) (map register_view rs)) (sym long)
    (subst (λ (l : List Register). All (λ (r : Register). IsOver r.next (length m.vars) × IsOver r.enable (length m.vars)) l) (sym is) checked.loads))

pub nexts_over : (m : Machine) (total : ℕ) (rs : List RegisterParts) → IsChecked m → map register_view rs ≡ m.registers → total ≡ length m.vars → All (λ (r : RegisterParts). IsOver (view r.next) total) rs
nexts_over m total rs checked is long k d h = (loads_each m total rs checked is long k d h).0

pub enables_over : (m : Machine) (total : ℕ) (rs : List RegisterParts) → IsChecked m → map register_view rs ≡ m.registers → total ≡ length m.vars → All (λ (r : RegisterParts). IsOver (view r.enable) total) rs
enables_over m total rs checked is long k d h = (loads_each m total rs checked is long k d h).1

pub held_is : (m : Machine) (es : List EquationParts) → IsChecked m → map equation_view es ≡ m.equations → length m.vars - length es ≡ held_count m
held_is m es checked is = let a = all_names m checked in let b = ap length is in let c = length-map es equation_view in omega (arith, a, b, c)

take_front : (front back : List Name) → take (length front) (front ++ back) ≡ front
take_front [] back = refl
take_front (n ∷ front) back = ap (λ (l : List Name). n ∷ l) (take_front front back)

drop_front : (front back : List Name) → drop (length front) (front ++ back) ≡ back
drop_front [] back = refl
drop_front (n ∷ front) back = drop_front front back

-- the names: those of inputs and registers, the new ones, and those of the equations
pub names_parts : (m : Machine) (held count : ℕ) (text : List ℕ) (given vars : List Name) → IsChecked m → given ≡ m.vars → held ≡ held_count m
    → vars ≡ take held given ++ (new_names text count ++ drop held given) → vars ≡ held_names m ++ (new_names text count ++ equation_names m)
names_parts m held count text given vars checked is at e =
    let all : given ≡ held_names m ++ equation_names m = is ∙ checked.ordered.vars in
    let front : take held given ≡ held_names m = (λ j. take (at j) (all j)) ∙ take_front (held_names m) (equation_names m) in
    let back : drop held given ≡ equation_names m = (λ j. drop (at j) (all j)) ∙ drop_front (held_names m) (equation_names m) in
    e ∙ (λ j. front j ++ (new_names text count ++ back j))

-- the machine of these parts
pub built_of : (m : Machine) (muxes : List Mux) (plan : Option Plan) (text : List ℕ) (held count total : ℕ) (numbers : List ℕ) (name : List ℕ) (ports : List Port) (clock : Option Name) (vars given : List Name)
    (equations es : List EquationParts) (registers rs : List RegisterParts) → IsChecked m → held ≡ held_count m → count ≡ length muxes → total ≡ length m.vars → given ≡ m.vars
    → IsFreshText (names_of m.ports ++ m.vars) text → total + count < 2 ^ 32 → name ≡ m.name → ports ≡ m.ports → clock ≡ m.clock
    → vars ≡ take held given ++ (new_names text count ++ drop held given) → numbers ≡ numbers_behind held count total
    → map equation_view es ≡ m.equations → map register_view rs ≡ m.registers
    → map equation_view equations ≡ mux_equations text 0 muxes ++ equations_said numbers plan 0 (map equation_view es)
    → map register_view registers ≡ registers_said numbers plan 0 (map register_view rs) → IsBuilt m muxes plan (machine_of name ports clock vars equations registers)
built_of m muxes plan text held count total numbers name ports clock vars given equations es registers rs checked at many long is fresh few named ported clocked names numbered es_are rs_are said loaded = record {
  text = text;
  fresh = fresh;
  few = omega (arith, few, many, long);
  name = named;
  ports = ported;
  clock = clocked;
  vars = subst (λ (n : ℕ). vars ≡ held_names m ++ (new_names text n ++ equation_names m)) many (names_parts m held count text given vars checked is at names);
  equations = said ∙ (λ j. mux_equations text 0 muxes ++ equations_said (numbers_are j) plan 0 (es_are j));
  registers = loaded ∙ (λ j. registers_said (numbers_are j) plan 0 (rs_are j));
}
  where
    numbers_are : numbers ≡ numbers_behind (held_count m) (length muxes) (length m.vars)
    numbers_are = numbered ∙ (λ j. numbers_behind (at j) (many j) (long j))

-- the equations, one list behind the other
pub put_together : (out0 out1 out2 equations : List EquationParts) (first second : List Equation) → equations ≡ out2 → map equation_view out2 ≡ map equation_view out1 ++ second
    → map equation_view out1 ≡ map equation_view out0 ++ first → out0 ≡ [] → map equation_view equations ≡ first ++ second
put_together out0 out1 out2 equations first second e two one none =
    ap (map equation_view) e ∙ two ∙ ap (λ (l : List Equation). l ++ second) (one ∙ ap (λ (l : List EquationParts). map equation_view l ++ first) none)
