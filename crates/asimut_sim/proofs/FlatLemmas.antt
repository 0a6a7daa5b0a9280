-- A flat machine from its parts.
use Rattle.std.proofs.Common.{◌≡◌, ℕ, ◌+◌, List, [], map, length, refl, sym, ◌∙◌, ap, subst, arith, length-append}
use Rattle.std.specs.List.{All}
use Rattle.bool_expr.specs.Expression.{IsOver}
use Rattle.std.proofs.lemmas.List.{length-map}
use Rattle.vlsi_base.specs.declared.name.Name.{Name}
use Rattle.vlsi_base.specs.Range.{rising}
use Rattle.vlsi_base.proofs.Ranges.{length_of_rising}
use Rattle.machine_core.specs.Machine.{Machine, Equation, Register}
use Rattle.machine_core.specs.declared.equation.Equation.{Equation as EquationParts}
use Rattle.machine_core.specs.declared.equation.Register.{Register as RegisterParts}
use Rattle.machine_core.specs.Built.{built}
use Rattle.machine_core.specs.Checked.{IsChecked}
use Rattle.machine_core.specs.Order.{held_names, equation_names, EachReadsBelow}
use Rattle.machine_core.specs.View.{equation_view, register_view}
use Rattle.asimut_sim.specs.Load.{LoadsOver}
use Rattle.asimut_sim.specs.declared.program.Program.{Program}
use Rattle.asimut_sim.specs.declared.flat.FlatMachine.{FlatMachine}
use Rattle.asimut_sim.specs.Program.{extent, bits_of, AreBelow, ComputesEach}
use Rattle.asimut_sim.specs.Flat.{AreLoadsOf, ComputesLoads, IsFlat}
use Rattle.asimut_sim.proofs.CycleLemmas.{rising_below}
use Rattle.asimut_sim.proofs.LoadLemmas.{All-unmap}
use Rattle.asimut_sim.proofs.LayoutLemmas.{below_weaker}

pub vars_many : (m : Machine) (vars : List Name) (equations : List EquationParts) → IsChecked m → vars ≡ m.vars → map equation_view equations ≡ m.equations
    → length vars ≡ length (held_names m) + length equations
vars_many m vars equations checked v e =
    ap length (v ∙ checked.ordered.vars) ∙ length-append (held_names m) (equation_names m)
    ∙ ap (λ (n : ℕ). length (held_names m) + n) (length-map m.equations (λ x. x.name) ∙ sym (ap length e) ∙ length-map equations equation_view)

pub first_below : (p : Program) (places : List ℕ) (held : ℕ) → p.start ≡ 2 + held → p.operators.items ≡ [] → places ≡ rising 2 held → AreBelow (extent p) places
first_below p places held start none is =
    let many : length p.operators.items ≡ 0 = ap length none in
    let e : 2 + held ≡ extent p = omega (arith, start, many) in
    let P : ℕ → Type 0 = λ n. AreBelow n places in
    let Q : List ℕ → Type 0 = λ x. AreBelow (2 + held) x in
    subst P e (subst Q (sym is) (rising_below 2 held))

pub first_reads : (m : Machine) (places : List ℕ) (held : ℕ) (equations : List EquationParts) → IsChecked m → map equation_view equations ≡ m.equations
    → held ≡ length (held_names m) → places ≡ rising 2 held → EachReadsBelow (length places) (map equation_view equations)
first_reads m places held equations checked e many is =
    let n : length (held_names m) ≡ length places = sym many ∙ sym (length_of_rising 2 held) ∙ sym (ap length is) in
    let P : ℕ → Type 0 = λ k. EachReadsBelow k (map equation_view equations) in
    let Q : List Equation → Type 0 = λ x. EachReadsBelow (length (held_names m)) x in
    subst P n (subst Q (sym e) checked.ordered.below)

-- all names have places
pub places_many : (m : Machine) (p q : Program) (places vars : List ℕ) (held : ℕ) (equations : List EquationParts) → IsChecked m → map equation_view equations ≡ m.equations
    → held ≡ length (held_names m) → places ≡ rising 2 held → ComputesEach p q places vars (map equation_view equations) → length vars ≡ length m.vars
places_many m p q places vars held equations checked e many is each =
    let n : length places ≡ held = ap length is ∙ length_of_rising 2 held in
    let all = vars_many m m.vars equations checked refl e in
    let grows = each.many in
    let views = length-map equations equation_view in
    omega (arith, grows, views, n, many, all)

pub registers_over : (m : Machine) (n : ℕ) (registers : List RegisterParts) → IsChecked m → map register_view registers ≡ m.registers → n ≡ length m.vars
    → All (LoadsOver n) registers
registers_over m n registers checked is many =
    let P : List Register → Type 0 = λ x. All (λ r. IsOver r.next (length m.vars) × IsOver r.enable (length m.vars)) x in
    let Q : ℕ → Type 0 = λ k. All (LoadsOver k) registers in
    subst Q (sym many) (All-unmap (λ r. IsOver r.next (length m.vars) × IsOver r.enable (length m.vars)) register_view registers (subst P (sym is) checked.loads))

-- registers read places that stand before what is laid out for them
pub loading_below : (p q : Program) (vars items : List ℕ) → q.start ≡ extent p → items ≡ vars → AreBelow (extent p) vars → AreBelow (extent q) items
loading_below p q vars items start is below =
    let P : List ℕ → Type 0 = λ x. AreBelow (extent q) x in subst P (sym is) (below_weaker (extent p) (extent q) vars (omega (arith, start)) below)

pub flat_from : (f : FlatMachine) (p q : Program) (places items : List ℕ) (held : ℕ) (equations : List EquationParts) (registers : List RegisterParts)
    → IsChecked f.machine.now → map equation_view equations ≡ f.machine.now.equations → map register_view registers ≡ f.machine.now.registers
    → held ≡ length (held_names f.machine.now) → places ≡ rising 2 held → p.start ≡ 2 + held → q.start ≡ extent f.settling
    → ComputesEach p f.settling places f.vars.items (map equation_view equations) → items ≡ f.vars.items
    → ComputesLoads q f.loading items f.loads.items (map register_view registers) → IsFlat f
flat_from f p q places items held equations registers checked e r many is start behind each all loads = record {
  checked = checked;
  start = each.goes_on.start ∙ start ∙ ap (λ (n : ℕ). 2 + n) many;
  settling = each.goes_on.program;
  loading = loads.goes_on.program;
  behind = loads.goes_on.start ∙ behind;
  within = each.within;
  values = λ a h.
      each.values a h ∙ ap (λ (x : List ℕ). built (bits_of a x) (map equation_view equations)) (is ∙ ap (rising 2) many)
      ∙ ap (built (bits_of a (rising 2 (length (held_names f.machine.now))))) e;
  loads_within = loads.within;
  loads = λ a h.
      let P : List Register → Type 0 = λ x. AreLoadsOf a (bits_of a items) f.loads.items x in
      let Q : List ℕ → Type 0 = λ x. AreLoadsOf a (bits_of a x) f.loads.items f.machine.now.registers in
      subst Q all (subst P r (loads.values a h));
}
