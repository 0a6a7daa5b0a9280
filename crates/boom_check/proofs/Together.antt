-- From the parts to the machine.
use Rattle.std.proofs.Common.{◌≡◌, inl, inr, ℕ, zero, suc, ◌+◌, ◌≤◌, List, [], ◌∷◌, ◌++◌, length, map, take, drop, refl, sym, ap, subst, ◌∙◌, arith, length-append}
use Rattle.std.specs.List.{All, AllZip}
use Rattle.std.proofs.lemmas.List.{length-map}
use Rattle.vlsi_base.specs.declared.name.Name.{Name}
use Rattle.bool_expr.specs.Expression.{Expression, IsOver}
use Rattle.bool_expr.specs.View.{view}
use Rattle.machine_core.specs.declared.equation.Equation.{Equation as EquationParts}
use Rattle.machine_core.specs.declared.equation.Register.{Register as RegisterParts}
use Rattle.machine_core.specs.Machine.{Machine, Equation, Register, names_of, register_names}
use Rattle.machine_core.specs.Order.{held_names, equation_names, EachReadsBelow}
use Rattle.machine_core.specs.Checked.{IsChecked}
use Rattle.machine_core.specs.Size.{machine_size}
use Rattle.machine_core.specs.View.{equation_view, register_view}
use Rattle.machine_walk.specs.Expansion.{held_count}
use Rattle.boom_muxes.specs.Names.{IsFreshText, new_names}
use Rattle.boom_muxes.specs.Building.{numbers_behind}
use Rattle.boom_muxes.specs.Anew.{IsAnew}
use Rattle.boom_muxes.proofs.Numbered.{over_more, all_names}
use Rattle.boom_muxes.proofs.Parts.{names_parts}
use Rattle.boom_muxes.proofs.Anew.{length-new_names}
use Rattle.boom_check.specs.declared.assembling.Parts.{Parts}
use Rattle.boom_check.specs.Kept.{behind_new, IsGivenOrSmaller}
use Rattle.boom_check.specs.Assembling.{IsSaid, IsSaidEquation, IsSaidRegister, ArePartsOf, IsAssembled}
use Rattle.boom_check.proofs.Behind.{renumbered_behind, size_behind}

-- ---- what is said is given or smaller

said_given : (held count total : ℕ) (e f : Expression) → IsOver e total → IsSaid (numbers_behind held count total) e f → IsGivenOrSmaller (behind_new held count e) f
said_given held count total e f over (inl same) = inl (same ∙ renumbered_behind held count total e over)
said_given held count total e f over (inr less) = let same = size_behind held count e in inr (omega (arith, less, same))

equations_given : (held count total n : ℕ) (es fs : List Equation) → EachReadsBelow n es → n + length es ≤ total → AllZip (IsSaidEquation (numbers_behind held count total)) es fs
    → AllZip (λ (e f : Equation). (f.name ≡ e.name) × IsGivenOrSmaller (behind_new held count e.expr) f.expr) es fs
equations_given held count total n [] [] reads room all = tt
equations_given held count total n [] (f ∷ fs) reads room all = elim all [ ]
equations_given held count total n (e ∷ es) [] reads room all = elim all [ ]
equations_given held count total n (e ∷ es) (f ∷ fs) reads room all = (
  (all.0.0, said_given held count total e.expr f.expr (over_more e.expr n total (omega (arith, room)) reads.0) all.0.1),
  equations_given held count total (n + 1) es fs reads.1 (omega (arith, room)) all.1,
)

registers_given : (held count total : ℕ) (rs qs : List Register) → All (λ (r : Register). IsOver r.next total × IsOver r.enable total) rs
    → AllZip (IsSaidRegister (numbers_behind held count total)) rs qs
    → AllZip (λ (r q : Register). (q.name ≡ r.name) × IsGivenOrSmaller (behind_new held count r.next) q.next
    × IsGivenOrSmaller (behind_new held count r.enable) q.enable) rs qs
registers_given held count total [] [] over all = tt
registers_given held count total [] (q ∷ qs) over all = elim all [ ]
registers_given held count total (r ∷ rs) [] over all = elim all [ ]
registers_given held count total (r ∷ rs) (q ∷ qs) over all =
    let first = over 0 r (omega arith) in (
      (all.0.0, said_given held count total r.next q.next first.0 all.0.1, said_given held count total r.enable q.enable first.1 all.0.2),
      registers_given held count total rs qs (λ k d h. over (suc k) d (omega arith)) all.1,
    )

-- ---- the parts

pub parts_of : (m : Machine) → IsChecked m → (p : Parts) (held count total : ℕ) (numbers : List ℕ) (given : List Name) (es made kept : List EquationParts) (rs : List RegisterParts) → held ≡ held_count m
    → total ≡ length m.vars → given ≡ m.vars → numbers ≡ numbers_behind held count total → count ≤ machine_size m → IsFreshText (names_of m.ports ++ m.vars) p.text
    → p.vars.items ≡ take held given ++ (new_names p.text count ++ drop held given) → map equation_view es ≡ m.equations → map register_view rs ≡ m.registers
    → map (λ (e : EquationParts). e.name) made ≡ new_names p.text count → AllZip (IsSaidEquation numbers) (map equation_view es) (map equation_view kept) → p.equations.items ≡ made ++ kept
    → AllZip (IsSaidRegister numbers) (map register_view rs) (map register_view p.registers.items) → ArePartsOf m p
parts_of m checked p held count total numbers given es made kept rs at long is numbered few fresh vars es_are rs_are new said all loaded = record {
  count = count;
  few = few;
  fresh = fresh;
  vars = names_parts m held count p.text given p.vars.items checked is at vars;
  made = map equation_view made;
  kept = map equation_view kept;
  equations = ap (map equation_view) all ∙ map_append made kept;
  new = same_names made ∙ new;
  said = equations_given (held_count m) count (length m.vars) (held_count m) m.equations (map equation_view kept) checked.ordered.below (let t = all_names m checked in omega (arith, t))
      (subst (λ (ns : List ℕ). AllZip (IsSaidEquation ns) m.equations (map equation_view kept)) numbers_are
      (subst (λ (l : List Equation). AllZip (IsSaidEquation numbers) l (map equation_view kept)) es_are said));
  loads = registers_given (held_count m) count (length m.vars) m.registers (map register_view p.registers.items) checked.loads
      (subst (λ (ns : List ℕ). AllZip (IsSaidRegister ns) m.registers (map register_view p.registers.items)) numbers_are
      (subst (λ (l : List Register). AllZip (IsSaidRegister numbers) l (map register_view p.registers.items)) rs_are loaded));
}
  where
    numbers_are : numbers ≡ numbers_behind (held_count m) count (length m.vars)
    numbers_are = numbered ∙ (λ j. numbers_behind (at j) count (long j))

    map_append : (xs ys : List EquationParts) → map equation_view (xs ++ ys) ≡ map equation_view xs ++ map equation_view ys
    map_append [] ys = refl
    map_append (x ∷ xs) ys = ap (λ (l : List Equation). equation_view x ∷ l) (map_append xs ys)

    same_names : (xs : List EquationParts) → map (λ (e : Equation). e.name) (map equation_view xs) ≡ map (λ (e : EquationParts). e.name) xs
    same_names [] = refl
    same_names (x ∷ xs) = ap (λ (l : List Name). x.name ∷ l) (same_names xs)

-- ---- how many there are

zip_length : {A B : Type 0} (R : A → B → Type 0) (xs : List A) (ys : List B) → AllZip R xs ys → length ys ≡ length xs
zip_length R [] [] h = refl
zip_length R [] (y ∷ ys) h = elim h [ ]
zip_length R (x ∷ xs) [] h = elim h [ ]
zip_length R (x ∷ xs) (y ∷ ys) h = ap suc (zip_length R xs ys h.1)

-- the names
pub names_long : (m : Machine) → IsChecked m → (p : Parts) (w : ArePartsOf m p) → length p.vars.items ≡ length m.vars + w.count
names_long m checked p w =
    let n = ap length w.vars in
    let x = length-append (held_names m) (new_names p.text w.count ++ equation_names m) in
    let y = length-append (new_names p.text w.count) (equation_names m) in
    let z = length-new_names p.text w.count in
    let t = ap length checked.ordered.vars ∙ length-append (held_names m) (equation_names m) in
    omega (arith, n, x, y, z, t)

-- the equations
pub equations_long : (m : Machine) (p : Parts) (w : ArePartsOf m p) → length p.equations.items ≡ w.count + length m.equations
equations_long m p w =
    let viewed = sym (length-map p.equations.items equation_view) ∙ ap length w.equations ∙ length-append w.made w.kept in
    let new = sym (length-map w.made (λ (e : Equation). e.name)) ∙ ap length w.new ∙ length-new_names p.text w.count in
    let kept = zip_length (λ (e f : Equation). (f.name ≡ e.name) × IsGivenOrSmaller (behind_new (held_count m) w.count e.expr) f.expr) m.equations w.kept w.said in
    omega (arith, viewed, new, kept)

-- ---- the machine

equations_named : (held count : ℕ) (es fs : List Equation) → AllZip (λ (e f : Equation). (f.name ≡ e.name) × IsGivenOrSmaller (behind_new held count e.expr) f.expr) es fs
    → map (λ (e : Equation). e.name) fs ≡ map (λ (e : Equation). e.name) es
equations_named held count [] [] all = refl
equations_named held count [] (f ∷ fs) all = elim all [ ]
equations_named held count (e ∷ es) [] all = elim all [ ]
equations_named held count (e ∷ es) (f ∷ fs) all = let rest = equations_named held count es fs all.1 in λ j. all.0.0 j ∷ rest j

registers_named : (held count : ℕ) (rs qs : List Register) → AllZip (λ (r q : Register). (q.name ≡ r.name) × IsGivenOrSmaller (behind_new held count r.next) q.next
    × IsGivenOrSmaller (behind_new held count r.enable) q.enable) rs qs → map (λ (r : Register). r.name) qs ≡ map (λ (r : Register). r.name) rs
registers_named held count [] [] all = refl
registers_named held count [] (q ∷ qs) all = elim all [ ]
registers_named held count (r ∷ rs) [] all = elim all [ ]
registers_named held count (r ∷ rs) (q ∷ qs) all = let rest = registers_named held count rs qs all.1 in λ j. all.0.0 j ∷ rest j

names_append : (xs ys : List Equation) → map (λ (e : Equation). e.name) (xs ++ ys) ≡ map (λ (e : Equation). e.name) xs ++ map (λ (e : Equation). e.name) ys
names_append [] ys = refl
names_append (x ∷ xs) ys = ap (λ (l : List Name). x.name ∷ l) (names_append xs ys)

viewed : (total : ℕ) (rs : List RegisterParts) → All (λ (r : RegisterParts). IsOver (view r.next) total × IsOver (view r.enable) total) rs
    → All (λ (r : Register). IsOver r.next total × IsOver r.enable total) (map register_view rs)
viewed total [] all k d h = absurd (omega arith)
viewed total (r ∷ rs) all zero d h = all 0 r (omega arith)
viewed total (r ∷ rs) all (suc k) d h = viewed total rs (λ i e q. all (suc i) e (omega arith)) k d (omega arith)

module _ (m : Machine) (p : Parts) (w : ArePartsOf m p) (o : Machine) (name : o.name ≡ m.name) (ports : o.ports ≡ m.ports) (clock : o.clock ≡ m.clock) (vars : o.vars ≡ p.vars.items)
    (equations : o.equations ≡ map equation_view p.equations.items) (registers : o.registers ≡ map register_view p.registers.items) where
  same_registers : register_names o ≡ register_names m
  same_registers = ap (map (λ (r : Register). r.name)) registers ∙ registers_named (held_count m) w.count m.registers (map register_view p.registers.items) w.loads

  pub is_assembled : IsAssembled m o
  is_assembled = record {
    name = name;
    ports = ports;
    clock = clock;
    registers = same_registers;
    kept = record {
      text = p.text;
      made = w.made;
      kept = w.kept;
      count = w.count;
      few = w.few;
      fresh = w.fresh.fresh;
      vars = vars ∙ w.vars;
      equations = equations ∙ w.equations;
      new = w.new;
      said = w.said;
      loads = subst (λ (rs : List Register). AllZip (λ (r q : Register). (q.name ≡ r.name) × IsGivenOrSmaller (behind_new (held_count m) w.count r.next) q.next
          × IsGivenOrSmaller (behind_new (held_count m) w.count r.enable) q.enable) m.registers rs) (sym registers) w.loads;
    };
  }

  pub is_anew : (held total : ℕ) → held ≡ held_count m → total ≡ length p.vars.items → EachReadsBelow held (map equation_view p.equations.items)
      → All (λ (r : RegisterParts). IsOver (view r.next) total × IsOver (view r.enable) total) p.registers.items → IsAnew m o
  is_anew held total at long reads loads = record {
    text = p.text;
    count = w.count;
    fresh = w.fresh;
    name = name;
    ports = ports;
    clock = clock;
    vars = vars ∙ w.vars;
    equations = ap (map (λ (e : Equation). e.name)) (equations ∙ w.equations) ∙ names_append w.made w.kept
        ∙ (λ j. w.new j ++ equations_named (held_count m) w.count m.equations w.kept w.said j);
    registers = same_registers;
    reads = subst (λ (es : List Equation). EachReadsBelow (held_count m) es) (sym equations) (subst (λ (n : ℕ). EachReadsBelow n (map equation_view p.equations.items)) at reads);
    loads = subst (λ (rs : List Register). All (λ (r : Register). IsOver r.next (length o.vars) × IsOver r.enable (length o.vars)) rs) (sym registers)
        (subst (λ (n : ℕ). All (λ (r : Register). IsOver r.next n × IsOver r.enable n) (map register_view p.registers.items)) (long ∙ sym (ap length vars)) (viewed total p.registers.items loads));
  }
