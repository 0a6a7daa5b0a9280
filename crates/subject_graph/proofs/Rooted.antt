-- The stages of a machine's table make a graph.
use Rattle.std.proofs.Common.{◌≡◌, ℕ, zero, suc, ◌+◌, ◌*◌, ◌-◌, ◌<◌, ◌≤◌, Bool, List, [], ◌∷◌, map, length, refl, sym, ◌∙◌, ap, subst, arith, length-append, count_by, filter, not}
use Rattle.std.specs.List.{AllZip, sum_by}
use Rattle.std.proofs.lemmas.List.Sums.{sum_by-append}
use Rattle.vlsi_base.specs.declared.name.Name.{Name}
use Rattle.vlsi_base.specs.declared.name.Port.{Port}
use Rattle.vlsi_base.specs.Member.{In, here, there}
use Rattle.bool_expr.specs.Expression.{size_of}
use Rattle.machine_core.specs.Machine.{Machine, Equation, Register, inputs, outputs, names_of, is_input}
use Rattle.machine_core.specs.declared.equation.Register.{Register as RegisterParts}
use Rattle.machine_core.specs.View.{register_view}
use Rattle.machine_core.specs.Size.{machine_size}
use Rattle.machine_core.specs.Built.{built}
use Rattle.machine_core.specs.Checked.{IsChecked}
use Rattle.net_theory.specs.Sources.{IsNumber}
use Rattle.net_theory.proofs.Basics.{number_in, number_below, length-map}
use Rattle.graph_theory.specs.Graph.{Node, is_logic, held_count}
use Rattle.subject_table.specs.declared.table.Table.{Table}
use Rattle.subject_table.specs.View.{kinds, end_of}
use Rattle.subject_table.specs.Grows.{AreBelow, value, weight}
use Rattle.subject_table.specs.Roots.{TakesOutputs, TakesLoads}
use Rattle.subject_table.proofs.Tables.{kept}
use Rattle.subject_table.proofs.Operators.{same_numbers}
use Rattle.subject_table.proofs.Roots.{table_is_graph}
use Rattle.subject_table.specs.Rules.{Load}
use Rattle.subject_table.specs.Makes.{Makes}
use Rattle.subject_graph.proofs.Drawing.{drawn}
use Rattle.subject_graph.specs.Stages.{IsSolved, IsNumberOf, load_value, load_weight, Loads, IsRooted}

-- sizes, from the first on
pub weight_is : (equations : List Equation) → sum_by (λ (e : Equation). size_of e.expr) equations ≡ weight equations
weight_is [] = refl
weight_is (e ∷ rest) =
    let parts = sum_by-append (λ (x : Equation). size_of x.expr) (e ∷ []) rest in
    let h = weight_is rest in
    omega (arith, parts, h)

pub load_weight_is : (registers : List Register)
    → load_weight registers ≡ sum_by (λ (r : Register). size_of r.next + size_of r.enable) registers + 4 * length registers
load_weight_is [] = refl
load_weight_is (r ∷ rest) =
    let parts = sum_by-append (λ (x : Register). size_of x.next + size_of x.enable) (r ∷ []) rest in
    let h = load_weight_is rest in
    omega (arith, parts, h)

-- two lists that go together
zip_length : {A B : Type 0} (R : A → B → Type 0) (xs : List A) (ys : List B) → AllZip R xs ys → length ys ≡ length xs
zip_length R [] [] h = refl
zip_length R [] (y ∷ ys) h = absurd h
zip_length R (x ∷ xs) [] h = absurd h
zip_length R (x ∷ xs) (y ∷ ys) h = let rest = zip_length R xs ys h.1 in omega (arith, rest)

zip_at : {A B : Type 0} (R : A → B → Type 0) (xs : List A) (ys : List B) → AllZip R xs ys → (k : ℕ) (x : A) → IsNumber xs k x → (y : B) × IsNumber ys k y × R x y
zip_at R [] ys h k x p = absurd p
zip_at R (z ∷ xs) [] h k x p = absurd h
zip_at {A} R (z ∷ xs) (y ∷ ys) h zero x p = (y, refl, subst (λ (u : A). R u y) (sym p) h.0)
zip_at R (z ∷ xs) (y ∷ ys) h (suc k) x p = zip_at R xs ys h.1 k x p

zip_back : {A B : Type 0} (R : A → B → Type 0) (xs : List A) (ys : List B) → AllZip R xs ys → (y : B) → In y ys → (x : A) × R x y
zip_back R xs [] h y p = elim p [ ]
zip_back R [] (z ∷ ys) h y p = absurd h
zip_back R (x ∷ xs) (z ∷ ys) h y here = (x, h.0)
zip_back R (x ∷ xs) (z ∷ ys) h y (there p) = zip_back R xs ys h.1 y p

module _ (m : Machine) (t u : Table) (numbers plain loads : List ℕ) (checked : IsChecked m) (solved : IsSolved m t numbers)
    (takes : AllZip (IsNumberOf m.vars numbers) (outputs m) plain) (taken : Loads t u numbers (t.held - length m.registers) m.registers loads)
    (made : Makes t u (Load m.registers numbers (t.held - length m.registers) []) loads) where
  held : u.held ≡ held_count m
  held = taken.held ∙ solved.held

  place : t.held - length m.registers ≡ length (inputs m)
  place = let h = solved.held in omega (arith, h)

  end_grows : end_of t ≤ end_of u
  end_grows =
      let same = taken.held in
      let nodes = ap (λ (xs : List Node). length xs) taken.nodes in
      let all = length-append (kinds t) taken.more in
      omega (arith, same, nodes, all)

  still : (w : List Bool) → length w ≡ t.held → (a : ℕ) → a < end_of t → value u w a ≡ value t w a
  still w size a low = kept t.held (kinds t) (kinds u) taken.more w a size taken.nodes low

  still_numbers : (w : List Bool) → length w ≡ t.held → map (value u w) numbers ≡ map (value t w) numbers
  still_numbers w size = same_numbers (value u w) (value t w) numbers (λ a h. still w size a (solved.known a h))

  values : (w : List Bool) → length w ≡ u.held → map (value u w) numbers ≡ built w m.equations
  values w size = let here_size : length w ≡ t.held = size ∙ taken.held in still_numbers w here_size ∙ solved.values w here_size

  below_plain : AreBelow (end_of u) plain
  below_plain a h =
      let back = zip_back (IsNumberOf m.vars numbers) (outputs m) plain takes a h in
      let low = solved.known a (number_in numbers back.1.0 a back.1.2) in
      omega (arith, low, end_grows)

  takes_outputs : TakesOutputs m numbers plain
  takes_outputs = record {
    count = zip_length (IsNumberOf m.vars numbers) (outputs m) plain takes;
    each = λ k name is.
        let at = zip_at (IsNumberOf m.vars numbers) (outputs m) plain takes k name is in
        (at.2.0, at.2.1, (at.0, at.2.2, at.1));
  }

  takes_loads : TakesLoads m u numbers loads
  takes_loads = record {
    count = taken.count;
    each = λ k r a is_register is_load w size.
        let here_size : length w ≡ t.held = size ∙ taken.held in
        let within = number_below m.registers k r is_register in
        let all = solved.held in
        let own_low : length (inputs m) + k < end_of t = omega (arith, within, all) in
        let own : value t w (t.held - length m.registers + k) ≡ value u w (length (inputs m) + k) =
        ap (λ (n : ℕ). value t w (n + k)) place ∙ sym (still w here_size (length (inputs m) + k) own_low) in
        taken.each k r a is_register is_load w here_size
        ∙ ap (λ (bs : List Bool). load_value r bs (value t w (t.held - length m.registers + k))) (sym (still_numbers w here_size))
        ∙ ap (load_value r (map (value u w) numbers)) own;
  }

  cost : count_by is_logic (kinds u) + 2 * length plain ≤ machine_size m
  cost =
      let first = solved.cost in
      let last = taken.cost in
      let equations = weight_is m.equations in
      let registers = load_weight_is m.registers in
      let count = takes_outputs.count in
      omega (arith, first, last, equations, registers, count)

  pub rooted : IsRooted m u plain loads
  rooted = record {
    held = held;
    sorted = taken.sound.sorted;
    cost = cost;
    count = takes_outputs.count;
    each = taken.count;
    known_outputs = below_plain;
    known_loads = taken.known;
    graph = table_is_graph m u numbers plain loads checked held taken.sound values takes_outputs takes_loads;
    drawn =
        drawn m solved.start t u numbers plain loads solved.empty solved.starts solved.made (subst (λ (k : ℕ). Makes t u (Load m.registers numbers k []) loads) place made)
        takes_outputs;
  }

-- the same of what the stages were lent
pub rooted_from : (m : Machine) (t u : Table) (numbers first last plain loads : List ℕ) (names : List Name) (ports : List Port) (registers : List RegisterParts) → IsChecked m → IsSolved m t numbers
    → first ≡ numbers → last ≡ numbers → names ≡ m.vars → ports ≡ m.ports → map register_view registers ≡ m.registers
    → AllZip (IsNumberOf names first) (names_of (filter (λ p. not (is_input p.dir)) ports)) plain
    → Loads t u last (t.held - length registers) (map register_view registers) loads
    → Makes t u (Load (map register_view registers) last (t.held - length registers) []) loads → IsRooted m u plain loads
rooted_from m t u numbers first last plain loads names ports registers checked solved is_first is_last is_names is_ports is_registers takes taken made =
    let as_lent : AllZip (IsNumberOf m.vars numbers) (outputs m) plain =
    subst (λ (ns : List Name). AllZip (IsNumberOf ns numbers) (outputs m) plain) is_names
    (subst (λ (xs : List ℕ). AllZip (IsNumberOf names xs) (outputs m) plain) is_first
    (subst (λ (ps : List Port). AllZip (IsNumberOf names first) (names_of (filter (λ p. not (is_input p.dir)) ps)) plain) is_ports takes)) in
    let count : length registers ≡ length m.registers = sym (length-map register_view registers) ∙ ap (λ (rs : List Register). length rs) is_registers in
    let loads_lent : Loads t u numbers (t.held - length m.registers) m.registers loads =
    subst (λ (rs : List Register). Loads t u numbers (t.held - length m.registers) rs loads) is_registers
    (subst (λ (k : ℕ). Loads t u numbers (t.held - k) (map register_view registers) loads) count
    (subst (λ (xs : List ℕ). Loads t u xs (t.held - length registers) (map register_view registers) loads) is_last taken)) in
    let made_lent : Makes t u (Load m.registers numbers (t.held - length m.registers) []) loads =
    subst (λ (rs : List Register). Makes t u (Load rs numbers (t.held - length m.registers) []) loads) is_registers
    (subst (λ (k : ℕ). Makes t u (Load (map register_view registers) numbers (t.held - k) []) loads) count
    (subst (λ (xs : List ℕ). Makes t u (Load (map register_view registers) xs (t.held - length registers) []) loads) is_last made)) in
    rooted m t u numbers plain loads checked solved as_lent loads_lent made_lent
