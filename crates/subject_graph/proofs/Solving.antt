-- The numbers of a machine's names.
use Rattle.std.proofs.Common.{◌≡◌, inl, inr, ℕ, zero, suc, ◌+◌, ◌-◌, ◌<◌, ◌≤◌, Bool, false, List, [], ◌∷◌, ◌++◌, map, length, refl, sym, ◌∙◌, ap, subst, arith, length-append, count_by, get_or, take, IsSomeAnd, Option}
use Rattle.std.specs.List.{slice_index_or}
use Rattle.std.specs.FinMap.{get}
use Rattle.vlsi_base.specs.declared.name.Name.{Name}
use Rattle.vlsi_base.specs.Member.{In, here, there}
use Rattle.vlsi_base.specs.NamePlaces.{NamePlaces}
use Rattle.bool_expr.specs.Expression.{bit, val}
use Rattle.machine_core.specs.declared.equation.Equation.{Equation as EquationParts}
use Rattle.machine_core.specs.declared.equation.Register.{Register as RegisterParts}
use Rattle.machine_core.specs.Machine.{Machine, Equation, Register, inputs, outputs, register_names}
use Rattle.machine_core.specs.Built.{built}
use Rattle.machine_core.specs.Order.{IsOrdered, held_names, equation_names, EachReadsBelow}
use Rattle.machine_core.specs.Checked.{IsChecked}
use Rattle.machine_core.specs.View.{equation_view, register_view}
use Rattle.machine_core.proofs.Values.{In-right}
use Rattle.cell_model.specs.Access.{count_to}
use Rattle.net_theory.specs.Sources.{IsNumber}
use Rattle.net_theory.proofs.Basics.{length-map, map_is, listed, length-listed}
use Rattle.graph_theory.specs.Graph.{Node, grown, is_logic, held_count}
use Rattle.graph_theory.proofs.Shown.{In-split}
use Rattle.subject_table.specs.declared.table.Table.{Table}
use Rattle.subject_table.specs.View.{kinds}
use Rattle.subject_table.specs.Grows.{HasRoom, value, weight, Solves}
use Rattle.subject_table.specs.Rules.{Solve}
use Rattle.subject_table.specs.Makes.{Makes}
use Rattle.subject_graph.specs.Subject.{IsNumberable}
use Rattle.subject_graph.specs.Stages.{IsSolved, IsNumberOf, LoadsOver, EachLoadsOver, Loads, load_size, load_weight}
use Rattle.subject_graph.proofs.Loading.{number_more}
use Rattle.subject_graph.proofs.Looking.{Found}
use Rattle.subject_graph.proofs.Rooted.{weight_is, load_weight_is}

pub number_get : (xs : List ℕ) (k : ℕ) → k < length xs → IsNumber xs k (get_or xs k 0)
number_get [] k h = absurd (omega arith)
number_get (x ∷ xs) zero h = refl
number_get (x ∷ xs) (suc k) h = number_get xs k (omega arith)

-- the first numbers
length-count : (n : ℕ) → length (count_to n) ≡ n
length-count zero = refl
length-count (suc n) = let h = length-count n in let all = length-append (count_to n) (n ∷ []) in omega (arith, h, all)

count_at : (n k x : ℕ) → IsNumber (count_to n) k x → x ≡ k
count_at zero k x h = absurd h
count_at (suc n) k x h = elim (number_more (count_to n) n x k h) [
  | inl g ↦ count_at n k x g
  | inr g ↦ let place = g.0 in let is = g.1 in let all = length-count n in omega (arith, place, is, all)
]

pub count_below : (n a : ℕ) → In a (count_to n) → a < n
count_below zero a h = elim h [ ]
count_below (suc n) a h = elim (In-split a (count_to n) (n ∷ []) h) [
  | inl g ↦ let low = count_below n a g in omega (arith, low)
  | inr g ↦ only n a g
] where
  only : (n a : ℕ) → In a (n ∷ []) → a < suc n
  only n a here = omega arith
  only n a (there g) = elim g [ ]

count_bits : (n : ℕ) (w : List Bool) → length w ≡ n → map (bit w) (count_to n) ≡ w
count_bits n w size = map_is (bit w) (count_to n) w (size ∙ sym (length-count n)) (λ k x h. ap (bit w) (count_at n k x h))

module _ (m : Machine) (ordered : IsOrdered m) where
  vars_are : length m.vars ≡ held_count m + length m.equations
  vars_are =
      let all = ap (λ (xs : List Name). length xs) ordered.vars in
      let parts = length-append (held_names m) (equation_names m) in
      let front = length-append (inputs m) (register_names m) in
      let registers = length-map (λ (r : Register). r.name) m.registers in
      let equations = length-map (λ (e : Equation). e.name) m.equations in
      omega (arith, all, parts, front, registers, equations)

  held_are : length (held_names m) ≡ held_count m
  held_are =
      let front = length-append (inputs m) (register_names m) in let registers = length-map (λ (r : Register). r.name) m.registers in omega (arith, front, registers)

-- inputs and registers are the names without equations
pub held_is : (m : Machine) (vars : List Name) (es : List EquationParts) → IsChecked m → vars ≡ m.vars → map equation_view es ≡ m.equations
    → (length es ≤ length vars) × (length vars - length es ≡ held_count m)
held_is m vars es checked is_vars is_es =
    let all = vars_are m checked.ordered in
    let v = ap (λ (xs : List Name). length xs) is_vars in
    let e = sym (length-map equation_view es) ∙ ap (λ (xs : List Equation). length xs) is_es in
    (omega (arith, all, v, e), omega (arith, all, v, e))

pub reads_below : (m : Machine) (es : List EquationParts) (n : ℕ) (numbers : List ℕ) → IsChecked m → map equation_view es ≡ m.equations → n ≡ held_count m → numbers ≡ count_to n
    → EachReadsBelow (length numbers) (map equation_view es)
reads_below m es n numbers checked is_es is_n is_numbers =
    let place : length (held_names m) ≡ length numbers =
    held_are m checked.ordered ∙ sym is_n ∙ sym (length-count n) ∙ sym (ap (λ (xs : List ℕ). length xs) is_numbers) in
    let P : ℕ → Type 0 = λ k. EachReadsBelow k m.equations in
    subst (λ (xs : List Equation). EachReadsBelow (length numbers) xs) (sym is_es) (subst P place checked.ordered.below)

pub solved_from : (m : Machine) (t u : Table) (start numbers : List ℕ) (es : List EquationParts) (n : ℕ) → n ≡ held_count m → t.held ≡ n → kinds t ≡ [] → start ≡ count_to n
    → map equation_view es ≡ m.equations → Solves t u start numbers (map equation_view es) → Makes t u (Solve (map equation_view es) start) numbers
    → IsSolved m u numbers
solved_from m t u start numbers es n is_n held none is_start is_es s made = record {
  held = s.held ∙ held ∙ is_n;
  sound = s.sound;
  cost =
      let c = s.cost in
      let zero_logic : count_by is_logic (kinds t) ≡ 0 = ap (count_by is_logic) none in
      let all : weight (map equation_view es) ≡ weight m.equations = ap weight is_es in
      omega (arith, c, zero_logic, all);
  known = s.known;
  values = λ w size.
      let size_t : length w ≡ t.held = size ∙ s.held in
      let first : map (value t w) start ≡ w =
      ap (λ (xs : List Node). map (bit (grown w xs)) start) none ∙ ap (map (bit w)) is_start ∙ count_bits n w (size_t ∙ held) in
      s.same w size_t ∙ ap (λ (x : List Bool). built x (map equation_view es)) first ∙ ap (built w) is_es;
  start = t;
  empty = none;
  starts = held ∙ is_n;
  made =
      subst (λ (xs : List ℕ). Makes t u (Solve m.equations xs) numbers) (is_start ∙ ap count_to is_n)
      (subst (λ (ys : List Equation). Makes t u (Solve ys start) numbers) is_es made);
}

length-built : (w : List Bool) (es : List Equation) → length (built w es) ≡ length w + length es
length-built w [] = omega arith
length-built w (e ∷ es) =
    let h = length-built (w ++ val e.expr w ∷ []) es in let one = length-append w (val e.expr w ∷ []) in omega (arith, h, one)

pub as_many : (m : Machine) (t : Table) (numbers : List ℕ) → IsChecked m → IsSolved m t numbers → length numbers ≡ length m.vars
as_many m t numbers checked s =
    let w = listed t.held (λ _. false) in
    let size : length w ≡ t.held = length-listed t.held (λ _. false) in
    let same = sym (length-map (value t w) numbers) ∙ ap (λ (bs : List Bool). length bs) (s.values w size) ∙ length-built w m.equations in
    let all = vars_are m checked.ordered in
    let held = s.held in
    omega (arith, same, size, all, held)

-- each output is a name
pub outputs_named : (m : Machine) (name : Name) → IsChecked m → In name (outputs m) → In name m.vars
outputs_named m name checked h =
    subst (λ (xs : List Name). In name xs) (sym checked.ordered.vars) (In-right name (held_names m) (equation_names m) (checked.driven name h))

number_index : {A : Type 0} (xs : List A) (k : ℕ) (x : A) → IsNumber xs k x → (k < length xs) × (slice_index_or xs k x ≡ x)
number_index [] k x h = absurd h
number_index (y ∷ xs) zero x h = (omega arith, sym h)
number_index (y ∷ xs) (suc k) x h = let r = number_index xs k x h in let low = r.0 in (omega (arith, low), r.1)

-- what registers load reads names
pub over_names : (m : Machine) (registers : List RegisterParts) (n : ℕ) → IsChecked m → map register_view registers ≡ m.registers → n ≡ length m.vars
    → EachLoadsOver n (map register_view registers)
over_names m registers n checked is is_n k r h =
    let at : IsNumber m.registers k r = subst (λ (xs : List Register). IsNumber xs k r) is h in
    let place = number_index m.registers k r at in
    let over : LoadsOver (length m.vars) r = subst (LoadsOver (length m.vars)) place.1 (checked.loads k r place.0) in
    let P : ℕ → Type 0 = λ c. LoadsOver c r in
    subst P (sym is_n) over

-- one of the registers
register_at : (registers : List RegisterParts) (k : ℕ) (r : RegisterParts) → k < length registers → r ≡ slice_index_or registers k r → IsNumber (map register_view registers) k (register_view r)
register_at [] k r h is = absurd (omega arith)
register_at (q ∷ registers) zero r h is = ap register_view is
register_at (q ∷ registers) (suc k) r h is = register_at registers k r (omega arith) is

pub one_over : (n : ℕ) (registers : List RegisterParts) (k : ℕ) (r : RegisterParts) → EachLoadsOver n (map register_view registers) → k < length registers
    → r ≡ slice_index_or registers k r → LoadsOver n (register_view r)
one_over n registers k r over h is = over k (register_view r) (register_at registers k r h is)

pub take_views : (registers : List RegisterParts) (k : ℕ) (r : RegisterParts) → k < length registers → r ≡ slice_index_or registers k r
    → (map register_view (take (k + 1) registers) ≡ map register_view (take k registers) ++ register_view r ∷ []) × (length (map register_view (take k registers)) ≡ k)
take_views [] k r h is = absurd (omega arith)
take_views (q ∷ registers) zero r h is = (ap (λ (x : RegisterParts). register_view x ∷ []) (sym is), refl)
take_views (q ∷ registers) (suc k) r h is =
    let rest = take_views registers k r (omega arith) is in
    let size = rest.1 in
    let plus : suc k + 1 ≡ suc (k + 1) = omega arith in
    (ap (λ (j : ℕ). map register_view (take j (q ∷ registers))) plus ∙ ap (λ (xs : List Register). register_view q ∷ xs) rest.0, omega (arith, size))

-- a name's place among names is a number's
pub place_below : (o : Option ℕ) (places : NamePlaces) (names : List Name) (name : Name) (n : ℕ) → o ≡ get places name → Found places names name → n ≡ length names
    → IsSomeAnd o (λ j. j < n)
place_below o places names name n is f size =
    let low = number_index names f.place name f.stands in
    let below = low.0 in
    subst (λ (x : Option ℕ). IsSomeAnd x (λ j. j < n)) (sym (is ∙ f.is)) (omega (arith, below, size))

pub place_number : (o : Option ℕ) (places : NamePlaces) (names : List Name) (numbers : List ℕ) (name : Name) (a : ℕ) → o ≡ get places name → Found places names name
    → IsSomeAnd o (λ j. IsNumber numbers j a) → IsNumberOf names numbers name a
place_number o places names numbers name a is f h =
    (f.place, f.stands, subst (λ (x : Option ℕ). IsSomeAnd x (λ j. IsNumber numbers j a)) (is ∙ f.is) h)

-- there is room for the equations, and behind them for what registers load
pub equations_fit : (m : Machine) (t : Table) (es : List EquationParts) (n : ℕ) → IsNumberable m → n ≡ held_count m → t.held ≡ n → kinds t ≡ [] → map equation_view es ≡ m.equations
    → HasRoom t (weight (map equation_view es))
equations_fit m t es n small is_n held none is_es =
    let zero_logic : count_by is_logic (kinds t) ≡ 0 = ap (count_by is_logic) none in
    let all : weight (map equation_view es) ≡ weight m.equations = ap weight is_es in
    let size = weight_is m.equations in
    omega (arith, small, is_n, held, zero_logic, all, size)

pub loads_fit : (m : Machine) (t : Table) (numbers : List ℕ) (registers : List RegisterParts) → IsNumberable m → IsSolved m t numbers → map register_view registers ≡ m.registers
    → HasRoom t (load_weight (map register_view registers))
loads_fit m t numbers registers small s is =
    let held = s.held in
    let cost = s.cost in
    let all : load_weight (map register_view registers) ≡ load_weight m.registers = ap load_weight is in
    let equations = weight_is m.equations in
    let rest = load_weight_is m.registers in
    omega (arith, small, held, cost, all, equations, rest)

part_weighs : (registers : List RegisterParts) (k : ℕ) (r : RegisterParts) → k < length registers → r ≡ slice_index_or registers k r
    → load_weight (map register_view (take k registers)) + load_size (register_view r) ≤ load_weight (map register_view registers)
part_weighs [] k r h is = absurd (omega arith)
part_weighs (q ∷ registers) zero r h is =
    let same : load_size (register_view r) ≡ load_size (register_view q) = ap (λ (x : RegisterParts). load_size (register_view x)) is in omega (arith, same)
part_weighs (q ∷ registers) (suc k) r h is = let rest = part_weighs registers k r (omega arith) is in omega (arith, rest)

pub one_fits : (t u : Table) (numbers : List ℕ) (first : ℕ) (registers : List RegisterParts) (loads : List ℕ) (k : ℕ) (r : RegisterParts) → k < length registers → r ≡ slice_index_or registers k r
    → HasRoom t (load_weight (map register_view registers)) → Loads t u numbers first (map register_view (take k registers)) loads → HasRoom u (load_size (register_view r))
one_fits t u numbers first registers loads k r h is room l =
    let held = l.held in
    let cost = l.cost in
    let part = part_weighs registers k r h is in
    omega (arith, held, cost, part, room)
