-- What the equations and registers of a machine become.
use Rattle.std.proofs.Common.{◌≡◌, ◌≢◌, ◌↔◌, IsTrue, inl, inr, false, ℕ, suc, ◌+◌, ◌<◌, Bool, true, List, [], ◌∷◌, ◌++◌, map, length, drop, refl, sym, ◌∙◌, ap, subst, arith, add-one, append-nil, drop-cons}
use Rattle.std.specs.List.{slice_index_or}
use Rattle.bool_expr.specs.Expression.{Expression, constant}
use Rattle.machine_core.specs.Machine.{Machine, Register, inputs}
use Rattle.machine_core.specs.declared.equation.Register.{Register as RegisterParts}
use Rattle.machine_core.specs.View.{register_view}
use Rattle.cell_model.specs.Access.{count_to}
use Rattle.graph_theory.specs.Graph.{Node, held_count}
use Rattle.subject_table.specs.declared.table.Table.{Table}
use Rattle.subject_table.specs.View.{kinds}
use Rattle.subject_table.specs.Roots.{TakesOutputs}
use Rattle.subject_table.specs.Rules.{Rule, Then, Gives, Becomes, IsChoice, Solve, IsLoad, Load}
use Rattle.subject_table.specs.Makes.{Makes, Leads}
use Rattle.subject_table.proofs.Making.{sets_out, goes_on, arrived, then_makes, makes_also, makes_here}
use Rattle.subject_graph.specs.Drawn.{Draw, IsDrawn}

-- a register that always loads, and one that loads by its enable
pub always_made : (t u : Table) (r : Register) (numbers : List ℕ) (own a : ℕ) → r.enable ≡ constant true → Makes t u (Becomes r.next numbers) a → Makes t u (IsLoad r numbers own) a
always_made t u r numbers own a is m = makes_also t u (Becomes r.next numbers) (IsLoad r numbers own) a m (λ later made h. inl (is, h))

pub chosen : (t u v x : Table) (r : Register) (numbers : List ℕ) (own c a s : ℕ) → r.enable ≢ constant true → Makes t u (Becomes r.enable numbers) c → Makes u v (Becomes r.next numbers) a
    → Makes v x (IsChoice c a own) s → Makes t x (IsLoad r numbers own) s
chosen t u v x r numbers own c a s not_one first second third =
    let e = Becomes r.enable numbers in
    let n = Becomes r.next numbers in
    let all : Makes t x (Then e (λ i. Then n (λ j. IsChoice i j own))) s =
    then_makes t u x e (λ i. Then n (λ j. IsChoice i j own)) c s first (then_makes u v x n (λ j. IsChoice c j own) a s second third) in
    makes_also t x (Then e (λ i. Then n (λ j. IsChoice i j own))) (IsLoad r numbers own) s all (λ later made h. inr (not_one, h))

-- an expression that a test found not to be the constant 1
pub not_one : (test : Bool) (e : Expression) → (IsTrue test ↔ (e ≡ constant true)) → test ≡ false → e ≢ constant true
not_one test e says not_so is = let so = says.1 is in absurd (cc (not_so, so))

-- one register after another
rest-cons : (registers : List RegisterParts) (i : ℕ) (e : RegisterParts) → i < length registers → e ≡ slice_index_or registers i e
    → map register_view (drop i registers) ≡ register_view e ∷ map register_view (drop (i + 1) registers)
rest-cons registers i e h is =
    ap (map register_view) (drop-cons registers i e h) ∙ ap (λ x. register_view x ∷ map register_view (drop (suc i) registers)) (sym is)
    ∙ ap (λ k. register_view e ∷ map register_view (drop k registers)) (sym (add-one i))

pub loads_start : (t : Table) (numbers : List ℕ) (first : ℕ) (registers : List RegisterParts)
    → Leads t t (Load (map register_view registers) numbers first []) (Load (map register_view (drop 0 registers)) numbers (first + 0) [])
loads_start t numbers first registers =
    let w = Load (map register_view registers) numbers first [] in
    let e : first ≡ first + 0 = omega arith in
    subst (λ (k : ℕ). Leads t t w (Load (map register_view registers) numbers k [])) e (sets_out t w)

pub loads_on : (t u v : Table) (numbers : List ℕ) (first i : ℕ) (registers : List RegisterParts) (loads : List ℕ) (r : RegisterParts) (a : ℕ) → i < length registers
    → r ≡ slice_index_or registers i r
    → Leads t u (Load (map register_view registers) numbers first []) (Load (map register_view (drop i registers)) numbers (first + i) loads)
    → Makes u v (IsLoad (register_view r) numbers (first + i)) a
    → Leads t v (Load (map register_view registers) numbers first []) (Load (map register_view (drop (i + 1) registers)) numbers (first + (i + 1)) (loads ++ a ∷ []))
loads_on t u v numbers first i registers loads r a h is k m =
    let w = Load (map register_view registers) numbers first [] in
    let rest = map register_view (drop (i + 1) registers) in
    let own = first + i in
    let one : Leads t u w (Then (IsLoad (register_view r) numbers own) (λ x. Load rest numbers (own + 1) (loads ++ x ∷ []))) =
    subst (λ (xs : List Register). Leads t u w (Load xs numbers own loads)) (rest-cons registers i r h is) k in
    let next : own + 1 ≡ first + (i + 1) = omega arith in
    subst (λ (n : ℕ). Leads t v w (Load rest numbers n (loads ++ a ∷ []))) next
    (goes_on t u v w (IsLoad (register_view r) numbers own) (λ x. Load rest numbers (own + 1) (loads ++ x ∷ [])) a one m)

pub loads_end : (t u : Table) (numbers : List ℕ) (first own i : ℕ) (registers : List RegisterParts) (loads : List ℕ) → drop i registers ≡ []
    → Leads t u (Load (map register_view registers) numbers first []) (Load (map register_view (drop i registers)) numbers own loads)
    → Makes t u (Load (map register_view registers) numbers first []) loads
loads_end t u numbers first own i registers loads none k =
    let w = Load (map register_view registers) numbers first [] in
    arrived t u w loads (subst (λ (xs : List RegisterParts). Leads t u w (Load (map register_view xs) numbers own loads)) none k)

-- all of a machine, from no nodes
pub drawn : (m : Machine) (start t u : Table) (numbers plain loads : List ℕ) → kinds start ≡ [] → start.held ≡ held_count m
    → Makes start t (Solve m.equations (count_to (held_count m))) numbers → Makes t u (Load m.registers numbers (length (inputs m)) []) loads → TakesOutputs m numbers plain
    → IsDrawn m (kinds u) plain loads
drawn m start t u numbers plain loads empty held first second takes =
    let S = Solve m.equations (count_to (held_count m)) in
    let L : List ℕ → Rule (List ℕ) = λ ns. Load m.registers ns (length (inputs m)) [] in
    let last_one : Makes u u (Gives (numbers, loads)) (numbers, loads) = makes_here u (Gives (numbers, loads)) (numbers, loads) [] (λ later. (refl, refl)) in
    let rest : Makes t u (Then (L numbers) (λ ls. Gives (numbers, ls))) (numbers, loads) =
    then_makes t u u (L numbers) (λ ls. Gives (numbers, ls)) loads (numbers, loads) second last_one in
    let all : Makes start u (Draw m) (numbers, loads) = then_makes start t u S (λ ns. Then (L ns) (λ ls. Gives (ns, ls))) numbers (numbers, loads) first rest in
    let z = all.is [] in
    record {
      numbers = numbers;
      made = z.parts;
      draws =
          subst (λ (n : ℕ). Draw m n (kinds u) (numbers, loads) z.parts) held
          (subst (λ (xs : List Node). Draw m start.held xs (numbers, loads) z.parts) (append-nil (kinds u)) z.is);
      takes = takes;
      only = λ x low high.
          let none = ap (λ (xs : List Node). length xs) empty in
          let same = all.held in
          z.only x (omega (arith, low, held, none)) (omega (arith, high, held, same));
    }
