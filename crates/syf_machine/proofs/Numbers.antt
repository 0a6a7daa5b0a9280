-- Statements over the numbers of inputs are those over the machine's variables.
use Rattle.std.proofs.Common.{◌≡◌, ℕ, zero, suc, ◌+◌, ◌<◌, Bool, true, List, [], ◌∷◌, map, filter, length, false, not, ◌&&◌, Some, unwrap_or, inl, inr, if◌then◌else◌, refl, sym, ap, subst, ◌∙◌, arith, add-one}
use Rattle.std.specs.List.{slice_index_or, slice_get}
use Rattle.std.proofs.lemmas.List.{length-map}
use Rattle.vlsi_base.specs.declared.name.Name.{Name}
use Rattle.vlsi_base.specs.declared.name.Port.{Port}
use Rattle.vlsi_base.specs.Member.{In, AllDifferent}
use Rattle.machine_core.specs.Named.{is_same_name}
use Rattle.machine_core.specs.Machine.{is_input, names_of}
use Rattle.machine_core.proofs.Names.{same_name-itself, same_name-false}
use Rattle.bool_expr.specs.Expression.{Expression, constant, variable, inverse, pair, choice, IsOver}
use Rattle.fsm_machine.specs.Statements.{Assignment, output, next, Statements, finish, assign, choose, select, Parts, only, either, further, Branches, closed, others, listed}
use Rattle.fsm_machine.specs.Fsm.{Fsm, fsm_inputs}
use Rattle.fsm_machine.specs.Moved.{substituted, moved_assignment, moved, moved_parts, moved_branches}
use Rattle.fsm_machine.specs.MachineOf.{port_places, place_of}
use Rattle.fsm_code.specs.Over.{IsAssignmentOver, IsBodyOver, ArePartsOver, AreBranchesOver}
use Rattle.fsm_core.specs.Checked.{IsInput, ReadsInputs, IsAssignmentOf, IsBodyOf, ArePartsOf, AreBranchesOf, IsCheckedFsm}
use Rattle.syf_machine.specs.Named.{is_read, numbers_from, port_numbers}
use Rattle.syf_machine.proofs.Lists.{in_cons, in_map, map_in, in_filter, contains_in, got_in, got_below, map_got}
use Rattle.syf_machine.proofs.Naming.{in_order_differ}

-- the inputs but the clock are the ports that can be read
pub reads_are : (clock : Name) (ps : List Port) → filter (λ name. not (is_same_name clock name)) (names_of (filter (λ p. is_input p.dir) ps)) ≡ names_of (filter (is_read clock) ps)
reads_are clock [] = refl
reads_are clock (p ∷ ps) = by (reads_are clock ps) (is_input p.dir) (not (is_same_name clock p.name)) refl where
  by : filter (λ name. not (is_same_name clock name)) (names_of (filter (λ p. is_input p.dir) ps)) ≡ names_of (filter (is_read clock) ps)
      → (t u : Bool) → not (is_same_name clock p.name) ≡ u
      → filter (λ name. not (is_same_name clock name)) (names_of (if t then p ∷ filter (λ p. is_input p.dir) ps else filter (λ p. is_input p.dir) ps))
      ≡ names_of (if t && not (is_same_name clock p.name) then p ∷ filter (is_read clock) ps else filter (is_read clock) ps)
  by later false u e = later
  by later true true e = rw e (ap (λ (ns : List Name). p.name ∷ ns) later)
  by later true false e = rw e later

read_in : (clock name : Name) (ps : List Port) → In name (names_of (filter (is_read clock) ps)) → In name (names_of ps)
read_in clock name ps i =
    let found = in_map (λ (p : Port). p.name) name (filter (is_read clock) ps) i in
    let P : Name → Type 0 = λ n. In n (names_of ps) in
    subst P (sym found.2) (map_in (λ (p : Port). p.name) found.0 ps (in_filter (is_read clock) found.0 ps found.1).0)

place_same : (clock : Name) (j : ℕ) (ps : List Port) → AllDifferent (names_of ps) → (k : ℕ) (name : Name) → slice_get (names_of ps) k ≡ Some name
    → In name (names_of (filter (is_read clock) ps))
    → slice_index_or (map variable (numbers_from j clock ps)) k (constant false) ≡ place_of j (names_of (filter (is_read clock) ps)) name
place_same clock j [] h k name e i = elim i [ ]
place_same clock j (p ∷ ps) h k name e i = by (λ m k. place_same clock m ps h.1 k name) (is_read clock p) k e i where
  by : ((m k : ℕ) → slice_get (names_of ps) k ≡ Some name → In name (names_of (filter (is_read clock) ps))
      → slice_index_or (map variable (numbers_from m clock ps)) k (constant false) ≡ place_of m (names_of (filter (is_read clock) ps)) name)
      → (t : Bool) (k : ℕ) → slice_get (p.name ∷ names_of ps) k ≡ Some name → In name (names_of (if t then p ∷ filter (is_read clock) ps else filter (is_read clock) ps))
      → slice_index_or (map variable (if t then j ∷ numbers_from (j + 1) clock ps else 0 ∷ numbers_from j clock ps)) k (constant false)
      ≡ place_of j (names_of (if t then p ∷ filter (is_read clock) ps else filter (is_read clock) ps)) name
  by later true zero e i =
      let same : is_same_name p.name name ≡ true = ap (is_same_name p.name) (sym (ap (λ o. unwrap_or o name) e)) ∙ same_name-itself p.name in
      rw same refl
  by later true (suc k) e i =
      let inside : In name (names_of ps) = got_in name k (names_of ps) e in
      let P : Name → Type 0 = λ n. In n (names_of ps) in
      let unlike : is_same_name p.name name ≡ false = same_name-false p.name name (λ s. h.0 (subst P (sym s) inside)) in
      let rest : In name (names_of (filter (is_read clock) ps)) =
      elim (in_cons name p.name (names_of (filter (is_read clock) ps)) i) [ inl s ↦ absurd (h.0 (subst P s inside)) | inr g ↦ g ] in
      rw unlike (later (j + 1) k e rest ∙ ap (λ m. place_of m (names_of (filter (is_read clock) ps)) name) (add-one j))
  by later false zero e i =
      let P : Name → Type 0 = λ n. In n (names_of ps) in
      absurd (h.0 (subst P (sym (ap (λ o. unwrap_or o name) e)) (read_in clock name ps i)))
  by later false (suc k) e i = later j k e i

-- of an input, the number among those that can be read is its place among the machine's variables
input_place : (f : Fsm) (k : ℕ) → IsCheckedFsm f → IsInput f k
    → slice_index_or (map variable (port_numbers f)) k (constant false) ≡ slice_index_or (port_places f) k (constant false)
input_place f k checked input =
    let are = reads_are f.clock f.ports in
    let P : List Name → Type 0 = λ ns. In input.name ns in
    place_same f.clock 0 f.ports (in_order_differ (names_of f.ports) checked.ports) k input.name input.is (subst P are (contains_in (fsm_inputs f) input.name input.input))
    ∙ ap (λ (ns : List Name). place_of 0 ns input.name) (sym are)
    ∙ sym (map_got (place_of 0 (fsm_inputs f)) input.name k (names_of f.ports) (constant false) input.is)

pub read_same : (f : Fsm) → IsCheckedFsm f → (e : Expression) → ReadsInputs f e
    → substituted (map variable (port_numbers f)) e ≡ substituted (port_places f) e
read_same f checked (constant b) reads = refl
read_same f checked (variable k) reads = input_place f k checked reads
read_same f checked (inverse e) reads = ap inverse (read_same f checked e reads)
read_same f checked (pair g a b) reads = rw (read_same f checked a reads.0, read_same f checked b reads.1) refl
read_same f checked (choice c a b) reads = rw (read_same f checked c reads.0, read_same f checked a reads.1.0, read_same f checked b reads.1.1) refl

assignment_same : (f : Fsm) → IsCheckedFsm f → (a : Assignment) → IsAssignmentOf f a
    → moved_assignment (map variable (port_numbers f)) a ≡ moved_assignment (port_places f) a
assignment_same f checked (output name e) of = ap (output name) (read_same f checked e of.1)
assignment_same f checked (next s) of = refl

mutual
  pub body_same : (f : Fsm) → IsCheckedFsm f → (body : Statements) → IsBodyOf f body → moved (map variable (port_numbers f)) body ≡ moved (port_places f) body
  body_same f checked finish of = refl
  body_same f checked (assign a rest) of = rw (assignment_same f checked a of.0, body_same f checked rest of.1) refl
  body_same f checked (choose parts rest) of = rw (parts_same f checked parts of.0, body_same f checked rest of.1) refl
  body_same f checked (select branches rest) of = rw (branches_same f checked branches of.0, body_same f checked rest of.1) refl

  parts_same : (f : Fsm) → IsCheckedFsm f → (parts : Parts) → ArePartsOf f parts → moved_parts (map variable (port_numbers f)) parts ≡ moved_parts (port_places f) parts
  parts_same f checked (only c a) of = rw (read_same f checked c of.0, body_same f checked a of.1) refl
  parts_same f checked (either c a b) of = rw (read_same f checked c of.0, body_same f checked a of.1.0, body_same f checked b of.1.1) refl
  parts_same f checked (further c a more) of = rw (read_same f checked c of.0, body_same f checked a of.1.0, parts_same f checked more of.1.1) refl

  branches_same : (f : Fsm) → IsCheckedFsm f → (branches : Branches) → AreBranchesOf f branches
      → moved_branches (map variable (port_numbers f)) branches ≡ moved_branches (port_places f) branches
  branches_same f checked closed of = refl
  branches_same f checked (others a) of = rw (body_same f checked a of) refl
  branches_same f checked (listed here a more) of = rw (body_same f checked a of.0, branches_same f checked more of.1) refl

numbers_each : (k : ℕ) (clock : Name) (ps : List Port) → length (numbers_from k clock ps) ≡ length ps
numbers_each k clock [] = refl
numbers_each k clock (p ∷ ps) = by (is_read clock p) (numbers_each (k + 1) clock ps) (numbers_each k clock ps) where
  by : (t : Bool) → length (numbers_from (k + 1) clock ps) ≡ length ps → length (numbers_from k clock ps) ≡ length ps
      → length (if t then k ∷ numbers_from (k + 1) clock ps else 0 ∷ numbers_from k clock ps) ≡ suc (length ps)
  by true a b = omega arith
  by false a b = omega arith

-- and each variable is the number of a port
input_below : (f : Fsm) (k : ℕ) → IsInput f k → k < length (port_numbers f)
input_below f k input =
    let a = got_below input.name k (names_of f.ports) input.is in
    let b = length-map f.ports (λ (p : Port). p.name) in
    let c = numbers_each 0 f.clock f.ports in
    omega arith

pub reads_over : (f : Fsm) (e : Expression) → ReadsInputs f e → IsOver e (length (port_numbers f))
reads_over f (constant b) reads = tt
reads_over f (variable k) reads = input_below f k reads
reads_over f (inverse e) reads = reads_over f e reads
reads_over f (pair g a b) reads = (reads_over f a reads.0, reads_over f b reads.1)
reads_over f (choice c a b) reads = (reads_over f c reads.0, (reads_over f a reads.1.0, reads_over f b reads.1.1))

assignment_over : (f : Fsm) (a : Assignment) → IsAssignmentOf f a → IsAssignmentOver (length (port_numbers f)) a
assignment_over f (output name e) of = reads_over f e of.1
assignment_over f (next s) of = tt

mutual
  pub body_over : (f : Fsm) (body : Statements) → IsBodyOf f body → IsBodyOver (length (port_numbers f)) body
  body_over f finish of = tt
  body_over f (assign a rest) of = (assignment_over f a of.0, body_over f rest of.1)
  body_over f (choose parts rest) of = (parts_over f parts of.0, body_over f rest of.1)
  body_over f (select branches rest) of = (branches_over f branches of.0, body_over f rest of.1)

  parts_over : (f : Fsm) (parts : Parts) → ArePartsOf f parts → ArePartsOver (length (port_numbers f)) parts
  parts_over f (only c a) of = (reads_over f c of.0, body_over f a of.1)
  parts_over f (either c a b) of = (reads_over f c of.0, (body_over f a of.1.0, body_over f b of.1.1))
  parts_over f (further c a more) of = (reads_over f c of.0, (body_over f a of.1.0, parts_over f more of.1.1))

  branches_over : (f : Fsm) (branches : Branches) → AreBranchesOf f branches → AreBranchesOver (length (port_numbers f)) branches
  branches_over f closed of = tt
  branches_over f (others a) of = body_over f a of
  branches_over f (listed here a more) of = (body_over f a of.0, branches_over f more of.1)
