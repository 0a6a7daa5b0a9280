-- A machine does as it is compared what it does itself.
use Rattle.std.proofs.Common.{◌≡◌, ℕ, ◌+◌, ◌<◌, ◌≤◌, Bool, true, false, not, List, [], ◌∷◌, ◌++◌, length, map, filter, replicate, Option, None, Some, All, refl, sym, ap, ◌∙◌, subst, arith, length-append, if◌then◌else◌}
use Rattle.std.specs.Prelude.{◌↔◌, slice_index, nat_lt}
use Rattle.std.specs.List.{slice_index_or}
use Rattle.std.proofs.lemmas.List.{append-nil, length-map, length-replicate}
use Rattle.std.proofs.lemmas.List.Elements.{All-nil, All-cons, All-head, All-tail}
use Rattle.vlsi_base.specs.declared.name.Name.{Name}
use Rattle.vlsi_base.specs.Member.{In, here, there, AllDifferent}
use Rattle.bool_expr.specs.Expression.{bit, val}
use Rattle.machine_core.specs.Named.{value_at, values_at}
use Rattle.machine_core.specs.Machine.{Machine, Equation, Register, is_clock, input_ports, inputs, outputs, register_names}
use Rattle.machine_core.specs.Runs.{Trace}
use Rattle.machine_core.specs.Cycles.{Settles, outs, next, RunOf, AreVectors}
use Rattle.machine_core.specs.Order.{held_names, equation_names, EachReadsBelow, IsOrdered}
use Rattle.machine_core.specs.Checked.{IsChecked}
use Rattle.machine_core.proofs.Known.{known}
use Rattle.machine_core.proofs.Solve.{given, length-given, values_at-given, settles_once_known}
use Rattle.machine_core.proofs.Runs.{itself}
use Rattle.machine_core.proofs.Values.{In-left, In-right, bit-value_at}
use Rattle.machine_walk.specs.Expansion.{held_count}
use Rattle.machine_walk.proofs.Names.{length-vars}
use Rattle.proof_joint.specs.Clock.{name_place, numbers_without, equation_over, with_read_clock, compared_by, as_compared}
use Rattle.proof_joint.specs.Compared.{own_bits, BehavesAlike, ComparedBehavesAlike, ComparedRunsAlike}
use Rattle.proof_joint.proofs.Spreading.{kept_name, filter_names}
use Rattle.proof_joint.proofs.Clocks.{number, over_more, shorter, read_checked}
use Rattle.proof_joint.proofs.Leaving.{read_again, all_again, bit_of, numbers_at, without, left_out, val_over}

-- ---- vectors

left_different : (xs ys : List Name) → AllDifferent (xs ++ ys) → AllDifferent xs
left_different [] ys d = tt
left_different (x ∷ xs) ys d = (λ h. d.0 (In-left x xs ys h), left_different xs ys d.1)

inputs_different : (m : Machine) → IsOrdered m → AllDifferent (inputs m)
inputs_different m ordered =
    left_different (inputs m) (register_names m)
    (left_different (held_names m) (equation_names m) (subst (λ (l : List Name). AllDifferent l) ordered.vars ordered.different))

input_in : (m : Machine) → IsOrdered m → (n : Name) → In n (inputs m) → In n m.vars
input_in m ordered n h =
    subst (λ (l : List Name). In n l) (sym ordered.vars) (In-left n (held_names m) (equation_names m) (In-left n (inputs m) (register_names m) h))

-- a vector with these bits for the inputs that are asked for
covering : (m o : Machine) → AllDifferent (inputs m) → ((n : Name) → In n (inputs m) → In n (inputs o)) → (i : List Bool) → length i ≡ length (inputs m)
    → (j : List Bool) × (length j ≡ length (inputs o)) × (own_bits m o j ≡ i)
covering m o different inside i long =
    let blank : List Bool = replicate (length (inputs o)) false in
    let each : length blank ≡ length (inputs o) = length-replicate (length (inputs o)) false in (
      given (inputs o) blank (inputs m) i,
      length-given (inputs o) blank (inputs m) i ∙ each,
      values_at-given (inputs o) blank (inputs m) i different inside each long,
    )

-- what settles has as many bits of registers and inputs as there are
held_long : (m : Machine) (s i w : List Bool) → Settles m s i w → length s ≡ length m.registers
held_long m s i w p = ap length (sym p.registers) ∙ length-map (register_names m) (value_at m.vars w) ∙ length-map m.registers (λ (r : Register). r.name)

own_long : (m o : Machine) (i : List Bool) → length (own_bits m o i) ≡ length (inputs m)
own_long m o i = length-map (inputs m) (value_at (inputs o) i)

-- ---- a machine that is compared as it is

own_itself : (m : Machine) (s i v : List Bool) → Settles m s i v → own_bits m m i ≡ i
own_itself m s i v q =
    ap (λ (x : List Bool). values_at (inputs m) x (inputs m)) (sym q.inputs) ∙ all_again (value_at m.vars v) (inputs m) (inputs m) (λ n h. h) ∙ q.inputs

itself_alike : (m : Machine) → IsOrdered m → BehavesAlike m m
itself_alike m ordered = record {
  name = refl;
  ports = refl;
  registers = refl;
  covers = covering m m (inputs_different m ordered) (λ n h. h);
  shows = λ s i w v p q. (itself m ordered).shows s i w v (subst (λ (x : List Bool). Settles m s x w) (own_itself m s i v q) p) q;
  loads = λ s i w v p q. (itself m ordered).loads s i w v (subst (λ (x : List Bool). Settles m s x w) (own_itself m s i v q) p) q;
}

-- ---- a machine whose clock is among its inputs

module _ (m : Machine) (clock : Name) (checked : IsChecked m) (bare : m.registers ≡ []) (is : m.clock ≡ Some clock) where
  abbrev read : Machine
  read = with_read_clock m clock

  abbrev place : ℕ
  place = name_place clock (input_ports m)

  abbrev numbers : List ℕ
  numbers = numbers_without place (length m.vars)

  read_ordered : IsOrdered read
  read_ordered = (read_checked m clock checked bare is).ordered

  equated_in : (n : Name) → In n (equation_names m) → In n m.vars
  equated_in n h = subst (λ (l : List Name). In n l) (sym checked.ordered.vars) (In-right n (held_names m) (equation_names m) h)

  also_input : (n : Name) → In n (inputs m) → In n (inputs read)
  also_input n h =
      kept_name (λ (name : Name). not (is_clock None name)) n (input_ports m) (filter_names (λ (name : Name). not (is_clock m.clock name)) n (input_ports m) h) refl

  vars_are : m.vars ≡ without clock (input_ports m) ++ equation_names m
  vars_are =
      let none : List Name = [] in
      let held : held_names m ≡ without clock (input_ports m) ++ none =
      λ j. filter (λ (name : Name). not (is_clock (is j) name)) (input_ports m) ++ map (λ (r : Register). r.name) (bare j) in
      checked.ordered.vars ∙ ap (λ (l : List Name). l ++ equation_names m) (held ∙ append-nil (without clock (input_ports m)))

  ports_different : AllDifferent (input_ports m)
  ports_different = left_different (input_ports m) (equation_names m) read_ordered.different

  one_more : length m.vars + 1 ≤ length (input_ports m ++ equation_names m)
  one_more =
      let all = ap length checked.ordered.vars in
      let old = length-append (held_names m) (equation_names m) in
      let new = length-append (input_ports m) (equation_names m) in
      let s = shorter m clock checked bare is in
      omega (arith, all, old, new, s)

  number_low : (k : ℕ) → k < length m.vars → number place k < length read.vars
  number_low k low = by (nat_lt k place) one_more where
    by : (b : Bool) → length m.vars + 1 ≤ length (input_ports m ++ equation_names m) → (if b then k else k + 1) < length (input_ports m ++ equation_names m)
    by true more = omega (arith, low, more)
    by false more = omega (arith, low, more)

  -- the bits of the machine's own names
  abbrev own : List Bool → List Bool
  own v = values_at read.vars v m.vars

  bits_same : (v : List Bool) → length v ≡ length read.vars → (k : ℕ) → k < length m.vars → bit v (slice_index numbers k) ≡ bit (own v) k
  bits_same v long k low =
      let here_is : slice_index_or read.vars (number place k) clock ≡ slice_index_or m.vars k clock =
      left_out clock (input_ports m) (equation_names m) k clock ports_different (checked.clock clock is).port
      ∙ ap (λ (l : List Name). slice_index_or l k clock) (sym vars_are) in
      let e : 0 + k ≡ k = omega arith in
      ap (bit v) (numbers_at place 0 (length m.vars) k low ∙ ap (number place) e)
      ∙ bit-value_at read.vars v (number place k) clock read_ordered.different long (number_low k low)
      ∙ ap (value_at read.vars v) here_is
      ∙ sym (bit_of (value_at read.vars v) m.vars k clock low)

  -- equations hold of these bits
  own_holds : (v : List Bool) → length v ≡ length read.vars → (n : ℕ) (es : List Equation) → ((x : Name) → In x (map (λ (e : Equation). e.name) es) → In x m.vars)
      → EachReadsBelow n es → n + length es ≤ length m.vars
      → All (λ (e : Equation). value_at read.vars v e.name ≡ val e.expr v) (map (equation_over numbers) es)
      → All (λ (e : Equation). value_at m.vars (own v) e.name ≡ val e.expr (own v)) es
  own_holds v long n [] inside reads room held = All-nil (λ (e : Equation). value_at m.vars (own v) e.name ≡ val e.expr (own v))
  own_holds v long n (e ∷ es) inside reads room held =
      let P : Equation → Type 0 = λ x. value_at read.vars v x.name ≡ val x.expr v in
      let one : value_at m.vars (own v) e.name ≡ val e.expr (own v) =
      read_again (value_at read.vars v) m.vars e.name (inside e.name here)
      ∙ All-head P (equation_over numbers e) (map (equation_over numbers) es) held
      ∙ val_over e.expr (length m.vars) numbers v (own v) (over_more e.expr n (length m.vars) (omega (arith, room)) reads.0) (bits_same v long) in
      All-cons (λ (x : Equation). value_at m.vars (own v) x.name ≡ val x.expr (own v)) e es one
      (own_holds v long (n + 1) es (λ x h. inside x (there h)) reads.1 (omega (arith, room)) (All-tail P (equation_over numbers e) (map (equation_over numbers) es) held))

  own_settles : (s i v : List Bool) → Settles read s i v → Settles m s (own_bits m read i) (own v)
  own_settles s i v q = record {
    each = length-map m.vars (value_at read.vars v);
    inputs = all_again (value_at read.vars v) m.vars (inputs m) (input_in m checked.ordered)
        ∙ sym (all_again (value_at read.vars v) (inputs read) (inputs m) also_input)
        ∙ ap (λ (x : List Bool). values_at (inputs read) x (inputs m)) q.inputs;
    registers = ap (λ (rs : List Register). values_at m.vars (own v) (map (λ (r : Register). r.name) rs)) bare ∙ q.registers;
    equations = own_holds v q.each (held_count m) m.equations equated_in checked.ordered.below
        (let all = length-vars m checked.ordered in omega (arith, all)) q.equations;
  }

  -- so these are the bits
  are_own : (s i w v : List Bool) → Settles m s (own_bits m read i) w → Settles read s i v → w ≡ own v
  are_own s i w v p q =
      let once = settles_once_known m s (own_bits m read i) (known m checked.ordered) (held_long m s (own_bits m read i) w p) (own_long m read i) in
      once.2 w p ∙ sym (once.2 (own v) (own_settles s i v q))

  read_alike : BehavesAlike m read
  read_alike = record {
    name = refl;
    ports = refl;
    registers = ap (map (λ (r : Register). r.name)) (sym bare);
    covers = covering m read (inputs_different m checked.ordered) also_input;
    shows = λ s i w v p q.
        sym (all_again (value_at read.vars v) m.vars (outputs m) (λ n h. equated_in n (checked.driven n h))) ∙ ap (outs m) (sym (are_own s i w v p q));
    loads = λ s i w v p q. ap (map (λ (r : Register). if val r.enable w then val r.next w else value_at m.vars w r.name)) (sym bare);
  }

compared_ordered : (m : Machine) → IsChecked m → IsOrdered (as_compared m)
compared_ordered m checked = by m.registers m.clock refl refl where
  by : (rs : List Register) (c : Option Name) → m.registers ≡ rs → m.clock ≡ c → IsOrdered (compared_by rs c m)
  by [] (Some clock) none is = read_ordered m clock checked none is
  by [] None none is = checked.ordered
  by (r ∷ rs) c some is = checked.ordered

pub compared_behaves : ComparedBehavesAlike
compared_behaves m checked = by m.registers m.clock refl refl where
  by : (rs : List Register) (c : Option Name) → m.registers ≡ rs → m.clock ≡ c → BehavesAlike m (compared_by rs c m)
  by [] (Some clock) none is = read_alike m clock checked none is
  by [] None none is = itself_alike m checked.ordered
  by (r ∷ rs) c some is = itself_alike m checked.ordered

-- ---- runs

module _ (m o : Machine) (om : IsOrdered m) (oo : IsOrdered o) (a : BehavesAlike m o) where
  registers_same : length o.registers ≡ length m.registers
  registers_same = sym (length-map o.registers (λ (r : Register). r.name)) ∙ ap length a.registers ∙ length-map m.registers (λ (r : Register). r.name)

  -- a valuation of the first for each of the second, cycle by cycle
  forth : (v : List (List Bool)) (s : List Bool) (us : List (List Bool)) → Trace (Settles o) (next o) s v us
      → (ws : List (List Bool)) × Trace (Settles m) (next m) s (map (own_bits m o) v) ws × (map (outs m) ws ≡ map (outs o) us)
  forth [] s us t = ([], refl, ap (map (outs o)) (sym t))
  forth (i ∷ v) s us t =
      let u = t.0 in
      let found = settles_once_known m s (own_bits m o i) (known m om) (held_long o s i u t.1 ∙ registers_same) (own_long m o i) in
      let w = found.0 in
      let shows : outs o u ≡ outs m w = a.shows s i w u found.1 t.1 in
      let loads : next o u ≡ next m w = a.loads s i w u found.1 t.1 in
      let more = forth v (next o u) t.2.0 t.2.2 in
      let trace : Trace (Settles m) (next m) (next m w) (map (own_bits m o) v) more.0 =
      subst (λ (c : List Bool). Trace (Settles m) (next m) c (map (own_bits m o) v) more.0) loads more.1 in
      let both : outs m w ∷ map (outs m) more.0 ≡ outs o u ∷ map (outs o) t.2.0 = λ j. sym shows j ∷ more.2 j in
      (w ∷ more.0, (w, found.1, (more.0, refl, trace)), both ∙ ap (map (outs o)) (sym t.2.1))

  -- and one of the second for each of the first
  back : (v : List (List Bool)) (s : List Bool) (ws : List (List Bool)) → AreVectors o v → Trace (Settles m) (next m) s (map (own_bits m o) v) ws
      → (us : List (List Bool)) × Trace (Settles o) (next o) s v us × (map (outs o) us ≡ map (outs m) ws)
  back [] s ws long t = ([], refl, ap (map (outs m)) (sym t))
  back (i ∷ v) s ws long t =
      let P : List Bool → Type 0 = λ x. length x ≡ length (inputs o) in
      let w = t.0 in
      let found = settles_once_known o s i (known o oo) (held_long m s (own_bits m o i) w t.1 ∙ sym registers_same) (All-head P i v long) in
      let u = found.0 in
      let shows : outs o u ≡ outs m w = a.shows s i w u t.1 found.1 in
      let loads : next o u ≡ next m w = a.loads s i w u t.1 found.1 in
      let more = back v (next m w) t.2.0 (All-tail P i v long) t.2.2 in
      let trace : Trace (Settles o) (next o) (next o u) v more.0 = subst (λ (c : List Bool). Trace (Settles o) (next o) c v more.0) (sym loads) more.1 in
      let both : outs o u ∷ map (outs o) more.0 ≡ outs m w ∷ map (outs m) t.2.0 = λ j. shows j ∷ more.2 j in
      (u ∷ more.0, (u, found.1, (more.0, refl, trace)), both ∙ ap (map (outs m)) (sym t.2.1))

  runs_alike : (s : List Bool) (v y : List (List Bool)) → AreVectors o v → RunOf o s v y ↔ RunOf m s (map (own_bits m o) v) y
  runs_alike s v y long = (
    λ run. let g = forth v s run.0 run.1 in (g.0, g.1, run.2 ∙ sym g.2),
    λ run. let g = back v s run.0 long run.1 in (g.0, g.1, run.2 ∙ sym g.2),
  )

pub compared_runs : ComparedRunsAlike
compared_runs m s v y checked long =
    runs_alike m (as_compared m) checked.ordered (compared_ordered m checked) (compared_behaves m checked) s v y long
