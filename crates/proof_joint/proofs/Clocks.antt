-- A machine without registers, with its clock among the inputs, passes its checks.
use Rattle.std.proofs.Common.{Bor, ◌≡◌, inl, inr, ℕ, zero, suc, ◌+◌, ◌-◌, ◌<◌, ◌≤◌, Bool, true, false, not, List, [], ◌∷◌, ◌++◌, length, map, filter, drop, None, Some, refl, sym, ap, subst, ◌∙◌, arith, append_assoc, length-append, add-one, drop-cons, if◌then◌else◌}
use Rattle.std.specs.Prelude.{nat_lt, slice_index}
use Rattle.std.specs.List.{All, slice_index_or}
use Rattle.std.proofs.lemmas.List.Elements.{All-nil, All-cons}
use Rattle.std.proofs.lemmas.List.{length-map}
use Rattle.vlsi_base.specs.declared.name.Name.{Name}
use Rattle.vlsi_base.specs.declared.name.Port.{Port}
use Rattle.vlsi_base.specs.Range.{rising}
use Rattle.vlsi_base.proofs.Ranges.{length_of_rising}
use Rattle.vlsi_base.specs.Member.{In, here, there, AllDifferent}
use Rattle.bool_expr.specs.Expression.{Expression, constant, variable, inverse, pair, choice, IsOver}
use Rattle.bool_expr.specs.Renumbering.{renumbered}
use Rattle.bool_expr.specs.View.{view}
use Rattle.machine_core.specs.declared.equation.Equation.{Equation as EquationParts}
use Rattle.machine_core.specs.declared.equation.Register.{Register as RegisterParts}
use Rattle.machine_core.specs.Named.{is_same_name}
use Rattle.machine_core.specs.Machine.{Machine, Equation, Register, names_of, is_input, is_clock, input_ports, inputs, register_names}
use Rattle.machine_core.specs.View.{equation_view, register_view, machine_of}
use Rattle.machine_core.specs.Order.{held_names, equation_names, EachReadsBelow}
use Rattle.machine_core.specs.Checked.{IsChecked, IsNoSupply}
use Rattle.machine_core.proofs.Names.{same_name-itself, same_name-false}
use Rattle.machine_core.proofs.Values.{In-left, In-right, In-split}
use Rattle.machine_walk.specs.Expansion.{held_count}
use Rattle.machine_walk.proofs.Names.{length-vars}
use Rattle.proof_joint.specs.declared.naming.Role.TheVariants.{Input}
use Rattle.proof_joint.specs.Clock.{name_place, numbers_without, equation_over, with_read_clock}
use Rattle.proof_joint.proofs.Least.{rising as rises, in_order}
use Rattle.proof_joint.proofs.Roles.{kept_port, role_ordered}
use Rattle.proof_joint.proofs.Spreading.{rising_different, right_different, left_apart, both_different, kept_name, clock_is}

-- ---- numbers

abbrev pub number : ℕ → ℕ → ℕ
number place k = if nat_lt k place then k else k + 1

-- no number is higher by more than one
lifted : (a place n j : ℕ) → slice_index (map (number place) (rising a n)) j ≤ a + j + 1
lifted a place zero zero = omega arith
lifted a place zero (suc j) = omega arith
lifted a place (suc n) zero = by (nat_lt a place) where
  by : (b : Bool) → (if b then a else a + 1) ≤ a + 0 + 1
  by true = omega arith
  by false = omega arith
lifted a place (suc n) (suc j) = let r = lifted (a + 1) place n j in omega (arith, r)

module _ (numbers : List ℕ) (lifts : (j : ℕ) → slice_index numbers j ≤ j + 1) where
  below_lifted : (e : Expression) (n k : ℕ) → n + 1 ≤ k → IsOver e n → IsOver (renumbered numbers e) k
  below_lifted (constant b) n k more h = tt
  below_lifted (variable x) n k more h = let r = lifts x in omega (arith, r, more, h)
  below_lifted (inverse e) n k more h = below_lifted e n k more h
  below_lifted (pair g a b) n k more h = (below_lifted a n k more h.0, below_lifted b n k more h.1)
  below_lifted (choice c a b) n k more h = (below_lifted c n k more h.0, (below_lifted a n k more h.1.0, below_lifted b n k more h.1.1))

  reads_lifted : (es : List Equation) (n k : ℕ) → n + 1 ≤ k → EachReadsBelow n es → EachReadsBelow k (map (equation_over numbers) es)
  reads_lifted [] n k more h = tt
  reads_lifted (e ∷ es) n k more h = (below_lifted e.expr n k more h.0, reads_lifted es (n + 1) (k + 1) (omega (arith, more)) h.1)

names_over : (numbers : List ℕ) (es : List Equation) → map (λ (e : Equation). e.name) (map (equation_over numbers) es) ≡ map (λ (e : Equation). e.name) es
names_over numbers [] = refl
names_over numbers (e ∷ es) = ap (λ (l : List Name). e.name ∷ l) (names_over numbers es)

-- one more number behind those that are there
pub number_turn : (place k count : ℕ) (old new total : List ℕ) → k < count → new ≡ old ++ number place k ∷ [] → old ++ map (number place) (rising k (count - k)) ≡ total
    → new ++ map (number place) (rising (k + 1) (count - (k + 1))) ≡ total
number_turn place k count old new total low push h =
    let n : count - k ≡ suc (count - (k + 1)) = omega (arith, low) in
    ap (λ (l : List ℕ). l ++ map (number place) (rising (k + 1) (count - (k + 1)))) push
    ∙ append_assoc old (number place k ∷ []) (map (number place) (rising (k + 1) (count - (k + 1))))
    ∙ ap (λ (j : ℕ). old ++ map (number place) (rising k j)) (sym n) ∙ h

-- ---- the place of a name

module _ (wanted : Name) (names : List (Bor Name)) (k : ℕ) (q : Bor Name) (low : k < length names) (is : q ≡ slice_index_or names k q) where
  place_row : name_place wanted (map (λ (n : Bor Name). n.now) (drop k names))
      ≡ (if is_same_name q.now wanted then 0 else suc (name_place wanted (map (λ (n : Bor Name). n.now) (drop (k + 1) names))))
  place_row =
      ap (λ (l : List (Bor Name)). name_place wanted (map (λ (n : Bor Name). n.now) l))
      (drop-cons names k q low ∙ ap (λ (x : Bor Name). x ∷ drop (suc k) names) (sym is) ∙ ap (λ (j : ℕ). q ∷ drop j names) (sym (add-one k)))

  place_by : (b : Bool) → is_same_name q.now wanted ≡ b → name_place wanted (map (λ (n : Bor Name). n.now) (drop k names))
      ≡ (if b then 0 else suc (name_place wanted (map (λ (n : Bor Name). n.now) (drop (k + 1) names))))
  place_by b e = place_row ∙ ap (λ (t : Bool). if t then 0 else suc (name_place wanted (map (λ (n : Bor Name). n.now) (drop (k + 1) names)))) e

  pub place_found : (total : ℕ) → q.now ≡ wanted → k + name_place wanted (map (λ (n : Bor Name). n.now) (drop k names)) ≡ total → k ≡ total
  place_found total same h =
      let r = place_by true (subst (λ (n : Name). is_same_name q.now n ≡ true) same (same_name-itself q.now)) in
      omega (arith, r, h)

  pub place_passed : (total : ℕ) → (q.now ≡ wanted → ⊥) → k + name_place wanted (map (λ (n : Bor Name). n.now) (drop k names)) ≡ total
      → (k + 1) + name_place wanted (map (λ (n : Bor Name). n.now) (drop (k + 1) names)) ≡ total
  place_passed total apart h =
      let r = place_by false (same_name-false q.now wanted apart) in
      omega (arith, r, h)

-- ---- the clock among the inputs

filter_short : (t : Name → Bool) (xs : List Name) → length (filter t xs) ≤ length xs
filter_short t [] = omega arith
filter_short t (x ∷ xs) = by (t x) (filter_short t xs) where
  by : (b : Bool) → length (filter t xs) ≤ length xs → length (if b then x ∷ filter t xs else filter t xs) ≤ suc (length xs)
  by true r = omega (arith, r)
  by false r = omega (arith, r)

one_less : (c : Name) (xs : List Name) → In c xs → length (filter (λ (name : Name). not (is_same_name c name)) xs) + 1 ≤ length xs
one_less c [] h = elim h [ ]
one_less c (x ∷ xs) here = by (is_same_name c c) (same_name-itself c) (filter_short (λ (name : Name). not (is_same_name c name)) xs) where
  by : (b : Bool) → b ≡ true → length (filter (λ (name : Name). not (is_same_name c name)) xs) ≤ length xs
      → length (if not b then c ∷ filter (λ (name : Name). not (is_same_name c name)) xs else filter (λ (name : Name). not (is_same_name c name)) xs) + 1 ≤ suc (length xs)
  by true e r = omega (arith, r)
  by false e r = absurd (cc e)
one_less c (x ∷ xs) (there h) = by (is_same_name c x) (one_less c xs h) where
  by : (b : Bool) → length (filter (λ (name : Name). not (is_same_name c name)) xs) + 1 ≤ length xs
      → length (if not b then x ∷ filter (λ (name : Name). not (is_same_name c name)) xs else filter (λ (name : Name). not (is_same_name c name)) xs) + 1 ≤ suc (length xs)
  by true r = omega (arith, r)
  by false r = omega (arith, r)

every : (xs : List Name) → filter (λ (name : Name). not (is_clock None name)) xs ++ [] ≡ xs
every [] = refl
every (x ∷ xs) = ap (λ (l : List Name). x ∷ l) (every xs)

each_of : (P : Name → Type 0) (xs : List Name) → All P xs → (n : Name) → In n xs → P n
each_of P [] all n h = elim h [ ]
each_of P (x ∷ xs) all n here = all 0 n (omega arith)
each_of P (x ∷ xs) all n (there h) = each_of P xs (λ k d w. all (suc k) d (omega (arith, w))) n h

all_of : (P : Name → Type 0) (xs : List Name) → ((n : Name) → In n xs → P n) → All P xs
all_of P [] f = All-nil P
all_of P (x ∷ xs) f = All-cons P x xs (f x here) (all_of P xs (λ n h. f n (there h)))

module _ (m : Machine) (clock : Name) (checked : IsChecked m) (bare : m.registers ≡ []) (is : m.clock ≡ Some clock) where
  all_different : AllDifferent (held_names m ++ equation_names m)
  all_different = subst AllDifferent checked.ordered.vars checked.ordered.different

  inside : (n : Name) → In n (equation_names m) → In n m.vars
  inside n h = subst (λ (l : List Name). In n l) (sym checked.ordered.vars) (In-right n (held_names m) (equation_names m) h)

  apart : (n : Name) → In n (input_ports m) → In n (equation_names m) → ⊥
  apart n h i = by (is_clock m.clock n) refl where
    by : (b : Bool) → is_clock m.clock n ≡ b → ⊥
    by true e = (checked.clock n (clock_is m.clock n e)).apart (inside n i)
    by false e =
        left_apart (held_names m) (equation_names m) n all_different
        (In-left n (inputs m) (register_names m) (kept_name (λ name. not (is_clock m.clock name)) n (input_ports m) h (ap not e))) i

  read_different : AllDifferent (input_ports m ++ equation_names m)
  read_different =
      both_different (input_ports m) (equation_names m) (rising_different (input_ports m) (rises (input_ports m) (role_ordered m checked Input)))
      (right_different (held_names m) (equation_names m) all_different) apart

  pub shorter : length (held_names m) + 1 ≤ length (input_ports m)
  shorter =
      let kept : List Name = filter (λ (name : Name). not (is_same_name clock name)) (input_ports m) in
      let none : List Name = [] in
      let e : length (held_names m) ≡ length (kept ++ none) =
      λ j. length (filter (λ (name : Name). not (is_clock (is j) name)) (input_ports m) ++ map (λ (r : Register). r.name) (bare j)) in
      let l = length-append kept none in
      let o = one_less clock (input_ports m) (checked.clock clock is).port in
      omega (arith, e, l, o)

  no_supply : (n : Name) → In n (names_of m.ports ++ (input_ports m ++ equation_names m)) → IsNoSupply n
  no_supply n h = elim (In-split n (names_of m.ports) (input_ports m ++ equation_names m) h) [
    | inl p ↦ each_of IsNoSupply (names_of m.ports ++ m.vars) checked.supplies n (In-left n (names_of m.ports) m.vars p)
    | inr q ↦ elim (In-split n (input_ports m) (equation_names m) q) [
      | inl r ↦ each_of IsNoSupply (names_of m.ports ++ m.vars) checked.supplies n
          (In-left n (names_of m.ports) m.vars (kept_port (λ p. is_input p.dir) n m.ports r))
      | inr s ↦ each_of IsNoSupply (names_of m.ports ++ m.vars) checked.supplies n (In-right n (names_of m.ports) m.vars (inside n s))
    ]
  ]

  abbrev numbers : List ℕ
  numbers = numbers_without (name_place clock (input_ports m)) (length m.vars)

  lifts : (j : ℕ) → slice_index numbers j ≤ j + 1
  lifts j = let r = lifted 0 (name_place clock (input_ports m)) (length m.vars) j in omega (arith, r)

  pub read_checked : IsChecked (with_read_clock m clock)
  read_checked = record {
    ports = checked.ports;
    registers = in_order [] tt;
    supplies = all_of IsNoSupply (names_of m.ports ++ (input_ports m ++ equation_names m)) no_supply;
    driven = λ name h. subst (λ (l : List Name). In name l) (sym (names_over numbers m.equations)) (checked.driven name h);
    clock = λ name e. absurd (cc e);
    clocked = λ e. refl;
    ordered = record {
      vars = λ j. sym (every (input_ports m)) j ++ sym (names_over numbers m.equations) j;
      different = read_different;
      below = subst (λ (k : ℕ). EachReadsBelow k (map (equation_over numbers) m.equations)) (sym (ap length (every (input_ports m))))
          (reads_lifted numbers lifts m.equations (length (held_names m)) (length (input_ports m)) shorter checked.ordered.below);
    };
    loads = All-nil (λ (r : Register). IsOver r.next (length (input_ports m ++ equation_names m)) × IsOver r.enable (length (input_ports m ++ equation_names m)));
  }

  pub no_longer : length m.vars ≤ length (input_ports m ++ equation_names m)
  no_longer =
      let all = ap length checked.ordered.vars in
      let old = length-append (held_names m) (equation_names m) in
      let new = length-append (input_ports m) (equation_names m) in
      let s = shorter in
      omega (arith, all, old, new, s)

-- ---- the machine that is made

pub over_more : (e : Expression) (n k : ℕ) → n ≤ k → IsOver e n → IsOver e k
over_more (constant b) n k less h = tt
over_more (variable x) n k less h = omega (arith, less, h)
over_more (inverse e) n k less h = over_more e n k less h
over_more (pair g a b) n k less h = (over_more a n k less h.0, over_more b n k less h.1)
over_more (choice c a b) n k less h = (over_more c n k less h.0, (over_more a n k less h.1.0, over_more b n k less h.1.1))

each_over : (n total : ℕ) (es : List EquationParts) → EachReadsBelow n (map equation_view es) → n + length es ≤ total → All (λ (e : EquationParts). IsOver (view e.expr) total) es
each_over n total [] reads room = All-nil (λ (e : EquationParts). IsOver (view e.expr) total)
each_over n total (e ∷ es) reads room =
    All-cons (λ (x : EquationParts). IsOver (view x.expr) total) e es (over_more (view e.expr) n total (omega (arith, room)) reads.0)
    (each_over (n + 1) total es reads.1 (omega (arith, room)))

pub equations_fit : (m : Machine) → IsChecked m → (es : List EquationParts) → map equation_view es ≡ m.equations → (total : ℕ) → total ≡ length m.vars
    → All (λ (e : EquationParts). IsOver (view e.expr) total) es
equations_fit m checked es is total long =
    each_over (held_count m) total es (subst (λ (l : List Equation). EachReadsBelow (held_count m) l) (sym is) checked.ordered.below)
    (let a = length-vars m checked.ordered in let b = ap length is in let c = length-map es equation_view in omega (arith, a, b, c, long))

pub length_numbers : (place count : ℕ) → length (numbers_without place count) ≡ count
length_numbers place count = length-map (rising 0 count) (number place) ∙ length_of_rising 0 count

over_views : (ns : List ℕ) (es : List EquationParts) → map (λ (e : EquationParts). equation_over ns (equation_view e)) es ≡ map (equation_over ns) (map equation_view es)
over_views ns [] = refl
over_views ns (e ∷ es) = ap (λ (l : List Equation). equation_over ns (equation_view e) ∷ l) (over_views ns es)

pub vars_made : (m : Machine) (old first second ns es : List Name) → old ≡ [] → first ≡ old ++ ns → ns ≡ input_ports m → second ≡ first ++ es → es ≡ equation_names m
    → second ≡ input_ports m ++ equation_names m
vars_made m old first second ns es none p n q e =
    let front : first ≡ input_ports m = p ∙ (λ j. none j ++ n j) in
    q ∙ (λ j. front j ++ e j)

pub built_as : (m : Machine) (clock : Name) (name : List ℕ) (ports : List Port) (vars : List Name) (made es : List EquationParts) (rs : List RegisterParts) (numbers : List ℕ)
    → name ≡ m.name → ports ≡ m.ports → vars ≡ input_ports m ++ equation_names m → map equation_view es ≡ m.equations
    → map equation_view made ≡ map (λ (e : EquationParts). equation_over numbers (equation_view e)) es
    → numbers ≡ numbers_without (name_place clock (input_ports m)) (length m.vars) → rs ≡ [] → machine_of name ports None vars made rs ≡ with_read_clock m clock
built_as m clock name ports vars made es rs numbers n p v given over same none =
    let e : map equation_view made ≡ map (equation_over (numbers_without (name_place clock (input_ports m)) (length m.vars))) m.equations =
    over ∙ over_views numbers es ∙ (λ j. map (equation_over (same j)) (given j)) in
    λ j. record { name = n j; ports = p j; clock = None; vars = v j; equations = e j; registers = map register_view (none j) }
