-- There is one case, and each branch lists a state, and none twice.
use Rattle.std.proofs.Common.{◌≡◌, ℕ, suc, ◌+◌, ◌<◌, Bool, true, false, cond, List, [], ◌∷◌, ◌++◌, map, length, get_or, refl, sym, ap, ◌∙◌, bytes_eq, arith}
use Rattle.std.specs.Prelude.{◌||◌, ◌&&◌, ◌==◌, not}
use Rattle.std.proofs.lemmas.Bool.{false≢true}
use Rattle.std.proofs.lemmas.Bool.Decides.{nat_tests}
use Rattle.std.proofs.lemmas.List.{length-map}
use Rattle.vlsi_base.specs.declared.entity.NewName.{NewName}
use Rattle.vlsi_base.specs.declared.name.Name.{Name}
use Rattle.vlsi_base.specs.Member.{In, here, there, AllDifferent}
use Rattle.bool_expr.specs.Support.{among}
use Rattle.source_checks.specs.Drivers.{target_names}
use Rattle.source_checks.specs.Formula.{Formula, formulas}
use Rattle.source_checks.proofs.Lookups.{itself}
use Rattle.vlsi_model.proofs.Expressions.{empty_left, empty_right}
use Rattle.fsm_machine.specs.Statements as s
use Rattle.fsm_core.specs.Checked.{cases_in, cases_in_parts, cases_in_branches, ListsStates, PartsListStates, BranchesListStates}
use Rattle.fsm_text.specs.Written.{StatementTree, asserted, assigned, chosen, selected, BodyTree, finish, next, PartsTree, only, either, further, BranchesTree, closed, others, listed, MachineTree}
use Rattle.fsm_io.specs.Known.{Named, symbols, texts}
use Rattle.fsm_io.specs.Looks.{Mention, testing, selecting, listing, body_has_case, holds_case, parts_have_case, in_body, in_statement, in_parts, in_branches, use_of}
use Rattle.fsm_io.specs.Elaboration.{frame_of, state_number, next_number, assign_bits, body_bits, statement_bits, parts_bits, branches_bits}
use Rattle.fsm_io.specs.States.{is_one_of, bad_names, bad_states}
use Rattle.fsm_io.specs.Listed.{HasStates, StatementHasStates, PartsHaveStates, BranchesHaveStates}
use Rattle.fsm_io.proofs.StateNames.{number_is, listed_states, both, no_bad, one_of-append, or_second}
use Rattle.fsm_io.proofs.Sounds.{AllSupported, Good, good_left, good_right, left, right, behind, first_case}

-- ---- one case

abbrev count : Bool → ℕ
count b = cond b 1 0

zero_plus : (k : ℕ) → 0 + k ≡ k
zero_plus k = omega arith

one_more : (j k : ℕ) → j ≡ 0 → suc (j + k) ≡ 1 + k
one_more j k e = omega (arith, e)

both_none : (j k : ℕ) → j ≡ 0 → k ≡ 0 → j + k ≡ 0
both_none j k e f = omega (arith, e, f)

seen_after : (seen c : Bool) → c ≡ true → (seen || c) ≡ true
seen_after true c e = refl
seen_after false c e = e

-- of two of which at most one has a case
sum_is : (c d : Bool) → (c ≡ true → d ≡ false) → count c + count d ≡ count (c || d)
sum_is true d h = ap (λ b. 1 + count b) (h refl)
sum_is false d h = zero_plus (count d)

or_none : (c d : Bool) → c ≡ false → d ≡ false → (c || d) ≡ false
or_none true d e f = absurd cc
or_none false d e f = f

case_outputs : (vars : List Name) (ks : List Name) (xs : List Formula) (rest : s.Statements) → cases_in (assign_bits vars ks xs rest) ≡ cases_in rest
case_outputs vars [] xs rest = refl
case_outputs vars (k ∷ ks) [] rest = refl
case_outputs vars (k ∷ ks) (x ∷ xs) rest = case_outputs vars ks xs rest

case_assignment : (c : Bool) (k : ℕ) (vars : List Name) (ks : List Name) (xs : List Formula) (rest : s.Statements) → cases_in (cond c (s.assign (s.next k) rest) (assign_bits vars ks xs rest)) ≡ cases_in rest
case_assignment true k vars ks xs rest = refl
case_assignment false k vars ks xs rest = case_outputs vars ks xs rest

-- where no form is left out, behind a case there is no other one
mutual
  alone_body : (m : MachineTree) (n : Named) (seen : Bool) (b : BodyTree) → AllSupported m n (in_body seen b) → seen ≡ true → body_has_case b ≡ false
  alone_body m n seen finish h e = refl
  alone_body m n seen (next st rest) h e =
      or_none (holds_case st) (body_has_case rest) (alone_statement m n seen st (left m n (in_statement seen st) (in_body (seen || holds_case st) rest) h) e)
      (alone_body m n (seen || holds_case st) rest (right m n (in_statement seen st) (in_body (seen || holds_case st) rest) h) (ap (λ b. b || holds_case st) e))

  alone_statement : (m : MachineTree) (n : Named) (seen : Bool) (st : StatementTree) → AllSupported m n (in_statement seen st) → seen ≡ true → holds_case st ≡ false
  alone_statement m n seen (asserted x) h e = refl
  alone_statement m n seen (assigned t line x) h e = refl
  alone_statement m n seen (chosen parts) h e = alone_parts m n seen parts h e
  alone_statement m n seen (selected line called branches) h e = absurd (false≢true (sym (first_case m n seen line called (h (selecting seen line called) here)) ∙ e))

  alone_parts : (m : MachineTree) (n : Named) (seen : Bool) (p : PartsTree) → AllSupported m n (in_parts seen p) → seen ≡ true → parts_have_case p ≡ false
  alone_parts m n seen (only line c a) h e = alone_body m n seen a (behind m n (testing line c) (in_body seen a) h) e
  alone_parts m n seen (either line c a b) h e =
      let k = behind m n (testing line c) (in_body seen a ++ in_body (seen || body_has_case a) b) h in
      or_none (body_has_case a) (body_has_case b) (alone_body m n seen a (left m n (in_body seen a) (in_body (seen || body_has_case a) b) k) e)
      (alone_body m n (seen || body_has_case a) b (right m n (in_body seen a) (in_body (seen || body_has_case a) b) k) (ap (λ b. b || body_has_case a) e))
  alone_parts m n seen (further line c a more) h e =
      let k = behind m n (testing line c) (in_body seen a ++ in_parts (seen || body_has_case a) more) h in
      or_none (body_has_case a) (parts_have_case more) (alone_body m n seen a (left m n (in_body seen a) (in_parts (seen || body_has_case a) more) k) e)
      (alone_parts m n (seen || body_has_case a) more (right m n (in_body seen a) (in_parts (seen || body_has_case a) more) k) (ap (λ b. b || body_has_case a) e))

mutual
  pub cases_body : (m : MachineTree) (n : Named) (vars : List Name) (seen : Bool) (b : BodyTree) → AllSupported m n (in_body seen b) → cases_in (body_bits (frame_of m n vars) b) ≡ cond (body_has_case b) 1 0
  cases_body m n vars seen finish h = refl
  cases_body m n vars seen (next st rest) h =
      let k = right m n (in_statement seen st) (in_body (seen || holds_case st) rest) h in
      cases_statement m n vars seen st (body_bits (frame_of m n vars) rest) (left m n (in_statement seen st) (in_body (seen || holds_case st) rest) h)
      ∙ ap (λ (j : ℕ). count (holds_case st) + j) (cases_body m n vars (seen || holds_case st) rest k)
      ∙ sum_is (holds_case st) (body_has_case rest) (λ e. alone_body m n (seen || holds_case st) rest k (seen_after seen (holds_case st) e))

  cases_statement : (m : MachineTree) (n : Named) (vars : List Name) (seen : Bool) (st : StatementTree) (rest : s.Statements) → AllSupported m n (in_statement seen st)
      → cases_in (statement_bits (frame_of m n vars) st rest) ≡ count (holds_case st) + cases_in rest
  cases_statement m n vars seen (asserted e) rest h = sym (zero_plus (cases_in rest))
  cases_statement m n vars seen (assigned t line e) rest h =
      case_assignment (bytes_eq t.name n.next) (next_number (texts m.states.states) e) vars (target_names (symbols m) t) (formulas (symbols m) e) rest
      ∙ sym (zero_plus (cases_in rest))
  cases_statement m n vars seen (chosen parts) rest h = ap (λ (j : ℕ). j + cases_in rest) (cases_parts m n vars seen parts h)
  cases_statement m n vars seen (selected line called branches) rest h =
      one_more (cases_in_branches (branches_bits (frame_of m n vars) branches)) (cases_in rest) (cases_branches m n vars branches (behind m n (selecting seen line called) (in_branches branches) h))

  cases_parts : (m : MachineTree) (n : Named) (vars : List Name) (seen : Bool) (p : PartsTree) → AllSupported m n (in_parts seen p) → cases_in_parts (parts_bits (frame_of m n vars) p) ≡ count (parts_have_case p)
  cases_parts m n vars seen (only line c a) h = cases_body m n vars seen a (behind m n (testing line c) (in_body seen a) h)
  cases_parts m n vars seen (either line c a b) h =
      let k = behind m n (testing line c) (in_body seen a ++ in_body (seen || body_has_case a) b) h in
      let r = right m n (in_body seen a) (in_body (seen || body_has_case a) b) k in
      ap (λ (j : ℕ). j + cases_in (body_bits (frame_of m n vars) b)) (cases_body m n vars seen a (left m n (in_body seen a) (in_body (seen || body_has_case a) b) k))
      ∙ ap (λ (j : ℕ). count (body_has_case a) + j) (cases_body m n vars (seen || body_has_case a) b r)
      ∙ sum_is (body_has_case a) (body_has_case b) (λ e. alone_body m n (seen || body_has_case a) b r (seen_after seen (body_has_case a) e))
  cases_parts m n vars seen (further line c a more) h =
      let k = behind m n (testing line c) (in_body seen a ++ in_parts (seen || body_has_case a) more) h in
      let r = right m n (in_body seen a) (in_parts (seen || body_has_case a) more) k in
      ap (λ (j : ℕ). j + cases_in_parts (parts_bits (frame_of m n vars) more)) (cases_body m n vars seen a (left m n (in_body seen a) (in_parts (seen || body_has_case a) more) k))
      ∙ ap (λ (j : ℕ). count (body_has_case a) + j) (cases_parts m n vars (seen || body_has_case a) more r)
      ∙ sum_is (body_has_case a) (parts_have_case more) (λ e. alone_parts m n (seen || body_has_case a) more r (seen_after seen (body_has_case a) e))

  cases_branches : (m : MachineTree) (n : Named) (vars : List Name) (b : BranchesTree) → AllSupported m n (in_branches b) → cases_in_branches (branches_bits (frame_of m n vars) b) ≡ 0
  cases_branches m n vars closed h = refl
  cases_branches m n vars (others a) h = cases_body m n vars true a h ∙ ap (λ b. count b) (alone_body m n true a h refl)
  cases_branches m n vars (listed names a more) h =
      let k = behind m n (listing names) (in_body true a ++ in_branches more) h in
      let l = left m n (in_body true a) (in_branches more) k in
      both_none (cases_in (body_bits (frame_of m n vars) a)) (cases_in_branches (branches_bits (frame_of m n vars) more)) (cases_body m n vars true a l ∙ ap (λ b. count b) (alone_body m n true a l refl))
      (cases_branches m n vars more (right m n (in_body true a) (in_branches more) k))

-- ---- no state twice in a branch

among_from : (k : ℕ) (xs : List ℕ) → In k xs → among k xs ≡ true
among_from k [] i = elim i [ ]
among_from k (x ∷ xs) here = let same : (k == k) ≡ true = grind (arith, nat_tests) in ap (λ b. b || among k xs) same
among_from k (x ∷ xs) (there i) = or_second (x == k) (among k xs) (among_from k xs i)

-- the numbers of states that are listed once differ
numbers_differ : (all before : List (List ℕ)) (names : List NewName) → bad_names all before names ≡ [] → AllDifferent (map (λ (n : NewName). state_number all n.text) names)
numbers_differ all before [] e = tt
numbers_differ all before (n ∷ names) e =
    let a = no_bad (is_one_of all n.text && not (is_one_of before n.text)) (use_of n) (bad_names all (before ++ n.text ∷ []) names) e in
    let b = both (is_one_of all n.text) (not (is_one_of before n.text)) a.0 in
    let at : get_or all (state_number all n.text) [] ≡ n.text = (number_is all n.text b.0).1 in
    let numbers = map (λ (k : NewName). state_number all k.text) names in
    let itself_listed : is_one_of (before ++ n.text ∷ []) n.text ≡ true =
    one_of-append before (n.text ∷ []) n.text ∙ or_second (is_one_of before n.text) (is_one_of (n.text ∷ []) n.text) (ap (λ c. c || false) (itself n.text)) in (
      λ i.
          let r = listed_states all (before ++ n.text ∷ []) names a.1 (state_number all n.text) (among_from (state_number all n.text) numbers i) in
          let not_listed : is_one_of (before ++ n.text ∷ []) n.text ≡ false = ap (is_one_of (before ++ n.text ∷ [])) (sym at) ∙ r.1 in
          absurd (false≢true (sym not_listed ∙ itself_listed)),
      numbers_differ all (before ++ n.text ∷ []) names a.1,
    )

once_outputs : (vars : List Name) (ks : List Name) (xs : List Formula) (rest : s.Statements) → ListsStates rest → ListsStates (assign_bits vars ks xs rest)
once_outputs vars [] xs rest h = h
once_outputs vars (k ∷ ks) [] rest h = h
once_outputs vars (k ∷ ks) (x ∷ xs) rest h = once_outputs vars ks xs rest h

once_assignment : (c : Bool) (k : ℕ) (vars : List Name) (ks : List Name) (xs : List Formula) (rest : s.Statements) → ListsStates rest → ListsStates (cond c (s.assign (s.next k) rest) (assign_bits vars ks xs rest))
once_assignment true k vars ks xs rest h = h
once_assignment false k vars ks xs rest h = once_outputs vars ks xs rest h

-- what is listed behind all of these places, whichever it is
abbrev Somewhere : MachineTree → Named → List Mention → Type 0
Somewhere m n ms = (before : List (List ℕ)) × Good m n before ms

on_left : (m : MachineTree) (n : Named) (xs ys : List Mention) → Somewhere m n (xs ++ ys) → Somewhere m n xs
on_left m n xs ys g = (g.0, good_left (texts m.states.states) n.next g.0 xs ys g.1)

on_right : (m : MachineTree) (n : Named) (xs ys : List Mention) → Somewhere m n (xs ++ ys) → Somewhere m n ys
on_right m n xs ys g = (_, good_right (texts m.states.states) n.next g.0 xs ys g.1)

some_number : (all : List (List ℕ)) (names : List NewName) → 0 < length names → 0 < length (map (λ (n : NewName). state_number all n.text) names)
some_number all names h = let same = length-map names (λ (n : NewName). state_number all n.text) in omega (arith, h, same)

mutual
  pub once_body : (m : MachineTree) (n : Named) (vars : List Name) (seen : Bool) (b : BodyTree) → Somewhere m n (in_body seen b) → HasStates b → ListsStates (body_bits (frame_of m n vars) b)
  once_body m n vars seen finish g l = tt
  once_body m n vars seen (next st rest) g l =
      once_statement m n vars seen st (body_bits (frame_of m n vars) rest) (on_left m n (in_statement seen st) (in_body (seen || holds_case st) rest) g) l.0
      (once_body m n vars (seen || holds_case st) rest (on_right m n (in_statement seen st) (in_body (seen || holds_case st) rest) g) l.1)

  once_statement : (m : MachineTree) (n : Named) (vars : List Name) (seen : Bool) (st : StatementTree) (rest : s.Statements) → Somewhere m n (in_statement seen st) → StatementHasStates st → ListsStates rest
      → ListsStates (statement_bits (frame_of m n vars) st rest)
  once_statement m n vars seen (asserted e) rest g l h = h
  once_statement m n vars seen (assigned t line e) rest g l h =
      once_assignment (bytes_eq t.name n.next) (next_number (texts m.states.states) e) vars (target_names (symbols m) t) (formulas (symbols m) e) rest h
  once_statement m n vars seen (chosen parts) rest g l h = (once_parts m n vars seen parts g l, h)
  once_statement m n vars seen (selected line called branches) rest g l h = (once_branches m n vars branches g l, h)

  once_parts : (m : MachineTree) (n : Named) (vars : List Name) (seen : Bool) (p : PartsTree) → Somewhere m n (in_parts seen p) → PartsHaveStates p → PartsListStates (parts_bits (frame_of m n vars) p)
  once_parts m n vars seen (only line c a) g l = once_body m n vars seen a g l
  once_parts m n vars seen (either line c a b) g l =
      (once_body m n vars seen a (on_left m n (in_body seen a) (in_body (seen || body_has_case a) b) g) l.0, once_body m n vars (seen || body_has_case a) b (on_right m n (in_body seen a) (in_body (seen || body_has_case a) b) g) l.1)
  once_parts m n vars seen (further line c a more) g l =
      (once_body m n vars seen a (on_left m n (in_body seen a) (in_parts (seen || body_has_case a) more) g) l.0, once_parts m n vars (seen || body_has_case a) more (on_right m n (in_body seen a) (in_parts (seen || body_has_case a) more) g) l.1)

  once_branches : (m : MachineTree) (n : Named) (vars : List Name) (b : BranchesTree) → Somewhere m n (in_branches b) → BranchesHaveStates b → BranchesListStates (branches_bits (frame_of m n vars) b)
  once_branches m n vars closed g l = tt
  once_branches m n vars (others a) g l = once_body m n vars true a g l
  once_branches m n vars (listed names a more) g l =
      let all = texts m.states.states in
      let after = bad_states all n.next (g.0 ++ texts names) (in_body true a ++ in_branches more) in
      let rest : Somewhere m n (in_body true a ++ in_branches more) = (g.0 ++ texts names, empty_right (bad_names all g.0 names) after g.1) in
      ((some_number all names l.0, numbers_differ all g.0 names (empty_left (bad_names all g.0 names) after g.1)), (once_body m n vars true a (on_left m n (in_body true a) (in_branches more) rest) l.1.0, once_branches m n vars more (on_right m n (in_body true a) (in_branches more) rest) l.1.1))
