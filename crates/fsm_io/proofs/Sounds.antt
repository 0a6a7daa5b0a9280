-- The statements list known states, each once, and assign known ones.
use Rattle.std.proofs.Common.{◌≡◌, ℕ, ◌<◌, Bool, true, false, cond, List, [], ◌∷◌, ◌++◌, map, length, get_or, Option, Some, None, refl, sym, ap, subst, ◌∙◌, bytes_eq, arith, append_assoc}
use Rattle.std.specs.Prelude.{◌||◌, ◌&&◌, not}
use Rattle.std.specs.Option.{is_some}
use Rattle.std.proofs.lemmas.Bool.{false≢true}
use Rattle.vlsi_base.specs.declared.entity.NewName.{NewName}
use Rattle.vlsi_base.specs.declared.name.Name.{Name}
use Rattle.vlsi_base.specs.Tree.{Tree}
use Rattle.vlsi_base.specs.Member.{In, here, there}
use Rattle.machine_core.proofs.Values.{In-left, In-right}
use Rattle.bool_expr.specs.Support.{among}
use Rattle.source_checks.specs.declared.statement.Target.{Target}
use Rattle.source_checks.specs.Symbols.{find}
use Rattle.source_checks.specs.Drivers.{target_names}
use Rattle.source_checks.specs.Formula.{Formula, formulas}
use Rattle.source_checks.specs.Places.{Use}
use Rattle.source_checks.specs.Widths.{if_not}
use Rattle.vlsi_model.proofs.Expressions.{empty_left, empty_right}
use Rattle.fsm_machine.specs.Statements as s
use Rattle.fsm_machine.specs.Signals.{without}
use Rattle.fsm_machine.specs.MachineOf.{up}
use Rattle.fsm_machine.specs.Sound.{AreLeft, IsSound, ArePartsSound, AreBranchesSound}
use Rattle.fsm_machine.proofs.Holding.{among_without}
use Rattle.fsm_machine.proofs.States.{up_among}
use Rattle.fsm_text.specs.declared.file.FirstToken.{FirstToken}
use Rattle.fsm_text.specs.Written.{StatementTree, asserted, assigned, chosen, selected, BodyTree, finish, next, PartsTree, only, either, further, BranchesTree, closed, others, listed, MachineTree}
use Rattle.fsm_io.specs.Known.{Named, symbols, texts}
use Rattle.fsm_io.specs.Looks.{Mention, assigning, testing, selecting, listing, body_has_case, holds_case, parts_have_case, in_body, in_statement, in_parts, in_branches, plain_use, is_plain}
use Rattle.fsm_io.specs.Elaboration.{frame_of, state_number, number_of, next_number, assign_bits, body_bits, statement_bits, parts_bits, branches_bits}
use Rattle.fsm_io.specs.States.{is_one_of, bad_names, bad_use, bad_value, bad_at, listed_after, bad_states}
use Rattle.fsm_io.specs.Unsupported.{forms_at, next_forms, may_assign, expression_forms}
use Rattle.fsm_io.proofs.StateNames.{number_is, listed_states, one_of_more}

-- what was listed behind all of these places
abbrev after : List (List ℕ) → List Mention → List (List ℕ)
after before [] = before
after before (x ∷ ms) = after (listed_after before x) ms

bad-append : (all : List (List ℕ)) (to : List ℕ) (before : List (List ℕ)) (xs ys : List Mention) → bad_states all to before (xs ++ ys) ≡ bad_states all to before xs ++ bad_states all to (after before xs) ys
bad-append all to before [] ys = refl
bad-append all to before (x ∷ xs) ys =
    ap (λ (us : List Use). bad_at all to before x ++ us) (bad-append all to (listed_after before x) xs ys) ∙ sym (append_assoc (bad_at all to before x) (bad_states all to (listed_after before x) xs) (bad_states all to (after (listed_after before x) xs) ys))

after-append : (before : List (List ℕ)) (xs ys : List Mention) → after before (xs ++ ys) ≡ after (after before xs) ys
after-append before [] ys = refl
after-append before (x ∷ xs) ys = after-append (listed_after before x) xs ys

pub good_left : (all : List (List ℕ)) (to : List ℕ) (before : List (List ℕ)) (xs ys : List Mention) → bad_states all to before (xs ++ ys) ≡ [] → bad_states all to before xs ≡ []
good_left all to before xs ys e = empty_left (bad_states all to before xs) (bad_states all to (after before xs) ys) (sym (bad-append all to before xs ys) ∙ e)

pub good_right : (all : List (List ℕ)) (to : List ℕ) (before : List (List ℕ)) (xs ys : List Mention) → bad_states all to before (xs ++ ys) ≡ [] → bad_states all to (after before xs) ys ≡ []
good_right all to before xs ys e = empty_right (bad_states all to before xs) (bad_states all to (after before xs) ys) (sym (bad-append all to before xs ys) ∙ e)

-- no form is left out in any of these places
abbrev pub AllSupported : MachineTree → Named → List Mention → Type 0
AllSupported m n ms = (x : Mention) → In x ms → forms_at (symbols m) n x ≡ []

pub left : (m : MachineTree) (n : Named) (xs ys : List Mention) → AllSupported m n (xs ++ ys) → AllSupported m n xs
left m n xs ys h x i = h x (In-left x xs ys i)

pub right : (m : MachineTree) (n : Named) (xs ys : List Mention) → AllSupported m n (xs ++ ys) → AllSupported m n ys
right m n xs ys h x i = h x (In-right x xs ys i)

pub behind : (m : MachineTree) (n : Named) (x : Mention) (ys : List Mention) → AllSupported m n (x ∷ ys) → AllSupported m n ys
behind m n y ys h x i = h x (there i)

unseen : (m : MachineTree) (n : Named) (seen : Bool) (line : ℕ) (called : NewName) → forms_at (symbols m) n (selecting seen line called) ≡ [] → seen ≡ true → ⊥
unseen m n true line called e h = absurd cc
unseen m n false line called e h = false≢true h

pub first_case : (m : MachineTree) (n : Named) (seen : Bool) (line : ℕ) (called : NewName) → forms_at (symbols m) n (selecting seen line called) ≡ [] → seen ≡ false
first_case m n true line called e = absurd cc
first_case m n false line called e = refl

pub neither : (a b : Bool) → (a || b) ≡ false → (a ≡ false) × (b ≡ false)
neither true b e = absurd cc
neither false b e = (refl, e)

or_true : (a : Bool) → (true || a) ≡ true
or_true a = refl

-- behind a case there is no other one, so nothing is listed
mutual
  quiet_body : (m : MachineTree) (n : Named) (seen : Bool) (b : BodyTree) (before : List (List ℕ)) → AllSupported m n (in_body seen b) → seen ≡ true → after before (in_body seen b) ≡ before
  quiet_body m n seen finish before h e = refl
  quiet_body m n seen (next st rest) before h e =
      after-append before (in_statement seen st) (in_body (seen || holds_case st) rest)
      ∙ ap (λ (l : List (List ℕ)). after l (in_body (seen || holds_case st) rest)) (quiet_statement m n seen st before (left m n (in_statement seen st) (in_body (seen || holds_case st) rest) h) e)
      ∙ quiet_body m n (seen || holds_case st) rest before (right m n (in_statement seen st) (in_body (seen || holds_case st) rest) h) (ap (λ b. b || holds_case st) e)

  quiet_statement : (m : MachineTree) (n : Named) (seen : Bool) (st : StatementTree) (before : List (List ℕ)) → AllSupported m n (in_statement seen st) → seen ≡ true → after before (in_statement seen st) ≡ before
  quiet_statement m n seen (asserted x) before h e = refl
  quiet_statement m n seen (assigned t line x) before h e = refl
  quiet_statement m n seen (chosen parts) before h e = quiet_parts m n seen parts before h e
  quiet_statement m n seen (selected line called branches) before h e = absurd (unseen m n seen line called (h (selecting seen line called) here) e)

  quiet_parts : (m : MachineTree) (n : Named) (seen : Bool) (p : PartsTree) (before : List (List ℕ)) → AllSupported m n (in_parts seen p) → seen ≡ true → after before (in_parts seen p) ≡ before
  quiet_parts m n seen (only line c a) before h e = quiet_body m n seen a before (behind m n (testing line c) (in_body seen a) h) e
  quiet_parts m n seen (either line c a b) before h e =
      let k = behind m n (testing line c) (in_body seen a ++ in_body (seen || body_has_case a) b) h in
      after-append before (in_body seen a) (in_body (seen || body_has_case a) b)
      ∙ ap (λ (l : List (List ℕ)). after l (in_body (seen || body_has_case a) b)) (quiet_body m n seen a before (left m n (in_body seen a) (in_body (seen || body_has_case a) b) k) e)
      ∙ quiet_body m n (seen || body_has_case a) b before (right m n (in_body seen a) (in_body (seen || body_has_case a) b) k) (ap (λ b. b || body_has_case a) e)
  quiet_parts m n seen (further line c a more) before h e =
      let k = behind m n (testing line c) (in_body seen a ++ in_parts (seen || body_has_case a) more) h in
      after-append before (in_body seen a) (in_parts (seen || body_has_case a) more)
      ∙ ap (λ (l : List (List ℕ)). after l (in_parts (seen || body_has_case a) more)) (quiet_body m n seen a before (left m n (in_body seen a) (in_parts (seen || body_has_case a) more) k) e)
      ∙ quiet_parts m n (seen || body_has_case a) more before (right m n (in_body seen a) (in_parts (seen || body_has_case a) more) k) (ap (λ b. b || body_has_case a) e)

-- without a case nothing is listed
mutual
  none_body : (seen : Bool) (b : BodyTree) (before : List (List ℕ)) → body_has_case b ≡ false → after before (in_body seen b) ≡ before
  none_body seen finish before e = refl
  none_body seen (next st rest) before e =
      let p = neither (holds_case st) (body_has_case rest) e in
      after-append before (in_statement seen st) (in_body (seen || holds_case st) rest)
      ∙ ap (λ (l : List (List ℕ)). after l (in_body (seen || holds_case st) rest)) (none_statement seen st before p.0) ∙ none_body (seen || holds_case st) rest before p.1

  none_statement : (seen : Bool) (st : StatementTree) (before : List (List ℕ)) → holds_case st ≡ false → after before (in_statement seen st) ≡ before
  none_statement seen (asserted x) before e = refl
  none_statement seen (assigned t line x) before e = refl
  none_statement seen (chosen parts) before e = none_parts seen parts before e
  none_statement seen (selected line called branches) before e = absurd cc

  none_parts : (seen : Bool) (p : PartsTree) (before : List (List ℕ)) → parts_have_case p ≡ false → after before (in_parts seen p) ≡ before
  none_parts seen (only line c a) before e = none_body seen a before e
  none_parts seen (either line c a b) before e =
      let p = neither (body_has_case a) (body_has_case b) e in
      after-append before (in_body seen a) (in_body (seen || body_has_case a) b)
      ∙ ap (λ (l : List (List ℕ)). after l (in_body (seen || body_has_case a) b)) (none_body seen a before p.0) ∙ none_body (seen || body_has_case a) b before p.1
  none_parts seen (further line c a more) before e =
      let p = neither (body_has_case a) (parts_have_case more) e in
      after-append before (in_body seen a) (in_parts (seen || body_has_case a) more)
      ∙ ap (λ (l : List (List ℕ)). after l (in_parts (seen || body_has_case a) more)) (none_body seen a before p.0) ∙ none_parts (seen || body_has_case a) more before p.1

-- those that were not listed are left
abbrev Left : List (List ℕ) → List (List ℕ) → List ℕ → Type 0
Left all before states = (q : ℕ) → q < length all → is_one_of before (get_or all q []) ≡ false → among q states ≡ true

left_less : (all before : List (List ℕ)) (names : List NewName) (states : List ℕ) → bad_names all before names ≡ [] → Left all before states
    → Left all (before ++ texts names) (without (map (λ (n : NewName). state_number all n.text) names) states)
left_less all before names states good h q small e =
    let p = one_of_more before (texts names) (get_or all q []) e in
    let numbers = map (λ (n : NewName). state_number all n.text) names in
    let there = h q small p.0 in
    among_without q numbers states ∙ ap (λ b. b && not (among q numbers)) there ∙ by (among q numbers) refl p.1 where
      by : (b : Bool) → among q (map (λ (n : NewName). state_number all n.text) names) ≡ b → is_one_of (texts names) (get_or all q []) ≡ false → not b ≡ true
      by true is f = absurd (false≢true (sym f ∙ (listed_states all before names good q is).2))
      by false is f = refl

-- nothing was listed before a case
abbrev Fresh : Bool → List (List ℕ) → Type 0
Fresh seen before = seen ≡ false → before ≡ []

all_left : (all : List (List ℕ)) → Left all [] (up 0 (length all))
all_left all q small e = up_among q 0 (length all) (omega arith) (omega arith)

outputs_sound : (states : List ℕ) (vars : List Name) (ks : List Name) (xs : List Formula) (rest : s.Statements) → IsSound states rest → IsSound states (assign_bits vars ks xs rest)
outputs_sound states vars [] xs rest h = h
outputs_sound states vars (k ∷ ks) [] rest h = h
outputs_sound states vars (k ∷ ks) (x ∷ xs) rest h = (tt, outputs_sound states vars ks xs rest h)

one_alone : (b c : Bool) (line : ℕ) → if_not (b && c) line ≡ [] → if_not c line ≡ []
one_alone true c line f = f
one_alone false c line f = absurd cc

known_next : (all : List (List ℕ)) (first : FirstToken) (e : Tree) → next_forms first e ≡ [] → bad_value all e ≡ [] → among (next_number all e) (up 0 (length all)) ≡ true
known_next all first e f b = by (plain_use e) (one_alone first.is_name (is_plain e) first.line f) b where
  at : (u : Use) (c : Bool) → is_one_of all u.text ≡ c → cond c [] (u ∷ []) ≡ [] → among (state_number all u.text) (up 0 (length all)) ≡ true
  at u true is e = let r = number_is all u.text is in let small = r.0 in up_among (state_number all u.text) 0 (length all) (omega arith) (omega (arith, small))
  at u false is e = absurd cc

  by : (o : Option Use) → if_not (is_some o) first.line ≡ [] → bad_use all o ≡ [] → among (number_of all o) (up 0 (length all)) ≡ true
  by None f b = absurd cc
  by (Some u) f b = at u (is_one_of all u.text) refl b

assignment_sound : (m : MachineTree) (n : Named) (vars : List Name) (t : Target) (first : FirstToken) (e : Tree) (rest : s.Statements) → IsSound (up 0 (length (texts m.states.states))) rest
    → (c : Bool) → cond c (next_forms first e) (if_not (may_assign (find (symbols m) t.name)) t.line ++ expression_forms (symbols m) e) ≡ [] → cond c (bad_value (texts m.states.states) e) [] ≡ []
    → IsSound (up 0 (length (texts m.states.states))) (cond c (s.assign (s.next (next_number (texts m.states.states) e)) rest) (assign_bits vars (target_names (symbols m) t) (formulas (symbols m) e) rest))
assignment_sound m n vars t first e rest h true f b = (known_next (texts m.states.states) first e f b, h)
assignment_sound m n vars t first e rest h false f b = outputs_sound (up 0 (length (texts m.states.states))) vars (target_names (symbols m) t) (formulas (symbols m) e) rest h

-- nothing in these places is no state, where these were listed before
abbrev pub Good : MachineTree → Named → List (List ℕ) → List Mention → Type 0
Good m n before ms = bad_states (texts m.states.states) n.next before ms ≡ []

one_line : {A : Type 0} (xs : List A) → xs ++ [] ≡ [] → xs ≡ []
one_line [] e = refl
one_line (x ∷ xs) e = absurd cc

fresh_after : (seen c : Bool) (before later : List (List ℕ)) → Fresh seen before → (c ≡ false → later ≡ before) → Fresh (seen || c) later
fresh_after seen c before later f h e = let p = neither seen c e in h p.1 ∙ f p.0

mutual
  pub body_sound : (m : MachineTree) (n : Named) (vars : List Name) (seen : Bool) (b : BodyTree) (before : List (List ℕ)) → Fresh seen before → Good m n before (in_body seen b) → AllSupported m n (in_body seen b)
      → IsSound (up 0 (length (texts m.states.states))) (body_bits (frame_of m n vars) b)
  body_sound m n vars seen finish before f g h = tt
  body_sound m n vars seen (next st rest) before f g h =
      statement_sound m n vars seen st (body_bits (frame_of m n vars) rest) before f (good_left (texts m.states.states) n.next before (in_statement seen st) (in_body (seen || holds_case st) rest) g)
      (left m n (in_statement seen st) (in_body (seen || holds_case st) rest) h)
      (body_sound m n vars (seen || holds_case st) rest (after before (in_statement seen st)) (fresh_after seen (holds_case st) before (after before (in_statement seen st)) f (none_statement seen st before))
      (good_right (texts m.states.states) n.next before (in_statement seen st) (in_body (seen || holds_case st) rest) g) (right m n (in_statement seen st) (in_body (seen || holds_case st) rest) h))

  statement_sound : (m : MachineTree) (n : Named) (vars : List Name) (seen : Bool) (st : StatementTree) (rest : s.Statements) (before : List (List ℕ)) → Fresh seen before → Good m n before (in_statement seen st)
      → AllSupported m n (in_statement seen st) → IsSound (up 0 (length (texts m.states.states))) rest → IsSound (up 0 (length (texts m.states.states))) (statement_bits (frame_of m n vars) st rest)
  statement_sound m n vars seen (asserted e) rest before f g h k = k
  statement_sound m n vars seen (assigned t line e) rest before f g h k =
      assignment_sound m n vars t line e rest k (bytes_eq t.name n.next) (h (assigning t line e) here) (one_line (cond (bytes_eq t.name n.next) (bad_value (texts m.states.states) e) []) g)
  statement_sound m n vars seen (chosen parts) rest before f g h k = (parts_sound m n vars seen parts before f g h, k)
  statement_sound m n vars seen (selected line called branches) rest before f g h k = (
    branches_sound m n vars branches before (up 0 (length (texts m.states.states)))
        (subst (λ (l : List (List ℕ)). Left (texts m.states.states) l (up 0 (length (texts m.states.states)))) (sym (f (first_case m n seen line called (h (selecting seen line called) here)))) (all_left (texts m.states.states))) g
        (behind m n (selecting seen line called) (in_branches branches) h),
    k,
  )

  parts_sound : (m : MachineTree) (n : Named) (vars : List Name) (seen : Bool) (p : PartsTree) (before : List (List ℕ)) → Fresh seen before → Good m n before (in_parts seen p) → AllSupported m n (in_parts seen p)
      → ArePartsSound (up 0 (length (texts m.states.states))) (parts_bits (frame_of m n vars) p)
  parts_sound m n vars seen (only line c a) before f g h = body_sound m n vars seen a before f g (behind m n (testing line c) (in_body seen a) h)
  parts_sound m n vars seen (either line c a b) before f g h =
      let k = behind m n (testing line c) (in_body seen a ++ in_body (seen || body_has_case a) b) h in (
        body_sound m n vars seen a before f (good_left (texts m.states.states) n.next before (in_body seen a) (in_body (seen || body_has_case a) b) g) (left m n (in_body seen a) (in_body (seen || body_has_case a) b) k),
        body_sound m n vars (seen || body_has_case a) b (after before (in_body seen a)) (fresh_after seen (body_has_case a) before (after before (in_body seen a)) f (none_body seen a before))
            (good_right (texts m.states.states) n.next before (in_body seen a) (in_body (seen || body_has_case a) b) g) (right m n (in_body seen a) (in_body (seen || body_has_case a) b) k),
      )
  parts_sound m n vars seen (further line c a more) before f g h =
      let k = behind m n (testing line c) (in_body seen a ++ in_parts (seen || body_has_case a) more) h in (
        body_sound m n vars seen a before f (good_left (texts m.states.states) n.next before (in_body seen a) (in_parts (seen || body_has_case a) more) g) (left m n (in_body seen a) (in_parts (seen || body_has_case a) more) k),
        parts_sound m n vars (seen || body_has_case a) more (after before (in_body seen a)) (fresh_after seen (body_has_case a) before (after before (in_body seen a)) f (none_body seen a before))
            (good_right (texts m.states.states) n.next before (in_body seen a) (in_parts (seen || body_has_case a) more) g) (right m n (in_body seen a) (in_parts (seen || body_has_case a) more) k),
      )

  branches_sound : (m : MachineTree) (n : Named) (vars : List Name) (b : BranchesTree) (before : List (List ℕ)) (states : List ℕ) → Left (texts m.states.states) before states → Good m n before (in_branches b) → AllSupported m n (in_branches b)
      → AreBranchesSound (up 0 (length (texts m.states.states))) states (branches_bits (frame_of m n vars) b)
  branches_sound m n vars closed before states l g h = tt
  branches_sound m n vars (others a) before states l g h = body_sound m n vars true a before (λ e. absurd (false≢true (sym e))) g h
  branches_sound m n vars (listed names a more) before states l g h =
      let all = texts m.states.states in
      let numbers = map (λ (k : NewName). state_number all k.text) names in
      let good = empty_left (bad_names all before names) (bad_states all n.next (before ++ texts names) (in_body true a ++ in_branches more)) g in
      let rest = empty_right (bad_names all before names) (bad_states all n.next (before ++ texts names) (in_body true a ++ in_branches more)) g in
      let k = behind m n (listing names) (in_body true a ++ in_branches more) h in
      let quiet = quiet_body m n true a (before ++ texts names) (left m n (in_body true a) (in_branches more) k) refl in
      let here : AreLeft numbers states = λ q e. let r = listed_states all before names good q e in l q r.0 r.1 in (
        here,
        (
          body_sound m n vars true a (before ++ texts names) (λ e. absurd (false≢true (sym e))) (good_left all n.next (before ++ texts names) (in_body true a) (in_branches more) rest) (left m n (in_body true a) (in_branches more) k),
          branches_sound m n vars more (before ++ texts names) (without numbers states) (left_less all before names states good l)
              (subst (λ (x : List (List ℕ)). bad_states all n.next x (in_branches more) ≡ []) quiet (good_right all n.next (before ++ texts names) (in_body true a) (in_branches more) rest))
              (right m n (in_body true a) (in_branches more) k),
        ),
      )
