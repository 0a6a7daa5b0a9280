-- Each expression of a text that is read has few operators.
use Rattle.std.proofs.Common.{◌≡◌, ℕ, zero, suc, ◌+◌, ◌-◌, ◌==◌, ◌≤◌, ◌<◌, Bool, true, false, nat_lt, bytes_eq, List, [], ◌∷◌, ◌++◌, map, Result, Ok, Err, inl, inr, refl, sym, ◌∙◌, ap, subst, arith, if◌then◌else◌}
use Rattle.vlsi_base.specs.declared.expression.Operator.{Operator}
use Rattle.vlsi_base.specs.declared.expression.Operator.TheVariants as operation
use Rattle.vlsi_base.specs.declared.radix.Radix.TheVariants as radix
use Rattle.vlsi_base.specs.Tree.{Tree, bit, literal, name, index, slice, stable, inverse, binary, folded}
use Rattle.vlsi_base.specs.declared.entity.Entity.{Entity}
use Rattle.vhdl_token.specs.declared.token.Tokens.{Tokens}
use Rattle.vhdl_token.specs.declared.token.PlacedToken.{PlacedToken}
use Rattle.grammar_theory.specs.declared.form.Form.{Form}
use Rattle.grammar_theory.specs.declared.refusal.Breach.{Breach}
use Rattle.grammar_theory.specs.declared.refusal.Breach.TheVariants as broken
use Rattle.grammar_theory.specs.declared.limits.TheConstants.{CHAIN, DEPTH}
use Rattle.grammar_theory.specs.Marks.{Mark, plain, opens, operator, spells, Item, State, uncounted, acts, checked, step, go_on, run}
use Rattle.grammar_theory.specs.Grammar.{Grammar, none, nothing, one, marked, Then, ◌or◌, list, placed}
use Rattle.vhdl_front.specs.Cursor.{name_of, bit_of, digits_of, radix_of}
use Rattle.vhdl_front.specs.Expression.{number, closing, direction, slice_of, places, suffix, named, bit_literal, text_literal, string_literal, parenthesized, primary, factor, joined, cat, pair, chain, relation, logical, expression_over, less, nested, expression}
use Rattle.source_checks.specs.declared.statement.Guarded.{Guarded}
use Rattle.source_checks.specs.declared.statement.Choice.{Choice}
use Rattle.source_checks.specs.declared.statement.Assignment.{Assignment}
use Rattle.source_checks.specs.declared.statement.Statement.{Statement}
use Rattle.source_checks.specs.declared.statement.Statement.TheVariants as kind
use Rattle.source_checks.specs.declared.statement.DesignFile.{DesignFile}
use Rattle.source_checks.specs.Operators.{operators, IsShort, ShortAlternatives, ShortChoice, ShortAssignments, ShortStatement, ShortStatements, HasShortExpressions}
use Rattle.vbe_text.specs.Source.{GuardedTree, FurtherTree, ChoiceTree, AssignmentTree, StatementTree, asserted, assigned, blocked, SourceTree, guarded_view, choice_view, assignment_view, statement_view, source_view}
use Rattle.vbe_text.specs.Vbe.{alternatives_from, last_value, choice_of, further, choice, value, assertion, assignment, guarded_assignment, guarded_assignments, guard, block, labelled, statement, statements, architecture, source, IsSource}

-- ---- runs

abbrev pub IsRun : Result State Breach → State → Type 0
IsRun r t = r ≡ Ok t

-- what is counted behind the first part, and from there on
record Split (front back : List Item) (s t : State) : Type 0 where
  pub mid : State
  pub before : IsRun (run front s) mid
  pub behind : IsRun (run back mid) t

split : (front back : List Item) (s t : State) → IsRun (run (front ++ back) s) t → Split front back s t
split [] back s t e = record { mid = s; before = refl; behind = e }
split (i ∷ front) back s t e = by (step i.mark s) refl e (λ u. split front back u t) where
  by : (r : Result State Breach) → step i.mark s ≡ r → IsRun (go_on r (run (front ++ back))) t
      → ((u : State) → IsRun (run (front ++ back) u) t → Split front back u t) → Split (i ∷ front) back s t
  by (Ok u) is e rest =
      let cut = rest u e in
      record { mid = cut.mid; before = ap (λ (r : Result State Breach). go_on r (run front)) is ∙ cut.before; behind = cut.behind }
  by (Err b) is e rest = absurd (cc e)

split_at : (items front back : List Item) (s t : State) → items ≡ front ++ back → IsRun (run items s) t → Split front back s t
split_at items front back s t parts e = split front back s t (subst (λ (is : List Item). IsRun (run is s) t) parts e)

no_items : (items : List Item) (s t : State) → items ≡ [] → IsRun (run items s) t → IsRun (Ok s) t
no_items items s t empty e = subst (λ (is : List Item). IsRun (run is s) t) empty e

-- ---- what holds of each value

-- in each run of a sentence's marks, from whatever state, its value has this property
pub record Has {A : Type 0} (G : Grammar A) (P : A → Type 0) : Type 0 where
  pub each : (items : List Item) (v : A) → G items v → (s t : State) → IsRun (run items s) t → P v

pub has_then : {A C : Type 0} {L : Grammar A} {M : A → Grammar C} {P : A → Type 0} {Q : C → Type 0} → Has L P → ((x : A) → P x → Has (M x) Q) → Has (Then L M) Q
has_then {A} {C} {L} {M} {P} {Q} first second = record {
  each = λ items v h s t e.
      let cut = split_at items h.front h.back s t h.parts e in
      (second h.value (first.each h.front h.value h.before s cut.mid cut.before)).each h.back v h.behind cut.mid t cut.behind;
}

-- whatever the first part is
pub has_behind : {A C : Type 0} {L : Grammar A} {M : A → Grammar C} {Q : C → Type 0} → ((x : A) → Has (M x) Q) → Has (Then L M) Q
has_behind {A} {C} {L} {M} {Q} second = record {
  each = λ items v h s t e.
      let cut = split_at items h.front h.back s t h.parts e in
      (second h.value).each h.back v h.behind cut.mid t cut.behind;
}

pub has_or : {A : Type 0} {L M : Grammar A} {P : A → Type 0} → Has L P → Has M P → Has (L or M) P
has_or {A} {L} {M} {P} left right = record { each = λ items v h s t e. elim h [ inl a ↦ left.each items v a s t e | inr b ↦ right.each items v b s t e ] }

pub has_nothing : {A : Type 0} (P : A → Type 0) (x : A) → P x → Has (nothing x) P
has_nothing {A} P x holds = record { each = λ items v h s t e. subst P (sym h.1) holds }

abbrev pub Every : {A : Type 0} → (A → Type 0) → List A → Type 0
Every P [] = Unit {0}
Every P (x ∷ xs) = P x × Every P xs

list_every : {A : Type 0} (L : Grammar A) (P : A → Type 0) → Has L P → (items : List Item) (vs : List A) → list L items vs
    → (s t : State) → IsRun (run items s) t → Every P vs
list_every L P one items [] h s t e = tt
list_every L P one items (v ∷ vs) h s t e =
    let cut = split_at items h.0 h.1 s t h.2 e in
    (one.each h.0 v h.3 s cut.mid cut.before, list_every L P one h.1 vs h.4 cut.mid t cut.behind)

pub has_list : {A : Type 0} {L : Grammar A} {P : A → Type 0} → Has L P → Has (list L) (Every P)
has_list {A} {L} {P} one = record { each = λ items vs h s t e. list_every L P one items vs h s t e }

placed_each : {A : Type 0} (L : Grammar A) (P : A → Type 0) → Has L P → (items : List Item) (v : ℕ × A) → placed L items v
    → (s t : State) → IsRun (run items s) t → P v.1
placed_each L P one [] v h s t e = absurd h
placed_each L P one (i ∷ items) v h s t e = one.each (i ∷ items) v.1 h.0 s t e

pub has_placed : {A : Type 0} {L : Grammar A} {P : A → Type 0} → Has L P → Has (placed L) (λ v. P v.1)
has_placed {A} {L} {P} one = record { each = λ items v h s t e. placed_each L P one items v h s t e }

pub has_closing : {A : Type 0} (P : A → Type 0) (x : A) → P x → Has (closing x) P
unfolding closing
has_closing P x holds = has_behind (λ t. has_nothing P x holds)

-- ---- what a run counts of operators

-- So much is within what was counted before and the operators of the run. Each of these is counted, and refused where
-- there are enough already.
record Spent (n k : ℕ) (s t : State) : Type 0 where
  pub covers : n + s.operators ≤ k + t.operators
  pub more : s.operators ≤ t.operators
  pub within : (most : ℕ) → s.operators ≤ most → CHAIN ≤ most → t.operators ≤ most

still : (n k : ℕ) (s t : State) → n ≤ k → IsRun (Ok s) t → Spent n k s t
still n k s t few e =
    let same : s ≡ t = cc e in
    subst (Spent n k s) same (record { covers = omega (arith, few); more = omega arith; within = λ most a b. a })

counted_one : (s t : State) → s.operators < CHAIN → IsRun (Ok (record s { operators = s.operators + 1 })) t → Spent 1 0 s t
counted_one s t few e =
    let u : State = record s { operators = s.operators + 1 } in
    let same : u ≡ t = cc e in
    subst (Spent 1 0 s) same (record { covers = omega arith; more = omega arith; within = λ most a b. omega (arith, few, b) })

unless : (b : Bool) (which : Breach) (x : Result State Breach) (t : State) → IsRun (if b then Err which else x) t → IsRun x t
unless true which x t e = absurd (cc e)
unless false which x t e = e

where_so : (b : Bool) (which : Breach) (x : Result State Breach) (t : State) → IsRun (if b then x else Err which) t → (b ≡ true) × IsRun x t
where_so true which x t e = (refl, e)
where_so false which x t e = absurd (cc e)

alone : (r : Result State Breach) (t : State) → IsRun (go_on r (run [])) t → IsRun r t
alone (Ok u) t e = e
alone (Err b) t e = absurd (cc e)

acts_so : (m : Mark) (s t : State) → IsRun (step m s) t → IsRun (acts m s) t
unfolding step
acts_so m s t e = by (acts m s) refl e where
  by : (r : Result State Breach) → acts m s ≡ r → IsRun (checked s r) t → IsRun (acts m s) t
  by (Ok u) is e = is ∙ unless (nat_lt CHAIN s.alternatives) broken.Chain (Ok u) t e
  by (Err b) is e = absurd (cc e)

below : (n : ℕ) → nat_lt n CHAIN ≡ true → n < CHAIN
below n e = search (arith, e)

-- ---- expressions

-- where so much was counted before, each value is within what was counted with the operators of its sentence
record Costs {A : Type 0} (G : Grammar A) (k : ℕ) (f : A → ℕ) : Type 0 where
  pub each : (items : List Item) (v : A) → G items v → (s t : State) → IsRun (run items s) t → Spent (f v) k s t

costs_marked : (w : Form) (m : PlacedToken → Mark) (c : ℕ) → ((v : PlacedToken) (s t : State) → IsRun (acts (m v) s) t → Spent c 0 s t)
    → Costs (marked w m) 0 (λ _. c)
costs_marked w m c acted = record {
  each = λ items v h s t e.
      let ran : IsRun (go_on (step (m v) s) (run [])) t = subst (λ (is : List Item). IsRun (run is s) t) h.alone e in
      acted v s t (acts_so (m v) s t (alone (step (m v) s) t ran));
}

costs_one : (w : Form) → Costs (one w) 0 (λ _. 0)
costs_one w = costs_marked w (λ _. plain) 0 (λ v s t e. still 0 0 s t (omega arith) e)

costs_operator : (w : Form) → Costs (marked w (λ _. operator)) 0 (λ _. 1)
costs_operator w = costs_marked w (λ _. operator) 1 (λ v s t e.
    let r = where_so (nat_lt s.operators CHAIN) broken.Chain (Ok (record s { operators = s.operators + 1 })) t e in
    counted_one s t (below s.operators r.0) r.1)

costs_opens : (w : Form) (room : ℕ) → Costs (marked w (λ _. opens room)) 0 (λ _. 0)
costs_opens w room = costs_marked w (λ _. opens room) 0 (λ v s t e. still 0 0 s t (omega arith) (unless (room == 0) broken.Depth (Ok s) t e))

costs_spells : (w : Form) (wanted : List ℕ) → Costs (marked w (λ u. spells wanted (name_of u))) 0 (λ _. 0)
costs_spells w wanted =
    costs_marked w (λ u. spells wanted (name_of u)) 0 (λ v s t e.
    still 0 0 s t (omega arith) (where_so (bytes_eq wanted (name_of v)) broken.Spelling (Ok s) t e).1)

then_spent : (a b k : ℕ) (s u t : State) → Spent a k s u → Spent b (k + u.operators - s.operators) u t → Spent b k s t
then_spent a b k s u t first second =
    let more = first.more in
    let further = second.more in
    let covers = second.covers in
    record { covers = omega (arith, more, covers); more = omega (arith, more, further); within = λ most x y. second.within most (first.within most x y) y }

behind_spent : (a b k : ℕ) (s u t : State) → Spent a 0 s u → Spent b k u t → Spent b k s t
behind_spent a b k s u t first second =
    let more = first.more in
    let further = second.more in
    let covers = second.covers in
    record { covers = omega (arith, more, covers); more = omega (arith, more, further); within = λ most x y. second.within most (first.within most x y) y }

both_spent : (a b : ℕ) (s u t : State) → Spent a 0 s u → Spent b 0 u t → Spent (a + b) 0 s t
both_spent a b s u t first second =
    let more = first.more in
    let further = second.more in
    let one = first.covers in
    let two = second.covers in
    record { covers = omega (arith, one, two); more = omega (arith, more, further); within = λ most x y. second.within most (first.within most x y) y }

within_count : (a k : ℕ) (s u : State) → Spent a k s u → a ≤ k + u.operators - s.operators
within_count a k s u spent =
    let more = spent.more in
    let covers = spent.covers in
    omega (arith, more, covers)

more_spent : (c n k : ℕ) (s t : State) → c ≤ k → Spent n 0 s t → Spent (c + n) k s t
more_spent c n k s t few spent = let covers = spent.covers in record { covers = omega (arith, few, covers); more = spent.more; within = spent.within }

costs_then : {A C : Type 0} {L : Grammar A} {M : A → Grammar C} {k : ℕ} {f : A → ℕ} {g : C → ℕ}
    → Costs L k f → ((x : A) (n : ℕ) → f x ≤ n → Costs (M x) n g) → Costs (Then L M) k g
costs_then {A} {C} {L} {M} {k} {f} {g} one two = record {
  each = λ items v h s t e.
      let cut = split_at items h.front h.back s t h.parts e in
      let first = one.each h.front h.value h.before s cut.mid cut.before in
      let n = k + cut.mid.operators - s.operators in
      let second = (two h.value n (within_count (f h.value) k s cut.mid first)).each h.back v h.behind cut.mid t cut.behind in
      then_spent (f h.value) (g v) k s cut.mid t first second;
}

-- nothing is asked of the first part
costs_behind : {A C : Type 0} {L : Grammar A} {M : A → Grammar C} {k : ℕ} {f : A → ℕ} {g : C → ℕ}
    → Costs L 0 f → ((x : A) → Costs (M x) k g) → Costs (Then L M) k g
costs_behind {A} {C} {L} {M} {k} {f} {g} one two = record {
  each = λ items v h s t e.
      let cut = split_at items h.front h.back s t h.parts e in
      let first = one.each h.front h.value h.before s cut.mid cut.before in
      let second = (two h.value).each h.back v h.behind cut.mid t cut.behind in
      behind_spent (f h.value) (g v) k s cut.mid t first second;
}

costs_or : {A : Type 0} {L M : Grammar A} {k : ℕ} {f : A → ℕ} → Costs L k f → Costs M k f → Costs (L or M) k f
costs_or {A} {L} {M} {k} {f} one two = record { each = λ items v h s t e. elim h [ inl a ↦ one.each items v a s t e | inr b ↦ two.each items v b s t e ] }

costs_nothing : {A : Type 0} (f : A → ℕ) (k : ℕ) (x : A) → f x ≤ k → Costs (nothing x) k f
costs_nothing {A} f k x few = record {
  each = λ items v h s t e. subst (λ (y : A). Spent (f y) k s t) (sym h.1) (still (f x) k s t few (no_items items s t h.0 e));
}

costs_none : {A : Type 0} (f : A → ℕ) → Costs (none {A = A}) 0 f
costs_none {A} f = record { each = λ items v h s t e. absurd h }

-- with what was counted before
costs_more : {A : Type 0} {L : Grammar A} {f : A → ℕ} (c k : ℕ) → Costs L 0 f → c ≤ k → Costs L k (λ v. c + f v)
costs_more {A} {L} {f} c k one few = record { each = λ items v h s t e. more_spent c (f v) k s t few (one.each items v h s t e) }

abbrev total : {A : Type 0} → (A → ℕ) → List A → ℕ
total f [] = 0
total f (x ∷ xs) = f x + total f xs

list_costs : {A : Type 0} (L : Grammar A) (f : A → ℕ) → Costs L 0 f → (items : List Item) (vs : List A) → list L items vs
    → (s t : State) → IsRun (run items s) t → Spent (total f vs) 0 s t
list_costs L f one items [] h s t e = still 0 0 s t (omega arith) (no_items items s t h e)
list_costs L f one items (v ∷ vs) h s t e =
    let cut = split_at items h.0 h.1 s t h.2 e in
    let first = one.each h.0 v h.3 s cut.mid cut.before in
    let rest = list_costs L f one h.1 vs h.4 cut.mid t cut.behind in
    both_spent (f v) (total f vs) s cut.mid t first rest

costs_list : {A : Type 0} {L : Grammar A} {f : A → ℕ} → Costs L 0 f → Costs (list L) 0 (total f)
costs_list {A} {L} {f} one = record { each = λ items vs h s t e. list_costs L f one items vs h s t e }

-- an operand with the operator before it
abbrev operand_operators : ℕ × Tree → ℕ
operand_operators p = 1 + operators p.1

folded_operators : (op : Operator) (left : Tree) (others : List (ℕ × Tree))
    → operators (folded op left others) ≡ operators left + total operand_operators others
folded_operators op left [] = omega arith
folded_operators op left (e ∷ others) = let rest = folded_operators op (binary op e.0 left e.1) others in omega (arith, rest)

folded_few : (op : Operator) (left : Tree) (others : List (ℕ × Tree)) (n : ℕ)
    → operators left + total operand_operators others ≤ n → operators (folded op left others) ≤ n
folded_few op left others n few = let all = folded_operators op left others in omega (arith, few, all)

costs_number : Costs number 0 (λ _. 0)
unfolding number
costs_number = costs_behind (costs_one _) (λ t. costs_nothing _ 0 _ (omega arith))

costs_closing : {A : Type 0} (f : A → ℕ) (k : ℕ) (x : A) → f x ≤ k → Costs (closing x) k f
unfolding closing
costs_closing f k x few = costs_behind (costs_one _) (λ t. costs_nothing f k x few)

costs_direction : Costs direction 0 (λ _. 0)
unfolding direction
costs_direction =
    costs_or (costs_behind (costs_one _) (λ t. costs_nothing (λ (b : Bool). 0) 0 true (omega arith)))
    (costs_behind (costs_one _) (λ t. costs_nothing (λ (b : Bool). 0) 0 false (omega arith)))

costs_slice : (x : List ℕ) (line paren left : ℕ) → Costs (slice_of x line paren left) 0 operators
unfolding slice_of
costs_slice x line paren left =
    costs_behind costs_direction (λ falls. costs_behind costs_number (λ right.
    costs_closing operators 0 (slice x line (record { left = left; falls = falls; right = right; line = paren })) (omega arith)))

costs_places : (x : List ℕ) (line paren : ℕ) → Costs (places x line paren) 0 operators
unfolding places
costs_places x line paren =
    costs_behind costs_number (λ left. costs_or (costs_closing operators 0 (index x line left) (omega arith)) (costs_slice x line paren left))

costs_suffix : (room : ℕ) (x : List ℕ) (line : ℕ) → Costs (suffix room x line) 0 operators
unfolding suffix
costs_suffix room x line =
    costs_or (costs_behind (costs_opens _ room) (λ t. costs_places x line t.line))
    (costs_or (costs_behind (costs_one _) (λ t. costs_behind (costs_spells _ _) (λ u. costs_nothing operators 0 (stable x line) (omega arith))))
    (costs_nothing operators 0 (name x line) (omega arith)))

costs_named : (room : ℕ) → Costs (named room) 0 operators
unfolding named
costs_named room = costs_behind (costs_one _) (λ t. costs_suffix room (name_of t) t.line)

costs_bit : Costs bit_literal 0 operators
unfolding bit_literal
costs_bit = costs_behind (costs_one _) (λ t. costs_nothing operators 0 (bit (bit_of t) t.line) (omega arith))

costs_text : Costs text_literal 0 operators
unfolding text_literal
costs_text = costs_behind (costs_one _) (λ t. costs_nothing operators 0 (literal radix.Binary (digits_of t) t.line) (omega arith))

costs_string : Costs string_literal 0 operators
unfolding string_literal
costs_string = costs_behind (costs_one _) (λ t. costs_nothing operators 0 (literal (radix_of t) (digits_of t) t.line) (omega arith))

costs_parenthesized : (room : ℕ) (inner : Grammar Tree) → Costs inner 0 operators → Costs (parenthesized room inner) 0 operators
unfolding parenthesized
costs_parenthesized room inner deep = costs_behind (costs_opens _ room) (λ t. costs_then deep (λ e n few. costs_closing operators n e few))

costs_primary : (room : ℕ) (inner : Grammar Tree) → Costs inner 0 operators → Costs (primary room inner) 0 operators
unfolding primary
costs_primary room inner deep =
    costs_or (costs_parenthesized room inner deep) (costs_or costs_bit (costs_or costs_text (costs_or costs_string (costs_named room))))

costs_factor : (room : ℕ) (inner : Grammar Tree) → Costs inner 0 operators → Costs (factor room inner) 0 operators
unfolding factor
costs_factor room inner deep =
    costs_or (costs_then (costs_operator _) (λ t n few. costs_then (costs_more 1 n (costs_primary room inner deep) few) (λ e k all.
    costs_nothing operators k (inverse t.line e) all)))
    (costs_primary room inner deep)

costs_joined : (f : Form) (operand : Grammar Tree) → Costs operand 0 operators → Costs (joined f operand) 0 operand_operators
unfolding joined
costs_joined f operand each =
    costs_then (costs_operator f) (λ t n few. costs_then (costs_more 1 n each few) (λ e k all. costs_nothing operand_operators k (t.line, e) all))

costs_cat : (room : ℕ) (inner : Grammar Tree) → Costs inner 0 operators → Costs (cat room inner) 0 operators
unfolding cat
costs_cat room inner deep =
    costs_then (costs_factor room inner deep) (λ left n few.
    costs_then (costs_more (operators left) n (costs_list (costs_joined _ (factor room inner) (costs_factor room inner deep))) few) (λ others k all.
    costs_nothing operators k (folded operation.Join left others) (folded_few operation.Join left others k all)))

costs_pair : (f : Form) (op : Operator) (operand : Grammar Tree) (left : Tree) (n : ℕ)
    → Costs operand 0 operators → operators left ≤ n → Costs (pair f op operand left) n operators
unfolding pair
costs_pair f op operand left n each few =
    costs_then (costs_more (operators left) n (costs_joined f operand each) few) (λ right k all.
    costs_nothing operators k (binary op right.0 left right.1) (omega (arith, all)))

costs_chain : (f : Form) (op : Operator) (operand : Grammar Tree) (left : Tree) (n : ℕ)
    → Costs operand 0 operators → operators left ≤ n → Costs (chain f op operand left) n operators
unfolding chain
costs_chain f op operand left n each few =
    costs_then (costs_more (operators left) n (costs_joined f operand each) few) (λ first k some.
    costs_then (costs_more (operators left + operand_operators first) k (costs_list (costs_joined f operand each)) some) (λ others m all.
    costs_nothing operators m (folded op left (first ∷ others)) (folded_few op left (first ∷ others) m (omega (arith, all)))))

costs_relation : (room : ℕ) (inner : Grammar Tree) → Costs inner 0 operators → Costs (relation room inner) 0 operators
unfolding relation
costs_relation room inner deep =
    let operand = costs_cat room inner deep in
    costs_then operand (λ left n few.
    costs_or (costs_pair _ operation.Equal (cat room inner) left n operand few)
    (costs_or (costs_pair _ operation.Unequal (cat room inner) left n operand few)
    (costs_nothing operators n left few)))

costs_logical : (operand : Grammar Tree) (left : Tree) (n : ℕ) → Costs operand 0 operators → operators left ≤ n → Costs (logical operand left) n operators
unfolding logical
costs_logical operand left n each few =
    costs_or (costs_chain _ operation.And operand left n each few)
    (costs_or (costs_chain _ operation.Or operand left n each few)
    (costs_or (costs_chain _ operation.Xor operand left n each few)
    (costs_or (costs_chain _ operation.Xnor operand left n each few)
    (costs_or (costs_pair _ operation.Nand operand left n each few)
    (costs_or (costs_pair _ operation.Nor operand left n each few)
    (costs_nothing operators n left few))))))

costs_over : (room : ℕ) (inner : Grammar Tree) → Costs inner 0 operators → Costs (expression_over room inner) 0 operators
unfolding expression_over
costs_over room inner deep =
    let operand = costs_relation room inner deep in
    costs_then operand (λ left n few. costs_logical (relation room inner) left n operand few)

costs_nested : (deeper room : ℕ) → Costs (nested deeper room) 0 operators
unfolding nested
costs_nested zero room = costs_over room none (costs_none operators)
costs_nested (suc deeper) room = costs_over room (nested deeper (less room)) (costs_nested deeper (less room))

-- Those of an expression are counted from what was counted before, and never beyond both that and the limit.
spent_short : (n : ℕ) (s t : State) → Spent n 0 s t → n ≤ CHAIN
spent_short n s t spent =
    let covers = spent.covers in
    let most = spent.within (s.operators + CHAIN) (omega arith) (omega arith) in
    omega (arith, covers, most)

pub short_expression : (room : ℕ) → Has (expression room) IsShort
short_expression room = record { each = λ items v h s t e. spent_short (operators v) s t ((costs_nested h.level room).each items v h.sentence s t e) }

-- ---- statements

abbrev ShortGuarded : GuardedTree → Type 0
ShortGuarded g = IsShort g.value × IsShort g.condition

abbrev ShortFurther : FurtherTree → Type 0
ShortFurther f = IsShort f.value × IsShort f.condition

abbrev pub ShortChoiceTree : ChoiceTree → Type 0
ShortChoiceTree c = Every ShortGuarded c.alternatives × IsShort c.otherwise

abbrev ShortAssignmentTree : AssignmentTree → Type 0
ShortAssignmentTree a = ShortChoiceTree a.choice

abbrev pub ShortStatementTree : StatementTree → Type 0
ShortStatementTree (asserted e) = IsShort e
ShortStatementTree (assigned a) = ShortAssignmentTree a
ShortStatementTree (blocked b) = IsShort b.guard × Every ShortAssignmentTree b.assignments

abbrev ShortSource : SourceTree → Type 0
ShortSource s = Every ShortStatementTree s.statements

-- each value stands with the condition behind it, and the last with none
short_alternatives_from : (v : Tree) (others : List FurtherTree) → IsShort v → Every ShortFurther others → Every ShortGuarded (alternatives_from v others)
short_alternatives_from v [] first all = tt
short_alternatives_from v (f ∷ others) first all = ((first, all.0.1), short_alternatives_from f.value others all.0.0 all.1)

short_last : (v : Tree) (others : List FurtherTree) → IsShort v → Every ShortFurther others → IsShort (last_value v others)
short_last v [] first all = first
short_last v (f ∷ others) first all = short_last f.value others all.0.0 all.1

short_further : (room : ℕ) → Has (further room) ShortFurther
unfolding further
short_further room =
    has_behind (λ t. has_then (has_placed (short_expression room)) (λ c condition. has_behind (λ u. has_then (short_expression room) (λ v value.
    has_nothing ShortFurther (record { condition = c.1; line = c.0; value = v }) (value, condition)))))

pub short_choice : (room : ℕ) → Has (choice room) ShortChoiceTree
unfolding choice
short_choice room =
    has_then (short_expression room) (λ v first. has_then (has_list (short_further room)) (λ others all.
    has_nothing ShortChoiceTree (choice_of v others) (short_alternatives_from v others first all, short_last v others first all)))

pub short_value : (room : ℕ) → Has (value room) ShortChoiceTree
unfolding value
short_value room = has_then (short_choice room) (λ c each. has_behind (λ d. has_behind (λ t. has_nothing ShortChoiceTree c each)))

pub short_assertion : (room : ℕ) → Has (assertion room) ShortStatementTree
unfolding assertion
short_assertion room = has_behind (λ t. has_then (short_expression room) (λ e few. has_behind (λ r. has_nothing ShortStatementTree (asserted e) few)))

short_assignment : (room : ℕ) (t : PlacedToken) → Has (assignment room t) ShortStatementTree
unfolding assignment
short_assignment room t =
    has_behind (λ x. has_behind (λ u. has_then (short_value room) (λ c each.
    has_nothing ShortStatementTree (assigned (record { target = x; choice = c })) each)))

short_guarded_assignment : (room : ℕ) → Has (guarded_assignment room) ShortAssignmentTree
unfolding guarded_assignment
short_guarded_assignment room =
    has_behind (λ x. has_behind (λ t. has_behind (λ u. has_then (short_value room) (λ c each.
    has_nothing ShortAssignmentTree (record { target = x; choice = c }) each))))

short_guarded_assignments : (room : ℕ) → Has (guarded_assignments room) (Every ShortAssignmentTree)
unfolding guarded_assignments
short_guarded_assignments room =
    has_behind (λ t. has_then (has_list (short_guarded_assignment room)) (λ all each. has_behind (λ u. has_nothing (Every ShortAssignmentTree) all each)))

short_guard : (room : ℕ) → Has (guard room) (λ g. IsShort g.1)
unfolding guard
short_guard room =
    has_behind (λ t. has_behind (λ u. has_then (has_placed (short_expression (room - 1))) (λ e few. has_closing (λ (g : ℕ × Tree). IsShort g.1) e few)))

short_block : (room : ℕ) (label : List ℕ) → Has (block room label) ShortStatementTree
unfolding block
short_block room label =
    has_then (short_guard room) (λ g few. has_then (short_guarded_assignments room) (λ all each. has_behind (λ t. has_behind (λ u.
    has_nothing ShortStatementTree (blocked (record { guard = g.1; line = g.0; assignments = all })) (few, each)))))

short_labelled : (room : ℕ) (label : List ℕ) → Has (labelled room label) ShortStatementTree
unfolding labelled
short_labelled room label =
    has_behind (λ t. has_or (short_assertion room) (has_or (short_block room label) (has_behind (λ u. short_assignment room u))))

short_statement : (room : ℕ) → Has (statement room) ShortStatementTree
unfolding statement
short_statement room = has_or (short_assertion room) (has_behind (λ t. has_or (short_labelled room (name_of t)) (short_assignment room t)))

short_statements : (room : ℕ) → Has (statements room) (Every ShortStatementTree)
unfolding statements
short_statements room =
    has_behind (λ t. has_then (has_list (short_statement room)) (λ all each. has_behind (λ u. has_nothing (Every ShortStatementTree) all each)))

short_architecture : (room : ℕ) (e : Entity) → Has (architecture room e) ShortSource
unfolding architecture
short_architecture room e =
    has_behind (λ name. has_behind (λ d. has_then (short_statements room) (λ all each. has_behind (λ u.
    has_nothing ShortSource (record { entity = e; declarations = d; statements = all }) each))))

short_source : (room : ℕ) → Has (source room) ShortSource
unfolding source
short_source room = has_behind (λ e. short_architecture room e)

-- ---- wherever the expressions lie in memory

short_alternatives : (gs : List Guarded) → Every ShortGuarded (map guarded_view gs) → ShortAlternatives gs
short_alternatives [] h = tt
short_alternatives (g ∷ gs) h = (h.0, short_alternatives gs h.1)

short_choice_of : (c : Choice) → ShortChoiceTree (choice_view c) → ShortChoice c
short_choice_of c h = (short_alternatives c.alternatives h.0, h.1)

short_assignments : (all : List Assignment) → Every ShortAssignmentTree (map assignment_view all) → ShortAssignments all
short_assignments [] h = tt
short_assignments (a ∷ all) h = (short_choice_of a.choice h.0, short_assignments all h.1)

short_one : (s : Statement) → ShortStatementTree (statement_view s) → ShortStatement s
short_one (kind.Assert e) h = h
short_one (kind.Assign a) h = short_choice_of a.choice h
short_one (kind.Block b) h = (h.0, short_assignments b.assignments h.1)

short_all : (ss : List Statement) → Every ShortStatementTree (map statement_view ss) → ShortStatements ss
short_all [] h = tt
short_all (s ∷ ss) h = (short_one s h.0, short_all ss h.1)

pub short_design : (tokens : Tokens) (design : DesignFile) → IsSource tokens (source_view design) → HasShortExpressions design
short_design tokens design is =
    let a = is.read.0 in
    short_all design.statements ((short_source DEPTH).each a.front (source_view design) a.sentence uncounted is.end.state a.clean)
