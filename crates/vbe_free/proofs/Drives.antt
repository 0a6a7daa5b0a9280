-- What a source with free bits drives, with each of them 0 and with each 1.
use Rattle.std.proofs.Common.{◌≡◌, ◌⊎◌, inl, inr, ℕ, Bool, true, false, cond, ◌&&◌, not, List, [], ◌∷◌, ◌++◌, map, Option, None, Some, refl, sym, ap, ◌∙◌, subst}
use Rattle.vlsi_base.specs.declared.name.Name.{Name}
use Rattle.vlsi_base.specs.Tree.{Tree, view}
use Rattle.source_checks.specs.declared.symbol_table.Symbol.{Symbol}
use Rattle.source_checks.specs.declared.statement.Target.{Target}
use Rattle.source_checks.specs.declared.statement.Assignment.{Assignment}
use Rattle.source_checks.specs.declared.statement.Statement.{Statement}
use Rattle.source_checks.specs.declared.statement.Statement.TheVariants as statement
use Rattle.source_checks.specs.Symbols.{find}
use Rattle.source_checks.specs.Places.{in_assignments, in_statements}
use Rattle.source_checks.specs.Formula.{Formula}
use Rattle.source_checks.specs.Drivers.{is_among, target_names}
use Rattle.source_checks.specs.Clock.{clock_of, statement_clocks, enable_of}
use Rattle.source_checks.specs.Elaboration.{Definition, Storage, defined, stored, assignment_definitions, statement_definitions, statement_storage}
use Rattle.vbe_text.specs.Source.{AssignmentTree, BlockTree, StatementTree, asserted, assigned, blocked, choice_view, assignment_view, block_view, statement_view}
use Rattle.vbe_free.specs.Filled.{filled_choice, filled_assignment, filled_statement, choice_free, block_free, is_output, is_one_unread, may_be_free, misplaced, each_misplaced}
use Rattle.vbe_free.proofs.Freed.{tree_bits, bits_as, AreFreedFormulas, HeadsAreFreed, choice_heads, choice_alike}

-- ---- statements as trees

abbrev pub tree_defined : List Symbol → AssignmentTree → List Definition
tree_defined known a = defined (target_names known a.target) (tree_bits known a.choice)

abbrev pub tree_definitions : List Symbol → StatementTree → List Definition
tree_definitions known (asserted e) = []
tree_definitions known (assigned a) = tree_defined known a
tree_definitions known (blocked s) = []

abbrev pub tree_each : List Symbol → List AssignmentTree → List Definition
tree_each known [] = []
tree_each known (a ∷ rest) = tree_defined known a ++ tree_each known rest

abbrev pub tree_storage : List Symbol → Option (List ℕ) → StatementTree → List Storage
tree_storage known ck (asserted e) = []
tree_storage known ck (assigned a) = []
tree_storage known None (blocked s) = []
tree_storage known (Some text) (blocked s) = stored (enable_of known text s.guard) (tree_each known s.assignments)

defined_as : (known : List Symbol) (a : Assignment) → assignment_definitions known a ≡ tree_defined known (assignment_view a)
defined_as known a = ap (defined (target_names known a.target)) (bits_as known a.choice)

each_as : (known : List Symbol) (xs : List Assignment) → in_assignments (assignment_definitions known) xs ≡ tree_each known (map assignment_view xs)
each_as known [] = refl
each_as known (a ∷ rest) = λ j. defined_as known a j ++ each_as known rest j

definitions_as : (known : List Symbol) (s : Statement) → statement_definitions known s ≡ tree_definitions known (statement_view s)
definitions_as known (statement.Assert e) = refl
definitions_as known (statement.Assign a) = defined_as known a
definitions_as known (statement.Block b) = refl

storage_as : (known : List Symbol) (ck : Option (List ℕ)) (s : Statement) → statement_storage known ck s ≡ tree_storage known ck (statement_view s)
storage_as known ck (statement.Assert e) = refl
storage_as known ck (statement.Assign a) = refl
storage_as known None (statement.Block b) = refl
storage_as known (Some text) (statement.Block b) = ap (stored (enable_of known text (view b.guard))) (each_as known b.assignments)

abbrev pub in_trees : {A : Type 0} → (StatementTree → List A) → List StatementTree → List A
in_trees look [] = []
in_trees look (s ∷ rest) = look s ++ in_trees look rest

pub trees_as : {A : Type 0} (look : Statement → List A) (tree : StatementTree → List A) → ((s : Statement) → look s ≡ tree (statement_view s))
    → (ss : List Statement) → in_statements look ss ≡ in_trees tree (map statement_view ss)
trees_as look tree same [] = refl
trees_as look tree same (s ∷ rest) = λ j. same s j ++ trees_as look tree same rest j

pub all_definitions : (known : List Symbol) (ss : List Statement)
    → in_statements (statement_definitions known) ss ≡ in_trees (tree_definitions known) (map statement_view ss)
all_definitions known ss = trees_as (statement_definitions known) (tree_definitions known) (definitions_as known) ss

pub all_storage : (known : List Symbol) (ck : Option (List ℕ)) (ss : List Statement)
    → in_statements (statement_storage known ck) ss ≡ in_trees (tree_storage known ck) (map statement_view ss)
all_storage known ck ss = trees_as (statement_storage known ck) (tree_storage known ck) (storage_as known ck) ss

-- ---- definitions in pairs

-- the name is that of a single output bit that none of these is
pub record IsFreeName (known : List Symbol) (read : List Name) (n : Name) : Type 0 where
  pub text : List ℕ
  pub target : Target
  pub output : is_output (find known target.name) ≡ true
  pub bits : target_names known target ≡ n ∷ []
  pub unread : is_among read n ≡ false

-- two definitions of one name: they say the same, or the name may be left free
abbrev pub IsPair : List Symbol → List Name → Definition → Definition → Type 0
IsPair known read d e = (e.name ≡ d.name) × ((e.formula ≡ d.formula) ⊎ (AreFreedFormulas d.formula e.formula × IsFreeName known read d.name))

abbrev pub ArePairs : List Symbol → List Name → List Definition → List Definition → Type 0
ArePairs known read [] [] = Unit {0}
ArePairs known read [] (e ∷ es) = ⊥
ArePairs known read (d ∷ ds) [] = ⊥
ArePairs known read (d ∷ ds) (e ∷ es) = IsPair known read d e × ArePairs known read ds es

pairs_itself : (known : List Symbol) (read : List Name) (ds : List Definition) → ArePairs known read ds ds
pairs_itself known read [] = tt
pairs_itself known read (d ∷ ds) = ((refl, inl refl), pairs_itself known read ds)

pairs_append : (known : List Symbol) (read : List Name) (ds es us vs : List Definition) → ArePairs known read ds es → ArePairs known read us vs
    → ArePairs known read (ds ++ us) (es ++ vs)
pairs_append known read [] [] us vs h g = g
pairs_append known read [] (e ∷ es) us vs h g = absurd h
pairs_append known read (d ∷ ds) [] us vs h g = absurd h
pairs_append known read (d ∷ ds) (e ∷ es) us vs h g = (h.0, pairs_append known read ds es us vs h.1 g)

one_pair : (known : List Symbol) (read : List Name) (n : Name) (xs ys : List Formula) → IsFreeName known read n → HeadsAreFreed xs ys
    → ArePairs known read (defined (n ∷ []) xs) (defined (n ∷ []) ys)
one_pair known read n [] [] free h = tt
one_pair known read n [] (y ∷ ys) free h = absurd h
one_pair known read n (x ∷ xs) [] free h = absurd h
one_pair known read n (x ∷ xs) (y ∷ ys) free h = ((refl, inr (h, free)), tt)

both_true : (a b : Bool) → (a && b) ≡ true → (a ≡ true) × (b ≡ true)
both_true true true e = (refl, refl)
both_true true false e = absurd cc
both_true false b e = absurd cc

not_true : (b : Bool) → not b ≡ true → b ≡ false
not_true true e = absurd cc
not_true false e = refl

-- a target of one bit that isn't read
one_unread : (read names : List Name) → is_one_unread read names ≡ true → (n : Name) × (names ≡ n ∷ []) × (is_among read n ≡ false)
one_unread read [] e = absurd cc
one_unread read (n ∷ []) e = (n, refl, not_true (is_among read n) e)
one_unread read (n ∷ m ∷ names) e = absurd cc

free_pair : (known : List Symbol) (read : List Name) (t : Target) (xs ys : List Formula) → may_be_free known read t ≡ true → HeadsAreFreed xs ys
    → ArePairs known read (defined (target_names known t) xs) (defined (target_names known t) ys)
free_pair known read t xs ys may h =
    let both = both_true (is_output (find known t.name)) (is_one_unread read (target_names known t)) may in
    let one = one_unread read (target_names known t) both.1 in
    subst (λ (names : List Name). ArePairs known read (defined names xs) (defined names ys)) (sym one.1)
    (one_pair known read one.0 xs ys (record { text = t.name; target = t; output = both.0; bits = one.1; unread = one.2 }) h)

assigned_pair : (known : List Symbol) (read : List Name) (a : AssignmentTree) → cond (may_be_free known read a.target) [] (choice_free a.choice) ≡ []
    → ArePairs known read (tree_defined known (filled_assignment false a)) (tree_defined known (filled_assignment true a))
assigned_pair known read a h = by (may_be_free known read a.target) refl h where
  by : (b : Bool) → may_be_free known read a.target ≡ b → cond b [] (choice_free a.choice) ≡ []
      → ArePairs known read (tree_defined known (filled_assignment false a)) (tree_defined known (filled_assignment true a))
  by true is h =
      free_pair known read a.target (tree_bits known (filled_choice false a.choice)) (tree_bits known (filled_choice true a.choice)) is (choice_heads known a.choice)
  by false is h =
      subst (λ c. ArePairs known read (defined (target_names known a.target) (tree_bits known (filled_choice false a.choice))) (defined (target_names known a.target) (tree_bits known c)))
      (choice_alike a.choice h) (pairs_itself known read (defined (target_names known a.target) (tree_bits known (filled_choice false a.choice))))

statement_pair : (known : List Symbol) (read : List Name) (s : StatementTree) → misplaced known read s ≡ []
    → ArePairs known read (tree_definitions known (filled_statement false s)) (tree_definitions known (filled_statement true s))
statement_pair known read (asserted e) h = tt
statement_pair known read (assigned a) h = assigned_pair known read a h
statement_pair known read (blocked s) h = tt

none_left : {A : Type 0} (xs ys : List A) → xs ++ ys ≡ [] → xs ≡ []
none_left [] ys e = refl
none_left (x ∷ xs) ys e = absurd cc

none_right : {A : Type 0} (xs ys : List A) → xs ++ ys ≡ [] → ys ≡ []
none_right [] ys e = e
none_right (x ∷ xs) ys e = absurd cc

pub tree_pairs : (known : List Symbol) (read : List Name) (ss : List StatementTree) → each_misplaced known read ss ≡ []
    → ArePairs known read (in_trees (tree_definitions known) (map (filled_statement false) ss)) (in_trees (tree_definitions known) (map (filled_statement true) ss))
tree_pairs known read [] h = tt
tree_pairs known read (s ∷ ss) h =
    pairs_append known read (tree_definitions known (filled_statement false s)) (tree_definitions known (filled_statement true s))
    (in_trees (tree_definitions known) (map (filled_statement false) ss)) (in_trees (tree_definitions known) (map (filled_statement true) ss))
    (statement_pair known read s (none_left (misplaced known read s) (each_misplaced known read ss) h))
    (tree_pairs known read ss (none_right (misplaced known read s) (each_misplaced known read ss) h))

-- ---- storage

block_alike : (xs : List AssignmentTree) → block_free xs ≡ [] → map (filled_assignment false) xs ≡ map (filled_assignment true) xs
block_alike [] h = refl
block_alike (a ∷ xs) h =
    let one = choice_alike a.choice (none_left (choice_free a.choice) (block_free xs) h) in
    let rest = block_alike xs (none_right (choice_free a.choice) (block_free xs) h) in
    λ j. record a { choice = one j } ∷ rest j

storage_pair : (known : List Symbol) (read : List Name) (ck : Option (List ℕ)) (s : StatementTree) → misplaced known read s ≡ []
    → tree_storage known ck (filled_statement false s) ≡ tree_storage known ck (filled_statement true s)
storage_pair known read ck (asserted e) h = refl
storage_pair known read ck (assigned a) h = refl
storage_pair known read None (blocked s) h = refl
storage_pair known read (Some text) (blocked s) h = ap (λ xs. stored (enable_of known text s.guard) (tree_each known xs)) (block_alike s.assignments h)

pub tree_stores : (known : List Symbol) (read : List Name) (ck : Option (List ℕ)) (ss : List StatementTree) → each_misplaced known read ss ≡ []
    → in_trees (tree_storage known ck) (map (filled_statement false) ss) ≡ in_trees (tree_storage known ck) (map (filled_statement true) ss)
tree_stores known read ck [] h = refl
tree_stores known read ck (s ∷ ss) h =
    let one = storage_pair known read ck s (none_left (misplaced known read s) (each_misplaced known read ss) h) in
    let rest = tree_stores known read ck ss (none_right (misplaced known read s) (each_misplaced known read ss) h) in
    λ j. one j ++ rest j

-- ---- the clock

abbrev pub tree_clocks : List Symbol → StatementTree → List (List ℕ)
tree_clocks known (asserted e) = []
tree_clocks known (assigned a) = []
tree_clocks known (blocked s) = add (clock_of known s.guard) where
  add : Option (List ℕ) → List (List ℕ)
  add None = []
  add (Some text) = text ∷ []

clock_as : (known : List Symbol) (s : Statement) → statement_clocks known s ≡ tree_clocks known (statement_view s)
clock_as known (statement.Assert e) = refl
clock_as known (statement.Assign a) = refl
clock_as known (statement.Block b) = refl

pub clocks_as : (known : List Symbol) (ss : List Statement) → in_statements (statement_clocks known) ss ≡ in_trees (tree_clocks known) (map statement_view ss)
clocks_as known ss = trees_as (statement_clocks known) (tree_clocks known) (clock_as known) ss

same_clocks : (known : List Symbol) (s : StatementTree) → tree_clocks known (filled_statement true s) ≡ tree_clocks known (filled_statement false s)
same_clocks known (asserted e) = refl
same_clocks known (assigned a) = refl
same_clocks known (blocked s) = refl

pub tree_same_clocks : (known : List Symbol) (ss : List StatementTree)
    → in_trees (tree_clocks known) (map (filled_statement true) ss) ≡ in_trees (tree_clocks known) (map (filled_statement false) ss)
tree_same_clocks known [] = refl
tree_same_clocks known (s ∷ ss) = λ j. same_clocks known s j ++ tree_same_clocks known ss j
