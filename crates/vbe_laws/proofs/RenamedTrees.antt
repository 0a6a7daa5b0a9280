-- What checks look at in statements, said of their trees.
use Rattle.std.proofs.Common.{◌≡◌, ℕ, Bool, true, false, not, ◌&&◌, List, [], ◌∷◌, ◌++◌, map, Option, None, Some, refl, ap, ◌∙◌}
use Rattle.vlsi_base.specs.Tree.{Tree, view}
use Rattle.source_checks.specs.declared.statement.Guarded.{Guarded}
use Rattle.source_checks.specs.declared.statement.Choice.{Choice}
use Rattle.source_checks.specs.declared.statement.Assignment.{Assignment}
use Rattle.source_checks.specs.declared.statement.Statement.{Statement}
use Rattle.source_checks.specs.declared.statement.Statement.TheVariants as statement
use Rattle.source_checks.specs.declared.symbol_table.Symbol.{Symbol}
use Rattle.source_checks.specs.Symbols.{find}
use Rattle.source_checks.specs.Places.{Use, reads, in_alternatives, in_choice, in_assignments, in_statements, assignment_uses, statement_uses}
use Rattle.source_checks.specs.Formula.{Formula, formulas, first_bit, choose_bits, alternative_bits}
use Rattle.source_checks.specs.Widths.{if_not, differ, width, width_faults, condition_faults, target_width, target_faults, all_wide, assignment_faults, statement_faults}
use Rattle.source_checks.specs.Drivers.{Driver, target_names, driver_at, driver_of, statement_drivers}
use Rattle.source_checks.specs.Unsupported.{literal_faults, may_drive, assignment_forms, statement_forms}
use Rattle.source_checks.specs.Clock.{clock_lines, clock_of, enable_of, is_same_clock, statement_clocks, assignment_clock_lines, statement_clock_lines}
use Rattle.source_checks.specs.Elaboration.{Definition, Storage, defined, stored, assignment_definitions, statement_definitions, statement_storage}
use Rattle.vbe_text.specs.Source.{GuardedTree, ChoiceTree, AssignmentTree, StatementTree, asserted, assigned, blocked, guarded_view, choice_view, assignment_view, statement_view}

-- ---- lists

-- what a look finds in all
abbrev pub in_each : {X A : Type 0} → (X → List A) → List X → List A
in_each look [] = []
in_each look (x ∷ xs) = look x ++ in_each look xs

each_seen : {X Y A : Type 0} (seen : X → Y) (look : X → List A) (of : Y → List A) → ((x : X) → look x ≡ of (seen x)) → (xs : List X) → in_each look xs ≡ in_each of (map seen xs)
each_seen seen look of same [] = refl
each_seen {A = A} seen look of same (x ∷ xs) = ap (λ (z : List A). z ++ in_each look xs) (same x) ∙ ap (λ (z : List A). of (seen x) ++ z) (each_seen seen look of same xs)

assignments_each : {A : Type 0} (look : Assignment → List A) (of : AssignmentTree → List A) → ((a : Assignment) → look a ≡ of (assignment_view a)) → (xs : List Assignment) → in_assignments look xs ≡ in_each of (map assignment_view xs)
assignments_each look of same [] = refl
assignments_each {A} look of same (a ∷ xs) = ap (λ (z : List A). z ++ in_assignments look xs) (same a) ∙ ap (λ (z : List A). of (assignment_view a) ++ z) (assignments_each look of same xs)

pub statements_each : {A : Type 0} (look : Statement → List A) (of : StatementTree → List A) → ((s : Statement) → look s ≡ of (statement_view s)) → (ss : List Statement) → in_statements look ss ≡ in_each of (map statement_view ss)
statements_each look of same [] = refl
statements_each {A} look of same (s ∷ ss) = ap (λ (z : List A). z ++ in_statements look ss) (same s) ∙ ap (λ (z : List A). of (statement_view s) ++ z) (statements_each look of same ss)

-- ---- choices

abbrev pub in_alternatives_of : {A : Type 0} → (Tree → List A) → (ℕ → Tree → List A) → List GuardedTree → List A
in_alternatives_of value condition [] = []
in_alternatives_of value condition (g ∷ rest) = value g.value ++ (condition g.line g.condition ++ in_alternatives_of value condition rest)

abbrev pub in_choice_of : {A : Type 0} → (Tree → List A) → (ℕ → Tree → List A) → ChoiceTree → List A
in_choice_of value condition c = in_alternatives_of value condition c.alternatives ++ value c.otherwise

alternatives_seen : {A : Type 0} (value : Tree → List A) (condition : ℕ → Tree → List A) (gs : List Guarded) → in_alternatives value condition gs ≡ in_alternatives_of value condition (map guarded_view gs)
alternatives_seen value condition [] = refl
alternatives_seen {A} value condition (g ∷ gs) = ap (λ (z : List A). value (view g.value) ++ (condition g.line (view g.condition) ++ z)) (alternatives_seen value condition gs)

choice_seen : {A : Type 0} (value : Tree → List A) (condition : ℕ → Tree → List A) (c : Choice) → in_choice value condition c ≡ in_choice_of value condition (choice_view c)
choice_seen {A} value condition c = ap (λ (z : List A). z ++ value (view c.otherwise)) (alternatives_seen value condition c.alternatives)

-- ---- assignments

abbrev pub uses_in : AssignmentTree → List Use
uses_in a = record { text = a.target.name; line = a.target.line } ∷ in_choice_of reads (λ line e. reads e) a.choice

abbrev pub all_wide_of : List Symbol → Option ℕ → List GuardedTree → Tree → Bool
all_wide_of known n [] otherwise = not (differ (width known otherwise) n)
all_wide_of known n (g ∷ rest) otherwise = not (differ (width known g.value) n) && all_wide_of known n rest otherwise

abbrev pub widths_in : List Symbol → AssignmentTree → List ℕ
widths_in known a =
    if_not (all_wide_of known (target_width known a.target) a.choice.alternatives a.choice.otherwise) a.target.line
    ++ (target_faults known a.target ++ in_choice_of (width_faults known) (condition_faults known) a.choice)

abbrev pub drivers_in : List Symbol → AssignmentTree → List Driver
drivers_in known a = driver_at known a.target ∷ []

abbrev pub forms_in : List Symbol → Bool → AssignmentTree → List ℕ
forms_in known in_block a = if_not (may_drive in_block (find known a.target.name)) a.target.line ++ in_choice_of literal_faults (λ line e. literal_faults e) a.choice

abbrev pub clocks_in : Option (List ℕ) → AssignmentTree → List ℕ
clocks_in ck a = in_choice_of (clock_lines ck) (λ line e. clock_lines ck e) a.choice

abbrev pub bits_from : List Symbol → List GuardedTree → List Formula → List Formula
bits_from known [] otherwise = otherwise
bits_from known (g ∷ rest) otherwise = choose_bits (first_bit (formulas known g.condition)) (formulas known g.value) (bits_from known rest otherwise)

abbrev pub bits_of : List Symbol → ChoiceTree → List Formula
bits_of known c = bits_from known c.alternatives (formulas known c.otherwise)

abbrev pub definitions_in : List Symbol → AssignmentTree → List Definition
definitions_in known a = defined (target_names known a.target) (bits_of known a.choice)

uses_seen : (a : Assignment) → assignment_uses a ≡ uses_in (assignment_view a)
uses_seen a = ap (λ (us : List Use). record { text = a.target.name; line = a.target.line } ∷ us) (choice_seen reads (λ line e. reads e) a.choice)

wide_seen : (known : List Symbol) (n : Option ℕ) (gs : List Guarded) (e : Tree) → all_wide known n gs e ≡ all_wide_of known n (map guarded_view gs) e
wide_seen known n [] e = refl
wide_seen known n (g ∷ gs) e = ap (λ b. not (differ (width known (view g.value)) n) && b) (wide_seen known n gs e)

widths_seen : (known : List Symbol) (a : Assignment) → assignment_faults known a ≡ widths_in known (assignment_view a)
widths_seen known a =
    let rest = in_choice (width_faults known) (condition_faults known) a.choice in
    let wide = all_wide_of known (target_width known a.target) (map guarded_view a.choice.alternatives) (view a.choice.otherwise) in
    ap (λ (b : Bool). if_not b a.target.line ++ (target_faults known a.target ++ rest)) (wide_seen known (target_width known a.target) a.choice.alternatives (view a.choice.otherwise))
    ∙ ap (λ (xs : List ℕ). if_not wide a.target.line ++ (target_faults known a.target ++ xs)) (choice_seen (width_faults known) (condition_faults known) a.choice)

forms_seen : (known : List Symbol) (in_block : Bool) (a : Assignment) → assignment_forms known in_block a ≡ forms_in known in_block (assignment_view a)
forms_seen known in_block a =
    ap (λ (xs : List ℕ). if_not (may_drive in_block (find known a.target.name)) a.target.line ++ xs) (choice_seen literal_faults (λ line e. literal_faults e) a.choice)

bits_seen : (known : List Symbol) (gs : List Guarded) (otherwise : List Formula) → alternative_bits known gs otherwise ≡ bits_from known (map guarded_view gs) otherwise
bits_seen known [] otherwise = refl
bits_seen known (g ∷ gs) otherwise = ap (λ (xs : List Formula). choose_bits (first_bit (formulas known (view g.condition))) (formulas known (view g.value)) xs) (bits_seen known gs otherwise)

definitions_seen : (known : List Symbol) (a : Assignment) → assignment_definitions known a ≡ definitions_in known (assignment_view a)
definitions_seen known a = ap (λ (xs : List Formula). defined (target_names known a.target) xs) (bits_seen known a.choice.alternatives (formulas known (view a.choice.otherwise)))

-- ---- statements

abbrev pub uses_at : StatementTree → List Use
uses_at (asserted e) = reads e
uses_at (assigned a) = uses_in a
uses_at (blocked b) = reads b.guard ++ in_each uses_in b.assignments

abbrev pub widths_at : List Symbol → StatementTree → List ℕ
widths_at known (asserted e) = width_faults known e
widths_at known (assigned a) = widths_in known a
widths_at known (blocked b) = width_faults known b.guard ++ in_each (widths_in known) b.assignments

abbrev pub drivers_at : List Symbol → StatementTree → List Driver
drivers_at known (asserted e) = []
drivers_at known (assigned a) = drivers_in known a
drivers_at known (blocked b) = in_each (drivers_in known) b.assignments

abbrev pub forms_at : List Symbol → StatementTree → List ℕ
forms_at known (asserted e) = literal_faults e
forms_at known (assigned a) = forms_in known false a
forms_at known (blocked b) = literal_faults b.guard ++ in_each (forms_in known true) b.assignments

-- the clock of a guard, if it has one
abbrev pub one_clock : Option (List ℕ) → List (List ℕ)
one_clock None = []
one_clock (Some text) = text ∷ []

abbrev pub clocks_at : List Symbol → StatementTree → List (List ℕ)
clocks_at known (asserted e) = []
clocks_at known (assigned a) = []
clocks_at known (blocked b) = one_clock (clock_of known b.guard)

abbrev pub clock_lines_at : List Symbol → Option (List ℕ) → StatementTree → List ℕ
clock_lines_at known ck (asserted e) = clock_lines ck e
clock_lines_at known ck (assigned a) = clocks_in ck a
clock_lines_at known ck (blocked b) = if_not (is_same_clock ck (clock_of known b.guard)) b.line ++ in_each (clocks_in ck) b.assignments

abbrev pub definitions_at : List Symbol → StatementTree → List Definition
definitions_at known (asserted e) = []
definitions_at known (assigned a) = definitions_in known a
definitions_at known (blocked b) = []

abbrev pub storage_at : List Symbol → Option (List ℕ) → StatementTree → List Storage
storage_at known ck (asserted e) = []
storage_at known ck (assigned a) = []
storage_at known None (blocked b) = []
storage_at known (Some text) (blocked b) = stored (enable_of known text b.guard) (in_each (definitions_in known) b.assignments)

pub uses_are : (s : Statement) → statement_uses s ≡ uses_at (statement_view s)
uses_are (statement.Assert e) = refl
uses_are (statement.Assign a) = uses_seen a
uses_are (statement.Block b) = ap (λ (us : List Use). reads (view b.guard) ++ us) (assignments_each assignment_uses uses_in uses_seen b.assignments)

pub widths_are : (known : List Symbol) (s : Statement) → statement_faults known s ≡ widths_at known (statement_view s)
widths_are known (statement.Assert e) = refl
widths_are known (statement.Assign a) = widths_seen known a
widths_are known (statement.Block b) = ap (λ (xs : List ℕ). width_faults known (view b.guard) ++ xs) (assignments_each (assignment_faults known) (widths_in known) (widths_seen known) b.assignments)

pub drivers_are : (known : List Symbol) (s : Statement) → statement_drivers known s ≡ drivers_at known (statement_view s)
drivers_are known (statement.Assert e) = refl
drivers_are known (statement.Assign a) = refl
drivers_are known (statement.Block b) = assignments_each (driver_of known) (drivers_in known) (λ a. refl) b.assignments

pub forms_are : (known : List Symbol) (s : Statement) → statement_forms known s ≡ forms_at known (statement_view s)
forms_are known (statement.Assert e) = refl
forms_are known (statement.Assign a) = forms_seen known false a
forms_are known (statement.Block b) =
    ap (λ (xs : List ℕ). literal_faults (view b.guard) ++ xs) (assignments_each (assignment_forms known true) (forms_in known true) (forms_seen known true) b.assignments)

pub clocks_are : (known : List Symbol) (s : Statement) → statement_clocks known s ≡ clocks_at known (statement_view s)
clocks_are known (statement.Assert e) = refl
clocks_are known (statement.Assign a) = refl
clocks_are known (statement.Block b) = by (clock_of known (view b.guard)) refl where
  by : (o : Option (List ℕ)) → clock_of known (view b.guard) ≡ o → statement_clocks known (statement.Block b) ≡ one_clock (clock_of known (view b.guard))
  by None e = rw e refl
  by (Some text) e = rw e refl

pub clock_lines_are : (known : List Symbol) (ck : Option (List ℕ)) (s : Statement) → statement_clock_lines known ck s ≡ clock_lines_at known ck (statement_view s)
clock_lines_are known ck (statement.Assert e) = refl
clock_lines_are known ck (statement.Assign a) = choice_seen (clock_lines ck) (λ line e. clock_lines ck e) a.choice
clock_lines_are known ck (statement.Block b) =
    ap (λ (xs : List ℕ). if_not (is_same_clock ck (clock_of known (view b.guard))) b.line ++ xs)
    (assignments_each (assignment_clock_lines ck) (clocks_in ck) (λ a. choice_seen (clock_lines ck) (λ line e. clock_lines ck e) a.choice) b.assignments)

pub definitions_are : (known : List Symbol) (s : Statement) → statement_definitions known s ≡ definitions_at known (statement_view s)
definitions_are known (statement.Assert e) = refl
definitions_are known (statement.Assign a) = definitions_seen known a
definitions_are known (statement.Block b) = refl

pub storage_is : (known : List Symbol) (ck : Option (List ℕ)) (s : Statement) → statement_storage known ck s ≡ storage_at known ck (statement_view s)
storage_is known ck (statement.Assert e) = refl
storage_is known ck (statement.Assign a) = refl
storage_is known None (statement.Block b) = refl
storage_is known (Some text) (statement.Block b) =
    ap (λ (ds : List Definition). stored (enable_of known text (view b.guard)) ds) (assignments_each (assignment_definitions known) (definitions_in known) (definitions_seen known) b.assignments)
