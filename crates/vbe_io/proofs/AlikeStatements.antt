-- Statements of one tree come to the same: what is made of their expressions is made of the trees.
use Rattle.std.proofs.Common.{ℕ, Bool, true, false, ◌&&◌, not, List, [], ◌∷◌, ◌++◌, map, Option, None, Some, refl, ap}
use Rattle.vlsi_base.specs.Tree.{Tree, view}
use Rattle.source_checks.specs.declared.statement.Target.{Target}
use Rattle.source_checks.specs.declared.statement.Guarded.{Guarded}
use Rattle.source_checks.specs.declared.statement.Choice.{Choice}
use Rattle.source_checks.specs.declared.statement.Assignment.{Assignment}
use Rattle.source_checks.specs.declared.statement.Statement.{Statement}
use Rattle.source_checks.specs.declared.statement.Statement.TheVariants as statement
use Rattle.source_checks.specs.declared.symbol_table.Symbol.{Symbol}
use Rattle.source_checks.specs.Symbols.{find}
use Rattle.source_checks.specs.Places.{in_alternatives, in_choice, in_assignments, reads, reads_in_choice, assignment_uses, statement_uses}
use Rattle.source_checks.specs.Formula.{Formula, formulas, first_bit, choose_bits, alternative_bits, choice_bits}
use Rattle.source_checks.specs.Widths.{if_not, differ, width, width_faults, condition_faults, target_width, target_faults, all_wide, assignment_faults, statement_faults}
use Rattle.source_checks.specs.Drivers.{driver_at, driver_of, target_names, statement_drivers}
use Rattle.source_checks.specs.Unsupported.{literal_faults, may_drive, assignment_forms, statement_forms}
use Rattle.source_checks.specs.Clock.{clock_lines, clock_of, is_same_clock, statement_clocks, assignment_clock_lines, statement_clock_lines}
use Rattle.source_checks.specs.Elaboration.{defined, statement_definitions}
use Rattle.vbe_text.specs.Source.{BlockTree, guarded_view, choice_view, assignment_view, block_view, statement_view}
use Rattle.vbe_io.proofs.Views.{SeenBy, of_view, of_both, of_part, of_each}

-- ---- what is made of the parts

-- of the alternatives of a choice, and its last value
in_parts : {A C : Type 0} (h : A → Tree → C) (alternatives : List Guarded → A) → SeenBy (map guarded_view) alternatives
    → SeenBy choice_view (λ c. h (alternatives c.alternatives) (view c.otherwise))
in_parts h alternatives seen =
    of_both choice_view h (λ c. alternatives c.alternatives) (λ c. view c.otherwise)
    (of_part choice_view (λ c. c.alternatives) (map guarded_view) (λ t. t.alternatives) alternatives (λ c. refl) seen)
    (of_view choice_view (λ t. t.otherwise))

-- of an assignment's target and its choice
in_assigned : {A C : Type 0} (h : Target → A → C) (chosen : Choice → A) → SeenBy choice_view chosen
    → SeenBy assignment_view (λ a. h a.target (chosen a.choice))
in_assigned h chosen seen =
    of_both assignment_view h (λ a. a.target) (λ a. chosen a.choice)
    (of_view assignment_view (λ t. t.target))
    (of_part assignment_view (λ a. a.choice) choice_view (λ t. t.choice) chosen (λ a. refl) seen)

-- of a block's guard, its line, and all assignments one by one
in_blocked : {A C : Type 0} (h : Tree → ℕ → List A → C) (look : Assignment → List A) → SeenBy assignment_view look
    → SeenBy block_view (λ b. h (view b.guard) b.line (in_assignments look b.assignments))
in_blocked h look seen =
    of_both block_view (λ (t : BlockTree) xs. h t.guard t.line xs) block_view (λ b. in_assignments look b.assignments)
    (of_view block_view (λ t. t))
    (of_part block_view (λ b. b.assignments) (map assignment_view) (λ t. t.assignments) (in_assignments look) (λ b. refl)
    (of_each assignment_view (λ a xs. look a ++ xs) (in_assignments look) (λ a rest. refl) (λ a b e. ap (λ found. λ xs. found ++ xs) (seen a b e))))

-- of a statement of each kind
in_stated : {C : Type 0} (f : Statement → C) → SeenBy view (λ e. f (statement.Assert e)) → SeenBy assignment_view (λ a. f (statement.Assign a))
    → SeenBy block_view (λ b. f (statement.Block b)) → SeenBy statement_view f
in_stated f assert assign block (statement.Assert a) (statement.Assert b) e = assert a b (cc)
in_stated f assert assign block (statement.Assert a) (statement.Assign b) e = absurd (cc)
in_stated f assert assign block (statement.Assert a) (statement.Block b) e = absurd (cc)
in_stated f assert assign block (statement.Assign a) (statement.Assert b) e = absurd (cc)
in_stated f assert assign block (statement.Assign a) (statement.Assign b) e = assign a b (cc)
in_stated f assert assign block (statement.Assign a) (statement.Block b) e = absurd (cc)
in_stated f assert assign block (statement.Block a) (statement.Assert b) e = absurd (cc)
in_stated f assert assign block (statement.Block a) (statement.Assign b) e = absurd (cc)
in_stated f assert assign block (statement.Block a) (statement.Block b) e = block a b (cc)

nothing_seen : {X V C : Type 0} (look : X → V) (c : C) → SeenBy look (λ x. c)
nothing_seen look c x y e = refl

-- ---- choices

in_choice_seen : {A : Type 0} (value : Tree → List A) (condition : ℕ → Tree → List A) → SeenBy choice_view (in_choice value condition)
in_choice_seen value condition =
    in_parts (λ found e. found ++ value e) (in_alternatives value condition)
    (of_each guarded_view (λ g xs. value (view g.value) ++ (condition g.line (view g.condition) ++ xs)) (in_alternatives value condition) (λ g rest. refl)
    (of_view guarded_view (λ t. λ xs. value t.value ++ (condition t.line t.condition ++ xs))))

all_wide_seen : (known : List Symbol) → SeenBy {C = Option ℕ → Bool} choice_view (λ c. λ n. all_wide known n c.alternatives (view c.otherwise))
all_wide_seen known =
    in_parts (λ (wide : Option ℕ → Tree → Bool) e. λ n. wide n e) (λ gs. λ n e. all_wide known n gs e)
    (of_each guarded_view (λ g rest. λ n e. not (differ (width known (view g.value)) n) && rest n e) (λ gs. λ n e. all_wide known n gs e) (λ g rest. refl)
    (of_view guarded_view (λ t. λ rest. λ n e. not (differ (width known t.value) n) && rest n e)))

choice_bits_seen : (known : List Symbol) → SeenBy choice_view (choice_bits known)
choice_bits_seen known =
    in_parts (λ (bits : List Formula → List Formula) e. bits (formulas known e)) (λ gs. λ otherwise. alternative_bits known gs otherwise)
    (of_each guarded_view (λ g rest. λ otherwise. choose_bits (first_bit (formulas known (view g.condition))) (formulas known (view g.value)) (rest otherwise))
    (λ gs. λ otherwise. alternative_bits known gs otherwise) (λ g rest. refl)
    (of_view guarded_view (λ t. λ rest. λ otherwise. choose_bits (first_bit (formulas known t.condition)) (formulas known t.value) (rest otherwise))))

-- ---- names that are used

assignment_uses_seen : SeenBy assignment_view assignment_uses
assignment_uses_seen = in_assigned (λ t uses. record { text = t.name; line = t.line } ∷ uses) reads_in_choice (in_choice_seen reads (λ line e. reads e))

pub uses_seen : SeenBy statement_view statement_uses
uses_seen = in_stated statement_uses (of_view view reads) assignment_uses_seen (in_blocked (λ guard line uses. reads guard ++ uses) assignment_uses assignment_uses_seen)

-- ---- widths

assignment_faults_seen : (known : List Symbol) → SeenBy assignment_view (assignment_faults known)
assignment_faults_seen known =
    in_assigned (λ t (found : (Option ℕ → Bool) × List ℕ). if_not (found.0 (target_width known t)) t.line ++ (target_faults known t ++ found.1))
    (λ c. ((λ n. all_wide known n c.alternatives (view c.otherwise)), in_choice (width_faults known) (condition_faults known) c))
    (of_both choice_view (λ wide faults. (wide, faults)) (λ c. λ n. all_wide known n c.alternatives (view c.otherwise)) (in_choice (width_faults known) (condition_faults known))
    (all_wide_seen known) (in_choice_seen (width_faults known) (condition_faults known)))

pub widths_seen : (known : List Symbol) → SeenBy statement_view (statement_faults known)
widths_seen known =
    in_stated (statement_faults known) (of_view view (width_faults known)) (assignment_faults_seen known)
    (in_blocked (λ guard line faults. width_faults known guard ++ faults) (assignment_faults known) (assignment_faults_seen known))

-- ---- drivers

driver_seen : (known : List Symbol) → SeenBy assignment_view (driver_of known)
driver_seen known = of_view assignment_view (λ t. driver_at known t.target ∷ [])

pub drivers_seen : (known : List Symbol) → SeenBy statement_view (statement_drivers known)
drivers_seen known =
    in_stated (statement_drivers known) (nothing_seen view []) (driver_seen known) (in_blocked (λ guard line ds. ds) (driver_of known) (driver_seen known))

-- ---- forms that are left out

assignment_forms_seen : (known : List Symbol) (in_block : Bool) → SeenBy assignment_view (assignment_forms known in_block)
assignment_forms_seen known in_block =
    in_assigned (λ t faults. if_not (may_drive in_block (find known t.name)) t.line ++ faults) (in_choice literal_faults (λ line e. literal_faults e))
    (in_choice_seen literal_faults (λ line e. literal_faults e))

pub forms_seen : (known : List Symbol) → SeenBy statement_view (statement_forms known)
forms_seen known =
    in_stated (statement_forms known) (of_view view literal_faults) (assignment_forms_seen known false)
    (in_blocked (λ guard line faults. literal_faults guard ++ faults) (assignment_forms known true) (assignment_forms_seen known true))

-- ---- the clock

pub clocks_seen : (known : List Symbol) → SeenBy statement_view (statement_clocks known)
clocks_seen known = in_stated (statement_clocks known) (nothing_seen view []) (nothing_seen assignment_view []) (of_view block_view (λ t. add (clock_of known t.guard))) where
  add : Option (List ℕ) → List (List ℕ)
  add None = []
  add (Some text) = text ∷ []

assignment_clock_lines_seen : (ck : Option (List ℕ)) → SeenBy assignment_view (assignment_clock_lines ck)
assignment_clock_lines_seen ck =
    in_assigned (λ t lines. lines) (in_choice (clock_lines ck) (λ line e. clock_lines ck e)) (in_choice_seen (clock_lines ck) (λ line e. clock_lines ck e))

pub clock_lines_seen : (known : List Symbol) (ck : Option (List ℕ)) → SeenBy statement_view (statement_clock_lines known ck)
clock_lines_seen known ck =
    in_stated (statement_clock_lines known ck) (of_view view (clock_lines ck)) (assignment_clock_lines_seen ck)
    (in_blocked (λ guard line lines. if_not (is_same_clock ck (clock_of known guard)) line ++ lines) (assignment_clock_lines ck) (assignment_clock_lines_seen ck))

-- ---- definitions

pub definitions_seen : (known : List Symbol) → SeenBy statement_view (statement_definitions known)
definitions_seen known =
    in_stated (statement_definitions known) (nothing_seen view [])
    (in_assigned (λ t bits. defined (target_names known t) bits) (choice_bits known) (choice_bits_seen known)) (nothing_seen block_view [])
