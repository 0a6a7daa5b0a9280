-- What is driven reads only bits that some expression of the source reads.
use Rattle.std.proofs.Common.{◌≡◌, ◌⊎◌, inl, inr, ℕ, Bool, true, false, cond, List, [], ◌∷◌, ◌++◌, map, Some, refl, bytes_eq}
use Rattle.vlsi_base.specs.declared.name.Name.{Name}
use Rattle.vlsi_base.specs.Tree.{Tree, bit, literal, name, index, slice, stable, inverse, binary}
use Rattle.machine_core.specs.Order.{In, here, there}
use Rattle.machine_core.proofs.Values.{In-split, In-left, In-right}
use Rattle.source_checks.specs.declared.symbol_table.Symbol.{Symbol}
use Rattle.source_checks.specs.Symbols.{find, names_in, bit_name}
use Rattle.source_checks.specs.Formula.{Formula, formulas, names_of_found, literal_bits, first_bit}
use Rattle.source_checks.specs.Drivers.{target_names}
use Rattle.source_checks.specs.Elaboration.{Definition, defined}
use Rattle.vlsi_model.proofs.Formulas.{Holds, Each, Each-fixed, Each-leaf, Each-opposite, Each-operator, Each-choose, Holds-first, Holds-leaf, Holds-weaker}
use Rattle.vbe_text.specs.Source.{GuardedTree, ChoiceTree, AssignmentTree, StatementTree, asserted, assigned, blocked}
use Rattle.vbe_free.specs.Tokens.{free_name}
use Rattle.vbe_free.specs.Filled.{filled_value, filled_guarded, filled_choice, filled_assignment, filled_statement, bits_read, alternatives_read, assignment_reads, statement_reads, source_reads}
use Rattle.vbe_free.proofs.Freed.{tree_alternatives, tree_bits}
use Rattle.vbe_free.proofs.Drives.{tree_defined, tree_definitions, in_trees}

each_weaker : (P Q : Name → Type 0) → ((n : Name) → P n → Q n) → (fs : List Formula) → Each P fs → Each Q fs
each_weaker P Q w [] h = tt
each_weaker P Q w (f ∷ fs) h = (Holds-weaker P Q w f h.0, each_weaker P Q w fs h.1)

abbrev ReadIn : List Name → Name → Type 0
ReadIn names n = In n names

reads_in : (known : List Symbol) (e : Tree) → Each (ReadIn (bits_read known e)) (formulas known e)
reads_in known (bit b line) = (tt, tt)
reads_in known (literal r digits line) = Each-fixed (ReadIn []) (literal_bits r digits)
reads_in known (name text line) = Each-leaf (ReadIn (names_of_found (find known text))) (names_of_found (find known text)) (λ n i supply. i)
reads_in known (index text line k) = (Holds-leaf (ReadIn (bit_name text k ∷ [])) (bit_name text k) (λ supply. here), tt)
reads_in known (slice text line range) = Each-leaf (ReadIn (names_in text (Some range))) (names_in text (Some range)) (λ n i supply. i)
reads_in known (stable text line) = (tt, tt)
reads_in known (inverse line e) = Each-opposite (ReadIn (bits_read known e)) (formulas known e) (reads_in known e)
reads_in known (binary op line left right) =
    let ls = bits_read known left in
    let rs = bits_read known right in
    Each-operator (ReadIn (ls ++ rs)) op (formulas known left) (formulas known right)
    (each_weaker (ReadIn ls) (ReadIn (ls ++ rs)) (λ n i. In-left n ls rs i) (formulas known left) (reads_in known left))
    (each_weaker (ReadIn rs) (ReadIn (ls ++ rs)) (λ n i. In-right n ls rs i) (formulas known right) (reads_in known right))

value_in : (known : List Symbol) (b : Bool) (e : Tree) → Each (ReadIn (bits_read known e)) (formulas known (filled_value b e))
value_in known b (bit c line) = reads_in known (bit c line)
value_in known b (literal r digits line) = reads_in known (literal r digits line)
value_in known b (name text line) = by (bytes_eq text free_name) where
  by : (c : Bool) → Each (ReadIn (bits_read known (name text line))) (formulas known (cond c (bit b line) (name text line)))
  by true = (tt, tt)
  by false = reads_in known (name text line)
value_in known b (index text line k) = reads_in known (index text line k)
value_in known b (slice text line range) = reads_in known (slice text line range)
value_in known b (stable text line) = reads_in known (stable text line)
value_in known b (inverse line e) = reads_in known (inverse line e)
value_in known b (binary op line left right) = reads_in known (binary op line left right)

alternatives_in : (known : List Symbol) (b : Bool) (Q : Name → Type 0) (gs : List GuardedTree) (os : List Formula)
    → ((n : Name) → In n (alternatives_read known gs) → Q n) → Each Q os → Each Q (tree_alternatives known (map (filled_guarded b) gs) os)
alternatives_in known b Q [] os q h = h
alternatives_in known b Q (g ∷ gs) os q h =
    let vs = bits_read known g.value in
    let cs = bits_read known g.condition in
    let rest = alternatives_read known gs in
    Each-choose Q (first_bit (formulas known g.condition)) (formulas known (filled_value b g.value)) (tree_alternatives known (map (filled_guarded b) gs) os)
    (Holds-first Q (formulas known g.condition)
    (each_weaker (ReadIn cs) Q (λ n i. q n (In-right n vs (cs ++ rest) (In-left n cs rest i))) (formulas known g.condition) (reads_in known g.condition)))
    (each_weaker (ReadIn vs) Q (λ n i. q n (In-left n vs (cs ++ rest) i)) (formulas known (filled_value b g.value)) (value_in known b g.value))
    (alternatives_in known b Q gs os (λ n i. q n (In-right n vs (cs ++ rest) (In-right n cs rest i))) h)

choice_in : (known : List Symbol) (b : Bool) (a : AssignmentTree) → Each (ReadIn (assignment_reads known a)) (tree_bits known (filled_choice b a.choice))
choice_in known b a =
    let gs = alternatives_read known a.choice.alternatives in
    let os = bits_read known a.choice.otherwise in
    alternatives_in known b (ReadIn (gs ++ os)) a.choice.alternatives (formulas known (filled_value b a.choice.otherwise)) (λ n i. In-left n gs os i)
    (each_weaker (ReadIn os) (ReadIn (gs ++ os)) (λ n i. In-right n gs os i) (formulas known (filled_value b a.choice.otherwise)) (value_in known b a.choice.otherwise))

defined_in : (Q : Name → Type 0) (names : List Name) (fs : List Formula) → Each Q fs → (d : Definition) → In d (defined names fs) → Holds Q d.formula
defined_in Q [] fs h d i = elim i [ ]
defined_in Q (n ∷ names) [] h d i = elim i [ ]
defined_in Q (n ∷ names) (f ∷ fs) h d here = h.0
defined_in Q (n ∷ names) (f ∷ fs) h d (there i) = defined_in Q names fs h.1 d i

statement_in : (known : List Symbol) (b : Bool) (s : StatementTree) (d : Definition) → In d (tree_definitions known (filled_statement b s))
    → Holds (ReadIn (statement_reads known s)) d.formula
statement_in known b (asserted e) d i = elim i [ ]
statement_in known b (assigned a) d i =
    defined_in (ReadIn (assignment_reads known a)) (target_names known a.target) (tree_bits known (filled_choice b a.choice)) (choice_in known b a) d i
statement_in known b (blocked s) d i = elim i [ ]

pub source_in : (known : List Symbol) (b : Bool) (ss : List StatementTree) (d : Definition) → In d (in_trees (tree_definitions known) (map (filled_statement b) ss))
    → Holds (λ n. In n (source_reads known ss)) d.formula
source_in known b [] d i = elim i [ ]
source_in known b (s ∷ ss) d i =
    let mine = statement_reads known s in
    let others = source_reads known ss in
    elim (In-split d (tree_definitions known (filled_statement b s)) (in_trees (tree_definitions known) (map (filled_statement b) ss)) i) [
      | inl j ↦ Holds-weaker (ReadIn mine) (ReadIn (mine ++ others)) (λ n k. In-left n mine others k) d.formula (statement_in known b s d j)
      | inr j ↦ Holds-weaker (ReadIn others) (ReadIn (mine ++ others)) (λ n k. In-right n mine others k) d.formula (source_in known b ss d j)
    ]
