-- What a grammar has read lies in memory somewhere: each tree is what some source is seen as.
use Rattle.std.proofs.Common.{◌≡◌, List, [], ◌∷◌, map, refl, ap, ◌∙◌}
use Rattle.std.specs.Ptr.{null_ptr}
use Rattle.std.specs.Global.{Box}
use Rattle.vlsi_base.specs.Tree.{Tree, bit, literal, name, index, slice, stable, inverse, binary, view}
use Rattle.vlsi_base.specs.declared.expression.ParsedExpr.{ParsedExpr, Bit, Literal, Name, Index, Slice, Stable, Not', Binary'}
use Rattle.source_checks.specs.declared.statement.Guarded.{Guarded}
use Rattle.source_checks.specs.declared.statement.Choice.{Choice}
use Rattle.source_checks.specs.declared.statement.Assignment.{Assignment}
use Rattle.source_checks.specs.declared.statement.BlockStatement.{BlockStatement}
use Rattle.source_checks.specs.declared.statement.Statement.{Statement}
use Rattle.source_checks.specs.declared.statement.Statement.TheVariants as statement
use Rattle.source_checks.specs.declared.statement.DesignFile.{DesignFile}
use Rattle.vbe_text.specs.Source.{GuardedTree, ChoiceTree, AssignmentTree, BlockTree, StatementTree, asserted, assigned, blocked, SourceTree, guarded_view, choice_view, assignment_view, block_view, statement_view, source_view}

-- where an expression lies has no effect
somewhere : Box (Unit {0})
somewhere = record { ptr = null_ptr; alloc = record { memory = record { seal = tt } }; value = tt }

pub expr_of : Tree → ParsedExpr
expr_of (bit b line) = Bit b line
expr_of (literal radix digits line) = Literal radix digits line
expr_of (name text line) = Name text line
expr_of (index text line n) = Index text line n
expr_of (slice text line range) = Slice text line range
expr_of (stable text line) = Stable text line
expr_of (inverse line e) = Not' line somewhere (expr_of e)
expr_of (binary op line left right) = Binary' op line somewhere (expr_of left) somewhere (expr_of right)

expr_seen : (t : Tree) → view (expr_of t) ≡ t
unfolding expr_of
expr_seen (bit b line) = refl
expr_seen (literal radix digits line) = refl
expr_seen (name text line) = refl
expr_seen (index text line n) = refl
expr_seen (slice text line range) = refl
expr_seen (stable text line) = refl
expr_seen (inverse line e) = ap (inverse line) (expr_seen e)
expr_seen (binary op line left right) = ap (λ t. binary op line t (view (expr_of right))) (expr_seen left) ∙ ap (binary op line left) (expr_seen right)

all_seen : {X V : Type 0} (look : X → V) (made : V → X) → ((v : V) → look (made v) ≡ v) → (vs : List V) → map look (map made vs) ≡ vs
all_seen look made h [] = refl
all_seen look made h (v ∷ vs) = ap (λ w. w ∷ map look (map made vs)) (h v) ∙ ap (λ ws. v ∷ ws) (all_seen look made h vs)

abbrev guarded_of : GuardedTree → Guarded
guarded_of g = record { value = expr_of g.value; condition = expr_of g.condition; line = g.line }

guarded_seen : (g : GuardedTree) → guarded_view (guarded_of g) ≡ g
guarded_seen g =
    let made : Tree → Tree → GuardedTree = λ v c. record { value = v; condition = c; line = g.line } in
    ap (λ v. made v (view (expr_of g.condition))) (expr_seen g.value) ∙ ap (made g.value) (expr_seen g.condition)

abbrev choice_from : ChoiceTree → Choice
choice_from c = record { alternatives = map guarded_of c.alternatives; otherwise = expr_of c.otherwise }

choice_seen : (c : ChoiceTree) → choice_view (choice_from c) ≡ c
choice_seen c =
    let made : List GuardedTree → Tree → ChoiceTree = λ a o. record { alternatives = a; otherwise = o } in
    ap (λ a. made a (view (expr_of c.otherwise))) (all_seen guarded_view guarded_of guarded_seen c.alternatives) ∙ ap (made c.alternatives) (expr_seen c.otherwise)

abbrev assignment_of : AssignmentTree → Assignment
assignment_of a = record { target = a.target; choice = choice_from a.choice }

assignment_seen : (a : AssignmentTree) → assignment_view (assignment_of a) ≡ a
assignment_seen a =
    let made : ChoiceTree → AssignmentTree = λ c. record { target = a.target; choice = c } in
    ap made (choice_seen a.choice)

abbrev block_of : BlockTree → BlockStatement
block_of b = record { guard = expr_of b.guard; line = b.line; assignments = map assignment_of b.assignments }

block_seen : (b : BlockTree) → block_view (block_of b) ≡ b
block_seen b =
    let made : Tree → List AssignmentTree → BlockTree = λ g a. record { guard = g; line = b.line; assignments = a } in
    ap (λ g. made g (map assignment_view (map assignment_of b.assignments))) (expr_seen b.guard) ∙ ap (made b.guard) (all_seen assignment_view assignment_of assignment_seen b.assignments)

abbrev statement_of : StatementTree → Statement
statement_of (asserted e) = statement.Assert (expr_of e)
statement_of (assigned a) = statement.Assign (assignment_of a)
statement_of (blocked b) = statement.Block (block_of b)

statement_seen : (s : StatementTree) → statement_view (statement_of s) ≡ s
statement_seen (asserted e) = ap asserted (expr_seen e)
statement_seen (assigned a) = ap assigned (assignment_seen a)
statement_seen (blocked b) = ap blocked (block_seen b)

abbrev pub design_of : SourceTree → DesignFile
design_of s = record { entity = s.entity; declarations = s.declarations; statements = map statement_of s.statements }

pub design_seen : (s : SourceTree) → source_view (design_of s) ≡ s
design_seen s =
    let made : List StatementTree → SourceTree = λ ss. record { entity = s.entity; declarations = s.declarations; statements = ss } in
    ap made (all_seen statement_view statement_of statement_seen s.statements)
