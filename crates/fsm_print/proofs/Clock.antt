-- The clock's rise spells itself.
use Rattle.std.proofs.Common.{ℕ, ◌+◌, ◌<◌, true, List, [], ◌∷◌, codes, refl, arith}
use Rattle.std.proofs.lemmas.List.{append-nil}
use Rattle.vlsi_base.specs.declared.expression.Operator.TheVariants as operator
use Rattle.vlsi_base.specs.Tree.{Tree, bit, name, stable, inverse, binary}
use Rattle.bool_expr.specs.declared.expr.Gate.TheVariants as gate
use Rattle.vhdl_token.specs.declared.keyword.Keyword.TheVariants as word
use Rattle.vhdl_token.specs.declared.token.PlacedToken.{PlacedToken}
use Rattle.vhdl_token.specs.declared.token.Token.TheVariants as token
use Rattle.vhdl_token.specs.declared.token.Sign.TheVariants as sign
use Rattle.grammar_theory.specs.declared.form.Form.TheVariants as form
use Rattle.grammar_theory.specs.declared.limits.TheConstants.{CHAIN}
use Rattle.grammar_theory.specs.Tokens.{code_of}
use Rattle.grammar_theory.specs.Marks.{State, plain, spells}
use Rattle.grammar_theory.specs.Grammar.{Grammar}
use Rattle.vhdl_front.specs.Cursor.{name_of}
use Rattle.vhdl_front.specs.Expression.{suffix, named, primary as primary_of, factor, cat, pair as pair_of, relation, joined as joined_by, expression}
use Rattle.spell_theory.specs.Spells.{Spells}
use Rattle.spell_theory.specs.Layout.{placed}
use Rattle.spell_theory.proofs.Combinators.{spell_nothing, spell_lead, spell_then, spell_left, spell_right, spell_none, spell_more, spell_some, spell_as}
use Rattle.vhdl_print.proofs.Entities.{at, spell_sign}
use Rattle.vhdl_print.proofs.Expressions.{spell_named, spell_bit, spell_plain_factor, spell_not, spell_relation, spell_joined}
use Rattle.vhdl_print.proofs.Steps.{Few, plain_step, spells_step, started, with_operator}
use Rattle.vbe_print.proofs.Spelling.{gate_form, inner_of, spell_nested, joined_whole}
use Rattle.vbe_print.proofs.Values.{Begins}
use Rattle.fsm_print.specs.Written.{rise_layout}
use Rattle.fsm_print.specs.Placed.{rises}

spell_stable : (room : ℕ) (inner : Grammar Tree) (x : List ℕ) (line : ℕ) (s : State) → Few s
    → Spells (primary_of room inner) (stable x line) (at (token.Identifier x) line ∷ at (token.Sign sign.Tick) line ∷ at (token.Identifier (codes "stable")) line ∷ []) s s
unfolding primary_of named suffix code_of
spell_stable room inner x line s few =
    let y = stable x line in
    spell_right (spell_right (spell_right (spell_right
    (spell_lead form.Identifier (λ _. plain) (at (token.Identifier x) line) y refl (plain_step s few)
    (spell_right (spell_left
    (spell_sign sign.Tick line y few
    (spell_lead form.Identifier (λ u. spells (codes "stable") (name_of u)) (at (token.Identifier (codes "stable")) line) y refl (spells_step (codes "stable") s few) (spell_nothing y s)))))))))

spell_cat : (room : ℕ) (inner : Grammar Tree) (x : Tree) {ts : List PlacedToken} {s s' : State} → Spells (factor room inner) x ts s s' → Spells (cat room inner) x ts s s'
unfolding cat
spell_cat room inner x {ts} {s} {s'} p =
    spell_as (append-nil ts) (spell_then x x p (spell_then [] x (spell_none (joined_by (form.Sign sign.Ampersand) (factor room inner)) s') (spell_nothing x s')))

-- `ck = '1'`
spell_clock : (room : ℕ) (inner : Grammar Tree) (x : List ℕ) (line : ℕ) (s : State) → Few s → s.operators < CHAIN
    → Spells (relation room inner) (binary operator.Equal line (name x line) (bit true line)) (at (token.Identifier x) line ∷ at (token.Sign sign.Equal) line ∷ at (token.Bit true) line ∷ []) s (with_operator s)
unfolding relation pair_of code_of
spell_clock room inner x line s few free =
    let y = binary operator.Equal line (name x line) (bit true line) in
    let second : ℕ × Tree = (line, bit true line) in
    let one = spell_joined (form.Sign sign.Equal) (cat room inner) (at (token.Sign sign.Equal) line) (bit true line) {s = s} refl few free
    (spell_cat room inner (bit true line) (spell_plain_factor room inner (bit true line) (spell_bit room inner true line (with_operator s) few))) in
    spell_then (name x line) y (spell_cat room inner (name x line) (spell_plain_factor room inner (name x line) (spell_named room inner x line s few)))
    (spell_left (spell_then second y one (spell_nothing y (with_operator s))))

-- `and not ck'stable`
spell_steady : (x : List ℕ) (n line : ℕ) (s : State) → Few s → s.operators + 1 < CHAIN
    → Spells (joined_by (gate_form gate.And) (relation n (inner_of n))) (line, inverse line (stable x line))
    (at (token.Keyword word.And) line ∷ at (token.Keyword word.Not) line ∷ at (token.Identifier x) line ∷ at (token.Sign sign.Tick) line ∷ at (token.Identifier (codes "stable")) line ∷ []) s (with_operator (with_operator s))
unfolding code_of
spell_steady x n line s few free =
    let y = stable x line in
    spell_joined (gate_form gate.And) (relation n (inner_of n)) (at (token.Keyword word.And) line) (inverse line y) {s = s} refl few (omega (arith, free))
    (spell_relation n (inner_of n) (inverse line y)
    (spell_not n (inner_of n) y line {s = with_operator s} few (omega (arith, free)) (spell_stable n (inner_of n) x line (with_operator (with_operator s)) few)))

-- behind a condition three operators are counted
abbrev pub behind_rise : State → State
behind_rise s = with_operator (with_operator (with_operator (started s)))

pub spell_rise : (x : List ℕ) (room line : ℕ) (s : State) → Few s → Spells (expression room) (rises line x) (placed line (rise_layout x)) (started s) (behind_rise s)
spell_rise x room line s few =
    let t = started s in
    let operands = relation room (inner_of room) in
    let second : ℕ × Tree = (line, inverse line (stable x line)) in
    spell_some room (spell_nested room (rises line x)
    (joined_whole gate.And (binary operator.Equal line (name x line) (bit true line)) [] second room refl (spell_clock room (inner_of room) x line t few (omega arith))
    (spell_as (append-nil _) (spell_more (spell_steady x room line (with_operator t) few (omega arith)) (spell_none (joined_by (gate_form gate.And) operands) (behind_rise s))))))

pub rise_begins : (x : List ℕ) (line : ℕ) → Begins line (placed line (rise_layout x))
rise_begins x line = record { first = at (token.Identifier x) line; others = _; are = refl; on = refl }
