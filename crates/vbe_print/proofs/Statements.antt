-- Statements that are laid out spell themselves: equations, and blocks with their guards.
use Rattle.std.proofs.Common.{◌≡◌, ℕ, suc, ◌+◌, ◌-◌, ◌≤◌, ◌<◌, ◌==◌, true, false, List, [], ◌∷◌, ◌++◌, Option, None, Some, refl, sym, ap, subst, ◌∙◌, arith, append_assoc}
use Rattle.std.specs.Prelude.{codes}
use Rattle.std.proofs.lemmas.List.{append-nil}
use Rattle.std.specs.List.{All}
use Rattle.std.proofs.lemmas.List.Elements.{All-head, All-tail}
use Rattle.vlsi_base.specs.declared.name.Name.{Name}
use Rattle.vlsi_base.specs.declared.expression.Operator.TheVariants as operator
use Rattle.vlsi_base.specs.Tree.{Tree, bit, name, stable, inverse, binary}
use Rattle.bool_expr.specs.declared.expr.Gate.TheVariants as gate
use Rattle.bool_expr.specs.Expression.{Expression, constant, variable, inverse as not_of, pair, choice}
use Rattle.machine_core.specs.Machine.{Equation, Register}
use Rattle.vhdl_token.specs.declared.keyword.Keyword.TheVariants as word
use Rattle.vhdl_token.specs.declared.token.PlacedToken.{PlacedToken}
use Rattle.vhdl_token.specs.declared.token.Token.TheVariants as token
use Rattle.vhdl_token.specs.declared.token.Sign.TheVariants as sign
use Rattle.grammar_theory.specs.declared.form.Form.TheVariants as form
use Rattle.grammar_theory.specs.declared.limits.TheConstants.{CHAIN}
use Rattle.grammar_theory.specs.Tokens.{code_of}
use Rattle.grammar_theory.specs.Marks.{State, plain, starts, chooses, opens, spells}
use Rattle.grammar_theory.specs.Grammar.{Grammar, list}
use Rattle.vhdl_front.specs.Cursor.{name_of}
use Rattle.vhdl_front.specs.Expression.{closing, suffix, named, primary as primary_of, factor, cat, pair as pair_of, relation, joined as joined_by, expression_over, nested, expression}
use Rattle.source_checks.specs.declared.statement.Selection.TheVariants as selection
use Rattle.vbe_text.specs.Source.{AssignmentTree, StatementTree, assigned, blocked}
use Rattle.vbe_text.specs.Vbe.{selected, selecting, target_behind, target, assignment, guarded_assignment, guarded_assignments, guard, repeated, block, labelled, statement}
use Rattle.spell_theory.specs.Spells.{Spells}
use Rattle.spell_theory.specs.Layout.{Written, gap, turn, says, line_behind, placed, line_of}
use Rattle.spell_theory.proofs.Combinators.{spell_nothing, spell_lead, spell_then, spell_left, spell_right, spell_none, spell_more, spell_some, spell_as}
use Rattle.spell_theory.proofs.Layouts.{placed_append, line_append}
use Rattle.vhdl_print.specs.Formula.{with_links}
use Rattle.vhdl_print.specs.Outline.{a_word, a_sign, a_name}
use Rattle.vhdl_print.proofs.Entities.{at, spell_word, spell_sign, spell_number}
use Rattle.vhdl_print.proofs.Expressions.{spell_named, spell_bit, spell_plain_factor, spell_not, spell_relation, spell_joined, spell_alone}
use Rattle.vhdl_print.proofs.Steps.{Few, plain_step, opens_step, spells_step, started, starts_step, chosen, chooses_step, few_chosen, with_operator}
use Rattle.vst_print.specs.Structure.{bit_layout}
use Rattle.vst_print.specs.Placed.{selected as selected_by}
use Rattle.vbe_print.specs.Expressions.{laid, operand, in_parentheses, value_layout}
use Rattle.vbe_print.specs.Written.{equation_layout, equations_layout, condition_layout, guard_end, label, block_head_layout, block_end, block_layout, loading_layout, register_layout, blocks_layout, clocked_layout, storage_layout}
use Rattle.vbe_print.specs.Placed.{tree, placed_value, placed_target, placed_assignment, placed_equations, rises, with_condition, placed_guard, placed_blocks, placed_clocked, placed_storage}
use Rattle.vbe_print.specs.Nesting.{shape_of, operand_within, IsWithin, IsValueWithin}
use Rattle.vbe_print.specs.Said.{operators, IsFewValues}
use Rattle.vbe_print.proofs.Spelling.{gate_form, inner_of, on_line, flat, flat_operand, can_spell, as_operand, spell_closed_in, spell_nested, joined_whole}
use Rattle.vbe_print.proofs.Values.{Begins, spell_begun, Stated, valued, stated}

-- ---- targets

spell_selecting : (room : ℕ) (b : Option ℕ) (line : ℕ) (s : State) → Few s → (room == 0) ≡ false → Spells (selecting room) (selected_by b) (placed line (bit_layout b)) s s
unfolding selecting selected closing code_of
spell_selecting room None line s few deep = spell_right (spell_nothing selection.Whole s)
spell_selecting room (Some k) line s few deep =
    spell_left
    (spell_lead (form.Sign sign.LeftParen) (λ _. opens room) (at (token.Sign sign.LeftParen) line) (selection.Bit k) refl (opens_step room s few deep)
    (spell_then k (selection.Bit k) (spell_number k line s few) (spell_left (spell_sign sign.RightParen line (selection.Bit k) few (spell_nothing (selection.Bit k) s)))))

spell_behind : (room : ℕ) (n : Name) (line : ℕ) (s : State) → Few s → (room == 0) ≡ false
    → Spells (target_behind room (at (token.Identifier n.text) line)) (placed_target line n) (placed line (bit_layout n.bit)) s s
unfolding target_behind
spell_behind room n line s few deep =
    let y = placed_target line n in
    spell_as (append-nil (placed line (bit_layout n.bit))) (spell_then (selected_by n.bit) y (spell_selecting room n.bit line s few deep) (spell_nothing y s))

bit_on_line : (line : ℕ) (b : Option ℕ) → line_of line (bit_layout b) ≡ line
bit_on_line line None = refl
bit_on_line line (Some k) = refl

-- ---- equations

-- what is counted behind a statement: no names and no bits
pub record Counted {A : Type 0} (G : Grammar A) (x : A) (ts : List PlacedToken) (s : State) : Type 0 where
  pub behind : State
  pub spelled : Spells G x ts s behind
  pub few : Few behind
  pub same_names : behind.names ≡ s.names
  pub same_bits : behind.bits ≡ s.bits

-- what an equation or a load may have
pub record Holds (vars : List Name) (e : Expression) (room : ℕ) : Type 0 where
  pub nested : IsValueWithin vars e room
  pub few : IsFewValues e

value_there : (vars : List Name) (e : Expression) (room line : ℕ) (s : State) → Holds vars e room → Stated vars e room line (chosen s)
value_there vars e room line s holds =
    let most = holds.few.1 in
    stated vars e room line (chosen s) (valued vars e room line (chosen s) (few_chosen s) refl (omega (arith, most)) holds.nested holds.few.0)

pub spell_equation : (vars : List Name) (n : Name) (e : Expression) (room line : ℕ) (s : State) → Few s → (room == 0) ≡ false → Holds vars e room
    → Counted (statement room) (assigned (placed_assignment vars line n e)) (placed line (equation_layout vars n e)) s
unfolding statement assignment code_of
spell_equation vars n e room line s few deep holds =
    let y = assigned (placed_assignment vars line n e) in
    let v = value_there vars e room line s holds in
    let back : List Written = value_layout vars e ++ (a_sign sign.Semicolon ∷ turn ∷ []) in
    let V = placed line back in
    let B = placed line (bit_layout n.bit) in
    let i : PlacedToken = at (token.Identifier n.text) line in
    let a : PlacedToken = at (token.Sign sign.Assign) line in
    record {
      behind = v.behind;
      spelled =
          spell_as (ap (λ (z : List PlacedToken). i ∷ z) (sym (on_line line (bit_layout n.bit) (gap ∷ a_sign sign.Assign ∷ gap ∷ back) (bit_on_line line n.bit))))
          (spell_right
          (spell_lead form.Identifier (λ _. plain) i y refl (plain_step s few)
          (spell_right
          (spell_then (placed_target line n) y (spell_behind room n line s few deep)
          (spell_lead (form.Sign sign.Assign) (λ _. chooses) a y refl (chooses_step s few)
          (spell_as (append-nil V) (spell_then (placed_value vars line e) y v.spelled (spell_nothing y v.behind))))))));
      few = v.few;
      same_names = v.same_names;
      same_bits = v.same_bits;
    }

-- ---- guards

spell_stable : (room : ℕ) (inner : Grammar Tree) (x : List ℕ) (line : ℕ) (s : State) → Few s
    → Spells (primary_of room inner) (stable x line) (at (token.Identifier x) line ∷ at (token.Sign sign.Tick) line ∷ at (token.Identifier (codes "stable")) line ∷ []) s s
unfolding primary_of named suffix code_of
spell_stable room inner x line s few =
    let y = stable x line in
    spell_right (spell_right (spell_right (spell_right
    (spell_lead form.Identifier (λ _. plain) (at (token.Identifier x) line) y refl (plain_step s few)
    (spell_right (spell_left
    (spell_sign sign.Tick line y few
    (spell_lead form.Identifier (λ u. spells (codes "stable") (name_of u)) (at (token.Identifier (codes "stable")) line) y refl (spells_step (codes "stable") s few) (spell_nothing y s)))))))))

spell_cat : (room : ℕ) (inner : Grammar Tree) (x : Tree) {ts : List PlacedToken} {s s' : State} → Spells (factor room inner) x ts s s' → Spells (cat room inner) x ts s s'
unfolding cat
spell_cat room inner x {ts} {s} {s'} p =
    spell_as (append-nil ts) (spell_then x x p (spell_then [] x (spell_none (joined_by (form.Sign sign.Ampersand) (factor room inner)) s') (spell_nothing x s')))

-- `= '1'` behind an operand
spell_equal : (room : ℕ) (inner : Grammar Tree) (x : Tree) (line : ℕ) {ts : List PlacedToken} {s s' : State} → Few s' → s'.operators < CHAIN → Spells (primary_of room inner) x ts s s'
    → Spells (expression_over room inner) (binary operator.Equal line x (bit true line)) (ts ++ (at (token.Sign sign.Equal) line ∷ at (token.Bit true) line ∷ [])) s (with_operator s')
unfolding relation pair_of code_of
spell_equal room inner x line {ts} {s} {s'} few free p =
    let y = binary operator.Equal line x (bit true line) in
    let second : ℕ × Tree = (line, bit true line) in
    let one = spell_joined (form.Sign sign.Equal) (cat room inner) (at (token.Sign sign.Equal) line) (bit true line) {s = s'} refl few free
    (spell_cat room inner (bit true line) (spell_plain_factor room inner (bit true line) (spell_bit room inner true line (with_operator s') few))) in
    spell_alone room inner y
    (spell_then x y (spell_cat room inner x (spell_plain_factor room inner x p)) (spell_left (spell_then second y one (spell_nothing y (with_operator s')))))

-- the clock's rise, from the clock on
abbrev pub inside_layout : List Name → Name → Expression → List Written
inside_layout vars clock e =
    a_name clock.text ∷ gap ∷ a_word word.And ∷ gap ∷ a_word word.Not ∷ gap ∷ a_name clock.text ∷ a_sign sign.Tick ∷ a_name (codes "stable") ∷ condition_layout vars e

-- what is counted in a guard beside its relation
pub record Guarded (vars : List Name) (clock : Name) (e : Expression) (n line : ℕ) (s : State) : Type 0 where
  pub behind : State
  pub spelled : Spells (expression_over n (inner_of n)) (with_condition vars line (rises line clock) e) (placed line (inside_layout vars clock e)) s behind
  pub flat : line_of line (condition_layout vars e) ≡ line
  pub few : Few behind
  pub less : behind.operators < CHAIN
  pub same_names : behind.names ≡ s.names
  pub same_bits : behind.bits ≡ s.bits

rise_first : (clock : Name) (n line : ℕ) (s : State) → Few s → Spells (relation n (inner_of n)) (name clock.text line) (at (token.Identifier clock.text) line ∷ []) s s
rise_first clock n line s few =
    spell_relation n (inner_of n) (name clock.text line) (spell_plain_factor n (inner_of n) (name clock.text line) (spell_named n (inner_of n) clock.text line s few))

rise_second : (clock : Name) (n line : ℕ) (s : State) → Few s → s.operators + 1 < CHAIN
    → Spells (joined_by (gate_form gate.And) (relation n (inner_of n))) (line, inverse line (stable clock.text line))
    (at (token.Keyword word.And) line ∷ at (token.Keyword word.Not) line ∷ at (token.Identifier clock.text) line ∷ at (token.Sign sign.Tick) line ∷ at (token.Identifier (codes "stable")) line ∷ []) s (with_operator (with_operator s))
unfolding code_of
rise_second clock n line s few free =
    let x = stable clock.text line in
    spell_joined (gate_form gate.And) (relation n (inner_of n)) (at (token.Keyword word.And) line) (inverse line x) {s = s} refl few (omega (arith, free))
    (spell_relation n (inner_of n) (inverse line x)
    (spell_not n (inner_of n) x line {s = with_operator s} few (omega (arith, free)) (spell_stable n (inner_of n) clock.text line (with_operator (with_operator s)) few)))

-- no condition beside the rise
rise_alone : (vars : List Name) (clock : Name) (n line : ℕ) (s : State) → Few s → s.operators ≡ 0 → Guarded vars clock (constant true) n line s
rise_alone vars clock n line s few none = record {
  behind = with_operator (with_operator s);
  spelled =
      let second : ℕ × Tree = (line, inverse line (stable clock.text line)) in
      joined_whole gate.And (name clock.text line) [] second n refl (rise_first clock n line s few)
      (spell_as (append-nil _) (spell_more (rise_second clock n line s few (omega (arith, none))) (spell_none (joined_by (gate_form gate.And) (relation n (inner_of n))) (with_operator (with_operator s)))));
  flat = refl;
  few = few;
  less = omega (arith, none);
  same_names = refl;
  same_bits = refl;
}

-- with an operand beside it
rise_and : (vars : List Name) (clock : Name) (e : Expression) (n line : ℕ) (s : State) → Few s → s.operators ≡ 0 → operand_within (shape_of vars e) (IsWithin vars e) n → 4 + operators e ≤ CHAIN
    → condition_layout vars e ≡ gap ∷ a_word word.And ∷ gap ∷ operand (laid vars e) → with_condition vars line (rises line clock) e ≡ binary operator.And line (rises line clock) (tree vars line e)
    → Guarded vars clock e n line s
unfolding code_of
rise_and vars clock e n line s few none within free layout_is tree_is =
    let s2 = with_operator (with_operator s) in
    let s3 = with_operator s2 in
    let s4 = with_links (operators e) s3 in
    let operands = relation n (inner_of n) in
    let second : ℕ × Tree = (line, inverse line (stable clock.text line)) in
    let third : ℕ × Tree = (line, tree vars line e) in
    let two = rise_second clock n line s few (omega (arith, none)) in
    let three = spell_joined (gate_form gate.And) operands (at (token.Keyword word.And) line) (tree vars line e) {s = s2} refl few (omega (arith, none))
    (as_operand vars e (can_spell vars e) n line s3 few within (omega (arith, none, free))) in
    let O = placed line (operand (laid vars e)) in
    let all = joined_whole gate.And (name clock.text line) (second ∷ []) third n refl (rise_first clock n line s few)
    (spell_more two (spell_as (append-nil (at (token.Keyword word.And) line ∷ O)) (spell_more three (spell_none (joined_by (gate_form gate.And) operands) s4)))) in
    let front : List PlacedToken =
    at (token.Identifier clock.text) line ∷ at (token.Keyword word.And) line ∷ at (token.Keyword word.Not) line ∷ at (token.Identifier clock.text) line ∷ at (token.Sign sign.Tick) line ∷ at (token.Identifier (codes "stable")) line ∷ [] in
    record {
      behind = s4;
      spelled =
          spell_as (ap (λ (ws : List Written). front ++ placed line ws) (sym layout_is))
          (subst (λ (x : Tree). Spells (expression_over n (inner_of n)) x (front ++ (at (token.Keyword word.And) line ∷ O)) s s4) (sym tree_is) all);
      flat = ap (line_of line) layout_is ∙ flat_operand line (laid vars e) (flat vars line e);
      few = few;
      less = omega (arith, none, free);
      same_names = refl;
      same_bits = refl;
    }

guarded : (vars : List Name) (clock : Name) (e : Expression) (n line : ℕ) (s : State) → Few s → s.operators ≡ 0 → operand_within (shape_of vars e) (IsWithin vars e) n → 4 + operators e ≤ CHAIN
    → Guarded vars clock e n line s
guarded vars clock (constant true) n line s few none within free = rise_alone vars clock n line s few none
guarded vars clock (constant false) n line s few none within free = rise_and vars clock (constant false) n line s few none within free refl refl
guarded vars clock (variable k) n line s few none within free = rise_and vars clock (variable k) n line s few none within free refl refl
guarded vars clock (not_of e) n line s few none within free = rise_and vars clock (not_of e) n line s few none within free refl refl
guarded vars clock (pair g a b) n line s few none within free = rise_and vars clock (pair g a b) n line s few none within free refl refl
guarded vars clock (choice c a b) n line s few none within free = rise_and vars clock (choice c a b) n line s few none within free refl refl

-- the guard's expression, in its own parentheses and with the relation behind these
abbrev pub relation_layout : List Name → Name → Expression → List Written
relation_layout vars clock e = in_parentheses (inside_layout vars clock e) ++ (gap ∷ a_sign sign.Equal ∷ gap ∷ says (token.Bit true) ∷ [])

spell_relation_of : (vars : List Name) (clock : Name) (e : Expression) (n line : ℕ) (s : State) → Few s → (g : Guarded vars clock e n line s)
    → Spells (expression (suc n)) (placed_guard vars line clock e) (placed line (relation_layout vars clock e)) s (with_operator g.behind)
spell_relation_of vars clock e n line s few g =
    let x = with_condition vars line (rises line clock) e in
    let ws = inside_layout vars clock e in
    let closed = spell_closed_in n x ws line few g.few g.flat g.spelled in
    let flat_closed : line_of line (in_parentheses ws) ≡ line = line_append line ws (a_sign sign.RightParen ∷ []) ∙ g.flat in
    let all = spell_equal (suc n) (nested n n) x line g.few g.less closed in
    spell_some (suc n) (spell_nested (suc n) (placed_guard vars line clock e)
    (spell_as (sym (on_line line (in_parentheses ws) (gap ∷ a_sign sign.Equal ∷ gap ∷ says (token.Bit true) ∷ []) flat_closed)) all))

-- ---- blocks

spell_guard : (vars : List Name) (clock : Name) (e : Expression) (room n line : ℕ) (s : State) → Few s → (room == 0) ≡ false → room - 1 ≡ suc n → operand_within (shape_of vars e) (IsWithin vars e) n → 4 + operators e ≤ CHAIN
    → Counted (guard room) (line, placed_guard vars line clock e)
    (at (token.Keyword word.Block) line ∷ at (token.Sign sign.LeftParen) line ∷ placed line (relation_layout vars clock e) ++ (at (token.Sign sign.RightParen) line ∷ [])) s
unfolding guard closing code_of
spell_guard vars clock e room n line s few deep deeper within free =
    let y : ℕ × Tree = (line, placed_guard vars line clock e) in
    let g = guarded vars clock e n line (started s) few refl within free in
    let t = with_operator g.behind in
    let G = spell_relation_of vars clock e n line (started s) few g in
    let b : Begins line (placed line (relation_layout vars clock e)) =
    record { first = at (token.Sign sign.LeftParen) line; others = placed line ((inside_layout vars clock e ++ a_sign sign.RightParen ∷ []) ++ (gap ∷ a_sign sign.Equal ∷ gap ∷ says (token.Bit true) ∷ [])); are = refl; on = refl } in
    let H : Spells (expression (room - 1)) (placed_guard vars line clock e) (placed line (relation_layout vars clock e)) (started s) t =
    subst (λ k. Spells (expression k) (placed_guard vars line clock e) (placed line (relation_layout vars clock e)) (started s) t) (sym deeper) G in
    record {
      behind = t;
      spelled =
          spell_lead (form.Keyword word.Block) (λ _. starts) (at (token.Keyword word.Block) line) y refl (starts_step s few)
          (spell_lead (form.Sign sign.LeftParen) (λ _. opens room) (at (token.Sign sign.LeftParen) line) y refl (opens_step room (started s) few deep)
          (spell_then y y (spell_begun line b H) (spell_sign sign.RightParen line y g.few (spell_nothing y t))));
      few = g.few;
      same_names = g.same_names;
      same_bits = g.same_bits;
    }

pub spell_loading : (vars : List Name) (r : Register) (room line : ℕ) (s : State) → Few s → (room == 0) ≡ false → Holds vars r.next room
    → Counted (guarded_assignment room) (placed_assignment vars line r.name r.next) (placed line (loading_layout vars r)) s
unfolding guarded_assignment target code_of
spell_loading vars r room line s few deep holds =
    let n = r.name in
    let y = placed_assignment vars line n r.next in
    let v = value_there vars r.next room line s holds in
    let back : List Written = value_layout vars r.next ++ (a_sign sign.Semicolon ∷ turn ∷ []) in
    let V = placed line back in
    let i : PlacedToken = at (token.Identifier n.text) line in
    record {
      behind = v.behind;
      spelled =
          spell_as (ap (λ (z : List PlacedToken). i ∷ z) (sym (on_line line (bit_layout n.bit) (gap ∷ a_sign sign.Assign ∷ gap ∷ a_word word.Guarded ∷ gap ∷ back) (bit_on_line line n.bit))))
          (spell_then (placed_target line n) y
          (spell_lead form.Identifier (λ _. plain) i (placed_target line n) refl (plain_step s few) (spell_behind room n line s few deep))
          (spell_sign sign.Assign line y few
          (spell_lead (form.Keyword word.Guarded) (λ _. chooses) (at (token.Keyword word.Guarded) line) y refl (chooses_step s few)
          (spell_as (append-nil V) (spell_then (placed_value vars line r.next) y v.spelled (spell_nothing y v.behind))))));
      few = v.few;
      same_names = v.same_names;
      same_bits = v.same_bits;
    }

-- the head and the guard of a block stand on one line
guard_on_line : (vars : List Name) (clock : Name) (k : ℕ) (e : Expression) (line : ℕ) (rest : List Written) → line_of line (condition_layout vars e) ≡ line
    → placed line (block_head_layout vars clock k e ++ rest)
    ≡ at (token.Identifier (label k)) line ∷ at (token.Sign sign.Colon) line ∷ (at (token.Keyword word.Block) line ∷ at (token.Sign sign.LeftParen) line ∷ placed line (relation_layout vars clock e) ++ (at (token.Sign sign.RightParen) line ∷ []))
    ++ (at (token.Keyword word.Begin) (line_behind line) ∷ placed (line_behind (line_behind line)) rest)
guard_on_line vars clock k e line rest same =
    let C = condition_layout vars e in
    let c = placed line C in
    let B : List Written = a_word word.Begin ∷ turn ∷ [] in
    let P : List Written = a_sign sign.RightParen ∷ [] in
    let D : List Written = gap ∷ a_sign sign.Equal ∷ gap ∷ says (token.Bit true) ∷ [] in
    let three : List PlacedToken = at (token.Sign sign.RightParen) line ∷ at (token.Sign sign.Equal) line ∷ at (token.Bit true) line ∷ [] in
    let close : List PlacedToken = at (token.Sign sign.RightParen) line ∷ [] in
    let T : List PlacedToken = at (token.Keyword word.Begin) (line_behind line) ∷ placed (line_behind (line_behind line)) rest in
    let front : List PlacedToken =
    at (token.Identifier (label k)) line ∷ at (token.Sign sign.Colon) line ∷ at (token.Keyword word.Block) line ∷ at (token.Sign sign.LeftParen) line ∷ at (token.Sign sign.LeftParen) line ∷ at (token.Identifier clock.text) line
    ∷ at (token.Keyword word.And) line ∷ at (token.Keyword word.Not) line ∷ at (token.Identifier clock.text) line ∷ at (token.Sign sign.Tick) line ∷ at (token.Identifier (codes "stable")) line ∷ [] in
    let left : placed line (((C ++ guard_end) ++ B) ++ rest) ≡ c ++ (three ++ (close ++ T)) =
    ap (placed line) (append_assoc (C ++ guard_end) B rest ∙ append_assoc C guard_end (B ++ rest)) ∙ on_line line C (guard_end ++ (B ++ rest)) same in
    let right : (placed line ((C ++ P) ++ D) ++ close) ++ T ≡ c ++ (three ++ (close ++ T)) =
    ap (λ (z : List PlacedToken). (z ++ close) ++ T) (ap (placed line) (append_assoc C P D) ∙ on_line line C (P ++ D) same)
    ∙ append_assoc (c ++ three) close T ∙ append_assoc c three (close ++ T) in
    ap (λ (z : List PlacedToken). front ++ z) (left ∙ sym right)

-- the condition stands on one line
condition_flat : (vars : List Name) (e : Expression) (line : ℕ) → line_of line (condition_layout vars e) ≡ line
condition_flat vars (constant true) line = refl
condition_flat vars (constant false) line = refl
condition_flat vars (variable k) line = flat_operand line (laid vars (variable k)) (flat vars line (variable k))
condition_flat vars (not_of e) line = flat_operand line (laid vars (not_of e)) (flat vars line (not_of e))
condition_flat vars (pair g a b) line = flat_operand line (laid vars (pair g a b)) (flat vars line (pair g a b))
condition_flat vars (choice c a b) line = flat_operand line (laid vars (choice c a b)) (flat vars line (choice c a b))

-- a block with these assignments, wherever they stand
pub spell_block : (vars : List Name) (clock : Name) (e : Expression) (k room n line : ℕ) (loads : List AssignmentTree) (ws : List Written) (s : State) → Few s → (room == 0) ≡ false → room - 1 ≡ suc n
    → operand_within (shape_of vars e) (IsWithin vars e) n → 4 + operators e ≤ CHAIN
    → ((t : State) → Few t → Counted (list (guarded_assignment room)) loads (placed (line_behind (line_behind line)) ws) t)
    → Counted (statement room) (blocked (record { guard = placed_guard vars line clock e; line = line; assignments = loads })) (placed line (block_layout vars clock k e ws)) s
unfolding statement labelled block guarded_assignments repeated code_of
spell_block vars clock e k room n line loads ws s few deep deeper within free inside =
    let y : StatementTree = blocked (record { guard = placed_guard vars line clock e; line = line; assignments = loads }) in
    let g = spell_guard vars clock e room n line s few deep deeper within free in
    let c = inside g.behind g.few in
    let b = line_behind line in
    let l = line_behind b in
    let m = line_of l ws in
    let A = placed l ws in
    let i : PlacedToken = at (token.Identifier (label k)) line in
    let w : PlacedToken = at (token.Sign sign.Colon) line in
    let G : List PlacedToken = at (token.Keyword word.Block) line ∷ at (token.Sign sign.LeftParen) line ∷ placed line (relation_layout vars clock e) ++ (at (token.Sign sign.RightParen) line ∷ []) in
    let start : PlacedToken = at (token.Keyword word.Begin) b in
    let end : List PlacedToken = at (token.Keyword word.End) m ∷ [] in
    let last : List PlacedToken = at (token.Keyword word.Block) m ∷ at (token.Sign sign.Semicolon) m ∷ [] in
    let laid_is : placed line (block_layout vars clock k e ws) ≡ i ∷ w ∷ G ++ ((start ∷ A ++ end) ++ last) =
    guard_on_line vars clock k e line (ws ++ block_end) (condition_flat vars e line)
    ∙ ap (λ (z : List PlacedToken). i ∷ w ∷ G ++ (start ∷ z)) (placed_append l ws block_end ∙ sym (append_assoc A end last)) in
    record {
      behind = c.behind;
      spelled =
          spell_as (sym laid_is)
          (spell_right
          (spell_lead form.Identifier (λ _. plain) i y refl (plain_step s few)
          (spell_left
          (spell_sign sign.Colon line y few
          (spell_right (spell_left
          (spell_then (line, placed_guard vars line clock e) y g.spelled
          (spell_then loads y
          (spell_word word.Begin b loads g.few (spell_then loads loads c.spelled (spell_word word.End m loads c.few (spell_nothing loads c.behind))))
          (spell_word word.Block m y c.few
          (spell_then tt y (spell_right (spell_sign sign.Semicolon m tt c.few (spell_nothing tt c.behind))) (spell_nothing y c.behind)))))))))));
      few = c.few;
      same_names = c.same_names ∙ g.same_names;
      same_bits = c.same_bits ∙ g.same_bits;
    }

-- ---- statements one behind the other

pub counted_as : {A : Type 0} {G : Grammar A} {x : A} {ts us : List PlacedToken} {s : State} → ts ≡ us → Counted G x ts s → Counted G x us s
counted_as same c = record { behind = c.behind; spelled = spell_as same c.spelled; few = c.few; same_names = c.same_names; same_bits = c.same_bits }

pub counted_none : {A : Type 0} (L : Grammar A) (s : State) → Few s → Counted (list L) [] [] s
counted_none L s few = record { behind = s; spelled = spell_none L s; few = few; same_names = refl; same_bits = refl }

pub counted_more : {A : Type 0} {L : Grammar A} {x : A} {xs : List A} {ts us : List PlacedToken} {s : State} → Counted L x ts s → ((t : State) → Few t → Counted (list L) xs us t)
    → Counted (list L) (x ∷ xs) (ts ++ us) s
counted_more one more =
    let back = more one.behind one.few in
    record {
      behind = back.behind;
      spelled = spell_more one.spelled back.spelled;
      few = back.few;
      same_names = back.same_names ∙ one.same_names;
      same_bits = back.same_bits ∙ one.same_bits;
    }

-- what stands behind them is spelled behind them
pub spell_equations : (vars names : List Name) (es : List Equation) (room line : ℕ) (xs : List StatementTree) (us : List PlacedToken) (s : State) → Few s → (room == 0) ≡ false
    → All (λ e. Holds vars e.expr room) es → ((t : State) → Few t → Counted (list (statement room)) xs us t)
    → Counted (list (statement room)) (placed_equations vars line names es ++ xs) (placed line (equations_layout vars names es) ++ us) s
spell_equations vars [] es room line xs us s few deep holds back = back s few
spell_equations vars (n ∷ names) [] room line xs us s few deep holds back = back s few
spell_equations vars (n ∷ names) (e ∷ es) room line xs us s few deep holds back =
    let H : Equation → Type 0 = λ e. Holds vars e.expr room in
    let A = placed line (equation_layout vars n e.expr) in
    let l = line_of line (equation_layout vars n e.expr) in
    let B = placed l (equations_layout vars names es) in
    counted_as
    (sym (append_assoc A B us) ∙ ap (λ (z : List PlacedToken). z ++ us) (sym (placed_append line (equation_layout vars n e.expr) (equations_layout vars names es))))
    (counted_more (spell_equation vars n e.expr room line s few deep (All-head H e es holds))
    (λ t f. spell_equations vars names es room l xs us t f deep (All-tail H e es holds) back))

-- what a register's block may have
pub record CanLoad (vars : List Name) (r : Register) (room n : ℕ) : Type 0 where
  pub holds : Holds vars r.next room
  pub within : operand_within (shape_of vars r.enable) (IsWithin vars r.enable) n
  pub free : 4 + operators r.enable ≤ CHAIN

one_loading : (vars : List Name) (r : Register) (room line : ℕ) → (room == 0) ≡ false → Holds vars r.next room → (t : State) → Few t
    → Counted (list (guarded_assignment room)) (placed_assignment vars line r.name r.next ∷ []) (placed line (loading_layout vars r)) t
one_loading vars r room line deep holds t few =
    counted_as (append-nil (placed line (loading_layout vars r))) (counted_more (spell_loading vars r room line t few deep holds) (λ u f. counted_none (guarded_assignment room) u f))

spell_blocks : (vars : List Name) (clock : Name) (k : ℕ) (rs : List Register) (room n line : ℕ) (s : State) → Few s → (room == 0) ≡ false → room - 1 ≡ suc n → All (λ r. CanLoad vars r room n) rs
    → Counted (list (statement room)) (placed_blocks vars line clock k rs) (placed line (blocks_layout vars clock k rs)) s
spell_blocks vars clock k [] room n line s few deep deeper can = counted_none (statement room) s few
spell_blocks vars clock k (r ∷ rs) room n line s few deep deeper can =
    let C : Register → Type 0 = λ r. CanLoad vars r room n in
    let c = All-head C r rs can in
    let l = line_of line (register_layout vars clock k r) in
    counted_as (sym (placed_append line (register_layout vars clock k r) (blocks_layout vars clock (k + 1) rs)))
    (counted_more
    (spell_block vars clock r.enable k room n line (placed_assignment vars (line_behind (line_behind line)) r.name r.next ∷ []) (loading_layout vars r) s few deep deeper c.within c.free
    (λ t f. one_loading vars r room (line_behind (line_behind line)) deep c.holds t f))
    (λ t f. spell_blocks vars clock (k + 1) rs room n l t f deep deeper (All-tail C r rs can)))

spell_clocked : (vars : List Name) (clock : Name) (rs : List Register) (room n line : ℕ) (s : State) → Few s → (room == 0) ≡ false → room - 1 ≡ suc n → All (λ r. CanLoad vars r room n) rs
    → Counted (list (statement room)) (placed_clocked vars line clock rs) (placed line (clocked_layout vars clock rs)) s
spell_clocked vars clock [] room n line s few deep deeper can =
    counted_as (append-nil (placed line (block_layout vars clock 0 (constant true) [])))
    (counted_more
    (spell_block vars clock (constant true) 0 room n line [] [] s few deep deeper tt (omega arith) (λ t f. counted_none (guarded_assignment room) t f))
    (λ t f. counted_none (statement room) t f))
spell_clocked vars clock (r ∷ rs) room n line s few deep deeper can = spell_blocks vars clock 0 (r ∷ rs) room n line s few deep deeper can

pub spell_storage : (vars : List Name) (clock : Option Name) (rs : List Register) (room n line : ℕ) (s : State) → Few s → (room == 0) ≡ false → room - 1 ≡ suc n → All (λ r. CanLoad vars r room n) rs
    → Counted (list (statement room)) (placed_storage vars line clock rs) (placed line (storage_layout vars clock rs)) s
spell_storage vars None rs room n line s few deep deeper can = counted_none (statement room) s few
spell_storage vars (Some clock) rs room n line s few deep deeper can = spell_clocked vars clock rs room n line s few deep deeper can
