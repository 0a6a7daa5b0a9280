-- A value that is laid out spells itself, with the conditions of its alternatives.
use Rattle.std.proofs.Common.{◌≡◌, ℕ, ◌+◌, ◌≤◌, ◌<◌, Bool, true, false, List, [], ◌∷◌, ◌++◌, refl, sym, ap, subst, ◌∙◌, arith, append_assoc}
use Rattle.std.proofs.lemmas.List.{append-nil}
use Rattle.vlsi_base.specs.declared.name.Name.{Name}
use Rattle.vlsi_base.specs.Tree.{Tree}
use Rattle.bool_expr.specs.declared.expr.Gate.{Gate}
use Rattle.bool_expr.specs.declared.expr.Gate.TheVariants as gate
use Rattle.bool_expr.specs.Expression.{Expression, constant, variable, inverse as not_of, pair, choice}
use Rattle.vhdl_token.specs.declared.keyword.Keyword.TheVariants as word
use Rattle.vhdl_token.specs.declared.token.PlacedToken.{PlacedToken}
use Rattle.vhdl_token.specs.declared.token.Token.TheVariants as token
use Rattle.vhdl_token.specs.declared.token.Sign.TheVariants as sign
use Rattle.grammar_theory.specs.declared.form.Form.TheVariants as form
use Rattle.grammar_theory.specs.declared.limits.TheConstants.{CHAIN}
use Rattle.grammar_theory.specs.Tokens.{code_of}
use Rattle.grammar_theory.specs.Marks.{State, starts, again}
use Rattle.grammar_theory.specs.Grammar.{Grammar, list, placed as placed_at}
use Rattle.vhdl_front.specs.Expression.{expression}
use Rattle.vbe_text.specs.Source.{FurtherTree}
use Rattle.vbe_text.specs.Vbe.{choice_of, further, choice as choice_at, delay, value}
use Rattle.spell_theory.specs.Spells.{Spells}
use Rattle.spell_theory.specs.Layout.{Written, gap, turn, line_behind, placed, line_of}
use Rattle.spell_theory.proofs.Combinators.{spell_nothing, spell_lead, spell_then, spell_right, spell_none, spell_more, spell_placed, spell_as, spell_same}
use Rattle.spell_theory.proofs.Layouts.{placed_append}
use Rattle.vhdl_print.specs.Formula.{with_links}
use Rattle.vhdl_print.specs.Outline.{a_word, a_sign}
use Rattle.vhdl_print.proofs.Entities.{at, spell_sign}
use Rattle.vhdl_print.proofs.Steps.{Few, started, starts_step, one_alternative, again_step, few_alternatives}
use Rattle.vst_print.specs.Structure.{bit_layout}
use Rattle.vbe_print.specs.Expressions.{Shape, atom, turned, joined, Laid, gate_word, chains, in_parentheses, unless, primary, operand, leading, laid, name_of, expression_layout, value_layout}
use Rattle.vbe_print.specs.Placed.{tree, with_alternative, placed_value}
use Rattle.vbe_print.specs.Nesting.{IsValueWithin}
use Rattle.vbe_print.specs.Said.{operators, AreFewOperators, alternatives}
use Rattle.vbe_print.proofs.Spelling.{flat, on_line, spell_expression}

-- ---- the line of the first token

-- these begin with a token on this line
pub record Begins (line : ℕ) (ts : List PlacedToken) : Type 0 where
  pub first : PlacedToken
  pub others : List PlacedToken
  pub are : ts ≡ first ∷ others
  pub on : first.line ≡ line

begins_append : (line : ℕ) (ts us : List PlacedToken) → Begins line ts → Begins line (ts ++ us)
begins_append line ts us b = record { first = b.first; others = b.others ++ us; are = ap (λ (z : List PlacedToken). z ++ us) b.are; on = b.on }

begins_as : (line : ℕ) (ts us : List PlacedToken) → us ≡ ts → Begins line ts → Begins line us
begins_as line ts us same b = record { first = b.first; others = b.others; are = same ∙ b.are; on = b.on }

begins_closed : (line : ℕ) (ws : List Written) → Begins line (placed line (in_parentheses ws))
begins_closed line ws = record { first = at (token.Sign sign.LeftParen) line; others = placed line (ws ++ a_sign sign.RightParen ∷ []); are = refl; on = refl }

begins_leading : (g : Gate) (l : Laid) (line : ℕ) → Begins line (placed line l.text) → Begins line (placed line (leading g l))
begins_leading g l line b = by l.shape where
  either : (c : Bool) → Begins line (placed line (unless c l.text))
  either true = b
  either false = begins_closed line l.text

  by : (k : Shape) → Begins line (placed line (leading g (record { shape = k; text = l.text })))
  by atom = b
  by turned = b
  by (joined h) = either (chains g h)

begins_pair : (names : List Name) (g : Gate) (a b : Expression) (line : ℕ) → Begins line (placed line (expression_layout names a)) → Begins line (placed line (expression_layout names (pair g a b)))
begins_pair names g a b line p =
    let front = leading g (laid names a) in
    let back : List Written = gap ∷ a_word (gate_word g) ∷ gap ∷ operand (laid names b) in
    begins_as line (placed line front ++ placed (line_of line front) back) (placed line (front ++ back)) (placed_append line front back)
    (begins_append line (placed line front) (placed (line_of line front) back) (begins_leading g (laid names a) line p))

begins : (names : List Name) (e : Expression) (line : ℕ) → Begins line (placed line (expression_layout names e))
begins names (constant b) line = record { first = at (token.Bit b) line; others = []; are = refl; on = refl }
begins names (variable k) line =
    record { first = at (token.Identifier (name_of names k).text) line; others = placed line (bit_layout (name_of names k).bit); are = refl; on = refl }
begins names (not_of e) line =
    record { first = at (token.Keyword word.Not) line; others = placed line (primary (laid names e)); are = refl; on = refl }
begins names (pair g a b) line = begins_pair names g a b line (begins names a line)
begins names (choice c a b) line =
    begins_pair names gate.Or (pair gate.And c a) (pair gate.And (not_of c) b) line (begins_pair names gate.And c a line (begins names c line))

-- with the line of the first token
pub spell_begun : {A : Type 0} {L : Grammar A} {x : A} {ts : List PlacedToken} {s s' : State} (line : ℕ) → Begins line ts → Spells L x ts s s' → Spells (placed_at L) (line, x) ts s s'
spell_begun {A} {L} {x} {ts} {s} {s'} line b p =
    let q : Spells (placed_at L) (b.first.line, x) (b.first ∷ b.others) s s' = spell_placed (spell_as b.are p) in
    spell_as (sym b.are) (subst (λ (k : ℕ). Spells (placed_at L) (k, x) (b.first ∷ b.others) s s') b.on q)

-- ---- alternatives

-- the first value, and the conditions and values behind it
abbrev pub first_value : List Name → ℕ → Expression → Tree
first_value names line (constant b) = tree names line (constant b)
first_value names line (variable k) = tree names line (variable k)
first_value names line (not_of e) = tree names line (not_of e)
first_value names line (pair g a b) = tree names line (pair g a b)
first_value names line (choice c a b) = tree names line a

abbrev pub further_values : List Name → ℕ → Expression → List FurtherTree
further_values names line (constant b) = []
further_values names line (variable k) = []
further_values names line (not_of e) = []
further_values names line (pair g a b) = []
further_values names line (choice c a b) =
    record { condition = tree names line c; line = line; value = first_value names (line_behind line) b } ∷ further_values names (line_behind line) b

pub values_are : (names : List Name) (line : ℕ) (e : Expression) → choice_of (first_value names line e) (further_values names line e) ≡ placed_value names line e
values_are names line (constant b) = refl
values_are names line (variable k) = refl
values_are names line (not_of e) = refl
values_are names line (pair g a b) = refl
values_are names line (choice c a b) =
    ap (with_alternative (record { value = tree names line a; condition = tree names line c; line = line })) (values_are names (line_behind line) b)

some_alternatives : (e : Expression) → 1 ≤ alternatives e
some_alternatives (constant b) = omega arith
some_alternatives (variable k) = omega arith
some_alternatives (not_of e) = omega arith
some_alternatives (pair g a b) = omega arith
some_alternatives (choice c a b) = omega arith

-- the first value, the others, and what is counted behind them
pub record Valued (names : List Name) (e : Expression) (room line : ℕ) (s : State) : Type 0 where
  pub front : List PlacedToken
  pub back : List PlacedToken
  pub between : State
  pub behind : State
  pub are : front ++ back ≡ placed line (value_layout names e)
  pub first : Spells (expression room) (first_value names line e) front s between
  pub others : Spells (list (further room)) (further_values names line e) back between behind
  pub few : Few behind
  pub same_names : behind.names ≡ s.names
  pub same_bits : behind.bits ≡ s.bits

one_value : (names : List Name) (e : Expression) (room line : ℕ) (s : State) → first_value names line e ≡ tree names line e → further_values names line e ≡ [] → value_layout names e ≡ expression_layout names e
    → Few s → Spells (expression room) (tree names line e) (placed line (expression_layout names e)) s (with_links (operators e) s) → Valued names e room line s
one_value names e room line s f o v few p = record {
  front = placed line (expression_layout names e);
  back = [];
  between = with_links (operators e) s;
  behind = with_links (operators e) s;
  are = append-nil (placed line (expression_layout names e)) ∙ ap (placed line) (sym v);
  first = subst (λ (x : Tree). Spells (expression room) x (placed line (expression_layout names e)) s (with_links (operators e) s)) (sym f) p;
  others = subst (λ (xs : List FurtherTree). Spells (list (further room)) xs [] (with_links (operators e) s) (with_links (operators e) s)) (sym o) (spell_none (further room) (with_links (operators e) s));
  few = few;
  same_names = refl;
  same_bits = refl;
}

spell_further : (names : List Name) (c : Expression) (room line : ℕ) (v : Tree) (s : State) {us : List PlacedToken} {s' : State} → Few s → s.alternatives < CHAIN
    → Spells (expression room) (tree names line c) (placed line (expression_layout names c)) (started s) (with_links (operators c) (started s))
    → Spells (expression room) v us (one_alternative (with_links (operators c) (started s))) s'
    → Spells (further room) (record { condition = tree names line c; line = line; value = v })
    (at (token.Keyword word.When) line ∷ placed line (expression_layout names c) ++ (at (token.Keyword word.Else) line ∷ us)) s s'
unfolding further code_of
spell_further names c room line v s {us} {s'} few less p q =
    let y : FurtherTree = record { condition = tree names line c; line = line; value = v } in
    spell_lead (form.Keyword word.When) (λ _. starts) (at (token.Keyword word.When) line) y refl (starts_step s few)
    (spell_then (line, tree names line c) y (spell_begun line (begins names c line) p)
    (spell_lead (form.Keyword word.Else) (λ _. again) (at (token.Keyword word.Else) line) y refl (again_step (with_links (operators c) (started s)) few)
    (spell_as (append-nil us) (spell_then v y q (spell_nothing y s')))))

pub valued : (names : List Name) (e : Expression) (room line : ℕ) (s : State) → Few s → s.operators ≡ 0 → s.alternatives + alternatives e ≤ CHAIN + 1 → IsValueWithin names e room → AreFewOperators CHAIN e
    → Valued names e room line s
valued names (constant b) room line s few none within fits free = one_value names (constant b) room line s refl refl refl few (spell_expression names (constant b) room line s few fits (omega (arith, none, free)))
valued names (variable k) room line s few none within fits free = one_value names (variable k) room line s refl refl refl few (spell_expression names (variable k) room line s few fits (omega (arith, none, free)))
valued names (not_of e) room line s few none within fits free = one_value names (not_of e) room line s refl refl refl few (spell_expression names (not_of e) room line s few fits (omega (arith, none, free)))
valued names (pair g a b) room line s few none within fits free = one_value names (pair g a b) room line s refl refl refl few (spell_expression names (pair g a b) room line s few fits (omega (arith, none, free)))
valued names (choice c a b) room line s few none within fits free =
    let s1 = with_links (operators a) s in
    let s2 = with_links (operators c) (started s1) in
    let s3 = one_alternative s2 in
    let l = line_behind line in
    let some = some_alternatives b in
    let v = valued names b room l s3 (few_alternatives s2 (omega (arith, within, some))) refl (omega (arith, within)) fits.1.1 free.1.1 in
    let A = placed line (expression_layout names a) in
    let C = placed line (expression_layout names c) in
    let w : PlacedToken = at (token.Keyword word.When) line in
    let u : PlacedToken = at (token.Keyword word.Else) line in
    let last : List Written = gap ∷ a_word word.Else ∷ turn ∷ gap ∷ gap ∷ gap ∷ gap ∷ value_layout names b in
    let rest : List Written = gap ∷ a_word word.When ∷ gap ∷ expression_layout names c ++ last in
    let less : s.alternatives < CHAIN = omega (arith, within, some) in
    record {
      front = A;
      back = (w ∷ C ++ (u ∷ v.front)) ++ v.back;
      between = s1;
      behind = v.behind;
      are =
          ap (λ (z : List PlacedToken). A ++ (w ∷ z)) (append_assoc C (u ∷ v.front) v.back ∙ ap (λ (z : List PlacedToken). C ++ (u ∷ z)) v.are ∙ sym (on_line line (expression_layout names c) last (flat names line c)))
          ∙ sym (on_line line (expression_layout names a) rest (flat names line a));
      first = spell_expression names a room line s few fits.0 (omega (arith, none, free.0));
      others = spell_more (spell_further names c room line (first_value names l b) s1 few less (spell_expression names c room line (started s1) few fits.1.0 (omega (arith, free.1.0))) v.first) v.others;
      few = v.few;
      same_names = v.same_names;
      same_bits = v.same_bits;
    }

-- a value to the end of its statement
pub record Stated (names : List Name) (e : Expression) (room line : ℕ) (s : State) : Type 0 where
  pub behind : State
  pub spelled : Spells (value room) (placed_value names line e) (placed line (value_layout names e ++ (a_sign sign.Semicolon ∷ turn ∷ []))) s behind
  pub few : Few behind
  pub same_names : behind.names ≡ s.names
  pub same_bits : behind.bits ≡ s.bits

pub stated : (names : List Name) (e : Expression) (room line : ℕ) (s : State) → Valued names e room line s → Stated names e room line s
unfolding value choice_at delay
stated names e room line s v =
    let k = line_of line (value_layout names e) in
    let y = placed_value names line e in
    let V = placed line (value_layout names e) in
    let end : List PlacedToken = at (token.Sign sign.Semicolon) k ∷ [] in
    record {
      behind = v.behind;
      spelled =
          spell_as (sym (placed_append line (value_layout names e) (a_sign sign.Semicolon ∷ turn ∷ [])))
          (spell_then y y
          (spell_as v.are
          (spell_then (first_value names line e) y v.first
          (spell_as (append-nil v.back)
          (spell_then (further_values names line e) y v.others
          (spell_same (choice_of (first_value names line e) (further_values names line e)) y v.behind (sym (values_are names line e)))))))
          (spell_then tt y (spell_right (spell_nothing tt v.behind)) (spell_sign sign.Semicolon k y v.few (spell_nothing y v.behind))));
      few = v.few;
      same_names = v.same_names;
      same_bits = v.same_bits;
    }
