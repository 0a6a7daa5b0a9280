-- An expression's first token.
use Rattle.std.proofs.Common.{◌≡◌, ℕ, Bool, true, false, List, [], ◌∷◌, ◌++◌, Ok, refl, sym, ap, ◌∙◌}
use Rattle.vlsi_base.specs.declared.name.Name.{Name}
use Rattle.bool_expr.specs.declared.expr.Gate.{Gate}
use Rattle.bool_expr.specs.declared.expr.Gate.TheVariants as gate
use Rattle.bool_expr.specs.Expression.{Expression, constant, variable, inverse as not_of, pair, choice}
use Rattle.vhdl_token.specs.declared.keyword.Keyword.TheVariants as word
use Rattle.vhdl_token.specs.declared.token.PlacedToken.{PlacedToken}
use Rattle.vhdl_token.specs.declared.token.Token.TheVariants as token
use Rattle.vhdl_token.specs.declared.token.Sign.TheVariants as sign
use Rattle.grammar_theory.specs.Marks.{Item, State, run}
use Rattle.grammar_theory.specs.Grammar.{Grammar}
use Rattle.grammar_theory.specs.Answers.{tokens_of}
use Rattle.spell_theory.specs.Spells.{Spells}
use Rattle.spell_theory.specs.Layout.{Written, gap, placed, line_of}
use Rattle.spell_theory.proofs.Layouts.{placed_append}
use Rattle.vhdl_print.specs.Outline.{a_word, a_sign}
use Rattle.vhdl_print.proofs.Entities.{at}
use Rattle.vst_print.specs.Structure.{bit_layout}
use Rattle.vbe_print.specs.Expressions.{Shape, atom, turned, joined, Laid, gate_word, chains, in_parentheses, unless, primary, operand, leading, laid, name_of, expression_layout}
use Rattle.vbe_print.proofs.Values.{Begins}
use Rattle.fsm_text.specs.Fsm.{headed}
use Rattle.fsm_text.specs.FsmReading.{kept_here}

-- what these begin with, the others in front of which they stand begin with too
in_front : (line : ℕ) (xs ys : List Written) → Begins line (placed line xs) → Begins line (placed line (xs ++ ys))
in_front line xs ys b = record {
  first = b.first;
  others = b.others ++ placed (line_of line xs) ys;
  are = placed_append line xs ys ∙ ap (λ (z : List PlacedToken). z ++ placed (line_of line xs) ys) b.are;
  on = b.on;
}

of_leading : (g : Gate) (l : Laid) (line : ℕ) → Begins line (placed line l.text) → Begins line (placed line (leading g l))
of_leading g l line b = by l.shape where
  closed : Begins line (placed line (in_parentheses l.text))
  closed = record { first = at (token.Sign sign.LeftParen) line; others = placed line (l.text ++ a_sign sign.RightParen ∷ []); are = refl; on = refl }

  either : (c : Bool) → Begins line (placed line (unless c l.text))
  either true = b
  either false = closed

  by : (k : Shape) → Begins line (placed line (leading g (record { shape = k; text = l.text })))
  by atom = b
  by turned = b
  by (joined h) = either (chains g h)

of_pair : (names : List Name) (g : Gate) (a b : Expression) (line : ℕ) → Begins line (placed line (expression_layout names a)) → Begins line (placed line (expression_layout names (pair g a b)))
of_pair names g a b line p =
    in_front line (leading g (laid names a)) (gap ∷ a_word (gate_word g) ∷ gap ∷ operand (laid names b)) (of_leading g (laid names a) line p)

pub begins : (names : List Name) (e : Expression) (line : ℕ) → Begins line (placed line (expression_layout names e))
begins names (constant b) line = record { first = at (token.Bit b) line; others = []; are = refl; on = refl }
begins names (variable k) line =
    record { first = at (token.Identifier (name_of names k).text) line; others = placed line (bit_layout (name_of names k).bit); are = refl; on = refl }
begins names (not_of e) line = record { first = at (token.Keyword word.Not) line; others = placed line (primary (laid names e)); are = refl; on = refl }
begins names (pair g a b) line = of_pair names g a b line (begins names a line)
begins names (choice c a b) line = of_pair names gate.Or (pair gate.And c a) (pair gate.And (not_of c) b) line (of_pair names gate.And c a line (begins names c line))

-- with what is kept of the first token, of which there is one
pub spell_headed : {A : Type 0} {L : Grammar A} {x : A} {line : ℕ} {ts : List PlacedToken} {s s' : State} → Begins line ts → Spells L x ts s s' → Spells (headed L) (kept_here ts, x) ts s s'
spell_headed {A} {L} {x} {line} {ts} {s} {s'} b r = by r.items r.are r.sentence r.clean where
  by : (items : List Item) → tokens_of items ≡ ts → L items x → run items s ≡ Ok s' → Spells (headed L) (kept_here ts, x) ts s s'
  by [] are sentence clean = let none : [] ≡ b.first ∷ b.others = are ∙ b.are in absurd cc
  by (i ∷ is) are sentence clean = record { items = i ∷ is; are = are; sentence = (sentence, sym (ap kept_here are)); clean = clean }
