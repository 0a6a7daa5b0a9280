-- How expressions are laid out.
use Rattle.std.specs.Prelude.{ℕ, Bool, true, false, List, [], ◌∷◌, ◌++◌}
use Rattle.std.specs.List.{slice_index_or}
use Rattle.vlsi_base.specs.declared.name.Name.{Name}
use Rattle.vlsi_base.specs.Names.{scalar}
use Rattle.bool_expr.specs.declared.expr.Gate.{Gate}
use Rattle.bool_expr.specs.declared.expr.Gate.TheVariants as gate
use Rattle.bool_expr.specs.Expression.{Expression, constant, variable, inverse, pair, choice}
use Rattle.vhdl_token.specs.declared.keyword.Keyword.{Keyword}
use Rattle.vhdl_token.specs.declared.keyword.Keyword.TheVariants as word
use Rattle.vhdl_token.specs.declared.token.Token.TheVariants as token
use Rattle.vhdl_token.specs.declared.token.Sign.TheVariants as sign
use Rattle.spell_theory.specs.Layout.{Written, gap, turn, says}
use Rattle.vhdl_print.specs.Outline.{a_word, a_sign}
use Rattle.vst_print.specs.Structure.{name_layout}

-- what stands last in an expression: a name or a bit; `not`; or a gate between its operands
pub data Shape : Type 0 where
  atom : Shape
  turned : Shape
  joined : Gate → Shape

-- an expression that is laid out
pub record Laid : Type 0 where
  pub shape : Shape
  pub text : List Written

abbrev pub gate_word : Gate → Keyword
gate_word gate.And = word.And
gate_word gate.Or = word.Or
gate_word gate.Nand = word.Nand
gate_word gate.Nor = word.Nor
gate_word gate.Xor = word.Xor
gate_word gate.Xnor = word.Xnor

-- more than two operands may be joined by both gates, which are one: they are grouped from the left
abbrev pub chains : Gate → Gate → Bool
chains gate.And gate.And = true
chains gate.Or gate.Or = true
chains gate.Xor gate.Xor = true
chains gate.Xnor gate.Xnor = true
chains _ _ = false

abbrev pub in_parentheses : List Written → List Written
in_parentheses text = a_sign sign.LeftParen ∷ text ++ (a_sign sign.RightParen ∷ [])

-- behind `not`: in parentheses, unless it is a name or a bit
abbrev pub primary : Laid → List Written
primary l = by l.shape where
  by : Shape → List Written
  by atom = l.text
  by turned = in_parentheses l.text
  by (joined g) = in_parentheses l.text

-- as an operand of a gate: in parentheses, where a gate stands in it
abbrev pub operand : Laid → List Written
operand l = by l.shape where
  by : Shape → List Written
  by atom = l.text
  by turned = l.text
  by (joined g) = in_parentheses l.text

abbrev pub unless : Bool → List Written → List Written
unless true text = text
unless false text = in_parentheses text

-- as the first operand of a gate: without parentheses also where operands are joined by that gate
abbrev pub leading : Gate → Laid → List Written
leading g l = by l.shape where
  by : Shape → List Written
  by atom = l.text
  by turned = l.text
  by (joined h) = unless (chains g h) l.text

abbrev pub turn_round : Laid → Laid
turn_round l = record { shape = turned; text = a_word word.Not ∷ gap ∷ primary l }

abbrev pub join : Gate → Laid → Laid → Laid
join g a b = record { shape = joined g; text = leading g a ++ (gap ∷ a_word (gate_word g) ∷ gap ∷ operand b) }

-- the name of a variable
abbrev pub name_of : List Name → ℕ → Name
name_of names k = slice_index_or names k (scalar [])

-- An expression over the numbers of these names. A choice within it is written by `and`, `or` and `not`, since texts have it for whole
-- values alone.
abbrev pub laid : List Name → Expression → Laid
laid names (constant b) = record { shape = atom; text = says (token.Bit b) ∷ [] }
laid names (variable k) = record { shape = atom; text = name_layout (name_of names k) }
laid names (inverse e) = turn_round (laid names e)
laid names (pair g a b) = join g (laid names a) (laid names b)
laid names (choice c a b) =
    join gate.Or (join gate.And (laid names c) (laid names a)) (join gate.And (turn_round (laid names c)) (laid names b))

-- a whole expression
abbrev pub expression_layout : List Name → Expression → List Written
expression_layout names e = (laid names e).text

-- a whole value: each alternative with its condition, the next one behind `else` on a line of its own
abbrev pub value_layout : List Name → Expression → List Written
value_layout names (choice c a b) =
    expression_layout names a ++ (gap ∷ a_word word.When ∷ gap ∷ expression_layout names c
    ++ (gap ∷ a_word word.Else ∷ turn ∷ gap ∷ gap ∷ gap ∷ gap ∷ value_layout names b))
value_layout names e = expression_layout names e
