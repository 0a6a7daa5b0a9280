-- The grammar of expressions.
use Rattle.std.specs.Prelude.{ℕ, zero, suc, Bool, true, false, List, [], ◌∷◌, codes}
use Rattle.vlsi_base.specs.declared.expression.Operator.{Operator}
use Rattle.vlsi_base.specs.declared.expression.Operator.TheVariants as operation
use Rattle.vlsi_base.specs.declared.radix.Radix.TheVariants as radix
use Rattle.vlsi_base.specs.Tree.{Tree, bit, literal, name, index, slice, stable, inverse, binary, folded}
use Rattle.vhdl_token.specs.declared.keyword.Keyword.TheVariants as word
use Rattle.vhdl_token.specs.declared.token.Sign.TheVariants as sign
use Rattle.vhdl_token.specs.declared.token.PlacedToken.{PlacedToken}
use Rattle.grammar_theory.specs.declared.form.Form.{Form}
use Rattle.grammar_theory.specs.declared.form.Form.TheVariants as form
use Rattle.grammar_theory.specs.Marks.{opens, operator, spells}
use Rattle.grammar_theory.specs.Grammar.{Grammar, none, nothing, one, marked, ◌or◌, ◌>>=◌, list, at_some}
use Rattle.vhdl_front.specs.Cursor.{name_of, number_of, bit_of, digits_of, radix_of}

unfoldable pub number : Grammar ℕ
number = do
  t ← one form.Number
  nothing (number_of t)

unfoldable pub closing : {A : Type 0} → A → Grammar A
closing x = do
  t ← one (form.Sign sign.RightParen)
  nothing x

-- `downto`, which falls, or `to`
unfoldable pub direction : Grammar Bool
direction = (do
  t ← one (form.Keyword word.Downto)
  nothing true) or (do
    t ← one (form.Keyword word.To)
    nothing false)

-- behind the parenthesis and the first number: the name and its line, the parenthesis's line, and that number
unfoldable pub slice_of : List ℕ → ℕ → ℕ → ℕ → Grammar Tree
slice_of x line paren left = do
  falls ← direction
  right ← number
  closing (slice x line (record { left = left; falls = falls; right = right; line = paren }))

-- ( N ) or a range, behind its parenthesis
unfoldable pub places : List ℕ → ℕ → ℕ → Grammar Tree
places x line paren = do
  left ← number
  closing (index x line left) or slice_of x line paren left

-- behind a name and its line; here and below, `room` is how many parentheses more may be open
unfoldable pub suffix : ℕ → List ℕ → ℕ → Grammar Tree
suffix room x line = (do
  t ← marked (form.Sign sign.LeftParen) (λ _. opens room)
  places x line t.line) or (do
    t ← one (form.Sign sign.Tick)
    u ← marked form.Identifier (λ u. spells (codes "stable") (name_of u))
    nothing (stable x line)) or nothing (name x line)

unfoldable pub named : ℕ → Grammar Tree
named room = do
  t ← one form.Identifier
  suffix room (name_of t) t.line

unfoldable pub bit_literal : Grammar Tree
bit_literal = do
  t ← one form.Bit
  nothing (bit (bit_of t) t.line)

-- a text of 0 and 1
unfoldable pub text_literal : Grammar Tree
text_literal = do
  t ← one form.BitText
  nothing (literal radix.Binary (digits_of t) t.line)

unfoldable pub string_literal : Grammar Tree
string_literal = do
  t ← one form.BitString
  nothing (literal (radix_of t) (digits_of t) t.line)

-- what may stand in parentheses is a parameter
unfoldable pub parenthesized : ℕ → Grammar Tree → Grammar Tree
parenthesized room inner = do
  t ← marked (form.Sign sign.LeftParen) (λ _. opens room)
  e ← inner
  closing e

unfoldable pub primary : ℕ → Grammar Tree → Grammar Tree
primary room inner = parenthesized room inner or bit_literal or text_literal or string_literal or named room

unfoldable pub factor : ℕ → Grammar Tree → Grammar Tree
factor room inner = (do
  t ← marked (form.Keyword word.Not) (λ _. operator)
  e ← primary room inner
  nothing (inverse t.line e)) or primary room inner

-- an operand behind an operator, with the operator's line
unfoldable pub joined : Form → Grammar Tree → Grammar (ℕ × Tree)
joined f operand = do
  t ← marked f (λ _. operator)
  e ← operand
  nothing (t.line, e)

unfoldable pub cat : ℕ → Grammar Tree → Grammar Tree
cat room inner = do
  left ← factor room inner
  others ← list (joined (form.Sign sign.Ampersand) (factor room inner))
  nothing (folded operation.Join left others)

-- one operator more, and one operand
unfoldable pub pair : Form → Operator → Grammar Tree → Tree → Grammar Tree
pair f op operand left = do
  right ← joined f operand
  nothing (binary op right.0 left right.1)

-- the same operator once or more
unfoldable pub chain : Form → Operator → Grammar Tree → Tree → Grammar Tree
chain f op operand left = do
  first ← joined f operand
  others ← list (joined f operand)
  nothing (folded op left (first ∷ others))

unfoldable pub relation : ℕ → Grammar Tree → Grammar Tree
relation room inner = do
  left ← cat room inner
  pair (form.Sign sign.Equal) operation.Equal (cat room inner) left
      or pair (form.Sign sign.Unequal) operation.Unequal (cat room inner) left
      or nothing left

-- behind the first relation
unfoldable pub logical : Grammar Tree → Tree → Grammar Tree
logical operand left =
    chain (form.Keyword word.And) operation.And operand left
    or chain (form.Keyword word.Or) operation.Or operand left
    or chain (form.Keyword word.Xor) operation.Xor operand left
    or chain (form.Keyword word.Xnor) operation.Xnor operand left
    or pair (form.Keyword word.Nand) operation.Nand operand left
    or pair (form.Keyword word.Nor) operation.Nor operand left
    or nothing left

unfoldable pub expression_over : ℕ → Grammar Tree → Grammar Tree
expression_over room inner = do
  left ← relation room inner
  logical (relation room inner) left

-- one less, or none
abbrev pub less : ℕ → ℕ
less zero = zero
less (suc n) = n

-- parentheses within parentheses at most so often
unfoldable pub nested : ℕ → ℕ → Grammar Tree
nested zero room = expression_over room none
nested (suc deeper) room = expression_over room (nested deeper (less room))

-- the expressions, where `room` parentheses more may be open
abbrev pub expression : ℕ → Grammar Tree
expression room = at_some (λ deeper. nested deeper room)
