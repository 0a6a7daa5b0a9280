-- Reading expressions from left to right, by the next token alone.
use Rattle.std.specs.Prelude.{ℕ, zero, suc, Bool, true, false, List, [], ◌∷◌, Ok, Err, codes, if◌then◌else◌}
use Rattle.vlsi_base.specs.declared.expression.Operator.{Operator}
use Rattle.vlsi_base.specs.declared.expression.Operator.TheVariants as operation
use Rattle.vlsi_base.specs.declared.radix.Radix.TheVariants as radix
use Rattle.vlsi_base.specs.Tree.{Tree, bit, literal, name, index, slice, stable, inverse, binary, folded}
use Rattle.vhdl_token.specs.declared.keyword.Keyword.TheVariants as word
use Rattle.vhdl_token.specs.declared.token.Sign.TheVariants as sign
use Rattle.grammar_theory.specs.declared.form.Form.{Form}
use Rattle.grammar_theory.specs.declared.form.Form.TheVariants as form
use Rattle.grammar_theory.specs.declared.refusal.Reason.TheVariants as reason
use Rattle.grammar_theory.specs.Tokens.{code, is_at}
use Rattle.grammar_theory.specs.Marks.{opens, operator, spells}
use Rattle.grammar_theory.specs.Outcome.{Outcome, Reader, refusal, ◌>>=◌, take_at, take_marked, list_at}
use Rattle.vhdl_front.specs.Cursor.{name_of, number_of, bit_of, digits_of, radix_of}

unfoldable pub number_at : Reader ℕ
number_at here = do
  t ← take_at form.Number here
  Ok (number_of t.0, t.1)

unfoldable pub closing_at : {A : Type 0} → A → Reader A
closing_at x here = do
  t ← take_at (form.Sign sign.RightParen) here
  Ok (x, t.1)

unfoldable pub direction_at : Reader Bool
direction_at here = if is_at (form.Keyword word.Downto) here.rest then (do
  t ← take_at (form.Keyword word.Downto) here
  Ok (true, t.1)) else (do
    t ← take_at (form.Keyword word.To) here
    Ok (false, t.1))

unfoldable pub slice_at : List ℕ → ℕ → ℕ → ℕ → Reader Tree
slice_at x line paren left here = do
  falls ← direction_at here
  right ← number_at falls.1
  closing_at (slice x line (record { left = left; falls = falls.0; right = right.0; line = paren })) right.1

unfoldable pub places_at : List ℕ → ℕ → ℕ → Reader Tree
places_at x line paren here = do
  left ← number_at here
  if is_at (form.Sign sign.RightParen) left.1.rest then closing_at (index x line left.0) left.1 else slice_at x line paren left.0 left.1

unfoldable pub stable_at : List ℕ → ℕ → Reader Tree
stable_at x line here = do
  t ← take_at (form.Sign sign.Tick) here
  u ← take_marked form.Identifier (λ u. spells (codes "stable") (name_of u)) t.1
  Ok (stable x line, u.1)

unfoldable pub bounded_at : ℕ → List ℕ → ℕ → Reader Tree
bounded_at room x line here = do
  t ← take_marked (form.Sign sign.LeftParen) (λ _. opens room) here
  places_at x line t.0.line t.1

unfoldable pub suffix_at : ℕ → List ℕ → ℕ → Reader Tree
suffix_at room x line here = if is_at (form.Sign sign.LeftParen) here.rest then bounded_at room x line here
    else (if is_at (form.Sign sign.Tick) here.rest then stable_at x line here else Ok (name x line, here))

unfoldable pub named_at : ℕ → Reader Tree
named_at room here = do
  t ← take_at form.Identifier here
  suffix_at room (name_of t.0) t.0.line t.1

unfoldable pub bit_at : Reader Tree
bit_at here = do
  t ← take_at form.Bit here
  Ok (bit (bit_of t.0) t.0.line, t.1)

unfoldable pub text_at : Reader Tree
text_at here = do
  t ← take_at form.BitText here
  Ok (literal radix.Binary (digits_of t.0) t.0.line, t.1)

unfoldable pub string_at : Reader Tree
string_at here = do
  t ← take_at form.BitString here
  Ok (literal (radix_of t.0) (digits_of t.0) t.0.line, t.1)

-- here and below, what is done at an opening parenthesis is a parameter
unfoldable pub primary_at : ℕ → Reader Tree → Reader Tree
primary_at room enter here = if is_at (form.Sign sign.LeftParen) here.rest then enter here
    else (if is_at form.Bit here.rest then bit_at here
    else (if is_at form.BitText here.rest then text_at here
    else (if is_at form.BitString here.rest then string_at here
    else named_at room here)))

unfoldable pub inverse_at : ℕ → Reader Tree → Reader Tree
inverse_at room enter here = do
  t ← take_marked (form.Keyword word.Not) (λ _. operator) here
  e ← primary_at room enter t.1
  Ok (inverse t.0.line e.0, e.1)

unfoldable pub factor_at : ℕ → Reader Tree → Reader Tree
factor_at room enter here = if is_at (form.Keyword word.Not) here.rest then inverse_at room enter here else primary_at room enter here

unfoldable pub joined_at : Form → Reader Tree → Reader (ℕ × Tree)
joined_at f operand here = do
  t ← take_marked f (λ _. operator) here
  e ← operand t.1
  Ok ((t.0.line, e.0), e.1)

unfoldable pub cat_at : ℕ → Reader Tree → Reader Tree
cat_at room enter here = do
  left ← factor_at room enter here
  others ← list_at (code (form.Sign sign.Ampersand) ∷ []) (joined_at (form.Sign sign.Ampersand) (factor_at room enter)) left.1
  Ok (folded operation.Join left.0 others.0, others.1)

unfoldable pub pair_at : Form → Operator → Reader Tree → Tree → Reader Tree
pair_at f op operand left here = do
  right ← joined_at f operand here
  Ok (binary op right.0.0 left right.0.1, right.1)

unfoldable pub chain_at : Form → Operator → Reader Tree → Tree → Reader Tree
chain_at f op operand left here = do
  first ← joined_at f operand here
  others ← list_at (code f ∷ []) (joined_at f operand) first.1
  Ok (folded op left (first.0 ∷ others.0), others.1)

-- behind the first of what may be two
unfoldable pub compared_at : Reader Tree → Tree → Reader Tree
compared_at operand left here =
    if is_at (form.Sign sign.Equal) here.rest then pair_at (form.Sign sign.Equal) operation.Equal operand left here
    else (if is_at (form.Sign sign.Unequal) here.rest then pair_at (form.Sign sign.Unequal) operation.Unequal operand left here
    else Ok (left, here))

unfoldable pub relation_at : ℕ → Reader Tree → Reader Tree
relation_at room enter here = do
  left ← cat_at room enter here
  compared_at (cat_at room enter) left.0 left.1

unfoldable pub logical_at : Reader Tree → Tree → Reader Tree
logical_at operand left here =
    if is_at (form.Keyword word.And) here.rest then chain_at (form.Keyword word.And) operation.And operand left here
    else (if is_at (form.Keyword word.Or) here.rest then chain_at (form.Keyword word.Or) operation.Or operand left here
    else (if is_at (form.Keyword word.Xor) here.rest then chain_at (form.Keyword word.Xor) operation.Xor operand left here
    else (if is_at (form.Keyword word.Xnor) here.rest then chain_at (form.Keyword word.Xnor) operation.Xnor operand left here
    else (if is_at (form.Keyword word.Nand) here.rest then pair_at (form.Keyword word.Nand) operation.Nand operand left here
    else (if is_at (form.Keyword word.Nor) here.rest then pair_at (form.Keyword word.Nor) operation.Nor operand left here
    else Ok (left, here))))))

unfoldable pub expression_over_at : ℕ → Reader Tree → Reader Tree
expression_over_at room enter here = do
  left ← relation_at room enter here
  logical_at (relation_at room enter) left.0 left.1

-- at an opening parenthesis, where so many more may be open
unfoldable pub enter_at : ℕ → Reader Tree
enter_at zero here = do
  t ← take_marked (form.Sign sign.LeftParen) (λ _. opens zero) here
  Err (refusal reason.Syntax t.1.rest)
enter_at (suc room) here = do
  t ← take_marked (form.Sign sign.LeftParen) (λ _. opens (suc room)) here
  e ← expression_over_at room (enter_at room) t.1
  closing_at e.0 e.1

abbrev pub expression_at : ℕ → Reader Tree
expression_at room = expression_over_at room (enter_at room)
