-- Expressions as they are to be written: names, bits, `not`, and two operands behind one another, with parentheses round
-- what isn't a name or a bit.
use Rattle.std.specs.Prelude.{◌≡◌, ℕ, zero, suc, ◌+◌, ◌≤◌, Bool, List, [], ◌∷◌, ◌++◌, None, Ok}
use Rattle.vlsi_base.specs.declared.expression.Operator.{Operator}
use Rattle.vlsi_base.specs.declared.expression.Operator.TheVariants as operation
use Rattle.vlsi_base.specs.Tree.{Tree, bit, name, inverse, binary}
use Rattle.vhdl_token.specs.declared.keyword.Keyword.{Keyword}
use Rattle.vhdl_token.specs.declared.keyword.Keyword.TheVariants as word
use Rattle.vhdl_token.specs.declared.token.Token.TheVariants as token
use Rattle.vhdl_token.specs.declared.token.Sign.TheVariants as sign
use Rattle.vhdl_lexer.specs.Listing.{tokens_in, refusal_in}
use Rattle.grammar_theory.specs.Marks.{State, uncounted}
use Rattle.grammar_theory.specs.declared.limits.TheConstants.{CHAIN}
use Rattle.grammar_theory.specs.Outcome.{Outcome, start}
use Rattle.grammar_theory.specs.Answers.{AnswersAll}
use Rattle.vhdl_front.specs.Expression.{expression}
use Rattle.spell_theory.specs.Layout.{Written, gap, says, text_of}
use Rattle.vhdl_print.specs.Outline.{a_word, a_sign, a_name}
use Rattle.vhdl_print.specs.EntityAgain.{IsName}

-- what stands between two operands: `and`, `or`, `xor`
pub data Link : Type 0 where
  conjunction : Link
  disjunction : Link
  exclusion : Link

-- an expression to be written
pub data Formula : Type 0 where
  variable : List ℕ → Formula
  constant : Bool → Formula
  opposite : Formula → Formula
  joint : Link → Formula → Formula → Formula

-- the word of a link
abbrev pub link_word : Link → Keyword
link_word conjunction = word.And
link_word disjunction = word.Or
link_word exclusion = word.Xor

-- the operator of a link
abbrev pub link_of : Link → Operator
link_of conjunction = operation.And
link_of disjunction = operation.Or
link_of exclusion = operation.Xor

-- the expression, where all stands on one line
abbrev pub tree : ℕ → Formula → Tree
tree line (variable x) = name x line
tree line (constant b) = bit b line
tree line (opposite f) = inverse line (tree line f)
tree line (joint l f g) = binary (link_of l) line (tree line f) (tree line g)

-- how it is laid out as an operand: in parentheses, unless it is a name or a bit
abbrev pub inside : Formula → List Written
inside (variable x) = a_name x ∷ []
inside (constant b) = says (token.Bit b) ∷ []
inside (opposite f) = a_sign sign.LeftParen ∷ (a_word word.Not ∷ gap ∷ inside f) ++ a_sign sign.RightParen ∷ []
inside (joint l f g) =
    a_sign sign.LeftParen ∷ (inside f ++ (gap ∷ a_word (link_word l) ∷ gap ∷ inside g)) ++ a_sign sign.RightParen ∷ []

-- how it is laid out as a whole
abbrev pub whole : Formula → List Written
whole (variable x) = a_name x ∷ []
whole (constant b) = says (token.Bit b) ∷ []
whole (opposite f) = a_word word.Not ∷ gap ∷ inside f
whole (joint l f g) = inside f ++ (gap ∷ a_word (link_word l) ∷ gap ∷ inside g)

-- at most so many parentheses are open together in the operand
abbrev pub IsWithin : Formula → ℕ → Type 0
IsWithin (variable x) n = Unit {0}
IsWithin (constant b) n = Unit {0}
IsWithin (opposite f) zero = ⊥
IsWithin (opposite f) (suc n) = IsWithin f n
IsWithin (joint l f g) zero = ⊥
IsWithin (joint l f g) (suc n) = IsWithin f n × IsWithin g n

-- at most so many are open together in the whole
abbrev pub IsWholeWithin : Formula → ℕ → Type 0
IsWholeWithin (variable x) n = Unit {0}
IsWholeWithin (constant b) n = Unit {0}
IsWholeWithin (opposite f) n = IsWithin f n
IsWholeWithin (joint l f g) n = IsWithin f n × IsWithin g n

-- how many operators there are
abbrev pub links : Formula → ℕ
links (variable x) = 0
links (constant b) = 0
links (opposite f) = 1 + links f
links (joint l f g) = links f + (1 + links g)

-- each name is a word and not reserved
abbrev pub AreNames : Formula → Type 0
AreNames (variable x) = IsName x
AreNames (constant b) = Unit {0}
AreNames (opposite f) = AreNames f
AreNames (joint l f g) = AreNames f × AreNames g

-- n further operators are counted
abbrev pub with_links : ℕ → State → State
with_links n s = record s { operators = s.operators + n }

-- The text has no place without a token, and of its tokens one answer is right: this expression.
abbrev pub FormulaIsReadAgain : Type 0
FormulaIsReadAgain =
    (room : ℕ) (f : Formula) → IsWholeWithin f room → links f ≤ CHAIN → AreNames f
    → (refusal_in (text_of (whole f)) ≡ None)
    × ((y : Outcome Tree) → AnswersAll (expression room) (start (tokens_in (text_of (whole f))).items) y
    → y ≡ Ok (tree 1 f, record { state = with_links (links f) uncounted; rest = [] }))
