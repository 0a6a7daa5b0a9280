-- What is written of a machine is a sentence.
use Rattle.std.specs.Prelude.{◌≡◌, ℕ, suc, ◌+◌, ◌-◌, ◌≤◌, true, List, [], ◌∷◌, length, None, codes}
use Rattle.std.specs.List.{All}
use Rattle.vlsi_base.specs.declared.limits.TheConstants.{MOST_SOURCE_BYTES}
use Rattle.bool_expr.specs.Expression.{Expression, constant, variable, inverse, pair, choice}
use Rattle.machine_core.specs.Machine.{Machine}
use Rattle.machine_core.specs.Checked.{IsChecked}
use Rattle.grammar_theory.specs.declared.limits.TheConstants.{DEPTH, CHAIN, BITS}
use Rattle.spell_theory.specs.Layout.{text_of}
use Rattle.spell_theory.specs.Words.{is_small_letter}
use Rattle.vst_print.specs.Says.{IsShort, IsSmall, IsSmallPort}
use Rattle.vbe_print.specs.Written.{inner_count, written_vars, layout_by}
use Rattle.vbe_print.specs.Writable.{CanBeVbe}
use Rattle.vhdl_lexer.specs.Listing.{tokens_in, refusal_in}
use Rattle.source_checks.specs.Checks.{most_ports}
use Rattle.vbe_text.specs.Vbe.{IsSource}
use Rattle.vbe_print.specs.Placed.{source_of}
use Rattle.vbe_print.specs.Nesting.{shape_of, operand_within, IsWithin, IsValueWithin}

-- the text that is written of a machine by a stem for inner signals, and that in which they are n0, n1, and so on
abbrev pub text_by : List ℕ → Machine → List ℕ
text_by stem m = text_of (layout_by stem m)

abbrev pub text : Machine → List ℕ
text m = text_by (codes "n") m

-- a letter in lower case
pub record IsLetter (stem : List ℕ) : Type 0 where
  pub letter : ℕ
  pub is : stem ≡ letter ∷ []
  pub small : is_small_letter letter ≡ true

-- ---- limits

-- how many operators an expression is written with; of a choice the condition stands twice, with `and` twice, `or` and `not`
abbrev pub operators : Expression → ℕ
operators (constant b) = 0
operators (variable k) = 0
operators (inverse e) = 1 + operators e
operators (pair g a b) = 1 + (operators a + operators b)
operators (choice c a b) = 4 + (operators c + (operators c + (operators a + operators b)))

-- in each alternative of a whole value
abbrev pub AreFewOperators : ℕ → Expression → Type 0
AreFewOperators n (choice c a b) = (operators a ≤ n) × ((operators c ≤ n) × AreFewOperators n b)
AreFewOperators n e = operators e ≤ n

-- how many values a whole value chooses among
abbrev pub alternatives : Expression → ℕ
alternatives (choice c a b) = suc (alternatives b)
alternatives e = 1

abbrev pub IsFewValues : Expression → Type 0
IsFewValues e = AreFewOperators CHAIN e × (alternatives e ≤ CHAIN)

-- The text is within the limits of texts: names have at most 64 bytes and bits numbers of 32 bits; no more bits are declared, no more
-- parentheses are open together, and no expression or choice is longer than a text may have; and there are few enough ports and bytes.
pub record IsWithinLimitsBy (stem : List ℕ) (m : Machine) : Type 0 where
  pub name : IsShort m.name
  pub ports : All IsSmallPort m.ports
  pub registers : All (λ r. IsShort r.name.text × IsSmall r.name.bit) m.registers
  pub bits : length m.ports + (2 + (inner_count m + length m.registers)) ≤ BITS
  pub nested : All (λ e. IsValueWithin (written_vars stem m) e.expr DEPTH) m.equations
  pub values : All (λ e. IsFewValues e.expr) m.equations
  pub loads_nested : All (λ r. IsValueWithin (written_vars stem m) r.next DEPTH) m.registers
  pub loads : All (λ r. IsFewValues r.next) m.registers
  -- a guard has two parentheses, two `and`, a `not` and a relation round its condition
  pub guards_nested : All (λ r. operand_within (shape_of (written_vars stem m) r.enable) (IsWithin (written_vars stem m) r.enable) (DEPTH - 2)) m.registers
  pub guards : All (λ r. 4 + operators r.enable ≤ CHAIN) m.registers
  pub few_ports : length m.ports ≤ most_ports
  pub short : length (text_by stem m) ≤ MOST_SOURCE_BYTES

abbrev pub IsWithinLimits : Machine → Type 0
IsWithinLimits m = IsWithinLimitsBy (codes "n") m

-- The text has no place without a token, and its tokens are a sentence of the grammar of data-flow texts, whose value is this one.
abbrev pub WrittenIsASentence : Type 0
WrittenIsASentence =
    (stem : List ℕ) (m : Machine) → IsLetter stem → IsChecked m → CanBeVbe m → IsWithinLimitsBy stem m
    → (refusal_in (text_by stem m) ≡ None) × IsSource (tokens_in (text_by stem m)) (source_of stem m)
