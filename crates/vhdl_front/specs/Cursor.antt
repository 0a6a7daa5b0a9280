-- Where a cursor stands, and what tokens carry.
use Rattle.std.specs.Prelude.{ℕ, Bool, false, List, [], ◌∷◌, map}
use Rattle.vlsi_base.specs.declared.radix.Radix.{Radix}
use Rattle.vlsi_base.specs.declared.radix.Radix.TheVariants.{Binary}
use Rattle.vhdl_token.specs.declared.token.Token.{Token}
use Rattle.vhdl_token.specs.declared.token.Token.TheVariants as token
use Rattle.vhdl_token.specs.declared.token.PlacedToken.{PlacedToken}
use Rattle.grammar_theory.specs.Marks.{State}
use Rattle.grammar_theory.specs.Outcome.{At}
use Rattle.vhdl_front.specs.declared.counts.Counts.{Counts}

abbrev pub names_of : Counts → List (List ℕ)
names_of c = map (λ name. name.items) c.names.keys

-- what was counted so far
abbrev pub state_of : Counts → State
state_of c = record { names = names_of c; bits = c.bits; operators = c.operators; alternatives = c.alternatives }

abbrev pub at_of : Counts → List PlacedToken → At
at_of counts rest = record { state = state_of counts; rest = rest }

-- before the first operator of an expression
abbrev pub at_first : At → At
at_first here = record { state = record here.state { operators = 0 }; rest = here.rest }

-- all tokens but the next one
abbrev pub rest_of : List PlacedToken → List PlacedToken
rest_of [] = []
rest_of (t ∷ ts) = ts

abbrev pub identifier_in : Token → List ℕ
identifier_in (token.Identifier name) = name
identifier_in _ = []

-- the name that an identifier is
abbrev pub name_of : PlacedToken → List ℕ
name_of t = identifier_in t.token

abbrev pub number_in : Token → ℕ
number_in (token.Number n) = n
number_in _ = 0

abbrev pub number_of : PlacedToken → ℕ
number_of t = number_in t.token

abbrev pub bit_in : Token → Bool
bit_in (token.Bit b) = b
bit_in _ = false

abbrev pub bit_of : PlacedToken → Bool
bit_of t = bit_in t.token

-- what stands between the quotes of a text or a bit string
abbrev pub digits_in : Token → List ℕ
digits_in (token.Quoted text) = text
digits_in (token.BitString base digits) = digits
digits_in _ = []

abbrev pub digits_of : PlacedToken → List ℕ
digits_of t = digits_in t.token

-- the radix of a bit string; the digits of a text are binary
abbrev pub radix_in : Token → Radix
radix_in (token.BitString radix digits) = radix
radix_in _ = Binary

abbrev pub radix_of : PlacedToken → Radix
radix_of t = radix_in t.token
