-- What the tokens of a sentence do beside standing in their order: a mark at each, and what the marks so far come to.
use Rattle.std.specs.Prelude.{ℕ, ◌+◌, ◌-◌, ◌^◌, ◌==◌, nat_lt, min, Bool, bytes_eq, List, [], ◌∷◌, ◌++◌, Result, Ok, Err, if◌then◌else◌}
use Rattle.std.specs.List.{list_any}
use Rattle.std.specs.BTreeMap.{is_at}
use Rattle.std.specs.BTreeSet.{insert_key}
use Rattle.std.specs.Cmp.Lexicographic.{slice_cmp}
use Rattle.std.specs.Ordering.{nat_cmp}
use Rattle.vhdl_token.specs.declared.token.PlacedToken.{PlacedToken}
use Rattle.grammar_theory.specs.declared.refusal.Breach.{Breach}
use Rattle.grammar_theory.specs.declared.refusal.Breach.TheVariants as broken
use Rattle.grammar_theory.specs.declared.limits.TheConstants.{BITS, CHAIN}

pub data Mark : Type 0 where
  -- nothing
  plain : Mark
  -- an expression begins behind this token
  starts : Mark
  -- a choice begins behind this token, with its first alternative
  chooses : Mark
  -- a further alternative of the choice begins behind this token
  again : Mark
  -- it opens a parenthesis, an if or a case, where so many more may be open
  opens : ℕ → Mark
  -- an operator of an expression
  operator : Mark
  -- the name that the declaration which begins on this line declares
  declares : ℕ → List ℕ → Mark
  -- the name that it declares in a list of its own: the names of that list are kept with these bytes in front, which no
  -- identifier has
  enters : List ℕ → ℕ → List ℕ → Mark
  -- the last token of the type of a declaration with so many bits
  counts : ℕ → Mark
  -- a name that has to be the first of these, and is the second
  spells : List ℕ → List ℕ → Mark
  -- a token that has to be right as it is spelled, and is or isn't
  fits : Bool → Mark

-- a token of a sentence
pub record Item : Type 0 where
  pub token : PlacedToken
  pub mark : Mark

-- what was counted so far: the names that are declared, their bits, the operators of this expression, and the
-- alternatives of this choice
pub record State : Type 0 where
  pub names : List (List ℕ)
  pub bits : ℕ
  pub operators : ℕ
  pub alternatives : ℕ

-- before the first token
abbrev pub uncounted : State
uncounted = record { names = []; bits = 0; operators = 0; alternatives = 0 }

-- whether the name is one of these
abbrev pub is_declared : List ℕ → List (List ℕ) → Bool
is_declared name names = list_any (is_at (slice_cmp nat_cmp name)) names

-- What becomes of what was counted so far, at a token with this mark, unless that is a breach. Names are kept in the
-- order of their bytes.
abbrev pub acts : Mark → State → Result State Breach
acts plain s = Ok s
acts starts s = Ok (record s { operators = 0 })
acts chooses s = Ok (record s { operators = 0; alternatives = 1 })
acts again s = Ok (record s { operators = 0; alternatives = s.alternatives + 1 })
acts (opens n) s = if n == 0 then Err broken.Depth else Ok s
acts operator s = if nat_lt s.operators CHAIN then Ok (record s { operators = s.operators + 1 }) else Err broken.Chain
acts (declares line name) s = if is_declared name s.names then Err (broken.Twice line name) else Ok (record s { names = insert_key (slice_cmp nat_cmp) s.names name })
acts (enters key line name) s =
    if is_declared (key ++ name) s.names then Err (broken.Twice line name) else Ok (record s { names = insert_key (slice_cmp nat_cmp) s.names (key ++ name) })
acts (counts n) s = if nat_lt BITS (s.bits + n) then Err (broken.Bits (min (s.bits + n) (2 ^ 64 - 1))) else Ok (record s { bits = s.bits + n })
acts (spells wanted found) s = if bytes_eq wanted found then Ok s else Err broken.Spelling
acts (fits b) s = if b then Ok s else Err broken.Spelling

-- the first token of an alternative is a breach too where this is one more than a choice may have
abbrev pub checked : State → Result State Breach → Result State Breach
checked s (Ok t) = if nat_lt CHAIN s.alternatives then Err broken.Chain else Ok t
checked s (Err b) = Err b

unfoldable pub step : Mark → State → Result State Breach
step m s = checked s (acts m s)

abbrev pub go_on : Result State Breach → (State → Result State Breach) → Result State Breach
go_on (Ok s) f = f s
go_on (Err b) f = Err b

-- what these come to, or the first breach
abbrev pub run : List Item → State → Result State Breach
run [] s = Ok s
run (i ∷ is) s = go_on (step i.mark s) (run is)
