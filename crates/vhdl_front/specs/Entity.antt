-- The grammar of entities and of declarations of signals.
use Rattle.std.specs.Prelude.{ℕ, ◌+◌, ◌-◌, ◌*◌, nat_le, Bool, true, false, List, [], ◌∷◌, length, Option, Some, None, if◌then◌else◌}
use Rattle.vlsi_base.specs.declared.range.Range.{Range}
use Rattle.vlsi_base.specs.declared.entity.NewName.{NewName}
use Rattle.vlsi_base.specs.declared.entity.Generic.{Generic}
use Rattle.vlsi_base.specs.declared.entity.Mode.{Mode}
use Rattle.vlsi_base.specs.declared.entity.Mode.TheVariants as mode
use Rattle.vlsi_base.specs.declared.entity.TypeWord.{TypeWord}
use Rattle.vlsi_base.specs.declared.entity.TypeWord.TheVariants as type
use Rattle.vlsi_base.specs.declared.entity.SignalType.{SignalType}
use Rattle.vlsi_base.specs.declared.entity.PortGroup.{PortGroup}
use Rattle.vlsi_base.specs.declared.entity.SignalGroup.{SignalGroup}
use Rattle.vlsi_base.specs.declared.entity.Entity.{Entity}
use Rattle.vlsi_base.specs.declared.entity.Declarations.{Declarations}
use Rattle.vhdl_token.specs.declared.keyword.Keyword.{Keyword}
use Rattle.vhdl_token.specs.declared.keyword.Keyword.TheVariants as word
use Rattle.vhdl_token.specs.declared.token.Sign.TheVariants as sign
use Rattle.vhdl_token.specs.declared.token.PlacedToken.{PlacedToken}
use Rattle.grammar_theory.specs.declared.form.Form.TheVariants as form
use Rattle.grammar_theory.specs.Marks.{opens, declares, counts, spells}
use Rattle.grammar_theory.specs.Grammar.{Grammar, nothing, one, marked, ◌or◌, ◌>>=◌, list}
use Rattle.vhdl_front.specs.Cursor.{name_of}
use Rattle.vhdl_front.specs.Expression.{number, direction}

-- ---- names

unfoldable pub identifier : Grammar (List ℕ)
identifier = do
  t ← one form.Identifier
  nothing (name_of t)

abbrev pub new_name : PlacedToken → NewName
new_name t = record { text = name_of t; line = t.line }

-- a name of a declaration that begins on this line
unfoldable pub declared : ℕ → Grammar NewName
declared line = do
  t ← marked form.Identifier (λ t. declares line (name_of t))
  nothing (new_name t)

unfoldable pub another : ℕ → Grammar NewName
another line = do
  t ← one (form.Sign sign.Comma)
  declared line

-- the line on which a declaration begins, and its names
abbrev pub Names : Type 0
Names = ℕ × List NewName

unfoldable pub led_names : Keyword → Grammar Names
led_names w = do
  t ← one (form.Keyword w)
  first ← declared t.line
  others ← list (another t.line)
  nothing (t.line, first ∷ others)

-- a name with which a declaration begins
unfoldable pub declared_here : Grammar NewName
declared_here = do
  t ← marked form.Identifier (λ t. declares t.line (name_of t))
  nothing (new_name t)

unfoldable pub own_names : Grammar Names
own_names = do
  first ← declared_here
  others ← list (another first.line)
  nothing (first.line, first ∷ others)

-- names behind a word that may be left out
unfoldable pub names : Keyword → Grammar Names
names w = led_names w or own_names

-- ---- types

-- how many bits a range has; none where its bounds don't stand in the order of its word
abbrev pub width : ℕ → Bool → ℕ → ℕ
width left true right = if nat_le right left then left - right + 1 else 0
width left false right = if nat_le left right then right - left + 1 else 0

unfoldable pub bounds : Grammar (ℕ × Bool × ℕ)
bounds = do
  left ← number
  falls ← direction
  right ← number
  nothing (left, falls, right)

-- of a declaration of so many names; `room` is how many parentheses more may be open
unfoldable pub range : ℕ → ℕ → Grammar Range
range room count = do
  t ← marked (form.Sign sign.LeftParen) (λ _. opens room)
  b ← bounds
  u ← marked (form.Sign sign.RightParen) (λ _. counts (count * width b.0 b.1 b.2))
  nothing (record { left = b.0; falls = b.1; right = b.2; line = t.line })

unfoldable pub scalar : Keyword → TypeWord → ℕ → Grammar SignalType
scalar w kind count = do
  t ← marked (form.Keyword w) (λ _. counts (count * 1))
  nothing (record { word = kind; line = t.line; range = None })

unfoldable pub vector : Keyword → TypeWord → ℕ → ℕ → Grammar SignalType
vector w kind room count = do
  t ← one (form.Keyword w)
  r ← range room count
  nothing (record { word = kind; line = t.line; range = Some r })

unfoldable pub port_type : ℕ → ℕ → Grammar SignalType
port_type room count =
    scalar word.Bit type.Bit count
    or vector word.BitVector type.BitVector room count
    or scalar word.MuxBit type.MuxBit count
    or scalar word.WorBit type.WorBit count
    or vector word.MuxVector type.MuxVector room count
    or vector word.WorVector type.WorVector room count

unfoldable pub registered : Grammar SignalType → Grammar SignalType
registered L = do
  kind ← L
  t ← one (form.Keyword word.Register)
  nothing kind

unfoldable pub signal_type : ℕ → ℕ → Grammar SignalType
signal_type room count =
    scalar word.Bit type.Bit count
    or vector word.BitVector type.BitVector room count
    or registered (scalar word.RegBit type.RegBit count)
    or registered (vector word.RegVector type.RegVector room count)
    or registered (vector word.RegBitVector type.RegBitVector room count)

-- ---- generics

unfoldable pub default : Grammar (Option ℕ)
default = (do
  t ← one (form.Sign sign.Default)
  n ← number
  nothing (Some n)) or nothing None

unfoldable pub generic : Grammar Generic
generic = do
  n ← names word.Constant
  t ← one (form.Sign sign.Colon)
  kind ← identifier
  value ← default
  nothing (record { line = n.0; names = n.1; kind = kind; value = value })

unfoldable pub next_generic : Grammar Generic
next_generic = do
  t ← one (form.Sign sign.Semicolon)
  generic

unfoldable pub closed : {A : Type 0} → A → Grammar A
closed x = do
  t ← one (form.Sign sign.RightParen)
  u ← one (form.Sign sign.Semicolon)
  nothing x

unfoldable pub generic_clause : ℕ → Grammar (List Generic)
generic_clause room = do
  t ← one (form.Keyword word.Generic)
  u ← marked (form.Sign sign.LeftParen) (λ _. opens room)
  first ← generic
  others ← list next_generic
  closed (first ∷ others)

-- ---- ports

abbrev pub Moded : Type 0
Moded = Mode × ℕ

unfoldable pub one_mode : Keyword → Mode → Grammar Moded
one_mode w m = do
  t ← one (form.Keyword w)
  nothing (m, t.line)

unfoldable pub port_mode : Grammar Moded
port_mode = one_mode word.In mode.In or one_mode word.Out mode.Out or one_mode word.Inout mode.Inout

unfoldable pub bus : Grammar Bool
bus = (do
  t ← one (form.Keyword word.Bus)
  nothing true) or nothing false

-- behind the names
unfoldable pub port_behind : ℕ → Names → Grammar PortGroup
port_behind room n = do
  t ← one (form.Sign sign.Colon)
  m ← port_mode
  kind ← port_type room (length n.1)
  b ← bus
  nothing (record { line = n.0; names = n.1; mode = m.0; mode_line = m.1; kind = kind; bus = b })

unfoldable pub port : ℕ → Grammar PortGroup
port room = do
  n ← names word.Signal
  port_behind room n

unfoldable pub next_port : ℕ → Grammar PortGroup
next_port room = do
  t ← one (form.Sign sign.Semicolon)
  port room

unfoldable pub port_clause : ℕ → Grammar (List PortGroup)
port_clause room = do
  t ← one (form.Keyword word.Port)
  u ← marked (form.Sign sign.LeftParen) (λ _. opens room)
  first ← port (room - 1)
  others ← list (next_port (room - 1))
  closed (first ∷ others)

-- ---- entities

unfoldable pub entity_head : Grammar (List ℕ)
entity_head = do
  t ← one (form.Keyword word.Entity)
  name ← identifier
  w ← one (form.Keyword word.Is)
  nothing name

-- the name that was opened may stand behind `end`
unfoldable pub ending : {A : Type 0} → List ℕ → A → Grammar A
ending name x = do
  t ← one (form.Keyword word.End)
  (do
    u ← marked form.Identifier (λ u. spells name (name_of u))
    w ← one (form.Sign sign.Semicolon)
    nothing x) or (do
      w ← one (form.Sign sign.Semicolon)
      nothing x)

-- where so many parentheses more may be open
unfoldable pub entity : ℕ → Grammar Entity
entity room = do
  name ← entity_head
  generics ← generic_clause room or nothing []
  ports ← port_clause room
  ending name (record { name = name; generics = generics; ports = ports })

-- ---- declarations

unfoldable pub signal : ℕ → Grammar SignalGroup
signal room = do
  n ← led_names word.Signal
  t ← one (form.Sign sign.Colon)
  kind ← signal_type room (length n.1)
  u ← one (form.Sign sign.Semicolon)
  nothing (record { line = n.0; names = n.1; kind = kind })

unfoldable pub declarations : ℕ → Grammar Declarations
declarations room = do
  all ← list (signal room)
  nothing (record { signals = all })
