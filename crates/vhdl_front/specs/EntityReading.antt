-- Reading entities and declarations of signals from left to right, by the next token alone.
use Rattle.std.specs.Prelude.{ℕ, ◌-◌, ◌*◌, Bool, true, false, List, [], ◌∷◌, length, Option, Some, None, Ok, if◌then◌else◌}
use Rattle.vlsi_base.specs.declared.range.Range.{Range}
use Rattle.vlsi_base.specs.declared.entity.NewName.{NewName}
use Rattle.vlsi_base.specs.declared.entity.Generic.{Generic}
use Rattle.vlsi_base.specs.declared.entity.Mode.{Mode}
use Rattle.vlsi_base.specs.declared.entity.Mode.TheVariants as mode
use Rattle.vlsi_base.specs.declared.entity.TypeWord.{TypeWord}
use Rattle.vlsi_base.specs.declared.entity.TypeWord.TheVariants as type
use Rattle.vlsi_base.specs.declared.entity.SignalType.{SignalType}
use Rattle.vlsi_base.specs.declared.entity.PortGroup.{PortGroup}
use Rattle.vlsi_base.specs.declared.entity.SignalGroup.{SignalGroup}
use Rattle.vlsi_base.specs.declared.entity.Entity.{Entity}
use Rattle.vlsi_base.specs.declared.entity.Declarations.{Declarations}
use Rattle.vhdl_token.specs.declared.keyword.Keyword.{Keyword}
use Rattle.vhdl_token.specs.declared.keyword.Keyword.TheVariants as word
use Rattle.vhdl_token.specs.declared.token.Sign.TheVariants as sign
use Rattle.grammar_theory.specs.declared.form.Form.TheVariants as form
use Rattle.grammar_theory.specs.Tokens.{code, is_at}
use Rattle.grammar_theory.specs.Marks.{opens, declares, counts, spells}
use Rattle.grammar_theory.specs.Outcome.{Outcome, Reader, ◌>>=◌, take_at, take_marked, list_at}
use Rattle.vhdl_front.specs.Cursor.{name_of}
use Rattle.vhdl_front.specs.Reading.{number_at, direction_at}
use Rattle.vhdl_front.specs.Entity.{Names, Moded, new_name, width}

unfoldable pub identifier_at : Reader (List ℕ)
identifier_at here = do
  t ← take_at form.Identifier here
  Ok (name_of t.0, t.1)

unfoldable pub declared_at : ℕ → Reader NewName
declared_at line here = do
  t ← take_marked form.Identifier (λ t. declares line (name_of t)) here
  Ok (new_name t.0, t.1)

unfoldable pub another_at : ℕ → Reader NewName
another_at line here = do
  t ← take_at (form.Sign sign.Comma) here
  declared_at line t.1

unfoldable pub led_names_at : Keyword → Reader Names
led_names_at w here = do
  t ← take_at (form.Keyword w) here
  first ← declared_at t.0.line t.1
  others ← list_at (code (form.Sign sign.Comma) ∷ []) (another_at t.0.line) first.1
  Ok ((t.0.line, first.0 ∷ others.0), others.1)

unfoldable pub declared_here_at : Reader NewName
declared_here_at here = do
  t ← take_marked form.Identifier (λ t. declares t.line (name_of t)) here
  Ok (new_name t.0, t.1)

unfoldable pub own_names_at : Reader Names
own_names_at here = do
  first ← declared_here_at here
  others ← list_at (code (form.Sign sign.Comma) ∷ []) (another_at first.0.line) first.1
  Ok ((first.0.line, first.0 ∷ others.0), others.1)

unfoldable pub names_at : Keyword → Reader Names
names_at w here = if is_at (form.Keyword w) here.rest then led_names_at w here else own_names_at here

unfoldable pub bounds_at : Reader (ℕ × Bool × ℕ)
bounds_at here = do
  left ← number_at here
  falls ← direction_at left.1
  right ← number_at falls.1
  Ok ((left.0, falls.0, right.0), right.1)

unfoldable pub range_at : ℕ → ℕ → Reader Range
range_at room count here = do
  t ← take_marked (form.Sign sign.LeftParen) (λ _. opens room) here
  b ← bounds_at t.1
  u ← take_marked (form.Sign sign.RightParen) (λ _. counts (count * width b.0.0 b.0.1 b.0.2)) b.1
  Ok (record { left = b.0.0; falls = b.0.1; right = b.0.2; line = t.0.line }, u.1)

unfoldable pub scalar_at : Keyword → TypeWord → ℕ → Reader SignalType
scalar_at w kind count here = do
  t ← take_marked (form.Keyword w) (λ _. counts (count * 1)) here
  Ok (record { word = kind; line = t.0.line; range = None }, t.1)

unfoldable pub vector_at : Keyword → TypeWord → ℕ → ℕ → Reader SignalType
vector_at w kind room count here = do
  t ← take_at (form.Keyword w) here
  r ← range_at room count t.1
  Ok (record { word = kind; line = t.0.line; range = Some r.0 }, r.1)

unfoldable pub port_type_at : ℕ → ℕ → Reader SignalType
port_type_at room count here =
    if is_at (form.Keyword word.Bit) here.rest then scalar_at word.Bit type.Bit count here
    else (if is_at (form.Keyword word.BitVector) here.rest then vector_at word.BitVector type.BitVector room count here
    else (if is_at (form.Keyword word.MuxBit) here.rest then scalar_at word.MuxBit type.MuxBit count here
    else (if is_at (form.Keyword word.WorBit) here.rest then scalar_at word.WorBit type.WorBit count here
    else (if is_at (form.Keyword word.MuxVector) here.rest then vector_at word.MuxVector type.MuxVector room count here
    else vector_at word.WorVector type.WorVector room count here))))

unfoldable pub register_at : SignalType → Reader SignalType
register_at kind here = do
  t ← take_at (form.Keyword word.Register) here
  Ok (kind, t.1)

unfoldable pub registered_at : Reader SignalType → Reader SignalType
registered_at read here = do
  kind ← read here
  register_at kind.0 kind.1

unfoldable pub signal_type_at : ℕ → ℕ → Reader SignalType
signal_type_at room count here =
    if is_at (form.Keyword word.Bit) here.rest then scalar_at word.Bit type.Bit count here
    else (if is_at (form.Keyword word.BitVector) here.rest then vector_at word.BitVector type.BitVector room count here
    else (if is_at (form.Keyword word.RegBit) here.rest then registered_at (scalar_at word.RegBit type.RegBit count) here
    else (if is_at (form.Keyword word.RegVector) here.rest then registered_at (vector_at word.RegVector type.RegVector room count) here
    else registered_at (vector_at word.RegBitVector type.RegBitVector room count) here)))

unfoldable pub given_at : Reader (Option ℕ)
given_at here = do
  t ← take_at (form.Sign sign.Default) here
  n ← number_at t.1
  Ok (Some n.0, n.1)

unfoldable pub default_at : Reader (Option ℕ)
default_at here = if is_at (form.Sign sign.Default) here.rest then given_at here else Ok (None, here)

unfoldable pub generic_at : Reader Generic
generic_at here = do
  n ← names_at word.Constant here
  t ← take_at (form.Sign sign.Colon) n.1
  kind ← identifier_at t.1
  value ← default_at kind.1
  Ok (record { line = n.0.0; names = n.0.1; kind = kind.0; value = value.0 }, value.1)

unfoldable pub next_generic_at : Reader Generic
next_generic_at here = do
  t ← take_at (form.Sign sign.Semicolon) here
  generic_at t.1

unfoldable pub closed_at : {A : Type 0} → A → Reader A
closed_at x here = do
  t ← take_at (form.Sign sign.RightParen) here
  u ← take_at (form.Sign sign.Semicolon) t.1
  Ok (x, u.1)

unfoldable pub generics_at : Reader (List Generic)
generics_at here = do
  first ← generic_at here
  others ← list_at (code (form.Sign sign.Semicolon) ∷ []) next_generic_at first.1
  closed_at (first.0 ∷ others.0) others.1

unfoldable pub generic_clause_at : ℕ → Reader (List Generic)
generic_clause_at room here = do
  t ← take_at (form.Keyword word.Generic) here
  u ← take_marked (form.Sign sign.LeftParen) (λ _. opens room) t.1
  generics_at u.1

unfoldable pub optional_generics_at : ℕ → Reader (List Generic)
optional_generics_at room here = if is_at (form.Keyword word.Generic) here.rest then generic_clause_at room here else Ok ([], here)

unfoldable pub one_mode_at : Keyword → Mode → Reader Moded
one_mode_at w m here = do
  t ← take_at (form.Keyword w) here
  Ok ((m, t.0.line), t.1)

unfoldable pub port_mode_at : Reader Moded
port_mode_at here = if is_at (form.Keyword word.In) here.rest then one_mode_at word.In mode.In here
    else (if is_at (form.Keyword word.Out) here.rest then one_mode_at word.Out mode.Out here else one_mode_at word.Inout mode.Inout here)

unfoldable pub taken_bus_at : Reader Bool
taken_bus_at here = do
  t ← take_at (form.Keyword word.Bus) here
  Ok (true, t.1)

unfoldable pub bus_at : Reader Bool
bus_at here = if is_at (form.Keyword word.Bus) here.rest then taken_bus_at here else Ok (false, here)

unfoldable pub port_behind_at : ℕ → Names → Reader PortGroup
port_behind_at room n here = do
  t ← take_at (form.Sign sign.Colon) here
  m ← port_mode_at t.1
  kind ← port_type_at room (length n.1) m.1
  b ← bus_at kind.1
  Ok (record { line = n.0; names = n.1; mode = m.0.0; mode_line = m.0.1; kind = kind.0; bus = b.0 }, b.1)

unfoldable pub port_at : ℕ → Reader PortGroup
port_at room here = do
  n ← names_at word.Signal here
  port_behind_at room n.0 n.1

unfoldable pub next_port_at : ℕ → Reader PortGroup
next_port_at room here = do
  t ← take_at (form.Sign sign.Semicolon) here
  port_at room t.1

unfoldable pub ports_at : ℕ → Reader (List PortGroup)
ports_at room here = do
  first ← port_at room here
  others ← list_at (code (form.Sign sign.Semicolon) ∷ []) (next_port_at room) first.1
  closed_at (first.0 ∷ others.0) others.1

unfoldable pub port_clause_at : ℕ → Reader (List PortGroup)
port_clause_at room here = do
  t ← take_at (form.Keyword word.Port) here
  u ← take_marked (form.Sign sign.LeftParen) (λ _. opens room) t.1
  ports_at (room - 1) u.1

unfoldable pub entity_head_at : Reader (List ℕ)
entity_head_at here = do
  t ← take_at (form.Keyword word.Entity) here
  name ← identifier_at t.1
  w ← take_at (form.Keyword word.Is) name.1
  Ok (name.0, w.1)

unfoldable pub stop_at : {A : Type 0} → A → Reader A
stop_at x here = do
  w ← take_at (form.Sign sign.Semicolon) here
  Ok (x, w.1)

unfoldable pub repeated_at : {A : Type 0} → List ℕ → A → Reader A
repeated_at name x here = do
  u ← take_marked form.Identifier (λ u. spells name (name_of u)) here
  stop_at x u.1

unfoldable pub ending_at : {A : Type 0} → List ℕ → A → Reader A
ending_at name x here = do
  t ← take_at (form.Keyword word.End) here
  if is_at form.Identifier t.1.rest then repeated_at name x t.1 else stop_at x t.1

unfoldable pub entity_at : ℕ → Reader Entity
entity_at room here = do
  name ← entity_head_at here
  generics ← optional_generics_at room name.1
  ports ← port_clause_at room generics.1
  ending_at name.0 (record { name = name.0; generics = generics.0; ports = ports.0 }) ports.1

unfoldable pub signal_at : ℕ → Reader SignalGroup
signal_at room here = do
  n ← led_names_at word.Signal here
  t ← take_at (form.Sign sign.Colon) n.1
  kind ← signal_type_at room (length n.0.1) t.1
  u ← take_at (form.Sign sign.Semicolon) kind.1
  Ok (record { line = n.0.0; names = n.0.1; kind = kind.0 }, u.1)

unfoldable pub signals_at : ℕ → Reader (List SignalGroup)
signals_at room = list_at (code (form.Keyword word.Signal) ∷ []) (signal_at room)

unfoldable pub declarations_at : ℕ → Reader Declarations
declarations_at room here = do
  all ← signals_at room here
  Ok (record { signals = all.0 }, all.1)
