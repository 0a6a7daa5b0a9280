-- The grammar of structural texts. Here and below, `room` is how many parentheses more may be open.
use Rattle.std.specs.Prelude.{◌≡◌, ℕ, ◌-◌, List, [], ◌∷◌, length, Option, None, Some, Ok, codes}
use Rattle.vlsi_base.specs.declared.entity.Entity.{Entity}
use Rattle.vlsi_base.specs.declared.entity.NewName.{NewName}
use Rattle.vlsi_base.specs.declared.entity.PortGroup.{PortGroup}
use Rattle.vlsi_base.specs.declared.entity.SignalGroup.{SignalGroup}
use Rattle.vlsi_base.specs.declared.fault.ReadError.{ReadError}
use Rattle.vlsi_base.specs.declared.fault.ReadError.TheVariants as errors
use Rattle.vhdl_token.specs.declared.keyword.Keyword.{Keyword}
use Rattle.vhdl_token.specs.declared.keyword.Keyword.TheVariants as word
use Rattle.vhdl_token.specs.declared.token.Sign.TheVariants as sign
use Rattle.vhdl_token.specs.declared.token.Tokens.{Tokens}
use Rattle.grammar_theory.specs.declared.form.Form.TheVariants as form
use Rattle.grammar_theory.specs.declared.limits.TheConstants.{DEPTH}
use Rattle.grammar_theory.specs.declared.refusal.Refusal.{Refusal}
use Rattle.grammar_theory.specs.Marks.{opens, enters}
use Rattle.grammar_theory.specs.Grammar.{Grammar, nothing, one, marked, ◌or◌, ◌>>=◌, list}
use Rattle.grammar_theory.specs.Outcome.{At, start}
use Rattle.grammar_theory.specs.Answers.{Rejects, AnswersAll}
use Rattle.vhdl_front.specs.Cursor.{name_of}
use Rattle.vhdl_front.specs.Expression.{number, closing}
use Rattle.vhdl_front.specs.Entity.{Names, new_name, identifier, closed, led_names, port_type, port_behind, entity}
use Rattle.vhdl_front.specs.Front.{error_of}
use Rattle.vbe_text.specs.Vbe.{target, repeated, architecture_head}
use Rattle.vst_text.specs.declared.file.Component.{Component}
use Rattle.vst_text.specs.declared.file.Declaration.{Declaration}
use Rattle.vst_text.specs.declared.file.Declaration.TheVariants as declares
use Rattle.vst_text.specs.declared.file.PinName.{PinName}
use Rattle.vst_text.specs.declared.file.Association.{Association}
use Rattle.vst_text.specs.declared.file.InstanceStatement.{InstanceStatement}
use Rattle.vst_text.specs.declared.file.StructuralFile.{StructuralFile}

-- ---- components, whose names have a list of their own; the names of their ports are in none

abbrev pub among_components : List ℕ
among_components = codes "component "

abbrev pub among_instances : List ℕ
among_instances = codes "instance "

unfoldable pub bare_name : Grammar NewName
bare_name = do
  t ← one form.Identifier
  nothing (new_name t)

unfoldable pub another_bare : Grammar NewName
another_bare = do
  t ← one (form.Sign sign.Comma)
  bare_name

unfoldable pub led_bare : Keyword → Grammar Names
led_bare w = do
  t ← one (form.Keyword w)
  first ← bare_name
  others ← list another_bare
  nothing (t.line, first ∷ others)

unfoldable pub own_bare : Grammar Names
own_bare = do
  first ← bare_name
  others ← list another_bare
  nothing (first.line, first ∷ others)

unfoldable pub component_port : ℕ → Grammar PortGroup
component_port room = do
  n ← led_bare word.Signal or own_bare
  port_behind room n

unfoldable pub next_component_port : ℕ → Grammar PortGroup
next_component_port room = do
  t ← one (form.Sign sign.Semicolon)
  component_port room

unfoldable pub component_ports : ℕ → Grammar (List PortGroup)
component_ports room = do
  t ← one (form.Keyword word.Port)
  u ← marked (form.Sign sign.LeftParen) (λ _. opens room)
  first ← component_port (room - 1)
  others ← list (next_component_port (room - 1))
  closed (first ∷ others)

unfoldable pub component : ℕ → Grammar Component
component room = do
  t ← one (form.Keyword word.Component)
  u ← marked form.Identifier (λ u. enters among_components t.line (name_of u))
  ports ← component_ports room
  v ← one (form.Keyword word.End)
  w ← one (form.Keyword word.Component)
  x ← repeated (name_of u)
  nothing (record { line = t.line; name = name_of u; ports = ports })

-- ---- signals

unfoldable pub signal : ℕ → Grammar SignalGroup
signal room = do
  n ← led_names word.Signal
  t ← one (form.Sign sign.Colon)
  kind ← port_type room (length n.1)
  u ← one (form.Sign sign.Semicolon)
  nothing (record { line = n.0; names = n.1; kind = kind })

unfoldable pub declaration : ℕ → Grammar Declaration
declaration room = (do
  c ← component room
  nothing (declares.Component c)) or (do
    s ← signal room
    nothing (declares.Signals s))

-- ---- instances, whose labels have a list of their own

-- ( N ), which may be left out
unfoldable pub index : ℕ → Grammar (Option ℕ)
index room = (do
  t ← marked (form.Sign sign.LeftParen) (λ _. opens room)
  n ← number
  closing (Some n)) or nothing None

unfoldable pub pin : ℕ → Grammar PinName
pin room = do
  t ← one form.Identifier
  b ← index room
  nothing (record { text = name_of t; bit = b; line = t.line })

unfoldable pub association : ℕ → Grammar Association
association room = do
  p ← pin room
  t ← one (form.Sign sign.Arrow)
  n ← target room
  nothing (record { pin = p; net = n })

unfoldable pub next_association : ℕ → Grammar Association
next_association room = do
  t ← one (form.Sign sign.Comma)
  association room

-- with the line of the parenthesis behind them
unfoldable pub port_map : ℕ → Grammar (List Association × ℕ)
port_map room = do
  t ← one (form.Keyword word.Port)
  u ← one (form.Keyword word.Map)
  v ← marked (form.Sign sign.LeftParen) (λ _. opens room)
  first ← association (room - 1)
  others ← list (next_association (room - 1))
  w ← one (form.Sign sign.RightParen)
  x ← one (form.Sign sign.Semicolon)
  nothing (first ∷ others, w.line)

unfoldable pub instance_statement : ℕ → Grammar InstanceStatement
instance_statement room = do
  t ← marked form.Identifier (λ t. enters among_instances t.line (name_of t))
  u ← one (form.Sign sign.Colon)
  c ← one form.Identifier
  m ← port_map room
  nothing (record { label = name_of t; line = t.line; component = name_of c; component_line = c.line; associations = m.0; end_line = m.1 })

-- ---- the whole text

unfoldable pub instance_statements : ℕ → Grammar (List InstanceStatement)
instance_statements room = do
  t ← one (form.Keyword word.Begin)
  all ← list (instance_statement room)
  u ← one (form.Keyword word.End)
  nothing all

unfoldable pub architecture : ℕ → Entity → Grammar StructuralFile
architecture room e = do
  name ← architecture_head e.name
  declared ← list (declaration room)
  all ← instance_statements room
  u ← repeated name
  nothing (record { entity = e; declarations = declared; instances = all })

unfoldable pub structure : ℕ → Grammar StructuralFile
structure room = do
  e ← entity room
  architecture room e

-- whole structural texts
abbrev pub vst : Grammar StructuralFile
vst = structure DEPTH

-- ---- answers

-- All of the tokens are a sentence of the grammar without a breach, and this is its value.
pub record IsStructure (tokens : Tokens) (file : StructuralFile) : Type 0 where
  pub end : At
  pub read : AnswersAll vst (start tokens.items) (Ok (file, end))

-- The first token at which the text goes wrong, or its end, and what is answered for it.
pub record RefusedAs (tokens : Tokens) (error : ReadError) : Type 0 where
  pub refusal : Refusal
  pub right : Rejects vst (start tokens.items) refusal
  pub is : error ≡ error_of tokens.last_line tokens.items refusal

-- Memory may run out at any time.
abbrev pub IsRefusedStructure : Tokens → ReadError → Type 0
IsRefusedStructure tokens errors.Memory = Unit {0}
IsRefusedStructure tokens (errors.Input f) = RefusedAs tokens (errors.Input f)
IsRefusedStructure tokens (errors.Limit l) = RefusedAs tokens (errors.Limit l)
