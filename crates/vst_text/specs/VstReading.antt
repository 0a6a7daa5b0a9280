-- Reading structural texts from left to right, by the next token alone.
use Rattle.std.specs.Prelude.{ℕ, ◌-◌, List, [], ◌∷◌, length, Option, None, Some, Ok, if◌then◌else◌}
use Rattle.vlsi_base.specs.declared.entity.Entity.{Entity}
use Rattle.vlsi_base.specs.declared.entity.NewName.{NewName}
use Rattle.vlsi_base.specs.declared.entity.PortGroup.{PortGroup}
use Rattle.vlsi_base.specs.declared.entity.SignalGroup.{SignalGroup}
use Rattle.vhdl_token.specs.declared.keyword.Keyword.{Keyword}
use Rattle.vhdl_token.specs.declared.keyword.Keyword.TheVariants as word
use Rattle.vhdl_token.specs.declared.token.Sign.TheVariants as sign
use Rattle.grammar_theory.specs.declared.form.Form.TheVariants as form
use Rattle.grammar_theory.specs.Tokens.{code, is_at}
use Rattle.grammar_theory.specs.Marks.{opens, enters}
use Rattle.grammar_theory.specs.Outcome.{Reader, ◌>>=◌, take_at, take_marked, list_at}
use Rattle.vhdl_front.specs.Cursor.{name_of}
use Rattle.vhdl_front.specs.Reading.{number_at, closing_at}
use Rattle.vhdl_front.specs.Entity.{Names, new_name}
use Rattle.vhdl_front.specs.EntityReading.{led_names_at, port_type_at, port_behind_at, closed_at, entity_at}
use Rattle.vbe_text.specs.VbeReading.{target_at, repeated_at, architecture_head_at}
use Rattle.vst_text.specs.Vst.{among_components, among_instances}
use Rattle.vst_text.specs.declared.file.Component.{Component}
use Rattle.vst_text.specs.declared.file.Declaration.{Declaration}
use Rattle.vst_text.specs.declared.file.Declaration.TheVariants as declares
use Rattle.vst_text.specs.declared.file.PinName.{PinName}
use Rattle.vst_text.specs.declared.file.Association.{Association}
use Rattle.vst_text.specs.declared.file.InstanceStatement.{InstanceStatement}
use Rattle.vst_text.specs.declared.file.StructuralFile.{StructuralFile}

-- ---- components

unfoldable pub bare_name_at : Reader NewName
bare_name_at here = do
  t ← take_at form.Identifier here
  Ok (new_name t.0, t.1)

unfoldable pub another_bare_at : Reader NewName
another_bare_at here = do
  t ← take_at (form.Sign sign.Comma) here
  bare_name_at t.1

unfoldable pub led_bare_at : Keyword → Reader Names
led_bare_at w here = do
  t ← take_at (form.Keyword w) here
  first ← bare_name_at t.1
  others ← list_at (code (form.Sign sign.Comma) ∷ []) another_bare_at first.1
  Ok ((t.0.line, first.0 ∷ others.0), others.1)

unfoldable pub own_bare_at : Reader Names
own_bare_at here = do
  first ← bare_name_at here
  others ← list_at (code (form.Sign sign.Comma) ∷ []) another_bare_at first.1
  Ok ((first.0.line, first.0 ∷ others.0), others.1)

unfoldable pub bare_names_at : Reader Names
bare_names_at here = if is_at (form.Keyword word.Signal) here.rest then led_bare_at word.Signal here else own_bare_at here

unfoldable pub component_port_at : ℕ → Reader PortGroup
component_port_at room here = do
  n ← bare_names_at here
  port_behind_at room n.0 n.1

unfoldable pub next_component_port_at : ℕ → Reader PortGroup
next_component_port_at room here = do
  t ← take_at (form.Sign sign.Semicolon) here
  component_port_at room t.1

-- behind their parenthesis
unfoldable pub opened_ports_at : ℕ → Reader (List PortGroup)
opened_ports_at room here = do
  first ← component_port_at room here
  others ← list_at (code (form.Sign sign.Semicolon) ∷ []) (next_component_port_at room) first.1
  closed_at (first.0 ∷ others.0) others.1

unfoldable pub component_ports_at : ℕ → Reader (List PortGroup)
component_ports_at room here = do
  t ← take_at (form.Keyword word.Port) here
  u ← take_marked (form.Sign sign.LeftParen) (λ _. opens room) t.1
  opened_ports_at (room - 1) u.1

unfoldable pub component_end_at : {A : Type 0} → List ℕ → A → Reader A
component_end_at name x here = do
  t ← take_at (form.Keyword word.End) here
  u ← take_at (form.Keyword word.Component) t.1
  v ← repeated_at name u.1
  Ok (x, v.1)

-- behind its name, on the line of its first token
unfoldable pub component_behind_at : ℕ → ℕ → List ℕ → Reader Component
component_behind_at room line name here = do
  ports ← component_ports_at room here
  component_end_at name (record { line = line; name = name; ports = ports.0 }) ports.1

unfoldable pub component_at : ℕ → Reader Component
component_at room here = do
  t ← take_at (form.Keyword word.Component) here
  u ← take_marked form.Identifier (λ u. enters among_components t.0.line (name_of u)) t.1
  component_behind_at room t.0.line (name_of u.0) u.1

-- ---- signals

unfoldable pub signal_at : ℕ → Reader SignalGroup
signal_at room here = do
  n ← led_names_at word.Signal here
  t ← take_at (form.Sign sign.Colon) n.1
  kind ← port_type_at room (length n.0.1) t.1
  u ← take_at (form.Sign sign.Semicolon) kind.1
  Ok (record { line = n.0.0; names = n.0.1; kind = kind.0 }, u.1)

unfoldable pub new_component_at : ℕ → Reader Declaration
new_component_at room here = do
  c ← component_at room here
  Ok (declares.Component c.0, c.1)

unfoldable pub declared_signals_at : ℕ → Reader Declaration
declared_signals_at room here = do
  s ← signal_at room here
  Ok (declares.Signals s.0, s.1)

unfoldable pub declaration_at : ℕ → Reader Declaration
declaration_at room here = if is_at (form.Keyword word.Component) here.rest then new_component_at room here else declared_signals_at room here

unfoldable pub declaration_list_at : ℕ → Reader (List Declaration)
declaration_list_at room = list_at (code (form.Keyword word.Component) ∷ code (form.Keyword word.Signal) ∷ []) (declaration_at room)

-- ---- instances

unfoldable pub opened_index_at : ℕ → Reader (Option ℕ)
opened_index_at room here = do
  t ← take_marked (form.Sign sign.LeftParen) (λ _. opens room) here
  n ← number_at t.1
  closing_at (Some n.0) n.1

unfoldable pub index_at : ℕ → Reader (Option ℕ)
index_at room here = if is_at (form.Sign sign.LeftParen) here.rest then opened_index_at room here else Ok (None, here)

unfoldable pub pin_at : ℕ → Reader PinName
pin_at room here = do
  t ← take_at form.Identifier here
  b ← index_at room t.1
  Ok (record { text = name_of t.0; bit = b.0; line = t.0.line }, b.1)

unfoldable pub association_at : ℕ → Reader Association
association_at room here = do
  p ← pin_at room here
  t ← take_at (form.Sign sign.Arrow) p.1
  n ← target_at room t.1
  Ok (record { pin = p.0; net = n.0 }, n.1)

unfoldable pub next_association_at : ℕ → Reader Association
next_association_at room here = do
  t ← take_at (form.Sign sign.Comma) here
  association_at room t.1

-- behind their parenthesis
unfoldable pub associations_at : ℕ → Reader (List Association × ℕ)
associations_at room here = do
  first ← association_at room here
  others ← list_at (code (form.Sign sign.Comma) ∷ []) (next_association_at room) first.1
  t ← take_at (form.Sign sign.RightParen) others.1
  u ← take_at (form.Sign sign.Semicolon) t.1
  Ok ((first.0 ∷ others.0, t.0.line), u.1)

unfoldable pub port_map_at : ℕ → Reader (List Association × ℕ)
port_map_at room here = do
  t ← take_at (form.Keyword word.Port) here
  u ← take_at (form.Keyword word.Map) t.1
  v ← take_marked (form.Sign sign.LeftParen) (λ _. opens room) u.1
  associations_at (room - 1) v.1

unfoldable pub instance_statement_at : ℕ → Reader InstanceStatement
instance_statement_at room here = do
  t ← take_marked form.Identifier (λ t. enters among_instances t.line (name_of t)) here
  u ← take_at (form.Sign sign.Colon) t.1
  c ← take_at form.Identifier u.1
  m ← port_map_at room c.1
  Ok (record { label = name_of t.0; line = t.0.line; component = name_of c.0; component_line = c.0.line; associations = m.0.0; end_line = m.0.1 }, m.1)

-- ---- the whole text

unfoldable pub instance_list_at : ℕ → Reader (List InstanceStatement)
instance_list_at room = list_at (code form.Identifier ∷ []) (instance_statement_at room)

unfoldable pub instance_statements_at : ℕ → Reader (List InstanceStatement)
instance_statements_at room here = do
  t ← take_at (form.Keyword word.Begin) here
  all ← instance_list_at room t.1
  u ← take_at (form.Keyword word.End) all.1
  Ok (all.0, u.1)

unfoldable pub architecture_at : ℕ → Entity → Reader StructuralFile
architecture_at room e here = do
  name ← architecture_head_at e.name here
  declared ← declaration_list_at room name.1
  all ← instance_statements_at room declared.1
  u ← repeated_at name.0 all.1
  Ok (record { entity = e; declarations = declared.0; instances = all.0 }, u.1)

unfoldable pub structure_at : ℕ → Reader StructuralFile
structure_at room here = do
  e ← entity_at room here
  architecture_at room e.0 e.1
