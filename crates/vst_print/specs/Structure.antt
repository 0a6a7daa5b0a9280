-- Structural texts as they are to be written, and how they are laid out.
use Rattle.std.specs.Prelude.{ℕ, List, [], ◌∷◌, ◌++◌, Option, None, Some, codes}
use Rattle.vlsi_base.specs.declared.name.Name.{Name}
use Rattle.vhdl_token.specs.declared.keyword.Keyword.TheVariants as word
use Rattle.vhdl_token.specs.declared.token.Sign.TheVariants as sign
use Rattle.spell_theory.specs.Layout.{Written, gap, turn}
use Rattle.vhdl_print.specs.Outline.{Outline, a_word, a_sign, a_name, a_number, port_layout, ports_layout, entity_layout}

-- a pin and the net that it is joined to, by the names that the text has for them
pub record Mapping : Type 0 where
  pub pin : Name
  pub net : Name

-- an instance: its label, its model, and its pins, of which it has at least one
pub record OneInstance : Type 0 where
  pub label : List ℕ
  pub model : List ℕ
  pub first : Mapping
  pub others : List Mapping

-- a text: its entity, its components, the signals that it declares, and its instances
pub record Structure : Type 0 where
  pub entity : Outline
  pub components : List Outline
  pub signals : List (List ℕ)
  pub instances : List OneInstance

-- ---- layout

abbrev pub architecture_name : List ℕ
architecture_name = codes "structural"

-- the bit of a vector in parentheses
abbrev pub bit_layout : Option ℕ → List Written
bit_layout None = []
bit_layout (Some k) = a_sign sign.LeftParen ∷ a_number k ∷ a_sign sign.RightParen ∷ []

abbrev pub name_layout : Name → List Written
name_layout n = a_name n.text ∷ bit_layout n.bit

-- the end of the list of a component's ports, and of the component
abbrev pub component_end : List Written
component_end =
    a_sign sign.RightParen ∷ a_sign sign.Semicolon ∷ turn
    ∷ a_word word.End ∷ gap ∷ a_word word.Component ∷ a_sign sign.Semicolon ∷ turn ∷ []

-- its ports each on a line, the first on the third
abbrev pub component_layout : Outline → List Written
component_layout c =
    a_word word.Component ∷ gap ∷ a_name c.name ∷ turn
    ∷ a_word word.Port ∷ gap ∷ a_sign sign.LeftParen ∷ turn
    ∷ port_layout c.first ++ (ports_layout c.others ++ component_end)

abbrev pub components_layout : List Outline → List Written
components_layout [] = []
components_layout (c ∷ cs) = component_layout c ++ components_layout cs

-- each signal on a line
abbrev pub signal_layout : List ℕ → List Written
signal_layout name =
    a_word word.Signal ∷ gap ∷ a_name name ∷ gap ∷ a_sign sign.Colon ∷ gap ∷ a_word word.Bit ∷ a_sign sign.Semicolon ∷ turn ∷ []

abbrev pub signals_layout : List (List ℕ) → List Written
signals_layout [] = []
signals_layout (s ∷ ss) = signal_layout s ++ signals_layout ss

-- a pin and its net on a line, after two spaces
abbrev pub mapping_layout : Mapping → List Written
mapping_layout m = gap ∷ gap ∷ name_layout m.pin ++ (gap ∷ a_sign sign.Arrow ∷ gap ∷ name_layout m.net)

-- the further pins, each behind a comma on a line of its own
abbrev pub mappings_layout : List Mapping → List Written
mappings_layout [] = []
mappings_layout (m ∷ ms) = (a_sign sign.Comma ∷ turn ∷ mapping_layout m) ++ mappings_layout ms

abbrev pub instance_end : List Written
instance_end = a_sign sign.RightParen ∷ a_sign sign.Semicolon ∷ turn ∷ []

-- the label and the model on the first line, the first pin on the third
abbrev pub instance_layout : OneInstance → List Written
instance_layout i =
    a_name i.label ∷ gap ∷ a_sign sign.Colon ∷ gap ∷ a_name i.model ∷ turn
    ∷ a_word word.Port ∷ gap ∷ a_word word.Map ∷ gap ∷ a_sign sign.LeftParen ∷ turn
    ∷ mapping_layout i.first ++ (mappings_layout i.others ++ instance_end)

abbrev pub instances_layout : List OneInstance → List Written
instances_layout [] = []
instances_layout (i ∷ is) = instance_layout i ++ instances_layout is

-- the first line of the architecture, behind an empty line
abbrev pub head_layout : List ℕ → List Written
head_layout entity =
    turn ∷ a_word word.Architecture ∷ gap ∷ a_name architecture_name ∷ gap ∷ a_word word.Of ∷ gap ∷ a_name entity ∷ gap
    ∷ a_word word.Is ∷ turn ∷ []

abbrev pub begin_layout : List Written
begin_layout = a_word word.Begin ∷ turn ∷ []

abbrev pub last_layout : List Written
last_layout = a_word word.End ∷ gap ∷ a_name architecture_name ∷ a_sign sign.Semicolon ∷ turn ∷ []

-- the whole text
abbrev pub structure_layout : Structure → List Written
structure_layout s =
    entity_layout s.entity
    ++ (head_layout s.entity.name
    ++ (components_layout s.components ++ (signals_layout s.signals ++ (begin_layout ++ (instances_layout s.instances ++ last_layout)))))
