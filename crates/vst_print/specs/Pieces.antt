-- Parts of the text, one behind the other.
use Rattle.std.specs.Prelude.{◌≡◌, ℕ, ◌<◌, ◌≤◌, not, is_none, bytes_eq, List, [], ◌∷◌, ◌++◌, map, length, drop}
use Rattle.std.specs.List.{list_all}
use Rattle.vlsi_base.specs.declared.name.Port.{Port}
use Rattle.vhdl_token.specs.declared.keyword.Keyword.TheVariants as word
use Rattle.vhdl_token.specs.declared.token.Sign.TheVariants as sign
use Rattle.spell_theory.specs.Layout.{gap, turn, text_of}
use Rattle.vhdl_print.specs.Outline.{OnePort, a_word, a_sign, a_name, port_layout, ports_layout, entity_layout}
use Rattle.net_core.specs.declared.pins.ModelPins.{ModelPins}
use Rattle.net_core.specs.Places.{Stands, position_of}
use Rattle.net_core.specs.Netlist.{Netlist}
use Rattle.vst_print.specs.Groups.{outline}
use Rattle.vst_print.specs.Structure.{Mapping, mapping_layout, mappings_layout, head_layout, components_layout, signals_layout, begin_layout, instances_layout, last_layout}
use Rattle.vst_print.specs.Nets.{signal_nets, net_names}
use Rattle.vst_print.specs.Written.{used_models, component_of, instances_with}

-- ports, each on a line
abbrev pub ports_text : List OnePort → List ℕ
ports_text [] = []
ports_text (p ∷ ps) = text_of (port_layout p ++ ports_layout ps)

-- the ports from one on to the last that has its text end in front of this place
pub record IsRunEnd (ports : List Port) (start end : ℕ) : Type 0 where
  pub some : start < end
  pub within : end ≤ length ports
  pub same : (k : ℕ) (p q : Port) → Stands ports start p → Stands ports k q → start ≤ k → k < end → p.name.text ≡ q.name.text
  pub other : (p q : Port) → Stands ports start p → Stands ports end q → p.name.text ≡ q.name.text → ⊥

-- a text is among these exactly where a port has it
abbrev pub AreTaken : List Port → List (List ℕ) → Type 0
AreTaken ports taken = (text : List ℕ) → is_none (position_of taken text) ≡ list_all (λ p. not (bytes_eq p.name.text text)) ports

-- the first two lines of an instance
abbrev pub label_text : List ℕ → List ℕ → List ℕ
label_text name model =
    text_of (a_name name ∷ gap ∷ a_sign sign.Colon ∷ gap ∷ a_name model ∷ turn
    ∷ a_word word.Port ∷ gap ∷ a_word word.Map ∷ gap ∷ a_sign sign.LeftParen ∷ turn ∷ [])

-- pins and their nets, each on a line
abbrev pub maps_text : List Mapping → List ℕ
maps_text [] = []
maps_text (m ∷ ms) = text_of (mapping_layout m ++ mappings_layout ms)

-- the text up to the components, and from the signals on
abbrev pub front_text : Netlist → List ModelPins → List ℕ
front_text n table =
    text_of (entity_layout (outline n.name n.ports) ++ (head_layout n.name ++ components_layout (map (component_of table) (used_models n.instances))))

abbrev pub body_text : Netlist → List ℕ
body_text n =
    text_of (signals_layout (signal_nets n)
    ++ (begin_layout ++ (instances_layout (instances_with (net_names n) n.instances (drop (length n.ports) n.classes)) ++ last_layout)))
