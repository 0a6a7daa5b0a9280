-- Entities as they are to be written, and how they are laid out.
use Rattle.std.specs.Prelude.{◌≡◌, ℕ, ◌+◌, ◌≤◌, Bool, true, false, List, [], ◌∷◌, ◌++◌, Option, None, Some}
use Rattle.std.specs.BTreeSet.{insert_key}
use Rattle.std.specs.Cmp.Lexicographic.{slice_cmp}
use Rattle.std.specs.Ordering.{nat_cmp}
use Rattle.vlsi_base.specs.declared.entity.Mode.{Mode}
use Rattle.vlsi_base.specs.declared.entity.Mode.TheVariants as mode
use Rattle.vlsi_base.specs.declared.entity.TypeWord.TheVariants as type
use Rattle.vlsi_base.specs.declared.entity.SignalType.{SignalType}
use Rattle.vlsi_base.specs.declared.entity.PortGroup.{PortGroup}
use Rattle.vlsi_base.specs.declared.entity.Entity.{Entity}
use Rattle.vhdl_token.specs.declared.keyword.Keyword.{Keyword}
use Rattle.vhdl_token.specs.declared.keyword.Keyword.TheVariants as word
use Rattle.vhdl_token.specs.declared.token.Token.TheVariants as token
use Rattle.vhdl_token.specs.declared.token.Sign.{Sign}
use Rattle.vhdl_token.specs.declared.token.Sign.TheVariants as sign
use Rattle.grammar_theory.specs.Marks.{State, is_declared}
use Rattle.grammar_theory.specs.declared.limits.TheConstants.{BITS}
use Rattle.vhdl_front.specs.Entity.{width}
use Rattle.spell_theory.specs.Layout.{Written, gap, turn, says, line_behind}

-- the bounds of a vector, and whether they fall
pub record Bounds : Type 0 where
  pub left : ℕ
  pub falls : Bool
  pub right : ℕ

-- a port of one bit, or of a vector with these bounds
pub record OnePort : Type 0 where
  pub name : List ℕ
  pub mode : Mode
  pub bounds : Option Bounds

-- an entity: its name, and its ports, of which it has at least one
pub record Outline : Type 0 where
  pub name : List ℕ
  pub first : OnePort
  pub others : List OnePort

-- ---- layout

-- a reserved word, a sign, a name, a number
abbrev pub a_word : Keyword → Written
a_word w = says (token.Keyword w)

abbrev pub a_sign : Sign → Written
a_sign s = says (token.Sign s)

abbrev pub a_name : List ℕ → Written
a_name text = says (token.Identifier text)

abbrev pub a_number : ℕ → Written
a_number n = says (token.Number n)

-- the word of a mode
abbrev pub mode_word : Mode → Keyword
mode_word mode.In = word.In
mode_word mode.Out = word.Out
mode_word mode.Inout = word.Inout

-- the word between bounds that fall, or rise
abbrev pub direction_word : Bool → Keyword
direction_word true = word.Downto
direction_word false = word.To

-- `bit`, or `bit_vector (3 downto 0)`
abbrev pub type_layout : Option Bounds → List Written
type_layout None = a_word word.Bit ∷ []
type_layout (Some b) =
    a_word word.BitVector ∷ gap ∷ a_sign sign.LeftParen ∷ a_number b.left ∷ gap
    ∷ a_word (direction_word b.falls) ∷ gap ∷ a_number b.right ∷ a_sign sign.RightParen ∷ []

-- a port on its line, after two spaces
abbrev pub port_layout : OnePort → List Written
port_layout p =
    gap ∷ gap ∷ a_name p.name ∷ gap ∷ a_sign sign.Colon ∷ gap ∷ a_word (mode_word p.mode) ∷ gap ∷ type_layout p.bounds

-- the further ports, each behind a semicolon on a line of its own
abbrev pub ports_layout : List OnePort → List Written
ports_layout [] = []
ports_layout (p ∷ ps) = (a_sign sign.Semicolon ∷ turn ∷ port_layout p) ++ ports_layout ps

-- the end of the list of ports and of the entity
abbrev pub end_layout : List ℕ → List Written
end_layout name =
    a_sign sign.RightParen ∷ a_sign sign.Semicolon ∷ turn
    ∷ a_word word.End ∷ gap ∷ a_name name ∷ a_sign sign.Semicolon ∷ turn ∷ []

-- the whole entity, its first port on the third line
abbrev pub entity_layout : Outline → List Written
entity_layout e =
    a_word word.Entity ∷ gap ∷ a_name e.name ∷ gap ∷ a_word word.Is ∷ turn
    ∷ a_word word.Port ∷ gap ∷ a_sign sign.LeftParen ∷ turn
    ∷ port_layout e.first ++ (ports_layout e.others ++ end_layout e.name)

-- ---- what is read of it

-- the type of a port that stands on this line
abbrev pub placed_type : ℕ → Option Bounds → SignalType
placed_type line None = record { word = type.Bit; line = line; range = None }
placed_type line (Some b) = record {
  word = type.BitVector;
  line = line;
  range = Some (record { left = b.left; falls = b.falls; right = b.right; line = line });
}

-- the port that stands on this line, as a group of one name
abbrev pub placed_port : ℕ → OnePort → PortGroup
placed_port line p = record {
  line = line;
  names = record { text = p.name; line = line } ∷ [];
  mode = p.mode;
  mode_line = line;
  kind = placed_type line p.bounds;
  bus = false;
}

-- the further ports, the first on the line behind this one
abbrev pub placed_ports : ℕ → List OnePort → List PortGroup
placed_ports line [] = []
placed_ports line (p ∷ ps) = placed_port (line_behind line) p ∷ placed_ports (line_behind line) ps

-- the entity that begins on this line; its first port stands two lines below
abbrev pub placed_entity : ℕ → Outline → Entity
placed_entity line e =
    let l = line_behind (line_behind line) in
    record { name = e.name; generics = []; ports = placed_port l e.first ∷ placed_ports l e.others }

-- ---- what is counted

-- how many bits a port has
abbrev pub port_bits : Option Bounds → ℕ
port_bits None = 1
port_bits (Some b) = width b.left b.falls b.right

-- the name is declared
abbrev pub with_name : List ℕ → State → State
with_name name s = record s { names = insert_key (slice_cmp nat_cmp) s.names name }

-- n further bits are counted
abbrev pub with_bits : ℕ → State → State
with_bits n s = record s { bits = s.bits + n }

-- the port's name and bits
abbrev pub with_port : OnePort → State → State
with_port p s = with_bits (port_bits p.bounds) (with_name p.name s)

-- those of all ports, in their order
abbrev pub with_ports : List OnePort → State → State
with_ports [] s = s
with_ports (p ∷ ps) s = with_ports ps (with_port p s)

-- the names are new, one after the other, and the bits are no more than a source may have
abbrev pub AreNew : List OnePort → State → Type 0
AreNew [] s = Unit {0}
AreNew (p ∷ ps) s = (is_declared p.name s.names ≡ false) × (s.bits + port_bits p.bounds ≤ BITS) × AreNew ps (with_port p s)
