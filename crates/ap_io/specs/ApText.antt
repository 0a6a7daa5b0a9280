-- Which figures the format can hold, and which bytes are the ap file of which figure.
use Rattle.std.specs.Prelude.{◌≡◌, ◌≢◌, false, ℕ, ◌<◌, ◌≤◌, ◌^◌, ◌++◌, length, map, ℤ, nat_abs, pos, ◌≤ℤ◌, Bool, not, ◌&&◌, ◌||◌, List, [], ◌∷◌, Option, None, Some, All, AllPairs, IsTrue, IfSome, nat_le, nat_eq, codes, ◌⊎◌}
use Rattle.std.specs.List.{AllPass, starts_with, list_all}
use Rattle.vlsi_base.specs.declared.name.Name.{Name}
use Rattle.sym_geom.specs.Rect.{IsRect}
use Rattle.sym_geom.specs.declared.item.Direction.{Direction}
use Rattle.sym_geom.specs.declared.item.Direction.TheVariants.{Up, Down, Left, Right}
use Rattle.sym_geom.specs.declared.item.Contact.{Contact}
use Rattle.sym_geom.specs.declared.item.Contact.TheVariants.{Via1, Via2, Via3, Via4, Via5, Other}
use Rattle.sym_geom.specs.declared.item.Segment.{Segment}
use Rattle.sym_geom.specs.declared.item.Item.{Item}
use Rattle.sym_geom.specs.declared.item.Item.TheVariants as item
use Rattle.ap_io.specs.declared.figure.Figure.{Figure}
use Rattle.vlsi_base.specs.declared.limits.TheConstants.{MOST_NETLIST_BYTES}
use Rattle.vlsi_base.specs.Lines.{lines_of, without_return}
use Rattle.ap_io.specs.declared.scale.Scale.{Scale}
use Rattle.ap_io.specs.declared.limits.TheConstants.{MOST_NAME_BYTES, MOST_COORDINATE}
use Rattle.ap_io.specs.Spelling.{text_of, contact_text}
use Rattle.ap_io.specs.Fields.{at, is_text_byte, label_of}
use Rattle.ap_io.specs.Words.{scale_of}
use Rattle.ap_io.specs.LineFaults.{fields_behind, is_blank_line, is_end, version_fault, name_line_fault, box_line_fault, is_taken, names_on, item_fault}
use Rattle.ap_io.specs.Items.{IsItem, IsBox}

abbrev pub is_letter : ℕ → Bool
is_letter c = nat_le 97 c && nat_le c 122

abbrev pub is_digit : ℕ → Bool
is_digit c = nat_le 48 c && nat_le c 57

-- a lower-case letter, a digit or an underscore
abbrev pub is_word_byte : ℕ → Bool
is_word_byte c = is_letter c || (is_digit c || nat_eq c 95)

-- an identifier in lower case: a letter, and then letters, digits and underscores
abbrev pub IsWord : List ℕ → Type 0
IsWord [] = ⊥
IsWord (c ∷ rest) = IsTrue (is_letter c) × AllPass is_word_byte rest

-- the name of a net, a connector or a figure: none, or an identifier, perhaps with the number of a bit
abbrev pub IsLabel : Option Name → Type 0
IsLabel None = Unit {0}
IsLabel (Some name) = IsWord name.text × IfSome name.bit (λ k. k < 2 ^ 32)

-- a segment runs along one axis, as its direction says
abbrev pub RunsAlong : Direction → Segment → Type 0
RunsAlong Up s = s.x1 ≡ s.x2
RunsAlong Down s = s.x1 ≡ s.x2
RunsAlong Left s = s.y1 ≡ s.y2
RunsAlong Right s = s.y1 ≡ s.y2

-- a byte that stands within a field: no comma either
abbrev pub is_field_byte : ℕ → Bool
is_field_byte c = not (nat_eq c 44) && is_text_byte c

-- a contact that joins no metals has any word that begins with CONT_ or C_X_ and is none of those that do
abbrev pub IsContact : Contact → Type 0
IsContact Via1 = Unit {0}
IsContact Via2 = Unit {0}
IsContact Via3 = Unit {0}
IsContact Via4 = Unit {0}
IsContact Via5 = Unit {0}
IsContact (Other word) =
    (IsTrue (starts_with nat_eq word (codes "CONT_")) ⊎ IsTrue (starts_with nat_eq word (codes "C_X_")))
    × AllPass is_field_byte word
    × (word ≢ contact_text Via1) × (word ≢ contact_text Via2) × (word ≢ contact_text Via3) × (word ≢ contact_text Via4)
    × (word ≢ contact_text Via5)

-- an item that a line of the format can hold
abbrev pub IsLine : Item → Type 0
IsLine (item.Segment s) = (pos 1 ≤ℤ s.width) × RunsAlong s.direction s × IsLabel s.name
IsLine (item.Connector c) = (pos 1 ≤ℤ c.width) × IsLabel c.name
IsLine (item.Via v) = IsContact v.contact × IsLabel v.name
IsLine (item.Instance i) = IsWord i.model × IsWord i.name
IsLine (item.Reference r) = IsWord r.word × AllPass is_field_byte r.name
IsLine (item.Remark text) = AllPass is_text_byte text

-- the names of the instances, in file order
abbrev pub instance_names : List Item → List (List ℕ)
instance_names [] = []
instance_names (item.Segment s ∷ rest) = instance_names rest
instance_names (item.Connector c ∷ rest) = instance_names rest
instance_names (item.Via v ∷ rest) = instance_names rest
instance_names (item.Instance i ∷ rest) = i.name ∷ instance_names rest
instance_names (item.Reference r ∷ rest) = instance_names rest
instance_names (item.Remark text ∷ rest) = instance_names rest

-- a figure that the format can hold: each line has its form, the box has its edges in order, and no two instances
-- have one name
pub record IsFigure (f : Figure) : Type 0 where
  pub name : IsLabel f.name
  pub box : IsRect f.bounds
  pub lines : All IsLine f.items
  pub instances : AllPairs (λ a b. a ≢ b) (instance_names f.items)

-- ---- limits

abbrev pub IsNear : ℤ → Type 0
IsNear c = nat_abs c ≤ MOST_COORDINATE

abbrev pub IsShort : List ℕ → Type 0
IsShort text = length text ≤ MOST_NAME_BYTES

abbrev pub IsShortLabel : Option Name → Type 0
IsShortLabel None = Unit {0}
IsShortLabel (Some name) = IsShort name.text

-- coordinates and widths are at most 1,000,000,000,000 in absolute value, names have at most 64 bytes
abbrev pub IsItemWithin : Item → Type 0
IsItemWithin (item.Segment s) = IsNear s.x1 × IsNear s.y1 × IsNear s.x2 × IsNear s.y2 × IsNear s.width × IsShortLabel s.name
IsItemWithin (item.Connector c) = IsNear c.x × IsNear c.y × IsNear c.width × IsShortLabel c.name × (nat_abs c.index < 2 ^ 63)
IsItemWithin (item.Via v) = IsNear v.x × IsNear v.y × IsShortLabel v.name
IsItemWithin (item.Instance i) = IsNear i.x × IsNear i.y × IsShort i.model × IsShort i.name
IsItemWithin (item.Reference r) = IsNear r.x × IsNear r.y × IsShort r.word
IsItemWithin (item.Remark text) = Unit {0}

-- a figure whose lines are within the limits
pub record HasNearLines (f : Figure) : Type 0 where
  pub name : IsShortLabel f.name
  pub x1 : IsNear f.bounds.x1
  pub y1 : IsNear f.bounds.y1
  pub x2 : IsNear f.bounds.x2
  pub y2 : IsNear f.bounds.y2
  pub items : All IsItemWithin f.items

-- and whose text as a whole is
pub record IsWithinLimits (f : Figure) : Type 0 where
  pub few : length (text_of f) ≤ MOST_NETLIST_BYTES
  pub near : HasNearLines f

-- ---- files

-- the lines of a file, each without the carriage return at its end
abbrev pub lines_in : List ℕ → List (List ℕ)
lines_in bytes = map without_return (lines_of bytes)

-- The items of the lines behind the first three, where instances have these names so far: a line without a fault is an item
-- or blank, and behind the line EOF all are blank.
pub data AreItems (scale : Scale) : List (List ℕ) → List (List ℕ) → List Item → Type 0 where
  ends : {names rest : List (List ℕ)} {line : List ℕ} → IsTrue (is_end line) → IsTrue (list_all is_blank_line rest)
      → AreItems scale names (line ∷ rest) []
  blank : {names rest : List (List ℕ)} {line : List ℕ} {items : List Item} → IsTrue (is_blank_line line)
      → AreItems scale names rest items → AreItems scale names (line ∷ rest) items
  next : {names rest : List (List ℕ)} {line : List ℕ} {one : Item} {items : List Item} → is_blank_line line ≡ false → item_fault scale (is_taken names line) line ≡ None
      → IsItem scale line one → AreItems scale (names ++ names_on line) rest items → AreItems scale names (line ∷ rest) (one ∷ items)

-- The bytes are lines of the format that say the figure: its version, its name with the scale, its box and its items, each on a line
-- without a fault.
pub record IsApLines (bytes : List ℕ) (f : Figure) : Type 0 where
  pub version : List ℕ
  pub head : List ℕ
  pub scale : Scale
  pub box : List ℕ
  pub others : List (List ℕ)
  pub lines : lines_in bytes ≡ version ∷ head ∷ box ∷ others
  pub right_version : version_fault version ≡ None
  pub right_head : name_line_fault head ≡ None
  pub name : f.name ≡ label_of (at (fields_behind head) 0)
  pub at_scale : scale_of (at (fields_behind head) 3) ≡ Some scale
  pub right_box : box_line_fault scale box ≡ None
  pub bounds : IsBox scale (fields_behind box) f.bounds
  pub items : AreItems scale [] others f.items

-- The bytes are the ap file of the figure: such lines, within the limit of a file.
pub record IsApText (bytes : List ℕ) (f : Figure) : Type 0 where
  pub few : length bytes ≤ MOST_NETLIST_BYTES
  pub form : IsApLines bytes f
