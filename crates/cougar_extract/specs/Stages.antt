-- The stages of extraction: shapes, numbers of joined ones, connectors with these numbers, pairs of joined terminals.
use Rattle.std.specs.Prelude.{ℤ, pos, negsuc, neg_ℤ, ◌≤ℤ◌, ◌≡◌, ◌↔◌, ℕ, ◌<◌, ◌≤◌, Bool, true, false, not, ◌&&◌, List, [], ◌∷◌, ◌++◌, map, length, Option, None, Some, slice_get, slice_index_or, is_some, replicate}
use Rattle.std.specs.List.{All, list_any}
use Rattle.std.specs.List.Sorted.{IsPermutation}
use Rattle.vlsi_base.specs.declared.name.Name.{Name}
use Rattle.vlsi_base.specs.declared.name.Port.{Port}
use Rattle.vlsi_base.specs.declared.name.Dir.{Dir}
use Rattle.vlsi_base.specs.declared.name.Dir.TheVariants as dir
use Rattle.vlsi_base.specs.declared.name.Terminal.{Terminal}
use Rattle.std.specs.FinMap.{get}
use Rattle.vlsi_base.specs.NamePlaces.{NamePlaces}
use Rattle.vlsi_base.specs.Member.{In}
use Rattle.machine_core.specs.Machine.{is_input}
use Rattle.machine_core.specs.Named.{is_same_name}
use Rattle.sym_geom.specs.Rect.{moved, transformed}
use Rattle.sym_geom.specs.declared.rect.Rect.{Rect}
use Rattle.sym_geom.specs.declared.item.Instance.{Instance as Placed}
use Rattle.sym_geom.specs.declared.item.Item.{Item}
use Rattle.sym_shapes.specs.Shape.{Shape, drawn, label, connector_names}
use Rattle.sym_shapes.specs.Joints.{NumbersJoined}
use Rattle.sym_shapes.specs.Joined.{Shows}
use Rattle.ap_io.specs.declared.figure.Figure.{Figure}
use Rattle.cell_model.specs.Cell.{Cell, pin_ports, cell_width, cell_height}
use Rattle.cell_model.specs.Library.{Library, cell_of}
use Rattle.cell_model.specs.Layout.{instances_of}
use Rattle.net_core.specs.Places.{IsThere, position_of}
use Rattle.net_core.specs.Netlist.{Instance, Netlist, IsNetlist, HasClass, port, AreInOrder}
use Rattle.net_core.specs.Joins.{Draft, Joined}
use Rattle.cougar_extract.specs.declared.error.ExtractError.{ExtractError}
use Rattle.cougar_extract.specs.declared.error.ExtractError.TheVariants as error
use Rattle.cougar_extract.specs.declared.links.Link.{Link}
use Rattle.cougar_extract.specs.Extracted.{figure_text, instance_of, pins_of_cell}
use Rattle.cougar_extract.specs.Refused.{IsFirstUnknown, IsChainOf}

-- ---- shapes, and which of them are output pins

-- an output pin of this name
abbrev pub is_output_port : Name → Port → Bool
is_output_port name p = not (is_input p.dir) && is_same_name p.name name

-- a connector of this name is an output pin of the cell
abbrev pub is_output : Cell → Option Name → Bool
is_output c None = false
is_output c (Some name) = list_any (is_output_port name) (pin_ports c)

-- for each shape of a cell whether it is a connector of an output pin
abbrev pub instance_gives : Option Cell → List Bool
instance_gives None = []
instance_gives (Some c) = map (λ s. is_output c s.name) (drawn c.items)

abbrev pub all_instances_give : Library → List Placed → List Bool
all_instances_give l [] = []
all_instances_give l (i ∷ rest) = instance_gives (cell_of l i.model) ++ all_instances_give l rest

-- for each shape of a layout whether it is a connector of an output pin of an instance
abbrev pub gives : List Item → Library → List Bool
gives items l = replicate (length (drawn items)) false ++ all_instances_give l (instances_of items)

-- why the shapes of a layout aren't known, if memory hasn't run out
abbrev pub IsUnknownRefusal : List Placed → Library → ExtractError → Type 0
IsUnknownRefusal instances l error.Memory = Unit {0}
IsUnknownRefusal instances l (error.UnknownCell model) = IsFirstUnknown instances l model
IsUnknownRefusal instances l (error.Limit limit) = ⊥
IsUnknownRefusal instances l (error.Shorted a b chain) = ⊥

-- an edge of a rectangle that a line draws: at most 100,000,000,000,000 in absolute value
pub record IsCellEdge (c : ℤ) : Type 0 where
  pub low : negsuc 99999999999999 ≤ℤ c
  pub high : c ≤ℤ pos 100000000000000

pub record HasCellEdges (r : Rect) : Type 0 where
  pub x1 : IsCellEdge r.x1
  pub y1 : IsCellEdge r.y1
  pub x2 : IsCellEdge r.x2
  pub y2 : IsCellEdge r.y2

-- a rectangle of a cell where an instance of it shows it
abbrev pub placed_rect : Cell → Placed → Rect → Rect
placed_rect c i r = transformed i.transform (moved r (neg_ℤ c.bounds.x1) (neg_ℤ c.bounds.y1)) (cell_width c) (cell_height c) i.x i.y

-- ---- names

-- the index knows these names and no others
abbrev pub Knows : NamePlaces → List Name → Type 0
Knows index names = (n : Name) → (is_some (get index n) ≡ true) ↔ In n names

-- the name of a line, if it has one, is put behind the others where it isn't among them
pub data PutsNew (old : List Name) : List Name → List Name → Type 0 where
  no_name : PutsNew old [] old
  known_name : {n : Name} → In n old → PutsNew old (n ∷ []) old
  fresh_name : {n : Name} → (In n old → ⊥) → PutsNew old (n ∷ []) (old ++ n ∷ [])

-- ---- connectors

-- the shape at this place is the connector: it shows its terminal, has its number, and is an output pin where it says so
pub record IsLinkAt (shapes : List Shape) (numbers : List ℕ) (outputs : List Bool) (place : ℕ) (x : Link) : Type 0 where
  pub shape : Shape
  pub stands : slice_get shapes place ≡ Some shape
  pub shows : Shows x.terminal shape
  pub number : x.number ≡ slice_index_or numbers place 0
  pub gives : x.gives ≡ slice_index_or outputs place false

-- the connectors among the first n shapes
pub record AreLinks (shapes : List Shape) (numbers : List ℕ) (outputs : List Bool) (n : ℕ) (links : List Link) : Type 0 where
  pub sound : (x : Link) → In x links → (k : ℕ) × (k < n) × IsLinkAt shapes numbers outputs k x
  pub complete : (k : ℕ) (s : Shape) (t : Terminal) → k < n → slice_get shapes k ≡ Some s → Shows t s
      → (x : Link) × In x links × (x.terminal ≡ t) × (x.number ≡ slice_index_or numbers k 0) × (x.gives ≡ slice_index_or outputs k false)

-- the connector that a shape with this number is, if it has a name
abbrev pub shape_links : Shape → ℕ → Bool → List Link
shape_links s number output = map (λ name. record { number = number; terminal = record { instance = s.owner; pin = name }; gives = output }) (label s.name)

-- each number is below a count
abbrev pub AreBelow : List Link → ℕ → Type 0
AreBelow links count = All (λ x. x.number < count) links

-- Each connector is one of the figure, whose name it has, or one of an instance, of which it is a pin.
pub data IsTerminalOf (items : List Item) (l : Library) (t : Terminal) : Type 0 where
  of_figure : t.instance ≡ None → In t.pin (connector_names items) → IsTerminalOf items l t
  of_instance : (i : Placed) → In i (instances_of items) → t.instance ≡ Some i.name → In t.pin (pins_of_cell (cell_of l i.model)) → IsTerminalOf items l t

abbrev pub AreTerminals : List Item → Library → List Link → Type 0
AreTerminals items l links = (x : Link) → In x links → IsTerminalOf items l x.terminal

-- ---- directions of ports

-- a connector that is an output pin has this number
pub record HasOutput (links : List Link) (number : ℕ) : Type 0 where
  pub link : Link
  pub listed : In link links
  pub numbered : link.number ≡ number
  pub gives : link.gives ≡ true

-- the numbers of output pins are marked
abbrev pub AreOutputs : List Link → List Bool → Type 0
AreOutputs links marks = (n : ℕ) → (slice_index_or marks n false ≡ true) ↔ HasOutput links n

-- a port bit of this text has the number of an output pin
pub record IsDrivenText (links : List Link) (text : List ℕ) : Type 0 where
  pub bit : Link
  pub listed : In bit links
  pub of_port : bit.terminal.instance ≡ None
  pub named : bit.terminal.pin.text ≡ text
  pub output : HasOutput links bit.number

abbrev pub AreDrivenTexts : List Link → List (List ℕ) → Type 0
AreDrivenTexts links texts = (t : List ℕ) → IsThere texts t ↔ IsDrivenText links t

-- an output where the text is among the driven ones
abbrev pub dir_by : Option ℕ → Dir
dir_by None = dir.In
dir_by (Some k) = dir.Out

abbrev pub port_by : List (List ℕ) → Name → Port
port_by texts name = record { name = name; dir = dir_by (position_of texts name.text) }

-- These are the ports of these names, in the order of names, and those are outputs that an output pin drives.
pub record ArePortsBy (names : List Name) (links : List Link) (ports : List Port) : Type 0 where
  pub texts : List (List ℕ)
  pub driven : AreDrivenTexts links texts
  pub moved : IsPermutation (map (port_by texts) names) ports
  pub ordered : AreInOrder (map (λ p. p.name) ports)

-- ---- pairs of joined terminals

-- for each connector the place of one with its number
pub record IsLeader (links : List Link) (places : List ℕ) (x : Link) : Type 0 where
  pub leader : Link
  pub stands : slice_get links (slice_index_or places x.number 0) ≡ Some leader
  pub same : leader.number ≡ x.number

abbrev pub AreLeaders : List Link → List ℕ → Type 0
AreLeaders links places = (x : Link) → In x links → IsLeader links places x

-- the terminal of a connector, if there is one
abbrev pub terminal_of : Option Link → Terminal
terminal_of None = port (record { text = []; bit = None })
terminal_of (Some x) = x.terminal

-- each connector is joined with the leader of its number
abbrev pub join_of : List Link → List ℕ → Link → Terminal × Terminal
join_of links places x = (terminal_of (slice_get links (slice_index_or places x.number 0)), x.terminal)

abbrev pub with_instances : Draft → List Instance → Draft
with_instances d is = record d { instances = d.instances ++ is }

abbrev pub with_joins : Draft → List (Terminal × Terminal) → Draft
with_joins d js = record d { joins = d.joins ++ js }

-- ---- ports of one class

-- i is the least place whose class stands again, from the place `from` on, and j the next such place
pub record IsLeastPair (classes : List ℕ) (from i j : ℕ) : Type 0 where
  pub begins : from ≤ i
  pub behind : i < j
  pub within : j < length classes
  pub same : slice_index_or classes i 0 ≡ slice_index_or classes j 0
  pub first : (h k : ℕ) → from ≤ h → h < k → k < length classes → slice_index_or classes h 0 ≡ slice_index_or classes k 0 → i ≤ h
  pub second : (k : ℕ) → i < k → k < length classes → slice_index_or classes i 0 ≡ slice_index_or classes k 0 → j ≤ k

abbrev pub NoPair : List ℕ → ℕ → Type 0
NoPair classes from = (h k : ℕ) → from ≤ h → h < k → k < length classes → slice_index_or classes h 0 ≡ slice_index_or classes k 0 → ⊥

abbrev pub IsPairFrom : List ℕ → ℕ → Option (ℕ × ℕ) → Type 0
IsPairFrom classes from None = NoPair classes from
IsPairFrom classes from (Some p) = IsLeastPair classes from p.0 p.1

-- the least place from `from` on at which each class stands
abbrev pub IsNext : List ℕ → ℕ → ℕ → Option ℕ → Type 0
IsNext classes from class None = (k : ℕ) → from ≤ k → k < length classes → slice_index_or classes k 0 ≡ class → ⊥
IsNext classes from class (Some j) =
    (from ≤ j) × (j < length classes) × (slice_index_or classes j 0 ≡ class)
    × ((k : ℕ) → from ≤ k → k < length classes → slice_index_or classes k 0 ≡ class → j ≤ k)

abbrev pub AreNext : List ℕ → ℕ → List (Option ℕ) → Type 0
AreNext classes from next = (c : ℕ) → c < length next → IsNext classes from c (slice_index_or next c None)

-- the pair of a place and of the next one of its class, if there is one; else the pair that was found behind
abbrev pub nearer_of : Option ℕ → ℕ → Option (ℕ × ℕ) → Option (ℕ × ℕ)
nearer_of None k found = found
nearer_of (Some j) k found = Some (k, j)

-- the place of a shape that shows a port; none exactly where none does
abbrev pub IsShownAt : List Shape → Name → Option ℕ → Type 0
IsShownAt shapes name None = All (λ s. Shows (port name) s → ⊥) shapes
IsShownAt shapes name (Some k) = (s : Shape) × (slice_get shapes k ≡ Some s) × Shows (port name) s

-- ---- the netlist of the connectors

-- What is known of a netlist that was built of a figure's names and instances and of its connectors: two terminals have one class
-- exactly where pairs of connectors with one number join them.
pub record IsBuilt (f : Figure) (l : Library) (links : List Link) (n : Netlist) : Type 0 where
  pub sound : IsNetlist n
  pub name : n.name ≡ figure_text f.name
  pub names : List Name
  pub same : (name : Name) → In name names ↔ In name (connector_names f.items)
  pub ports : ArePortsBy names links n.ports
  pub instances : n.instances ≡ map (instance_of l) (instances_of f.items)
  pub places : List ℕ
  pub led : AreLeaders links places
  pub classes : (a b : Terminal) (j k : ℕ) → HasClass n a j → HasClass n b k → (j ≡ k) ↔ Joined (map (join_of links places) links) a b

-- what is known of the connectors of a layout
pub record AreConnected (shapes : List Shape) (outputs : List Bool) (links : List Link) : Type 0 where
  pub numbers : List ℕ
  pub joined : NumbersJoined shapes numbers
  pub are : AreLinks shapes numbers outputs (length shapes) links

-- how two joined ports are refused
abbrev pub IsShortRefusal : List Shape → Name → Name → ExtractError → Type 0
IsShortRefusal shapes a b (error.Shorted c d chain) = (c ≡ a) × (d ≡ b) × IsChainOf shapes a b chain
IsShortRefusal shapes a b _ = ⊥
