-- The bytes of the CIF file of a process.
use Rattle.std.specs.Prelude.{ℕ, ◌==◌, ◌*◌, ◌-ℤ◌, ◌+ℤ◌, ◌*ℤ◌, pos, Bool, List, [], ◌∷◌, ◌++◌, codes, bytes_eq, if◌then◌else◌, Option, None, Some}
use Prim.Native.Nat.{suc}
use Rattle.std.specs.List.{list_any}
use Rattle.std.specs.Fmt.{decimal}
use Rattle.vlsi_base.specs.declared.name.Name.{Name}
use Rattle.sym_geom.specs.declared.rect.Rect.{Rect}
use Rattle.sym_geom.specs.declared.item.Item.{Item}
use Rattle.sym_geom.specs.declared.item.Item.TheVariants as item
use Rattle.sym_shapes.specs.Shape.{wire_name}
use Rattle.ap_io.specs.Spelling.{layer_text}
use Rattle.ap_io.specs.declared.figure.Figure.{Figure}
use Rattle.s2r_cif.specs.Cif.{number_text}
use Rattle.real_table.specs.declared.table.Entry.{Entry}
use Rattle.real_table.specs.declared.table.Entry.TheVariants as entry
use Rattle.real_table.specs.declared.table.ProcessTable.{ProcessTable}
use Rattle.real_boxes.specs.declared.boxes.RealBox.{RealBox}
use Rattle.real_boxes.specs.declared.labels.Port.{Port}
use Rattle.real_boxes.specs.Marks.{segment_core, connector_core}

-- ---- layers

-- how long a box is along x and along y, in halves of a real unit
abbrev pub size_text : Rect → List ℕ
size_text r = number_text (pos 2 *ℤ (r.x2 -ℤ r.x1)) ++ number_text (pos 2 *ℤ (r.y2 -ℤ r.y1))

-- the point in its middle
abbrev pub centre_text : Rect → List ℕ
centre_text r = number_text (r.x1 +ℤ r.x2) ++ number_text (r.y1 +ℤ r.y2)

-- the line of a box
abbrev pub box_line : Rect → List ℕ
box_line r = codes "B" ++ (size_text r ++ (centre_text r ++ codes ";\n"))

abbrev pub line_on : ℕ → RealBox → List ℕ
line_on layer b = if b.layer == layer then box_line b.rect else []

-- the lines of those boxes that are on a layer
abbrev pub lines_on : ℕ → List RealBox → List ℕ
lines_on layer [] = []
lines_on layer (b ∷ rest) = line_on layer b ++ lines_on layer rest

-- some box is on this layer
abbrev pub has_layer : ℕ → List RealBox → Bool
has_layer layer boxes = list_any (λ b. b.layer == layer) boxes

-- a layer, if some box is on it
abbrev pub layer_lines : ℕ → List ℕ → List RealBox → List ℕ
layer_lines layer real boxes = if has_layer layer boxes then codes "L " ++ (real ++ (codes ";\n" ++ lines_on layer boxes)) else []

abbrev pub entry_layer : ℕ → Entry → List RealBox → List ℕ
entry_layer layer (entry.Rule r) boxes = layer_lines layer r.real boxes
entry_layer layer (entry.Metal m real) boxes = []
entry_layer layer (entry.Space real gap) boxes = []
entry_layer layer (entry.Label word real) boxes = []
entry_layer layer entry.Nothing boxes = []

-- the layers of lines of the table, of which the first has this number
abbrev pub layers_from : ℕ → List Entry → List RealBox → List ℕ
layers_from layer [] boxes = []
layers_from layer (e ∷ rest) boxes = entry_layer layer e boxes ++ layers_from (suc layer) rest boxes

-- ---- labels

-- a name, its bit in brackets
abbrev pub bit_text : Option ℕ → List ℕ
bit_text None = []
bit_text (Some k) = codes "[" ++ (decimal k ++ codes "]")

abbrev pub label_name : Name → List ℕ
label_name n = n.text ++ bit_text n.bit

-- the point in the middle of a connector, in halves of a real unit
abbrev pub place_text : ℕ → Rect → List ℕ
place_text scale r = number_text (pos scale *ℤ (r.x1 +ℤ r.x2)) ++ number_text (pos scale *ℤ (r.y1 +ℤ r.y2))

-- the real layer of a text, which ends its line
abbrev pub layer_end : List ℕ → List ℕ
layer_end real = codes " " ++ (real ++ codes ";\n")

-- the text of a connector: its name, at its middle
abbrev pub label_line : ℕ → Port → List ℕ → List ℕ
label_line scale p real = codes "94 " ++ (label_name p.name ++ (place_text scale p.rect ++ layer_end real))

-- by one line of the table
abbrev pub entry_label : ℕ → Port → Entry → List ℕ
entry_label scale p (entry.Label word real) = if bytes_eq word p.word then label_line scale p real else []
entry_label scale p (entry.Rule rule) = []
entry_label scale p (entry.Metal m real) = []
entry_label scale p (entry.Space real gap) = []
entry_label scale p entry.Nothing = []

abbrev pub labels_by : ℕ → Port → List Entry → List ℕ
labels_by scale p [] = []
labels_by scale p (e ∷ rest) = entry_label scale p e ++ labels_by scale p rest

-- what has a name, as a connector
abbrev pub named_port : List ℕ → Option Name → Rect → Option Port
named_port word None r = None
named_port word (Some n) r = Some (record { word = word; name = n; rect = r })

-- the connector that a line draws, if it has a name; a segment is one on CALU alone
abbrev pub item_port : Item → Option Port
item_port (item.Segment s) = named_port (layer_text s.layer) (wire_name s.layer s.name) (segment_core s)
item_port (item.Connector c) = named_port (layer_text c.layer) c.name (connector_core c)
item_port (item.Via v) = None
item_port (item.Instance i) = None
item_port (item.Reference r) = None
item_port (item.Remark text) = None

abbrev pub port_labels : ℕ → List Entry → Option Port → List ℕ
port_labels scale entries None = []
port_labels scale entries (Some p) = labels_by scale p entries

-- the labels of a line
abbrev pub item_labels : ℕ → List Entry → Item → List ℕ
item_labels scale entries one = port_labels scale entries (item_port one)

abbrev pub labels_of : ℕ → List Entry → List Item → List ℕ
labels_of scale entries [] = []
labels_of scale entries (one ∷ rest) = item_labels scale entries one ++ labels_of scale entries rest

-- ---- the file

abbrev pub name_line : Option Name → List ℕ
name_line None = []
name_line (Some n) = codes "9 " ++ (label_name n ++ codes ";\n")

-- the lines before the layers: all numbers count halves of a real unit
abbrev pub heading_text : ℕ → Option Name → List ℕ
heading_text unit name = codes "DS 1 1 " ++ (decimal (2 * unit) ++ (codes ";\n" ++ name_line name))

-- One symbol with its name; the layers that have boxes, in the order of the table; the labels; and one call of the symbol.
unfoldable pub process_text : ProcessTable → Figure → List RealBox → List ℕ
process_text t f boxes =
    heading_text t.head.unit f.name ++ (layers_from 0 t.entries boxes ++ (labels_of t.head.scale t.entries f.items ++ codes "DF;\nC 1;\nE\n"))
