-- The text of a figure, in the one spelling that is written.
use Rattle.std.specs.Prelude.{ℕ, ℤ, List, [], ◌∷◌, ◌++◌, Option, None, Some, codes}
use Rattle.std.specs.Fmt.{decimal, signed_decimal}
use Rattle.vlsi_base.specs.declared.name.Name.{Name}
use Rattle.sym_geom.specs.declared.layer.Level.{Level}
use Rattle.sym_geom.specs.declared.layer.Level.TheVariants.{One, Two, Three, Four, Five, Six, Seven, Eight, Nine}
use Rattle.sym_geom.specs.declared.rect.Rect.{Rect}
use Rattle.sym_geom.specs.declared.rect.Transform.{Transform}
use Rattle.sym_geom.specs.declared.rect.Transform.TheVariants.{NoSym, SymX, SymY, SymXY}
use Rattle.sym_geom.specs.declared.layer.Layer.{Layer}
use Rattle.sym_geom.specs.declared.layer.Layer.TheVariants.{NWell, PWell, NTie, PTie, NDif, PDif, NTrans, PTrans, Poly, TPoly, Alu, Calu, Talu}
use Rattle.sym_geom.specs.declared.item.Direction.{Direction}
use Rattle.sym_geom.specs.declared.item.Direction.TheVariants.{Up, Down, Left, Right}
use Rattle.sym_geom.specs.declared.item.Side.{Side}
use Rattle.sym_geom.specs.declared.item.Side.TheVariants.{North, South, East, West}
use Rattle.sym_geom.specs.declared.item.Contact.{Contact}
use Rattle.sym_geom.specs.declared.item.Contact.TheVariants.{Via1, Via2, Via3, Via4, Via5, Other}
use Rattle.sym_geom.specs.declared.item.Segment.{Segment}
use Rattle.sym_geom.specs.declared.item.Connector.{Connector}
use Rattle.sym_geom.specs.declared.item.Via.{Via}
use Rattle.sym_geom.specs.declared.item.Instance.{Instance}
use Rattle.sym_geom.specs.declared.item.Reference.{Reference}
use Rattle.sym_geom.specs.declared.item.Item.{Item}
use Rattle.sym_geom.specs.declared.item.Item.TheVariants as item
use Rattle.ap_io.specs.declared.figure.Figure.{Figure}

-- pieces of text, one after another
abbrev pub together : List (List ℕ) → List ℕ
together [] = []
together (piece ∷ rest) = piece ++ together rest

abbrev pub comma : List ℕ
comma = codes ","

abbrev pub line_end : List ℕ
line_end = 10 ∷ []

-- a number and a comma
abbrev pub field : ℤ → List ℕ
field n = signed_decimal n ++ comma

-- the number of a bit in parentheses
abbrev pub bit_text : Option ℕ → List ℕ
bit_text None = []
bit_text (Some k) = together (codes "(" ∷ decimal k ∷ codes ")" ∷ [])

-- a name, as a(3) for a bit of a vector, or a star where there is none
abbrev pub name_text : Option Name → List ℕ
name_text None = codes "*"
name_text (Some name) = name.text ++ bit_text name.bit

abbrev pub level_text : Level → List ℕ
level_text One = codes "1"
level_text Two = codes "2"
level_text Three = codes "3"
level_text Four = codes "4"
level_text Five = codes "5"
level_text Six = codes "6"
level_text Seven = codes "7"
level_text Eight = codes "8"
level_text Nine = codes "9"

abbrev pub layer_text : Layer → List ℕ
layer_text NWell = codes "NWELL"
layer_text PWell = codes "PWELL"
layer_text NTie = codes "NTIE"
layer_text PTie = codes "PTIE"
layer_text NDif = codes "NDIF"
layer_text PDif = codes "PDIF"
layer_text NTrans = codes "NTRANS"
layer_text PTrans = codes "PTRANS"
layer_text Poly = codes "POLY"
layer_text TPoly = codes "TPOLY"
layer_text (Alu level) = codes "ALU" ++ level_text level
layer_text (Calu level) = codes "CALU" ++ level_text level
layer_text (Talu level) = codes "TALU" ++ level_text level

abbrev pub direction_text : Direction → List ℕ
direction_text Up = codes "UP"
direction_text Down = codes "DOWN"
direction_text Left = codes "LEFT"
direction_text Right = codes "RIGHT"

abbrev pub side_text : Side → List ℕ
side_text North = codes "NORTH"
side_text South = codes "SOUTH"
side_text East = codes "EAST"
side_text West = codes "WEST"

abbrev pub contact_text : Contact → List ℕ
contact_text Via1 = codes "CONT_VIA"
contact_text Via2 = codes "CONT_VIA2"
contact_text Via3 = codes "CONT_VIA3"
contact_text Via4 = codes "CONT_VIA4"
contact_text Via5 = codes "CONT_VIA5"
contact_text (Other word) = word

abbrev pub transform_text : Transform → List ℕ
transform_text NoSym = codes "NOSYM"
transform_text SymX = codes "SYM_X"
transform_text SymY = codes "SYM_Y"
transform_text SymXY = codes "SYMXY"

-- S x1,y1,x2,y2,width,name,direction,layer
abbrev pub segment_text : Segment → List ℕ
segment_text s = together (
    codes "S " ∷ field s.x1 ∷ field s.y1 ∷ field s.x2 ∷ field s.y2 ∷ field s.width ∷ name_text s.name ∷ comma
    ∷ direction_text s.direction ∷ comma ∷ layer_text s.layer ∷ line_end ∷ [])

-- C x,y,width,name,index,side,layer
abbrev pub connector_text : Connector → List ℕ
connector_text c = together (
    codes "C " ∷ field c.x ∷ field c.y ∷ field c.width ∷ name_text c.name ∷ comma ∷ field c.index
    ∷ side_text c.side ∷ comma ∷ layer_text c.layer ∷ line_end ∷ [])

-- V x,y,contact,name
abbrev pub via_text : Via → List ℕ
via_text v = together (codes "V " ∷ field v.x ∷ field v.y ∷ contact_text v.contact ∷ comma ∷ name_text v.name ∷ line_end ∷ [])

-- I x,y,model,name,transform
abbrev pub instance_text : Instance → List ℕ
instance_text i = together (
    codes "I " ∷ field i.x ∷ field i.y ∷ i.model ∷ comma ∷ i.name ∷ comma ∷ transform_text i.transform ∷ line_end ∷ [])

-- R x,y,word,name
abbrev pub reference_text : Reference → List ℕ
reference_text r = together (codes "R " ∷ field r.x ∷ field r.y ∷ r.word ∷ comma ∷ r.name ∷ line_end ∷ [])

-- B text
abbrev pub remark_text : List ℕ → List ℕ
remark_text text = together (codes "B " ∷ text ∷ line_end ∷ [])

abbrev pub item_text : Item → List ℕ
item_text (item.Segment s) = segment_text s
item_text (item.Connector c) = connector_text c
item_text (item.Via v) = via_text v
item_text (item.Instance i) = instance_text i
item_text (item.Reference r) = reference_text r
item_text (item.Remark text) = remark_text text

-- a line for each item, and then the line that ends the file
abbrev pub items_text : List Item → List ℕ
items_text [] = codes "EOF" ++ line_end
items_text (one ∷ rest) = item_text one ++ items_text rest

-- the first three lines: the format's version, the name with date and scale, the box
abbrev pub head_text : Option Name → Rect → List ℕ
head_text name box = together (
    codes "V ALLIANCE : 6" ∷ line_end ∷ codes "H " ∷ name_text name ∷ codes ",P,01/01/2000,100" ∷ line_end
    ∷ codes "A " ∷ field box.x1 ∷ field box.y1 ∷ field box.x2 ∷ signed_decimal box.y2 ∷ line_end ∷ [])

abbrev pub text_of : Figure → List ℕ
text_of f = head_text f.name f.bounds ++ items_text f.items
