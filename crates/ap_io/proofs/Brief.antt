-- How long the lines of items are.
use Rattle.std.proofs.Common.{◌≡◌, ℕ, ◌+◌, ◌*◌, ◌^◌, ◌<◌, ◌≤◌, List, [], ◌∷◌, length, refl, ap, ◌∙◌, arith, length-append, codes, Option, None, Some}
use Rattle.std.specs.Prelude.{ℤ, pos, negsuc, nat_abs, IfSome}
use Rattle.std.specs.List.{AllByRecursion}
use Rattle.std.specs.Fmt.{decimal, signed_decimal}
use Rattle.std.proofs.lemmas.Fmt.{length-decimal-le, length_signed_le}
use Rattle.vlsi_base.specs.declared.name.Name.{Name}
use Rattle.sym_geom.specs.declared.layer.Level.{Level}
use Rattle.sym_geom.specs.declared.layer.Level.TheVariants.{One, Two, Three, Four, Five, Six, Seven, Eight, Nine}
use Rattle.sym_geom.specs.declared.layer.Layer.{Layer}
use Rattle.sym_geom.specs.declared.layer.Layer.TheVariants.{NWell, PWell, NTie, PTie, NDif, PDif, NTrans, PTrans, Poly, TPoly, Alu, Calu, Talu}
use Rattle.sym_geom.specs.declared.item.Direction.{Direction}
use Rattle.sym_geom.specs.declared.item.Direction.TheVariants.{Up, Down, Left, Right}
use Rattle.sym_geom.specs.declared.item.Side.{Side}
use Rattle.sym_geom.specs.declared.item.Side.TheVariants.{North, South, East, West}
use Rattle.sym_geom.specs.declared.rect.Rect.{Rect}
use Rattle.sym_geom.specs.declared.rect.Transform.{Transform}
use Rattle.sym_geom.specs.declared.rect.Transform.TheVariants.{NoSym, SymX, SymY, SymXY}
use Rattle.sym_geom.specs.declared.item.Item.{Item}
use Rattle.sym_geom.specs.declared.item.Item.TheVariants as item
use Rattle.ap_io.specs.Spelling.{together, field, comma, line_end, bit_text, name_text, level_text, layer_text, direction_text, side_text, transform_text, contact_text, item_text, items_text, head_text}
use Rattle.ap_io.specs.ApText.{IsLine, IsItemWithin, IsLabel, IsShortLabel, IsNear}

-- ---- pieces

abbrev total : List (List ℕ) → ℕ
total [] = 0
total (piece ∷ rest) = length piece + total rest

total_is : (pieces : List (List ℕ)) → length (together pieces) ≡ total pieces
total_is [] = refl
total_is (piece ∷ rest) = length-append piece (together rest) ∙ ap (λ n. length piece + n) (total_is rest)

number_brief : (z : ℤ) → nat_abs z < 2 ^ 63 → length (signed_decimal z) ≤ 20
number_brief (pos n) small = length_signed_le 19 (pos n) (omega (arith, small)) small
number_brief (negsuc n) small = length_signed_le 19 (negsuc n) (omega (arith, small)) (omega (arith, small))

field_brief : (z : ℤ) → nat_abs z < 2 ^ 63 → length (field z) ≤ 21
field_brief z small = omega (arith, length-append (signed_decimal z) comma, number_brief z small)

near_brief : (z : ℤ) → IsNear z → length (field z) ≤ 21
near_brief z near = field_brief z (omega (arith, near))

bit_brief : (bit : Option ℕ) → IfSome bit (λ k. k < 2 ^ 32) → length (bit_text bit) ≤ 12
bit_brief None small = omega arith
bit_brief (Some k) small = omega (arith, length-append (decimal k) (41 ∷ []), length-decimal-le 10 k (omega arith) (omega (arith, small)) (omega (arith, small)))

label_brief : (n : Option Name) → IsLabel n → IsShortLabel n → length (name_text n) ≤ 76
label_brief None label short = omega arith
label_brief (Some name) label short = omega (arith, length-append name.text (bit_text name.bit), bit_brief name.bit label.1, short)

level_brief : (level : Level) → length (level_text level) ≤ 1
level_brief One = omega arith
level_brief Two = omega arith
level_brief Three = omega arith
level_brief Four = omega arith
level_brief Five = omega arith
level_brief Six = omega arith
level_brief Seven = omega arith
level_brief Eight = omega arith
level_brief Nine = omega arith

layer_brief : (layer : Layer) → length (layer_text layer) ≤ 6
layer_brief NWell = omega arith
layer_brief PWell = omega arith
layer_brief NTie = omega arith
layer_brief PTie = omega arith
layer_brief NDif = omega arith
layer_brief PDif = omega arith
layer_brief NTrans = omega arith
layer_brief PTrans = omega arith
layer_brief Poly = omega arith
layer_brief TPoly = omega arith
layer_brief (Alu level) = omega (arith, level_brief level)
layer_brief (Calu level) = omega (arith, level_brief level)
layer_brief (Talu level) = omega (arith, level_brief level)

direction_brief : (d : Direction) → length (direction_text d) ≤ 5
direction_brief Up = omega arith
direction_brief Down = omega arith
direction_brief Left = omega arith
direction_brief Right = omega arith

side_brief : (s : Side) → length (side_text s) ≤ 5
side_brief North = omega arith
side_brief South = omega arith
side_brief East = omega arith
side_brief West = omega arith

transform_brief : (t : Transform) → length (transform_text t) ≤ 5
transform_brief NoSym = omega arith
transform_brief SymX = omega arith
transform_brief SymY = omega arith
transform_brief SymXY = omega arith

-- ---- lines

-- texts of any length have at most 64 bytes here
abbrev pub IsBrief : Item → Type 0
IsBrief (item.Segment s) = Unit {0}
IsBrief (item.Connector c) = Unit {0}
IsBrief (item.Via v) = length (contact_text v.contact) ≤ 64
IsBrief (item.Instance i) = Unit {0}
IsBrief (item.Reference r) = length r.name ≤ 64
IsBrief (item.Remark text) = length text ≤ 64

-- a line has at most 256 bytes
pub line_brief : (one : Item) → IsLine one → IsItemWithin one → IsBrief one → length (item_text one) ≤ 256
line_brief (item.Segment s) line within brief =
    let whole : length (item_text (item.Segment s)) ≡ total (
    codes "S " ∷ field s.x1 ∷ field s.y1 ∷ field s.x2 ∷ field s.y2 ∷ field s.width ∷ name_text s.name ∷ comma
    ∷ direction_text s.direction ∷ comma ∷ layer_text s.layer ∷ line_end ∷ []) = total_is (
    codes "S " ∷ field s.x1 ∷ field s.y1 ∷ field s.x2 ∷ field s.y2 ∷ field s.width ∷ name_text s.name ∷ comma
    ∷ direction_text s.direction ∷ comma ∷ layer_text s.layer ∷ line_end ∷ []) in
    omega (
      arith,
      whole,
      near_brief s.x1 within.0,
      near_brief s.y1 within.1,
      near_brief s.x2 within.2,
      near_brief s.y2 within.3,
      near_brief s.width within.4,
      label_brief s.name line.2 within.5,
      direction_brief s.direction,
      layer_brief s.layer,
    )
line_brief (item.Connector c) line within brief =
    let pieces : List (List ℕ) =
    codes "C " ∷ field c.x ∷ field c.y ∷ field c.width ∷ name_text c.name ∷ comma ∷ field c.index ∷ side_text c.side ∷ comma
    ∷ layer_text c.layer ∷ line_end ∷ [] in
    let whole : length (item_text (item.Connector c)) ≡ total pieces = total_is pieces in
    omega (
      arith,
      whole,
      near_brief c.x within.0,
      near_brief c.y within.1,
      near_brief c.width within.2,
      label_brief c.name line.1 within.3,
      field_brief c.index within.4,
      side_brief c.side,
      layer_brief c.layer,
    )
line_brief (item.Via v) line within brief =
    let pieces : List (List ℕ) = codes "V " ∷ field v.x ∷ field v.y ∷ contact_text v.contact ∷ comma ∷ name_text v.name ∷ line_end ∷ [] in
    let whole : length (item_text (item.Via v)) ≡ total pieces = total_is pieces in
    omega (arith, whole, near_brief v.x within.0, near_brief v.y within.1, label_brief v.name line.1 within.2, brief)
line_brief (item.Instance i) line within brief =
    let pieces : List (List ℕ) =
    codes "I " ∷ field i.x ∷ field i.y ∷ i.model ∷ comma ∷ i.name ∷ comma ∷ transform_text i.transform ∷ line_end ∷ [] in
    let whole : length (item_text (item.Instance i)) ≡ total pieces = total_is pieces in
    omega (arith, whole, near_brief i.x within.0, near_brief i.y within.1, within.2, within.3, transform_brief i.transform)
line_brief (item.Reference r) line within brief =
    let pieces : List (List ℕ) = codes "R " ∷ field r.x ∷ field r.y ∷ r.word ∷ comma ∷ r.name ∷ line_end ∷ [] in
    let whole : length (item_text (item.Reference r)) ≡ total pieces = total_is pieces in
    omega (arith, whole, near_brief r.x within.0, near_brief r.y within.1, within.2, brief)
line_brief (item.Remark text) line within brief =
    let whole : length (item_text (item.Remark text)) ≡ total (codes "B " ∷ text ∷ line_end ∷ []) = total_is (codes "B " ∷ text ∷ line_end ∷ []) in
    omega (arith, whole, brief)

pub lines_brief : (items : List Item) → AllByRecursion IsLine items → AllByRecursion IsItemWithin items → AllByRecursion IsBrief items
    → length (items_text items) ≤ 256 * length items + 4
lines_brief [] lines within brief = omega arith
lines_brief (one ∷ rest) lines within brief =
    omega (arith, length-append (item_text one) (items_text rest), line_brief one lines.0 within.0 brief.0, lines_brief rest lines.1 within.1 brief.1)

pub head_brief : (name : Option Name) (b : Rect) → IsLabel name → IsShortLabel name → IsNear b.x1 → IsNear b.y1 → IsNear b.x2 → IsNear b.y2
    → length (head_text name b) ≤ 256
head_brief name b label short x1 y1 x2 y2 =
    let pieces : List (List ℕ) =
    codes "V ALLIANCE : 6" ∷ line_end ∷ codes "H " ∷ name_text name ∷ codes ",P,01/01/2000,100" ∷ line_end
    ∷ codes "A " ∷ field b.x1 ∷ field b.y1 ∷ field b.x2 ∷ signed_decimal b.y2 ∷ line_end ∷ [] in
    let whole : length (head_text name b) ≡ total pieces = total_is pieces in
    omega (arith, whole, label_brief name label short, near_brief b.x1 x1, near_brief b.y1 y1, near_brief b.x2 x2, number_brief b.y2 (omega (arith, y2)))
