-- The words of layers, directions, sides, transforms and contacts.
use Rattle.std.specs.Prelude.{ℕ, Bool, ◌&&◌, ◌||◌, nat_eq, bytes_eq, List, [], ◌∷◌, find, Option, codes}
use Rattle.std.specs.List.{list_all, starts_with}
use Rattle.std.specs.Option.{unwrap_or}
use Rattle.sym_geom.specs.declared.layer.Level.TheVariants.{One, Two, Three, Four, Five, Six, Seven, Eight, Nine}
use Rattle.sym_geom.specs.declared.rect.Transform.{Transform}
use Rattle.sym_geom.specs.declared.rect.Transform.TheVariants.{NoSym, SymX, SymY, SymXY}
use Rattle.sym_geom.specs.declared.layer.Layer.{Layer}
use Rattle.sym_geom.specs.declared.layer.Layer.TheVariants.{NWell, PWell, NTie, PTie, NDif, PDif, NTrans, PTrans, Poly, TPoly, Alu, Calu, Talu}
use Rattle.sym_geom.specs.declared.item.Direction.{Direction}
use Rattle.sym_geom.specs.declared.item.Direction.TheVariants.{Up, Down, Left, Right}
use Rattle.sym_geom.specs.declared.item.Side.{Side}
use Rattle.sym_geom.specs.declared.item.Side.TheVariants.{North, South, East, West}
use Rattle.sym_geom.specs.declared.item.Contact.{Contact}
use Rattle.sym_geom.specs.declared.item.Contact.TheVariants.{Via1, Via2, Via3, Via4, Via5, Other}
use Rattle.ap_io.specs.declared.scale.Scale.{Scale}
use Rattle.ap_io.specs.declared.scale.Scale.TheVariants as scale
use Rattle.ap_io.specs.Spelling.{contact_text, layer_text, direction_text, side_text, transform_text}
use Rattle.ap_io.specs.Fields.{is_text_byte}

abbrev pub layers : List Layer
layers =
    NWell ∷ PWell ∷ NTie ∷ PTie ∷ NDif ∷ PDif ∷ NTrans ∷ PTrans ∷ Poly ∷ TPoly
    ∷ Alu One ∷ Alu Two ∷ Alu Three ∷ Alu Four ∷ Alu Five ∷ Alu Six ∷ Alu Seven ∷ Alu Eight ∷ Alu Nine
    ∷ Calu One ∷ Calu Two ∷ Calu Three ∷ Calu Four ∷ Calu Five ∷ Calu Six ∷ Calu Seven ∷ Calu Eight ∷ Calu Nine
    ∷ Talu One ∷ Talu Two ∷ Talu Three ∷ Talu Four ∷ Talu Five ∷ Talu Six ∷ Talu Seven ∷ Talu Eight ∷ Talu Nine ∷ []

-- the first of these layers that a word names
abbrev pub layer_among : List ℕ → List Layer → Option Layer
layer_among word ls = find (λ l. bytes_eq (layer_text l) word) ls

-- the layer that a word names
unfoldable pub layer_of : List ℕ → Option Layer
layer_of word = layer_among word layers

unfoldable pub direction_of : List ℕ → Option Direction
direction_of word = find (λ d. bytes_eq word (direction_text d)) (Up ∷ Down ∷ Left ∷ Right ∷ [])

unfoldable pub side_of : List ℕ → Option Side
side_of word = find (λ s. bytes_eq word (side_text s)) (North ∷ South ∷ East ∷ West ∷ [])

unfoldable pub transform_of : List ℕ → Option Transform
transform_of word = find (λ t. bytes_eq word (transform_text t)) (NoSym ∷ SymX ∷ SymY ∷ SymXY ∷ [])

-- the word of a contact begins with CONT_ or C_X_
unfoldable pub is_contact : List ℕ → Bool
is_contact word = (starts_with nat_eq word (codes "CONT_") || starts_with nat_eq word (codes "C_X_")) && list_all is_text_byte word

-- the contact of a word that joins metals
unfoldable pub joining_contact_of : List ℕ → Option Contact
joining_contact_of word = find (λ c. bytes_eq word (contact_text c)) (Via1 ∷ Via2 ∷ Via3 ∷ Via4 ∷ Via5 ∷ [])

-- any other joins none
abbrev pub contact_of : List ℕ → Contact
contact_of word = unwrap_or (joining_contact_of word) (Other word)

abbrev pub scale_text : Scale → List ℕ
scale_text scale.One = codes "1"
scale_text scale.Ten = codes "10"
scale_text scale.Hundred = codes "100"

-- the scale of a file: 1, 10 or 100, as written here
unfoldable pub scale_of : List ℕ → Option Scale
scale_of word = find (λ s. bytes_eq word (scale_text s)) (scale.One ∷ scale.Ten ∷ scale.Hundred ∷ [])
