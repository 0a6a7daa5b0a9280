-- Words of layers, directions, sides and transforms have bytes of a field.
use Rattle.std.proofs.Common.{◌≡◌, true, refl, codes}
use Rattle.std.specs.List.{list_all}
use Rattle.sym_geom.specs.declared.layer.Level.{Level}
use Rattle.sym_geom.specs.declared.layer.Level.TheVariants.{One, Two, Three, Four, Five, Six, Seven, Eight, Nine}
use Rattle.sym_geom.specs.declared.layer.Layer.{Layer}
use Rattle.sym_geom.specs.declared.layer.Layer.TheVariants.{NWell, PWell, NTie, PTie, NDif, PDif, NTrans, PTrans, Poly, TPoly, Alu, Calu, Talu}
use Rattle.sym_geom.specs.declared.item.Direction.{Direction}
use Rattle.sym_geom.specs.declared.item.Direction.TheVariants.{Up, Down, Left, Right}
use Rattle.sym_geom.specs.declared.item.Side.{Side}
use Rattle.sym_geom.specs.declared.item.Side.TheVariants.{North, South, East, West}
use Rattle.sym_geom.specs.declared.rect.Transform.{Transform}
use Rattle.sym_geom.specs.declared.rect.Transform.TheVariants.{NoSym, SymX, SymY, SymXY}
use Rattle.ap_io.specs.Spelling.{layer_text, level_text, direction_text, side_text, transform_text}
use Rattle.ap_io.specs.ApText.{is_field_byte}
use Rattle.ap_io.proofs.Bytes.{all_append}

level_bytes : (level : Level) → list_all is_field_byte (level_text level) ≡ true
level_bytes One = refl
level_bytes Two = refl
level_bytes Three = refl
level_bytes Four = refl
level_bytes Five = refl
level_bytes Six = refl
level_bytes Seven = refl
level_bytes Eight = refl
level_bytes Nine = refl

pub layer_bytes : (layer : Layer) → list_all is_field_byte (layer_text layer) ≡ true
layer_bytes NWell = refl
layer_bytes PWell = refl
layer_bytes NTie = refl
layer_bytes PTie = refl
layer_bytes NDif = refl
layer_bytes PDif = refl
layer_bytes NTrans = refl
layer_bytes PTrans = refl
layer_bytes Poly = refl
layer_bytes TPoly = refl
layer_bytes (Alu level) = all_append is_field_byte (codes "ALU") (level_text level) refl (level_bytes level)
layer_bytes (Calu level) = all_append is_field_byte (codes "CALU") (level_text level) refl (level_bytes level)
layer_bytes (Talu level) = all_append is_field_byte (codes "TALU") (level_text level) refl (level_bytes level)

pub direction_bytes : (d : Direction) → list_all is_field_byte (direction_text d) ≡ true
direction_bytes Up = refl
direction_bytes Down = refl
direction_bytes Left = refl
direction_bytes Right = refl

pub side_bytes : (s : Side) → list_all is_field_byte (side_text s) ≡ true
side_bytes North = refl
side_bytes South = refl
side_bytes East = refl
side_bytes West = refl

pub transform_bytes : (t : Transform) → list_all is_field_byte (transform_text t) ≡ true
transform_bytes NoSym = refl
transform_bytes SymX = refl
transform_bytes SymY = refl
transform_bytes SymXY = refl
