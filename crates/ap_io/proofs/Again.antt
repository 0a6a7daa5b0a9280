-- What is written is read again: fields and lines.
use Rattle.std.proofs.Common.{◌≡◌, ℕ, Bool, true, false, not, ◌==◌, List, [], ◌∷◌, ◌++◌, refl, ap, ◌∙◌, Some, if◌then◌else◌}
use Rattle.std.specs.List.{list_all}
use Rattle.sym_geom.specs.declared.layer.Level.{Level}
use Rattle.sym_geom.specs.declared.layer.Level.TheVariants.{One, Two, Three, Four, Five, Six, Seven, Eight, Nine}
use Rattle.sym_geom.specs.declared.layer.Layer.{Layer}
use Rattle.sym_geom.specs.declared.layer.Layer.TheVariants.{NWell, PWell, NTie, PTie, NDif, PDif, NTrans, PTrans, Poly, TPoly, Alu, Calu, Talu}
use Rattle.sym_geom.specs.declared.item.Direction.{Direction}
use Rattle.sym_geom.specs.declared.item.Direction.TheVariants.{Up, Down, Left, Right}
use Rattle.sym_geom.specs.declared.item.Side.{Side}
use Rattle.sym_geom.specs.declared.item.Side.TheVariants.{North, South, East, West}
use Rattle.sym_geom.specs.declared.rect.Transform.{Transform}
use Rattle.sym_geom.specs.declared.rect.Transform.TheVariants.{NoSym, SymX, SymY, SymXY}
use Rattle.vlsi_base.specs.Lines.{put_before}
use Rattle.ap_io.specs.Spelling.{layer_text, direction_text, side_text, transform_text}
use Rattle.ap_io.specs.Fields.{fields_of, is_in_field}
use Rattle.ap_io.specs.Words.{layer_of, direction_of, side_of, transform_of}
use Rattle.ap_io.proofs.Digits.{both_true}

-- ---- words

metal_again : (level : Level) → layer_of (layer_text (Alu level)) ≡ Some (Alu level)
unfolding layer_of
metal_again One = refl
metal_again Two = refl
metal_again Three = refl
metal_again Four = refl
metal_again Five = refl
metal_again Six = refl
metal_again Seven = refl
metal_again Eight = refl
metal_again Nine = refl

connector_again : (level : Level) → layer_of (layer_text (Calu level)) ≡ Some (Calu level)
unfolding layer_of
connector_again One = refl
connector_again Two = refl
connector_again Three = refl
connector_again Four = refl
connector_again Five = refl
connector_again Six = refl
connector_again Seven = refl
connector_again Eight = refl
connector_again Nine = refl

block_again : (level : Level) → layer_of (layer_text (Talu level)) ≡ Some (Talu level)
unfolding layer_of
block_again One = refl
block_again Two = refl
block_again Three = refl
block_again Four = refl
block_again Five = refl
block_again Six = refl
block_again Seven = refl
block_again Eight = refl
block_again Nine = refl

pub layer_again : (layer : Layer) → layer_of (layer_text layer) ≡ Some layer
unfolding layer_of
layer_again NWell = refl
layer_again PWell = refl
layer_again NTie = refl
layer_again PTie = refl
layer_again NDif = refl
layer_again PDif = refl
layer_again NTrans = refl
layer_again PTrans = refl
layer_again Poly = refl
layer_again TPoly = refl
layer_again (Alu level) = metal_again level
layer_again (Calu level) = connector_again level
layer_again (Talu level) = block_again level

pub direction_again : (d : Direction) → direction_of (direction_text d) ≡ Some d
unfolding direction_of
direction_again Up = refl
direction_again Down = refl
direction_again Left = refl
direction_again Right = refl

pub side_again : (s : Side) → side_of (side_text s) ≡ Some s
unfolding side_of
side_again North = refl
side_again South = refl
side_again East = refl
side_again West = refl

pub transform_again : (t : Transform) → transform_of (transform_text t) ≡ Some t
unfolding transform_of
transform_again NoSym = refl
transform_again SymX = refl
transform_again SymY = refl
transform_again SymXY = refl

-- ---- fields

put_on : (b : ℕ) (bs : List ℕ) (fields : List (List ℕ)) (e : Bool) → e ≡ false → (if e then [] ∷ fields else put_before b fields) ≡ put_before b fields
put_on b bs fields e no_comma = ap (λ (x : Bool). if x then [] ∷ fields else put_before b fields) no_comma

not_true : (e : Bool) → not e ≡ true → e ≡ false
not_true true h = absurd (cc)
not_true false h = refl

-- a text without a comma is one field
pub field_alone : (text : List ℕ) → list_all is_in_field text ≡ true → fields_of text ≡ text ∷ []
unfolding fields_of
field_alone [] all = refl
field_alone (b ∷ bs) all =
    let both = both_true (is_in_field b) (list_all is_in_field bs) all in
    put_on b bs (fields_of bs) (b == 44) (not_true (b == 44) both.0) ∙ ap (put_before b) (field_alone bs both.1)

-- before a comma stands a field
pub field_first : (text rest : List ℕ) → list_all is_in_field text ≡ true → fields_of (text ++ 44 ∷ rest) ≡ text ∷ fields_of rest
unfolding fields_of
field_first [] rest all = refl
field_first (b ∷ bs) rest all =
    let both = both_true (is_in_field b) (list_all is_in_field bs) all in
    put_on b bs (fields_of (bs ++ 44 ∷ rest)) (b == 44) (not_true (b == 44) both.0) ∙ ap (put_before b) (field_first bs rest both.1)
