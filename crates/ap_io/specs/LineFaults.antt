-- What is wrong with a line: the first that holds of its form, its layer, its transform, and the limits.
use Rattle.std.specs.Prelude.{ℕ, ◌-◌, ◌^◌, min, ◌==◌, ◌||◌, Bool, false, not, ◌&&◌, nat_lt, nat_eq, bytes_eq, List, [], ◌∷◌, length, take, drop, slice_index, Option, None, Some, codes, if◌then◌else◌}
use Rattle.std.specs.List.{list_all, list_any, prefix_len, starts_with}
use Rattle.std.specs.Option.{is_some, is_none, option_or}
use Rattle.std.specs.Ordering.{int_cmp, is_eq, is_le}
use Rattle.sym_geom.specs.declared.item.Direction.{Direction}
use Rattle.sym_geom.specs.declared.item.Direction.TheVariants.{Up, Down, Left, Right}
use Rattle.ap_io.specs.declared.scale.Scale.{Scale}
use Rattle.ap_io.specs.declared.limits.TheConstants.{MOST_NAME_BYTES, MOST_COORDINATE}
use Rattle.ap_io.specs.declared.fault.LineFault.{LineFault}
use Rattle.ap_io.specs.declared.fault.LineFault.TheVariants.{BadLine, BadLayer, BadTransform, LongName, FarCoordinate}
use Rattle.ap_io.specs.Fields.{at, fields_of, is_blank, is_text_byte, is_number, is_width, is_index, is_identifier, is_label, is_in_word, lower, number_of, reach}
use Rattle.ap_io.specs.Words.{layer_of, direction_of, side_of, transform_of, scale_of, is_contact}

-- ---- limits

-- the bytes of the identifier of a name, where these are more than 64
unfoldable pub long_name : List ℕ → Option ℕ
long_name text = let n = prefix_len is_in_word text in if nat_lt MOST_NAME_BYTES n then Some n else None

-- the first coordinate or width that is over the greatest at scale 100, up to the greatest number of 64 bits
abbrev pub far_coordinate : Scale → List (List ℕ) → Option ℕ
far_coordinate scale [] = None
far_coordinate scale (text ∷ texts) = if nat_lt MOST_COORDINATE (reach scale text) then Some (min (reach scale text) (2 ^ 64 - 1)) else far_coordinate scale texts

-- names are looked at before coordinates
abbrev pub limit_fault : Option ℕ → Option ℕ → Option LineFault
limit_fault (Some n) far = Some (LongName n)
limit_fault None (Some n) = Some (FarCoordinate n)
limit_fault None None = None

-- ---- forms; the number of fields comes first

-- a segment runs along one axis, as its direction says
abbrev pub is_along : Option Direction → List (List ℕ) → Bool
is_along None f = false
is_along (Some Up) f = is_eq (int_cmp (number_of (at f 0)) (number_of (at f 2)))
is_along (Some Down) f = is_eq (int_cmp (number_of (at f 0)) (number_of (at f 2)))
is_along (Some Left) f = is_eq (int_cmp (number_of (at f 1)) (number_of (at f 3)))
is_along (Some Right) f = is_eq (int_cmp (number_of (at f 1)) (number_of (at f 3)))

-- S x1,y1,x2,y2,width,name,direction,layer
abbrev pub is_segment : List (List ℕ) → Bool
is_segment f =
    (length f == 8) && list_all is_number (take 4 f) && is_width (at f 4) && is_label (at f 5) && is_along (direction_of (at f 6)) f

-- C x,y,width,name,index,side,layer
abbrev pub is_connector : List (List ℕ) → Bool
is_connector f =
    (length f == 7) && list_all is_number (take 2 f) && is_width (at f 2) && is_label (at f 3) && is_index (at f 4)
    && is_some (side_of (at f 5))

-- V x,y,contact or V x,y,contact,name
abbrev pub is_via : List (List ℕ) → Bool
is_via f =
    (length f == 3 || (length f == 4 && is_label (at f 3))) && list_all is_number (take 2 f) && is_contact (at f 2)

-- I x,y,model,name,transform, of a name that isn't taken
abbrev pub is_instance : Bool → List (List ℕ) → Bool
is_instance taken f =
    (length f == 5) && list_all is_number (take 2 f) && is_identifier (at f 2) && is_identifier (at f 3)
    && not taken

-- R x,y,word,name
abbrev pub is_reference : List (List ℕ) → Bool
is_reference f =
    (length f == 4) && list_all is_number (take 2 f) && is_identifier (at f 2) && list_all is_text_byte (at f 3)

-- H name,P,date,scale
abbrev pub is_head : List (List ℕ) → Bool
is_head f =
    (length f == 4) && is_label (at f 0) && bytes_eq (at f 1) (codes "P") && list_all is_text_byte (at f 2)
    && is_some (scale_of (at f 3))

-- A x1,y1,x2,y2
abbrev pub is_box : List (List ℕ) → Bool
is_box f =
    (length f == 4) && list_all is_number (take 4 f) && is_le (int_cmp (number_of (at f 0)) (number_of (at f 2)))
    && is_le (int_cmp (number_of (at f 1)) (number_of (at f 3)))

-- ---- the first fault of a line of each kind

abbrev pub segment_fault : Scale → List (List ℕ) → Option LineFault
segment_fault scale f =
    if not (is_segment f) then Some BadLine
    else if is_none (layer_of (at f 7)) then Some BadLayer
    else limit_fault (long_name (at f 5)) (far_coordinate scale (take 5 f))

abbrev pub connector_fault : Scale → List (List ℕ) → Option LineFault
connector_fault scale f =
    if not (is_connector f) then Some BadLine
    else if is_none (layer_of (at f 6)) then Some BadLayer
    else limit_fault (long_name (at f 3)) (far_coordinate scale (take 3 f))

abbrev pub via_fault : Scale → List (List ℕ) → Option LineFault
via_fault scale f =
    if not (is_via f) then Some BadLine
    else limit_fault (long_name (at f 3)) (far_coordinate scale (take 2 f))

abbrev pub instance_fault : Scale → Bool → List (List ℕ) → Option LineFault
instance_fault scale taken f =
    if not (is_instance taken f) then Some BadLine
    else if is_none (transform_of (at f 4)) then Some BadTransform
    else limit_fault (option_or (long_name (at f 2)) (long_name (at f 3))) (far_coordinate scale (take 2 f))

abbrev pub reference_fault : Scale → List (List ℕ) → Option LineFault
reference_fault scale f =
    if not (is_reference f) then Some BadLine
    else limit_fault (long_name (at f 2)) (far_coordinate scale (take 2 f))

abbrev pub head_fault : List (List ℕ) → Option LineFault
head_fault f = if not (is_head f) then Some BadLine else limit_fault (long_name (at f 0)) None

abbrev pub box_fault : Scale → List (List ℕ) → Option LineFault
box_fault scale f = if not (is_box f) then Some BadLine else limit_fault None (far_coordinate scale (take 4 f))

-- any text
abbrev pub remark_fault : List ℕ → Option LineFault
remark_fault text = if list_all is_text_byte text then None else Some BadLine

-- ---- whole lines

-- the letter of a line, which stands in front of one blank
unfoldable pub letter_of : List ℕ → Option ℕ
letter_of line = if is_blank (slice_index line 1) then Some (slice_index line 0) else None

abbrev pub is_letter : ℕ → Option ℕ → Bool
is_letter c None = false
is_letter c (Some d) = c == d

abbrev pub has_letter : ℕ → List ℕ → Bool
has_letter c line = is_letter c (letter_of line)

-- what stands behind the letter and its blank, and its fields
abbrev pub behind_letter : List ℕ → List ℕ
behind_letter line = drop 2 line

abbrev pub fields_behind : List ℕ → List (List ℕ)
fields_behind line = fields_of (behind_letter line)

-- a blank line has blanks alone
unfoldable pub is_blank_line : List ℕ → Bool
is_blank_line line = list_all is_blank line

-- the line that ends the figure
abbrev pub is_end : List ℕ → Bool
is_end line = bytes_eq line (codes "EOF")

-- the first line: V ALLIANCE : n
unfoldable pub is_version : List ℕ → Bool
is_version line = starts_with nat_eq line (codes "V ALLIANCE : ") && is_number (drop 13 line)

abbrev pub version_fault : List ℕ → Option LineFault
version_fault line = if is_version line then None else Some BadLine

abbrev pub name_line_fault : List ℕ → Option LineFault
name_line_fault line = if has_letter 72 line then head_fault (fields_behind line) else Some BadLine

abbrev pub box_line_fault : Scale → List ℕ → Option LineFault
box_line_fault scale line = if has_letter 65 line then box_fault scale (fields_behind line) else Some BadLine

-- the name of the instance of an I line, and whether an instance has it so far
abbrev pub name_on : List ℕ → List ℕ
name_on line = lower (at (fields_behind line) 3)

abbrev pub is_taken : List (List ℕ) → List ℕ → Bool
is_taken names line = has_letter 73 line && list_any (bytes_eq (name_on line)) names

-- the name of the instance of a line, if it is an I line
abbrev pub names_on : List ℕ → List (List ℕ)
names_on line = if is_blank_line line then [] else if has_letter 73 line then name_on line ∷ [] else []

-- of a line with this letter: S, C, V, I, R or B
abbrev pub fault_by : Option ℕ → Scale → Bool → List ℕ → Option LineFault
fault_by None scale taken line = Some BadLine
fault_by (Some c) scale taken line =
    if c == 83 then segment_fault scale (fields_behind line)
    else if c == 67 then connector_fault scale (fields_behind line)
    else if c == 86 then via_fault scale (fields_behind line)
    else if c == 73 then instance_fault scale taken (fields_behind line)
    else if c == 82 then reference_fault scale (fields_behind line)
    else if c == 66 then remark_fault (behind_letter line)
    else Some BadLine

-- of a line behind the first three
abbrev pub item_fault : Scale → Bool → List ℕ → Option LineFault
item_fault scale taken line = if is_blank_line line then None else fault_by (letter_of line) scale taken line
