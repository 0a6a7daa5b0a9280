-- What a line without a fault has.
use Rattle.std.proofs.Common.{◌≡◌, ℕ, Bool, true, false, not, ◌==◌, ◌&&◌, List, Option, None, Some, length, take, refl, sym, ap, ◌∙◌, if◌then◌else◌}
use Rattle.std.specs.List.{list_all}
use Rattle.std.specs.Option.{IsSome, is_some, is_none, option_or}
use Rattle.ap_io.specs.declared.scale.Scale.{Scale}
use Rattle.ap_io.specs.declared.fault.LineFault.{LineFault}
use Rattle.ap_io.specs.declared.fault.LineFault.TheVariants.{BadLine, BadLayer, BadTransform}
use Rattle.ap_io.specs.Fields.{at, is_identifier, is_number, is_width, is_label, is_index}
use Rattle.ap_io.specs.Words.{layer_of, side_of, direction_of, transform_of}
use Rattle.ap_io.specs.LineFaults.{box_line_fault, has_letter, is_box, fault_by, item_fault, letter_of, fields_behind, behind_letter, is_blank_line, instance_fault, via_fault, reference_fault, remark_fault, is_segment, is_connector, is_along, segment_fault, connector_fault, limit_fault, long_name, far_coordinate}
use Rattle.ap_io.proofs.Digits.{both_true}

is_there : {A : Type 0} (o : Option A) → is_some o ≡ true → IsSome o
is_there o h = h

not_missing : {A : Type 0} (o : Option A) → is_none o ≡ false → IsSome o
not_missing None h = absurd (cc)
not_missing (Some x) h = refl

steps : (form missing : Bool) (limit : Option LineFault) → (if not form then Some BadLine else if missing then Some BadLayer else limit) ≡ None
    → (form ≡ true) × (missing ≡ false) × (limit ≡ None)
steps true true limit h = absurd (cc)
steps true false limit h = (refl, refl, h)
steps false missing limit h = absurd (cc)

near_limit : (long far : Option ℕ) → limit_fault long far ≡ None → far ≡ None
near_limit (Some n) far h = absurd (cc)
near_limit None (Some n) h = absurd (cc)
near_limit None None h = refl

segment_steps : (k : Scale) (f : List (List ℕ)) → segment_fault k f ≡ None
    → (is_segment f ≡ true) × (is_none (layer_of (at f 7)) ≡ false) × (limit_fault (long_name (at f 5)) (far_coordinate k (take 5 f)) ≡ None)
segment_steps k f none = steps (is_segment f) (is_none (layer_of (at f 7))) (limit_fault (long_name (at f 5)) (far_coordinate k (take 5 f))) none

pub segment_label : (k : Scale) (f : List (List ℕ)) → segment_fault k f ≡ None → is_label (at f 5) ≡ true
segment_label k f none =
    let four = both_true ((length f == 8) && list_all is_number (take 4 f) && is_width (at f 4) && is_label (at f 5)) (is_along (direction_of (at f 6)) f) (segment_steps k f none).0 in
    (both_true ((length f == 8) && list_all is_number (take 4 f) && is_width (at f 4)) (is_label (at f 5)) four.0).1

pub segment_near : (k : Scale) (f : List (List ℕ)) → segment_fault k f ≡ None → far_coordinate k (take 5 f) ≡ None
segment_near k f none = near_limit (long_name (at f 5)) (far_coordinate k (take 5 f)) (segment_steps k f none).2

pub segment_layer : (k : Scale) (f : List (List ℕ)) → segment_fault k f ≡ None → IsSome (layer_of (at f 7))
segment_layer k f none = not_missing (layer_of (at f 7)) (segment_steps k f none).1

connector_steps : (k : Scale) (f : List (List ℕ)) → connector_fault k f ≡ None
    → (is_connector f ≡ true) × (is_none (layer_of (at f 6)) ≡ false) × (limit_fault (long_name (at f 3)) (far_coordinate k (take 3 f)) ≡ None)
connector_steps k f none = steps (is_connector f) (is_none (layer_of (at f 6))) (limit_fault (long_name (at f 3)) (far_coordinate k (take 3 f))) none

five : (k : Scale) (f : List (List ℕ)) → connector_fault k f ≡ None
    → ((length f == 7) && list_all is_number (take 2 f) && is_width (at f 2) && is_label (at f 3) && is_index (at f 4) ≡ true) × (is_some (side_of (at f 5)) ≡ true)
five k f none =
    both_true ((length f == 7) && list_all is_number (take 2 f) && is_width (at f 2) && is_label (at f 3) && is_index (at f 4)) (is_some (side_of (at f 5))) (connector_steps k f none).0

pub connector_index : (k : Scale) (f : List (List ℕ)) → connector_fault k f ≡ None → is_index (at f 4) ≡ true
connector_index k f none = (both_true ((length f == 7) && list_all is_number (take 2 f) && is_width (at f 2) && is_label (at f 3)) (is_index (at f 4)) (five k f none).0).1

pub connector_side : (k : Scale) (f : List (List ℕ)) → connector_fault k f ≡ None → IsSome (side_of (at f 5))
connector_side k f none = is_there (side_of (at f 5)) (five k f none).1

pub connector_layer : (k : Scale) (f : List (List ℕ)) → connector_fault k f ≡ None → IsSome (layer_of (at f 6))
connector_layer k f none = not_missing (layer_of (at f 6)) (connector_steps k f none).1

-- ---- a name that isn't taken

abbrev pick : Bool → Bool → Bool → Bool → Option LineFault → Option LineFault → Option LineFault → Option LineFault → Option LineFault → Option LineFault
pick s c v i x1 x2 x3 x4 x5 = if s then x1 else if c then x2 else if v then x3 else if i then x4 else x5

picked : (s c v i : Bool) (x1 x2 x3 x4 y4 x5 : Option LineFault) → (x4 ≡ None → y4 ≡ None) → pick s c v i x1 x2 x3 x4 x5 ≡ None → pick s c v i x1 x2 x3 y4 x5 ≡ None
picked true c v i x1 x2 x3 x4 y4 x5 so h = h
picked false true v i x1 x2 x3 x4 y4 x5 so h = h
picked false false true i x1 x2 x3 x4 y4 x5 so h = h
picked false false false true x1 x2 x3 x4 y4 x5 so h = so h
picked false false false false x1 x2 x3 x4 y4 x5 so h = h

and_false : (a : Bool) → a && false ≡ false
and_false true = refl
and_false false = refl

no_instance : (k : Scale) (f : List (List ℕ)) → instance_fault k true f ≡ None → instance_fault k false f ≡ None
no_instance k f h =
    let a = (length f == 5) && list_all is_number (take 2 f) && is_identifier (at f 2) && is_identifier (at f 3) in
    let x = if is_none (transform_of (at f 4)) then Some BadTransform else limit_fault (option_or (long_name (at f 2)) (long_name (at f 3))) (far_coordinate k (take 2 f)) in
    let bad : Some BadLine ≡ None = sym (ap (λ (b : Bool). if not b then Some BadLine else x) (and_false a)) ∙ h in absurd (cc)

by_letter : (o : Option ℕ) (k : Scale) (line : List ℕ) → fault_by o k true line ≡ None → fault_by o k false line ≡ None
by_letter None k line h = absurd (cc)
by_letter (Some c) k line h =
    let f = fields_behind line in
    picked (c == 83) (c == 67) (c == 86) (c == 73) (segment_fault k f) (connector_fault k f) (via_fault k f) (instance_fault k true f) (instance_fault k false f)
    (if c == 82 then reference_fault k f else if c == 66 then remark_fault (behind_letter line) else Some BadLine) (no_instance k f) h

-- a line without a fault has none where no name is taken
pub free_name : (taken : Bool) (o : Option ℕ) (k : Scale) (line : List ℕ) → fault_by o k taken line ≡ None → fault_by o k false line ≡ None
free_name true o k line h = by_letter o k line h
free_name false o k line h = h

pub not_blank : (taken : Bool) (k : Scale) (line : List ℕ) → is_blank_line line ≡ false → item_fault k taken line ≡ None → fault_by (letter_of line) k taken line ≡ None
not_blank taken k line some h = sym (ap (λ (b : Bool). if b then None else fault_by (letter_of line) k taken line) some) ∙ h

-- ---- the box

two_ifs : (a b : Bool) (l : Option LineFault) → (if a then (if not b then Some BadLine else l) else Some BadLine) ≡ None → l ≡ None
two_ifs true true l h = h
two_ifs true false l h = absurd (cc)
two_ifs false b l h = absurd (cc)

pub box_near : (k : Scale) (line : List ℕ) → box_line_fault k line ≡ None → far_coordinate k (take 4 (fields_behind line)) ≡ None
box_near k line h =
    near_limit None (far_coordinate k (take 4 (fields_behind line))) (two_ifs (has_letter 65 line) (is_box (fields_behind line)) (limit_fault None (far_coordinate k (take 4 (fields_behind line)))) h)
