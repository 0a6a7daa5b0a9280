-- The items of a figure that is read are within the limits.
use Rattle.std.proofs.Common.{◌≡◌, ℕ, suc, zero, ◌+◌, ◌*◌, ◌^◌, ◌<◌, ◌≤◌, Bool, true, false, not, ◌==◌, ◌&&◌, List, [], ◌∷◌, ◌++◌, length, take, bytes_eq, codes, refl, sym, ap, ◌∙◌, arith, subst, Option, None, Some, if◌then◌else◌}
use Rattle.std.specs.Prelude.{slice_index, cond, ℤ, pos, nat_abs, ◌≤ℤ◌, nat_lt, All}
use Rattle.std.specs.List.{list_all, prefix_len}
use Rattle.std.specs.Option.{is_none, is_some, option_or, option_map}
use Rattle.std.specs.Char.{is_ascii_alphabetic, to_ascii_lowercase}
use Rattle.std.proofs.lemmas.Int.{ints}
use Rattle.std.proofs.lemmas.List.{length-map}
use Rattle.std.proofs.lemmas.List.Elements.{All-nil, All-cons}
use Rattle.std.proofs.lemmas.List.Folds.{length-prefix_len}
use Rattle.std.proofs.lemmas.Bool.Decides.{nat_tests}
use Rattle.std.proofs.lemmas.Bool.{ltb-true}
use Rattle.vlsi_base.specs.Number.{value_of}
use Rattle.vlsi_base.specs.declared.name.Name.{Name}
use Rattle.sym_geom.specs.declared.item.Segment.{Segment}
use Rattle.sym_geom.specs.declared.item.Connector.{Connector}
use Rattle.sym_geom.specs.declared.item.Via.{Via}
use Rattle.sym_geom.specs.declared.item.Instance.{Instance}
use Rattle.sym_geom.specs.declared.item.Reference.{Reference}
use Rattle.sym_geom.specs.declared.item.Item.{Item}
use Rattle.sym_geom.specs.declared.item.Item.TheVariants as item
use Rattle.vlsi_base.specs.Lines.{lines_of, put_before, without_return}
use Rattle.ap_io.specs.declared.scale.Scale.{Scale}
use Rattle.ap_io.specs.declared.scale.Scale.TheVariants.{One, Ten, Hundred}
use Rattle.ap_io.specs.declared.figure.Figure.{Figure}
use Rattle.ap_io.specs.declared.fault.LineFault.{LineFault}
use Rattle.ap_io.specs.declared.fault.LineFault.TheVariants.{BadLine, BadLayer, BadTransform}
use Rattle.ap_io.specs.declared.limits.TheConstants.{MOST_NAME_BYTES, MOST_COORDINATE}
use Rattle.ap_io.specs.Fields.{at, is_text_byte, size_of, has_minus, signed, factor, reach, coordinate_of, number_of, is_number, is_width, is_index, is_identifier, is_label, is_in_word, lower, word_of, behind_word, bit_digits, label_of}
use Rattle.ap_io.specs.Words.{layer_of, side_of, direction_of, transform_of}
use Rattle.ap_io.specs.LineFaults.{is_along, is_head, head_fault, has_letter, long_name, far_coordinate, limit_fault, letter_of, fields_behind, is_blank_line, is_taken, names_on, item_fault, fault_by, segment_fault, connector_fault, via_fault, instance_fault, reference_fault, is_segment, is_connector, is_via, is_instance, is_reference}
use Rattle.ap_io.specs.Items.{IsSegment, IsConnector, IsVia, IsInstance, IsReference, IsItem}
use Rattle.ap_io.specs.ApText.{IsNear, IsShort, IsShortLabel, IsItemWithin, AreItems, ends, blank, next, IsApText}
use Rattle.ap_io.specs.Within.{IsWide, IsWithin}
use Rattle.ap_io.proofs.Digits.{both_true}
use Rattle.ap_io.proofs.Near.{near_first}
use Rattle.ap_io.proofs.Parts.{not_blank, box_near}

-- ---- coordinates

pub size_signed : (minus : Bool) (n : ℕ) → nat_abs (signed minus n) ≡ n
size_signed false n = refl
size_signed true zero = refl
size_signed true (suc n) = refl

tested_near : (n : ℕ) → nat_lt MOST_COORDINATE n ≡ false → n ≤ MOST_COORDINATE
tested_near n h = grind (arith, nat_tests)

pub near_field : (k : Scale) (f : List (List ℕ)) (c i : ℕ) (z : ℤ) → far_coordinate k (take c f) ≡ None → i < c → z ≡ coordinate_of k (at f i) → IsNear z
near_field k f c i z none less is =
    let n = reach k (at f i) in
    let same : nat_abs z ≡ n = ap nat_abs is ∙ size_signed (has_minus (at f i)) n in
    omega (arith, same, tested_near n (near_first k f c i none less))

positive_signed : (minus : Bool) (n m : ℕ) → not minus && nat_lt 0 n ≡ true → pos 1 ≤ℤ signed minus (n * suc m)
positive_signed true n m h = absurd (cc)
positive_signed false zero m h = absurd (cc)
positive_signed false (suc n) m h = omega (arith, ints)

scaled : (k : Scale) (minus : Bool) (n : ℕ) → not minus && nat_lt 0 n ≡ true → pos 1 ≤ℤ signed minus (n * factor k)
scaled One minus n h = positive_signed minus n 99 h
scaled Ten minus n h = positive_signed minus n 9 h
scaled Hundred minus n h = positive_signed minus n 0 h

-- a width that is read is at least 1
pub wide_field : (k : Scale) (text : List ℕ) (z : ℤ) → is_width text ≡ true → z ≡ coordinate_of k text → pos 1 ≤ℤ z
wide_field k text z width is =
    let at_least : pos 1 ≤ℤ coordinate_of k text = scaled k (has_minus text) (size_of text) (both_true (is_number text) (not (has_minus text) && nat_lt 0 (size_of text)) width).1 in
    let P : ℤ → Type 0 = λ n. pos 1 ≤ℤ n in subst P (sym is) at_least

-- ---- what a line without a fault has

pub fault_of : (c : ℕ) (k : Scale) (taken : Bool) (line : List ℕ) → is_blank_line line ≡ false → item_fault k taken line ≡ None
    → letter_of line ≡ Some c → fault_by (Some c) k taken line ≡ None
fault_of c k taken line some clean letter = sym (ap (λ (o : Option ℕ). fault_by o k taken line) letter) ∙ not_blank taken k line some clean

limits : (long far : Option ℕ) → limit_fault long far ≡ None → (long ≡ None) × (far ≡ None)
limits (Some n) far h = absurd (cc)
limits None (Some n) h = absurd (cc)
limits None None h = (refl, refl)

pub one_test : (form : Bool) (limit : Option LineFault) → (if not form then Some BadLine else limit) ≡ None → (form ≡ true) × (limit ≡ None)
one_test true limit h = (refl, h)
one_test false limit h = absurd (cc)

two_tests : (form missing : Bool) (other : LineFault) (limit : Option LineFault)
    → (if not form then Some BadLine else if missing then Some other else limit) ≡ None → (form ≡ true) × (limit ≡ None)
two_tests true true other limit h = absurd (cc)
two_tests true false other limit h = (refl, h)
two_tests false missing other limit h = absurd (cc)

pub segment_clean : (k : Scale) (f : List (List ℕ)) → segment_fault k f ≡ None
    → (is_segment f ≡ true) × (long_name (at f 5) ≡ None) × (far_coordinate k (take 5 f) ≡ None)
segment_clean k f h =
    let both = two_tests (is_segment f) (is_none (layer_of (at f 7))) BadLayer (limit_fault (long_name (at f 5)) (far_coordinate k (take 5 f))) h in
    let near = limits (long_name (at f 5)) (far_coordinate k (take 5 f)) both.1 in (both.0, near.0, near.1)

pub connector_clean : (k : Scale) (f : List (List ℕ)) → connector_fault k f ≡ None
    → (is_connector f ≡ true) × (long_name (at f 3) ≡ None) × (far_coordinate k (take 3 f) ≡ None)
connector_clean k f h =
    let both = two_tests (is_connector f) (is_none (layer_of (at f 6))) BadLayer (limit_fault (long_name (at f 3)) (far_coordinate k (take 3 f))) h in
    let near = limits (long_name (at f 3)) (far_coordinate k (take 3 f)) both.1 in (both.0, near.0, near.1)

pub via_clean : (k : Scale) (f : List (List ℕ)) → via_fault k f ≡ None → (is_via f ≡ true) × (long_name (at f 3) ≡ None) × (far_coordinate k (take 2 f) ≡ None)
via_clean k f h =
    let both = one_test (is_via f) (limit_fault (long_name (at f 3)) (far_coordinate k (take 2 f))) h in
    let near = limits (long_name (at f 3)) (far_coordinate k (take 2 f)) both.1 in (both.0, near.0, near.1)

pub instance_clean : (k : Scale) (taken : Bool) (f : List (List ℕ)) → instance_fault k taken f ≡ None
    → (is_instance taken f ≡ true) × (option_or (long_name (at f 2)) (long_name (at f 3)) ≡ None) × (far_coordinate k (take 2 f) ≡ None)
instance_clean k taken f h =
    let both = two_tests (is_instance taken f) (is_none (transform_of (at f 4))) BadTransform (limit_fault (option_or (long_name (at f 2)) (long_name (at f 3))) (far_coordinate k (take 2 f))) h in
    let near = limits (option_or (long_name (at f 2)) (long_name (at f 3))) (far_coordinate k (take 2 f)) both.1 in (both.0, near.0, near.1)

pub reference_clean : (k : Scale) (f : List (List ℕ)) → reference_fault k f ≡ None
    → (is_reference f ≡ true) × (long_name (at f 2) ≡ None) × (far_coordinate k (take 2 f) ≡ None)
reference_clean k f h =
    let both = one_test (is_reference f) (limit_fault (long_name (at f 2)) (far_coordinate k (take 2 f))) h in
    let near = limits (long_name (at f 2)) (far_coordinate k (take 2 f)) both.1 in (both.0, near.0, near.1)

neither : (a b : Option ℕ) → option_or a b ≡ None → (a ≡ None) × (b ≡ None)
neither None b h = (refl, h)
neither (Some n) b h = absurd (cc)

-- ---- the parts of a form

pub connector_form : (f : List (List ℕ)) → is_connector f ≡ true → (is_width (at f 2) ≡ true) × (is_label (at f 3) ≡ true) × (is_index (at f 4) ≡ true)
connector_form f h =
    let five = both_true ((length f == 7) && list_all is_number (take 2 f) && is_width (at f 2) && is_label (at f 3) && is_index (at f 4)) (is_some (side_of (at f 5))) h in
    let four = both_true ((length f == 7) && list_all is_number (take 2 f) && is_width (at f 2) && is_label (at f 3)) (is_index (at f 4)) five.0 in
    let three = both_true ((length f == 7) && list_all is_number (take 2 f) && is_width (at f 2)) (is_label (at f 3)) four.0 in
    let two = both_true ((length f == 7) && list_all is_number (take 2 f)) (is_width (at f 2)) three.0 in
    (two.1, three.1, four.1)

pub segment_form : (f : List (List ℕ)) → is_segment f ≡ true
    → (is_width (at f 4) ≡ true) × (is_label (at f 5) ≡ true) × (is_along (direction_of (at f 6)) f ≡ true)
segment_form f h =
    let four = both_true ((length f == 8) && list_all is_number (take 4 f) && is_width (at f 4) && is_label (at f 5)) (is_along (direction_of (at f 6)) f) h in
    let three = both_true ((length f == 8) && list_all is_number (take 4 f) && is_width (at f 4)) (is_label (at f 5)) four.0 in
    let two = both_true ((length f == 8) && list_all is_number (take 4 f)) (is_width (at f 4)) three.0 in
    (two.1, three.1, four.1)

pub instance_form : (taken : Bool) (f : List (List ℕ)) → is_instance taken f ≡ true
    → (is_identifier (at f 2) ≡ true) × (is_identifier (at f 3) ≡ true) × (not taken ≡ true)
instance_form taken f h =
    let four = both_true ((length f == 5) && list_all is_number (take 2 f) && is_identifier (at f 2) && is_identifier (at f 3)) (not taken) h in
    let three = both_true ((length f == 5) && list_all is_number (take 2 f) && is_identifier (at f 2)) (is_identifier (at f 3)) four.0 in
    let two = both_true ((length f == 5) && list_all is_number (take 2 f)) (is_identifier (at f 2)) three.0 in
    (two.1, three.1, four.1)

pub reference_form : (f : List (List ℕ)) → is_reference f ≡ true → (is_identifier (at f 2) ≡ true) × (list_all is_text_byte (at f 3) ≡ true)
reference_form f h =
    let three = both_true ((length f == 4) && list_all is_number (take 2 f) && is_identifier (at f 2)) (list_all is_text_byte (at f 3)) h in
    let two = both_true ((length f == 4) && list_all is_number (take 2 f)) (is_identifier (at f 2)) three.0 in
    (two.1, three.1)

-- ---- names

short_prefix : (n : ℕ) → (if nat_lt MOST_NAME_BYTES n then Some n else None) ≡ None → n ≤ MOST_NAME_BYTES
short_prefix n h = by_case (nat_lt MOST_NAME_BYTES n) refl h where
  by_case : (b : Bool) → nat_lt MOST_NAME_BYTES n ≡ b → (if b then Some n else None) ≡ None → n ≤ MOST_NAME_BYTES
  by_case true is none = absurd (cc)
  by_case false is none = grind (arith, nat_tests)

not_long : (text : List ℕ) → long_name text ≡ None → prefix_len is_in_word text ≤ MOST_NAME_BYTES
unfolding long_name
not_long text h = short_prefix (prefix_len is_in_word text) h

short_label : (text : List ℕ) → long_name text ≡ None → IsShortLabel (label_of text)
unfolding label_of
short_label text none = by_star (bytes_eq text (codes "*")) where
  by_star : (b : Bool) → IsShortLabel (if b then None else Some (record { text = lower (word_of text); bit = option_map value_of (bit_digits (behind_word text)) }))
  by_star true = tt
  by_star false = omega (arith, length-map (word_of text) to_ascii_lowercase, length-prefix_len is_in_word text, not_long text none)

label_kept : (name : Option Name) (text : List ℕ) → long_name text ≡ None → name ≡ label_of text → IsShortLabel name
label_kept name text none is = subst IsShortLabel (sym is) (short_label text none)

all_prefix : (p : ℕ → Bool) (xs : List ℕ) → list_all p xs ≡ true → prefix_len p xs ≡ length xs
all_prefix p [] all = refl
all_prefix p (x ∷ xs) all =
    let both = both_true (p x) (list_all p xs) all in
    let one_more : 1 + prefix_len p xs ≡ suc (length xs) = omega (arith, all_prefix p xs both.1) in
    ap (λ (b : Bool). cond b (1 + prefix_len p xs) 0) both.0 ∙ one_more

short_word : (word text : List ℕ) → is_identifier text ≡ true → long_name text ≡ None → word ≡ lower text → IsShort word
short_word word text form none is =
    let whole = all_prefix is_in_word text (both_true (is_ascii_alphabetic (slice_index text 0)) (list_all is_in_word text) form).1 in
    let same : length word ≡ length text = ap length is ∙ length-map text to_ascii_lowercase in
    omega (arith, whole, same, not_long text none)

via_name : (b : Bool) (name : Option Name) (text : List ℕ) → long_name text ≡ None → name ≡ (if b then None else label_of text) → IsShortLabel name
via_name true name text none is = subst IsShortLabel (sym is) tt
via_name false name text none is = label_kept name text none is

small_index : (text : List ℕ) (z : ℤ) → is_index text ≡ true → z ≡ number_of text → nat_abs z < 2 ^ 63
small_index text z index is =
    let same : nat_abs z ≡ size_of text = ap nat_abs is ∙ size_signed (has_minus text) (size_of text) in
    let less = ltb-true (size_of text) (2 ^ 63) (both_true (is_number text) (nat_lt (size_of text) (2 ^ 63)) index).1 in
    omega (arith, same, less)

-- ---- items

segment_within : (k : Scale) (f : List (List ℕ)) (s : Segment) → segment_fault k f ≡ None → IsSegment k f s → IsItemWithin (item.Segment s)
segment_within k f s h is =
    let clean = segment_clean k f h in (
      near_field k f 5 0 s.x1 clean.2 (omega arith) is.x1,
      near_field k f 5 1 s.y1 clean.2 (omega arith) is.y1,
      near_field k f 5 2 s.x2 clean.2 (omega arith) is.x2,
      near_field k f 5 3 s.y2 clean.2 (omega arith) is.y2,
      near_field k f 5 4 s.width clean.2 (omega arith) is.width,
      label_kept s.name (at f 5) clean.1 is.name,
    )

connector_within : (k : Scale) (f : List (List ℕ)) (c : Connector) → connector_fault k f ≡ None → IsConnector k f c → IsItemWithin (item.Connector c)
connector_within k f c h is =
    let clean = connector_clean k f h in (
      near_field k f 3 0 c.x clean.2 (omega arith) is.x,
      near_field k f 3 1 c.y clean.2 (omega arith) is.y,
      near_field k f 3 2 c.width clean.2 (omega arith) is.width,
      label_kept c.name (at f 3) clean.1 is.name,
      small_index (at f 4) c.index (connector_form f clean.0).2 is.index,
    )

via_within : (k : Scale) (f : List (List ℕ)) (v : Via) → via_fault k f ≡ None → IsVia k f v → IsItemWithin (item.Via v)
via_within k f v h is =
    let clean = via_clean k f h in (
      near_field k f 2 0 v.x clean.2 (omega arith) is.x,
      near_field k f 2 1 v.y clean.2 (omega arith) is.y,
      via_name (length f == 3) v.name (at f 3) clean.1 is.name,
    )

instance_within : (k : Scale) (taken : Bool) (f : List (List ℕ)) (i : Instance) → instance_fault k taken f ≡ None → IsInstance k f i
    → IsItemWithin (item.Instance i)
instance_within k taken f i h is =
    let clean = instance_clean k taken f h in
    let form = instance_form taken f clean.0 in
    let long = neither (long_name (at f 2)) (long_name (at f 3)) clean.1 in (
      near_field k f 2 0 i.x clean.2 (omega arith) is.x,
      near_field k f 2 1 i.y clean.2 (omega arith) is.y,
      short_word i.model (at f 2) form.0 long.0 is.model,
      short_word i.name (at f 3) form.1 long.1 is.name,
    )

reference_within : (k : Scale) (f : List (List ℕ)) (r : Reference) → reference_fault k f ≡ None → IsReference k f r → IsItemWithin (item.Reference r)
reference_within k f r h is =
    let clean = reference_clean k f h in (
      near_field k f 2 0 r.x clean.2 (omega arith) is.x,
      near_field k f 2 1 r.y clean.2 (omega arith) is.y,
      short_word r.word (at f 2) (reference_form f clean.0).0 clean.1 is.word,
    )

item_within : (k : Scale) (taken : Bool) (line : List ℕ) (one : Item) → is_blank_line line ≡ false → item_fault k taken line ≡ None
    → IsItem k line one → IsItemWithin one
item_within k taken line (item.Segment s) some clean is = segment_within k (fields_behind line) s (fault_of 83 k taken line some clean is.0) is.1
item_within k taken line (item.Connector c) some clean is = connector_within k (fields_behind line) c (fault_of 67 k taken line some clean is.0) is.1
item_within k taken line (item.Via v) some clean is = via_within k (fields_behind line) v (fault_of 86 k taken line some clean is.0) is.1
item_within k taken line (item.Instance i) some clean is = instance_within k taken (fields_behind line) i (fault_of 73 k taken line some clean is.0) is.1
item_within k taken line (item.Reference r) some clean is = reference_within k (fields_behind line) r (fault_of 82 k taken line some clean is.0) is.1
item_within k taken line (item.Remark text) some clean is = tt

item_wide : (k : Scale) (taken : Bool) (line : List ℕ) (one : Item) → is_blank_line line ≡ false → item_fault k taken line ≡ None
    → IsItem k line one → IsWide one
item_wide k taken line (item.Segment s) some clean is =
    let f = fields_behind line in
    wide_field k (at f 4) s.width (segment_form f (segment_clean k f (fault_of 83 k taken line some clean is.0)).0).0 is.1.width
item_wide k taken line (item.Connector c) some clean is =
    let f = fields_behind line in
    wide_field k (at f 2) c.width (connector_form f (connector_clean k f (fault_of 67 k taken line some clean is.0)).0).0 is.1.width
item_wide k taken line (item.Via v) some clean is = tt
item_wide k taken line (item.Instance i) some clean is = tt
item_wide k taken line (item.Reference r) some clean is = tt
item_wide k taken line (item.Remark text) some clean is = tt

-- what each line without a fault gives holds of all items
pub all_items : (P : Item → Type 0) (k : Scale)
    → ((taken : Bool) (line : List ℕ) (one : Item) → is_blank_line line ≡ false → item_fault k taken line ≡ None → IsItem k line one → P one)
    → (names lines : List (List ℕ)) (items : List Item) → AreItems k names lines items → All P items
all_items P k each names [] items none = elim none [ ]
all_items P k each names (line ∷ rest) items (ends over blanks) = All-nil P
all_items P k each names (line ∷ rest) items (blank is more) = all_items P k each names rest items more
all_items P k each names (line ∷ rest) (one ∷ items) (next some clean is more) =
    All-cons P one items (each (is_taken names line) line one some clean is) (all_items P k each (names ++ names_on line) rest items more)

-- all items of a figure that is read are within the limits
pub items_within : (bytes : List ℕ) (f : Figure) → IsApText bytes f → All IsItemWithin f.items
items_within bytes f is = all_items IsItemWithin is.form.scale (item_within is.form.scale) [] is.form.others f.items is.form.items

-- and its wires and pins have widths of at least 1
pub widths_positive : (bytes : List ℕ) (f : Figure) → IsApText bytes f → All IsWide f.items
widths_positive bytes f is = all_items IsWide is.form.scale (item_wide is.form.scale) [] is.form.others f.items is.form.items

-- ---- the box

-- the edges of the box are within the limits
pub box_ready : (bytes : List ℕ) (f : Figure) → IsApText bytes f → IsNear f.bounds.x1 × IsNear f.bounds.y1 × IsNear f.bounds.x2 × IsNear f.bounds.y2
box_ready bytes f is =
    let k = is.form.scale in
    let fields = fields_behind is.form.box in
    let near = box_near k is.form.box is.form.right_box in (
      near_field k fields 4 0 f.bounds.x1 near (omega arith) is.form.bounds.x1,
      near_field k fields 4 1 f.bounds.y1 near (omega arith) is.form.bounds.y1,
      near_field k fields 4 2 f.bounds.x2 near (omega arith) is.form.bounds.x2,
      near_field k fields 4 3 f.bounds.y2 near (omega arith) is.form.bounds.y2,
    )

-- ---- the name

pub head_clean : (letter : Bool) (f : List (List ℕ)) → (if letter then head_fault f else Some BadLine) ≡ None → (is_head f ≡ true) × (long_name (at f 0) ≡ None)
head_clean false f h = absurd (cc)
head_clean true f h =
    let both = one_test (is_head f) (limit_fault (long_name (at f 0)) None) h in (both.0, (limits (long_name (at f 0)) None both.1).0)

-- the name of a figure that is read is within the limit
pub name_short : (bytes : List ℕ) (f : Figure) → IsApText bytes f → IsShortLabel f.name
name_short bytes f is =
    let fields = fields_behind is.form.head in
    label_kept f.name (at fields 0) (head_clean (has_letter 72 is.form.head) fields is.form.right_head).1 is.form.name

-- ---- how many there are

put_length : (b : ℕ) (lines : List (List ℕ)) → length (put_before b lines) ≤ suc (length lines)
put_length b [] = omega arith
put_length b (line ∷ lines) = omega arith

one_byte : (e : Bool) (b : ℕ) (lines : List (List ℕ)) → length (if e then [] ∷ lines else put_before b lines) ≤ suc (length lines)
one_byte true b lines = omega arith
one_byte false b lines = put_length b lines

few_lines : (bytes : List ℕ) → length (lines_of bytes) ≤ length bytes
unfolding lines_of
few_lines [] = omega arith
few_lines (b ∷ bs) = omega (arith, one_byte (b == 10) b (lines_of bs), few_lines bs)

fewer_items : (k : Scale) (names lines : List (List ℕ)) (items : List Item) → AreItems k names lines items → length items < length lines
fewer_items k names [] items none = elim none [ ]
fewer_items k names (line ∷ rest) items (ends over blanks) = omega arith
fewer_items k names (line ∷ rest) items (blank is more) = omega (arith, fewer_items k names rest items more)
fewer_items k names (line ∷ rest) (one ∷ items) (next some clean is more) = omega (arith, fewer_items k (names ++ names_on line) rest items more)

-- there are fewer items than bytes
pub few_items : (bytes : List ℕ) (f : Figure) → IsApText bytes f → length f.items < length bytes
few_items bytes f is =
    let all : length (lines_of bytes) ≡ suc (suc (suc (length is.form.others))) = sym (length-map (lines_of bytes) without_return) ∙ ap length is.form.lines in
    omega (arith, all, few_lines bytes, fewer_items is.form.scale [] is.form.others f.items is.form.items)

-- a figure that is read is within the limits
pub figure_within : (bytes : List ℕ) (f : Figure) → IsApText bytes f → IsWithin f
figure_within bytes f is =
    let box = box_ready bytes f is in
    record { name = name_short bytes f is; x1 = box.0; y1 = box.1; x2 = box.2; y2 = box.3; items = items_within bytes f is }
