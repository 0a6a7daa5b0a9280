-- A figure that is read is one that the format can hold.
use Rattle.std.proofs.Common.{◌≡◌, ℕ, suc, zero, ◌+◌, ◌*◌, ◌^◌, ◌<◌, ◌≤◌, Bool, true, false, not, ◌==◌, ◌&&◌, ◌||◌, List, [], ◌∷◌, ◌++◌, length, take, map, bytes_eq, codes, refl, sym, ap, ◌∙◌, arith, subst, mul-le-mul_right, ◌⊎◌, inl, inr, Option, None, Some, if◌then◌else◌}
use Rattle.std.specs.Prelude.{ℤ, ◌≤ℤ◌, ◌≢◌, nat_lt, nat_eq, slice_index, slice_index_or, cond, All, AllPairs, IfSome, IsTrue}
use Rattle.std.specs.List.{AllPass, list_all, list_any, prefix_len, starts_with}
use Rattle.std.specs.Option.{is_some, option_map, unwrap_or}
use Rattle.std.specs.Char.{is_ascii_alphabetic, is_ascii_digit, to_ascii_lowercase}
use Rattle.std.specs.Ordering.{int_cmp, is_eq, is_le}
use Rattle.std.specs.declared.cmp.Ordering.{Ordering}
use Rattle.std.specs.declared.cmp.Ordering.TheVariants.{Less, Equal, Greater}
use Rattle.std.proofs.lemmas.Cmp.{int_ranked}
use Rattle.std.proofs.lemmas.Int.{ints}
use Rattle.std.proofs.lemmas.Bool.{ltb-true}
use Rattle.std.proofs.lemmas.Bool.Decides.{nat_tests}
use Rattle.std.proofs.lemmas.List.Elements.{All-nil, All-cons}
use Rattle.std.proofs.lemmas.List.Kept.{AllPairs-cons}
use Rattle.std.proofs.lemmas.List.Folds.{list_any-append}
use Rattle.std.proofs.lemmas.List.Sums.{AllPass-from_list_all}
use Rattle.std.proofs.lemmas.Slice.Eq.{bytes_eq-Decides}
use Rattle.vlsi_base.specs.Number.{value_of}
use Rattle.vlsi_base.specs.declared.name.Name.{Name}
use Rattle.sym_geom.specs.Rect.{IsRect}
use Rattle.sym_geom.specs.declared.rect.Rect.{Rect}
use Rattle.sym_geom.specs.declared.item.Direction.{Direction}
use Rattle.sym_geom.specs.declared.item.Direction.TheVariants.{Up, Down, Left, Right}
use Rattle.sym_geom.specs.declared.item.Contact.TheVariants.{Via1, Via2, Via3, Via4, Via5, Other}
use Rattle.sym_geom.specs.declared.item.Segment.{Segment}
use Rattle.sym_geom.specs.declared.item.Connector.{Connector}
use Rattle.sym_geom.specs.declared.item.Via.{Via}
use Rattle.sym_geom.specs.declared.item.Instance.{Instance}
use Rattle.sym_geom.specs.declared.item.Reference.{Reference}
use Rattle.sym_geom.specs.declared.item.Item.{Item}
use Rattle.sym_geom.specs.declared.item.Item.TheVariants as item
use Rattle.vlsi_base.specs.Lines.{put_before}
use Rattle.ap_io.specs.declared.scale.Scale.{Scale}
use Rattle.ap_io.specs.declared.figure.Figure.{Figure}
use Rattle.ap_io.specs.declared.fault.LineFault.TheVariants.{BadLine}
use Rattle.ap_io.specs.Spelling.{contact_text}
use Rattle.ap_io.specs.Fields.{at, fields_of, is_in_field, is_text_byte, size_of, has_minus, signed, factor, coordinate_of, number_of, is_number, is_digits, is_identifier, is_label, is_in_word, is_bit_of, lower, word_of, behind_word, bit_digits, label_of}
use Rattle.ap_io.specs.Words.{is_contact, contact_of, joining_contact_of, scale_of}
use Rattle.ap_io.specs.LineFaults.{is_letter as has_code, limit_fault, far_coordinate, has_letter, behind_letter, fields_behind, name_on, names_on, is_taken, is_blank_line, item_fault, segment_fault, connector_fault, via_fault, instance_fault, reference_fault, remark_fault, is_along, is_head, is_box, box_fault, box_line_fault}
use Rattle.ap_io.specs.Items.{IsSegment, IsConnector, IsVia, IsInstance, IsReference, IsBox, IsItem}
use Rattle.ap_io.specs.ApText.{is_letter, is_word_byte, IsWord, IsLabel, RunsAlong, is_field_byte, IsContact, IsLine, instance_names, IsFigure, AreItems, ends, blank, next, IsApText}
use Rattle.ap_io.specs.Laws.{ReadIsAFigure}
use Rattle.ap_io.proofs.Digits.{both_true}
use Rattle.ap_io.proofs.Within.{wide_field, fault_of, one_test, segment_clean, connector_clean, via_clean, instance_clean, reference_clean, head_clean, segment_form, connector_form, instance_form, reference_form, all_items, figure_within, few_items}

-- ---- numbers at scale 100

signed_order : (a b : Bool) (n m c : ℕ) → signed a n ≤ℤ signed b m → signed a (n * c) ≤ℤ signed b (m * c)
signed_order false false n m c h = let less : n ≤ m = omega (arith, ints, h) in omega (arith, ints, mul-le-mul_right c less)
signed_order false true n m c h =
    let none : n ≤ 0 = omega (arith, ints, h) in
    let other : m ≤ 0 = omega (arith, ints, h) in
    omega (arith, ints, mul-le-mul_right c none, mul-le-mul_right c other)
signed_order true false n m c h = omega (arith, ints)
signed_order true true n m c h = let less : m ≤ n = omega (arith, ints, h) in omega (arith, ints, mul-le-mul_right c less)

in_order : (k : Scale) (s t : List ℕ) → number_of s ≤ℤ number_of t → coordinate_of k s ≤ℤ coordinate_of k t
in_order k s t h = signed_order (has_minus s) (has_minus t) (size_of s) (size_of t) (factor k) h

antisymmetric : (a b : ℤ) → a ≤ℤ b → b ≤ℤ a → a ≡ b
antisymmetric a b h more = omega (arith, ints, h, more)

same_order : (a b : ℤ) → a ≡ b → a ≤ℤ b
same_order a b h = omega (arith, ints, h)

same_scaled : (k : Scale) (s t : List ℕ) → number_of s ≡ number_of t → coordinate_of k s ≡ coordinate_of k t
same_scaled k s t h =
    antisymmetric (coordinate_of k s) (coordinate_of k t) (in_order k s t (same_order (number_of s) (number_of t) h))
    (in_order k t s (same_order (number_of t) (number_of s) (sym h)))

equal_tested : (a b : ℤ) (o : Ordering) → o ≡ int_cmp a b → is_eq o ≡ true → a ≡ b
equal_tested a b Less is h = absurd (cc)
equal_tested a b Equal is h = int_ranked a b Equal is
equal_tested a b Greater is h = absurd (cc)

order_tested : (a b : ℤ) (o : Ordering) → o ≡ int_cmp a b → is_le o ≡ true → a ≤ℤ b
order_tested a b Less is h = let less = int_ranked a b Less is in omega (arith, ints, less)
order_tested a b Equal is h = same_order a b (int_ranked a b Equal is)
order_tested a b Greater is h = absurd (cc)

equal_fields : (k : Scale) (s t : List ℕ) → is_eq (int_cmp (number_of s) (number_of t)) ≡ true → coordinate_of k s ≡ coordinate_of k t
equal_fields k s t h = same_scaled k s t (equal_tested (number_of s) (number_of t) (int_cmp (number_of s) (number_of t)) refl h)

ordered_fields : (k : Scale) (s t : List ℕ) (x y : ℤ) → is_le (int_cmp (number_of s) (number_of t)) ≡ true → x ≡ coordinate_of k s
    → y ≡ coordinate_of k t → x ≤ℤ y
ordered_fields k s t x y h is also =
    let low = in_order k s t (order_tested (number_of s) (number_of t) (int_cmp (number_of s) (number_of t)) refl h) in
    omega (arith, ints, low, is, also)

runs : (k : Scale) (f : List (List ℕ)) (s : Segment) (d : Direction) → is_along (Some d) f ≡ true → IsSegment k f s → RunsAlong d s
runs k f s Up h is = is.x1 ∙ equal_fields k (at f 0) (at f 2) h ∙ sym is.x2
runs k f s Down h is = is.x1 ∙ equal_fields k (at f 0) (at f 2) h ∙ sym is.x2
runs k f s Left h is = is.y1 ∙ equal_fields k (at f 1) (at f 3) h ∙ sym is.y2
runs k f s Right h is = is.y1 ∙ equal_fields k (at f 1) (at f 3) h ∙ sym is.y2

-- ---- names

letter_lowered : (b : ℕ) → is_ascii_alphabetic b ≡ true → is_letter (to_ascii_lowercase b) ≡ true
letter_lowered b h = by_low (nat_lt b 65) (nat_lt b 91) refl refl where
  by_low : (low high : Bool) → nat_lt b 65 ≡ low → nat_lt b 91 ≡ high → is_letter (cond low b (cond high (b + 32) b)) ≡ true
  by_low true high is also = grind (arith, nat_tests)
  by_low false true is also = grind (arith, nat_tests)
  by_low false false is also = grind (arith, nat_tests)

byte_lowered : (b : ℕ) → is_in_word b ≡ true → is_word_byte (to_ascii_lowercase b) ≡ true
byte_lowered b h = by_low (nat_lt b 65) (nat_lt b 91) refl refl where
  by_low : (low high : Bool) → nat_lt b 65 ≡ low → nat_lt b 91 ≡ high → is_word_byte (cond low b (cond high (b + 32) b)) ≡ true
  by_low true high is also = grind (arith, nat_tests)
  by_low false true is also = grind (arith, nat_tests)
  by_low false false is also = grind (arith, nat_tests)

both_hold : (a b : Bool) → a ≡ true → b ≡ true → a && b ≡ true
both_hold a b h more = cc

lowered : (xs : List ℕ) → list_all is_in_word xs ≡ true → list_all is_word_byte (map to_ascii_lowercase xs) ≡ true
lowered [] all = refl
lowered (x ∷ xs) all =
    let both = both_true (is_in_word x) (list_all is_in_word xs) all in
    both_hold (is_word_byte (to_ascii_lowercase x)) (list_all is_word_byte (map to_ascii_lowercase xs)) (byte_lowered x both.0) (lowered xs both.1)

no_letter : is_ascii_alphabetic 0 ≡ false
no_letter = refl

-- an identifier, in lower case, is a word
word_read : (text : List ℕ) → is_identifier text ≡ true → IsWord (lower text)
word_read [] h = absurd (cc)
word_read (b ∷ bs) h =
    let both = both_true (is_ascii_alphabetic b) (list_all is_in_word (b ∷ bs)) h in
    let rest = both_true (is_in_word b) (list_all is_in_word bs) both.1 in
    (letter_lowered b both.0, AllPass-from_list_all is_word_byte (lower bs) (lowered bs rest.1))

prefix_passes : (p : ℕ → Bool) (xs : List ℕ) → list_all p (take (prefix_len p xs) xs) ≡ true
prefix_passes p [] = refl
prefix_passes p (x ∷ xs) = by_test (p x) refl (prefix_passes p xs) where
  by_test : (t : Bool) → p x ≡ t → list_all p (take (prefix_len p xs) xs) ≡ true → list_all p (take (cond t (1 + prefix_len p xs) 0) (x ∷ xs)) ≡ true
  by_test true is rest =
      let one_more : 1 + prefix_len p xs ≡ suc (prefix_len p xs) = omega arith in
      ap (λ n. list_all p (take n (x ∷ xs))) one_more ∙ both_hold (p x) (list_all p (take (prefix_len p xs) xs)) is rest
  by_test false is rest = refl

in_word : (a b c : Bool) → a ≡ true → a || b || c ≡ true
in_word true b c h = refl
in_word false b c h = absurd (cc)

-- the identifier that a name begins with, in lower case, is a word
label_word : (text : List ℕ) → is_ascii_alphabetic (slice_index text 0) ≡ true → IsWord (lower (word_of text))
label_word [] h = absurd (cc)
label_word (b ∷ bs) h =
    let one_more : 1 + prefix_len is_in_word bs ≡ suc (prefix_len is_in_word bs) = omega arith in
    let same : word_of (b ∷ bs) ≡ b ∷ word_of bs =
    ap (λ (t : Bool). take (cond t (1 + prefix_len is_in_word bs) 0) (b ∷ bs)) (in_word (is_ascii_alphabetic b) (is_ascii_digit b) (b == 95) h)
    ∙ ap (λ n. take n (b ∷ bs)) one_more in
    let P : List ℕ → Type 0 = λ w. IsWord (lower w) in
    subst P (sym same) (letter_lowered b h, AllPass-from_list_all is_word_byte (lower (word_of bs)) (lowered (word_of bs) (prefix_passes is_in_word bs)))

small_bit : (digits : Option (List ℕ)) (rest : List ℕ) → is_bit_of digits rest ≡ true → IfSome (option_map value_of digits) (λ k. k < 2 ^ 32)
small_bit None rest h = tt
small_bit (Some digits) rest h = ltb-true (value_of digits) (2 ^ 32) (both_true (is_digits digits) (nat_lt (value_of digits) (2 ^ 32)) h).1

label_read : (text : List ℕ) → is_label text ≡ true → IsLabel (label_of text)
unfolding label_of is_label
label_read text h = by_star (bytes_eq text (codes "*")) h where
  by_star : (b : Bool) → b || (is_ascii_alphabetic (slice_index text 0) && is_bit_of (bit_digits (behind_word text)) (behind_word text)) ≡ true
      → IsLabel (if b then None else Some (record { text = lower (word_of text); bit = option_map value_of (bit_digits (behind_word text)) }))
  by_star true form = tt
  by_star false form =
      let both = both_true (is_ascii_alphabetic (slice_index text 0)) (is_bit_of (bit_digits (behind_word text)) (behind_word text)) form in
      (label_word text both.0, small_bit (bit_digits (behind_word text)) (behind_word text) both.1)

label_named : (name : Option Name) (text : List ℕ) → is_label text ≡ true → name ≡ label_of text → IsLabel name
label_named name text form is = subst IsLabel (sym is) (label_read text form)

word_named : (word text : List ℕ) → is_identifier text ≡ true → word ≡ lower text → IsWord word
word_named word text form is = subst IsWord (sym is) (word_read text form)

-- ---- fields

put_bytes : (b : ℕ) (fields : List (List ℕ)) → is_in_field b ≡ true → ((i : ℕ) → list_all is_in_field (at fields i) ≡ true) → (i : ℕ)
    → list_all is_in_field (at (put_before b fields) i) ≡ true
put_bytes b [] no_comma each zero = both_hold (is_in_field b) true no_comma refl
put_bytes b [] no_comma each (suc i) = refl
put_bytes b (line ∷ lines) no_comma each zero = both_hold (is_in_field b) (list_all is_in_field line) no_comma (each 0)
put_bytes b (line ∷ lines) no_comma each (suc i) = each (suc i)

-- a field has no comma
field_bytes : (text : List ℕ) (i : ℕ) → list_all is_in_field (at (fields_of text) i) ≡ true
unfolding fields_of
field_bytes [] zero = refl
field_bytes [] (suc i) = refl
field_bytes (b ∷ bs) i = by_comma (b == 44) refl (field_bytes bs) i where
  by_comma : (e : Bool) → b == 44 ≡ e → ((n : ℕ) → list_all is_in_field (at (fields_of bs) n) ≡ true) → (n : ℕ)
      → list_all is_in_field (at (if e then [] ∷ fields_of bs else put_before b (fields_of bs)) n) ≡ true
  by_comma true is rest zero = refl
  by_comma true is rest (suc n) = rest n
  by_comma false is rest n = put_bytes b (fields_of bs) (ap not is) rest n

field_tested : (xs : List ℕ) → list_all is_in_field xs ≡ true → list_all is_text_byte xs ≡ true → list_all is_field_byte xs ≡ true
field_tested [] no_commas text = refl
field_tested (x ∷ xs) no_commas text =
    let one = both_true (is_in_field x) (list_all is_in_field xs) no_commas in
    let two = both_true (is_text_byte x) (list_all is_text_byte xs) text in
    both_hold (is_field_byte x) (list_all is_field_byte xs) (both_hold (is_in_field x) (is_text_byte x) one.0 two.0) (field_tested xs one.1 two.1)

field_passes : (text : List ℕ) (i : ℕ) → list_all is_text_byte (at (fields_of text) i) ≡ true → AllPass is_field_byte (at (fields_of text) i)
field_passes text i h = AllPass-from_list_all is_field_byte (at (fields_of text) i) (field_tested (at (fields_of text) i) (field_bytes text i) h)

-- ---- contacts

abbrev prefixed : List ℕ → Bool
prefixed word = starts_with nat_eq word (codes "CONT_") || starts_with nat_eq word (codes "C_X_")

contact_form : (word : List ℕ) → is_contact word ≡ true → (prefixed word ≡ true) × (list_all is_text_byte word ≡ true)
unfolding is_contact
contact_form word h = both_true (prefixed word) (list_all is_text_byte word) h

one_of : (a b : Bool) → a || b ≡ true → IsTrue a ⊎ IsTrue b
one_of true b h = inl refl
one_of false b h = inr h

differs : (word text : List ℕ) → bytes_eq word text ≡ false → word ≢ text
differs word text h same = let both : true ≡ false = sym ((bytes_eq-Decides word text).1 same) ∙ h in absurd (cc)

contact_read : (word : List ℕ) → is_contact word ≡ true → AllPass is_field_byte word → IsContact (contact_of word)
unfolding joining_contact_of
contact_read word form field =
    by_word (bytes_eq word (contact_text Via1)) (bytes_eq word (contact_text Via2)) (bytes_eq word (contact_text Via3)) (bytes_eq word (contact_text Via4))
    (bytes_eq word (contact_text Via5)) refl refl refl refl refl where
      by_word : (a b c d e : Bool) → bytes_eq word (contact_text Via1) ≡ a → bytes_eq word (contact_text Via2) ≡ b → bytes_eq word (contact_text Via3) ≡ c
          → bytes_eq word (contact_text Via4) ≡ d → bytes_eq word (contact_text Via5) ≡ e
          → IsContact (unwrap_or (cond a (Some Via1) (cond b (Some Via2) (cond c (Some Via3) (cond d (Some Via4) (cond e (Some Via5) None))))) (Other word))
      by_word true b c d e one two three four five = tt
      by_word false true c d e one two three four five = tt
      by_word false false true d e one two three four five = tt
      by_word false false false true e one two three four five = tt
      by_word false false false false true one two three four five = tt
      by_word false false false false false one two three four five = (
        one_of (starts_with nat_eq word (codes "CONT_")) (starts_with nat_eq word (codes "C_X_")) (contact_form word form).0,
        field,
        differs word (contact_text Via1) one,
        differs word (contact_text Via2) two,
        differs word (contact_text Via3) three,
        differs word (contact_text Via4) four,
        differs word (contact_text Via5) five,
      )

-- ---- items

segment_line : (k : Scale) (f : List (List ℕ)) (s : Segment) → segment_fault k f ≡ None → IsSegment k f s → IsLine (item.Segment s)
segment_line k f s h is =
    let form = segment_form f (segment_clean k f h).0 in
    let along : is_along (Some s.direction) f ≡ true = sym (ap (λ (o : Option Direction). is_along o f) is.direction) ∙ form.2 in
    (wide_field k (at f 4) s.width form.0 is.width, runs k f s s.direction along is, label_named s.name (at f 5) form.1 is.name)

connector_line : (k : Scale) (f : List (List ℕ)) (c : Connector) → connector_fault k f ≡ None → IsConnector k f c → IsLine (item.Connector c)
connector_line k f c h is =
    let form = connector_form f (connector_clean k f h).0 in
    (wide_field k (at f 2) c.width form.0 is.width, label_named c.name (at f 3) form.1 is.name)

via_label : (b four : Bool) (name : Option Name) (text : List ℕ) → b || (four && is_label text) ≡ true → name ≡ (if b then None else label_of text)
    → IsLabel name
via_label true four name text form is = subst IsLabel (sym is) tt
via_label false four name text form is = label_named name text (both_true four (is_label text) form).1 is

via_line : (k : Scale) (text : List ℕ) (v : Via) → via_fault k (fields_of text) ≡ None → IsVia k (fields_of text) v → IsLine (item.Via v)
via_line k text v h is =
    let f = fields_of text in
    let two = both_true ((length f == 3 || (length f == 4 && is_label (at f 3))) && list_all is_number (take 2 f)) (is_contact (at f 2)) (via_clean k f h).0 in
    let one = both_true (length f == 3 || (length f == 4 && is_label (at f 3))) (list_all is_number (take 2 f)) two.0 in (
      subst IsContact (sym is.contact) (contact_read (at f 2) two.1 (field_passes text 2 (contact_form (at f 2) two.1).1)),
      via_label (length f == 3) (length f == 4) v.name (at f 3) one.0 is.name,
    )

instance_line : (k : Scale) (taken : Bool) (f : List (List ℕ)) (i : Instance) → instance_fault k taken f ≡ None → IsInstance k f i → IsLine (item.Instance i)
instance_line k taken f i h is =
    let form = instance_form taken f (instance_clean k taken f h).0 in
    (word_named i.model (at f 2) form.0 is.model, word_named i.name (at f 3) form.1 is.name)

reference_line : (k : Scale) (text : List ℕ) (r : Reference) → reference_fault k (fields_of text) ≡ None → IsReference k (fields_of text) r
    → IsLine (item.Reference r)
reference_line k text r h is =
    let f = fields_of text in
    let form = reference_form f (reference_clean k f h).0 in
    (word_named r.word (at f 2) form.0 is.word, subst (AllPass is_field_byte) (sym is.name) (field_passes text 3 form.1))

remark_passes : (b : Bool) → (if b then None else Some BadLine) ≡ None → b ≡ true
remark_passes true h = refl
remark_passes false h = absurd (cc)

remark_line : (text remark : List ℕ) → remark_fault text ≡ None → remark ≡ text → IsLine (item.Remark remark)
remark_line text remark h is = subst (AllPass is_text_byte) (sym is) (AllPass-from_list_all is_text_byte text (remark_passes (list_all is_text_byte text) h))

item_line : (k : Scale) (taken : Bool) (line : List ℕ) (one : Item) → is_blank_line line ≡ false → item_fault k taken line ≡ None
    → IsItem k line one → IsLine one
item_line k taken line (item.Segment s) some clean is = segment_line k (fields_behind line) s (fault_of 83 k taken line some clean is.0) is.1
item_line k taken line (item.Connector c) some clean is = connector_line k (fields_behind line) c (fault_of 67 k taken line some clean is.0) is.1
item_line k taken line (item.Via v) some clean is = via_line k (behind_letter line) v (fault_of 86 k taken line some clean is.0) is.1
item_line k taken line (item.Instance i) some clean is = instance_line k taken (fields_behind line) i (fault_of 73 k taken line some clean is.0) is.1
item_line k taken line (item.Reference r) some clean is = reference_line k (behind_letter line) r (fault_of 82 k taken line some clean is.0) is.1
item_line k taken line (item.Remark text) some clean is = remark_line (behind_letter line) text (fault_of 66 k taken line some clean is.0) is.1

-- ---- names of instances

abbrev IsFree : List (List ℕ) → List ℕ → Type 0
IsFree names name = list_any (bytes_eq name) names ≡ false

neither_holds : (a b : Bool) → a || b ≡ false → (a ≡ false) × (b ≡ false)
neither_holds true b h = absurd (cc)
neither_holds false b h = (refl, h)

free_of_both : (names more : List (List ℕ)) (name : List ℕ) → IsFree (names ++ more) name → IsFree names name × IsFree more name
free_of_both names more name h =
    neither_holds (list_any (bytes_eq name) names) (list_any (bytes_eq name) more) (sym (list_any-append (bytes_eq name) names more) ∙ h)

untaken : (letter taken : Bool) → letter ≡ true → not (letter && taken) ≡ true → taken ≡ false
untaken letter true is h = absurd (cc)
untaken letter false is h = refl

one_name : (blank_line letter : Bool) (name : List ℕ) → blank_line ≡ false → letter ≡ true
    → (if blank_line then [] else if letter then name ∷ [] else []) ≡ name ∷ []
one_name false true name some is = refl
one_name true letter name some is = absurd (cc)
one_name false false name some is = absurd (cc)

weaker : (P Q : List ℕ → Type 0) → ((name : List ℕ) → P name → Q name) → (names : List (List ℕ)) → All P names → All Q names
weaker P Q so names all k d inside = so (slice_index_or names k d) (all k d inside)

no_pairs : AllPairs {X = List ℕ} (λ a b. a ≢ b) []
no_pairs i j d less inside = absurd (omega (arith, inside))

apart_from : (name other : List ℕ) → IsFree (name ∷ []) other → name ≢ other
apart_from name other free same =
    let tested : bytes_eq other name ≡ false = (neither_holds (bytes_eq other name) false free).0 in
    differs other name tested (sym same)

abbrev AreApart : List (List ℕ) → List Item → Type 0
AreApart names items = All (IsFree names) (instance_names items) × AllPairs (λ a b. a ≢ b) (instance_names items)

fewer_names : (names more : List (List ℕ)) (items : List Item) → AreApart (names ++ more) items → AreApart names items
fewer_names names more items both =
    (weaker (IsFree (names ++ more)) (IsFree names) (λ name free. (free_of_both names more name free).0) (instance_names items) both.0, both.1)

instance_apart : (names : List (List ℕ)) (i : Instance) (items : List Item) → IsFree names i.name → AreApart (names ++ i.name ∷ []) items
    → AreApart names (item.Instance i ∷ items)
instance_apart names i items free both = (
  All-cons (IsFree names) i.name (instance_names items) free (fewer_names names (i.name ∷ []) items both).0,
  AllPairs-cons (λ a b. a ≢ b) i.name (instance_names items)
      (weaker (IsFree (names ++ i.name ∷ [])) (λ b. i.name ≢ b) (λ name other. apart_from i.name name (free_of_both names (i.name ∷ []) name other).1) (instance_names items) both.0)
      both.1,
)

next_apart : (k : Scale) (names : List (List ℕ)) (line : List ℕ) (one : Item) (items : List Item) → is_blank_line line ≡ false
    → item_fault k (is_taken names line) line ≡ None
    → IsItem k line one → AreApart (names ++ names_on line) items → AreApart names (one ∷ items)
next_apart k names line (item.Segment s) items some clean is both = fewer_names names (names_on line) items both
next_apart k names line (item.Connector c) items some clean is both = fewer_names names (names_on line) items both
next_apart k names line (item.Via v) items some clean is both = fewer_names names (names_on line) items both
next_apart k names line (item.Instance i) items some clean is both =
    let f = fields_behind line in
    let letter : has_letter 73 line ≡ true = ap (has_code 73) is.0 in
    let form = instance_form (is_taken names line) f (instance_clean k (is_taken names line) f (fault_of 73 k (is_taken names line) line some clean is.0)).0 in
    let free : IsFree names (name_on line) = untaken (has_letter 73 line) (list_any (bytes_eq (name_on line)) names) letter form.2 in
    let same : names_on line ≡ i.name ∷ [] = one_name (is_blank_line line) (has_letter 73 line) (name_on line) some letter ∙ ap (λ (n : List ℕ). n ∷ []) (sym is.1.name) in
    let P : List (List ℕ) → Type 0 = λ more. AreApart (names ++ more) items in
    instance_apart names i items (subst (IsFree names) (sym is.1.name) free) (subst P same both)
next_apart k names line (item.Reference r) items some clean is both = fewer_names names (names_on line) items both
next_apart k names line (item.Remark text) items some clean is both = fewer_names names (names_on line) items both

all_apart : (k : Scale) (names lines : List (List ℕ)) (items : List Item) → AreItems k names lines items → AreApart names items
all_apart k names [] items none = elim none [ ]
all_apart k names (line ∷ rest) items (ends over blanks) = (All-nil (IsFree names), no_pairs)
all_apart k names (line ∷ rest) items (blank is more) = all_apart k names rest items more
all_apart k names (line ∷ rest) (one ∷ items) (next some clean is more) =
    next_apart k names line one items some clean is (all_apart k (names ++ names_on line) rest items more)

-- ---- the head and the box

box_form : (letter : Bool) (k : Scale) (f : List (List ℕ)) → (if letter then box_fault k f else Some BadLine) ≡ None
    → (is_le (int_cmp (number_of (at f 0)) (number_of (at f 2))) ≡ true) × (is_le (int_cmp (number_of (at f 1)) (number_of (at f 3))) ≡ true)
box_form false k f h = absurd (cc)
box_form true k f h =
    let form = (one_test (is_box f) (limit_fault None (far_coordinate k (take 4 f))) h).0 in
    let three = both_true ((length f == 4) && list_all is_number (take 4 f) && is_le (int_cmp (number_of (at f 0)) (number_of (at f 2)))) (is_le (int_cmp (number_of (at f 1)) (number_of (at f 3)))) form in
    let two = both_true ((length f == 4) && list_all is_number (take 4 f)) (is_le (int_cmp (number_of (at f 0)) (number_of (at f 2)))) three.0 in
    (two.1, three.1)

box_read : (k : Scale) (line : List ℕ) (box : Rect) → box_line_fault k line ≡ None → IsBox k (fields_behind line) box → IsRect box
box_read k line box h is =
    let f = fields_behind line in
    let form = box_form (has_letter 65 line) k f h in
    record {
      wide = ordered_fields k (at f 0) (at f 2) box.x1 box.x2 form.0 is.x1 is.x2;
      tall = ordered_fields k (at f 1) (at f 3) box.y1 box.y2 form.1 is.y1 is.y2;
    }

head_label : (f : List (List ℕ)) → is_head f ≡ true → is_label (at f 0) ≡ true
head_label f h =
    let four = both_true ((length f == 4) && is_label (at f 0) && bytes_eq (at f 1) (codes "P") && list_all is_text_byte (at f 2)) (is_some (scale_of (at f 3))) h in
    let three = both_true ((length f == 4) && is_label (at f 0) && bytes_eq (at f 1) (codes "P")) (list_all is_text_byte (at f 2)) four.0 in
    let two = both_true ((length f == 4) && is_label (at f 0)) (bytes_eq (at f 1) (codes "P")) three.0 in
    (both_true (length f == 4) (is_label (at f 0)) two.0).1

pub figure_read : (bytes : List ℕ) (f : Figure) → IsApText bytes f → IsFigure f
figure_read bytes f is =
    let k = is.form.scale in
    let head = fields_behind is.form.head in
    record {
      name = label_named f.name (at head 0) (head_label head (head_clean (has_letter 72 is.form.head) head is.form.right_head).0) is.form.name;
      box = box_read k is.form.box f.bounds is.form.right_box is.form.bounds;
      lines = all_items IsLine k (item_line k) [] is.form.others f.items is.form.items;
      instances = (all_apart k [] is.form.others f.items is.form.items).1;
    }

pub what_is_read : ReadIsAFigure
what_is_read bytes f is = (figure_read bytes f is, figure_within bytes f is, few_items bytes f is)
