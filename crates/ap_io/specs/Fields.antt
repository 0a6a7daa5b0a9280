-- The fields of a line, and the numbers and names that they spell.
use Rattle.std.specs.Prelude.{ℕ, ◌-◌, ◌*◌, ◌^◌, ◌==◌, ℤ, pos, neg_ℤ, Bool, not, ◌&&◌, ◌||◌, nat_lt, nat_eq, bytes_eq, List, [], ◌∷◌, length, take, drop, map, slice_index, slice_index_or, Option, None, Some, codes, if◌then◌else◌}
use Rattle.std.specs.List.{list_all, prefix_len, starts_with, ends_with}
use Rattle.std.specs.Option.{option_map}
use Rattle.std.specs.Char.{is_ascii_digit, is_ascii_alphabetic, to_ascii_lowercase}
use Rattle.vlsi_base.specs.Number.{value_of}
use Rattle.vlsi_base.specs.declared.name.Name.{Name}
use Rattle.vlsi_base.specs.Lines.{put_before}
use Rattle.ap_io.specs.declared.scale.Scale.{Scale}
use Rattle.ap_io.specs.declared.scale.Scale.TheVariants.{One, Ten, Hundred}

-- anything but a comma
abbrev pub is_in_field : ℕ → Bool
is_in_field b = not (b == 44)

-- what stands between the commas of a text; there is one more than commas
unfoldable pub fields_of : List ℕ → List (List ℕ)
fields_of [] = [] ∷ []
fields_of (b ∷ bs) = if b == 44 then [] ∷ fields_of bs else put_before b (fields_of bs)

-- the field of this number, counted from 0; no bytes where there is none
abbrev pub at : List (List ℕ) → ℕ → List ℕ
at fields i = slice_index_or fields i []

-- a space or a tab
abbrev pub is_blank : ℕ → Bool
is_blank b = b == 32 || b == 9

-- a byte that stands within a text: neither a line feed nor a carriage return
abbrev pub is_text_byte : ℕ → Bool
is_text_byte b = not (b == 10 || b == 13)

-- ---- numbers

-- digits, at least one
abbrev pub is_digits : List ℕ → Bool
is_digits text = not (length text == 0) && list_all is_ascii_digit text

-- a minus stands in front
abbrev pub has_minus : List ℕ → Bool
has_minus text = starts_with nat_eq text (codes "-")

-- what stands behind the minus, if there is one
abbrev pub digits_of : List ℕ → List ℕ
digits_of text = if has_minus text then drop 1 text else text

-- a decimal number: digits, with leading zeros or without, and perhaps a minus in front
unfoldable pub is_number : List ℕ → Bool
is_number text = is_digits (digits_of text)

-- its absolute value
abbrev pub size_of : List ℕ → ℕ
size_of text = value_of (digits_of text)

-- digits without the zeros in front
abbrev pub significant : List ℕ → List ℕ
significant digits = drop (prefix_len (λ b. b == 48) digits) digits

-- the number with this absolute value
abbrev pub signed : Bool → ℕ → ℤ
signed minus n = if minus then neg_ℤ (pos n) else pos n

abbrev pub number_of : List ℕ → ℤ
number_of text = signed (has_minus text) (size_of text)

-- a width is at least 1
abbrev pub is_width : List ℕ → Bool
is_width text = is_number text && (not (has_minus text) && nat_lt 0 (size_of text))

-- the index of a connector is below 2 ^ 63 in absolute value
abbrev pub is_index : List ℕ → Bool
is_index text = is_number text && nat_lt (size_of text) (2 ^ 63)

-- what a coordinate is multiplied by, so that it is at scale 100
abbrev pub factor : Scale → ℕ
factor One = 100
factor Ten = 10
factor Hundred = 1

-- the absolute value of a coordinate or width at scale 100
abbrev pub reach : Scale → List ℕ → ℕ
reach scale text = size_of text * factor scale

-- the coordinate or width at scale 100
abbrev pub coordinate_of : Scale → List ℕ → ℤ
coordinate_of scale text = signed (has_minus text) (reach scale text)

-- ---- identifiers and names

-- a letter, a digit or an underscore
abbrev pub is_in_word : ℕ → Bool
is_in_word b = is_ascii_alphabetic b || is_ascii_digit b || b == 95

-- an identifier: a letter, and then letters, digits and underscores, of either case
abbrev pub is_identifier : List ℕ → Bool
is_identifier text = is_ascii_alphabetic (slice_index text 0) && list_all is_in_word text

-- the case is ignored
abbrev pub lower : List ℕ → List ℕ
lower text = map to_ascii_lowercase text

-- the identifier that a name begins with, and what follows it
abbrev pub word_of : List ℕ → List ℕ
word_of text = take (prefix_len is_in_word text) text

abbrev pub behind_word : List ℕ → List ℕ
behind_word text = drop (prefix_len is_in_word text) text

-- the digits of a bit: behind a space, or in parentheses
unfoldable pub bit_digits : List ℕ → Option (List ℕ)
bit_digits rest =
    if starts_with nat_eq rest (codes " ") then Some (drop 1 rest)
    else if nat_lt 1 (length rest) && (starts_with nat_eq rest (codes "(") && ends_with nat_eq rest (codes ")")) then Some (drop 1 (take (length rest - 1) rest))
    else None

-- nothing, or a bit whose number is at most 4,294,967,295
abbrev pub is_bit_of : Option (List ℕ) → List ℕ → Bool
is_bit_of None rest = length rest == 0
is_bit_of (Some digits) rest = is_digits digits && nat_lt (value_of digits) (2 ^ 32)

-- a name: a star, or an identifier, perhaps with a bit
unfoldable pub is_label : List ℕ → Bool
is_label text =
    bytes_eq text (codes "*")
    || (is_ascii_alphabetic (slice_index text 0) && is_bit_of (bit_digits (behind_word text)) (behind_word text))

-- the name that is meant: none by a star, else the identifier in lower case with its bit
unfoldable pub label_of : List ℕ → Option Name
label_of text =
    if bytes_eq text (codes "*") then None
    else Some (record { text = lower (word_of text); bit = option_map value_of (bit_digits (behind_word text)) })
