-- Words of comments, and the pragma that a comment may be.
use Rattle.std.specs.Prelude.{ℕ, ◌-◌, ◌==◌, Bool, not, ◌&&◌, List, [], length, map, take, drop, take_while, codes, Option, Some, None, is_none, nat_le, slice_index, if◌then◌else◌}
use Rattle.std.specs.List.{prefix_len, list_all}
use Rattle.std.specs.Str.{bytes_eq}
use Rattle.std.specs.Char.{is_ascii_alphabetic, to_ascii_lowercase}
use Rattle.vhdl_token.specs.Keyword.{keyword_of}
use Rattle.lexer_base.specs.Bytes.{is_blank, is_in_word}

-- neither a space nor a tab
abbrev pub is_unblank : ℕ → Bool
is_unblank b = not (is_blank b)

-- a letter, then letters, digits and underscores, at most 64 bytes
abbrev pub is_spelled_as_identifier : List ℕ → Bool
is_spelled_as_identifier word =
    is_ascii_alphabetic (slice_index word 0) && (nat_le (length word) 64 && list_all is_in_word word)

-- the identifier that a word is, in lower case, unless it is a reserved word
abbrev pub identifier_of : List ℕ → Option (List ℕ)
identifier_of word =
    let text = map to_ascii_lowercase word in
    if is_spelled_as_identifier word && is_none (keyword_of text) then Some text else None

-- what stands behind the blanks at the front
abbrev pub behind_blanks : List ℕ → List ℕ
behind_blanks text = drop (prefix_len is_blank text) text

-- the bytes up to the next blank, behind blanks
abbrev pub first_word : List ℕ → List ℕ
first_word text = take_while is_unblank (behind_blanks text)

-- what follows that word
abbrev pub after_word : List ℕ → List ℕ
after_word text = let word_on = behind_blanks text in drop (prefix_len is_unblank word_on) word_on

-- a line without a carriage return at its end
abbrev pub without_return : List ℕ → List ℕ
without_return text = let last = length text - 1 in if slice_index text last == 13 then take last text else text

abbrev pub both : Option (List ℕ) → Option (List ℕ) → Option (List ℕ × List ℕ)
both None o = None
both (Some x) None = None
both (Some x) (Some y) = Some (x, y)

-- the key and the name of a comment whose words are `pragma`, in any case, the key, the name, and no others
unfoldable pub pragma_of : List ℕ → Option (List ℕ × List ℕ)
pragma_of comment =
    let text = without_return comment in
    let key_on = after_word text in
    let name_on = after_word key_on in
    let is_pragma = bytes_eq (map to_ascii_lowercase (first_word text)) (codes "pragma") in
    let is_all = bytes_eq (first_word (after_word name_on)) [] in
    if is_pragma && is_all then both (identifier_of (first_word key_on)) (identifier_of (first_word name_on)) else None
