-- What a line of CATAL may be.
use Rattle.std.specs.Prelude.{◌≡◌, ◌==◌, ℕ, Bool, true, not, ◌&&◌, List, ◌++◌, length, map, slice_index, None}
use Rattle.std.specs.List.{list_all}
use Rattle.std.specs.Char.{is_ascii_alphabetic, is_ascii_uppercase, to_ascii_lowercase}
use Rattle.vhdl_token.specs.Keyword.{keyword_of}
use Rattle.lexer_base.specs.Bytes.{is_blank, is_in_word}

abbrev pub lower : List ℕ → List ℕ
lower name = map to_ascii_lowercase name

-- a letter, then letters, digits and underscores
abbrev pub is_identifier : List ℕ → Bool
is_identifier text = is_ascii_alphabetic (slice_index text 0) && list_all is_in_word text

-- one or more bytes of this kind
abbrev pub is_run : (ℕ → Bool) → List ℕ → Bool
is_run kind text = not (length text == 0) && list_all kind text

-- The line is a name, spaces and tabs, and a word of capital letters; nothing stands before them or behind them.
pub record IsSpelled (line name word : List ℕ) : Type 0 where
  pub blanks : List ℕ
  pub line_is : line ≡ name ++ (blanks ++ word)
  pub name_is : is_identifier name ≡ true
  pub blanks_are : is_run is_blank blanks ≡ true
  pub word_is : is_run is_ascii_uppercase word ≡ true

-- The line gives this word to the cell of this name, which is no reserved word.
pub record IsEntry (line name word : List ℕ) : Type 0 where
  pub spelled : IsSpelled line name word
  pub unreserved : keyword_of (lower name) ≡ None
