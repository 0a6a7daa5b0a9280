-- Kinds of bytes.
use Rattle.std.specs.Prelude.{ℕ, ◌==◌, Bool, not, ◌||◌, ◌&&◌}
use Rattle.std.specs.Char.{is_ascii_alphabetic, is_ascii_digit}

-- a space or a tab
abbrev pub is_blank : ℕ → Bool
is_blank b = b == 32 || b == 9

-- a letter, a digit or an underscore
abbrev pub is_in_word : ℕ → Bool
is_in_word b = is_ascii_alphabetic b || is_ascii_digit b || b == 95

-- anything but a double quote and the end of a line
abbrev pub is_in_quotes : ℕ → Bool
is_in_quotes b = not (b == 34) && not (b == 10)

-- anything but the end of a line
abbrev pub is_on_line : ℕ → Bool
is_on_line b = not (b == 10)
