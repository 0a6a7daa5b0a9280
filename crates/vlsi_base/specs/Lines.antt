-- The lines of a text.
use Rattle.std.specs.Prelude.{ℕ, ◌-◌, ◌==◌, List, [], ◌∷◌, length, take, slice_index, if◌then◌else◌}

-- a byte before the first of some lines; where there is none, a line of this byte
abbrev pub put_before : ℕ → List (List ℕ) → List (List ℕ)
put_before b [] = (b ∷ []) ∷ []
put_before b (line ∷ lines) = (b ∷ line) ∷ lines

-- What stands between the line feeds of a text. The line feed that ends it begins no further line, and a text of no bytes
-- has no line. A carriage return is a byte of its line.
unfoldable pub lines_of : List ℕ → List (List ℕ)
lines_of [] = []
lines_of (b ∷ bs) = if b == 10 then [] ∷ lines_of bs else put_before b (lines_of bs)

-- a line without the carriage return at its end, if it has one
abbrev pub without_return : List ℕ → List ℕ
without_return line = let last = length line - 1 in if slice_index line last == 13 then take last line else line
