-- Bytes of a line.
use Rattle.std.specs.Prelude.{ℕ, ◌==◌, Bool, not}

-- anything but the line feed
abbrev pub is_on_line : ℕ → Bool
is_on_line b = not (b == 10)
