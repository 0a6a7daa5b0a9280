-- A value with a bit in place of a free one.
use Rattle.std.specs.Prelude.{ℕ, Bool, bytes_eq, Option, None, Some, if◌then◌else◌}
use Rattle.vlsi_base.specs.Tree.{Tree, bit, name}
use Rattle.free_tokens.specs.Tokens.{free_name}

-- the line of a free bit, where the expression is one
abbrev pub free_line : Tree → Option ℕ
free_line (name text line) = if bytes_eq text free_name then Some line else None
free_line _ = None

abbrev pub filled_with : Bool → Tree → Option ℕ → Tree
filled_with b e None = e
filled_with b e (Some line) = bit b line

-- a free bit is all that is assigned, so what stands within an expression stays
abbrev pub filled_value : Bool → Tree → Tree
filled_value b e = filled_with b e (free_line e)
