-- Marks as they stand in memory.
use Rattle.std.specs.Prelude.{Option, None, Some}
use Rattle.sym_shapes.specs.Marks.{Sign, by_line, by_name, Mark}
use Rattle.sym_shapes.specs.declared.marks.Mark.{Mark as Key}
use Rattle.sym_shapes.specs.declared.marks.Sign.{Sign as KeySign}
use Rattle.sym_shapes.specs.declared.marks.Sign.TheVariants as sign
use Rattle.std.specs.Option.{option_copied}

-- the sign, and the mark, that the bytes spell
abbrev pub sign_view : KeySign → Sign
sign_view (sign.Line line) = by_line line
sign_view (sign.Connector text bit) = by_name (record { text = text.now; bit = bit })

abbrev pub mark_view : Key → Mark
mark_view m = record { owner = option_copied m.owner; sign = sign_view m.sign }

-- a mark in memory, if there is one
abbrev pub view_of : Option Key → Option Mark
view_of None = None
view_of (Some m) = Some (mark_view m)
