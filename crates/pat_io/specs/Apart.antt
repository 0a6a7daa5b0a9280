-- Which columns list one bit, by the ends of their ranges, and the order of columns by their bits.
use Rattle.std.specs.Prelude.{ℕ, Bool, true, false, ◌&&◌, nat_le, bytes_eq, Option, None, Some}
use Rattle.std.specs.Ordering.{is_lt}
use Rattle.vlsi_base.specs.declared.name.Name.{Name}
use Rattle.vlsi_base.specs.declared.range.Range.{Range}
use Rattle.vlsi_base.specs.Name.{name_cmp}
use Rattle.vlsi_base.specs.Range.{least, greatest}
use Rattle.pat_text.specs.declared.parsed.ParsedColumn.{ParsedColumn}

-- two ranges have a bit in common; where there are none both are the one bit of a scalar
abbrev pub overlap : Option Range → Option Range → Bool
overlap None None = true
overlap None (Some s) = false
overlap (Some r) None = false
overlap (Some r) (Some s) = nat_le (least r) (greatest s) && nat_le (least s) (greatest r)

-- two columns list one bit
abbrev pub share_bit : ParsedColumn → ParsedColumn → Bool
share_bit c d = bytes_eq c.name d.name && overlap c.range d.range

abbrev pub least_bit : Option Range → Option ℕ
least_bit None = None
least_bit (Some r) = Some (least r)

abbrev pub greatest_bit : Option Range → Option ℕ
greatest_bit None = None
greatest_bit (Some r) = Some (greatest r)

-- the first and the last of a column's bits, in the order of names
abbrev pub first_name : ParsedColumn → Name
first_name c = record { text = c.name; bit = least_bit c.range }

abbrev pub last_name : ParsedColumn → Name
last_name c = record { text = c.name; bit = greatest_bit c.range }

-- each bit of the one comes before each of the other
abbrev pub comes_before : ParsedColumn → ParsedColumn → Bool
comes_before c d = is_lt (name_cmp (last_name c) (first_name d))
