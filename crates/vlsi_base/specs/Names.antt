-- Names of ports and pins.
use Rattle.std.specs.Prelude.{ℕ, Bool, List, None, codes}
use Rattle.std.specs.Ordering.{is_lt}
use Rattle.vlsi_base.specs.declared.name.Name.{Name}
use Rattle.vlsi_base.specs.Name.{name_cmp}

-- a name without a bit
abbrev pub scalar : List ℕ → Name
scalar text = record { text = text; bit = None }

abbrev pub vdd : Name
vdd = scalar (codes "vdd")

abbrev pub vss : Name
vss = scalar (codes "vss")

-- one name stands before another: by its bytes, then no bit before bits in rising order
abbrev pub comes_before : Name → Name → Bool
comes_before a b = is_lt (name_cmp a b)
