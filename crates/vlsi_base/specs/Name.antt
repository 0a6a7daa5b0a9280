-- The order of names, their text, and the names of supplies.
use Rattle.std.specs.Prelude.{ℕ, Bool, ◌||◌, bytes_eq, List, [], ◌++◌, codes, Option, None, Some}
use Rattle.std.specs.Fmt.{decimal}
use Rattle.std.specs.Ordering.{nat_cmp, ordering_then}
use Rattle.std.specs.Cmp.Lexicographic.{slice_cmp}
use Rattle.std.specs.declared.cmp.Ordering.{Ordering}
use Rattle.std.specs.declared.cmp.Ordering.TheVariants.{Less, Equal, Greater}
use Rattle.vlsi_base.specs.declared.name.Name.{Name}

-- no bit comes before bits, and these rise
abbrev pub bit_cmp : Option ℕ → Option ℕ → Ordering
bit_cmp None None = Equal
bit_cmp None (Some _) = Less
bit_cmp (Some _) None = Greater
bit_cmp (Some a) (Some b) = nat_cmp a b

-- by the bytes of the text, and for one text by the bit
abbrev pub name_cmp : Name → Name → Ordering
name_cmp a b = ordering_then (slice_cmp nat_cmp a.text b.text) (bit_cmp a.bit b.bit)

-- the two supplies are named vdd and vss
abbrev pub is_supply : List ℕ → Bool
is_supply text = bytes_eq text (codes "vdd") || bytes_eq text (codes "vss")

-- a bit of a vector stands in parentheses behind its name
abbrev pub bit_text : Option ℕ → List ℕ
bit_text None = []
bit_text (Some k) = codes "(" ++ (decimal k ++ codes ")")

abbrev pub name_text : Name → List ℕ
name_text n = n.text ++ bit_text n.bit
