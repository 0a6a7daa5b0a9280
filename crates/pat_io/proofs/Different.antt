-- Where no column is unknown, no bit is listed twice.
use Rattle.std.proofs.Common.{◌≡◌, Bool, true, false, List, [], ◌∷◌, ◌++◌, map, Option, None, Some, refl, inl, inr, if◌then◌else◌}
use Rattle.vlsi_base.specs.declared.name.Name.{Name}
use Rattle.vlsi_base.specs.declared.name.Port.{Port}
use Rattle.vlsi_base.specs.declared.fault.InputFault.{InputFault}
use Rattle.machine_core.specs.Order.{In, here, there, AllDifferent}
use Rattle.machine_core.proofs.Values.{In-split, In-left, In-right}
use Rattle.pat_meaning.specs.Columns.{column_names, listed}
use Rattle.pat_text.specs.declared.parsed.ParsedColumn.{ParsedColumn}
use Rattle.pat_io.specs.Known.{is_known, first_again, unknown_name, fault_of, unknown_behind}
use Rattle.pat_io.specs.Digits.{column_of}
use Rattle.pat_io.proofs.Ranges.{names_different}
use Rattle.pat_io.proofs.Listing.{IsNew, column_new}

record Faultless (o : Option Name) (rest : List InputFault) : Type 0 where
  pub first : o ≡ None
  pub others : rest ≡ []

faultless : (c : ParsedColumn) (o : Option Name) (rest : List InputFault) → fault_of c o ++ rest ≡ [] → Faultless o rest
faultless c (Some n) rest h = absurd cc
faultless c None rest h = record { first = refl; others = h }

nameless : (b : Bool) (o : Option Name) (n : Name) → (if b then o else Some n) ≡ None → o ≡ None
nameless true o n h = h
nameless false o n h = absurd cc

-- a column lists no bit that one before it lists
later_new : (ports : List Port) (before cs : List ParsedColumn) → unknown_behind ports before cs ≡ [] → (d : ParsedColumn) → In d cs → IsNew before d
later_new ports before (c ∷ cs) h d here =
    let f = faultless c (unknown_name ports before c) (unknown_behind ports (before ++ c ∷ []) cs) h in
    column_new before c (nameless (is_known ports c) (first_again before c) (record { text = c.name; bit = None }) f.first)
later_new ports before (c ∷ cs) h d (there i) =
    let f = faultless c (unknown_name ports before c) (unknown_behind ports (before ++ c ∷ []) cs) h in
    λ b j. later_new ports (before ++ c ∷ []) cs f.others d i b (In-left b before (c ∷ []) j)
later_new ports before [] h d i = elim i [ ]

-- the column that lists a bit
record Owner (cs : List ParsedColumn) (n : Name) : Type 0 where
  pub column : ParsedColumn
  pub among : In column cs
  pub lists : In n (column_names (column_of column))

owner : (cs : List ParsedColumn) (n : Name) → In n (listed (map column_of cs)) → Owner cs n
owner [] n i = elim i [ ]
owner (c ∷ cs) n i = elim (In-split n (column_names (column_of c)) (listed (map column_of cs)) i) [
  | inl at ↦ record { column = c; among = here; lists = at }
  | inr later ↦ let o = owner cs n later in record { column = o.column; among = there o.among; lists = o.lists }
]

append_different : (xs ys : List Name) → AllDifferent xs → AllDifferent ys → ((n : Name) → In n xs → In n ys → ⊥) → AllDifferent (xs ++ ys)
append_different [] ys hx hy apart = hy
append_different (x ∷ xs) ys hx hy apart = (
  λ i. elim (In-split x xs ys i) [ inl a ↦ hx.0 a | inr b ↦ apart x here b ],
  append_different xs ys hx.1 hy (λ n a b. apart n (there a) b),
)

pub different : (ports : List Port) (before cs : List ParsedColumn) → unknown_behind ports before cs ≡ [] → AllDifferent (listed (map column_of cs))
different ports before [] h = tt
different ports before (c ∷ cs) h =
    let f = faultless c (unknown_name ports before c) (unknown_behind ports (before ++ c ∷ []) cs) h in
    append_different (column_names (column_of c)) (listed (map column_of cs)) (names_different c.name c.range) (different ports (before ++ c ∷ []) cs f.others)
    (λ n a b. let o = owner cs n b in
    later_new ports (before ++ c ∷ []) cs f.others o.column o.among c (In-right c before (c ∷ []) here) n a o.lists)
