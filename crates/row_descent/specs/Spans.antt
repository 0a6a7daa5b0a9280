-- How far the pins of nets reach along rows.
use Rattle.std.specs.Prelude.{◌≡◌, ◌≤◌, ◌<◌, ◌^◌, ℕ, ◌+◌, ◌-◌, ◌&&◌, List, [], ◌∷◌, length, map, nat_lt, sum_by, if◌then◌else◌, slice_index, slice_index_or, slice_set}
use Rattle.std.specs.List.{All}
use Rattle.row_meaning.specs.declared.Pin.{Pin}
use Rattle.row_meaning.specs.Length.{least, greatest}
use Rattle.row_descent.specs.declared.span.Span.{Span}

-- no coordinate is greater
abbrev pub limit : ℕ
limit = 2 ^ 60

abbrev pub top : ℕ
top = 18446744073709551615

abbrev pub at : List ℕ → Pin → ℕ
at starts p = slice_index starts p.cell + p.x

-- each pin is one of a cell that begins somewhere, and lies no further than the coordinates here
abbrev pub IsNear : List ℕ → Pin → Type 0
IsNear starts p = (p.cell < length starts) × (at starts p ≤ limit)

abbrev pub AreNear : List ℕ → List Pin → Type 0
AreNear starts pins = All (IsNear starts) pins

abbrev pub span_from : ℕ → ℕ → List ℕ → Span
span_from low high xs = record { low = least low xs; high = greatest high xs }

-- from the least to the greatest
abbrev pub span_of : List ℕ → List Pin → Span
span_of starts pins = span_from top 0 (map (at starts) pins)

abbrev pub extent_of : Span → ℕ
extent_of s = s.high - s.low

abbrev pub AreSpansNear : List Span → Type 0
AreSpansNear spans = All (λ s. s.high ≤ limit) spans

abbrev pub total_of : List Span → ℕ
total_of spans = sum_by extent_of spans

-- the span of a net anew, where it doesn't go beyond a window on both sides
abbrev pub refreshed : List ℕ → ℕ → ℕ → List Pin → Span → Span
refreshed starts low high pins s = if nat_lt s.low low && nat_lt high s.high then s else span_of starts pins

-- that of net k
abbrev pub is_refreshed : List ℕ → ℕ → ℕ → List Pin → ℕ → List Span → List Span → Type 0
is_refreshed starts low high pins k old new = new ≡ slice_set old k (refreshed starts low high pins (slice_index_or old k (span_of starts pins)))

-- those of some nets, by number
abbrev pub refreshed_all : List ℕ → ℕ → ℕ → List (List Pin) → List ℕ → List Span → List Span
refreshed_all starts low high nets [] spans = spans
refreshed_all starts low high nets (k ∷ ks) spans =
    refreshed_all starts low high nets ks
    (slice_set spans k (refreshed starts low high (slice_index_or nets k []) (slice_index_or spans k (span_of starts (slice_index_or nets k [])))))
