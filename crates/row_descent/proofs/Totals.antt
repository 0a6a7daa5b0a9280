-- Spans lie near, so all extents together are small.
use Rattle.std.proofs.Common.{ℕ, ◌^◌, ◌≤◌, ◌<◌, ◌&&◌, Bool, true, false, cond, List, length, nat_lt, arith}
use Rattle.std.proofs.lemmas.List.Sums.{sum_by-le}
use Rattle.row_meaning.specs.declared.Pin.{Pin}
use Rattle.row_descent.specs.declared.span.Span.{Span}
use Rattle.row_descent.specs.Spans.{limit, at, AreNear, AreSpansNear, span_of, extent_of, total_of, refreshed}
use Rattle.row_descent.proofs.Windows.{greatest_within}

pub span_near : (starts : List ℕ) (pins : List Pin) → AreNear starts pins → (span_of starts pins).high ≤ limit
span_near starts pins h = greatest_within (at starts) pins 0 limit (omega arith) (λ k d l. (h k d l).1)

pub refreshed_near : (starts : List ℕ) (low high : ℕ) (pins : List Pin) (s : Span) → AreNear starts pins → s.high ≤ limit
    → (refreshed starts low high pins s).high ≤ limit
refreshed_near starts low high pins s h l = by (nat_lt s.low low && nat_lt high s.high) where
  by : (t : Bool) → (cond t s (span_of starts pins)).high ≤ limit
  by true = l
  by false = span_near starts pins h

pub total_small : (spans : List Span) → AreSpansNear spans → length spans < 2 ^ 32 → total_of spans < 2 ^ 100
total_small spans near few =
    let a = sum_by-le extent_of limit spans (λ k d l. let b = near k d l in omega arith) in
    omega arith
