-- Lines of the grid above a coordinate.
use Rattle.std.proofs.Common.{◌≡◌, ℕ, ◌-◌, ◌*◌, ◌/◌, ◌%◌, ◌^◌, ◌<◌, ℤ, pos, ◌+ℤ◌, ◌-ℤ◌, ◌*ℤ◌, ◌≤ℤ◌, ◌<ℤ◌, refl, arith}
use Rattle.std.proofs.lemmas.Int.{ints, int_rem_euclid_is}
use Rattle.std.specs.Int.{int_rem_euclid}
use Rattle.std.specs.Int.RustNames.{unsigned_abs}
use Rattle.cell_checks.specs.Shapes.{IsLineAbove, IsFirstLine, FitsPad}

-- how a number lies between two lines of the grid
pub record Lies (z : ℤ) : Type 0 where
  pub number : ℤ
  pub past : ℕ
  pub is : z ≡ (pos 500 *ℤ number) +ℤ pos past
  pub less : past < 500
  pub remainder : int_rem_euclid z (pos 500) ≡ pos past

pub lies : (z : ℤ) → (pos 0 -ℤ pos (2 ^ 63)) ≤ℤ z → Lies z
lies z low =
    let k : ℕ = 2 ^ 55 in
    let m : ℕ = unsigned_abs (z +ℤ pos (2 ^ 55 * 500)) in
    let e : z +ℤ pos (2 ^ 55 * 500) ≡ pos (unsigned_abs (z +ℤ pos (2 ^ 55 * 500))) = omega (arith, ints) in
    record {
      number = pos (unsigned_abs (z +ℤ pos (2 ^ 55 * 500)) / 500) -ℤ pos (2 ^ 55);
      past = unsigned_abs (z +ℤ pos (2 ^ 55 * 500)) % 500;
      is = omega (arith, ints);
      less = omega arith;
      remainder = int_rem_euclid_is z (pos 500) 500 (2 ^ 55) (unsigned_abs (z +ℤ pos (2 ^ 55 * 500))) (omega arith) refl e;
    }

pub on_line : (low z : ℤ) → z ≡ low +ℤ pos 100 → (l : Lies z) → l.past ≡ 0 → IsFirstLine low z
on_line low z is l none =
    record {
      above = record { number = l.number; grid = let e = l.is in omega (arith, ints); from = omega (arith, ints) };
      least = λ other a. let f = a.from in omega (arith, ints);
    }

pub next_line : (low z line : ℤ) → z ≡ low +ℤ pos 100 → (l : Lies z) → 0 < l.past → line ≡ z +ℤ (pos 500 -ℤ pos l.past) → IsFirstLine low line
next_line low z line is l some at =
    record {
      above = record { number = l.number +ℤ pos 1; grid = let e = l.is in omega (arith, ints); from = let e = l.less in omega (arith, ints) };
      least = λ other a. let f = a.from in let g = a.grid in let e = l.is in let n = a.number in let q = l.number in let r = l.less in omega (arith, ints);
    }

pub no_line : (low high : ℤ) → high ≤ℤ pos (2 ^ 63 - 1) → ((line : ℤ) → line ≤ℤ pos (2 ^ 63 - 1) → IsLineAbove low line → ⊥) → FitsPad low high → ⊥
no_line low high most none f = none f.line (let g = f.to in omega (arith, ints)) f.above

pub no_room : (low high line : ℤ) → IsFirstLine low line → high <ℤ (line +ℤ pos 100) → FitsPad low high → ⊥
no_room low high line first less f = let g = f.to in let h = first.least f.line f.above in omega (arith, ints)

pub too_low : (low high : ℤ) → (pos 0 -ℤ pos (2 ^ 63)) ≤ℤ low → (high -ℤ pos 100) <ℤ (pos 0 -ℤ pos (2 ^ 63)) → FitsPad low high → ⊥
too_low low high least less f = let g = f.to in let h = f.above.from in omega (arith, ints)

pub room : (low high line : ℤ) → IsFirstLine low line → (line +ℤ pos 100) ≤ℤ high → FitsPad low high
room low high line first most = record { line = line; above = first.above; to = most }
