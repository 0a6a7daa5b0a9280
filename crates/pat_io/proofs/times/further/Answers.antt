use Rattle.std.proofs.Common.{◌*◌, ◌^◌, ◌≤◌, ◌<◌, ℕ, arith}
use Rattle.std.proofs.lemmas.Nat.{mul-le}
use Rattle.pat_io.proofs.times.further.Goals as goal

few : (n size : ℕ) → n < 2 ^ 32 → size ≤ 10 ^ 12 → n * size ≤ 2 ^ 72
few n size low less = let most = mul-le n size (2 ^ 32) (10 ^ 12) (omega (arith, low)) less in omega (arith, most)

pub overflow_mul-result : goal.overflow_mul-result
overflow_mul-result c = let most = few c.from.result c.from-2.result (omega arith) (omega (arith, c.unit_size.ensures.few)) in omega (arith, most)

pub returns-clause-few : goal.returns-clause-few
returns-clause-few c = few c.from.result c.from-2.result (omega arith) (omega (arith, c.unit_size.ensures.few))
