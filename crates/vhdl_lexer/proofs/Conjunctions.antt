-- Tests joined by `and`.
use Rattle.std.proofs.Common.{◌≡◌, ◌&&◌, Bool, true, refl}

-- where the others hold, the last one decides
pub and_last : (a b r : Bool) → a ≡ true → b ≡ true → r ≡ (a && (b && r))
and_last a b r first second = rw (first, second) refl
