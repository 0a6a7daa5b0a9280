-- No class has more sinks where a loop met none.
use Rattle.std.proofs.Common.{ℕ, ◌<◌, ◌≤◌, List, length, get_or, ap, arith}
use Rattle.std.proofs.lemmas.Option.{slice_get_within}
use Rattle.std.specs.Global.{Vec}
use Rattle.loon_loads.proofs.Loading.{got}
use Rattle.loon_fanout.specs.Starts.{HasLongLoad}

pub none_long : (loads : List (Vec ℕ)) (limit met : ℕ) → length loads ≤ met → ((k : ℕ) (d : Vec ℕ) → k < met → length (get_or loads k d).items ≤ limit)
    → HasLongLoad limit loads → ⊥
none_long loads limit met over each (k, v, stands, long) =
    let low = slice_get_within loads k v stands in
    let same = ap (λ (x : Vec ℕ). length x.items) (got loads k v stands) in
    let small = each k v (omega (arith, low, over)) in
    absurd (omega (arith, small, same, long))
