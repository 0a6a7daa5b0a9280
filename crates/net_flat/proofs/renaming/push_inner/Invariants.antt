use Rattle.std.proofs.Common.{◌≡◌, ◌++◌, map, drop}
use Rattle.std.specs.Prelude.{is_some}
use Rattle.std.specs.FinMap.{get}
use Rattle.net_flat.specs.Renamed.{inner_names}
use Rattle.net_flat.proofs.renaming.push_inner.Given as goal

abbrev pub invariant-loop-k : goal.invariant-loop-k
invariant-loop-k l =
    l.names.items ++ inner_names (λ n. is_some (get l.shown n)) l.text l.k (map (λ e. e.name) (drop l.k l.equations))
    ≡ l.fn.names.items ++ inner_names (λ n. is_some (get l.shown n)) l.text 0 (map (λ e. e.name) l.equations)
