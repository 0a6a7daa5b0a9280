use Rattle.std.proofs.Common.{◌≡◌, ℕ, drop}
use Rattle.std.specs.Prelude.{◌||◌}
use Rattle.std.specs.List.{list_any}
use Rattle.source_checks.specs.Marks.{has, is_key}
use Rattle.source_checks.proofs.drivers.mark_all.Given as goal

abbrev pub invariant-loop-code : goal.invariant-loop-code
invariant-loop-code l =
    (q : ℕ × ℕ) → (list_any (λ c. is_key (l.place, c) q) (drop l.code-index l.codes) || has l.marks q) ≡ (list_any (λ c. is_key (l.place, c) q) l.codes || has l.initial.marks q)
