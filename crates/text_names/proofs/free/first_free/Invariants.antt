use Rattle.std.proofs.Common.{◌≡◌, ℕ, ◌<◌, false}
use Rattle.text_names.specs.Free.{is_free, candidate}
use Rattle.text_names.proofs.free.first_free.Given as goal

-- none of the earlier ones is free
abbrev pub invariant-loop-number : goal.invariant-loop-number
invariant-loop-number l = record {
  is : l.text ≡ candidate l.stem l.number;
  earlier : (k : ℕ) → k < l.number → is_free l.taken (candidate l.stem k) ≡ false;
}
