use Rattle.std.proofs.Common.{◌≡◌, ℕ, List, not, take}
use Rattle.text_names.specs.Free.{is_free}
use Rattle.text_names.specs.Known.{is_known}
use Rattle.text_names.proofs.taken.Taken.new.Given as goal

-- the texts so far
abbrev pub invariant-loop-text : goal.invariant-loop-text
invariant-loop-text l = (other : List ℕ) → is_known other l.taken ≡ not (is_free (take l.text-index l.texts) other)
