use Rattle.std.proofs.Common.{◌≡◌, ◌≤◌, map, length}
use Rattle.text_names.specs.Free.{numbered}
use Rattle.text_names.proofs.Enough.{found}
use Rattle.text_names.proofs.free.free_texts.Given as goal

-- of the numbers so far those that make a free text, not more than are asked for
abbrev pub invariant-loop-number : goal.invariant-loop-number
invariant-loop-number l = record {
  few : length l.texts.items ≤ l.many;
  same : l.texts.items ≡ map (numbered l.stem) (found l.stem l.taken l.number);
}
