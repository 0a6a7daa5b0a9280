use Rattle.std.proofs.Common.{◌≡◌, ◌++◌, drop}
use Rattle.ap_io.specs.Spelling.{items_text, text_of}
use Rattle.ap_io.proofs.writer.write_ap.Given as goal

abbrev pub invariant-loop-item : goal.invariant-loop-item
invariant-loop-item l = l.out ++ items_text (drop l.item-index l.item-items) ≡ text_of l.f
