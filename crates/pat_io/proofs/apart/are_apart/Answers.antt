use Rattle.std.proofs.Common.{map, List, subst, Bor}
use Rattle.std.specs.List.{IsDistinct}
use Rattle.pat_text.specs.declared.parsed.ParsedColumn.{ParsedColumn}
use Rattle.pat_io.specs.Apart.{share_bit}
use Rattle.pat_io.proofs.Rising.{distinct_moved}
use Rattle.pat_io.proofs.apart.are_apart.Goals as goal

pub returns : goal.returns
returns c = λ t.
    distinct_moved c.args.columns.now c.in_ok-sorted.sorted.items c.sort_by.new.self.items c.in_ok-sorted.ensures c.in_ok-sort_by.ensures.permutation
    (subst (λ (rs : List (Bor ParsedColumn)). IsDistinct share_bit (map (λ (r : Bor ParsedColumn). r.now) rs)) c.deref.ensures.value (c.rise.ensures t))
