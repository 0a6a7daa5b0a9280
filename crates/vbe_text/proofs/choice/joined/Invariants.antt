use Rattle.std.proofs.Common.{◌≡◌, map}
use Rattle.vlsi_base.specs.Tree.{view}
use Rattle.vbe_text.specs.Source.{guarded_view, further_view}
use Rattle.vbe_text.specs.Vbe.{alternatives_from, last_value}
use Rattle.vbe_text.proofs.choice.joined.Given as goal

abbrev pub invariant-loop-other : goal.invariant-loop-other
invariant-loop-other l =
    (map guarded_view l.alternatives.items ≡ alternatives_from (view l.fn.first) (map further_view l.yielded))
    × (view l.last ≡ last_value (view l.fn.first) (map further_view l.yielded))
