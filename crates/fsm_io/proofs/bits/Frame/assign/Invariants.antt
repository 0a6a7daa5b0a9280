use Rattle.std.proofs.Common.{◌≡◌, ◌<◌, ℕ, map, length}
use Rattle.bool_expr.specs.View.{view}
use Rattle.vlsi_base.specs.Member.{In}
use Rattle.source_checks.specs.Symbols.{all_names}
use Rattle.fsm_code.specs.View.{body_view}
use Rattle.fsm_io.specs.Pieces.{assign_places}
use Rattle.fsm_io.proofs.bits.Frame.assign.Given as goal

abbrev pub invariant-loop-value : goal.invariant-loop-value
invariant-loop-value l = record {
  equal : length l.places.items ≡ length l.values.items;
  below : (k : ℕ) → In k l.places.items → k < length (all_names l.self.numbers.now);
  whole : assign_places (all_names l.self.numbers.now) l.places.items (map view l.values.items) (body_view l.made)
      ≡ assign_places (all_names l.self.numbers.now) l.initial.places.items (map view l.initial.values.items) (body_view l.fn.rest);
}

abbrev pub decreases-loop-value : goal.decreases-loop-value
decreases-loop-value l = length l.values.items
