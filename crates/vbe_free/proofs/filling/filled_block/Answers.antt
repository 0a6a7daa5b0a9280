use Rattle.std.proofs.Common.{◌≡◌, map, sym, ap, ◌∙◌}
use Rattle.vlsi_base.specs.Tree.{view}
use Rattle.vbe_text.specs.Source.{assignment_view, blocked}
use Rattle.vbe_free.specs.Filled.{filled_assignment}
use Rattle.vbe_free.proofs.Values.{map_map}
use Rattle.vbe_free.proofs.filling.filled_block.Goals as goal

pub returns : goal.returns
returns c =
    let all : map assignment_view c.new.result ≡ map (filled_assignment c.args.bit) (map assignment_view c.args.block.assignments) =
    ap (map assignment_view) c.new.ensures ∙ c.in_ok-assignments.ensures ∙ sym (map_map (filled_assignment c.args.bit) assignment_view c.args.block.assignments) in
    λ j. blocked (record { guard = view c.args.block.guard; line = c.args.block.line; assignments = all j })
