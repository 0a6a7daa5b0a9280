use Rattle.std.proofs.Common.{◌≡◌, ◌+◌, ◌*◌, ◌≤◌}
use Rattle.fsm_machine.specs.Statements.{finish}
use Rattle.fsm_code.specs.View.{body_view, parts_view}
use Rattle.fsm_code.specs.declared.statements.Statements.{size-Statements}
use Rattle.fsm_code.specs.declared.statements.Parts.{size-Parts}
use Rattle.fsm_code.specs.declared.statements.Branches.{size-Branches}
use Rattle.fsm_merge.specs.Merged.{merged, merged_parts}
use Rattle.fsm_merge.specs.Pieces.{with_pieces, with_arms}
use Rattle.fsm_merge.proofs.merger.Merger.+merge.Given as goal

-- all go by the depth, what takes pieces and arms apart below what puts them together
abbrev pub decreases-body : goal.decreases-body
decreases-body l = 2 * size-Statements l.body.now + 1

abbrev pub decreases-pieces : goal.decreases-pieces
decreases-pieces l = 2 * size-Statements l.body.now

abbrev pub decreases-parts : goal.decreases-parts
decreases-parts l = 2 * size-Parts l.parts.now + 1

abbrev pub decreases-arms : goal.decreases-arms
decreases-arms l = 2 * size-Parts l.parts.now

abbrev pub decreases-branches : goal.decreases-branches
decreases-branches l = 2 * size-Branches l.branches.now

abbrev pub invariant-pieces-loop-rest : goal.invariant-pieces-loop-rest
invariant-pieces-loop-rest l = record {
  smaller : size-Statements l.rest ≤ size-Statements l.fn.body;
  so_far : with_pieces l.pieces.items (merged l.self.numbering.state_of.now l.self.numbering.kept.now (body_view l.rest))
      ≡ merged l.self.numbering.state_of.now l.self.numbering.kept.now (body_view l.fn.body);
}

abbrev pub invariant-arms-loop-rest : goal.invariant-arms-loop-rest
invariant-arms-loop-rest l = record {
  smaller : size-Parts l.rest ≤ size-Parts l.fn.parts;
  so_far : with_arms l.arms.items (merged_parts l.self.numbering.state_of.now l.self.numbering.kept.now (parts_view l.rest))
      ≡ merged_parts l.self.numbering.state_of.now l.self.numbering.kept.now (parts_view l.fn.parts);
}
