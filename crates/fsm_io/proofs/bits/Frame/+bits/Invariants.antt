use Rattle.std.proofs.Common.{◌≡◌, ◌≤◌, map, length}
use Rattle.vlsi_base.specs.Member.{In}
use Rattle.fsm_code.specs.View as code
use Rattle.fsm_text.specs.declared.file.Parts.{size-Parts}
use Rattle.fsm_text.specs.declared.file.Branches.{size-Branches}
use Rattle.fsm_text.specs.Written.{StatementTree, statement_view, body_view, parts_view, branches_view}
use Rattle.fsm_io.specs.Elaboration.{body_bits, parts_bits, branches_bits}
use Rattle.fsm_io.specs.Pieces.{frame_view, StatementFits, PartsFit, BranchesFit}
use Rattle.fsm_io.specs.Linked.{AreSmaller, statements_before, parts_before, branches_before}
use Rattle.fsm_io.proofs.bits.Frame.+bits.Given as goal

abbrev pub decreases-before : goal.decreases-before
decreases-before l = goal.size-before l

abbrev pub decreases-body : goal.decreases-body
decreases-body l = goal.size-body l

abbrev pub decreases-parts : goal.decreases-parts
decreases-parts l = goal.size-parts l

abbrev pub decreases-branches : goal.decreases-branches
decreases-branches l = goal.size-branches l

-- the statements that are left, each of which can be elaborated, before those that are made
abbrev pub invariant-body-loop-statement : goal.invariant-body-loop-statement
invariant-body-loop-statement l = record {
  smaller : AreSmaller l.fn.body (map (λ s. s.now) l.left.items);
  fits : (x : StatementTree) → In x (map (λ s. statement_view s.now) l.left.items) → StatementFits l.self x;
  whole : statements_before (frame_view l.self) (map (λ s. statement_view s.now) l.left.items) (code.body_view l.made) ≡ body_bits (frame_view l.self) (body_view l.fn.body);
}

abbrev pub decreases-body-loop-statement : goal.decreases-body-loop-statement
decreases-body-loop-statement l = length l.left.items

-- the parts that are made, before those that are left
abbrev pub invariant-parts-loop-rest : goal.invariant-parts-loop-rest
invariant-parts-loop-rest l = record {
  smaller : size-Parts l.rest ≤ size-Parts l.fn.parts;
  fits : PartsFit l.self (parts_view l.rest);
  whole : parts_before l.made.items (parts_bits (frame_view l.self) (parts_view l.rest)) ≡ parts_bits (frame_view l.self) (parts_view l.fn.parts);
}

abbrev pub invariant-branches-loop-rest : goal.invariant-branches-loop-rest
invariant-branches-loop-rest l = record {
  smaller : size-Branches l.rest ≤ size-Branches l.fn.branches;
  fits : BranchesFit l.self (branches_view l.rest);
  whole : branches_before l.made.items (branches_bits (frame_view l.self) (branches_view l.rest)) ≡ branches_bits (frame_view l.self) (branches_view l.fn.branches);
}
