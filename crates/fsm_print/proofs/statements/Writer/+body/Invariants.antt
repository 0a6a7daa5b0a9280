use Rattle.std.proofs.Common.{◌≡◌, ◌+◌, ◌*◌, ◌≤◌, ◌++◌}
use Rattle.spell_theory.specs.Layout.{text_of}
use Rattle.fsm_code.specs.View.{body_view, parts_view, branches_view}
use Rattle.fsm_code.specs.declared.statements.Statements.{size-Statements}
use Rattle.fsm_code.specs.declared.statements.Parts.{size-Parts}
use Rattle.fsm_code.specs.declared.statements.Branches.{size-Branches}
use Rattle.fsm_print.specs.Layout.{body_layout, parts_layout, branches_layout}
use Rattle.fsm_print.specs.Pieces.{IsKnownBody, AreKnownParts, AreKnownBranches}
use Rattle.fsm_print.proofs.statements.Writer.+body.Given as goal

-- all go by what they are given, and for that from the loops up
abbrev pub decreases-body : goal.decreases-body
decreases-body l = 4 * size-Statements l.body.now

abbrev pub decreases-part : goal.decreases-part
decreases-part l = 4 * size-Statements l.body.now + 1

abbrev pub decreases-listed_branch : goal.decreases-listed_branch
decreases-listed_branch l = 4 * size-Statements l.body.now + 1

abbrev pub decreases-parts : goal.decreases-parts
decreases-parts l = 4 * size-Parts l.parts.now

abbrev pub decreases-conditional : goal.decreases-conditional
decreases-conditional l = 4 * size-Parts l.parts.now + 1

abbrev pub decreases-branches : goal.decreases-branches
decreases-branches l = 4 * size-Branches l.branches.now

abbrev pub decreases-selection : goal.decreases-selection
decreases-selection l = 4 * size-Branches l.branches.now + 1

-- what is written, and the text of what is left
abbrev pub invariant-body-loop-rest : goal.invariant-body-loop-rest
invariant-body-loop-rest l = record {
  smaller : size-Statements l.rest ≤ size-Statements l.fn.body;
  known : IsKnownBody l.self.words.now (body_view l.rest);
  same : l.out ++ text_of (body_layout l.self.words.now (body_view l.rest)) ≡ l.fn.out ++ text_of (body_layout l.self.words.now (body_view l.fn.body));
}

abbrev pub invariant-parts-loop-rest : goal.invariant-parts-loop-rest
invariant-parts-loop-rest l = record {
  smaller : size-Parts l.rest ≤ size-Parts l.fn.parts;
  known : AreKnownParts l.self.words.now (parts_view l.rest);
  same : l.out ++ text_of (parts_layout l.self.words.now (parts_view l.rest)) ≡ l.fn.out ++ text_of (parts_layout l.self.words.now (parts_view l.fn.parts));
}

abbrev pub invariant-branches-loop-rest : goal.invariant-branches-loop-rest
invariant-branches-loop-rest l = record {
  smaller : size-Branches l.rest ≤ size-Branches l.fn.branches;
  known : AreKnownBranches l.self.words.now (branches_view l.rest);
  same : l.out ++ text_of (branches_layout l.self.words.now (branches_view l.rest)) ≡ l.fn.out ++ text_of (branches_layout l.self.words.now (branches_view l.fn.branches));
}
