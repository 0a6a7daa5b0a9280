-- Statements and conditions in the order in which they stand, each without what stands behind it.
use Rattle.std.specs.Prelude.{List, [], ◌∷◌}
use Rattle.bool_expr.specs.View.{view}
use Rattle.fsm_machine.specs.Statements.{Statements, assign, choose, select, Parts, further}
use Rattle.fsm_code.specs.View.{assignment_view, body_view, parts_view, branches_view}
use Rattle.fsm_merge.specs.declared.pieces.Piece.{Piece}
use Rattle.fsm_merge.specs.declared.pieces.Piece.TheVariants as piece
use Rattle.fsm_merge.specs.declared.pieces.Arm.{Arm}

-- a statement before others
abbrev pub with_piece : Piece → Statements → Statements
with_piece (piece.Assign a) rest = assign (assignment_view a) rest
with_piece (piece.Choose parts) rest = choose (parts_view parts.value) rest
with_piece (piece.Select branches) rest = select (branches_view branches.value) rest

abbrev pub with_pieces : List Piece → Statements → Statements
with_pieces [] rest = rest
with_pieces (p ∷ pieces) rest = with_piece p (with_pieces pieces rest)

-- a condition with its part before others
abbrev pub with_arm : Arm → Parts → Parts
with_arm arm more = further (view arm.condition) (body_view arm.part.value) more

abbrev pub with_arms : List Arm → Parts → Parts
with_arms [] more = more
with_arms (a ∷ arms) more = with_arm a (with_arms arms more)
