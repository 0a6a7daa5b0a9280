-- Statements, parts and branches one behind the other, on their way to what they are bit by bit.
use Rattle.std.specs.Prelude.{◌<◌, List, [], ◌∷◌}
use Rattle.vlsi_base.specs.Member.{In}
use Rattle.bool_expr.specs.View.{view}
use Rattle.fsm_machine.specs.Statements.{Statements, Parts, further, Branches, listed}
use Rattle.fsm_code.specs.View.{body_view}
use Rattle.fsm_text.specs.declared.file.Statement.{Statement, size-Statement}
use Rattle.fsm_text.specs.declared.file.Body.{Body, size-Body}
use Rattle.fsm_text.specs.Written.{StatementTree}
use Rattle.fsm_io.specs.declared.linked.Part.{Part}
use Rattle.fsm_io.specs.declared.linked.Branch.{Branch}
use Rattle.fsm_io.specs.Elaboration.{Frame, statement_bits}

-- each of these statements is smaller than the body
abbrev pub AreSmaller : Body → List Statement → Type 0
AreSmaller body statements = (s : Statement) → In s statements → size-Statement s < size-Body body

-- statements before others
abbrev pub statements_before : Frame → List StatementTree → Statements → Statements
statements_before f [] rest = rest
statements_before f (s ∷ statements) rest = statement_bits f s (statements_before f statements rest)

-- parts before others
abbrev pub parts_before : List Part → Parts → Parts
parts_before [] last = last
parts_before (p ∷ parts) last = further (view p.condition) (body_view p.body) (parts_before parts last)

-- branches before others
abbrev pub branches_before : List Branch → Branches → Branches
branches_before [] last = last
branches_before (b ∷ branches) last = listed b.states.items (body_view b.body) (branches_before branches last)
