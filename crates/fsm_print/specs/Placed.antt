-- The value of the text of a state machine: what stands there, with each line on which it stands.
use Rattle.std.specs.Prelude.{ℕ, true, List, [], ◌∷◌, map, codes}
use Rattle.vlsi_base.specs.declared.entity.NewName.{NewName}
use Rattle.vlsi_base.specs.declared.expression.Operator.TheVariants as operator
use Rattle.vlsi_base.specs.declared.pragma.Pragma.{Pragma}
use Rattle.vlsi_base.specs.Tree.{Tree, bit, name, stable, inverse, binary}
use Rattle.source_checks.specs.declared.statement.Selection.TheVariants as selection
use Rattle.fsm_machine.specs.Statements as s
use Rattle.fsm_machine.specs.Fsm.{Fsm}
use Rattle.bool_expr.specs.Expression.{Expression}
use Rattle.spell_theory.specs.Layout.{line_behind, placed, line_of}
use Rattle.vhdl_print.specs.Outline.{placed_entity, entity_layout}
use Rattle.vst_print.specs.Groups.{outline}
use Rattle.vbe_print.specs.Expressions.{expression_layout}
use Rattle.vbe_print.specs.Placed.{tree, placed_target}
use Rattle.fsm_text.specs.declared.file.FirstToken.{FirstToken}
use Rattle.fsm_text.specs.Written.{StatementTree, assigned, chosen, selected, BodyTree, finish, next, PartsTree, only, either, further, BranchesTree, closed, others, listed, MachineTree}
use Rattle.fsm_text.specs.FsmReading.{kept_here}
use Rattle.fsm_print.specs.declared.words.Words.{Words}
use Rattle.fsm_print.specs.Layout.{state_text, if_layout, case_layout, body_layout}
use Rattle.fsm_print.specs.Written.{head_layout}

-- ---- statements, each on a line

abbrev pub named_at : ℕ → List ℕ → NewName
named_at line text = record { text = text; line = line }

-- what is kept of the first token of an expression that is laid out
abbrev pub kept_at : Words → ℕ → Expression → FirstToken
kept_at w line e = kept_here (placed line (expression_layout w.vars e))

-- of a name alone
abbrev pub bare_at : ℕ → FirstToken
bare_at line = record { line = line; is_name = true }

abbrev pub placed_assignment : Words → ℕ → s.Assignment → StatementTree
placed_assignment w line (s.output n e) = assigned (placed_target line n) (kept_at w line e) (tree w.vars line e)
placed_assignment w line (s.next k) =
    assigned (record { name = w.next; line = line; selection = selection.Whole }) (bare_at line) (name (state_text w k) line)

-- the line on which statements end that begin on this line
abbrev pub behind_body : Words → ℕ → s.Statements → ℕ
behind_body w line a = line_of line (body_layout w a)

abbrev mutual
  pub placed_body : Words → ℕ → s.Statements → BodyTree
  placed_body w line s.finish = finish
  placed_body w line (s.assign a rest) = next (placed_assignment w line a) (placed_body w (line_behind line) rest)
  placed_body w line (s.choose parts rest) =
      next (chosen (placed_parts w line parts)) (placed_body w (line_of line (if_layout w parts)) rest)
  placed_body w line (s.select branches rest) =
      next (selected line (named_at line w.current) (placed_branches w (line_behind line) branches))
      (placed_body w (line_of line (case_layout w branches)) rest)

  -- from the first condition on
  pub placed_parts : Words → ℕ → s.Parts → PartsTree
  placed_parts w line (s.only c a) = only line (tree w.vars line c) (placed_body w (line_behind line) a)
  placed_parts w line (s.either c a b) =
      either line (tree w.vars line c) (placed_body w (line_behind line) a)
      (placed_body w (line_behind (behind_body w (line_behind line) a)) b)
  placed_parts w line (s.further c a more) =
      further line (tree w.vars line c) (placed_body w (line_behind line) a)
      (placed_parts w (behind_body w (line_behind line) a) more)

  pub placed_branches : Words → ℕ → s.Branches → BranchesTree
  placed_branches w line s.closed = closed
  placed_branches w line (s.others a) = others (placed_body w (line_behind line) a)
  placed_branches w line (s.listed states a more) =
      listed (map (λ k. named_at line (state_text w k)) states) (placed_body w (line_behind line) a)
      (placed_branches w (behind_body w (line_behind line) a) more)

-- ---- the clock's rise

abbrev pub rises : ℕ → List ℕ → Tree
rises line clock =
    binary operator.And line (binary operator.Equal line (name clock line) (bit true line)) (inverse line (stable clock line))

-- ---- the whole text

-- the three pragmas, each on a line
abbrev pub placed_pragmas : Words → List ℕ → List Pragma
placed_pragmas w clock =
    record { key = codes "current_state"; name = w.current; line = 1 }
    ∷ record { key = codes "next_state"; name = w.next; line = 2 }
    ∷ record { key = codes "clock"; name = clock; line = 3 } ∷ []

-- the line of the entity, of the type of the states, and of the first statement
abbrev pub first_line : ℕ
first_line = 4

abbrev pub type_line : Fsm → ℕ
type_line f = line_of (line_of first_line (entity_layout (outline f.name f.ports))) (head_layout f.name)

abbrev pub body_line : Fsm → ℕ
body_line f = line_behind (line_behind (line_behind (line_behind (type_line f))))

abbrev pub machine_of : Words → Fsm → MachineTree
machine_of w f =
    let declared = type_line f in
    let signals = line_behind declared in
    let end = behind_body w (body_line f) f.body in
    let rise = line_behind (line_behind end) in
    let load = line_behind rise in
    record {
      entity = placed_entity first_line (outline f.name f.ports);
      states = record { line = declared; name = named_at declared w.type_name; states = map (λ n. named_at declared n.text) w.states };
      signals = record { line = signals; first = named_at signals w.current; second = named_at signals w.next };
      step = record { sensitivity = []; body = placed_body w (body_line f) f.body; end_line = end };
      clock = record {
        sensitivity = [];
        condition_line = rise;
        condition = rises rise f.clock.text;
        target = named_at load w.current;
        value = named_at load w.next;
      };
    }
