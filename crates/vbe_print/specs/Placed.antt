-- The value of the text of a machine: what stands there, with each line on which it stands.
use Rattle.std.specs.Prelude.{ℕ, ◌+◌, true, List, [], ◌∷◌, ◌++◌, Option, None, Some}
use Rattle.vlsi_base.specs.declared.name.Name.{Name}
use Rattle.vlsi_base.specs.declared.expression.Operator.{Operator}
use Rattle.vlsi_base.specs.declared.expression.Operator.TheVariants as operator
use Rattle.vlsi_base.specs.declared.entity.TypeWord.TheVariants as type
use Rattle.vlsi_base.specs.declared.entity.SignalType.{SignalType}
use Rattle.vlsi_base.specs.declared.entity.SignalGroup.{SignalGroup}
use Rattle.vlsi_base.specs.Tree.{Tree, bit, name, index, stable, inverse, binary}
use Rattle.bool_expr.specs.declared.expr.Gate.{Gate}
use Rattle.bool_expr.specs.declared.expr.Gate.TheVariants as gate
use Rattle.bool_expr.specs.Expression.{Expression, constant, variable, inverse as not_of, pair, choice}
use Rattle.machine_core.specs.Machine.{Machine, Equation, Register, register_names}
use Rattle.source_checks.specs.declared.statement.Target.{Target}
use Rattle.spell_theory.specs.Layout.{line_behind, line_of}
use Rattle.vhdl_print.specs.Outline.{Bounds, placed_type, placed_entity, entity_layout}
use Rattle.vst_print.specs.Groups.{Group, bounds_of, grouped, outline}
use Rattle.vst_print.specs.Structure.{signals_layout, begin_layout}
use Rattle.vst_print.specs.Placed.{selected}
use Rattle.vbe_text.specs.Source.{GuardedTree, ChoiceTree, AssignmentTree, StatementTree, assigned, blocked, SourceTree}
use Rattle.vbe_print.specs.Expressions.{name_of}
use Rattle.vbe_print.specs.Written.{with_supply_ports, head_layout, registers_layout, equation_layout, equations_layout, block_layout, loading_layout, as_ports, signal_texts, written_names, written_vars}

-- ---- expressions, all on one line

abbrev pub operator_of : Gate → Operator
operator_of gate.And = operator.And
operator_of gate.Or = operator.Or
operator_of gate.Nand = operator.Nand
operator_of gate.Nor = operator.Nor
operator_of gate.Xor = operator.Xor
operator_of gate.Xnor = operator.Xnor

abbrev pub placed_bit : List ℕ → ℕ → Option ℕ → Tree
placed_bit text line None = name text line
placed_bit text line (Some k) = index text line k

abbrev pub placed_name : ℕ → Name → Tree
placed_name line n = placed_bit n.text line n.bit

abbrev pub tree : List Name → ℕ → Expression → Tree
tree names line (constant b) = bit b line
tree names line (variable k) = placed_name line (name_of names k)
tree names line (not_of e) = inverse line (tree names line e)
tree names line (pair g a b) = binary (operator_of g) line (tree names line a) (tree names line b)
tree names line (choice c a b) =
    binary operator.Or line (binary operator.And line (tree names line c) (tree names line a))
    (binary operator.And line (inverse line (tree names line c)) (tree names line b))

-- ---- values, each further alternative on the next line

abbrev pub with_alternative : GuardedTree → ChoiceTree → ChoiceTree
with_alternative g c = record { alternatives = g ∷ c.alternatives; otherwise = c.otherwise }

abbrev pub placed_value : List Name → ℕ → Expression → ChoiceTree
placed_value names line (choice c a b) =
    with_alternative (record { value = tree names line a; condition = tree names line c; line = line }) (placed_value names (line_behind line) b)
placed_value names line e = record { alternatives = []; otherwise = tree names line e }

abbrev pub placed_target : ℕ → Name → Target
placed_target line n = record { name = n.text; line = line; selection = selected n.bit }

abbrev pub placed_assignment : List Name → ℕ → Name → Expression → AssignmentTree
placed_assignment names line target e = record { target = placed_target line target; choice = placed_value names line e }

abbrev pub placed_equations : List Name → ℕ → List Name → List Equation → List StatementTree
placed_equations vars line [] es = []
placed_equations vars line (n ∷ names) [] = []
placed_equations vars line (n ∷ names) (e ∷ es) =
    assigned (placed_assignment vars line n e.expr) ∷ placed_equations vars (line_of line (equation_layout vars n e.expr)) names es

-- ---- blocks; the guard stands on the first line, and the assignment on the third

abbrev pub rises : ℕ → Name → Tree
rises line clock = binary operator.And line (name clock.text line) (inverse line (stable clock.text line))

abbrev pub with_condition : List Name → ℕ → Tree → Expression → Tree
with_condition vars line guard (constant true) = guard
with_condition vars line guard e = binary operator.And line guard (tree vars line e)

abbrev pub placed_guard : List Name → ℕ → Name → Expression → Tree
placed_guard vars line clock enable = binary operator.Equal line (with_condition vars line (rises line clock) enable) (bit true line)

abbrev pub placed_block : List Name → ℕ → Name → Register → StatementTree
placed_block vars line clock r = blocked (record {
  guard = placed_guard vars line clock r.enable;
  line = line;
  assignments = placed_assignment vars (line_behind (line_behind line)) r.name r.next ∷ [];
})

abbrev pub placed_blocks : List Name → ℕ → Name → ℕ → List Register → List StatementTree
placed_blocks vars line clock k [] = []
placed_blocks vars line clock k (r ∷ rs) =
    placed_block vars line clock r
    ∷ placed_blocks vars (line_of line (block_layout vars clock k r.enable (loading_layout vars r))) clock (k + 1) rs

abbrev pub placed_clocked : List Name → ℕ → Name → List Register → List StatementTree
placed_clocked vars line clock [] =
    blocked (record { guard = placed_guard vars line clock (constant true); line = line; assignments = [] }) ∷ []
placed_clocked vars line clock (r ∷ rs) = placed_blocks vars line clock 0 (r ∷ rs)

abbrev pub placed_storage : List Name → ℕ → Option Name → List Register → List StatementTree
placed_storage vars line None rs = []
placed_storage vars line (Some clock) rs = placed_clocked vars line clock rs

-- ---- declarations

abbrev pub placed_signals : ℕ → List (List ℕ) → List SignalGroup
placed_signals line [] = []
placed_signals line (s ∷ ss) =
    record { line = line; names = record { text = s; line = line } ∷ []; kind = placed_type line None } ∷ placed_signals (line_behind line) ss

abbrev pub placed_register_type : ℕ → Option Bounds → SignalType
placed_register_type line None = record { word = type.RegBit; line = line; range = None }
placed_register_type line (Some b) = record {
  word = type.RegVector;
  line = line;
  range = Some (record { left = b.left; falls = b.falls; right = b.right; line = line });
}

abbrev pub placed_groups : ℕ → List Group → List SignalGroup
placed_groups line [] = []
placed_groups line (g ∷ gs) =
    record { line = line; names = record { text = g.text; line = line } ∷ []; kind = placed_register_type line (bounds_of g.low g.high) }
    ∷ placed_groups (line_behind line) gs

-- ---- the whole text

-- by a stem for inner signals
abbrev pub source_of : List ℕ → Machine → SourceTree
source_of stem m =
    let entity = outline m.name (with_supply_ports m.ports) in
    let declared = line_of (line_of 1 (entity_layout entity)) (head_layout m.name) in
    let stored = line_of declared (signals_layout (signal_texts stem m)) in
    let begun = line_of (line_of stored (registers_layout (register_names m))) begin_layout in
    let blocks = line_of begun (equations_layout (written_vars stem m) (written_names stem m) m.equations) in
    record {
      entity = placed_entity 1 entity;
      declarations = record { signals = placed_signals declared (signal_texts stem m) ++ placed_groups stored (grouped (as_ports (register_names m))) };
      statements = placed_equations (written_vars stem m) begun (written_names stem m) m.equations
          ++ placed_storage (written_vars stem m) blocks m.clock m.registers;
    }
