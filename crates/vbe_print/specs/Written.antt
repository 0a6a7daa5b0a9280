-- A machine as a data-flow text.
use Rattle.std.specs.Prelude.{ℕ, ◌+◌, Bool, true, not, List, [], ◌∷◌, ◌++◌, map, filter, length, Option, None, Some, codes, if◌then◌else◌}
use Rattle.std.specs.List.{list_any}
use Rattle.std.specs.Fmt.{decimal}
use Rattle.vlsi_base.specs.declared.name.Name.{Name}
use Rattle.vlsi_base.specs.declared.name.Port.{Port}
use Rattle.vlsi_base.specs.declared.name.Dir.TheVariants as dir
use Rattle.vlsi_base.specs.Names.{scalar, vdd, vss}
use Rattle.bool_expr.specs.Expression.{Expression, constant}
use Rattle.machine_core.specs.Named.{is_same_name}
use Rattle.machine_core.specs.Machine.{Machine, Equation, Register, outputs, inputs, register_names}
use Rattle.machine_core.specs.Order.{equation_names}
use Rattle.vhdl_token.specs.declared.keyword.Keyword.TheVariants as word
use Rattle.vhdl_token.specs.declared.token.Token.TheVariants as token
use Rattle.vhdl_token.specs.declared.token.Sign.TheVariants as sign
use Rattle.spell_theory.specs.Layout.{Written, gap, turn, says}
use Rattle.vhdl_print.specs.Outline.{Bounds, a_word, a_sign, a_name, a_number, direction_word, entity_layout}
use Rattle.vst_print.specs.Groups.{Group, bounds_of, grouped, outline}
use Rattle.vst_print.specs.Structure.{name_layout, signals_layout, begin_layout}
use Rattle.text_names.specs.Free.{free_texts}
use Rattle.vbe_print.specs.Expressions.{laid, operand, value_layout}

-- ---- names of inner signals

-- the outputs have equations, and so have the inner signals
abbrev pub is_output : Machine → Name → Bool
is_output m name = list_any (λ n. is_same_name n name) (outputs m)

abbrev pub taken_texts : Machine → List (List ℕ)
taken_texts m = map (λ p. p.name.text) m.ports ++ map (λ r. r.name.text) m.registers

-- how many equations are those of inner signals
abbrev pub inner_count : Machine → ℕ
inner_count m = length (filter (λ name. not (is_output m name)) (equation_names m))

-- a stem with 0, with 1, and so on, without those that are the text of a port or a register
abbrev pub signal_texts : List ℕ → Machine → List (List ℕ)
signal_texts stem m = free_texts stem (taken_texts m) (inner_count m)

-- the names of equations, where those of inner signals are replaced by others in their order
abbrev pub renamed : (Name → Bool) → List Name → List Name → List Name
renamed keeps [] others = []
renamed keeps (n ∷ names) [] = n ∷ renamed keeps names []
renamed keeps (n ∷ names) (o ∷ others) = if keeps n then n ∷ renamed keeps names (o ∷ others) else o ∷ renamed keeps names others

-- the names under which the text has the equations
abbrev pub written_names : List ℕ → Machine → List Name
written_names stem m = renamed (is_output m) (equation_names m) (map scalar (signal_texts stem m))

-- all names but the clock's as the text has them: variable k of an expression is number k of them
abbrev pub written_vars : List ℕ → Machine → List Name
written_vars stem m = inputs m ++ register_names m ++ written_names stem m

-- ---- layout

abbrev pub architecture_name : List ℕ
architecture_name = codes "data_flow"

-- the ports, and behind them the two supplies
abbrev pub with_supply_ports : List Port → List Port
with_supply_ports ports = ports ++ record { name = vdd; dir = dir.In } ∷ record { name = vss; dir = dir.In } ∷ []

abbrev pub head_layout : List ℕ → List Written
head_layout entity =
    turn ∷ a_word word.Architecture ∷ gap ∷ a_name architecture_name ∷ gap ∷ a_word word.Of ∷ gap ∷ a_name entity ∷ gap
    ∷ a_word word.Is ∷ turn ∷ []

-- `reg_bit register`, or `reg_vector (3 downto 0) register`
abbrev pub register_type : Option Bounds → List Written
register_type None = a_word word.RegBit ∷ gap ∷ a_word word.Register ∷ []
register_type (Some b) =
    a_word word.RegVector ∷ gap ∷ a_sign sign.LeftParen ∷ a_number b.left ∷ gap ∷ a_word (direction_word b.falls) ∷ gap
    ∷ a_number b.right ∷ a_sign sign.RightParen ∷ gap ∷ a_word word.Register ∷ []

-- registers of one text on a line
abbrev pub group_layout : Group → List Written
group_layout g =
    a_word word.Signal ∷ gap ∷ a_name g.text ∷ gap ∷ a_sign sign.Colon ∷ gap ∷ register_type (bounds_of g.low g.high)
    ++ (a_sign sign.Semicolon ∷ turn ∷ [])

abbrev pub groups_layout : List Group → List Written
groups_layout [] = []
groups_layout (g ∷ gs) = group_layout g ++ groups_layout gs

-- names in their order are grouped as ports are
abbrev pub as_port : Name → Port
as_port n = record { name = n; dir = dir.Out }

abbrev pub as_ports : List Name → List Port
as_ports names = map as_port names

abbrev pub registers_layout : List Name → List Written
registers_layout names = groups_layout (grouped (as_ports names))

-- an equation, on a line and on one more for each further alternative
abbrev pub equation_layout : List Name → Name → Expression → List Written
equation_layout vars name e =
    name_layout name ++ (gap ∷ a_sign sign.Assign ∷ gap ∷ value_layout vars e ++ (a_sign sign.Semicolon ∷ turn ∷ []))

abbrev pub equations_layout : List Name → List Name → List Equation → List Written
equations_layout vars [] es = []
equations_layout vars (n ∷ names) [] = []
equations_layout vars (n ∷ names) (e ∷ es) = equation_layout vars n e.expr ++ equations_layout vars names es

-- what a guard asks beside the clock's rise: nothing where it is always 1
abbrev pub condition_layout : List Name → Expression → List Written
condition_layout vars (constant true) = []
condition_layout vars e = gap ∷ a_word word.And ∷ gap ∷ operand (laid vars e)

-- `((ck and not ck'stable`
abbrev pub rise_layout : List ℕ → List Written
rise_layout clock =
    a_sign sign.LeftParen ∷ a_sign sign.LeftParen ∷ a_name clock ∷ gap ∷ a_word word.And ∷ gap ∷ a_word word.Not ∷ gap
    ∷ a_name clock ∷ a_sign sign.Tick ∷ a_name (codes "stable") ∷ []

-- `) = '1')`, and the end of the line
abbrev pub guard_end : List Written
guard_end = a_sign sign.RightParen ∷ gap ∷ a_sign sign.Equal ∷ gap ∷ says (token.Bit true) ∷ a_sign sign.RightParen ∷ turn ∷ []

-- `((ck and not ck'stable and ENABLE) = '1')`
abbrev pub guard_layout : List Name → Name → Expression → List Written
guard_layout vars clock enable = rise_layout clock.text ++ (condition_layout vars enable ++ guard_end)

abbrev pub label : ℕ → List ℕ
label k = codes "b" ++ decimal k

-- up to the assignments of block number k
abbrev pub block_head_layout : List Name → Name → ℕ → Expression → List Written
block_head_layout vars clock k enable =
    a_name (label k) ∷ gap ∷ a_sign sign.Colon ∷ gap ∷ a_word word.Block ∷ gap ∷ guard_layout vars clock enable
    ++ (a_word word.Begin ∷ turn ∷ [])

abbrev pub block_end : List Written
block_end = a_word word.End ∷ gap ∷ a_word word.Block ∷ a_sign sign.Semicolon ∷ turn ∷ []

-- block number k, with these assignments
abbrev pub block_layout : List Name → Name → ℕ → Expression → List Written → List Written
block_layout vars clock k enable assignments = block_head_layout vars clock k enable ++ (assignments ++ block_end)

abbrev pub loading_layout : List Name → Register → List Written
loading_layout vars r =
    gap ∷ gap ∷ name_layout r.name ++ (gap ∷ a_sign sign.Assign ∷ gap ∷ a_word word.Guarded ∷ gap
    ∷ value_layout vars r.next ++ (a_sign sign.Semicolon ∷ turn ∷ []))

-- the block of a register
abbrev pub register_layout : List Name → Name → ℕ → Register → List Written
register_layout vars clock k r = block_layout vars clock k r.enable (loading_layout vars r)

-- a block for each register, from number k on
abbrev pub blocks_layout : List Name → Name → ℕ → List Register → List Written
blocks_layout vars clock k [] = []
blocks_layout vars clock k (r ∷ rs) = register_layout vars clock k r ++ blocks_layout vars clock (k + 1) rs

-- Of a machine with a clock. Where it has no register, one empty block names the clock.
abbrev pub clocked_layout : List Name → Name → List Register → List Written
clocked_layout vars clock [] = block_layout vars clock 0 (constant true) []
clocked_layout vars clock (r ∷ rs) = blocks_layout vars clock 0 (r ∷ rs)

abbrev pub storage_layout : List Name → Option Name → List Register → List Written
storage_layout vars None rs = []
storage_layout vars (Some clock) rs = clocked_layout vars clock rs

abbrev pub last_layout : List Written
last_layout = a_word word.End ∷ gap ∷ a_name architecture_name ∷ a_sign sign.Semicolon ∷ turn ∷ []

-- the whole text, by a stem for inner signals: the entity, the declarations of these and of registers, the equations, and the blocks
unfoldable pub layout_by : List ℕ → Machine → List Written
layout_by stem m =
    entity_layout (outline m.name (with_supply_ports m.ports))
    ++ (head_layout m.name
    ++ (signals_layout (signal_texts stem m)
    ++ (registers_layout (register_names m)
    ++ (begin_layout
    ++ (equations_layout (written_vars stem m) (written_names stem m) m.equations
    ++ (storage_layout (written_vars stem m) m.clock m.registers ++ last_layout))))))

-- the text whose inner signals are n0, n1, and so on
abbrev pub layout : Machine → List Written
layout m = layout_by (codes "n") m
