-- What is sought of statements: output bits, or the bits of the next code.
use Rattle.std.specs.Prelude.{◌≡◌, ◌≢◌, ℕ, ◌<◌, List, [], length, slice_index_or, Option, None}
use Rattle.vlsi_base.specs.declared.name.Name.{Name}
use Rattle.bool_expr.specs.declared.expr.Expr.{Expr}
use Rattle.bool_expr.specs.Expression.{Expression}
use Rattle.bool_expr.specs.View.{view}
use Rattle.machine_core.specs.Checked.{AreInOrder}
use Rattle.fsm_machine.specs.Statements.{Assignment}
use Rattle.fsm_machine.specs.MachineOf.{output_given, code_given}
use Rattle.fsm_code.specs.declared.target.Targets.{Targets}
use Rattle.fsm_code.specs.declared.target.Targets.TheVariants as targets

abbrev pub nameless : Name
nameless = record { text = []; bit = None }

-- what an assignment gives to the target at a place
abbrev pub given_at : Targets → ℕ → Assignment → Option Expression
given_at (targets.Outputs names) k = output_given (slice_index_or names.now k nameless)
given_at (targets.Code codes) k = code_given codes.now k

-- how many targets there are
abbrev pub count_of : Targets → ℕ
count_of (targets.Outputs names) = length names.now
count_of (targets.Code codes) = codes.now.width

-- the names of outputs stand in the order of names
abbrev pub AreInTheirOrder : Targets → Type 0
AreInTheirOrder (targets.Outputs names) = AreInOrder names.now
AreInTheirOrder (targets.Code codes) = Unit {0}

-- the name stands at this place of the list
abbrev pub Stands : List Name → ℕ → Name → Type 0
Stands names k name = (k < length names) × ((d : Name) → slice_index_or names k d ≡ name)

-- the name doesn't stand in the list
abbrev pub IsNowhere : List Name → Name → Type 0
IsNowhere names name = (k : ℕ) (d : Name) → k < length names → slice_index_or names k d ≢ name

-- of each value this is made, by its place
abbrev pub EachBecomes : (ℕ → Expression → Expression) → List Expr → List Expr → Type 0
EachBecomes made olds news = (length news ≡ length olds)
    × ((k : ℕ) (d : Expr) → k < length olds → view (slice_index_or news k d) ≡ made k (view (slice_index_or olds k d)))
