-- Rows of instances are as long as the rows of their numbers, so what was improved by number is improved by name.
use Rattle.std.specs.Prelude.{◌≡◌, ◌↔◌, ◌≤◌, ◌<◌, ◌^◌, ℕ, List, filter, length, map, flat_map, IsPermutation}
use Rattle.vlsi_base.specs.declared.name.Name.{Name}
use Rattle.vlsi_base.specs.Member.{In}
use Rattle.cell_model.specs.Access.{count_to}
use Rattle.cell_model.specs.Library.{Library}
use Rattle.net_core.specs.Netlist.{Netlist as InMemory}
use Rattle.net_meaning.specs.Netlist.{AbstractNetlist}
use Rattle.net_right.specs.View.{IsSeenAs}
use Rattle.net_drawing.specs.Shown.{IsSupplyClass}
use Rattle.ocp_rows.specs.Placement.{Placement}
use Rattle.ocp_rows.specs.Length.{is_net}
use Rattle.row_meaning.specs.declared.Pin.{Pin}
use Rattle.row_meaning.specs.First.{numbers}
use Rattle.row_meaning.specs.Length.{Block, hp, HaveSamePins}
use Rattle.row_descent.specs.Steps.{IsImproved}
use Rattle.row_descent.specs.Tables.{IsBlock, AreRowsOf, AreNarrow}
use Rattle.ocp_place.specs.Orderly.{IsOrderly}
use Rattle.ocp_place.specs.Placed.{InRow, rows_of, IsRowPlacementOf}
use Rattle.ocp_place.specs.Stood.{named_rows}
use Rattle.row_bridge.specs.Improved.{above, long_in, IsBetter}
use Rattle.row_bridge.specs.Numbered.{numbered}
use Rattle.row_bridge.specs.Nets.{IsNetPin}

-- each of the numbers below n stands in the rows once, and no other
abbrev pub HoldEachOnce : ℕ → List (List ℕ) → Type 0
HoldEachOnce n rows = IsPermutation (flat_map (λ row. row) rows) (numbers 0 n)

-- The nets of rows of instances, with ports above them, are as long as those of the rows of their numbers.
abbrev pub LengthsAgree : Type 0
LengthsAgree =
    (n : AbstractNetlist) (l : Library) (ports : List Name) (rows : List (List ℕ)) → IsOrderly n l → HoldEachOnce (length n.instances) rows
    → long_in n l ports (named_rows n.instances rows) ≡ hp (numbered n l (above ports (named_rows n.instances rows))) rows

-- Rows that were improved by number are better by name. The columns of the ports hang on the widest row, which exchanges don't change.
abbrev pub ImprovedAbove : Type 0
ImprovedAbove =
    (n : AbstractNetlist) (l : Library) (ports : List Name) (seed moves : ℕ) (old new : List (List ℕ)) → IsOrderly n l
    → HoldEachOnce (length n.instances) old → IsImproved (numbered n l (above ports (named_rows n.instances old))) seed moves old new
    → IsBetter n l seed moves (above ports (named_rows n.instances old)) (above ports (named_rows n.instances new))

-- what rows need to be improved
pub record CanBeImproved (b : Block) (rows : List (List ℕ)) : Type 0 where
  pub block : IsBlock b
  pub rows_are : AreRowsOf b rows
  pub narrow : AreNarrow b rows

-- A placement in memory, which is narrow and has few classes, can be improved by number.
abbrev pub PlacedCanBeImproved : Type 0
PlacedCanBeImproved =
    (l : Library) (n : InMemory) (p : InRow) (k : AbstractNetlist) → IsRowPlacementOf l n p → IsSeenAs n k → p.width ≤ 70000000000000
    → k.classes < 2 ^ 32 → CanBeImproved (numbered k l (rows_of k p)) p.rows

-- So can one whose nets have the same pins, in whatever order and however often they are listed.
abbrev pub AlikeCanBeImproved : Type 0
AlikeCanBeImproved =
    (left : ℕ) (widths : List ℕ) (nets others : List (List Pin)) (rows : List (List ℕ)) → HaveSamePins nets others
    → CanBeImproved (record { left = left; widths = widths; nets = others }) rows
    → CanBeImproved (record { left = left; widths = widths; nets = nets }) rows

-- Rows that were improved hold each instance once, as they did.
abbrev pub ImprovedHoldEachOnce : Type 0
ImprovedHoldEachOnce =
    (b : Block) (n seed moves : ℕ) (old new : List (List ℕ)) → HoldEachOnce n old → IsImproved b seed moves old new → HoldEachOnce n new

-- Lists that hold, for each class but those of the supplies, its ports and signal pins and no others, are the nets by number, whatever
-- the order of their pins.
abbrev pub NetsAreAlike : Type 0
NetsAreAlike =
    (n : AbstractNetlist) (l : Library) (p : Placement) (f : ℕ → List Pin) → IsOrderly n l
    → ((class : ℕ) (q : Pin) → class < n.classes → (IsSupplyClass n class → ⊥) → In q (f class) ↔ IsNetPin n l p class q)
    → HaveSamePins (map f (filter (is_net n) (count_to n.classes))) (numbered n l p).nets
