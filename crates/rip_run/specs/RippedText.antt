-- The text of a layout in rows that was routed with rips, and of one in which a net is stuck all the same.
use Rattle.std.specs.Prelude.{◌≡◌, ℕ, List, length}
use Rattle.vlsi_base.specs.declared.name.Terminal.{Terminal}
use Rattle.cell_model.specs.Library.{Library}
use Rattle.net_core.specs.Netlist.{Netlist}
use Rattle.ocp_place.specs.Placed.{InRow}
use Rattle.grid_core.specs.Routes.{NetRoutes}
use Rattle.nero_rip.specs.declared.rip.Rip.{Rip}
use Rattle.nero_rip.specs.Answers.{AreRerouted, AreSpent}
use Rattle.nero_run.specs.declared.written.NoRoutes.{NoRoutes}
use Rattle.nero_run.specs.declared.written.NoRoutes.TheVariants as none
use Rattle.nero_run.specs.RowText.{IsTextOf, IsMarkedText}

-- its nets were routed, each whole, with so many rips
pub record IsRippedText (l : Library) (n : Netlist) (p : InRow) (metals allowed : ℕ) (count : ℕ) (bytes : List ℕ) : Type 0 where
  pub routes : NetRoutes
  pub rips : List Rip
  pub rerouted : AreRerouted l n p metals allowed rips routes
  pub many : length rips ≡ count
  pub shown : IsTextOf l n p routes bytes

-- they were routed up to this one, which lacks a way to this terminal, and no rip helps it any more
pub record IsSpentText (l : Library) (n : Netlist) (p : InRow) (metals allowed net : ℕ) (terminal : Terminal) (bytes : List ℕ) : Type 0 where
  pub routes : NetRoutes
  pub rips : List Rip
  pub spent : AreSpent l n p metals allowed rips routes net terminal
  pub shown : IsMarkedText l n p routes bytes

-- why there is no text of whole routes
abbrev pub LacksRoutes : Library → Netlist → InRow → ℕ → ℕ → NoRoutes → Type 0
LacksRoutes l n p metals allowed none.Memory = Unit {0}
LacksRoutes l n p metals allowed (none.NoPath net terminal bytes) = IsSpentText l n p metals allowed net terminal bytes
