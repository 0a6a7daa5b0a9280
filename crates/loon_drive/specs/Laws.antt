-- What a netlist with buffers and other drives has of the one that it was made of.
use Rattle.std.specs.Prelude.{◌≡◌, ◌≢◌, ℕ, ◌≤◌, ◌++◌, codes, false, map, length}
use Rattle.vlsi_base.specs.declared.name.Terminal.{Terminal}
use Rattle.machine_core.specs.Machine.{Machine}
use Rattle.machine_core.specs.Checked.{IsChecked}
use Rattle.cell_model.specs.Library.{Library}
use Rattle.cell_checks.specs.Checked.{IsChecked as HasPassed}
use Rattle.net_core.specs.Places.{Stands, IsThere}
use Rattle.net_core.specs.Netlist.{Instance, Netlist, IsNetlist, terminals}
use Rattle.net_meaning.specs.Netlist.{AbstractNetlist as Seen}
use Rattle.net_meaning.specs.Well.{buffer_instance}
use Rattle.net_meaning.specs.Buffers.{AreOne}
use Rattle.net_right.specs.View.{IsSeenAs}
use Rattle.net_right.specs.Right.{IsRightNetlist}
use Rattle.text_names.specs.Free.{free_texts}
use Rattle.loon_buffer.specs.Drives.{IsChosenFor, OnlyExchanges}
use Rattle.loon_fanout.specs.Limited.{IsOfCells, HasFanout}
use Rattle.loon_fanout.specs.Nets.{HasFewInputs, FitsWithoutBuffers, HasNoBuffer}
use Rattle.loon_drive.specs.Driven.{most_sinks, IsDrivenFrom}

-- ---- exchanges of cells

-- the same netlist but for the models that it may be given, and with cells exchanged for drives of them
abbrev pub AreExchanged : Library → Netlist → Netlist → Type 0
AreExchanged l n k = OnlyExchanges l (record n { models = k.models }) k

-- a netlist of cells of the library is still one
abbrev pub CellsStay : Type 0
CellsStay = (l : Library) (n k : Netlist) → AreExchanged l n k → IsOfCells n l → IsOfCells k l

-- and is still right for a machine
abbrev pub RightStays : Type 0
RightStays = (l : Library) (n k : Netlist) (m : Machine) → IsNetlist n → AreExchanged l n k → IsRightNetlist n l m → IsRightNetlist k l m

-- and its nets have no more sinks
abbrev pub FanoutStays : Type 0
FanoutStays = (l : Library) (n k : Netlist) (limit : ℕ) → AreExchanged l n k → HasFanout l limit n → HasFanout l limit k

-- ---- the whole

-- none of its instances is named b with a number
abbrev pub HasNoBufferNames : Netlist → Type 0
HasNoBufferNames n = (i : Instance) (j : ℕ) → IsThere n.instances i → i.name ≢ buffer_instance j

-- Name and ports are the same. Behind the instances of the given netlist, which have their names, stand buffers b0, b1 and so on, without
-- names that are taken.
pub record IsGrown (n k : Netlist) : Type 0 where
  pub name : k.name ≡ n.name
  pub ports : k.ports ≡ n.ports
  pub buffers : ℕ
  pub names : map (λ i. i.name) k.instances ≡ map (λ i. i.name) n.instances ++ free_texts (codes "b") (map (λ i. i.name) n.instances) buffers

abbrev pub DrivenIsGrown : Type 0
DrivenIsGrown = (n : Netlist) (l : Library) (fanout : ℕ) (k : Netlist) (delay : ℕ) → IsDrivenFrom n l fanout k delay → IsGrown n k

-- each given instance has a drive of its cell, and so the same name and pins
abbrev pub DrivenIsChosen : Type 0
DrivenIsChosen =
    (n : Netlist) (l : Library) (fanout : ℕ) (k : Netlist) (delay place : ℕ) (i j : Instance) → IsDrivenFrom n l fanout k delay
    → Stands n.instances place i → Stands k.instances place j → IsChosenFor l i j

-- behind them stand gates of one input and one output
abbrev pub BuffersHaveFewPins : Type 0
BuffersHaveFewPins =
    (n : Netlist) (l : Library) (fanout : ℕ) (k : Netlist) (delay place : ℕ) (j : Instance) → HasPassed false l → IsDrivenFrom n l fanout k delay
    → length n.instances ≤ place → Stands k.instances place j → length j.pins ≡ 4

-- terminals of the given netlist that are in one class, once the buffers are taken out, were in one class
abbrev pub DrivenJoinsNothing : Type 0
DrivenJoinsNothing =
    (n : Netlist) (l : Library) (fanout : ℕ) (k : Netlist) (delay : ℕ) (y x : Seen) → HasPassed false l → IsNetlist n → IsNetlist k
    → IsOfCells n l → HasNoBufferNames n → IsDrivenFrom n l fanout k delay → IsSeenAs n y → IsSeenAs k x
    → (t u : Terminal) → IsThere (terminals n) t → IsThere (terminals n) u → AreOne x l (x.class t) (x.class u) → y.class t ≡ y.class u

-- of a netlist that is right for a machine: few input pins read a class
abbrev pub DrivenHasFewInputs : Type 0
DrivenHasFewInputs =
    (n : Netlist) (l : Library) (m : Machine) (fanout : ℕ) (k : Netlist) (delay : ℕ) (x : Seen) → HasPassed false l → IsNetlist n → IsNetlist k
    → IsChecked m → IsOfCells n l → IsRightNetlist n l m → IsDrivenFrom n l fanout k delay → IsSeenAs k x → HasFewInputs x l m (most_sinks fanout)

-- where it would do without all its buffers, it has none
abbrev pub DrivenNeedsItsBuffers : Type 0
DrivenNeedsItsBuffers =
    (n : Netlist) (l : Library) (fanout : ℕ) (k : Netlist) (delay : ℕ) (x : Seen) → HasPassed false l → IsNetlist n → IsNetlist k
    → IsOfCells n l → HasNoBufferNames n → IsDrivenFrom n l fanout k delay → IsSeenAs k x
    → FitsWithoutBuffers x l (most_sinks fanout) → HasNoBuffer x
