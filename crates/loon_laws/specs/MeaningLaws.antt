-- What a netlist with buffers and other drives does.
use Rattle.std.specs.Prelude.{ℕ, false}
use Rattle.cell_model.specs.Library.{Library}
use Rattle.cell_checks.specs.Checked.{IsChecked as HasPassed}
use Rattle.net_core.specs.Netlist.{Netlist as InMemory, IsNetlist}
use Rattle.net_meaning.specs.Netlist.{AbstractNetlist}
use Rattle.net_right.specs.View.{IsSeenAs}
use Rattle.loon_fanout.specs.Limited.{IsOfCells, IsBuffered}
use Rattle.loon_drive.specs.Driven.{IsDrivenFrom}
use Rattle.loon_laws.specs.Meaning.{BehavesAs, RunsAs}

-- Whatever the netlist of usable cells is, with buffers and other drives it behaves as before.
abbrev pub DrivenBehavesAsBefore : Type 0
DrivenBehavesAsBefore =
    (n : InMemory) (l : Library) (fanout : ℕ) (k : InMemory) (delay : ℕ) (y x : AbstractNetlist) → HasPassed false l → IsNetlist n → IsNetlist k
    → IsOfCells n l → IsDrivenFrom n l fanout k delay → IsSeenAs n y → IsSeenAs k x → BehavesAs l y x

-- So it does with buffers alone, once its nets are limited.
abbrev pub BufferedBehavesAsBefore : Type 0
BufferedBehavesAsBefore =
    (n : InMemory) (l : Library) (limit : ℕ) (r : InMemory) (y x : AbstractNetlist) → HasPassed false l → IsNetlist n → IsNetlist r
    → IsOfCells n l → IsBuffered n l limit r → IsSeenAs n y → IsSeenAs r x → BehavesAs l y x

-- and with both it runs as before
abbrev pub DrivenRunsAsBefore : Type 0
DrivenRunsAsBefore =
    (n : InMemory) (l : Library) (fanout : ℕ) (k : InMemory) (delay : ℕ) (y x : AbstractNetlist) → HasPassed false l → IsNetlist n → IsNetlist k
    → IsOfCells n l → IsDrivenFrom n l fanout k delay → IsSeenAs n y → IsSeenAs k x → RunsAs l y x

-- netlists that behave alike run alike
abbrev pub AlikeRunAlike : Type 0
AlikeRunAlike = (l : Library) (n k : AbstractNetlist) → BehavesAs l n k → RunsAs l n k
