-- From a netlist that was mapped and written to what `boog` answers, and what follows of it.
use Rattle.std.proofs.Common.{ℕ, ◌≤◌, false, List, IfSome, Option, sym, subst}
use Rattle.machine_core.specs.Machine.{Machine}
use Rattle.machine_core.specs.Size.{machine_size}
use Rattle.vbe_io.specs.Text.{IsVbe}
use Rattle.cell_model.specs.Library.{Library}
use Rattle.cell_lib.specs.Library.{IsLibraryOf}
use Rattle.net_core.specs.Netlist.{Netlist}
use Rattle.net_right.specs.Laws.{SeenIsWellFormed}
use Rattle.spell_theory.specs.Layout.{text_of}
use Rattle.vbe_writable.specs.Laws.{MachineIsNamed, CatalIsNamed, MachineCanBeWritten, CellCanBeWritten}
use Rattle.vst_print.specs.Written.{layout}
use Rattle.vst_print.specs.Placed.{file_of}
use Rattle.vst_print.specs.Says.{WrittenIsASentence, WrittenSaysTheNetlist}
use Rattle.boog_run.specs.declared.words.BoogCommand.{BoogCommand}
use Rattle.tool_drive.specs.declared.tool.Product.{Product}
use Rattle.boog_run.specs.Boog.{IsNetlistFor, IsWrittenAs, IsMapping}
use Rattle.boog_run.specs.Laws.{MappingAgrees, MappingIsTight, MappingIsSaid}
use Rattle.vst_print.specs.Text.{IsTextOf}
use Rattle.tool_drive.specs.declared.size.TheConstants.{MOST_SIZE}
use Rattle.boog_run.proofs.Naming.{writable}

pub mapping : (c : BoogCommand) (source list : List ℕ) (cells : List (List ℕ)) (l : Library) (m : Machine) (n : Netlist) (p : Product) → IsLibraryOf false list cells l
    → IsVbe source m → machine_size m ≤ MOST_SIZE → IsNetlistFor l m n → IsWrittenAs c.out l n p → IsMapping c source list cells p
mapping c source list cells l m n p library machine small netlist written =
    record { l = l; library = library; m = m; machine = machine; small = small; n = n; netlist = netlist; written = written }

pub agrees : SeenIsWellFormed → MappingAgrees
agrees law c source list cells p h k seen = law h.n h.l h.m k h.netlist.sound h.machine.machine.checked h.netlist.right h.netlist.pins seen

pub tight : MappingIsTight
tight c source list cells p h k seen = h.netlist.tight k seen

pub said : MachineIsNamed → CatalIsNamed → MachineCanBeWritten → CellCanBeWritten → WrittenIsASentence → WrittenSaysTheNetlist → MappingIsSaid
said machines lists written pins_written sentence says c source list cells p h limits =
    let table = h.written.table in
    let can = writable lists pins_written list cells h.l h.library h.m h.n h.netlist h.small (machines source h.m h.machine).0 (written source h.m h.machine) in
    let meets = h.netlist.condition false table h.written.pins h.written.sound in
    let is = sentence h.n table h.netlist.sound meets.fits (can.pins table h.written.pins) can.named limits in
    let text : IsTextOf h.n table (text_of (layout h.n table)) =
    record {
      cut = is.0;
      file = file_of h.n table;
      structure = is.1;
      says = says h.n table h.netlist.sound meets.fits (can.pins table h.written.pins) can.named limits meets.apart;
    } in
    subst (λ (file : Option (List ℕ)). IfSome file (λ bytes. IsTextOf h.n table bytes)) (sym h.written.file) text
