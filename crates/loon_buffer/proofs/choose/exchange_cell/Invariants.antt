use Rattle.std.proofs.Common.{◌≡◌, ℕ, ◌<◌, get_or}
use Rattle.loon_buffer.specs.Choices.{IsReady, DoesNotHelp}
use Rattle.loon_buffer.proofs.choose.exchange_cell.Given as goal

abbrev pub invariant-loop-drive : goal.invariant-loop-drive
invariant-loop-drive l = record {
  kept : l.netlist ≡ l.initial.netlist;
  marks : l.delays.marks ≡ l.initial.delays.marks;
  ready : IsReady l.library l.netlist l.delays;
  idle : (j : ℕ) → j < l.drive-index → DoesNotHelp l.library l.initial.netlist l.number (get_or l.drive-items j 0);
}
