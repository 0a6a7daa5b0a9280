use Rattle.std.proofs.Common.{◌≡◌, length}
use Rattle.cell_model.specs.Library.{Library}
use Rattle.net_core.specs.Netlist.{Netlist, IsNetlist}
use Rattle.delay_sta.specs.Timed.{AreDelaysOf}
use Rattle.delay_sta.proofs.Tracing.{IsTracing}
use Rattle.delay_sta.proofs.arrivals.Delays.trace.Given as goal

abbrev pub invariant-loop-k : goal.invariant-loop-k
invariant-loop-k l = record {
  others : record l.self { marks = l.initial.self.marks } ≡ l.initial.self;
  many : length l.self.marks.items ≡ length l.initial.self.marks.items;
  tracing : (n : Netlist) (library : Library) (sound : IsNetlist n) (are : AreDelaysOf n library l.initial.self) → IsTracing n library sound l.initial.self are l.self.marks.items l.k l.at;
}
