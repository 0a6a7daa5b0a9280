-- A netlist whose nets have few sinks, and whose cells are chosen so that its longest path is short.
use Rattle.std.specs.Prelude.{ℕ, ◌≤◌, max}
use Rattle.cell_model.specs.Library.{Library}
use Rattle.net_core.specs.Netlist.{Netlist, IsNetlist}
use Rattle.delay_sta.specs.Paths.{IsWorst}
use Rattle.loon_buffer.specs.Drives.{OnlyExchanges, IsDriven}
use Rattle.loon_fanout.specs.Limited.{IsBuffered}

-- What words ask for is 4 or more; less counts as 4.
abbrev pub most_sinks : ℕ → ℕ
most_sinks fanout = max fanout 4

-- The netlist is buffered, and then cells are exchanged for drives of them until no exchange of one instance's cell makes the longest
-- path shorter, which takes so many femtoseconds, and no more than before the exchanges. It may be given more models than the buffered
-- one.
pub record IsDrivenFrom (n : Netlist) (l : Library) (fanout : ℕ) (k : Netlist) (delay : ℕ) : Type 0 where
  pub buffered : Netlist
  pub sound : IsNetlist buffered
  pub is_buffered : IsBuffered n l (most_sinks fanout) buffered
  pub exchanged : OnlyExchanges l (record buffered { models = k.models }) k
  pub driven : IsDriven k l
  pub worst : IsWorst k l delay
  pub no_slower : (before : ℕ) → IsWorst (record buffered { models = k.models }) l before → delay ≤ before
