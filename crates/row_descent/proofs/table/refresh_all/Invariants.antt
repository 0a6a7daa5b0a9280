use Rattle.std.proofs.Common.{◌≡◌, drop}
use Rattle.row_descent.specs.Spans.{AreSpansNear, refreshed_all, total_of}
use Rattle.row_descent.specs.Tables.{nets_in}
use Rattle.row_descent.proofs.table.refresh_all.Given as goal

-- the nets that are left lead to what all lead to
abbrev pub invariant-loop-net : goal.invariant-loop-net
invariant-loop-net l = record {
  spans : refreshed_all l.starts l.window.low l.window.high (nets_in l.nets) (drop l.net-index l.list) l.spans
      ≡ refreshed_all l.starts l.window.low l.window.high (nets_in l.nets) l.list l.initial.spans;
  near : AreSpansNear l.spans;
  total : l.total ≡ total_of l.spans;
}
