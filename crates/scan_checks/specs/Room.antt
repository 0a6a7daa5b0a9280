-- How great a netlist may be that gets a scan path.
use Rattle.std.specs.Prelude.{◌^◌, ◌<◌, length}
use Rattle.net_core.specs.Netlist.{Netlist, terminals}

-- Fewer than 2^27 instances, and fewer than 2^27 ports and pins: then instances, ports and pins can be numbered by 32 bits with the
-- gates of a scan path too.
pub record HasRoomForScan (n : Netlist) : Type 0 where
  pub instances : length n.instances < 2 ^ 27
  pub terminals : length (terminals n) < 2 ^ 27
