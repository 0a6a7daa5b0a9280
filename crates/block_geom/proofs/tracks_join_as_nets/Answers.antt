use Rattle.block_geom.proofs.TracksAll.{tracks_join}
use Rattle.block_geom.proofs.TracksClean.{tracks_clean}
use Rattle.block_geom.proofs.tracks_join_as_nets.Goals as goal

pub returns : goal.returns
returns c = record { joined = tracks_join; clean = tracks_clean }
