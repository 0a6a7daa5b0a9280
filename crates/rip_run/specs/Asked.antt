-- What `rip` is asked to do.
use Rattle.std.specs.Prelude.{ℕ}
use Rattle.nero_run.specs.Asked.{Asked}

-- what `nero` is asked, and how often paths may be torn out
pub record AskedRips : Type 0 where
  pub routing : Asked
  pub rips : ℕ
