use Rattle.vbe_writable.proofs.Named.{catal_is_named}
use Rattle.vbe_writable.proofs.laws.catal_is_named.Goals as goal

pub returns : goal.returns
returns c = catal_is_named
