use Rattle.grid_core.proofs.Growing.{routes_begin, routes_grow}
use Rattle.grid_core.proofs.law.routes_grow.Goals as goal

pub returns : goal.returns
returns c = record { begins = routes_begin; grows = routes_grow }
