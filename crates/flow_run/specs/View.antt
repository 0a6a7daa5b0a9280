-- Where a machine comes from, as the definitions see it.
use Rattle.flow_run.specs.declared.source.Origin.{Origin as OriginOf}
use Rattle.flow_run.specs.declared.source.Origin.TheVariants as origins
use Rattle.flow_run.specs.Origin.{Origin, equations, states}

abbrev pub origin_view : OriginOf → Origin
origin_view origins.Equations = equations
origin_view (origins.States f k) = states f k
