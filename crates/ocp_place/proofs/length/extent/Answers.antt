use Rattle.std.proofs.Common.{pos, map, sym, ap, ◌∙◌}
use Rattle.ocp_place.specs.Spans.{along_axis, shown_span}
use Rattle.ocp_place.proofs.Sums.{extent_some}
use Rattle.ocp_place.proofs.length.extent.Goals as goal

pub overflow_sub-result : goal.overflow_sub-result
overflow_sub-result c =
    (extent_some c.in-Some.low c.in-Some.high (map (λ s. pos (along_axis c.args.upright s)) c.args.sites.now) (ap shown_span (sym c.in-Some.is) ∙ c.span.ensures.span)).0
