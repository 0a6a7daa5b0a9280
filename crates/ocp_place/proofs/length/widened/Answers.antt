use Rattle.std.proofs.Common.{sym, ap, ◌∙◌}
use Rattle.ocp_place.specs.Spans.{shown_span}
use Rattle.ocp_place.proofs.Sums.{span_next}
use Rattle.ocp_place.proofs.length.widened.Goals as goal

pub returns-in-Some-clause-span : goal.returns-in-Some-clause-span
returns-in-Some-clause-span c = λ numbers is.
    span_next c.in-Some.low c.in-Some.high c.args.z c.min.result c.max.result numbers c.min.ensures c.max.ensures (ap shown_span (sym c.in-Some.is) ∙ is)
