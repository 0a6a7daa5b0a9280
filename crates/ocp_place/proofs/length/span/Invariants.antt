use Rattle.std.proofs.Common.{◌≡◌, ◌≤◌, pos, map, take}
use Rattle.std.specs.Prelude.{IfSome}
use Rattle.ocp_place.specs.Spans.{along_axis, span, shown_span}
use Rattle.ocp_place.proofs.length.span.Given as goal

abbrev pub invariant-loop-site : goal.invariant-loop-site
invariant-loop-site l = record {
  near : IfSome l.range (λ r. (r.0 ≤ 100000000000000) × (r.1 ≤ 100000000000000));
  span : shown_span l.range ≡ span (map (λ s. pos (along_axis l.upright s)) (take l.site-index l.sites));
}
