use Rattle.std.proofs.Common.{◌≡◌, ◌<◌, List, [], ◌∷◌, map, length, pos, sym, ap, ◌∙◌, arith}
use Rattle.std.proofs.lemmas.Simd.{map-map}
use Rattle.std.proofs.lemmas.Bool.Decides.{nat_tests}
use Rattle.cell_model.specs.Access.{Point}
use Rattle.ocp_place.specs.declared.row.Site.{Site}
use Rattle.ocp_place.specs.Reaches.{site_of}
use Rattle.ocp_place.specs.Spans.{span}
use Rattle.nero_tracks.specs.Tracks.{track_span}
use Rattle.nero_tracks.proofs.route.track_span.Goals as goal

abbrev point : Site → Point
point s = (site_of s).1

spanned : (sites own : List Site) (points : List Point) → 0 < length own → map point own ≡ points → span (map (λ s. pos s.x) sites) ≡ track_span (map point sites) points
spanned sites [] points some e = absurd (omega (arith, some))
spanned sites (s ∷ own) points some e = ap span (sym (map-map (λ (r : Point). r.0) point sites)) ∙ ap (track_span (map point sites)) e

pub returns-clause-span : goal.returns-clause-span
returns-clause-span c =
    let some : 0 < length c.net_pins.result.now = grind (arith, nat_tests) in
    c.span.ensures.span ∙ spanned c.args.ends.now c.net_pins.result.now _ some c.net_pins.ensures.points
