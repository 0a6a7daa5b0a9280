use Rattle.std.proofs.Common.{◌≡◌, ℕ, ◌<◌, List, [], ◌∷◌, ◌++◌, map, length, get_or, sym, ap, subst, ◌∙◌, arith}
use Rattle.std.specs.List.{All}
use Rattle.std.proofs.lemmas.List.{length-append}
use Rattle.std.proofs.lemmas.List.Elements.{All-push}
use Rattle.nero_tracks.specs.declared.route.Track.{Track}
use Rattle.nero_tracks.specs.Tracks.{IsNearSpan, IsTrack}
use Rattle.nero_tracks.proofs.Routed.{classes_inside, classes_more, each_more, is_track}
use Rattle.nero_tracks.proofs.route.tracks.Goals as goal

pub ends-requires : goal.ends-requires
ends-requires c =
    let p = c.args.placement.now in
    let low : c.loop-k.k < length c.in_ok-classes.classes.items = omega arith in
    subst (λ (x : ℕ). x < length p.ends) (sym c.index-class.ensures) (c.in_ok-classes.ensures.inside c.loop-k.k c.index-class.result.now low)

pub loop-k-preserved : goal.loop-k-preserved
loop-k-preserved c =
    let p = c.args.placement.now in
    let tracks = c.loop-k.tracks.items in
    let class = c.index-class.result.now in
    let t : Track = record { class = class; span = c.track_span.result } in
    let e : c.push.new.self.items ≡ tracks ++ t ∷ [] = c.in_ok-push.ensures.items in
    let low : c.loop-k.k < length c.in_ok-classes.classes.items = omega arith in
    let inside : class < length p.ends = subst (λ (x : ℕ). x < length p.ends) (sym c.index-class.ensures) (c.in_ok-classes.ensures.inside c.loop-k.k class low) in
    let last : IsTrack p (length tracks) t = is_track p c.ports-ports.result.now _ c.loop-k.k (length tracks) t c.ports-ports.ensures.ports c.ends.ensures.points (sym c.loop-k.invariant.many)
    c.track_span.ensures.span in
    record {
      many = let a = ap length e in let b = length-append tracks (t ∷ []) in let d = c.loop-k.invariant.many in omega (arith, a, b, d);
      classes = ap (map (λ (x : Track). x.class)) e ∙ classes_more c.in_ok-classes.classes.items c.loop-k.k class tracks t c.loop-k.invariant.classes low c.index-class.ensures;
      inside = subst (λ (ts : List Track). All (λ (x : Track). x.class < length p.ends) ts) (sym e) (All-push (λ (x : Track). x.class < length p.ends) tracks t c.loop-k.invariant.inside inside);
      near = subst (λ (ts : List Track). All (λ (x : Track). IsNearSpan x.span) ts) (sym e) (All-push (λ (x : Track). IsNearSpan x.span) tracks t c.loop-k.invariant.near c.track_span.ensures.near);
      each = subst (λ (ts : List Track). (k : ℕ) (d : Track) → k < length ts → IsTrack p k (get_or ts k d)) (sym e) (each_more p tracks t c.loop-k.invariant.each last);
    }
