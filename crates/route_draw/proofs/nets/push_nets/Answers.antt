use Rattle.std.proofs.Common.{◌≡◌, ◌++◌, ◌<◌, ◌+◌, ℕ, suc, List, map, drop, length, Option, None, get_or, sym, ap, ◌∙◌, append_assoc, arith}
use Rattle.std.specs.Prelude.{slice_get}
use Rattle.std.specs.Option.{option_copied}
use Rattle.std.proofs.lemmas.List.{at_drop_more}
use Rattle.vlsi_base.specs.declared.name.Name.{Name}
use Rattle.sym_geom.specs.declared.item.Item.{Item}
use Rattle.cell_model.specs.Access.{Point}
use Rattle.ocp_place.specs.Placed.{InRow}
use Rattle.ocp_place.specs.Reaches.{site_of}
use Rattle.ocp_place.specs.Spans.{shown_span}
use Rattle.nero_tracks.specs.declared.route.Track.{Track}
use Rattle.nero_tracks.specs.Tracks.{net_pins, ends_of}
use Rattle.route_draw.specs.Pieces.{net_lines, all_lines}
use Rattle.route_draw.proofs.Lists.{got}
use Rattle.route_draw.proofs.nets.push_nets.Goals as goal

abbrev nowhere : Track
nowhere = record { class = 0; span = None }

-- the lines of one more net
step : (names : List Name) (p : InRow) (ts : List Track) (k : ℕ) → k < length ts
    → all_lines k names p (drop k ts)
    ≡ net_lines k (slice_get names k) (shown_span (get_or ts k nowhere).span) (net_pins (length p.ports) k (ends_of p (get_or ts k nowhere).class))
    ++ all_lines (k + 1) names p (drop (k + 1) ts)
step names p ts k low =
    let e : suc k ≡ k + 1 = omega arith in
    at_drop_more (all_lines k names p) ts k nowhere low
    ∙ ap (λ (j : ℕ). net_lines k (slice_get names k) (shown_span (get_or ts k nowhere).span) (net_pins (length p.ports) k (ends_of p (get_or ts k nowhere).class))
    ++ all_lines j names p (drop (k + 1) ts)) e

pub loop-k-preserved : goal.loop-k-preserved
loop-k-preserved c =
    let k = c.loop-k.k in
    let ts = c.args.tracks.now in
    let p = c.args.placement.now in
    let names = c.args.names.now in
    let items = c.loop-k.items in
    let t = get_or ts k nowhere in
    let name : option_copied c.get.result ≡ slice_get names k = got names k c.get.result c.get.ensures.lookup in
    let pins : map (λ s. (site_of s).1) c.net_pins-pins.result.now ≡ net_pins (length p.ports) k (ends_of p t.class) =
    c.net_pins-pins.ensures.points ∙ ap (λ (qs : List Point). net_pins (length c.ports-ports.result.now) k qs) c.ends.ensures.points
    ∙ ap (λ (ports : List ℕ). net_pins (length ports) k (ends_of p t.class)) c.ports-ports.ensures.ports in
    ap (λ (is : List Item). is ++ all_lines (k + 1) names p (drop (k + 1) ts))
    (c.in_ok-push_net.ensures
    ∙ ap (λ (o : Option Name). items ++ net_lines k o (shown_span t.span) (map (λ s. (site_of s).1) c.net_pins-pins.result.now)) name
    ∙ ap (λ (qs : List Point). items ++ net_lines k (slice_get names k) (shown_span t.span) qs) pins)
    ∙ append_assoc items (net_lines k (slice_get names k) (shown_span t.span) (net_pins (length p.ports) k (ends_of p t.class))) (all_lines (k + 1) names p (drop (k + 1) ts))
    ∙ ap (λ (is : List Item). items ++ is) (sym (step names p ts k c.loop-k-test.true))
    ∙ c.loop-k.invariant
