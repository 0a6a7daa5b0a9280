use Rattle.std.proofs.Common.{◌≡◌, ap, ◌∙◌, Some, cond, List, ℕ, bytes_eq}
use Rattle.std.specs.Map.{lookup}
use Rattle.source_checks.specs.Lookup.{place_at}
use Rattle.source_checks.proofs.Lookups.{at_text, lookup-insert_entry}
use Rattle.source_checks.proofs.places.put_place.Goals as goal

pub returns : goal.returns
returns c = λ t.
    let entered : place_at c.insert.new.self t ≡ cond (bytes_eq c.in_ok-key.key.items t) (Some c.args.place) (place_at c.args.places.now t) =
    ap (lookup (at_text t)) c.in_ok-insert.ensures.entries ∙ lookup-insert_entry c.args.places.now.entries c.in_ok-key.key c.args.place t in
    entered ∙ ap (λ (x : List ℕ). cond (bytes_eq x t) (Some c.args.place) (place_at c.args.places.now t)) c.in_ok-key.ensures.items
