use Rattle.std.proofs.Common.{◌∙◌, List, ℕ, Option, ap, subst}
use Rattle.std.specs.Prelude.{MatchOption}
use Rattle.sym_geom.specs.declared.rect.Rect.{Rect}
use Rattle.real_boxes.specs.Boxes.{layer_of}
use Rattle.real_boxes.specs.Refused.{on_layer, NoneNear, IsFirstNear}
use Rattle.real_boxes.proofs.Closest.{entry_refused, entry_apart}
use Rattle.real_boxes.proofs.near.check_entry.Goals as goal

pub returns-in-Some-clause-refused : goal.returns-in-Some-clause-refused
returns-in-Some-clause-refused c =
    let all = c.args.entries.now in
    let boxes = c.args.boxes.now in
    let layer = c.layer_of-layer.result in
    let gap = c.in-Space.gap in
    let found =
    subst (λ (o : Option (Rect × Rect)). MatchOption o (NoneNear (on_layer layer boxes) gap) (λ (p : Rect × Rect). IsFirstNear (on_layer layer boxes) gap p.0 p.1)) c.in-Some.is
    c.in_ok-found.ensures in
    entry_refused all boxes c.args.entry.now c.in-Space.real gap layer c.in-Some.two.0 c.in-Some.two.1 c.too_near.result c.in-Space.is
    (c.layer_of-layer.ensures.value ∙ ap (λ (r : List ℕ). layer_of all r) c.as_bytes.ensures) found c.too_near.ensures

pub returns-in-None-clause-apart : goal.returns-in-None-clause-apart
returns-in-None-clause-apart c =
    let all = c.args.entries.now in
    let boxes = c.args.boxes.now in
    let layer = c.layer_of-layer.result in
    let gap = c.in-Space.gap in
    let found =
    subst (λ (o : Option (Rect × Rect)). MatchOption o (NoneNear (on_layer layer boxes) gap) (λ (p : Rect × Rect). IsFirstNear (on_layer layer boxes) gap p.0 p.1)) c.in-None.is
    c.in_ok-found.ensures in
    entry_apart all boxes c.args.entry.now c.in-Space.real gap layer c.in-Space.is (c.layer_of-layer.ensures.value ∙ ap (λ (r : List ℕ). layer_of all r) c.as_bytes.ensures) found
