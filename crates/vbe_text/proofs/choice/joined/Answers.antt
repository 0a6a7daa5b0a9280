use Rattle.std.proofs.Common.{◌≡◌, ◌∙◌, ◌++◌, [], ◌∷◌, List, map, ap, sym, rules}
use Rattle.std.proofs.lemmas.List.{map_push}
use Rattle.vlsi_base.specs.Tree.{Tree, view}
use Rattle.vbe_text.specs.Source.{GuardedTree, guarded_view, further_view}
use Rattle.vbe_text.specs.Vbe.{alternatives_from, last_value}
use Rattle.vbe_text.proofs.Choices.{alternatives_push, last_push}
use Rattle.vbe_text.proofs.choice.joined.Goals as goal

pub loop-other-preserved : goal.loop-other-preserved
loop-other-preserved c =
    let v = view c.args.first in
    let before = map further_view c.loop-other.yielded in
    let other = further_view c.in-Some.other in
    let all : map further_view (c.loop-other.yielded ++ c.in-Some.other ∷ []) ≡ before ++ other ∷ [] = map_push further_view c.loop-other.yielded c.in-Some.other in
    let taken : c.replace-value.result ≡ c.loop-other.last = search rules in
    let kept : c.replace-value.new.dest ≡ c.in-Some.other.value = search rules in
    let value : view c.replace-value.result ≡ last_value v before = ap view taken ∙ c.loop-other.invariant.1 in
    let with_value : Tree → List GuardedTree = λ x. alternatives_from v before ++ record { value = x; condition = other.condition; line = other.line } ∷ [] in
    let pushed : map guarded_view c.push.new.self.items ≡ map guarded_view c.loop-other.alternatives.items ++ record { value = view c.replace-value.result; condition = other.condition; line = other.line } ∷ [] =
    rw c.in_ok-push.ensures.items (map_push guarded_view c.loop-other.alternatives.items (record { value = c.replace-value.result; condition = c.in-Some.other.condition; line = c.in-Some.other.line })) in
    let so_far = ap (λ (gs : List GuardedTree). gs ++ record { value = view c.replace-value.result; condition = other.condition; line = other.line } ∷ []) c.loop-other.invariant.0 in (
      pushed ∙ so_far ∙ ap with_value value ∙ sym (alternatives_push v before other) ∙ sym (ap (alternatives_from v) all),
      ap view kept ∙ sym (last_push v before other) ∙ sym (ap (last_value v) all),
    )
