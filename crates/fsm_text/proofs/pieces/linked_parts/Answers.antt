use Rattle.std.proofs.Common.{◌≡◌, ◌∙◌, ◌++◌, List, [], ◌∷◌, map, ap, sym, subst, IfOk}
use Rattle.std.specs.Option.{option_map}
use Rattle.std.proofs.lemmas.List.{map_push}
use Rattle.fsm_text.specs.Written.{PartTree, PartsTree, body_view, parts_view, parts_of}
use Rattle.fsm_text.specs.Pieces.{part_view, linked_last, further_of, parts_before}
use Rattle.fsm_text.proofs.Linking.{parts_of-last}
use Rattle.fsm_text.proofs.pieces.linked_parts.Goals as goal

-- the last part stands behind the others, which stand behind the first
pub returns : goal.returns
returns c =
    let first = part_view c.args.first in
    let rest = map part_view c.pop.new.self.items in
    let last = part_view c.in-Some.last in
    let otherwise = option_map body_view c.args.otherwise in
    let pieces : map part_view c.args.more.items ≡ rest ++ last ∷ [] = ap (map part_view) c.in-Some.ensures.items ∙ map_push part_view c.pop.new.self.items c.in-Some.last in
    let linked : parts_view c.in_ok-parts-2.parts ≡ parts_before rest (linked_last last otherwise) = c.in_ok-parts-2.ensures ∙ ap (parts_before rest) c.in_ok-parts.ensures in
    let all : further_of first (parts_view c.in_ok-parts-2.parts) ≡ parts_of first (map part_view c.args.more.items) otherwise =
    ap (further_of first) linked ∙ sym (parts_of-last first rest last otherwise) ∙ sym (ap (λ (ps : List PartTree). parts_of first ps otherwise) pieces) in
    subst (λ (x : PartsTree). IfOk c.further.result (λ p. parts_view p ≡ x)) all c.further.ensures
