use Rattle.std.proofs.Common.{◌≡◌, ◌++◌, ◌∙◌, List, [], ◌∷◌, map, ap, sym}
use Rattle.std.proofs.lemmas.List.{map_push}
use Rattle.fsm_text.specs.Written.{parts_view}
use Rattle.fsm_text.specs.Pieces.{parts_before}
use Rattle.fsm_free.specs.Pieces.{part_view}
use Rattle.fsm_text.proofs.Linking.{parts-push}
use Rattle.fsm_free.proofs.pieces.linked_parts.Goals as goal

-- the last piece moves from the list to the front of what is linked
pub loop-part-preserved : goal.loop-part-preserved
loop-part-preserved c =
    let popped : c.loop-part.left.items ≡ c.pop.new.self.items ++ c.in-Some.part ∷ [] = c.in-Some.ensures.items in
    let pieces : map part_view c.loop-part.left.items ≡ map part_view c.pop.new.self.items ++ part_view c.in-Some.part ∷ [] = ap (map part_view) popped ∙ map_push part_view c.pop.new.self.items c.in-Some.part in
    rw c.in_ok-linked.ensures (sym (parts-push (map part_view c.pop.new.self.items) (part_view c.in-Some.part) (parts_view c.loop-part.linked))
    ∙ ap (λ ps. parts_before ps (parts_view c.loop-part.linked)) (sym pieces) ∙ c.loop-part.invariant)
