-- Linking from the last piece on.
use Rattle.std.proofs.Common.{◌≡◌, List, [], ◌∷◌, ◌++◌, Option, None, Some, refl, ap}
use Rattle.fsm_text.specs.Written.{StatementTree, BodyTree, next, followed, PartTree, PartsTree, parts_of, further, BranchTree, BranchesTree, listed, branched}
use Rattle.fsm_text.specs.Pieces.{linked_last, further_of, parts_before}

pub followed-push : (ss : List StatementTree) (s : StatementTree) (rest : BodyTree) → followed (ss ++ s ∷ []) rest ≡ followed ss (next s rest)
followed-push [] s rest = refl
followed-push (x ∷ ss) s rest = ap (next x) (followed-push ss s rest)

pub branched-push : (bs : List BranchTree) (b : BranchTree) (rest : BranchesTree) → branched (bs ++ b ∷ []) rest ≡ branched bs (listed b.states b.body rest)
branched-push [] b rest = refl
branched-push (x ∷ bs) b rest = ap (listed x.states x.body) (branched-push bs b rest)

pub parts-push : (ps : List PartTree) (p : PartTree) (last : PartsTree) → parts_before (ps ++ p ∷ []) last ≡ parts_before ps (further_of p last)
parts-push [] p last = refl
parts-push (x ∷ ps) p last = ap (further_of x) (parts-push ps p last)

-- the parts of an if, whose last one stands behind others
pub parts_of-last : (first : PartTree) (ps : List PartTree) (p : PartTree) (otherwise : Option BodyTree)
    → parts_of first (ps ++ p ∷ []) otherwise ≡ further_of first (parts_before ps (linked_last p otherwise))
parts_of-last first [] p None = refl
parts_of-last first [] p (Some b) = refl
parts_of-last first (x ∷ ps) p otherwise = ap (further_of first) (parts_of-last x ps p otherwise)

pub parts_of-alone : (first : PartTree) (otherwise : Option BodyTree) → parts_of first [] otherwise ≡ linked_last first otherwise
parts_of-alone first None = refl
parts_of-alone first (Some b) = refl
