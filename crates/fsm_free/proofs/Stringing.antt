-- Statements, parts and branches one behind the other: a step on.
use Rattle.std.proofs.Common.{◌≡◌, List, [], ◌∷◌, ◌++◌, map, sym, ap, ◌∙◌}
use Rattle.std.proofs.lemmas.List.{map_push}
use Rattle.fsm_text.specs.declared.file.Statement.{Statement}
use Rattle.fsm_text.specs.Written.{StatementTree, BodyTree, next, followed, PartTree, PartsTree, BranchTree, BranchesTree, branched, statement_view}
use Rattle.fsm_text.specs.Pieces.{further_of, parts_before, listed_of}
use Rattle.fsm_text.proofs.Linking.{followed-push, parts-push, branched-push}
use Rattle.fsm_free.specs.declared.pieces.Part.{Part}
use Rattle.fsm_free.specs.declared.pieces.Branch.{Branch}
use Rattle.fsm_free.specs.Pieces.{part_view, branch_view}

-- what was left is the statement before what is left now
pub followed_more : (ss : List Statement) (s : Statement) (items : List Statement) (t whole all : BodyTree) → items ≡ ss ++ s ∷ [] → whole ≡ next (statement_view s) t
    → followed (map statement_view ss) whole ≡ all → followed (map statement_view items) t ≡ all
followed_more ss s items t whole all pushed is so_far =
    ap (λ (xs : List Statement). followed (map statement_view xs) t) pushed ∙ ap (λ (xs : List StatementTree). followed xs t) (map_push statement_view ss s)
    ∙ followed-push (map statement_view ss) (statement_view s) t ∙ ap (followed (map statement_view ss)) (sym is) ∙ so_far

pub parts_more : (ps : List Part) (p : Part) (items : List Part) (t whole all : PartsTree) → items ≡ ps ++ p ∷ [] → whole ≡ further_of (part_view p) t
    → parts_before (map part_view ps) whole ≡ all → parts_before (map part_view items) t ≡ all
parts_more ps p items t whole all pushed is so_far =
    ap (λ (xs : List Part). parts_before (map part_view xs) t) pushed ∙ ap (λ (xs : List PartTree). parts_before xs t) (map_push part_view ps p)
    ∙ parts-push (map part_view ps) (part_view p) t ∙ ap (parts_before (map part_view ps)) (sym is) ∙ so_far

pub branches_more : (bs : List Branch) (b : Branch) (items : List Branch) (t whole all : BranchesTree) → items ≡ bs ++ b ∷ [] → whole ≡ listed_of (branch_view b) t
    → branched (map branch_view bs) whole ≡ all → branched (map branch_view items) t ≡ all
branches_more bs b items t whole all pushed is so_far =
    ap (λ (xs : List Branch). branched (map branch_view xs) t) pushed ∙ ap (λ (xs : List BranchTree). branched xs t) (map_push branch_view bs b)
    ∙ branched-push (map branch_view bs) (branch_view b) t ∙ ap (branched (map branch_view bs)) (sym is) ∙ so_far
