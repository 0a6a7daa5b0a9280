-- Statements and conditions one after another.
use Rattle.std.proofs.Common.{◌≡◌, List, [], ◌∷◌, ◌++◌, refl, sym, ap, ◌∙◌}
use Rattle.fsm_machine.specs.Statements.{Statements, Parts}
use Rattle.fsm_merge.specs.declared.pieces.Piece.{Piece}
use Rattle.fsm_merge.specs.declared.pieces.Arm.{Arm}
use Rattle.fsm_merge.specs.Pieces.{with_piece, with_pieces, with_arm, with_arms}

-- the last statement stands before what follows all
pub with_pieces_push : (ps : List Piece) (p : Piece) (t : Statements) → with_pieces (ps ++ p ∷ []) t ≡ with_pieces ps (with_piece p t)
with_pieces_push [] p t = refl
with_pieces_push (x ∷ ps) p t = ap (with_piece x) (with_pieces_push ps p t)

-- a step on: what was left is the statement before what is left now
pub with_pieces_more : (ps : List Piece) (p : Piece) (items : List Piece) (t whole all : Statements) → items ≡ ps ++ p ∷ [] → whole ≡ with_piece p t
    → with_pieces ps whole ≡ all → with_pieces items t ≡ all
with_pieces_more ps p items t whole all pushed is so_far =
    ap (λ (xs : List Piece). with_pieces xs t) pushed ∙ with_pieces_push ps p t ∙ ap (with_pieces ps) (sym is) ∙ so_far

pub with_arms_push : (xs : List Arm) (a : Arm) (t : Parts) → with_arms (xs ++ a ∷ []) t ≡ with_arms xs (with_arm a t)
with_arms_push [] a t = refl
with_arms_push (x ∷ xs) a t = ap (with_arm x) (with_arms_push xs a t)

pub with_arms_more : (xs : List Arm) (a : Arm) (items : List Arm) (t whole all : Parts) → items ≡ xs ++ a ∷ [] → whole ≡ with_arm a t
    → with_arms xs whole ≡ all → with_arms items t ≡ all
with_arms_more xs a items t whole all pushed is so_far =
    ap (λ (as_ : List Arm). with_arms as_ t) pushed ∙ with_arms_push xs a t ∙ ap (with_arms xs) (sym is) ∙ so_far
