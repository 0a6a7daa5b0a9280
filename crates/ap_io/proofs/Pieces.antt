-- Pieces put one after another behind a text.
use Rattle.std.proofs.Common.{◌≡◌, ℕ, List, [], ◌∷◌, ◌++◌, sym, ◌∙◌, append_assoc, append-nil}
use Rattle.ap_io.specs.Spelling.{together}

abbrev pub put_all : List ℕ → List (List ℕ) → List ℕ
put_all out [] = out
put_all out (piece ∷ rest) = put_all (out ++ piece) rest

pub put_all_is : (out : List ℕ) (pieces : List (List ℕ)) → put_all out pieces ≡ out ++ together pieces
put_all_is out [] = sym (append-nil out)
put_all_is out (piece ∷ rest) = put_all_is (out ++ piece) rest ∙ append_assoc out piece (together rest)
