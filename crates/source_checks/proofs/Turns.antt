-- Loops that look for the first of what is found in things one behind another.
use Rattle.std.proofs.Common.{◌≡◌, ℕ, ◌+◌, ◌<◌, List, ◌∷◌, ◌++◌, length, drop, get_or, Option, Some, None, sym, ap, ◌∙◌}
use Rattle.std.proofs.lemmas.List.{at_drop_more}

-- the first of two, if there is one
abbrev pub or_first : {A : Type 0} → Option A → Option A → Option A
or_first None o = o
or_first (Some x) o = Some x

-- a turn: `first` is what is found in x, and the others follow
pub turn : {X A B : Type 0} (f : List A → Option B) (joins : (xs ys : List A) → f (xs ++ ys) ≡ or_first (f xs) (f ys)) (look : X → List A) (all : List X → List A)
    (unfolds : (x : X) (xs : List X) → all (x ∷ xs) ≡ look x ++ all xs)
    (xs : List X) (i : ℕ) (x : X) (total : Option B) → i < length xs → x ≡ get_or xs i x → f (all (drop i xs)) ≡ total
    → (first : Option B) → first ≡ f (look x) → or_first first (f (all (drop (i + 1) xs))) ≡ total
turn {X} {A} {B} f joins look all unfolds xs i x total within is so_far first here =
    let rest = drop (i + 1) xs in
    ap (λ (o : Option B). or_first o (f (all rest))) here ∙ sym (joins (look x) (all rest)) ∙ ap f (sym (unfolds x rest)) ∙ ap (λ (y : X). f (all (y ∷ rest))) is ∙ sym (at_drop_more (λ (ys : List X). f (all ys)) xs i x within) ∙ so_far
