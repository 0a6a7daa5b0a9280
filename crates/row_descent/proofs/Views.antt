-- Rows and nets in memory as lists.
use Rattle.std.proofs.Common.{◌≡◌, ℕ, zero, suc, ◌+◌, ◌<◌, List, [], ◌∷◌, ◌++◌, map, length, take, drop, slice_index, get_or, set, swap, refl, sym, ap, ap₂, ◌∙◌, add-one, take_at, arith}
use Rattle.std.specs.Global.{Vec}
use Rattle.std.proofs.lemmas.List.{map-set, length-set}
use Rattle.row_meaning.specs.Rows.{row_at, exchanged_row, exchanged}
use Rattle.row_meaning.proofs.Exchanging.{row_swap, exchanged_set}
use Rattle.row_descent.specs.Tables.{rows_of}

pub at_map : {X Y : Type 0} (f : X → Y) (xs : List X) (i : ℕ) (d : X) (e : Y) → i < length xs → get_or (map f xs) i e ≡ f (get_or xs i d)
at_map f [] i d e l = absurd (omega arith)
at_map f (x ∷ xs) zero d e l = refl
at_map f (x ∷ xs) (suc i) d e l = at_map f xs i d e (omega arith)

abbrev pub items : Vec ℕ → List ℕ
items v = v.items

pub row_view : (rows : List (Vec ℕ)) (r : ℕ) (v : Vec ℕ) → r < length rows → v ≡ get_or rows r v → row_at (rows_of rows) r ≡ v.items
row_view rows r v l e = at_map items rows r v [] l ∙ ap items (sym e)

pub exchanged_view : (rows : List (Vec ℕ)) (r k : ℕ) (old new : Vec ℕ) → r < length rows → old ≡ get_or rows r old → k + 1 < length (row_at (rows_of rows) r)
    → new.items ≡ swap old.items k (k + 1) → rows_of (set rows r new) ≡ exchanged (rows_of rows) r k
exchanged_view rows r k old new l is within e =
    let view : row_at (rows_of rows) r ≡ old.items = row_view rows r old l is in
    let many = ap (λ (xs : List ℕ). length xs) view in
    let swapped : swap old.items k (k + 1) ≡ exchanged_row old.items k = ap (λ (i : ℕ). swap old.items k i) (add-one k) ∙ row_swap old.items k (omega arith) in
    map-set items rows r new
    ∙ ap (λ (row : List ℕ). set (rows_of rows) r row) (e ∙ swapped ∙ ap (λ (row : List ℕ). exchanged_row row k) (sym view))
    ∙ sym (exchanged_set (rows_of rows) r k)

-- what a Vec holds after its slice was written to: two cells' new places
pub written : (v : Vec ℕ) (ws d w' w : List ℕ) (f s : ℕ) → v.len ≡ length v.items → d ≡ v.items → w' ≡ w
    → ws ≡ set (set d s (slice_index d f)) f (slice_index d f + slice_index w' s)
    → take v.len (ws ++ drop (length ws) v.items) ≡ set (set v.items s (slice_index v.items f)) f (slice_index v.items f + slice_index w s)
written v ws d w' w f s many de we e =
    let new : List ℕ → List ℕ → List ℕ = λ xs ys. set (set xs s (slice_index xs f)) f (slice_index xs f + slice_index ys s) in
    let is : ws ≡ new v.items w = e ∙ ap₂ new de we in
    let same = length-set (set v.items s (slice_index v.items f)) f (slice_index v.items f + slice_index w s) in
    let also = length-set v.items s (slice_index v.items f) in
    let whole = ap (λ (xs : List ℕ). length xs) is in
    take_at ws (drop (length ws) v.items) v.len (omega arith) ∙ is
