-- Bits joined by halves.
use Rattle.std.proofs.Common.{◌≡◌, ℕ, zero, suc, ◌+◌, ◌-◌, ◌/◌, ◌<◌, ◌≤◌, List, [], ◌∷◌, ◌++◌, map, length, take, drop, refl, sym, ap, ◌∙◌, arith, append_assoc}
use Rattle.std.proofs.lemmas.List.{take-map, drop-map, take-append-drop, length-map}
use Rattle.bool_expr.specs.declared.expr.Expr.{Expr}
use Rattle.bool_expr.specs.declared.expr.Gate.TheVariants as gate
use Rattle.bool_expr.specs.Expression.{Expression, pair, inverse}
use Rattle.bool_expr.specs.View.{view}
use Rattle.source_bits.specs.Vectors.{each_two, all_within, equal_of, unequal_of}

-- two halves that are joined
pub joined_halves : (last : List Expr) (n bound : ℕ) (l r : Expression) → 1 < n → length last ≡ n → n ≤ bound
    → ((b : ℕ) → n - n / 2 ≤ b → l ≡ all_within b (map view (take (n - n / 2) last)))
    → ((b : ℕ) → n / 2 ≤ b → r ≡ all_within b (map view (drop (n - n / 2) last)))
    → pair gate.And l r ≡ all_within bound (map view last)
joined_halves [] n bound l r more count within at_left at_right = absurd (omega arith)
joined_halves (x ∷ []) n bound l r more count within at_left at_right = absurd (omega arith)
joined_halves (x ∷ y ∷ rest) n zero l r more count within at_left at_right = absurd (omega arith)
joined_halves (x ∷ y ∷ rest) n (suc b) l r more count within at_left at_right =
    let last = x ∷ y ∷ rest in
    let all = map view last in
    let half : n - n / 2 ≡ (length all + 1) / 2 = omega (arith, length-map last view) in
    let first : l ≡ all_within b (take ((length all + 1) / 2) all) = at_left b (omega arith) ∙ ap (all_within b) (sym (take-map view (n - n / 2) last)) ∙ ap (λ k. all_within b (take k all)) half in
    let second : r ≡ all_within b (drop ((length all + 1) / 2) all) = at_right b (omega arith) ∙ ap (all_within b) (sym (drop-map view (n - n / 2) last)) ∙ ap (λ k. all_within b (drop k all)) half in
    ap (λ (e : Expression). pair gate.And e r) first ∙ ap (pair gate.And (all_within b (take ((length all + 1) / 2) all))) second

snoc_last : (xs ys : List Expr) (x y : Expr) → xs ++ x ∷ [] ≡ ys ++ y ∷ [] → x ≡ y
snoc_last [] [] x y e = cc
snoc_last [] (y' ∷ []) x y e = absurd cc
snoc_last [] (y' ∷ y'' ∷ ys) x y e = absurd cc
snoc_last (x' ∷ []) [] x y e = absurd cc
snoc_last (x' ∷ x'' ∷ xs) [] x y e = absurd cc
snoc_last (x' ∷ xs) (y' ∷ ys) x y e = let rest : xs ++ x ∷ [] ≡ ys ++ y ∷ [] = cc in snoc_last xs ys x y rest

-- one bit that was taken away
pub one_bit : (items before left : List Expr) (bit : Expr) (n bound : ℕ) (last : List Expr) → items ≡ left ++ bit ∷ [] → items ≡ before ++ last → length last ≡ n → n ≡ 1 → view bit ≡ all_within bound (map view last)
one_bit items before left bit n bound [] taken is count one = absurd (omega arith)
one_bit items before left bit n bound (x ∷ []) taken is count one = ap view (snoc_last left before bit x (sym taken ∙ is))
one_bit items before left bit n bound (x ∷ y ∷ rest) taken is count one = absurd (omega arith)

length-each_two : (f : Expression → Expression → Expression) (xs ys : List Expression) → length (each_two f xs ys) ≤ length xs
length-each_two f [] ys = omega arith
length-each_two f (x ∷ xs) [] = omega arith
length-each_two f (x ∷ xs) (y ∷ ys) = omega (arith, length-each_two f xs ys)

-- all of the bits
pub all_of_them : (bits : List Expr) (xs ys : List Expression) (n : ℕ) (made : Expression) → map view bits ≡ each_two (pair gate.Xnor) xs ys → n ≡ length bits
    → ((before last : List Expr) → bits ≡ before ++ last → length last ≡ n → (bound : ℕ) → n ≤ bound → made ≡ all_within bound (map view last)) → made ≡ equal_of xs ys
all_of_them bits xs ys n made is count says =
    let few : n ≤ length xs = omega (arith, length-map bits view, ap length is, length-each_two (pair gate.Xnor) xs ys) in
    says [] bits refl (sym count) (length xs) few ∙ ap (all_within (length xs)) is

pub unequal_more : (xs ys : List Expression) → (length xs ≡ 1 → length ys ≡ 1 → ⊥) → unequal_of xs ys ≡ inverse (equal_of xs ys)
unequal_more [] ys apart = refl
unequal_more (x ∷ []) [] apart = refl
unequal_more (x ∷ []) (y ∷ []) apart = absurd (apart refl refl)
unequal_more (x ∷ []) (y ∷ y' ∷ ys) apart = refl
unequal_more (x ∷ x' ∷ xs) ys apart = refl

-- what the first of two calls leaves
pub front_is : (items before last : List Expr) (k : ℕ) → items ≡ before ++ last → items ≡ (before ++ take k last) ++ drop k last
front_is items before last k is = is ∙ ap (λ (xs : List Expr). before ++ xs) (sym (take-append-drop k last)) ∙ sym (append_assoc before (take k last) (drop k last))
