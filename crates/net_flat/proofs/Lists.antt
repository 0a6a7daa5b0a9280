-- Lists by their places.
use Rattle.std.proofs.Common.{◌≡◌, ℕ, zero, suc, ◌+◌, ◌<◌, ◌≤◌, Bool, false, List, [], ◌∷◌, ◌++◌, map, length, get_or, refl, sym, ap, ◌∙◌, subst, arith, append_assoc, length-append}
use Rattle.std.specs.Prelude.{slice_index}
use Rattle.std.specs.List.Sorted.{IsPermutation}
use Rattle.std.proofs.lemmas.List.{length-map, map-append}
use Rattle.vlsi_base.specs.declared.name.Name.{Name}
use Rattle.vlsi_base.specs.Range.{rising}
use Rattle.vlsi_base.specs.Member.{In, here, there, AllDifferent}
use Rattle.vlsi_model.specs.Numbered.{name_at}
use Rattle.machine_core.proofs.Values.{In-map}

pub name_front : (front : List Name) (x : Name) (back : List Name) → name_at (front ++ x ∷ back) (length front) ≡ x
name_front [] x back = refl
name_front (f ∷ front) x back = name_front front x back

pub name_left : (xs ys : List Name) (k : ℕ) → k < length xs → name_at (xs ++ ys) k ≡ name_at xs k
name_left [] ys k l = absurd (omega (arith, l))
name_left (x ∷ xs) ys zero l = refl
name_left (x ∷ xs) ys (suc k) l = name_left xs ys k (omega (arith, l))

pub name_right : (xs ys : List Name) (k : ℕ) → name_at (xs ++ ys) (length xs + k) ≡ name_at ys k
name_right [] ys k = let e : 0 + k ≡ k = omega arith in ap (name_at ys) e
name_right (x ∷ xs) ys k = let e : length (x ∷ xs) + k ≡ suc (length xs + k) = omega arith in ap (name_at (x ∷ (xs ++ ys))) e ∙ name_right xs ys k

-- the names from one place on
pub names_between : (front xs back : List Name) (at n : ℕ) → at ≡ length front → n ≡ length xs → map (name_at (front ++ (xs ++ back))) (rising at n) ≡ xs
names_between front [] back at zero e m = refl
names_between front [] back at (suc n) e m = absurd (omega (arith, m))
names_between front (x ∷ xs) back at zero e m = absurd (omega (arith, m))
names_between front (x ∷ xs) back at (suc n) e m =
    let z : at ≡ length front + 0 = omega (arith, e) in
    let first_is : name_at (front ++ (x ∷ (xs ++ back))) at ≡ x = ap (name_at (front ++ (x ∷ (xs ++ back)))) z ∙ name_right front (x ∷ (xs ++ back)) 0 in
    let l = length-append front (x ∷ []) in
    let rest = names_between (front ++ x ∷ []) xs back (at + 1) n (omega (arith, e, l)) (omega (arith, m)) in
    let joined : (front ++ x ∷ []) ++ (xs ++ back) ≡ front ++ (x ∷ (xs ++ back)) = append_assoc front (x ∷ []) (xs ++ back) in
    ap (λ (b : Name). b ∷ map (name_at (front ++ (x ∷ (xs ++ back)))) (rising (at + 1) n)) first_is
    ∙ ap (λ (bs : List Name). x ∷ bs) (sym (ap (λ (zs : List Name). map (name_at zs) (rising (at + 1) n)) joined) ∙ rest)

pub names_whole : (xs : List Name) → map (name_at xs) (rising 0 (length xs)) ≡ xs
names_whole xs = ap (λ (zs : List Name). map (name_at zs) (rising 0 (length xs))) (sym (whole xs)) ∙ names_between [] xs [] 0 (length xs) refl refl where
  whole : (xs : List Name) → xs ++ [] ≡ xs
  whole [] = refl
  whole (x ∷ xs) = ap (λ (ys : List Name). x ∷ ys) (whole xs)

pub unmap_different : {A B : Type 0} (f : A → B) (xs : List A) → AllDifferent (map f xs) → AllDifferent xs
unmap_different f [] d = tt
unmap_different f (x ∷ xs) d = (λ i. d.0 (In-map f x xs i), unmap_different f xs d.1)

pub rising_count : (k n : ℕ) → length (rising k n) ≡ n
rising_count k zero = refl
rising_count k (suc n) = let r = rising_count (k + 1) n in omega (arith, r)
