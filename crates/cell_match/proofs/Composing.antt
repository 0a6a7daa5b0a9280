-- Values of a gate with another put in.
use Rattle.std.proofs.Common.{◌≡◌, ◌≢◌, ◌⊎◌, inl, inr, ℕ, ◌<◌, ◌≤◌, Bool, true, false, not, ◌&&◌, List, [], ◌∷◌, map, length, set, get_or, if◌then◌else◌, ap, ap₂, refl, sym, subst, ◌∙◌, arith, All}
use Prim.Native.Nat.{zero, suc}
use Rattle.std.proofs.lemmas.Bool.Decides.{eqb_tells}
use Rattle.std.proofs.lemmas.List.Elements.{All-map, All-from_get_or}
use Rattle.truth_tab.specs.Table.{bit}
use Rattle.cell_match.specs.declared.gate.CellWord.{CellWord}
use Rattle.cell_match.specs.Places.{times, place, place_but}
use Rattle.cell_match.specs.Cells.{blank}
use Rattle.cell_match.specs.Computes.{put}
use Rattle.cell_match.proofs.Numbers.{one, one_tells, one_same, times_some}
use Rattle.cell_match.proofs.Pigeons.{place_there, place_cons}

pub map_on : (f g : ℕ → Bool) (xs : List ℕ) → ((x : ℕ) → 0 < times x xs → f x ≡ g x) → map f xs ≡ map g xs
map_on f g [] h = refl
map_on f g (x ∷ xs) h =
    ap₂ (λ (b : Bool) (bs : List Bool). b ∷ bs) (h x (let o = one_same x in omega arith)) (map_on f g xs (λ y some. h y (omega arith)))

pub map_twice : (f : ℕ → Bool) (g : ℕ → ℕ) (xs : List ℕ) → map f (map g xs) ≡ map (λ x. f (g x)) xs
map_twice f g [] = refl
map_twice f g (x ∷ xs) = ap (λ (bs : List Bool). f (g x) ∷ bs) (map_twice f g xs)

pub put_tells : (a : ℕ) (v : Bool) (f : ℕ → Bool) (x : ℕ) → ((x ≡ a) × (put a v f x ≡ v)) ⊎ ((x ≢ a) × (put a v f x ≡ f x))
put_tells a v f x = elim (eqb_tells x a) [
  | inl is ↦ inl (is.1, ap (λ (b : Bool). if b then v else f x) is.0)
  | inr isnt ↦ inr (isnt.1, ap (λ (b : Bool). if b then v else f x) isnt.0)
]

pub place_but_tells : (a : ℕ) (nodes : List ℕ) (x : ℕ) → ((x ≡ a) × (place_but a nodes x ≡ 0)) ⊎ ((x ≢ a) × (place_but a nodes x ≡ place x nodes))
place_but_tells a nodes x = elim (eqb_tells x a) [
  | inl is ↦ inl (is.1, ap (λ (b : Bool). if b then 0 else place x nodes) is.0)
  | inr isnt ↦ inr (isnt.1, ap (λ (b : Bool). if b then 0 else place x nodes) isnt.0)
]

-- a bit put at the place of a
pub set_place : (a : ℕ) (t : Bool) (f g : ℕ → Bool) (xs : List ℕ) → ((x : ℕ) → x ≢ a → g x ≡ f x) → times a xs ≤ 1 → 0 < times a xs
    → set (map g xs) (place a xs) t ≡ map (put a t f) xs
set_place a t f g [] same once some = absurd (omega arith)
set_place a t f g (y ∷ xs) same once some = elim (place_cons a y xs) [
  | inl is ↦
      let here = is.0 in
      let o : times a (y ∷ []) ≡ 1 = subst (λ (n : ℕ). times n (y ∷ []) ≡ 1) here (let e = one_same y in omega arith) in
      let rest = map_on g (put a t f) xs (λ x there. elim (put_tells a t f x) [
        | inl same_a ↦ let e = subst (λ (n : ℕ). 0 < times n xs) same_a.0 there in absurd (omega arith)
        | inr other ↦ same x other.0 ∙ sym other.1
      ]) in
      ap (λ (n : ℕ). set (map g (y ∷ xs)) n t) is.1
      ∙ ap₂ (λ (b : Bool) (bs : List Bool). b ∷ bs) (elim (put_tells a t f y) [
        | inl same_a ↦ sym same_a.1
        | inr other ↦ absurd (other.0 here)
      ]) rest
  | inr isnt ↦
      let o : one y a ≡ 0 = elim (one_tells y a) [
        | inl same_a ↦ absurd (isnt.0 same_a.0)
        | inr other ↦ other.1
      ] in
      ap (λ (n : ℕ). set (map g (y ∷ xs)) n t) isnt.1
      ∙ ap₂ (λ (b : Bool) (bs : List Bool). b ∷ bs) (elim (put_tells a t f y) [
        | inl same_a ↦ absurd (isnt.0 same_a.0)
        | inr other ↦ same y other.0 ∙ sym other.1
      ]) (set_place a t f g xs same (omega arith) (omega arith))
]

pub choose : (b : Bool) (x : Bool → Bool) → (if b then x true else x false) ≡ x b
choose true x = refl
choose false x = refl

pub chosen : (c a b : Bool) → not (not (c && a) && not (not c && b)) ≡ (if c then a else b)
chosen true true b = refl
chosen true false b = refl
chosen false a true = refl
chosen false a false = refl

pub places_low : (a : ℕ) (nodes leaves : List ℕ) → length nodes ≤ 6 → ((x : ℕ) → 0 < times x leaves → (x ≡ a) ⊎ (0 < times x nodes))
    → All (λ p. p < 6) (map (place_but a nodes) leaves)
places_low a nodes leaves few known = All-map (λ p. p < 6) (place_but a nodes) leaves (All-from_get_or (λ x. place_but a nodes x < 6) leaves 0 (λ i low.
    let x = get_or leaves i 0 in
    elim (place_but_tells a nodes x) [
      | inl is ↦ let e = is.1 in omega arith
      | inr isnt ↦ elim (known x (times_some leaves i low)) [
        | inl is_a ↦ absurd (isnt.0 is_a)
        | inr there ↦ let e = isnt.1 in let p = (place_there x nodes there).0 in omega arith
      ]
    ]))

pub cell_read : (cells : List CellWord) (k : ℕ) (c : CellWord) → k < length cells → c ≡ get_or cells k c → get_or cells k blank ≡ c
cell_read cells k c h e = go cells k h ∙ sym e where
  go : (cells : List CellWord) (k : ℕ) → k < length cells → get_or cells k blank ≡ get_or cells k c
  go [] k h = absurd (omega arith)
  go (x ∷ cells) zero h = refl
  go (x ∷ cells) (suc k) h = go cells k (omega arith)

pub picked : (b x y : Bool) (c : Bool) (f : Bool → Bool) → b ≡ c → x ≡ f true → y ≡ f false → (if b then x else y) ≡ f c
picked b x y c f e p q = ap₂ (λ (s t : Bool). if b then s else t) p q ∙ choose b f ∙ ap f e

-- the bit at a node's place, by leaves that are no a
pub places_but : (a : ℕ) (nodes : List ℕ) (v : List Bool) (leaves : List ℕ) → times a leaves ≡ 0
    → map (λ x. bit v (place_but a nodes x)) leaves ≡ map (λ x. bit v (place x nodes)) leaves
places_but a nodes v leaves none = map_on (λ x. bit v (place_but a nodes x)) (λ x. bit v (place x nodes)) leaves (λ x some. elim (place_but_tells a nodes x) [
  | inl is ↦ let e = ap (λ (n : ℕ). times n leaves) is.0 in absurd (omega arith)
  | inr isnt ↦ ap (bit v) isnt.1
])

pub places_put : (a : ℕ) (nodes : List ℕ) (v : List Bool) (t : Bool) (leaves : List ℕ) → times a leaves ≤ 1 → 0 < times a leaves
    → set (map (λ x. bit v (place_but a nodes x)) leaves) (place a leaves) t ≡ map (put a t (λ x. bit v (place x nodes))) leaves
places_put a nodes v t leaves once some =
    set_place a t (λ x. bit v (place x nodes)) (λ x. bit v (place_but a nodes x)) leaves (λ x other. elim (place_but_tells a nodes x) [
      | inl is ↦ absurd (other is.0)
      | inr isnt ↦ ap (bit v) isnt.1
    ]) once some
