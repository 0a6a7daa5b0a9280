-- Those of a list that have a property, in their order.
use Rattle.std.proofs.Common.{List, [], ◌∷◌, ◌++◌, map}
use Rattle.vlsi_base.specs.Member.{In, here, there, Picks, done, takes, skips}

-- an element more, which has it or hasn't
pub picks_push : {A : Type 0} (P : A → Type 0) (xs ys : List A) (x : A) → Picks P xs ys → P x → Picks P (xs ++ x ∷ []) (ys ++ x ∷ [])
picks_push P xs ys x done own = takes own done
picks_push P xs ys x (takes p rest) own = takes p (picks_push P _ _ x rest own)
picks_push P xs ys x (skips n rest) own = skips n (picks_push P _ _ x rest own)

pub picks_skip : {A : Type 0} (P : A → Type 0) (xs ys : List A) (x : A) → Picks P xs ys → (P x → ⊥) → Picks P (xs ++ x ∷ []) ys
picks_skip P xs ys x done own = skips own done
picks_skip P xs ys x (takes p rest) own = takes p (picks_skip P _ _ x rest own)
picks_skip P xs ys x (skips n rest) own = skips n (picks_skip P _ _ x rest own)

-- what a function makes of them
pub picks_map : {A B : Type 0} (f : A → B) (P : B → Type 0) (xs ys : List A) → Picks (λ x. P (f x)) xs ys → Picks P (map f xs) (map f ys)
picks_map f P xs ys done = done
picks_map f P xs ys (takes p rest) = takes p (picks_map f P _ _ rest)
picks_map f P xs ys (skips n rest) = skips n (picks_map f P _ _ rest)

-- those of them that have another property have both
pub picks_both : {A : Type 0} (P Q : A → Type 0) (xs ys zs : List A) → Picks P xs ys → Picks Q ys zs → Picks (λ x. P x × Q x) xs zs
picks_both P Q xs ys zs done done = done
picks_both P Q xs ys zs (takes p rest) (takes q more) = takes (p, q) (picks_both P Q _ _ _ rest more)
picks_both P Q xs ys zs (takes p rest) (skips n more) = skips (λ h. n h.1) (picks_both P Q _ _ _ rest more)
picks_both P Q xs ys zs (skips n rest) more = skips (λ h. n h.0) (picks_both P Q _ _ _ rest more)

-- two properties that are one for the elements of the list
pub picks_same : {A : Type 0} (P Q : A → Type 0) (xs ys : List A) → ((x : A) → In x xs → P x → Q x) → ((x : A) → In x xs → Q x → P x) → Picks P xs ys → Picks Q xs ys
picks_same P Q xs ys to from done = done
picks_same P Q xs ys to from (takes {x} p rest) = takes (to x here p) (picks_same P Q _ _ (λ y h. to y (there h)) (λ y h. from y (there h)) rest)
picks_same P Q xs ys to from (skips {x} n rest) = skips (λ h. n (from x here h)) (picks_same P Q _ _ (λ y h. to y (there h)) (λ y h. from y (there h)) rest)
