-- Models in a table of pins.
use Rattle.std.proofs.Common.{◌≡◌, ℕ, suc, ◌+◌, ◌<◌, Bool, true, false, cond, List, [], ◌∷◌, ◌++◌, length, get_or, take, map, Option, Some, None, bytes_eq, refl, sym, ap, subst, ◌∙◌}
use Rattle.std.specs.Prelude.{option_map}
use Rattle.std.specs.List.{flat_map}
use Rattle.std.proofs.lemmas.List.{take_more, map-append}
use Rattle.std.proofs.lemmas.Grind.{flat_map-append}
use Rattle.std.proofs.Common.{append-nil, append_assoc}
use Rattle.net_core.specs.declared.pins.ModelPins.{ModelPins}
use Rattle.net_core.specs.Places.{Stands, position_of}
use Rattle.net_core.specs.Checks.{pins_named}

suc_some : (o : Option ℕ) (k : ℕ) → option_map suc o ≡ Some k → (j : ℕ) × (o ≡ Some j) × (k ≡ suc j)
suc_some None k e = absurd cc
suc_some (Some j) k e = (j, refl, cc)

suc_none : (o : Option ℕ) → option_map suc o ≡ None → o ≡ None
suc_none None e = refl
suc_none (Some j) e = absurd cc

pub pins_found : (table : List ModelPins) (model : List ℕ) (k : ℕ) → position_of (map (λ m. m.model) table) model ≡ Some k → (m : ModelPins) × Stands table k m × (m.pins ≡ pins_named table model)
pins_found [] model k e = absurd cc
pins_found (m ∷ table) model k e = by (pins_found table model) (bytes_eq m.model model) e where
  by : ((j : ℕ) → position_of (map (λ m. m.model) table) model ≡ Some j → (n : ModelPins) × Stands table j n × (n.pins ≡ pins_named table model))
      → (b : Bool) → cond b (Some 0) (option_map suc (position_of (map (λ m. m.model) table) model)) ≡ Some k → (n : ModelPins) × Stands (m ∷ table) k n × (n.pins ≡ cond b m.pins (pins_named table model))
  by rest true e = let z : 0 ≡ k = cc in (m, subst (λ i. Stands (m ∷ table) i m) z refl, refl)
  by rest false e = let s = suc_some (position_of (map (λ m. m.model) table) model) k e in let r = rest s.0 s.1 in (r.0, subst (λ i. Stands (m ∷ table) i r.0) (sym s.2) r.1, r.2)

pub pins_absent : (table : List ModelPins) (model : List ℕ) → position_of (map (λ m. m.model) table) model ≡ None → pins_named table model ≡ []
pins_absent [] model e = refl
pins_absent (m ∷ table) model e = by (pins_absent table model) (bytes_eq m.model model) e where
  by : (position_of (map (λ m. m.model) table) model ≡ None → pins_named table model ≡ []) → (b : Bool) → cond b (Some 0) (option_map suc (position_of (map (λ m. m.model) table) model)) ≡ None → cond b m.pins (pins_named table model) ≡ []
  by rest true e = absurd cc
  by rest false e = rest (suc_none (position_of (map (λ m. m.model) table) model) e)

-- one more piece behind the pieces of the first elements
pub pieces_more : {A B C : Type 0} (f : B → List C) (g : A → B) (xs : List A) (k : ℕ) (d : A) (old now : List C) → k < length xs → now ≡ old ++ f (g (get_or xs k d)) → (start : List C) → old ≡ start ++ flat_map f (map g (take k xs))
    → now ≡ start ++ flat_map f (map g (take (k + 1) xs))
pieces_more {A} {B} {C} f g xs k d old now l pushed start before =
    let more : map g (take (k + 1) xs) ≡ map g (take k xs) ++ g (get_or xs k d) ∷ [] = ap (map g) (take_more xs k d l) ∙ map-append g (take k xs) (get_or xs k d ∷ []) in
    let flat : flat_map f (map g (take (k + 1) xs)) ≡ flat_map f (map g (take k xs)) ++ f (g (get_or xs k d)) =
    ap (flat_map f) more ∙ flat_map-append f (map g (take k xs)) (g (get_or xs k d) ∷ []) ∙ ap (λ (ys : List C). flat_map f (map g (take k xs)) ++ ys) (append-nil (f (g (get_or xs k d)))) in
    pushed ∙ ap (λ (ys : List C). ys ++ f (g (get_or xs k d))) before ∙ append_assoc start (flat_map f (map g (take k xs))) (f (g (get_or xs k d))) ∙ ap (λ (ys : List C). start ++ ys) (sym flat)
