-- Lists that grow by one: places that are picked, pins, models.
use Rattle.std.proofs.Common.{◌≡◌, ◌⊎◌, inl, inr, ℕ, ◌+◌, ◌<◌, List, [], ◌∷◌, ◌++◌, length, take, refl, sym, ◌∙◌, ap, subst, add-one, Some, slice_get, get_or, Bool, true, false}
use Rattle.std.specs.Prelude.{◌↔◌}
use Rattle.cell_pins.specs.Follows.{DependsOn}
use Rattle.std.proofs.lemmas.List.{take_more}
use Rattle.vlsi_base.specs.declared.name.Port.{Port}
use Rattle.vlsi_base.specs.Member.{In, here, there, Picks, done, takes, skips}
use Rattle.net_core.specs.declared.pins.ModelPin.{ModelPin}
use Rattle.net_core.specs.declared.pins.ModelPins.{ModelPins}
use Rattle.cell_model.specs.Cell.{Cell, Function}
use Rattle.cell_pins.specs.Table.{first_places, DependsAt, IsPinOf, ArePins, no_pins, one_pin, IsModelOf, AreModels, no_models, listed, left_out}

takes_last : {A : Type 0} (P : A → Type 0) (xs ys : List A) (x : A) → Picks P xs ys → P x → Picks P (xs ++ x ∷ []) (ys ++ x ∷ [])
takes_last P [] [] x done h = takes h done
takes_last P [] (b ∷ ys) x i h = elim i [ ]
takes_last P (a ∷ xs) [] x (skips p rest) h = skips p (takes_last P xs [] x rest h)
takes_last P (a ∷ xs) (b ∷ ys) x (takes p rest) h = takes p (takes_last P xs ys x rest h)
takes_last P (a ∷ xs) (b ∷ ys) x (skips p rest) h = skips p (takes_last P xs (b ∷ ys) x rest h)

skips_last : {A : Type 0} (P : A → Type 0) (xs ys : List A) (x : A) → Picks P xs ys → (P x → ⊥) → Picks P (xs ++ x ∷ []) ys
skips_last P [] [] x done h = skips h done
skips_last P [] (b ∷ ys) x i h = elim i [ ]
skips_last P (a ∷ xs) [] x (skips p rest) h = skips p (skips_last P xs [] x rest h)
skips_last P (a ∷ xs) (b ∷ ys) x (takes p rest) h = takes p (skips_last P xs ys x rest h)
skips_last P (a ∷ xs) (b ∷ ys) x (skips p rest) h = skips p (skips_last P xs (b ∷ ys) x rest h)

next_places : (k : ℕ) → first_places (k + 1) ≡ first_places k ++ k ∷ []
next_places k = ap first_places (add-one k)

pub place_taken : (P : ℕ → Type 0) (k : ℕ) (ys : List ℕ) → Picks P (first_places k) ys → P k → Picks P (first_places (k + 1)) (ys ++ k ∷ [])
place_taken P k ys r h = subst (λ (xs : List ℕ). Picks P xs (ys ++ k ∷ [])) (sym (next_places k)) (takes_last P (first_places k) ys k r h)

pub place_skipped : (P : ℕ → Type 0) (k : ℕ) (ys : List ℕ) → Picks P (first_places k) ys → (P k → ⊥) → Picks P (first_places (k + 1)) ys
place_skipped P k ys r h = subst (λ (xs : List ℕ). Picks P xs ys) (sym (next_places k)) (skips_last P (first_places k) ys k r h)

-- the place has one port, which decides
pub depends_not : (f : Function) (ports : List Port) (output input : Port) (place : ℕ) (r : Bool) → slice_get ports place ≡ Some input
    → ((r ≡ true) ↔ DependsOn f output input) → r ≡ false → DependsAt f ports output place → ⊥
depends_not f ports output input place r at answer is_not h =
    let both : Some h.0 ≡ Some input = sym h.1 ∙ at in
    let same : h.0 ≡ input = cc in
    let yes : r ≡ true = answer.1 (subst (λ p. DependsOn f output p) same h.2) in
    let never : true ≡ false = sym yes ∙ is_not in absurd cc

pub member_cases : {A : Type 0} (x y : A) (ys : List A) → In x (y ∷ ys) → (x ≡ y) ⊎ In x ys
member_cases x y ys here = inl refl
member_cases x y ys (there i) = inr i

pub picked_has : {A : Type 0} (P : A → Type 0) (xs ys : List A) (y : A) → Picks P xs ys → In y ys → P y
picked_has P xs [] y r i = elim i [ ]
picked_has P [] (b ∷ ys) y r i = elim r [ ]
picked_has P (a ∷ xs) (b ∷ ys) y (takes p rest) i =
    elim (member_cases y b ys i) [ inl is ↦ subst P (sym is) p | inr j ↦ picked_has P xs ys y rest j ]
picked_has P (a ∷ xs) (b ∷ ys) y (skips p rest) i = picked_has P xs (b ∷ ys) y rest i

pins_last : (f : Function) (ports xs : List Port) (ps : List ModelPin) (x : Port) (p : ModelPin) → ArePins f ports xs ps → IsPinOf f ports x p → ArePins f ports (xs ++ x ∷ []) (ps ++ p ∷ [])
pins_last f ports [] [] x p no_pins h = one_pin h no_pins
pins_last f ports [] (q ∷ ps) x p r h = elim r [ ]
pins_last f ports (y ∷ xs) [] x p r h = elim r [ ]
pins_last f ports (y ∷ xs) (q ∷ ps) x p (one_pin g rest) h = one_pin g (pins_last f ports xs ps x p rest h)

pub pins_more : (f : Function) (ports : List Port) (ps : List ModelPin) (x : Port) (p : ModelPin) (i : ℕ) → i < length ports → x ≡ get_or ports i x
    → ArePins f ports (take i ports) ps → IsPinOf f ports x p → ArePins f ports (take (i + 1) ports) (ps ++ p ∷ [])
pins_more f ports ps x p i h is r one =
    subst (λ (xs : List Port). ArePins f ports xs (ps ++ p ∷ [])) (sym (take_more ports i x h ∙ ap (λ y. take i ports ++ y ∷ []) (sym is)))
    (pins_last f ports (take i ports) ps x p r one)

models_takes : (P : Cell → Type 0) (cs : List Cell) (ms : List ModelPins) (c : Cell) (m : ModelPins) → AreModels P cs ms → P c → IsModelOf c m → AreModels P (cs ++ c ∷ []) (ms ++ m ∷ [])
models_takes P [] [] c m no_models h is = listed h is no_models
models_takes P [] (b ∷ ms) c m r h is = elim r [ ]
models_takes P (a ∷ cs) (b ∷ ms) c m (listed p q rest) h is = listed p q (models_takes P cs ms c m rest h is)
models_takes P (a ∷ cs) (b ∷ ms) c m (left_out p rest) h is = left_out p (models_takes P cs (b ∷ ms) c m rest h is)
models_takes P (a ∷ cs) [] c m (left_out p rest) h is = left_out p (models_takes P cs [] c m rest h is)

models_skips : (P : Cell → Type 0) (cs : List Cell) (ms : List ModelPins) (c : Cell) → AreModels P cs ms → (P c → ⊥) → AreModels P (cs ++ c ∷ []) ms
models_skips P [] [] c no_models h = left_out h no_models
models_skips P [] (b ∷ ms) c r h = elim r [ ]
models_skips P (a ∷ cs) (b ∷ ms) c (listed p q rest) h = listed p q (models_skips P cs ms c rest h)
models_skips P (a ∷ cs) (b ∷ ms) c (left_out p rest) h = left_out p (models_skips P cs (b ∷ ms) c rest h)
models_skips P (a ∷ cs) [] c (left_out p rest) h = left_out p (models_skips P cs [] c rest h)

one_more : (cells : List Cell) (c : Cell) (i : ℕ) → i < length cells → c ≡ get_or cells i c → take (i + 1) cells ≡ take i cells ++ c ∷ []
one_more cells c i h is = take_more cells i c h ∙ ap (λ y. take i cells ++ y ∷ []) (sym is)

pub model_taken : (P : Cell → Type 0) (cells : List Cell) (ms : List ModelPins) (c : Cell) (m : ModelPins) (i : ℕ) → i < length cells → c ≡ get_or cells i c
    → AreModels P (take i cells) ms → P c → IsModelOf c m → AreModels P (take (i + 1) cells) (ms ++ m ∷ [])
model_taken P cells ms c m i h is r p one =
    subst (λ (xs : List Cell). AreModels P xs (ms ++ m ∷ [])) (sym (one_more cells c i h is)) (models_takes P (take i cells) ms c m r p one)

pub model_skipped : (P : Cell → Type 0) (cells : List Cell) (ms : List ModelPins) (c : Cell) (i : ℕ) → i < length cells → c ≡ get_or cells i c
    → AreModels P (take i cells) ms → (P c → ⊥) → AreModels P (take (i + 1) cells) ms
model_skipped P cells ms c i h is r p =
    subst (λ (xs : List Cell). AreModels P xs ms) (sym (one_more cells c i h is)) (models_skips P (take i cells) ms c r p)
