-- Functions that see no more of a thing than a view of it: things that look alike have one value.
use Rattle.std.proofs.Common.{◌≡◌, List, [], ◌∷◌, map, refl, sym, ap, ◌∙◌}

abbrev pub SeenBy : {X V C : Type 0} → (X → V) → (X → C) → Type 0
SeenBy {X} view f = (x y : X) → view x ≡ view y → f x ≡ f y

-- what is made of the view
pub of_view : {X V C : Type 0} (view : X → V) (h : V → C) → SeenBy view (λ x. h (view x))
of_view view h x y e = ap h e

-- what is made of two such values
pub of_both : {X V A B C : Type 0} (view : X → V) (h : A → B → C) (f : X → A) (g : X → B) → SeenBy view f → SeenBy view g → SeenBy view (λ x. h (f x) (g x))
of_both view h f g first second x y e = ap (λ a. h a (g x)) (first x y e) ∙ ap (h (f y)) (second x y e)

-- what is made of a part, whose view is part of the whole's
pub of_part : {X Y V W C : Type 0} (view : X → V) (part : X → Y) (look : Y → W) (side : V → W) (f : Y → C)
    → ((x : X) → side (view x) ≡ look (part x)) → SeenBy look f → SeenBy view (λ x. f (part x))
of_part view part look side f lies seen x y e = seen (part x) (part y) (sym (lies x) ∙ ap side e ∙ lies y)

-- what is made of a list, element by element
pub of_each : {X V C : Type 0} (view : X → V) (step : X → C → C) (all : List X → C)
    → ((x : X) (xs : List X) → all (x ∷ xs) ≡ step x (all xs)) → SeenBy view step → SeenBy (map view) all
of_each view step all unfolds seen [] [] e = refl
of_each view step all unfolds seen [] (y ∷ ys) e = absurd (cc)
of_each view step all unfolds seen (x ∷ xs) [] e = absurd (cc)
of_each view step all unfolds seen (x ∷ xs) (y ∷ ys) e =
    let first : view x ≡ view y = cc in
    let others : map view xs ≡ map view ys = cc in
    unfolds x xs ∙ ap (λ f. f (all xs)) (seen x y first) ∙ ap (step y) (of_each view step all unfolds seen xs ys others) ∙ sym (unfolds y ys)
