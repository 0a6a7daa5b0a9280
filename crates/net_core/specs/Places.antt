-- Where an element stands in a list.
use Rattle.std.specs.Prelude.{◌≡◌, ◌⊎◌, ℕ, ◌<◌, ◌≤◌, suc, List, [], ◌∷◌, ◌++◌, Option, None, Some, length, option_map, MatchOption, bytes_eq, slice_get, if◌then◌else◌}
use Rattle.std.specs.Global.{Vec}
use Rattle.std.specs.BTreeMap.{BTreeMap, get_by}
use Rattle.std.specs.Cmp.Lexicographic.{slice_cmp}
use Rattle.std.specs.Ordering.{nat_cmp}

-- x stands at this place of the list, counted from 0
abbrev pub Stands : {X : Type 0} → List X → ℕ → X → Type 0
Stands xs k x = slice_get xs k ≡ Some x

-- x stands in the list
abbrev pub IsThere : {X : Type 0} → List X → X → Type 0
IsThere xs x = (k : ℕ) × Stands xs k x

-- a place of x in the list; none exactly where it doesn't stand there
abbrev pub IsPlaceOf : {X : Type 0} → List X → X → Option ℕ → Type 0
IsPlaceOf xs x found = MatchOption found (IsThere xs x → ⊥) (λ k. Stands xs k x)

-- nothing stands in the list twice
abbrev pub NoneTwice : {X : Type 0} → List X → Type 0
NoneTwice {X} xs = (i j : ℕ) (x : X) → Stands xs i x → Stands xs j x → i ≡ j

-- the place of the first text that is this one
abbrev pub position_of : List (List ℕ) → List ℕ → Option ℕ
position_of [] text = None
position_of (t ∷ rest) text = if bytes_eq t text then Some 0 else option_map suc (position_of rest text)

-- what a map from texts to places has at a text
abbrev pub place_at : BTreeMap (Vec ℕ) ℕ → List ℕ → Option ℕ
place_at m text = get_by (λ k. slice_cmp nat_cmp text k.items) m

-- the map has the place of each text of a list in which none stands twice, and no more
pub record KnowsPlaces (places : BTreeMap (Vec ℕ) ℕ) (texts : List (List ℕ)) : Type 0 where
  pub each : (text : List ℕ) → place_at places text ≡ position_of texts text
  pub once : NoneTwice texts

-- a text is there, as it was before or as the last
abbrev pub Learned : List (List ℕ) → List (List ℕ) → List ℕ → Type 0
Learned old new text = MatchOption (position_of old text) (new ≡ old ++ text ∷ []) (λ _. new ≡ old)

-- a list is the beginning of another
abbrev pub Begins : {X : Type 0} → List X → List X → Type 0
Begins {X} xs ys = (rest : List X) × (ys ≡ xs ++ rest)

-- what stands in the new list stands in the old one or is one of these
abbrev pub AddsOnly : {X : Type 0} → List X → List X → List X → Type 0
AddsOnly {X} old new more = (x : X) → IsThere new x → IsThere old x ⊎ IsThere more x

-- the first place at which a number stands; none exactly where it stands nowhere
abbrev pub IsFirstPlace : List ℕ → ℕ → Option ℕ → Type 0
IsFirstPlace xs x None = IsThere xs x → ⊥
IsFirstPlace xs x (Some k) = Stands xs k x × ((j : ℕ) → j < k → Stands xs j x → ⊥)

-- the last element was taken away, where there were more than so many
pub record IsShortened {X : Type 0} (old new : List X) (count : ℕ) : Type 0 where
  pub last : (xs : List X) (x : X) → old ≡ xs ++ x ∷ [] → length xs ≡ count → new ≡ xs
  pub kept : length old ≤ count → new ≡ old
