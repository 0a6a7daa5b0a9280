-- Names by their places.
use Rattle.std.proofs.Common.{◌≡◌, ◌≢◌, ℕ, zero, suc, ◌+◌, Bool, true, false, List, [], ◌∷◌, map, Option, None, Some, refl, ◌∙◌, ap, subst, add-one, arith, if◌then◌else◌}
use Rattle.std.specs.Prelude.{option_map}
use Rattle.std.specs.Option.{option_or}
use Rattle.std.specs.Cmp.{eq_by_cmp_equiv}
use Rattle.std.specs.FinMap.{empty, get, get-empty}
use Rattle.std.specs.Ordering.{eq_by_cmp, is_eq}
use Rattle.std.specs.declared.cmp.Ordering.{Ordering}
use Rattle.std.specs.declared.cmp.Ordering.TheVariants.{Less, Equal, Greater}
use Rattle.vlsi_base.specs.Name.{name_cmp}
use Rattle.vlsi_base.specs.NamePlaces.{NamePlaces, last_place}
use Rattle.vlsi_base.proofs.NameOrder.{name_total, name_exact}
use Rattle.vlsi_base.specs.declared.name.Name.{Name}
use Rattle.machine_core.specs.Named.{is_same_name, value_at, values_at}
use Rattle.machine_core.specs.Order.{In, AllDifferent, here, there}
use Rattle.machine_core.proofs.Names.{same_name-true, same_name-itself, same_name-false}
use Rattle.asimut_sim.specs.Places.{place_of, one_on, IsIndexOf, bit_at}

-- the same place in a list with k names in front
abbrev pub shifted : ℕ → Option ℕ → Option ℕ
shifted k None = None
shifted k (Some j) = Some (k + j)

pub shifted-one_on : (k : ℕ) (o : Option ℕ) → shifted k (one_on o) ≡ shifted (k + 1) o
shifted-one_on k None = refl
shifted-one_on k (Some j) = let e : k + (j + 1) ≡ k + 1 + j = omega arith in ap (λ n. Some n) e

pub place_of-other : (n name : Name) (names : List Name) → is_same_name n name ≡ false → place_of (n ∷ names) name ≡ one_on (place_of names name)
place_of-other n name names e = rw e refl

pub place_of-first : (n name : Name) (names : List Name) → is_same_name n name ≡ true → place_of (n ∷ names) name ≡ Some 0
place_of-first n name names e = rw e refl

-- an index says where a name stands last, which is where it stands, as none stands twice
ties : (a b : Name) → eq_by_cmp name_cmp a b ≡ is_same_name a b
ties a b = by (is_same_name a b) refl where
  tied : (o : Ordering) → name_cmp a b ≡ o → is_same_name a b ≡ false → is_eq o ≡ false
  tied Less is e = refl
  tied Greater is e = refl
  tied Equal is e =
      let P : Name → Type 0 = λ x. is_same_name a x ≡ true in
      let same : is_same_name a b ≡ true = subst P (name_exact a b is) (same_name-itself a) in
      absurd cc

  by : (r : Bool) → is_same_name a b ≡ r → eq_by_cmp name_cmp a b ≡ r
  by true e =
      let P : Name → Type 0 = λ x. eq_by_cmp name_cmp a x ≡ true in
      subst P (same_name-true a b e) ((eq_by_cmp_equiv name_total).refl a)
  by false e = tied (name_cmp a b) refl e

pub place_of-none : (names : List Name) (name : Name) → (In name names → ⊥) → place_of names name ≡ None
place_of-none [] name out = refl
place_of-none (n ∷ names) name out =
    let P : Name → Type 0 = λ x. In x (n ∷ names) in
    let ne : n ≢ name = λ e. out (subst P e here) in
    place_of-other n name names (same_name-false n name ne) ∙ ap one_on (place_of-none names name (λ i. out (there i)))

pub last-place : (names : List Name) → AllDifferent names → (name : Name) → last_place names name ≡ place_of names name
last-place [] apart name = refl
last-place (n ∷ names) apart name =
    ap (λ (o : Option ℕ). option_or (option_map (λ k. k + 1) o) (if eq_by_cmp name_cmp n name then Some 0 else None)) (last-place names apart.1 name)
    ∙ ap (λ (b : Bool). option_or (option_map (λ k. k + 1) (place_of names name)) (if b then Some 0 else None)) (ties n name)
    ∙ by (is_same_name n name) (place_of names name) (λ e. let P : Name → Type 0 = λ x. In x names → ⊥ in place_of-none names name (subst P (same_name-true n name e) apart.0)) where
      by : (b : Bool) (o : Option ℕ) → (b ≡ true → o ≡ None) → option_or (option_map (λ k. k + 1) o) (if b then Some 0 else None) ≡ (if b then Some 0 else one_on o)
      by true o none = ap (λ (o : Option ℕ). option_or (option_map (λ k. k + 1) o) (Some 0)) (none refl)
      by false None none = refl
      by false (Some k) none = refl

or_none : (o : Option ℕ) → option_or o None ≡ o
or_none None = refl
or_none (Some k) = refl

pub is_index : (old new : NamePlaces) (names : List Name) → AllDifferent names → old ≡ empty → ((n : Name) → get new n ≡ option_or (last_place names n) (get old n)) → IsIndexOf new names
is_index old new names apart none has name =
    has name ∙ ap (λ m. option_or (last_place names name) (get m name)) none
    ∙ ap (option_or (last_place names name)) (get-empty name_cmp name) ∙ or_none (last_place names name) ∙ last-place names apart name

-- a bit by its name's place is the bit by its name
pub bit_at-nothing : (o : Option ℕ) → bit_at [] o ≡ false
bit_at-nothing None = refl
bit_at-nothing (Some zero) = refl
bit_at-nothing (Some (suc k)) = refl

pub bit_at-one_on : (b : Bool) (w : List Bool) (o : Option ℕ) → bit_at (b ∷ w) (one_on o) ≡ bit_at w o
bit_at-one_on b w None = refl
bit_at-one_on b w (Some k) = rw (add-one k) refl

pub bit_at-place_of : (names : List Name) (w : List Bool) (name : Name) → bit_at w (place_of names name) ≡ value_at names w name
bit_at-place_of [] w name = refl
bit_at-place_of (n ∷ names) [] name = bit_at-nothing (place_of (n ∷ names) name)
bit_at-place_of (n ∷ names) (b ∷ w) name = by (is_same_name n name) (bit_at-place_of names w name) where
  by : (r : Bool) → bit_at w (place_of names name) ≡ value_at names w name
      → bit_at (b ∷ w) (if r then Some 0 else one_on (place_of names name)) ≡ (if r then b else value_at names w name)
  by true e = refl
  by false e = bit_at-one_on b w (place_of names name) ∙ e

pub bits-values : (names : List Name) (w : List Bool) (asked : List Name) → map (bit_at w) (map (place_of names) asked) ≡ values_at names w asked
bits-values names w [] = refl
bits-values names w (a ∷ asked) = rw (bit_at-place_of names w a, bits-values names w asked) refl
