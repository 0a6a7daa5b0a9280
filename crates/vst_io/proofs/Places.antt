-- Where names stand in lists, and indices of them.
use Rattle.std.proofs.Common.{◌≡◌, ℕ, zero, suc, ◌+◌, Bool, true, false, not, ◌&&◌, ◌||◌, List, [], ◌∷◌, ◌++◌, map, Option, None, Some, refl, sym, ap, subst, ◌∙◌, add-one}
use Rattle.std.specs.Prelude.{option_map, is_some, is_none, if◌then◌else◌}
use Rattle.std.specs.List.{list_all, slice_index_or}
use Rattle.std.specs.Option.{option_or}
use Rattle.std.specs.Cmp.{eq_by_cmp_equiv}
use Rattle.std.specs.FinMap.{empty, get, get-empty}
use Rattle.std.specs.Ordering.{eq_by_cmp, is_eq}
use Rattle.std.specs.declared.cmp.Ordering.{Ordering}
use Rattle.std.specs.declared.cmp.Ordering.TheVariants.{Less, Equal, Greater}
use Rattle.vlsi_base.specs.declared.name.Name.{Name}
use Rattle.vlsi_base.specs.Member.{In, here, there}
use Rattle.vlsi_base.specs.Name.{name_cmp}
use Rattle.vlsi_base.specs.NamePlaces.{NamePlaces, name_of, last_place}
use Rattle.vlsi_base.proofs.NameOrder.{name_total, name_exact}
use Rattle.net_core.specs.Places.{Stands, IsThere}
use Rattle.vst_io.specs.Faults.{stands}

-- ---- places and members

pub stands_in : {X : Type 0} (xs : List X) (k : ℕ) (x : X) → Stands xs k x → In x xs
stands_in [] k x e = absurd cc
stands_in {X} (y ∷ xs) zero x e = let same : y ≡ x = cc in subst (λ (z : X). In z (y ∷ xs)) same here
stands_in (y ∷ xs) (suc k) x e = there (stands_in xs k x e)

pub in_stands : {X : Type 0} (xs : List X) (x : X) → In x xs → IsThere xs x
in_stands [] x h = elim h [ ]
in_stands (y ∷ xs) x here = (zero, refl)
in_stands (y ∷ xs) x (there h) = let r = in_stands xs x h in (suc r.0, r.1)

pub index_stands : {X : Type 0} (xs : List X) (k : ℕ) (x d : X) → Stands xs k x → slice_index_or xs k d ≡ x
index_stands [] k x d e = absurd cc
index_stands (y ∷ xs) zero x d e = cc
index_stands (y ∷ xs) (suc k) x d e = index_stands xs k x d e

pub stands_map : {X Y : Type 0} (f : X → Y) (xs : List X) (k : ℕ) (y : Y) → Stands (map f xs) k y → (x : X) × Stands xs k x × (f x ≡ y)
stands_map f [] k y e = absurd cc
stands_map f (x ∷ xs) zero y e = (x, refl, cc)
stands_map f (x ∷ xs) (suc k) y e = stands_map f xs k y e

pub map_stands : {X Y : Type 0} (f : X → Y) (xs : List X) (k : ℕ) (x : X) → Stands xs k x → Stands (map f xs) k (f x)
map_stands f [] k x e = absurd cc
map_stands f (y ∷ xs) zero x e = let same : y ≡ x = cc in ap (λ z. Some (f z)) same
map_stands f (y ∷ xs) (suc k) x e = map_stands f xs k x e

-- ---- the last place of a name

tie : (n name : Name) → eq_by_cmp name_cmp n name ≡ true → name ≡ n
tie n name h = by (name_cmp n name) refl h where
  by : (o : Ordering) → name_cmp n name ≡ o → is_eq o ≡ true → name ≡ n
  by Less is e = absurd (cc e)
  by Greater is e = absurd (cc e)
  by Equal is e = sym (name_exact n name is)

no_tie : (n name : Name) → eq_by_cmp name_cmp n name ≡ false → name ≡ n → ⊥
no_tie n name h same =
    let yes : eq_by_cmp name_cmp n n ≡ true = (eq_by_cmp_equiv name_total).refl n in
    let no : eq_by_cmp name_cmp n n ≡ false = subst (λ (x : Name). eq_by_cmp name_cmp n x ≡ false) same h in
    absurd (cc (yes, no))

nowhere : (names : List Name) (name n : Name) → In name (n ∷ names) → (name ≡ n → ⊥) → (In name names → ⊥) → ⊥
nowhere names name n here p q = p refl
nowhere names name n (there g) p q = q g

-- where a name stands last, it stands; without such a place it stands nowhere
abbrev pub IsLast : List Name → Name → Option ℕ → Type 0
IsLast names name None = In name names → ⊥
IsLast names name (Some j) = Stands names j name

pub last_is : (names : List Name) (name : Name) → IsLast names name (last_place names name)
last_is [] name = λ h. elim h [ ]
last_is (n ∷ names) name = by (last_place names name) (eq_by_cmp name_cmp n name) refl (last_is names name) where
  by : (o : Option ℕ) (b : Bool) → eq_by_cmp name_cmp n name ≡ b → IsLast names name o
      → IsLast (n ∷ names) name (option_or (option_map (λ k. k + 1) o) (if b then Some 0 else None))
  by None true e h = ap Some (sym (tie n name e))
  by None false e h = λ g. nowhere names name n g (no_tie n name e) h
  by (Some j) b e h = let P : ℕ → Type 0 = λ k. Stands (n ∷ names) k name in let plus : suc j ≡ j + 1 = sym (add-one j) in subst P plus h

-- of a name that is there
pub last_there : (names : List Name) (name : Name) → In name names → (k : ℕ) × (last_place names name ≡ Some k) × Stands names k name
last_there names name h = by (last_place names name) refl (last_is names name) where
  by : (o : Option ℕ) → last_place names name ≡ o → IsLast names name o → (k : ℕ) × (last_place names name ≡ Some k) × Stands names k name
  by None e s = absurd (s h)
  by (Some k) e s = (k, e, s)

pub stands_there : (names : List Name) (name : Name) → stands names name ≡ true → In name names
stands_there names name h = by (last_place names name) (last_is names name) h where
  by : (o : Option ℕ) → IsLast names name o → is_some o ≡ true → In name names
  by None s e = absurd cc
  by (Some k) s e = stands_in names k name s

pub stands_not : (names : List Name) (name : Name) → stands names name ≡ false → In name names → ⊥
stands_not names name h i = by (last_place names name) (last_is names name) h where
  by : (o : Option ℕ) → IsLast names name o → is_some o ≡ false → ⊥
  by None s e = s i
  by (Some k) s e = absurd cc

-- ---- what an index holds

-- the index has the names of a list
abbrev pub Holds : NamePlaces → List Name → Type 0
Holds index names = (n : Name) → is_some (get index n) ≡ stands names n

some_or : (a b : Option ℕ) → is_some (option_or a b) ≡ is_some a || is_some b
some_or None b = refl
some_or (Some x) b = refl

some_map : (o : Option ℕ) → is_some (option_map (λ k. k + 1) o) ≡ is_some o
some_map None = refl
some_map (Some x) = refl

pub stands_append : (xs ys : List Name) (n : Name) → stands (xs ++ ys) n ≡ stands xs n || stands ys n
stands_append [] ys n = refl
stands_append (x ∷ xs) ys n = by (last_place (xs ++ ys) n) (last_place xs n) (stands ys n) (eq_by_cmp name_cmp x n) (stands_append xs ys n) where
  by : (a b : Option ℕ) (s e : Bool) → is_some a ≡ is_some b || s
      → is_some (option_or (option_map (λ k. k + 1) a) (if e then Some 0 else None)) ≡ is_some (option_or (option_map (λ k. k + 1) b) (if e then Some 0 else None)) || s
  by (Some i) (Some j) s e h = refl
  by (Some i) None true true h = refl
  by (Some i) None true false h = refl
  by (Some i) None false e h = absurd cc
  by None (Some j) s e h = absurd cc
  by None None true e h = absurd cc
  by None None false true h = refl
  by None None false false h = refl

pub holds_none : (index : NamePlaces) → index ≡ empty → Holds index []
holds_none index e n = ap (λ (m : NamePlaces). is_some (get m n)) e ∙ ap is_some (get-empty name_cmp n)

pub holds_more : (old new : NamePlaces) (names more : List Name) → Holds old names → ((n : Name) → get new n ≡ option_or (last_place more n) (get old n)) → Holds new (names ++ more)
holds_more old new names more holds has n =
    ap is_some (has n) ∙ some_or (last_place more n) (get old n) ∙ ap (λ b. stands more n || b) (holds n) ∙ either (stands more n) (stands names n) ∙ sym (stands_append names more n) where
      either : (a b : Bool) → (a || b) ≡ (b || a)
      either true true = refl
      either true false = refl
      either false true = refl
      either false false = refl

-- ---- bits of a pin that are free

none_not : (o : Option ℕ) → is_none o ≡ not (is_some o)
none_not None = refl
none_not (Some x) = refl

pub free_all : (pins mapped : NamePlaces) (model before : List Name) (text : List ℕ) (bits : List (Option ℕ)) → Holds pins model → Holds mapped before
    → list_all (λ b. is_some (get pins (name_of text b)) && is_none (get mapped (name_of text b))) bits ≡ list_all (λ n. stands model n && not (stands before n)) (map (name_of text) bits)
free_all pins mapped model before text [] p m = refl
free_all pins mapped model before text (b ∷ bits) p m =
    let one : is_some (get pins (name_of text b)) ≡ stands model (name_of text b) = p (name_of text b) in
    let two : is_none (get mapped (name_of text b)) ≡ not (stands before (name_of text b)) = none_not (get mapped (name_of text b)) ∙ ap not (m (name_of text b)) in
    ap (λ (x : Bool). (x && is_none (get mapped (name_of text b))) && list_all (λ b. is_some (get pins (name_of text b)) && is_none (get mapped (name_of text b))) bits) one
    ∙ ap (λ (x : Bool). (stands model (name_of text b) && x) && list_all (λ b. is_some (get pins (name_of text b)) && is_none (get mapped (name_of text b))) bits) two
    ∙ ap (λ (x : Bool). (stands model (name_of text b) && not (stands before (name_of text b))) && x) (free_all pins mapped model before text bits p m)

pub mapped_all : {X : Type 0} (f : X → Name) (mapped : NamePlaces) (before : List Name) (xs : List X) → Holds mapped before
    → list_all (λ n. is_some (get mapped n)) (map f xs) ≡ list_all (λ x. stands before (f x)) xs
mapped_all f mapped before [] m = refl
mapped_all f mapped before (x ∷ xs) m =
    ap (λ (b : Bool). b && list_all (λ n. is_some (get mapped n)) (map f xs)) (m (f x)) ∙ ap (λ (b : Bool). stands before (f x) && b) (mapped_all f mapped before xs m)
