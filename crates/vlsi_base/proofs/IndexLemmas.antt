-- An index of names, as the map that contracts see.
use Rattle.std.proofs.Common.{◌≡◌, ℕ, ◌+◌, Bool, true, false, cond, List, [], ◌∷◌, ◌++◌, map, length, take, ◌<◌, Option, None, Some, refl, sym, ap, ◌∙◌, Bor, arith, add-one}
use Rattle.std.specs.Prelude.{option_map}
use Rattle.std.specs.List.{slice_index_or}
use Rattle.std.proofs.lemmas.List.{take_more, length-take-le}
use Rattle.std.specs.Option.{option_or, option_cmp}
use Rattle.std.specs.Map.{lookup}
use Rattle.std.specs.BTreeMap.{BTreeMap, Updates, is_at}
use Rattle.std.specs.Cmp.{eq_by_cmp_equiv}
use Rattle.std.specs.Cmp.Lexicographic.{slice_cmp}
use Rattle.std.specs.FinMap.{get, insert, find, from_entries, get-insert, get-from_entries, same_map}
use Rattle.std.specs.Ordering.{nat_cmp, eq_by_cmp, ordering_then, is_eq}
use Rattle.std.specs.declared.cmp.Ordering.{Ordering}
use Rattle.vlsi_base.specs.declared.name.Name.{Name}
use Rattle.vlsi_base.specs.Name.{name_cmp, bit_cmp}
use Rattle.vlsi_base.specs.NamePlaces.{NamePlaces, name_of, last_place}
use Rattle.vlsi_base.proofs.NameOrder.{name_total, name_exact}

abbrev pub Key : Type 0
Key = Bor (List ℕ) × Option ℕ

abbrev pub key_cmp : Key → Key → Ordering
key_cmp a b = ordering_then (slice_cmp nat_cmp a.0.now b.0.now) (option_cmp nat_cmp a.1 b.1)

-- what an entry of the tree is to contracts
abbrev pub seen : Key × ℕ → Name × ℕ
seen e = (name_of e.0.0.now e.0.1, e.1)

abbrev pub view_of : List (Key × ℕ) → NamePlaces
view_of es = from_entries (map seen es)

bits : (a b : Option ℕ) → bit_cmp a b ≡ option_cmp nat_cmp a b
bits None None = refl
bits None (Some b) = refl
bits (Some a) None = refl
bits (Some a) (Some b) = refl

keys_as_names : (a b : Key) → name_cmp (name_of a.0.now a.1) (name_of b.0.now b.1) ≡ key_cmp a b
keys_as_names a b = ap (ordering_then (slice_cmp nat_cmp a.0.now b.0.now)) (bits a.1 b.1)

found : (es : List (Key × ℕ)) (q : Key) → find name_cmp (name_of q.0.now q.1) (map seen es) ≡ lookup (is_at (key_cmp q)) es
found [] q = refl
found (e ∷ es) q =
    ap (λ (o : Ordering). cond (is_eq o) (Some e.1) (find name_cmp (name_of q.0.now q.1) (map seen es))) (keys_as_names q e.0)
    ∙ ap (cond (is_at (key_cmp q) e.0) (Some e.1)) (found es q)

-- a name is found as its key is
pub get-view : (es : List (Key × ℕ)) (q : Key) → get (view_of es) (name_of q.0.now q.1) ≡ lookup (is_at (key_cmp q)) es
get-view es q = get-from_entries name_total (map seen es) (name_of q.0.now q.1) ∙ found es q

-- to update the tree is to insert into the map
pub insert-view : (m n : BTreeMap Key ℕ) (k : Key) (place : ℕ) → Updates key_cmp m n k (Some place)
    → view_of n.entries ≡ insert (view_of m.entries) (name_of k.0.now k.1) place
insert-view m n k place h = same_map name_total name_exact (view_of n.entries) (insert (view_of m.entries) name place) each where
  name : Name
  name = name_of k.0.now k.1

  each : (q : Name) → get (view_of n.entries) q ≡ get (insert (view_of m.entries) name place) q
  each q =
      let key : Key = (record { ref_ptr = (0, 0); now = q.text }, q.bit) in
      let tie : is_at (key_cmp k) key ≡ eq_by_cmp name_cmp q name = ap is_eq (sym (keys_as_names k key)) ∙ (eq_by_cmp_equiv name_total).symm name q in
      get-view n.entries key ∙ h.0 key
      ∙ ap (cond (is_at (key_cmp k) key) (Some place)) (sym (get-view m.entries key))
      ∙ ap (λ b. cond b (Some place) (get (view_of m.entries) q)) tie
      ∙ sym (get-insert name_total (view_of m.entries) name place q)

-- one more name
pub last_place-push : (xs : List Name) (x q : Name) → last_place (xs ++ x ∷ []) q ≡ option_or (cond (eq_by_cmp name_cmp x q) (Some (length xs)) None) (last_place xs q)
last_place-push [] x q = by (eq_by_cmp name_cmp x q) where
  by : (b : Bool) → cond {A = Option ℕ} b (Some 0) None ≡ option_or (cond {A = Option ℕ} b (Some 0) None) None
  by true = refl
  by false = refl
last_place-push (n ∷ xs) x q =
    ap (λ (o : Option ℕ). option_or (option_map (λ k. k + 1) o) first) (last_place-push xs x q) ∙ by (eq_by_cmp name_cmp x q) where
      first : Option ℕ
      first = cond (eq_by_cmp name_cmp n q) (Some 0) None

      by : (b : Bool) → option_or (option_map (λ k. k + 1) (option_or (cond b (Some (length xs)) None) (last_place xs q))) first
          ≡ option_or (cond b (Some (length (n ∷ xs))) None) (option_or (option_map (λ k. k + 1) (last_place xs q)) first)
      by true = ap (λ (k : ℕ). Some k) (add-one (length xs))
      by false = refl

-- an index has the place at which each of these names stands last, and else what the old one had
abbrev pub HasPlaces : NamePlaces → NamePlaces → List Name → Type 0
HasPlaces old new names = (q : Name) → get new q ≡ option_or (last_place names q) (get old q)

inserted : (old now : NamePlaces) (xs : List Name) (x : Name) → HasPlaces old now xs → HasPlaces old (insert now x (length xs)) (xs ++ x ∷ [])
inserted old now xs x has q =
    get-insert name_total now x (length xs) q
    ∙ ap (cond (eq_by_cmp name_cmp q x) (Some (length xs))) (has q)
    ∙ ap (λ b. cond b (Some (length xs)) (option_or (last_place xs q) (get old q))) ((eq_by_cmp_equiv name_total).symm q x)
    ∙ by (eq_by_cmp name_cmp x q)
    ∙ ap (λ (o : Option ℕ). option_or o (get old q)) (sym (last_place-push xs x q)) where
      by : (b : Bool) → cond b (Some (length xs)) (option_or (last_place xs q) (get old q)) ≡ option_or (option_or (cond b (Some (length xs)) None) (last_place xs q)) (get old q)
      by true = refl
      by false = refl

-- it has the name at place k too, once that one is inserted
pub has_next : (old now new : NamePlaces) (names : List Name) (k : ℕ) (x : Name) → k < length names → x ≡ slice_index_or names k x
    → new ≡ insert now x k → HasPlaces old now (take k names) → HasPlaces old new (take (k + 1) names)
has_next old now new names k x within is made has =
    let count : length (take k names) ≡ k = length-take-le k names (omega (arith, within)) in
    let next : take (k + 1) names ≡ take k names ++ x ∷ [] = take_more names k x within ∙ ap (λ n. take k names ++ n ∷ []) (sym is) in
    let same : new ≡ insert now x (length (take k names)) = made ∙ ap (insert now x) (sym count) in
    rw (same, next) (inserted old now (take k names) x has)
