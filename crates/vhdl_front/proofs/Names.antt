-- A set of names is its names' bytes, in their order.
use Rattle.std.proofs.Common.{◌≡◌, ℕ, Bool, true, false, cond, List, [], ◌∷◌, map, refl, sym, ap, ◌∙◌}
use Rattle.std.specs.List.{list_any}
use Rattle.std.specs.BTreeMap.{is_at}
use Rattle.std.specs.BTreeSet.{insert_key}
use Rattle.std.specs.declared.cmp.Ordering.{Ordering}
use Rattle.std.specs.declared.cmp.Ordering.TheVariants.{Less, Equal, Greater}
use Rattle.std.specs.Ordering.{nat_cmp, match_ordering}
use Rattle.std.specs.Cmp.Lexicographic.{slice_cmp}
use Rattle.grammar_theory.specs.Marks.{is_declared}

pub declared_in : {V : Type 0} (f : V → List ℕ) (cmp : V → V → Ordering) → ((a b : V) → cmp a b ≡ slice_cmp nat_cmp (f a) (f b))
    → (k : V) (ks : List V) → list_any (is_at (cmp k)) ks ≡ is_declared (f k) (map f ks)
declared_in f cmp agrees k [] = refl
declared_in f cmp agrees k (x ∷ ks) = rw (agrees k x, declared_in f cmp agrees k ks) refl

map_match : {V : Type 0} (f : V → List ℕ) (o : Ordering) (a b c : List V) → map f (match_ordering o a b c) ≡ match_ordering o (map f a) (map f b) (map f c)
map_match f Less a b c = refl
map_match f Equal a b c = refl
map_match f Greater a b c = refl

pub inserted_in : {V : Type 0} (f : V → List ℕ) (cmp : V → V → Ordering) → ((a b : V) → cmp a b ≡ slice_cmp nat_cmp (f a) (f b))
    → (ks : List V) (k : V) → map f (insert_key cmp ks k) ≡ insert_key (slice_cmp nat_cmp) (map f ks) (f k)
inserted_in f cmp agrees [] k = refl
inserted_in f cmp agrees (x ∷ ks) k = map_match f (cmp k x) (k ∷ x ∷ ks) (x ∷ ks) (x ∷ insert_key cmp ks k) ∙ rw (agrees k x, inserted_in f cmp agrees ks k) refl
