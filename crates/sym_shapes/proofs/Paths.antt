-- Chains of links by places in the list of shapes.
use Rattle.std.proofs.Common.{◌≡◌, ℕ, zero, suc, ◌<◌, Bool, true, ◌&&◌, List, [], ◌∷◌, length, subst, arith, ltb, get_or}
use Rattle.std.proofs.lemmas.Bool.{ltb-true}
use Rattle.vlsi_base.specs.declared.name.Terminal.{Terminal}
use Rattle.vlsi_base.specs.Member.{In, here, there}
use Rattle.sym_shapes.specs.Shape.{Shape}
use Rattle.sym_shapes.specs.Joined.{Joined, itself, through, Shows, AreJoined}
use Rattle.sym_shapes.proofs.Tests.{both, linked, linked_so}

In-get_or : {A : Type 0} (xs : List A) (k : ℕ) (d : A) → k < length xs → In (get_or xs k d) xs
In-get_or [] k d h = absurd (omega arith)
In-get_or (x ∷ xs) zero d h = here
In-get_or (x ∷ xs) (suc k) d h = there (In-get_or xs k d (omega arith))

-- each place is in the list, and linked to the next
abbrev pub path_ok : List Shape → Shape → ℕ → List ℕ → Bool
path_ok all d k [] = ltb k (length all)
path_ok all d k (j ∷ js) = ltb k (length all) && (linked (get_or all k d) (get_or all j d) && path_ok all d j js)

abbrev pub path_end : ℕ → List ℕ → ℕ
path_end k [] = k
path_end k (j ∷ js) = path_end j js

pub joined_by : (all : List Shape) (d : Shape) (k : ℕ) (js : List ℕ) → path_ok all d k js ≡ true → Joined all (get_or all k d) (get_or all (path_end k js) d)
joined_by all d k [] ok = itself (In-get_or all k d (ltb-true k (length all) ok))
joined_by all d k (j ∷ js) ok =
    let first = both (ltb k (length all)) _ ok in
    let second = both (linked (get_or all k d) (get_or all j d)) (path_ok all d j js) first.1 in
    through (In-get_or all k d (ltb-true k (length all) first.0)) (linked_so (get_or all k d) (get_or all j d) second.0) (joined_by all d j js second.1)

pub Joined_trans : {all : List Shape} {a b c : Shape} → Joined all a b → Joined all b c → Joined all a c
Joined_trans (itself h) second = second
Joined_trans (through h link rest) second = through h link (Joined_trans rest second)

-- a terminal's connector is joined to the root of its class, both ways
pub record Rooted (all : List Shape) (class : Terminal → ℕ) (root : ℕ → Shape) (t : Terminal) : Type 0 where
  pub shape : Shape
  pub shows : Shows t shape
  pub to : Joined all shape (root (class t))
  pub from : Joined all (root (class t)) shape

pub joined_by_class : (all : List Shape) (class : Terminal → ℕ) (root : ℕ → Shape) (a b : Terminal) → Rooted all class root a → Rooted all class root b → class a ≡ class b → AreJoined all a b
joined_by_class all class root a b first second same = record {
  from = first.shape;
  to = second.shape;
  shows_from = first.shows;
  shows_to = second.shows;
  joined = Joined_trans (subst (λ (n : ℕ). Joined all first.shape (root n)) same first.to) second.from;
}
