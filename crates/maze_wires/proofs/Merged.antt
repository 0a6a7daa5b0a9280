-- Wires that are merged of steps begin at different nodes.
use Rattle.std.proofs.Common.{◌≡◌, ◌≢◌, ◌⊎◌, inl, inr, ⊎_elim, ℕ, zero, suc, ◌<◌, Bool, true, false, List, [], ◌∷◌, length, get_or, sym, ap, subst, arith, if◌then◌else◌}
use Rattle.std.specs.Prelude.{AllPairs, IsTrue}
use Rattle.vlsi_base.specs.Member.{In, here, there}
use Rattle.grid_core.specs.declared.grid.Node.{Node}
use Rattle.grid_core.specs.Grid.{ahead}
use Rattle.maze_drawing.specs.Wiring.{Wire}
use Rattle.maze_drawing.specs.Merge.{step_precedes, is_same_node, merge_from, merge}
use Rattle.maze_drawing.proofs.Unique.{pairs_rest, pairs_first}
use Rattle.maze_drawing.proofs.Merging.{head_or, before_never}

pub In_at : {A : Type 0} (xs : List A) (k : ℕ) (d : A) → k < length xs → In (get_or xs k d) xs
In_at [] k d h = absurd (omega arith)
In_at (x ∷ xs) zero d h = here
In_at (x ∷ xs) (suc k) d h = there (In_at xs k d (omega arith))

pub pairs_cons : {A : Type 0} (R : A → A → Type 0) (x : A) (xs : List A) → ((y : A) → In y xs → R x y) → AllPairs R xs → AllPairs R (x ∷ xs)
pairs_cons R x xs f all zero zero d lt below = absurd (omega arith)
pairs_cons R x xs f all zero (suc j) d lt below = f (get_or xs j d) (In_at xs j d (omega arith))
pairs_cons R x xs f all (suc i) zero d lt below = absurd (omega arith)
pairs_cons R x xs f all (suc i) (suc j) d lt below = all i j d (omega arith) (omega arith)

abbrev Precedes : Node → Node → Type 0
Precedes a b = IsTrue (step_precedes a b)

-- where wires begin
from_either : (w : Wire) (rest : List Node) (one : Wire) → In one (merge_from w rest) → (one.from ≡ w.from) ⊎ In one.from rest
from_either w [] one h = ⊎_elim (λ e. let r : one.from ≡ w.from = ap (λ v. v.from) e in inl r) (λ g. elim g [ ]) (head_or one w [] h)
from_either w (p ∷ rest) one h =
    by (is_same_node p (ahead w.from w.steps)) (λ k. from_either (record { from = w.from; steps = suc w.steps }) rest one k) (λ k. from_either (record { from = p; steps = 1 }) rest one k) h
  where
    by : (v : Bool) → (In one (merge_from (record { from = w.from; steps = suc w.steps }) rest) → (one.from ≡ w.from) ⊎ In one.from rest)
        → (In one (merge_from (record { from = p; steps = 1 }) rest) → (one.from ≡ p) ⊎ In one.from rest)
        → In one (if v then merge_from (record { from = w.from; steps = suc w.steps }) rest else w ∷ merge_from (record { from = p; steps = 1 }) rest) → (one.from ≡ w.from) ⊎ In one.from (p ∷ rest)
    by true goes anew h = ⊎_elim (λ e. inl e) (λ g. inr (there g)) (goes h)
    by false goes anew h =
        ⊎_elim (λ e. let r : one.from ≡ w.from = ap (λ v. v.from) e in inl r)
        (λ k. ⊎_elim (λ e. inr (subst (λ v. In v (p ∷ rest)) (sym e) here)) (λ g. inr (there g)) (anew k))
        (head_or one w (merge_from (record { from = p; steps = 1 }) rest) h)

from_order : (w : Wire) (rest : List Node) → ((p : Node) → In p rest → Precedes w.from p) → AllPairs (λ a b. IsTrue (step_precedes a b)) rest
    → AllPairs (λ (v u : Wire). IsTrue (step_precedes v.from u.from)) (merge_from w rest)
from_order w [] f all = λ i j d lt below. absurd (omega arith)
from_order w (p ∷ rest) f all =
    by (is_same_node p (ahead w.from w.steps))
    (from_order (record { from = w.from; steps = suc w.steps }) rest (λ q h. f q (there h)) (pairs_rest Precedes p rest all))
    (from_order (record { from = p; steps = 1 }) rest (λ q h. pairs_first Precedes p rest all q h) (pairs_rest Precedes p rest all))
  where
    by : (v : Bool) → AllPairs (λ (v u : Wire). IsTrue (step_precedes v.from u.from)) (merge_from (record { from = w.from; steps = suc w.steps }) rest)
        → AllPairs (λ (v u : Wire). IsTrue (step_precedes v.from u.from)) (merge_from (record { from = p; steps = 1 }) rest)
        → AllPairs (λ (v u : Wire). IsTrue (step_precedes v.from u.from)) (if v then merge_from (record { from = w.from; steps = suc w.steps }) rest else w ∷ merge_from (record { from = p; steps = 1 }) rest)
    by true goes anew = goes
    by false goes anew =
        pairs_cons (λ (v u : Wire). IsTrue (step_precedes v.from u.from)) w (merge_from (record { from = p; steps = 1 }) rest)
        (λ one h. ⊎_elim (λ e. subst (Precedes w.from) (sym e) (f p here)) (λ g. f one.from (there g)) (from_either (record { from = p; steps = 1 }) rest one h)) anew

pub merged_order : (steps : List Node) → AllPairs (λ a b. IsTrue (step_precedes a b)) steps → AllPairs (λ (v u : Wire). IsTrue (step_precedes v.from u.from)) (merge steps)
merged_order [] all = λ i j d lt below. absurd (omega arith)
merged_order (p ∷ rest) all = from_order (record { from = p; steps = 1 }) rest (λ q h. pairs_first Precedes p rest all q h) (pairs_rest Precedes p rest all)

apart : (a b : Node) → IsTrue (step_precedes a b) → a ≢ b
apart a b h e = before_never b (subst (λ v. Precedes v b) e h)

pub merged_apart : (steps : List Node) → AllPairs (λ a b. IsTrue (step_precedes a b)) steps → AllPairs (λ (v u : Wire). v.from ≢ u.from) (merge steps)
merged_apart steps all i j d lt below = apart _ _ (merged_order steps all i j d lt below)
