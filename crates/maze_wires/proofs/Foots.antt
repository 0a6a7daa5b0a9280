-- The nodes below terminals.
use Rattle.std.proofs.Common.{◌≡◌, ◌≢◌, ◌⊎◌, inl, inr, ⊎_elim, ℕ, ◌+◌, ◌<◌, List, [], ◌∷◌, ◌++◌, map, take, length, get_or, refl, sym, ap, subst, arith}
use Rattle.std.specs.Prelude.{◌↔◌, flat_map}
use Rattle.std.proofs.lemmas.List.{take_more}
use Rattle.vlsi_base.specs.Member.{In, here}
use Rattle.grid_core.specs.declared.grid.Node.{Node}
use Rattle.grid_core.specs.Grid.{above}
use Rattle.grid_core.proofs.Lists.{In_either, In_first, In_last}
use Rattle.maze_drawing.proofs.Unique.{node_same}
use Rattle.maze_drawing.proofs.Merging.{head_or}
use Rattle.maze_wires.specs.Feet.{IsFoot}

only : (x q : Node) → In x (q ∷ []) → x ≡ q
only x q h = ⊎_elim (λ e. e) (λ g. elim g [ ]) (head_or x q [] h)

pub no_feet : (olds nodes terminals : List Node) → ((v : Node) → IsFoot nodes terminals v → ⊥) → (v : Node) → In v olds ↔ (In v olds ⊎ IsFoot nodes terminals v)
no_feet olds nodes terminals none v = (λ h. inl h, λ h. ⊎_elim (λ g. g) (λ g. absurd (none v g)) h)

pub not_low : (nodes : List Node) (q : Node) → q.metal ≢ 2 → (v : Node) → IsFoot nodes (q ∷ []) v → ⊥
not_low nodes q ne v f = let a : v.metal + 1 ≡ q.metal = ap (λ x. x.metal) (only (above v) q f.terminal) in let m = f.low in ne (omega (arith, a, m))

pub not_there : (nodes : List Node) (q : Node) → (In q nodes → ⊥) → (v : Node) → IsFoot nodes (q ∷ []) v → ⊥
not_there nodes q out v f = out (subst (λ x. In x nodes) (only (above v) q f.terminal) f.node)

abbrev pub foot : Node → Node
foot q = record { metal = 1; column = q.column; row = q.row }

above_foot : (q : Node) → q.metal ≡ 2 → above (foot q) ≡ q
above_foot q m = node_same (above (foot q)) q (sym m) refl refl

pub one_foot : (olds nodes : List Node) (q : Node) → q.metal ≡ 2 → In q nodes → (v : Node) → In v (olds ++ foot q ∷ []) ↔ (In v olds ⊎ IsFoot nodes (q ∷ []) v)
one_foot olds nodes q m i v = (
  λ h. ⊎_elim (λ g. inl g) (λ g. inr (subst (IsFoot nodes (q ∷ [])) (sym (only v (foot q) g)) is)) (In_either olds (foot q ∷ []) v h),
  λ h. ⊎_elim (λ g. In_first olds (foot q ∷ []) v g) (λ g. In_last olds (foot q ∷ []) v (subst (λ x. In x (foot q ∷ [])) (sym (same g)) here)) h,
)
  where
    is : IsFoot nodes (q ∷ []) (foot q)
    is = record { low = refl; terminal = subst (λ x. In x (q ∷ [])) (sym (above_foot q m)) here; node = subst (λ x. In x nodes) (sym (above_foot q m)) i }

    same : IsFoot nodes (q ∷ []) v → v ≡ foot q
    same g = let e = only (above v) q g.terminal in node_same v (foot q) g.low (ap (λ x. x.column) e) (ap (λ x. x.row) e)

foot_either : (nodes front : List Node) (q v : Node) → IsFoot nodes (front ++ q ∷ []) v → IsFoot nodes front v ⊎ IsFoot nodes (q ∷ []) v
foot_either nodes front q v f =
    ⊎_elim (λ g. inl (record { low = f.low; terminal = g; node = f.node })) (λ g. inr (record { low = f.low; terminal = g; node = f.node }))
    (In_either front (q ∷ []) (above v) f.terminal)

foot_first : (nodes front : List Node) (q v : Node) → IsFoot nodes front v → IsFoot nodes (front ++ q ∷ []) v
foot_first nodes front q v f = record { low = f.low; terminal = In_first front (q ∷ []) (above v) f.terminal; node = f.node }

foot_last : (nodes front : List Node) (q v : Node) → IsFoot nodes (q ∷ []) v → IsFoot nodes (front ++ q ∷ []) v
foot_last nodes front q v f = record { low = f.low; terminal = In_last front (q ∷ []) (above v) f.terminal; node = f.node }

-- one terminal more
pub feet_more : (nodes ts olds mids news : List Node) (i : ℕ) (d : Node) → i < length ts → ((v : Node) → In v mids ↔ (In v olds ⊎ IsFoot nodes (take i ts) v))
    → ((v : Node) → In v news ↔ (In v mids ⊎ IsFoot nodes (get_or ts i d ∷ []) v)) → (v : Node) → In v news ↔ (In v olds ⊎ IsFoot nodes (take (i + 1) ts) v)
feet_more nodes ts olds mids news i d lt mid new v =
    subst (λ xs. In v news ↔ (In v olds ⊎ IsFoot nodes xs v)) (sym (take_more ts i d lt)) (
      λ h. ⊎_elim (λ g. ⊎_elim (λ k. inl k) (λ k. inr (foot_first nodes (take i ts) (get_or ts i d) v k)) ((mid v).0 g)) (λ g. inr (foot_last nodes (take i ts) (get_or ts i d) v g)) ((new v).0 h),
      λ h. (new v).1 (⊎_elim (λ k. inl ((mid v).1 (inl k)))
          (λ k. ⊎_elim (λ g. inl ((mid v).1 (inr g))) (λ g. inr g) (foot_either nodes (take i ts) (get_or ts i d) v k)) h),
    )

-- the nodes of paths
pub flat_back : {A : Type 0} (f : A → List Node) (xs : List A) → flat_map f xs ≡ flat_map (λ path. path) (map f xs)
flat_back f [] = refl
flat_back f (x ∷ xs) = ap (λ v. f x ++ v) (flat_back f xs)
