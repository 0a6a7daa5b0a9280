-- Lists of cuts that grow.
use Rattle.std.proofs.Common.{◌≡◌, ◌⊎◌, inl, inr, ℕ, ◌<◌, Bool, List, [], ◌∷◌, ◌++◌, length, map, get_or, Result, Ok, Err, IfOk, ap, refl, sym, subst, ◌∙◌, arith}
use Prim.Native.Nat.{zero, suc}
use Rattle.net_theory.specs.Sources.{IsNumber}
use Rattle.cell_match.specs.declared.cut.Cut.{Cut}
use Rattle.cell_match.specs.Computes.{cut_value}
use Rattle.boog_cuts.specs.Lists.{IsMore, AreMade, IsNandMade, FromTwo}

pub is_number : {A : Type 0} (xs : List A) (i : ℕ) (o : A) → i < length xs → o ≡ get_or xs i o → IsNumber xs i o
is_number [] i o h e = absurd (omega arith)
is_number (x ∷ xs) zero o h e = e
is_number (x ∷ xs) (suc i) o h e = is_number xs i o (omega arith) e

pub number_front : {A : Type 0} (xs ys : List A) (i : ℕ) (x : A) → IsNumber xs i x → IsNumber (xs ++ ys) i x
number_front [] ys i x h = absurd h
number_front (y ∷ xs) ys zero x h = h
number_front (y ∷ xs) ys (suc i) x h = number_front xs ys i x h

pub number_end : {A : Type 0} (xs : List A) (y : A) (i : ℕ) (x : A) → IsNumber (xs ++ y ∷ []) i x → IsNumber xs i x ⊎ (x ≡ y)
number_end [] y zero x h = inr h
number_end [] y (suc i) x h = absurd h
number_end (z ∷ xs) y zero x h = inl h
number_end (z ∷ xs) y (suc i) x h = number_end xs y i x h

module _ {K : ℕ} (P : Cut K → Type 0) (number : ℕ) where
  pub made_start : (node : Cut K) (cuts : List (Cut K)) → cuts ≡ node ∷ [] → node.leaves.items ≡ number ∷ [] → ((f : ℕ → Bool) → cut_value node f ≡ f number)
      → AreMade P number cuts
  made_start node cuts is leaves value = record { node = node; rest = []; is = is; leaves = leaves; value = value; made = λ i c h. absurd h }

  pub made_added : (cuts next : List (Cut K)) (c : Cut K) → AreMade P number cuts → next ≡ cuts ++ c ∷ [] → P c → AreMade P number next
  made_added cuts next c before is new = record {
    node = before.node;
    rest = before.rest ++ c ∷ [];
    is = is ∙ ap (λ (xs : List (Cut K)). xs ++ c ∷ []) before.is;
    leaves = before.leaves;
    value = before.value;
    made = λ i d h. elim (number_end before.rest c i d h) [
      | inl in_front ↦ before.made i d in_front
      | inr at_end ↦ subst P (sym at_end) new
    ];
  }

  pub made_more : (cuts next : List (Cut K)) → AreMade P number cuts → IsMore P cuts next → AreMade P number next
  made_more cuts next before more = elim more [
    | inl same ↦ subst (λ (xs : List (Cut K)). AreMade P number xs) (sym same) before
    | inr added ↦ made_added cuts next added.0 before added.1 added.2
  ]

pub number_kept : {K : ℕ} (P : Cut K → Type 0) (cuts next : List (Cut K)) (i : ℕ) (c : Cut K) → IsMore P cuts next → IsNumber cuts i c → IsNumber next i c
number_kept P cuts next i c more h = elim more [
  | inl same ↦ subst (λ xs. IsNumber xs i c) (sym same) h
  | inr added ↦ subst (λ xs. IsNumber xs i c) (sym added.1) (number_front cuts (added.0 ∷ []) i c h)
]

-- a list of two
pub made_two : {K : ℕ} (P : Cut K → Type 0) (number : ℕ) (one two : List (Cut K)) (node c : Cut K) → one ≡ node ∷ [] → two ≡ one ++ c ∷ []
    → node.leaves.items ≡ number ∷ [] → ((f : ℕ → Bool) → cut_value node f ≡ f number) → P c → AreMade P number two × IsNumber two 1 c
made_two P number one two node c is more leaves value new = (
  made_added P number one two c (made_start P number node one is leaves value) more new,
  subst (λ xs. IsNumber xs 1 c) (sym (more ∙ ap (λ xs. xs ++ c ∷ []) is)) refl,
)

pub made_grown : {K : ℕ} (first second : List (Cut K)) (i j : ℕ) (a b : Cut K) → IsNumber first i a → IsNumber second j b → (cuts next : List (Cut K))
    → IsMore (IsNandMade a b) cuts next → IsMore (FromTwo first second) cuts next
made_grown first second i j a b at at_too cuts next more = elim more [
  | inl same ↦ inl same
  | inr added ↦ inr (added.0, added.1, (i, j, a, b, at, at_too, added.2))
]

pub number_map : {A B : Type 0} (f : A → B) (xs : List A) (i : ℕ) (x : A) → IsNumber xs i x → IsNumber (map f xs) i (f x)
number_map f [] i x h = absurd h
number_map f (y ∷ xs) zero x h = ap f h
number_map f (y ∷ xs) (suc i) x h = number_map f xs i x h

pub list_at : {A B : Type 0} (f : A → B) (xs : List A) (i : ℕ) (o : A) → i < length xs → o ≡ get_or xs i o → IsNumber (map f xs) i (f o)
list_at f xs i o h e = number_map f xs i o (is_number xs i o h e)

pub if_ok : {A E : Type 0} (P Q R : A → Type 0) (r : Result A E) → ((x : A) → P x → Q x → R x) → IfOk r P → IfOk r Q → IfOk r R
if_ok P Q R (Ok x) f p q = f x p q
if_ok P Q R (Err e) f p q = p
