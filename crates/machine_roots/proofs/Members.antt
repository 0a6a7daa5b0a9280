-- Subexpressions of expansions, and what counts the same.
use Rattle.std.proofs.Common.{◌≡◌, ◌⊎◌, inl, inr, ℕ, Bool, List, [], ◌∷◌, ◌++◌, refl, sym, subst}
use Rattle.vlsi_base.specs.Member.{In, here, there}
use Rattle.bool_expr.specs.Expression.{Expression, constant, variable, inverse, pair, choice, variables}
use Rattle.machine_core.proofs.Values.{In-left, In-right, In-split}
use Rattle.bdd_core.specs.Truths.{Truths, constant as even, IsPart, IsUneven, IsCounted, IsOver}
use Rattle.bdd_core.specs.Nodes.{raised, Lists}
use Rattle.bdd_core.specs.Counting.{Holds}
use Rattle.bdd_core.specs.Asked.{denoted, asked_of}
use Rattle.bdd_core.proofs.Raised.{part-raised}
use Rattle.machine_walk.specs.Expansion.{with_variables, subexpressions}

-- ---- subexpressions

pub itself : (e : Expression) → In e (subexpressions e)
itself (constant b) = here
itself (variable k) = here
itself (inverse e) = here
itself (pair g a b) = here
itself (choice c a b) = here

-- those of an expression, with others in place of its variables
pub sub_own : (f : ℕ → Expression) (e y : Expression) → In y (subexpressions e) → In (with_variables f y) (subexpressions (with_variables f e))
sub_own f (constant b) y h = subst (λ (x : Expression). In (with_variables f x) (constant b ∷ [])) (sym (only y h)) here where
  only : (y : Expression) → In y (constant b ∷ []) → y ≡ constant b
  only y here = refl
  only y (there p) = elim p [ ]
sub_own f (variable k) y h = subst (λ (x : Expression). In (with_variables f x) (subexpressions (f k))) (sym (only y h)) (itself (f k)) where
  only : (y : Expression) → In y (variable k ∷ []) → y ≡ variable k
  only y here = refl
  only y (there p) = elim p [ ]
sub_own f (inverse e) y here = here
sub_own f (inverse e) y (there p) = there (sub_own f e y p)
sub_own f (pair g a b) y here = here
sub_own f (pair g a b) y (there p) = there (elim (In-split y (subexpressions a) (subexpressions b) p) [
  | inl q ↦ In-left (with_variables f y) (subexpressions (with_variables f a)) (subexpressions (with_variables f b)) (sub_own f a y q)
  | inr q ↦ In-right (with_variables f y) (subexpressions (with_variables f a)) (subexpressions (with_variables f b)) (sub_own f b y q)
])
sub_own f (choice c a b) y here = here
sub_own f (choice c a b) y (there p) =
    there (either (λ q. sub_own f c y q) (λ q. sub_own f a y q) (λ q. sub_own f b y q) (In-split y (subexpressions c) (subexpressions a ++ subexpressions b) p)) where
      C : List Expression
      C = subexpressions (with_variables f c)

      A : List Expression
      A = subexpressions (with_variables f a)

      B : List Expression
      B = subexpressions (with_variables f b)

      last : (In y (subexpressions a) → In (with_variables f y) A) → (In y (subexpressions b) → In (with_variables f y) B)
          → In y (subexpressions a) ⊎ In y (subexpressions b) → In (with_variables f y) (A ++ B)
      last ofa ofb (inl q) = In-left (with_variables f y) A B (ofa q)
      last ofa ofb (inr q) = In-right (with_variables f y) A B (ofb q)

      either : (In y (subexpressions c) → In (with_variables f y) C) → (In y (subexpressions a) → In (with_variables f y) A) → (In y (subexpressions b) → In (with_variables f y) B)
          → In y (subexpressions c) ⊎ In y (subexpressions a ++ subexpressions b) → In (with_variables f y) (C ++ (A ++ B))
      either ofc ofa ofb (inl q) = In-left (with_variables f y) C (A ++ B) (ofc q)
      either ofc ofa ofb (inr q) = In-right (with_variables f y) C (A ++ B) (last ofa ofb (In-split y (subexpressions a) (subexpressions b) q))

-- and those of what stands in place of a variable
pub sub_of : (f : ℕ → Expression) (e : Expression) (k : ℕ) (x : Expression) → In k (variables e) → In x (subexpressions (f k)) → In x (subexpressions (with_variables f e))
sub_of f (constant b) k x h i = elim h [ ]
sub_of f (variable j) k x here i = i
sub_of f (variable j) k x (there h) i = elim h [ ]
sub_of f (inverse e) k x h i = there (sub_of f e k x h i)
sub_of f (pair g a b) k x h i = there (elim (In-split k (variables a) (variables b) h) [
  | inl q ↦ In-left x (subexpressions (with_variables f a)) (subexpressions (with_variables f b)) (sub_of f a k x q i)
  | inr q ↦ In-right x (subexpressions (with_variables f a)) (subexpressions (with_variables f b)) (sub_of f b k x q i)
])
sub_of f (choice c a b) k x h i =
    there (either (λ q. sub_of f c k x q i) (λ q. sub_of f a k x q i) (λ q. sub_of f b k x q i) (In-split k (variables c) (variables a ++ variables b) h)) where
      C : List Expression
      C = subexpressions (with_variables f c)

      A : List Expression
      A = subexpressions (with_variables f a)

      B : List Expression
      B = subexpressions (with_variables f b)

      last : (In k (variables a) → In x A) → (In k (variables b) → In x B) → In k (variables a) ⊎ In k (variables b) → In x (A ++ B)
      last ofa ofb (inl q) = In-left x A B (ofa q)
      last ofa ofb (inr q) = In-right x A B (ofb q)

      either : (In k (variables c) → In x C) → (In k (variables a) → In x A) → (In k (variables b) → In x B)
          → In k (variables c) ⊎ In k (variables a ++ variables b) → In x (C ++ (A ++ B))
      either ofc ofa ofb (inl q) = In-left x C (A ++ B) (ofc q)
      either ofc ofa ofb (inr q) = In-right x C (A ++ B) (last ofa ofb (In-split k (variables a) (variables b) q))

-- one of the two each is
pub data FromEither (f : ℕ → Expression) (e x : Expression) : Type 0 where
  own : (y : Expression) → In y (subexpressions e) → x ≡ with_variables f y → FromEither f e x
  inside : (k : ℕ) → In k (variables e) → In x (subexpressions (f k)) → FromEither f e x

pub sub_split : (f : ℕ → Expression) (e x : Expression) → In x (subexpressions (with_variables f e)) → FromEither f e x
sub_split f (constant b) x here = own (constant b) here refl
sub_split f (constant b) x (there h) = elim h [ ]
sub_split f (variable k) x h = inside k here h
sub_split f (inverse e) x here = own (inverse e) here refl
sub_split f (inverse e) x (there h) = up (sub_split f e x h) where
  up : FromEither f e x → FromEither f (inverse e) x
  up (own y i is) = own y (there i) is
  up (inside k i j) = inside k i j
sub_split f (pair g a b) x here = own (pair g a b) here refl
sub_split f (pair g a b) x (there h) = by (λ p. sub_split f a x p) (λ p. sub_split f b x p) (In-split x (subexpressions (with_variables f a)) (subexpressions (with_variables f b)) h) where
  left : FromEither f a x → FromEither f (pair g a b) x
  left (own y i is) = own y (there (In-left y (subexpressions a) (subexpressions b) i)) is
  left (inside k i j) = inside k (In-left k (variables a) (variables b) i) j

  right : FromEither f b x → FromEither f (pair g a b) x
  right (own y i is) = own y (there (In-right y (subexpressions a) (subexpressions b) i)) is
  right (inside k i j) = inside k (In-right k (variables a) (variables b) i) j

  by : (In x (subexpressions (with_variables f a)) → FromEither f a x) → (In x (subexpressions (with_variables f b)) → FromEither f b x)
      → In x (subexpressions (with_variables f a)) ⊎ In x (subexpressions (with_variables f b)) → FromEither f (pair g a b) x
  by ofa ofb (inl p) = left (ofa p)
  by ofa ofb (inr p) = right (ofb p)
sub_split f (choice c a b) x here = own (choice c a b) here refl
sub_split f (choice c a b) x (there h) = by (λ p. sub_split f c x p) (λ p. sub_split f a x p) (λ p. sub_split f b x p) (In-split x (subexpressions (with_variables f c)) (subexpressions (with_variables f a) ++ subexpressions (with_variables f b)) h) where
  first : FromEither f c x → FromEither f (choice c a b) x
  first (own y i is) = own y (there (In-left y (subexpressions c) (subexpressions a ++ subexpressions b) i)) is
  first (inside k i j) = inside k (In-left k (variables c) (variables a ++ variables b) i) j

  left : FromEither f a x → FromEither f (choice c a b) x
  left (own y i is) = own y (there (In-right y (subexpressions c) (subexpressions a ++ subexpressions b) (In-left y (subexpressions a) (subexpressions b) i))) is
  left (inside k i j) = inside k (In-right k (variables c) (variables a ++ variables b) (In-left k (variables a) (variables b) i)) j

  right : FromEither f b x → FromEither f (choice c a b) x
  right (own y i is) = own y (there (In-right y (subexpressions c) (subexpressions a ++ subexpressions b) (In-right y (subexpressions a) (subexpressions b) i))) is
  right (inside k i j) = inside k (In-right k (variables c) (variables a ++ variables b) (In-right k (variables a) (variables b) i)) j

  rest : (In x (subexpressions (with_variables f a)) → FromEither f a x) → (In x (subexpressions (with_variables f b)) → FromEither f b x)
      → In x (subexpressions (with_variables f a)) ⊎ In x (subexpressions (with_variables f b)) → FromEither f (choice c a b) x
  rest ofa ofb (inl p) = left (ofa p)
  rest ofa ofb (inr p) = right (ofb p)

  by : (In x (subexpressions (with_variables f c)) → FromEither f c x) → (In x (subexpressions (with_variables f a)) → FromEither f a x) → (In x (subexpressions (with_variables f b)) → FromEither f b x)
      → In x (subexpressions (with_variables f c)) ⊎ In x (subexpressions (with_variables f a) ++ subexpressions (with_variables f b)) → FromEither f (choice c a b) x
  by ofc ofa ofb (inl p) = first (ofc p)
  by ofc ofa ofb (inr p) = rest ofa ofb (In-split x (subexpressions (with_variables f a)) (subexpressions (with_variables f b)) p)

-- ---- what is asked for is what its subexpressions denote

pub asked_each : (n : ℕ) (lists : List Truths) (e y : Expression) → In y (subexpressions e) → In (denoted n lists y) (asked_of n lists e)
asked_each n lists (constant b) y here = here
asked_each n lists (constant b) y (there h) = elim h [ ]
asked_each n lists (variable k) y here = here
asked_each n lists (variable k) y (there h) = elim h [ ]
asked_each n lists (inverse e) y here = here
asked_each n lists (inverse e) y (there h) = there (asked_each n lists e y h)
asked_each n lists (pair g a b) y here = here
asked_each n lists (pair g a b) y (there h) = there (elim (In-split y (subexpressions a) (subexpressions b) h) [
  | inl p ↦ In-right (denoted n lists y) (asked_of n lists b) (asked_of n lists a) (asked_each n lists a y p)
  | inr p ↦ In-left (denoted n lists y) (asked_of n lists b) (asked_of n lists a) (asked_each n lists b y p)
])
asked_each n lists (choice c a b) y here = here
asked_each n lists (choice c a b) y (there h) =
    there (by (λ p. asked_each n lists c y p) (λ p. asked_each n lists a y p) (λ p. asked_each n lists b y p) (In-split y (subexpressions c) (subexpressions a ++ subexpressions b) h)) where
      C : List Truths
      C = asked_of n lists c

      A : List Truths
      A = asked_of n lists a

      B : List Truths
      B = asked_of n lists b

      rest : (In y (subexpressions a) → In (denoted n lists y) A) → (In y (subexpressions b) → In (denoted n lists y) B)
          → In y (subexpressions a) ⊎ In y (subexpressions b) → In (denoted n lists y) (B ++ (A ++ C))
      rest ofa ofb (inl p) = In-right (denoted n lists y) B (A ++ C) (In-left (denoted n lists y) A C (ofa p))
      rest ofa ofb (inr p) = In-left (denoted n lists y) B (A ++ C) (ofb p)

      by : (In y (subexpressions c) → In (denoted n lists y) C) → (In y (subexpressions a) → In (denoted n lists y) A) → (In y (subexpressions b) → In (denoted n lists y) B)
          → In y (subexpressions c) ⊎ In y (subexpressions a ++ subexpressions b) → In (denoted n lists y) (B ++ (A ++ C))
      by ofc ofa ofb (inl p) = In-right (denoted n lists y) B (A ++ C) (In-right (denoted n lists y) A C (ofc p))
      by ofc ofa ofb (inr p) = rest ofa ofb (In-split y (subexpressions a) (subexpressions b) p)

-- ---- what counts the same

-- whatever the first count, the others count
abbrev pub CountsIn : List Truths → List Truths → Type 0
CountsIn fs gs = (x : Truths) → IsCounted fs x → IsCounted gs x

pub holds_same : (fs gs : List Truths) (d : Lists) → CountsIn fs gs → CountsIn gs fs → Holds fs d → Holds gs d
holds_same fs gs d to back h = record {
  counted = λ x uneven c. to x (h.counted x uneven c);
  complete = λ x c. h.complete x (back x c);
}

pub over_in : (fs gs : List Truths) (budget : ℕ) → CountsIn fs gs → IsOver fs budget → IsOver gs budget
over_in fs gs budget to o = (o.0, o.1, (λ x c. to x (o.2 x c)), o.3)

-- a constant function counts nothing
pub counts_nothing : (n : ℕ) (b : Bool) (x : Truths) → IsUneven x → IsPart x (raised n (even b)) → ⊥
counts_nothing n b x uneven part =
    let is : x ≡ even b = part-raised n (even b) x uneven part in
    subst IsUneven is uneven
