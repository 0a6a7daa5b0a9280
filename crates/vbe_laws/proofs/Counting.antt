-- Whether a name is one of some, and how many different ones there can be among some.
use Rattle.std.proofs.Common.{◌≡◌, ◌⊎◌, inl, inr, ◌+◌, ◌≤◌, Bool, true, false, List, [], ◌∷◌, ◌++◌, length, refl, sym, ap, ◌∙◌, subst, arith, length-append}
use Rattle.vlsi_base.specs.declared.name.Name.{Name}
use Rattle.vlsi_base.specs.Member.{In, here, there, AllDifferent}
use Rattle.machine_core.specs.Named.{is_same_name}
use Rattle.machine_core.proofs.Names.{same_name-true, same_name-itself}
use Rattle.machine_core.proofs.Values.{In-split, In-left, In-right}
use Rattle.vlsi_model.proofs.Members.{In-cases}

-- a list with what stands before a member and behind it
pub record Around {A : Type 0} (x : A) (xs : List A) : Type 0 where
  pub front : List A
  pub back : List A
  pub is : xs ≡ front ++ x ∷ back

pub around : {A : Type 0} (x : A) (xs : List A) → In x xs → Around x xs
around x (y ∷ xs) here = record { front = []; back = xs; is = refl }
around x (y ∷ xs) (there i) = let r = around x xs i in record { front = y ∷ r.front; back = r.back; is = ap (λ zs. y ∷ zs) r.is }
around x [] i = elim i [ ]

pub without : {A : Type 0} (x y : A) (front back : List A) → (x ≡ y → ⊥) → In y (front ++ x ∷ back) → In y (front ++ back)
without x y front back apart i = elim (In-split y front (x ∷ back) i) [
  | inl a ↦ In-left y front back a
  | inr b ↦ elim (In-cases y x back b) [ inl same ↦ absurd (apart same) | inr c ↦ In-right y front back c ]
]

pub count_around : {A : Type 0} (x : A) (front back : List A) → length (front ++ x ∷ back) ≡ length (front ++ back) + 1
count_around x front back =
    let a : length (front ++ x ∷ back) ≡ length front + length (x ∷ back) = length-append front (x ∷ back) in
    let b : length (front ++ back) ≡ length front + length back = length-append front back in
    omega (arith, a, b)

-- different things among some are no more than those
pub no_more : {A : Type 0} (xs ys : List A) → AllDifferent xs → ((x : A) → In x xs → In x ys) → length xs ≤ length ys
no_more [] ys d within = omega arith
no_more (x ∷ xs) ys d within =
    let r = around x ys (within x here) in
    let rest = no_more xs (r.front ++ r.back) d.1
    (λ y i. without x y r.front r.back (λ e. d.0 (subst (λ z. In z xs) (sym e) i)) (subst (λ zs. In y zs) r.is (within y (there i)))) in
    let count : length ys ≡ length (r.front ++ r.back) + 1 = ap (λ zs. length zs) r.is ∙ count_around x r.front r.back in
    omega (arith, rest, count)

pub there_or_not : (n : Name) (names : List Name) → In n names ⊎ (In n names → ⊥)
there_or_not n [] = inr (λ i. elim i [ ])
there_or_not n (m ∷ names) = by (is_same_name m n) refl (there_or_not n names) where
  by : (b : Bool) → is_same_name m n ≡ b → In n names ⊎ (In n names → ⊥) → In n (m ∷ names) ⊎ (In n (m ∷ names) → ⊥)
  by true e rest = inl (subst (λ z. In z (m ∷ names)) (same_name-true m n e) here)
  by false e (inl i) = inl (there i)
  by false e (inr none) = inr (λ i. elim (In-cases n m names i) [
    | inl same ↦ (let t = subst (λ (z : Name). is_same_name m z ≡ true) same (same_name-itself m) in let clash : true ≡ false = sym t ∙ e in absurd cc)
    | inr j ↦ none j
  ])
