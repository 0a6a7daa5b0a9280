-- Bits by name, where a list of different names and a list of as many bits go together.
use Rattle.std.proofs.Common.{◌≡◌, ◌≢◌, ◌<◌, ℕ, zero, suc, Bool, true, false, List, [], ◌∷◌, ◌++◌, length, map, refl, sym, ◌∙◌, ap, arith, if◌then◌else◌, ◌⊎◌, inl, inr}
use Rattle.std.specs.List.{slice_index_or}
use Rattle.vlsi_base.specs.declared.name.Name.{Name}
use Rattle.bool_expr.specs.Expression.{Expression, constant, variable, inverse, pair, choice, bit, val, variables}
use Rattle.machine_core.specs.Named.{is_same_name, value_at}
use Rattle.machine_core.specs.Order.{In, here, there, AllDifferent}
use Rattle.machine_core.proofs.Names.{same_name-true, same_name-itself, same_name-false, set_at}

pub In-split : {A : Type 0} (x : A) (xs ys : List A) → In x (xs ++ ys) → In x xs ⊎ In x ys
In-split x [] ys h = inr h
In-split x (y ∷ xs) ys here = inl here
In-split x (y ∷ xs) ys (there h) = elim (In-split x xs ys h) [ inl left ↦ inl (there left) | inr right ↦ inr right ]

pub In-left : {A : Type 0} (x : A) (xs ys : List A) → In x xs → In x (xs ++ ys)
In-left x (y ∷ xs) ys here = here
In-left x (y ∷ xs) ys (there h) = there (In-left x xs ys h)
In-left x [] ys h = elim h [ ]

pub In-right : {A : Type 0} (x : A) (xs ys : List A) → In x ys → In x (xs ++ ys)
In-right x [] ys h = h
In-right x (y ∷ xs) ys h = there (In-right x xs ys h)

pub In-map : {A B : Type 0} (f : A → B) (x : A) (xs : List A) → In x xs → In (f x) (map f xs)
In-map f x (y ∷ xs) here = here
In-map f x (y ∷ xs) (there h) = there (In-map f x xs h)
In-map f x [] h = elim h [ ]

-- a list has as many bits as there are names after one is changed
pub length-set_at : (names : List Name) (w : List Bool) (name : Name) (b : Bool) → length (set_at names w name b) ≡ length w
length-set_at [] w name b = refl
length-set_at (n ∷ names) [] name b = refl
length-set_at (n ∷ names) (c ∷ w) name b = by (is_same_name n name) (length-set_at names w name b) where
  by : (same : Bool) → length (set_at names w name b) ≡ length w → length (if same then b ∷ w else c ∷ set_at names w name b) ≡ length (c ∷ w)
  by true h = omega arith
  by false h = omega arith

later_in : (n name : Name) (names : List Name) → is_same_name n name ≡ false → In name (n ∷ names) → In name names
later_in n name names e here = absurd (let t : is_same_name n n ≡ true = same_name-itself n in cc)
later_in n name names e (there h) = h

-- the changed bit is read
pub value_at-set_at : (names : List Name) (w : List Bool) (name : Name) (b : Bool) → In name names → length w ≡ length names
    → value_at names (set_at names w name b) name ≡ b
value_at-set_at [] w name b h lengths = elim h [ ]
value_at-set_at (n ∷ names) [] name b h lengths = absurd (omega arith)
value_at-set_at (n ∷ names) (c ∷ w) name b h lengths =
    by (is_same_name n name) refl (λ e. value_at-set_at names w name b (later_in n name names e h) (omega arith)) where
      by : (same : Bool) → is_same_name n name ≡ same → (is_same_name n name ≡ false → value_at names (set_at names w name b) name ≡ b)
          → value_at (n ∷ names) (if same then b ∷ w else c ∷ set_at names w name b) name ≡ b
      by true e later = rw e refl
      by false e later = rw e (later e)

-- other bits are read as before
pub value_at-set_other : (names : List Name) (w : List Bool) (name : Name) (b : Bool) (other : Name) → name ≢ other
    → value_at names (set_at names w name b) other ≡ value_at names w other
value_at-set_other [] w name b other apart = refl
value_at-set_other (n ∷ names) [] name b other apart = refl
value_at-set_other (n ∷ names) (c ∷ w) name b other apart =
    by (is_same_name n name) refl (value_at-set_other names w name b other apart) where
      by : (same : Bool) → is_same_name n name ≡ same → value_at names (set_at names w name b) other ≡ value_at names w other
          → value_at (n ∷ names) (if same then b ∷ w else c ∷ set_at names w name b) other ≡ value_at (n ∷ names) (c ∷ w) other
      by true e later = let is = same_name-true n name e in rw (same_name-false n other (λ p. apart (sym is ∙ p))) refl
      by false e later = ap (λ v. if is_same_name n other then c else v) later

found : (xs : List Name) (k : ℕ) (d : Name) → k < length xs → (x : Name) → x ≡ slice_index_or xs k d → In x xs
found [] k d h x p = absurd (omega arith)
found (y ∷ xs) zero d h x p = rw p here
found (y ∷ xs) (suc k) d h x p = there (found xs k d (omega arith) x p)

-- number k of the names has bit k
pub bit-value_at : (names : List Name) (w : List Bool) (k : ℕ) (d : Name) → AllDifferent names → length w ≡ length names → k < length names
    → bit w k ≡ value_at names w (slice_index_or names k d)
bit-value_at [] w k d different lengths within = absurd (omega arith)
bit-value_at (n ∷ names) [] k d different lengths within = absurd (omega arith)
bit-value_at (n ∷ names) (c ∷ w) zero d different lengths within = rw (same_name-itself n) refl
bit-value_at (n ∷ names) (c ∷ w) (suc k) d different lengths within =
    rw (same_name-false n (slice_index_or names k d) (λ p. different.0 (found names k d (omega arith) n p)))
    (bit-value_at names w k d different.1 (omega arith) (omega arith))

-- two lists of bits agree on some names
abbrev pub AgreeOn : List Name → List Name → List Bool → List Bool → Type 0
AgreeOn names known w v = (name : Name) → In name known → value_at names w name ≡ value_at names v name

-- lists that agree on all names are one
pub same_from_values : (names : List Name) (w v : List Bool) → AllDifferent names → length w ≡ length names → length v ≡ length names
    → AgreeOn names names w v → w ≡ v
same_from_values [] [] [] different lw lv agree = refl
same_from_values [] (c ∷ w) v different lw lv agree = absurd (omega arith)
same_from_values [] [] (b ∷ v) different lw lv agree = absurd (omega arith)
same_from_values (n ∷ names) [] v different lw lv agree = absurd (omega arith)
same_from_values (n ∷ names) (c ∷ w) [] different lw lv agree = absurd (omega arith)
same_from_values (n ∷ names) (c ∷ w) (b ∷ v) different lw lv agree =
    let first : c ≡ b = rw (same_name-itself n) at (agree n here) in
    let rest : w ≡ v = same_from_values names w v different.1 (omega arith) (omega arith) (λ name h. later name h (agree name (there h))) in
    ap (λ x. x ∷ w) first ∙ ap (λ xs. b ∷ xs) rest where
      later : (name : Name) → In name names → value_at (n ∷ names) (c ∷ w) name ≡ value_at (n ∷ names) (b ∷ v) name → value_at names w name ≡ value_at names v name
      later name h p = rw (same_name-false n name (λ q. different.0 (rw q h))) at p

-- an expression has one value under lists of bits that agree on what it reads
pub val-agrees : (e : Expression) (w v : List Bool) → ((k : ℕ) → In k (variables e) → bit w k ≡ bit v k) → val e w ≡ val e v
val-agrees (constant b) w v agree = refl
val-agrees (variable k) w v agree = agree k here
val-agrees (inverse e) w v agree = rw (val-agrees e w v agree) refl
val-agrees (pair g a b) w v agree =
    rw (val-agrees a w v (λ k h. agree k (In-left k (variables a) (variables b) h)), val-agrees b w v (λ k h. agree k (In-right k (variables a) (variables b) h))) refl
val-agrees (choice c a b) w v agree =
    rw (
      val-agrees c w v (λ k h. agree k (In-left k (variables c) (variables a ++ variables b) h)),
      val-agrees a w v (λ k h. agree k (In-right k (variables c) (variables a ++ variables b) (In-left k (variables a) (variables b) h))),
      val-agrees b w v (λ k h. agree k (In-right k (variables c) (variables a ++ variables b) (In-right k (variables a) (variables b) h))),
    ) refl
