-- Each function has a count of its own.
use Rattle.std.proofs.Common.{◌≡◌, ◌⊎◌, inl, inr, ℕ, zero, suc, ◌<◌, Bool, true, false, List, [], ◌∷◌, length, refl, sym, ap, subst, arith}
use Rattle.std.specs.List.{Contains, slice_index_or}
use Rattle.std.proofs.lemmas.List.Elements.{Contains-append_right, Contains-append_cases, Contains-get_or}
use Rattle.bdd_core.specs.Truths.{Truths, constant, halves, IsPart, IsUneven, IsCounted, IsDistinct, IsCountOf}

-- ---- whether two truth lists are equal

same_bit : (a b : Bool) → (a ≡ b) ⊎ (a ≡ b → ⊥)
same_bit true true = inl refl
same_bit false false = inl refl
same_bit true false = inr (λ e. absurd (cc e))
same_bit false true = inr (λ e. absurd (cc e))

low_half : Truths → Truths
low_half (constant b) = constant b
low_half (halves a b) = a

high_half : Truths → Truths
high_half (constant b) = constant b
high_half (halves a b) = b

same_truths : (x y : Truths) → (x ≡ y) ⊎ (x ≡ y → ⊥)
same_truths (constant a) (constant b) = by (same_bit a b) where
  by : (a ≡ b) ⊎ (a ≡ b → ⊥) → (constant a ≡ constant b) ⊎ (constant a ≡ constant b → ⊥)
  by (inl e) = inl (ap constant e)
  by (inr n) = inr (λ e. n (cc e))
same_truths (constant a) (halves b c) = inr (λ e. absurd (cc e))
same_truths (halves b c) (constant a) = inr (λ e. absurd (cc e))
same_truths (halves a b) (halves c d) = by (same_truths a c) (same_truths b d) where
  by : (a ≡ c) ⊎ (a ≡ c → ⊥) → (b ≡ d) ⊎ (b ≡ d → ⊥) → (halves a b ≡ halves c d) ⊎ (halves a b ≡ halves c d → ⊥)
  by (inl p) (inl q) = inl (λ j. halves (p j) (q j))
  by (inr n) q = inr (λ e. n (cc e))
  by (inl p) (inr n) = inr (λ e. n (cc e))

-- ---- members

pub first_there : (x : Truths) (xs : List Truths) → Contains (x ∷ xs) x
first_there x xs = Contains-get_or (x ∷ xs) 0 x (omega arith)

pub later_there : (y : Truths) (xs : List Truths) (x : Truths) → Contains xs x → Contains (y ∷ xs) x
later_there y xs x c = Contains-append_right (y ∷ []) xs x c

pub none_there : (x : Truths) → Contains [] x → ⊥
none_there x c = let h : c.0 < 0 = c.1 in omega (arith, h)

pub there_cases : (y : Truths) (xs : List Truths) (x : Truths) → Contains (y ∷ xs) x → (x ≡ y) ⊎ Contains xs x
there_cases y xs x c = elim (Contains-append_cases (y ∷ []) xs x c) [ inl h ↦ inl (alone h.0 h.1 h.2) | inr h ↦ inr h ] where
  alone : (i : ℕ) → i < 1 → slice_index_or (y ∷ []) i x ≡ x → x ≡ y
  alone zero w is = sym is
  alone (suc i) w is = absurd (omega arith)

member : (x : Truths) (xs : List Truths) → Contains xs x ⊎ (Contains xs x → ⊥)
member x [] = inr (none_there x)
member x (y ∷ xs) = by (same_truths x y) (member x xs) where
  by : (x ≡ y) ⊎ (x ≡ y → ⊥) → Contains xs x ⊎ (Contains xs x → ⊥) → Contains (y ∷ xs) x ⊎ (Contains (y ∷ xs) x → ⊥)
  by (inl e) h = inl (subst (λ (z : Truths). Contains (y ∷ xs) z) (sym e) (first_there y xs))
  by (inr n) (inl h) = inl (later_there y xs x h)
  by (inr n) (inr h) = inr (λ c. neither (there_cases y xs x c)) where
    neither : (x ≡ y) ⊎ Contains xs x → ⊥
    neither (inl e) = n e
    neither (inr q) = h q

-- ---- the distinct lists among two lists of them

record IsJoined (xs ys zs : List Truths) : Type 0 where
  pub distinct : IsDistinct zs
  pub some : (x : Truths) → Contains zs x → Contains xs x ⊎ Contains ys x
  pub first : (x : Truths) → Contains xs x → Contains zs x
  pub second : (x : Truths) → Contains ys x → Contains zs x

joined : (xs ys : List Truths) → IsDistinct ys → (zs : List Truths) × IsJoined xs ys zs
joined [] ys d = (ys, record { distinct = d; some = λ x c. inr c; first = λ x c. absurd (none_there x c); second = λ x c. c })
joined (x ∷ xs) ys d = put (joined xs ys d) where
  put : ((zs : List Truths) × IsJoined xs ys zs) → (zs : List Truths) × IsJoined (x ∷ xs) ys zs
  put r = by (member x r.0) where
    by : Contains r.0 x ⊎ (Contains r.0 x → ⊥) → (zs : List Truths) × IsJoined (x ∷ xs) ys zs
    by (inl c) = (
      r.0,
      record {
        distinct = r.1.distinct;
        some = λ z q. elim (r.1.some z q) [ inl a ↦ inl (later_there x xs z a) | inr b ↦ inr b ];
        first = λ z q. elim (there_cases x xs z q) [ inl e ↦ subst (λ (t : Truths). Contains r.0 t) (sym e) c | inr a ↦ r.1.first z a ];
        second = r.1.second;
      },
    )
    by (inr n) = (
      x ∷ r.0,
      record {
        distinct = (n, r.1.distinct);
        some = λ z q. elim (there_cases x r.0 z q) [
          | inl e ↦ inl (subst (λ (t : Truths). Contains (x ∷ xs) t) (sym e) (first_there x xs))
          | inr a ↦ elim (r.1.some z a) [ inl f ↦ inl (later_there x xs z f) | inr g ↦ inr g ]
        ];
        first = λ z q. elim (there_cases x xs z q) [ inl e ↦ subst (λ (t : Truths). Contains (x ∷ r.0) t) (sym e) (first_there x r.0) | inr a ↦ later_there x r.0 z (r.1.first z a) ];
        second = λ z q. later_there x r.0 z (r.1.second z q);
      },
    )

-- ---- the parts with unequal halves

record AreUnevenParts (f : Truths) (xs : List Truths) : Type 0 where
  pub distinct : IsDistinct xs
  pub sound : (x : Truths) → Contains xs x → IsUneven x × IsPart x f
  pub complete : (x : Truths) → IsUneven x → IsPart x f → Contains xs x

uneven_parts : (f : Truths) → (xs : List Truths) × AreUnevenParts f xs
uneven_parts (constant b) = (
  [],
  record {
    distinct = tt;
    sound = λ x c. absurd (none_there x c);
    complete = λ x uneven e. absurd (subst IsUneven e uneven);
  },
)
uneven_parts (halves a b) = by (uneven_parts a) (uneven_parts b) (same_truths a b) where
  by : ((xs : List Truths) × AreUnevenParts a xs) → ((xs : List Truths) × AreUnevenParts b xs) → (a ≡ b) ⊎ (a ≡ b → ⊥) → (xs : List Truths) × AreUnevenParts (halves a b) xs
  by p q same = with_both (joined p.0 q.0 q.1.distinct) same where
    with_both : ((zs : List Truths) × IsJoined p.0 q.0 zs) → (a ≡ b) ⊎ (a ≡ b → ⊥) → (xs : List Truths) × AreUnevenParts (halves a b) xs
    with_both r (inl e) = (
      r.0,
      record {
        distinct = r.1.distinct;
        sound = λ x c. elim (r.1.some x c) [ inl h ↦ ((p.1.sound x h).0, inr (inl (p.1.sound x h).1)) | inr h ↦ ((q.1.sound x h).0, inr (inr (q.1.sound x h).1)) ];
        complete = λ x uneven part. elim part [
          | inl s ↦ absurd (subst IsUneven s uneven e)
          | inr s ↦ elim s [ inl l ↦ r.1.first x (p.1.complete x uneven l) | inr h ↦ r.1.second x (q.1.complete x uneven h) ]
        ];
      },
    )
    with_both r (inr n) = added (joined (halves a b ∷ []) r.0 r.1.distinct) where
      added : ((zs : List Truths) × IsJoined (halves a b ∷ []) r.0 zs) → (xs : List Truths) × AreUnevenParts (halves a b) xs
      added s = (
        s.0,
        record {
          distinct = s.1.distinct;
          sound = λ x c. elim (s.1.some x c) [
            | inl h ↦ elim (there_cases (halves a b) [] x h) [
              | inl e ↦ (subst IsUneven (sym e) n, inl e)
              | inr z ↦ absurd (none_there x z)
            ]
            | inr h ↦ elim (r.1.some x h) [ inl i ↦ ((p.1.sound x i).0, inr (inl (p.1.sound x i).1)) | inr i ↦ ((q.1.sound x i).0, inr (inr (q.1.sound x i).1)) ]
          ];
          complete = λ x uneven part. elim part [
            | inl e ↦ s.1.first x (subst (λ (t : Truths). Contains (halves a b ∷ []) t) (sym e) (first_there (halves a b) []))
            | inr t ↦ elim t [ inl l ↦ s.1.second x (r.1.first x (p.1.complete x uneven l)) | inr h ↦ s.1.second x (r.1.second x (q.1.complete x uneven h)) ]
          ];
        },
      )

-- how many truth lists a function counts
pub dag_of : (f : Truths) → (n : ℕ) × IsCountOf (f ∷ []) n
dag_of f = by (uneven_parts f) where
  by : ((xs : List Truths) × AreUnevenParts f xs) → (n : ℕ) × IsCountOf (f ∷ []) n
  by p = (length p.0, (p.0, (p.1.distinct, sound, complete), refl)) where
    sound : (x : Truths) → Contains p.0 x → IsCounted (f ∷ []) x
    sound x c = ((p.1.sound x c).0, (f, first_there f [], (p.1.sound x c).1))

    complete : (x : Truths) → IsCounted (f ∷ []) x → Contains p.0 x
    complete x c = p.1.complete x c.0 (part x c.1.0 c.1.1 c.1.2) where
      part : (x g : Truths) → Contains (f ∷ []) g → IsPart x g → IsPart x f
      part x g m q = elim (there_cases f [] g m) [ inl e ↦ subst (λ (t : Truths). IsPart x t) e q | inr z ↦ absurd (none_there g z) ]
