-- Texts and names that stand once.
use Rattle.std.proofs.Common.{◌≡◌, inl, inr, ℕ, zero, suc, Bool, true, false, cond, ◌||◌, List, [], ◌∷◌, map, None, Some, refl, sym, ap, subst, ◌∙◌, bytes_eq}
use Rattle.std.specs.List.{All, list_any}
use Rattle.vlsi_base.specs.Member.{In, here, there, AllDifferent}
use Rattle.vlsi_model.proofs.Members.{In-cases}
use Rattle.vlsi_model.proofs.Bits.{texts}
use Rattle.source_checks.specs.declared.symbol_table.Symbol.{Symbol}
use Rattle.source_checks.specs.Checks.{first_repeated}
use Rattle.source_checks.proofs.Lookups.{same_of, itself}
use Rattle.net_core.specs.Places.{NoneTwice}
use Rattle.vst_text.specs.declared.file.InstanceStatement.{InstanceStatement}
use Rattle.vst_print.specs.Written.{each_once}
use Rattle.vst_print.proofs.Once.{is_there, once_there}
use Rattle.vst_print.proofs.Entries.{Entry, Differs, AreDifferent}
use Rattle.vst_print.proofs.Names.{AllApart}
use Rattle.vst_io.specs.Faults.{first_label_again}
use Rattle.vst_io.proofs.Places.{stands_in}
use Rattle.std.proofs.lemmas.List.Elements.{All-head, All-tail}

-- ---- members of lists of which something is known of each

pub all_in : {X : Type 0} (P : X → Type 0) (xs : List X) → All P xs → (x : X) → In x xs → P x
all_in P (y ∷ xs) h x here = All-head P y xs h
all_in P (y ∷ xs) h x (there g) = all_in P xs (All-tail P y xs h) x g
all_in P [] h x g = elim g [ ]

-- ---- nothing stands twice

pub none_twice : {X : Type 0} (xs : List X) → AllDifferent xs → NoneTwice xs
none_twice [] d i j x s t = absurd cc
none_twice (y ∷ xs) d zero zero x s t = refl
none_twice {X} (y ∷ xs) d zero (suc j) x s t = let same : y ≡ x = cc in absurd (d.0 (subst (λ (z : X). In z xs) (sym same) (stands_in xs j x t)))
none_twice {X} (y ∷ xs) d (suc i) zero x s t = let same : y ≡ x = cc in absurd (d.0 (subst (λ (z : X). In z xs) (sym same) (stands_in xs i x s)))
none_twice (y ∷ xs) d (suc i) (suc j) x s t = ap suc (none_twice xs d.1 i j x s t)

pub apart_different : (ts : List (List ℕ)) → AllApart ts → AllDifferent ts
apart_different [] a = tt
apart_different (t ∷ ts) a = (λ h. all_in (λ u. t ≡ u → ⊥) ts a.0 t h refl, apart_different ts a.1)

key_in : (t : List ℕ) (es : List Entry) → Differs t es → In t (map (λ e. e.key) es) → ⊥
key_in t [] d h = elim h [ ]
key_in t (e ∷ es) d h = elim (In-cases t e.key (map (λ (x : Entry). x.key) es) h) [
  | inl same ↦ All-head (λ (f : Entry). t ≡ f.key → ⊥) e es d (sym same)
  | inr g ↦ key_in t es (All-tail (λ (f : Entry). t ≡ f.key → ⊥) e es d) g
]

pub different_keys : (es : List Entry) → AreDifferent es → AllDifferent (map (λ e. e.key) es)
different_keys [] d = tt
different_keys (e ∷ es) d = (key_in e.key es d.0, different_keys es d.1)

-- ---- tests whether a text stands before

not_before : (t : List ℕ) (before : List (List ℕ)) → (In t before → ⊥) → list_any (bytes_eq t) before ≡ false
not_before t [] lacks = refl
not_before t (b ∷ before) lacks = by (not_before t before (λ h. lacks (there h))) (bytes_eq t b) refl where
  by : list_any (bytes_eq t) before ≡ false → (x : Bool) → bytes_eq t b ≡ x → (x || list_any (bytes_eq t) before) ≡ false
  by rest false e = rest
  by rest true e = absurd (lacks (subst (λ (u : List ℕ). In t (u ∷ before)) (same_of t b e) here))

apart_more : (t : List ℕ) (before ts : List (List ℕ)) → AllDifferent (t ∷ ts) → ((u : List ℕ) → In u before → In u (t ∷ ts) → ⊥) → (u : List ℕ) → In u (t ∷ before) → In u ts → ⊥
apart_more t before ts d apart u here g = d.0 g
apart_more t before ts d apart u (there h) g = apart u h (there g)

never_repeated : (before : List (List ℕ)) (known : List Symbol) → AllDifferent (texts known) → ((t : List ℕ) → In t before → In t (texts known) → ⊥) → first_repeated before known ≡ None
never_repeated before [] d apart = refl
never_repeated before (s ∷ known) d apart =
    ap (λ b. cond b (Some s) (first_repeated (s.text ∷ before) known)) (not_before s.text before (λ h. apart s.text h here))
    ∙ never_repeated (s.text ∷ before) known d.1 (apart_more s.text before (texts known) d apart)

pub not_repeated : (known : List Symbol) → AllDifferent (texts known) → first_repeated [] known ≡ None
not_repeated known d = never_repeated [] known d (λ t h g. elim h [ ])

abbrev labels : List InstanceStatement → List (List ℕ)
labels is = map (λ i. i.label) is

never_again : (before : List (List ℕ)) (is : List InstanceStatement) → AllDifferent (map (λ i. i.label) is) → ((t : List ℕ) → In t before → In t (map (λ i. i.label) is) → ⊥) → first_label_again before is ≡ None
never_again before [] d apart = refl
never_again before (i ∷ is) d apart =
    ap (λ b. cond b (Some i) (first_label_again (i.label ∷ before) is)) (not_before i.label before (λ h. apart i.label h here))
    ∙ never_again (i.label ∷ before) is d.1 (apart_more i.label before (labels is) d apart)

pub not_again : (is : List InstanceStatement) → AllDifferent (map (λ i. i.label) is) → first_label_again [] is ≡ None
not_again is d = never_again [] is d (λ t h g. elim h [ ])

-- ---- each text once

in_test : (us : List (List ℕ)) (t : List ℕ) → In t us → is_there us t ≡ true
in_test (u ∷ us) t here = ap (λ x. x || is_there us t) (itself t)
in_test (u ∷ us) t (there h) = by (in_test us t h) (bytes_eq u t) where
  by : is_there us t ≡ true → (x : Bool) → (x || is_there us t) ≡ true
  by rest true = refl
  by rest false = rest
in_test [] t h = elim h [ ]

test_in : (us : List (List ℕ)) (t : List ℕ) → is_there us t ≡ true → In t us
test_in [] t e = absurd cc
test_in (u ∷ us) t e = by (test_in us t) (bytes_eq u t) refl e where
  by : (is_there us t ≡ true → In t us) → (x : Bool) → bytes_eq u t ≡ x → (x || is_there us t) ≡ true → In t (u ∷ us)
  by rest true is f = subst (λ (z : List ℕ). In t (z ∷ us)) (sym (same_of u t is)) here
  by rest false is f = there (rest f)

pub once_in : (ts : List (List ℕ)) (t : List ℕ) → In t ts → In t (each_once ts)
once_in ts t h = test_in (each_once ts) t (once_there ts t ∙ in_test ts t h)

pub in_once : (ts : List (List ℕ)) (t : List ℕ) → In t (each_once ts) → In t ts
in_once ts t h = test_in ts t (sym (once_there ts t) ∙ in_test (each_once ts) t h)
