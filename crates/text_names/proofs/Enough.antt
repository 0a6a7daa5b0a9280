-- There are enough free texts, and they differ.
use Rattle.std.proofs.Common.{◌≡◌, ℕ, zero, suc, ◌+◌, ◌-◌, ◌<◌, ◌≤◌, ◌^◌, Bool, true, false, not, ◌&&◌, List, [], ◌∷◌, ◌++◌, map, filter, length, take, bytes_eq, add-zero, zero-add, refl, sym, ap, ◌∙◌, arith, if◌then◌else◌, subst, ◌==◌}
use Rattle.std.specs.List.{All}
use Rattle.std.specs.Fmt.{decimal}
use Rattle.std.proofs.lemmas.Fmt.{decimal_injective, decimal_nonempty}
use Rattle.std.proofs.lemmas.Bool.{eqb-true, eqb-false}
use Rattle.std.proofs.lemmas.Slice.Eq.{bytes_eq-Decides}
use Rattle.vlsi_base.specs.Member.{In, here, there, AllDifferent}
use Rattle.vlsi_base.specs.Range.{rising}
use Rattle.text_names.specs.Words.{IsIdentifier}
use Rattle.text_names.specs.Free.{is_free, numbered, free_numbers, free_texts, candidate}
use Rattle.text_names.specs.Laws.{AreFree, IsStem}

-- ---- of rising numbers

kept_all : (p q : ℕ → Bool) (k n : ℕ) → ((j : ℕ) → k ≤ j → j < k + n → p j ≡ true)
    → length (filter (λ j. p j && q j) (rising k n)) ≡ length (filter q (rising k n))
kept_all p q k zero h = refl
kept_all p q k (suc n) h = by (p k) (h k (omega arith) (omega arith)) (q k) (kept_all p q (k + 1) n (λ j l m. h j (omega arith) (omega arith))) where
  by : (t : Bool) → t ≡ true → (u : Bool) → length (filter (λ j. p j && q j) (rising (k + 1) n)) ≡ length (filter q (rising (k + 1) n))
      → length (if t && u then k ∷ filter (λ j. p j && q j) (rising (k + 1) n) else filter (λ j. p j && q j) (rising (k + 1) n))
      ≡ length (if u then k ∷ filter q (rising (k + 1) n) else filter q (rising (k + 1) n))
  by true e true later = omega arith
  by true e false later = later
  by false e u later = absurd (cc)

-- where one number at most fails a test, the test takes away one at most
one_less : (p q : ℕ → Bool) (k n : ℕ) → ((i j : ℕ) → k ≤ i → i < j → j < k + n → p i ≡ false → p j ≡ true)
    → length (filter q (rising k n)) ≤ suc (length (filter (λ j. p j && q j) (rising k n)))
one_less p q k zero h = omega arith
one_less p q k (suc n) h = by (p k) refl (q k) (one_less p q (k + 1) n (λ i j a b c. h i j (omega arith) b (omega arith))) where
  by : (t : Bool) → p k ≡ t → (u : Bool) → length (filter q (rising (k + 1) n)) ≤ suc (length (filter (λ j. p j && q j) (rising (k + 1) n)))
      → length (if u then k ∷ filter q (rising (k + 1) n) else filter q (rising (k + 1) n))
      ≤ suc (length (if t && u then k ∷ filter (λ j. p j && q j) (rising (k + 1) n) else filter (λ j. p j && q j) (rising (k + 1) n)))
  by true e true later = omega arith
  by true e false later = later
  by false e true later = let same = kept_all p q (k + 1) n (λ j l m. h k j (omega arith) (omega arith) (omega arith) e) in omega arith
  by false e false later = let same = kept_all p q (k + 1) n (λ j l m. h k j (omega arith) (omega arith) (omega arith) e) in omega arith

all_kept : (xs : List ℕ) → length (filter (λ j. true) xs) ≡ length xs
all_kept [] = refl
all_kept (x ∷ xs) = let h = all_kept xs in omega arith

none_kept : (p : ℕ → Bool) (k n : ℕ) → ((j : ℕ) → k ≤ j → j < k + n → p j ≡ false) → length (filter p (rising k n)) ≡ 0
none_kept p k zero h = refl
none_kept p k (suc n) h = by (p k) (h k (omega arith) (omega arith)) (none_kept p (k + 1) n (λ j l m. h j (omega arith) (omega arith))) where
  by : (t : Bool) → t ≡ false → length (filter p (rising (k + 1) n)) ≡ 0 → length (if t then k ∷ filter p (rising (k + 1) n) else filter p (rising (k + 1) n)) ≡ 0
  by true e later = absurd (cc)
  by false e later = later

length_rising : (k n : ℕ) → length (rising k n) ≡ n
length_rising k zero = refl
length_rising k (suc n) = let h = length_rising (k + 1) n in omega arith

pub in_rising : (x k n : ℕ) → In x (rising k n) → (k ≤ x) × (x < k + n)
in_rising x k zero i = elim i [ ]
in_rising x k (suc n) here = (omega arith, omega arith)
in_rising x k (suc n) (there i) = let h = in_rising x (k + 1) n i in let a = h.0 in let b = h.1 in (omega arith, omega arith)

rising_differ : (k n : ℕ) → AllDifferent (rising k n)
rising_differ k zero = tt
rising_differ k (suc n) = (λ i. let h = in_rising k (k + 1) n i in let a = h.0 in absurd (omega arith), rising_differ (k + 1) n)

-- as many texts as are asked for, all different: no more of them are taken than texts are taken
pub enough : (g : ℕ → List ℕ) (taken : List (List ℕ)) (n : ℕ) → ((i j : ℕ) → i < j → j < n → g i ≡ g j → ⊥)
    → n ≤ length (filter (λ j. is_free taken (g j)) (rising 0 n)) + length taken
enough g [] n h = let a = all_kept (rising 0 n) in let b = length_rising 0 n in omega arith
enough g (t ∷ taken) n h =
    let rest = enough g taken n h in
    let less : length (filter (λ j. is_free taken (g j)) (rising 0 n)) ≤ suc (length (filter (λ j. not (bytes_eq t (g j)) && is_free taken (g j)) (rising 0 n))) =
    one_less (λ j. not (bytes_eq t (g j))) (λ j. is_free taken (g j)) 0 n (λ i j a b c taken_i. by i j b c (bytes_eq t (g i)) refl taken_i (bytes_eq t (g j)) refl) in
    omega arith where
      by : (i j : ℕ) → i < j → j < 0 + n → (s : Bool) → bytes_eq t (g i) ≡ s → not s ≡ false → (u : Bool) → bytes_eq t (g j) ≡ u → not u ≡ true
      by i j b c false e f u d = absurd (cc)
      by i j b c true e f false d = refl
      by i j b c true e f true d = absurd (h i j b (omega arith) (sym ((bytes_eq-Decides t (g i)).0 e) ∙ (bytes_eq-Decides t (g j)).0 d))

-- ---- of lists

in_filter : (p : ℕ → Bool) (x : ℕ) (xs : List ℕ) → In x (filter p xs) → In x xs × (p x ≡ true)
in_filter p x [] i = elim i [ ]
in_filter p x (y ∷ ys) i = by y ys (in_filter p x ys) (p y) refl i where
  by : (y : ℕ) (ys : List ℕ) → (In x (filter p ys) → In x ys × (p x ≡ true)) → (t : Bool) → p y ≡ t → In x (if t then y ∷ filter p ys else filter p ys) → In x (y ∷ ys) × (p x ≡ true)
  by y ys later false e i = let h = later i in (there h.0, h.1)
  by y ys later true e here = (here, e)
  by y ys later true e (there i) = let h = later i in (there h.0, h.1)

filter_differs : (p : ℕ → Bool) (xs : List ℕ) → AllDifferent xs → AllDifferent (filter p xs)
filter_differs p [] h = tt
filter_differs p (x ∷ xs) h = by (filter_differs p xs h.1) (p x) where
  by : AllDifferent (filter p xs) → (t : Bool) → AllDifferent (if t then x ∷ filter p xs else filter p xs)
  by later true = (λ i. h.0 (in_filter p x xs i).0, later)
  by later false = later

in_take : (n x : ℕ) (xs : List ℕ) → In x (take n xs) → In x xs
in_take zero x xs i = elim i [ ]
in_take (suc n) x [] i = elim i [ ]
in_take (suc n) x (y ∷ ys) here = here
in_take (suc n) x (y ∷ ys) (there i) = there (in_take n x ys i)

take_differs : (n : ℕ) (xs : List ℕ) → AllDifferent xs → AllDifferent (take n xs)
take_differs zero xs h = tt
take_differs (suc n) [] h = tt
take_differs (suc n) (x ∷ xs) h = (λ i. h.0 (in_take n x xs i), take_differs n xs h.1)

in_map : (g : ℕ → List ℕ) (y : List ℕ) (xs : List ℕ) → In y (map g xs) → (x : ℕ) × In x xs × (g x ≡ y)
in_map g y [] i = elim i [ ]
in_map g y (x ∷ xs) here = (x, here, refl)
in_map g y (x ∷ xs) (there i) = let h = in_map g y xs i in (h.0, there h.1, h.2)

map_differs : (g : ℕ → List ℕ) (xs : List ℕ) → ((i j : ℕ) → In i xs → In j xs → g i ≡ g j → i ≡ j) → AllDifferent xs → AllDifferent (map g xs)
map_differs g [] inj h = tt
map_differs g (x ∷ xs) inj h = (not_there, map_differs g xs (λ i j a b. inj i j (there a) (there b)) h.1) where
  not_there : In (g x) (map g xs) → ⊥
  not_there i =
      let found = in_map g (g x) xs i in
      let P : ℕ → Type 0 = λ k. In k xs in
      h.0 (subst P (inj found.0 x (there found.1) here found.2) found.1)

-- what holds of each member holds at each place
all_by : (P : List ℕ → Type 0) (xs : List (List ℕ)) → ((x : List ℕ) → In x xs → P x) → All P xs
all_by P [] h k d l = absurd (omega arith)
all_by P (x ∷ xs) h zero d l = h x here
all_by P (x ∷ xs) h (suc k) d l = all_by P xs (λ y i. h y (there i)) k d (omega arith)

length_taken : (n : ℕ) (xs : List ℕ) → n ≤ length xs → length (take n xs) ≡ n
length_taken zero xs h = refl
length_taken (suc n) [] h = absurd (omega arith)
length_taken (suc n) (x ∷ xs) h = let e = length_taken n xs (omega arith) in omega arith

pub same_length : (g : ℕ → List ℕ) (xs : List ℕ) → length (map g xs) ≡ length xs
same_length g [] = refl
same_length g (x ∷ xs) = let h = same_length g xs in omega arith

-- ---- of texts with numbers

same_behind : (stem xs ys : List ℕ) → stem ++ xs ≡ stem ++ ys → xs ≡ ys
same_behind [] xs ys e = e
same_behind (s ∷ stem) xs ys e = same_behind stem xs ys (ap rest e) where
  rest : List ℕ → List ℕ
  rest [] = []
  rest (z ∷ zs) = zs

nothing_behind : (stem xs : List ℕ) → stem ≡ stem ++ xs → xs ≡ []
nothing_behind [] xs e = sym e
nothing_behind (s ∷ stem) xs e = nothing_behind stem xs (ap rest e) where
  rest : List ℕ → List ℕ
  rest [] = []
  rest (z ∷ zs) = zs

pub numbers_differ : (stem : List ℕ) (i j : ℕ) → i < 2 ^ 64 → j < 2 ^ 64 → numbered stem i ≡ numbered stem j → i ≡ j
numbers_differ stem i j a b e = decimal_injective i j a b (same_behind stem (decimal i) (decimal j) e)

candidates_differ : (stem : List ℕ) (i j : ℕ) → i < j → j < 2 ^ 64 → candidate stem i ≡ candidate stem j → ⊥
candidates_differ stem i zero a b e = omega arith
candidates_differ stem zero (suc j) a b e =
    let none = ap length (nothing_behind stem (decimal j) e) in let some = decimal_nonempty j (omega arith) in omega arith
candidates_differ stem (suc i) (suc j) a b e = let same = numbers_differ stem i j (omega arith) (omega arith) e in omega arith

-- the last of one more candidates than texts are taken is free, where no earlier one is
pub last_is_free : (stem : List ℕ) (taken : List (List ℕ)) → length taken < 2 ^ 63
    → ((k : ℕ) → k < length taken → is_free taken (candidate stem k) ≡ false) → is_free taken (candidate stem (length taken)) ≡ true
last_is_free stem taken few earlier = by (is_free taken (candidate stem (length taken))) refl where
  by : (t : Bool) → is_free taken (candidate stem (length taken)) ≡ t → t ≡ true
  by true e = refl
  by false e =
      let some = enough (candidate stem) taken (length taken + 1) (λ i j a b. candidates_differ stem i j a (omega arith)) in
      let none = none_kept (λ j. is_free taken (candidate stem j)) 0 (length taken + 1) (λ j l m. either j (j == length taken) refl m) in
      absurd (omega arith) where
        either : (j : ℕ) (s : Bool) → (j == length taken) ≡ s → j < 0 + (length taken + 1) → is_free taken (candidate stem j) ≡ false
        either j true f m = rw (eqb-true j (length taken) f) e
        either j false f m = let unlike = eqb-false j (length taken) f in earlier j (omega arith)

-- ---- the search

rising_on : (k n m : ℕ) → rising k (n + m) ≡ rising k n ++ rising (k + n) m
rising_on k zero m = rw (add-zero k, zero-add m) refl
rising_on k (suc n) m = rw (suc_add n m, moved_on k n) (ap (λ (xs : List ℕ). k ∷ xs) (rising_on (k + 1) n m)) where
  suc_add : (a b : ℕ) → suc a + b ≡ suc (a + b)
  suc_add a b = omega arith

  moved_on : (a b : ℕ) → a + suc b ≡ a + 1 + b
  moved_on a b = omega arith

filter_on : (p : ℕ → Bool) (xs ys : List ℕ) → filter p (xs ++ ys) ≡ filter p xs ++ filter p ys
filter_on p [] ys = refl
filter_on p (x ∷ xs) ys = by (p x) (filter_on p xs ys) where
  by : (t : Bool) → filter p (xs ++ ys) ≡ filter p xs ++ filter p ys
      → (if t then x ∷ filter p (xs ++ ys) else filter p (xs ++ ys)) ≡ (if t then x ∷ filter p xs else filter p xs) ++ filter p ys
  by true later = ap (λ (zs : List ℕ). x ∷ zs) later
  by false later = later

map_on : (g : ℕ → List ℕ) (xs ys : List ℕ) → map g (xs ++ ys) ≡ map g xs ++ map g ys
map_on g [] ys = refl
map_on g (x ∷ xs) ys = ap (λ (zs : List (List ℕ)). g x ∷ zs) (map_on g xs ys)

take_first : (xs ys : List ℕ) → take (length xs) (xs ++ ys) ≡ xs
take_first [] ys = refl
take_first (x ∷ xs) ys = ap (λ (zs : List ℕ). x ∷ zs) (take_first xs ys)

take_whole : (n : ℕ) (xs : List ℕ) → length xs ≤ n → take n xs ≡ xs
take_whole zero [] h = refl
take_whole zero (x ∷ xs) h = absurd (omega arith)
take_whole (suc n) [] h = refl
take_whole (suc n) (x ∷ xs) h = ap (λ (zs : List ℕ). x ∷ zs) (take_whole n xs (omega arith))

-- the free ones among the first numbers
abbrev pub found : List ℕ → List (List ℕ) → ℕ → List ℕ
found stem taken n = filter (λ k. is_free taken (numbered stem k)) (rising 0 n)

one_found : (stem : List ℕ) (taken : List (List ℕ)) (n : ℕ) → found stem taken (n + 1) ≡ found stem taken n ++ filter (λ k. is_free taken (numbered stem k)) (n ∷ [])
one_found stem taken n =
    ap (filter (λ k. is_free taken (numbered stem k))) (rising_on 0 n 1 ∙ rw (zero-add n) refl)
    ∙ filter_on (λ k. is_free taken (numbered stem k)) (rising 0 n) (n ∷ [])

-- one number more
pub more_found : (stem : List ℕ) (taken : List (List ℕ)) (n : ℕ) (known : Bool) (old new : List (List ℕ)) → known ≡ not (is_free taken (numbered stem n))
    → old ≡ map (numbered stem) (found stem taken n) → new ≡ old ++ (if known then [] else numbered stem n ∷ []) → new ≡ map (numbered stem) (found stem taken (n + 1))
more_found stem taken n known old new is before added =
    added ∙ rw (before, is) (by (is_free taken (numbered stem n)))
    ∙ sym (ap (map (numbered stem)) (one_found stem taken n) ∙ map_on (numbered stem) (found stem taken n) (filter (λ k. is_free taken (numbered stem k)) (n ∷ []))) where
      by : (t : Bool) → map (numbered stem) (found stem taken n) ++ (if not t then [] else numbered stem n ∷ [])
          ≡ map (numbered stem) (found stem taken n) ++ map (numbered stem) (if t then n ∷ [] else [])
      by true = refl
      by false = refl

one_at_most : (stem : List ℕ) (taken : List (List ℕ)) (n : ℕ) → length (found stem taken (n + 1)) ≤ length (found stem taken n) + 1
one_at_most stem taken n = rw (one_found stem taken n) (longer (found stem taken n) (is_free taken (numbered stem n))) where
  longer : (xs : List ℕ) (t : Bool) → length (xs ++ (if t then n ∷ [] else [])) ≤ length xs + 1
  longer [] true = omega arith
  longer [] false = omega arith
  longer (x ∷ xs) t = let h = longer xs t in omega arith

pub not_too_many : (stem : List ℕ) (taken : List (List ℕ)) (many n : ℕ) (old : List (List ℕ)) → old ≡ map (numbered stem) (found stem taken n) → length old ≤ many → (length old ≡ many → ⊥)
    → length (found stem taken (n + 1)) ≤ many
not_too_many stem taken many n old is few unlike =
    let a = one_at_most stem taken n in
    let b : length old ≡ length (found stem taken n) = ap length is ∙ same_length (numbered stem) (found stem taken n) in
    let c : length old < many = less (length old == many) refl in
    omega arith where
      less : (t : Bool) → (length old == many) ≡ t → length old < many
      less true e = absurd (unlike (eqb-true (length old) many e))
      less false e = let h = eqb-false (length old) many e in omega arith

-- where so many are found, they are the first ones
pub all_found : (stem : List ℕ) (taken : List (List ℕ)) (many n : ℕ) → n ≤ many + length taken → length (found stem taken n) ≡ many
    → map (numbered stem) (found stem taken n) ≡ free_texts stem taken many
all_found stem taken many n within is =
    ap (map (numbered stem)) (sym (ap (λ k. take k (found stem taken (many + length taken))) (sym is)
    ∙ ap (take (length (found stem taken n))) (split (many + length taken - n) (omega arith))
    ∙ take_first (found stem taken n) (filter (λ k. is_free taken (numbered stem k)) (rising (0 + n) (many + length taken - n))))) where
      split : (m : ℕ) → many + length taken ≡ n + m
          → found stem taken (many + length taken) ≡ found stem taken n ++ filter (λ k. is_free taken (numbered stem k)) (rising (0 + n) m)
      split m e = rw e (ap (filter (λ k. is_free taken (numbered stem k))) (rising_on 0 n m) ∙ filter_on (λ k. is_free taken (numbered stem k)) (rising 0 n) (rising (0 + n) m))

-- where all numbers are gone through, no further ones are asked for
pub rest_found : (stem : List ℕ) (taken : List (List ℕ)) (many : ℕ) → length (found stem taken (many + length taken)) ≤ many
    → map (numbered stem) (found stem taken (many + length taken)) ≡ free_texts stem taken many
rest_found stem taken many few = ap (map (numbered stem)) (sym (take_whole many (found stem taken (many + length taken)) few))

-- ---- the laws

pub are_free : (stem : List ℕ) (taken : List (List ℕ)) (many : ℕ) → many + length taken < 2 ^ 64 → AreFree taken many (free_texts stem taken many)
are_free stem taken many few =
    let numbers = filter (λ k. is_free taken (numbered stem k)) (rising 0 (many + length taken)) in
    let some = enough (numbered stem) taken (many + length taken) (λ i j a b e. let same = numbers_differ stem i j (omega arith) (omega arith) e in omega arith) in
    record {
      each = same_length (numbered stem) (take many numbers) ∙ length_taken many numbers (omega arith);
      different = map_differs (numbered stem) (take many numbers) (λ i j a b e. numbers_differ stem i j (below i a) (below j b) e)
          (take_differs many numbers (filter_differs (λ k. is_free taken (numbered stem k)) (rising 0 (many + length taken)) (rising_differ 0 (many + length taken))));
      free = all_by (λ t. is_free taken t ≡ true) (map (numbered stem) (take many numbers)) free_at;
    } where
      below : (i : ℕ) → In i (free_numbers stem taken many) → i < 2 ^ 64
      below i a =
          let h = (in_rising i 0 (many + length taken) (in_filter (λ k. is_free taken (numbered stem k)) i (rising 0 (many + length taken))
          (in_take many i (filter (λ k. is_free taken (numbered stem k)) (rising 0 (many + length taken))) a)).0).1 in
          omega arith

      free_at : (t : List ℕ) → In t (free_texts stem taken many) → is_free taken t ≡ true
      free_at t i =
          let found = in_map (numbered stem) t (free_numbers stem taken many) i in
          let passes = (in_filter (λ k. is_free taken (numbered stem k)) found.0 (rising 0 (many + length taken))
          (in_take many found.0 (filter (λ k. is_free taken (numbered stem k)) (rising 0 (many + length taken))) found.1)).1 in
          let P : List ℕ → Type 0 = λ u. is_free taken u ≡ true in
          subst P found.2 passes

pub are_words : (stem : List ℕ) (taken : List (List ℕ)) (many : ℕ) → IsStem stem → All IsIdentifier (free_texts stem taken many)
are_words stem taken many is = all_by IsIdentifier (free_texts stem taken many) word where
  word : (t : List ℕ) → In t (free_texts stem taken many) → IsIdentifier t
  word t i = let found = in_map (numbered stem) t (free_numbers stem taken many) i in subst IsIdentifier found.2 (is.plain found.0)
