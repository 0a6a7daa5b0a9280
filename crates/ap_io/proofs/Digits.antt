-- The order of numbers, by their digits.
use Rattle.std.proofs.Common.{◌≡◌, ℕ, suc, zero, ◌+◌, ◌-◌, ◌*◌, ◌<◌, ◌≤◌, Bool, true, false, not, ◌==◌, ◌&&◌, List, [], ◌∷◌, length, drop, refl, sym, ap, ◌∙◌, arith, ◌⊎◌, inl, inr, if◌then◌else◌}
use Rattle.std.specs.Prelude.{pos, neg_ℤ, int_lt, nat_lt}
use Rattle.std.specs.List.{prefix_len, list_all}
use Rattle.std.specs.Char.{is_ascii_digit}
use Rattle.std.specs.Ordering.{nat_cmp, ordering_then}
use Rattle.std.specs.Cmp.{nat_cmp_is}
use Rattle.std.specs.Cmp.Lexicographic.{slice_cmp}
use Rattle.std.specs.declared.cmp.Ordering.{Ordering}
use Rattle.std.specs.declared.cmp.Ordering.TheVariants.{Less, Equal, Greater}
use Rattle.std.proofs.lemmas.Cmp.{ranked}
use Rattle.std.proofs.lemmas.Bool.{eqb-true, eqb-false}
use Rattle.std.proofs.str.Laws.{order}
use Rattle.std.proofs.lemmas.Bool.Decides.{nat_tests}
use Rattle.vlsi_base.specs.Number.{value_of, value_from}
use Rattle.ap_io.specs.Fields.{significant, signed, is_digits, digits_of, has_minus, is_number, number_of}

pub both_true : (a b : Bool) → a && b ≡ true → (a ≡ true) × (b ≡ true)
both_true true b h = (refl, h)
both_true false b h = absurd (cc)

pub head_digit : (d : ℕ) (ds : List ℕ) → list_all is_ascii_digit (d ∷ ds) ≡ true → (is_ascii_digit d ≡ true) × (list_all is_ascii_digit ds ≡ true)
head_digit d ds h = both_true (is_ascii_digit d) (list_all is_ascii_digit ds) h

pub digit_range : (d : ℕ) → is_ascii_digit d ≡ true → (48 ≤ d) × (d ≤ 57)
digit_range d h = grind (arith, nat_tests)

-- of xs many digits behind a lesser number, the number stays less
stays_less : (n m : ℕ) (xs ys : List ℕ) → n < m → length xs ≡ length ys → list_all is_ascii_digit xs ≡ true → list_all is_ascii_digit ys ≡ true → value_from n xs < value_from m ys
stays_less n m [] [] less same da db = less
stays_less n m [] (b ∷ ys) less same da db = absurd (omega (arith, same))
stays_less n m (a ∷ xs) [] less same da db = absurd (omega (arith, same))
stays_less n m (a ∷ xs) (b ∷ ys) less same da db =
    let x = head_digit a xs da in
    let y = head_digit b ys db in
    let ra = digit_range a x.0 in
    stays_less (n * 10 + (a - 48)) (m * 10 + (b - 48)) xs ys (omega (arith, less, ra.0, ra.1)) (omega (arith, same)) x.1 y.1

longer_step : (n a : ℕ) (xs ys : List ℕ) → 0 < n → length ys ≤ suc (length xs) → list_all is_ascii_digit (a ∷ xs) ≡ true → list_all is_ascii_digit ys ≡ true
    → (length ys < suc (length xs)) ⊎ (suc (length xs) ≤ length ys) → (length ys < suc (length xs) → value_of ys < value_from (n * 10 + (a - 48)) xs) → value_of ys < value_from n (a ∷ xs)
longer_step n a xs ys some longer da db (inl shorter) so = so shorter
longer_step n a xs ys some longer da db (inr long) so = stays_less 0 n ys (a ∷ xs) some (omega (arith, long, longer)) db da

-- more digits behind a number that isn't 0 make a greater number
longer_greater : (n : ℕ) (xs ys : List ℕ) → 0 < n → length ys ≤ length xs → list_all is_ascii_digit xs ≡ true → list_all is_ascii_digit ys ≡ true → value_of ys < value_from n xs
longer_greater n [] [] some longer da db = some
longer_greater n [] (b ∷ ys) some longer da db = absurd (omega (arith, longer))
longer_greater n (a ∷ xs) ys some longer da db =
    longer_step n a xs ys some longer da db (order (length ys) (suc (length xs)))
    (λ shorter. longer_greater (n * 10 + (a - 48)) xs ys (omega (arith, some)) (omega (arith, shorter)) (head_digit a xs da).1 db)

by_first : (n : ℕ) (a b : ℕ) (xs ys : List ℕ) (o : Ordering) → o ≡ nat_cmp a b → length xs ≡ length ys
    → list_all is_ascii_digit (a ∷ xs) ≡ true → list_all is_ascii_digit (b ∷ ys) ≡ true
    → slice_cmp nat_cmp xs ys ≡ nat_cmp (value_from (n * 10 + (a - 48)) xs) (value_from (n * 10 + (a - 48)) ys)
    → ordering_then o (slice_cmp nat_cmp xs ys) ≡ nat_cmp (value_from n (a ∷ xs)) (value_from n (b ∷ ys))
by_first n a b xs ys Less is same da db rest =
    let less = ranked a b Less is in
    let ra = digit_range a (head_digit a xs da).0 in
    nat_cmp_is (value_from n (a ∷ xs)) (value_from n (b ∷ ys)) Less
    (stays_less (n * 10 + (a - 48)) (n * 10 + (b - 48)) xs ys (omega (arith, less, ra.0)) same (head_digit a xs da).1 (head_digit b ys db).1)
by_first n a b xs ys Equal is same da db rest =
    let e : a ≡ b = ranked a b Equal is in rest ∙ ap (λ x. nat_cmp (value_from (n * 10 + (a - 48)) xs) (value_from (n * 10 + (x - 48)) ys)) e
by_first n a b xs ys Greater is same da db rest =
    let less = ranked a b Greater is in
    let rb = digit_range b (head_digit b ys db).0 in
    nat_cmp_is (value_from n (a ∷ xs)) (value_from n (b ∷ ys)) Greater
    (stays_less (n * 10 + (b - 48)) (n * 10 + (a - 48)) ys xs (omega (arith, less, rb.0)) (sym same) (head_digit b ys db).1 (head_digit a xs da).1)

-- xs many digits are ordered xs their bytes
same_length : (n : ℕ) (xs ys : List ℕ) → length xs ≡ length ys → list_all is_ascii_digit xs ≡ true → list_all is_ascii_digit ys ≡ true
    → slice_cmp nat_cmp xs ys ≡ nat_cmp (value_from n xs) (value_from n ys)
same_length n [] [] same da db = nat_cmp_is n n Equal refl
same_length n [] (b ∷ ys) same da db = absurd (omega (arith, same))
same_length n (a ∷ xs) [] same da db = absurd (omega (arith, same))
same_length n (a ∷ xs) (b ∷ ys) same da db =
    by_first n a b xs ys (nat_cmp a b) refl (omega (arith, same)) da db (same_length (n * 10 + (a - 48)) xs ys (omega (arith, same)) (head_digit a xs da).1 (head_digit b ys db).1)

-- ---- zeros in front

-- no zero in front
abbrev IsTrimmed : List ℕ → Type 0
IsTrimmed [] = Unit {0}
IsTrimmed (d ∷ ds) = (d == 48) ≡ false

abbrev IsWithoutZeros : List ℕ → List ℕ → Type 0
IsWithoutZeros ds rest = IsTrimmed rest × (list_all is_ascii_digit rest ≡ true) × (value_of rest ≡ value_of ds)

trimmed_by : (d : ℕ) (ds : List ℕ) (e : Bool) → list_all is_ascii_digit (d ∷ ds) ≡ true → (d == 48) ≡ e → IsWithoutZeros ds (significant ds)
    → IsWithoutZeros (d ∷ ds) (drop (if e then 1 + prefix_len (λ b. b == 48) ds else 0) (d ∷ ds))
trimmed_by d ds true da is rest =
    let more : suc (prefix_len (λ b. b == 48) ds) ≡ 1 + prefix_len (λ b. b == 48) ds = omega arith in
    let zero_is : d ≡ 48 = eqb-true d 48 is in
    let none : 0 ≡ 0 * 10 + (d - 48) = omega (arith, zero_is) in
    rw (← more) (rest.0, rest.1, rest.2 ∙ ap (λ n. value_from n ds) none)
trimmed_by d ds false da is rest = (is, da, refl)

trimmed : (ds : List ℕ) → list_all is_ascii_digit ds ≡ true → IsWithoutZeros ds (significant ds)
trimmed [] da = (tt, refl, refl)
trimmed (d ∷ ds) da = trimmed_by d ds (d == 48) da refl (trimmed ds (head_digit d ds da).1)

first_some : (d : ℕ) → is_ascii_digit d ≡ true → (d == 48) ≡ false → 0 < 0 * 10 + (d - 48)
first_some d digit other = let r = digit_range d digit in let not_zero = eqb-false d 48 other in omega (arith, r.0, not_zero)

-- a longer run of digits without zeros in front is a greater number
shorter_less : (xs ys : List ℕ) → length xs < length ys → IsTrimmed ys → list_all is_ascii_digit xs ≡ true → list_all is_ascii_digit ys ≡ true → value_of xs < value_of ys
shorter_less xs [] short trim da db = absurd (omega (arith, short))
shorter_less xs (b ∷ ys) short trim da db =
    longer_greater (0 * 10 + (b - 48)) ys xs (first_some b (head_digit b ys db).0 trim) (omega (arith, short)) (head_digit b ys db).1 da

by_lengths : (xs ys : List ℕ) (o : Ordering) → o ≡ nat_cmp (length xs) (length ys) → IsTrimmed xs → IsTrimmed ys → list_all is_ascii_digit xs ≡ true → list_all is_ascii_digit ys ≡ true
    → ordering_then o (slice_cmp nat_cmp xs ys) ≡ nat_cmp (value_of xs) (value_of ys)
by_lengths xs ys Less is ta tb da db = nat_cmp_is (value_of xs) (value_of ys) Less (shorter_less xs ys (ranked _ _ Less is) tb da db)
by_lengths xs ys Equal is ta tb da db = same_length 0 xs ys (ranked _ _ Equal is) da db
by_lengths xs ys Greater is ta tb da db = nat_cmp_is (value_of xs) (value_of ys) Greater (shorter_less ys xs (ranked _ _ Greater is) ta db da)

-- the length of what stands behind the zeros comes first, then the digits
pub in_order : (xs ys : List ℕ) → list_all is_ascii_digit xs ≡ true → list_all is_ascii_digit ys ≡ true
    → ordering_then (nat_cmp (length (significant xs)) (length (significant ys))) (slice_cmp nat_cmp (significant xs) (significant ys)) ≡ nat_cmp (value_of xs) (value_of ys)
in_order xs ys da db =
    let a = trimmed xs da in
    let b = trimmed ys db in
    by_lengths (significant xs) (significant ys) (nat_cmp (length (significant xs)) (length (significant ys))) refl a.0 b.0 a.1 b.1
    ∙ ap (λ n. nat_cmp n (value_of (significant ys))) a.2 ∙ ap (nat_cmp (value_of xs)) b.2

-- ---- numbers below zero

positive : (n : ℕ) → 0 < n → nat_lt 0 n ≡ true
positive n less = grind (arith, nat_tests)

below_zero : (n : ℕ) → int_lt (neg_ℤ (pos n)) (pos 0) ≡ nat_lt 0 n
below_zero zero = refl
below_zero (suc n) = sym (positive (suc n) (omega arith))

nothing_left : (ds : List ℕ) → IsTrimmed ds → list_all is_ascii_digit ds ≡ true → not (length ds == 0) ≡ nat_lt 0 (value_of ds)
nothing_left [] trim da = refl
nothing_left (d ∷ ds) trim da =
    let some = shorter_less [] (d ∷ ds) (omega arith) trim refl da in
    let has : not (length (d ∷ ds) == 0) ≡ true = grind (arith, nat_tests) in
    has ∙ sym (positive (value_of (d ∷ ds)) some)

pub is_below : (ds : List ℕ) → list_all is_ascii_digit ds ≡ true → not (length (significant ds) == 0) ≡ int_lt (neg_ℤ (pos (value_of ds))) (pos 0)
is_below ds da =
    let t = trimmed ds da in
    nothing_left (significant ds) t.0 t.1 ∙ ap (nat_lt 0) t.2 ∙ sym (below_zero (value_of ds))

pub digits_are : (text : List ℕ) → is_number text ≡ true → list_all is_ascii_digit (digits_of text) ≡ true
unfolding is_number
digits_are text h = (both_true (not (length (digits_of text) == 0)) (list_all is_ascii_digit (digits_of text)) h).1

pub all_of : (ds : List ℕ) → is_digits ds ≡ true → list_all is_ascii_digit ds ≡ true
all_of ds h = (both_true (not (length ds == 0)) (list_all is_ascii_digit ds) h).1

pub is_negative_number : (text : List ℕ) → is_number text ≡ true → has_minus text ≡ true → not (length (significant (digits_of text)) == 0) ≡ int_lt (number_of text) (pos 0)
is_negative_number text number minus =
    is_below (digits_of text) (digits_are text number) ∙ sym (ap (λ m. int_lt (signed m (value_of (digits_of text))) (pos 0)) minus)
