-- Rows and lists of bits.
use Rattle.std.proofs.Common.{◌≡◌, ℕ, ◌+◌, ◌*◌, ◌/◌, ◌%◌, ◌^◌, ◌<◌, ◌≤◌, Bool, true, false, List, [], ◌∷◌, map, take, length, nat_eq, get_or, drop, length-drop, ap, ap₂, refl, sym, ◌∙◌, arith}
use Prim.Native.Nat.{zero, suc}
use Rattle.std.specs.Int.{bit_at}
use Rattle.std.proofs.lemmas.List.{drop_more, length-map, length-take-le, get_or-take}
use Rattle.std.proofs.lemmas.Bool.{cases_lt}
use Rattle.std.proofs.Common.{inl, inr}
use Rattle.std.proofs.lemmas.Nat.Bits.{bit_at_lowest, bit_at-suc, bit_at-zero, bit_at-lt, same_from_bits}
use Rattle.truth_tab.specs.Table.{bit, row_of, row_bit, gathered}

abbrev pub digit : Bool → ℕ
digit true = 1
digit false = 0

low_digit : (b : Bool) (r : ℕ) → nat_eq ((digit b + 2 * r) % 2) 1 ≡ b
low_digit true r = let e : (1 + 2 * r) % 2 ≡ 1 = omega arith in ap (λ (n : ℕ). nat_eq n 1) e
low_digit false r = let e : (0 + 2 * r) % 2 ≡ 0 = omega arith in ap (λ (n : ℕ). nat_eq n 1) e

rest_digits : (b : Bool) (r : ℕ) → (digit b + 2 * r) / 2 ≡ r
rest_digits true r = omega arith
rest_digits false r = omega arith

pub row_cons : (b : Bool) (w : List Bool) → row_of (b ∷ w) ≡ digit b + 2 * row_of w
row_cons true w = refl
row_cons false w = refl

-- a variable has its bit in the row of a list
pub row_bit_of : (w : List Bool) (k : ℕ) → row_bit (row_of w) k ≡ bit w k
row_bit_of [] k = ap (λ (n : ℕ). nat_eq n 1) (bit_at-zero k)
row_bit_of (b ∷ w) zero =
    ap (λ (n : ℕ). nat_eq n 1) (bit_at_lowest (row_of (b ∷ w))) ∙ ap (λ (n : ℕ). nat_eq (n % 2) 1) (row_cons b w) ∙ low_digit b (row_of w)
row_bit_of (b ∷ w) (suc k) =
    ap (λ (n : ℕ). nat_eq n 1) (bit_at-suc (row_of (b ∷ w)) k)
    ∙ ap (λ (n : ℕ). nat_eq (bit_at n k) 1) (ap (λ (n : ℕ). n / 2) (row_cons b w) ∙ rest_digits b (row_of w))
    ∙ row_bit_of w k

low_more : (b : Bool) (r n : ℕ) → r < n → digit b + 2 * r < 2 * n
low_more true r n h = omega arith
low_more false r n h = omega arith

twice_pow : (n : ℕ) → 2 ^ suc n ≡ 2 * 2 ^ n
twice_pow n = omega arith

pub row_low : (w : List Bool) → row_of w < 2 ^ length w
row_low [] = omega arith
row_low (b ∷ w) = let a = row_low w in let e = row_cons b w in let f = low_more b (row_of w) (2 ^ length w) a in let g = twice_pow (length w) in omega arith

pub row_within : (w : List Bool) (k : ℕ) → length w ≤ k → row_of w < 2 ^ k
row_within [] zero h = omega arith
row_within [] (suc k) h = let a = row_within [] k (omega arith) in let g = twice_pow k in omega arith
row_within (b ∷ w) zero h = absurd (omega arith)
row_within (b ∷ w) (suc k) h =
    let a = row_within w k (omega arith) in
    let e = row_cons b w in
    let f = low_more b (row_of w) (2 ^ k) a in
    let g = twice_pow k in
    omega arith

-- at most 6 variables have at most 64 rows
pub rows_within : (k : ℕ) → k ≤ 6 → (1 * 2 ^ k % 4294967296 ≡ 2 ^ k) × (2 ^ k ≤ 64)
rows_within zero h = (omega arith, omega arith)
rows_within (suc zero) h = (omega arith, omega arith)
rows_within (suc (suc zero)) h = (omega arith, omega arith)
rows_within (suc (suc (suc zero))) h = (omega arith, omega arith)
rows_within (suc (suc (suc (suc zero)))) h = (omega arith, omega arith)
rows_within (suc (suc (suc (suc (suc zero))))) h = (omega arith, omega arith)
rows_within (suc (suc (suc (suc (suc (suc zero)))))) h = (omega arith, omega arith)
rows_within (suc (suc (suc (suc (suc (suc (suc k))))))) h = absurd (omega arith)

-- numbers with the same tests of bits are equal
pub same_test : (a b : ℕ) → a < 2 → b < 2 → nat_eq a 1 ≡ nat_eq b 1 → a ≡ b
same_test zero zero la lb h = refl
same_test zero (suc zero) la lb h = cc
same_test (suc zero) zero la lb h = cc
same_test (suc zero) (suc zero) la lb h = refl
same_test (suc (suc a)) b la lb h = absurd (omega arith)
same_test zero (suc (suc b)) la lb h = absurd (omega arith)
same_test (suc zero) (suc (suc b)) la lb h = absurd (omega arith)

pub same_from_tests : (a b : ℕ) → ((i : ℕ) → row_bit a i ≡ row_bit b i) → a ≡ b
same_from_tests a b h = same_from_bits a b (λ i. same_test _ _ (bit_at-lt a i) (bit_at-lt b i) (h i))

-- the row of at most 6 variables
pub row_below : (w : List Bool) → length w ≤ 6 → row_of w < 64
row_below [] h = omega arith
row_below (a ∷ []) h = let f = row_low (a ∷ []) in omega arith
row_below (a ∷ b ∷ []) h = let f = row_low (a ∷ b ∷ []) in omega arith
row_below (a ∷ b ∷ c ∷ []) h = let f = row_low (a ∷ b ∷ c ∷ []) in omega arith
row_below (a ∷ b ∷ c ∷ d ∷ []) h = let f = row_low (a ∷ b ∷ c ∷ d ∷ []) in omega arith
row_below (a ∷ b ∷ c ∷ d ∷ e ∷ []) h = let f = row_low (a ∷ b ∷ c ∷ d ∷ e ∷ []) in omega arith
row_below (a ∷ b ∷ c ∷ d ∷ e ∷ g ∷ []) h = let f = row_low (a ∷ b ∷ c ∷ d ∷ e ∷ g ∷ []) in omega arith
row_below (a ∷ b ∷ c ∷ d ∷ e ∷ g ∷ x ∷ w) h = absurd (omega arith)

-- the row that is gathered from that of a list
pub gathered_row : (w : List Bool) (places : List ℕ) → gathered places (row_of w) ≡ row_of (map (λ p. bit w p) places)
gathered_row w [] = refl
gathered_row w (p ∷ places) =
    row_cons (row_bit (row_of w) p) (map (λ q. row_bit (row_of w) q) places)
    ∙ ap₂ (λ (b : Bool) (n : ℕ). digit b + 2 * n) (row_bit_of w p) (gathered_row w places)
    ∙ sym (row_cons (bit w p) (map (λ q. bit w q) places))

pub gathered_below : (places : List ℕ) (n : ℕ) → length places ≤ 6 → gathered places n < 64
gathered_below places n few = row_below (map (λ p. row_bit n p) places) (let e = length-map places (λ (p : ℕ). row_bit n p) in omega arith)

-- one place more
pub gathered_more : (places : List ℕ) (rest before n : ℕ) (b : Bool) → before + 1 ≡ rest → rest ≤ length places → row_bit n (get_or places before 0) ≡ b
    → gathered (drop before places) n ≡ digit b + 2 * gathered (drop rest places) n
gathered_more places rest before n b next inside value =
    ap (λ (ps : List ℕ). gathered ps n) (drop_more places before 0 (omega arith))
    ∙ row_cons (row_bit n (get_or places before 0)) (map (λ p. row_bit n p) (drop (before + 1) places))
    ∙ ap₂ (λ (v : Bool) (k : ℕ). digit v + 2 * gathered (drop k places) n) value next

pub gathered_more_below : (places : List ℕ) (rest n : ℕ) → length places ≤ 6 → gathered (drop rest places) n < 64
gathered_more_below places rest n few = gathered_below (drop rest places) n (let e = length-drop rest places in omega arith)

-- the first places give the first bits
pub first_bits : (w : List Bool) (n : ℕ) → n ≤ length w → n ≤ 6
    → map (λ p. bit w p) (take n (0 ∷ 1 ∷ 2 ∷ 3 ∷ 4 ∷ 5 ∷ [])) ≡ take n w
first_bits w zero h k = refl
first_bits (a ∷ w) (suc zero) h k = refl
first_bits (a ∷ b ∷ w) (suc (suc zero)) h k = refl
first_bits (a ∷ b ∷ c ∷ w) (suc (suc (suc zero))) h k = refl
first_bits (a ∷ b ∷ c ∷ d ∷ w) (suc (suc (suc (suc zero)))) h k = refl
first_bits (a ∷ b ∷ c ∷ d ∷ e ∷ w) (suc (suc (suc (suc (suc zero))))) h k = refl
first_bits (a ∷ b ∷ c ∷ d ∷ e ∷ g ∷ w) (suc (suc (suc (suc (suc (suc zero)))))) h k = refl
first_bits w (suc (suc (suc (suc (suc (suc (suc n))))))) h k = absurd (omega arith)
first_bits [] (suc n) h k = absurd (omega arith)
first_bits (a ∷ []) (suc (suc n)) h k = absurd (omega arith)
first_bits (a ∷ b ∷ []) (suc (suc (suc n))) h k = absurd (omega arith)
first_bits (a ∷ b ∷ c ∷ []) (suc (suc (suc (suc n)))) h k = absurd (omega arith)
first_bits (a ∷ b ∷ c ∷ d ∷ []) (suc (suc (suc (suc (suc n))))) h k = absurd (omega arith)
first_bits (a ∷ b ∷ c ∷ d ∷ e ∷ []) (suc (suc (suc (suc (suc (suc n)))))) h k = absurd (omega arith)

first_places : (n i : ℕ) → i < n → n ≤ 6 → get_or (take n (0 ∷ 1 ∷ 2 ∷ 3 ∷ 4 ∷ 5 ∷ [])) i 0 ≡ i
first_places zero i h k = absurd (omega arith)
first_places (suc n) i h k = get_or-take (suc n) (0 ∷ 1 ∷ 2 ∷ 3 ∷ 4 ∷ 5 ∷ []) i 0 h ∙ at i (omega arith) where
  at : (i : ℕ) → i < 6 → get_or (0 ∷ 1 ∷ 2 ∷ 3 ∷ 4 ∷ 5 ∷ []) i 0 ≡ i
  at zero h = refl
  at (suc zero) h = refl
  at (suc (suc zero)) h = refl
  at (suc (suc (suc zero))) h = refl
  at (suc (suc (suc (suc zero)))) h = refl
  at (suc (suc (suc (suc (suc zero))))) h = refl
  at (suc (suc (suc (suc (suc (suc i)))))) h = absurd (omega arith)

past_end : (w : List Bool) (i : ℕ) → length w ≤ i → bit w i ≡ false
past_end [] i h = refl
past_end (b ∷ w) zero h = absurd (omega arith)
past_end (b ∷ w) (suc i) h = past_end w i (omega arith)

mapped_bit : (f : ℕ → Bool) (xs : List ℕ) (i : ℕ) → i < length xs → bit (map f xs) i ≡ f (get_or xs i 0)
mapped_bit f [] i h = absurd (omega arith)
mapped_bit f (x ∷ xs) zero h = refl
mapped_bit f (x ∷ xs) (suc i) h = mapped_bit f xs i (omega arith)

-- the first places give the row of a list that is no longer
pub first_row : (w : List Bool) (n : ℕ) → length w ≤ n → n ≤ 6 → row_of (map (λ p. bit w p) (take n (0 ∷ 1 ∷ 2 ∷ 3 ∷ 4 ∷ 5 ∷ []))) ≡ row_of w
first_row w n h k = same_from_tests _ _ (λ i.
    let ps = take n (0 ∷ 1 ∷ 2 ∷ 3 ∷ 4 ∷ 5 ∷ []) in
    let long : length ps ≡ n = length-take-le n (0 ∷ 1 ∷ 2 ∷ 3 ∷ 4 ∷ 5 ∷ []) (omega arith) in
    let many = length-map ps (λ p. bit w p) in
    row_bit_of (map (λ p. bit w p) ps) i ∙ elim (cases_lt i n) [
      | inl low ↦ mapped_bit (λ p. bit w p) ps i (omega arith) ∙ ap (λ p. bit w p) (first_places n i low k)
      | inr high ↦ past_end (map (λ p. bit w p) ps) i (omega arith) ∙ sym (past_end w i (omega arith))
    ] ∙ sym (row_bit_of w i))
