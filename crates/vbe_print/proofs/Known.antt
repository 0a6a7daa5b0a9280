-- What is known of each member of a list, and of the free texts that a machine's text gives to inner signals.
use Rattle.std.proofs.Common.{◌≡◌, ℕ, zero, suc, ◌+◌, ◌<◌, ◌≤◌, ◌^◌, Bool, true, false, not, cond, ◌||◌, List, [], ◌∷◌, ◌++◌, map, length, filter, bytes_eq, slice_index, refl, sym, subst, arith, get_or}
use Rattle.std.specs.List.{All, list_any, list_all}
use Rattle.std.specs.Char.{is_ascii_digit}
use Rattle.std.specs.Fmt.{decimal}
use Rattle.std.proofs.lemmas.Bool.{and_parts}
use Rattle.std.proofs.lemmas.Fmt.{length-decimal-le}
use Rattle.std.proofs.lemmas.List.Elements.{All-head, All-tail, All-cons, All-nil, All-map, All-weaker, All-take, All-filter, filter_passes}
use Rattle.std.proofs.lemmas.List.Sums.{AllPass-from_list_all}
use Rattle.vlsi_base.specs.declared.name.Name.{Name}
use Rattle.vlsi_base.specs.Member.{In, here, there, AllDifferent}
use Rattle.vlsi_base.specs.Range.{rising}
use Rattle.machine_core.specs.Named.{is_same_name}
use Rattle.machine_core.proofs.Names.{same_name-true}
use Rattle.spell_theory.specs.Words.{is_small_letter, is_in_small_word}
use Rattle.spell_theory.proofs.Letters.{by_bytes, small_letter, decimal_is}
use Rattle.text_names.proofs.Numbered.{numbered as is_numbered}
use Rattle.text_names.specs.Free.{is_free, numbered, free_numbers, free_texts}
use Rattle.vhdl_print.specs.EntityAgain.{IsName}
use Rattle.vst_print.proofs.Names.{AllApart, not_of, name_of_identifier}
use Rattle.vbe_print.specs.Written.{renamed}
use Rattle.vbe_print.specs.Said.{IsLetter}

-- ---- members

pub all_in : {X : Type 0} (P : X → Type 0) (xs : List X) → All P xs → (x : X) → In x xs → P x
all_in P (y ∷ xs) h x here = All-head P y xs h
all_in P (y ∷ xs) h x (there g) = all_in P xs (All-tail P y xs h) x g
all_in P [] h x g = elim g [ ]

pub all_by : {X : Type 0} (P : X → Type 0) (xs : List X) → ((x : X) → In x xs → P x) → All P xs
all_by P [] h = All-nil P
all_by P (x ∷ xs) h = All-cons P x xs (h x here) (all_by P xs (λ y g. h y (there g)))

pub front_all : {X : Type 0} (P : X → Type 0) (xs ys : List X) → All P (xs ++ ys) → All P xs
front_all P [] ys h = All-nil P
front_all P (x ∷ xs) ys h = All-cons P x xs (All-head P x (xs ++ ys) h) (front_all P xs ys (All-tail P x (xs ++ ys) h))

pub back_all : {X : Type 0} (P : X → Type 0) (xs ys : List X) → All P (xs ++ ys) → All P ys
back_all P [] ys h = h
back_all P (x ∷ xs) ys h = back_all P xs ys (All-tail P x (xs ++ ys) h)

pub unmapped : {X Y : Type 0} (P : Y → Type 0) (f : X → Y) (xs : List X) → All P (map f xs) → All (λ x. P (f x)) xs
unmapped P f [] h = All-nil (λ x. P (f x))
unmapped P f (x ∷ xs) h = All-cons (λ x. P (f x)) x xs (All-head P (f x) (map f xs) h) (unmapped P f xs (All-tail P (f x) (map f xs) h))

pub any_in : (names : List Name) (n : Name) → list_any (λ m. is_same_name m n) names ≡ true → In n names
any_in [] n e = absurd cc
any_in (x ∷ xs) n e = by (any_in xs n) (is_same_name x n) refl e where
  by : (list_any (λ m. is_same_name m n) xs ≡ true → In n xs) → (b : Bool) → is_same_name x n ≡ b → (b || list_any (λ m. is_same_name m n) xs) ≡ true → In n (x ∷ xs)
  by later true same e = subst (λ (z : Name). In n (z ∷ xs)) (sym (same_name-true x n same)) here
  by later false same e = there (later e)

pub apart_of : (ts : List (List ℕ)) → AllDifferent ts → AllApart ts
apart_of [] d = tt
apart_of (t ∷ ts) d = (all_by (λ u. t ≡ u → ⊥) ts (λ u h e. d.0 (subst (λ (z : List ℕ). In z ts) (sym e) h)), apart_of ts d.1)

-- what a text is free of
pub free_of : (taken : List (List ℕ)) (t u : List ℕ) → is_free taken u ≡ true → In t taken → t ≡ u → ⊥
free_of taken t u free h = not_of t u (all_in (λ x. not (bytes_eq x u) ≡ true) taken (AllPass-from_list_all (λ x. not (bytes_eq x u)) taken free) t h)

-- ---- free texts

rising_less : (m n : ℕ) → All (λ k. k < m + n) (rising m n)
rising_less m zero = All-nil (λ k. k < m + 0)
rising_less m (suc n) =
    All-cons (λ k. k < m + suc n) m (rising (m + 1) n) (omega arith) (All-weaker (λ k. k < m + 1 + n) (λ k. k < m + suc n) (λ k w. omega (arith, w)) (rising (m + 1) n) (rising_less (m + 1) n))

-- a text that a signal has: a word that is no text of a port or a register, whose second letter is a digit, which that of no supply is
pub record IsSignalText (taken : List (List ℕ)) (t : List ℕ) : Type 0 where
  pub name : IsName t
  pub free : is_free taken t ≡ true
  pub second : is_ascii_digit (slice_index t 1) ≡ true

first_digit : (ds : List ℕ) → list_all is_ascii_digit ds ≡ true → 0 < length ds → is_ascii_digit (slice_index ds 0) ≡ true
first_digit [] all some = absurd (omega (arith, some))
first_digit (d ∷ ds) all some = (and_parts (is_ascii_digit d) (list_all is_ascii_digit ds) all).0

one_signal : (letter : ℕ) (taken : List (List ℕ)) (k : ℕ) → is_small_letter letter ≡ true → k < 2 ^ 32 → is_free taken (letter ∷ decimal k) ≡ true
    → IsSignalText taken (letter ∷ decimal k)
one_signal letter taken k is small free =
    let n = length-decimal-le 10 k (omega arith) (omega (arith, small)) (omega (arith, small)) in
    let d = decimal_is k (omega (arith, small)) in
    let within : is_in_small_word letter ≡ true = by_bytes is_small_letter is_in_small_word refl letter (small_letter letter is) is in
    record {
      name = name_of_identifier (letter ∷ decimal k) (is_numbered letter k is within (omega (arith, small))) (omega (arith, n));
      free = free;
      second = first_digit (decimal k) d.digits d.some;
    }

signals_of : (letter : ℕ) (taken : List (List ℕ)) (many : ℕ) → is_small_letter letter ≡ true → many + length taken ≤ 2 ^ 32
    → All (IsSignalText taken) (free_texts (letter ∷ []) taken many)
signals_of letter taken many is few =
    let most = many + length taken in
    let p : ℕ → Bool = λ k. is_free taken (letter ∷ decimal k) in
    let G : ℕ → Type 0 = λ k. IsSignalText taken (letter ∷ decimal k) in
    All-map (IsSignalText taken) (numbered (letter ∷ [])) (free_numbers (letter ∷ []) taken many)
    (All-take G many (filter p (rising 0 most))
    (λ k d l. (
    let w = All-filter p (λ k. k < 0 + most) (rising 0 most) (rising_less 0 most) k d l in
    one_signal letter taken (get_or (filter p (rising 0 most)) k d) is (omega (arith, w, few)) (filter_passes p (rising 0 most) k d l)
    )))

pub signals_good : (stem : List ℕ) (taken : List (List ℕ)) (many : ℕ) → IsLetter stem → many + length taken ≤ 2 ^ 32 → All (IsSignalText taken) (free_texts stem taken many)
signals_good stem taken many is few =
    subst (λ (s : List ℕ). All (IsSignalText taken) (free_texts s taken many)) (sym is.is) (signals_of is.letter taken many is.small few)

-- ---- names that are replaced

-- what holds of the names that are kept and of those that replace others, of which there are enough, holds of all
pub renamed_all : (P : Name → Type 0) (keeps : Name → Bool) (names others : List Name) → ((n : Name) → keeps n ≡ true → P n) → All P others
    → length (filter (λ n. not (keeps n)) names) ≤ length others → All P (renamed keeps names others)
renamed_all P keeps [] others kept all few = All-nil P
renamed_all P keeps (n ∷ names) [] kept all few = by (renamed_all P keeps names [] kept all) (keeps n) refl few where
  by : (length (filter (λ n. not (keeps n)) names) ≤ 0 → All P (renamed keeps names [])) → (b : Bool) → keeps n ≡ b
      → length (cond (not b) (n ∷ filter (λ n. not (keeps n)) names) (filter (λ n. not (keeps n)) names)) ≤ 0 → All P (n ∷ renamed keeps names [])
  by later true e few = All-cons P n (renamed keeps names []) (kept n e) (later few)
  by later false e few = absurd (omega (arith, few))
renamed_all P keeps (n ∷ names) (o ∷ others) kept all few = by (renamed_all P keeps names (o ∷ others) kept all) (renamed_all P keeps names others kept (All-tail P o others all)) (keeps n) refl few where
  by : (length (filter (λ n. not (keeps n)) names) ≤ suc (length others) → All P (renamed keeps names (o ∷ others)))
      → (length (filter (λ n. not (keeps n)) names) ≤ length others → All P (renamed keeps names others)) → (b : Bool) → keeps n ≡ b
      → length (cond (not b) (n ∷ filter (λ n. not (keeps n)) names) (filter (λ n. not (keeps n)) names)) ≤ suc (length others)
      → All P (cond b (n ∷ renamed keeps names (o ∷ others)) (o ∷ renamed keeps names others))
  by keep replace true e few = All-cons P n (renamed keeps names (o ∷ others)) (kept n e) (keep few)
  by keep replace false e few = All-cons P o (renamed keeps names others) (All-head P o others all) (replace (omega (arith, few)))
