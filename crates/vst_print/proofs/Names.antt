-- Names of signals, of components and of instances: they are words, and they differ.
use Rattle.std.proofs.Common.{◌≡◌, ℕ, zero, suc, ◌+◌, ◌-◌, ◌<◌, ◌≤◌, ◌^◌, Bool, true, false, not, cond, ◌&&◌, List, [], ◌∷◌, ◌++◌, map, length, take, drop, filter, Option, None, Some, bytes_eq, slice_index, get_or, refl, sym, ap, subst, ◌∙◌, arith, codes}
use Rattle.std.specs.List.{All, list_all}
use Rattle.std.specs.Char.{is_ascii_digit}
use Rattle.std.specs.Fmt.{decimal}
use Rattle.std.proofs.lemmas.Bool.{and_parts}
use Rattle.std.proofs.lemmas.Fmt.{length-decimal-le}
use Rattle.std.proofs.lemmas.Option.{slice_get-get_or}
use Rattle.std.proofs.lemmas.List.Elements.{All-head, All-tail, All-cons, All-nil, All-filter, All-take, All-map, All-weaker, All-append, filter_passes}
use Rattle.vlsi_base.specs.declared.name.Port.{Port}
use Rattle.vlsi_base.specs.Range.{rising}
use Rattle.vhdl_token.specs.declared.keyword.Keyword.{Keyword}
use Rattle.vhdl_token.specs.Keyword.{keyword_text, keyword_among, keyword_of, keywords}
use Rattle.spell_theory.specs.Words.{is_in_small_word, IsSmallWord}
use Rattle.spell_theory.proofs.Letters.{by_bytes, small_digit, all_implied, both, decimal_is}
use Rattle.vhdl_print.specs.EntityAgain.{IsName}
use Rattle.net_core.specs.Places.{Stands, NoneTwice}
use Rattle.net_core.proofs.Lookups.{same_of, itself}
use Rattle.net_right.specs.Writable.{is_word, IsIdentifier}
use Rattle.vst_print.specs.Groups.{Group, group_of, led_by, grouped}
use Rattle.vst_print.specs.Nets.{signal_text, is_free, signal_numbers}
use Rattle.vst_print.specs.Written.{each_once}
use Rattle.vst_print.proofs.Signals.{signal_once}
use Rattle.vst_print.proofs.Entries.{Entry, Differs, AreDifferent}

-- ---- identifiers

pub name_of_identifier : (text : List ℕ) → IsIdentifier text → length text ≤ 64 → IsName text
name_of_identifier text is short =
    let parts = and_parts _ _ is.0 in
    (record { begins = parts.0; letters = parts.1; short = short }, is.1)

none_among : (w : List ℕ) (ks : List Keyword) → list_all (λ k. not (is_ascii_digit (slice_index (keyword_text k) 1))) ks ≡ true → is_ascii_digit (slice_index w 1) ≡ true → keyword_among w ks ≡ None
none_among w [] all digit = refl
none_among w (k ∷ ks) all digit = by (none_among w ks parts.1 digit) (bytes_eq (keyword_text k) w) refl where
  parts : (not (is_ascii_digit (slice_index (keyword_text k) 1)) ≡ true) × (list_all (λ k. not (is_ascii_digit (slice_index (keyword_text k) 1))) ks ≡ true)
  parts = and_parts (not (is_ascii_digit (slice_index (keyword_text k) 1))) (list_all (λ k. not (is_ascii_digit (slice_index (keyword_text k) 1))) ks) all

  by : keyword_among w ks ≡ None → (b : Bool) → bytes_eq (keyword_text k) w ≡ b → cond b (Some k) (keyword_among w ks) ≡ None
  by rest false e = rest
  by rest true e =
      let d : is_ascii_digit (slice_index (keyword_text k) 1) ≡ true = ap (λ (t : List ℕ). is_ascii_digit (slice_index t 1)) (same_of (keyword_text k) w e) ∙ digit in
      let no : false ≡ true = sym (ap not d) ∙ parts.0 in absurd cc

first_digit : (ds : List ℕ) → list_all is_ascii_digit ds ≡ true → 0 < length ds → is_ascii_digit (slice_index ds 0) ≡ true
first_digit [] all some = absurd (omega arith)
first_digit (d ∷ ds) all some = (and_parts (is_ascii_digit d) (list_all is_ascii_digit ds) all).0

digit_in_word : (c : ℕ) → is_ascii_digit c ≡ true → is_in_small_word c ≡ true
digit_in_word c h = by_bytes is_ascii_digit is_in_small_word refl c (small_digit c h) h

pub signal_name : (k : ℕ) → k < 2 ^ 32 → IsName (signal_text k)
unfolding keyword_of
signal_name k small =
    let d = decimal_is k (omega (arith, small)) in
    let n = length-decimal-le 10 k (omega arith) (omega (arith, small)) (omega (arith, small)) in (
      record {
        begins = refl;
        letters = both (is_in_small_word 110) (list_all is_in_small_word (decimal k)) refl (all_implied is_ascii_digit is_in_small_word digit_in_word (decimal k) d.digits);
        short = omega (arith, n);
      },
      none_among (signal_text k) keywords refl (first_digit (decimal k) d.digits d.some),
    )

-- ---- numbers of signals

rising_below : (m n : ℕ) → All (λ k. (m ≤ k) × (k < m + n)) (rising m n)
rising_below m zero = All-nil (λ k. (m ≤ k) × (k < m + 0))
rising_below m (suc n) =
    All-cons (λ k. (m ≤ k) × (k < m + suc n)) m (rising (m + 1) n) (omega arith, omega arith)
    (All-weaker (λ k. (m + 1 ≤ k) × (k < m + 1 + n)) (λ k. (m ≤ k) × (k < m + suc n)) (λ k w. (omega (arith, w.0), omega (arith, w.1))) (rising (m + 1) n) (rising_below (m + 1) n))

-- each is free, and below the bound
abbrev pub GoodNumber : List Port → ℕ → ℕ → Type 0
GoodNumber ports most k = (k < most) × (is_free ports k ≡ true)

pub numbers_good : (ports : List Port) (many : ℕ) → All (GoodNumber ports (many + length ports)) (signal_numbers ports many)
numbers_good ports many =
    All-take (GoodNumber ports (many + length ports)) many (filter (is_free ports) (rising 0 (many + length ports)))
    (λ k d l. (
      let w = All-filter (is_free ports) (λ k. (0 ≤ k) × (k < 0 + (many + length ports))) (rising 0 (many + length ports)) (rising_below 0 (many + length ports)) k d l in omega (arith, w.1),
      filter_passes (is_free ports) (rising 0 (many + length ports)) k d l,
    ))

-- numbers that rise
abbrev Rises : ℕ → List ℕ → Type 0
Rises m [] = Unit {0}
Rises m (k ∷ ks) = (m ≤ k) × Rises (k + 1) ks

rises_less : (l m : ℕ) (ks : List ℕ) → l ≤ m → Rises m ks → Rises l ks
rises_less l m [] less r = tt
rises_less l m (k ∷ ks) less r = (omega (arith, less, r.0), r.1)

rising_rises : (p : ℕ → Bool) (m n : ℕ) → Rises m (filter p (rising m n))
rising_rises p m zero = tt
rising_rises p m (suc n) = by (rising_rises p (m + 1) n) (p m) where
  by : Rises (m + 1) (filter p (rising (m + 1) n)) → (b : Bool) → Rises m (cond b (m ∷ filter p (rising (m + 1) n)) (filter p (rising (m + 1) n)))
  by rest true = (omega arith, rest)
  by rest false = rises_less m (m + 1) (filter p (rising (m + 1) n)) (omega arith) rest

take_rises : (n m : ℕ) (ks : List ℕ) → Rises m ks → Rises m (take n ks)
take_rises zero m ks r = tt
take_rises (suc n) m [] r = tt
take_rises (suc n) m (k ∷ ks) r = (r.0, take_rises n (k + 1) ks r.1)

-- ---- texts of which none is twice

abbrev pub AllApart : List (List ℕ) → Type 0
AllApart [] = Unit {0}
AllApart (t ∷ ts) = All (λ u. t ≡ u → ⊥) ts × AllApart ts

rises_apart : (m most : ℕ) (ks : List ℕ) → most ≤ 2 ^ 64 → Rises m ks → All (λ k. k < most) ks → AllApart (map signal_text ks)
rises_apart m most [] few r all = tt
rises_apart m most (k ∷ ks) few r all =
    (All-map (λ u. signal_text k ≡ u → ⊥) signal_text ks (above (k + 1) ks (omega arith) r.1 (All-tail (λ j. j < most) k ks all)), rises_apart (k + 1) most ks few r.1 (All-tail (λ j. j < most) k ks all)) where
      O : ℕ → Type 0
      O j = signal_text k ≡ signal_text j → ⊥

      below : k < most
      below = All-head (λ j. j < most) k ks all

      above : (l : ℕ) (js : List ℕ) → k < l → Rises l js → All (λ j. j < most) js → All (λ j. signal_text k ≡ signal_text j → ⊥) js
      above l [] less r all = All-nil O
      above l (j ∷ js) less r all =
          let head = All-head (λ i. i < most) j js all in
          All-cons O j js (λ e. let same = signal_once k j (omega (arith, below, few)) (omega (arith, head, few)) e in absurd (omega (arith, same, less, r.0)))
          (above (j + 1) js (omega (arith, less, r.0)) r.1 (All-tail (λ i. i < most) j js all))

pub signals_apart : (ports : List Port) (many : ℕ) → many + length ports ≤ 2 ^ 64 → AllApart (map signal_text (signal_numbers ports many))
signals_apart ports many few =
    rises_apart 0 (many + length ports) (signal_numbers ports many) few
    (take_rises many 0 (filter (is_free ports) (rising 0 (many + length ports))) (rising_rises (is_free ports) 0 (many + length ports)))
    (All-weaker (GoodNumber ports (many + length ports)) (λ k. k < many + length ports) (λ k w. w.0) (signal_numbers ports many) (numbers_good ports many))

pub not_of : (t u : List ℕ) → not (bytes_eq t u) ≡ true → t ≡ u → ⊥
not_of t u e same = let yes = itself t in let f : bytes_eq t t ≡ bytes_eq t u = ap (bytes_eq t) same in let no : false ≡ true = sym (ap not (sym f ∙ yes)) ∙ e in absurd cc

apart_filter : (p : List ℕ → Bool) (ts : List (List ℕ)) → AllApart ts → AllApart (filter p ts)
apart_filter p [] a = tt
apart_filter p (t ∷ ts) a = by (apart_filter p ts a.1) (p t) where
  by : AllApart (filter p ts) → (b : Bool) → AllApart (cond b (t ∷ filter p ts) (filter p ts))
  by rest true = (All-filter p (λ u. t ≡ u → ⊥) ts a.0, rest)
  by rest false = rest

pub once_apart : (ts : List (List ℕ)) → AllApart (each_once ts)
once_apart [] = tt
once_apart (t ∷ ts) =
    let p : List ℕ → Bool = λ u. not (bytes_eq t u) in
    (All-weaker (λ u. not (bytes_eq t u) ≡ true) (λ u. t ≡ u → ⊥) (λ u e. not_of t u e) (filter p (each_once ts)) (filter_passes p (each_once ts)), apart_filter p (each_once ts) (once_apart ts))

pub all_once : (P : List ℕ → Type 0) (ts : List (List ℕ)) → All P ts → All P (each_once ts)
all_once P [] all = All-nil P
all_once P (t ∷ ts) all = All-cons P t (filter (λ u. not (bytes_eq t u)) (each_once ts)) (All-head P t ts all) (All-filter (λ u. not (bytes_eq t u)) P (each_once ts) (all_once P ts (All-tail P t ts all)))

pub none_twice_apart : (ts : List (List ℕ)) → NoneTwice ts → AllApart ts
none_twice_apart [] once = tt
none_twice_apart (t ∷ ts) once = (λ k d l e. apart k d l e, none_twice_apart ts (λ i j x s r. let e = once (suc i) (suc j) x s r in omega (arith, e))) where
  apart : (k : ℕ) (d : List ℕ) → k < length ts → t ≡ get_or ts k d → ⊥
  apart k d l e =
      let there : Stands (t ∷ ts) (suc k) t = slice_get-get_or ts k d l ∙ ap Some (sym e) in
      let same = once 0 (suc k) t refl there in
      absurd (omega (arith, same))

-- ---- entries

-- items whose names differ are different entries
pub entries_differ : {X : Type 0} (text : X → List ℕ) (entry : X → Entry) → ((x y : X) → (entry x).key ≡ (entry y).key → text x ≡ text y) → (xs : List X) → AllApart (map text xs) → AreDifferent (map entry xs)
entries_differ text entry own [] a = tt
entries_differ {X} text entry own (x ∷ xs) a = (All-map (λ f. (entry x).key ≡ f.key → ⊥) entry xs (all xs a.0), entries_differ text entry own xs a.1) where
  O : X → Type 0
  O y = (entry x).key ≡ (entry y).key → ⊥

  all : (ys : List X) → All (λ u. text x ≡ u → ⊥) (map text ys) → All (λ y. (entry x).key ≡ (entry y).key → ⊥) ys
  all [] h = All-nil O
  all (y ∷ ys) h = All-cons O y ys (λ e. All-head (λ u. text x ≡ u → ⊥) (text y) (map text ys) h (own x y e)) (all ys (All-tail (λ u. text x ≡ u → ⊥) (text y) (map text ys) h))

-- entries whose keys are of different kinds
pub kinds_differ : (P Q : List ℕ → Type 0) → ((a b : List ℕ) → P a → Q b → a ≡ b → ⊥) → (xs ys : List Entry) → All (λ x. P x.key) xs → All (λ y. Q y.key) ys → All (λ x. Differs x.key ys) xs
kinds_differ P Q apart xs ys ps qs = λ k d l j e m. apart (get_or xs k d).key (get_or ys j e).key (ps k d l) (qs j e m)

-- the texts of groups are those of ports
pub texts_all : (P : List ℕ → Type 0) (ports : List Port) → All (λ p. P p.name.text) ports → All (λ g. P g.text) (grouped ports)
texts_all P [] all = All-nil (λ (g : Group). P g.text)
texts_all P (p ∷ ps) all = leads (grouped ps) (texts_all P ps (All-tail (λ (q : Port). P q.name.text) p ps all)) where
  here : P p.name.text
  here = All-head (λ (q : Port). P q.name.text) p ps all

  leads : (gs : List Group) → All (λ g. P g.text) gs → All (λ g. P g.text) (led_by p gs)
  leads [] h = All-cons (λ (g : Group). P g.text) (group_of p p) [] here (All-nil (λ (g : Group). P g.text))
  leads (g ∷ gs) h = by (bytes_eq p.name.text g.text) where
    by : (b : Bool) → All (λ (x : Group). P x.text) (cond b (record g { dir = p.dir; low = p.name.bit } ∷ gs) (group_of p p ∷ g ∷ gs))
    by true = All-cons (λ (x : Group). P x.text) (record g { dir = p.dir; low = p.name.bit }) gs (All-head (λ (x : Group). P x.text) g gs h) (All-tail (λ (x : Group). P x.text) g gs h)
    by false = All-cons (λ (x : Group). P x.text) (group_of p p) (g ∷ gs) here h
