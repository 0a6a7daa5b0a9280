-- A text has one list of cells, or one refusal.
use Rattle.std.proofs.Common.{◌≡◌, ◌==◌, ◌<◌, ◌≤◌, ℕ, ◌+◌, Bool, true, false, not, ◌&&◌, ◌||◌, List, [], ◌∷◌, ◌++◌, length, take, drop, codes, refl, sym, ap, ◌∙◌, subst, bytes_eq, arith, Option, None, Some, nat_le, if◌then◌else◌, inl, inr}
use Rattle.std.specs.Option.{is_none, unwrap_or}
use Rattle.std.specs.List.{prefix_len, list_any}
use Rattle.std.specs.Char.{is_ascii_uppercase, to_ascii_lowercase}
use Rattle.std.proofs.lemmas.Bool.{eqb-true, le-leb, lt-leb, leb-true}
use Rattle.std.proofs.lemmas.List.{append_assoc, length-append, length-map}
use Rattle.std.proofs.lemmas.Slice.Eq.{bytes_eq-Decides}
use Rattle.vlsi_base.specs.declared.fault.LimitKind.TheVariants as kind
use Rattle.vlsi_base.specs.Member.{In, here, there, AllDifferent}
use Rattle.vlsi_base.specs.declared.limits.TheConstants.{MOST_SOURCE_BYTES}
use Rattle.vhdl_token.specs.Keyword.{keyword_of}
use Rattle.lexer_base.specs.declared.piece.TheConstants.{MOST_IDENTIFIER_BYTES}
use Rattle.lexer_base.specs.Bytes.{is_blank, is_in_word}
use Rattle.vlsi_base.specs.Lines.{lines_of}
use Rattle.catal.specs.declared.error.CatalError.{CatalError}
use Rattle.catal.specs.declared.reader.TheConstants.{MOST_CELLS}
use Rattle.catal.specs.Line.{lower, is_identifier, is_run, IsEntry}
use Rattle.catal.specs.Catal.{Gives, empty, used, unused, Lists, none, more, AreUsed, IsCatal, formless, again, IsLineRefusal, bad, ident, limit_error, IsFirstFault, Refused, too_long, at_line, too_many, IsBad}
use Rattle.catal.specs.Cells.{given_by, names_on, joined, names_among, are_different, if_few, cells_in}
use Rattle.catal.proofs.Splitting.{both, some_of, split_is, one_spelling, is_split}
use Rattle.catal.proofs.Listing.{no_bytes, in_parts}

some_same : {A : Type 0} (d a b : A) → Some a ≡ Some b → a ≡ b
some_same d a b e = ap (λ o. unwrap_or o d) e

nonzero : (n : ℕ) → 0 < n → (n == 0) ≡ false
nonzero n h = by (n == 0) refl where
  by : (e : Bool) → (n == 0) ≡ e → (n == 0) ≡ false
  by false is = is
  by true is = let zero_is = eqb-true n 0 is in absurd (omega (arith, zero_is, h))

-- ---- one line

name_bytes : (name : List ℕ) → is_identifier name ≡ true → 0 < length name
name_bytes [] h = absurd cc
name_bytes (b ∷ bs) h = omega arith

entry_bytes : (line name word : List ℕ) → IsEntry line name word → (length line == 0) ≡ false
entry_bytes line name word e =
    let s = e.spelled in
    let n : length line ≡ length name + length (s.blanks ++ word) = ap length s.line_is ∙ length-append name (s.blanks ++ word) in
    let some = name_bytes name s.name_is in
    nonzero (length line) (omega (arith, n, some))

no_entry : (line name word : List ℕ) → line ≡ [] → IsEntry line name word → ⊥
no_entry line name word is e = let h : true ≡ false = sym (ap (λ (l : List ℕ). length l == 0) is) ∙ entry_bytes line name word e in absurd cc

abbrev given : List ℕ → List ℕ → List (List ℕ)
given name word = if bytes_eq word (codes "C") then lower name ∷ [] else []

abbrev tests : List ℕ → List ℕ → List ℕ → Bool
tests name blanks word =
    is_identifier name && (is_run is_blank blanks && (is_run is_ascii_uppercase word && (is_none (keyword_of (lower name)) && nat_le (length name) MOST_IDENTIFIER_BYTES)))

abbrev cut_name : List ℕ → List ℕ
cut_name line = take (prefix_len is_in_word line) line

abbrev cut_rest : List ℕ → List ℕ
cut_rest line = drop (prefix_len is_in_word line) line

abbrev cut_gap : List ℕ → List ℕ
cut_gap line = take (prefix_len is_blank (cut_rest line)) (cut_rest line)

abbrev cut_word : List ℕ → List ℕ
cut_word line = drop (prefix_len is_blank (cut_rest line)) (cut_rest line)

all_true : (a b c d e : Bool) → a ≡ true → b ≡ true → c ≡ true → d ≡ true → e ≡ true → (a && (b && (c && (d && e)))) ≡ true
all_true a b c d e p q r s t = rw (p, q, r, s, t) refl

on_entry : (line name word : List ℕ) → IsEntry line name word → length name ≤ MOST_IDENTIFIER_BYTES → names_on line ≡ Some (given name word)
unfolding names_on
on_entry line name word e fits =
    let same = split_is line (cut_name line) (cut_rest line) (cut_gap line) (cut_word line) (refl, refl) (refl, refl) name word e.spelled in
    let n : name ≡ cut_name line = same.0 in
    let w : word ≡ cut_word line = same.1 in
    let test : tests (cut_name line) (cut_gap line) (cut_word line) ≡ true =
    all_true _ _ _ _ _ (subst (λ (x : List ℕ). is_identifier x ≡ true) n e.spelled.name_is) same.2 (subst (λ (x : List ℕ). is_run is_ascii_uppercase x ≡ true) w e.spelled.word_is)
    (subst (λ (x : List ℕ). is_none (keyword_of (lower x)) ≡ true) n (ap is_none e.unreserved)) (subst (λ (x : List ℕ). nat_le (length x) MOST_IDENTIFIER_BYTES ≡ true) n (le-leb _ _ fits)) in
    ap (λ b. if b then Some [] else given_by (cut_name line) (cut_gap line) (cut_word line)) (entry_bytes line name word e)
    ∙ ap (λ b. if b then Some (given (cut_name line) (cut_word line)) else None) test
    ∙ ap (λ (x : List ℕ). Some (given x (cut_word line))) (sym n) ∙ ap (λ (x : List ℕ). Some (given name x)) (sym w)

on_nothing : names_on [] ≡ Some []
unfolding names_on
on_nothing = refl

other_word : (word : List ℕ) → (word ≡ codes "C" → ⊥) → bytes_eq word (codes "C") ≡ false
other_word word h = by (bytes_eq word (codes "C")) refl where
  by : (e : Bool) → bytes_eq word (codes "C") ≡ e → bytes_eq word (codes "C") ≡ false
  by false is = is
  by true is = absurd (h ((bytes_eq-Decides word (codes "C")).0 is))

of_gives : (line : List ℕ) (names : List (List ℕ)) → Gives line names → names_on line ≡ Some names
of_gives line _ (empty is) = ap names_on is ∙ on_nothing
of_gives line _ (used name e fits) =
    on_entry line name (codes "C") e fits ∙ ap (λ b. Some (if b then lower name ∷ [] else [])) ((bytes_eq-Decides (codes "C") (codes "C")).1 refl)
of_gives line _ (unused name word e other fits) = on_entry line name word e fits ∙ ap (λ b. Some (if b then lower name ∷ [] else [])) (other_word word other)

none_of : {A : Type 0} (o : Option A) → is_none o ≡ true → o ≡ None
none_of None h = refl
none_of (Some x) h = absurd cc

from_given : (line : List ℕ) (names : List (List ℕ)) → given_by (cut_name line) (cut_gap line) (cut_word line) ≡ Some names → Gives line names
from_given line names k = by (tests (cut_name line) (cut_gap line) (cut_word line)) refl k where
  by_word : IsEntry line (cut_name line) (cut_word line) → length (cut_name line) ≤ MOST_IDENTIFIER_BYTES → (b : Bool) → bytes_eq (cut_word line) (codes "C") ≡ b
      → (if b then lower (cut_name line) ∷ [] else []) ≡ names → Gives line names
  by_word e fits true is k = subst (λ (l : List (List ℕ)). Gives line l) k
      (used (cut_name line) (subst (λ (w : List ℕ). IsEntry line (cut_name line) w) ((bytes_eq-Decides (cut_word line) (codes "C")).0 is) e) fits)
  by_word e fits false is k = subst (λ (l : List (List ℕ)). Gives line l) k
      (unused (cut_name line) (cut_word line) e (λ c. let h : true ≡ false = sym ((bytes_eq-Decides (cut_word line) (codes "C")).1 c) ∙ is in absurd cc) fits)

  by : (b : Bool) → tests (cut_name line) (cut_gap line) (cut_word line) ≡ b → (if b then Some (given (cut_name line) (cut_word line)) else None) ≡ Some names
      → Gives line names
  by false is k = absurd cc
  by true is k =
      let a = both _ _ is in
      let b = both _ _ a.1 in
      let c = both _ _ b.1 in
      let d = both _ _ c.1 in
      by_word (record {
        spelled = is_split line (cut_name line) (cut_rest line) (cut_gap line) (cut_word line) (refl, refl) (refl, refl) a.0 (some_of is_blank (cut_gap line) b.0) c.0;
        unreserved = none_of (keyword_of (lower (cut_name line))) d.0;
      }) (leb-true _ _ d.1) (bytes_eq (cut_word line) (codes "C")) refl (some_same [] _ _ k)

from_on : (line : List ℕ) (names : List (List ℕ)) → names_on line ≡ Some names → Gives line names
unfolding names_on
from_on line names h = by (length line == 0) refl h where
  by : (b : Bool) → (length line == 0) ≡ b → (if b then Some [] else given_by (cut_name line) (cut_gap line) (cut_word line)) ≡ Some names → Gives line names
  by true is k = subst (λ (l : List (List ℕ)). Gives line l) (some_same [] [] names k) (empty (no_bytes line is))
  by false is k = from_given line names k

-- ---- lines

of_lists : (lines names : List (List ℕ)) → Lists lines names → names_among lines ≡ Some names
of_lists _ _ none = refl
of_lists _ _ (more {line = line} {lines = lines} {given = a} {names = b} g t) =
    ap (λ o. joined o (names_among lines)) (of_gives line a g) ∙ ap (λ o. joined (Some a) o) (of_lists lines b t)

from_among : (lines names : List (List ℕ)) → names_among lines ≡ Some names → Lists lines names
from_among [] names h = subst (λ (l : List (List ℕ)). Lists [] l) (some_same [] [] names h) none
from_among (line ∷ lines) names h = by (names_on line) (names_among lines) refl refl h (λ m e. from_among lines m e) where
  by : (a b : Option (List (List ℕ))) → names_on line ≡ a → names_among lines ≡ b → joined a b ≡ Some names
      → ((m : List (List ℕ)) → names_among lines ≡ Some m → Lists lines m) → Lists (line ∷ lines) names
  by (Some a) (Some b) x y k rest = subst (λ (l : List (List ℕ)). Lists (line ∷ lines) l) (some_same [] (a ++ b) names k) (more (from_on line a x) (rest b y))
  by (Some a) None x y k rest = absurd cc
  by None b x y k rest = absurd cc

same_names : (lines a b : List (List ℕ)) → Lists lines a → Lists lines b → a ≡ b
same_names lines a b g h = some_same [] a b (sym (of_lists lines a g) ∙ of_lists lines b h)

-- ---- names that differ

not_any : (name : List ℕ) (names : List (List ℕ)) → (In name names → ⊥) → list_any (bytes_eq name) names ≡ false
not_any name [] h = refl
not_any name (x ∷ xs) h = by (bytes_eq name x) refl (not_any name xs (λ i. h (there i))) where
  by : (b : Bool) → bytes_eq name x ≡ b → list_any (bytes_eq name) xs ≡ false → (b || list_any (bytes_eq name) xs) ≡ false
  by false is rest = rest
  by true is rest = absurd (h (subst (λ (y : List ℕ). In name (y ∷ xs)) ((bytes_eq-Decides name x).0 is) here))

any_in : (name : List ℕ) (names : List (List ℕ)) → In name names → list_any (bytes_eq name) names ≡ true
any_in name _ (here {xs = xs}) = ap (λ b. b || list_any (bytes_eq name) xs) ((bytes_eq-Decides name name).1 refl)
any_in name _ (there {y = y} {xs = xs} i) = by (bytes_eq name y) (any_in name xs i) where
  by : (b : Bool) → list_any (bytes_eq name) xs ≡ true → (b || list_any (bytes_eq name) xs) ≡ true
  by true h = refl
  by false h = h

of_different : (names : List (List ℕ)) → AllDifferent names → are_different names ≡ true
of_different [] h = refl
of_different (x ∷ xs) h = rw (not_any x xs h.0, of_different xs h.1) refl

from_different : (names : List (List ℕ)) → are_different names ≡ true → AllDifferent names
from_different [] h = tt
from_different (x ∷ xs) h =
    let p = both (not (list_any (bytes_eq x) xs)) (are_different xs) h in
    ((λ i. let k : false ≡ true = sym (ap not (any_in x xs i)) ∙ p.0 in absurd cc), from_different xs p.1)

clash : {A : Type 0} (x : A) (xs ys : List A) → In x xs → In x ys → AllDifferent (xs ++ ys) → ⊥
clash x _ ys (here {xs = xs}) j h = h.0 (behind_in x xs ys j) where
  behind_in : {A : Type 0} (x : A) (xs ys : List A) → In x ys → In x (xs ++ ys)
  behind_in x [] ys j = j
  behind_in x (z ∷ zs) ys j = there (behind_in x zs ys j)
clash x _ ys (there {xs = xs} i) j h = clash x xs ys i j h.1

-- ---- a line at fault

record Parts (before rest names : List (List ℕ)) : Type 0 where
  front : List (List ℕ)
  back : List (List ℕ)
  of_front : Lists before front
  of_back : Lists rest back
  names_are : names ≡ front ++ back

parts : (before rest names : List (List ℕ)) → Lists (before ++ rest) names → Parts before rest names
parts [] rest names h = record { front = []; back = names; of_front = none; of_back = h; names_are = refl }
parts (line ∷ before) rest _ (more {given = a} {names = b} g t) =
    let p = parts before rest b t in record {
      front = a ++ p.front;
      back = p.back;
      of_front = more g p.of_front;
      of_back = p.of_back;
      names_are = ap (λ (l : List (List ℕ)). a ++ l) p.names_are ∙ sym (append_assoc a p.front p.back);
    }

-- a line with an entry gives no other name
gives_entry : (line name word : List ℕ) (names : List (List ℕ)) → IsEntry line name word → Gives line names → (length name ≤ MOST_IDENTIFIER_BYTES) × (names ≡ given name word)
gives_entry line name word _ e (empty is) = absurd (no_entry line name word is e)
gives_entry line name word _ e (used n f fits) =
    let same = one_spelling line n name (codes "C") word f.spelled e.spelled in
    let short : length name ≤ MOST_IDENTIFIER_BYTES = subst (λ (x : List ℕ). length x ≤ MOST_IDENTIFIER_BYTES) same.0 fits in
    (short, some_same [] _ _ (sym (of_gives line (lower n ∷ []) (used n f fits)) ∙ on_entry line name word e short))
gives_entry line name word _ e (unused n w f other fits) =
    let same = one_spelling line n name w word f.spelled e.spelled in
    let short : length name ≤ MOST_IDENTIFIER_BYTES = subst (λ (x : List ℕ). length x ≤ MOST_IDENTIFIER_BYTES) same.0 fits in
    (short, some_same [] _ _ (sym (of_gives line [] (unused n w f other fits)) ∙ on_entry line name word e short))

gives_no_fault : (names more_names : List (List ℕ)) (number : ℕ) (line : List ℕ) (g : List (List ℕ)) (e : CatalError) → Gives line g → AllDifferent (names ++ (g ++ more_names))
    → IsLineRefusal names number line e → ⊥
gives_no_fault names rest number line _ e (empty is) d (bad (formless some other) k) = some is
gives_no_fault names rest number line _ e (used n f fits) d (bad (formless some other) k) = other n (codes "C") f
gives_no_fault names rest number line _ e (unused n w f not_c fits) d (bad (formless some other) k) = other n w f
gives_no_fault names rest number line g e h d (bad (again name entry i) k) =
    let is : g ≡ lower name ∷ [] = (gives_entry line name (codes "C") g entry h).1 ∙ ap (λ b. if b then lower name ∷ [] else []) ((bytes_eq-Decides (codes "C") (codes "C")).1 refl) in
    clash (lower name) names (lower name ∷ rest) i here (subst (λ (l : List (List ℕ)). AllDifferent (names ++ (l ++ rest))) is d)
gives_no_fault names rest number line g e h d (ident name word entry long k) = let short = (gives_entry line name word g entry h).0 in omega (arith, short, long)

first_gives : (line : List ℕ) (lines before names : List (List ℕ)) (number : ℕ) (e : CatalError) → Lists (line ∷ lines) names → AllDifferent (before ++ names)
    → IsLineRefusal before number line e → ⊥
first_gives line lines before _ number e (more {given = a} {names = b} g t) d r = gives_no_fault before b number line a e g d r

no_fault : (lines names : List (List ℕ)) (e : CatalError) → IsFirstFault lines e → AreUsed lines names → ⊥
no_fault lines names e f u =
    let p = parts f.before (f.line ∷ f.behind) names (subst (λ (l : List (List ℕ)). Lists l names) f.lines_are u.lists) in
    let front : p.front ≡ f.names = same_names f.before p.front f.names p.of_front f.used.lists in
    first_gives f.line f.behind f.names p.back (length f.before + 1) e p.of_back
    (subst (λ (l : List (List ℕ)). AllDifferent l) (p.names_are ∙ ap (λ (l : List (List ℕ)). l ++ p.back) front) u.different) f.refused

-- ---- texts

pub one_list : (bytes : List ℕ) (names : List (List ℕ)) → IsCatal bytes names → cells_in bytes ≡ names
unfolding cells_in
one_list bytes names c =
    let test : (are_different names && nat_le (length names) MOST_CELLS) ≡ true = rw (of_different names c.used.different, le-leb (length names) MOST_CELLS c.few) refl in
    ap (λ b. if b then if_few (names_among (lines_of bytes)) else []) (le-leb (length bytes) MOST_SOURCE_BYTES c.short)
    ∙ ap if_few (of_lists (lines_of bytes) names c.used.lists) ∙ ap (λ b. if b then names else []) test

pub never_both : (bytes : List ℕ) (names : List (List ℕ)) (e : CatalError) → IsCatal bytes names → Refused bytes e → ⊥
never_both bytes names e c (too_long long is) = let short = c.short in omega (arith, short, long)
never_both bytes names e c (at_line short f) = no_fault (lines_of bytes) names e f c.used
never_both bytes names e c (too_many others short u many is) =
    let same : length names ≡ length others = ap length (same_names (lines_of bytes) names others c.used.lists u.lists) in
    let few = c.few in
    omega (arith, same, few, many)

none_at_fault : (bytes : List ℕ) (e : CatalError) → IsFirstFault (lines_of bytes) e → if_few (names_among (lines_of bytes)) ≡ []
none_at_fault bytes e f = by (names_among (lines_of bytes)) refl where
  differ : (names : List (List ℕ)) → names_among (lines_of bytes) ≡ Some names → (b : Bool) → are_different names ≡ b
      → (if b && nat_le (length names) MOST_CELLS then names else []) ≡ []
  differ names is false d = refl
  differ names is true d = absurd (no_fault (lines_of bytes) names e f (record { lists = from_among (lines_of bytes) names is; different = from_different names d }))

  by : (o : Option (List (List ℕ))) → names_among (lines_of bytes) ≡ o → if_few o ≡ []
  by None is = refl
  by (Some names) is = differ names is (are_different names) refl

either_false : (a : Bool) (names : List (List ℕ)) → (if a && false then names else []) ≡ []
either_false true names = refl
either_false false names = refl

pub none_refused : (bytes : List ℕ) (e : CatalError) → Refused bytes e → cells_in bytes ≡ []
unfolding cells_in
none_refused bytes e (too_long long is) = ap (λ b. if b then if_few (names_among (lines_of bytes)) else []) (lt-leb (length bytes) MOST_SOURCE_BYTES long)
none_refused bytes e (at_line short f) =
    ap (λ b. if b then if_few (names_among (lines_of bytes)) else []) (le-leb (length bytes) MOST_SOURCE_BYTES short) ∙ none_at_fault bytes e f
none_refused bytes e (too_many names short u many is) =
    ap (λ b. if b then if_few (names_among (lines_of bytes)) else []) (le-leb (length bytes) MOST_SOURCE_BYTES short)
    ∙ ap if_few (of_lists (lines_of bytes) names u.lists)
    ∙ ap (λ b. if are_different names && b then names else []) (lt-leb (length names) MOST_CELLS many) ∙ either_false (are_different names) names

-- ---- one refusal

gives_short : (line name : List ℕ) (names : List (List ℕ)) → Gives line names → In name names → length name ≤ MOST_IDENTIFIER_BYTES
gives_short line name _ (empty is) i = elim i [ ]
gives_short line _ _ (used n e fits) here = subst (λ k. k ≤ MOST_IDENTIFIER_BYTES) (sym (length-map n to_ascii_lowercase)) fits
gives_short line _ _ (used n e fits) (there i) = elim i [ ]
gives_short line name _ (unused n w e other fits) i = elim i [ ]

lists_short : (lines : List (List ℕ)) (name : List ℕ) (names : List (List ℕ)) → Lists lines names → In name names → length name ≤ MOST_IDENTIFIER_BYTES
lists_short _ name _ none i = elim i [ ]
lists_short _ name _ (more {line = line} {lines = lines} {given = a} {names = b} g t) i =
    elim (in_parts name a b i) [ inl j ↦ gives_short line name a g j | inr j ↦ lists_short lines name b t j ]

-- a bad line has no entry with a long name
bad_short : (names : List (List ℕ)) (line name word : List ℕ) → ((m : List ℕ) → In m names → length m ≤ MOST_IDENTIFIER_BYTES) → IsBad names line → IsEntry line name word
    → MOST_IDENTIFIER_BYTES < length name → ⊥
bad_short names line name word short (formless some other) e long = other name word e
bad_short names line name word short (again n f i) e long =
    let same : n ≡ name = (one_spelling line n name (codes "C") word f.spelled e.spelled).0 in
    let fits = short (lower n) i in
    let l : length (lower n) ≡ length n = length-map n to_ascii_lowercase in
    let k : length n ≡ length name = ap length same in
    omega (arith, fits, l, k, long)

one_on_line : (names : List (List ℕ)) (number : ℕ) (line : List ℕ) (d e : CatalError) → ((m : List ℕ) → In m names → length m ≤ MOST_IDENTIFIER_BYTES)
    → IsLineRefusal names number line d → IsLineRefusal names number line e → d ≡ e
one_on_line names number line d e short (bad b i) (bad c j) = i ∙ sym j
one_on_line names number line d e short (bad b i) (ident name word f long j) = absurd (bad_short names line name word short b f long)
one_on_line names number line d e short (ident name word f long j) (bad b i) = absurd (bad_short names line name word short b f long)
one_on_line names number line d e short (ident n v f long i) (ident m w g wide j) =
    let same : n ≡ m = (one_spelling line n m v w f.spelled g.spelled).0 in
    i ∙ ap (λ (x : List ℕ). limit_error kind.Ident (length x)) same ∙ sym j

-- which of two lines of a list stands before the other
data Places (a b : List (List ℕ)) (x y : List ℕ) : Type 0 where
  same : a ≡ b → x ≡ y → Places a b x y
  first : (rest : List (List ℕ)) → b ≡ a ++ x ∷ rest → Places a b x y
  second : (rest : List (List ℕ)) → a ≡ b ++ y ∷ rest → Places a b x y

front_of : List (List ℕ) → List ℕ
front_of [] = []
front_of (x ∷ xs) = x

rest_of : List (List ℕ) → List (List ℕ)
rest_of [] = []
rest_of (x ∷ xs) = xs

heads : (x y : List ℕ) (xs ys : List (List ℕ)) → x ∷ xs ≡ y ∷ ys → x ≡ y
unfolding front_of
heads x y xs ys e = ap front_of e

tails : (x y : List ℕ) (xs ys : List (List ℕ)) → x ∷ xs ≡ y ∷ ys → xs ≡ ys
unfolding rest_of
tails x y xs ys e = ap rest_of e

places : (a b c d : List (List ℕ)) (x y : List ℕ) → a ++ x ∷ c ≡ b ++ y ∷ d → Places a b x y
places [] [] c d x y e = same refl (heads x y c d e)
places [] (z ∷ b) c d x y e = first b (ap (λ (h : List ℕ). h ∷ b) (sym (heads x z c (b ++ y ∷ d) e)))
places (z ∷ a) [] c d x y e = second a (ap (λ (h : List ℕ). h ∷ a) (heads z y (a ++ x ∷ c) d e))
places (z ∷ a) (w ∷ b) c d x y e =
    elim (places a b c d x y (tails z w (a ++ x ∷ c) (b ++ y ∷ d) e)) [
      | same p q ↦ same (ap (λ (l : List (List ℕ)). z ∷ l) p ∙ ap (λ (h : List ℕ). h ∷ b) (heads z w (a ++ x ∷ c) (b ++ y ∷ d) e)) q
      | first rest p ↦ first rest (ap (λ (l : List (List ℕ)). w ∷ l) p ∙ ap (λ (h : List ℕ). h ∷ (a ++ x ∷ rest)) (sym (heads z w (a ++ x ∷ c) (b ++ y ∷ d) e)))
      | second rest p ↦ second rest (ap (λ (l : List (List ℕ)). z ∷ l) p ∙ ap (λ (h : List ℕ). h ∷ (b ++ y ∷ rest)) (heads z w (a ++ x ∷ c) (b ++ y ∷ d) e))
    ]

-- lines that use cells have no fault among them
earlier : (lines before rest names : List (List ℕ)) (e : CatalError) (f : IsFirstFault lines e) → before ≡ f.before ++ f.line ∷ rest → AreUsed before names → ⊥
earlier lines before rest names e f is u =
    no_fault before names e (record { before = f.before; behind = rest; names = f.names; line = f.line; lines_are = is; used = f.used; refused = f.refused }) u

one_fault : (lines : List (List ℕ)) (d e : CatalError) → IsFirstFault lines d → IsFirstFault lines e → d ≡ e
one_fault lines d e f g = by (places f.before g.before f.behind g.behind f.line g.line (sym f.lines_are ∙ g.lines_are)) where
  by : Places f.before g.before f.line g.line → d ≡ e
  by (first rest is) = absurd (earlier lines g.before rest g.names d f is g.used)
  by (second rest is) = absurd (earlier lines f.before rest f.names e g is f.used)
  by (same is on) =
      let names : g.names ≡ f.names =
      same_names g.before g.names f.names g.used.lists (subst (λ (l : List (List ℕ)). Lists l f.names) is f.used.lists) in
      let a : IsLineRefusal f.names (length f.before + 1) f.line e =
      subst (λ (l : List (List ℕ)). IsLineRefusal l (length f.before + 1) f.line e) names
      (subst (λ n. IsLineRefusal g.names (n + 1) f.line e) (sym (ap length is))
      (subst (λ (l : List ℕ). IsLineRefusal g.names (length g.before + 1) l e) (sym on) g.refused)) in
      one_on_line f.names (length f.before + 1) f.line d e (λ m i. lists_short f.before m f.names f.used.lists i) f.refused a

pub one_refusal : (bytes : List ℕ) (d e : CatalError) → Refused bytes d → Refused bytes e → d ≡ e
one_refusal bytes d e (too_long long is) (too_long wide js) = is ∙ sym js
one_refusal bytes d e (too_long long is) (at_line short g) = absurd (omega (arith, long, short))
one_refusal bytes d e (too_long long is) (too_many names short u many js) = absurd (omega (arith, long, short))
one_refusal bytes d e (at_line short f) (too_long long js) = absurd (omega (arith, long, short))
one_refusal bytes d e (at_line short f) (at_line brief g) = one_fault (lines_of bytes) d e f g
one_refusal bytes d e (at_line short f) (too_many names brief u many js) = absurd (no_fault (lines_of bytes) names d f u)
one_refusal bytes d e (too_many names short u many is) (too_long long js) = absurd (omega (arith, long, short))
one_refusal bytes d e (too_many names short u many is) (at_line brief g) = absurd (no_fault (lines_of bytes) names e g u)
one_refusal bytes d e (too_many names short u many is) (too_many others brief v more_than js) =
    is ∙ ap (λ (l : List (List ℕ)). limit_error kind.Cells (length l)) (same_names (lines_of bytes) names others u.lists v.lists) ∙ sym js
