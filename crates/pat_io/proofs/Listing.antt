-- Which bits a column lists, and when one before it lists one of them.
use Rattle.std.proofs.Common.{◌≡◌, ℕ, Bool, true, false, ◌&&◌, ◌||◌, nat_le, List, [], ◌∷◌, bytes_eq, Option, Some, None, refl, sym, subst, ◌∙◌, if◌then◌else◌}
use Rattle.std.specs.List.{list_any, find}
use Rattle.std.proofs.lemmas.Bool.{le-leb, leb-true}
use Rattle.std.proofs.lemmas.Slice.Eq.{bytes_eq-Decides}
use Rattle.vlsi_base.specs.declared.name.Name.{Name}
use Rattle.vlsi_base.specs.declared.range.Range.{Range}
use Rattle.vlsi_base.specs.Range.{least, greatest}
use Rattle.machine_core.specs.Named.{is_same_name}
use Rattle.machine_core.specs.Order.{In, here, there}
use Rattle.machine_core.proofs.Names.{same_name-true, same_name-itself}
use Rattle.pat_text.specs.declared.parsed.ParsedColumn.{ParsedColumn}
use Rattle.pat_io.specs.Known.{bits_of, lists, first_again}
use Rattle.pat_io.specs.Apart.{overlap, share_bit}
use Rattle.pat_io.proofs.Ranges.{and_parts, all_in, bit_name, IsListed, listed_all, InRange, overlap_of, names_in, common}

-- ---- tests of lists

or_parts : (a b : Bool) → (a || b) ≡ false → (a ≡ false) × (b ≡ false)
or_parts false b h = (refl, h)
or_parts true b h = absurd cc

pub none_of : {A : Type 0} (p : A → Bool) (xs : List A) → list_any p xs ≡ false → (x : A) → In x xs → p x ≡ false
none_of p (y ∷ xs) h x here = (or_parts (p y) (list_any p xs) h).0
none_of p (y ∷ xs) h x (there i) = none_of p xs (or_parts (p y) (list_any p xs) h).1 x i
none_of p [] h x i = elim i [ ]

none_any : {A : Type 0} (p : A → Bool) (xs : List A) → ((x : A) → In x xs → p x ≡ false) → list_any p xs ≡ false
none_any p [] h = refl
none_any p (x ∷ xs) h = rw (h x here) (none_any p xs (λ y i. h y (there i)))

some_any : {A : Type 0} (p : A → Bool) (xs : List A) (x : A) → In x xs → p x ≡ true → list_any p xs ≡ true
some_any p (y ∷ xs) x here e = rw e refl
some_any p (y ∷ xs) x (there i) e = or_true (p y) (list_any p xs) (some_any p xs x i e) where
  or_true : (a b : Bool) → b ≡ true → (a || b) ≡ true
  or_true true b h = refl
  or_true false b h = h
some_any p [] x i e = elim i [ ]

record Passes {A : Type 0} (p : A → Bool) (xs : List A) : Type 0 where
  pub one : A
  pub among : In one xs
  pub passes : p one ≡ true

passing : {A : Type 0} (p : A → Bool) (xs : List A) → list_any p xs ≡ true → Passes p xs
passing p [] h = absurd cc
passing p (x ∷ xs) h = by (p x) refl h (passing p xs) where
  by : (b : Bool) → p x ≡ b → (b || list_any p xs) ≡ true → (list_any p xs ≡ true → Passes p xs) → Passes p (x ∷ xs)
  by true e h later = record { one = x; among = here; passes = e }
  by false e h later = let more = later h in record { one = more.one; among = there more.among; passes = more.passes }

find_none : {A : Type 0} (p : A → Bool) (xs : List A) → ((x : A) → In x xs → p x ≡ false) → find p xs ≡ None
find_none p [] h = refl
find_none p (x ∷ xs) h = rw (h x here) (find_none p xs (λ y i. h y (there i)))

none_found : {A : Type 0} (p : A → Bool) (xs : List A) → find p xs ≡ None → (x : A) → In x xs → p x ≡ false
none_found {A} p (y ∷ xs) h x i = by (p y) refl h x i (λ z g. none_found p xs g z) where
  by : (b : Bool) → p y ≡ b → (if b then Some y else find p xs) ≡ None → (z : A) → In z (y ∷ xs) → ((z : A) → find p xs ≡ None → In z xs → p z ≡ false) → p z ≡ false
  by true e h z i later = absurd cc
  by false e h z here later = e
  by false e h z (there i) later = later z h i
none_found p [] h x i = elim i [ ]

clash : (b : Bool) → b ≡ true → b ≡ false → ⊥
clash b e f = cc

not_true : (b : Bool) → (b ≡ true → ⊥) → b ≡ false
not_true true h = absurd (h refl)
not_true false h = refl

same_bool : (a b : Bool) → (a ≡ true → b ≡ true) → (b ≡ true → a ≡ true) → a ≡ b
same_bool true b h g = sym (h refl)
same_bool false b h g = sym (not_true b (λ e. clash false (g e) refl))

-- ---- the bits of a column

pub in_lists : (n : Name) (c : ParsedColumn) → In n (bits_of c) → lists n c ≡ true
in_lists n c i = some_any (is_same_name n) (bits_of c) n i (same_name-itself n)

lists_in : (n : Name) (c : ParsedColumn) → lists n c ≡ true → In n (bits_of c)
lists_in n c h =
    let f = passing (is_same_name n) (bits_of c) h in
    let There : Name → Type 0 = λ m. In m (bits_of c) in
    subst There (sym (same_name-true n f.one f.passes)) f.among

of_column : (n : Name) (c : ParsedColumn) → In n (bits_of c) → IsListed n c.name c.range
of_column n c i = all_in (λ n. IsListed n c.name c.range) (bits_of c) (listed_all c.name c.range) n i

-- a column of a range lists the bits between its ends
pub lists_between : (text : List ℕ) (c : ParsedColumn) (s : Range) (k : ℕ) → c.name ≡ text → c.range ≡ Some s → lists (bit_name text k) c ≡ (nat_le (least s) k && nat_le k (greatest s))
lists_between text c s k named ranged = same_bool (lists (bit_name text k) c) (nat_le (least s) k && nat_le k (greatest s))
    (λ e.
    let Of : Option Range → Type 0 = λ r. InRange (Some k) r in
    let i = subst Of ranged (of_column (bit_name text k) c (lists_in (bit_name text k) c e)).bit in
    rw (le-leb (least s) k i.0, le-leb k (greatest s) i.1) refl)
    (λ e.
    let parts = and_parts (nat_le (least s) k) (nat_le k (greatest s)) e in
    let Of : Option Range → Type 0 = λ r. InRange (Some k) r in
    let i = subst Of (sym ranged) (leb-true (least s) k parts.0, leb-true k (greatest s) parts.1) in
    let There : List ℕ → Type 0 = λ t. In (bit_name t k) (bits_of c) in
    in_lists (bit_name text k) c (subst There named (names_in c.name (Some k) c.range i)))

-- a column of another name, or a scalar, doesn't list it
pub lists_not : (text : List ℕ) (c : ParsedColumn) (k : ℕ) → (c.name ≡ text → InRange (Some k) c.range → ⊥) → lists (bit_name text k) c ≡ false
lists_not text c k h = not_true (lists (bit_name text k) c) (λ e.
    let at = of_column (bit_name text k) c (lists_in (bit_name text k) c e) in
    h (sym at.text_is) at.bit)

-- ---- two columns that list one bit

pub record Shared (c d : ParsedColumn) : Type 0 where
  pub bit : Name
  pub in_first : In bit (bits_of c)
  pub in_second : In bit (bits_of d)

pub shared : (c d : ParsedColumn) → share_bit c d ≡ true → Shared c d
shared c d h =
    let parts = and_parts (bytes_eq c.name d.name) (overlap c.range d.range) h in
    let same = (bytes_eq-Decides c.name d.name).0 parts.0 in
    let k = common c.range d.range parts.1 in
    let There : List ℕ → Type 0 = λ text. In (record { text = text; bit = k.bit }) (bits_of d) in
    record { bit = record { text = c.name; bit = k.bit }; in_first = names_in c.name k.bit c.range k.in_first; in_second = subst There (sym same) (names_in d.name k.bit d.range k.in_second) }

shares : (c d : ParsedColumn) (n : Name) → In n (bits_of c) → In n (bits_of d) → share_bit c d ≡ true
shares c d n i j =
    let a = of_column n c i in
    let b = of_column n d j in
    let same : bytes_eq c.name d.name ≡ true = (bytes_eq-Decides c.name d.name).1 (sym a.text_is ∙ b.text_is) in
    rw (same, overlap_of n.bit c.range d.range a.bit b.bit) refl

-- ---- a bit that is listed again

-- no bit of the column is listed by one before it
abbrev pub IsNew : List ParsedColumn → ParsedColumn → Type 0
IsNew before c = (b : ParsedColumn) → In b before → (n : Name) → In n (bits_of b) → In n (bits_of c) → ⊥

pub new_column : (before : List ParsedColumn) (c : ParsedColumn) → IsNew before c → first_again before c ≡ None
new_column before c h =
    find_none (λ n. list_any (lists n) before) (bits_of c) (λ n i.
    none_any (lists n) before (λ b j. not_true (lists n b) (λ e. h b j n (lists_in n b e) i)))

pub column_new : (before : List ParsedColumn) (c : ParsedColumn) → first_again before c ≡ None → IsNew before c
column_new before c h b j n k i =
    clash (list_any (lists n) before) (some_any (lists n) before b j (in_lists n b k)) (none_found (λ n. list_any (lists n) before) (bits_of c) h n i)

pub none_shared : (before : List ParsedColumn) (c : ParsedColumn) → list_any (share_bit c) before ≡ false → first_again before c ≡ None
none_shared before c h = new_column before c (λ b j n k i. clash (share_bit c b) (shares c b n i k) (none_of (share_bit c) before h b j))

-- a bit of the column that one before it lists
pub record Again (before : List ParsedColumn) (c : ParsedColumn) : Type 0 where
  pub bit : Name
  pub listed : IsListed bit c.name c.range
  pub again : list_any (lists bit) before ≡ true

pub some_shared : (before : List ParsedColumn) (c : ParsedColumn) → list_any (share_bit c) before ≡ true → Again before c
some_shared before c h =
    let f = passing (share_bit c) before h in
    let s = shared c f.one f.passes in
    record { bit = s.bit; listed = of_column s.bit c s.in_first; again = some_any (lists s.bit) before f.one f.among (in_lists s.bit f.one s.in_second) }
