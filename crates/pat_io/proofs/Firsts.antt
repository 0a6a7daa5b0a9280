-- The first bit of a range, from the left, at which a test answers true.
use Rattle.std.proofs.Common.{◌≡◌, ℕ, zero, suc, ◌+◌, ◌-◌, ◌<◌, ◌≤◌, Bool, true, false, ◌||◌, ◌&&◌, nat_le, bytes_eq, List, length, take, get_or, Option, Some, None, refl, sym, ap, subst, ◌∙◌, inl, inr, arith}
use Rattle.std.specs.List.{list_any, find}
use Rattle.std.proofs.str.Laws.{order}
use Rattle.std.proofs.lemmas.List.Folds.{list_any_more}
use Rattle.std.proofs.lemmas.Slice.Eq.{bytes_eq-Decides}
use Rattle.std.proofs.lemmas.Bool.{lt-ltb}
use Rattle.std.proofs.lemmas.Bool.Decides.{leb_tells}
use Rattle.vlsi_base.specs.declared.name.Name.{Name}
use Rattle.vlsi_base.specs.declared.range.Range.{Range}
use Rattle.vlsi_base.specs.Range.{rising, falling, least, greatest}
use Rattle.pat_meaning.specs.Columns.{range_bits, bits_named, names_of_range}
use Rattle.pat_text.specs.declared.parsed.ParsedColumn.{ParsedColumn}
use Rattle.pat_io.specs.Known.{lists, first_again}
use Rattle.pat_io.specs.Digits.{bit_range}
use Rattle.pat_io.specs.Apart.{share_bit}
use Rattle.pat_io.specs.FirstBit.{is_left_of, IsFirst, FirstOf}
use Rattle.pat_io.proofs.Ranges.{bit_name, bounds, up_ends, down_ends, up_range, down_range, InRange}
use Rattle.pat_io.proofs.Listing.{lists_between, lists_not, some_shared}

clash : (b : Bool) → b ≡ true → b ≡ false → ⊥
clash b e f = cc

-- ---- left and right

left_up : (r : Range) (j k : ℕ) → nat_le r.left r.right ≡ true → j < k → is_left_of r j k ≡ true
left_up r j k e h = rw e (lt-ltb j k h)

left_down : (r : Range) (j k : ℕ) → nat_le r.left r.right ≡ false → k < j → is_left_of r j k ≡ true
left_down r j k e h = rw e (lt-ltb k j h)

-- a test that answers the same
pub same_first : (r : Range) (o : Option ℕ) (p q : ℕ → Bool) → ((k : ℕ) → q k ≡ p k) → FirstOf p r o → FirstOf q r o
same_first r None p q h f = λ j low high. h j ∙ f j low high
same_first r (Some k) p q h f = record {
  low = f.low;
  high = f.high;
  holds = h k ∙ f.holds;
  none_left = λ j low high l. h j ∙ f.none_left j low high l;
}

-- ---- the bits that a column lists

pub none_by_name : (text : List ℕ) (r : Range) (c : ParsedColumn) → bytes_eq c.name text ≡ false → FirstOf (λ k. lists (record { text = text; bit = Some k }) c) r None
none_by_name text r c other j low high = lists_not text c j (λ named i. clash (bytes_eq c.name text) ((bytes_eq-Decides c.name text).1 named) other)

pub first_between : (text : List ℕ) (r s : Range) (c : ParsedColumn) (o : Option ℕ) → bytes_eq c.name text ≡ true → c.range ≡ Some s
    → FirstOf (λ k. nat_le (least s) k && nat_le k (greatest s)) r o → FirstOf (λ k. lists (record { text = text; bit = Some k }) c) r o
first_between text r s c o named ranged f =
    same_first r o (λ k. nat_le (least s) k && nat_le k (greatest s)) (λ k. lists (record { text = text; bit = Some k }) c)
    (λ k. lists_between text c s k ((bytes_eq-Decides c.name text).0 named) ranged) f

-- one more column
pub first_more : (text : List ℕ) (r : Range) (columns : List ParsedColumn) (i : ℕ) (d : ParsedColumn) (o : Option ℕ) → i < length columns → get_or columns i d ≡ d
    → FirstOf (λ k. list_any (lists (record { text = text; bit = Some k })) (take i columns) || lists (record { text = text; bit = Some k }) d) r o
    → FirstOf (λ k. list_any (lists (record { text = text; bit = Some k })) (take (i + 1) columns)) r o
first_more text r columns i d o within is f =
    same_first r o (λ k. list_any (lists (record { text = text; bit = Some k })) (take i columns) || lists (record { text = text; bit = Some k }) d)
    (λ k. list_any (lists (record { text = text; bit = Some k })) (take (i + 1) columns))
    (λ k. list_any_more (lists (record { text = text; bit = Some k })) columns i d within
    ∙ ap (λ (c : ParsedColumn). list_any (lists (record { text = text; bit = Some k })) (take i columns) || lists (record { text = text; bit = Some k }) c) is) f

-- ---- what is found

find_rising : (p : Name → Bool) (text : List ℕ) (n k b : ℕ) → k ≤ b → b < k + n → p (bit_name text b) ≡ true
    → ((j : ℕ) → k ≤ j → j < b → p (bit_name text j) ≡ false) → find p (bits_named text (rising k n)) ≡ Some (bit_name text b)
find_rising p text zero k b low high holds none = absurd (omega arith)
find_rising p text (suc n) k b low high holds none = elim (order k b) [
  | inl less ↦ rw (none k (omega arith) less) (find_rising p text n (k + 1) b (omega arith) (omega arith) holds (λ j a c. none j (omega arith) c))
  | inr more ↦ let e : k ≡ b = omega arith in rw (ap (λ i. p (bit_name text i)) e ∙ holds) (ap (λ i. Some (bit_name text i)) e)
]

find_falling : (p : Name → Bool) (text : List ℕ) (n k b : ℕ) → k ≤ b → b < k + n → p (bit_name text b) ≡ true
    → ((j : ℕ) → b < j → j < k + n → p (bit_name text j) ≡ false) → find p (bits_named text (falling k n)) ≡ Some (bit_name text b)
find_falling p text zero k b low high holds none = absurd (omega arith)
find_falling p text (suc n) k b low high holds none = elim (order b (k + n)) [
  | inl less ↦ rw (none (k + n) less (omega arith)) (find_falling p text n k b low less holds (λ j a c. none j a (omega arith)))
  | inr more ↦ let e : k + n ≡ b = omega arith in rw (ap (λ i. p (bit_name text i)) e ∙ holds) (ap (λ i. Some (bit_name text i)) e)
]

find_first : (p : Name → Bool) (text : List ℕ) (r : Range) (k : ℕ) → IsFirst (λ j. p (bit_name text j)) r k → find p (bits_named text (range_bits (bounds r))) ≡ Some (bit_name text k)
find_first p text r k f = elim (leb_tells r.left r.right) [
  | inl t ↦
      let e = up_ends r t.0 t.1 in
      let a = f.low in
      let b = f.high in
      ap (λ ks. find p (bits_named text ks)) (up_range r t.0)
      ∙ find_rising p text (r.right - r.left + 1) r.left k (omega (arith, e.low_is)) (omega (arith, e.high_is, t.1)) f.holds
      (λ j x y. f.none_left j (omega (arith, e.low_is)) (omega (arith, e.high_is)) (left_up r j k t.0 y))
  | inr t ↦
      let e = down_ends r t.0 t.1 in
      let a = f.low in
      let b = f.high in
      ap (λ ks. find p (bits_named text ks)) (down_range r t.0)
      ∙ find_falling p text (r.left - r.right + 1) r.right k (omega (arith, e.low_is)) (omega (arith, e.high_is, t.1)) f.holds
      (λ j x y. f.none_left j (omega (arith, e.low_is)) (omega (arith, e.high_is, t.1)) (left_down r j k t.0 x))
]

-- ---- the bit that is listed again

name_of : (n : Name) (text : List ℕ) (bit : Option ℕ) → n.text ≡ text → n.bit ≡ bit → n ≡ record { text = text; bit = bit }
name_of n text bit t b =
    let made : List ℕ → Option ℕ → Name = λ x y. record { text = x; bit = y } in
    ap (λ x. made x n.bit) t ∙ ap (λ y. made text y) b

in_none : (n : Name) (text : List ℕ) (before : List ParsedColumn) (r : Range) (bit : Option ℕ) → n.text ≡ text → n.bit ≡ bit → InRange bit (Some r) → list_any (lists n) before ≡ true
    → FirstOf (λ j. list_any (lists (bit_name text j)) before) r None → ⊥
in_none n text before r None t b i h f = i
in_none n text before r (Some k) t b i h f = clash (list_any (lists (bit_name text k)) before) (ap (λ m. list_any (lists m) before) (sym (name_of n text (Some k) t b)) ∙ h) (f k i.0 i.1)

pub named_in_range : (before : List ParsedColumn) (c : ParsedColumn) (r : Range) (o : Option ℕ) → c.range ≡ Some r → list_any (share_bit c) before ≡ true
    → FirstOf (λ j. list_any (lists (bit_name c.name j)) before) r o → first_again before c ≡ Some (record { text = c.name; bit = o })
named_in_range before c r (Some k) ranged h f =
    ap (λ (s : Option Range). find (λ n. list_any (lists n) before) (names_of_range c.name (bit_range s))) ranged
    ∙ find_first (λ n. list_any (lists n) before) c.name r k f
named_in_range before c r None ranged h f =
    let a = some_shared before c h in
    let Of : Option Range → Type 0 = λ s. InRange a.bit.bit s in
    absurd (in_none a.bit c.name before r a.bit.bit a.listed.text_is refl (subst Of ranged a.listed.bit) a.again f)

only_scalar : (bit : Option ℕ) → InRange bit None → bit ≡ None
only_scalar None i = refl
only_scalar (Some k) i = absurd i

pub named_scalar : (before : List ParsedColumn) (c : ParsedColumn) → c.range ≡ None → list_any (share_bit c) before ≡ true → first_again before c ≡ Some (record { text = c.name; bit = None })
named_scalar before c scalar h =
    let a = some_shared before c h in
    let Of : Option Range → Type 0 = λ s. InRange a.bit.bit s in
    let is = name_of a.bit c.name None a.listed.text_is (only_scalar a.bit.bit (subst Of scalar a.listed.bit)) in
    let again : list_any (lists (record { text = c.name; bit = None })) before ≡ true = ap (λ m. list_any (lists m) before) (sym is) ∙ a.again in
    ap (λ (s : Option Range). find (λ n. list_any (lists n) before) (names_of_range c.name (bit_range s))) scalar ∙ rw again refl
