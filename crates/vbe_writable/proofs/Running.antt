-- Ports in the order of names go on from one to the next.
use Rattle.std.proofs.Common.{◌≡◌, ℕ, zero, suc, ◌+◌, ◌<◌, ◌≤◌, Bool, true, false, List, [], ◌∷◌, length, Option, None, Some, refl, sym, ◌∙◌, ap, subst, arith, length-append, nat_eq}
use Rattle.std.specs.Prelude.{IsTrue, slice_get}
use Rattle.std.specs.Ordering.{is_lt, nat_cmp, ordering_reverse, ordering_then}
use Rattle.std.specs.declared.cmp.Ordering.{Ordering}
use Rattle.std.specs.declared.cmp.Ordering.TheVariants.{Less, Equal, Greater}
use Rattle.std.specs.Cmp.Lexicographic.{slice_cmp}
use Rattle.std.proofs.lemmas.Cmp.{nat_cmp_total, lists_total}
use Rattle.std.proofs.lemmas.Bool.Decides.{nat_tests}
use Rattle.vlsi_base.specs.declared.name.Name.{Name}
use Rattle.vlsi_base.specs.declared.name.Port.{Port}
use Rattle.vlsi_base.specs.Name.{name_cmp, bit_cmp}
use Rattle.vlsi_base.specs.Names.{vdd, vss, comes_before}
use Rattle.vlsi_base.specs.Member.{In, here, there}
use Rattle.text_names.specs.Words.{IsIdentifier, is_next_bit, ArePortsNamed, GoesOn, CanBePorts}
use Rattle.machine_core.specs.Machine.{names_of}
use Rattle.machine_core.specs.Checked.{AreInOrder}
use Rattle.cell_model.proofs.Members.{All-from}
use Rattle.cell_pins.specs.Pins.{supply, with_supply}
use Rattle.cell_pins.proofs.Ports.{Sorted, before_trans, before_itself, sorted_of, sorted_supply}
use Rattle.vbe_writable.specs.Laws.{NoneIsSupply, with_supplies, InOrderCanBeWritten}
use Rattle.vbe_writable.proofs.Supplied.{lesser, greater, pins_are_named}

-- ---- places

place_in : (ports : List Port) (k : ℕ) (p : Port) → slice_get ports k ≡ Some p → In p ports
place_in [] k p e = absurd cc
place_in (x ∷ ports) zero p e = let same : x ≡ p = cc in subst (λ (y : Port). In y (x ∷ ports)) same here
place_in (x ∷ ports) (suc k) p e = there (place_in ports k p e)

abbrev Before : Port → Port → Type 0
Before p q = IsTrue (comes_before p.name q.name)

before_next : (ports : List Port) (k : ℕ) (p q : Port) → Sorted ports → slice_get ports k ≡ Some p → slice_get ports (suc k) ≡ Some q → Before p q
before_next [] k p q s e f = absurd cc
before_next (x ∷ ports) zero p q s e f = let same : x ≡ p = cc in subst (λ (y : Port). Before y q) same (s.0 q (place_in ports zero q f))
before_next (x ∷ ports) (suc k) p q s e f = before_next ports k p q s.1 e f

-- before the first of some ports
behind_first : (x r : Port) (ports : List Port) → ((q : Port) → In q ports → Before x q) → In r (x ∷ ports) → Before r x → ⊥
behind_first x r ports first here less = before_itself x.name less
behind_first x r ports first (there i) less = before_itself x.name (before_trans x.name r.name x.name (first r i) less)

-- none stands between a port and the next
none_between : (ports : List Port) (k : ℕ) (p q r : Port) → Sorted ports → slice_get ports k ≡ Some p → slice_get ports (suc k) ≡ Some q → In r ports → Before p r → Before r q → ⊥
none_between [] k p q r s e f i low high = elim i [ ]
none_between (x ∷ []) zero p q r s e f i low high = absurd cc
none_between (x ∷ y ∷ ports) zero p q r s e f here low high =
    let same : x ≡ p = cc in before_itself x.name (subst (λ (z : Port). Before z x) (sym same) low)
none_between (x ∷ y ∷ ports) zero p q r s e f (there i) low high =
    let same : y ≡ q = cc in behind_first y r ports s.1.0 i (subst (λ (z : Port). Before r z) (sym same) high)
none_between (x ∷ ports) (suc k) p q r s e f here low high =
    before_itself x.name (before_trans x.name p.name x.name (s.0 p (place_in ports k p e)) low)
none_between (x ∷ ports) (suc k) p q r s e f (there i) low high = none_between ports k p q r s.1 e f i low high

-- ---- names of one text

own_reverse : (o : Ordering) → o ≡ ordering_reverse o → o ≡ Equal
own_reverse Less e = absurd cc
own_reverse Equal e = refl
own_reverse Greater e = absurd cc

by_bit : (a b : Name) → a.text ≡ b.text → name_cmp a b ≡ bit_cmp a.bit b.bit
by_bit a b e =
    let itself : slice_cmp nat_cmp a.text a.text ≡ Equal = own_reverse (slice_cmp nat_cmp a.text a.text) ((lists_total nat_cmp_total).antisymm a.text a.text) in
    let same : slice_cmp nat_cmp a.text b.text ≡ Equal = ap (slice_cmp nat_cmp a.text) (sym e) ∙ itself in
    ap (λ (o : Ordering). ordering_then o (bit_cmp a.bit b.bit)) same

less_number : (m n : ℕ) → m < n → is_lt (nat_cmp m n) ≡ true
less_number m n h = grind (arith, nat_tests)

number_less : (m n : ℕ) → is_lt (nat_cmp m n) ≡ true → m < n
number_less m n h = grind (arith, nat_tests)

before_bits : (p q : Port) (m n : ℕ) → p.name.text ≡ q.name.text → p.name.bit ≡ Some m → q.name.bit ≡ Some n → m < n → Before p q
before_bits p q m n e f g h =
    ap is_lt (by_bit p.name q.name e) ∙ ap (λ (o : Option ℕ). is_lt (bit_cmp o q.name.bit)) f ∙ ap (λ (o : Option ℕ). is_lt (bit_cmp (Some m) o)) g ∙ less_number m n h

-- ---- ports

-- the next port of one text has the next number
next_bit : (ports : List Port) (k : ℕ) (p q : Port) (m n : Option ℕ) → ArePortsNamed ports → Sorted ports → slice_get ports k ≡ Some p → slice_get ports (suc k) ≡ Some q
    → p.name.text ≡ q.name.text → p.name.bit ≡ m → q.name.bit ≡ n → is_lt (bit_cmp m n) ≡ true → is_next_bit m n ≡ true
next_bit ports k p q None None h s e f same a b less = absurd cc
next_bit ports k p q None (Some n) h s e f same a b less =
    let one : q ≡ p = h.scalars p q (place_in ports k p e) (place_in ports (suc k) q f) same a in
    let never : Some n ≡ None = sym b ∙ ap (λ (x : Port). x.name.bit) one ∙ a in absurd cc
next_bit ports k p q (Some m) None h s e f same a b less = absurd cc
next_bit ports k p q (Some m) (Some n) h s e f same a b less = by (nat_eq n (m + 1)) refl where
  below : m < n
  below = number_less m n less

  by : (t : Bool) → nat_eq n (m + 1) ≡ t → nat_eq n (m + 1) ≡ true
  by true is = is
  by false is =
      let apart : m + 1 < n = grind (arith, nat_tests, below) in
      let low : m ≤ m + 1 = omega arith in
      let high : m + 1 ≤ n = omega (arith, below) in
      let r = h.whole p q m n (m + 1) (place_in ports k p e) (place_in ports (suc k) q f) same a b low high in
      let behind = before_bits p r.port m (m + 1) (sym r.text_is) a r.bit_is (omega arith) in
      let ahead = before_bits r.port q (m + 1) n (r.text_is ∙ same) r.bit_is b apart in
      absurd (none_between ports k p q r.port s e f r.declared behind ahead)

goes_on : (ports : List Port) (k : ℕ) (p q : Port) → ArePortsNamed ports → Sorted ports → slice_get ports k ≡ Some p → slice_get ports (suc k) ≡ Some q → p.name.text ≡ q.name.text → GoesOn p q
goes_on ports k p q h s e f same = record {
  bit = next_bit ports k p q p.name.bit q.name.bit h s e f same refl refl (sym (ap is_lt (by_bit p.name q.name same)) ∙ before_next ports k p q s e f);
  dir = sym (h.directed p q (place_in ports k p e) (place_in ports (suc k) q f) same);
}

ordered : (ports : List Port) → ArePortsNamed ports → Sorted ports → 0 < length ports → CanBePorts ports
ordered ports h s some = record {
  some = some;
  words = All-from (λ (p : Port). IsIdentifier p.name.text) ports h.words;
  runs = λ k p q e f same. let next : k + 1 ≡ suc k = omega arith in goes_on ports k p q h s e (ap (slice_get ports) (sym next) ∙ f) same;
}

pub in_order : InOrderCanBeWritten
in_order ports h order some = ordered ports h (sorted_of ports order) some

some_port : (name : Name) (ports : List Port) → 0 < length (with_supply name ports)
some_port name ports = omega (arith, length-append (lesser name ports) (supply name ∷ greater name ports))

-- With the supplies put in, ports in the order of names can be those of a text.
pub supplied : (ports : List Port) → ArePortsNamed ports → NoneIsSupply ports → AreInOrder (names_of ports) → CanBePorts (with_supplies ports)
supplied ports h none order =
    let sorted = sorted_of ports (λ i j d low high. ap is_lt (order i j d low high)) in
    ordered (with_supply vss (with_supply vdd ports)) (pins_are_named ports h none) (sorted_supply vss (with_supply vdd ports) (sorted_supply vdd ports sorted))
    (some_port vss (with_supply vdd ports))
