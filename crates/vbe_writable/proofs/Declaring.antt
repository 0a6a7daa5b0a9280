-- The port bits of declared names are those that an entity can declare.
use Rattle.std.proofs.Common.{◌≡◌, ◌≤◌, inl, inr, ℕ, Bool, true, false, cond, ◌&&◌, leb, List, [], ◌∷◌, map, length, Option, None, Some, IfSome, refl, sym, ◌∙◌, ap, subst, arith}
use Rattle.vlsi_base.specs.declared.name.Name.{Name}
use Rattle.vlsi_base.specs.declared.name.Port.{Port}
use Rattle.vlsi_base.specs.declared.name.Dir.{Dir}
use Rattle.vlsi_base.specs.declared.name.Dir.TheVariants as dir
use Rattle.vlsi_base.specs.declared.range.Range.{Range}
use Rattle.vlsi_base.specs.Range.{range_bits}
use Rattle.vlsi_base.specs.Name.{is_supply}
use Rattle.vlsi_base.specs.Member.{In, here, there, AllDifferent}
use Rattle.text_names.specs.Words.{IsIdentifier, ArePortsNamed}
use Rattle.machine_core.proofs.Values.{In-split, In-left, In-right, In-map}
use Rattle.source_checks.specs.declared.symbol_table.Role.{Role}
use Rattle.source_checks.specs.declared.symbol_table.Role.TheVariants as role
use Rattle.source_checks.specs.declared.symbol_table.Symbol.{Symbol}
use Rattle.source_checks.specs.Symbols.{find, has_bit, names_in, bit_name, symbol_names}
use Rattle.source_checks.specs.Elaboration.{port_of, port_bits}
use Rattle.vlsi_model.proofs.Members.{In-map_back}
use Rattle.vlsi_model.proofs.Bits.{both_le, le_both, range-has, has-range, text_in, texts, in_found}
use Rattle.vlsi_model.proofs.PortBits.{role_of_dir, port_is, is_port_bit}
use Rattle.vbe_io.specs.Cell.{pin_dir, pins_towards, symbol_pins, pin_bits}
use Rattle.vbe_writable.specs.Laws.{NoneIsSupply}
use Rattle.vbe_writable.proofs.Saying.{Every, every_in}
use Rattle.vbe_writable.proofs.Sources.{IsSymbolWord, IsSmall, IsSmallRange}

-- ---- the bits of one name

scalar_alone : (text : List ℕ) (o : Option Range) (m n : Name) → In m (names_in text o) → In n (names_in text o) → m.bit ≡ None → n ≡ m
scalar_alone text None m n here here e = refl
scalar_alone text None m n here (there j) e = elim j [ ]
scalar_alone text None m n (there i) j e = elim i [ ]
scalar_alone text (Some r) m n i j e =
    let a = In-map_back (bit_name text) m (range_bits r) i in let never : Some a.0 ≡ None = ap (λ (x : Name). x.bit) a.2 ∙ e in absurd cc

-- a range that has two numbers has those between
between : (r : Range) (i j k : ℕ) → has_bit r i ≡ true → has_bit r j ≡ true → i ≤ k → k ≤ j → has_bit r k ≡ true
between r i j k h g low high = by r.falls h g where
  by : (b : Bool) → cond b (leb r.right i && leb i r.left) (leb r.left i && leb i r.right) ≡ true
      → cond b (leb r.right j && leb j r.left) (leb r.left j && leb j r.right) ≡ true → cond b (leb r.right k && leb k r.left) (leb r.left k && leb k r.right) ≡ true
  by true h g = let p = le_both r.right i i r.left h in let q = le_both r.right j j r.left g in both_le r.right k k r.left (omega (arith, p.0, low)) (omega (arith, q.1, high))
  by false h g = let p = le_both r.left i i r.right h in let q = le_both r.left j j r.right g in both_le r.left k k r.right (omega (arith, p.0, low)) (omega (arith, q.1, high))

bit_in : (text : List ℕ) (r : Range) (n : Name) (k : ℕ) → In n (map (bit_name text) (range_bits r)) → n.bit ≡ Some k → has_bit r k ≡ true
bit_in text r n k i e =
    let a = In-map_back (bit_name text) n (range_bits r) i in
    let some : Some a.0 ≡ Some k = ap (λ (x : Name). x.bit) a.2 ∙ e in
    let same : a.0 ≡ k = cc in range-has r k (subst (λ x. In x (range_bits r)) same a.1)

no_bit : (text : List ℕ) (n : Name) (k : ℕ) → In n (names_in text None) → n.bit ≡ Some k → ⊥
no_bit text n k here e = cc
no_bit text n k (there i) e = elim i [ ]

bits_whole : (text : List ℕ) (o : Option Range) (m n : Name) (i j k : ℕ) → In m (names_in text o) → In n (names_in text o) → m.bit ≡ Some i → n.bit ≡ Some j → i ≤ k → k ≤ j
    → In (bit_name text k) (names_in text o)
bits_whole text None m n i j k p q e f low high = absurd (no_bit text m i p e)
bits_whole text (Some r) m n i j k p q e f low high =
    let here_too = between r i j k (bit_in text r m i p e) (bit_in text r n j q f) low high in
    In-map (bit_name text) k (range_bits r) (has-range r k here_too)

-- ---- declared names, some of them ports

-- a bit of a declared name that is no supply, of which this says the direction of its role
pub record IsBit (towards : Role → Option Dir) (known : List Symbol) (p : Port) : Type 0 where
  pub symbol : Symbol
  pub declared : In symbol known
  pub bit : In p.name (symbol_names symbol)
  pub no_supply : is_supply symbol.text ≡ false
  pub direction : towards symbol.role ≡ Some p.dir

-- the ports are those bits
pub record AreBits (towards : Role → Option Dir) (known : List Symbol) (ports : List Port) : Type 0 where
  pub only : (p : Port) → In p ports → IsBit towards known p
  pub all : (p : Port) → IsBit towards known p → In p ports

pub same_symbol : (known : List Symbol) (s t : Symbol) → AllDifferent (texts known) → In s known → In t known → s.text ≡ t.text → s ≡ t
same_symbol known s t different i j e =
    let both : Some s ≡ Some t = sym (in_found known s different i) ∙ ap (find known) e ∙ in_found known t different j in cc

pub text_of : (towards : Role → Option Dir) (known : List Symbol) (p : Port) (b : IsBit towards known p) → p.name.text ≡ b.symbol.text
text_of towards known p b = text_in b.symbol.text b.symbol.range p.name b.bit

one_symbol : (towards : Role → Option Dir) (known : List Symbol) (p q : Port) (b : IsBit towards known p) (c : IsBit towards known q) → AllDifferent (texts known)
    → p.name.text ≡ q.name.text → c.symbol ≡ b.symbol
one_symbol towards known p q b c different e =
    same_symbol known c.symbol b.symbol different c.declared b.declared (sym (text_of towards known q c) ∙ sym e ∙ text_of towards known p b)

one_direction : (towards : Role → Option Dir) (known : List Symbol) (p q : Port) (b : IsBit towards known p) (c : IsBit towards known q) → c.symbol ≡ b.symbol → p.dir ≡ q.dir
one_direction towards known p q b c same =
    let both : Some p.dir ≡ Some q.dir = sym b.direction ∙ ap (λ (s : Symbol). towards s.role) (sym same) ∙ c.direction in cc

one_port : (p q : Port) → q.name ≡ p.name → p.dir ≡ q.dir → q ≡ p
one_port p q e f = ap (λ (n : Name). port_of q.dir n) e ∙ ap (λ (d : Dir). port_of d p.name) (sym f)

-- Where the declared texts are different words, an entity can declare the bits.
pub bits_named : (towards : Role → Option Dir) (known : List Symbol) (ports : List Port) → AllDifferent (texts known) → Every IsSymbolWord known → AreBits towards known ports → ArePortsNamed ports
bits_named towards known ports different words bits = record {
  words = λ p i.
      let b = bits.only p i in
      subst IsIdentifier (sym (text_of towards known p b)) (every_in IsSymbolWord known b.symbol words b.declared).0.0;
  scalars = λ p q i j e none.
      let b = bits.only p i in
      let c = bits.only q j in
      let same = one_symbol towards known p q b c different e in
      let moved = subst (λ (s : Symbol). In q.name (symbol_names s)) same c.bit in
      one_port p q (scalar_alone b.symbol.text b.symbol.range p.name q.name b.bit moved none) (one_direction towards known p q b c same);
  whole = λ p q m n k i j e f g low high.
      let b = bits.only p i in
      let c = bits.only q j in
      let same = one_symbol towards known p q b c different e in
      let moved = subst (λ (s : Symbol). In q.name (symbol_names s)) same c.bit in
      let found = bits_whole b.symbol.text b.symbol.range p.name q.name m n k b.bit moved f g low high in
      record {
        port = port_of p.dir (bit_name b.symbol.text k);
        declared = bits.all (port_of p.dir (bit_name b.symbol.text k)) (record { symbol = b.symbol; declared = b.declared; bit = found; no_supply = b.no_supply; direction = b.direction });
        text_is = sym (text_of towards known p b);
        bit_is = refl;
      };
  directed = λ p q i j e.
      let b = bits.only p i in
      let c = bits.only q j in
      one_direction towards known p q b c (one_symbol towards known p q b c different e);
}

-- ---- within limits

below : (r : Range) (k : ℕ) → IsSmall r.left → IsSmall r.right → has_bit r k ≡ true → IsSmall k
below r k left right h = by r.falls h where
  by : (b : Bool) → cond b (leb r.right k && leb k r.left) (leb r.left k && leb k r.right) ≡ true → IsSmall k
  by true e = let p = le_both r.right k k r.left e in omega (arith, p.1, left)
  by false e = let p = le_both r.left k k r.right e in omega (arith, p.1, right)

small_bit : (text : List ℕ) (o : Option Range) (n : Name) → IsSmallRange o → In n (names_in text o) → IfSome n.bit IsSmall
small_bit text None n small here = tt
small_bit text None n small (there i) = elim i [ ]
small_bit text (Some r) n small i = by n.bit refl where
  by : (o : Option ℕ) → n.bit ≡ o → IfSome o IsSmall
  by None e = tt
  by (Some k) e = below r k small.0 small.1 (bit_in text r n k i e)

-- The bits have texts of at most 64 bytes and numbers of 32 bits.
pub bits_small : (towards : Role → Option Dir) (known : List Symbol) (ports : List Port) → Every IsSymbolWord known → AreBits towards known ports
    → (p : Port) → In p ports → (length p.name.text ≤ 64) × IfSome p.name.bit IsSmall
bits_small towards known ports words bits p i =
    let b = bits.only p i in
    let w = every_in IsSymbolWord known b.symbol words b.declared in
    (subst (λ (t : List ℕ). length t ≤ 64) (sym (text_of towards known p b)) w.0.1, small_bit b.symbol.text b.symbol.range p.name w.1 b.bit)

-- none of them has the text of a supply
pub none_supply : (towards : Role → Option Dir) (known : List Symbol) (ports : List Port) → AreBits towards known ports → NoneIsSupply ports
none_supply towards known ports bits p i = let b = bits.only p i in ap is_supply (text_of towards known p b) ∙ b.no_supply

-- ---- the ports of machines

abbrev pub machine_dir : Role → Option Dir
machine_dir role.Input = Some dir.In
machine_dir role.Output = Some dir.Out
machine_dir role.Both = None
machine_dir role.Inner = None
machine_dir role.Register = None

of_dir : (d : Dir) → machine_dir (role_of_dir d) ≡ Some d
of_dir dir.In = refl
of_dir dir.Out = refl

to_dir : (r : Role) (d : Dir) → machine_dir r ≡ Some d → r ≡ role_of_dir d
to_dir role.Input d e = let same : dir.In ≡ d = cc in ap role_of_dir same
to_dir role.Output d e = let same : dir.Out ≡ d = cc in ap role_of_dir same
to_dir role.Both d e = absurd cc
to_dir role.Inner d e = absurd cc
to_dir role.Register d e = absurd cc

pub machine_bits : (known : List Symbol) → AreBits machine_dir known (port_bits known)
machine_bits known = record {
  only = λ p i.
      let b = port_is known p i in
      record { symbol = b.symbol; declared = b.declared; bit = b.bit; no_supply = b.no_supply; direction = ap machine_dir b.role ∙ of_dir p.dir };
  all = λ p b. is_port_bit known b.symbol p.name p.dir b.declared b.bit b.no_supply (to_dir b.symbol.role p.dir b.direction);
}

-- ---- the pins of cells

of_towards : (o : Option Dir) (names : List Name) (p : Port) → In p (pins_towards o names) → In p.name names × (o ≡ Some p.dir)
of_towards None names p i = elim i [ ]
of_towards (Some d) names p i =
    let m = In-map_back (port_of d) p names i in (subst (λ (q : Port). In q.name names) m.2 m.1, ap (λ (q : Port). Some q.dir) m.2)

of_symbol : (s : Symbol) (p : Port) → In p (symbol_pins s) → In p.name (symbol_names s) × (is_supply s.text ≡ false) × (pin_dir s.role ≡ Some p.dir)
of_symbol s p i = by (is_supply s.text) refl i where
  by : (b : Bool) → is_supply s.text ≡ b → In p (cond b [] (pins_towards (pin_dir s.role) (symbol_names s))) → In p.name (symbol_names s) × (is_supply s.text ≡ false) × (pin_dir s.role ≡ Some p.dir)
  by true is i = elim i [ ]
  by false is i = let r = of_towards (pin_dir s.role) (symbol_names s) p i in (r.0, is, r.1)

pin_is : (known : List Symbol) (p : Port) → In p (pin_bits known) → IsBit pin_dir known p
pin_is [] p i = elim i [ ]
pin_is (s ∷ known) p i = elim (In-split p (symbol_pins s) (pin_bits known) i) [
  | inl a ↦ let r = of_symbol s p a in record { symbol = s; declared = here; bit = r.0; no_supply = r.1; direction = r.2 }
  | inr b ↦ let r = pin_is known p b in record { symbol = r.symbol; declared = there r.declared; bit = r.bit; no_supply = r.no_supply; direction = r.direction }
]

in_symbol : (s : Symbol) (n : Name) (d : Dir) → In n (symbol_names s) → is_supply s.text ≡ false → pin_dir s.role ≡ Some d → In (port_of d n) (symbol_pins s)
in_symbol s n d i supply e =
    subst (λ b. In (port_of d n) (cond b [] (pins_towards (pin_dir s.role) (symbol_names s)))) (sym supply)
    (subst (λ (o : Option Dir). In (port_of d n) (pins_towards o (symbol_names s))) (sym e) (In-map (port_of d) n (symbol_names s) i))

is_pin : (known : List Symbol) (s : Symbol) (n : Name) (d : Dir) → In s known → In n (symbol_names s) → is_supply s.text ≡ false → pin_dir s.role ≡ Some d → In (port_of d n) (pin_bits known)
is_pin [] s n d h i supply e = elim h [ ]
is_pin (s ∷ known) t n d here i supply e = In-left (port_of d n) (symbol_pins t) (pin_bits known) (in_symbol t n d i supply e)
is_pin (s ∷ known) t n d (there h) i supply e = In-right (port_of d n) (symbol_pins s) (pin_bits known) (is_pin known t n d h i supply e)

pub cell_bits : (known : List Symbol) → AreBits pin_dir known (pin_bits known)
cell_bits known = record {
  only = λ p i. pin_is known p i;
  all = λ p b. is_pin known b.symbol p.name p.dir b.declared b.bit b.no_supply b.direction;
}
