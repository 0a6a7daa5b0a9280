-- With the supplies put in, ports are still such as an entity can declare.
use Rattle.std.proofs.Common.{◌≡◌, ◌⊎◌, inl, inr, ℕ, true, false, List, ◌∷◌, filter, codes, bytes_eq, None, Some, refl, sym, ◌∙◌, ap, subst}
use Rattle.std.specs.Ordering.{is_lt, ordering_reverse}
use Rattle.std.specs.declared.cmp.Ordering.{Ordering}
use Rattle.std.specs.declared.cmp.Ordering.TheVariants.{Less, Equal, Greater}
use Rattle.vlsi_base.specs.declared.name.Name.{Name}
use Rattle.vlsi_base.specs.declared.name.Port.{Port}
use Rattle.vlsi_base.specs.Member.{In, there}
use Rattle.vlsi_base.specs.Name.{name_cmp, is_supply}
use Rattle.vlsi_base.specs.Names.{vdd, vss, comes_before}
use Rattle.vlsi_base.proofs.NameOrder.{name_total, name_exact}
use Rattle.vhdl_token.specs.Keyword.{keyword_of}
use Rattle.text_names.specs.Words.{IsIdentifier, HasBit, ArePortsNamed}
use Rattle.machine_core.proofs.Values.{In-split, In-left, In-right}
use Rattle.vlsi_model.proofs.Members.{In-cases}
use Rattle.vlsi_model.proofs.PortBits.{In-filter, filter-In}
use Rattle.cell_pins.specs.Pins.{supply, with_supply}
use Rattle.vbe_writable.specs.Laws.{PinsAreNamed}

abbrev pub lesser : Name → List Port → List Port
lesser name ports = filter (λ p. comes_before p.name name) ports

abbrev pub greater : Name → List Port → List Port
greater name ports = filter (λ p. comes_before name p.name) ports

-- which ports are there with one supply

cases : (name : Name) (ports : List Port) (q : Port) → In q (with_supply name ports) → (q ≡ supply name) ⊎ In q ports
cases name ports q i =
    elim (In-split q (lesser name ports) (supply name ∷ greater name ports) i) [
      | inl a ↦ inr (In-filter (λ p. comes_before p.name name) ports q a).0
      | inr b ↦ elim (In-cases q (supply name) (greater name ports) b) [
        | inl e ↦ inl (sym e)
        | inr j ↦ inr (In-filter (λ p. comes_before name p.name) ports q j).0
      ]
    ]

kept : (name : Name) (ports : List Port) (p : Port) → In p ports → (p.name ≡ name → ⊥) → In p (with_supply name ports)
kept name ports p i apart = by (name_cmp p.name name) refl where
  by : (o : Ordering) → name_cmp p.name name ≡ o → In p (with_supply name ports)
  by Less e = In-left p (lesser name ports) (supply name ∷ greater name ports) (filter-In (λ p. comes_before p.name name) ports p i (ap is_lt e))
  by Equal e = absurd (apart (name_exact p.name name e))
  by Greater e =
      let turned = ap is_lt (name_total.antisymm name p.name ∙ ap ordering_reverse e) in
      In-right p (lesser name ports) (supply name ∷ greater name ports) (there (filter-In (λ p. comes_before name p.name) ports p i turned))

-- one more supply

abbrev Apart : Name → List Port → Type 0
Apart name ports = (p : Port) → In p ports → p.name.text ≡ name.text → ⊥

more_bits : (name : Name) (ports : List Port) (text : List ℕ) (k : ℕ) → Apart name ports → HasBit ports text k → HasBit (with_supply name ports) text k
more_bits name ports text k apart h = record {
  port = h.port;
  declared = kept name ports h.port h.declared (λ e. apart h.port h.declared (ap (λ (n : Name). n.text) e));
  text_is = h.text_is;
  bit_is = h.bit_is;
}

text_of : (name : Name) (p : Port) → p ≡ supply name → p.name.text ≡ name.text
text_of name p e = ap (λ (x : Port). x.name.text) e

no_bit : (name : Name) (p : Port) (k : ℕ) → name.bit ≡ None → p ≡ supply name → p.name.bit ≡ Some k → ⊥
no_bit name p k none e f = let never : Some k ≡ None = sym f ∙ ap (λ (x : Port). x.name.bit) e ∙ none in absurd cc

one_more : (name : Name) (ports : List Port) → name.bit ≡ None → IsIdentifier name.text → Apart name ports → ArePortsNamed ports → ArePortsNamed (with_supply name ports)
one_more name ports none word apart h = record {
  words = λ p i. elim (cases name ports p i) [
    | inl e ↦ subst IsIdentifier (sym (text_of name p e)) word
    | inr a ↦ h.words p a
  ];
  scalars = λ p q i j same bit. elim (cases name ports p i) [
    | inl e ↦ elim (cases name ports q j) [
      | inl f ↦ f ∙ sym e
      | inr b ↦ absurd (apart q b (sym same ∙ text_of name p e))
    ]
    | inr a ↦ elim (cases name ports q j) [
      | inl f ↦ absurd (apart p a (same ∙ text_of name q f))
      | inr b ↦ h.scalars p q a b same bit
    ]
  ];
  whole = λ p q m n k i j same first last low high. elim (cases name ports p i) [
    | inl e ↦ absurd (no_bit name p m none e first)
    | inr a ↦ elim (cases name ports q j) [
      | inl f ↦ absurd (no_bit name q n none f last)
      | inr b ↦ more_bits name ports p.name.text k apart (h.whole p q m n k a b same first last low high)
    ]
  ];
  directed = λ p q i j same. elim (cases name ports p i) [
    | inl e ↦ elim (cases name ports q j) [
      | inl f ↦ ap (λ (x : Port). x.dir) (e ∙ sym f)
      | inr b ↦ absurd (apart q b (sym same ∙ text_of name p e))
    ]
    | inr a ↦ elim (cases name ports q j) [
      | inl f ↦ absurd (apart p a (same ∙ text_of name q f))
      | inr b ↦ h.directed p q a b same
    ]
  ];
}

-- both

word_vdd : IsIdentifier (codes "vdd")
unfolding keyword_of
word_vdd = (refl, refl)

word_vss : IsIdentifier (codes "vss")
unfolding keyword_of
word_vss = (refl, refl)

not_supply : (text other : List ℕ) → is_supply text ≡ false → is_supply other ≡ true → text ≡ other → ⊥
not_supply text other first second e = let never : false ≡ true = sym first ∙ ap is_supply e ∙ second in absurd cc

not_both : codes "vdd" ≡ codes "vss" → ⊥
not_both e = let never : true ≡ false = ap (λ (t : List ℕ). bytes_eq t (codes "vdd")) e in absurd cc

pub pins_are_named : PinsAreNamed
pins_are_named ports h none =
    let apart : Apart vdd ports = λ p i e. not_supply p.name.text (codes "vdd") (none p i) refl e in
    let apart_too : Apart vss (with_supply vdd ports) = λ p i e. elim (cases vdd ports p i) [
      | inl f ↦ not_both (sym (text_of vdd p f) ∙ e)
      | inr a ↦ not_supply p.name.text (codes "vss") (none p a) refl e
    ] in
    one_more vss (with_supply vdd ports) refl word_vss apart_too (one_more vdd ports refl word_vdd apart h)
