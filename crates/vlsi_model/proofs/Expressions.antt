-- An expression in which nothing is unknown, no width is at fault and the clock isn't read: how wide it is, and what it reads.
use Rattle.std.proofs.Common.{◌≡◌, ◌⊎◌, inl, inr, ℕ, Bool, true, false, cond, ◌&&◌, leb, List, [], ◌∷◌, ◌++◌, map, length, Option, None, Some, refl, sym, ap, ◌∙◌, subst, arith}
use Rattle.std.specs.Prelude.{◌||◌, not, nat_eq, is_none}
use Rattle.std.proofs.lemmas.List.{length-map}
use Rattle.vlsi_base.specs.declared.name.Name.{Name}
use Rattle.vlsi_base.specs.declared.expression.Operator.{Operator}
use Rattle.vlsi_base.specs.declared.expression.Operator.TheVariants as operator
use Rattle.vlsi_base.specs.declared.range.Range.{Range}
use Rattle.vlsi_base.specs.Tree.{Tree, bit, literal, name, index, slice, stable, inverse, binary}
use Rattle.machine_core.specs.Order.{In, here}
use Rattle.machine_core.proofs.Values.{In-left, In-right, In-map}
use Rattle.source_checks.specs.declared.symbol_table.Symbol.{Symbol}
use Rattle.vlsi_base.specs.Name.{is_supply}
use Rattle.vlsi_base.specs.Range.{range_bits, is_ordered}
use Rattle.source_checks.specs.Symbols.{find, has_bit, names_in, bit_name, symbol_names}
use Rattle.source_checks.specs.Formula.{names_of_found, fixed, opposite, leaf, formulas, literal_bits}
use Rattle.source_checks.specs.Places.{Use, reads, first_unknown}
use Rattle.source_checks.specs.Widths.{width, width_faults, if_not, differ, needs_equal, joined_width, operator_width, found_width, declared_width, index_fits, range_fits}
use Rattle.source_checks.specs.Clock.{clock_lines}
use Rattle.source_checks.proofs.Lookups.{itself}
use Rattle.source_checks.proofs.Names.{find_text}
use Rattle.vlsi_model.proofs.Members.{In-map_back, In-cases}
use Rattle.vlsi_model.proofs.Bits.{IsBit, both_le, le_both, range-has, has-range, text_in}
use Rattle.vlsi_model.proofs.Formulas.{Each, Each-operator, Each-fixed, Each-opposite, Each-leaf, Holds-leaf, length-operator, length-literal}

-- the names are declared
abbrev pub AreKnown : List Symbol → List Use → Type 0
AreKnown known us = (u : Use) → In u us → (s : Symbol) × (find known u.text ≡ Some s)

some_of : {A : Type 0} (o : Option A) → is_none o ≡ false → (x : A) × (o ≡ Some x)
some_of None e = absurd cc
some_of (Some x) e = (x, refl)

pub known_uses : (known : List Symbol) (us : List Use) → first_unknown known us ≡ None → AreKnown known us
known_uses known [] e u i = elim i [ ]
known_uses known (v ∷ us) e u i = by (is_none (find known v.text)) refl e (known_uses known us) (In-cases u v us i) where
  by : (b : Bool) → is_none (find known v.text) ≡ b → cond b (Some v) (first_unknown known us) ≡ None → (first_unknown known us ≡ None → AreKnown known us) → (v ≡ u) ⊎ In u us → (s : Symbol) × (find known u.text ≡ Some s)
  by true is e rest i = absurd cc
  by false is e rest (inl same) = let r = some_of (find known v.text) is in (r.0, ap (λ (w : Use). find known w.text) (sym same) ∙ r.1)
  by false is e rest (inr i) = rest e u i

pub known_left : (known : List Symbol) (us vs : List Use) → AreKnown known (us ++ vs) → AreKnown known us
known_left known us vs h u i = h u (In-left u us vs i)

pub known_right : (known : List Symbol) (us vs : List Use) → AreKnown known (us ++ vs) → AreKnown known vs
known_right known us vs h u i = h u (In-right u us vs i)

pub empty_left : {A : Type 0} (xs ys : List A) → xs ++ ys ≡ [] → xs ≡ []
empty_left [] ys e = refl
empty_left (x ∷ xs) ys e = absurd cc

pub empty_right : {A : Type 0} (xs ys : List A) → xs ++ ys ≡ [] → ys ≡ []
empty_right [] ys e = e
empty_right (x ∷ xs) ys e = absurd cc

pub no_line : (b : Bool) (line : ℕ) → if_not b line ≡ [] → b ≡ true
no_line true line e = refl
no_line false line e = absurd cc

pub length-names_in : (text : List ℕ) (range : Option Range) → length (names_in text range) ≡ declared_width range
length-names_in text None = refl
length-names_in text (Some r) = length-map (range_bits r) (bit_name text)

-- what an index or a range of a declared name says

pub index_range : (s : Symbol) (k : ℕ) → index_fits (Some s) k ≡ true → (r : Range) × (s.range ≡ Some r) × (has_bit r k ≡ true)
index_range s k e = by s.range refl e where
  by : (o : Option Range) → s.range ≡ o → index_fits (Some (record s { range = o })) k ≡ true → (r : Range) × (s.range ≡ Some r) × (has_bit r k ≡ true)
  by None is e = absurd cc
  by (Some r) is e = (r, is, e)

and_left : (a b : Bool) → (a && b) ≡ true → a ≡ true
and_left true b e = refl
and_left false b e = absurd cc

and_right : (a b : Bool) → (a && b) ≡ true → b ≡ true
and_right true b e = e
and_right false b e = absurd cc

within : (p q : Bool) (a b c d k : ℕ) → cond p q (not q) ≡ true → cond q (leb d a && leb a c) (leb c a && leb a d) ≡ true → cond q (leb d b && leb b c) (leb c b && leb b d) ≡ true
    → cond p (leb b k && leb k a) (leb a k && leb k b) ≡ true → cond q (leb d k && leb k c) (leb c k && leb k d) ≡ true
within true true a b c d k e f g h = let f = le_both d a a c f in let g = le_both d b b c g in let h = le_both b k k a h in both_le d k k c (omega (arith, f.0, g.0, h.0)) (omega (arith, f.1, g.1, h.1))
within true false a b c d k e f g h = absurd cc
within false true a b c d k e f g h = absurd cc
within false false a b c d k e f g h = let f = le_both c a a d f in let g = le_both c b b d g in let h = le_both a k k b h in both_le c k k d (omega (arith, f.0, g.0, h.0)) (omega (arith, f.1, g.1, h.1))

pub range_range : (s : Symbol) (r : Range) → range_fits (Some s) r ≡ true → (d : Range) × (s.range ≡ Some d) × (is_ordered r ≡ true) × ((k : ℕ) → In k (range_bits r) → In k (range_bits d))
range_range s r e = by s.range refl e where
  by : (o : Option Range) → s.range ≡ o → range_fits (Some (record s { range = o })) r ≡ true → (d : Range) × (s.range ≡ Some d) × (is_ordered r ≡ true) × ((k : ℕ) → In k (range_bits r) → In k (range_bits d))
  by None is e = absurd cc
  by (Some d) is e =
      let all = and_left _ (has_bit d r.right) e in
      let two = and_left _ (has_bit d r.left) all in
      let a = and_left (cond r.falls d.falls (not d.falls)) (is_ordered r) two in
      let b = and_right (cond r.falls d.falls (not d.falls)) (is_ordered r) two in
      (d, is, b, λ k i. has-range d k (within r.falls d.falls r.left r.right d.left d.right k a (and_right _ (has_bit d r.left) all) (and_right _ (has_bit d r.right) e) (range-has r k i)))

-- how wide an expression is

equal_widths : (n e : Bool) → not (n && not e) ≡ true → (not n || e) ≡ true
equal_widths true true h = refl
equal_widths true false h = absurd cc
equal_widths false e h = refl

joined_equal : (op : Operator) (a b : ℕ) → (not (needs_equal op) || nat_eq a b) ≡ true → joined_width op (Some a) (Some b) ≡ Some (operator_width op a b)
joined_equal operator.Equal a b e = refl
joined_equal operator.Unequal a b e = refl
joined_equal operator.Join a b e = refl
joined_equal operator.And a b e = ap (λ t. cond t (Some a) None) e
joined_equal operator.Or a b e = ap (λ t. cond t (Some a) None) e
joined_equal operator.Xor a b e = ap (λ t. cond t (Some a) None) e
joined_equal operator.Nand a b e = ap (λ t. cond t (Some a) None) e
joined_equal operator.Nor a b e = ap (λ t. cond t (Some a) None) e
joined_equal operator.Xnor a b e = ap (λ t. cond t (Some a) None) e

pub width_is : (known : List Symbol) (e : Tree) → AreKnown known (reads e) → width_faults known e ≡ [] → width known e ≡ Some (length (formulas known e))
width_is known (bit b line) h w = refl
width_is known (literal r digits line) h w = ap Some (sym (length-map (literal_bits r digits) fixed ∙ length-literal r digits))
width_is known (name text line) h w = let f = h (record { text = text; line = line }) here in
    by (find known text) f.0 f.1 where
      by : (o : Option Symbol) (s : Symbol) → o ≡ Some s → Some (found_width o) ≡ Some (length (map leaf (names_of_found o)))
      by None s e = absurd cc
      by (Some t) s e = ap Some (sym (length-map (symbol_names t) leaf ∙ length-names_in t.text t.range))
width_is known (index text line k) h w = refl
width_is known (slice text line range) h w =
    let f = h (record { text = text; line = line }) here in
    let fits : range_fits (Some f.0) range ≡ true = ap (λ (o : Option Symbol). range_fits o range) (sym f.1) ∙ no_line (range_fits (find known text) range) range.line w in
    let ordered = (range_range f.0 range fits).2 in
    ap (λ b. cond b (Some (length (range_bits range))) None) ordered ∙ ap Some (sym (length-map (names_in text (Some range)) leaf ∙ length-names_in text (Some range)))
width_is known (stable text line) h w = refl
width_is known (inverse line e) h w = width_is known e h w ∙ ap Some (sym (length-map (formulas known e) opposite))
width_is known (binary op line left right) h w =
    let a = empty_left (width_faults known left) _ w in
    let rest = empty_right (width_faults known left) _ w in
    let middle = empty_left (if_not (not (needs_equal op && differ (width known left) (width known right))) line) _ rest in
    let b = empty_right (if_not (not (needs_equal op && differ (width known left) (width known right))) line) _ rest in
    let x = width_is known left (known_left known (reads left) (reads right) h) a in
    let y = width_is known right (known_right known (reads left) (reads right) h) b in
    let xs = formulas known left in
    let ys = formulas known right in
    let test = no_line (not (needs_equal op && differ (width known left) (width known right))) line middle in
    let test2 : not (needs_equal op && not (nat_eq (length xs) (length ys))) ≡ true = ap (λ (o : Option ℕ). not (needs_equal op && differ o (Some (length ys)))) (sym x) ∙ ap (λ (o : Option ℕ). not (needs_equal op && differ (width known left) o)) (sym y) ∙ test in
    let equal = equal_widths (needs_equal op) (nat_eq (length xs) (length ys)) test2 in
    ap (λ (o : Option ℕ). joined_width op o (width known right)) x ∙ ap (joined_width op (Some (length xs))) y
    ∙ joined_equal op (length xs) (length ys) equal
    ∙ ap Some (sym (length-operator op xs ys equal))

-- what an expression reads

-- a declared bit that is no supply and not the clock
pub record IsReadable (known : List Symbol) (ck : Option (List ℕ)) (n : Name) : Type 0 where
  pub symbol : Symbol
  pub bit : IsBit known n symbol
  pub no_supply : is_supply n.text ≡ false
  pub no_clock : ck ≡ Some n.text → ⊥

-- the clock is a name of one bit
abbrev pub IsScalarClock : List Symbol → Option (List ℕ) → Type 0
IsScalarClock known ck = (text : List ℕ) (s : Symbol) → ck ≡ Some text → find known text ≡ Some s → s.range ≡ None

not_scalar : {A : Type 0} (o : Option A) (x : A) → o ≡ Some x → o ≡ None → ⊥
not_scalar o x e f = let h : Some x ≡ None = sym e ∙ f in absurd cc

no_line_here : (line : ℕ) → if_not false line ≡ [] → ⊥
no_line_here line e = absurd cc

pub reads_are : (known : List Symbol) (ck : Option (List ℕ)) → IsScalarClock known ck → (e : Tree) → AreKnown known (reads e) → width_faults known e ≡ [] → clock_lines ck e ≡ []
    → Each (IsReadable known ck) (formulas known e)
reads_are known ck scalar (bit b line) h w c = (tt, tt)
reads_are known ck scalar (literal r digits line) h w c = Each-fixed (IsReadable known ck) (literal_bits r digits)
reads_are known ck scalar (name text line) h w c =
    let f = h (record { text = text; line = line }) here in
    let text_is : f.0.text ≡ text = find_text known text f.0 f.1 in
    let names : names_of_found (find known text) ≡ symbol_names f.0 = ap names_of_found f.1 in
    subst (λ (ns : List Name). Each (IsReadable known ck) (map leaf ns)) (sym names)
    (Each-leaf (IsReadable known ck) (symbol_names f.0) (λ n i supply.
    let same : n.text ≡ text = text_in f.0.text f.0.range n i ∙ text_is in record {
      symbol = f.0;
      bit = record { found = ap (find known) same ∙ f.1; among = i };
      no_supply = supply;
      no_clock = λ is.
          let is_here : ck ≡ Some text = is ∙ ap Some same in
          no_line_here line (ap (λ b. if_not (not b) line) (sym (itself text)) ∙ ap (λ (o : Option (List ℕ)). clock_lines o (name text line)) (sym is_here) ∙ c);
    }))
reads_are known ck scalar (index text line k) h w c =
    let f = h (record { text = text; line = line }) here in
    let text_is : f.0.text ≡ text = find_text known text f.0 f.1 in
    let fits : index_fits (Some f.0) k ≡ true = ap (λ (o : Option Symbol). index_fits o k) (sym f.1) ∙ no_line (index_fits (find known text) k) line w in
    let r = index_range f.0 k fits in
    let among : In (bit_name text k) (names_in text (Some r.0)) = In-map (bit_name text) k (range_bits r.0) (has-range r.0 k r.2) in (
      Holds-leaf (IsReadable known ck) (bit_name text k) (λ supply. record {
        symbol = f.0;
        bit = record {
          found = f.1;
          among = subst (λ (o : Option Range). In (bit_name text k) (names_in f.0.text o)) (sym r.1) (subst (λ (t : List ℕ). In (bit_name text k) (names_in t (Some r.0))) (sym text_is) among);
        };
        no_supply = supply;
        no_clock = λ is. not_scalar f.0.range r.0 r.1 (scalar text f.0 is f.1);
      }),
      tt,
    )
reads_are known ck scalar (slice text line range) h w c =
    let f = h (record { text = text; line = line }) here in
    let text_is : f.0.text ≡ text = find_text known text f.0 f.1 in
    let fits : range_fits (Some f.0) range ≡ true = ap (λ (o : Option Symbol). range_fits o range) (sym f.1) ∙ no_line (range_fits (find known text) range) range.line w in
    let r = range_range f.0 range fits in
    Each-leaf (IsReadable known ck) (names_in text (Some range)) (λ n i supply.
    let same : n.text ≡ text = text_in text (Some range) n i in
    let m = In-map_back (bit_name text) n (range_bits range) i in
    let among : In n (names_in text (Some r.0)) = subst (λ (x : Name). In x (names_in text (Some r.0))) m.2 (In-map (bit_name text) m.0 (range_bits r.0) (r.3 m.0 m.1)) in record {
      symbol = f.0;
      bit = record {
        found = ap (find known) same ∙ f.1;
        among = subst (λ (o : Option Range). In n (names_in f.0.text o)) (sym r.1) (subst (λ (t : List ℕ). In n (names_in t (Some r.0))) (sym text_is) among);
      };
      no_supply = supply;
      no_clock = λ is. not_scalar f.0.range r.0 r.1 (scalar text f.0 (is ∙ ap Some same) f.1);
    })
reads_are known ck scalar (stable text line) h w c = (tt, tt)
reads_are known ck scalar (inverse line e) h w c = Each-opposite (IsReadable known ck) (formulas known e) (reads_are known ck scalar e h w c)
reads_are known ck scalar (binary op line left right) h w c =
    let rest = empty_right (width_faults known left) _ w in
    Each-operator (IsReadable known ck) op (formulas known left) (formulas known right)
    (reads_are known ck scalar left (known_left known (reads left) (reads right) h) (empty_left (width_faults known left) _ w) (empty_left (clock_lines ck left) _ c))
    (reads_are known ck scalar right (known_right known (reads left) (reads right) h) (empty_right (if_not (not (needs_equal op && differ (width known left) (width known right))) line) _ rest) (empty_right (clock_lines ck left) _ c))
