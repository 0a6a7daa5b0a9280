-- Whether a name is one of a name's bits.
use Rattle.std.proofs.Common.{◌≡◌, ◌⊎◌, inl, inr, ℕ, Bool, true, false, ◌&&◌, List, [], ◌∷◌, map, Option, None, Some, refl, sym, ap, ◌∙◌, subst}
use Rattle.std.specs.Prelude.{◌||◌, nat_eq, not}
use Rattle.std.specs.Cmp.Lexicographic.{bytes_decides}
use Rattle.std.proofs.lemmas.Bool.{eqb-true, eq-eqb}
use Rattle.vlsi_base.specs.declared.name.Name.{Name}
use Rattle.vlsi_base.specs.declared.range.Range.{Range}
use Rattle.vlsi_base.specs.Range.{range_bits}
use Rattle.machine_core.specs.Named.{is_same_name, is_same_text}
use Rattle.machine_core.specs.Order.{In, here, there}
use Rattle.machine_core.proofs.Names.{same_name-true, same_name-itself, same_name-false}
use Rattle.machine_core.proofs.Values.{In-map}
use Rattle.source_checks.specs.Symbols.{has_bit, names_in, bit_name, scalar}
use Rattle.source_checks.specs.Drivers.{is_among}
use Rattle.vlsi_model.proofs.Members.{In-map_back}
use Rattle.vlsi_model.proofs.Bits.{text_in, range-has, has-range}
use Rattle.vlsi_model.proofs.Assembly.{false_or_true}
use Rattle.vbe_free.proofs.Ones.{is_among_In}

among_back : (names : List Name) (n : Name) → is_among names n ≡ true → In n names
among_back [] n e = absurd cc
among_back (m ∷ names) n e = by (is_same_name m n) refl e (among_back names n) where
  by : (b : Bool) → is_same_name m n ≡ b → (b || is_among names n) ≡ true → (is_among names n ≡ true → In n names) → In n (m ∷ names)
  by true is e rest = subst (λ (x : Name). In x (m ∷ names)) (same_name-true m n is) here
  by false is e rest = there (rest e)

abbrev pub bit_of : List ℕ → Option ℕ → Name
bit_of text bit = record { text = text; bit = bit }

no_bit : (names : List Name) (n : Name) → (In n names → ⊥) → false ≡ is_among names n
no_bit names n h = sym (false_or_true (is_among names n) (λ e. h (among_back names n e)))

pub other_text : (text of : List ℕ) (range : Option Range) (bit : Option ℕ) → (text ≡ of → ⊥) → false ≡ is_among (names_in text range) (bit_of of bit)
other_text text of range bit apart = no_bit (names_in text range) (bit_of of bit) (λ i. apart (sym (text_in text range (bit_of of bit) i)))

pub none_none : (text of : List ℕ) → text ≡ of → true ≡ is_among (names_in text None) (bit_of of None)
none_none text of same = sym (ap (λ (t : List ℕ). is_among (scalar text ∷ []) (bit_of t None)) (sym same) ∙ is_among_In (scalar text ∷ []) (scalar text) here)

pub none_some : (text of : List ℕ) (k : ℕ) → false ≡ is_among (names_in text None) (bit_of of (Some k))
none_some text of k = no_bit (names_in text None) (bit_of of (Some k)) only where
  only : In (bit_of of (Some k)) (scalar text ∷ []) → ⊥
  only i = by (bit_of of (Some k)) refl i where
    by : (n : Name) → n.bit ≡ Some k → In n (scalar text ∷ []) → ⊥
    by n e here = absurd cc
    by n e (there j) = elim j [ ]

pub some_none : (text of : List ℕ) (r : Range) → false ≡ is_among (names_in text (Some r)) (bit_of of None)
some_none text of r = no_bit (names_in text (Some r)) (bit_of of None) (λ i.
    let k = In-map_back (bit_name text) (bit_of of None) (range_bits r) i in
    let e : Some k.0 ≡ None = ap (λ (n : Name). n.bit) k.2 in absurd cc)

pub some_some : (text of : List ℕ) (r : Range) (k : ℕ) → text ≡ of → has_bit r k ≡ is_among (names_in text (Some r)) (bit_of of (Some k))
some_some text of r k same = by (has_bit r k) refl where
  by : (b : Bool) → has_bit r k ≡ b → has_bit r k ≡ is_among (names_in text (Some r)) (bit_of of (Some k))
  by true is =
      is ∙ sym (ap (λ (t : List ℕ). is_among (names_in text (Some r)) (bit_of t (Some k))) (sym same)
      ∙ is_among_In (names_in text (Some r)) (bit_name text k) (In-map (bit_name text) k (range_bits r) (has-range r k is)))
  by false is =
      is ∙ no_bit (names_in text (Some r)) (bit_of of (Some k)) (λ i.
      let j = In-map_back (bit_name text) (bit_of of (Some k)) (range_bits r) i in
      let e : Some j.0 ≡ Some k = ap (λ (n : Name). n.bit) j.2 in
      let at : j.0 ≡ k = cc in
      let yes : has_bit r k ≡ true = ap (has_bit r) (sym at) ∙ range-has r j.0 j.1 in
      let both : true ≡ false = sym yes ∙ is in absurd cc)

-- ---- names of one bit

alone : (m n : Name) → In n (m ∷ []) → m ≡ n
alone m n here = refl
alone m n (there j) = elim j [ ]

pub index_other : (text of : List ℕ) (k : ℕ) (bit : Option ℕ) → (text ≡ of → ⊥) → false ≡ is_among (bit_name text k ∷ []) (bit_of of bit)
index_other text of k bit apart = no_bit (bit_name text k ∷ []) (bit_of of bit) (λ i. apart (ap (λ (n : Name). n.text) (alone (bit_name text k) (bit_of of bit) i)))

pub index_apart : (text of : List ℕ) (k : ℕ) (bit : Option ℕ) → (bit ≡ Some k → ⊥) → false ≡ is_among (bit_name text k ∷ []) (bit_of of bit)
index_apart text of k bit apart = no_bit (bit_name text k ∷ []) (bit_of of bit) (λ i. apart (sym (ap (λ (n : Name). n.bit) (alone (bit_name text k) (bit_of of bit) i))))

pub index_one : (text of : List ℕ) (k : ℕ) (bit : Option ℕ) → text ≡ of → bit ≡ Some k → true ≡ is_among (bit_name text k ∷ []) (bit_of of bit)
index_one text of k bit same at =
    sym (ap (λ (t : List ℕ). is_among (bit_name text k ∷ []) (bit_of t bit)) (sym same) ∙ ap (λ b. is_among (bit_name text k ∷ []) (bit_of text b)) at
    ∙ is_among_In (bit_name text k ∷ []) (bit_name text k) here)

pub index_some : (text of : List ℕ) (k number : ℕ) → text ≡ of → nat_eq number k ≡ is_among (bit_name text k ∷ []) (bit_of of (Some number))
index_some text of k number same = by (nat_eq number k) refl where
  by : (b : Bool) → nat_eq number k ≡ b → nat_eq number k ≡ is_among (bit_name text k ∷ []) (bit_of of (Some number))
  by true is = is ∙ index_one text of k (Some number) same (ap Some (eqb-true number k is))
  by false is =
      is ∙ index_apart text of k (Some number) (λ e.
      let at : number ≡ k = cc in
      let both : true ≡ false = sym (eq-eqb number k at) ∙ is in absurd cc)

pub index_none : (text of : List ℕ) (k : ℕ) → false ≡ is_among (bit_name text k ∷ []) (bit_of of None)
index_none text of k = index_apart text of k None (λ e. absurd cc)

-- ---- texts that were compared

pub apart_of : (text of : List ℕ) (b : Bool) → b ≡ not (is_same_text text of) → b ≡ true → text ≡ of → ⊥
apart_of text of b is truly same =
    let yes_it : true ≡ false = sym truly ∙ is ∙ ap not ((bytes_decides text of).1 same) in absurd cc

pub same_of : (text of : List ℕ) (b : Bool) → b ≡ not (is_same_text text of) → b ≡ false → text ≡ of
same_of text of b is never = (bytes_decides text of).0 (by (is_same_text text of) (sym is ∙ never)) where
  by : (c : Bool) → not c ≡ false → c ≡ true
  by true e = refl
  by false e = absurd cc
