-- Names of one text, told by codes of their bits.
use Rattle.std.proofs.Common.{◌≡◌, ℕ, zero, suc, Bool, true, false, cond, ◌&&◌, eqb, ltb, List, [], ◌∷◌, ◌++◌, map, min, get_or, Option, Some, None, refl, sym, ap, subst, ◌∙◌, bytes_eq, arith}
use Rattle.std.specs.Prelude.{◌||◌, filter, option_map}
use Rattle.std.specs.List.{list_any}
use Rattle.std.specs.Ordering.{nat_cmp, ordering_then, is_eq, is_lt}
use Rattle.std.specs.declared.cmp.Ordering.{Ordering}
use Rattle.std.specs.declared.cmp.Ordering.TheVariants.{Less, Equal, Greater}
use Rattle.std.specs.Cmp.Lexicographic.{slice_cmp}
use Rattle.std.proofs.lemmas.Map.Text.{is_eq-slice_cmp}
use Rattle.std.proofs.lemmas.Bool.Decides.{nat_tests}
use Rattle.std.specs.BTreeSet.{BTreeSet}
use Rattle.vlsi_base.specs.declared.name.Name.{Name}
use Rattle.vlsi_base.specs.Name.{name_cmp, bit_cmp}
use Rattle.machine_core.specs.Named.{is_same_name, is_same_bit}
use Rattle.source_checks.specs.declared.symbol_table.Symbol.{Symbol}
use Rattle.source_checks.specs.declared.symbol_table.Role.TheVariants as role
use Rattle.source_checks.specs.Symbols.{find}
use Rattle.source_checks.specs.Drivers.{is_among, lesser, least}
use Rattle.source_checks.specs.Known.{position_of}
use Rattle.source_checks.specs.Marks.{has, is_key}
use Rattle.source_checks.specs.Codes.{bit_of, name_at, least_with, least_code, Tied}
use Rattle.source_checks.proofs.Lookups.{same_of, itself}
use Rattle.source_checks.proofs.Knowing.{found_at}

pub same_bools : (a b : Bool) → (a ≡ true → b ≡ true) → (b ≡ true → a ≡ true) → a ≡ b
same_bools true b p q = sym (p refl)
same_bools false true p q = q refl
same_bools false false p q = refl

-- the symbol that is found has the text
pub find_text : (known : List Symbol) (t : List ℕ) (s : Symbol) → find known t ≡ Some s → s.text ≡ t
find_text [] t s e = absurd cc
find_text (x ∷ known) t s e = by (find_text known t s) (bytes_eq x.text t) refl e where
  by : (find known t ≡ Some s → s.text ≡ t) → (b : Bool) → bytes_eq x.text t ≡ b → cond b (Some x) (find known t) ≡ Some s → s.text ≡ t
  by rest true here e = let same : x ≡ s = cc in ap (λ (y : Symbol). y.text) (sym same) ∙ same_of x.text t here
  by rest false here e = rest e

nobody : Symbol
nobody = record { text = []; role = role.Input; range = None; line = 0 }

-- texts stand at one place exactly where they are one
pub places_tell : (known : List Symbol) (t u : List ℕ) (p q : ℕ) → position_of known t ≡ Some p → position_of known u ≡ Some q → eqb p q ≡ bytes_eq t u
places_tell known t u p q at at' = same_bools (eqb p q) (bytes_eq t u) one_place one_text where
  one_place : eqb p q ≡ true → bytes_eq t u ≡ true
  one_place e =
      let same : p ≡ q = grind (arith, nat_tests) in
      let s = (found_at known t p at).there nobody in
      let s' = (found_at known u q at').there nobody in
      let first : (get_or known p nobody).text ≡ t = find_text known t (get_or known p nobody) s in
      let second : (get_or known q nobody).text ≡ u = find_text known u (get_or known q nobody) s' in
      let texts : t ≡ u = sym first ∙ ap (λ i. (get_or known i nobody).text) same ∙ second in
      subst (λ (x : List ℕ). bytes_eq t x ≡ true) texts (itself t)

  one_text : bytes_eq t u ≡ true → eqb p q ≡ true
  one_text e =
      let texts : t ≡ u = same_of t u e in
      let places : Some p ≡ Some q = sym at ∙ ap (position_of known) texts ∙ at' in
      let same : p ≡ q = cc in grind (arith, nat_tests)

pub codes_tell : (c d : ℕ) → eqb c d ≡ is_same_bit (bit_of c) (bit_of d)
codes_tell zero zero = refl
codes_tell zero (suc d) = grind (arith, nat_tests)
codes_tell (suc c) zero = grind (arith, nat_tests)
codes_tell (suc c) (suc d) = grind (arith, nat_tests)

-- the bits that are marked at a place are those of the names of its text
pub marked_names : (known : List Symbol) (t u : List ℕ) (p q d : ℕ) (codes : List ℕ) → position_of known t ≡ Some p → position_of known u ≡ Some q → list_any (λ c. is_key (p, c) (q, d)) codes ≡ is_among (map (name_at t) codes) (name_at u d)
marked_names known t u p q d [] at at' = refl
marked_names known t u p q d (c ∷ codes) at at' =
    ap (λ x. (x && eqb c d) || list_any (λ c. is_key (p, c) (q, d)) codes) (places_tell known t u p q at at')
    ∙ ap (λ x. (bytes_eq t u && x) || list_any (λ c. is_key (p, c) (q, d)) codes) (codes_tell c d)
    ∙ ap (λ x. (bytes_eq t u && is_same_bit (bit_of c) (bit_of d)) || x) (marked_names known t u p q d codes at at')

or_assoc : (a b c : Bool) → (a || (b || c)) ≡ ((a || b) || c)
or_assoc true b c = refl
or_assoc false b c = refl

pub is_among-append : (xs ys : List Name) (n : Name) → is_among (xs ++ ys) n ≡ (is_among xs n || is_among ys n)
is_among-append [] ys n = refl
is_among-append (x ∷ xs) ys n = ap (λ b. is_same_name x n || b) (is_among-append xs ys n) ∙ or_assoc (is_same_name x n) (is_among xs n) (is_among ys n)

-- marking the bits of a name adds its names
pub tied_more : (known : List Symbol) (old new : BTreeSet (ℕ × ℕ)) (driven : List Name) (t : List ℕ) (p : ℕ) (codes : List ℕ) → position_of known t ≡ Some p → ((q : ℕ × ℕ) → has new q ≡ (list_any (λ c. is_key (p, c) q) codes || has old q))
    → Tied known old driven → Tied known new (map (name_at t) codes ++ driven)
tied_more known old new driven t p codes at marks tied = record {
  each = λ u q d at'.
      marks (q, d) ∙ ap (λ b. b || has old (q, d)) (marked_names known t u p q d codes at at') ∙ ap (λ b. is_among (map (name_at t) codes) (name_at u d) || b) (tied.each u q d at')
      ∙ sym (is_among-append (map (name_at t) codes) driven (name_at u d));
}

-- the names that are driven are those whose bits are marked
pub driven_names : (known : List Symbol) (marks : BTreeSet (ℕ × ℕ)) (driven : List Name) (t : List ℕ) (p : ℕ) → position_of known t ≡ Some p → Tied known marks driven → (codes : List ℕ)
    → filter (is_among driven) (map (name_at t) codes) ≡ map (name_at t) (filter (λ c. has marks (p, c)) codes)
driven_names known marks driven t p at tied [] = refl
driven_names known marks driven t p at tied (c ∷ codes) =
    ap (λ b. cond b (name_at t c ∷ filter (is_among driven) (map (name_at t) codes)) (filter (is_among driven) (map (name_at t) codes))) (sym (tied.each t p c at))
    ∙ ap (λ (ns : List Name). cond (has marks (p, c)) (name_at t c ∷ ns) ns) (driven_names known marks driven t p at tied codes) ∙ by (has marks (p, c)) where
      by : (b : Bool) → cond b (name_at t c ∷ map (name_at t) (filter (λ c. has marks (p, c)) codes)) (map (name_at t) (filter (λ c. has marks (p, c)) codes)) ≡ map (name_at t) (cond b (c ∷ filter (λ c. has marks (p, c)) codes) (filter (λ c. has marks (p, c)) codes))
      by true = refl
      by false = refl

equal_of : (o : Ordering) → is_eq o ≡ true → o ≡ Equal
equal_of Less e = absurd cc
equal_of Equal e = refl
equal_of Greater e = absurd cc

is_lt-nat_cmp : (m n : ℕ) → is_lt (nat_cmp m n) ≡ ltb m n
is_lt-nat_cmp m n = grind (arith, nat_tests)

is_lt-bit_cmp : (m n : ℕ) → is_lt (bit_cmp (bit_of m) (bit_of n)) ≡ ltb m n
is_lt-bit_cmp zero zero = refl
is_lt-bit_cmp zero (suc n) = grind (arith, nat_tests)
is_lt-bit_cmp (suc m) zero = grind (arith, nat_tests)
is_lt-bit_cmp (suc m) (suc n) = is_lt-nat_cmp m n ∙ grind (arith, nat_tests)

lesser_is : (t : List ℕ) (c : ℕ) (o : Option ℕ) → lesser (name_at t c) (option_map (name_at t) o) ≡ name_at t (least_with c o)
lesser_is t c None = refl
lesser_is t c (Some m) =
    let texts : slice_cmp nat_cmp t t ≡ Equal = equal_of (slice_cmp nat_cmp t t) (is_eq-slice_cmp t t ∙ itself t) in
    let less : is_lt (name_cmp (name_at t m) (name_at t c)) ≡ ltb m c = ap (λ (o : Ordering). is_lt (ordering_then o (bit_cmp (bit_of m) (bit_of c)))) texts ∙ is_lt-bit_cmp m c in
    ap (λ b. cond b (name_at t m) (name_at t c)) less ∙ by (ltb m c) refl where
      by : (b : Bool) → ltb m c ≡ b → cond b (name_at t m) (name_at t c) ≡ name_at t (min c m)
      by true e = let below : m ≡ min c m = grind (arith, nat_tests) in ap (name_at t) below
      by false e = let above : c ≡ min c m = grind (arith, nat_tests) in ap (name_at t) above

pub least_name : (t : List ℕ) (codes : List ℕ) → least (map (name_at t) codes) ≡ option_map (name_at t) (least_code codes)
least_name t [] = refl
least_name t (c ∷ codes) = ap (λ (o : Option Name). Some (lesser (name_at t c) o)) (least_name t codes) ∙ ap Some (lesser_is t c (least_code codes))
