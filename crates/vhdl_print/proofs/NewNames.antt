-- Names that differ are new, one after the other.
use Rattle.std.proofs.Common.{◌≡◌, ℕ, ◌+◌, ◌≤◌, Bool, true, false, ◌||◌, List, [], ◌∷◌, refl, sym, arith}
use Rattle.std.specs.List.{All, list_any}
use Rattle.std.proofs.lemmas.List.Elements.{All-head, All-tail, All-cons, All-nil}
use Rattle.std.proofs.lemmas.Map.Lookups.{exact_bytes}
use Rattle.std.specs.BTreeMap.{is_at}
use Rattle.std.specs.BTreeSet.{insert_key}
use Rattle.std.specs.declared.cmp.Ordering.{Ordering}
use Rattle.std.specs.declared.cmp.Ordering.TheVariants.{Less, Equal, Greater}
use Rattle.std.specs.Ordering.{nat_cmp, match_ordering, is_eq}
use Rattle.std.specs.Cmp.Lexicographic.{slice_cmp}
use Rattle.grammar_theory.specs.declared.limits.TheConstants.{BITS}
use Rattle.grammar_theory.specs.Marks.{State, is_declared}
use Rattle.vhdl_print.specs.Outline.{OnePort, with_port, AreNew}
use Rattle.vhdl_print.specs.EntityAgain.{AreApart, all_bits}

not_equal : (o : Ordering) → (o ≡ Equal → ⊥) → is_eq o ≡ false
not_equal Less h = refl
not_equal Equal h = absurd (h refl)
not_equal Greater h = refl

not_at : (x y : List ℕ) → (x ≡ y → ⊥) → is_at (slice_cmp nat_cmp x) y ≡ false
not_at x y h = not_equal (slice_cmp nat_cmp x y) (λ e. h (exact_bytes x y e))

or_parts : (a b : Bool) → (a || b) ≡ false → (a ≡ false) × (b ≡ false)
or_parts false b h = (refl, h)
or_parts true b h = absurd cc

by_order : (p : List ℕ → Bool) (o : Ordering) (k x : List ℕ) (xs more : List (List ℕ)) → p k ≡ false → list_any p (x ∷ xs) ≡ false → list_any p more ≡ false
    → list_any p (match_ordering o (k ∷ x ∷ xs) (x ∷ xs) (x ∷ more)) ≡ false
by_order p Less k x xs more one all rest = rw (one) all
by_order p Equal k x xs more one all rest = all
by_order p Greater k x xs more one all rest = rw ((or_parts (p x) (list_any p xs) all).0) rest

pub still_new : (name k : List ℕ) (ks : List (List ℕ)) → is_declared name ks ≡ false → (name ≡ k → ⊥) → is_declared name (insert_key (slice_cmp nat_cmp) ks k) ≡ false
still_new name k [] h other = rw (not_at name k other) refl
still_new name k (x ∷ xs) h other =
    let p = is_at (slice_cmp nat_cmp name) in
    by_order p (slice_cmp nat_cmp k x) k x xs (insert_key (slice_cmp nat_cmp) xs k) (not_at name k other) h (still_new name k xs (or_parts (p x) (list_any p xs) h).1 other)

abbrev IsNewTo : List (List ℕ) → OnePort → Type 0
IsNewTo ks q = is_declared q.name ks ≡ false

all_still : (k : List ℕ) (ks : List (List ℕ)) (qs : List OnePort) → All (λ q. k ≡ q.name → ⊥) qs → All (λ q. is_declared q.name ks ≡ false) qs
    → All (λ q. is_declared q.name (insert_key (slice_cmp nat_cmp) ks k) ≡ false) qs
all_still k ks [] others new = All-nil (IsNewTo (insert_key (slice_cmp nat_cmp) ks k))
all_still k ks (q ∷ qs) others new =
    let O : OnePort → Type 0 = λ q. k ≡ q.name → ⊥ in
    All-cons (IsNewTo (insert_key (slice_cmp nat_cmp) ks k)) q qs
    (still_new q.name k ks (All-head (IsNewTo ks) q qs new) (λ e. All-head O q qs others (sym e)))
    (all_still k ks qs (All-tail O q qs others) (All-tail (IsNewTo ks) q qs new))

pub new_ports : (ps : List OnePort) (s : State) → AreApart ps → All (λ q. is_declared q.name s.names ≡ false) ps → s.bits + all_bits ps ≤ BITS → AreNew ps s
new_ports [] s apart new within = tt
new_ports (p ∷ ps) s apart new within = (
  All-head (IsNewTo s.names) p ps new,
  omega (arith, within),
  new_ports ps (with_port p s) apart.1 (all_still p.name s.names ps apart.0 (All-tail (IsNewTo s.names) p ps new)) (omega (arith, within)),
)

pub new_to_none : (ps : List OnePort) → All (λ q. is_declared q.name [] ≡ false) ps
new_to_none [] = All-nil (IsNewTo [])
new_to_none (p ∷ ps) = All-cons (IsNewTo []) p ps refl (new_to_none ps)
