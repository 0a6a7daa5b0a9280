-- Bits at the places that an order names, and among the bits of input ports and registers.
use Rattle.std.proofs.Common.{◌≡◌, ◌⊎◌, inl, inr, ℕ, zero, suc, ◌+◌, ◌-◌, ◌<◌, ◌≤◌, Bool, true, false, not, take, length-drop, List, [], ◌∷◌, ◌++◌, length, map, filter, drop, Option, None, Some, refl, sym, ap, subst, ◌∙◌, arith, append_assoc, add-one, drop-cons, length-append, if◌then◌else◌}
use Rattle.std.specs.Prelude.{nat_eq}
use Rattle.std.specs.List.{slice_index_or}
use Rattle.std.proofs.Math.ListN.{set}
use Rattle.std.proofs.lemmas.Bool.{eqb-true, cases_lt}
use Rattle.std.proofs.lemmas.List.{take_all, length-set, get_or-set_same, get_or-set_other}
use Rattle.vlsi_base.specs.declared.name.Name.{Name}
use Rattle.vlsi_base.specs.Member.{In, here, there, AllDifferent}
use Rattle.bool_expr.specs.Expression.{bit}
use Rattle.machine_core.specs.Named.{value_at, values_at}
use Rattle.machine_core.specs.Machine.{Machine, is_clock, input_ports, inputs, register_names}
use Rattle.machine_core.specs.Order.{held_names}
use Rattle.machine_core.specs.Checked.{IsChecked, AreInOrder}
use Rattle.machine_core.proofs.Names.{same_name-itself, same_name-false, same_name-true}
use Rattle.machine_core.proofs.Values.{In-left, In-right, In-split}
use Rattle.machine_walk.specs.Expansion.{place_among, held_count}
use Rattle.machine_walk.proofs.Reaching.{also_in}
use Rattle.machine_roots.proofs.Denoting.{place_within, place_again}
use Rattle.proof_joint.specs.Together.{given_names}
use Rattle.proof_joint.specs.Bits.{AreSpread}
use Rattle.proof_joint.proofs.Least.{Rising, rising, less_not_itself}

-- ---- the places that an order names

pub at_place : (order : List ℕ) (k : ℕ) → In k order → slice_index_or order (place_among order k) 0 ≡ k
at_place [] k h = elim h [ ]
at_place (x ∷ order) k h = by (nat_eq x k) refl (also_in k x order h) (λ p. at_place order k p) where
  deeper : nat_eq x k ≡ false → (k ≡ x) ⊎ In k order → In k order
  deeper e (inl p) = absurd (let t : nat_eq k k ≡ true = search arith in let f : nat_eq k k ≡ false = subst (λ (y : ℕ). nat_eq y k ≡ false) (sym p) e in (cc (t, f)))
  deeper e (inr p) = p

  by : (b : Bool) → nat_eq x k ≡ b → (k ≡ x) ⊎ In k order → (In k order → slice_index_or order (place_among order k) 0 ≡ k)
      → slice_index_or (x ∷ order) (if b then 0 else suc (place_among order k)) 0 ≡ k
  by true e p rest = eqb-true x k e
  by false e p rest = rest (deeper e p)

-- the first k bits stand at their places
pub record IsSpreading (order : List ℕ) (bits : List Bool) (count k : ℕ) (spread : List Bool) : Type 0 where
  pub each : length spread ≡ count
  pub put : (j : ℕ) → j < k → bit spread (slice_index_or order j 0) ≡ bit bits j

pub spreading : (order : List ℕ) (bits : List Bool) (count : ℕ) (spread : List Bool) → length spread ≡ count → IsSpreading order bits count 0 spread
spreading order bits count spread each = record { each = each; put = λ j h. absurd (omega arith) }

pub spreads_more : (order : List ℕ) (bits : List Bool) (count k name : ℕ) (b : Bool) (old : List Bool) → AllDifferent order → k < length order → name ≡ slice_index_or order k 0 → name < count
    → b ≡ bit bits k → IsSpreading order bits count k old → IsSpreading order bits count (k + 1) (set old name b)
spreads_more order bits count k name b old different within is small value w = record {
  each = length-set old name b ∙ w.each;
  put = λ j h. by j (cases_lt j k) h;
}
  where
    by : (j : ℕ) → (j < k) ⊎ (k ≤ j) → j < k + 1 → bit (set old name b) (slice_index_or order j 0) ≡ bit bits j
    by j (inl low) h =
        let apart : slice_index_or order j 0 ≡ name → ⊥ = λ e.
        (let p = (place_again order j 0 different (omega (arith, low, within))).1 in
        let q = (place_again order k 0 different within).1 in
        let same : j ≡ k = sym p ∙ ap (place_among order) (e ∙ is) ∙ q in omega (arith, same, low)) in
        get_or-set_other old name (slice_index_or order j 0) b false apart ∙ w.put j low
    by j (inr high) h =
        let same : j ≡ k = omega (arith, h, high) in
        ap (λ (i : ℕ). bit (set old name b) (slice_index_or order i 0)) same ∙ ap (bit (set old name b)) (sym is)
        ∙ get_or-set_same old name b false (let e = w.each in omega (arith, e, small)) ∙ value ∙ ap (bit bits) (sym same)

pub all_spread : (order : List ℕ) (bits : List Bool) (count k : ℕ) (spread : List Bool) → length order ≤ k → IsSpreading order bits count k spread → AreSpread order bits spread
all_spread order bits count k spread end w name h =
    let within = place_within order name h in
    ap (bit spread) (sym (at_place order name h)) ∙ w.put (place_among order name) (omega (arith, within, end))

-- ---- the bits of input ports

-- the bits of inputs and of what stands behind them, with 0 where the clock stands
abbrev pub with_clock : Option Name → List Name → List Bool → List Bool
with_clock c [] w = w
with_clock c (n ∷ names) w = if is_clock c n then false ∷ with_clock c names w else bit w 0 ∷ with_clock c names (drop 1 w)

abbrev pub but_clock : Option Name → List Name → List Name
but_clock c names = filter (λ name. not (is_clock c name)) names

pub length-with_clock : (c : Option Name) (names : List Name) (w : List Bool) (rest : ℕ) → length w ≡ length (but_clock c names) + rest → length (with_clock c names w) ≡ length names + rest
length-with_clock c [] w rest e = omega (arith, e)
length-with_clock c (n ∷ names) w rest e = by (is_clock c n) w e (λ v f. length-with_clock c names v rest f) where
  by : (b : Bool) (w : List Bool) → length w ≡ length (if not b then n ∷ but_clock c names else but_clock c names) + rest
      → ((v : List Bool) → length v ≡ length (but_clock c names) + rest → length (with_clock c names v) ≡ length names + rest)
      → length (if b then false ∷ with_clock c names w else bit w 0 ∷ with_clock c names (drop 1 w)) ≡ suc (length names) + rest
  by true w e again = let r = again w e in omega (arith, r)
  by false [] e again = absurd (omega arith)
  by false (x ∷ w) e again = let r = again w (omega arith) in omega (arith, r)

-- a name that isn't asked for is passed over
skip : (n : Name) (b : Bool) (names : List Name) (w : List Bool) (asked : List Name) → (In n asked → ⊥) → values_at (n ∷ names) (b ∷ w) asked ≡ values_at names w asked
skip n b names w [] none = refl
skip n b names w (m ∷ asked) none =
    let first : value_at (n ∷ names) (b ∷ w) m ≡ value_at names w m =
    ap (λ (t : Bool). if t then b else value_at names w m) (same_name-false n m (λ e. none (subst (λ (x : Name). In n (x ∷ asked)) e here))) in
    λ j. first j ∷ skip n b names w asked (λ h. none (there h)) j

own_first : (n : Name) (b : Bool) (names : List Name) (w : List Bool) → value_at (n ∷ names) (b ∷ w) n ≡ b
own_first n b names w = ap (λ (t : Bool). if t then b else value_at names w n) (same_name-itself n)

values_itself : (names : List Name) (w : List Bool) → AllDifferent names → length w ≡ length names → values_at names w names ≡ w
values_itself [] [] d e = refl
values_itself [] (b ∷ w) d e = absurd (omega arith)
values_itself (n ∷ names) [] d e = absurd (omega arith)
values_itself (n ∷ names) (b ∷ w) d e =
    let rest = skip n b names w names d.0 ∙ values_itself names w d.1 (omega arith) in
    λ j. own_first n b names w j ∷ rest j

pub filter_names : (t : Name → Bool) (n : Name) (xs : List Name) → In n (filter t xs) → In n xs
filter_names t n [] h = elim h [ ]
filter_names t n (x ∷ xs) h = by (t x) h (λ p. filter_names t n xs p) where
  first : (m : Name) → In m (x ∷ filter t xs) → (In m (filter t xs) → In m xs) → In m (x ∷ xs)
  first m here rest = here
  first m (there p) rest = there (rest p)

  by : (b : Bool) → In n (if b then x ∷ filter t xs else filter t xs) → (In n (filter t xs) → In n xs) → In n (x ∷ xs)
  by true p rest = first n p rest
  by false p rest = there (rest p)

asked_from : (c : Option Name) (n : Name) (names rest : List Name) → In n (but_clock c names ++ rest) → In n (names ++ rest)
asked_from c n names rest h = elim (In-split n (but_clock c names) rest h) [
  | inl p ↦ In-left n names rest (filter_names (λ name. not (is_clock c name)) n names p)
  | inr p ↦ In-right n names rest p
]

pub values_with_clock : (c : Option Name) (names rest : List Name) (w : List Bool) → AllDifferent (names ++ rest) → length w ≡ length (but_clock c names) + length rest
    → values_at (names ++ rest) (with_clock c names w) (but_clock c names ++ rest) ≡ w
values_with_clock c [] rest w d e = values_itself rest w d (omega (arith, e))
values_with_clock c (n ∷ names) rest w d e = by (is_clock c n) w e (λ v f. values_with_clock c names rest v d.1 f) where
  fresh : In n (but_clock c names ++ rest) → ⊥
  fresh h = d.0 (asked_from c n names rest h)

  by : (b : Bool) (w : List Bool) → length w ≡ length (if not b then n ∷ but_clock c names else but_clock c names) + length rest
      → ((v : List Bool) → length v ≡ length (but_clock c names) + length rest → values_at (names ++ rest) (with_clock c names v) (but_clock c names ++ rest) ≡ v)
      → values_at (n ∷ (names ++ rest)) (if b then false ∷ with_clock c names w else bit w 0 ∷ with_clock c names (drop 1 w)) ((if not b then n ∷ but_clock c names else but_clock c names) ++ rest) ≡ w
  by true w e again = skip n false (names ++ rest) (with_clock c names w) (but_clock c names ++ rest) fresh ∙ again w e
  by false [] e again = absurd (omega arith)
  by false (x ∷ w) e again =
      let deeper = skip n x (names ++ rest) (with_clock c names w) (but_clock c names ++ rest) fresh ∙ again w (omega arith) in
      λ j. own_first n x (names ++ rest) (with_clock c names w) j ∷ deeper j

-- ---- names that are given bits are different

pub rising_different : (xs : List Name) → Rising xs → AllDifferent xs
rising_different [] r = tt
rising_different (x ∷ xs) r = (λ h. less_not_itself x (r.0 x h), rising_different xs r.1)

pub right_different : (xs ys : List Name) → AllDifferent (xs ++ ys) → AllDifferent ys
right_different [] ys d = d
right_different (x ∷ xs) ys d = right_different xs ys d.1

pub left_apart : (xs ys : List Name) (n : Name) → AllDifferent (xs ++ ys) → In n xs → In n ys → ⊥
left_apart [] ys n d h i = elim h [ ]
left_apart (x ∷ xs) ys n d here i = d.0 (In-right x xs ys i)
left_apart (x ∷ xs) ys n d (there h) i = left_apart xs ys n d.1 h i

pub both_different : (xs ys : List Name) → AllDifferent xs → AllDifferent ys → ((n : Name) → In n xs → In n ys → ⊥) → AllDifferent (xs ++ ys)
both_different [] ys d e apart = e
both_different (x ∷ xs) ys d e apart = (
  λ h. elim (In-split x xs ys h) [ inl p ↦ d.0 p | inr p ↦ apart x here p ],
  both_different xs ys d.1 e (λ n p q. apart n (there p) q),
)

pub kept_name : (t : Name → Bool) (n : Name) (xs : List Name) → In n xs → t n ≡ true → In n (filter t xs)
kept_name t n [] h e = elim h [ ]
kept_name t n (x ∷ xs) here e = subst (λ (b : Bool). In n (if b then n ∷ filter t xs else filter t xs)) (sym e) here
kept_name t n (x ∷ xs) (there h) e = by (t x) (kept_name t n xs h e) where
  by : (b : Bool) → In n (filter t xs) → In n (if b then x ∷ filter t xs else filter t xs)
  by true p = there p
  by false p = p

pub clock_is : (c : Option Name) (n : Name) → is_clock c n ≡ true → c ≡ Some n
clock_is None n e = absurd (cc e)
clock_is (Some c) n e = ap Some (same_name-true c n e)

pub given_different : (m : Machine) → IsChecked m → (ports : AreInOrder (input_ports m)) → AllDifferent (given_names m)
given_different m checked ports =
    both_different (input_ports m) (register_names m) (rising_different (input_ports m) (rising (input_ports m) ports)) (right_different (inputs m) (register_names m) held) apart
  where
    all : AllDifferent (held_names m ++ map (λ e. e.name) m.equations)
    all = subst AllDifferent checked.ordered.vars checked.ordered.different

    front : (xs ys : List Name) → AllDifferent (xs ++ ys) → AllDifferent xs
    front [] ys d = tt
    front (x ∷ xs) ys d = (λ h. d.0 (In-left x xs ys h), front xs ys d.1)

    held : AllDifferent (held_names m)
    held = front (held_names m) (map (λ e. e.name) m.equations) all

    inside : (n : Name) → In n (register_names m) → In n m.vars
    inside n h = subst (λ (l : List Name). In n l) (sym checked.ordered.vars) (In-left n (held_names m) (map (λ e. e.name) m.equations) (In-right n (inputs m) (register_names m) h))

    apart : (n : Name) → In n (input_ports m) → In n (register_names m) → ⊥
    apart n h i = by (is_clock m.clock n) refl where
      by : (b : Bool) → is_clock m.clock n ≡ b → ⊥
      by true e = (checked.clock n (clock_is m.clock n e)).apart (inside n i)
      by false e = left_apart (inputs m) (register_names m) n held (kept_name (λ name. not (is_clock m.clock name)) n (input_ports m) h (ap not e)) i

-- ---- the bits that are given, one input port after another

bit_drop : (w : List Bool) (k : ℕ) → bit (drop k w) 0 ≡ bit w k
bit_drop [] zero = refl
bit_drop [] (suc k) = refl
bit_drop (x ∷ w) zero = refl
bit_drop (x ∷ w) (suc k) = bit_drop w k

drop_next : (w : List Bool) (k : ℕ) → drop 1 (drop k w) ≡ drop (suc k) w
drop_next [] zero = refl
drop_next [] (suc k) = refl
drop_next (x ∷ w) zero = refl
drop_next (x ∷ w) (suc k) = drop_next w k

drop_one : (w : List Bool) (k : ℕ) → drop 1 (drop k w) ≡ drop (k + 1) w
drop_one w k = drop_next w k ∙ ap (λ (j : ℕ). drop j w) (sym (add-one k))

-- the first i names have their bits, of which these many were taken
pub record IsGiving (c : Option Name) (names : List Name) (held given : List Bool) (i taken : ℕ) : Type 0 where
  pub goes : given ++ with_clock c (drop i names) (drop taken held) ≡ with_clock c names held
  pub left : taken + length (but_clock c (drop i names)) ≡ length (but_clock c names)

pub none_given : (c : Option Name) (names : List Name) (held given : List Bool) → given ≡ [] → IsGiving c names held given 0 0
none_given c names held given e = record { goes = ap (λ (l : List Bool). l ++ with_clock c names held) e; left = omega arith }

module _ (c : Option Name) (names : List Name) (held old new : List Bool) (i taken : ℕ) (x : Name) (within : i < length names) (is : x ≡ slice_index_or names i x)
    (w : IsGiving c names held old i taken) where
  row : drop i names ≡ x ∷ drop (i + 1) names
  row = drop-cons names i x within ∙ ap (λ (y : Name). y ∷ drop (suc i) names) (sym is) ∙ ap (λ (j : ℕ). x ∷ drop j names) (sym (add-one i))

  pub gives_clock : is_clock c x ≡ true → new ≡ old ++ false ∷ [] → IsGiving c names held new (i + 1) taken
  gives_clock on push = record {
    goes = ap (λ (l : List Bool). l ++ with_clock c (drop (i + 1) names) (drop taken held)) push
        ∙ append_assoc old (false ∷ []) (with_clock c (drop (i + 1) names) (drop taken held))
        ∙ ap (λ (l : List Bool). old ++ l) (sym (ap (λ (ns : List Name). with_clock c ns (drop taken held)) row
        ∙ ap (λ (b : Bool). if b then false ∷ with_clock c (drop (i + 1) names) (drop taken held) else bit (drop taken held) 0 ∷ with_clock c (drop (i + 1) names) (drop 1 (drop taken held))) on))
        ∙ w.goes;
    left = ap (λ (n : ℕ). taken + n) (sym (ap (λ (ns : List Name). length (but_clock c ns)) row
        ∙ ap (λ (b : Bool). length (if not b then x ∷ but_clock c (drop (i + 1) names) else but_clock c (drop (i + 1) names))) on)) ∙ w.left;
  }

  rest_is : is_clock c x ≡ false → length (but_clock c (drop i names)) ≡ suc (length (but_clock c (drop (i + 1) names)))
  rest_is off =
      ap (λ (ns : List Name). length (but_clock c ns)) row
      ∙ ap (λ (b : Bool). length (if not b then x ∷ but_clock c (drop (i + 1) names) else but_clock c (drop (i + 1) names))) off

  pub gives_bit : is_clock c x ≡ false → new ≡ old ++ bit held taken ∷ [] → IsGiving c names held new (i + 1) (taken + 1)
  gives_bit off push = record {
    goes = ap (λ (l : List Bool). l ++ with_clock c (drop (i + 1) names) (drop (taken + 1) held)) push
        ∙ append_assoc old (bit held taken ∷ []) (with_clock c (drop (i + 1) names) (drop (taken + 1) held))
        ∙ ap (λ (l : List Bool). old ++ l) (sym (ap (λ (ns : List Name). with_clock c ns (drop taken held)) row
        ∙ ap (λ (b : Bool). if b then false ∷ with_clock c (drop (i + 1) names) (drop taken held) else bit (drop taken held) 0 ∷ with_clock c (drop (i + 1) names) (drop 1 (drop taken held))) off
        ∙ (λ j. bit_drop held taken j ∷ with_clock c (drop (i + 1) names) (drop_one held taken j))))
        ∙ w.goes;
    left = (let r = rest_is off in let l = w.left in omega (arith, r, l));
  }

  -- there is a bit to take
  pub has_bit : is_clock c x ≡ false → (n : ℕ) → length held ≡ length (but_clock c names) + n → taken < length held
  has_bit off n long = let r = rest_is off in let l = w.left in omega (arith, r, l, long)

pub all_given : (c : Option Name) (names : List Name) (held given : List Bool) (i taken : ℕ) → drop i names ≡ [] → IsGiving c names held given i taken
    → given ++ drop taken held ≡ with_clock c names held
all_given c names held given i taken end w = ap (λ (ns : List Name). given ++ with_clock c ns (drop taken held)) (sym end) ∙ w.goes

pub taken_within : (c : Option Name) (names : List Name) (held given : List Bool) (i taken : ℕ) → IsGiving c names held given i taken → (n : ℕ)
    → length held ≡ length (but_clock c names) + n → taken ≤ length held
taken_within c names held given i taken w n long = let l = w.left in omega (arith, l, long)

-- what is behind those that were taken, whole
pub drop_taken : (held : List Bool) (k : ℕ) → take (length held - k) (drop k held) ≡ drop k held
drop_taken held k = take_all (length held - k) (drop k held) (let l = length-drop k held in omega (arith, l))

-- there is a bit for each input but the clock, and for each register
pub counted : (m : Machine) (c : Option Name) (names : List Name) (held : List Bool) → c ≡ m.clock → names ≡ input_ports m → length held ≡ held_count m
    → length held ≡ length (but_clock c names) + length (register_names m)
counted m c names held ec en long = long ∙ length-append (inputs m) (register_names m) ∙ (λ j. length (but_clock (sym ec j) (sym en j)) + length (register_names m))

-- what a machine's inputs and registers are given
module _ (m : Machine) (checked : IsChecked m) (ports : AreInOrder (input_ports m)) (held given : List Bool) (long : length held ≡ held_count m)
    (is : given ≡ with_clock m.clock (input_ports m) held) where
  count : length held ≡ length (but_clock m.clock (input_ports m)) + length (register_names m)
  count = long ∙ length-append (inputs m) (register_names m)

  pub given_long : length given ≡ length (given_names m)
  given_long = ap length is ∙ length-with_clock m.clock (input_ports m) held (length (register_names m)) count ∙ sym (length-append (input_ports m) (register_names m))

  pub given_values : values_at (given_names m) given (held_names m) ≡ held
  given_values =
      ap (λ (l : List Bool). values_at (given_names m) l (held_names m)) is
      ∙ values_with_clock m.clock (input_ports m) (register_names m) held (given_different m checked ports) count
