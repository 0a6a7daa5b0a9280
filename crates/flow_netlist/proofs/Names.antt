-- Names of a mapped netlist's instances, and of buffers behind them.
use Rattle.std.proofs.Common.{◌≡◌, ◌≢◌, inl, inr, ℕ, zero, suc, ◌+◌, Bool, true, false, not, ◌&&◌, cond, List, [], ◌∷◌, ◌++◌, map, filter, length, take, codes, bytes_eq, refl, sym, ◌∙◌, ap, subst, arith, append-nil, append_assoc}
use Rattle.std.specs.Prelude.{count_by}
use Rattle.std.proofs.lemmas.List.Sums.{sum_by-append, sum_by-cons}
use Rattle.vlsi_base.specs.Member.{In, here, there}
use Rattle.vlsi_base.specs.Range.{rising}
use Rattle.cell_model.specs.Access.{count_to}
use Rattle.cell_model.proofs.Members.{In-split, In-map_back}
use Rattle.net_core.specs.Places.{Stands}
use Rattle.net_core.proofs.Lookups.{same_of}
use Rattle.net_core.proofs.Standing.{Split, left, right, split}
use Rattle.net_meaning.specs.Agreement.{register_instance}
use Rattle.net_meaning.specs.Well.{gate_instance, buffer_instance}
use Rattle.net_meaning.specs.Order.{begins_with_g}
use Rattle.graph_theory.proofs.Names.{no_register_buffers, no_gate_buffers}
use Rattle.text_names.specs.Free.{is_free, free_texts}

-- ---- numbers that are counted

rising_last : (k n : ℕ) → rising k (suc n) ≡ rising k n ++ (k + n) ∷ []
rising_last k zero = let e : k + 0 ≡ k = omega arith in ap (λ (j : ℕ). j ∷ []) (sym e)
rising_last k (suc n) =
    let e : k + 1 + n ≡ k + suc n = omega arith in
    ap (λ (xs : List ℕ). k ∷ xs) (rising_last (k + 1) n) ∙ ap (λ (j : ℕ). k ∷ (rising (k + 1) n ++ j ∷ [])) e

counted : (n : ℕ) → rising 0 n ≡ count_to n
counted zero = refl
counted (suc n) = rising_last 0 n ∙ ap (λ (xs : List ℕ). xs ++ (0 + n) ∷ []) (counted n) ∙ by where
  by : count_to n ++ (0 + n) ∷ [] ≡ count_to n ++ n ∷ []
  by = let e : 0 + n ≡ n = omega arith in ap (λ (j : ℕ). count_to n ++ j ∷ []) e

first_rising : (n more k : ℕ) → take n (rising k (n + more)) ≡ rising k n
first_rising zero more k = refl
first_rising (suc n) more k = let e : suc n + more ≡ suc (n + more) = omega arith in rw e (ap (λ (xs : List ℕ). k ∷ xs) (first_rising n more (k + 1)))

all_pass : (t : ℕ → Bool) (xs : List ℕ) → ((x : ℕ) → t x ≡ true) → filter t xs ≡ xs
all_pass t [] each = refl
all_pass t (x ∷ xs) each = ap (λ (b : Bool). cond b (x ∷ filter t xs) (filter t xs)) (each x) ∙ ap (λ (ys : List ℕ). x ∷ ys) (all_pass t xs each)

-- ---- free names

no_text : (taken : List (List ℕ)) (text : List ℕ) → ((t : List ℕ) → In t taken → t ≢ text) → is_free taken text ≡ true
no_text [] text apart = refl
no_text (t ∷ taken) text apart = by (bytes_eq t text) refl (no_text taken text (λ u i. apart u (there i))) where
  by : (b : Bool) → bytes_eq t text ≡ b → is_free taken text ≡ true → (not b && is_free taken text) ≡ true
  by true e rest = absurd (apart t here (same_of t text e))
  by false e rest = rest

-- where no name of a buffer is taken, the free ones are the first ones
pub free_buffers : (taken : List (List ℕ)) (many : ℕ) → ((t : List ℕ) (k : ℕ) → In t taken → t ≢ buffer_instance k)
    → free_texts (codes "b") taken many ≡ map buffer_instance (count_to many)
free_buffers taken many apart = ap (map buffer_instance) (
    ap (take many) (all_pass (λ k. is_free taken (buffer_instance k)) (rising 0 (many + length taken)) (λ k. no_text taken (buffer_instance k) (λ t i. apart t k i)))
    ∙ first_rising many (length taken) 0
    ∙ counted many
    )

-- ---- registers, gates and buffers

abbrev pub registers_named : ℕ → List (List ℕ)
registers_named r = map register_instance (count_to r)

abbrev pub gates_named : ℕ → List (List ℕ)
gates_named g = map gate_instance (count_to g)

abbrev pub buffers_named : ℕ → List (List ℕ)
buffers_named b = map buffer_instance (count_to b)

-- the names of so many registers, gates and buffers
abbrev pub names_by : ℕ → ℕ → ℕ → List (List ℕ)
names_by r g b = registers_named r ++ (gates_named g ++ buffers_named b)

-- no register or gate has the name of a buffer
pub no_buffer_name : (r g : ℕ) (t : List ℕ) (k : ℕ) → In t (names_by r g 0) → t ≢ buffer_instance k
no_buffer_name r g t k i e = elim (In-split t (registers_named r) (gates_named g ++ []) i) [
  | inl a ↦ let x = In-map_back register_instance t (count_to r) a in no_register_buffers x.0 k (x.2 ∙ e)
  | inr b ↦ elim (In-split t (gates_named g) [] b) [
    | inl a ↦ let x = In-map_back gate_instance t (count_to g) a in no_gate_buffers x.0 k (x.2 ∙ e)
    | inr none ↦ elim none [ ]
  ]
]

-- with buffers behind registers and gates
pub names_behind : (r g many : ℕ) (old new : List (List ℕ)) → old ≡ names_by r g 0 → new ≡ old ++ free_texts (codes "b") old many → new ≡ names_by r g many
names_behind r g many old new is grown =
    grown
    ∙ ap (λ (xs : List (List ℕ)). old ++ xs) (free_buffers old many (λ t k i. no_buffer_name r g t k (subst (λ (xs : List (List ℕ)). In t xs) is i)))
    ∙ ap (λ (xs : List (List ℕ)). xs ++ buffers_named many) (is ∙ ap (λ (xs : List (List ℕ)). registers_named r ++ xs) (append-nil (gates_named g)))
    ∙ append_assoc (registers_named r) (gates_named g) (buffers_named many)

-- a gate stands among the old ones
pub gate_is_old : (r g many : ℕ) (old new : List (List ℕ)) (p k : ℕ) → old ≡ names_by r g 0 → new ≡ old ++ free_texts (codes "b") old many
    → Stands new p (gate_instance k) → Stands old p (gate_instance k)
gate_is_old r g many old new p k is grown at = by (split old (free_texts (codes "b") old many) p (gate_instance k) (subst (λ (xs : List (List ℕ)). Stands xs p (gate_instance k)) grown at)) where
  buffers : free_texts (codes "b") old many ≡ buffers_named many
  buffers = free_buffers old many (λ t j i. no_buffer_name r g t j (subst (λ (xs : List (List ℕ)). In t xs) is i))

  by : Split old (free_texts (codes "b") old many) p (gate_instance k) → Stands old p (gate_instance k)
  by (left s) = s
  by (right j e s) =
      let x = In-map_back buffer_instance (gate_instance k) (count_to many) (stands_in (buffers_named many) j (gate_instance k) (subst (λ (xs : List (List ℕ)). Stands xs j (gate_instance k)) buffers s)) in
      absurd (no_gate_buffers k x.0 (sym x.2)) where
        stands_in : (xs : List (List ℕ)) (i : ℕ) (t : List ℕ) → Stands xs i t → In t xs
        stands_in [] i t h = absurd cc
        stands_in (y ∷ xs) zero t h = let same : y ≡ t = cc h in subst (λ (z : List ℕ). In z (y ∷ xs)) same here
        stands_in (y ∷ xs) (suc i) t h = there (stands_in xs i t h)

-- ---- how many begin with g

buffers_count : (ks : List ℕ) → count_by begins_with_g (map buffer_instance ks) ≡ 0
buffers_count [] = refl
buffers_count (k ∷ ks) = buffers_count ks

pub gates_same : (r g many : ℕ) (old new : List (List ℕ)) → old ≡ names_by r g 0 → new ≡ old ++ free_texts (codes "b") old many
    → count_by begins_with_g new ≡ count_by begins_with_g old
gates_same r g many old new is grown =
    let buffers = free_buffers old many (λ t k i. no_buffer_name r g t k (subst (λ (xs : List (List ℕ)). In t xs) is i)) in
    let none = ap (λ (xs : List (List ℕ)). count_by begins_with_g xs) buffers ∙ buffers_count (count_to many) in
    let sum = sum_by-append (λ (t : List ℕ). cond (begins_with_g t) 1 0) old (free_texts (codes "b") old many) in
    let whole = ap (λ (xs : List (List ℕ)). count_by begins_with_g xs) grown in
    omega (arith, none, sum, whole)

-- instances are counted by their names
pub counted_by_name : {A : Type 0} (name : A → List ℕ) (xs : List A) → count_by (λ x. begins_with_g (name x)) xs ≡ count_by begins_with_g (map name xs)
counted_by_name name [] = refl
counted_by_name name (x ∷ xs) =
    let one = sum_by-cons (λ y. cond (begins_with_g (name y)) 1 0) x xs in
    let two = sum_by-cons (λ (t : List ℕ). cond (begins_with_g t) 1 0) (name x) (map name xs) in
    let rest = counted_by_name name xs in
    omega (arith, one, two, rest)
