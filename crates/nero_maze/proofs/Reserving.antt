-- For whom nodes are reserved, by the flags and the owners.
use Rattle.std.proofs.Common.{ℕ, zero, suc, ◌≡◌, ◌≢◌, ◌<◌, inl, inr, Bool, true, false, List, [], ◌∷◌, map, length, get_or, slice_index, arith, sym, ◌∙◌, ap, refl}
use Rattle.std.specs.Prelude.{cond}
use Rattle.std.proofs.lemmas.Bool.{cases_eq, cases_lt, eq-eqb}
use Rattle.std.proofs.lemmas.List.{get_or_past}
use Rattle.nero_maze.specs.Search.{is_owned, reserved_in}
use Rattle.nero_maze.proofs.Growth.{test_other}

-- what an index of a flag reads
pub flag_at : (r : List Bool) (i : ℕ) (flag : Bool) → i < length r → flag ≡ get_or r i flag → get_or r i false ≡ flag
flag_at [] i flag lt e = let no : ⊥ = omega arith in absurd no
flag_at (x ∷ r) zero flag lt e = sym e
flag_at (x ∷ r) (suc i) flag lt e = flag_at r i flag (omega arith) e

pub reserved_length : (o : List ℕ) (r : List Bool) → length (reserved_in o r) ≡ length o
unfolding reserved_in
reserved_length [] r = refl
reserved_length (x ∷ o) [] = ap suc (reserved_length o [])
reserved_length (x ∷ o) (f ∷ r) = ap suc (reserved_length o r)

pub reserved_at : (o : List ℕ) (r : List Bool) (v : ℕ) → v < length o → slice_index (reserved_in o r) v ≡ cond (get_or r v false) (slice_index o v) 4294967295
unfolding reserved_in
reserved_at [] r v lt = let no : ⊥ = omega arith in absurd no
reserved_at (x ∷ o) [] zero lt = refl
reserved_at (x ∷ o) (f ∷ r) zero lt = refl
reserved_at (x ∷ o) [] (suc v) lt = reserved_at o [] v (omega arith)
reserved_at (x ∷ o) (f ∷ r) (suc v) lt = reserved_at o r v (omega arith)

pub reserved_flagged : (o : List ℕ) (r : List Bool) (v : ℕ) → v < length o → get_or r v false ≡ true → slice_index (reserved_in o r) v ≡ slice_index o v
reserved_flagged o r v lt flag = reserved_at o r v lt ∙ rw flag refl

pub reserved_free : (o : List ℕ) (r : List Bool) (v : ℕ) → v < length o → get_or r v false ≡ false → slice_index (reserved_in o r) v ≡ 4294967295
reserved_free o r v lt flag = reserved_at o r v lt ∙ rw flag refl

-- by owners that are the same there
pub reserved_alike : (o o' : List ℕ) (r : List Bool) (v : ℕ) → v < length o → length o' ≡ length o → slice_index o' v ≡ slice_index o v
    → slice_index (reserved_in o' r) v ≡ slice_index (reserved_in o r) v
reserved_alike o o' r v lt size same =
    reserved_at o' r v (omega arith) ∙ (ap (λ (w : ℕ). cond (get_or r v false) w 4294967295) same ∙ sym (reserved_at o r v lt))

-- what is reserved stays as long as flagged nodes keep their owners
pub reserved_same : (o o' : List ℕ) (r : List Bool) → length o' ≡ length o
    → ((v : ℕ) → v < length o → get_or r v false ≡ true → slice_index o' v ≡ slice_index o v) → reserved_in o' r ≡ reserved_in o r
unfolding reserved_in
reserved_same [] [] r size same = refl
reserved_same [] (y ∷ ys) r size same = let no : ⊥ = omega arith in absurd no
reserved_same (x ∷ xs) [] r size same = let no : ⊥ = omega arith in absurd no
reserved_same (x ∷ xs) (y ∷ ys) [] size same =
    ap (λ (w : List ℕ). 4294967295 ∷ w) (reserved_same xs ys [] (omega arith) (λ v lt flag. same (suc v) (omega arith) flag))
reserved_same (x ∷ xs) (y ∷ ys) (false ∷ r) size same =
    ap (λ (w : List ℕ). 4294967295 ∷ w) (reserved_same xs ys r (omega arith) (λ v lt flag. same (suc v) (omega arith) flag))
reserved_same (x ∷ xs) (y ∷ ys) (true ∷ r) size same =
    let at : y ≡ x = same 0 (omega arith) refl in
    rw at (ap (λ (w : List ℕ). x ∷ w) (reserved_same xs ys r (omega arith) (λ v lt flag. same (suc v) (omega arith) flag)))

-- a node that is reserved for a net is its own
pub reserved_owner : (o : List ℕ) (r : List Bool) (v : ℕ) → slice_index (reserved_in o r) v ≢ 4294967295 → slice_index o v ≡ slice_index (reserved_in o r) v
reserved_owner o r v some = elim (cases_lt v (length o)) [
  | inl lt ↦ by (get_or r v false) refl lt
  | inr past ↦ (let e = reserved_length o r in get_or_past o v 0 past ∙ sym (get_or_past (reserved_in o r) v 0 (omega arith)))
]
  where
    by : (b : Bool) → get_or r v false ≡ b → v < length o → slice_index o v ≡ slice_index (reserved_in o r) v
    by true e lt = sym (reserved_flagged o r v lt e)
    by false e lt = absurd (some (reserved_free o r v lt e))

-- ---- as a router begins: nodes with owners are flagged
pub reserved_begun : (o : List ℕ) → reserved_in o (map is_owned o) ≡ o
unfolding reserved_in
reserved_begun [] = refl
reserved_begun (x ∷ o) =
    let rest = reserved_begun o in
    elim (cases_eq x 4294967295) [
      | inl e ↦ (let t = eq-eqb x 4294967295 e in rw (t, e, rest) refl)
      | inr ne ↦ (let t = test_other x 4294967295 ne in rw (t, rest) refl)
    ]

pub flagged_owned : (o : List ℕ) (v : ℕ) → get_or (map is_owned o) v false ≡ true → slice_index o v ≢ 4294967295
flagged_owned [] v flag e = absurd (cc flag)
flagged_owned (x ∷ o) zero flag e = let t = eq-eqb x 4294967295 e in let no : ◌≡◌ {A = Bool} false true = rw t at flag in absurd (cc no)
flagged_owned (x ∷ o) (suc v) flag e = flagged_owned o v flag e
