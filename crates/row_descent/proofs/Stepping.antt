-- Steps of the descent, one after another.
use Rattle.std.proofs.Common.{◌≡◌, ◌⊎◌, inl, inr, ℕ, zero, suc, ◌+◌, ◌≤◌, ◌<◌, Bool, true, false, cond, List, [], ◌∷◌, length, nat_lt, refl, sym, ap, ◌∙◌, subst, ltb-true, ltb-false, true≢false, arith}
use Rattle.std.proofs.lemmas.Bool.{cases_lt}
use Rattle.std.proofs.lemmas.List.Sorted.{length_permutation}
use Rattle.row_meaning.specs.Rows.{row_at, exchanged_row, exchanged, HaveSameCells}
use Rattle.row_meaning.specs.Length.{Block, hp, IsStable}
use Rattle.row_meaning.proofs.Exchanging.{same_itself, same_then, same_exchanged}
use Rattle.row_descent.specs.Steps.{IsStep}

-- what `lowers` did
pub step_of : (b : Block) (old new : List (List ℕ)) (r k : ℕ) (changed : Bool) → changed ≡ nat_lt (hp b (exchanged old r k)) (hp b old)
    → new ≡ cond changed (exchanged old r k) old → IsStep b old new changed
step_of b old new r k true e is = record {
  same = subst (HaveSameCells old) (sym is) (same_exchanged old r k);
  kept = λ n. absurd (true≢false n);
  lower = λ n. let l = ltb-true (hp b (exchanged old r k)) (hp b old) (sym e) in let m = ap (hp b) is in omega arith;
}
step_of b old new r k false e is = record {
  same = subst (HaveSameCells old) (sym is) (same_itself old);
  kept = λ n. is;
  lower = λ n. absurd (true≢false (sym n));
}

pub stays_of : (b : Block) (old : List (List ℕ)) (r k : ℕ) (changed : Bool) → changed ≡ nat_lt (hp b (exchanged old r k)) (hp b old)
    → changed ≡ false → hp b old ≤ hp b (exchanged old r k)
stays_of b old r k changed e n = ltb-false (hp b (exchanged old r k)) (hp b old) (sym e ∙ n)

pub no_step : (b : Block) (rows : List (List ℕ)) → IsStep b rows rows false
no_step b rows = record { same = same_itself rows; kept = λ n. refl; lower = λ n. absurd (true≢false (sym n)) }

-- two steps: with a change, and without one in the second
pub step_more : (b : Block) (old mid new : List (List ℕ)) (before : Bool) → IsStep b old mid before → IsStep b mid new true → IsStep b old new true
step_more b old mid new before g h = record {
  same = same_then old mid new g.same h.same;
  kept = λ n. absurd (true≢false n);
  lower = λ n. by before g (h.lower refl);
} where
  by : (t : Bool) → IsStep b old mid t → hp b new < hp b mid → hp b new < hp b old
  by true g l = let m = g.lower refl in omega arith
  by false g l = let m = ap (hp b) (g.kept refl) in omega arith

pub step_none : (b : Block) (old mid new : List (List ℕ)) (before : Bool) → IsStep b old mid before → IsStep b mid new false → IsStep b old new before
step_none b old mid new before g h = subst (λ (rows : List (List ℕ)). IsStep b old rows before) (sym (h.kept refl)) g

-- rows keep their lengths
pub length_kept : (old new : List (List ℕ)) (r : ℕ) → HaveSameCells old new → length (row_at new r) ≡ length (row_at old r)
length_kept old new r h = length_permutation (row_at old r) (row_at new r) (h.each r)

-- places beyond a row's end, and rows beyond the last
pub row_past : (row : List ℕ) (k : ℕ) → length row ≤ suc k → exchanged_row row k ≡ row
row_past [] k l = refl
row_past (a ∷ []) k l = refl
row_past (a ∷ c ∷ row) zero l = absurd (omega arith)
row_past (a ∷ c ∷ row) (suc k) l = ap (λ (xs : List ℕ). a ∷ xs) (row_past (c ∷ row) k (omega arith))

pub rows_past : (rows : List (List ℕ)) (r k : ℕ) → length (row_at rows r) ≤ suc k → exchanged rows r k ≡ rows
rows_past [] r k l = refl
rows_past (row ∷ rows) zero k l = ap (λ (one : List ℕ). one ∷ rows) (row_past row k l)
rows_past (row ∷ rows) (suc r) k l = ap (λ (more : List (List ℕ)). row ∷ more) (rows_past rows r k l)

pub none_past : (rows : List (List ℕ)) (r : ℕ) → length rows ≤ r → length (row_at rows r) ≡ 0
none_past [] r l = refl
none_past (row ∷ rows) zero l = absurd (omega arith)
none_past (row ∷ rows) (suc r) l = none_past rows r (omega arith)

-- no exchange within a row lowers the length
abbrev pub RowStays : Block → List (List ℕ) → ℕ → Type 0
RowStays b rows r = (k : ℕ) → k + 1 < length (row_at rows r) → hp b rows ≤ hp b (exchanged rows r k)

pub stable_then : (b : Block) (rows : List (List ℕ)) → ((r : ℕ) → r < length rows → RowStays b rows r) → IsStable (hp b) rows
stable_then b rows h = record { least = λ r k. by r k (cases_lt (suc k) (length (row_at rows r))) (cases_lt r (length rows)) } where
  same : (r k : ℕ) → length (row_at rows r) ≤ suc k → hp b rows ≤ hp b (exchanged rows r k)
  same r k l = let e = ap (hp b) (rows_past rows r k l) in omega arith

  by : (r k : ℕ) → (suc k < length (row_at rows r)) ⊎ (length (row_at rows r) ≤ suc k) → (r < length rows) ⊎ (length rows ≤ r) → hp b rows ≤ hp b (exchanged rows r k)
  by r k (inr l) g = same r k l
  by r k (inl l) (inr m) = same r k (let e = none_past rows r m in omega arith)
  by r k (inl l) (inl m) = h r m k (omega arith)

-- ---- a loop that notes whether there was a change

pub step_then : (b : Block) (old mid new : List (List ℕ)) (before result after : Bool) → after ≡ cond result true before
    → IsStep b old mid before → IsStep b mid new result → IsStep b old new after
step_then b old mid new before true after e g h = subst (λ (t : Bool). IsStep b old new t) (sym e) (step_more b old mid new before g h)
step_then b old mid new before false after e g h = subst (λ (t : Bool). IsStep b old new t) (sym e) (step_none b old mid new before g h)

pub stays_more : (Q : List (List ℕ) → ℕ → Type 0) (b : Block) (old mid : List (List ℕ)) (n : ℕ) (before result after : Bool) → after ≡ cond result true before
    → IsStep b old mid before → (before ≡ false → (k : ℕ) → k < n → Q old k) → (result ≡ false → Q mid n)
    → after ≡ false → (k : ℕ) → k < n + 1 → Q old k
stays_more Q b old mid n before true after e step far here none k l = absurd (true≢false (sym e ∙ none))
stays_more Q b old mid n before false after e step far here none k l = by (cases_lt k n) where
  still : before ≡ false
  still = sym e ∙ none

  by : (k < n) ⊎ (n ≤ k) → Q old k
  by (inl m) = far still k m
  by (inr m) =
      let is : k ≡ n = omega arith in
      let at_old : Q old n = subst (λ (rows : List (List ℕ)). Q rows n) (step.kept still) (here refl) in
      let P : ℕ → Type 0 = λ j. Q old j in
      subst P (sym is) at_old

pub stable_at : (b : Block) (old new : List (List ℕ)) (n : ℕ) (changed : Bool) → IsStep b old new changed → length old ≤ n
    → (changed ≡ false → (r : ℕ) → r < n → RowStays b old r) → changed ≡ false → IsStable (hp b) new
stable_at b old new n changed step all far none =
    subst (λ (rows : List (List ℕ)). IsStable (hp b) rows) (sym (step.kept none)) (stable_then b old (λ r l. far none r (omega arith)))
