-- Partitions, one after another.
use Rattle.std.proofs.Common.{◌≡◌, ℕ, zero, suc, ◌-◌, ◌<◌, ◌≤◌, List, [], ◌∷◌, ◌++◌, length, replicate, refl, sym, ap, ◌∙◌, subst, arith, length-append}
use Rattle.std.specs.List.{slice_index_or}
use Rattle.std.proofs.lemmas.List.{length-replicate, get_or_default}
use Rattle.fsm_merge.specs.Numbering.{nth, IsNumbering}
use Rattle.fmi_refine.specs.declared.round.Move.{Move}
use Rattle.fmi_refine.specs.declared.round.Partition.{Partition}
use Rattle.fmi_refine.specs.Refined.{IsRefined, level, AreLevels, last_level, IsStable}
use Rattle.fmi_refine.proofs.Places.{before, at_end}
use Rattle.fmi_refine.proofs.Growing.{not_fewer, stable, kept_few}

abbrev pub part : List ℕ → List ℕ → Partition
part of kept = record { state_of = of; kept = kept }

-- ---- one class

zero_at : (n s : ℕ) → nth (replicate n 0) s ≡ 0
zero_at zero s = refl
zero_at (suc n) zero = refl
zero_at (suc n) (suc s) = zero_at n s

one_numbering : (n : ℕ) → 0 < n → IsNumbering n (replicate n 0) (0 ∷ [])
one_numbering n some = record {
  each = length-replicate n 0;
  known = λ s l. (let z = zero_at n s in omega arith);
  own = λ p l. own p l;
  least = λ s l. subst (λ (k : ℕ). nth (0 ∷ []) k ≤ s) (sym (zero_at n s)) (omega arith);
  ordered = λ p q l m. absurd (omega arith);
} where
  own : (p : ℕ) → p < 1 → (nth (0 ∷ []) p < n) × (nth (replicate n 0) (nth (0 ∷ []) p) ≡ p)
  own zero l = (some, zero_at n 0)
  own (suc p) l = absurd (omega arith)

pub one_level : (rows : List (List Move)) → 0 < length rows → AreLevels rows (part (replicate (length rows) 0) (0 ∷ []) ∷ [])
one_level rows some = record {
  some = omega arith;
  first = λ s t. zero_at (length rows) s ∙ sym (zero_at (length rows) t);
  numbered = λ r l. numbered r l;
  refined = λ r l. absurd (omega arith);
  more = λ r l. more r l;
} where
  levels : List Partition
  levels = part (replicate (length rows) 0) (0 ∷ []) ∷ []

  numbered : (r : ℕ) → r < 1 → IsNumbering (length rows) (level levels r).state_of (level levels r).kept
  numbered zero l = one_numbering (length rows) some
  numbered (suc r) l = absurd (omega arith)

  more : (r : ℕ) → r < 1 → r < length (level levels r).kept
  more zero l = omega arith
  more (suc r) l = absurd (omega arith)

-- ---- one level more

level_before : (levels : List Partition) (p : Partition) (r : ℕ) → r < length levels → level (levels ++ p ∷ []) r ≡ level levels r
level_before levels p r l = before levels p (part [] []) r l

level_last : (levels : List Partition) (p : Partition) → level (levels ++ p ∷ []) (length levels) ≡ p
level_last levels p = at_end levels p (part [] [])

-- what holds of each partition holds with one more
pushed_level : (P : ℕ → Partition → Type 0) (levels : List Partition) (p : Partition) → ((r : ℕ) → r < length levels → P r (level levels r))
    → P (length levels) p
    → (r : ℕ) → r < suc (length levels) → P r (level (levels ++ p ∷ []) r)
pushed_level P [] p old new zero l = new
pushed_level P [] p old new (suc r) l = absurd (omega arith)
pushed_level P (q ∷ levels) p old new zero l = old 0 (omega arith)
pushed_level P (q ∷ levels) p old new (suc r) l = pushed_level (λ k x. P (suc k) x) levels p (λ k m. old (suc k) (omega arith)) new r (omega arith)

-- a partition is finer than the one before it, if there is one
abbrev IsFiner : List (List Move) → List Partition → ℕ → Partition → Type 0
IsFiner rows levels q p = (r : ℕ) → q ≡ suc r → IsRefined rows (level levels r).state_of (length rows) p.state_of p.kept

finer_before : (rows : List (List Move)) (levels : List Partition) (p : Partition) → AreLevels rows levels → (q : ℕ) → q < length levels
    → IsFiner rows (levels ++ p ∷ []) q (level levels q)
finer_before rows levels p h q l r e =
    let old = h.refined r (omega arith) in
    let here : level levels (suc r) ≡ level levels q = ap (level levels) (sym e) in
    subst (λ (x : Partition). IsRefined rows x.state_of (length rows) (level levels q).state_of (level levels q).kept)
    (sym (level_before levels p r (omega arith)))
    (subst (λ (x : Partition). IsRefined rows (level levels r).state_of (length rows) x.state_of x.kept) here old)

finer_last : (rows : List (List Move)) (levels : List Partition) (p : Partition) → IsRefined rows (last_level levels).state_of (length rows) p.state_of p.kept
    → IsFiner rows (levels ++ p ∷ []) (length levels) p
finer_last rows levels p new r e =
    let last : last_level levels ≡ level levels r = ap (level levels) (omega arith) in
    subst (λ (x : Partition). IsRefined rows x.state_of (length rows) p.state_of p.kept) (last ∙ sym (level_before levels p r (omega arith))) new

pub next_level : (rows : List (List Move)) (levels : List Partition) (p : Partition) → AreLevels rows levels
    → IsRefined rows (last_level levels).state_of (length rows) p.state_of p.kept → length (last_level levels).kept < length p.kept
    → AreLevels rows (levels ++ p ∷ [])
next_level rows levels p h new more =
    let grown = length-append levels (p ∷ []) in
    let some = h.some in
    let before_last = h.more (length levels - 1) (omega arith) in
    let numbered = pushed_level (λ r q. IsNumbering (length rows) q.state_of q.kept) levels p h.numbered new.numbered in
    let counts = pushed_level (λ r q. r < length q.kept) levels p h.more (omega arith) in
    let finer = pushed_level (IsFiner rows (levels ++ p ∷ [])) levels p (finer_before rows levels p h) (finer_last rows levels p new) in
    record {
      some = omega arith;
      first = λ s t. subst (λ (q : Partition). nth q.state_of s ≡ nth q.state_of t) (sym (level_before levels p 0 h.some)) (h.first s t);
      numbered = λ r l. numbered r (omega arith);
      refined = λ r l. finer (suc r) (omega arith) r refl;
      more = λ r l. counts r (omega arith);
    }

last_numbered : (rows : List (List Move)) (levels : List Partition) → AreLevels rows levels
    → IsNumbering (length rows) (last_level levels).state_of (last_level levels).kept
last_numbered rows levels h = let some = h.some in h.numbered (length levels - 1) (omega arith)

-- a round that doesn't leave as many classes leaves more
pub more_classes : (rows : List (List Move)) (levels : List Partition) (p : Partition) → AreLevels rows levels
    → IsRefined rows (last_level levels).state_of (length rows) p.state_of p.kept → (length p.kept ≡ length (last_level levels).kept → ⊥)
    → length (last_level levels).kept < length p.kept
more_classes rows levels p h new other =
    let low = not_fewer rows (length rows) (last_level levels).state_of (last_level levels).kept p.state_of p.kept (last_numbered rows levels h) new in
    grind (arith, low, other)

pub are_stable : (rows : List (List Move)) (levels : List Partition) (p : Partition) → AreLevels rows levels
    → IsRefined rows (last_level levels).state_of (length rows) p.state_of p.kept → length p.kept ≡ length (last_level levels).kept → IsStable rows levels
are_stable rows levels p h new same =
    stable rows (length rows) (last_level levels).state_of (last_level levels).kept p.state_of p.kept (last_numbered rows levels h) new same

-- no partition has more classes than there are states
pub few_classes : (rows : List (List Move)) (levels : List Partition) → AreLevels rows levels → length (last_level levels).kept ≤ length rows
few_classes rows levels h = kept_few (length rows) (last_level levels).state_of (last_level levels).kept (last_numbered rows levels h)

-- ---- a round over the last partition

-- what is read at the last place is the last partition
pub read_last : (levels : List Partition) (q : Partition) (m : ℕ) → 0 < length levels → m ≡ length levels → q ≡ slice_index_or levels (m - 1) q
    → q ≡ last_level levels
read_last levels q m some e h =
    let place : m - 1 ≡ length levels - 1 = ap (λ (k : ℕ). k - 1) e in
    let low : m - 1 < length levels = omega (arith, e, some) in
    h ∙ get_or_default levels (m - 1) q (part [] []) low ∙ ap (level levels) place

pub from_last : (rows : List (List Move)) (levels : List Partition) (q p : Partition) (of : List ℕ) → q ≡ last_level levels → of ≡ q.state_of
    → IsRefined rows of (length rows) p.state_of p.kept → IsRefined rows (last_level levels).state_of (length rows) p.state_of p.kept
from_last rows levels q p of e f h =
    subst (λ (x : List ℕ). IsRefined rows x (length rows) p.state_of p.kept) (f ∙ ap (λ (x : Partition). x.state_of) e) h

pub same_count : (levels : List Partition) (q p : Partition) (us vs : List ℕ) → q ≡ last_level levels → us ≡ p.kept → vs ≡ q.kept → length us ≡ length vs
    → length p.kept ≡ length (last_level levels).kept
same_count levels q p us vs e f g same = sym (ap length f) ∙ same ∙ ap length g ∙ ap (λ (x : Partition). length x.kept) e

pub other_count : (levels : List Partition) (q p : Partition) (us vs : List ℕ) → q ≡ last_level levels → us ≡ p.kept → vs ≡ q.kept → (length us ≡ length vs → ⊥)
    → length p.kept ≡ length (last_level levels).kept → ⊥
other_count levels q p us vs e f g other same = other (ap length f ∙ same ∙ sym (ap (λ (x : Partition). length x.kept) e) ∙ sym (ap length g))

last_pushed : (levels : List Partition) (p : Partition) → last_level (levels ++ p ∷ []) ≡ p
last_pushed levels p =
    let grown = length-append levels (p ∷ []) in
    let place : length (levels ++ p ∷ []) - 1 ≡ length levels = omega (arith, grown) in
    ap (level (levels ++ p ∷ [])) place ∙ level_last levels p

-- with a partition more, fewer classes are left to find
pub fewer_left : (rows : List (List Move)) (levels : List Partition) (p : Partition) → AreLevels rows (levels ++ p ∷ [])
    → length (last_level levels).kept < length p.kept
    → length rows - length (last_level (levels ++ p ∷ [])).kept < length rows - length (last_level levels).kept
fewer_left rows levels p h more =
    let few = few_classes rows (levels ++ p ∷ []) h in
    let same : length (last_level (levels ++ p ∷ [])).kept ≡ length p.kept = ap (λ (x : Partition). length x.kept) (last_pushed levels p) in
    omega (arith, few, same, more)
