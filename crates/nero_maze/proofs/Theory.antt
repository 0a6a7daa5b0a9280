-- Why a search by levels finds the least cost, and finds that there is no path.
use Rattle.std.proofs.Common.{ℕ, zero, suc, ◌≡◌, ◌≢◌, ◌+◌, ◌-◌, ◌<◌, ◌≤◌, ◌⊎◌, inl, inr, List, [], ◌∷◌, length, get_or, set, Some, slice_index, arith, sym, ◌∙◌, ap, refl, subst, get_or-set_same, get_or-set_other, length-set, add-one}
use Rattle.std.proofs.lemmas.Bool.{cases_lt, cases_eq}
use Rattle.grid_core.specs.declared.grid.Grid.{Grid}
use Rattle.nero_maze.specs.Ways.{next, weight, opposite}
use Rattle.nero_maze.specs.Search.{IsFree, LeadsTo, Trace, Kept, Stays, Grown, Reached, zeros}

pub zeros-set : (xs : List ℕ) (i x : ℕ) → get_or xs i 0 ≡ 0 → i < length xs → zeros (set xs i (suc x)) + 1 ≡ zeros xs
zeros-set [] i x e h = omega arith
zeros-set (zero ∷ xs) zero x e h = omega arith
zeros-set (suc y ∷ xs) zero x e h = omega arith
zeros-set (zero ∷ xs) (suc i) x e h =
    let h' : i < length xs = omega arith in
    let r = zeros-set xs i x e h' in omega arith
zeros-set (suc y ∷ xs) (suc i) x e h =
    let h' : i < length xs = omega arith in zeros-set xs i x e h'

pub weight_step : (k : ℕ) → k < 2 → weight k ≡ 1
weight_step zero h = refl
weight_step (suc zero) h = refl
weight_step (suc (suc k)) h = omega arith

pub weight_via : (k : ℕ) → 2 ≤ k → weight k ≡ 3
weight_via zero h = omega arith
weight_via (suc zero) h = omega arith
weight_via (suc (suc k)) h = refl

pub weight_most : (k : ℕ) → weight k ≤ 3
weight_most zero = omega arith
weight_most (suc zero) = omega arith
weight_most (suc (suc k)) = omega arith

-- a trace leads to the target, and marks that stay keep it
pub leads-trace : (g : Grid) (owners : List ℕ) (net target : ℕ) (marks : List ℕ)
    (v : ℕ) (back : List ℕ) (c : ℕ) → Trace g owners net marks target v back c → LeadsTo g owners net target v back c
leads-trace g o n z m v [] c t = (t.1, t.2)
leads-trace g o n z m v (u ∷ back) c (free, (k, below, is, _, _, (b, t, e))) =
    (free, (k, below, is, (b, leads-trace g o n z m u back b t, e)))

pub Trace-more : (g : Grid) (owners : List ℕ) (net target : ℕ) (marks marks' : List ℕ)
    → ((v : ℕ) → slice_index marks v ≢ 0 → slice_index marks' v ≡ slice_index marks v)
    → (v : ℕ) (back : List ℕ) (c : ℕ) → Trace g owners net marks target v back c → Trace g owners net marks' target v back c
Trace-more g o n z m m' f v [] c t =
    let t0 = t.0 in
    let ne : slice_index m v ≢ 0 = omega arith in (f v ne ∙ t0, t.1, t.2)
Trace-more g o n z m m' f v (u ∷ back) c (free, (k, below, is, mark, from, (b, t, e))) =
    let ne : slice_index m v ≢ 0 = omega arith in
    (free, (k, below, is, f v ne ∙ mark, from, (b, Trace-more g o n z m m' f u back b t, e)))

-- ---- marks of a level
pub Stays-on : (a b c : ℕ) → Stays a b → Stays b c → Stays a c
Stays-on a b c (inl e) (inl f) = inl (f ∙ e)
Stays-on a b c (inl e) (inr (x, y)) = inr (omega arith, y)
Stays-on a b c (inr (x, y)) (inl f) = inr (x, omega arith)
Stays-on a b c (inr (x, y)) (inr (z, w)) = inr (x, w)

pub still_fresh : (a b : ℕ) → 8 < a → Stays a b → 8 < b
still_fresh a b h (inl e) = omega arith
still_fresh a b h (inr (x, y)) = y

still_some : (a b : ℕ) → a ≢ 0 → Stays a b → b ≢ 0
still_some a b ne (inl e) = omega arith
still_some a b ne (inr (x, y)) = omega arith

-- a marked node stays marked
pub mark_stays : (g : Grid) (o : List ℕ) (t : ℕ) (h : ℕ → ℕ) (rise from to : ℕ) (ord m : List ℕ) (n : ℕ) (ord' m' : List ℕ) (n' : ℕ)
    → Grown g o t h rise from to ord m n ord' m' n' → (v : ℕ) → slice_index m v ≢ 0 → slice_index m' v ≢ 0
mark_stays g o t h rise from to ord m n ord' m' n' gr v ne = still_some (slice_index m v) (slice_index m' v) ne (gr.stays v ne)

pub unmarked_before : (g : Grid) (o : List ℕ) (t : ℕ) (h : ℕ → ℕ) (rise from to : ℕ) (ord m : List ℕ) (n : ℕ) (ord' m' : List ℕ) (n' : ℕ)
    → Grown g o t h rise from to ord m n ord' m' n' → (v : ℕ) → slice_index m' v ≡ 0 → slice_index m v ≡ 0
unmarked_before g o t h rise from to ord m n ord' m' n' gr v z =
    elim (cases_eq (slice_index m v) 0) [ inl e ↦ e | inr ne ↦ (let e = mark_stays g o t h rise from to ord m n ord' m' n' gr v ne in absurd (e z)) ]

-- how an entry was reached is told by later arrays too, where its mark stays
Reached-more : (g : Grid) (o : List ℕ) (t : ℕ) (h : ℕ → ℕ) (rise from to : ℕ) (ord m : List ℕ) (n : ℕ) (ord' m' : List ℕ) → to ≤ n
    → ((i : ℕ) → i < n → slice_index ord' i ≡ slice_index ord i) → (i : ℕ) → i < n → slice_index m' (slice_index ord' i) ≡ slice_index m (slice_index ord' i)
    → Reached g o t h rise ord m from to i → Reached g o t h rise ord' m' from to i
Reached-more g o t h rise from to ord m n ord' m' tn prefix i lt same (j, fj, jt, (k, k4, mark, is, from_is, free, sum)) =
    let jn : j < n = omega arith in
    let ei = prefix i lt in
    let ej = prefix j jn in
    (j, fj, jt, (k, k4, same ∙ rw ei mark, rw (ei, ej) is, rw (ei, ej) from_is, rw ei free, rw (ei, ej) sum))

pub Grown-step : (g : Grid) (o : List ℕ) (t : ℕ) (h : ℕ → ℕ) (rise from to from' to' : ℕ) (ord m : List ℕ) (n : ℕ) (ord1 m1 : List ℕ) (n1 : ℕ) (ord2 m2 : List ℕ) (n2 : ℕ) → to ≤ n
    → Grown g o t h rise from to ord m n ord1 m1 n1 → Grown g o t h rise from' to' ord1 m1 n1 ord2 m2 n2
    → from ≤ from' → to' ≤ to → Grown g o t h rise from to ord m n ord2 m2 n2
Grown-step g o t h rise from to from' to' ord m n ord1 m1 n1 ord2 m2 n2 tn gr gr2 ff tt' =
    let more1 = gr.more in
    let more2 = gr2.more in
    record {
      more = omega arith;
      size = gr2.size ∙ gr.size;
      prefix = λ i lt. let lt1 : i < n1 = omega arith in gr2.prefix i lt1 ∙ gr.prefix i lt;
      stays = λ v ne. Stays-on (slice_index m v) (slice_index m1 v) (slice_index m2 v) (gr.stays v ne) (gr2.stays v (mark_stays g o t h rise from to ord m n ord1 m1 n1 gr v ne));
      fresh = λ i ni lt. elim (cases_lt i n1) [
        | inl l1 ↦ (
            let f = gr.fresh i ni l1 in
            let f1 = f.1 in
            let ne : slice_index m1 (slice_index ord1 i) ≢ 0 = omega arith in
            let p = gr2.prefix i l1 in
            (rw p f.0, rw p (still_fresh (slice_index m1 (slice_index ord1 i)) (slice_index m2 (slice_index ord1 i)) f1 (gr2.stays (slice_index ord1 i) ne))))
        | inr g1 ↦ (let f = gr2.fresh i g1 lt in (unmarked_before g o t h rise from to ord m n ord1 m1 n1 gr (slice_index ord2 i) f.0, f.1))
      ];
      reached = λ i lt fresh. elim (gr2.reached i lt fresh) [
        | inl r ↦ (
            let (j', a1, a2, (k', k4, mark, is, from_is, free, sum)) = r in
            inl (j', omega arith, omega arith, (k', k4, mark, is, from_is, free, sum)))
        | inr r ↦ (
            let l1 = r.0 in
            let same = r.1 in
            let p = gr2.prefix i l1 in
            let here : 8 < slice_index m1 (slice_index ord2 i) = omega arith in
            let fresh1 : 8 < slice_index m1 (slice_index ord1 i) = subst (λ (x : ℕ). 8 < slice_index m1 x) p here in
            elim (gr.reached i l1 fresh1) [
              | inl r1 ↦ inl (Reached-more g o t h rise from to ord1 m1 n1 ord2 m2 (omega arith) gr2.prefix i l1 same r1)
              | inr r0 ↦ inr (r0.0, same ∙ rw p r0.1)
            ])
      ];
    }

-- nothing added
pub Grown-none : (g : Grid) (o : List ℕ) (t : ℕ) (h : ℕ → ℕ) (rise from to : ℕ) (ord m : List ℕ) (n : ℕ) → Grown g o t h rise from to ord m n ord m n
Grown-none g o t h rise from to ord m n =
    record {
      more = omega arith;
      size = refl;
      prefix = λ i lt. refl;
      stays = λ v ne. inl refl;
      fresh = λ i ni lt. (let no : ⊥ = omega arith in absurd no);
      reached = λ i lt fresh. inr (lt, refl);
    }

-- one node more
pub room : (ord m : List ℕ) (n to : ℕ) → Kept ord m n → to < length m → slice_index m to ≡ 0 → n < length m
room ord m n to kept lt z =
    let e = zeros-set m to 0 z lt in
    let f = kept.full in omega arith

pub Kept-more : (ord m : List ℕ) (n to way : ℕ) → Kept ord m n → to < length m → slice_index m to ≡ 0
    → Kept (set ord n to) (set m to (way + 1)) (n + 1)
Kept-more ord m n to way kept lt z =
    let len = kept.same in
    let n_lt : n < length ord = let r = room ord m n to kept lt z in omega arith in
    let same_n = get_or-set_same ord n to 0 n_lt in
    let same_to = get_or-set_same m to (way + 1) 0 lt in
    let len_m = length-set m to (way + 1) in
    let len_o = length-set ord n to in
    record {
      same = len_o ∙ len ∙ sym len_m;
      full = (let e = zeros-set m to way z lt in let f = kept.full in rw (len_m, add-one way) (omega arith));
      listed = λ i below. elim (cases_eq i n) [
        | inl e ↦ rw (len_m, e, same_n) lt
        | inr ne ↦ (let below' : i < n = omega arith in rw (len_m, get_or-set_other ord n i to 0 ne) (kept.listed i below'))
      ];
      marked = λ i below. elim (cases_eq i n) [
        | inl e ↦ rw (e, same_n, same_to) (omega arith)
        | inr ne ↦ (let below' : i < n = omega arith in
            let old = kept.marked i below' in
            let other : get_or ord i 0 ≢ to = λ e. old (ap (λ x. slice_index m x) e ∙ z) in
            rw (get_or-set_other ord n i to 0 ne, get_or-set_other m to (get_or ord i 0) (way + 1) 0 other) old)
      ];
      found = λ v ne. elim (cases_eq v to) [
        | inl e ↦ (n, omega arith, same_n ∙ sym e)
        | inr other ↦ (
            let old : slice_index m v ≢ 0 = rw (get_or-set_other m to v (way + 1) 0 other) at ne in
            let (i, below, at_i) = kept.found v old in
            let ni : i ≢ n = omega arith in
            (i, omega arith, get_or-set_other ord n i to 0 ni ∙ at_i))
      ];
      apart = λ i j lt_ij below.
          let i_n : i < n = omega arith in
          let ni : i ≢ n = omega arith in
          let old_i = get_or-set_other ord n i to 0 ni in
          elim (cases_eq j n) [
            | inl e ↦ (λ same. kept.marked i i_n (ap (λ x. slice_index m x) (sym old_i ∙ (same ∙ (ap (λ k. get_or (set ord n to) k 0) e ∙ same_n))) ∙ z))
            | inr ne ↦ (let j_n : j < n = omega arith in λ same. kept.apart i j lt_ij j_n (sym old_i ∙ (same ∙ get_or-set_other ord n j to 0 ne)))
          ];
    }

pub Grown-one : (g : Grid) (o : List ℕ) (t : ℕ) (h : ℕ → ℕ) (rise at way : ℕ) (ord m : List ℕ) (n to : ℕ) → Kept ord m n
    → at < n → to < length m → slice_index m to ≡ 0 → next g (slice_index ord at) way ≡ Some to
    → next g to (opposite way) ≡ Some (slice_index ord at) → IsFree o t to → way < 4
    → weight way + h to ≡ rise + h (slice_index ord at)
    → Grown g o t h rise at (at + 1) ord m n (set ord n to) (set m to (way + 9)) (n + 1)
Grown-one g o t h rise at way ord m n to kept at_lt lt z is back free w4 sum =
    let len = kept.same in
    let n_lt : n < length ord = let r = room ord m n to kept lt z in omega arith in
    let same_n = get_or-set_same ord n to 0 n_lt in
    let same_to = get_or-set_same m to (way + 9) 0 lt in
    let at_ne : at ≢ n = omega arith in
    let same_at = get_or-set_other ord n at to 0 at_ne in
    record {
      more = omega arith;
      size = length-set m to (way + 9);
      prefix = λ i below. let ne : i ≢ n = omega arith in get_or-set_other ord n i to 0 ne;
      stays = λ v ne. let other : v ≢ to = (λ e. ne (ap (λ x. slice_index m x) e ∙ z)) in inl (get_or-set_other m to v (way + 9) 0 other);
      fresh = λ i ni below. let e : i ≡ n = omega arith in (rw (e, same_n) z, rw (e, same_n, same_to) (omega arith));
      reached = λ i below fresh. elim (cases_eq i n) [
        | inl e ↦ inl (
          at,
          omega arith,
          omega arith,
          (
            way,
            w4,
            rw (e, same_n) same_to,
            rw (e, same_n, same_at) is,
            rw (e, same_n, same_at) back,
            rw (e, same_n) free,
            rw (e, same_n, same_at) sum,
          ),
        )
        | inr ne ↦ (
            let less : i < n = omega arith in
            let p = get_or-set_other ord n i to 0 ne in
            let marked = kept.marked i less in
            let other : slice_index ord i ≢ to = λ e. marked (ap (λ x. slice_index m x) e ∙ z) in
            inr (less, rw p (get_or-set_other m to (slice_index ord i) (way + 9) 0 other)))
      ];
    }

-- a node of this level that is reached another way
zeros-again : (xs : List ℕ) (i x : ℕ) → get_or xs i 0 ≢ 0 → zeros (set xs i (suc x)) ≡ zeros xs
zeros-again [] i x ne = refl
zeros-again (zero ∷ xs) zero x ne = absurd (ne refl)
zeros-again (suc y ∷ xs) zero x ne = refl
zeros-again (zero ∷ xs) (suc i) x ne = ap suc (zeros-again xs i x ne)
zeros-again (suc y ∷ xs) (suc i) x ne = zeros-again xs i x ne

pub Kept-again : (ord m : List ℕ) (n to x : ℕ) → Kept ord m n → to < length m → slice_index m to ≢ 0 → Kept ord (set m to (x + 1)) n
Kept-again ord m n to x kept lt ne =
    let same_to = get_or-set_same m to (x + 1) 0 lt in
    let len_m = length-set m to (x + 1) in
    record {
      same = kept.same ∙ sym len_m;
      full = (let e = zeros-again m to x ne in let f = kept.full in rw (len_m, add-one x, e) f);
      listed = λ i below. rw len_m (kept.listed i below);
      marked = λ i below. elim (cases_eq (slice_index ord i) to) [
        | inl e ↦ rw (e, same_to) (omega arith)
        | inr other ↦ rw (get_or-set_other m to (slice_index ord i) (x + 1) 0 other) (kept.marked i below)
      ];
      found = λ v some. elim (cases_eq v to) [
        | inl e ↦ (let f = kept.found to ne in (f.0, f.1, f.2 ∙ sym e))
        | inr other ↦ kept.found v (rw (get_or-set_other m to v (x + 1) 0 other) at some)
      ];
      apart = kept.apart;
    }

Grown-again : (g : Grid) (o : List ℕ) (t : ℕ) (h : ℕ → ℕ) (rise at way : ℕ) (ord m : List ℕ) (n to : ℕ)
    → at < n → to < length m → 8 < slice_index m to → next g (slice_index ord at) way ≡ Some to
    → next g to (opposite way) ≡ Some (slice_index ord at) → IsFree o t to → way < 4
    → weight way + h to ≡ rise + h (slice_index ord at)
    → Grown g o t h rise at (at + 1) ord m n ord (set m to (way + 9)) n
Grown-again g o t h rise at way ord m n to at_lt lt fresh is back free w4 sum =
    let same_to = get_or-set_same m to (way + 9) 0 lt in
    record {
      more = omega arith;
      size = length-set m to (way + 9);
      prefix = λ i below. refl;
      stays = λ v ne. elim (cases_eq v to) [
        | inl e ↦ inr (rw e fresh, rw (e, same_to) (omega arith))
        | inr other ↦ inl (get_or-set_other m to v (way + 9) 0 other)
      ];
      fresh = λ i ni lt. (let no : ⊥ = omega arith in absurd no);
      reached = λ i below high. elim (cases_eq (slice_index ord i) to) [
        | inl e ↦ inl (at, omega arith, omega arith, (way, w4, rw e same_to, rw e is, rw e back, rw e free, rw e sum))
        | inr other ↦ inr (below, get_or-set_other m to (slice_index ord i) (way + 9) 0 other)
      ];
    }

pub Grown-prefer : (g : Grid) (o : List ℕ) (t : ℕ) (h : ℕ → ℕ) (rise at way mark : ℕ) (ord m : List ℕ) (n to : ℕ) (ord' m' : List ℕ) (n' : ℕ)
    → at < n → to < length m → 8 < slice_index m to → next g (slice_index ord at) way ≡ Some to
    → next g to (opposite way) ≡ Some (slice_index ord at) → IsFree o t to → way < 4
    → weight way + h to ≡ rise + h (slice_index ord at) → mark ≡ way + 9
    → ord' ≡ ord → n' ≡ n → (m' ≡ m) ⊎ (m' ≡ set m to mark)
    → Grown g o t h rise at (at + 1) ord m n ord' m' n'
Grown-prefer g o t h rise at way mark ord m n to ord' m' n' at_lt lt fresh is back free w4 sum nine eo en either = rw (eo, en) (elim either [
  | inl e ↦ rw e (Grown-none g o t h rise at (at + 1) ord m n)
  | inr e ↦ rw (e, nine) (Grown-again g o t h rise at way ord m n to at_lt lt fresh is back free w4 sum)
])

-- where the walk goes from a node that is not the target
pub trace_step : (g : Grid) (o : List ℕ) (t : ℕ) (m : List ℕ) (z v : ℕ) (rest : List ℕ) (c : ℕ) → Trace g o t m z v rest c → slice_index m v ≢ 5
    → (u : ℕ) × (q : List ℕ) × (rest ≡ u ∷ q) × (1 ≤ slice_index m v) × (slice_index m v - 1 < 4)
    × (next g v (opposite (slice_index m v - 1)) ≡ Some u) × (weight (slice_index m v - 1) ≤ c) × Trace g o t m z u q (c - weight (slice_index m v - 1))
trace_step g o t m z v [] c tr ne = absurd (ne tr.0)
trace_step g o t m z v (u ∷ q) c (free, (k, k4, is, mark, from_is, (b, tr, e))) ne =
    let same : slice_index m v - 1 ≡ k = omega arith in
    let left : c - weight k ≡ b = omega arith in
    (u, q, refl, omega arith, omega arith, rw same from_is, rw same (omega arith), rw (same, left) tr)

pub weight_least : (k : ℕ) → 1 ≤ weight k
weight_least zero = omega arith
weight_least (suc zero) = omega arith
weight_least (suc (suc k)) = omega arith

all_zero : (m : List ℕ) → ((v : ℕ) → get_or m v 0 ≡ 0) → zeros m ≡ length m
all_zero [] h = refl
all_zero (zero ∷ xs) h = ap suc (all_zero xs (λ v. h (suc v)))
all_zero (suc x ∷ xs) h = let z = h 0 in let no : ⊥ = omega arith in absurd no

pub Kept-none : (ord m : List ℕ) → length ord ≡ length m → ((v : ℕ) → get_or m v 0 ≡ 0) → Kept ord m 0
Kept-none ord m same h =
    let z = all_zero m h in
    record {
      same = same;
      full = omega arith;
      listed = λ i lt. omega arith;
      marked = λ i lt. (let no : ⊥ = omega arith in absurd no);
      found = λ v ne. absurd (ne (h v));
      apart = λ i j lt_ij lt. (let no : ⊥ = omega arith in absurd no);
    }

-- what an index reads
pub read_at : (xs : List ℕ) (i d : ℕ) → i < length xs → d ≡ get_or xs i d → slice_index xs i ≡ d
read_at [] i d lt e = let impossible : ⊥ = omega arith in absurd impossible
read_at (x ∷ xs) zero d lt e = sym e
read_at (x ∷ xs) (suc i) d lt e = let lt' : i < length xs = omega arith in read_at xs i d lt' e
