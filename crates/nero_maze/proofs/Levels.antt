-- One level of the search.
use Rattle.std.proofs.Common.{ℕ, ◌≡◌, ◌≢◌, ◌+◌, ◌%◌, ◌<◌, ◌≤◌, ◌⊎◌, inl, inr, List, [], ◌∷◌, length, set, Some, slice_index, arith, sym, ◌∙◌, ap, subst, refl, get_or-set_same, get_or-set_other, length-set}
use Rattle.std.proofs.lemmas.Bool.{cases_lt, cases_eq}
use Rattle.grid_core.specs.declared.grid.Grid.{Grid}
use Rattle.grid_core.specs.Numbers.{nodes}
use Rattle.nero_maze.specs.declared.level.Level.{Level}
use Rattle.nero_maze.specs.Ways.{next, weight, opposite}
use Rattle.nero_maze.specs.Search.{IsFree, LeadsTo, NoneBelow, Trace, Kept, Grown, IsSpread}
use Rattle.nero_maze.specs.Levels.{IsAtLevel, HeadTrace, Entry, AllMarked, Knows, Flat, Spread, IsLonger, IsNextLevel}
use Rattle.nero_maze.proofs.Theory.{mark_stays}
use Rattle.nero_maze.proofs.Neighbours.{facts}

-- ---- what the bound is
abbrev pub IsRise : ℕ → Type 0
IsRise r = (r ≡ 0) ⊎ ((r ≡ 1) ⊎ ((r ≡ 2) ⊎ ((r ≡ 3) ⊎ (r ≡ 6))))

-- along each way the sum of cost and bound rises so
abbrev pub IsSlope : Grid → (ℕ → ℕ) → Type 0
IsSlope g h = (u k v : ℕ) → u < nodes g → k < 4 → next g u k ≡ Some v → (r : ℕ) × IsRise r × (weight k + h v ≡ r + h u)

-- ---- traces
pub leads-head : (g : Grid) (o : List ℕ) (t z : ℕ) (m : List ℕ) (q v : ℕ) (back : List ℕ) (c : ℕ)
    → ((u : ℕ) (rest : List ℕ) (b : ℕ) → Trace g o t m z u rest b → LeadsTo g o t z u rest b)
    → HeadTrace g o t m z q v back c → LeadsTo g o t z v back c
leads-head g o t z m q v [] c f tr = (tr.1, tr.2)
leads-head g o t z m q v (u ∷ back) c f (free, (k, k4, is, _, _, (b, tr, e))) = (free, (k, k4, is, (b, f u back b tr, e)))

pub whole-trace : (g : Grid) (o : List ℕ) (t z : ℕ) (m : List ℕ) (q v : ℕ) (back : List ℕ) (c : ℕ)
    → slice_index m v ≡ q → HeadTrace g o t m z q v back c → Trace g o t m z v back c
whole-trace g o t z m q v [] c e tr = (e ∙ tr.0, tr.1, tr.2)
whole-trace g o t z m q v (u ∷ back) c e (free, (k, k4, is, mark, from, more)) = (free, (k, k4, is, e ∙ mark, from, more))

-- marks that are no longer fresh stay
abbrev pub Keeps : List ℕ → List ℕ → Type 0
Keeps m m' = (w : ℕ) → slice_index m w ≢ 0 → slice_index m w < 8 → slice_index m' w ≡ slice_index m w

Trace-kept : (g : Grid) (o : List ℕ) (t z : ℕ) (m m' : List ℕ) → Keeps m m'
    → (v : ℕ) (back : List ℕ) (c : ℕ) → Trace g o t m z v back c → Trace g o t m' z v back c
Trace-kept g o t z m m' f v [] c tr =
    let t0 = tr.0 in
    let ne : slice_index m v ≢ 0 = omega arith in
    let low : slice_index m v < 8 = omega arith in (f v ne low ∙ t0, tr.1, tr.2)
Trace-kept g o t z m m' f v (u ∷ back) c (free, (k, k4, is, mark, from, (b, tr, e))) =
    let ne : slice_index m v ≢ 0 = omega arith in
    let low : slice_index m v < 8 = omega arith in
    (free, (k, k4, is, f v ne low ∙ mark, from, (b, Trace-kept g o t z m m' f u back b tr, e)))

Head-kept : (g : Grid) (o : List ℕ) (t z : ℕ) (m m' : List ℕ) → Keeps m m'
    → (q q' v : ℕ) (back : List ℕ) (c : ℕ) → q' ≡ q → HeadTrace g o t m z q v back c → HeadTrace g o t m' z q' v back c
Head-kept g o t z m m' f q q' v [] c e tr = (e ∙ tr.0, tr.1, tr.2)
Head-kept g o t z m m' f q q' v (u ∷ back) c e (free, (k, k4, is, mark, from, (b, tr, sum))) =
    (free, (k, k4, is, e ∙ mark, from, (b, Trace-kept g o t z m m' f u back b tr, sum)))

head_some : (g : Grid) (o : List ℕ) (t z : ℕ) (m : List ℕ) (q v : ℕ) (back : List ℕ) (c : ℕ) → HeadTrace g o t m z q v back c → q ≢ 0
head_some g o t z m q v [] c tr = let t0 = tr.0 in omega arith
head_some g o t z m q v (u ∷ back) c (free, (k, k4, is, mark, from, more)) = omega arith

leads-trace' : (g : Grid) (o : List ℕ) (t z : ℕ) (m : List ℕ) (v : ℕ) (back : List ℕ) (c : ℕ) → Trace g o t m z v back c → LeadsTo g o t z v back c
leads-trace' g o t z m v [] c tr = (tr.1, tr.2)
leads-trace' g o t z m v (u ∷ back) c (free, (k, k4, is, _, _, (b, tr, e))) = (free, (k, k4, is, (b, leads-trace' g o t z m u back b tr, e)))

-- a path stays in the grid
leads_within : (g : Grid) (o : List ℕ) (t z : ℕ) → z < nodes g → (v : ℕ) (back : List ℕ) (c : ℕ) → LeadsTo g o t z v back c → v < nodes g
leads_within g o t z hz v [] c p = rw p.0 hz
leads_within g o t z hz v (u ∷ back) c (free, (k, k4, is, (b, p, e))) = (facts g u k v (leads_within g o t z hz u back b p) k4 is).0

entry_leads : (g : Grid) (o : List ℕ) (t : ℕ) (h : ℕ → ℕ) (m : List ℕ) (l : Level) (i v : ℕ) → (e : Entry g o t h m l i v) → LeadsTo g o t l.target v e.back e.cost
entry_leads g o t h m l i v e = leads-head g o t l.target m (slice_index m v % 8) v e.back e.cost (leads-trace' g o t l.target m) e.lead

-- an entry under later arrays
entry_kept : (g : Grid) (o : List ℕ) (t : ℕ) (h : ℕ → ℕ) (m m' : List ℕ) (l : Level) (i v : ℕ) → Keeps m m' → slice_index m' v % 8 ≡ slice_index m v % 8
    → Entry g o t h m l i v → Entry g o t h m' l i v
entry_kept g o t h m m' l i v f same e =
    record {
      cost = e.cost;
      back = e.back;
      lead = Head-kept g o t l.target m m' f (slice_index m v % 8) (slice_index m' v % 8) v e.back e.cost same e.lead;
      size = e.size;
      least = e.least;
      level = e.level;
    }

-- what entries add to this level's sum
abbrev pub Fits : Level → ℕ → ℕ → ℕ → Type 0
Fits l rise from to = (j sum : ℕ) → from ≤ j → j < to → IsAtLevel l j sum → sum + rise ≡ l.sum

module _ (g : Grid) (o : List ℕ) (t : ℕ) (h : ℕ → ℕ) (l : Level) (ord m : List ℕ) (n : ℕ) (rise from to : ℕ) (ord' m' : List ℕ) (n' p : ℕ)
    (k : Knows g o t h l ord m n) (flat : Flat ord m p) (gr : Grown g o t h rise from to ord m n ord' m' n')
    (tp : to ≤ p) (pn : p ≤ n) (np : l.first ≤ p) (fits : Fits l rise from to) (kept' : Kept ord' m' n') where
  keeps : Keeps m m'
  keeps w ne low = elim (gr.stays w ne) [ inl e ↦ e | inr x ↦ (let x0 = x.0 in let no : ⊥ = omega arith in absurd no) ]

  pub grow_flat : Flat ord' m' p
  grow_flat i ip =
      let lt : i < n = omega arith in
      let low = flat i ip in
      let e = keeps (slice_index ord i) (k.kept.marked i lt) low in
      let low' : slice_index m' (slice_index ord i) < 8 = omega arith in
      rw (gr.prefix i lt) low'

  -- a new way to an entry
  new_entry : (i : ℕ) → i < n' → 8 < slice_index m' (slice_index ord' i)
      → ((slice_index m (slice_index ord' i) ≡ 0) × (n ≤ i)) ⊎ ((p ≤ i) × (i < n) × Entry g o t h m l i (slice_index ord' i))
      → (j : ℕ) → from ≤ j → j < to → (w : ℕ) → w < 4 → slice_index m' (slice_index ord' i) ≡ w + 9
      → next g (slice_index ord' j) w ≡ Some (slice_index ord' i) → next g (slice_index ord' i) (opposite w) ≡ Some (slice_index ord' j)
      → IsFree o t (slice_index ord' i) → weight w + h (slice_index ord' i) ≡ rise + h (slice_index ord' j)
      → Entry g o t h m' l i (slice_index ord' i)
  new_entry i lt fresh old j fj jt w w4 mark is back free sum =
      let jp : j < p = omega arith in
      let jn : j < n = omega arith in
      let v = slice_index ord' i in
      let u = slice_index ord j in
      let eu = gr.prefix j jn in
      let ej = k.entries j jn in
      let x = ej.cost in
      let is_u : next g u w ≡ Some v = rw eu at is in
      let back_u : next g v (opposite w) ≡ Some u = rw eu at back in
      let sum_u : weight w + h v ≡ rise + h u = rw eu at sum in
      let low = flat j jp in
      let same : slice_index m u ≡ slice_index m u % 8 = omega arith in
      let tr = Trace-kept g o t l.target m m' keeps u ej.back x (whole-trace g o t l.target m (slice_index m u % 8) u ej.back x same ej.lead) in
      let total = fits j (x + h u) fj jt ej.level in
      let here : x + weight w + h v ≡ l.sum = omega arith in
      let low_mark : slice_index m' v % 8 ≡ w + 1 = omega arith in
      let size = ej.size in
      let later : p ≤ i = elim old [ inl a ↦ (let a1 = a.1 in omega arith) | inr b ↦ b.0 ] in
      let r0 = k.in_five in
      let r1 = k.in_four in
      let r2 = k.in_three in
      let r3 = k.in_two in
      let r4 = k.in_one in
      let r5 = k.in_now in
      record {
        cost = x + weight w;
        back = u ∷ ej.back;
        lead = (free, (w, w4, is_u, low_mark, back_u, (x, tr, refl)));
        size = omega arith;
        least = elim old [
          | inl a ↦ (λ q e path. elim (cases_lt (e + h v) l.sum) [ inl less ↦ absurd (k.all v q e path less a.0) | inr ge ↦ omega arith ])
          | inr b ↦ (let e0 = b.2.level.here (omega arith) in let same_cost : b.2.cost ≡ x + weight w = omega arith in rw (← same_cost) b.2.least)
        ];
        level = record {
          before = λ a. omega arith;
          here = λ a. here;
          before1 = λ a. omega arith;
          from1 = λ a. omega arith;
          before2 = λ a. omega arith;
          from2 = λ a. omega arith;
          before3 = λ a. omega arith;
          from3 = λ a. omega arith;
          before4 = λ a. omega arith;
          from4 = λ a. omega arith;
          before5 = λ a. omega arith;
          from5 = λ a. omega arith;
          before6 = λ a. omega arith;
          from6 = λ a. omega arith;
        };
      }

  old_entry : (i : ℕ) → i < n → Entry g o t h m l i (slice_index ord' i)
  old_entry i lt = rw (gr.prefix i lt) (k.entries i lt)

  same_mark : (i : ℕ) → i < n → slice_index m' (slice_index ord' i) ≡ slice_index m (slice_index ord' i) → Entry g o t h m' l i (slice_index ord' i)
  same_mark i lt e = entry_kept g o t h m m' l i (slice_index ord' i) keeps (ap (λ (x : ℕ). x % 8) e) (old_entry i lt)

  grown_entry : (i : ℕ) → i < n' → Entry g o t h m' l i (slice_index ord' i)
  grown_entry i lt = elim (cases_lt 8 (slice_index m' (slice_index ord' i))) [
    | inl fresh ↦ elim (gr.reached i lt fresh) [
      | inr r ↦ same_mark i r.0 r.1
      | inl (j, fj, jt, (w, w4, mark, is, back, free, sum)) ↦ elim (cases_lt i n) [
        | inr ge ↦ new_entry i lt fresh (inl ((gr.fresh i ge lt).0, ge)) j fj jt w w4 mark is back free sum
        | inl lt_n ↦ elim (cases_lt i p) [
          | inl ip ↦ (let low = grow_flat i ip in let no : ⊥ = omega arith in absurd no)
          | inr pi ↦ new_entry i lt fresh (inr (pi, lt_n, old_entry i lt_n)) j fj jt w w4 mark is back free sum
        ]
      ]
    ]
    | inr low ↦ elim (cases_lt i n) [
      | inr ge ↦ (let f = (gr.fresh i ge lt).1 in let no : ⊥ = omega arith in absurd no)
      | inl lt_n ↦ (
          let ne : slice_index m (slice_index ord' i) ≢ 0 = rw (gr.prefix i lt_n) (k.kept.marked i lt_n) in
          elim (gr.stays (slice_index ord' i) ne) [
            | inl e ↦ same_mark i lt_n e
            | inr x ↦ (let x1 = x.1 in let no : ⊥ = omega arith in absurd no)
          ])
    ]
  ]

  pub grow : Knows g o t h l ord' m' n'
  grow =
      let stays = mark_stays g o t h rise from to ord m n ord' m' n' gr in
      let more = gr.more in
      let old = k.in_all in
      record {
        kept = kept';
        size = gr.size ∙ k.size;
        target = k.target;
        begun = stays l.target k.begun;
        in_five = k.in_five;
        in_four = k.in_four;
        in_three = k.in_three;
        in_two = k.in_two;
        in_one = k.in_one;
        in_now = k.in_now;
        in_all = omega arith;
        entries = grown_entry;
        all = λ v q e path lt. stays v (k.all v q e path lt);
      }

-- one entry is settled
pub live : (g : Grid) (o : List ℕ) (t : ℕ) (h : ℕ → ℕ) (l : Level) (ord m : List ℕ) (n at : ℕ) → Knows g o t h l ord m n → at < n
    → slice_index m (slice_index ord at) % 8 ≢ 0
live g o t h l ord m n at k lt = let e = k.entries at lt in head_some g o t l.target m (slice_index m (slice_index ord at) % 8) (slice_index ord at) e.back e.cost e.lead

module _ (g : Grid) (o : List ℕ) (t : ℕ) (h : ℕ → ℕ) (l : Level) (ord m m1 : List ℕ) (n at : ℕ) (k : Knows g o t h l ord m n) (lt : at < n)
    (is : m1 ≡ set m (slice_index ord at) (slice_index m (slice_index ord at) % 8)) (kept1 : Kept ord m1 n) where
  at_same : slice_index m1 (slice_index ord at) ≡ slice_index m (slice_index ord at) % 8
  at_same = let below = k.kept.listed at lt in rw is (get_or-set_same m (slice_index ord at) (slice_index m (slice_index ord at) % 8) 0 below)

  at_other : (v : ℕ) → v ≢ slice_index ord at → slice_index m1 v ≡ slice_index m v
  at_other v ne = rw is (get_or-set_other m (slice_index ord at) v (slice_index m (slice_index ord at) % 8) 0 ne)

  settle_keeps : Keeps m m1
  settle_keeps w ne low = elim (cases_eq w (slice_index ord at)) [
    | inl e ↦ (let e1 = at_same in let low1 : slice_index m (slice_index ord at) < 8 = rw (← e) low in let e2 : slice_index m1 (slice_index ord at) ≡ slice_index m (slice_index ord at) = omega arith in rw e e2)
    | inr other ↦ at_other w other
  ]

  settle_mod : (v : ℕ) → slice_index m1 v % 8 ≡ slice_index m v % 8
  settle_mod v = elim (cases_eq v (slice_index ord at)) [
    | inl e ↦ (let e1 = at_same in let e2 : slice_index m1 (slice_index ord at) % 8 ≡ slice_index m (slice_index ord at) % 8 = omega arith in rw e e2)
    | inr other ↦ ap (λ (x : ℕ). x % 8) (at_other v other)
  ]

  pub settle_some : (v : ℕ) → slice_index m v ≢ 0 → slice_index m1 v ≢ 0
  settle_some v ne = elim (cases_eq v (slice_index ord at)) [
    | inl e ↦ (let e1 = at_same in let some = live g o t h l ord m n at k lt in let e2 : slice_index m1 (slice_index ord at) ≢ 0 = omega arith in rw e e2)
    | inr other ↦ rw (at_other v other) ne
  ]

  pub settle_flat : Flat ord m at → Flat ord m1 (at + 1)
  settle_flat flat i lt1 = elim (cases_eq (slice_index ord i) (slice_index ord at)) [
    | inl e ↦ (let e1 = at_same in let low : slice_index m1 (slice_index ord at) < 8 = omega arith in rw e low)
    | inr other ↦ (
        let ne : i ≢ at = λ e. other (ap (λ (x : ℕ). slice_index ord x) e) in
        let less : i < at = omega arith in
        rw (at_other (slice_index ord i) other) (flat i less))
  ]

  pub settle_knows : Knows g o t h l ord m1 n
  settle_knows =
      record {
        kept = kept1;
        size = rw is (length-set m (slice_index ord at) (slice_index m (slice_index ord at) % 8) ∙ k.size);
        target = k.target;
        begun = settle_some l.target k.begun;
        in_five = k.in_five;
        in_four = k.in_four;
        in_three = k.in_three;
        in_two = k.in_two;
        in_one = k.in_one;
        in_now = k.in_now;
        in_all = k.in_all;
        entries = λ i below. entry_kept g o t h m m1 l i (slice_index ord i) settle_keeps (settle_mod (slice_index ord i)) (k.entries i below);
        all = λ v q e path less. settle_some v (k.all v q e path less);
      }

-- ---- the next level
all_below : (g : Grid) (o : List ℕ) (t : ℕ) (h : ℕ → ℕ) (l : Level) (ord m : List ℕ) (n : ℕ) → IsSlope g h → Knows g o t h l ord m n → Spread g o t h l ord m n
    → (v : ℕ) (back : List ℕ) (e : ℕ) → LeadsTo g o t l.target v back e → e + h v < l.sum + 1 → slice_index m v ≢ 0
all_below g o t h l ord m n slope k spread v [] e p lt = rw p.0 k.begun
all_below g o t h l ord m n slope k spread v (u ∷ q) e (free, (w, w4, is, (f, p, sum))) lt =
    let inside = leads_within g o t l.target k.target u q f p in
    let (r, rises, total) = slope u w v inside w4 is in
    let low : f + h u < l.sum + 1 = omega arith in
    let (j, jn, at) = k.kept.found u (all_below g o t h l ord m n slope k spread u q f p low) in
    let is_j : next g (slice_index ord j) w ≡ Some v = rw at is in
    let p_j : LeadsTo g o t l.target (slice_index ord j) q f = rw at p in
    spread j w v jn w4 is_j free q f p_j (omega arith)

pub all_marked : (g : Grid) (o : List ℕ) (t : ℕ) (h : ℕ → ℕ) (l : Level) (ord m : List ℕ) (n : ℕ) → IsSlope g h → Knows g o t h l ord m n → Spread g o t h l ord m n
    → AllMarked g o t h l.target m (l.sum + 1)
all_marked g o t h l ord m n slope k spread v back e p lt = all_below g o t h l ord m n slope k spread v back e p lt

-- ---- how far entries have been gone on from
-- the arrays grew: entries keep their places, and marked nodes stay marked
pub spread_later : (g : Grid) (o : List ℕ) (t : ℕ) (h : ℕ → ℕ) (r : ℕ) (ord m ord' m' : List ℕ) (j k : ℕ) → slice_index ord' j ≡ slice_index ord j
    → ((v : ℕ) → slice_index m v ≢ 0 → slice_index m' v ≢ 0) → IsSpread g o t h r ord m j k → IsSpread g o t h r ord' m' j k
spread_later g o t h r ord m ord' m' j k e stays sp v is sum free = stays v (sp v (rw e at is) (rw e at sum) free)

pub spread_first : (g : Grid) (o : List ℕ) (t : ℕ) (h : ℕ → ℕ) (l : Level) (ord m : List ℕ) (n : ℕ) → IsSlope g h → Knows g o t h l ord m n
    → ((j k : ℕ) → l.six ≤ j → j < l.five → k < 4 → IsSpread g o t h 6 ord m j k)
    → ((j k : ℕ) → l.three ≤ j → j < l.two → k < 4 → IsSpread g o t h 3 ord m j k)
    → ((j k : ℕ) → l.two ≤ j → j < l.one → k < 4 → IsSpread g o t h 2 ord m j k)
    → ((j k : ℕ) → l.one ≤ j → j < l.first → k < 4 → IsSpread g o t h 1 ord m j k)
    → Spread g o t h l ord m l.first
spread_first g o t h l ord m n slope k s6 s3 s2 s1 j w v jp w4 is free back b path small =
    let old = k.in_all in
    let jn : j < n = omega arith in
    let u = slice_index ord j in
    let e = k.entries j jn in
    let x = e.cost in
    let least = e.least back b path in
    let size = k.size in
    let listed = k.kept.listed j jn in
    let inside : u < nodes g = omega arith in
    let rise = slope u w v inside w4 is in
    let r = rise.0 in
    let total = rise.2 in
    elim (cases_lt (x + weight w + h v) l.sum) [
      | inl less ↦ k.all v (u ∷ e.back) (x + weight w) (free, (w, w4, is, (x, entry_leads g o t h m l j u e, refl))) less
      | inr ge ↦ (
          let here : x + h u + r ≡ l.sum = omega arith in
          let before = e.level.before jp in
          elim rise.1 [
            | inl r0 ↦ (let no : ⊥ = omega arith in absurd no)
            | inr (inl r1) ↦ (
                let from : l.one ≤ j = elim (cases_lt j l.one) [ inl a ↦ (let low = e.level.before1 a in omega arith) | inr a ↦ a ] in
                s1 j w from jp w4 v is (rw r1 at total) free)
            | inr (inr (inl r2)) ↦ (
                let from : l.two ≤ j = elim (cases_lt j l.two) [ inl a ↦ (let low = e.level.before2 a in omega arith) | inr a ↦ a ] in
                let to : j < l.one = elim (cases_lt j l.one) [ inl a ↦ a | inr a ↦ (let high = e.level.from1 a in omega arith) ] in
                s2 j w from to w4 v is (rw r2 at total) free)
            | inr (inr (inr (inl r3))) ↦ (
                let from : l.three ≤ j = elim (cases_lt j l.three) [ inl a ↦ (let low = e.level.before3 a in omega arith) | inr a ↦ a ] in
                let to : j < l.two = elim (cases_lt j l.two) [ inl a ↦ a | inr a ↦ (let high = e.level.from2 a in omega arith) ] in
                s3 j w from to w4 v is (rw r3 at total) free)
            | inr (inr (inr (inr r6))) ↦ (
                let from : l.six ≤ j = elim (cases_lt j l.six) [ inl a ↦ (let low = e.level.before6 a in omega arith) | inr a ↦ a ] in
                let to : j < l.five = elim (cases_lt j l.five) [ inl a ↦ a | inr a ↦ (let high = e.level.from5 a in omega arith) ] in
                s6 j w from to w4 v is (rw r6 at total) free)
          ])
    ]

-- one entry of this level more
pub spread_next : (g : Grid) (o : List ℕ) (t : ℕ) (h : ℕ → ℕ) (l : Level) (ord m ord' m' : List ℕ) (n at : ℕ) → IsSlope g h → Knows g o t h l ord m n
    → l.first ≤ at → at < n → ((i : ℕ) → i < n → slice_index ord' i ≡ slice_index ord i)
    → ((v : ℕ) → slice_index m v ≢ 0 → slice_index m' v ≢ 0)
    → ((k : ℕ) → k < 4 → IsSpread g o t h 0 ord m' at k)
    → Spread g o t h l ord m at → Spread g o t h l ord' m' (at + 1)
spread_next g o t h l ord m ord' m' n at slope k now lt prefix stays here sp j w v jp w4 is free back b path small =
    let jn : j < n = omega arith in
    let ej = prefix j jn in
    let is_j : next g (slice_index ord j) w ≡ Some v = rw ej at is in
    let path_j : LeadsTo g o t l.target (slice_index ord j) back b = rw ej at path in
    elim (cases_lt j at) [
      | inl less ↦ stays v (sp j w v less w4 is_j free back b path_j small)
      | inr ge ↦ (
          let same : j ≡ at = omega arith in
          let u = slice_index ord at in
          let is_u : next g u w ≡ Some v = rw same at is_j in
          let path_u : LeadsTo g o t l.target u back b = rw same at path_j in
          let e = k.entries at lt in
          let x = e.cost in
          let least = e.least back b path_u in
          let sum = e.level.here now in
          let size = k.size in
          let listed = k.kept.listed at lt in
          let inside : u < nodes g = omega arith in
          let rise = slope u w v inside w4 is_u in
          let r = rise.0 in
          let total = rise.2 in
          here w w4 v is_u (omega arith) free)
    ]

-- ---- from level to level
level_next : (l l' : Level) (n i sum : ℕ) → IsNextLevel n l l' → l.first ≤ n → i < n → IsAtLevel l i sum → IsAtLevel l' i sum
level_next l l' n i sum nx old lt a =
    let e0 = nx.sum in
    let e1 = nx.first in
    let e2 = nx.one in
    let e3 = nx.two in
    let e4 = nx.three in
    let e5 = nx.four in
    let e6 = nx.five in
    let e7 = nx.six in
    record {
      before = λ x. elim (cases_lt i l.first) [ inl y ↦ (let z = a.before y in omega arith) | inr y ↦ (let z = a.here y in omega arith) ];
      here = λ x. (let no : ⊥ = omega arith in absurd no);
      before1 = λ x. (let z = a.before (omega arith) in omega arith);
      from1 = λ x. (let z = a.here (omega arith) in omega arith);
      before2 = λ x. (let z = a.before1 (omega arith) in omega arith);
      from2 = λ x. (let z = a.from1 (omega arith) in omega arith);
      before3 = λ x. (let z = a.before2 (omega arith) in omega arith);
      from3 = λ x. (let z = a.from2 (omega arith) in omega arith);
      before4 = λ x. (let z = a.before3 (omega arith) in omega arith);
      from4 = λ x. (let z = a.from3 (omega arith) in omega arith);
      before5 = λ x. (let z = a.before4 (omega arith) in omega arith);
      from5 = λ x. (let z = a.from4 (omega arith) in omega arith);
      before6 = λ x. (let z = a.before5 (omega arith) in omega arith);
      from6 = λ x. (let z = a.from5 (omega arith) in omega arith);
    }

pub shift : (g : Grid) (o : List ℕ) (t : ℕ) (h : ℕ → ℕ) (l l' : Level) (ord m : List ℕ) (n : ℕ) → Knows g o t h l ord m n
    → AllMarked g o t h l.target m (l.sum + 1) → IsNextLevel n l l' → Knows g o t h l' ord m n
shift g o t h l l' ord m n k all nx =
    let e1 = nx.first in
    let e2 = nx.one in
    let e3 = nx.two in
    let e4 = nx.three in
    let e5 = nx.four in
    let e6 = nx.five in
    let e7 = nx.six in
    let r0 = k.in_five in
    let r1 = k.in_four in
    let r2 = k.in_three in
    let r3 = k.in_two in
    let r4 = k.in_one in
    let r5 = k.in_now in
    let r6 = k.in_all in
    record {
      kept = k.kept;
      size = k.size;
      target = rw nx.target k.target;
      begun = rw nx.target k.begun;
      in_five = omega arith;
      in_four = omega arith;
      in_three = omega arith;
      in_two = omega arith;
      in_one = omega arith;
      in_now = omega arith;
      in_all = omega arith;
      entries = λ i lt. (let e = k.entries i lt in record {
        cost = e.cost;
        back = e.back;
        lead = rw nx.target e.lead;
        size = e.size;
        least = rw nx.target e.least;
        level = level_next l l' n i (e.cost + h (slice_index ord i)) nx r6 lt e.level;
      });
      all = rw (nx.target, nx.sum) all;
    }

-- where no entry is left to go on from, each path ends at a marked node
pub closed : (g : Grid) (o : List ℕ) (t : ℕ) (h : ℕ → ℕ) (l : Level) (ord m : List ℕ) (n : ℕ) → IsSlope g h → Knows g o t h l ord m n → n ≤ l.six
    → (v : ℕ) (back : List ℕ) (e : ℕ) → LeadsTo g o t l.target v back e → slice_index m v ≢ 0
closed g o t h l ord m n slope k none v [] e p = rw p.0 k.begun
closed g o t h l ord m n slope k none v (u ∷ back) e (free, (w, w4, is, (f, p, _))) =
    let (j, jn, at) = k.kept.found u (closed g o t h l ord m n slope k none u back f p) in
    let is_j : next g (slice_index ord j) w ≡ Some v = rw at is in
    let en = k.entries j jn in
    let x = en.cost in
    let size = k.size in
    let listed = k.kept.listed j jn in
    let inside : slice_index ord j < nodes g = omega arith in
    let rise = slope (slice_index ord j) w v inside w4 is_j in
    let r = rise.0 in
    let total = rise.2 in
    let low : r ≤ 6 = elim rise.1 [ inl a ↦ omega arith | inr (inl a) ↦ omega arith | inr (inr (inl a)) ↦ omega arith | inr (inr (inr (inl a))) ↦ omega arith | inr (inr (inr (inr a))) ↦ omega arith ] in
    let before = en.level.before6 (omega arith) in
    k.all v (slice_index ord j ∷ en.back) (x + weight w) (free, (w, w4, is_j, (x, entry_leads g o t h m l j (slice_index ord j) en, refl))) (omega arith)

-- ---- before the first level
-- the bound is one
bounded : (g : Grid) (o : List ℕ) (t : ℕ) (h : ℕ → ℕ) (z : ℕ) → IsSlope g h → z < nodes g → (v : ℕ) (back : List ℕ) (e : ℕ) → LeadsTo g o t z v back e → h z ≤ e + h v
bounded g o t h z slope hz v [] e p = let same : h v ≡ h z = ap h p.0 in omega arith
bounded g o t h z slope hz v (u ∷ back) e (free, (w, w4, is, (f, p, sum))) =
    let low = bounded g o t h z slope hz u back f p in
    let inside = leads_within g o t z hz u back f p in
    let rise = slope u w v inside w4 is in
    let r = rise.0 in
    let total = rise.2 in
    omega arith

-- the level of the target itself
pub record IsFirstLevel (l : Level) (z x : ℕ) : Type 0 where
  pub target : l.target ≡ z
  pub sum : l.sum ≡ x
  pub now : l.first ≡ 0
  pub one : l.one ≡ 0
  pub two : l.two ≡ 0
  pub three : l.three ≡ 0
  pub four : l.four ≡ 0
  pub five : l.five ≡ 0
  pub six : l.six ≡ 0

pub begun : (g : Grid) (o : List ℕ) (t : ℕ) (h : ℕ → ℕ) (l : Level) (z : ℕ) (ord m : List ℕ) → IsSlope g h → IsFirstLevel l z (h z) → Kept ord m 1 → length m ≡ nodes g
    → z < nodes g → slice_index ord 0 ≡ z → slice_index m z ≡ 13 → Knows g o t h l ord m 1
begun g o t h l z ord m slope fi kept size hz first mark =
    let e0 = fi.sum in
    let e1 = fi.now in
    let e2 = fi.one in
    let e3 = fi.two in
    let e4 = fi.three in
    let e5 = fi.four in
    let e6 = fi.five in
    let e7 = fi.six in
    let some : slice_index m z ≢ 0 = omega arith in
    let five : slice_index m z % 8 ≡ 5 = rw mark refl in
    let entry : Entry g o t h m l 0 z = record {
      cost = 0;
      back = [];
      lead = (five, sym fi.target, refl);
      size = omega arith;
      least = λ q b p. omega arith;
      level = record {
        before = λ a. omega arith;
        here = λ a. omega arith;
        before1 = λ a. omega arith;
        from1 = λ a. omega arith;
        before2 = λ a. omega arith;
        from2 = λ a. omega arith;
        before3 = λ a. omega arith;
        from3 = λ a. omega arith;
        before4 = λ a. omega arith;
        from4 = λ a. omega arith;
        before5 = λ a. omega arith;
        from5 = λ a. omega arith;
        before6 = λ a. omega arith;
        from6 = λ a. omega arith;
      };
    } in
    record {
      kept = kept;
      size = size;
      target = rw fi.target hz;
      begun = rw fi.target some;
      in_five = omega arith;
      in_four = omega arith;
      in_three = omega arith;
      in_two = omega arith;
      in_one = omega arith;
      in_now = omega arith;
      in_all = omega arith;
      entries = λ i lt. (let i0 : i ≡ 0 = omega arith in rw (i0, first) entry);
      all = λ v back e p lt. (
          let p' : LeadsTo g o t z v back e = rw fi.target at p in
          let low = bounded g o t h z slope hz v back e p' in
          let no : ⊥ = omega arith in absurd no);
    }

-- ---- a node of this level at which nothing is left
pub arrived : (g : Grid) (o : List ℕ) (t : ℕ) (h : ℕ → ℕ) (l : Level) (ord m : List ℕ) (n v : ℕ) → Knows g o t h l ord m n → Flat ord m n
    → ((i : ℕ) → i < l.first → slice_index ord i ≢ v) → slice_index m v ≢ 0 → h v ≡ 0
    → (q : List ℕ) × (length q < length m) × Trace g o t m l.target v q l.sum
arrived g o t h l ord m n v k flat later ne zero_h =
    let (i, lt, at) = k.kept.found v ne in
    let e = k.entries i lt in
    let from : l.first ≤ i = elim (cases_lt i l.first) [ inl a ↦ absurd (later i a at) | inr a ↦ a ] in
    let here = e.level.here from in
    let none : h (slice_index ord i) ≡ 0 = rw at zero_h in
    let cost : e.cost ≡ l.sum = omega arith in
    let low = flat i lt in
    let same : slice_index m (slice_index ord i) ≡ slice_index m (slice_index ord i) % 8 = omega arith in
    let tr = whole-trace g o t l.target m (slice_index m (slice_index ord i) % 8) (slice_index ord i) e.back e.cost same e.lead in
    let family : ℕ → Type 0 = λ w. Trace g o t m l.target w e.back e.cost in
    let family_c : ℕ → Type 0 = λ c. Trace g o t m l.target v e.back c in
    let size = e.size in
    let full = k.kept.full in
    (e.back, omega arith, subst family_c cost (subst family at tr))

-- none costs less
pub none_below : (g : Grid) (o : List ℕ) (t : ℕ) (h : ℕ → ℕ) (l : Level) (ord m : List ℕ) (n v : ℕ) → Knows g o t h l ord m n
    → ((i : ℕ) → i < l.first → slice_index ord i ≢ v) → h v ≡ 0 → NoneBelow g o t l.target v l.sum
none_below g o t h l ord m n v k later zero_h back b p = elim (cases_lt b l.sum) [
  | inr ge ↦ ge
  | inl less ↦ (
      let small : b + h v < l.sum = omega arith in
      let (i, lt, at) = k.kept.found v (k.all v back b p small) in
      let e = k.entries i lt in
      let from : l.first ≤ i = elim (cases_lt i l.first) [ inl a ↦ absurd (later i a at) | inr a ↦ a ] in
      let here = e.level.here from in
      let none : h (slice_index ord i) ≡ 0 = rw at zero_h in
      let p_i : LeadsTo g o t l.target (slice_index ord i) back b = rw at p in
      let least = e.least back b p_i in
      omega arith)
]

-- ---- a level as it is gone through
pub record Advanced (g : Grid) (o : List ℕ) (t : ℕ) (h : ℕ → ℕ) (l : Level) (ord : List ℕ) (n : ℕ) (ord' m' : List ℕ) (n' : ℕ) : Type 0 where
  pub knows : Knows g o t h l ord' m' n'
  pub flat : Flat ord' m' l.first
  pub spread : Spread g o t h l ord' m' l.first
  pub longer : IsLonger ord n ord' n'

module _ (g : Grid) (o : List ℕ) (t : ℕ) (h : ℕ → ℕ) (l : Level) (ord m : List ℕ) (n : ℕ) (ord1 m1 : List ℕ) (n1 : ℕ) (ord2 m2 : List ℕ) (n2 : ℕ)
    (ord3 m3 : List ℕ) (n3 : ℕ) (ord4 m4 : List ℕ) (n4 : ℕ) (slope : IsSlope g h) (k : Knows g o t h l ord m n) (flat : Flat ord m n) (first : l.first ≡ n)
    (g6 : Grown g o t h 6 l.six l.five ord m n ord1 m1 n1) (s6 : (j w : ℕ) → l.six ≤ j → j < l.five → w < 4 → IsSpread g o t h 6 ord m1 j w) (kept1 : Kept ord1 m1 n1)
    (g3 : Grown g o t h 3 l.three l.two ord1 m1 n1 ord2 m2 n2) (s3 : (j w : ℕ) → l.three ≤ j → j < l.two → w < 4 → IsSpread g o t h 3 ord1 m2 j w) (kept2 : Kept ord2 m2 n2)
    (g2 : Grown g o t h 2 l.two l.one ord2 m2 n2 ord3 m3 n3) (s2 : (j w : ℕ) → l.two ≤ j → j < l.one → w < 4 → IsSpread g o t h 2 ord2 m3 j w) (kept3 : Kept ord3 m3 n3)
    (g1 : Grown g o t h 1 l.one l.first ord3 m3 n3 ord4 m4 n4) (s1 : (j w : ℕ) → l.one ≤ j → j < l.first → w < 4 → IsSpread g o t h 1 ord3 m4 j w) (kept4 : Kept ord4 m4 n4) where
  flat0 : Flat ord m l.first
  flat0 i lt = flat i (omega arith)

  pub advanced : Advanced g o t h l ord n ord4 m4 n4
  advanced =
      let r0 = k.in_five in
      let r1 = k.in_four in
      let r2 = k.in_three in
      let r3 = k.in_two in
      let r4 = k.in_one in
      let r5 = k.in_now in
      let more1 = g6.more in
      let more2 = g3.more in
      let more3 = g2.more in
      let more4 = g1.more in
      let five : l.five ≤ l.first = omega arith in
      let two : l.two ≤ l.first = omega arith in
      let one : l.one ≤ l.first = omega arith in
      let self : l.first ≤ l.first = omega arith in
      let in0 : l.first ≤ n = omega arith in
      let in1 : l.first ≤ n1 = omega arith in
      let in2 : l.first ≤ n2 = omega arith in
      let in3 : l.first ≤ n3 = omega arith in
      let fit6 : Fits l 6 l.six l.five = λ j sum a b level. (let x = level.from6 a in let y = level.before5 b in omega arith) in
      let fit3 : Fits l 3 l.three l.two = λ j sum a b level. (let x = level.from3 a in let y = level.before2 b in omega arith) in
      let fit2 : Fits l 2 l.two l.one = λ j sum a b level. (let x = level.from2 a in let y = level.before1 b in omega arith) in
      let fit1 : Fits l 1 l.one l.first = λ j sum a b level. (let x = level.from1 a in let y = level.before b in omega arith) in
      let k1 = grow g o t h l ord m n 6 l.six l.five ord1 m1 n1 l.first k flat0 g6 five in0 self fit6 kept1 in
      let f1 = grow_flat g o t h l ord m n 6 l.six l.five ord1 m1 n1 l.first k flat0 g6 five in0 self fit6 kept1 in
      let k2 = grow g o t h l ord1 m1 n1 3 l.three l.two ord2 m2 n2 l.first k1 f1 g3 two in1 self fit3 kept2 in
      let f2 = grow_flat g o t h l ord1 m1 n1 3 l.three l.two ord2 m2 n2 l.first k1 f1 g3 two in1 self fit3 kept2 in
      let k3 = grow g o t h l ord2 m2 n2 2 l.two l.one ord3 m3 n3 l.first k2 f2 g2 one in2 self fit2 kept3 in
      let f3 = grow_flat g o t h l ord2 m2 n2 2 l.two l.one ord3 m3 n3 l.first k2 f2 g2 one in2 self fit2 kept3 in
      let k4 = grow g o t h l ord3 m3 n3 1 l.one l.first ord4 m4 n4 l.first k3 f3 g1 self in3 self fit1 kept4 in
      let f4 = grow_flat g o t h l ord3 m3 n3 1 l.one l.first ord4 m4 n4 l.first k3 f3 g1 self in3 self fit1 kept4 in
      let stay2 = mark_stays g o t h 3 l.three l.two ord1 m1 n1 ord2 m2 n2 g3 in
      let stay3 = mark_stays g o t h 2 l.two l.one ord2 m2 n2 ord3 m3 n3 g2 in
      let stay4 = mark_stays g o t h 1 l.one l.first ord3 m3 n3 ord4 m4 n4 g1 in
      let e3 : (j : ℕ) → j < n → slice_index ord4 j ≡ slice_index ord3 j = λ j lt. (let a : j < n3 = omega arith in g1.prefix j a) in
      let e2 : (j : ℕ) → j < n → slice_index ord4 j ≡ slice_index ord2 j = λ j lt. (let a : j < n2 = omega arith in e3 j lt ∙ g2.prefix j a) in
      let e1 : (j : ℕ) → j < n → slice_index ord4 j ≡ slice_index ord1 j = λ j lt. (let a : j < n1 = omega arith in e2 j lt ∙ g3.prefix j a) in
      let e0 : (j : ℕ) → j < n → slice_index ord4 j ≡ slice_index ord j = λ j lt. e1 j lt ∙ g6.prefix j lt in
      record {
        knows = k4;
        flat = f4;
        spread = spread_first g o t h l ord4 m4 n4 slope k4
            (λ j w a b w4. spread_later g o t h 6 ord m1 ord4 m4 j w (e0 j (omega arith)) (λ v ne. stay4 v (stay3 v (stay2 v ne))) (s6 j w a b w4))
            (λ j w a b w4. spread_later g o t h 3 ord1 m2 ord4 m4 j w (e1 j (omega arith)) (λ v ne. stay4 v (stay3 v ne)) (s3 j w a b w4))
            (λ j w a b w4. spread_later g o t h 2 ord2 m3 ord4 m4 j w (e2 j (omega arith)) (λ v ne. stay4 v ne) (s2 j w a b w4))
            (λ j w a b w4. spread_later g o t h 1 ord3 m4 ord4 m4 j w (e3 j (omega arith)) (λ v ne. ne) (s1 j w a b w4));
        longer = record { more = omega arith; prefix = e0 };
      }

pub record Spilled (g : Grid) (o : List ℕ) (t : ℕ) (h : ℕ → ℕ) (l : Level) (ord : List ℕ) (n : ℕ) (ord' m' : List ℕ) (n' p : ℕ) : Type 0 where
  pub knows : Knows g o t h l ord' m' n'
  pub flat : Flat ord' m' p
  pub spread : Spread g o t h l ord' m' p
  pub longer : IsLonger ord n ord' n'
  pub at : l.first ≤ p
  pub to : p ≤ n'

module _ (g : Grid) (o : List ℕ) (t : ℕ) (h : ℕ → ℕ) (l : Level) (ord0 : List ℕ) (n0 : ℕ) (ord m : List ℕ) (n at : ℕ) (ord1 m1 : List ℕ) (n1 : ℕ) (ord2 m2 : List ℕ) (n2 : ℕ)
    (slope : IsSlope g h) (s : Spilled g o t h l ord0 n0 ord m n at) (lt : at < n)
    (eo : ord1 ≡ ord) (en : n1 ≡ n) (is : m1 ≡ set m (slice_index ord at) (slice_index m (slice_index ord at) % 8)) (kept1 : Kept ord1 m1 n1)
    (gr : Grown g o t h 0 at (at + 1) ord1 m1 n1 ord2 m2 n2) (sp : (j w : ℕ) → at ≤ j → j < at + 1 → w < 4 → IsSpread g o t h 0 ord1 m2 j w) (kept2 : Kept ord2 m2 n2) where
  pub spilled : Spilled g o t h l ord0 n0 ord2 m2 n2 (at + 1)
  spilled =
      let kept1' = rw (eo, en) at kept1 in
      let gr' = rw (eo, en) at gr in
      let k1 = settle_knows g o t h l ord m m1 n at s.knows lt is kept1' in
      let f1 = settle_flat g o t h l ord m m1 n at s.knows lt is kept1' s.flat in
      let from = s.at in
      let self : at + 1 ≤ at + 1 = omega arith in
      let in_n : at + 1 ≤ n = omega arith in
      let first : l.first ≤ at + 1 = omega arith in
      let fit : Fits l 0 at (at + 1) = λ j sum a b level. (let x = level.here (omega arith) in omega arith) in
      let k2 = grow g o t h l ord m1 n 0 at (at + 1) ord2 m2 n2 (at + 1) k1 f1 gr' self in_n first fit kept2 in
      let f2 = grow_flat g o t h l ord m1 n 0 at (at + 1) ord2 m2 n2 (at + 1) k1 f1 gr' self in_n first fit kept2 in
      let stay = mark_stays g o t h 0 at (at + 1) ord m1 n ord2 m2 n2 gr' in
      let some = settle_some g o t h l ord m m1 n at s.knows lt is kept1' in
      let here : (w : ℕ) → w < 4 → IsSpread g o t h 0 ord m2 at w = λ w w4. rw (← eo) (sp at w (omega arith) (omega arith) w4) in
      let more = gr'.more in
      let longer = s.longer.more in
      record {
        knows = k2;
        flat = f2;
        spread = spread_next g o t h l ord m ord2 m2 n at slope s.knows from lt gr'.prefix (λ v ne. stay v (some v ne)) here s.spread;
        longer = record { more = omega arith; prefix = λ i below. (let a : i < n = omega arith in gr'.prefix i a ∙ s.longer.prefix i below) };
        at = omega arith;
        to = omega arith;
      }
