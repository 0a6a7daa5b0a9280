-- What a sweep along bands sees.
use Rattle.std.proofs.Common.{◌≡◌, ℕ, zero, suc, ◌+◌, ◌<◌, ◌≤◌, inl, inr, Option, None, Some, List, [], ◌∷◌, ◌++◌, length, get_or, refl, sym, ◌∙◌, ap, subst, arith}
use Rattle.std.specs.List.{Contains}
use Rattle.std.proofs.lemmas.Bool.{cases_lt}
use Rattle.std.proofs.lemmas.List.Elements.{Contains-append_left, Contains-push_cases}
use Rattle.sym_shapes.specs.Shape.{Shape}
use Rattle.sym_near.specs.declared.near.Relation.{Relation}
use Rattle.sym_near.specs.declared.near.Relation.TheVariants as relation
use Rattle.sym_near.specs.declared.near.Pair.{Pair}
use Rattle.sym_near.specs.declared.sweep.Entry.{Entry}
use Rattle.sym_near.specs.Related.{Relates, pair, Gains, Has}
use Rattle.sym_near.specs.Sweep.{entry, entry_from, InBand, InRun, Precedes, by_metal, by_band, by_left, Ordered, LooksAt, Skips, SeesRun, SeesFrom, SeesRuns, IsSeen, Share, SharesEither}

-- an element is the same by whatever default
pub at_any : {A : Type 0} (xs : List A) (k : ℕ) (d e : A) → k < length xs → get_or xs k d ≡ get_or xs k e
at_any [] k d e h = absurd (omega arith)
at_any (x ∷ xs) zero d e h = refl
at_any (x ∷ xs) (suc k) d e h = at_any xs k d e (omega arith)

-- where an entry stands
pub found_at : (xs : List Entry) (e : Entry) → Contains xs e → (k : ℕ) × (k < length xs) × (entry_from xs k ≡ e)
found_at xs e h = (h.0, h.1, at_any xs h.0 (entry 0 0 0 0 0) e h.1 ∙ h.2)

between_left : (a k b : Entry) → Precedes a k → Precedes k b → a.metal ≡ b.metal → a.band ≡ b.band → (k.metal ≡ a.metal) × (k.band ≡ a.band) × (k.left ≤ b.left)
between_left a k b (by_metal h) (by_metal g) m n = absurd (omega arith)
between_left a k b (by_metal h) (by_band f g) m n = absurd (omega arith)
between_left a k b (by_metal h) (by_left f g l) m n = absurd (omega arith)
between_left a k b (by_band f h) (by_metal g) m n = absurd (omega arith)
between_left a k b (by_band f h) (by_band f2 g) m n = absurd (omega (arith, h, g, n))
between_left a k b (by_band f h) (by_left f2 g l) m n = absurd (omega (arith, h, g, n))
between_left a k b (by_left f h l) (by_metal g) m n = absurd (omega arith)
between_left a k b (by_left f h l) (by_band f2 g) m n = absurd (omega (arith, h, g, n))
between_left a k b (by_left f h l) (by_left f2 g l2) m n = (sym f, sym h, l2)

-- in ordered entries, what stands between two of one band is in the run of the first, if the second is
in_run : (entries : List Entry) (p q : ℕ) → Ordered entries → p < q → q < length entries → InBand (entry_from entries p) (entry_from entries q) → InRun entries p q
in_run entries p q ordered before within b k after upto = elim (cases_lt k q) [
  | inl lt ↦
      let r = between_left (entry_from entries p) (entry_from entries k) (entry_from entries q) (ordered p k after (omega arith)) (ordered k q lt within) (sym b.metal) (sym b.band) in
      record { metal = r.0; band = r.1; left = let l = r.2 in let reach = b.left in omega (arith, l, reach) }
  | inr ge ↦ let same_place : q ≡ k = omega arith in subst (λ (x : ℕ). InBand (entry_from entries p) (entry_from entries x)) same_place b
]

-- what begins before the end of an entry, the gap left out, isn't looked at, nor what stands between the two
pub skips_upto : (entries : List Entry) (gap p middle : ℕ) → Ordered entries → middle < length entries → (entry_from entries middle).metal ≡ (entry_from entries p).metal
    → (entry_from entries middle).band ≡ (entry_from entries p).band → (entry_from entries middle).left + gap ≤ (entry_from entries p).right → Skips (Some gap) entries p (middle + 1)
skips_upto entries gap p middle ordered within metal band before q after upto looks = elim (cases_lt q middle) [
  | inl lt ↦
      let r = between_left (entry_from entries p) (entry_from entries q) (entry_from entries middle) (ordered p q after (omega (arith, lt, within))) (ordered q middle lt within) (sym metal) (sym band) in
      let l = r.2 in omega (arith, l, before, looks)
  | inr ge ↦
      let same : middle ≡ q = omega (arith, ge, upto) in
      let l : (entry_from entries middle).left ≡ (entry_from entries q).left = ap (λ (x : ℕ). (entry_from entries x).left) same in
      omega (arith, l, before, looks)
]

-- of two entries of one band that a sweep looks at in the order of their left ends, it looks at them in the order of their places
looks : (beside : Option ℕ) (a b : Entry) → Precedes a b → a.metal ≡ b.metal → a.band ≡ b.band → IsSeen beside a b → LooksAt beside a b
looks None a b before m n h = tt
looks (Some gap) a b before m n (inl h) = h.1
looks (Some gap) a b (by_metal l) m n (inr h) = absurd (omega (arith, l, m))
looks (Some gap) a b (by_band e l) m n (inr h) = absurd (omega (arith, l, n))
looks (Some gap) a b (by_left e f l) m n (inr h) = let g = h.0 in absurd (omega (arith, l, g))

seen_back : (beside : Option ℕ) (a b : Entry) → IsSeen beside a b → IsSeen beside b a
seen_back None a b h = tt
seen_back (Some gap) a b (inl h) = inr h
seen_back (Some gap) a b (inr h) = inl h

differ : (all : List Shape) (r : Relation) (i j : ℕ) → Relates all r i j → i ≡ j → ⊥
differ all (relation.Near gap) i j h e = let below = h.is.0 in omega (arith, below, e)
differ all relation.Held i j h e = h.is.0 e

module _ (all : List Shape) (r : Relation) (beside : Option ℕ) where
  pub gains_none : (ps : List Pair) → Gains all r ps ps
  gains_none ps = record { kept = λ p h. h; only = λ p h. inl h }

  pub gains_then : (a b c : List Pair) → Gains all r a b → Gains all r b c → Gains all r a c
  gains_then a b c f g = record {
    kept = λ p h. g.kept p (f.kept p h);
    only = λ p h. elim (g.only p h) [ inl o ↦ f.only p o | inr n ↦ inr n ];
  }

  pub gains_push : (ps : List Pair) (i j : ℕ) → Relates all r i j → Gains all r ps (ps ++ pair i j ∷ [])
  gains_push ps i j h = record {
    kept = λ p old. Contains-append_left ps (pair i j ∷ []) p old;
    only = λ p new. elim (Contains-push_cases ps (pair i j) p new) [
      | inl old ↦ inl old
      | inr is ↦ inr (subst (λ (q : Pair). Relates all r q.first q.second) is h)
    ];
  }

  has_more : (olds news : List Pair) (i j : ℕ) → Gains all r olds news → Has all r olds i j → Has all r news i j
  has_more olds news i j g h = (λ s. g.kept (pair i j) (h.0 s), λ s. g.kept (pair j i) (h.1 s))

  -- a pair of entries more
  pub sees_next : (entries : List Entry) (olds mids news : List Pair) (p n : ℕ) → Gains all r olds mids → Gains all r mids news → SeesRun all r beside entries olds p n
      → (Relates all r (entry_from entries p).place (entry_from entries n).place → Contains mids (pair (entry_from entries p).place (entry_from entries n).place))
      → (Relates all r (entry_from entries n).place (entry_from entries p).place → Contains news (pair (entry_from entries n).place (entry_from entries p).place))
      → SeesRun all r beside entries news p (n + 1)
  sees_next entries olds mids news p n f g run one other q after upto looks = elim (cases_lt q n) [
    | inl lt ↦ has_more olds news (entry_from entries p).place (entry_from entries q).place (gains_then olds mids news f g) (run q after lt looks)
    | inr ge ↦
        let e : n ≡ q = omega arith in
        subst (λ (k : ℕ). Has all r news (entry_from entries p).place (entry_from entries k).place) e
        (λ h. g.kept (pair (entry_from entries p).place (entry_from entries n).place) (one h), other)
  ]

  pub sees_whole : (entries : List Entry) (ps : List Pair) (p end : ℕ) → SeesRun all r beside entries ps p end → p < end
      → (end < length entries → InBand (entry_from entries p) (entry_from entries end) → ⊥) → SeesFrom all r beside entries ps p
  sees_whole entries ps p end run after last q from within in_run looks = elim (cases_lt q end) [
    | inl lt ↦ run q from lt looks
    | inr ge ↦ absurd (last (omega arith) (in_run end after ge))
  ]

  -- an entry more
  pub sees_more : (entries : List Entry) (olds news : List Pair) (m : ℕ) → Gains all r olds news → SeesRuns all r beside entries olds m → SeesFrom all r beside entries news m
      → SeesRuns all r beside entries news (m + 1)
  sees_more entries olds news m g runs own p low q after within in_run looks = elim (cases_lt p m) [
    | inl lt ↦ has_more olds news (entry_from entries p).place (entry_from entries q).place g (runs p lt q after within in_run looks)
    | inr ge ↦ let e : m ≡ p = omega arith in subst (λ (x : ℕ). SeesFrom all r beside entries news x) e own q after within in_run looks
  ]

  -- what was seen is seen still
  pub sees_still : (entries : List Entry) (olds news : List Pair) (m : ℕ) → Gains all r olds news → SeesRuns all r beside entries olds m → SeesRuns all r beside entries news m
  sees_still entries olds news m g runs p low q after within in_run looks =
      has_more olds news (entry_from entries p).place (entry_from entries q).place g (runs p low q after within in_run looks)

  -- in ordered entries in which two related shapes share a band, the sweep sees them
  sees_shared : (entries : List Entry) (ps : List Pair) → Ordered entries → SeesRuns all r beside entries ps (length entries)
      → (i j : ℕ) → Relates all r i j → Share beside entries i j → Contains ps (pair i j)
  sees_shared entries ps ordered runs i j h s =
      let a = found_at entries s.one s.one_there in
      let b = found_at entries s.other s.other_there in
      let ia : (entry_from entries a.0).place ≡ i = ap (λ (e : Entry). e.place) a.2 ∙ s.one_is in
      let jb : (entry_from entries b.0).place ≡ j = ap (λ (e : Entry). e.place) b.2 ∙ s.other_is in
      let go : (p q : ℕ) → p < q → q < length entries → InBand (entry_from entries p) (entry_from entries q) → IsSeen beside (entry_from entries p) (entry_from entries q)
      → Has all r ps (entry_from entries p).place (entry_from entries q).place =
      λ p q before within b seen. runs p (omega arith) q before within (in_run entries p q ordered before within b)
      (looks beside (entry_from entries p) (entry_from entries q) (ordered p q before within) (sym b.metal) (sym b.band) seen) in
      let seen : IsSeen beside (entry_from entries a.0) (entry_from entries b.0) =
      subst (λ (x : Entry). IsSeen beside x (entry_from entries b.0)) (sym a.2) (subst (λ (y : Entry). IsSeen beside s.one y) (sym b.2) s.seen) in
      elim (cases_lt a.0 b.0) [
        | inl lt ↦
            let near : InBand (entry_from entries a.0) (entry_from entries b.0) =
            subst (λ (x : Entry). InBand x (entry_from entries b.0)) (sym a.2) (subst (λ (y : Entry). InBand s.one y) (sym b.2) s.one_in) in
            let at : Has all r ps i j =
            subst (λ (x : ℕ). Has all r ps x j) ia (subst (λ (y : ℕ). Has all r ps (entry_from entries a.0).place y) jb (go a.0 b.0 lt b.1 near seen)) in
            at.0 h
        | inr ge ↦ elim (cases_lt b.0 a.0) [
          | inl lt ↦
              let near : InBand (entry_from entries b.0) (entry_from entries a.0) =
              subst (λ (x : Entry). InBand x (entry_from entries a.0)) (sym b.2) (subst (λ (y : Entry). InBand s.other y) (sym a.2) s.other_in) in
              let back = seen_back beside (entry_from entries a.0) (entry_from entries b.0) seen in
              let at : Has all r ps j i =
              subst (λ (x : ℕ). Has all r ps x i) jb (subst (λ (y : ℕ). Has all r ps (entry_from entries b.0).place y) ia (go b.0 a.0 lt a.1 near back)) in
              at.1 h
          | inr le ↦
              let same_place : a.0 ≡ b.0 = omega arith in
              absurd (differ all r i j h (sym ia ∙ (ap (λ (x : ℕ). (entry_from entries x).place) same_place ∙ jb)))
        ]
      ]

  -- so with two lists of entries, in one of which each two that are related share a band
  pub sees_all : (entries turned : List Entry) (ps : List Pair) → Ordered entries → Ordered turned → SeesRuns all r beside entries ps (length entries)
      → SeesRuns all r beside turned ps (length turned) → SharesEither all r beside entries turned → (i j : ℕ) → Relates all r i j → Contains ps (pair i j)
  sees_all entries turned ps one other runs more shares i j h = elim (shares i j h) [
    | inl s ↦ sees_shared entries ps one runs i j h s
    | inr s ↦ sees_shared turned ps other more i j h s
  ]
