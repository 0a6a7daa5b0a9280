-- What a sweep covers.
use Rattle.std.proofs.Common.{◌≡◌, ℕ, zero, suc, ◌+◌, ◌<◌, ◌↔◌, ◌≤ℤ◌, pos, List, [], ◌∷◌, inl, inr, length, get_or, refl, sym, ◌∙◌, ap, subst, arith}
use Rattle.std.proofs.lemmas.Bool.{cases_lt}
use Rattle.sym_shapes.specs.Shape.{Shape}
use Rattle.sym_groups.specs.Ties.{Tied, same}
use Rattle.sym_groups.proofs.Steps.{tied_back}
use Rattle.sym_shapes.specs.declared.sweep.Entry.{Entry}
use Rattle.sym_shapes.specs.declared.forest.Forest.{Forest}
use Rattle.sym_shapes.specs.Joints.{Grows}
use Rattle.std.proofs.lemmas.Int.{ints}
use Rattle.sym_shapes.specs.Sweep.{Precedes, by_metal, by_band, by_left, Ordered, InBand, InRun, Touch, CoversRun, CoversFrom, CoversRuns}
use Rattle.sym_shapes.proofs.Joins.{read_at}

abbrev pub none : Entry
none = record { metal = 0; band = 0; left = pos 0; right = pos 0; place = 0 }

pub any_entry : (xs : List Entry) (k : ℕ) (d e : Entry) → k < length xs → get_or xs k d ≡ get_or xs k e
any_entry [] k d e h = absurd (omega arith)
any_entry (x ∷ xs) zero d e h = refl
any_entry (x ∷ xs) (suc k) d e h = any_entry xs k d e (omega arith)

pub touch_at : (xs : List Shape) (i j : ℕ) (a b : Shape) → i < length xs → j < length xs → a ≡ get_or xs i a → b ≡ get_or xs j b
    → (d : Shape) → Touch a b ↔ Touch (get_or xs i d) (get_or xs j d)
touch_at xs i j a b hi hj ea eb d =
    let fa = read_at xs i d a hi ea in
    let fb = read_at xs j d b hj eb in (
      λ h. subst (λ (x : Shape). Touch x (get_or xs j d)) fa (subst (λ (y : Shape). Touch a y) fb h),
      λ h. subst (λ (x : Shape). Touch x b) (sym fa) (subst (λ (y : Shape). Touch (get_or xs i d) y) (sym fb) h),
    )

pub run_next : (shapes : List Shape) (entries : List Entry) (f g : Forest) (p n : ℕ) → p < length entries → n < length entries → Grows shapes f g
    → CoversRun shapes entries f.groups p n
    → ((d : Shape) → Touch (get_or shapes (get_or entries p none).place d) (get_or shapes (get_or entries n none).place d) → Tied g.groups (get_or entries p none).place (get_or entries n none).place)
    → CoversRun shapes entries g.groups p (n + 1)
run_next shapes entries f g p n hp hn w run last q e d after hq t = elim (cases_lt q n) [
  | inl lt ↦ w.kept _ _ (run q e d after lt t)
  | inr ge ↦
      let en : n ≡ q = omega arith in
      let t1 : Touch (get_or shapes (get_or entries p e).place d) (get_or shapes (get_or entries n e).place d) =
      subst (λ (k : ℕ). Touch (get_or shapes (get_or entries p e).place d) (get_or shapes (get_or entries k e).place d)) (sym en) t in
      let t2 : Touch (get_or shapes (get_or entries p none).place d) (get_or shapes (get_or entries n e).place d) =
      subst (λ (x : Entry). Touch (get_or shapes x.place d) (get_or shapes (get_or entries n e).place d)) (any_entry entries p e none hp) t1 in
      let t3 : Touch (get_or shapes (get_or entries p none).place d) (get_or shapes (get_or entries n none).place d) =
      subst (λ (x : Entry). Touch (get_or shapes (get_or entries p none).place d) (get_or shapes x.place d)) (any_entry entries n e none hn) t2 in
      subst (λ (k : ℕ). Tied g.groups (get_or entries p e).place (get_or entries k e).place) en
      (subst (λ (x : Entry). Tied g.groups x.place (get_or entries n e).place) (any_entry entries p none e hp)
      (subst (λ (x : Entry). Tied g.groups (get_or entries p none).place x.place) (any_entry entries n none e hn) (last d t3)))
]

pub run_whole : (shapes : List Shape) (entries : List Entry) (ps : List ℕ) (p end : ℕ) → CoversRun shapes entries ps p end → p < end
    → ((e : Entry) → end < length entries → InBand (get_or entries p e) (get_or entries end e) → ⊥)
    → CoversFrom shapes entries ps p
run_whole shapes entries ps p end run after last q e d hq within in_run t = elim (cases_lt q end) [
  | inl lt ↦ run q e d hq lt t
  | inr ge ↦ absurd (last e (omega arith) (in_run end after ge))
]

between_left : (a k b : Entry) → Precedes a k → Precedes k b → a.metal ≡ b.metal → a.band ≡ b.band → (k.metal ≡ a.metal) × (k.band ≡ a.band) × (k.left ≤ℤ b.left)
between_left a k b (by_metal h) (by_metal g) m n = absurd (omega arith)
between_left a k b (by_metal h) (by_band f g) m n = absurd (omega arith)
between_left a k b (by_metal h) (by_left f g l) m n = absurd (omega arith)
between_left a k b (by_band f h) (by_metal g) m n = absurd (omega arith)
between_left a k b (by_band f h) (by_band f2 g) m n = let back : b.band < k.band = rw (← n) h in absurd (omega (arith, g, back))
between_left a k b (by_band f h) (by_left f2 g l) m n = let one : a.band < b.band = rw (← g) h in absurd (omega (arith, n, one))
between_left a k b (by_left f h l) (by_metal g) m n = absurd (omega arith)
between_left a k b (by_left f h l) (by_band f2 g) m n = let one : a.band < b.band = rw h g in absurd (omega (arith, n, one))
between_left a k b (by_left f h l) (by_left f2 g l2) m n = (sym f, sym h, l2)

-- in ordered entries, what stands between two of one band is in the run of the first, if the second is
pub in_run : (entries : List Entry) (p q : ℕ) (e : Entry) → Ordered entries → p < q → q < length entries
    → (get_or entries p e).metal ≡ (get_or entries q e).metal → (get_or entries p e).band ≡ (get_or entries q e).band
    → (get_or entries q e).left ≤ℤ (get_or entries p e).right → InRun entries p q e
in_run entries p q e ordered before within m b reach k after upto = elim (cases_lt k q) [
  | inl lt ↦
      let r = between_left (get_or entries p e) (get_or entries k e) (get_or entries q e) (ordered p k e after (omega arith)) (ordered k q e lt within) m b in
      record { metal = r.0; band = r.1; left = let l = r.2 in omega (arith, ints, l, reach) }
  | inr ge ↦ let same_place : q ≡ k = omega arith in
      subst (λ (x : ℕ). InBand (get_or entries p e) (get_or entries x e)) same_place
      (record { metal = sym m; band = sym b; left = reach })
]

-- two shapes share a band: their entries there
pub record Share (entries : List Entry) (i j : ℕ) : Type 0 where
  pub p : ℕ
  pub q : ℕ
  pub p_within : p < length entries
  pub q_within : q < length entries
  pub p_is : (get_or entries p none).place ≡ i
  pub q_is : (get_or entries q none).place ≡ j
  pub metal : (get_or entries p none).metal ≡ (get_or entries q none).metal
  pub band : (get_or entries p none).band ≡ (get_or entries q none).band
  pub left_q : (get_or entries q none).left ≤ℤ (get_or entries p none).right
  pub left_p : (get_or entries p none).left ≤ℤ (get_or entries q none).right

touch_back : (a b : Shape) → Touch a b → Touch b a
touch_back a b t = (sym t.0, record { left = t.1.right; right = t.1.left; low = t.1.high; high = t.1.low })

-- ordered entries in which touching shapes share a band: the sweep covers what touches
pub covers_touching : (shapes : List Shape) (entries : List Entry) (ps : List ℕ) → Ordered entries → CoversRuns shapes entries ps (length entries)
    → (i j : ℕ) (d : Shape) → Touch (get_or shapes i d) (get_or shapes j d) → Share entries i j → Tied ps i j
covers_touching shapes entries ps ordered runs i j d t s =
    let go : (p q : ℕ) (a b : ℕ) → p < q → q < length entries → (get_or entries p none).place ≡ a → (get_or entries q none).place ≡ b
    → (get_or entries p none).metal ≡ (get_or entries q none).metal → (get_or entries p none).band ≡ (get_or entries q none).band
    → (get_or entries q none).left ≤ℤ (get_or entries p none).right → Touch (get_or shapes a d) (get_or shapes b d) → Tied ps a b =
    λ p q a b before within pa qb m n reach touch.
    let met : Touch (get_or shapes (get_or entries p none).place d) (get_or shapes (get_or entries q none).place d) = rw (pa, qb) touch in
    let tied = runs p (omega arith) q none d before within (in_run entries p q none ordered before within m n reach) met in
    rw (← pa, ← qb) tied in
    elim (cases_lt s.p s.q) [
      | inl lt ↦ go s.p s.q i j lt s.q_within s.p_is s.q_is s.metal s.band s.left_q t
      | inr ge ↦ elim (cases_lt s.q s.p) [
        | inl lt ↦ tied_back (go s.q s.p j i lt s.p_within s.q_is s.p_is (sym s.metal) (sym s.band) s.left_p (touch_back (get_or shapes i d) (get_or shapes j d) t))
        | inr ge2 ↦ let e : s.p ≡ s.q = omega arith in
            let ij : i ≡ j = sym s.p_is ∙ (ap (λ (x : ℕ). (get_or entries x none).place) e ∙ s.q_is) in subst (λ (x : ℕ). Tied ps i x) ij same
      ]
    ]
