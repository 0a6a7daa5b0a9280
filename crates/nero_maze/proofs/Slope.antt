-- The bound changes by no more than what a way costs.
use Rattle.std.proofs.Common.{ℕ, zero, suc, ◌≡◌, ◌+◌, ◌-◌, ◌*◌, ◌/◌, ◌%◌, ◌<◌, ◌⊎◌, inl, inr, Bool, true, false, cond, Some, None, arith, subst, refl, nat_eq, nat_lt}
use Rattle.std.proofs.lemmas.Bool.{ltb-true, cases_lt}
use Rattle.std.proofs.lemmas.Nat.{div-mul-add, mod-mul-add}
use Rattle.grid_core.specs.declared.grid.Grid.{Grid}
use Rattle.grid_core.specs.Numbers.{plane}
use Rattle.grid_core.proofs.Numbers.{below_plane, lies}
use Rattle.nero_maze.specs.declared.hull.Extent.{Extent}
use Rattle.nero_maze.specs.declared.hull.Hull.{Hull}
use Rattle.nero_maze.specs.Ways.{next, next_at, number_at, weight}
use Rattle.nero_maze.specs.Hulls.{away, far, far_at}
use Rattle.nero_maze.proofs.Levels.{IsRise, IsSlope}

pub far-number : (g : Grid) (hull : Hull) (l r c : ℕ) → r < g.rows → c < g.columns → far g hull (number_at g l r c) ≡ far_at hull l r c
unfolding far
far-number g hull l r c hr hc =
    let lt = below_plane g r c hr hc in
    rw (
      div-mul-add l (plane g) (r * g.columns + c) lt,
      mod-mul-add l (plane g) (r * g.columns + c) lt,
      div-mul-add r g.columns c hc,
      mod-mul-add r g.columns c hc,
    )

pub far-place : (g : Grid) (hull : Hull) (u l r c : ℕ) → l ≡ u / plane g → r ≡ u % plane g / g.columns → c ≡ u % plane g % g.columns
    → far_at hull l r c ≡ far g hull u
unfolding far
far-place g hull u l r c el er ec = rw (el, er, ec) refl

pub next-place : (g : Grid) (u l r c k : ℕ) → l ≡ u / plane g → r ≡ u % plane g / g.columns → c ≡ u % plane g % g.columns
    → next g u k ≡ next_at g l r c k
unfolding next
next-place g u l r c k el er ec = rw (el, er, ec) refl

-- one number further
abbrev pub IsDrift : ℕ → ℕ → Type 0
IsDrift a b = (b ≡ a + 1) ⊎ ((b ≡ a) ⊎ (a ≡ b + 1))

drift : (e : Extent) (x : ℕ) → IsDrift (away e x) (away e (x + 1))
drift e x = elim (cases_lt x e.least) [
  | inl low ↦ elim (cases_lt x e.most) [ inl in_most ↦ inr (inr (omega arith)) | inr past ↦ inr (inl (omega arith)) ]
  | inr high ↦ elim (cases_lt x e.most) [ inl in_most ↦ inr (inl (omega arith)) | inr past ↦ inl (omega arith) ]
]

abbrev pub IsRisen : Grid → Hull → ℕ → ℕ → ℕ → ℕ → ℕ → Type 0
IsRisen g hull l r c k v = (rise : ℕ) × IsRise rise × (weight k + far g hull v ≡ rise + far_at hull l r c)

risen : (g : Grid) (hull : Hull) (l r c k l' r' c' rise : ℕ) → r' < g.rows → c' < g.columns → IsRise rise
    → weight k + far_at hull l' r' c' ≡ rise + far_at hull l r c → IsRisen g hull l r c k (number_at g l' r' c')
risen g hull l r c k l' r' c' rise hr hc is sum = (rise, is, rw (far-number g hull l' r' c' hr hc) sum)

cond_some : (b : Bool) (x v : ℕ) → cond b (Some x) None ≡ Some v → (b ≡ true) × (x ≡ v)
cond_some true x v h = (refl, cc)
cond_some false x v h = absurd (let no : ⊥ = cc in no)

-- a step of one number, and a via
step_up : (a b : ℕ) → IsDrift a b → (rise : ℕ) × IsRise rise × (1 + b ≡ rise + a)
step_up a b (inl e) = (2, inr (inr (inl refl)), omega arith)
step_up a b (inr (inl e)) = (1, inr (inl refl), omega arith)
step_up a b (inr (inr e)) = (0, inl refl, omega arith)

step_down : (a b : ℕ) → IsDrift a b → (rise : ℕ) × IsRise rise × (1 + a ≡ rise + b)
step_down a b (inl e) = (0, inl refl, omega arith)
step_down a b (inr (inl e)) = (1, inr (inl refl), omega arith)
step_down a b (inr (inr e)) = (2, inr (inr (inl refl)), omega arith)

via_up : (a b : ℕ) → IsDrift a b → (rise : ℕ) × IsRise rise × (3 + 3 * b ≡ rise + 3 * a)
via_up a b (inl e) = (6, inr (inr (inr (inr refl))), omega arith)
via_up a b (inr (inl e)) = (3, inr (inr (inr (inl refl))), omega arith)
via_up a b (inr (inr e)) = (0, inl refl, omega arith)

via_down : (a b : ℕ) → IsDrift a b → (rise : ℕ) × IsRise rise × (3 + 3 * a ≡ rise + 3 * b)
via_down a b (inl e) = (0, inl refl, omega arith)
via_down a b (inr (inl e)) = (3, inr (inr (inr (inl refl))), omega arith)
via_down a b (inr (inr e)) = (6, inr (inr (inr (inr refl))), omega arith)

less_one : (x : ℕ) → 0 < x → (y : ℕ) × (x ≡ y + 1) × (x - 1 ≡ y)
less_one x lt = (x - 1, omega arith, refl)

module _ (g : Grid) (hull : Hull) (l r c v : ℕ) (hr : r < g.rows) (hc : c < g.columns) where
  along : (b : Bool) → nat_eq (l % 2) 0 ≡ b → next_at g l r c 0 ≡ Some v → IsRisen g hull l r c 0 v
  unfolding next_at
  along true e h =
      let h' = rw e at h in
      let got = cond_some (nat_lt (c + 1) g.columns) (number_at g l r (c + 1)) v h' in
      let lt = ltb-true (c + 1) g.columns got.0 in
      let up = step_up (away hull.columns c) (away hull.columns (c + 1)) (drift hull.columns c) in
      let sum = up.2 in
      rw (← got.1) (risen g hull l r c 0 l r (c + 1) up.0 hr lt up.1 (omega arith))
  along false e h =
      let h' = rw e at h in
      let got = cond_some (nat_lt (r + 1) g.rows) (number_at g l (r + 1) c) v h' in
      let lt = ltb-true (r + 1) g.rows got.0 in
      let up = step_up (away hull.rows r) (away hull.rows (r + 1)) (drift hull.rows r) in
      let sum = up.2 in
      rw (← got.1) (risen g hull l r c 0 l (r + 1) c up.0 lt hc up.1 (omega arith))

  against : (b : Bool) → nat_eq (l % 2) 0 ≡ b → next_at g l r c 1 ≡ Some v → IsRisen g hull l r c 1 v
  unfolding next_at
  against true e h =
      let h' = rw e at h in
      let got = cond_some (nat_lt 0 c) (number_at g l r (c - 1)) v h' in
      let pos = ltb-true 0 c got.0 in
      let same : c - 1 + 1 ≡ c = omega arith in
      let fall : IsDrift (away hull.columns (c - 1)) (away hull.columns c) = subst (λ (x : ℕ). IsDrift (away hull.columns (c - 1)) (away hull.columns x)) same (drift hull.columns (c - 1)) in
      let down = step_down (away hull.columns (c - 1)) (away hull.columns c) fall in
      let sum = down.2 in
      let lt : c - 1 < g.columns = omega arith in
      rw (← got.1) (risen g hull l r c 1 l r (c - 1) down.0 hr lt down.1 (omega arith))
  against false e h =
      let h' = rw e at h in
      let got = cond_some (nat_lt 0 r) (number_at g l (r - 1) c) v h' in
      let pos = ltb-true 0 r got.0 in
      let same : r - 1 + 1 ≡ r = omega arith in
      let fall : IsDrift (away hull.rows (r - 1)) (away hull.rows r) = subst (λ (x : ℕ). IsDrift (away hull.rows (r - 1)) (away hull.rows x)) same (drift hull.rows (r - 1)) in
      let down = step_down (away hull.rows (r - 1)) (away hull.rows r) fall in
      let sum = down.2 in
      let lt : r - 1 < g.rows = omega arith in
      rw (← got.1) (risen g hull l r c 1 l (r - 1) c down.0 lt hc down.1 (omega arith))

  upward : next_at g l r c 2 ≡ Some v → IsRisen g hull l r c 2 v
  unfolding next_at
  upward h =
      let got = cond_some (nat_lt (l + 1) (g.metals - 1)) (number_at g (l + 1) r c) v h in
      let up = via_up (away hull.layers l) (away hull.layers (l + 1)) (drift hull.layers l) in
      let sum = up.2 in
      rw (← got.1) (risen g hull l r c 2 (l + 1) r c up.0 hr hc up.1 (omega arith))

  downward : next_at g l r c 3 ≡ Some v → IsRisen g hull l r c 3 v
  unfolding next_at
  downward h =
      let got = cond_some (nat_lt 0 l) (number_at g (l - 1) r c) v h in
      let pos = ltb-true 0 l got.0 in
      let same : l - 1 + 1 ≡ l = omega arith in
      let fall : IsDrift (away hull.layers (l - 1)) (away hull.layers l) = subst (λ (x : ℕ). IsDrift (away hull.layers (l - 1)) (away hull.layers x)) same (drift hull.layers (l - 1)) in
      let down = via_down (away hull.layers (l - 1)) (away hull.layers l) fall in
      let sum = down.2 in
      rw (← got.1) (risen g hull l r c 3 (l - 1) r c down.0 hr hc down.1 (omega arith))

  risen_at : (k : ℕ) → k < 4 → next_at g l r c k ≡ Some v → IsRisen g hull l r c k v
  risen_at zero k4 h = along (nat_eq (l % 2) 0) refl h
  risen_at (suc zero) k4 h = against (nat_eq (l % 2) 0) refl h
  risen_at (suc (suc zero)) k4 h = upward h
  risen_at (suc (suc (suc zero))) k4 h = downward h
  risen_at (suc (suc (suc (suc k)))) k4 h = absurd (let no : ⊥ = omega arith in no)

pub far_slope : (g : Grid) (hull : Hull) → IsSlope g (far g hull)
unfolding next
far_slope g hull u k v hu k4 is =
    let w = lies g u hu in
    let got = risen_at g hull (u / plane g) (u % plane g / g.columns) (u % plane g % g.columns) v w.row w.column k k4 is in
    let at = far-place g hull u (u / plane g) (u % plane g / g.columns) (u % plane g % g.columns) refl refl refl in
    let total = got.2 in
    (got.0, got.1, rw (← at) total)
