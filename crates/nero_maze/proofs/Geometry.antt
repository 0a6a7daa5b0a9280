-- The grid's numbers and coordinates, and the way back.
use Rattle.std.proofs.Common.{IfSome, ℕ, zero, suc, Bool, true, false, cond, ◌≡◌, ◌+◌, ◌-◌, ◌*◌, ◌/◌, ◌%◌, ◌<◌, Option, Some, None, arith, sym, ◌∙◌, ap, subst, refl, nat_eq, nat_lt}
use Rattle.std.proofs.lemmas.Bool.{ltb-true, lt-ltb}
use Rattle.std.proofs.lemmas.Nat.{div-mul-add, mod-mul-add, div-add-mod'}
use Rattle.grid_core.specs.declared.grid.Grid.{Grid}
use Rattle.grid_core.specs.Numbers.{plane, nodes}
use Rattle.grid_core.proofs.Numbers.{below_plane, below_nodes, lies}
use Rattle.nero_maze.specs.Ways.{next, next_at, number_at, opposite}

pub next-number : (g : Grid) (l r c k : ℕ) → r < g.rows → c < g.columns → next g (number_at g l r c) k ≡ next_at g l r c k
unfolding next
next-number g l r c k hr hc =
    let lt = below_plane g r c hr hc in
    rw (
      div-mul-add l (plane g) (r * g.columns + c) lt,
      mod-mul-add l (plane g) (r * g.columns + c) lt,
      div-mul-add r g.columns c hc,
      mod-mul-add r g.columns c hc,
    )

pub number-of : (g : Grid) (u : ℕ) → number_at g (u / plane g) (u % plane g / g.columns) (u % plane g % g.columns) ≡ u
number-of g u = rw (div-add-mod' (u % plane g) g.columns) (div-add-mod' u (plane g))

cond_some : (b : Bool) (x v : ℕ) → cond b (Some x) None ≡ Some v → (b ≡ true) × (Some x ≡ Some v)
cond_some true x v h = (refl, h)
cond_some false x v h = absurd (let no : ⊥ = cc in no)

same_some : (x v : ℕ) → Some x ≡ Some v → x ≡ v
same_some x v h = cc

-- what a neighbour is: in the grid, and with this node as its neighbour on the way back
abbrev pub IsBack : Grid → ℕ → ℕ → ℕ → ℕ → ℕ → Type 0
IsBack g l r c k v = (v < nodes g) × (next g v (opposite k) ≡ Some (number_at g l r c))

back_of : (g : Grid) (l r c k : ℕ) (l' r' c' : ℕ) → l' < g.metals - 1 → r' < g.rows → c' < g.columns
    → next_at g l' r' c' (opposite k) ≡ Some (number_at g l r c) → IsBack g l r c k (number_at g l' r' c')
back_of g l r c k l' r' c' hl hr hc h =
    (below_nodes g l' (r' * g.columns + c') hl (below_plane g r' c' hr hc), next-number g l' r' c' (opposite k) hr hc ∙ h)

along : (b : Bool) (g : Grid) (l r c v : ℕ) → nat_eq (l % 2) 0 ≡ b → l < g.metals - 1 → r < g.rows → c < g.columns
    → next_at g l r c 0 ≡ Some v → IsBack g l r c 0 v
unfolding next_at
along true g l r c v e hl hr hc h =
    let h' = rw e at h in
    let got = cond_some (nat_lt (c + 1) g.columns) (number_at g l r (c + 1)) v h' in
    let lt = ltb-true (c + 1) g.columns got.0 in
    let pos : nat_lt 0 (c + 1) ≡ true = lt-ltb 0 (c + 1) (omega arith) in
    let same : c + 1 - 1 ≡ c = omega arith in
    let b = back_of g l r c 0 l r (c + 1) hl hr lt (rw (e, pos, same) refl) in
    let family : ℕ → Type 0 = λ w. IsBack g l r c 0 w in
    subst family (same_some _ _ got.1) b
along false g l r c v e hl hr hc h =
    let h' = rw e at h in
    let got = cond_some (nat_lt (r + 1) g.rows) (number_at g l (r + 1) c) v h' in
    let lt = ltb-true (r + 1) g.rows got.0 in
    let pos : nat_lt 0 (r + 1) ≡ true = lt-ltb 0 (r + 1) (omega arith) in
    let same : r + 1 - 1 ≡ r = omega arith in
    let b = back_of g l r c 0 l (r + 1) c hl lt hc (rw (e, pos, same) refl) in
    let family : ℕ → Type 0 = λ w. IsBack g l r c 0 w in
    subst family (same_some _ _ got.1) b

against : (b : Bool) (g : Grid) (l r c v : ℕ) → nat_eq (l % 2) 0 ≡ b → l < g.metals - 1 → r < g.rows → c < g.columns
    → next_at g l r c 1 ≡ Some v → IsBack g l r c 1 v
unfolding next_at
against true g l r c v e hl hr hc h =
    let h' = rw e at h in
    let got = cond_some (nat_lt 0 c) (number_at g l r (c - 1)) v h' in
    let lt = ltb-true 0 c got.0 in
    let same : c - 1 + 1 ≡ c = omega arith in
    let pos : nat_lt c g.columns ≡ true = lt-ltb c g.columns hc in
    let b = back_of g l r c 1 l r (c - 1) hl hr (omega arith) (rw (e, same, pos) refl) in
    let family : ℕ → Type 0 = λ w. IsBack g l r c 1 w in
    subst family (same_some _ _ got.1) b
against false g l r c v e hl hr hc h =
    let h' = rw e at h in
    let got = cond_some (nat_lt 0 r) (number_at g l (r - 1) c) v h' in
    let lt = ltb-true 0 r got.0 in
    let same : r - 1 + 1 ≡ r = omega arith in
    let pos : nat_lt r g.rows ≡ true = lt-ltb r g.rows hr in
    let b = back_of g l r c 1 l (r - 1) c hl (omega arith) hc (rw (e, same, pos) refl) in
    let family : ℕ → Type 0 = λ w. IsBack g l r c 1 w in
    subst family (same_some _ _ got.1) b

pub next_at-back : (g : Grid) (l r c k v : ℕ) → k < 4 → l < g.metals - 1 → r < g.rows → c < g.columns
    → next_at g l r c k ≡ Some v → IsBack g l r c k v
unfolding next_at
next_at-back g l r c zero v k4 hl hr hc h = along (nat_eq (l % 2) 0) g l r c v refl hl hr hc h
next_at-back g l r c (suc zero) v k4 hl hr hc h = against (nat_eq (l % 2) 0) g l r c v refl hl hr hc h
next_at-back g l r c (suc (suc zero)) v k4 hl hr hc h =
    let got = cond_some (nat_lt (l + 1) (g.metals - 1)) (number_at g (l + 1) r c) v h in
    let lt = ltb-true (l + 1) (g.metals - 1) got.0 in
    let pos : nat_lt 0 (l + 1) ≡ true = lt-ltb 0 (l + 1) (omega arith) in
    let same : l + 1 - 1 ≡ l = omega arith in
    let b = back_of g l r c 2 (l + 1) r c lt hr hc (rw (pos, same) refl) in
    let family : ℕ → Type 0 = λ w. IsBack g l r c 2 w in
    subst family (same_some _ _ got.1) b
next_at-back g l r c (suc (suc (suc zero))) v k4 hl hr hc h =
    let got = cond_some (nat_lt 0 l) (number_at g (l - 1) r c) v h in
    let lt = ltb-true 0 l got.0 in
    let same : l - 1 + 1 ≡ l = omega arith in
    let pos : nat_lt l (g.metals - 1) ≡ true = lt-ltb l (g.metals - 1) hl in
    let b = back_of g l r c 3 (l - 1) r c (omega arith) hr hc (rw (same, pos) refl) in
    let family : ℕ → Type 0 = λ w. IsBack g l r c 3 w in
    subst family (same_some _ _ got.1) b
next_at-back g l r c (suc (suc (suc (suc k)))) v k4 hl hr hc h = absurd (let no : ⊥ = omega arith in no)

pub step_facts : (g : Grid) (u k : ℕ) (res : Option ℕ) → u < nodes g → k < 4 → res ≡ next g u k
    → IfSome res (λ v. v < nodes g) × IfSome res (λ v. next g v (opposite k) ≡ Some u)
unfolding next
step_facts g u k None hu k4 e = (tt, tt)
step_facts g u k (Some v) hu k4 e =
    let h = lies g u hu in
    let b = next_at-back g (u / plane g) (u % plane g / g.columns) (u % plane g % g.columns) k v k4 h.layer h.row h.column (sym e) in
    (b.0, b.1 ∙ ap Some (number-of g u))
