-- The instances of registers and of gates.
use Rattle.std.proofs.Common.{◌≡◌, ℕ, zero, suc, ◌+◌, ◌<◌, ◌≤◌, Bool, true, false, List, [], ◌∷◌, length, Option, None, Some, refl, ◌∙◌, ap, subst, arith, filter}
use Rattle.net_theory.specs.Sources.{IsNumber}
use Rattle.net_theory.proofs.Basics.{listed}
use Rattle.cell_match.specs.declared.gate.Gate.{Gate}
use Rattle.boog_map.specs.declared.choice.Parts.{Parts}
use Rattle.boog_map.specs.declared.place.Spot.{Spot}
use Rattle.boog_map.specs.Draft.{register_spot, register_spots, gate_spot, gate_spots, gate_drivers, output_terminal}

-- ---- registers

pub register_at : (front k : ℕ) (loads : List ℕ) (j : ℕ) (s : Spot) → IsNumber (register_spots front k loads) j s
    → (load : ℕ) × IsNumber loads j load × (s ≡ register_spot front (k + j) load)
register_at front k [] j s h = absurd h
register_at front k (load ∷ loads) zero s h =
    let e : k ≡ k + 0 = omega arith in
    (load, refl, h ∙ ap (λ (i : ℕ). register_spot front i load) e)
register_at front k (load ∷ loads) (suc j) s h =
    let r = register_at front (suc k) loads j s h in
    let e : suc k + j ≡ k + suc j = omega arith in
    (r.0, r.1, r.2 ∙ ap (λ (i : ℕ). register_spot front i r.0) e)

pub register_found : (front k : ℕ) (loads : List ℕ) (j load : ℕ) → IsNumber loads j load → IsNumber (register_spots front k loads) j (register_spot front (k + j) load)
register_found front k [] j load h = absurd h
register_found front k (first ∷ loads) zero load h =
    let e : k + 0 ≡ k = omega arith in
    ap (λ (x : ℕ). register_spot front (k + 0) x) h ∙ ap (λ (i : ℕ). register_spot front i first) e
register_found front k (first ∷ loads) (suc j) load h =
    let e : suc k + j ≡ k + suc j = omega arith in
    let P : ℕ → Type 0 = λ i. IsNumber (register_spots front (suc k) loads) j (register_spot front i load) in
    subst P e (register_found front (suc k) loads j load h)

pub register_count : (front k : ℕ) (loads : List ℕ) → length (register_spots front k loads) ≡ length loads
register_count front k [] = refl
register_count front k (load ∷ loads) = let h = register_count front (suc k) loads in omega (arith, h)

-- ---- gates

-- gate number k + j is that of a node which has one
abbrev pub GateAt : ℕ → ℕ → List (Option Gate) → ℕ → Spot → Type 0
GateAt number k gs j s = (i : ℕ) × (x : Gate) × IsNumber gs i (Some x) × (s ≡ gate_spot (k + j) (number + i) x)

shift : (number k : ℕ) (first : Option Gate) (gs : List (Option Gate)) (j m : ℕ) (s : Spot) → j ≡ m → GateAt (suc number) k gs j s
    → (i : ℕ) × (x : Gate) × IsNumber (first ∷ gs) i (Some x) × (s ≡ gate_spot (k + m) (number + i) x)
shift number k first gs j m s same r =
    let e : suc number + r.0 ≡ number + suc r.0 = omega arith in (
      suc r.0,
      r.1,
      r.2,
      r.3 ∙ ap (λ (x : ℕ). gate_spot (k + x) (suc number + r.0) r.1) same ∙ ap (λ (x : ℕ). gate_spot (k + m) x r.1) e,
    )

pub gate_at : (number k : ℕ) (gs : List (Option Gate)) (j : ℕ) (s : Spot) → IsNumber (gate_spots number k gs) j s → GateAt number k gs j s
gate_at number k [] j s h = absurd h
gate_at number k (None ∷ gs) j s h = shift number k None gs j j s refl (gate_at (suc number) k gs j s h)
gate_at number k (Some x ∷ gs) zero s h =
    let n : number ≡ number + 0 = omega arith in
    let m : k ≡ k + 0 = omega arith in
    (0, x, refl, h ∙ ap (λ (y : ℕ). gate_spot y number x) m ∙ ap (λ (y : ℕ). gate_spot (k + 0) y x) n)
gate_at number k (Some x ∷ gs) (suc j) s h =
    let r = gate_at (suc number) (suc k) gs j s h in
    let n : suc k + j ≡ k + suc j = omega arith in
    let moved : GateAt (suc number) k gs (suc j) s = (r.0, r.1, r.2, r.3 ∙ ap (λ (y : ℕ). gate_spot y (suc number + r.0) r.1) n) in
    shift number k (Some x) gs (suc j) (suc j) s refl moved

-- a node that has a gate is among the instances, and their output pins drive their numbers
abbrev pub GateFound : Parts → ℕ → ℕ → List (Option Gate) → ℕ → Gate → Type 0
GateFound ps number k gs i x =
    (j : ℕ) × IsNumber (gate_spots number k gs) j (gate_spot (k + j) (number + i) x)
    × IsNumber (gate_drivers ps number k gs) i (output_terminal ps (gate_spot (k + j) (number + i) x))

pub gate_found : (ps : Parts) (number k : ℕ) (gs : List (Option Gate)) (i : ℕ) (x : Gate) → IsNumber gs i (Some x) → GateFound ps number k gs i x
gate_found ps number k [] i x h = absurd h
gate_found ps number k (None ∷ gs) zero x h = absurd (cc h)
gate_found ps number k (None ∷ gs) (suc i) x h =
    let r = gate_found ps (suc number) k gs i x h in
    let same : suc number + i ≡ number + suc i = omega arith in
    let spot : gate_spot (k + r.0) (suc number + i) x ≡ gate_spot (k + r.0) (number + suc i) x = ap (λ (y : ℕ). gate_spot (k + r.0) y x) same in (
      r.0,
      subst (λ (s : Spot). IsNumber (gate_spots (suc number) k gs) r.0 s) spot r.1,
      subst (λ (s : Spot). IsNumber (gate_drivers ps (suc number) k gs) i (output_terminal ps s)) spot r.2,
    )
gate_found ps number k (Some y ∷ gs) zero x h =
    let same : x ≡ y = cc h in
    let n : number + 0 ≡ number = omega arith in
    let m : k + 0 ≡ k = omega arith in
    let spot : gate_spot (k + 0) (number + 0) x ≡ gate_spot k number y =
    ap (λ (z : ℕ). gate_spot z (number + 0) x) m ∙ ap (λ (z : ℕ). gate_spot k z x) n ∙ ap (λ (z : Gate). gate_spot k number z) same in
    (0, spot, ap (output_terminal ps) spot)
gate_found ps number k (Some y ∷ gs) (suc i) x h =
    let r = gate_found ps (suc number) (suc k) gs i x h in
    let same : suc number + i ≡ number + suc i = omega arith in
    let n : suc k + r.0 ≡ k + suc r.0 = omega arith in
    let spot : gate_spot (suc k + r.0) (suc number + i) x ≡ gate_spot (k + suc r.0) (number + suc i) x =
    ap (λ (z : ℕ). gate_spot z (suc number + i) x) n ∙ ap (λ (z : ℕ). gate_spot (k + suc r.0) z x) same in (
      suc r.0,
      subst (λ (s : Spot). IsNumber (gate_spots (suc number) (suc k) gs) r.0 s) spot r.1,
      subst (λ (s : Spot). IsNumber (gate_drivers ps (suc number) (suc k) gs) i (output_terminal ps s)) spot r.2,
    )

-- ---- what instances show

shown_low : (number k : ℕ) (gs : List (Option Gate)) (j : ℕ) (s : Spot) → IsNumber (gate_spots number k gs) j s → number ≤ s.shown
shown_low number k gs j s h =
    let r = gate_at number k gs j s h in
    let e : s.shown ≡ number + r.0 = ap (λ (x : Spot). x.shown) r.3 in omega (arith, e)

-- the nodes of gates rise
pub rising : (number k : ℕ) (gs : List (Option Gate)) (i j : ℕ) (s u : Spot) → IsNumber (gate_spots number k gs) i s → IsNumber (gate_spots number k gs) j u → i < j
    → s.shown < u.shown
rising number k [] i j s u p q less = absurd p
rising number k (None ∷ gs) i j s u p q less = rising (suc number) k gs i j s u p q less
rising number k (Some x ∷ gs) i zero s u p q less = absurd (omega (arith, less))
rising number k (Some x ∷ gs) zero (suc j) s u p q less =
    let low = shown_low (suc number) (suc k) gs j u q in
    let e : s.shown ≡ number = ap (λ (y : Spot). y.shown) p in omega (arith, low, e)
rising number k (Some x ∷ gs) (suc i) (suc j) s u p q less = rising (suc number) (suc k) gs i j s u p q (omega (arith, less))

-- ---- how many

pub gate_count : (number k : ℕ) (gs : List (Option Gate)) → length (gate_spots number k gs) ≤ length gs
gate_count number k [] = omega arith
gate_count number k (None ∷ gs) = let h = gate_count (suc number) k gs in omega (arith, h)
gate_count number k (Some x ∷ gs) = let h = gate_count (suc number) (suc k) gs in omega (arith, h)

abbrev kept : List Bool → ℕ
kept bs = length (filter (λ b. b) bs)

first_kept : (b : Bool) (bs : List Bool) → kept bs ≤ kept (b ∷ bs)
first_kept true bs = omega arith
first_kept false bs = omega arith

-- where each node that has a gate has a mark
pub marked_count : (number k : ℕ) (gs : List (Option Gate)) (f : ℕ → Bool) → ((i : ℕ) (x : Gate) → IsNumber gs i (Some x) → f i ≡ true)
    → length (gate_spots number k gs) ≤ length (filter (λ b. b) (listed (length gs) f))
marked_count number k [] f all = omega arith
marked_count number k (None ∷ gs) f all =
    let h = marked_count (suc number) k gs (λ i. f (suc i)) (λ i x is. all (suc i) x is) in
    let more = first_kept (f 0) (listed (length gs) (λ i. f (suc i))) in
    omega (arith, h, more)
marked_count number k (Some x ∷ gs) f all =
    let h = marked_count (suc number) (suc k) gs (λ i. f (suc i)) (λ i y is. all (suc i) y is) in
    let one : kept (f 0 ∷ listed (length gs) (λ i. f (suc i))) ≡ suc (kept (listed (length gs) (λ i. f (suc i)))) =
    ap (λ (b : Bool). kept (b ∷ listed (length gs) (λ i. f (suc i)))) (all 0 x refl) in
    omega (arith, h, one)
