-- Loads of classes, summed terminal by terminal.
use Rattle.std.proofs.Common.{◌≡◌, ℕ, zero, suc, ◌+◌, ◌*◌, ◌^◌, ◌<◌, ◌≤◌, Bool, true, false, cond, List, [], ◌∷◌, ◌++◌, map, length, get_or, take, nat_eq, refl, sym, ap, ◌∙◌, arith}
use Rattle.std.specs.Prelude.{slice_set}
use Rattle.std.specs.List.{flat_map, zip, sum_by}
use Rattle.std.proofs.lemmas.List.{get_or-set_same, get_or-set_other, length-set, length-map, length-append, take_all}
use Rattle.std.proofs.lemmas.List.Sums.{sum_by_push}
use Rattle.std.proofs.lemmas.Bool.{eqb-true, eq-eqb}
use Rattle.vlsi_base.specs.declared.name.Port.{Port}
use Rattle.cell_model.specs.Library.{Library, cell_of}
use Rattle.net_core.specs.Netlist.{Instance, Netlist, port, pin_of, pins_of, terminals}
use Rattle.delay_sta.specs.Loads.{input_capacitance, pins_at, capacitances, share}

pub zip_more : (rs cs : List ℕ) (k : ℕ) → length rs ≡ length cs → k < length cs → take (k + 1) (zip rs cs) ≡ take k (zip rs cs) ++ (get_or rs k 0, get_or cs k 0) ∷ []
zip_more [] cs k e l = absurd (omega (arith, l, e))
zip_more (x ∷ rs) [] k e l = absurd (omega (arith, l))
zip_more (x ∷ rs) (c ∷ cs) zero e l = refl
zip_more (x ∷ rs) (c ∷ cs) (suc k) e l = let n : suc k + 1 ≡ suc (k + 1) = omega arith in
    rw n (ap (λ (ms : List (ℕ × ℕ)). (x, c) ∷ ms) (zip_more rs cs k (omega (arith, e)) (omega (arith, l))))

pub zip_length : (rs cs : List ℕ) → length rs ≡ length cs → length (zip rs cs) ≡ length cs
zip_length [] [] e = refl
zip_length [] (c ∷ cs) e = absurd (omega (arith, e))
zip_length (x ∷ rs) [] e = refl
zip_length (x ∷ rs) (c ∷ cs) e = ap suc (zip_length rs cs (omega (arith, e)))

-- what the sums are when so many terminals are added
pub record Summed (rs cs sums : List ℕ) (count k : ℕ) : Type 0 where
  pub many : length sums ≡ count
  pub each : (class : ℕ) → class < count → get_or sums class 0 ≡ sum_by (share class) (take k (zip rs cs))
  pub small : (class : ℕ) → class < count → get_or sums class 0 ≤ k * 4294967295

pub summed_step : (rs cs sums : List ℕ) (count k old new : ℕ) → Summed rs cs sums count k → length rs ≡ length cs → k < length cs → get_or cs k 0 < count → get_or rs k 0 < 2 ^ 32
    → old ≡ get_or sums (get_or cs k 0) 0 → new ≡ old + get_or rs k 0 → Summed rs cs (slice_set sums (get_or cs k 0) new) count (k + 1)
summed_step rs cs sums count k old new before same l low short is added = record { many = length-set sums at new ∙ before.many; each = each; small = small } where
  at : ℕ
  at = get_or cs k 0

  inside : get_or cs k 0 < length sums
  inside = let m = before.many in omega (arith, m, low)

  pushed : (class : ℕ) → sum_by (share class) (take (k + 1) (zip rs cs)) ≡ sum_by (share class) (take k (zip rs cs)) + share class (get_or rs k 0, get_or cs k 0)
  pushed class = ap (sum_by (share class)) (zip_more rs cs k same l) ∙ sum_by_push (share class) (take k (zip rs cs)) (get_or rs k 0, get_or cs k 0)

  same_class : (class : ℕ) → get_or cs k 0 ≡ class → share class (get_or rs k 0, get_or cs k 0) ≡ get_or rs k 0
  same_class class e = ap (λ b. cond b (get_or rs k 0) 0) (eq-eqb (get_or cs k 0) class e)

  other_class : (class : ℕ) → nat_eq (get_or cs k 0) class ≡ false → share class (get_or rs k 0, get_or cs k 0) ≡ 0
  other_class class e = ap (λ b. cond b (get_or rs k 0) 0) e

  -- a class, and whether it is that of the terminal
  value : (class : ℕ) → class < count → (b : Bool) → nat_eq (get_or cs k 0) class ≡ b
      → get_or (slice_set sums (get_or cs k 0) new) class 0 ≡ get_or sums class 0 + share class (get_or rs k 0, get_or cs k 0)
  value class c true e =
      let q : get_or cs k 0 ≡ class = eqb-true (get_or cs k 0) class e in
      let put : get_or (slice_set sums (get_or cs k 0) new) class 0 ≡ new =
      ap (λ j. get_or (slice_set sums (get_or cs k 0) new) j 0) (sym q) ∙ get_or-set_same sums (get_or cs k 0) new 0 inside in
      let was : get_or sums (get_or cs k 0) 0 ≡ get_or sums class 0 = ap (λ j. get_or sums j 0) q in
      let part = same_class class q in
      omega (arith, put, was, part, is, added)
  value class c false e =
      let put : get_or (slice_set sums (get_or cs k 0) new) class 0 ≡ get_or sums class 0 =
      get_or-set_other sums (get_or cs k 0) class new 0 (λ q. let no : true ≡ false = sym (eq-eqb (get_or cs k 0) class (sym q)) ∙ e in absurd cc) in
      let part = other_class class e in
      omega (arith, put, part)

  few : (class : ℕ) (b : Bool) → nat_eq (get_or cs k 0) class ≡ b → share class (get_or rs k 0, get_or cs k 0) ≤ 4294967295
  few class true e = let part = same_class class (eqb-true (get_or cs k 0) class e) in omega (arith, part, short)
  few class false e = let part = other_class class e in omega (arith, part)

  each : (class : ℕ) → class < count → get_or (slice_set sums (get_or cs k 0) new) class 0 ≡ sum_by (share class) (take (k + 1) (zip rs cs))
  each class c =
      let v = value class c (nat_eq (get_or cs k 0) class) refl in
      let b = before.each class c in
      let p = pushed class in
      omega (arith, v, b, p)

  small : (class : ℕ) → class < count → get_or (slice_set sums (get_or cs k 0) new) class 0 ≤ (k + 1) * 4294967295
  small class c =
      let v = value class c (nat_eq (get_or cs k 0) class) refl in
      let b = before.small class c in
      let f = few class (nat_eq (get_or cs k 0) class) refl in
      omega (arith, v, b, f)

pub summed_all : (rs cs sums : List ℕ) (count k : ℕ) → length rs ≡ length cs → length cs ≤ k → Summed rs cs sums count k → (class : ℕ) → class < count → get_or sums class 0 ≡ sum_by (share class) (zip rs cs)
summed_all rs cs sums count k same all h class low =
    let n = zip_length rs cs same in
    h.each class low ∙ ap (sum_by (share class)) (take_all k (zip rs cs) (omega (arith, all, n)))

-- ---- there are as many capacitances as terminals

pin_counts : (l : Library) (is : List Instance) → length (flat_map (λ i. map (input_capacitance (pins_at (cell_of l i.model))) i.pins) is) ≡ length (flat_map pins_of is)
pin_counts l [] = refl
pin_counts l (i ∷ is) =
    let a = length-append (map (input_capacitance (pins_at (cell_of l i.model))) i.pins) (flat_map (λ i. map (input_capacitance (pins_at (cell_of l i.model))) i.pins) is) in
    let b = length-append (pins_of i) (flat_map pins_of is) in
    let c = length-map i.pins (input_capacitance (pins_at (cell_of l i.model))) in
    let d = length-map i.pins (pin_of i.name) in
    let r = pin_counts l is in
    omega (arith, a, b, c, d, r)

pub capacitance_count : (n : Netlist) (l : Library) → length (capacitances n l) ≡ length (terminals n)
capacitance_count n l =
    let a = length-append (map (λ (p : Port). 0) n.ports) (flat_map (λ i. map (input_capacitance (pins_at (cell_of l i.model))) i.pins) n.instances) in
    let b = length-append (map (λ (p : Port). port p.name) n.ports) (flat_map pins_of n.instances) in
    let c = length-map {B = ℕ} n.ports (λ (p : Port). 0) in
    let d = length-map n.ports (λ (p : Port). port p.name) in
    let r = pin_counts l n.instances in
    omega (arith, a, b, c, d, r)
