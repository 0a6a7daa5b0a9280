-- A function that is a bit everywhere, and what is never fixed.
use Rattle.std.proofs.Common.{◌≡◌, ℕ, zero, suc, ◌+◌, ◌<◌, Bool, true, false, List, [], ◌∷◌, ◌++◌, length, map, refl, sym, ap, ◌∙◌, arith, length-append}
use Rattle.std.proofs.lemmas.List.{length-map}
use Rattle.vlsi_base.specs.Range.{rising}
use Rattle.vlsi_base.specs.Member.{In}
use Rattle.bool_expr.specs.Expression.{Expression, variable, variables, bit, val, IsOver}
use Rattle.bdd_core.specs.Truths.{Truths, constant, halves, truths}
use Rattle.bdd_core.specs.Branching.{truth_at}
use Rattle.bdd_core.proofs.Held.{truths_value}
use Rattle.machine_core.specs.Named.{value_at}
use Rattle.machine_core.specs.Machine.{Machine, Register, inputs, register_names}
use Rattle.machine_core.specs.Cycles.{Settles}
use Rattle.machine_core.specs.Built.{built}
use Rattle.machine_core.specs.Checked.{IsChecked}
use Rattle.machine_core.proofs.Known.{known}
use Rattle.machine_core.proofs.Solve.{settles_once_known}
use Rattle.machine_core.proofs.Built.{built_settles}
use Rattle.machine_walk.specs.Expansion.{held_count, expansion, in_order, place_among}
use Rattle.machine_walk.proofs.Names.{length-rising}
use Rattle.machine_roots.proofs.Expanding.{val-with_variables, val-in_order, first_meetings-all, value_of_expansion}
use Rattle.machine_roots.specs.Roots.{list_by}
use Rattle.proof_joint.proofs.Joining.{has_first, has_second, joint_within}
use Rattle.proof_joint.specs.Together.{joint_order}
use Rattle.machine_free.specs.Between.{IsNeverFixed}
use Rattle.boom_choose.specs.Pick.{IsEverywhere}
use Rattle.boom_choose.proofs.Constant.{value_everywhere}

-- ---- truth lists

constantly : (b : Bool) (n : ℕ) (g : List Bool → Bool) → ((v : List Bool) → length v ≡ n → g v ≡ b) → IsEverywhere n (truths n g) b
constantly b zero g all = ap constant (all [] refl)
constantly b (suc n) g all =
    let low = constantly b n (λ v. g (false ∷ v)) (λ v e. all (false ∷ v) (omega arith)) in
    let high = constantly b n (λ v. g (true ∷ v)) (λ v e. all (true ∷ v) (omega arith)) in
    λ j. halves (low j) (high j)

everywhere_value : (n : ℕ) (b : Bool) (g : List Bool → Bool) (v : List Bool) → IsEverywhere n (truths n g) b → length v ≡ n → g v ≡ b
everywhere_value n b g v is e = sym (truths_value n g v e) ∙ ap (λ (t : Truths). truth_at t v) is ∙ value_everywhere n b v e

-- ---- bits of all inputs and registers, from those of an order

bits_at : (g : ℕ → Bool) (a n k : ℕ) → k < n → bit (map g (rising a n)) k ≡ g (a + k)
bits_at g a zero k h = absurd (omega arith)
bits_at g a (suc n) zero h = ap g (let e : a ≡ a + 0 = omega arith in e)
bits_at g a (suc n) (suc k) h = bits_at g (a + 1) n k (omega arith) ∙ ap g (let e : (a + 1) + k ≡ a + suc k = omega arith in e)

spread : List ℕ → ℕ → List Bool → List Bool
spread order held v = map (λ k. bit v (place_among order k)) (rising 0 held)

length-spread : (order : List ℕ) (held : ℕ) (v : List Bool) → length (spread order held v) ≡ held
unfolding spread
length-spread order held v = length-map (rising 0 held) (λ k. bit v (place_among order k)) ∙ length-rising 0 held

value_spread : (order : List ℕ) (held : ℕ) (e : Expression) (v : List Bool) → ((k : ℕ) → In k (variables e) → k < held) → val (in_order order e) v ≡ val e (spread order held v)
unfolding spread
value_spread order held e v within =
    val-with_variables (λ k. variable (place_among order k)) e v (map (λ k. bit v (place_among order k)) (rising 0 held))
    (λ k h. sym (bits_at (λ k. bit v (place_among order k)) 0 held k (within k h) ∙ ap (λ (j : ℕ). bit v (place_among order j)) (let e : 0 + k ≡ k = omega arith in e)))

-- ---- valuations

parted : (n m : ℕ) (h : List Bool) → length h ≡ n + m → (i : List Bool) × (s : List Bool) × (length i ≡ n) × (length s ≡ m) × (i ++ s ≡ h)
parted zero m h e = ([], h, refl, (let l : length h ≡ m = omega (arith, e) in l), refl)
parted (suc n) m [] e = absurd (omega arith)
parted (suc n) m (x ∷ h) e =
    let p = parted n m h (omega arith) in
    let l : length (x ∷ p.0) ≡ suc n = ap suc p.2 in
    (x ∷ p.0, p.1, l, p.3, ap (λ (t : List Bool). x ∷ t) p.4)

held_is : (m : Machine) → held_count m ≡ length (inputs m) + length m.registers
held_is m = length-append (inputs m) (register_names m) ∙ ap (λ (n : ℕ). length (inputs m) + n) (length-map m.registers (λ (r : Register). r.name))

module _ (m : Machine) (checked : IsChecked m) where
  settled_value : (s i w : List Bool) → Settles m s i w → (e : Expression) → (length (i ++ s) ≡ held_count m) × (val (expansion m e) (i ++ s) ≡ val e w)
  settled_value s i w p e =
      let ls : length s ≡ length m.registers = ap length (sym p.registers) ∙ length-map (register_names m) (value_at m.vars w) ∙ length-map m.registers (λ (r : Register). r.name) in
      let li : length i ≡ length (inputs m) = ap length (sym p.inputs) ∙ length-map (inputs m) (value_at m.vars w) in
      let long : length (i ++ s) ≡ held_count m = length-append i s ∙ (λ j. li j + ls j) ∙ sym (held_is m) in
      let once = settles_once_known m s i (known m checked.ordered) ls li in
      let same : w ≡ built (i ++ s) m.equations = once.2 w p ∙ sym (once.2 (built (i ++ s) m.equations) (built_settles m s i checked.ordered ls li)) in
      (long, value_of_expansion m (i ++ s) e long ∙ ap (val e) (sym same))

  some_settled : (h : List Bool) → length h ≡ held_count m
      → (s : List Bool) × (i : List Bool) × (w : List Bool) × Settles m s i w × ((e : Expression) → val (expansion m e) h ≡ val e w)
  some_settled h long =
      let p = parted (length (inputs m)) (length m.registers) h (long ∙ held_is m) in
      let w = built (p.0 ++ p.1) m.equations in (
        p.1,
        p.0,
        w,
        built_settles m p.1 p.0 checked.ordered p.3 p.2,
        λ e. ap (val (expansion m e)) (sym p.4) ∙ value_of_expansion m (p.0 ++ p.1) e (ap length p.4 ∙ long),
      )

  module _ (lo hi : Expression) (over : IsOver lo (length m.vars)) (other : IsOver hi (length m.vars))
      (mono : (w : List Bool) → val lo w ≡ true → val hi w ≡ true) where
    abbrev order : List ℕ
    order = joint_order m m lo hi

    in_first : (k : ℕ) → In k (variables (expansion m lo)) → In k order
    in_first k h = has_first m m (λ r. refl) checked.ordered checked.ordered lo hi over other k (first_meetings-all (variables (expansion m lo)) k h)

    in_second : (k : ℕ) → In k (variables (expansion m hi)) → In k order
    in_second k h = has_second m m (λ r. refl) checked.ordered checked.ordered lo hi over other k (first_meetings-all (variables (expansion m hi)) k h)

    within : (k : ℕ) → In k order → k < held_count m
    within k h = joint_within m m (λ r. refl) checked.ordered checked.ordered lo hi over other k h

    -- the value by an order is that under some valuation
    by_order : (e : Expression) → ((k : ℕ) → In k (variables (expansion m e)) → In k order) → (v : List Bool)
        → val (in_order order (expansion m e)) v ≡ val (expansion m e) (spread order (held_count m) v)
    by_order e has v = value_spread order (held_count m) (expansion m e) v (λ k h. within k (has k h))

    -- and the other way round
    by_bits : (e : Expression) → ((k : ℕ) → In k (variables (expansion m e)) → In k order) → (s i w : List Bool) → Settles m s i w
        → val (in_order order (expansion m e)) (map (bit (i ++ s)) order) ≡ val e w
    by_bits e has s i w p = val-in_order order (i ++ s) (expansion m e) has ∙ (settled_value s i w p e).1

    pub zero_never : IsEverywhere (length order) (list_by order (expansion m lo)) false → IsNeverFixed m true lo hi
    zero_never is s i w p one two =
        let bits = map (bit (i ++ s)) order in
        let no : val lo w ≡ false = sym (by_bits lo in_first s i w p)
        ∙ everywhere_value (length order) false (λ v. val (in_order order (expansion m lo)) v) bits is (length-map order (bit (i ++ s))) in
        absurd (cc (one, no))

    pub one_never : IsEverywhere (length order) (list_by order (expansion m hi)) true → IsNeverFixed m false lo hi
    one_never is s i w p one two =
        let bits = map (bit (i ++ s)) order in
        let yes : val hi w ≡ true = sym (by_bits hi in_second s i w p)
        ∙ everywhere_value (length order) true (λ v. val (in_order order (expansion m hi)) v) bits is (length-map order (bit (i ++ s))) in
        absurd (cc (two, yes))

    pub never_zero : IsNeverFixed m true lo hi → IsEverywhere (length order) (list_by order (expansion m lo)) false
    never_zero never = constantly false (length order) (λ v. val (in_order order (expansion m lo)) v) (λ v e. by v (val (in_order order (expansion m lo)) v) refl) where
      by : (v : List Bool) (b : Bool) → val (in_order order (expansion m lo)) v ≡ b → val (in_order order (expansion m lo)) v ≡ false
      by v false e = e
      by v true e =
          let h = spread order (held_count m) v in
          let p = some_settled h (length-spread order (held_count m) v) in
          let yes : val lo p.2 ≡ true = sym (p.4 lo) ∙ sym (by_order lo in_first v) ∙ e in
          absurd (never p.0 p.1 p.2 p.3 yes (mono p.2 yes))

    pub never_one : IsNeverFixed m false lo hi → IsEverywhere (length order) (list_by order (expansion m hi)) true
    never_one never = constantly true (length order) (λ v. val (in_order order (expansion m hi)) v) (λ v e. by v (val (in_order order (expansion m hi)) v) refl) where
      lower : (w : List Bool) → val hi w ≡ false → val lo w ≡ false
      lower w none = either (val lo w) refl where
        either : (b : Bool) → val lo w ≡ b → val lo w ≡ false
        either false e = e
        either true e = absurd (let yes = mono w e in cc (yes, none))

      by : (v : List Bool) (b : Bool) → val (in_order order (expansion m hi)) v ≡ b → val (in_order order (expansion m hi)) v ≡ true
      by v true e = e
      by v false e =
          let h = spread order (held_count m) v in
          let p = some_settled h (length-spread order (held_count m) v) in
          let no : val hi p.2 ≡ false = sym (p.4 hi) ∙ sym (by_order hi in_second v) ∙ e in
          absurd (never p.0 p.1 p.2 p.3 (lower p.2 no) no)
