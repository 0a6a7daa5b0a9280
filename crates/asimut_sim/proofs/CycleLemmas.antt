-- An array that has settled, and registers that load from it.
use Rattle.std.proofs.Common.{◌≡◌, ℕ, zero, suc, ◌+◌, ◌-◌, ◌<◌, ◌≤◌, Bool, true, false, List, [], ◌∷◌, ◌++◌, length, get_or, replicate, set, refl, sym, ◌∙◌, ap, subst, arith, ⊎_elim, get_or-set_same, length-append, below_more}
use Rattle.std.proofs.lemmas.Bool.{cases_lt}
use Rattle.std.proofs.lemmas.List.{get_or_append_left, get_or-append_right, get_or-replicate, length-replicate, length-map, length-set}
use Rattle.std.proofs.lemmas.List.Elements.{All-head, All-tail, All-from_get_or}
use Rattle.vlsi_base.specs.Range.{rising}
use Rattle.vlsi_base.proofs.Ranges.{length_of_rising}
use Rattle.bool_expr.specs.Expression.{bit}
use Rattle.machine_core.specs.Named.{value_at, values_at}
use Rattle.machine_core.specs.Machine.{Machine, inputs, register_names}
use Rattle.machine_core.specs.Cycles.{Settles, next}
use Rattle.machine_core.specs.Order.{held_names}
use Rattle.machine_core.specs.Built.{built, BuiltSettles}
use Rattle.asimut_sim.specs.Load.{loaded}
use Rattle.asimut_sim.specs.declared.flat.FlatMachine.{FlatMachine}
use Rattle.asimut_sim.specs.Operator.{HasConstants}
use Rattle.asimut_sim.specs.Program.{extent, Obeys, bits_of, AreBelow}
use Rattle.asimut_sim.specs.Flat.{held_after, held_places, IsFlat, IsArray}
use Rattle.asimut_sim.proofs.OperatorLemmas.{bit-set_other}
use Rattle.asimut_sim.proofs.LoadLemmas.{loaded_is_next}
use Rattle.asimut_sim.proofs.LoadsLemmas.{held_is_loaded, as_many_loads}

-- the bits from place m on are those of a list
pub rising_bits : (a xs : List Bool) (m : ℕ) → ((k : ℕ) → k < length xs → bit a (m + k) ≡ bit xs k) → bits_of a (rising m (length xs)) ≡ xs
rising_bits a [] m h = refl
rising_bits a (x ∷ xs) m h =
    let at : m + 0 ≡ m = omega arith in
    let first : bit a m ≡ x = ap (bit a) (sym at) ∙ h 0 (omega arith) in
    let more : bits_of a (rising (m + 1) (length xs)) ≡ xs =
    rising_bits a xs (m + 1) (λ k l. let e : m + 1 + k ≡ m + suc k = omega arith in ap (bit a) e ∙ h (suc k) (omega (arith, l))) in
    ap (λ (y : Bool). y ∷ bits_of a (rising (m + 1) (length xs))) first ∙ ap (λ (ys : List Bool). x ∷ ys) more

pub both_bits : (a xs ys : List Bool) (m : ℕ) → ((k : ℕ) → k < length xs → bit a (m + k) ≡ bit xs k) → ((k : ℕ) → k < length ys → bit a (m + length xs + k) ≡ bit ys k)
    → (k : ℕ) → k < length (xs ++ ys) → bit a (m + k) ≡ bit (xs ++ ys) k
both_bits a xs ys m h g k l =
    let many = length-append xs ys in
    ⊎_elim (λ before. h k before ∙ sym (get_or_append_left xs ys false k before))
    (λ behind.
    let at : m + k ≡ m + length xs + (k - length xs) = omega (arith, behind) in
    ap (bit a) at ∙ g (k - length xs) (omega (arith, l, many, behind)) ∙ sym (get_or-append_right xs ys (length xs) k false refl behind))
    (cases_lt k (length xs))

pub held_bits : (m : Machine) (a i s : List Bool) → length i ≡ length (inputs m) → length s ≡ length m.registers → ((k : ℕ) → k < length i → bit a (2 + k) ≡ bit i k)
    → ((k : ℕ) → k < length s → bit a (2 + length i + k) ≡ bit s k) → bits_of a (held_places m) ≡ i ++ s
held_bits m a i s hi hs h g =
    let many : length (held_names m) ≡ length (i ++ s) =
    omega (arith, length-append i s, length-append (inputs m) (register_names m), hi, hs, length-map m.registers (λ r. r.name)) in
    ap (λ (n : ℕ). bits_of a (rising 2 n)) many ∙ rising_bits a (i ++ s) 2 (both_bits a i s 2 h g)

pub settles_from : BuiltSettles → (f : FlatMachine) → IsFlat f → (a i s : List Bool) → length i ≡ length (inputs f.machine.now) → length s ≡ length f.machine.now.registers
    → Obeys f.settling a → ((k : ℕ) → k < length i → bit a (2 + k) ≡ bit i k) → ((k : ℕ) → k < length s → bit a (2 + length i + k) ≡ bit s k)
    → Settles f.machine.now s i (bits_of a f.vars.items)
settles_from law f flat a i s hi hs obeys h g =
    let m = f.machine.now in
    let is : bits_of a f.vars.items ≡ built (i ++ s) m.equations = flat.values a obeys ∙ ap (λ (w : List Bool). built w m.equations) (held_bits m a i s hi hs h g) in
    let P : List Bool → Type 0 = λ w. Settles m s i w in
    subst P (sym is) (law m s i flat.checked.ordered hs hi)

-- arrays that agree below n have the same bits at places below n
pub same_below : (a b : List Bool) (n : ℕ) (places : List ℕ) → AreBelow n places → ((k : ℕ) → k < n → bit a k ≡ bit b k) → bits_of a places ≡ bits_of b places
same_below a b n [] below h = refl
same_below a b n (p ∷ places) below h =
    ap (λ (x : Bool). x ∷ bits_of a places) (h p (All-head (λ k. k < n) p places below))
    ∙ ap (λ (xs : List Bool). bit b p ∷ xs) (same_below a b n places (All-tail (λ k. k < n) p places below) h)

pub loads_from : (f : FlatMachine) → IsFlat f → (old a held after : List Bool) → Obeys f.loading a → ((k : ℕ) → k < f.loading.start → bit a k ≡ bit old k)
    → values_at f.machine.now.vars (bits_of old f.vars.items) (register_names f.machine.now) ≡ held → after ≡ held_after a f.loads.items held
    → after ≡ next f.machine.now (bits_of old f.vars.items)
loads_from f flat old a held after obeys before holds is =
    let m = f.machine.now in
    let w = bits_of old f.vars.items in
    let behind = flat.behind in
    let same : bits_of a f.vars.items ≡ w = same_below a old (extent f.settling) f.vars.items flat.within (λ k l. before k (omega (arith, l, behind))) in
    is ∙ held_is_loaded a (bits_of a f.vars.items) f.loads.items m.registers held (flat.loads a obeys)
    ∙ ap (λ (x : List Bool). loaded x m.registers held) same ∙ ap (loaded w m.registers) (sym holds) ∙ loaded_is_next m.vars w m.registers

pub as_many_contents : (f : FlatMachine) → IsFlat f → (w a held : List Bool) → Obeys f.loading a → values_at f.machine.now.vars w (register_names f.machine.now) ≡ held
    → length held ≡ length f.loads.items
as_many_contents f flat w a held obeys holds =
    let m = f.machine.now in
    sym (ap length holds) ∙ length-map (register_names m) (value_at m.vars w) ∙ length-map m.registers (λ r. r.name)
    ∙ sym (as_many_loads a (bits_of a f.vars.items) f.loads.items m.registers (flat.loads a obeys))

-- a new array
pub new_array_is : (f : FlatMachine) → 2 ≤ extent f.loading → (zeros : List Bool) → zeros ≡ replicate (extent f.loading) false → IsArray f (set zeros 1 true)
new_array_is f two zeros is =
    let n = extent f.loading in
    let many : length zeros ≡ n = ap length is ∙ length-replicate n false in
    record {
      size = length-set zeros 1 true ∙ many;
      constants = record {
        zero = bit-set_other zeros 1 0 true (omega arith) ∙ ap (λ (w : List Bool). bit w 0) is ∙ get_or-replicate n 0 false false (omega (arith, two));
        one = get_or-set_same zeros 1 true false (omega (arith, two, many));
      };
    }

pub flat_is_wide : (f : FlatMachine) → IsFlat f → 2 ≤ extent f.loading
flat_is_wide f flat = let two = flat.loading.constants in omega (arith, two)

pub settling_fits : (f : FlatMachine) → IsFlat f → (a : List Bool) → IsArray f a → extent f.settling ≤ length a
settling_fits f flat a array = let behind = flat.behind in let size = array.size in omega (arith, behind, size)

pub rising_below : (m n : ℕ) → AreBelow (m + n) (rising m n)
rising_below m n = All-from_get_or (λ k. k < m + n) (rising m n) 0 (λ i l. rising_at m n i (let many = length_of_rising m n in omega (arith, l, many))) where
  rising_at : (m n i : ℕ) → i < n → get_or (rising m n) i 0 < m + n
  rising_at m zero i h = absurd (omega arith)
  rising_at m (suc n) zero h = omega arith
  rising_at m (suc n) (suc i) h = let r = rising_at (m + 1) n i (omega arith) in omega (arith, r)

pub rising_more : (m n : ℕ) → rising m (suc n) ≡ rising m n ++ (m + n) ∷ []
rising_more m zero = let e : m ≡ m + 0 = omega arith in ap (λ (k : ℕ). k ∷ []) e
rising_more m (suc n) =
    let e : m + 1 + n ≡ m + suc n = omega arith in
    ap (λ (xs : List ℕ). m ∷ xs) (rising_more (m + 1) n ∙ ap (λ (k : ℕ). rising (m + 1) n ++ k ∷ []) e)

pub rising_next : (n : ℕ) (places items : List ℕ) (place : ℕ) → place ≡ 2 + n → items ≡ places ++ place ∷ [] → places ≡ rising 2 n → items ≡ rising 2 (n + 1)
rising_next n places items place at pushed is =
    let e : suc n ≡ n + 1 = omega arith in
    pushed ∙ ap (λ (k : ℕ). places ++ k ∷ []) at ∙ ap (λ (xs : List ℕ). xs ++ (2 + n) ∷ []) is ∙ sym (rising_more 2 n) ∙ ap (rising 2) e

-- bits written from a place on, up to number k
pub record Writes (from : ℕ) (values old now : List Bool) (k : ℕ) : Type 0 where
  pub before : (j : ℕ) → j < from → bit now j ≡ bit old j
  pub written : (j : ℕ) → j < k → bit now (from + j) ≡ bit values j

pub writes_begins : (from : ℕ) (values old : List Bool) → Writes from values old old 0
writes_begins from values old = record { before = λ j h. refl; written = λ j h. absurd (omega (arith, h)) }

pub writes_next : (from : ℕ) (values old now after : List Bool) (k : ℕ) (v : Bool) → from + length values ≤ length now → k < length values → v ≡ bit values k
    → after ≡ set now (from + k) v → Writes from values old now k → Writes from values old after (k + 1)
writes_next from values old now after k v room h is e w =
    let P : List Bool → Type 0 = λ x. Writes from values old x (k + 1) in
    subst P (sym e)
    (record {
      before = λ j l. bit-set_other now (from + k) j v (omega (arith, l)) ∙ w.before j l;
      written =
          below_more (λ j. bit (set now (from + k) v) (from + j) ≡ bit values j) k
          (λ j l. bit-set_other now (from + k) (from + j) v (omega (arith, l)) ∙ w.written j l)
          (get_or-set_same now (from + k) v false (omega (arith, room, h)) ∙ is);
    })

pub writes_ends : (from : ℕ) (values old now : List Bool) (k : ℕ) → length values ≤ k → Writes from values old now k → (j : ℕ) → j < length values → bit now (from + j) ≡ bit values j
writes_ends from values old now k h w j l = w.written j (omega (arith, h, l))

pub held_many : (f : FlatMachine) → IsFlat f → (i s : List Bool) → length i ≡ length (inputs f.machine.now) → length s ≡ length f.machine.now.registers
    → 2 + length i + length s ≡ f.settling.start
held_many f flat i s hi hs =
    let m = f.machine.now in
    let start = flat.start in
    omega (arith, start, length-append (inputs m) (register_names m), length-map m.registers (λ r. r.name), hi, hs)

pub constants_kept : (a b c : List Bool) (n : ℕ) → 2 ≤ n → HasConstants a → ((k : ℕ) → k < 2 → bit b k ≡ bit a k) → ((k : ℕ) → k < n → bit c k ≡ bit b k) → HasConstants c
constants_kept a b c n h constants first second = record {
  zero = second 0 (omega (arith, h)) ∙ first 0 (omega arith) ∙ constants.zero;
  one = second 1 (omega (arith, h)) ∙ first 1 (omega arith) ∙ constants.one;
}

-- the inputs and then the contents are written, and the operators are run
pub settled : BuiltSettles → (f : FlatMachine) → IsFlat f → (b c d i s : List Bool) → length i ≡ length (inputs f.machine.now) → length s ≡ length f.machine.now.registers
    → ((k : ℕ) → k < length i → bit b (2 + k) ≡ bit i k) → ((k : ℕ) → k < 2 + length i → bit c k ≡ bit b k)
    → ((k : ℕ) → k < length s → bit c (2 + length i + k) ≡ bit s k) → ((k : ℕ) → k < f.settling.start → bit d k ≡ bit c k) → Obeys f.settling d
    → Settles f.machine.now s i (bits_of d f.vars.items)
settled law f flat b c d i s hi hs inputs_are kept contents_are before obeys =
    let many = held_many f flat i s hi hs in
    settles_from law f flat d i s hi hs obeys
    (λ k l. before (2 + k) (omega (arith, many, l)) ∙ kept (2 + k) (omega (arith, l)) ∙ inputs_are k l)
    (λ k l. before (2 + length i + k) (omega (arith, many, l)) ∙ contents_are k l)
