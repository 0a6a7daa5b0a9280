-- How many terminals do what, as they are counted.
use Rattle.std.proofs.Common.{◌≡◌, ℕ, zero, suc, ◌+◌, ◌<◌, ◌≤◌, Bool, true, false, cond, List, [], ◌∷◌, ◌++◌, length, get_or, take, nat_eq, refl, sym, ap, subst, ◌∙◌, arith}
use Rattle.std.specs.Prelude.{slice_set}
use Rattle.std.specs.List.{zip}
use Rattle.std.proofs.lemmas.List.{get_or-set_same, get_or-set_other, length-set}
use Rattle.std.proofs.lemmas.Bool.{eqb-true, eq-eqb}
use Rattle.net_core.specs.declared.tally.Role.{Role}
use Rattle.net_core.specs.declared.tally.Role.TheVariants as role
use Rattle.net_core.specs.declared.tally.Tally.{Tally}
use Rattle.net_core.specs.Checks.{with_one, no_terminals, tally_of, AtMost, AreTallies}

commute : (r s : Role) (t : Tally) → with_one r (with_one s t) ≡ with_one s (with_one r t)
commute role.InputPort role.InputPort t = refl
commute role.InputPort role.OutputPort t = refl
commute role.InputPort role.InputPin t = refl
commute role.InputPort role.ClockPin t = refl
commute role.InputPort role.OutputPin t = refl
commute role.OutputPort role.InputPort t = refl
commute role.OutputPort role.OutputPort t = refl
commute role.OutputPort role.InputPin t = refl
commute role.OutputPort role.ClockPin t = refl
commute role.OutputPort role.OutputPin t = refl
commute role.InputPin role.InputPort t = refl
commute role.InputPin role.OutputPort t = refl
commute role.InputPin role.InputPin t = refl
commute role.InputPin role.ClockPin t = refl
commute role.InputPin role.OutputPin t = refl
commute role.ClockPin role.InputPort t = refl
commute role.ClockPin role.OutputPort t = refl
commute role.ClockPin role.InputPin t = refl
commute role.ClockPin role.ClockPin t = refl
commute role.ClockPin role.OutputPin t = refl
commute role.OutputPin role.InputPort t = refl
commute role.OutputPin role.OutputPort t = refl
commute role.OutputPin role.InputPin t = refl
commute role.OutputPin role.ClockPin t = refl
commute role.OutputPin role.OutputPin t = refl

pub tally_push : (ms : List (Role × ℕ)) (m : Role × ℕ) (c : ℕ) → tally_of (ms ++ m ∷ []) c ≡ cond (nat_eq m.1 c) (with_one m.0 (tally_of ms c)) (tally_of ms c)
tally_push [] m c = refl
tally_push (x ∷ ms) m c = by (nat_eq x.1 c) (tally_push ms m c) where
  inner : (b : Bool) → with_one x.0 (cond b (with_one m.0 (tally_of ms c)) (tally_of ms c)) ≡ cond b (with_one m.0 (with_one x.0 (tally_of ms c))) (with_one x.0 (tally_of ms c))
  inner true = commute x.0 m.0 (tally_of ms c)
  inner false = refl

  by : (a : Bool) → tally_of (ms ++ m ∷ []) c ≡ cond (nat_eq m.1 c) (with_one m.0 (tally_of ms c)) (tally_of ms c)
      → cond a (with_one x.0 (tally_of (ms ++ m ∷ []) c)) (tally_of (ms ++ m ∷ []) c) ≡ cond (nat_eq m.1 c) (with_one m.0 (cond a (with_one x.0 (tally_of ms c)) (tally_of ms c))) (cond a (with_one x.0 (tally_of ms c)) (tally_of ms c))
  by true e = ap (with_one x.0) e ∙ inner (nat_eq m.1 c)
  by false e = e

one_more : (r : Role) (t : Tally) (n : ℕ) → AtMost n t → AtMost (suc n) (with_one r t)
one_more role.InputPort t n m = record { input_ports = let h = m.input_ports in omega (arith, h); output_ports = let h = m.output_ports in omega (arith, h); input_pins = let h = m.input_pins in omega (arith, h); clock_pins = let h = m.clock_pins in omega (arith, h); output_pins = let h = m.output_pins in omega (arith, h) }
one_more role.OutputPort t n m = record { input_ports = let h = m.input_ports in omega (arith, h); output_ports = let h = m.output_ports in omega (arith, h); input_pins = let h = m.input_pins in omega (arith, h); clock_pins = let h = m.clock_pins in omega (arith, h); output_pins = let h = m.output_pins in omega (arith, h) }
one_more role.InputPin t n m = record { input_ports = let h = m.input_ports in omega (arith, h); output_ports = let h = m.output_ports in omega (arith, h); input_pins = let h = m.input_pins in omega (arith, h); clock_pins = let h = m.clock_pins in omega (arith, h); output_pins = let h = m.output_pins in omega (arith, h) }
one_more role.ClockPin t n m = record { input_ports = let h = m.input_ports in omega (arith, h); output_ports = let h = m.output_ports in omega (arith, h); input_pins = let h = m.input_pins in omega (arith, h); clock_pins = let h = m.clock_pins in omega (arith, h); output_pins = let h = m.output_pins in omega (arith, h) }
one_more role.OutputPin t n m = record { input_ports = let h = m.input_ports in omega (arith, h); output_ports = let h = m.output_ports in omega (arith, h); input_pins = let h = m.input_pins in omega (arith, h); clock_pins = let h = m.clock_pins in omega (arith, h); output_pins = let h = m.output_pins in omega (arith, h) }

weaker : (t : Tally) (n k : ℕ) → n ≤ k → AtMost n t → AtMost k t
weaker t n k l m = record { input_ports = let h = m.input_ports in omega (arith, h, l); output_ports = let h = m.output_ports in omega (arith, h, l); input_pins = let h = m.input_pins in omega (arith, h, l); clock_pins = let h = m.clock_pins in omega (arith, h, l); output_pins = let h = m.output_pins in omega (arith, h, l) }

pub at_most : (ms : List (Role × ℕ)) (c : ℕ) → AtMost (length ms) (tally_of ms c)
at_most [] c = record { input_ports = omega arith; output_ports = omega arith; input_pins = omega arith; clock_pins = omega arith; output_pins = omega arith }
at_most (m ∷ ms) c = by (nat_eq m.1 c) (at_most ms c) where
  by : (b : Bool) → AtMost (length ms) (tally_of ms c) → AtMost (suc (length ms)) (cond b (with_one m.0 (tally_of ms c)) (tally_of ms c))
  by true h = one_more m.0 (tally_of ms c) (length ms) h
  by false h = weaker (tally_of ms c) (length ms) (suc (length ms)) (omega arith) h

pub few_of : (ms : List (Role × ℕ)) (tallies : List Tally) → AreTallies ms tallies → length ms ≤ 4294967295 → (c : ℕ) (t : Tally) → c < length tallies → t ≡ get_or tallies c t → AtMost 4294967295 t
few_of ms tallies are l c t less e =
    let same : tally_of ms c ≡ t = sym (are.each c t less) ∙ sym e in
    subst (λ (x : Tally). AtMost 4294967295 x) same (weaker (tally_of ms c) (length ms) 4294967295 l (at_most ms c))

pub zip_more : (rs : List Role) (cs : List ℕ) (k : ℕ) (d : Role) → length rs ≡ length cs → k < length cs → take (k + 1) (zip rs cs) ≡ take k (zip rs cs) ++ (get_or rs k d, get_or cs k 0) ∷ []
zip_more [] cs k d e l = absurd (omega (arith, l, e))
zip_more (x ∷ rs) [] k d e l = absurd (omega (arith, l))
zip_more (x ∷ rs) (c ∷ cs) zero d e l = refl
zip_more (x ∷ rs) (c ∷ cs) (suc k) d e l = let n : suc k + 1 ≡ suc (k + 1) = omega arith in
    rw n (ap (λ (ms : List (Role × ℕ)). (x, c) ∷ ms) (zip_more rs cs k d (omega (arith, e)) (omega (arith, l))))

pub zip_length : (rs : List Role) (cs : List ℕ) → length rs ≡ length cs → length (zip rs cs) ≡ length cs
zip_length [] [] e = refl
zip_length [] (c ∷ cs) e = absurd (omega (arith, e))
zip_length (x ∷ rs) [] e = refl
zip_length (x ∷ rs) (c ∷ cs) e = ap suc (zip_length rs cs (omega (arith, e)))

pub tallied_start : (n : ℕ) (tallies : List Tally) → ((c : ℕ) (d : Tally) → c < length tallies → get_or tallies c d ≡ no_terminals) → AreTallies [] tallies
tallied_start n tallies all = record { each = all }

pub tallied_step : (ms : List (Role × ℕ)) (m : Role × ℕ) (tallies : List Tally) (old : Tally) → AreTallies ms tallies → m.1 < length tallies → old ≡ get_or tallies m.1 old
    → AreTallies (ms ++ m ∷ []) (slice_set tallies m.1 (with_one m.0 old))
tallied_step ms m tallies old are less is = record { each = λ c d l. by c d l (nat_eq m.1 c) refl } where
  same : tally_of ms m.1 ≡ old
  same = sym (are.each m.1 old less) ∙ sym is

  by : (c : ℕ) (d : Tally) → c < length (slice_set tallies m.1 (with_one m.0 old)) → (b : Bool) → nat_eq m.1 c ≡ b → get_or (slice_set tallies m.1 (with_one m.0 old)) c d ≡ tally_of (ms ++ m ∷ []) c
  by c d l true e =
      let at : m.1 ≡ c = eqb-true m.1 c e in
      let pushed : tally_of (ms ++ m ∷ []) c ≡ with_one m.0 (tally_of ms c) = tally_push ms m c ∙ ap (λ t. cond t (with_one m.0 (tally_of ms c)) (tally_of ms c)) e in
      ap (λ k. get_or (slice_set tallies m.1 (with_one m.0 old)) k d) (sym at) ∙ get_or-set_same tallies m.1 (with_one m.0 old) d less
      ∙ ap (with_one m.0) (sym same) ∙ ap (λ k. with_one m.0 (tally_of ms k)) at ∙ sym pushed
  by c d l false e =
      let pushed : tally_of (ms ++ m ∷ []) c ≡ tally_of ms c = tally_push ms m c ∙ ap (λ t. cond t (with_one m.0 (tally_of ms c)) (tally_of ms c)) e in
      let n = length-set tallies m.1 (with_one m.0 old) in
      get_or-set_other tallies m.1 c (with_one m.0 old) d (λ q. let no : true ≡ false = sym (eq-eqb m.1 c (sym q)) ∙ e in absurd cc) ∙ are.each c d (omega (arith, l, n)) ∙ sym pushed
