-- Programs that get one operator more, and their runs.
use Rattle.std.proofs.Common.{◌≡◌, ℕ, ◌+◌, ◌<◌, ◌≤◌, Bool, false, List, [], ◌∷◌, ◌++◌, length, refl, sym, ◌∙◌, ap, subst, arith, set, get_or, get_or-set_same, below_more}
use Rattle.std.proofs.lemmas.List.{get_or_append_left, get_or_push, get_or_read, length_push}
use Rattle.bool_expr.specs.Expression.{bit}
use Rattle.asimut_sim.specs.declared.operator.Operator.{Operator}
use Rattle.asimut_sim.specs.declared.program.Program.{Program}
use Rattle.asimut_sim.specs.Operator.{chosen, ReadsBelow, HasConstants}
use Rattle.asimut_sim.specs.Program.{extent, IsProgram, Obeys, GoesOn}
use Rattle.asimut_sim.proofs.OperatorLemmas.{bit-set_other, chosen_set, reads_weaker}

-- what holds of each and of the next holds of each of one more
pub each_push : (Q : ℕ → Operator → Type 0) (xs ys : List Operator) (o : Operator) → ys ≡ xs ++ o ∷ [] → ((k : ℕ) (d : Operator) → k < length xs → Q k (get_or xs k d))
    → Q (length xs) o → (k : ℕ) (d : Operator) → k < length ys → Q k (get_or ys k d)
each_push Q xs ys o e all last k d l =
    let many : length ys ≡ length xs + 1 = ap length e ∙ length_push xs o in
    let within : k < length xs + 1 = omega (arith, many, l) in
    let at : (j : ℕ) → get_or (xs ++ o ∷ []) j d ≡ get_or ys j d = λ j. ap (λ (zs : List Operator). get_or zs j d) (sym e) in
    let P : ℕ → Type 0 = λ j. Q j (get_or ys j d) in
    below_more P (length xs) (λ j h. subst (Q j) (sym (get_or_append_left xs (o ∷ []) d j h) ∙ at j) (all j d h))
    (subst (Q (length xs)) (sym (get_or_push xs o d (length xs) refl) ∙ at (length xs)) last) k within

pub program_push : (p q : Program) (o : Operator) → q.start ≡ p.start → q.operators.items ≡ p.operators.items ++ o ∷ [] → IsProgram p → ReadsBelow (extent p) o → IsProgram q
program_push p q o s e h r =
    let P : ℕ → Type 0 = λ n. (k : ℕ) (d : Operator) → k < length q.operators.items → ReadsBelow (n + k) (get_or q.operators.items k d) in
    record {
      constants = let c = h.constants in omega (arith, c, s);
      reads = subst P (sym s) (each_push (λ k x. ReadsBelow (p.start + k) x) p.operators.items q.operators.items o e h.reads r);
    }

pub obeys_push : (p q : Program) (o : Operator) → q.start ≡ p.start → q.operators.items ≡ p.operators.items ++ o ∷ [] → (a : List Bool) → Obeys q a → Obeys p a
obeys_push p q o s e a h = record {
  constants = h.constants;
  each = λ k d l.
      let many : length q.operators.items ≡ length p.operators.items + 1 = ap length e ∙ length_push p.operators.items o in
      let within : k < length q.operators.items = omega (arith, many, l) in
      let at : get_or q.operators.items k d ≡ get_or p.operators.items k d =
      ap (λ (zs : List Operator). get_or zs k d) e ∙ get_or_append_left p.operators.items (o ∷ []) d k l in
      ap (λ (n : ℕ). bit a (n + k)) (sym s) ∙ h.each k d within ∙ ap (chosen a) at;
}

-- the place of the last operator has what it gives
pub obeys_last : (p q : Program) (o : Operator) → q.start ≡ p.start → q.operators.items ≡ p.operators.items ++ o ∷ [] → (a : List Bool) → Obeys q a
    → bit a (extent p) ≡ chosen a o
obeys_last p q o s e a h =
    let many : length q.operators.items ≡ length p.operators.items + 1 = ap length e ∙ length_push p.operators.items o in
    let within : length p.operators.items < length q.operators.items = omega (arith, many) in
    let at : get_or q.operators.items (length p.operators.items) o ≡ o =
    ap (λ (zs : List Operator). get_or zs (length p.operators.items) o) e ∙ get_or_push p.operators.items o o (length p.operators.items) refl in
    ap (λ (n : ℕ). bit a (n + length p.operators.items)) (sym s) ∙ h.each (length p.operators.items) o within ∙ ap (chosen a) at

pub goes_on_push : (p q : Program) (o : Operator) → q.start ≡ p.start → q.operators.items ≡ p.operators.items ++ o ∷ [] → IsProgram p → ReadsBelow (extent p) o → GoesOn p q
goes_on_push p q o s e h r = record {
  start = s;
  longer = let many : length q.operators.items ≡ length p.operators.items + 1 = ap length e ∙ length_push p.operators.items o in omega (arith, many);
  keeps = obeys_push p q o s e;
  program = program_push p q o s e h r;
}

pub goes_on_itself : (p : Program) → IsProgram p → GoesOn p p
goes_on_itself p h = record { start = refl; longer = omega arith; keeps = λ a o. o; program = h }

pub goes_on_further : (p q r : Program) → GoesOn p q → GoesOn q r → GoesOn p r
goes_on_further p q r g h = record {
  start = h.start ∙ g.start;
  longer = let x = g.longer in let y = h.longer in omega (arith, x, y);
  keeps = λ a o. g.keeps a (h.keeps a o);
  program = h.program;
}

pub extent_grows : (p q : Program) → GoesOn p q → extent p ≤ extent q
extent_grows p q g = let x = g.start in let y = g.longer in omega (arith, x, y)

-- the array after k operators
pub record Ran (p : Program) (old a : List Bool) (k : ℕ) : Type 0 where
  pub before : (j : ℕ) → j < p.start → bit a j ≡ bit old j
  pub each : (j : ℕ) (d : Operator) → j < k → bit a (p.start + j) ≡ chosen a (get_or p.operators.items j d)

pub ran_begins : (p : Program) (a : List Bool) → Ran p a a 0
ran_begins p a = record { before = λ j h. refl; each = λ j d h. absurd (omega (arith, h)) }

pub ran_next : (p : Program) (operators : List Operator) (old a : List Bool) (k i : ℕ) (o : Operator) (v : Bool) → IsProgram p → operators ≡ p.operators.items → extent p ≤ length a
    → k < length operators → i ≡ p.start + k → o ≡ get_or operators k o → v ≡ chosen a o → Ran p old a k → Ran p old (set a i v) (k + 1)
ran_next p operators old a k i o v program all room low at read value r =
    let h : k < length p.operators.items = let many = ap length all in omega (arith, low, many) in
    let is : o ≡ get_or p.operators.items k o = read ∙ ap (λ (x : List Operator). get_or x k o) all in
    let within : i < length a = omega (arith, room, h, at) in
    record {
      before = λ j l. bit-set_other a i j v (omega (arith, l, at)) ∙ r.before j l;
      each = λ j d l.
          let P : ℕ → Type 0 = λ n. bit (set a i v) (p.start + n) ≡ chosen (set a i v) (get_or p.operators.items n d) in
          below_more P k
          (λ n m.
          let reads = program.reads n d (omega (arith, m, h)) in
          bit-set_other a i (p.start + n) v (omega (arith, m, at)) ∙ r.each n d m
          ∙ sym (chosen_set a i v (get_or p.operators.items n d) (reads_weaker (p.start + n) i (get_or p.operators.items n d) (omega (arith, m, at)) reads)))
          (let reads = program.reads k d h in
          ap (bit (set a i v)) (sym at) ∙ get_or-set_same a i v false within ∙ value
          ∙ ap (chosen a) (get_or_read p.operators.items k o h is d)
          ∙ sym (chosen_set a i v (get_or p.operators.items k d) (reads_weaker (p.start + k) i (get_or p.operators.items k d) (omega (arith, at)) reads)))
          j l;
    }

pub ran_ends : (p : Program) (operators : List Operator) (old a : List Bool) (k : ℕ) → IsProgram p → HasConstants old → operators ≡ p.operators.items → length operators ≤ k
    → Ran p old a k → Obeys p a
ran_ends p operators old a k program constants all h r =
    let two = program.constants in
    let many = ap length all in
    record {
      constants = record { zero = r.before 0 (omega (arith, two)) ∙ constants.zero; one = r.before 1 (omega (arith, two)) ∙ constants.one };
      each = λ j d l. r.each j d (omega (arith, l, h, many));
    }

pub reads_at : (p : Program) (operators : List Operator) (n k : ℕ) (o : Operator) → IsProgram p → operators ≡ p.operators.items → extent p ≤ n → k < length operators
    → o ≡ get_or operators k o → ReadsBelow n o
reads_at p operators n k o program all room low read =
    let h : k < length p.operators.items = let many = ap length all in omega (arith, low, many) in
    let is : o ≡ get_or p.operators.items k o = read ∙ ap (λ (x : List Operator). get_or x k o) all in
    let reads = program.reads k o h in
    subst (ReadsBelow n) (sym is) (reads_weaker (p.start + k) n (get_or p.operators.items k o) (omega (arith, room, h)) reads)
