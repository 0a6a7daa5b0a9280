-- What is computed equation by equation is the valuation.
use Rattle.std.proofs.Common.{◌≡◌, ◌<◌, ℕ, zero, suc, ◌+◌, Bool, List, [], ◌∷◌, ◌++◌, map, length, refl, sym, ◌∙◌, ap, arith, append_assoc, length-append, length-drop, take, drop, subst, append-nil, take-append-drop}
use Rattle.std.specs.List.{slice_index_or, All}
use Rattle.std.proofs.lemmas.List.{length-map}
use Rattle.std.proofs.lemmas.List.Elements.{All-head, All-tail}
use Rattle.vlsi_base.specs.declared.name.Name.{Name}
use Rattle.bool_expr.specs.Expression.{bit, val, variables}
use Rattle.machine_core.specs.Named.{value_at, values_at}
use Rattle.machine_core.specs.Machine.{Machine, Equation, inputs, register_names}
use Rattle.machine_core.specs.Cycles.{Settles}
use Rattle.machine_core.specs.Order.{In, here, there, AllDifferent, held_names, equation_names, EachReadsBelow, IsOrdered}
use Rattle.machine_core.specs.Built.{built}
use Rattle.machine_core.proofs.Names.{same_name-itself, same_name-false}
use Rattle.machine_core.proofs.Values.{In-left, val-agrees, bit-value_at}
use Rattle.machine_core.proofs.Known.{IsOver-In, known}
use Rattle.machine_core.proofs.Solve.{settles_once_known}

values_at-later : (n : Name) (names : List Name) (b : Bool) (w : List Bool) (asked : List Name) → (In n asked → ⊥)
    → values_at (n ∷ names) (b ∷ w) asked ≡ values_at names w asked
values_at-later n names b w [] apart = refl
values_at-later n names b w (a ∷ asked) apart =
    rw (same_name-false n a (λ p. apart (rw p here))) (ap (λ xs. value_at names w a ∷ xs) (values_at-later n names b w asked (λ h. apart (there h))))

-- the first names have the first bits
pub values_at-front : (front back : List Name) (w : List Bool) → AllDifferent (front ++ back) → length w ≡ length (front ++ back)
    → values_at (front ++ back) w front ≡ take (length front) w
values_at-front [] back w different lengths = refl
values_at-front (n ∷ front) back [] different lengths = absurd (omega arith)
values_at-front (n ∷ front) back (b ∷ w) different lengths =
    let later : values_at (n ∷ (front ++ back)) (b ∷ w) front ≡ take (length front) w =
    values_at-later n (front ++ back) b w front (λ h. different.0 (In-left n front back h)) ∙ values_at-front front back w different.1 (omega arith) in
    let first : value_at (n ∷ (front ++ back)) (b ∷ w) n ≡ b = rw (same_name-itself n) refl in
    ap (λ x. x ∷ values_at (n ∷ (front ++ back)) (b ∷ w) front) first ∙ ap (λ xs. b ∷ xs) later

values_at-first : (vars front back : List Name) (w : List Bool) → vars ≡ front ++ back → AllDifferent vars → length w ≡ length vars
    → values_at vars w front ≡ take (length front) w
values_at-first vars front back w vars_are different lengths =
    rw vars_are (values_at-front front back w (rw vars_are at different) (rw vars_are at lengths))

-- the equations hold of w, whose bit n is that of the first of them
abbrev pub Holds : List Bool → ℕ → List Equation → Type 0
Holds w n [] = Unit {0}
Holds w n (e ∷ rest) = (bit w n ≡ val e.expr w) × Holds w (n + 1) rest

bit-front : (front rest : List Bool) (k : ℕ) → k < length front → bit (front ++ rest) k ≡ bit front k
bit-front [] rest k h = absurd (omega arith)
bit-front (b ∷ front) rest zero h = refl
bit-front (b ∷ front) rest (suc k) h = bit-front front rest k (omega arith)

bit-next : (front : List Bool) (b : Bool) (rest : List Bool) → bit (front ++ b ∷ rest) (length front) ≡ b
bit-next [] b rest = refl
bit-next (c ∷ front) b rest = bit-next front b rest

pub built_is : (w front rest : List Bool) (equations : List Equation) → w ≡ front ++ rest → length rest ≡ length equations
    → EachReadsBelow (length front) equations → Holds w (length front) equations → built front equations ≡ w
built_is w front [] [] parts lengths below holds = sym (parts ∙ append-nil front)
built_is w front (b ∷ rest) [] parts lengths below holds = absurd (omega arith)
built_is w front [] (e ∷ equations) parts lengths below holds = absurd (omega arith)
built_is w front (b ∷ rest) (e ∷ equations) parts lengths below holds =
    let same : val e.expr w ≡ val e.expr front =
    val-agrees e.expr w front (λ k h. rw parts (bit-front front (b ∷ rest) k (IsOver-In e.expr (length front) below.0 k h))) in
    let value : b ≡ val e.expr front = sym (bit-next front b rest) ∙ ap (λ x. bit x (length front)) (sym parts) ∙ holds.0 ∙ same in
    let longer : length (front ++ val e.expr front ∷ []) ≡ length front + 1 = length-append front (val e.expr front ∷ []) in
    built_is w (front ++ val e.expr front ∷ []) rest equations
    (parts ∙ ap (λ x. front ++ x ∷ rest) value ∙ sym (append_assoc front (val e.expr front ∷ []) rest))
    (omega arith)
    (let P : ℕ → Type 0 = λ n. EachReadsBelow n equations in subst P (sym longer) below.1)
    (let P : ℕ → Type 0 = λ n. Holds w n equations in subst P (sym longer) holds.1)

slice-next : (front : List Name) (n : Name) (rest : List Name) (d : Name) → slice_index_or (front ++ n ∷ rest) (length front) d ≡ n
slice-next [] n rest d = refl
slice-next (c ∷ front) n rest d = slice-next front n rest d

holds_from_settled : (vars front : List Name) (w : List Bool) (equations : List Equation) → vars ≡ front ++ map (λ e. e.name) equations
    → AllDifferent vars → length w ≡ length vars → All (λ e. value_at vars w e.name ≡ val e.expr w) equations → Holds w (length front) equations
holds_from_settled vars front w [] vars_are different lengths settled = tt
holds_from_settled vars front w (e ∷ rest) vars_are different lengths settled =
    let within : length front < length vars = rw vars_are (omega (arith, length-append front (e.name ∷ map (λ x. x.name) rest))) in
    let name : slice_index_or vars (length front) e.name ≡ e.name = rw vars_are (slice-next front e.name (map (λ x. x.name) rest) e.name) in (
      bit-value_at vars w (length front) e.name different lengths within ∙ ap (value_at vars w) name ∙ All-head (λ x. value_at vars w x.name ≡ val x.expr w) e rest settled,
      (let longer : length (front ++ e.name ∷ []) ≡ length front + 1 = length-append front (e.name ∷ []) in
          let P : ℕ → Type 0 = λ n. Holds w n rest in subst P longer
          (holds_from_settled vars (front ++ e.name ∷ []) w rest (vars_are ∙ sym (append_assoc front (e.name ∷ []) (map (λ x. x.name) rest))) different lengths
          (All-tail (λ x. value_at vars w x.name ≡ val x.expr w) e rest settled))),
    )

values_at-append : (names : List Name) (w : List Bool) (xs ys : List Name) → values_at names w (xs ++ ys) ≡ values_at names w xs ++ values_at names w ys
values_at-append names w [] ys = refl
values_at-append names w (x ∷ xs) ys = ap (λ l. value_at names w x ∷ l) (values_at-append names w xs ys)

pub built_settles : (m : Machine) (s i : List Bool) → IsOrdered m → length s ≡ length m.registers → length i ≡ length (inputs m)
    → Settles m s i (built (i ++ s) m.equations)
built_settles m s i o ls li =
    let once = settles_once_known m s i (known m o) ls li in
    let w = once.0 in
    let h = once.1 in
    let held : values_at m.vars w (held_names m) ≡ i ++ s =
    values_at-append m.vars w (inputs m) (register_names m) ∙ ap (λ x. x ++ values_at m.vars w (register_names m)) h.inputs ∙ ap (λ x. i ++ x) h.registers in
    let lw : length w ≡ length (held_names m ++ equation_names m) = h.each ∙ ap length o.vars in
    let front : values_at m.vars w (held_names m) ≡ take (length (held_names m)) w =
    values_at-first m.vars (held_names m) (equation_names m) w o.vars o.different h.each in
    let start : i ++ s ≡ take (length (held_names m)) w = sym held ∙ front in
    let n : length (i ++ s) ≡ length (held_names m) = omega (arith, length-append i s, length-append (inputs m) (register_names m), ls, li, length-map m.registers (λ r. r.name)) in
    let parts : w ≡ (i ++ s) ++ drop (length (held_names m)) w = rw start (sym (take-append-drop (length (held_names m)) w)) in
    let result : built (i ++ s) m.equations ≡ w =
    built_is w (i ++ s) (drop (length (held_names m)) w) m.equations parts
    (omega (arith, lw, length-append (held_names m) (equation_names m), length-drop (length (held_names m)) w, length-map m.equations (λ e. e.name)))
    (let P : ℕ → Type 0 = λ k. EachReadsBelow k m.equations in subst P (sym n) o.below)
    (let P : ℕ → Type 0 = λ k. Holds w k m.equations in subst P (sym n)
    (holds_from_settled m.vars (held_names m) w m.equations o.vars o.different h.each h.equations)) in
    let P : List Bool → Type 0 = λ x. Settles m s i x in subst P (sym result) h
