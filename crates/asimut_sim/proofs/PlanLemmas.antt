-- Ports from one of them on, and what is seen of the listed bits.
use Rattle.std.proofs.Common.{◌≡◌, ℕ, suc, ◌+◌, ◌<◌, Bool, true, false, not, List, [], ◌∷◌, ◌++◌, map, length, drop, Option, refl, sym, ◌∙◌, ap, add-one, drop-cons, append_assoc, append-nil, if◌then◌else◌}
use Rattle.std.specs.List.{slice_index_or}
use Rattle.vlsi_base.specs.declared.name.Name.{Name}
use Rattle.vlsi_base.specs.declared.name.Port.{Port}
use Rattle.machine_core.specs.Machine.{is_input, is_clock}
use Rattle.asimut_sim.specs.Plan.{inputs_among, is_vector_bit}

pub inputs-cons : (clock : Option Name) (p : Port) (ports : List Port) → inputs_among clock (p ∷ ports) ≡ (if is_vector_bit clock p then p.name ∷ inputs_among clock ports else inputs_among clock ports)
inputs-cons clock p ports = by (is_input p.dir) (not (is_clock clock p.name)) refl refl where
  by : (a b : Bool) → is_input p.dir ≡ a → not (is_clock clock p.name) ≡ b → inputs_among clock (p ∷ ports) ≡ (if is_vector_bit clock p then p.name ∷ inputs_among clock ports else inputs_among clock ports)
  by true true e f = rw (e, f) refl
  by true false e f = rw (e, f) refl
  by false b e f = rw e refl

-- what was found so far, and what is left from number k on, are the places of all
abbrev pub Finds : (Name → Option ℕ) → Option Name → List Port → ℕ → List (Option ℕ) → Type 0
Finds at clock ports k places = places ++ map at (inputs_among clock (drop k ports)) ≡ map at (inputs_among clock ports)

pub ports-cons : (ports : List Port) (k : ℕ) (p : Port) → k < length ports → p ≡ slice_index_or ports k p → drop k ports ≡ p ∷ drop (k + 1) ports
ports-cons ports k p h is =
    drop-cons ports k p h ∙ ap (λ x. x ∷ drop (suc k) ports) (sym is) ∙ ap (λ j. p ∷ drop j ports) (sym (add-one k))

pub finds-one : (at : Name → Option ℕ) (clock : Option Name) (ports : List Port) (k : ℕ) (places : List (Option ℕ)) (p : Port) → k < length ports
    → p ≡ slice_index_or ports k p → is_vector_bit clock p ≡ true → Finds at clock ports k places
    → Finds at clock ports (k + 1) (places ++ at p.name ∷ [])
finds-one at clock ports k places p h is test f =
    let rest = inputs_among clock (drop (k + 1) ports) in
    append_assoc places (at p.name ∷ []) (map at rest)
    ∙ sym (ap (λ x. places ++ map at (inputs_among clock x)) (ports-cons ports k p h is)
    ∙ ap (λ x. places ++ map at x) (inputs-cons clock p (drop (k + 1) ports))
    ∙ ap (λ b. places ++ map at (if b then p.name ∷ rest else rest)) test)
    ∙ f

pub finds-none : (at : Name → Option ℕ) (clock : Option Name) (ports : List Port) (k : ℕ) (places : List (Option ℕ)) (p : Port) → k < length ports
    → p ≡ slice_index_or ports k p → is_vector_bit clock p ≡ false → Finds at clock ports k places → Finds at clock ports (k + 1) places
finds-none at clock ports k places p h is test f =
    let rest = inputs_among clock (drop (k + 1) ports) in
    sym (ap (λ x. places ++ map at (inputs_among clock x)) (ports-cons ports k p h is)
    ∙ ap (λ x. places ++ map at x) (inputs-cons clock p (drop (k + 1) ports))
    ∙ ap (λ b. places ++ map at (if b then p.name ∷ rest else rest)) test)
    ∙ f

pub finds-end : (at : Name → Option ℕ) (clock : Option Name) (ports : List Port) (k : ℕ) (places : List (Option ℕ)) → drop k ports ≡ [] → Finds at clock ports k places
    → places ≡ map at (inputs_among clock ports)
finds-end at clock ports k places e f =
    sym (append-nil places) ∙ sym (ap (λ x. places ++ map at (inputs_among clock x)) e) ∙ f
