-- What is made item by item.
use Rattle.std.proofs.Common.{◌≡◌, ℕ, suc, ◌+◌, List, [], ◌∷◌, ◌++◌, map, sym, ap, ◌∙◌, append_assoc, append-nil}
use Rattle.rand_core.specs.Steps.{first_words}
use Rattle.machine_core.specs.declared.equation.Equation.{Equation as EquationParts}
use Rattle.machine_core.specs.Machine.{Equation, Register}
use Rattle.machine_core.specs.View.{equation_view}
use Rattle.vlsi_base.specs.Range.{rising}
use Rattle.gen_circuit.specs.Generated.{gate_by, gates, output, register, circuit_of, words_of, generated}
use Rattle.gen_circuit.proofs.Lists.{map_behind, rising_map}

-- one more of what is made for the numbers from 0 on, behind others
pub one_more : {A B : Type 0} (v : A → B) (g : ℕ → B) (old new : List A) (x : A) (before : List B) (n : ℕ) → new ≡ old ++ x ∷ [] → v x ≡ g n
    → map v old ≡ before ++ map g (rising 0 n) → map v new ≡ before ++ map g (rising 0 (n + 1))
one_more {A} {B} v g old new x before n pushed same h =
    ap (map v) pushed ∙ map_behind v old (x ∷ []) ∙ ap (λ (zs : List B). zs ++ v x ∷ []) h ∙ ap (λ (z : B). (before ++ map g (rising 0 n)) ++ z ∷ []) same
    ∙ append_assoc before (map g (rising 0 n)) (g n ∷ []) ∙ ap (λ (zs : List B). before ++ zs) (sym (rising_map g n))

-- the same of what isn't seen otherwise
pub one_item : {B : Type 0} (g : ℕ → B) (old new : List B) (x : B) (before : List B) (n : ℕ) → new ≡ old ++ x ∷ [] → x ≡ g n
    → old ≡ before ++ map g (rising 0 n) → new ≡ before ++ map g (rising 0 (n + 1))
one_item {B} g old new x before n pushed same h =
    pushed ∙ ap (λ (zs : List B). zs ++ x ∷ []) h ∙ ap (λ (z : B). (before ++ map g (rising 0 n)) ++ z ∷ []) same
    ∙ append_assoc before (map g (rising 0 n)) (g n ∷ []) ∙ ap (λ (zs : List B). before ++ zs) (sym (rising_map g n))

-- one gate by the next word, and then the gates behind it
pub gates_more : {S : Type 0} (step : S → ℕ × S) (gate rest left word : ℕ) (s t : S) (old new : List EquationParts) (x : EquationParts) (all : List Equation)
    → rest ≡ suc left → (word, t) ≡ step s → new ≡ old ++ x ∷ [] → equation_view x ≡ gate_by gate word
    → map equation_view old ++ gates gate (first_words step rest s) ≡ all
    → map equation_view new ++ gates (gate + 1) (first_words step left t) ≡ all
unfolding first_words
gates_more {S} step gate rest left word s t old new x all count w pushed same h =
    ap (λ (es : List EquationParts). map equation_view es ++ gates (gate + 1) (first_words step left t)) pushed
    ∙ ap (λ (es : List Equation). es ++ gates (gate + 1) (first_words step left t)) (map_behind equation_view old (x ∷ []))
    ∙ append_assoc (map equation_view old) (equation_view x ∷ []) (gates (gate + 1) (first_words step left t))
    ∙ ap (λ (e : Equation). map equation_view old ++ e ∷ gates (gate + 1) (first_words step left t)) same
    ∙ ap (λ (p : ℕ × S). map equation_view old ++ gate_by gate p.0 ∷ gates (gate + 1) (first_words step left p.1)) w
    ∙ ap (λ (k : ℕ). map equation_view old ++ gates gate (first_words step k s)) (sym count)
    ∙ h

-- and none are behind the last one
pub gates_done : {S : Type 0} (step : S → ℕ × S) (gate rest : ℕ) (s : S) (made all : List Equation) → rest ≡ 0 → made ++ gates gate (first_words step rest s) ≡ all → made ≡ all
unfolding first_words
gates_done step gate rest s made all none h =
    sym (append-nil made) ∙ ap (λ (k : ℕ). made ++ gates gate (first_words step k s)) (sym none) ∙ h

-- gates and outputs are the equations of the circuit
pub made_is : (seed size : ℕ) (es : List Equation) (rs : List Register) → es ≡ gates 0 (words_of seed size) ++ map (output size) (rising 0 4) → rs ≡ map (register size) (rising 0 4)
    → circuit_of es rs ≡ generated seed size
unfolding generated
made_is seed size es rs e r =
    ap (λ (xs : List Equation). circuit_of xs rs) e ∙ ap (circuit_of (gates 0 (words_of seed size) ++ map (output size) (rising 0 4))) r
