-- The names of a circuit in its text are its own, and what it is made of is read as it is.
use Rattle.std.proofs.Common.{◌≡◌, ℕ, zero, suc, ◌+◌, ◌≤◌, Bool, true, false, cond, not, List, [], ◌∷◌, ◌++◌, map, filter, length, take, codes, refl, sym, ap, ◌∙◌, arith}
use Rattle.vlsi_base.specs.declared.name.Name.{Name}
use Rattle.vlsi_base.specs.Names.{scalar}
use Rattle.vlsi_base.specs.Range.{rising}
use Rattle.machine_core.specs.Machine.{Equation}
use Rattle.machine_core.specs.Order.{equation_names}
use Rattle.text_names.specs.Free.{is_free, numbered}
use Rattle.vbe_print.specs.Written.{is_output, inner_count, renamed, taken_texts, signal_texts, written_names}
use Rattle.vbe_laws.proofs.Itself.{HasNoChoice, IsPlainRegister, IsReadAsItself}
use Rattle.gen_circuit.specs.Generated.{gate_name, gates, output, register, circuit_by}
use Rattle.gen_circuit.proofs.Lists.{map_behind}
use Rattle.gen_circuit.proofs.Named.{each_all}
use Rattle.gen_circuit.proofs.Lengths.{by_equations}

abbrev name_of_equation : Equation → Name
name_of_equation e = e.name

-- the names of gates, from gate j on
abbrev gate_names : ℕ → List ℕ → List Name
gate_names j ws = map name_of_equation (gates j ws)

-- the names of the outputs
abbrev output_names : List Name
output_names = map name_of_equation (map (output 0) (rising 0 4))

names_are : (ws : List ℕ) (size : ℕ) → equation_names (circuit_by ws size) ≡ gate_names 0 ws ++ output_names
names_are ws size = map_behind name_of_equation (gates 0 ws) (map (output size) (rising 0 4))

-- no gate is an output
no_output : (ws : List ℕ) (size j : ℕ) → is_output (circuit_by ws size) (gate_name j) ≡ false
no_output ws size j = refl

-- ---- how many inner signals there are

all_inner : (inner : Name → Bool) → ((j : ℕ) → inner (gate_name j) ≡ true) → (j : ℕ) (ws : List ℕ) (ys : List Name) → filter inner ys ≡ []
    → length (filter inner (gate_names j ws ++ ys)) ≡ length ws
all_inner inner each j [] ys none = ap (λ (ns : List Name). length ns) none
all_inner inner each j (w ∷ ws) ys none =
    ap (λ (b : Bool). length (cond b (gate_name j ∷ filter inner (gate_names (j + 1) ws ++ ys)) (filter inner (gate_names (j + 1) ws ++ ys)))) (each j)
    ∙ ap suc (all_inner inner each (j + 1) ws ys none)

inner_is : (ws : List ℕ) (size : ℕ) → inner_count (circuit_by ws size) ≡ length ws
inner_is ws size =
    let inner : Name → Bool = λ n. not (is_output (circuit_by ws size) n) in
    ap (λ (ns : List Name). length (filter inner ns)) (names_are ws size) ∙ all_inner inner (λ j. refl) 0 ws output_names refl

-- ---- their texts

filter_all : (p : ℕ → Bool) → ((k : ℕ) → p k ≡ true) → (xs : List ℕ) → filter p xs ≡ xs
filter_all p each [] = refl
filter_all p each (x ∷ xs) = ap (λ (b : Bool). cond b (x ∷ filter p xs) (filter p xs)) (each x) ∙ ap (λ (ys : List ℕ). x ∷ ys) (filter_all p each xs)

take_rising : (k many n : ℕ) → many ≤ n → take many (rising k n) ≡ rising k many
take_rising k zero n few = refl
take_rising k (suc many) zero few = absurd (omega (arith, few))
take_rising k (suc many) (suc n) few = ap (λ (ys : List ℕ). k ∷ ys) (take_rising (k + 1) many n (omega (arith, few)))

-- no port and no register has the text of a gate
texts_are : (ws : List ℕ) (size : ℕ) → signal_texts (codes "g") (circuit_by ws size) ≡ map (numbered (codes "g")) (rising 0 (length ws))
texts_are ws size =
    let m = circuit_by ws size in
    let p : ℕ → Bool = λ k. is_free (taken_texts m) (numbered (codes "g") k) in
    let many = inner_count m in
    ap (λ (ks : List ℕ). map (numbered (codes "g")) (take many ks)) (filter_all p (λ k. refl) (rising 0 (many + length (taken_texts m))))
    ∙ ap (map (numbered (codes "g"))) (take_rising 0 many (many + length (taken_texts m)) (omega arith) ∙ ap (rising 0) (inner_is ws size))

-- ---- the names

renamed_gates : (keeps : Name → Bool) → ((j : ℕ) → keeps (gate_name j) ≡ false) → (j : ℕ) (ws : List ℕ) (ys : List Name) → renamed keeps ys [] ≡ ys
    → renamed keeps (gate_names j ws ++ ys) (map scalar (map (numbered (codes "g")) (rising j (length ws)))) ≡ gate_names j ws ++ ys
renamed_gates keeps each j [] ys none = none
renamed_gates keeps each j (w ∷ ws) ys none =
    let others = map scalar (map (numbered (codes "g")) (rising (j + 1) (length ws))) in
    let names = gate_names (j + 1) ws ++ ys in
    ap (λ (b : Bool). cond b (gate_name j ∷ renamed keeps names (gate_name j ∷ others)) (gate_name j ∷ renamed keeps names others)) (each j)
    ∙ ap (λ (ns : List Name). gate_name j ∷ ns) (renamed_gates keeps each (j + 1) ws ys none)

-- the text has the circuit's own names
pub own_names : (ws : List ℕ) (size : ℕ) → written_names (codes "g") (circuit_by ws size) ≡ equation_names (circuit_by ws size)
own_names ws size =
    let m = circuit_by ws size in
    ap (λ (ts : List (List ℕ)). renamed (is_output m) (equation_names m) (map scalar ts)) (texts_are ws size)
    ∙ ap (λ (ns : List Name). renamed (is_output m) ns (map scalar (map (numbered (codes "g")) (rising 0 (length ws))))) (names_are ws size)
    ∙ renamed_gates (is_output m) (no_output ws size) 0 ws output_names refl ∙ sym (names_are ws size)

-- ---- what it is made of

pub plain : (ws : List ℕ) (size : ℕ) → IsReadAsItself (circuit_by ws size)
plain ws size = record {
  equations = by_equations HasNoChoice (λ w a b. (tt, tt)) (λ a. tt) ws size;
  registers = each_all IsPlainRegister (map (register size) (rising 0 4))
      (record { next = tt; enable = refl }, (record { next = tt; enable = refl }, (record { next = tt; enable = refl }, (record { next = tt; enable = refl }, tt))));
}
