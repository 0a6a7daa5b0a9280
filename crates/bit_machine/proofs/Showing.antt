-- Bits by their numbers and by their names.
use Rattle.std.proofs.Common.{◌≡◌, ℕ, suc, ◌<◌, Bool, false, cond, not, List, [], ◌∷◌, ◌++◌, map, length, get_or, None, refl, sym, ap, ◌∙◌, arith}
use Rattle.std.specs.Prelude.{slice_index}
use Rattle.std.proofs.lemmas.List.{length-map, get_or-map}
use Rattle.vlsi_base.specs.declared.name.Name.{Name}
use Rattle.bool_expr.specs.Expression.{Expression, constant, variable, inverse, pair, choice, gate_value, variables, IsOver, bit, val}
use Rattle.bool_expr.specs.Renumbering.{renumbered}
use Rattle.machine_core.specs.Named.{value_at, values_at}
use Rattle.machine_core.specs.Order.{In, here, AllDifferent}
use Rattle.machine_core.proofs.Values.{In-left, In-right, bit-value_at}
use Rattle.source_checks.specs.Formula.{place}
use Rattle.vlsi_model.specs.Numbered.{name_at}
use Rattle.vlsi_model.specs.Nodes.{HasNodes}
use Rattle.vlsi_model.proofs.Members.{different_map}
use Rattle.vlsi_model.proofs.Sorting.{place_of_In}
use Rattle.vlsi_model.proofs.Numbering.{place_of_at}

abbrev pub no_name : Name
no_name = record { text = []; bit = None }

-- the bits in the order of a machine's names, with the place of each
pub record IsTabled (names : List Name) (bits table : List ℕ) : Type 0 where
  pub names_differ : AllDifferent names
  pub different : AllDifferent bits
  pub complete : (v : ℕ) → v < length names → In v bits
  pub inside : (v : ℕ) → In v bits → v < length names
  pub has : HasNodes bits table (length names)

pub name_once : (names : List Name) → AllDifferent names → (u v : ℕ) → u < length names → v < length names → name_at names u ≡ name_at names v → u ≡ v
name_once names different u v lu lv e = sym (place_of_at names u no_name different lu) ∙ ap (place names) e ∙ place_of_at names v no_name different lv

pub vars_different : (names : List Name) (bits table : List ℕ) → IsTabled names bits table → AllDifferent (map (name_at names) bits)
vars_different names bits table t = different_map (name_at names) bits (λ u v i j e. name_once names t.names_differ u v (t.inside u i) (t.inside v j) e) t.different

-- the place of a bit
pub placed : (names : List Name) (bits table : List ℕ) → IsTabled names bits table → (v : ℕ) → v < length names
    → (slice_index table v < length bits) × (slice_index bits (slice_index table v) ≡ v)
placed names bits table t v low =
    let r = place_of_In bits v (t.complete v low) in
    let e : slice_index table v ≡ r.0 = ap (slice_index table) (sym (r.2 0)) ∙ t.has.there r.0 r.1 in
    (omega (arith, e, r.1), ap (slice_index bits) e ∙ r.2 0)

pub value_of_bit : (names : List Name) (bits table : List ℕ) (x : List Bool) → IsTabled names bits table → length x ≡ length bits → (v : ℕ) → v < length names
    → value_at (map (name_at names) bits) x (name_at names v) ≡ bit x (slice_index table v)
value_of_bit names bits table x t count v low =
    let p = placed names bits table t v low in
    let vars = map (name_at names) bits in
    let many : length vars ≡ length bits = length-map bits (name_at names) in
    let at : get_or vars (slice_index table v) no_name ≡ name_at names v = get_or-map (name_at names) bits (slice_index table v) 0 no_name p.0 ∙ ap (name_at names) p.1 in
    ap (value_at vars x) (sym at) ∙ sym (bit-value_at vars x (slice_index table v) no_name (vars_different names bits table t) (count ∙ sym many) (omega (arith, p.0, many)))

-- what a valuation gives the bits by their names
pub shown_at : (names vars : List Name) (x : List Bool) (v : ℕ) → v < length names → bit (values_at vars x names) v ≡ value_at vars x (name_at names v)
shown_at names vars x v low = get_or-map (value_at vars x) names v no_name false low

pub shown_bit : (names : List Name) (bits table : List ℕ) (x : List Bool) → IsTabled names bits table → length x ≡ length bits → (v : ℕ) → v < length names
    → bit (values_at (map (name_at names) bits) x names) v ≡ bit x (slice_index table v)
shown_bit names bits table x t count v low = shown_at names (map (name_at names) bits) x v low ∙ value_of_bit names bits table x t count v low

-- an expression over other numbers has the same value
pub val_renumbered : (e : Expression) (n : ℕ) (table : List ℕ) (x y : List Bool) → IsOver e n → ((k : ℕ) → k < n → bit x (slice_index table k) ≡ bit y k)
    → val (renumbered table e) x ≡ val e y
val_renumbered (constant b) n table x y over same = refl
val_renumbered (variable k) n table x y over same = same k over
val_renumbered (inverse e) n table x y over same = ap not (val_renumbered e n table x y over same)
val_renumbered (pair g a b) n table x y over same =
    ap (λ p. gate_value g p (val (renumbered table b) x)) (val_renumbered a n table x y over.0 same) ∙ ap (gate_value g (val a y)) (val_renumbered b n table x y over.1 same)
val_renumbered (choice c a b) n table x y over same =
    ap (λ p. cond p (val (renumbered table a) x) (val (renumbered table b) x)) (val_renumbered c n table x y over.0 same)
    ∙ ap (λ p. cond (val c y) p (val (renumbered table b) x)) (val_renumbered a n table x y over.1.0 same)
    ∙ ap (cond (val c y) (val a y)) (val_renumbered b n table x y over.1.1 same)

pub over_renumbered : (e : Expression) (table : List ℕ) (n : ℕ) → ((k : ℕ) → In k (variables e) → slice_index table k < n) → IsOver (renumbered table e) n
over_renumbered (constant b) table n low = tt
over_renumbered (variable k) table n low = low k here
over_renumbered (inverse e) table n low = over_renumbered e table n low
over_renumbered (pair g a b) table n low = (
  over_renumbered a table n (λ k i. low k (In-left k (variables a) (variables b) i)),
  over_renumbered b table n (λ k i. low k (In-right k (variables a) (variables b) i)),
)
over_renumbered (choice c a b) table n low = (
  over_renumbered c table n (λ k i. low k (In-left k (variables c) (variables a ++ variables b) i)),
  (
    over_renumbered a table n (λ k i. low k (In-right k (variables c) (variables a ++ variables b) (In-left k (variables a) (variables b) i))),
    over_renumbered b table n (λ k i. low k (In-right k (variables c) (variables a ++ variables b) (In-right k (variables a) (variables b) i))),
  ),
)

-- lists that agree at each place are one
pub same_bits : (x y : List Bool) → length x ≡ length y → ((k : ℕ) → k < length x → bit x k ≡ bit y k) → x ≡ y
same_bits [] [] e same = refl
same_bits [] (b ∷ y) e same = absurd (omega (arith, e))
same_bits (a ∷ x) [] e same = absurd (omega (arith, e))
same_bits (a ∷ x) (b ∷ y) e same =
    let first : a ≡ b = same 0 (omega arith) in
    ap (λ c. c ∷ x) first ∙ ap (λ z. b ∷ z) (same_bits x y (omega (arith, e)) (λ k l. same (suc k) (omega (arith, l))))

-- the bits of a machine's names, from those of all
pub gathered : (names : List Name) (bits table : List ℕ) (y : List Bool) → IsTabled names bits table → length y ≡ length names
    → values_at (map (name_at names) bits) (map (bit y) bits) names ≡ y
gathered names bits table y t count =
    let x = map (bit y) bits in
    let many : length x ≡ length bits = length-map bits (bit y) in
    let n : length (values_at (map (name_at names) bits) x names) ≡ length names = length-map names (value_at (map (name_at names) bits) x) in
    same_bits (values_at (map (name_at names) bits) x names) y (n ∙ sym count)
    (λ k l.
    let low : k < length names = omega (arith, l, n) in
    let p = placed names bits table t k low in
    shown_bit names bits table x t many k low ∙ get_or-map (bit y) bits (slice_index table k) 0 false p.0 ∙ ap (bit y) p.1)
