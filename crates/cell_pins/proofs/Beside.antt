-- Values by name, from one place on.
use Rattle.std.proofs.Common.{◌≡◌, ◌<◌, ℕ, suc, ◌+◌, Bool, true, false, cond, List, ◌∷◌, length, drop, drop-cons, add-one, arith, refl, sym, ap, ◌∙◌}
use Rattle.std.specs.List.{slice_index_or}
use Rattle.vlsi_base.specs.declared.name.Name.{Name}
use Rattle.machine_core.specs.Named.{is_same_name, value_at}

value_step : (names : List Name) (bits : List Bool) (name other : Name) (k : ℕ) → k < length names → length bits ≡ length names → other ≡ slice_index_or names k other
    → value_at (drop k names) (drop k bits) name ≡ cond (is_same_name other name) (slice_index_or bits k false) (value_at (drop (k + 1) names) (drop (k + 1) bits) name)
value_step names bits name other k h lengths is =
    let ns : drop k names ≡ other ∷ drop (k + 1) names =
    drop-cons names k other h ∙ ap (λ (n : Name). n ∷ drop (suc k) names) (sym is) ∙ ap (λ j. other ∷ drop j names) (sym (add-one k)) in
    let bs : drop k bits ≡ slice_index_or bits k false ∷ drop (k + 1) bits =
    drop-cons bits k false (omega (arith, h, lengths)) ∙ ap (λ j. slice_index_or bits k false ∷ drop j bits) (sym (add-one k)) in
    rw (ns, bs) refl

pub value_found : (names : List Name) (bits : List Bool) (name other : Name) (k : ℕ) → k < length names → length bits ≡ length names → other ≡ slice_index_or names k other
    → is_same_name other name ≡ true → value_at (drop k names) (drop k bits) name ≡ value_at names bits name → slice_index_or bits k false ≡ value_at names bits name
value_found names bits name other k h lengths is found inv =
    sym (value_step names bits name other k h lengths is ∙ ap (λ t. cond t (slice_index_or bits k false) (value_at (drop (k + 1) names) (drop (k + 1) bits) name)) found) ∙ inv

pub value_later : (names : List Name) (bits : List Bool) (name other : Name) (k : ℕ) → k < length names → length bits ≡ length names → other ≡ slice_index_or names k other
    → is_same_name other name ≡ false → value_at (drop k names) (drop k bits) name ≡ value_at names bits name → value_at (drop (k + 1) names) (drop (k + 1) bits) name ≡ value_at names bits name
value_later names bits name other k h lengths is apart inv =
    sym (value_step names bits name other k h lengths is ∙ ap (λ t. cond t (slice_index_or bits k false) (value_at (drop (k + 1) names) (drop (k + 1) bits) name)) apart) ∙ inv
