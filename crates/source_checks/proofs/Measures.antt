-- The measure of operands that are grouped.
use Rattle.std.proofs.Common.{◌≡◌, ℕ, List, [], ◌∷◌, ◌++◌, Option, refl, sym, ap, ◌∙◌}
use Rattle.std.specs.Prelude.{not, ◌&&◌}
use Rattle.vlsi_base.specs.declared.expression.Operator.{Operator}
use Rattle.vlsi_base.specs.Tree.{Tree, binary}
use Rattle.source_checks.specs.declared.symbol_table.Symbol.{Symbol}
use Rattle.source_checks.specs.declared.widths.Measure.{Measure}
use Rattle.source_checks.specs.Lines.{first_line}
use Rattle.source_checks.specs.Widths.{width, width_faults, joined_width, needs_equal, differ, if_not}
use Rattle.source_checks.specs.Measure.{measure_of, or_line, joined_measure}

first_of_two : (xs ys : List ℕ) → first_line (xs ++ ys) ≡ or_line (first_line xs) (first_line ys)
first_of_two [] ys = refl
first_of_two (x ∷ xs) ys = refl

-- of an operator, from those of its operands
pub measure_of_binary : (known : List Symbol) (op : Operator) (line : ℕ) (l r : Tree) → measure_of known (binary op line l r) ≡ joined_measure op line (measure_of known l) (measure_of known r)
measure_of_binary known op line l r =
    let w = joined_width op (width known l) (width known r) in
    let here = if_not (not (needs_equal op && differ (width known l) (width known r))) line in
    let make : Option ℕ → Measure = λ (f : Option ℕ). record { width = w; fault = f } in
    ap make (first_of_two (width_faults known l) (here ++ width_faults known r) ∙ ap (or_line (first_line (width_faults known l))) (first_of_two here (width_faults known r)))

-- of a whole, from those of its two operands
pub measured_binary : (known : List Symbol) (whole l r : Tree) (op : Operator) (line : ℕ) (a b made : Measure) → whole ≡ binary op line l r → a ≡ measure_of known l → b ≡ measure_of known r → made ≡ joined_measure op line a b → made ≡ measure_of known whole
measured_binary known whole l r op line a b made is at_left at_right joins =
    joins ∙ ap (λ (m : Measure). joined_measure op line m b) at_left ∙ ap (joined_measure op line (measure_of known l)) at_right ∙ sym (measure_of_binary known op line l r) ∙ ap (measure_of known) (sym is)
