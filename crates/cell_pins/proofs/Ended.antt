-- What the marks say when all equations are through.
use Rattle.std.proofs.Common.{◌≡◌, ◌∙◌, ◌↔◌, ℕ, Bool, true, List, map, length, sym, ap, subst}
use Rattle.vlsi_base.specs.declared.name.Name.{Name}
use Rattle.machine_core.specs.declared.equation.Equation.{Equation as EquationParts}
use Rattle.machine_core.specs.Machine.{Machine, Equation}
use Rattle.machine_core.specs.Named.{value_at}
use Rattle.machine_core.specs.Checked.{IsChecked}
use Rattle.machine_core.specs.Order.{EachReadsBelow}
use Rattle.machine_core.specs.View.{equation_view}
use Rattle.cell_pins.specs.Follows.{Follows}
use Rattle.cell_pins.specs.Marks.{starts, marked}
use Rattle.cell_pins.proofs.Marked.{marks_are_right, marks_fit, starts_fit}

-- a machine's equations read what is marked before them
pub reads_below : (m : Machine) (input : Name) (es : List EquationParts) (first : List Bool) → IsChecked m → map equation_view es ≡ m.equations → first ≡ starts m input
    → EachReadsBelow (length first) (map equation_view es)
reads_below m input es first c is at =
    let P : ℕ → List Equation → Type 0 = λ n xs. EachReadsBelow n xs in
    subst (λ (xs : List Equation). P (length first) xs) (sym is)
    (subst (λ n. P n m.equations) (sym (ap (λ (bs : List Bool). length bs) at ∙ starts_fit m input c.ordered)) c.ordered.below)

ended : (m : Machine) (input : Name) (first last : List Bool) (es : List EquationParts) → map equation_view es ≡ m.equations → first ≡ starts m input
    → last ≡ marked first (map equation_view es) → last ≡ marked (starts m input) m.equations
ended m input first last es is at all = all ∙ ap (λ (bs : List Bool). marked bs (map equation_view es)) at ∙ ap (marked (starts m input)) is

pub ended_fit : (m : Machine) (input : Name) (first last : List Bool) (es : List EquationParts) (vars : List Name) → IsChecked m → vars ≡ m.vars
    → map equation_view es ≡ m.equations → first ≡ starts m input → last ≡ marked first (map equation_view es) → length last ≡ length vars
ended_fit m input first last es vars c named is at all =
    ap (λ (bs : List Bool). length bs) (ended m input first last es is at all) ∙ marks_fit m input c.ordered ∙ ap (λ (ns : List Name). length ns) (sym named)

pub ended_right : (m : Machine) (input name : Name) (first last : List Bool) (es : List EquationParts) (vars : List Name) (r : Bool) → IsChecked m → vars ≡ m.vars
    → map equation_view es ≡ m.equations → first ≡ starts m input → last ≡ marked first (map equation_view es) → r ≡ value_at vars last name
    → (r ≡ true) ↔ Follows m input name
ended_right m input name first last es vars r c named is at all answer =
    let e : r ≡ value_at m.vars (marked (starts m input) m.equations) name =
    answer ∙ ap (λ (ns : List Name). value_at ns last name) named ∙ ap (λ (bs : List Bool). value_at m.vars bs name) (ended m input first last es is at all) in
    subst (λ b. (b ≡ true) ↔ Follows m input name) (sym e) (marks_are_right m input name c.ordered)
