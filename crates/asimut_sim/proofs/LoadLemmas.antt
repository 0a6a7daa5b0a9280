-- Registers from one of them on.
use Rattle.std.proofs.Common.{◌≡◌, ℕ, ◌<◌, Bool, List, [], ◌∷◌, map, length, refl, sym, ap, subst, if◌then◌else◌}
use Rattle.std.specs.List.{slice_index_or, All}
use Rattle.std.proofs.lemmas.List.Elements.{All-nil, All-cons, All-head, All-tail}
use Rattle.vlsi_base.specs.declared.name.Name.{Name}
use Rattle.bool_expr.specs.Expression.{val}
use Rattle.machine_core.specs.Named.{value_at, values_at}
use Rattle.machine_core.specs.Machine.{Register}
use Rattle.machine_core.specs.declared.equation.Register.{Register as Parts}
use Rattle.asimut_sim.specs.Load.{loaded, LoadsOver}

pub All-unmap : {X Y : Type 0} (P : X → Type 0) (f : Y → X) (ys : List Y) → All P (map f ys) → All (λ y. P (f y)) ys
All-unmap P f [] h = All-nil (λ y. P (f y))
All-unmap P f (y ∷ ys) h = All-cons (λ y. P (f y)) y ys (All-head P (f y) (map f ys) h) (All-unmap P f ys (All-tail P (f y) (map f ys) h))

pub loads_over : (n : ℕ) (registers : List Parts) (k : ℕ) (r : Parts) → All (LoadsOver n) registers → k < length registers
    → r ≡ slice_index_or registers k r → LoadsOver n r
loads_over n registers k r all h is = subst (LoadsOver n) (sym is) (all k r h)

-- over what the registers held, it is what the machine loads
pub loaded_is_next : (vars : List Name) (w : List Bool) (registers : List Register)
    → loaded w registers (values_at vars w (map (λ r. r.name) registers)) ≡ map (λ r. if val r.enable w then val r.next w else value_at vars w r.name) registers
loaded_is_next vars w [] = refl
loaded_is_next vars w (r ∷ rest) = ap (λ x. (if val r.enable w then val r.next w else value_at vars w r.name) ∷ x) (loaded_is_next vars w rest)
