-- Netlists with and without instances.
use Rattle.std.proofs.Common.{◌≡◌, ℕ, true, false, List, [], ◌∷◌, map, length, nat_eq, Result, Ok, Err, IfOk, refl, sym, ◌∙◌, subst, arith}
use Rattle.std.proofs.lemmas.Bool.{eqb-true, eq-eqb}
use Rattle.cell_model.specs.Library.{Library}
use Rattle.net_core.specs.Places.{Stands, IsThere}
use Rattle.net_core.specs.Netlist.{Netlist}
use Rattle.loon_fanout.specs.declared.error.BufferError.{BufferError}
use Rattle.loon_fanout.specs.Limited.{HasFanout, IsOfCells}
use Rattle.loon_drive.specs.declared.drive.Driven.{Driven}
use Rattle.loon_drive.specs.Driven.{most_sinks, IsDrivenFrom}
use Rattle.loon_run.specs.Loon.{IsMade, driven}

pub none_of : {A B : Type 0} (f : A → B) (xs : List A) (ys : List B) → map f xs ≡ ys → nat_eq (length xs) 0 ≡ true → ys ≡ []
none_of f [] ys is empty = sym is
none_of f (x ∷ xs) ys is empty = let e = eqb-true (length (x ∷ xs)) 0 empty in absurd (omega (arith, e))

pub some_of : {A B : Type 0} (f : A → B) (xs : List A) (ys : List B) → map f xs ≡ ys → nat_eq (length xs) 0 ≡ false → (y : B) × IsThere ys y
some_of f [] ys is empty = let e : true ≡ false = sym (eq-eqb 0 0 refl) ∙ empty in absurd cc
some_of {A} {B} f (x ∷ xs) ys is empty = (f x, (0, subst (λ (zs : List B). Stands zs 0 (f x)) is refl))

pub made_of : (r : Result Driven BufferError) (n : Netlist) (l : Library) (fanout : ℕ) → IsOfCells n l
    → IfOk r (λ d. IsDrivenFrom n l fanout d.netlist d.delay) → IfOk r (λ d. HasFanout l (most_sinks fanout) d.netlist)
    → IfOk r (λ d. IsMade n l fanout d.netlist d.delay)
made_of (Ok d) n l fanout cells made few = driven cells made few
made_of (Err e) n l fanout cells made few = made
