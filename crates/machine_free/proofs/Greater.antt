-- With each free bit 1 the value is at least that with each 0.
use Rattle.std.proofs.Common.{◌≡◌, ◌⊎◌, inl, inr, Bool, true, false, not, List, refl, sym, ap, ◌∙◌, if◌then◌else◌}
use Rattle.bool_expr.specs.Expression.{Expression, constant, variable, inverse, pair, choice, val}
use Rattle.machine_free.specs.Free.{AreFreed}
use Rattle.machine_free.specs.Cycles.{FreeIsGreater}

same_value : (e f : Expression) (w : List Bool) → f ≡ e → val e w ≡ true → val f w ≡ true
same_value e f w is h = ap (λ (x : Expression). val x w) is ∙ h

of_choice : (c a b x y : Bool) → (a ≡ true → x ≡ true) → (b ≡ true → y ≡ true) → (if c then a else b) ≡ true → (if c then x else y) ≡ true
of_choice true a b x y f g h = f h
of_choice false a b x y f g h = g h

pub greater : FreeIsGreater
greater (constant b) f w (inl is) h = same_value (constant b) f w is h
greater (constant b) f w (inr is) h = ap (λ (x : Expression). val x w) is.1
greater (variable k) f w is h = same_value (variable k) f w is h
greater (inverse e) f w is h = same_value (inverse e) f w is h
greater (pair g a b) f w is h = same_value (pair g a b) f w is h
greater (choice c a b) f w is h =
    ap (λ (x : Expression). val x w) is.2
    ∙ of_choice (val c w) (val a w) (val b w) (val is.0 w) (val is.1 w) (greater a is.0 w is.3.0) (greater b is.1 w is.3.1) h
