-- What registers hold after the clock's rise, beside what they held.
use Rattle.std.specs.Prelude.{ℕ, Bool, List, [], ◌∷◌, if◌then◌else◌}
use Rattle.bool_expr.specs.Expression.{val, IsOver}
use Rattle.bool_expr.specs.View.{view}
use Rattle.machine_core.specs.Machine.{Register}
use Rattle.machine_core.specs.declared.equation.Register.{Register as Parts}

-- the next bit where the enable is 1, and the one that was held elsewhere
abbrev pub loaded_bit : List Bool → Register → Bool → Bool
loaded_bit w r held = if val r.enable w then val r.next w else held

-- each register in turn
abbrev pub loaded : List Bool → List Register → List Bool → List Bool
loaded w [] held = []
loaded w (r ∷ rest) [] = []
loaded w (r ∷ rest) (b ∷ held) = loaded_bit w r b ∷ loaded w rest held

-- what the register loads reads the first n names alone
abbrev pub LoadsOver : ℕ → Parts → Type 0
LoadsOver n r = IsOver (view r.next) n × IsOver (view r.enable) n
