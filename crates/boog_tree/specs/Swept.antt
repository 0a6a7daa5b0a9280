-- What a number adds to those before it.
use Rattle.std.specs.Prelude.{◌≡◌, ℕ, Bool, List, [], ◌∷◌, ◌++◌, length, Option, None, Some, if◌then◌else◌}
use Rattle.std.specs.Global.{Vec}
use Rattle.cell_match.specs.declared.cut.Cut.{Cut}
use Rattle.cell_match.specs.declared.gate.Gate.{Gate}
use Rattle.boog_tree.specs.declared.pick.Pick.{Pick}
use Rattle.boog_tree.specs.Joined.{HasItself}

-- behind the lists before one more: the number itself and, if the gate belongs to its user's tree, its cuts
pub record AddsParts (old : List (Vec (Cut 6))) (inner : Bool) (cuts : List (Cut 6)) (new : List (Vec (Cut 6))) : Type 0 where
  pub parts : Vec (Cut 6)
  pub is : new ≡ old ++ parts ∷ []
  pub has : HasItself (length old) (if inner then cuts else []) parts.items

-- the gate and the bound of a pick
abbrev pub gate_of : Option Pick → Option Gate
gate_of None = None
gate_of (Some p) = Some p.gate

abbrev pub cost_of : Option Pick → ℕ
cost_of None = 0
cost_of (Some p) = p.cost
