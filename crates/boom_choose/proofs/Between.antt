-- What is chosen stands among what is left free.
use Rattle.std.proofs.Common.{inl, inr, true, false, List, [], ◌∷◌}
use Rattle.std.specs.List.{AllZip}
use Rattle.machine_core.specs.Machine.{Machine, Equation}
use Rattle.machine_free.specs.Free.{MayDiffer}
use Rattle.machine_free.specs.Between.{IsAmong, AreAmong}
use Rattle.boom_choose.specs.Choice.{IsChoice, kept, zero, one, first, second, AreChosen, ChosenStandsBetween}
use Rattle.bool_expr.specs.Expression.{Expression}

-- a free bit is one of an output that is left free
module _ (m : Machine) (e f : Equation) (differ : MayDiffer m e f) where
  among : (x : Expression) → IsChoice m e.expr f.expr x → IsAmong m e f x
  among x (kept same is) = inl is
  among x (zero apart never is) = elim differ.1 [ inl same ↦ absurd (apart same) | inr out ↦ inr (inr (out, (false, is, never))) ]
  among x (one apart fixed never is) = elim differ.1 [ inl same ↦ absurd (apart same) | inr out ↦ inr (inr (out, (true, is, never))) ]
  among x (first apart p q j k a b less is) = inl is
  among x (second apart p q j k a b less is) = inr (inl is)

all_among : (m : Machine) (es fs gs : List Equation) → AllZip (MayDiffer m) es fs → AreChosen m es fs gs → AreAmong m es fs gs
all_among m [] [] [] differ chosen = tt
all_among m [] [] (g ∷ gs) differ chosen = absurd chosen
all_among m [] (f ∷ fs) gs differ chosen = absurd differ
all_among m (e ∷ es) [] gs differ chosen = absurd differ
all_among m (e ∷ es) (f ∷ fs) [] differ chosen = absurd chosen
all_among m (e ∷ es) (f ∷ fs) (g ∷ gs) differ chosen = (chosen.0, (among m e f differ.0 g.expr chosen.1.0, all_among m es fs gs differ.1 chosen.1.1))

pub stands_between : ChosenStandsBetween
stands_between low high m checked free chosen = record {
  name = chosen.name;
  ports = chosen.ports;
  clock = chosen.clock;
  vars = chosen.vars;
  registers = chosen.registers;
  equations = all_among low low.equations high.equations m.equations free.equations chosen.equations;
}
