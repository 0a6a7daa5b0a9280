-- One alternative more.
use Rattle.std.proofs.Common.{◌≡◌, List, [], ◌∷◌, ◌++◌, refl, ap}
use Rattle.vlsi_base.specs.Tree.{Tree}
use Rattle.vbe_text.specs.Source.{GuardedTree, FurtherTree}
use Rattle.vbe_text.specs.Vbe.{alternatives_from, last_value}

pub alternatives_push : (v : Tree) (fs : List FurtherTree) (f : FurtherTree)
    → alternatives_from v (fs ++ f ∷ []) ≡ alternatives_from v fs ++ record { value = last_value v fs; condition = f.condition; line = f.line } ∷ []
alternatives_push v [] f = refl
alternatives_push v (g ∷ fs) f = ap (λ (gs : List GuardedTree). record { value = v; condition = g.condition; line = g.line } ∷ gs) (alternatives_push g.value fs f)

pub last_push : (v : Tree) (fs : List FurtherTree) (f : FurtherTree) → last_value v (fs ++ f ∷ []) ≡ f.value
last_push v [] f = refl
last_push v (g ∷ fs) f = last_push g.value fs f
