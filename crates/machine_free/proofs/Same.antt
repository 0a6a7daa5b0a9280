-- Where nothing is left free, a machine may do what it does.
use Rattle.std.proofs.Common.{◌≡◌, ◌⊎◌, inl, inr, Bool, List, [], ◌∷◌}
use Rattle.std.specs.List.{All, AllZip}
use Rattle.std.proofs.lemmas.List.Elements.{All-nil, All-cons, All-head, All-tail}
use Rattle.bool_expr.specs.Expression.{val}
use Rattle.machine_core.specs.Named.{value_at}
use Rattle.machine_core.specs.Machine.{Machine, Equation}
use Rattle.machine_core.specs.Runs.{Trace}
use Rattle.machine_core.specs.Cycles.{Settles, next}
use Rattle.machine_free.specs.Cycles.{May, FreeSettles, NothingFree}

-- of one expression there is one bit
one_bit : {b c : Bool} → (b ≡ c) ⊎ (b ≡ c) → b ≡ c
one_bit (inl h) = h
one_bit (inr h) = h

module _ (m : Machine) (w : List Bool) where
  fixed : (es : List Equation) → AllZip (λ e f. May e.expr f.expr w (value_at m.vars w e.name)) es es → All (λ e. value_at m.vars w e.name ≡ val e.expr w) es
  fixed [] h = All-nil (λ e. value_at m.vars w e.name ≡ val e.expr w)
  fixed (e ∷ es) h = All-cons (λ x. value_at m.vars w x.name ≡ val x.expr w) e es (one_bit h.0) (fixed es h.1)

  free : (es : List Equation) → All (λ e. value_at m.vars w e.name ≡ val e.expr w) es → AllZip (λ e f. May e.expr f.expr w (value_at m.vars w e.name)) es es
  free [] h = tt
  free (e ∷ es) h = (
    inl (All-head (λ x. value_at m.vars w x.name ≡ val x.expr w) e es h),
    free es (All-tail (λ x. value_at m.vars w x.name ≡ val x.expr w) e es h),
  )

settles : (m : Machine) (s i w : List Bool) → FreeSettles m m s i w → Settles m s i w
settles m s i w h = record { each = h.each; inputs = h.inputs; registers = h.registers; equations = fixed m w m.equations h.equations }

may_settle : (m : Machine) (s i w : List Bool) → Settles m s i w → FreeSettles m m s i w
may_settle m s i w h = record { each = h.each; inputs = h.inputs; registers = h.registers; equations = free m w m.equations h.equations }

-- what settles in one way settles in another one: so goes each trace
pub each_trace : {S I W : Type 0} (one other : S → I → W → Type 0) (next : W → S) → ((s : S) (i : I) (w : W) → one s i w → other s i w)
    → (v : List I) (s : S) (ws : List W) → Trace one next s v ws → Trace other next s v ws
each_trace one other next goes [] s ws t = t
each_trace one other next goes (i ∷ v) s ws t = (t.0, goes s i t.0 t.1, (t.2.0, t.2.1, each_trace one other next goes v (next t.0) t.2.0 t.2.2))

pub nothing_free : NothingFree
nothing_free m s v y = (
  λ r. (r.0, each_trace (FreeSettles m m) (Settles m) (next m) (settles m) v s r.0 r.1, r.2),
  λ r. (r.0, each_trace (Settles m) (FreeSettles m m) (next m) (may_settle m) v s r.0 r.1, r.2),
)
