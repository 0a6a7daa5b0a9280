-- Runs of anything that settles in cycles: the inputs settle, the outputs are observed, the clock rises.
use Rattle.std.specs.Prelude.{◌≡◌, Bool, List, [], ◌∷◌, map}

-- The valuations of the cycles, one after another. `settles s i w`: from the contents s of the registers, w is a
-- valuation under the input vector i; `next w` are the contents after the clock's rise.
abbrev pub Trace : {S I W : Type 0} → (S → I → W → Type 0) → (W → S) → S → List I → List W → Type 0
Trace {S} {I} {W} settles next s [] ws = ws ≡ []
Trace {S} {I} {W} settles next s (i ∷ v) ws =
    (w : W) × settles s i w × ((rest : List W) × (ws ≡ w ∷ rest) × Trace settles next (next w) v rest)

-- the outputs of the cycles
abbrev pub Run : {S I W : Type 0} → (S → I → W → Type 0) → (W → List Bool) → (W → S) → S → List I → List (List Bool) → Type 0
Run {S} {I} {W} settles outs next s v y = (ws : List W) × Trace settles next s v ws × (y ≡ map outs ws)
