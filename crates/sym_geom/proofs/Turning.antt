-- A rectangle turned axis by axis.
use Rattle.std.proofs.Common.{◌≡◌, Bool, if◌then◌else◌}
use Rattle.std.specs.Prelude.{ℤ, ◌+ℤ◌, ◌-ℤ◌}
use Rattle.sym_geom.specs.Rect.{turns_x, turns_y, transformed}
use Rattle.sym_geom.specs.declared.rect.Rect.{Rect}
use Rattle.sym_geom.specs.declared.rect.Transform.{Transform}
use Rattle.sym_geom.specs.declared.rect.Transform.TheVariants.{NoSym, SymX, SymY, SymXY}

pub by_axis : (t : Transform) (r : Rect) (w h x y a0 a1 b0 b1 : ℤ)
    → a0 ≡ (if turns_x t then w -ℤ r.x2 else r.x1) +ℤ x → a1 ≡ (if turns_x t then w -ℤ r.x1 else r.x2) +ℤ x
    → b0 ≡ (if turns_y t then h -ℤ r.y2 else r.y1) +ℤ y → b1 ≡ (if turns_y t then h -ℤ r.y1 else r.y2) +ℤ y
    → ◌≡◌ {A = Rect} (record { x1 = a0; y1 = b0; x2 = a1; y2 = b1 }) (transformed t r w h x y)
by_axis NoSym r w h x y a0 a1 b0 b1 p q u v = λ i. record { x1 = p i; y1 = u i; x2 = q i; y2 = v i }
by_axis SymX r w h x y a0 a1 b0 b1 p q u v = λ i. record { x1 = p i; y1 = u i; x2 = q i; y2 = v i }
by_axis SymY r w h x y a0 a1 b0 b1 p q u v = λ i. record { x1 = p i; y1 = u i; x2 = q i; y2 = v i }
by_axis SymXY r w h x y a0 a1 b0 b1 p q u v = λ i. record { x1 = p i; y1 = u i; x2 = q i; y2 = v i }

-- the same choice of the same numbers
pub picked : (f g : Bool) (result size high low at size' high' low' at' : ℤ) → f ≡ g → size' ≡ size → high' ≡ high → low' ≡ low → at' ≡ at
    → result ≡ (if f then size' -ℤ high' else low') +ℤ at' → result ≡ (if g then size -ℤ high else low) +ℤ at
picked f g result size high low at size' high' low' at' p q u v w h = cc
