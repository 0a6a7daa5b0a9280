-- Rectangles that meet, or are apart.
use Rattle.std.proofs.Common.{arith}
use Rattle.std.proofs.lemmas.Int.{ints}
use Rattle.block_geom.specs.Rect.{Rect, Meet, Within, Apart}

pub Meet_sym : (a b : Rect) → Meet a b → Meet b a
Meet_sym a b h = record { left = h.right; right = h.left; low = h.high; high = h.low }

pub within_meets : (a b c : Rect) → Within a b → Meet a c → Meet b c
within_meets a b c w h = omega (arith, ints)

pub apart_not : (a b : Rect) → Apart 200 a b → Meet a b → ⊥
apart_not a b f h = omega (arith, ints)
