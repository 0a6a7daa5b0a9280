-- Closed rectangles over the integers.
pub use Rattle.sym_geom.specs.declared.rect.Rect.{Rect}
pub use Rattle.sym_geom.specs.Rect.{IsRect, Meet, Within, Apart, moved}
