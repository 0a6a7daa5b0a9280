use Rattle.std.proofs.Common.{[], ◌∷◌, codes}
use Rattle.ap_io.specs.Spelling.{field, name_text, direction_text, layer_text}
use Rattle.ap_io.proofs.Pieces.{put_all_is}
use Rattle.ap_io.proofs.writer.segment.Goals as goal

pub returns : goal.returns
returns c = let x = c.args.s.now in rw (c.in_ok-append-4.ensures.ok, c.in_ok-layer.ensures, c.in_ok-append-3.ensures.ok, c.in_ok-direction.ensures, c.in_ok-append-2.ensures.ok, c.in_ok-name.ensures, c.in_ok-field-5.ensures, c.in_ok-field-4.ensures, c.in_ok-field-3.ensures, c.in_ok-field-2.ensures, c.in_ok-field.ensures, c.in_ok-append.ensures.ok) (put_all_is c.args.out.now (codes "S " ∷ field x.x1 ∷ field x.y1 ∷ field x.x2 ∷ field x.y2 ∷ field x.width ∷ name_text x.name ∷ codes "," ∷ direction_text x.direction ∷ codes "," ∷ layer_text x.layer ∷ (10 ∷ []) ∷ []))
