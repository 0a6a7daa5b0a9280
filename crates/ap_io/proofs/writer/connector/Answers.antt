use Rattle.std.proofs.Common.{[], ◌∷◌, codes}
use Rattle.ap_io.specs.Spelling.{field, name_text, side_text, layer_text}
use Rattle.ap_io.proofs.Pieces.{put_all_is}
use Rattle.ap_io.proofs.writer.connector.Goals as goal

pub returns : goal.returns
returns c = let x = c.args.c.now in rw (c.in_ok-append-4.ensures.ok, c.in_ok-layer.ensures, c.in_ok-append-3.ensures.ok, c.in_ok-side.ensures, c.in_ok-field-4.ensures, c.in_ok-append-2.ensures.ok, c.in_ok-name.ensures, c.in_ok-field-3.ensures, c.in_ok-field-2.ensures, c.in_ok-field.ensures, c.in_ok-append.ensures.ok) (put_all_is c.args.out.now (codes "C " ∷ field x.x ∷ field x.y ∷ field x.width ∷ name_text x.name ∷ codes "," ∷ field x.index ∷ side_text x.side ∷ codes "," ∷ layer_text x.layer ∷ (10 ∷ []) ∷ []))
