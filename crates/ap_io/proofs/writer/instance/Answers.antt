use Rattle.std.proofs.Common.{[], ◌∷◌, codes}
use Rattle.ap_io.specs.Spelling.{field, transform_text}
use Rattle.ap_io.proofs.Pieces.{put_all_is}
use Rattle.ap_io.proofs.writer.instance.Goals as goal

pub returns : goal.returns
returns c = let x = c.args.i.now in rw (c.in_ok-append-6.ensures.ok, c.in_ok-transform.ensures, c.in_ok-append-5.ensures.ok, c.in_ok-append-4.ensures.ok, c.in_ok-append-3.ensures.ok, c.in_ok-append-2.ensures.ok, c.in_ok-field-2.ensures, c.in_ok-field.ensures, c.in_ok-append.ensures.ok, c.as_bytes.ensures, c.as_bytes-2.ensures) (put_all_is c.args.out.now (codes "I " ∷ field x.x ∷ field x.y ∷ x.model ∷ codes "," ∷ x.name ∷ codes "," ∷ transform_text x.transform ∷ (10 ∷ []) ∷ []))
