use Rattle.std.proofs.Common.{[], ◌∷◌, codes}
use Rattle.ap_io.specs.Spelling.{field}
use Rattle.ap_io.proofs.Pieces.{put_all_is}
use Rattle.ap_io.proofs.writer.reference.Goals as goal

pub returns : goal.returns
returns c = let x = c.args.r.now in rw (c.in_ok-append-5.ensures.ok, c.in_ok-append-4.ensures.ok, c.in_ok-append-3.ensures.ok, c.in_ok-append-2.ensures.ok, c.in_ok-field-2.ensures, c.in_ok-field.ensures, c.in_ok-append.ensures.ok, c.as_bytes.ensures, c.as_bytes-2.ensures) (put_all_is c.args.out.now (codes "R " ∷ field x.x ∷ field x.y ∷ x.word ∷ codes "," ∷ x.name ∷ (10 ∷ []) ∷ []))
