use Rattle.std.proofs.Common.{sym}
use Rattle.source_checks.specs.Lookup.{place_at}
use Rattle.source_checks.proofs.Knowing.{kept_place, new_place}
use Rattle.source_checks.proofs.places.learn_place.Goals as goal

pub returns-in-Some : goal.returns-in-Some
returns-in-Some c =
    kept_place (place_at c.args.places.now) c.args.text.now c.args.place c.in-Some.field-0 (sym c.in-Some.ensures)

pub returns-in_ok-put_place-in-None : goal.returns-in_ok-put_place-in-None
returns-in_ok-put_place-in-None c =
    new_place (place_at c.args.places.now) (place_at c.put_place.new.places) c.args.text.now c.args.place (sym c.in-None.ensures) c.in_ok-put_place-in-None.ensures
