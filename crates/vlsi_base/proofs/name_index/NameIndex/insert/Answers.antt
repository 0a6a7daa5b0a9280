use Rattle.std.proofs.Common.{ap, ◌∙◌}
use Rattle.std.specs.FinMap.{insert}
use Rattle.vlsi_base.specs.NamePlaces.{name_of}
use Rattle.vlsi_base.proofs.IndexLemmas.{insert-view}
use Rattle.vlsi_base.proofs.name_index.NameIndex.insert.Goals as goal

pub returns-clause-ok : goal.returns-clause-ok
returns-clause-ok c =
    insert-view c.self.inside.places c.insert.new.self (c.args.text, c.args.bit) c.args.place c.in_ok-insert.ensures.updates
    ∙ ap (λ m. insert m (name_of c.args.text.now c.args.bit) c.args.place) c.self.view_is
