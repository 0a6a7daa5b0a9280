use Rattle.std.proofs.Common.{sym, ap, ◌∙◌}
use Rattle.std.specs.FinMap.{get}
use Rattle.vlsi_base.specs.NamePlaces.{name_of}
use Rattle.vlsi_base.proofs.IndexLemmas.{get-view}
use Rattle.vlsi_base.proofs.name_index.NameIndex.find.Goals as goal

pub returns : goal.returns
returns c =
    c.copied.ensures ∙ c.get.ensures.value
    ∙ sym (get-view c.self.inside.places.entries (c.args.text, c.args.bit))
    ∙ ap (λ m. get m (name_of c.args.text.now c.args.bit)) c.self.view_is
