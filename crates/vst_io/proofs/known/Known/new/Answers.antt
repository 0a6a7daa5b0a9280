use Rattle.std.proofs.Common.{◌∙◌, List, ap}
use Rattle.std.specs.FinMap.{get}
use Rattle.vlsi_base.specs.declared.name.Name.{Name}
use Rattle.vlsi_base.specs.NamePlaces.{NamePlaces, last_place}
use Rattle.vst_io.proofs.Indexed.{places_are}
use Rattle.vst_io.proofs.known.Known.new.Goals as goal

pub invariant_of-result : goal.invariant_of-result
invariant_of-result c = record {
  nets_are = c.in_ok-nets.ensures;
  places = λ n.
      ap (λ (m : NamePlaces). get m n) c.places.view_is ∙ places_are c.deref.result.now c.new-places.result c.insert_all.new.self c.new-places.ensures c.in_ok-insert_all.ensures n
      ∙ ap (λ (ns : List Name). last_place ns n) (c.deref.ensures.value ∙ c.requires.names);
  pins_are = c.deref-2.ensures.value ∙ c.requires.pins;
  models = c.in_ok-model_names.ensures;
}
