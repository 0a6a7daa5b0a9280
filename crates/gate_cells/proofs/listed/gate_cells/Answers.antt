use Rattle.std.proofs.Common.{◌∙◌, List, map, ap}
use Rattle.gate_cells.specs.declared.entry.Entry.{Entry}
use Rattle.gate_cells.proofs.Listing.{gates_listed}
use Rattle.gate_cells.proofs.listed.gate_cells.Goals as goal

pub returns : goal.returns
returns c =
    gates_listed c.cells.result.now c.args.library.now c.cells.ensures.value c.in_ok-entries.entries.items c.in_ok-entries.ensures.all c.in_ok-entries.ensures.rising
    (record { words = c.in_ok-words_of.field-0; areas = c.in_ok-areas_of.field-0; places = c.in_ok-places_of.field-0 })
    (c.in_ok-words_of.ensures ∙ ap (λ (es : List Entry). map (λ x. x.word) es) c.deref.ensures.value)
    (c.in_ok-areas_of.ensures ∙ ap (λ (es : List Entry). map (λ x. x.area) es) c.deref-2.ensures.value)
    (c.in_ok-places_of.ensures ∙ ap (λ (es : List Entry). map (λ x. x.place) es) c.deref-3.ensures.value)
