use Rattle.std.proofs.Common.{◌∙◌, List, ℕ, None, ap}
use Rattle.std.specs.FinMap.{get}
use Rattle.vlsi_base.specs.NamePlaces.{name_of}
use Rattle.vst_io.specs.Known.{Source}
use Rattle.vst_io.specs.Nets.{pins_of}
use Rattle.vst_io.proofs.Indexed.{pins_found}
use Rattle.vst_io.proofs.known.Known.component.Goals as goal

pub returns-in-Some : goal.returns-in-Some
returns-in-Some c =
    let k = c.self.inside in
    pins_found k.table.now k.file.now k.nets k.places k.pins.now k.models c.args.name.now c.in-Some.place c.get.result c.self.invariant
    (c.in-Some.ensures ∙ ap (λ (t : List ℕ). get k.places (name_of t None)) c.as_bytes.ensures) c.get.ensures.lookup.0 c.get.ensures.lookup.1
    ∙ ap (λ (s : Source). pins_of s.file.declarations c.args.name.now) c.self.view_is
