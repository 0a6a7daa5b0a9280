use Rattle.std.proofs.Common.{◌≡◌, ◌&&◌, ℕ, Option, drop}
use Rattle.std.specs.Prelude.{is_some, is_none}
use Rattle.std.specs.List.{list_all}
use Rattle.std.specs.FinMap.{get}
use Rattle.vlsi_base.specs.NamePlaces.{name_of}
use Rattle.vst_io.proofs.maps.are_free.Given as goal

abbrev pub invariant-loop-bit : goal.invariant-loop-bit
invariant-loop-bit l =
    list_all (λ (b : Option ℕ). is_some (get l.pins (name_of l.text b)) && is_none (get l.mapped (name_of l.text b))) (drop l.bit-index l.bits)
    ≡ list_all (λ (b : Option ℕ). is_some (get l.pins (name_of l.text b)) && is_none (get l.mapped (name_of l.text b))) l.bits
