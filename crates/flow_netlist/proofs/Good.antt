-- What the stages behind ask of a mapped netlist with buffers and drives.
use Rattle.std.proofs.Common.{ℕ, false, sym, ◌∙◌, ap}
use Rattle.std.proofs.lemmas.Option.{same_Some}
use Rattle.machine_core.specs.Machine.{Machine, names_of}
use Rattle.cell_model.specs.Cell.{Cell}
use Rattle.cell_model.specs.Library.{Library}
use Rattle.cell_lib.specs.Laws.{LibraryPasses}
use Rattle.cell_pins.specs.Pins.{all_ports}
use Rattle.net_core.specs.Netlist.{Netlist}
use Rattle.net_meaning.specs.Netlist.{AbstractNetlist as Seen}
use Rattle.net_right.specs.View.{IsSeenAs}
use Rattle.net_right.specs.Right.{HasPinsOfCells}
use Rattle.vbe_writable.specs.Laws.{CatalIsNamed, CatalIsShort}
use Rattle.loon_fanout.specs.Limited.{IsOfCells}
use Rattle.net_tight.specs.Alike.{TightnessIsKept}
use Rattle.loon_fanout.specs.Laws.{LimitedStaysBeside}
use Rattle.loon_drive.specs.Laws.{DrivenIsGrown, DrivenIsChosen, BuffersHaveFewPins, DrivenJoinsNothing, DrivenHasFewInputs, DrivenNeedsItsBuffers}
use Rattle.boog_run.specs.Laws.{NetlistIsWritable, NetlistIsShort}
use Rattle.flow_netlist.specs.Netlist.{IsDrivenNetlist, IsDrivenAs}
use Rattle.flow_netlist.specs.Laws.{DrivenIsGood, DrivenIsDrawable}
use Rattle.flow_netlist.proofs.Mapped.{of_cells, no_buffer_names}
use Rattle.flow_netlist.proofs.Order.{is_lean, stands_in_order}
use Rattle.flow_netlist.proofs.Tight.{is_tight}
use Rattle.flow_netlist.proofs.Bounds.{has_few_pins, has_few_ports}
use Rattle.flow_netlist.proofs.Named.{can_be_named, has_short_names}

pins_of_cells : (k : Netlist) (l : Library) → IsOfCells k l → HasPinsOfCells k l
pins_of_cells k l cells i c at found =
    let d = cells.found i at in
    d.3 ∙ ap (λ (x : Cell). names_of (all_ports x)) (same_Some d.0 c (sym d.1 ∙ found))

driven_as : (l : Library) (m : Machine) (fanout : ℕ) (k : Netlist) (delay : ℕ) (y : Seen) → DrivenIsGrown → IsDrivenNetlist l m fanout k delay → IsSeenAs k y → IsDrivenAs y l m delay
driven_as l m fanout k delay y grown d seen = record {
  held = k;
  sound = d.sound;
  ports = (grown d.n l fanout k delay d.made).ports ∙ d.mapped.right.ports;
  seen = seen;
  pins = pins_of_cells k l d.cells;
  worst = d.made.worst;
  driven = d.made.driven;
}

pub is_good : DrivenIsGrown → DrivenIsChosen → DrivenJoinsNothing → DrivenHasFewInputs → DrivenNeedsItsBuffers → LimitedStaysBeside → TightnessIsKept → DrivenIsGood
is_good grown chosen joins inputs needs beside kept l m fanout k delay y passed checked d seen = record {
  order = stands_in_order l m d.n k fanout delay d.mapped d.made grown y seen passed checked d.sound chosen joins;
  lean = is_lean l m d.n k fanout delay d.mapped d.made grown y seen;
  inputs = inputs d.n l m fanout k delay y passed d.mapped.sound d.sound checked (of_cells l m d.n d.mapped checked) d.mapped.right d.made seen;
  buffers = needs d.n l fanout k delay y passed d.mapped.sound d.sound (of_cells l m d.n d.mapped checked) (no_buffer_names l m d.n d.mapped) d.made seen;
  tight = λ none. is_tight l m d.n k fanout delay d.mapped d.made d.sound beside grown chosen y seen none kept;
  driven = driven_as l m fanout k delay y grown d seen;
}

pub is_drawable : DrivenIsGrown → DrivenIsChosen → BuffersHaveFewPins → LibraryPasses → CatalIsNamed → CatalIsShort → NetlistIsWritable → NetlistIsShort → DrivenIsDrawable
is_drawable grown chosen four passes named short writable names list files l m fanout k delay library checked declared small d =
    let passed = passes false list files l library in
    let few = has_few_pins l m d.n k fanout delay passed checked d.mapped d.made small grown chosen four d.cells d.few in
    let can = (writable list files l m d.n library declared small d.mapped).named in
    let old = names list files l m d.n library declared small d.mapped in
    record {
      pins = pins_of_cells k l d.cells;
      named = can_be_named list files l library m d.n k fanout delay d.mapped d.made grown d.cells few.instances named can;
      short = has_short_names list files l library m d.n k fanout delay d.mapped d.made grown d.cells few.instances short old;
      few = few;
      ports = has_few_ports l m d.n k fanout delay passed checked d.mapped d.made small grown declared.few_ports;
    }
