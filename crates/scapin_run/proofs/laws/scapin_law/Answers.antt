use Rattle.scapin_run.proofs.Naming.{scanned_is_writable}
use Rattle.scapin_run.proofs.Rooms.{netlist_has_room}
use Rattle.scapin_run.proofs.laws.scapin_law.Goals as goal

pub returns-clause-room : goal.returns-clause-room
returns-clause-room c = netlist_has_room c.library_law.ensures.passes c.texts_have_room.ensures.instances c.texts_have_room.ensures.pins

pub returns-clause-writable : goal.returns-clause-writable
returns-clause-writable c = scanned_is_writable (record {
  passes = c.library_law.ensures.passes;
  lists = c.catal_is_named.ensures;
  names = c.netlist_words_law.ensures.names;
  pins = c.pins_are_named.ensures;
  order = c.in_order_can_be_written.ensures;
  written = c.netlist_words_law.ensures.table;
})
