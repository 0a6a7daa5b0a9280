use Rattle.loon_run.proofs.Writing.{netlist_is_drivable, netlist_has_room, driven_is_writable}
use Rattle.loon_run.proofs.laws.loon_law.Goals as goal

pub returns-clause-drivable : goal.returns-clause-drivable
returns-clause-drivable c = netlist_is_drivable c.library_law.ensures.passes

pub returns-clause-room : goal.returns-clause-room
returns-clause-room c = netlist_has_room c.library_law.ensures.passes c.texts_have_room.ensures.pins

pub returns-clause-writable : goal.returns-clause-writable
returns-clause-writable c = driven_is_writable (record {
  passes = c.library_law.ensures.passes;
  beside = c.limited_law.ensures;
  lists = c.catal_is_named.ensures;
  names = c.netlist_words_law.ensures.names;
  named = c.netlist_words_law.ensures.named;
  written = c.netlist_words_law.ensures.table;
})
