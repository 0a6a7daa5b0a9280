use Rattle.cell_checks.specs.Checked.{library_of}
use Rattle.cougar_extract.specs.Refused.{pin_count}
use Rattle.cougar_extract.proofs.BuildWhole.{begin_few, room_begun, ends_there, built_of}
use Rattle.cougar_extract.proofs.build.netlist_of.Goals as goal

pub begin-requires-clause-few : goal.begin-requires-clause-few
begin-requires-clause-few c =
    begin_few c.args.names.now c.args.links.now c.in_ok-ports.ports.items c.new.result (pin_count c.args.figure.now.items (library_of c.args.cells.now)) c.new.ensures
    c.in_ok-ports.ensures c.requires.room

pub add_instances-requires-clause-room : goal.add_instances-requires-clause-room
add_instances-requires-clause-room c =
    room_begun c.args.figure.now (library_of c.args.cells.now) c.args.links.now c.as_slice.result.now c.args.names.now c.in_ok-name.name c.in_ok-ports.ports.items c.new.result
    c.in_ok-builder.builder c.as_slice.ensures c.new.ensures c.in_ok-ports.ensures c.in_ok-builder.ensures c.requires.room

pub join_links-requires-clause-there : goal.join_links-requires-clause-there
join_links-requires-clause-there c =
    ends_there c.args.figure.now (library_of c.args.cells.now) c.args.links.now c.as_slice.result.now c.args.names.now
    c.in_ok-name.name c.in_ok-ports.ports.items c.new.result c.in_ok-builder.builder c.add_instances.new.builder c.as_slice.ensures
    c.new.ensures c.requires.same c.in_ok-ports.ensures c.in_ok-builder.ensures c.in_ok-add_instances.ensures c.requires.terminals

pub returns : goal.returns
returns c =
    built_of c.args.figure.now (library_of c.args.cells.now) c.args.links.now c.as_slice.result.now c.args.names.now
    c.in_ok-places.places.items c.deref.result.now c.in_ok-name.name c.in_ok-ports.ports.items c.new.result c.in_ok-builder.builder c.add_instances.new.builder
    c.join_links.new.builder c.in_ok-netlist.netlist c.as_slice.ensures c.deref.ensures.value c.in_ok-name.ensures c.new.ensures
    c.requires.same c.in_ok-ports.ensures c.in_ok-places.ensures.led c.in_ok-builder.ensures c.in_ok-add_instances.ensures c.in_ok-join_links.ensures
    c.in_ok-netlist.ensures.finished c.in_ok-netlist.ensures.sound
