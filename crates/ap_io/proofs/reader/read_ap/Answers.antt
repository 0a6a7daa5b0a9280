use Rattle.ap_io.proofs.Whole.{room_after, refused_after}
use Rattle.ap_io.proofs.reader.read_ap.Goals as goal

pub figure-requires : goal.figure-requires
figure-requires c = room_after c.args.bytes.now c.new-lines.result c.version.new.lines c.new-lines.ensures c.if-bytes-gt-MOST_NETLIST_BYTES.false c.in_ok-version.ensures.read

pub returns-clause-refused : goal.returns-clause-refused
returns-clause-refused c =
    refused_after c.args.bytes.now c.new-lines.result c.version.new.lines c.figure.result c.new-lines.ensures c.if-bytes-gt-MOST_NETLIST_BYTES.false c.in_ok-version.ensures.read c.figure.ensures.refused
