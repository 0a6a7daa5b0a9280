use Rattle.scapin.proofs.Whole.{registers_few, places_all, sketch_by, scanned_by, still_meets, is_scan_path}
use Rattle.scapin.proofs.insert.insert_scan.Goals as goal

pub sketch-requires-clause-few : goal.sketch-requires-clause-few
sketch-requires-clause-few c = registers_few c.args.library.now c.args.netlist.now c.args.path.now c.in-Ok.plan (record {
  passed = c.in-Ok.ensures.checked;
  sound = c.in-Ok.ensures.sound;
  plan = c.in-Ok.ensures.plan;
  room = c.requires.room;
  few = c.in-Ok.ensures.few;
  registers = c.in-Ok.ensures.registers;
  many = c.in-Ok.ensures.many;
  free = c.in-Ok.ensures.free;
  through = c.in-Ok.ensures.through;
})

pub sketch-requires-clause-places : goal.sketch-requires-clause-places
sketch-requires-clause-places c = places_all c.args.library.now c.args.netlist.now c.args.path.now c.in-Ok.plan (record {
  passed = c.in-Ok.ensures.checked;
  sound = c.in-Ok.ensures.sound;
  plan = c.in-Ok.ensures.plan;
  room = c.requires.room;
  few = c.in-Ok.ensures.few;
  registers = c.in-Ok.ensures.registers;
  many = c.in-Ok.ensures.many;
  free = c.in-Ok.ensures.free;
  through = c.in-Ok.ensures.through;
})

pub build-requires : goal.build-requires
build-requires c = sketch_by c.args.library.now c.args.netlist.now c.args.path.now c.in-Ok.plan (record {
  passed = c.in-Ok.ensures.checked;
  sound = c.in-Ok.ensures.sound;
  plan = c.in-Ok.ensures.plan;
  room = c.requires.room;
  few = c.in-Ok.ensures.few;
  registers = c.in-Ok.ensures.registers;
  many = c.in-Ok.ensures.many;
  free = c.in-Ok.ensures.free;
  through = c.in-Ok.ensures.through;
}) c.in_ok-sketch.sketch c.in_ok-sketch.ensures

pub returns-clause-scanned : goal.returns-clause-scanned
returns-clause-scanned c = scanned_by c.args.library.now c.args.netlist.now c.args.path.now c.in-Ok.plan (record {
  passed = c.in-Ok.ensures.checked;
  sound = c.in-Ok.ensures.sound;
  plan = c.in-Ok.ensures.plan;
  room = c.requires.room;
  few = c.in-Ok.ensures.few;
  registers = c.in-Ok.ensures.registers;
  many = c.in-Ok.ensures.many;
  free = c.in-Ok.ensures.free;
  through = c.in-Ok.ensures.through;
}) c.in_ok-sketch.sketch c.in_ok-sketch.ensures c.in_ok-build.field-0 c.in_ok-build.ensures.built

pub returns-clause-meets : goal.returns-clause-meets
returns-clause-meets c =
    still_meets c.scanned_meets.ensures c.args.library.now c.args.netlist.now c.args.path.now c.in_ok-build.field-0 c.in-Ok.ensures.checked c.in-Ok.ensures.sound c.in-Ok.ensures.free
    c.in-Ok.ensures.through (returns-clause-scanned c) c.in_ok-build.ensures.sound

pub returns-clause-scans : goal.returns-clause-scans
returns-clause-scans c =
    is_scan_path c.scanned_scans.ensures c.args.library.now c.args.netlist.now c.args.path.now c.in_ok-build.field-0 c.in-Ok.ensures.checked c.in-Ok.ensures.sound c.in-Ok.ensures.free
    c.in-Ok.ensures.through (returns-clause-scanned c) c.in_ok-build.ensures.sound c.requires.scannable
