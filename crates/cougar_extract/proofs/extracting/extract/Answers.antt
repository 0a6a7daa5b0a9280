use Rattle.std.proofs.Common.{List, All, sym, subst, arith}
use Rattle.sym_shapes.specs.Shape.{Shape}
use Rattle.sym_shapes.specs.Joined.{AreJoined}
use Rattle.net_core.specs.Netlist.{port}
use Rattle.cell_model.specs.Usable.{IsFormed}
use Rattle.cell_checks.specs.Checked.{library_of}
use Rattle.cougar_extract.specs.declared.links.Link.{Link}
use Rattle.cougar_extract.specs.Stages.{AreTerminals, IsBuilt, IsShortRefusal}
use Rattle.cougar_extract.proofs.Wholes.{of_library}
use Rattle.cougar_extract.proofs.Limits.{numbered}
use Rattle.cougar_extract.proofs.ShortWhole.{marks_many, terminals_are, is_extracted, none_shorted, ports_joined, pair_refused}
use Rattle.cougar_extract.proofs.extracting.extract.Goals as goal

pub draw_layout-requires-clause-formed : goal.draw_layout-requires-clause-formed
draw_layout-requires-clause-formed c = of_library c.cells-cells.result.now c.args.library.now c.cells-cells.ensures.value (All IsFormed) c.cells-cells.ensures.checked.formed

pub connected-requires-clause-gives : goal.connected-requires-clause-gives
connected-requires-clause-gives c =
    marks_many c.args.figure.now c.args.library.now c.as_slice-items.result.now c.cells-cells.result.now c.as_slice-items.ensures c.cells-cells.ensures.value c.in_ok-drawing.drawing.shapes.items c.in_ok-drawing.drawing.gives.items
    c.in_ok-drawing.ensures.shapes c.in_ok-drawing.ensures.gives

pub terminal_count-terminals-requires : goal.terminal_count-terminals-requires
terminal_count-terminals-requires c = of_library c.cells-cells.result.now c.args.library.now c.cells-cells.ensures.value (All IsFormed) c.cells-cells.ensures.checked.formed

pub netlist_of-requires-clause-formed : goal.netlist_of-requires-clause-formed
netlist_of-requires-clause-formed c = of_library c.cells-cells.result.now c.args.library.now c.cells-cells.ensures.value (All IsFormed) c.cells-cells.ensures.checked.formed

pub netlist_of-requires-clause-terminals : goal.netlist_of-requires-clause-terminals
netlist_of-requires-clause-terminals c =
    subst (λ (ls : List Link). AreTerminals c.args.figure.now.items (library_of c.cells-cells.result.now) ls) (sym c.deref-2.ensures.value)
    (terminals_are c.args.figure.now c.args.library.now c.as_slice-items.result.now c.cells-cells.result.now c.as_slice-items.ensures c.cells-cells.ensures.value c.in_ok-drawing.drawing.shapes.items c.in_ok-drawing.drawing.gives.items
    c.in_ok-drawing.ensures.shapes c.in_ok-drawing.ensures.gives c.in_ok-links.links.items c.in_ok-links.ensures c.cells-cells.ensures.checked)

pub returns-in-None-clause-extracted : goal.returns-in-None-clause-extracted
returns-in-None-clause-extracted c =
    let built =
    subst (λ (ls : List Link). IsBuilt c.args.figure.now (library_of c.cells-cells.result.now) ls c.in_ok-netlist.netlist) c.deref-2.ensures.value c.in_ok-netlist.ensures in
    is_extracted c.args.figure.now c.args.library.now c.as_slice-items.result.now c.cells-cells.result.now c.as_slice-items.ensures c.cells-cells.ensures.value c.in_ok-drawing.drawing.shapes.items c.in_ok-drawing.drawing.gives.items
    c.in_ok-drawing.ensures.shapes c.in_ok-drawing.ensures.gives
    c.in_ok-links.links.items c.in_ok-links.ensures c.cells-cells.ensures.checked c.in_ok-netlist.netlist c.requires c.in_ok-drawing.ensures.known built

pub returns-in-None-clause-few : goal.returns-in-None-clause-few
returns-in-None-clause-few c =
    numbered c.args.figure.now c.args.library.now c.as_slice-items.result.now c.cells-cells.result.now c.as_slice-items.ensures c.cells-cells.ensures.value
    c.in_ok-drawing.drawing.shapes.items c.in_ok-drawing.ensures.shapes (omega (arith, c.if-len.false, c.len.ensures)) c.in_ok-names.names.items c.in_ok-names.ensures.different c.in_ok-names.ensures.same
    c.len-2.result c.terminal_count-terminals.result (omega (arith, c.len-2.ensures)) c.terminal_count-terminals.ensures (omega (arith, c.if-terminals-from.false, c.from.ensures))

pub returns-in-None-clause-apart : goal.returns-in-None-clause-apart
returns-in-None-clause-apart c =
    let built =
    subst (λ (ls : List Link). IsBuilt c.args.figure.now (library_of c.cells-cells.result.now) ls c.in_ok-netlist.netlist) c.deref-2.ensures.value c.in_ok-netlist.ensures in
    none_shorted c.args.figure.now c.args.library.now c.as_slice-items.result.now c.cells-cells.result.now c.as_slice-items.ensures c.cells-cells.ensures.value c.in_ok-drawing.drawing.shapes.items c.in_ok-drawing.drawing.gives.items
    c.in_ok-drawing.ensures.shapes c.in_ok-drawing.ensures.gives
    c.in_ok-links.links.items c.in_ok-links.ensures c.cells-cells.ensures.checked c.in_ok-netlist.netlist c.requires c.in_ok-drawing.ensures.known built
    (rw c.in-None.is at c.in_ok-shorted_ports.ensures)

pub shorted-requires-clause-joined : goal.shorted-requires-clause-joined
shorted-requires-clause-joined c =
    let built =
    subst (λ (ls : List Link). IsBuilt c.args.figure.now (library_of c.cells-cells.result.now) ls c.in_ok-netlist.netlist) c.deref-2.ensures.value c.in_ok-netlist.ensures in
    let pair = rw c.in-Some.is at c.in_ok-shorted_ports.ensures in
    subst (λ (ss : List Shape). AreJoined ss (port c.index-ports-a.result.name) (port c.index-ports-b.result.name)) (sym c.deref-in-Some.ensures.value)
    (ports_joined c.args.figure.now c.args.library.now c.as_slice-items.result.now c.cells-cells.result.now c.as_slice-items.ensures c.cells-cells.ensures.value c.in_ok-drawing.drawing.shapes.items c.in_ok-drawing.drawing.gives.items
    c.in_ok-drawing.ensures.shapes c.in_ok-drawing.ensures.gives
    c.in_ok-links.links.items c.in_ok-links.ensures c.cells-cells.ensures.checked c.in_ok-netlist.netlist c.requires c.in_ok-drawing.ensures.known built
    c.in-Some.a c.in-Some.b c.ports-ports.result.now pair c.ports-ports.ensures c.index-ports-a.result c.index-ports-b.result c.index-ports-a.is c.index-ports-b.is)

pub returns-clause-refused : goal.returns-clause-refused
returns-clause-refused c =
    let built =
    subst (λ (ls : List Link). IsBuilt c.args.figure.now (library_of c.cells-cells.result.now) ls c.in_ok-netlist.netlist) c.deref-2.ensures.value c.in_ok-netlist.ensures in
    let pair = rw c.in-Some.is at c.in_ok-shorted_ports.ensures in
    let why =
    subst (λ (ss : List Shape). IsShortRefusal ss c.index-ports-a.result.name c.index-ports-b.result.name c.in_ok-shorted-in-Some.field-0) c.deref-in-Some.ensures.value
    c.in_ok-shorted-in-Some.ensures in
    let few =
    numbered c.args.figure.now c.args.library.now c.as_slice-items.result.now c.cells-cells.result.now c.as_slice-items.ensures c.cells-cells.ensures.value
    c.in_ok-drawing.drawing.shapes.items c.in_ok-drawing.ensures.shapes (omega (arith, c.if-len.false, c.len.ensures)) c.in_ok-names.names.items c.in_ok-names.ensures.different c.in_ok-names.ensures.same
    c.len-2.result c.terminal_count-terminals.result (omega (arith, c.len-2.ensures)) c.terminal_count-terminals.ensures (omega (arith, c.if-terminals-from.false, c.from.ensures)) in
    pair_refused c.args.figure.now c.args.library.now c.as_slice-items.result.now c.cells-cells.result.now c.as_slice-items.ensures c.cells-cells.ensures.value c.in_ok-drawing.drawing.shapes.items c.in_ok-drawing.drawing.gives.items
    c.in_ok-drawing.ensures.shapes c.in_ok-drawing.ensures.gives
    c.in_ok-links.links.items c.in_ok-links.ensures c.cells-cells.ensures.checked c.in_ok-netlist.netlist c.requires c.in_ok-drawing.ensures.known built
    c.in-Some.a c.in-Some.b c.ports-ports.result.now pair c.ports-ports.ensures c.index-ports-a.result c.index-ports-b.result c.in_ok-shorted-in-Some.field-0 few c.index-ports-a.is c.index-ports-b.is why
