use Rattle.std.proofs.Common.{◌≡◌, ◌+◌, not, List, [], take, length, sym, subst, ap, ◌∙◌, arith}
use Rattle.machine_core.specs.Machine.{names_of, is_input}
use Rattle.cell_model.specs.declared.cell.Pin.{Pin}
use Rattle.cell_model.specs.Cell.{pin_ports}
use Rattle.net_core.specs.Places.{Stands, IsThere}
use Rattle.ocp_place.specs.declared.reach.PinReach.{PinReach}
use Rattle.ocp_place.specs.Reaches.{ArePinReaches, no_pins}
use Rattle.ocp_place.proofs.Reached.{points_many, ports_many, pin_is, pins_next}
use Rattle.ocp_place.proofs.reach.cell_reach.Goals as goal

pub loop-k-init : goal.loop-k-init
loop-k-init c = subst (λ (ps : List PinReach). ArePinReaches c.args.cell.now [] ps) (sym c.new-pins.ensures.items) no_pins

pub index-requires : goal.index-requires
index-requires c =
    let many = points_many c.args.cell.now c.in_ok-points.points.items c.in_ok-points.ensures in
    let pins = ap length c.as_slice-signals.ensures in
    omega (arith, many, pins, c.in_ok-points.points.ok.0)

pub loop-k-preserved : goal.loop-k-preserved
loop-k-preserved c =
    let cell = c.args.cell.now in
    let pins = ap length c.as_slice-signals.ensures in
    let test = c.loop-k-test.true in
    let many = ports_many cell in
    let placed : IsThere (names_of c.deref.result.now) c.index-signals-k.result.port.name → Stands (names_of c.deref.result.now) c.place_of.result c.index-signals-k.result.port.name =
    subst (λ (pin : Pin). IsThere (names_of c.deref.result.now) pin.port.name → Stands (names_of c.deref.result.now) c.place_of.result pin.port.name) (sym c.index-signals-k.is) c.place_of.ensures in
    let drives : c.is_output.result ≡ not (is_input c.index-signals-k.result.port.dir) =
    subst (λ (pin : Pin). c.is_output.result ≡ not (is_input pin.port.dir)) (sym c.index-signals-k.is) c.is_output.ensures in
    let r : PinReach = record { place = c.place_of.result; drives = c.is_output.result; point = c.index.result.now } in
    subst (λ (ps : List PinReach). ArePinReaches cell (take (c.loop-k.k + 1) (pin_ports cell)) ps) (sym c.in_ok-push.ensures.items)
    (pins_next cell (pin_ports cell) c.loop-k.k c.index-signals-k.result.port c.loop-k.pins.items r c.loop-k.invariant (omega (arith, many, pins, test))
    (pin_is cell c.as_slice-signals.result.now c.deref.result.now c.in_ok-points.points.items c.loop-k.k c.index-signals-k.result r c.requires.formed c.as_slice-signals.ensures
    (c.deref.ensures.value ∙ c.in_ok-ports.ensures) c.in_ok-points.ensures c.loop-k-test.true c.index-signals-k.is placed drives c.index.ensures))
