use Rattle.std.proofs.Common.{List, refl, sym, subst}
use Rattle.std.proofs.lemmas.List.{take_all}
use Rattle.ocp_place.specs.Nets.{net_number}
use Rattle.ocp_place.specs.Placed.{rows_of, stood_in}
use Rattle.nero_nets.specs.Routed.{net_terminals}
use Rattle.maze_rips.specs.declared.rip.PointRip.{PointRip}
use Rattle.nero_rip.specs.declared.rip.Rip.{Rip}
use Rattle.nero_rip.specs.Rips.{AreNamed}
use Rattle.nero_rip.proofs.Named.{rip_at, rip_among, named_on}
use Rattle.nero_rip.proofs.route.name_rips.Goals as goal

pub terminal_at-requires-clause-there : goal.terminal_at-requires-clause-there
terminal_at-requires-clause-there c = λ k seen.
    (c.requires.there (rip_at c.args.made.now c.loop-rip.rip-index) (rip_among c.args.made.now c.loop-rip.rip-index c.loop-rip-test.true) k seen).0

pub terminal_at-requires-clause-point : goal.terminal_at-requires-clause-point
terminal_at-requires-clause-point c = λ k seen.
    (c.requires.there (rip_at c.args.made.now c.loop-rip.rip-index) (rip_among c.args.made.now c.loop-rip.rip-index c.loop-rip-test.true) k seen).1

pub loop-rip-preserved : goal.loop-rip-preserved
loop-rip-preserved c = λ k seen.
    let made = c.args.made.now in
    let l = c.args.library.now in
    let p = c.args.placement.now in
    let r = rip_at made c.loop-rip.rip-index in
    let named : Rip = record { net = r.net; terminal = c.in_ok-terminal.terminal; torn = r.torn } in
    named_on (net_terminals k l (net_number k l) (rows_of k p) (stood_in k p)) made c.loop-rip.rip-index (record { net = 0; point = 0; torn = 0 }) c.loop-rip.rips.items
    c.push.new.self.items named c.loop-rip-test.true (c.loop-rip.invariant k seen) (record { net = refl; torn = refl; terminal = c.in_ok-terminal.ensures k seen })
    c.in_ok-push.ensures.items

pub returns : goal.returns
returns c = λ k seen.
    let made = c.args.made.now in
    let l = c.args.library.now in
    let p = c.args.placement.now in
    let terminals = net_terminals k l (net_number k l) (rows_of k p) (stood_in k p) in
    subst (λ (xs : List Rip). AreNamed terminals made xs) (sym c.new.ensures)
    (subst (λ (rs : List PointRip). AreNamed terminals rs c.loop-rip.rips.items) (take_all c.loop-rip.rip-index made c.loop-rip-test.false) (c.loop-rip.invariant k seen))
