use Rattle.std.proofs.Common.{◌≡◌, ◌<◌, Some, List, length, slice_get, refl, sym, ap, subst, arith}
use Rattle.std.proofs.lemmas.Option.{slice_get_read}
use Rattle.vlsi_base.specs.declared.name.Terminal.{Terminal}
use Rattle.ocp_place.proofs.Classes.{known}
use Rattle.nero_nets.proofs.Routed.{one_seen}
use Rattle.nero_rip.proofs.route.terminal_at.Goals as goal

pub swap_remove-requires : goal.swap_remove-requires
swap_remove-requires c =
    let seen = one_seen c.args.library.now c.args.netlist.now c.args.placement.now c.requires.placed in
    let low = c.requires.point (known c.args.netlist.now) seen in
    let same = ap (λ (ts : List Terminal). length ts) (c.in_ok-terminals.ensures (known c.args.netlist.now) seen) in
    omega (arith, low, same)

pub returns : goal.returns
returns c = λ k seen.
    let terminals = c.in_ok-terminals.terminals.items in
    let same = c.in_ok-terminals.ensures k seen in
    let low : c.args.point < length terminals = subst (λ (ts : List Terminal). c.args.point < length ts) (sym same) (c.requires.point k seen) in
    subst (λ (ts : List Terminal). slice_get ts c.args.point ≡ Some c.swap_remove.result) same
    (slice_get_read terminals (length terminals) c.args.point c.swap_remove.result refl low c.swap_remove.ensures.value)
