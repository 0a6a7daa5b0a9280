use Rattle.std.proofs.Common.{◌≡◌, ℕ, ◌+◌, ◌*◌, ◌/◌, ◌<◌, ◌≤◌, ◌^◌, List, All, max, length, map, ◌++◌, sym, subst, ap, ap₂, ◌∙◌, arith}
use Rattle.std.proofs.lemmas.List.{map-append}
use Rattle.sym_geom.specs.declared.grid.TheConstants.{PITCH}
use Rattle.net_meaning.specs.Netlist.{AbstractNetlist as Seen}
use Rattle.net_right.specs.View.{IsSeenAs}
use Rattle.row_fill.proofs.Filling.{items}
use Rattle.ocp_place.specs.Ports.{IsSplit}
use Rattle.ocp_place.specs.Reaches.{site_of}
use Rattle.ocp_place.specs.Rows.{IsNearSite}
use Rattle.ocp_place.specs.Standing.{IsStanding}
use Rattle.ocp_place.specs.Stood.{port_grid_sites}
use Rattle.ocp_place.proofs.Classes.{known, known_seen}
use Rattle.ocp_place.proofs.RowPlaced.{placed_rows}
use Rattle.ocp_place.proofs.RowSounds.{signals_low, rows_sound}
use Rattle.ocp_place.proofs.Sounds.{few_signals, count_is}
use Rattle.ocp_place.proofs.place.placed.Goals as goal

pub block_width-width-requires : goal.block_width-width-requires
block_width-width-requires c =
    let l = c.args.library.now in
    let n = c.args.netlist.now in
    let split = c.in_ok-ports.ports in
    let is : IsSplit n.ports n.classes split = subst (λ ps. IsSplit ps n.classes split) c.ports.ensures (subst (λ cs. IsSplit c.ports.result.now cs split) c.classes.ensures.classes c.in_ok-ports.ensures) in
    let few : length split.signals.items < 2 ^ 32 =
    (let short = few_signals n.ports n.classes in let many = ap length is.signals in let classes = ap length c.classes.ensures.classes in let few = c.classes.ensures.few in
    omega (arith, short, many, classes, few)) in
    record { ports = (let many = c.len.ensures ∙ c.in_ok-ports.ports.signals.ok.0 in omega (arith, many, few)) }

pub grid_ends-requires-clause-ports : goal.grid_ends-requires-clause-ports
grid_ends-requires-clause-ports c =
    let l = c.args.library.now in
    let n = c.args.netlist.now in
    let split = c.in_ok-ports.ports in
    let is : IsSplit n.ports n.classes split = subst (λ ps. IsSplit ps n.classes split) c.ports.ensures (subst (λ cs. IsSplit c.ports.result.now cs split) c.classes.ensures.classes c.in_ok-ports.ensures) in
    let few : length split.signals.items < 2 ^ 32 =
    (let short = few_signals n.ports n.classes in let many = ap length is.signals in let classes = ap length c.classes.ensures.classes in let few = c.classes.ensures.few in
    omega (arith, short, many, classes, few)) in
    let same = ap length c.deref-2.ensures.value in
    omega (arith, same, few)

pub grid_ends-requires-clause-columns : goal.grid_ends-requires-clause-columns
grid_ends-requires-clause-columns c =
    let l = c.args.library.now in
    let n = c.args.netlist.now in
    let split = c.in_ok-ports.ports in
    let is : IsSplit n.ports n.classes split = subst (λ ps. IsSplit ps n.classes split) c.ports.ensures (subst (λ cs. IsSplit c.ports.result.now cs split) c.classes.ensures.classes c.in_ok-ports.ensures) in
    let few : length split.signals.items < 2 ^ 32 =
    (let short = few_signals n.ports n.classes in let many = ap length is.signals in let classes = ap length c.classes.ensures.classes in let few = c.classes.ensures.few in
    omega (arith, short, many, classes, few)) in
    let s = c.in_ok-standing.standing in
    let are : (k : Seen) → IsSeenAs n k → IsStanding k l (map items c.args.rows.items) s = λ k seen.
    subst (λ rs. IsStanding k l (map items rs) s) c.deref.ensures.value (c.in_ok-standing.ensures k seen) in
    let k = known n in
    let seen = known_seen n c.requires.netlist.sound in
    let stands = are k seen in
    let width = c.block_width-width.result in
    let width_is : width ≡ max s.width (PITCH * (length split.signals.items + 1)) =
    c.block_width-width.ensures ∙ ap (λ (m : ℕ). max s.width (PITCH * (m + 1))) (c.len.ensures ∙ c.in_ok-ports.ports.signals.ok.0) in
    let narrow : width ≤ 70000000000000 = (let a = stands.narrow in omega (arith, a, width_is, few)) in
    let pitch = c.from.ensures in
    let fits : width / 500 ≤ 200000000000 = omega (arith, narrow) in
    subst (λ (d : ℕ). width / d ≤ 200000000000) (sym pitch) fits

pub ends_of-requires-clause-ports : goal.ends_of-requires-clause-ports
ends_of-requires-clause-ports c =
    let l = c.args.library.now in
    let n = c.args.netlist.now in
    let split = c.in_ok-ports.ports in
    let is : IsSplit n.ports n.classes split = subst (λ ps. IsSplit ps n.classes split) c.ports.ensures (subst (λ cs. IsSplit c.ports.result.now cs split) c.classes.ensures.classes c.in_ok-ports.ensures) in
    let few : length split.signals.items < 2 ^ 32 =
    (let short = few_signals n.ports n.classes in let many = ap length is.signals in let classes = ap length c.classes.ensures.classes in let few = c.classes.ensures.few in
    omega (arith, short, many, classes, few)) in
    let s = c.in_ok-standing.standing in
    let are : (k : Seen) → IsSeenAs n k → IsStanding k l (map items c.args.rows.items) s = λ k seen.
    subst (λ rs. IsStanding k l (map items rs) s) c.deref.ensures.value (c.in_ok-standing.ensures k seen) in
    let k = known n in
    let seen = known_seen n c.requires.netlist.sound in
    let stands = are k seen in
    let low = signals_low l n c.requires.library c.requires.netlist split is (map items c.args.rows.items) s stands in
    let low_here = subst (λ (cs : List ℕ). All (λ x. x < n.count) cs) (sym c.deref-2.ensures.value) low in
    let all = c.in_ok-at_top.ensures.classes n.count low_here in
    λ j d under. let h = all j d under in let count = c.count.ensures in omega (arith, h, count)

pub ends_of-requires-clause-pins : goal.ends_of-requires-clause-pins
ends_of-requires-clause-pins c =
    let l = c.args.library.now in
    let n = c.args.netlist.now in
    let split = c.in_ok-ports.ports in
    let is : IsSplit n.ports n.classes split = subst (λ ps. IsSplit ps n.classes split) c.ports.ensures (subst (λ cs. IsSplit c.ports.result.now cs split) c.classes.ensures.classes c.in_ok-ports.ensures) in
    let few : length split.signals.items < 2 ^ 32 =
    (let short = few_signals n.ports n.classes in let many = ap length is.signals in let classes = ap length c.classes.ensures.classes in let few = c.classes.ensures.few in
    omega (arith, short, many, classes, few)) in
    let s = c.in_ok-standing.standing in
    let are : (k : Seen) → IsSeenAs n k → IsStanding k l (map items c.args.rows.items) s = λ k seen.
    subst (λ rs. IsStanding k l (map items rs) s) c.deref.ensures.value (c.in_ok-standing.ensures k seen) in
    let k = known n in
    let seen = known_seen n c.requires.netlist.sound in
    let stands = are k seen in
    let many = count_is l n c.requires.library c.requires.netlist split is in
    let all = subst (λ ps. All (λ p. p.class < k.classes) ps) (sym c.deref-3.ensures.value) stands.classes in
    λ j d under. let h = all j d under in let count = c.count.ensures in omega (arith, h, count, many)

pub ends_of-requires-clause-near : goal.ends_of-requires-clause-near
ends_of-requires-clause-near c =
    let l = c.args.library.now in
    let n = c.args.netlist.now in
    let split = c.in_ok-ports.ports in
    let is : IsSplit n.ports n.classes split = subst (λ ps. IsSplit ps n.classes split) c.ports.ensures (subst (λ cs. IsSplit c.ports.result.now cs split) c.classes.ensures.classes c.in_ok-ports.ensures) in
    let few : length split.signals.items < 2 ^ 32 =
    (let short = few_signals n.ports n.classes in let many = ap length is.signals in let classes = ap length c.classes.ensures.classes in let few = c.classes.ensures.few in
    omega (arith, short, many, classes, few)) in
    let s = c.in_ok-standing.standing in
    let are : (k : Seen) → IsSeenAs n k → IsStanding k l (map items c.args.rows.items) s = λ k seen.
    subst (λ rs. IsStanding k l (map items rs) s) c.deref.ensures.value (c.in_ok-standing.ensures k seen) in
    let k = known n in
    let seen = known_seen n c.requires.netlist.sound in
    let stands = are k seen in
    subst (λ ps. All IsNearSite ps) (sym c.deref-3.ensures.value) stands.heights

pub invariant_of-result : goal.invariant_of-result
invariant_of-result c =
    let l = c.args.library.now in
    let n = c.args.netlist.now in
    let split = c.in_ok-ports.ports in
    let is : IsSplit n.ports n.classes split = subst (λ ps. IsSplit ps n.classes split) c.ports.ensures (subst (λ cs. IsSplit c.ports.result.now cs split) c.classes.ensures.classes c.in_ok-ports.ensures) in
    let few : length split.signals.items < 2 ^ 32 =
    (let short = few_signals n.ports n.classes in let many = ap length is.signals in let classes = ap length c.classes.ensures.classes in let few = c.classes.ensures.few in
    omega (arith, short, many, classes, few)) in
    let s = c.in_ok-standing.standing in
    let are : (k : Seen) → IsSeenAs n k → IsStanding k l (map items c.args.rows.items) s = λ k seen.
    subst (λ rs. IsStanding k l (map items rs) s) c.deref.ensures.value (c.in_ok-standing.ensures k seen) in
    let k = known n in
    let seen = known_seen n c.requires.netlist.sound in
    let stands = are k seen in
    let width = c.block_width-width.result in
    let width_is : width ≡ max s.width (PITCH * (length split.signals.items + 1)) =
    c.block_width-width.ensures ∙ ap (λ (m : ℕ). max s.width (PITCH * (m + 1))) (c.len.ensures ∙ c.in_ok-ports.ports.signals.ok.0) in
    let narrow : width ≤ 70000000000000 = (let a = stands.narrow in omega (arith, a, width_is, few)) in
    let count = c.count.ensures in
    let small : n.count < 2 ^ 32 = omega (arith, count, c.count.type_inv) in
    rows_sound l n c.requires.library c.requires.netlist split is (map items c.args.rows.items) s stands c.in_ok-ends.ends.items width small (c.in_ok-ends.ensures.many ∙ c.count.ensures)
    c.in_ok-ends.ensures.near narrow (λ j listed. (are j listed).drivers)

pub returns-clause-placed : goal.returns-clause-placed
returns-clause-placed c =
    let l = c.args.library.now in
    let n = c.args.netlist.now in
    let split = c.in_ok-ports.ports in
    let is : IsSplit n.ports n.classes split = subst (λ ps. IsSplit ps n.classes split) c.ports.ensures (subst (λ cs. IsSplit c.ports.result.now cs split) c.classes.ensures.classes c.in_ok-ports.ensures) in
    let few : length split.signals.items < 2 ^ 32 =
    (let short = few_signals n.ports n.classes in let many = ap length is.signals in let classes = ap length c.classes.ensures.classes in let few = c.classes.ensures.few in
    omega (arith, short, many, classes, few)) in
    let s = c.in_ok-standing.standing in
    let are : (k : Seen) → IsSeenAs n k → IsStanding k l (map items c.args.rows.items) s = λ k seen.
    subst (λ rs. IsStanding k l (map items rs) s) c.deref.ensures.value (c.in_ok-standing.ensures k seen) in
    let k = known n in
    let seen = known_seen n c.requires.netlist.sound in
    let stands = are k seen in
    let width = c.block_width-width.result in
    let width_is : width ≡ max s.width (PITCH * (length split.signals.items + 1)) =
    c.block_width-width.ensures ∙ ap (λ (m : ℕ). max s.width (PITCH * (m + 1))) (c.len.ensures ∙ c.in_ok-ports.ports.signals.ok.0) in
    let narrow : width ≤ 70000000000000 = (let a = stands.narrow in omega (arith, a, width_is, few)) in
    let all = c.in_ok-at_top.at_top.items ++ c.deref-3.result.now in
    let rows : c.len-2.result ≡ length c.args.rows.items = c.len-2.ensures ∙ c.args.rows.ok.0 in
    let tops : map site_of c.in_ok-at_top.at_top.items ≡ port_grid_sites (width / PITCH) (length c.args.rows.items) split.signals.items =
    c.in_ok-at_top.ensures.sites ∙ ap (λ (d : ℕ). port_grid_sites (width / d) c.len-2.result c.deref-2.result.now) c.from.ensures
    ∙ ap₂ (λ (m : ℕ) (cs : List ℕ). port_grid_sites (width / PITCH) m cs) rows c.deref-2.ensures.value in
    let all_is : map site_of all ≡ port_grid_sites (width / PITCH) (length c.args.rows.items) split.signals.items ++ map site_of s.sites.items =
    map-append site_of c.in_ok-at_top.at_top.items c.deref-3.result.now ∙ ap₂ (λ a b. a ++ map site_of b) tops c.deref-3.ensures.value in
    placed_rows l n c.requires.library c.requires.netlist split is c.args.rows.items s are c.requires.once c.requires.some c.requires.few width width_is all all_is
    c.in_ok-ends.ends.items (c.in_ok-ends.ensures.many ∙ c.count.ensures) c.in_ok-ends.ensures.ends
