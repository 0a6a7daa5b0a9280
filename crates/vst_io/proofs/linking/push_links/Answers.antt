use Rattle.std.proofs.Common.{◌≡◌, ◌++◌, ◌∙◌, ◌≤◌, ℕ, List, Option, map, length, min, ap, sym, append-nil, arith}
use Rattle.std.specs.List.{zip}
use Rattle.vlsi_base.specs.declared.name.Name.{Name}
use Rattle.vlsi_base.specs.declared.name.Terminal.{Terminal}
use Rattle.vlsi_base.specs.NamePlaces.{name_of}
use Rattle.net_core.specs.Netlist.{pin_of}
use Rattle.vst_io.specs.Nets.{names, pin_bits}
use Rattle.vst_io.proofs.Linked.{pairs_end}
use Rattle.vst_io.proofs.linking.push_links.Goals as goal

pub returns : goal.returns
returns c =
    let bits = c.in_ok-bits.bits.items in
    let net_bits = c.in_ok-net_bits.net_bits.items in
    let a = c.args.association.now in
    let label = c.args.label.now in
    let one : c.len.result ≡ length bits = c.len.ensures ∙ c.in_ok-bits.bits.ok.0 in
    let two : c.len-2.result ≡ length net_bits = c.len-2.ensures ∙ c.in_ok-net_bits.net_bits.ok.0 in
    let past : min (length bits) (length net_bits) ≤ c.loop-k.k = omega (arith, one, two, c.min-count.ensures, c.loop-k-test.false) in
    let pairs = λ (xs ys : List (Option ℕ)). zip (map (pin_of label) (names a.pin.text xs)) (names a.net.name ys) in
    let links = c.loop-k.links.items in
    let old = c.args.links.now.items in
    sym (append-nil links) ∙ ap (λ (ls : List (Terminal × Name)). links ++ ls) (sym (pairs_end (pin_of label) (name_of a.pin.text) (name_of a.net.name) bits net_bits c.loop-k.k past)) ∙ c.loop-k.invariant
    ∙ ap (λ (xs : List (Option ℕ)). old ++ pairs xs net_bits) c.in_ok-bits.ensures ∙ ap (λ (ys : List (Option ℕ)). old ++ pairs (pin_bits c.args.known.0.now a.pin) ys) c.in_ok-net_bits.ensures
