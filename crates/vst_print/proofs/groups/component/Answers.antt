use Rattle.std.proofs.Common.{◌≡◌, ◌∙◌, ◌<◌, ◌++◌, ℕ, List, map, length, OnOk, ap, subst, arith}
use Rattle.std.proofs.lemmas.List.{length-map}
use Rattle.vlsi_base.specs.declared.name.Port.{Port}
use Rattle.net_right.specs.Writable.{port_of}
use Rattle.vst_print.specs.Groups.{declared, grouped}
use Rattle.vst_print.specs.Pieces.{ports_text}
use Rattle.vst_print.proofs.Runs.{some_groups}
use Rattle.vst_print.proofs.Texts.{component_put}
use Rattle.vst_print.proofs.groups.component.Goals as goal

pub returns : goal.returns
returns c =
    let ports = map port_of c.args.pins.now in
    let many : length ports ≡ length c.args.pins.now = length-map c.args.pins.now port_of in
    let some : 0 < length ports = omega (arith, many, c.requires) in
    let put = component_put c.args.out.now c.args.model.now (map declared (grouped ports))
    c.append.new.self c.append-2.new.self c.append-3.new.self c.groups.new.out c.as_bytes.result.now
    (some_groups ports some)
    c.in_ok-append.ensures.ok c.as_bytes.ensures c.in_ok-append-2.ensures.ok c.in_ok-append-3.ensures.ok
    (c.in_ok-groups.ensures ∙ ap (λ (ps : List Port). c.append-3.new.self ++ ports_text (map declared (grouped ps))) (c.deref.ensures.value ∙ c.in_ok-ports.ensures)) in
    subst (λ (x : List ℕ). OnOk c.append-4.result (c.append-4.new.self ≡ x)) put c.append-4.ensures.ok
