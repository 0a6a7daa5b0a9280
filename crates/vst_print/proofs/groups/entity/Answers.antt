use Rattle.std.proofs.Common.{◌≡◌, ℕ, List, map, OnOk, subst}
use Rattle.vst_print.specs.Groups.{declared, grouped}
use Rattle.vst_print.proofs.Runs.{some_groups}
use Rattle.vst_print.proofs.Texts.{entity_put}
use Rattle.vst_print.proofs.groups.entity.Goals as goal

pub returns : goal.returns
returns c =
    let put = entity_put c.args.out.now c.args.name.now (map declared (grouped c.args.ports.now))
    c.append.new.self c.append-2.new.self c.append-3.new.self c.groups.new.out c.append-4.new.self c.append-5.new.self c.as_bytes.result.now c.as_bytes-2.result.now
    (some_groups c.args.ports.now c.requires)
    c.in_ok-append.ensures.ok c.as_bytes.ensures c.in_ok-append-2.ensures.ok c.in_ok-append-3.ensures.ok c.in_ok-groups.ensures c.in_ok-append-4.ensures.ok c.as_bytes-2.ensures c.in_ok-append-5.ensures.ok in
    subst (λ (x : List ℕ). OnOk c.append-6.result (c.append-6.new.self ≡ x)) put c.append-6.ensures.ok
