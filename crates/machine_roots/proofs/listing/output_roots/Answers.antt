use Rattle.std.proofs.Common.{◌≡◌, ◌∙◌, sym, Bool, true, false, not, refl, map, List, subst, ap, ◌+◌}
use Rattle.std.proofs.lemmas.List.{drop_all}
use Rattle.machine_core.specs.Machine.{is_input}
use Rattle.machine_core.specs.View.{equation_view}
use Rattle.machine_roots.specs.declared.listing.RootExpr.{RootExpr}
use Rattle.machine_roots.proofs.Outputs.{IsShowing, Found, found, is_out, in_names, none_shown, output_within, output_found, shows_out, shows_in, shows_end}
use Rattle.machine_roots.proofs.listing.output_roots.Goals as goal
use Rattle.machine_roots.proofs.listing.output_roots.Goals.{then-is_output+in_ok-push, else-is_output}

output : (b : Bool) → not b ≡ true → b ≡ false
output true e = absurd (cc e)
output false e = refl

input : (b : Bool) → not b ≡ false → b ≡ true
input true e = refl
input false e = absurd (cc e)

pub loop-port-init : goal.loop-port-init
loop-port-init c = none_shown _ _ _ c.new-out.ensures.items

pub output_root-requires : goal.output_root-requires
output_root-requires c =
    let p = c.port-item.result in
    let test : is_input p.dir ≡ false = output (is_input p.dir) (sym c.is_output.ensures ∙ c.if-is_output.true) in
    let listed = c.requires.driven.1 p.name (is_out c.args.ports.now c.loop-port.port-index p c.loop-port-test.true c.port-item.is test) in
    let has : Found c.insert_all.new.self c.args.names.now p.name =
    found c.new-index.result c.insert_all.new.self c.args.names.now p.name c.new-index.ensures c.in_ok-insert_all.ensures (in_names c.args.names.now c.requires.ends.0 c.args.equations.now p.name c.requires.ends.1 listed) in
    output_within c.insert_all.new.self c.args.names.now c.requires.ends.0 c.args.equations.now p.name has listed c.requires.ends.1 c.requires.driven.0

pub loop-port-preserved : goal.loop-port-preserved
loop-port-preserved c =
    let p = c.port-item.result in
    elim c.if-is_output.branch [
      | then-is_output+in_ok-push w ↦
          let test : is_input p.dir ≡ false = output (is_input p.dir) (sym c.is_output.ensures ∙ w.if-is_output.true) in
          let listed = c.requires.driven.1 p.name (is_out c.args.ports.now c.loop-port.port-index p c.loop-port-test.true c.port-item.is test) in
          let has : Found c.insert_all.new.self c.args.names.now p.name =
          found c.new-index.result c.insert_all.new.self c.args.names.now p.name c.new-index.ensures c.in_ok-insert_all.ensures (in_names c.args.names.now c.requires.ends.0 c.args.equations.now p.name c.requires.ends.1 listed) in
          let root = output_found c.insert_all.new.self c.args.names.now c.requires.ends.0 c.args.equations.now p.name w.output_root.result has listed c.requires.ends.1 c.requires.driven.0
          w.output_root.ensures.name w.output_root.ensures.equation w.output_root.ensures.expr in
          subst (λ (out : List RootExpr). IsShowing (map equation_view c.args.equations.now) c.args.ports.now (c.loop-port.port-index + 1) out) (sym (ap (λ v. v.items) w.out-is ∙ w.in_ok-push.ensures.items))
          (shows_out _ c.args.ports.now c.loop-port.port-index c.loop-port.out.items p w.output_root.result c.loop-port-test.true c.port-item.is test root c.loop-port.invariant)
      | else-is_output w ↦
          let test : is_input p.dir ≡ true = input (is_input p.dir) (sym c.is_output.ensures ∙ w.if-is_output.false) in
          subst (λ (out : List RootExpr). IsShowing (map equation_view c.args.equations.now) c.args.ports.now (c.loop-port.port-index + 1) out) (sym (ap (λ v. v.items) w.out-is))
          (shows_in _ c.args.ports.now c.loop-port.port-index c.loop-port.out.items p c.loop-port-test.true c.port-item.is test c.loop-port.invariant)
    ]

pub returns : goal.returns
returns c = shows_end _ c.args.ports.now c.loop-port.port-index c.loop-port.out.items (drop_all c.loop-port.port-index c.args.ports.now c.loop-port-test.false) c.loop-port.invariant
