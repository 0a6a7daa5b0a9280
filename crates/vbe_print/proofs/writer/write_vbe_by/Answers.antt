use Rattle.std.proofs.Common.{◌≡◌, ◌∙◌, ◌++◌, ◌-◌, ℕ, List, map, length, take, drop, ap}
use Rattle.vlsi_base.specs.declared.name.Name.{Name}
use Rattle.machine_core.specs.Machine.{Register}
use Rattle.machine_core.specs.View.{register_view}
use Rattle.vbe_print.specs.Written.{signal_texts, written_names, written_vars}
use Rattle.vbe_print.specs.Pieces.{front_text, declared_text, stated_text}
use Rattle.vbe_print.proofs.Naming.{as_many_written, as_many_vars, behind_all}
use Rattle.vbe_print.proofs.Texts.{whole_text}
use Rattle.vbe_print.proofs.writer.write_vbe_by.Goals as goal

pub statements-requires-clause-each : goal.statements-requires-clause-each
statements-requires-clause-each c =
    let m = c.args.machine.now in
    let held = c.in_ok-names.names.held in
    let names : take (length c.deref-3.result.now - held) (drop held c.deref-3.result.now) ≡ written_names c.args.stem.now m =
    behind_all c.deref-3.result.now held ∙ ap (drop held) c.deref-3.ensures.value ∙ c.in_ok-names.ensures.held in
    ap (λ (ns : List Name). length ns) names ∙ as_many_written c.args.stem.now m

pub statements-requires-clause-all : goal.statements-requires-clause-all
statements-requires-clause-all c =
    ap (λ (ns : List Name). length ns) (c.deref.ensures.value ∙ c.in_ok-names.ensures.vars) ∙ as_many_vars c.args.stem.now c.args.machine.now c.registers.ensures.checked

pub returns : goal.returns
returns c =
    let m = c.args.machine.now in
    let held = c.in_ok-names.names.held in
    let a = c.front.new.out in
    let b = c.declarations.new.out in
    let names : take (length c.deref-3.result.now - held) (drop held c.deref-3.result.now) ≡ written_names c.args.stem.now m =
    behind_all c.deref-3.result.now held ∙ ap (drop held) c.deref-3.ensures.value ∙ c.in_ok-names.ensures.held in
    let stored : map register_view c.as_slice.result.now ≡ m.registers = ap (map register_view) c.as_slice.ensures ∙ c.registers.ensures.value in
    whole_text c.args.stem.now m a b c.statements.new.out
    (c.in_ok-front.ensures ∙ ap (λ (x : List ℕ). x ++ front_text m) (c.new-out.ensures ∙ c.new.ensures.items))
    (c.in_ok-declarations.ensures
    ∙ ap (λ (ts : List (List ℕ)). a ++ declared_text ts (map register_view c.as_slice.result.now)) (c.deref-2.ensures.value ∙ c.in_ok-names.ensures.signals)
    ∙ ap (λ (rs : List Register). a ++ declared_text (signal_texts c.args.stem.now m) rs) stored)
    (c.in_ok-statements.ensures
    ∙ ap (λ (ns : List Name). b ++ stated_text ns (take (length c.deref-3.result.now - held) (drop held c.deref-3.result.now)) m) (c.deref.ensures.value ∙ c.in_ok-names.ensures.vars)
    ∙ ap (λ (ns : List Name). b ++ stated_text (written_vars c.args.stem.now m) ns m) names)
