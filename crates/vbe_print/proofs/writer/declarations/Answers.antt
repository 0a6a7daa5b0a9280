use Rattle.std.proofs.Common.{◌++◌, ◌∙◌, ◌≡◌, List, map, sym, ap}
use Rattle.std.proofs.lemmas.Result.{on_ok_weaker}
use Rattle.vlsi_base.specs.declared.name.Name.{Name}
use Rattle.machine_core.specs.View.{register_view}
use Rattle.spell_theory.specs.Layout.{text_of}
use Rattle.vst_print.specs.Structure.{signals_layout, begin_layout}
use Rattle.vbe_print.specs.Written.{registers_layout}
use Rattle.vbe_print.proofs.Naming.{registers_seen}
use Rattle.vbe_print.proofs.Texts.{put_two}
use Rattle.vbe_print.proofs.writer.declarations.Goals as goal

pub returns : goal.returns
returns c =
    let names = map (λ r. r.name) (map register_view c.args.stored.now) in
    let a = c.signals.new.out in
    let b = c.registers.new.out in
    let z = c.append.new.self in
    let second : b ≡ a ++ text_of (registers_layout names) = c.in_ok-registers.ensures ∙ ap (λ (ns : List Name). a ++ text_of (registers_layout ns)) (sym (registers_seen c.args.stored.now)) in
    on_ok_weaker c.append.result
    (λ e. put_two (signals_layout c.args.texts.now) (registers_layout names ++ begin_layout) c.args.out.now a z c.in_ok-signals.ensures (put_two (registers_layout names) begin_layout a b z second e))
    c.append.ensures.ok
