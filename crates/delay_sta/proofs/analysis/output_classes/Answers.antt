use Rattle.std.proofs.Common.{◌≡◌, ℕ, List, length, get_or, refl, sym, ap, ◌∙◌, subst, arith}
use Rattle.std.specs.Prelude.{◌↔◌}
use Rattle.std.specs.Global.{Vec}
use Rattle.std.proofs.lemmas.Option.{slice_get-get_or, slice_get_read}
use Rattle.vlsi_base.specs.declared.name.Dir.TheVariants as dir
use Rattle.net_core.specs.Places.{Stands, IsThere}
use Rattle.delay_sta.specs.Graph.{IsOutputBefore}
use Rattle.delay_sta.proofs.Edges.{outputs_then, outputs_else}
use Rattle.delay_sta.proofs.analysis.output_classes.Goals.{in-In, in-Out+in_ok-push-in-Out}
use Rattle.delay_sta.proofs.analysis.output_classes.Goals as goal

pub loop-k-preserved : goal.loop-k-preserved
loop-k-preserved c =
    let s : Stands c.args.ports.now c.loop-k.k c.index-ports-k.result = slice_get_read c.args.ports.now (length c.args.ports.now) c.loop-k.k c.index-ports-k.result refl c.loop-k-test.true c.index-ports-k.is in
    let less = c.loop-k-test.true in
    let few = c.requires in
    let t : Stands c.args.classes.now c.loop-k.k (get_or c.args.classes.now c.loop-k.k 0) = slice_get-get_or c.args.classes.now c.loop-k.k 0 (omega (arith, less, few)) in
    elim c.match-port.branch [
      | in-Out+in_ok-push-in-Out w ↦
          outputs_then c.args.ports.now c.args.classes.now c.loop-k.k c.index-ports-k.result (get_or c.args.classes.now c.loop-k.k 0) c.loop-k.ends.items c.match-port.ends.items s t w.in-Out.is
          (ap (λ (v : Vec ℕ). v.items) w.ends-is ∙ w.in_ok-push-in-Out.ensures.items) c.loop-k.invariant
      | in-In w ↦
          outputs_else c.args.ports.now c.args.classes.now c.loop-k.k c.index-ports-k.result c.match-port.ends.items s (λ h. let no : dir.In ≡ dir.Out = sym w.in-In.is ∙ h in absurd cc)
          (subst (λ (xs : List ℕ). (class : ℕ) → IsThere xs class ↔ IsOutputBefore c.args.ports.now c.args.classes.now c.loop-k.k class) (sym (ap (λ (v : Vec ℕ). v.items) w.ends-is)) c.loop-k.invariant)
    ]

pub returns : goal.returns
returns c =
    let e : c.loop-k.k ≡ length c.args.ports.now = let a = c.loop-k-test.false in let b = c.loop-k.auto.k-end in omega (arith, a, b) in
    subst (λ k. (class : ℕ) → IsThere c.loop-k.ends.items class ↔ IsOutputBefore c.args.ports.now c.args.classes.now k class) e c.loop-k.invariant
