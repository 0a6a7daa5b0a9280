use Rattle.std.proofs.Common.{◌≡◌, ◌∷◌, ◌++◌, [], ℕ, Bool, false, List, length, take, get_or, if◌then◌else◌, sym, ap, ◌∙◌, arith}
use Rattle.std.proofs.Math.Seq.{take-length}
use Rattle.vlsi_base.specs.declared.name.Port.{Port}
use Rattle.fmi_min.specs.Vectors.{picked}
use Rattle.fmi_min.proofs.Picking.{picked_more}
use Rattle.fmi_min.proofs.vectors.picked.Goals as goal

pub loop-k-preserved : goal.loop-k-preserved
loop-k-preserved c =
    let clock = c.args.clock.now in
    let ports = c.args.ports.now in
    let word = c.args.word.now in
    let k = c.loop-k.k in
    let port = c.index-ports-k.result in
    let bit = get_or word k false in
    let front = picked clock (take k ports) (take k word) in
    c.in_ok-push_if.ensures
    ∙ ap (λ (bits : List Bool). if c.is_read.result then bits ++ bit ∷ [] else bits) c.loop-k.invariant
    ∙ ap (λ (t : Bool). if t then front ++ bit ∷ [] else front) c.is_read.ensures
    ∙ sym (picked_more clock ports word k port c.requires c.loop-k-test.true c.index-ports-k.is)

pub returns : goal.returns
returns c =
    let past = c.loop-k-test.false in
    let low = c.loop-k.auto.k-end in
    let end : c.loop-k.k ≡ length c.args.ports.now = omega arith in
    let same : c.loop-k.k ≡ length c.args.word.now = end ∙ sym c.requires in
    c.new.ensures ∙ c.loop-k.invariant
    ∙ ap (λ (ports : List Port). picked c.args.clock.now ports (take c.loop-k.k c.args.word.now))
    (ap (λ (n : ℕ). take n c.args.ports.now) end ∙ take-length c.args.ports.now)
    ∙ ap (λ (w : List Bool). picked c.args.clock.now c.args.ports.now w) (ap (λ (n : ℕ). take n c.args.word.now) same ∙ take-length c.args.word.now)
