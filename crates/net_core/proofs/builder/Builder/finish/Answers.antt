use Rattle.std.proofs.Common.{◌≡◌, ◌∙◌, sym, subst, ℕ, List, length}
use Rattle.net_core.specs.Netlist.{Netlist, IsNetlist}
use Rattle.net_core.specs.Frame.{frame_terminals, netlist_of}
use Rattle.net_core.specs.Joins.{Draft, LabelsJoined, NumbersLabels, IsFinished}
use Rattle.net_core.proofs.Finishing.{finished, netlist_sound}
use Rattle.net_core.proofs.builder.Builder.finish.Goals as goal

pub returns-clause-finished : goal.returns-clause-finished
returns-clause-finished c =
    let each : length c.in_ok-labels.labels.items ≡ length (frame_terminals c.self.inside.frame) = c.in_ok-labels.ensures.each ∙ c.count.ensures.count in
    let joined : LabelsJoined c.self.inside.joins.items c.in_ok-labels.labels.items = subst (λ (js : List (ℕ × ℕ)). LabelsJoined js c.in_ok-labels.labels.items) c.deref.ensures.value c.in_ok-labels.ensures.joined in
    let numbers : NumbersLabels c.in_ok-labels.labels.items c.in_ok-classes.classes.items c.in_ok-classes.count =
    subst (λ (ls : List ℕ). NumbersLabels ls c.in_ok-classes.classes.items c.in_ok-classes.count) c.deref-2.ensures.value c.in_ok-classes.ensures in
    subst (λ (n : Netlist). IsFinished c.args.self n) (sym c.new.ensures)
    (subst (λ (d : Draft). IsFinished d (netlist_of c.self.inside.name c.self.inside.frame c.in_ok-classes.classes.items c.in_ok-classes.count)) c.self.view_is
    (finished c.self.inside.name c.self.inside.frame c.self.inside.joins.items c.in_ok-labels.labels.items c.in_ok-classes.classes.items c.in_ok-classes.count c.count.ensures.sound c.self.invariant.1 c.self.invariant.0 each joined numbers))

pub returns-clause-sound : goal.returns-clause-sound
returns-clause-sound c =
    let each : length c.in_ok-labels.labels.items ≡ length (frame_terminals c.self.inside.frame) = c.in_ok-labels.ensures.each ∙ c.count.ensures.count in
    let numbers : NumbersLabels c.in_ok-labels.labels.items c.in_ok-classes.classes.items c.in_ok-classes.count =
    subst (λ (ls : List ℕ). NumbersLabels ls c.in_ok-classes.classes.items c.in_ok-classes.count) c.deref-2.ensures.value c.in_ok-classes.ensures in
    subst (λ (n : Netlist). IsNetlist n) (sym c.new.ensures)
    (netlist_sound c.self.inside.name c.self.inside.frame c.in_ok-classes.classes.items c.in_ok-classes.count c.count.ensures.sound (numbers.each ∙ each) numbers.turns)
