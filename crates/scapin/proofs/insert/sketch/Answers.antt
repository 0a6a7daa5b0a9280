use Rattle.std.proofs.Common.{◌∙◌, ◌<◌, ◌^◌, List, length, sym, subst}
use Rattle.std.specs.List.{All}
use Rattle.scan_checks.specs.declared.registers.Register.{Register}
use Rattle.scapin.specs.declared.gates.Gate.{Gate}
use Rattle.scapin.specs.Gates.{number_of}
use Rattle.scapin.proofs.Numbers.{gates_low}
use Rattle.scapin.proofs.insert.sketch.Goals as goal

pub all_classes-requires-clause-numbers : goal.all_classes-requires-clause-numbers
all_classes-requires-clause-numbers c =
    subst (λ (gs : List Gate). All (λ g. number_of g < 2 ^ 40) gs) (sym (c.deref-3.ensures.value ∙ c.in_ok-gates.ensures))
    (gates_low c.count-count.result c.deref.result.now (subst (λ (rs : List Register). length rs < 2 ^ 32) (sym c.deref.ensures.value) c.requires.few))

pub entries-requires : goal.entries-requires
entries-requires c =
    subst (λ (gs : List Gate). All (λ g. number_of g < 2 ^ 40) gs) (sym (c.deref-4.ensures.value ∙ c.in_ok-gates.ensures))
    (gates_low c.count-count.result c.deref.result.now (subst (λ (rs : List Register). length rs < 2 ^ 32) (sym c.deref.ensures.value) c.requires.few))
