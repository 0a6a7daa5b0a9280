use Rattle.std.proofs.Common.{◌≡◌, ℕ, ◌^◌, ◌<◌, List, length, get_or, sym, ap, ◌∙◌, subst}
use Rattle.std.specs.List.{All, zip, sum_by}
use Rattle.std.specs.Global.{Vec}
use Rattle.net_core.proofs.Namings.{if_ok}
use Rattle.delay_sta.specs.Loads.{load, capacitances, share}
use Rattle.delay_sta.proofs.Loading.{capacitance_count}
use Rattle.delay_sta.proofs.Edges.{classes_low}
use Rattle.delay_sta.proofs.loads.loads.Goals as goal

pub sums-requires-clause-each : goal.sums-requires-clause-each
sums-requires-clause-each c =
    ap length (c.deref.ensures.value ∙ c.in_ok-capacitances.ensures) ∙ capacitance_count c.args.netlist.now c.args.library.now
    ∙ sym c.classes.ensures.sound.each ∙ ap length (sym c.classes.ensures.classes)

pub sums-requires-clause-inside : goal.sums-requires-clause-inside
sums-requires-clause-inside c =
    subst (λ (xs : List ℕ). All (λ class. class < c.count.result) xs) (sym c.classes.ensures.classes)
    (subst (λ m. All (λ class. class < m) c.args.netlist.now.classes) (sym c.count.ensures) (classes_low c.args.netlist.now c.classes.ensures.sound))

pub returns-clause-loads : goal.returns-clause-loads
unfolding load
returns-clause-loads c =
    if_ok (λ (v : Vec ℕ). (class : ℕ) → class < c.count.result → get_or v.items class 0 ≡ sum_by (share class) (zip c.deref.result.now c.classes.result.now))
    (λ (v : Vec ℕ). (class : ℕ) → class < c.args.netlist.now.count → get_or v.items class 0 ≡ sum_by (share class) (zip (capacitances c.args.netlist.now c.args.library.now) c.args.netlist.now.classes)) c.sums.result
    (λ v h class low. h class (subst (λ m. class < m) (sym c.count.ensures) low)
    ∙ ap (λ (xs : List ℕ). sum_by (share class) (zip xs c.classes.result.now)) (c.deref.ensures.value ∙ c.in_ok-capacitances.ensures)
    ∙ ap (λ (xs : List ℕ). sum_by (share class) (zip (capacitances c.args.netlist.now c.args.library.now) xs)) c.classes.ensures.classes) c.sums.ensures.sums

pub returns-clause-short : goal.returns-clause-short
returns-clause-short c =
    if_ok (λ (v : Vec ℕ). All (λ k. k < 2 ^ 32) c.deref.result.now) (λ (v : Vec ℕ). All (λ k. k < 2 ^ 32) (capacitances c.args.netlist.now c.args.library.now)) c.sums.result
    (λ v h. subst (λ (xs : List ℕ). All (λ k. k < 2 ^ 32) xs) (c.deref.ensures.value ∙ c.in_ok-capacitances.ensures) h) c.sums.ensures.short
