use Rattle.std.proofs.Common.{◌≡◌, ◌∙◌, ◌<◌, ℕ, List, length, sym, ap, subst, arith}
use Rattle.std.specs.List.{All, zip}
use Rattle.net_core.specs.declared.tally.Role.{Role}
use Rattle.net_core.specs.declared.tally.Tally.{Tally}
use Rattle.net_core.specs.declared.pins.ModelPins.{ModelPins}
use Rattle.net_core.specs.Netlist.{Netlist, terminals}
use Rattle.net_core.specs.Checks.{Fits, roles, all_clocks, AtMost, AreTallies}
use Rattle.net_core.proofs.Counting.{zip_length}
use Rattle.net_core.proofs.Namings.{turn_below}
use Rattle.net_core.proofs.Classes.{roles_length, all_few, Counted, sound_classes, class_fault}
use Rattle.net_core.proofs.checking.check_classes.Goals as goal

each_of : (table : List ModelPins) (n : Netlist) (rs : List Role) (cs : List ℕ) → rs ≡ roles table n → cs ≡ n.classes → length n.classes ≡ length (terminals n) → Fits n table → length rs ≡ length cs
each_of table n rs cs e f each fits = ap length e ∙ roles_length table n fits ∙ sym each ∙ ap length (sym f)

pub tallies-requires-clause-each : goal.tallies-requires-clause-each
tallies-requires-clause-each c =
    each_of c.args.table.now c.args.netlist.now c.deref.result.now c.classes.result.now (c.deref.ensures.value ∙ c.in_ok-roles.ensures) c.classes.ensures.classes c.classes.ensures.sound.each c.requires

pub tallies-requires-clause-inside : goal.tallies-requires-clause-inside
tallies-requires-clause-inside c =
    subst (λ n. All (λ k. k < n) c.classes.result.now) (sym c.count.ensures)
    (subst (λ (xs : List ℕ). All (λ k. k < c.args.netlist.now.count) xs) (sym c.classes.ensures.classes) (turn_below 0 c.args.netlist.now.count c.args.netlist.now.classes c.classes.ensures.sound.turns))

pub first_fault-requires : goal.first_fault-requires
first_fault-requires c =
    let e = each_of c.args.table.now c.args.netlist.now c.deref.result.now c.classes.result.now (c.deref.ensures.value ∙ c.in_ok-roles.ensures) c.classes.ensures.classes c.classes.ensures.sound.each c.requires in
    let n = zip_length c.deref.result.now c.classes.result.now e in
    subst (λ (ts : List Tally). All (AtMost 4294967295) ts) (sym c.deref-2.ensures.value)
    (all_few (zip c.deref.result.now c.classes.result.now) c.in_ok-tallies.tallies.items c.in_ok-tallies.ensures.tallied (omega (arith, n, c.classes.ensures.few)))

counted_of : (table : List ModelPins) (n : Netlist) (rs : List Role) (cs : List ℕ) (tallies items : List Tally) (clocks : ℕ) → rs ≡ roles table n → cs ≡ n.classes → items ≡ tallies → length tallies ≡ n.count → AreTallies (zip rs cs) tallies → clocks ≡ all_clocks (roles table n)
    → Counted table n items clocks
counted_of table n rs cs tallies items clocks e f g many are clocks_are = record {
  many = ap length g ∙ many;
  are = subst (λ (ts : List Tally). AreTallies (zip (roles table n) n.classes) ts) (sym g) (subst (λ (xs : List ℕ). AreTallies (zip (roles table n) xs) tallies) f (subst (λ (xs : List Role). AreTallies (zip xs cs) tallies) e are));
  clocks_are = clocks_are;
}

pub returns-in-None-clause-sound : goal.returns-in-None-clause-sound
returns-in-None-clause-sound c =
    sound_classes c.args.table.now c.args.netlist.now c.deref-2.result.now c.clock_count.result
    (counted_of c.args.table.now c.args.netlist.now c.deref.result.now c.classes.result.now c.in_ok-tallies.tallies.items c.deref-2.result.now c.clock_count.result (c.deref.ensures.value ∙ c.in_ok-roles.ensures) c.classes.ensures.classes c.deref-2.ensures.value
    (c.in_ok-tallies.ensures.many ∙ c.count.ensures) c.in_ok-tallies.ensures.tallied (c.clock_count.ensures ∙ ap all_clocks (c.deref-3.ensures.value ∙ c.in_ok-roles.ensures)))
    c.in-None.ensures

pub returns-clause-refused : goal.returns-clause-refused
returns-clause-refused c =
    class_fault c.args.table.now c.args.netlist.now c.deref-2.result.now c.clock_count.result
    (counted_of c.args.table.now c.args.netlist.now c.deref.result.now c.classes.result.now c.in_ok-tallies.tallies.items c.deref-2.result.now c.clock_count.result (c.deref.ensures.value ∙ c.in_ok-roles.ensures) c.classes.ensures.classes c.deref-2.ensures.value
    (c.in_ok-tallies.ensures.many ∙ c.count.ensures) c.in_ok-tallies.ensures.tallied (c.clock_count.ensures ∙ ap all_clocks (c.deref-3.ensures.value ∙ c.in_ok-roles.ensures)))
    c.in-Some.fault c.in-Some.class c.in-Some.ensures c.in_ok-fault-in-Some.fault.kind c.in_ok-fault-in-Some.fault.names c.in_ok-fault-in-Some.ensures.kind c.in_ok-fault-in-Some.ensures.names
