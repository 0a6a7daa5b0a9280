use Rattle.std.proofs.Common.{◌≡◌, true, false, List, map, ℕ, refl, sym, ◌∙◌, subst}
use Rattle.machine_core.specs.Order.{In}
use Rattle.source_checks.specs.declared.statement.Assignment.{Assignment}
use Rattle.source_checks.specs.declared.statement.Statement.{Statement}
use Rattle.source_checks.specs.declared.statement.Statement.TheVariants as statement
use Rattle.source_checks.specs.Symbols.{all_names}
use Rattle.source_checks.specs.Formula.{place}
use Rattle.source_checks.specs.Drivers.{target_names}
use Rattle.vlsi_model.proofs.Turning.{any_In, In_any}
use Rattle.vlsi_model.proofs.cycle.line_in.Goals as goal

pub returns-in-Assert : goal.returns-in-Assert
returns-in-Assert c = λ line d. let a = c.in-Assert.is in let b = d.is in absurd cc

pub returns : goal.returns
returns c = λ line d. let a = c.in-Block.is in let b = d.is in absurd cc

pub returns-then-contains : goal.returns-then-contains
returns-then-contains c = record {
  assignment = c.in-Assign.assignment;
  is = c.in-Assign.is;
  among = subst (λ (ks : List ℕ). In c.args.number ks) (c.deref.ensures.value ∙ c.in_ok-places-in-Assign.ensures) (any_In c.args.number c.deref.result.now (sym c.if-contains.ensures.value));
  on = refl;
}

pub returns-in-Assign : goal.returns-in-Assign
returns-in-Assign c = λ line d.
    let known = c.args.numbers.now in
    let e : statement.Assign d.assignment ≡ statement.Assign c.in-Assign.assignment = sym d.is ∙ c.in-Assign.is in
    let same : d.assignment ≡ c.in-Assign.assignment = cc e in
    let among = subst (λ (a : Assignment). In c.args.number (map (place (all_names known)) (target_names known a.target))) same d.among in
    let held = In_any c.args.number c.deref.result.now (subst (λ (ks : List ℕ). In c.args.number ks) (sym (c.deref.ensures.value ∙ c.in_ok-places-in-Assign.ensures)) among) in
    let clash : true ≡ false = sym held ∙ sym c.if-contains.ensures.value in
    absurd (cc clash)
