use Rattle.std.proofs.Common.{◌≡◌, rules}
use Rattle.std.proofs.lemmas.Result.{err_from_is_err_and}
use Rattle.bool_expr.specs.Expression.{inverse, pair, choice}
use Rattle.bool_expr.specs.View.{view}
use Rattle.bdd_core.proofs.Asking.{opposite_answer, pair_answer, choice_answer, opposite_refused, first_refused, second_refused, condition_refused, one_refused, other_refused}
use Rattle.bdd_core.proofs.diagrams.Diagrams.+of_expr.Goals as goal

pub returns-in_ok-a-in-Not : goal.returns-in_ok-a-in-Not
returns-in_ok-a-in-Not t c =
    let is : view c.args.e.now ≡ inverse (view c.deref.result.now) = search rules in
    rw is (opposite_answer c.args.self.now c.args.bound.now c.requires.bound c.of_expr.new.self c.apply.new.self (view c.deref.result.now)
    c.in_ok-a-in-Not.a c.apply.result c.in_ok-a-in-Not.ensures c.apply.ensures)

pub returns-in_err-a-in-Not : goal.returns-in_err-a-in-Not
returns-in_err-a-in-Not t c =
    let x = err_from_is_err_and c.from_residual.result c.from_residual.ensures.1 in
    let is : view c.args.e.now ≡ inverse (view c.deref.result.now) = search rules in
    rw (x.1, x.2, is) (opposite_refused c.args.self.now c.args.bound.now c.requires.bound c.of_expr.new.self (view c.deref.result.now)
    c.in_err-a-in-Not.field-0.0 c.in_err-a-in-Not.ensures)

pub returns-in_ok-b-in-Pair : goal.returns-in_ok-b-in-Pair
returns-in_ok-b-in-Pair t c =
    let is : view c.args.e.now ≡ pair c.in-Pair.gate (view c.deref-in-Pair.result.now) (view c.deref-in-Pair-2.result.now) = search rules in
    rw is (pair_answer c.args.self.now c.args.bound.now c.requires.bound c.of_expr-in-Pair.new.self c.of_expr-in-Pair-2.new.self c.apply-in-Pair.new.self
    c.in-Pair.gate (view c.deref-in-Pair.result.now) (view c.deref-in-Pair-2.result.now) c.in_ok-a-in-Pair.a c.in_ok-b-in-Pair.b c.apply-in-Pair.result
    c.in_ok-a-in-Pair.ensures c.in_ok-b-in-Pair.ensures c.apply-in-Pair.ensures)

pub returns-in_err-a-in-Pair : goal.returns-in_err-a-in-Pair
returns-in_err-a-in-Pair t c =
    let x = err_from_is_err_and c.from_residual-in_err-a-in-Pair.result c.from_residual-in_err-a-in-Pair.ensures.1 in
    let is : view c.args.e.now ≡ pair c.in-Pair.gate (view c.deref-in-Pair.result.now) (view c.in-Pair.right.value) = search rules in
    rw (x.1, x.2, is) (first_refused c.args.self.now c.args.bound.now c.requires.bound c.of_expr-in-Pair.new.self
    c.in-Pair.gate (view c.deref-in-Pair.result.now) (view c.in-Pair.right.value) c.in_err-a-in-Pair.field-0.0 c.in_err-a-in-Pair.ensures)

pub returns-in_err-b-in-Pair : goal.returns-in_err-b-in-Pair
returns-in_err-b-in-Pair t c =
    let x = err_from_is_err_and c.from_residual-in_err-b-in-Pair.result c.from_residual-in_err-b-in-Pair.ensures.1 in
    let is : view c.args.e.now ≡ pair c.in-Pair.gate (view c.deref-in-Pair.result.now) (view c.deref-in-Pair-2.result.now) = search rules in
    rw (x.1, x.2, is) (second_refused c.args.self.now c.args.bound.now c.requires.bound c.of_expr-in-Pair.new.self c.of_expr-in-Pair-2.new.self
    c.in-Pair.gate (view c.deref-in-Pair.result.now) (view c.deref-in-Pair-2.result.now) c.in_ok-a-in-Pair.a c.in_err-b-in-Pair.field-0.0
    c.in_ok-a-in-Pair.ensures c.in_err-b-in-Pair.ensures)

pub returns-in_ok-b-in-Choice : goal.returns-in_ok-b-in-Choice
returns-in_ok-b-in-Choice t c =
    let is : view c.args.e.now ≡ choice (view c.deref-in-Choice.result.now) (view c.deref-in-Choice-2.result.now) (view c.deref-in-Choice-3.result.now) = search rules in
    rw is (choice_answer c.args.self.now c.args.bound.now c.requires.bound c.of_expr-in-Choice.new.self c.of_expr-in-Choice-2.new.self c.of_expr-in-Choice-3.new.self
    c.choice.new.self (view c.deref-in-Choice.result.now) (view c.deref-in-Choice-2.result.now) (view c.deref-in-Choice-3.result.now)
    c.in_ok-c-in-Choice.c c.in_ok-a-in-Choice.a c.in_ok-b-in-Choice.b c.choice.result
    c.in_ok-c-in-Choice.ensures c.in_ok-a-in-Choice.ensures c.in_ok-b-in-Choice.ensures c.choice.ensures)

pub returns-in_err-c-in-Choice : goal.returns-in_err-c-in-Choice
returns-in_err-c-in-Choice t c =
    let x = err_from_is_err_and c.from_residual-in_err-c-in-Choice.result c.from_residual-in_err-c-in-Choice.ensures.1 in
    let is : view c.args.e.now ≡ choice (view c.deref-in-Choice.result.now) (view c.in-Choice.first.value) (view c.in-Choice.second.value) = search rules in
    rw (x.1, x.2, is) (condition_refused c.args.self.now c.args.bound.now c.requires.bound c.of_expr-in-Choice.new.self
    (view c.deref-in-Choice.result.now) (view c.in-Choice.first.value) (view c.in-Choice.second.value)
    c.in_err-c-in-Choice.field-0.0 c.in_err-c-in-Choice.ensures)

pub returns-in_err-a-in-Choice : goal.returns-in_err-a-in-Choice
returns-in_err-a-in-Choice t c =
    let x = err_from_is_err_and c.from_residual-in_err-a-in-Choice.result c.from_residual-in_err-a-in-Choice.ensures.1 in
    let is : view c.args.e.now ≡ choice (view c.deref-in-Choice.result.now) (view c.deref-in-Choice-2.result.now) (view c.in-Choice.second.value) = search rules in
    rw (x.1, x.2, is) (one_refused c.args.self.now c.args.bound.now c.requires.bound c.of_expr-in-Choice.new.self c.of_expr-in-Choice-2.new.self
    (view c.deref-in-Choice.result.now) (view c.deref-in-Choice-2.result.now) (view c.in-Choice.second.value)
    c.in_ok-c-in-Choice.c c.in_err-a-in-Choice.field-0.0 c.in_ok-c-in-Choice.ensures c.in_err-a-in-Choice.ensures)

pub returns-in_err-b-in-Choice : goal.returns-in_err-b-in-Choice
returns-in_err-b-in-Choice t c =
    let x = err_from_is_err_and c.from_residual-in_err-b-in-Choice.result c.from_residual-in_err-b-in-Choice.ensures.1 in
    let is : view c.args.e.now ≡ choice (view c.deref-in-Choice.result.now) (view c.deref-in-Choice-2.result.now) (view c.deref-in-Choice-3.result.now) = search rules in
    rw (x.1, x.2, is) (other_refused c.args.self.now c.args.bound.now c.requires.bound c.of_expr-in-Choice.new.self c.of_expr-in-Choice-2.new.self c.of_expr-in-Choice-3.new.self
    (view c.deref-in-Choice.result.now) (view c.deref-in-Choice-2.result.now) (view c.deref-in-Choice-3.result.now)
    c.in_ok-c-in-Choice.c c.in_ok-a-in-Choice.a c.in_err-b-in-Choice.field-0.0
    c.in_ok-c-in-Choice.ensures c.in_ok-a-in-Choice.ensures c.in_err-b-in-Choice.ensures)
