use Rattle.std.proofs.Common.{◌+◌, map, if◌then◌else◌}
use Rattle.bool_expr.specs.Expression.{size_of}
use Rattle.machine_core.specs.View.{register_view}
use Rattle.subject_table.specs.Grows.{Adds}
use Rattle.subject_table.proofs.Tables.{on_ok}
use Rattle.subject_graph.specs.Stages.{load_value}
use Rattle.subject_table.specs.Rules.{IsChoice, IsLoad}
use Rattle.subject_table.specs.Makes.{Makes}
use Rattle.subject_graph.proofs.Loading.{chooses}
use Rattle.subject_graph.proofs.Drawing.{chosen, not_one}
use Rattle.subject_graph.proofs.loads.load_number.Goals as goal

pub returns-clause-value : goal.returns-clause-value
returns-clause-value c =
    let r = register_view c.args.register.now in
    let xs = c.args.numbers.now in
    let own = c.args.own in
    on_ok c.choice.result (λ s. Adds c.expr-3.new.self c.choice.new.self 4 (λ y. if y c.in_ok-enable.enable then y c.in_ok-next.next else y own) s)
    (λ s. Adds c.args.table.now c.choice.new.self (4 + (size_of r.next + size_of r.enable)) (λ y. load_value r (map y xs) (y own)) s)
    (λ s h.
    chooses c.args.table.now c.expr-2.new.self c.expr-3.new.self c.choice.new.self r xs own c.in_ok-enable.enable c.in_ok-next.next s c.requires.known c.requires.own c.in_ok-enable.ensures.value
    c.in_ok-next.ensures.value h)
    c.choice.ensures.value

pub returns-clause-made : goal.returns-clause-made
returns-clause-made c =
    let r = register_view c.args.register.now in
    let xs = c.args.numbers.now in
    let own = c.args.own in
    on_ok c.choice.result (λ s. Makes c.expr-3.new.self c.choice.new.self (IsChoice c.in_ok-enable.enable c.in_ok-next.next own) s)
    (λ s. Makes c.args.table.now c.choice.new.self (IsLoad r xs own) s)
    (λ s h.
    chosen c.args.table.now c.expr-2.new.self c.expr-3.new.self c.choice.new.self r xs own c.in_ok-enable.enable c.in_ok-next.next s (not_one c.is_one.result r.enable c.is_one.ensures c.if-is_one.false) c.in_ok-enable.ensures.made
    c.in_ok-next.ensures.made h)
    c.choice.ensures.made
