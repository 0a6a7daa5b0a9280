use Rattle.std.proofs.Common.{◌≡◌, sym, ◌∙◌}
use Rattle.std.proofs.lemmas.Result.{err_from_is_err_and}
use Rattle.bdd_core.specs.declared.node.BddError.TheVariants.{Budget, Memory}
use Rattle.bdd_core.proofs.Outcomes.{least_is, outcome_same, err_low, err_high, err_made, outcome_ok, outcome_memory, known_more, known_same}
use Rattle.bdd_core.proofs.operators.+combine.Goals as goal

pub returns-in-Some-clause-outcome : goal.returns-in-Some-clause-outcome
returns-in-Some-clause-outcome t c = outcome_same _ _ _ _ _ _ c.in-Some.ensures

pub returns-in-Some-recall-clause-outcome : goal.returns-in-Some-recall-clause-outcome
returns-in-Some-recall-clause-outcome t c =
    outcome_same _ _ _ _ _ _ ((c.requires.known c.args.key c.in-Some-recall.at c.in-Some-recall.ensures).answer c.args.from c.requires.key)

pub returns-in_err-low-clause-outcome : goal.returns-in_err-low-clause-outcome
returns-in_err-low-clause-outcome t c =
    let l = least_is c.args.table.now.vars c.args.table.now.lists c.args.from c.args.key c.least-variable.result _ _ _ c.requires.key
    c.variable.ensures c.variable-2.ensures c.variable-3.ensures c.least-variable.ensures.x c.least-variable.ensures.y c.least-variable.ensures.z c.least-variable.ensures.one in
    let early = l.last c.args.from c.requires.key in
    let p = err_from_is_err_and c.from_residual.result c.from_residual.ensures.1 in
    rw (p.1, p.2)
    (err_low c.args.operator c.args.table.now c.least-variable.result c.args.key c.cofactors.result.0 c.cofactors.result.1 l c.cofactors.ensures c.args.from early c.combine.new.table.lists c.in_err-low.field-0.0 c.in_err-low.ensures.outcome)

pub returns-in_err-high-clause-outcome : goal.returns-in_err-high-clause-outcome
returns-in_err-high-clause-outcome t c =
    let l = least_is c.args.table.now.vars c.args.table.now.lists c.args.from c.args.key c.least-variable.result _ _ _ c.requires.key
    c.variable.ensures c.variable-2.ensures c.variable-3.ensures c.least-variable.ensures.x c.least-variable.ensures.y c.least-variable.ensures.z c.least-variable.ensures.one in
    let early = l.last c.args.from c.requires.key in
    let p = err_from_is_err_and c.from_residual-in_err-high.result c.from_residual-in_err-high.ensures.1 in
    rw (p.1, p.2)
    (err_high c.args.operator c.args.table.now c.least-variable.result c.args.key c.cofactors.result.0 c.cofactors.result.1 l c.cofactors.ensures
    c.combine.new.table c.in_ok-low.low c.combine.ensures.vars c.combine.ensures.budget c.in_ok-low.ensures.outcome c.args.from early c.combine-2.new.table.lists c.in_err-high.field-0.0 c.in_err-high.ensures.outcome)

pub returns-in_err-at-clause-known : goal.returns-in_err-at-clause-known
returns-in_err-at-clause-known t c = known_same c.args.operator c.combine-2.new.table c.make.new.self c.combine-2.new.memo.entries c.make.ensures.vars c.in_err-at.ensures.err c.combine-2.ensures.known

pub returns-in_err-at-clause-outcome : goal.returns-in_err-at-clause-outcome
returns-in_err-at-clause-outcome t c =
    let l = least_is c.args.table.now.vars c.args.table.now.lists c.args.from c.args.key c.least-variable.result _ _ _ c.requires.key
    c.variable.ensures c.variable-2.ensures c.variable-3.ensures c.least-variable.ensures.x c.least-variable.ensures.y c.least-variable.ensures.z c.least-variable.ensures.one in
    let early = l.last c.args.from c.requires.key in
    let p = err_from_is_err_and c.from_residual-in_err-at.result c.from_residual-in_err-at.ensures.1 in
    rw (p.1, p.2)
    (err_made c.args.operator c.args.table.now c.least-variable.result c.args.key c.cofactors.result.0 c.cofactors.result.1 l c.cofactors.ensures
    c.combine.new.table c.in_ok-low.low c.combine.ensures.vars c.combine.ensures.budget c.in_ok-low.ensures.outcome
    c.combine-2.new.table c.in_ok-high.high c.combine-2.ensures.vars c.combine-2.ensures.budget c.in_ok-high.ensures.outcome c.args.from early c.make.new.self.lists c.in_err-at.field-0.0 c.in_err-at.ensures.err c.in_err-at.ensures.over)

pub returns-in_err-remember-clause-known : goal.returns-in_err-remember-clause-known
returns-in_err-remember-clause-known t c =
    let l = least_is c.args.table.now.vars c.args.table.now.lists c.args.from c.args.key c.least-variable.result _ _ _ c.requires.key
    c.variable.ensures c.variable-2.ensures c.variable-3.ensures c.least-variable.ensures.x c.least-variable.ensures.y c.least-variable.ensures.z c.least-variable.ensures.one in
    let early = l.last c.args.from c.requires.key in
    known_more c.args.operator c.args.table.now c.least-variable.result c.args.key c.cofactors.result.0 c.cofactors.result.1 l c.cofactors.ensures
    c.combine.new.table c.in_ok-low.low c.combine.ensures.vars c.combine.ensures.budget c.in_ok-low.ensures.outcome
    c.combine-2.new.table c.in_ok-high.high c.combine-2.ensures.vars c.combine-2.ensures.budget c.in_ok-high.ensures.outcome
    c.make.new.self c.in_ok-at.at c.make.ensures.vars c.in_ok-at.ensures.ok c.combine-2.new.memo.entries c.remember.new.memo.entries c.combine-2.ensures.known c.remember.ensures.entries

pub returns-in_err-remember-clause-outcome : goal.returns-in_err-remember-clause-outcome
returns-in_err-remember-clause-outcome t c =
    let l = least_is c.args.table.now.vars c.args.table.now.lists c.args.from c.args.key c.least-variable.result _ _ _ c.requires.key
    c.variable.ensures c.variable-2.ensures c.variable-3.ensures c.least-variable.ensures.x c.least-variable.ensures.y c.least-variable.ensures.z c.least-variable.ensures.one in
    let early = l.last c.args.from c.requires.key in
    let p = err_from_is_err_and c.from_residual-in_err-remember.result c.from_residual-in_err-remember.ensures.1 in
    rw (p.1, p.2)
    (outcome_memory c.args.operator c.args.table.now c.least-variable.result c.args.key c.cofactors.result.0 c.cofactors.result.1 l c.cofactors.ensures
    c.combine.new.table c.in_ok-low.low c.combine.ensures.vars c.combine.ensures.budget c.in_ok-low.ensures.outcome
    c.combine-2.new.table c.in_ok-high.high c.combine-2.ensures.vars c.combine-2.ensures.budget c.in_ok-high.ensures.outcome
    c.make.new.self c.in_ok-at.at c.make.ensures.vars c.in_ok-at.ensures.ok c.args.from early c.in_err-remember.field-0.0 (λ b. let both : Memory ≡ Budget = sym c.in_err-remember.ensures.kind ∙ b in (cc)))

pub returns-clause-known : goal.returns-clause-known
returns-clause-known t c =
    let l = least_is c.args.table.now.vars c.args.table.now.lists c.args.from c.args.key c.least-variable.result _ _ _ c.requires.key
    c.variable.ensures c.variable-2.ensures c.variable-3.ensures c.least-variable.ensures.x c.least-variable.ensures.y c.least-variable.ensures.z c.least-variable.ensures.one in
    let early = l.last c.args.from c.requires.key in
    known_more c.args.operator c.args.table.now c.least-variable.result c.args.key c.cofactors.result.0 c.cofactors.result.1 l c.cofactors.ensures
    c.combine.new.table c.in_ok-low.low c.combine.ensures.vars c.combine.ensures.budget c.in_ok-low.ensures.outcome
    c.combine-2.new.table c.in_ok-high.high c.combine-2.ensures.vars c.combine-2.ensures.budget c.in_ok-high.ensures.outcome
    c.make.new.self c.in_ok-at.at c.make.ensures.vars c.in_ok-at.ensures.ok c.combine-2.new.memo.entries c.remember.new.memo.entries c.combine-2.ensures.known c.remember.ensures.entries

pub returns-clause-outcome : goal.returns-clause-outcome
returns-clause-outcome t c =
    let l = least_is c.args.table.now.vars c.args.table.now.lists c.args.from c.args.key c.least-variable.result _ _ _ c.requires.key
    c.variable.ensures c.variable-2.ensures c.variable-3.ensures c.least-variable.ensures.x c.least-variable.ensures.y c.least-variable.ensures.z c.least-variable.ensures.one in
    let early = l.last c.args.from c.requires.key in
    outcome_ok c.args.operator c.args.table.now c.least-variable.result c.args.key c.cofactors.result.0 c.cofactors.result.1 l c.cofactors.ensures
    c.combine.new.table c.in_ok-low.low c.combine.ensures.vars c.combine.ensures.budget c.in_ok-low.ensures.outcome
    c.combine-2.new.table c.in_ok-high.high c.combine-2.ensures.vars c.combine-2.ensures.budget c.in_ok-high.ensures.outcome
    c.make.new.self c.in_ok-at.at c.make.ensures.vars c.in_ok-at.ensures.ok c.args.from early
