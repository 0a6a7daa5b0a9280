use Rattle.std.proofs.Common.{◌≡◌, subst, sym, ap, rules, length, arith}
use Rattle.catal.specs.declared.reader.Cells.{Cells}
use Rattle.catal.specs.Lines.{Takes}
use Rattle.catal.proofs.Listing.{read_of, takes_nothing, refuses_formless, refuses_long, refuses_again, takes_cell, takes_unused}
use Rattle.catal.proofs.reader.Cells.take.Goals as goal
use Rattle.catal.proofs.reader.Cells.take.Goals.{else-used-via-then-used+in_ok-add+else-not-branch, else-used-via-else-used}

pub returns-then-is_empty-clause-taken : goal.returns-then-is_empty-clause-taken
returns-then-is_empty-clause-taken c = takes_nothing c.args.line.now c.args.self.now.names (sym (c.if-is_empty.ensures))

pub returns-in_default-clause-refused : goal.returns-in_default-clause-refused
returns-in_default-clause-refused c =
    refuses_formless c.args.self.now.names c.args.number c.args.line.now (sym c.if-is_empty.ensures) (c.in_ok-name.ensures.none (search rules))

pub returns-then-length-gt-MOST_IDENTIFIER_BYTES-clause-refused : goal.returns-then-length-gt-MOST_IDENTIFIER_BYTES-clause-refused
returns-then-length-gt-MOST_IDENTIFIER_BYTES-clause-refused c =
    let n : length c.as_bytes-length.result.now ≡ length c.in-Some.field-0.name = ap length c.as_bytes-length.ensures in
    refuses_long c.args.self.now.names c.args.number c.args.line.now c.in-Some.field-0 c.limit.result
    (read_of c.args.line.now c.in_ok-name.field-0 c.in-Some.field-0 c.in-Some.is c.in_ok-name.ensures.some)
    (omega (arith, n, c.if-length-gt-MOST_IDENTIFIER_BYTES.true)) (rw (← n) c.limit.ensures)

pub returns-then-not-branch-clause-refused : goal.returns-then-not-branch-clause-refused
returns-then-not-branch-clause-refused c =
    refuses_again c.args.self.now.names c.args.number c.args.line.now c.in-Some.field-0 c.in_ok-add.field-0 c.add.new.self
    (read_of c.args.line.now c.in_ok-name.field-0 c.in-Some.field-0 c.in-Some.is c.in_ok-name.ensures.some)
    (search rules) c.if-not-branch.true (c.in_ok-add.ensures)

pub returns-clause-taken : goal.returns-clause-taken
returns-clause-taken c =
    let n : length c.as_bytes-length.result.now ≡ length c.in-Some.field-0.name = ap length c.as_bytes-length.ensures in
    elim c.else-used.branch [
      | else-used-via-then-used+in_ok-add+else-not-branch w ↦
          (takes_cell c.args.self.now.names c.args.line.now c.in-Some.field-0 w.in_ok-add.field-0 c.else-used.self
          (read_of c.args.line.now c.in_ok-name.field-0 c.in-Some.field-0 c.in-Some.is c.in_ok-name.ensures.some)
          (search rules) w.if-not-branch.false (λ long. omega (arith, n, long, c.if-length-gt-MOST_IDENTIFIER_BYTES.false)) (search rules))
      | else-used-via-else-used w ↦
          (let kept : c.args.self.now ≡ c.else-used.self = search rules in
          subst (λ (cells : Cells). Takes c.args.line.now c.args.self.now.names cells.names) kept
          (takes_unused c.args.self.now.names c.args.line.now c.in-Some.field-0
          (read_of c.args.line.now c.in_ok-name.field-0 c.in-Some.field-0 c.in-Some.is c.in_ok-name.ensures.some)
          (search rules) (λ long. omega (arith, n, long, c.if-length-gt-MOST_IDENTIFIER_BYTES.false))))
    ]
