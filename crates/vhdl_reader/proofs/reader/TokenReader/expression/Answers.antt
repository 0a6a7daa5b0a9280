use Rattle.std.proofs.Common.{◌∙◌, refl, ap}
use Rattle.vlsi_base.specs.Tree.{view}
use Rattle.vhdl_front.specs.Cursor.{at_first}
use Rattle.vhdl_front.specs.Expression.{expression}
use Rattle.vhdl_front.specs.Reading.{expression_at}
use Rattle.vhdl_front.proofs.Nested.{reading_answers}
use Rattle.vhdl_reader.specs.Front.{Front}
use Rattle.vhdl_reader.proofs.Right.{moved, fails_moved, read_accepts, read_refuses}
use Rattle.vhdl_reader.proofs.reader.TokenReader.expression.Goals as goal

pub returns-in-Ok-go_on-clause-right : goal.returns-in-Ok-go_on-clause-right
returns-in-Ok-go_on-clause-right c = λ fresh.
    let room = ap (λ (f : Front). f.room) c.self.view_is in
    let grown : Front → Front = λ f. record f { here = c.expression.new.self } in
    read_accepts view (expression c.args.self.now.room) (expression_at c.args.self.now.room) (reading_answers c.args.self.now.room) (at_first c.args.self.now.here) c.expression.new.self c.args.self.now c.go_on.new.self c.in-Ok-expression.parsed
    (moved expression_at c.self.inside.room c.args.self.now.room c.restart.new.self (at_first c.args.self.now.here) _ room (c.restart.ensures ∙ ap at_first c.in-Ok.ensures.here) c.in-Ok-expression.ensures)
    (c.in-Ok-go_on.ensures.ok ∙ ap grown c.cursor_here.ensures.same)

pub returns-in-Err-clause-right : goal.returns-in-Err-clause-right
returns-in-Err-clause-right c = λ fresh.
    let room = ap (λ (f : Front). f.room) c.self.view_is in
    read_refuses view (expression c.args.self.now.room) (expression_at c.args.self.now.room) (reading_answers c.args.self.now.room) (at_first c.args.self.now.here) c.args.self.now c.cursor_here.new.self c.stop.new.self c.in-Err.stop c.stop.result
    c.cursor_here.ensures.same refl
    (fails_moved expression_at c.self.inside.room c.args.self.now.room c.restart.new.self (at_first c.args.self.now.here) c.in-Err.stop room (c.restart.ensures ∙ ap at_first c.in-Ok.ensures.here) c.in-Err.ensures)
    c.stop.ensures.answer c.stop.ensures.kept
