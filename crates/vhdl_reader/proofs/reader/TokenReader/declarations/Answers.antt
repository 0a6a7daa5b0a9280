use Rattle.std.proofs.Common.{◌∙◌, refl, ap}
use Rattle.vhdl_front.specs.Entity.{declarations}
use Rattle.vhdl_front.specs.EntityReading.{declarations_at}
use Rattle.vhdl_front.proofs.EntityLanguage.{declarations_answers}
use Rattle.vhdl_reader.specs.Front.{Front}
use Rattle.vhdl_reader.proofs.Right.{moved, fails_moved, read_accepts, read_refuses}
use Rattle.vhdl_reader.proofs.reader.TokenReader.declarations.Goals as goal

pub returns-in-Ok-go_on-clause-right : goal.returns-in-Ok-go_on-clause-right
returns-in-Ok-go_on-clause-right c = λ fresh.
    let room = ap (λ (f : Front). f.room) c.self.view_is in
    let grown : Front → Front = λ f. record f { here = c.declarations.new.self } in
    read_accepts (λ d. d) (declarations c.args.self.now.room) (declarations_at c.args.self.now.room) (declarations_answers c.args.self.now.room) c.args.self.now.here c.declarations.new.self c.args.self.now c.go_on.new.self c.in-Ok-declarations.declarations
    (moved declarations_at c.self.inside.room c.args.self.now.room c.in-Ok.cursor c.args.self.now.here _ room c.in-Ok.ensures.here c.in-Ok-declarations.ensures)
    (c.in-Ok-go_on.ensures.ok ∙ ap grown c.cursor_here.ensures.same)

pub returns-in-Err-clause-right : goal.returns-in-Err-clause-right
returns-in-Err-clause-right c = λ fresh.
    let room = ap (λ (f : Front). f.room) c.self.view_is in
    read_refuses (λ d. d) (declarations c.args.self.now.room) (declarations_at c.args.self.now.room) (declarations_answers c.args.self.now.room) c.args.self.now.here c.args.self.now c.cursor_here.new.self c.stop.new.self c.in-Err.stop c.stop.result
    c.cursor_here.ensures.same refl
    (fails_moved declarations_at c.self.inside.room c.args.self.now.room c.in-Ok.cursor c.args.self.now.here c.in-Err.stop room c.in-Ok.ensures.here c.in-Err.ensures)
    c.stop.ensures.answer c.stop.ensures.kept
