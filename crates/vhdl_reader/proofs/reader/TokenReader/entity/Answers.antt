use Rattle.std.proofs.Common.{◌∙◌, refl, ap}
use Rattle.vhdl_front.specs.Entity.{entity}
use Rattle.vhdl_front.specs.EntityReading.{entity_at}
use Rattle.vhdl_front.proofs.EntityLanguage.{entity_answers}
use Rattle.vhdl_reader.specs.Front.{Front}
use Rattle.vhdl_reader.proofs.Right.{moved, fails_moved, read_accepts, read_refuses}
use Rattle.vhdl_reader.proofs.reader.TokenReader.entity.Goals as goal

pub returns-in-Ok-go_on-clause-right : goal.returns-in-Ok-go_on-clause-right
returns-in-Ok-go_on-clause-right c = λ fresh.
    let room = ap (λ (f : Front). f.room) c.self.view_is in
    let grown : Front → Front = λ f. record f { here = c.entity.new.self } in
    read_accepts (λ e. e) (entity c.args.self.now.room) (entity_at c.args.self.now.room) (entity_answers c.args.self.now.room) c.args.self.now.here c.entity.new.self c.args.self.now c.go_on.new.self c.in-Ok-entity.entity
    (moved entity_at c.self.inside.room c.args.self.now.room c.in-Ok.cursor c.args.self.now.here _ room c.in-Ok.ensures.here c.in-Ok-entity.ensures)
    (c.in-Ok-go_on.ensures.ok ∙ ap grown c.cursor_here.ensures.same)

pub returns-in-Err-clause-right : goal.returns-in-Err-clause-right
returns-in-Err-clause-right c = λ fresh.
    let room = ap (λ (f : Front). f.room) c.self.view_is in
    read_refuses (λ e. e) (entity c.args.self.now.room) (entity_at c.args.self.now.room) (entity_answers c.args.self.now.room) c.args.self.now.here c.args.self.now c.cursor_here.new.self c.stop.new.self c.in-Err.stop c.stop.result
    c.cursor_here.ensures.same refl
    (fails_moved entity_at c.self.inside.room c.args.self.now.room c.in-Ok.cursor c.args.self.now.here c.in-Err.stop room c.in-Ok.ensures.here c.in-Err.ensures)
    c.stop.ensures.answer c.stop.ensures.kept
