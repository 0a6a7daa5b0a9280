use Rattle.std.proofs.Common.{rules, ◌≡◌, ◌++◌, ◌∙◌, [], ◌∷◌, true, false, Ok}
use Rattle.std.proofs.lemmas.Result.{err_from_is_err_and}
use Rattle.vhdl_token.specs.declared.keyword.Keyword.TheVariants as word
use Rattle.vhdl_token.specs.declared.token.Sign.TheVariants as sign
use Rattle.grammar_theory.specs.declared.form.Form.TheVariants as form
use Rattle.grammar_theory.specs.Tokens.{code, is_at, among}
use Rattle.grammar_theory.specs.Outcome.{Fails, list_at, with_front}
use Rattle.grammar_theory.proofs.Bundle.{among_one}
use Rattle.grammar_theory.proofs.Listing.{list_begins, list_begins_with, list_goes_on, list_fails, list_ends}
use Rattle.vhdl_front.specs.EntityReading.{next_port_at}
use Rattle.vhdl_front.proofs.EntityLanguage.{next_port_consumes}
use Rattle.vhdl_front.proofs.cursor.Cursor.more_ports.Goals as goal

pub loop-self-init : goal.loop-self-init
loop-self-init c =
    let e : c.push.new.self.items ≡ c.args.first ∷ [] = search rules in
    rw e (list_begins_with (code (form.Sign sign.Semicolon) ∷ []) (next_port_at c.args.room) (c.args.first ∷ []) c.args.self.now)

pub returns-in_err-next : goal.returns-in_err-next
returns-in_err-next c =
    let p = err_from_is_err_and c.from_residual-in_err-next.result c.from_residual-in_err-next.ensures.1 in
    let here = c.loop-self.self in
    let at : is_at (form.Sign sign.Semicolon) c.loop-self.self.rest ≡ true = search rules in
    let any : among (code (form.Sign sign.Semicolon) ∷ []) c.loop-self.self.rest ≡ true = among_one (form.Sign sign.Semicolon) c.loop-self.self.rest ∙ at in
    let read : Fails c.in_err-next.field-0.0 ((next_port_at c.args.room) here) = search rules in
    rw (p.1, p.2) (list_fails (code (form.Sign sign.Semicolon) ∷ []) (next_port_at c.args.room) c.loop-self.ports.items here (with_front (c.args.first ∷ []) (list_at (code (form.Sign sign.Semicolon) ∷ []) (next_port_at c.args.room) c.args.self.now)) c.loop-self.invariant any c.in_err-next.field-0.0 read)

pub loop-self-preserved : goal.loop-self-preserved
loop-self-preserved c =
    let here = c.loop-self.self in
    let there = c.next_port.new.self in
    let at : is_at (form.Sign sign.Semicolon) c.loop-self.self.rest ≡ true = search rules in
    let read : (next_port_at c.args.room) here ≡ Ok (c.in_ok-next.next, there) = search rules in
    let any : among (code (form.Sign sign.Semicolon) ∷ []) c.loop-self.self.rest ≡ true = among_one (form.Sign sign.Semicolon) c.loop-self.self.rest ∙ at in
    let e : c.push-in-loop-self.new.self.items ≡ c.loop-self.ports.items ++ c.in_ok-next.next ∷ [] = search rules in
    rw e (list_goes_on (code (form.Sign sign.Semicolon) ∷ []) (next_port_at c.args.room) c.loop-self.ports.items here (with_front (c.args.first ∷ []) (list_at (code (form.Sign sign.Semicolon) ∷ []) (next_port_at c.args.room) c.args.self.now)) c.loop-self.invariant any c.in_ok-next.next there read (next_port_consumes c.args.room here there c.in_ok-next.next read))

pub loop-self-smaller : goal.loop-self-smaller
loop-self-smaller c =
    let here = c.loop-self.self in
    let there = c.next_port.new.self in
    let at : is_at (form.Sign sign.Semicolon) c.loop-self.self.rest ≡ true = search rules in
    let read : (next_port_at c.args.room) here ≡ Ok (c.in_ok-next.next, there) = search rules in
    next_port_consumes c.args.room here there c.in_ok-next.next read

pub returns : goal.returns
returns c =
    let at : is_at (form.Sign sign.Semicolon) c.loop-self.self.rest ≡ false = search rules in
    list_ends (code (form.Sign sign.Semicolon) ∷ []) (next_port_at c.args.room) c.loop-self.ports.items c.loop-self.self (with_front (c.args.first ∷ []) (list_at (code (form.Sign sign.Semicolon) ∷ []) (next_port_at c.args.room) c.args.self.now)) c.loop-self.invariant (among_one (form.Sign sign.Semicolon) c.loop-self.self.rest ∙ at)
