use Rattle.std.proofs.Common.{rules, arith, ◌≡◌, ◌<◌, ◌++◌, ◌∙◌, List, [], ◌∷◌, true, false, length, map, Ok}
use Rattle.std.proofs.lemmas.Result.{err_from_is_err_and}
use Rattle.std.proofs.lemmas.List.{map_push}
use Rattle.vlsi_base.specs.Tree.{operand_of}
use Rattle.vhdl_token.specs.declared.token.Sign.TheVariants as sign
use Rattle.grammar_theory.specs.declared.form.Form.TheVariants as form
use Rattle.grammar_theory.specs.Tokens.{code, is_at, among}
use Rattle.grammar_theory.specs.Outcome.{Fails, list_at, with_front}
use Rattle.grammar_theory.proofs.Bundle.{among_one}
use Rattle.grammar_theory.proofs.Listing.{list_begins, list_begins_with, list_goes_on, list_fails, list_ends}
use Rattle.vhdl_front.specs.Reading.{joined_at, factor_at, relation_at, enter_at}
use Rattle.vhdl_front.proofs.Nested.{factor_consumes, relation_consumes}
use Rattle.vhdl_front.proofs.cursor.Cursor.+parser.Goals as goal

pub more_factors-loop-self-init : goal.more_factors-loop-self-init
more_factors-loop-self-init t c =
    let e : map operand_of c.new-others.result.items ≡ [] = search rules in
    rw e (list_begins (code (form.Sign sign.Ampersand) ∷ []) (joined_at (form.Sign sign.Ampersand) (factor_at c.args.room (enter_at c.args.room))) c.args.self.now)

pub more_factors-returns-in_err-item : goal.more_factors-returns-in_err-item
more_factors-returns-in_err-item t c =
    let p = err_from_is_err_and c.from_residual.result c.from_residual.ensures.1 in
    let here = c.loop-self.self in
    let at : is_at (form.Sign sign.Ampersand) c.loop-self.self.rest ≡ true = search rules in
    let any : among (code (form.Sign sign.Ampersand) ∷ []) c.loop-self.self.rest ≡ true = among_one (form.Sign sign.Ampersand) c.loop-self.self.rest ∙ at in
    let read : Fails c.in_err-item.field-0.0 (joined_at (form.Sign sign.Ampersand) (factor_at c.args.room (enter_at c.args.room)) here) = search rules in
    rw (p.1, p.2) (list_fails (code (form.Sign sign.Ampersand) ∷ []) (joined_at (form.Sign sign.Ampersand) (factor_at c.args.room (enter_at c.args.room))) (map operand_of c.loop-self.others.items) here
    (list_at (code (form.Sign sign.Ampersand) ∷ []) (joined_at (form.Sign sign.Ampersand) (factor_at c.args.room (enter_at c.args.room))) c.args.self.now) c.loop-self.invariant any c.in_err-item.field-0.0 read)

pub more_factors-loop-self-preserved : goal.more_factors-loop-self-preserved
more_factors-loop-self-preserved t c =
    let at : is_at (form.Sign sign.Ampersand) c.loop-self.self.rest ≡ true = search rules in
    let here = c.loop-self.self in
    let there = c.joined_factor.new.self in
    let read : joined_at (form.Sign sign.Ampersand) (factor_at c.args.room (enter_at c.args.room)) here ≡ Ok (operand_of c.in_ok-item.item, there) = search rules in
    let any : among (code (form.Sign sign.Ampersand) ∷ []) c.loop-self.self.rest ≡ true = among_one (form.Sign sign.Ampersand) c.loop-self.self.rest ∙ at in
    let e : map operand_of c.push.new.self.items ≡ map operand_of c.loop-self.others.items ++ operand_of c.in_ok-item.item ∷ [] = rw c.in_ok-push.ensures.items (map_push operand_of c.loop-self.others.items c.in_ok-item.item) in
    rw e (list_goes_on (code (form.Sign sign.Ampersand) ∷ []) (joined_at (form.Sign sign.Ampersand) (factor_at c.args.room (enter_at c.args.room))) (map operand_of c.loop-self.others.items) here (list_at (code (form.Sign sign.Ampersand) ∷ []) (joined_at (form.Sign sign.Ampersand) (factor_at c.args.room (enter_at c.args.room))) c.args.self.now) c.loop-self.invariant any (operand_of c.in_ok-item.item) there read (factor_consumes c.args.room here there (operand_of c.in_ok-item.item) read))

pub more_factors-loop-self-smaller : goal.more_factors-loop-self-smaller
more_factors-loop-self-smaller t c =
    let at : is_at (form.Sign sign.Ampersand) c.loop-self.self.rest ≡ true = search rules in
    let here = c.loop-self.self in
    let there = c.joined_factor.new.self in
    let read : joined_at (form.Sign sign.Ampersand) (factor_at c.args.room (enter_at c.args.room)) here ≡ Ok (operand_of c.in_ok-item.item, there) = search rules in
    factor_consumes c.args.room here there (operand_of c.in_ok-item.item) read

pub more_factors-returns : goal.more_factors-returns
more_factors-returns t c =
    let at : is_at (form.Sign sign.Ampersand) c.loop-self.self.rest ≡ false = search rules in
    list_ends (code (form.Sign sign.Ampersand) ∷ []) (joined_at (form.Sign sign.Ampersand) (factor_at c.args.room (enter_at c.args.room))) (map operand_of c.loop-self.others.items) c.loop-self.self
    (list_at (code (form.Sign sign.Ampersand) ∷ []) (joined_at (form.Sign sign.Ampersand) (factor_at c.args.room (enter_at c.args.room))) c.args.self.now) c.loop-self.invariant (among_one (form.Sign sign.Ampersand) c.loop-self.self.rest ∙ at)

pub more_relations-loop-form-init : goal.more_relations-loop-form-init
more_relations-loop-form-init t c =
    let e : map operand_of c.push.new.self.items ≡ operand_of c.args.first ∷ [] = search rules in
    rw e (list_begins_with (code c.args.form ∷ []) (joined_at c.args.form (relation_at c.args.room (enter_at c.args.room))) (operand_of c.args.first ∷ []) c.args.self.now)

pub more_relations-returns-in_err-item : goal.more_relations-returns-in_err-item
more_relations-returns-in_err-item t c =
    let p = err_from_is_err_and c.from_residual-in_err-item.result c.from_residual-in_err-item.ensures.1 in
    let here = c.loop-form.self in
    let at : is_at c.args.form c.loop-form.self.rest ≡ true = search rules in
    let any : among (code c.args.form ∷ []) c.loop-form.self.rest ≡ true = among_one c.args.form c.loop-form.self.rest ∙ at in
    let read : Fails c.in_err-item.field-0.0 (joined_at c.args.form (relation_at c.args.room (enter_at c.args.room)) here) = search rules in
    rw (p.1, p.2) (list_fails (code c.args.form ∷ []) (joined_at c.args.form (relation_at c.args.room (enter_at c.args.room))) (map operand_of c.loop-form.others.items) here (with_front (operand_of c.args.first ∷ []) (list_at (code c.args.form ∷ []) (joined_at c.args.form (relation_at c.args.room (enter_at c.args.room))) c.args.self.now)) c.loop-form.invariant any c.in_err-item.field-0.0 read)

pub more_relations-loop-form-preserved : goal.more_relations-loop-form-preserved
more_relations-loop-form-preserved t c =
    let here = c.loop-form.self in
    let there = c.joined_relation.new.self in
    let at : is_at c.args.form c.loop-form.self.rest ≡ true = search rules in
    let read : joined_at c.args.form (relation_at c.args.room (enter_at c.args.room)) here ≡ Ok (operand_of c.in_ok-item.item, there) = search rules in
    let any : among (code c.args.form ∷ []) c.loop-form.self.rest ≡ true = among_one c.args.form c.loop-form.self.rest ∙ at in
    let e : map operand_of c.push-in-loop-form.new.self.items ≡ map operand_of c.loop-form.others.items ++ operand_of c.in_ok-item.item ∷ [] = rw c.in_ok-push-2.ensures.items (map_push operand_of c.loop-form.others.items c.in_ok-item.item) in
    rw e (list_goes_on (code c.args.form ∷ []) (joined_at c.args.form (relation_at c.args.room (enter_at c.args.room))) (map operand_of c.loop-form.others.items) here (with_front (operand_of c.args.first ∷ []) (list_at (code c.args.form ∷ []) (joined_at c.args.form (relation_at c.args.room (enter_at c.args.room))) c.args.self.now)) c.loop-form.invariant any (operand_of c.in_ok-item.item) there read (relation_consumes c.args.form c.args.room here there (operand_of c.in_ok-item.item) read))

pub more_relations-loop-form-smaller : goal.more_relations-loop-form-smaller
more_relations-loop-form-smaller t c =
    let here = c.loop-form.self in
    let there = c.joined_relation.new.self in
    let at : is_at c.args.form c.loop-form.self.rest ≡ true = search rules in
    let read : joined_at c.args.form (relation_at c.args.room (enter_at c.args.room)) here ≡ Ok (operand_of c.in_ok-item.item, there) = search rules in
    relation_consumes c.args.form c.args.room here there (operand_of c.in_ok-item.item) read

pub more_relations-returns : goal.more_relations-returns
more_relations-returns t c =
    let at : is_at c.args.form c.loop-form.self.rest ≡ false = search rules in
    list_ends (code c.args.form ∷ []) (joined_at c.args.form (relation_at c.args.room (enter_at c.args.room))) (map operand_of c.loop-form.others.items) c.loop-form.self (with_front (operand_of c.args.first ∷ []) (list_at (code c.args.form ∷ []) (joined_at c.args.form (relation_at c.args.room (enter_at c.args.room))) c.args.self.now)) c.loop-form.invariant (among_one c.args.form c.loop-form.self.rest ∙ at)
