use Rattle.std.proofs.Common.{rules, ◌≡◌, ◌++◌, ◌∙◌, [], ◌∷◌, true, false, Ok}
use Rattle.std.proofs.lemmas.Result.{err_from_is_err_and}
use Rattle.vhdl_token.specs.declared.token.Sign.TheVariants as sign
use Rattle.grammar_theory.specs.declared.form.Form.TheVariants as form
use Rattle.grammar_theory.specs.Tokens.{code, is_at, among}
use Rattle.grammar_theory.specs.Outcome.{Fails, take_at, list_at}
use Rattle.grammar_theory.proofs.Bundle.{among_one}
use Rattle.grammar_theory.proofs.Listing.{list_begins, list_goes_on, list_fails, list_ends}
use Rattle.pat_text.specs.Reading.{semicolons_at}
use Rattle.pat_text.proofs.PatLanguage.{semicolon_consumes}
use Rattle.pat_text.proofs.columns.semicolons.Goals as goal

pub loop-cursor-init : goal.loop-cursor-init
loop-cursor-init c = record { done = []; listed = list_begins (code (form.Sign sign.Semicolon) ∷ []) (take_at (form.Sign sign.Semicolon)) c.args.cursor.now }

pub returns-in_err-_next : goal.returns-in_err-_next
unfolding semicolons_at
returns-in_err-_next c =
    let p = err_from_is_err_and c.from_residual.result c.from_residual.ensures.1 in
    let kinds = code (form.Sign sign.Semicolon) ∷ [] in
    let item = take_at (form.Sign sign.Semicolon) in
    let here = c.loop-cursor.cursor in
    let at : is_at (form.Sign sign.Semicolon) c.loop-cursor.cursor.rest ≡ true = search rules in
    let any : among (code (form.Sign sign.Semicolon) ∷ []) c.loop-cursor.cursor.rest ≡ true = among_one (form.Sign sign.Semicolon) c.loop-cursor.cursor.rest ∙ at in
    let read : Fails c.in_err-_next.field-0.0 (take_at (form.Sign sign.Semicolon) here) = search rules in
    rw (p.1, p.2) (list_fails kinds item c.loop-cursor.invariant.done here (list_at kinds item c.args.cursor.now) c.loop-cursor.invariant.listed any c.in_err-_next.field-0.0 read)

pub loop-cursor-preserved : goal.loop-cursor-preserved
loop-cursor-preserved c =
    let kinds = code (form.Sign sign.Semicolon) ∷ [] in
    let item = take_at (form.Sign sign.Semicolon) in
    let here = c.loop-cursor.cursor in
    let there = c.take.new.self in
    let at : is_at (form.Sign sign.Semicolon) c.loop-cursor.cursor.rest ≡ true = search rules in
    let any : among (code (form.Sign sign.Semicolon) ∷ []) c.loop-cursor.cursor.rest ≡ true = among_one (form.Sign sign.Semicolon) c.loop-cursor.cursor.rest ∙ at in
    let read : take_at (form.Sign sign.Semicolon) here ≡ Ok (c.in_ok-_next._next.now, there) = search rules in
    record { done = c.loop-cursor.invariant.done ++ c.in_ok-_next._next.now ∷ []; listed = list_goes_on kinds item c.loop-cursor.invariant.done here (list_at kinds item c.args.cursor.now) c.loop-cursor.invariant.listed any c.in_ok-_next._next.now there read (semicolon_consumes here there c.in_ok-_next._next.now read) }

pub loop-cursor-smaller : goal.loop-cursor-smaller
loop-cursor-smaller c =
    let here = c.loop-cursor.cursor in
    let there = c.take.new.self in
    let read : take_at (form.Sign sign.Semicolon) here ≡ Ok (c.in_ok-_next._next.now, there) = search rules in
    semicolon_consumes here there c.in_ok-_next._next.now read

pub returns : goal.returns
unfolding semicolons_at
returns c =
    let kinds = code (form.Sign sign.Semicolon) ∷ [] in
    let item = take_at (form.Sign sign.Semicolon) in
    let at : is_at (form.Sign sign.Semicolon) c.loop-cursor.cursor.rest ≡ false = search rules in
    (c.loop-cursor.invariant.done, list_ends kinds item c.loop-cursor.invariant.done c.loop-cursor.cursor (list_at kinds item c.args.cursor.now) c.loop-cursor.invariant.listed (among_one (form.Sign sign.Semicolon) c.loop-cursor.cursor.rest ∙ at))
