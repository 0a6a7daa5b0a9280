use Rattle.std.proofs.Common.{rules, arith, ◌≡◌, ◌-◌, ◌<◌, ◌++◌, ◌∙◌, [], ◌∷◌, true, false, length, map, Ok}
use Rattle.std.specs.Option.{option_map}
use Rattle.std.proofs.lemmas.Result.{err_from_is_err_and}
use Rattle.std.proofs.lemmas.List.{map_push}
use Rattle.vhdl_token.specs.declared.keyword.Keyword.TheVariants as word
use Rattle.grammar_theory.specs.declared.form.Form.TheVariants as form
use Rattle.grammar_theory.specs.Tokens.{code, is_at, among}
use Rattle.grammar_theory.specs.Outcome.{Fails, list_at}
use Rattle.grammar_theory.proofs.Bundle.{among_one}
use Rattle.grammar_theory.proofs.Listing.{list_begins, list_goes_on, list_fails, list_ends}
use Rattle.fsm_text.specs.Written.{statement_view, body_view, branches_view, branches_of}
use Rattle.fsm_text.specs.FsmReading.{further_part_at, statement_at, statement_kinds, statement_list_at, inner_at}
use Rattle.fsm_text.specs.Pieces.{part_view, branch_view, goes_on, led_branch_at, listed_list_at, others_at}
use Rattle.fsm_text.proofs.Nested.{statement_consumes, further_part_consumes, led_branch_consumes, inner_is_body}
use Rattle.fsm_text.proofs.Listing as branches
use Rattle.fsm_text.proofs.statements.+statements.Goals as goal

-- what stands in an if or a case: one less may be open
pub inner-returns : goal.inner-returns
inner-returns t c = rw (inner_is_body c.args.room c.requires c.args.cursor.now) c.body.ensures

pub further_parts-loop-cursor-init : goal.further_parts-loop-cursor-init
further_parts-loop-cursor-init t c =
    let e : map part_view c.new-parts.result.items ≡ [] = search rules in
    rw e (list_begins (code (form.Keyword word.Elsif) ∷ []) (further_part_at (c.args.room - 1) (inner_at c.args.room)) c.args.cursor.now)

pub further_parts-returns-in_err-next : goal.further_parts-returns-in_err-next
further_parts-returns-in_err-next t c =
    let p = err_from_is_err_and c.from_residual.result c.from_residual.ensures.1 in
    let here = c.loop-cursor.cursor in
    let at : is_at (form.Keyword word.Elsif) c.loop-cursor.cursor.rest ≡ true = search rules in
    let any : among (code (form.Keyword word.Elsif) ∷ []) c.loop-cursor.cursor.rest ≡ true = among_one (form.Keyword word.Elsif) c.loop-cursor.cursor.rest ∙ at in
    let read : Fails c.in_err-next.field-0.0 ((further_part_at (c.args.room - 1) (inner_at c.args.room)) here) = search rules in
    rw (p.1, p.2) (list_fails (code (form.Keyword word.Elsif) ∷ []) (further_part_at (c.args.room - 1) (inner_at c.args.room)) (map part_view c.loop-cursor.parts.items) here (list_at (code (form.Keyword word.Elsif) ∷ []) (further_part_at (c.args.room - 1) (inner_at c.args.room)) c.args.cursor.now) c.loop-cursor.invariant any c.in_err-next.field-0.0 read)

pub further_parts-loop-cursor-preserved : goal.further_parts-loop-cursor-preserved
further_parts-loop-cursor-preserved t c =
    let at : is_at (form.Keyword word.Elsif) c.loop-cursor.cursor.rest ≡ true = search rules in
    let any : among (code (form.Keyword word.Elsif) ∷ []) c.loop-cursor.cursor.rest ≡ true = among_one (form.Keyword word.Elsif) c.loop-cursor.cursor.rest ∙ at in
    let here = c.loop-cursor.cursor in
    let there = c.further_part.new.cursor in
    let read : (further_part_at (c.args.room - 1) (inner_at c.args.room)) here ≡ Ok (part_view c.in_ok-next.next, there) = search rules in
    let e : map part_view c.push.new.self.items ≡ map part_view c.loop-cursor.parts.items ++ part_view c.in_ok-next.next ∷ [] = rw c.in_ok-push.ensures.items (map_push part_view c.loop-cursor.parts.items c.in_ok-next.next) in
    rw e (list_goes_on (code (form.Keyword word.Elsif) ∷ []) (further_part_at (c.args.room - 1) (inner_at c.args.room)) (map part_view c.loop-cursor.parts.items) here (list_at (code (form.Keyword word.Elsif) ∷ []) (further_part_at (c.args.room - 1) (inner_at c.args.room)) c.args.cursor.now) c.loop-cursor.invariant any (part_view c.in_ok-next.next) there read (further_part_consumes c.args.room c.requires here there (part_view c.in_ok-next.next) read))

pub further_parts-loop-cursor-smaller : goal.further_parts-loop-cursor-smaller
further_parts-loop-cursor-smaller t c =
    let here = c.loop-cursor.cursor in
    let there = c.further_part.new.cursor in
    let read : (further_part_at (c.args.room - 1) (inner_at c.args.room)) here ≡ Ok (part_view c.in_ok-next.next, there) = search rules in
    further_part_consumes c.args.room c.requires here there (part_view c.in_ok-next.next) read

pub further_parts-returns : goal.further_parts-returns
further_parts-returns t c =
    let at : is_at (form.Keyword word.Elsif) c.loop-cursor.cursor.rest ≡ false = search rules in
    let any : among (code (form.Keyword word.Elsif) ∷ []) c.loop-cursor.cursor.rest ≡ false = among_one (form.Keyword word.Elsif) c.loop-cursor.cursor.rest ∙ at in
    list_ends (code (form.Keyword word.Elsif) ∷ []) (further_part_at (c.args.room - 1) (inner_at c.args.room)) (map part_view c.loop-cursor.parts.items) c.loop-cursor.cursor (list_at (code (form.Keyword word.Elsif) ∷ []) (further_part_at (c.args.room - 1) (inner_at c.args.room)) c.args.cursor.now) c.loop-cursor.invariant any

pub statement_list-loop-cursor-init : goal.statement_list-loop-cursor-init
unfolding statement_list_at
statement_list-loop-cursor-init t c =
    let e : map statement_view c.new-statements.result.items ≡ [] = search rules in
    rw e (list_begins statement_kinds (statement_at c.args.room (inner_at c.args.room)) c.args.cursor.now)

pub statement_list-returns-in_err-next : goal.statement_list-returns-in_err-next
unfolding statement_list_at
statement_list-returns-in_err-next t c =
    let p = err_from_is_err_and c.from_residual.result c.from_residual.ensures.1 in
    let here = c.loop-cursor.cursor in
    let any : among statement_kinds c.loop-cursor.cursor.rest ≡ true = search rules in
    let read : Fails c.in_err-next.field-0.0 ((statement_at c.args.room (inner_at c.args.room)) here) = search rules in
    rw (p.1, p.2) (list_fails statement_kinds (statement_at c.args.room (inner_at c.args.room)) (map statement_view c.loop-cursor.statements.items) here (list_at statement_kinds (statement_at c.args.room (inner_at c.args.room)) c.args.cursor.now) c.loop-cursor.invariant any c.in_err-next.field-0.0 read)

pub statement_list-loop-cursor-preserved : goal.statement_list-loop-cursor-preserved
unfolding statement_list_at
statement_list-loop-cursor-preserved t c =
    let any : among statement_kinds c.loop-cursor.cursor.rest ≡ true = search rules in
    let here = c.loop-cursor.cursor in
    let there = c.statement.new.cursor in
    let read : (statement_at c.args.room (inner_at c.args.room)) here ≡ Ok (statement_view c.in_ok-next.next, there) = search rules in
    let e : map statement_view c.push.new.self.items ≡ map statement_view c.loop-cursor.statements.items ++ statement_view c.in_ok-next.next ∷ [] = rw c.in_ok-push.ensures.items (map_push statement_view c.loop-cursor.statements.items c.in_ok-next.next) in
    rw e (list_goes_on statement_kinds (statement_at c.args.room (inner_at c.args.room)) (map statement_view c.loop-cursor.statements.items) here (list_at statement_kinds (statement_at c.args.room (inner_at c.args.room)) c.args.cursor.now) c.loop-cursor.invariant any (statement_view c.in_ok-next.next) there read (statement_consumes c.args.room here there (statement_view c.in_ok-next.next) read))

pub statement_list-loop-cursor-smaller : goal.statement_list-loop-cursor-smaller
statement_list-loop-cursor-smaller t c =
    let here = c.loop-cursor.cursor in
    let there = c.statement.new.cursor in
    let read : (statement_at c.args.room (inner_at c.args.room)) here ≡ Ok (statement_view c.in_ok-next.next, there) = search rules in
    statement_consumes c.args.room here there (statement_view c.in_ok-next.next) read

pub statement_list-returns : goal.statement_list-returns
unfolding statement_list_at
statement_list-returns t c =
    let any : among statement_kinds c.loop-cursor.cursor.rest ≡ false = search rules in
    list_ends statement_kinds (statement_at c.args.room (inner_at c.args.room)) (map statement_view c.loop-cursor.statements.items) c.loop-cursor.cursor (list_at statement_kinds (statement_at c.args.room (inner_at c.args.room)) c.args.cursor.now) c.loop-cursor.invariant any

-- branches: as above, by the lemmas on branches
pub listed_branches-loop-cursor-init : goal.listed_branches-loop-cursor-init
listed_branches-loop-cursor-init t c =
    let e : map branch_view c.new-branches.result.items ≡ [] = search rules in
    rw e (branches.begins (inner_at c.args.room) c.args.cursor.now)

pub listed_branches-returns-in_err-next : goal.listed_branches-returns-in_err-next
listed_branches-returns-in_err-next t c =
    let p = err_from_is_err_and c.from_residual.result c.from_residual.ensures.1 in
    let here = c.loop-cursor.cursor in
    let on : goes_on c.loop-cursor.cursor.rest ≡ true = search rules in
    let read : Fails c.in_err-next.field-0.0 (led_branch_at (inner_at c.args.room) here) = search rules in
    rw (p.1, p.2) (branches.fails (inner_at c.args.room) (map branch_view c.loop-cursor.branches.items) here (listed_list_at (inner_at c.args.room) c.args.cursor.now) c.loop-cursor.invariant on c.in_err-next.field-0.0 read)

pub listed_branches-loop-cursor-preserved : goal.listed_branches-loop-cursor-preserved
listed_branches-loop-cursor-preserved t c =
    let on : goes_on c.loop-cursor.cursor.rest ≡ true = search rules in
    let here = c.loop-cursor.cursor in
    let there = c.led_branch.new.cursor in
    let read : led_branch_at (inner_at c.args.room) here ≡ Ok (branch_view c.in_ok-next.next, there) = search rules in
    let e : map branch_view c.push.new.self.items ≡ map branch_view c.loop-cursor.branches.items ++ branch_view c.in_ok-next.next ∷ [] = rw c.in_ok-push.ensures.items (map_push branch_view c.loop-cursor.branches.items c.in_ok-next.next) in
    rw e (branches.goes_further (inner_at c.args.room) (map branch_view c.loop-cursor.branches.items) here (listed_list_at (inner_at c.args.room) c.args.cursor.now) c.loop-cursor.invariant on (branch_view c.in_ok-next.next) there read
    (led_branch_consumes c.args.room c.requires here there (branch_view c.in_ok-next.next) read))

pub listed_branches-loop-cursor-smaller : goal.listed_branches-loop-cursor-smaller
listed_branches-loop-cursor-smaller t c =
    let here = c.loop-cursor.cursor in
    let there = c.led_branch.new.cursor in
    let read : led_branch_at (inner_at c.args.room) here ≡ Ok (branch_view c.in_ok-next.next, there) = search rules in
    led_branch_consumes c.args.room c.requires here there (branch_view c.in_ok-next.next) read

pub listed_branches-returns : goal.listed_branches-returns
listed_branches-returns t c =
    let on : goes_on c.loop-cursor.cursor.rest ≡ false = search rules in
    branches.ends (inner_at c.args.room) (map branch_view c.loop-cursor.branches.items) c.loop-cursor.cursor (listed_list_at (inner_at c.args.room) c.args.cursor.now) c.loop-cursor.invariant on

-- listed branches, and then the others
pub branches-returns-in_err-listed : goal.branches-returns-in_err-listed
branches-returns-in_err-listed t c =
    let p = err_from_is_err_and c.from_residual.result c.from_residual.ensures.1 in
    let read : Fails c.in_err-listed.field-0.0 (listed_list_at (inner_at c.args.room) c.args.cursor.now) = search rules in
    rw (p.1, p.2) (branches.listed_fail (inner_at c.args.room) (led_branch_consumes c.args.room c.requires) c.args.cursor.now c.in_err-listed.field-0.0 read)

pub branches-returns-in_err-last : goal.branches-returns-in_err-last
branches-returns-in_err-last t c =
    let p = err_from_is_err_and c.from_residual-in_err-last.result c.from_residual-in_err-last.ensures.1 in
    let there = c.listed_branches.new.cursor in
    let all = map branch_view c.in_ok-listed.listed.items in
    let listed : listed_list_at (inner_at c.args.room) c.args.cursor.now ≡ Ok (all, there) = search rules in
    let read : Fails c.in_err-last.field-0.0 (others_at (inner_at c.args.room) there) = search rules in
    rw (p.1, p.2) (branches.last_fails (inner_at c.args.room) (led_branch_consumes c.args.room c.requires) c.args.cursor.now there all listed c.in_err-last.field-0.0 read)

pub branches-returns : goal.branches-returns
branches-returns t c =
    let there = c.listed_branches.new.cursor in
    let all = map branch_view c.in_ok-listed.listed.items in
    let last = option_map body_view c.in_ok-last.last in
    let listed : listed_list_at (inner_at c.args.room) c.args.cursor.now ≡ Ok (all, there) = search rules in
    let behind : others_at (inner_at c.args.room) there ≡ Ok (last, c.others.new.cursor) = search rules in
    let linked : branches_view c.in_ok-branches.branches ≡ branches_of all last = search rules in
    rw linked (branches.both_read (inner_at c.args.room) (led_branch_consumes c.args.room c.requires) c.args.cursor.now there c.others.new.cursor all last listed behind)
