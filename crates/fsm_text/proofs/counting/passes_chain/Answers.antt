use Rattle.std.proofs.Common.{rules, ◌≡◌, ◌∙◌, ◌<◌, ◌^◌, List, [], length, None, Some, Ok, Err, true, false, sym, ap, subst, IfOk}
use Rattle.std.specs.Prelude.{is_none}
use Rattle.std.specs.Option.{option_copied}
use Rattle.vhdl_token.specs.declared.token.PlacedToken.{PlacedToken}
use Rattle.grammar_theory.specs.Outcome.{start}
use Rattle.grammar_theory.specs.declared.limits.TheConstants.{DEPTH}
use Rattle.vhdl_front.specs.EntityReading.{entity_at}
use Rattle.source_checks.specs.declared.symbol_table.Symbol.{Symbol}
use Rattle.source_checks.specs.Symbols.{all_names}
use Rattle.source_checks.specs.Checks.{first_repeated}
use Rattle.vlsi_base.specs.Member.{AllDifferent}
use Rattle.fsm_text.specs.Chains.{overfull, passes_before}
use Rattle.fsm_text.specs.Texts.{counted_in, PassesBefore}
use Rattle.fsm_text.proofs.Tally.{texts, different_texts}
use Rattle.fsm_text.proofs.Chains.{counted, counted_made, none_unread, none_repeated, one_passes, none_passes, on_true, on_false, some_symbol}
use Rattle.fsm_text.proofs.Counted.{counted_few}
use Rattle.fsm_text.proofs.counting.passes_chain.Goals as goal

-- a name is declared twice
pub returns-then-is_some-clause-none : goal.returns-then-is_some-clause-none
returns-then-is_some-clause-none c =
    let read : entity_at DEPTH (start c.args.tokens.now.items) ≡ Ok (c.in-Ok.entity, c.entity.new.self) = ap (entity_at DEPTH) (sym (c.new-cursor.ensures ∙ ap start c.as_slice.ensures)) ∙ c.in-Ok.ensures in
    let made : c.in_ok-table-in-Ok-2.table ≡ counted_in c.args.tokens.now c.in-Ok.entity =
    counted_made c.args.tokens.now c.in-Ok.entity c.in_ok-table-in-Ok.table c.in_ok-table-in-Ok-2.table c.as_slice-in-Ok-2.result.now c.as_slice-in-Ok.result.now (option_copied c.named_by-next.result)
    c.as_slice-in-Ok-2.ensures c.in_ok-table-in-Ok.ensures c.as_slice-in-Ok.ensures c.named_by-next.ensures c.in_ok-table-in-Ok-2.ensures in
    let some : is_none (first_repeated [] c.in_ok-table-in-Ok-2.table) ≡ false = search rules in
    let twice = some_symbol (first_repeated [] c.in_ok-table-in-Ok-2.table) some in
    none_repeated c.args.tokens.now c.args.left c.in-Ok.entity c.entity.new.self twice.0 read (ap (first_repeated []) (sym made) ∙ twice.1)

-- no name is
pub new-requires : goal.new-requires
new-requires c =
    let read : entity_at DEPTH (start c.args.tokens.now.items) ≡ Ok (c.in-Ok.entity, c.entity.new.self) = ap (entity_at DEPTH) (sym (c.new-cursor.ensures ∙ ap start c.as_slice.ensures)) ∙ c.in-Ok.ensures in
    let made : c.in_ok-table-in-Ok-2.table ≡ counted_in c.args.tokens.now c.in-Ok.entity =
    counted_made c.args.tokens.now c.in-Ok.entity c.in_ok-table-in-Ok.table c.in_ok-table-in-Ok-2.table c.as_slice-in-Ok-2.result.now c.as_slice-in-Ok.result.now (option_copied c.named_by-next.result)
    c.as_slice-in-Ok-2.ensures c.in_ok-table-in-Ok.ensures c.as_slice-in-Ok.ensures c.named_by-next.ensures c.in_ok-table-in-Ok-2.ensures in
    record { few = subst (λ (ks : List Symbol). length (all_names ks) < 2 ^ 32) (sym made) (counted_few c.args.tokens.now c.in-Ok.entity c.entity.new.self read) }

pub passes_in-requires-clause-different : goal.passes_in-requires-clause-different
passes_in-requires-clause-different c =
    let none : first_repeated [] c.in_ok-table-in-Ok-2.table ≡ None = search rules in
    subst (λ (ks : List Symbol). AllDifferent (texts ks)) (sym c.in_ok-tally-in-Ok.ensures.known) (different_texts c.in_ok-table-in-Ok-2.table none)

pub returns-in-Ok-clause-passes : goal.returns-in-Ok-clause-passes
returns-in-Ok-clause-passes c =
    let read : entity_at DEPTH (start c.args.tokens.now.items) ≡ Ok (c.in-Ok.entity, c.entity.new.self) = ap (entity_at DEPTH) (sym (c.new-cursor.ensures ∙ ap start c.as_slice.ensures)) ∙ c.in-Ok.ensures in
    let made : c.in_ok-table-in-Ok-2.table ≡ counted_in c.args.tokens.now c.in-Ok.entity =
    counted_made c.args.tokens.now c.in-Ok.entity c.in_ok-table-in-Ok.table c.in_ok-table-in-Ok-2.table c.as_slice-in-Ok-2.result.now c.as_slice-in-Ok.result.now (option_copied c.named_by-next.result)
    c.as_slice-in-Ok-2.ensures c.in_ok-table-in-Ok.ensures c.as_slice-in-Ok.ensures c.named_by-next.ensures c.in_ok-table-in-Ok-2.ensures in
    let none : first_repeated [] c.in_ok-table-in-Ok-2.table ≡ None = search rules in
    let same : c.in_ok-tally-in-Ok.tally.numbers ≡ counted_in c.args.tokens.now c.in-Ok.entity = c.in_ok-tally-in-Ok.ensures.known ∙ made in
    let Answer : List Symbol → List PlacedToken → Type 0 = λ ks ts. IfOk c.passes_in.result (λ passes. passes ≡ passes_before c.args.left (overfull ks [] ts)) in
    let told : Answer (counted_in c.args.tokens.now c.in-Ok.entity) c.entity.new.self.rest =
    subst (λ (ts : List PlacedToken). Answer (counted_in c.args.tokens.now c.in-Ok.entity) ts) c.rest.ensures (subst (λ (ks : List Symbol). Answer ks c.rest.result.now) same c.passes_in.ensures) in
    on_true c.passes_in.result (passes_before c.args.left (counted c.args.tokens.now c.in-Ok.entity c.entity.new.self)) (PassesBefore c.args.tokens.now c.args.left) told
    (λ e. one_passes c.args.tokens.now c.args.left c.in-Ok.entity c.entity.new.self read (ap (first_repeated []) (sym made) ∙ none) e)

pub returns-in-Ok-clause-none : goal.returns-in-Ok-clause-none
returns-in-Ok-clause-none c =
    let read : entity_at DEPTH (start c.args.tokens.now.items) ≡ Ok (c.in-Ok.entity, c.entity.new.self) = ap (entity_at DEPTH) (sym (c.new-cursor.ensures ∙ ap start c.as_slice.ensures)) ∙ c.in-Ok.ensures in
    let made : c.in_ok-table-in-Ok-2.table ≡ counted_in c.args.tokens.now c.in-Ok.entity =
    counted_made c.args.tokens.now c.in-Ok.entity c.in_ok-table-in-Ok.table c.in_ok-table-in-Ok-2.table c.as_slice-in-Ok-2.result.now c.as_slice-in-Ok.result.now (option_copied c.named_by-next.result)
    c.as_slice-in-Ok-2.ensures c.in_ok-table-in-Ok.ensures c.as_slice-in-Ok.ensures c.named_by-next.ensures c.in_ok-table-in-Ok-2.ensures in
    let same : c.in_ok-tally-in-Ok.tally.numbers ≡ counted_in c.args.tokens.now c.in-Ok.entity = c.in_ok-tally-in-Ok.ensures.known ∙ made in
    let Answer : List Symbol → List PlacedToken → Type 0 = λ ks ts. IfOk c.passes_in.result (λ passes. passes ≡ passes_before c.args.left (overfull ks [] ts)) in
    let told : Answer (counted_in c.args.tokens.now c.in-Ok.entity) c.entity.new.self.rest =
    subst (λ (ts : List PlacedToken). Answer (counted_in c.args.tokens.now c.in-Ok.entity) ts) c.rest.ensures (subst (λ (ks : List Symbol). Answer ks c.rest.result.now) same c.passes_in.ensures) in
    on_false c.passes_in.result (passes_before c.args.left (counted c.args.tokens.now c.in-Ok.entity c.entity.new.self)) (PassesBefore c.args.tokens.now c.args.left → ⊥) told
    (λ e. none_passes c.args.tokens.now c.args.left c.in-Ok.entity c.entity.new.self read e)

-- there is no entity
pub returns-in-Err-Refused-clause-none : goal.returns-in-Err-Refused-clause-none
returns-in-Err-Refused-clause-none c =
    let read : entity_at DEPTH c.new-cursor.result ≡ Err c.in-Err-Refused.field-0-0 = search rules in
    none_unread c.args.tokens.now c.args.left c.in-Err-Refused.field-0-0 (ap (entity_at DEPTH) (sym (c.new-cursor.ensures ∙ ap start c.as_slice.ensures)) ∙ read)
