use Rattle.std.proofs.Common.{ap, sym, subst, ◌∙◌, List, ℕ}
use Rattle.std.specs.Prelude.{filter, ◌||◌}
use Rattle.std.specs.List.{list_any}
use Rattle.source_checks.specs.Codes.{AreSmall, least_code}
use Rattle.source_checks.specs.Marks.{has, is_key}
use Rattle.source_checks.specs.Driving.{Counts}
use Rattle.source_checks.proofs.Driving.{drives_again, drives_first}
use Rattle.source_checks.proofs.Least.{least_small}
use Rattle.source_checks.proofs.drivers.drive.Goals as goal

pub returns-in-Some-least_where : goal.returns-in-Some-least_where
returns-in-Some-least_where c =
    let counts = subst (λ (t : List ℕ). Counts c.args.table.now t c.in-Some.place c.in-Some.range) c.as_bytes.ensures c.in-Some.ensures in
    let codes = c.deref.ensures.value ∙ c.in_ok-codes.ensures.codes in
    let first = c.in-Some-least_where.ensures ∙ ap (λ (cs : List ℕ). least_code (filter (λ k. has c.args.marks.now (c.in-Some.place, k)) cs)) codes in
    drives_again c.args.table.now c.args.marks.now c.args.marks.now c.args.target.now c.in-Some.place c.in-Some.range c.in-Some-least_where.code c.in_ok-name-in-Some-least_where.name counts first c.in_ok-name-in-Some-least_where.ensures

pub returns : goal.returns
returns c =
    let counts = subst (λ (t : List ℕ). Counts c.args.table.now t c.in-Some.place c.in-Some.range) c.as_bytes.ensures c.in-Some.ensures in
    let codes = c.deref.ensures.value ∙ c.in_ok-codes.ensures.codes in
    let first = c.in-None.ensures ∙ ap (λ (cs : List ℕ). least_code (filter (λ k. has c.args.marks.now (c.in-Some.place, k)) cs)) codes in
    let codes' = c.deref-in-None.ensures.value ∙ c.in_ok-codes.ensures.codes in
    drives_first c.args.table.now c.args.marks.now c.mark_all.new.marks c.args.target.now c.in-Some.place c.in-Some.range counts first
    (λ q. c.in_ok-mark_all-in-None.ensures q ∙ ap (λ (cs : List ℕ). list_any (λ k. is_key (c.in-Some.place, k) q) cs || has c.args.marks.now q) codes')

pub name_at-requires : goal.name_at-requires
name_at-requires c =
    let small : AreSmall c.deref.result.now = subst AreSmall (sym c.deref.ensures.value) c.in_ok-codes.ensures.small in
    least_small 4294967296 (λ k. has c.args.marks.now (c.in-Some.place, k)) c.deref.result.now small c.in-Some-least_where.code c.in-Some-least_where.ensures
