use Rattle.vlsi_base.specs.declared.name.Name.{Name}
use Rattle.std.proofs.Common.{◌≡◌, Bool, Option, Some, None, ap, sym, ◌∙◌, List, ℕ, map, true, arith}
use Rattle.std.specs.Prelude.{filter, not, option_map}
use Rattle.source_checks.specs.Codes.{name_at, least_code}
use Rattle.source_checks.specs.Symbols.{all_names}
use Rattle.source_checks.specs.Formula.{place}
use Rattle.fsm_io.specs.Pieces.{is_marked}
use Rattle.std.proofs.lemmas.Grind.{common_steps}
use Rattle.fsm_io.specs.Drivers.{is_output}
use Rattle.fsm_io.specs.Pieces.{bit_code}
use Rattle.fsm_io.proofs.Leasts.{unassigned_is, coded_least}
use Rattle.fsm_io.proofs.drivers.unassigned_at.Goals as goal

pub returns-in-Some : goal.returns-in-Some
returns-in-Some c =
    let test : Name → Bool = (λ (n : Name). is_marked c.args.marks.now (place (all_names c.args.numbers.now) n)) in
    let output : is_output c.args.symbol.now.role ≡ true = grind (arith, common_steps) in
    unassigned_is test c.args.symbol.now (map bit_code c.in_ok-bits.bits.items) (option_map bit_code c.least_unmarked-least.result) (Some c.in-Some.name) output c.in_ok-bits.ensures
    (c.least_unmarked-least.ensures ∙ ap (λ (bs : List (Option ℕ)). least_code (filter (λ (k : ℕ). not (test (name_at c.args.symbol.now.text k))) (map bit_code bs))) c.deref.ensures.value)
    (sym c.in-Some.is ∙ c.in_ok-found.ensures ∙ coded_least c.args.symbol.now.text c.least_unmarked-least.result)

pub returns : goal.returns
returns c =
    let test : Name → Bool = (λ (n : Name). is_marked c.args.marks.now (place (all_names c.args.numbers.now) n)) in
    let output : is_output c.args.symbol.now.role ≡ true = grind (arith, common_steps) in
    unassigned_is test c.args.symbol.now (map bit_code c.in_ok-bits.bits.items) (option_map bit_code c.least_unmarked-least.result) None output c.in_ok-bits.ensures
    (c.least_unmarked-least.ensures ∙ ap (λ (bs : List (Option ℕ)). least_code (filter (λ (k : ℕ). not (test (name_at c.args.symbol.now.text k))) (map bit_code bs))) c.deref.ensures.value)
    (sym c.in-None.is ∙ c.in_ok-found.ensures ∙ coded_least c.args.symbol.now.text c.least_unmarked-least.result)
