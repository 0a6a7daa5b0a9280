use Rattle.std.proofs.Common.{sym, ap, ◌∙◌, ◌≡◌, subst, List, Some, None, get_or}
use Rattle.source_checks.specs.declared.symbol_table.Symbol.{Symbol}
use Rattle.source_checks.specs.Codes.{Tied}
use Rattle.source_checks.specs.Drivers.{first_undriven}
use Rattle.source_checks.specs.Known.{position_of}
use Rattle.source_checks.proofs.Undriven.{undriven_turn, has_place}
use Rattle.source_checks.proofs.drivers.undriven.Goals as goal

pub returns-in-Some-found : goal.returns-in-Some-found
returns-in-Some-found c = λ driven tied.
    let known = c.args.table.now in
    let s = c.symbol-item.result in
    let listed = c.as_slice-symbols.result.now in
    let same : listed ≡ known = c.as_slice-symbols.ensures in
    let at : position_of listed s.text ≡ Some c.in-Some.place = ap (λ (k : List Symbol). position_of k s.text) same ∙ ap (position_of known) (sym c.as_bytes.ensures) ∙ sym c.in-Some.ensures in
    let tied' = subst (λ (k : List Symbol). Tied k c.args.marks.now driven) (sym same) tied in
    undriven_turn listed c.args.marks.now driven c.loop-symbol.symbol-index c.in-Some.place s (Some c.in-Some-found.fault) (first_undriven driven listed) tied' c.loop-symbol-test.true c.symbol-item.is at (sym c.in-Some-found.is ∙ c.in_ok-found.ensures) (c.loop-symbol.invariant driven tied)
    ∙ ap (first_undriven driven) same

pub loop-symbol-preserved : goal.loop-symbol-preserved
loop-symbol-preserved c = λ driven tied.
    let known = c.args.table.now in
    let s = c.symbol-item.result in
    let listed = c.as_slice-symbols.result.now in
    let same : listed ≡ known = c.as_slice-symbols.ensures in
    let at : position_of listed s.text ≡ Some c.in-Some.place = ap (λ (k : List Symbol). position_of k s.text) same ∙ ap (position_of known) (sym c.as_bytes.ensures) ∙ sym c.in-Some.ensures in
    let tied' = subst (λ (k : List Symbol). Tied k c.args.marks.now driven) (sym same) tied in
    undriven_turn listed c.args.marks.now driven c.loop-symbol.symbol-index c.in-Some.place s None (first_undriven driven listed) tied' c.loop-symbol-test.true c.symbol-item.is at (sym c.in_default-found.is ∙ c.in_ok-found.ensures) (c.loop-symbol.invariant driven tied)

pub returns-in_default : goal.returns-in_default
returns-in_default c =
    let known = c.args.table.now in
    let s = c.symbol-item.result in
    let listed = c.as_slice-symbols.result.now in
    let same : listed ≡ known = c.as_slice-symbols.ensures in
    let none : position_of listed (get_or listed c.loop-symbol.symbol-index s).text ≡ None =
    ap (λ (x : Symbol). position_of listed x.text) (sym c.symbol-item.is) ∙ ap (λ (k : List Symbol). position_of k s.text) same ∙ ap (position_of known) (sym c.as_bytes.ensures) ∙ sym c.place.ensures ∙ c.in_default.is in
    absurd (has_place listed c.loop-symbol.symbol-index s c.loop-symbol-test.true none)
