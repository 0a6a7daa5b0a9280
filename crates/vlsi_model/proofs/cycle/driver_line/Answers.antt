use Rattle.std.proofs.Common.{◌≡◌, ◌≤◌, ℕ, List, length, Option, None, sym, ap, ◌∙◌, subst}
use Rattle.std.specs.Prelude.{MatchOption}
use Rattle.machine_core.specs.Order.{In, AllDifferent}
use Rattle.vlsi_base.specs.declared.name.Name.{Name}
use Rattle.source_checks.specs.declared.statement.DesignFile.{DesignFile}
use Rattle.source_checks.specs.declared.statement.Statement.{Statement}
use Rattle.source_checks.specs.Symbols.{symbols, all_names}
use Rattle.source_checks.specs.Formula.{place}
use Rattle.vlsi_model.specs.declared.source.Source.{Source}
use Rattle.vlsi_model.specs.Sources.{IsSourceOf}
use Rattle.vlsi_model.specs.Ordered.{IsDrivenIn}
use Rattle.vlsi_model.proofs.Sorting.{In-at}
use Rattle.vlsi_model.proofs.Turning.{driven_on}
use Rattle.source_checks.specs.declared.symbol_table.Symbol.{Symbol}
use Rattle.vlsi_model.proofs.Bits.{texts}
use Rattle.vlsi_model.proofs.SourceBits.{sound}
use Rattle.vlsi_model.proofs.BuildGoals.{over_numbers}
use Rattle.vlsi_model.proofs.Building.{defined_declared}
use Rattle.vlsi_model.proofs.Turning.{NoneDrives, none_first, none_more, some_drives}
use Rattle.vlsi_model.proofs.cycle.driver_line.Goals as goal

number_is : (design : DesignFile) (s : Source) (name : Name) (text : List ℕ) (number : ℕ) → IsSourceOf design s → number ≡ place (all_names s.numbers) (record { text = text; bit = name.bit }) → text ≡ name.text
    → number ≡ place (all_names (symbols design)) name
number_is design s name text number h is same =
    is ∙ ap (λ (t : List ℕ). place (all_names s.numbers) (record { text = t; bit = name.bit })) same ∙ ap (λ (ks : List Symbol). place (all_names ks) name) h.numbers

pub number-number-requires : goal.number-number-requires
number-number-requires c = over_numbers (λ (known : List Symbol). AllDifferent (texts known)) c.args.design.now c.args.source.now c.requires.source (sound c.args.design.now c.requires.sound).different

pub line_in-requires : goal.line_in-requires
line_in-requires c = over_numbers (λ (known : List Symbol). AllDifferent (texts known)) c.args.design.now c.args.source.now c.requires.source (sound c.args.design.now c.requires.sound).different

pub returns-in-Some : goal.returns-in-Some
returns-in-Some c =
    let design = c.args.design.now in
    let source = c.args.source.now in
    let name = c.args.name.now in
    let st = c.statement-item.result in
    let items = c.as_slice-statements.result.now in
    let known : In st items = subst (λ (s : Statement). In s items) (sym c.statement-item.is) (In-at items c.loop-statement.statement-index st c.loop-statement-test.true) in
    let number = number_is c.args.design.now c.args.source.now c.args.name.now c.as_bytes.result.now c.number-number.result c.requires.source c.number-number.ensures c.as_bytes.ensures in
    let here_is : IsDrivenIn source.numbers st c.number-number.result c.in-Some.line = subst (λ (o : Option ℕ). MatchOption o ((line : ℕ) → IsDrivenIn source.numbers st c.number-number.result line → ⊥) (λ line. IsDrivenIn source.numbers st c.number-number.result line)) c.in-Some.is c.in_ok-found.ensures in
    driven_on design st name c.number-number.result c.in-Some.line (sound design c.requires.sound) (subst (λ (ss : List Statement). In st ss) c.as_slice-statements.ensures known) (defined_declared design (sound design c.requires.sound) name c.requires.defined) number
    (subst (λ (ks : List Symbol). IsDrivenIn ks st c.number-number.result c.in-Some.line) c.requires.source.numbers here_is)

pub loop-statement-init : goal.loop-statement-init
loop-statement-init c = none_first c.args.source.now.numbers c.as_slice-statements.result.now c.number-number.result

pub loop-statement-preserved : goal.loop-statement-preserved
loop-statement-preserved c =
    let known = c.args.source.now.numbers in
    let st = c.statement-item.result in
    let number = c.number-number.result in
    none_more known c.as_slice-statements.result.now number c.loop-statement.statement-index st c.loop-statement-test.true c.statement-item.is
    (subst (λ (o : Option ℕ). MatchOption o ((line : ℕ) → IsDrivenIn known st number line → ⊥) (λ line. IsDrivenIn known st number line)) c.in_default.is c.in_ok-found.ensures)
    c.loop-statement.invariant

pub unreachable-requires : goal.unreachable-requires
unreachable-requires c =
    let design = c.args.design.now in
    let number = number_is c.args.design.now c.args.source.now c.args.name.now c.as_bytes.result.now c.number-number.result c.requires.source c.number-number.ensures c.as_bytes.ensures in
    let k = c.loop-statement.statement-index in
    let none : NoneDrives (symbols design) c.as_slice-statements.result.now c.number-number.result k =
    subst (λ (ks : List Symbol). NoneDrives ks c.as_slice-statements.result.now c.number-number.result k) c.requires.source.numbers c.loop-statement.invariant in
    some_drives design c.args.name.now c.number-number.result k c.requires.defined number
    (subst (λ (ss : List Statement). length ss ≤ k) c.as_slice-statements.ensures c.loop-statement-test.false)
    (subst (λ (ss : List Statement). NoneDrives (symbols design) ss c.number-number.result k) c.as_slice-statements.ensures none)
