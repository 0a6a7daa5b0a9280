use Rattle.std.proofs.Common.{◌≡◌, ◌∙◌, ◌+◌, ◌-◌, ◌^◌, ◌<◌, ◌≤◌, ℕ, List, [], Some, min, ap, sym, subst, arith}
use Rattle.std.specs.List.{sum_by}
use Rattle.vlsi_base.specs.declared.fault.ReadError.{ReadError}
use Rattle.vlsi_base.specs.declared.fault.ReadError.TheVariants as errors
use Rattle.vlsi_base.specs.declared.fault.LimitKind.TheVariants as limit
use Rattle.source_checks.specs.declared.symbol_table.Symbol.{Symbol}
use Rattle.source_checks.specs.Checks.{first_repeated}
use Rattle.vst_text.specs.declared.file.InstanceStatement.{InstanceStatement}
use Rattle.vst_text.specs.declared.file.StructuralFile.{StructuralFile}
use Rattle.vst_io.specs.Nets.{nets}
use Rattle.vst_io.specs.Faults.{terminal_count}
use Rattle.vst_io.specs.Checked.{IsFaultOf}
use Rattle.vst_io.proofs.Adding.{pin_count}
use Rattle.vst_io.proofs.First.{many_found, twice_found}
use Rattle.vst_io.proofs.checking.check_nets.Goals as goal

pub returns-then-count-from-clause-refused : goal.returns-then-count-from-clause-refused
returns-then-count-from-clause-refused c =
    let table = c.args.known.now.table in
    let file = c.args.known.now.file in
    let sum = λ (is : List InstanceStatement). sum_by (pin_count table) is in
    let count : c.terminal_count-count.result ≡ min (terminal_count table file) (2 ^ 64 - 1) =
    c.terminal_count-count.ensures ∙ ap (λ (is : List InstanceStatement). min (c.args.ports + sum is) (2 ^ 64 - 1)) (c.as_slice.ensures ∙ ap (λ (f : StructuralFile). f.instances) c.file.ensures)
    ∙ ap (λ (n : ℕ). min (n + sum file.instances) (2 ^ 64 - 1)) c.requires.ports in
    let many : 2 ^ 32 ≤ terminal_count table file = omega (arith, count, c.if-count-from.true, c.from.ensures) in
    many_found table file c.requires.declared c.requires.maps many ∙ ap (λ (n : ℕ). let e : ReadError = errors.Limit (record { which = limit.Bits; reached = n }) in Some e) (sym count)

pub returns-in_ok-error-in-Some-clause-refused : goal.returns-in_ok-error-in-Some-clause-refused
returns-in_ok-error-in-Some-clause-refused c =
    let table = c.args.known.now.table in
    let file = c.args.known.now.file in
    let sum = λ (is : List InstanceStatement). sum_by (pin_count table) is in
    let count : c.terminal_count-count.result ≡ min (terminal_count table file) (2 ^ 64 - 1) =
    c.terminal_count-count.ensures ∙ ap (λ (is : List InstanceStatement). min (c.args.ports + sum is) (2 ^ 64 - 1)) (c.as_slice.ensures ∙ ap (λ (f : StructuralFile). f.instances) c.file.ensures)
    ∙ ap (λ (n : ℕ). min (n + sum file.instances) (2 ^ 64 - 1)) c.requires.ports in
    let few : terminal_count table file < 2 ^ 32 = omega (arith, count, c.if-count-from.false, c.from.ensures) in
    let found : Some c.in-Some.symbol.now ≡ first_repeated [] (nets file) = c.in-Some.ensures ∙ ap (λ (ss : List Symbol). first_repeated [] ss) c.nets.ensures in
    subst (λ (e : ReadError). IsFaultOf table file e) (sym c.in_ok-error-in-Some.ensures) (twice_found table file c.in-Some.symbol.now c.requires.declared c.requires.maps few found)
