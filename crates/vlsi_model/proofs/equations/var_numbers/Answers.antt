use Rattle.std.proofs.Common.{◌≡◌, ℕ, List, refl, sym, ap, ◌∙◌, arith, subst}
use Rattle.vlsi_base.specs.declared.name.Name.{Name}
use Rattle.source_checks.specs.Symbols.{all_names}
use Rattle.source_checks.specs.Formula.{place}
use Rattle.machine_core.specs.Order.{In}
use Rattle.vlsi_model.proofs.Numbering.{place_within}
use Rattle.vlsi_model.proofs.Naming.{vars_more, vars_all}
use Rattle.vlsi_model.proofs.Counted.{no_more, all_in}
use Rattle.vlsi_model.proofs.equations.var_numbers.Goals as goal

pub index_mut-requires : goal.index_mut-requires
index_mut-requires c =
    let all = all_names c.args.numbers.now in
    let name = c.index-vars-k.result in
    let number : c.number-number.result ≡ place all name = c.number-number.ensures ∙ ap (λ (t : List ℕ). place all (record { text = t; bit = name.bit })) c.as_bytes.ensures in
    let known : In name all = subst (λ (n : Name). In n all) (sym c.index-vars-k.is) (c.requires.declared c.loop-k.k name c.loop-k-test.true) in
    omega (arith, number, place_within all name known, c.loop-k.invariant.each, c.loop-k.table.ok.0)

pub overflow_cast-k : goal.overflow_cast-k
overflow_cast-k c =
    let all = all_names c.args.numbers.now in
    let fit = no_more c.args.vars.now all c.requires.different (all_in (λ (n : Name). In n all) c.args.vars.now c.requires.declared) in
    omega (arith, fit, c.total.ensures, c.loop-k-test.true)

pub loop-k-preserved : goal.loop-k-preserved
loop-k-preserved c =
    let all = all_names c.args.numbers.now in
    let name = c.index-vars-k.result in
    let number : c.number-number.result ≡ place all name = c.number-number.ensures ∙ ap (λ (t : List ℕ). place all (record { text = t; bit = name.bit })) c.as_bytes.ensures in
    vars_more all c.args.vars.now c.loop-k.table.items _ c.loop-k.k c.number-number.result name c.requires.different c.requires.declared c.loop-k-test.true c.index-vars-k.is number
    refl c.loop-k.invariant

pub returns : goal.returns
returns c = vars_all (all_names c.args.numbers.now) c.args.vars.now c.loop-k.table.items c.loop-k.k c.requires.different (omega arith) c.loop-k.invariant
