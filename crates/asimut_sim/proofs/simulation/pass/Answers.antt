use Rattle.std.proofs.Common.{◌≡◌, ap₂}
use Rattle.std.proofs.lemmas.Result.{err_from_is_err_and}
use Rattle.machine_core.specs.Named.{values_at}
use Rattle.pat_meaning.specs.Columns.{listed}
use Rattle.asimut_sim.specs.Program.{bits_of}
use Rattle.asimut_sim.proofs.SimLemmas.{seen-is, as-long, agrees-from, disagrees-from, stops-from}
use Rattle.asimut_sim.proofs.simulation.pass.Goals as goal

pub compare-requires-clause-wanted : goal.compare-requires-clause-wanted
compare-requires-clause-wanted c =
    let seen : c.in_ok-seen.seen.items ≡ values_at c.args.flat.now.machine.now.vars (bits_of c.see.new.state.bits.items c.args.flat.now.vars.items) (listed c.args.columns.now) =
    seen-is c.args.flat.now.machine.now c.args.columns.now _ _ _ c.args.plan.now.seen.items c.deref-3.result.now (bits_of c.see.new.state.bits.items c.args.flat.now.vars.items) (bits_of c.deref.result.now c.deref-2.result.now) c.in_ok-seen.seen.items
    c.requires.plan c.deref-3.ensures.value (ap₂ bits_of c.deref.ensures.value c.deref-2.ensures.value) c.in_ok-seen.ensures in
    as-long c.args.flat.now.machine.now c.args.columns.now c.args.pattern.now c.as_slice.result.now c.in_ok-bits.bits.items c.deref-5.result.now (bits_of c.see.new.state.bits.items c.args.flat.now.vars.items)
    c.in_ok-seen.seen.items c.deref-6.result.now c.requires.values c.as_slice.ensures c.in_ok-bits.ensures c.deref-5.ensures.value c.deref-6.ensures.value seen

pub returns-in_err-compare-clause-stops : goal.returns-in_err-compare-clause-stops
returns-in_err-compare-clause-stops c =
    let seen : c.in_ok-seen.seen.items ≡ values_at c.args.flat.now.machine.now.vars (bits_of c.see.new.state.bits.items c.args.flat.now.vars.items) (listed c.args.columns.now) =
    seen-is c.args.flat.now.machine.now c.args.columns.now _ _ _ c.args.plan.now.seen.items c.deref-3.result.now (bits_of c.see.new.state.bits.items c.args.flat.now.vars.items) (bits_of c.deref.result.now c.deref-2.result.now) c.in_ok-seen.seen.items
    c.requires.plan c.deref-3.ensures.value (ap₂ bits_of c.deref.ensures.value c.deref-2.ensures.value) c.in_ok-seen.ensures in
    let d = disagrees-from c.args.flat.now.machine.now c.args.columns.now c.args.pattern.now c.args.number c.args.plan.now.listed.items c.deref-4.result.now c.as_slice.result.now
    c.in_ok-bits.bits.items c.deref-5.result.now (bits_of c.see.new.state.bits.items c.args.flat.now.vars.items) c.in_ok-seen.seen.items c.deref-6.result.now c.in_err-compare.field-0.0
    c.requires.values c.requires.plan.names c.deref-4.ensures.value c.as_slice.ensures c.in_ok-bits.ensures c.deref-5.ensures.value c.deref-6.ensures.value seen
    c.in_err-compare.ensures.other in
    let p = err_from_is_err_and c.from_residual-in_err-compare.result c.from_residual-in_err-compare.ensures.1 in
    rw (p.1, p.2)
    (stops-from c.args.flat.now.machine.now c.args.columns.now c.args.pattern.now c.args.number c.args.state.now.contents.items c.args.state.now.clock
    c.see.new.state.contents.items c.see.new.state.clock (bits_of c.see.new.state.bits.items c.args.flat.now.vars.items) c.in_err-compare.field-0.0 c.in_ok-see.ensures.state.held c.in_ok-see.ensures.sees d)

pub returns-clause-passes : goal.returns-clause-passes
returns-clause-passes c =
    let seen : c.in_ok-seen.seen.items ≡ values_at c.args.flat.now.machine.now.vars (bits_of c.see.new.state.bits.items c.args.flat.now.vars.items) (listed c.args.columns.now) =
    seen-is c.args.flat.now.machine.now c.args.columns.now _ _ _ c.args.plan.now.seen.items c.deref-3.result.now (bits_of c.see.new.state.bits.items c.args.flat.now.vars.items) (bits_of c.deref.result.now c.deref-2.result.now) c.in_ok-seen.seen.items
    c.requires.plan c.deref-3.ensures.value (ap₂ bits_of c.deref.ensures.value c.deref-2.ensures.value) c.in_ok-seen.ensures in
    record {
      w = (bits_of c.see.new.state.bits.items c.args.flat.now.vars.items);
      sees = c.in_ok-see.ensures.sees;
      agrees =
          agrees-from c.args.flat.now.machine.now c.args.columns.now c.args.pattern.now c.in_ok-shown_pattern.field-0 c.args.number c.as_slice.result.now
          c.in_ok-bits.bits.items c.deref-5.result.now (bits_of c.see.new.state.bits.items c.args.flat.now.vars.items) c.in_ok-seen.seen.items c.deref-6.result.now c.deref-7.result.now
          c.requires.values c.as_slice.ensures c.in_ok-bits.ensures c.deref-5.ensures.value c.deref-6.ensures.value c.deref-7.ensures.value seen
          c.in_ok-compare.ensures.same c.in_ok-shown_pattern.ensures;
    }
