use Rattle.std.proofs.Common.{rules, ◌≡◌, ◌-◌, List, ℕ, length, get_or, refl, sym, ap, subst, arith, ◌∙◌}
use Rattle.delay_sta.specs.declared.arrivals.Delays.{Delays}
use Rattle.delay_sta.specs.Timed.{AreDelaysOf}
use Rattle.delay_sta.proofs.Tracing.{IsTracing, delays_marked, tracing_start, trace_past, trace_back, low_at, back_many, traced_all, is_here, is_elsewhere}
use Rattle.delay_sta.proofs.arrivals.Delays.trace.Goals as goal

pub loop-k-init : goal.loop-k-init
loop-k-init c = record {
  others = refl;
  many = refl;
  tracing = λ n l sound are.
      let filled = c.fill.ensures.len in
      let same : length c.args.self.now.marks.items ≡ length c.fill.new.self.items = search rules in
      let before : AreDelaysOf n l c.args.self.now = delays_marked n l (record c.args.self.now { marks = c.fill.new.self }) c.args.self.now are refl same in
      subst (λ (xs : List ℕ). IsTracing n l sound (record c.args.self.now { marks = c.fill.new.self }) are c.fill.new.self.items (length xs) c.latest_end-at.result) (sym c.order-k.ensures)
      (tracing_start n l sound (record c.args.self.now { marks = c.fill.new.self }) are c.fill.new.self.items c.latest_end-at.result (c.latest_end-at.ensures n l sound before));
}

pub go_back-at-requires : goal.go_back-at-requires
go_back-at-requires c =
    let filled = c.fill.ensures.len in
    let same : length c.fill.new.self.items ≡ length c.args.self.now.marks.items = search rules in
    let l = c.loop-k-test.true in
    let m = c.loop-k.auto.k in
    let a = ap length c.order-k.ensures in
    let b = ap length c.order.ensures in
    let o = ap (λ (d : Delays). length d.order.items) c.loop-k.invariant.others in
    low_at c.requires.0 c.requires.1 c.requires.2 (record c.args.self.now { marks = c.fill.new.self })
    (delays_marked c.requires.0 c.requires.1 c.args.self.now (record c.args.self.now { marks = c.fill.new.self }) c.requires.3 refl same)
    c.loop-k.self c.order.result.now c.loop-k.k (c.loop-k.k - 1) c.loop-k.invariant.others c.order.ensures (omega (arith, l, m, a, b, o)) (omega (arith, l)) c.loop-k.invariant.many

pub loop-k-preserved-then-eq : goal.loop-k-preserved-then-eq
loop-k-preserved-then-eq c = record {
  others = ap (λ (d : Delays). record d { marks = c.fill.new.self }) c.go_back-at.ensures.others ∙ c.loop-k.invariant.others;
  many =
      back_many c.loop-k.self.arcs.items c.loop-k.self.arrivals.items (get_or c.order.result.now (c.loop-k.k - 1) 0) c.loop-k.self.marks.items c.go_back-at.new.self.marks.items c.go_back-at.result c.go_back-at.ensures.back
      ∙ c.loop-k.invariant.many;
  tracing = λ n l sound are.
      let t = c.loop-k-test.true in
      let m = c.loop-k.auto.k in
      let a = ap length c.order-k.ensures in
      let b = ap length c.order.ensures in
      let o = ap (λ (d : Delays). length d.order.items) c.loop-k.invariant.others in
      trace_back n l sound (record c.args.self.now { marks = c.fill.new.self }) are c.loop-k.self c.order.result.now c.loop-k.k (c.loop-k.k - 1) c.loop-k.invariant.others c.order.ensures (omega (arith, t, m, a, b, o)) (omega (arith, t))
      c.go_back-at.new.self c.loop-k.at c.go_back-at.result c.loop-k.invariant.many (is_here c.loop-k.at (get_or c.order.result.now (c.loop-k.k - 1) 0) (sym c.eq.ensures ∙ c.if-eq.true))
      (c.loop-k.invariant.tracing n l sound are) c.go_back-at.ensures.back;
}

pub loop-k-preserved : goal.loop-k-preserved
loop-k-preserved c = record {
  others = c.loop-k.invariant.others;
  many = c.loop-k.invariant.many;
  tracing = λ n l sound are.
      let t = c.loop-k-test.true in
      let m = c.loop-k.auto.k in
      let a = ap length c.order-k.ensures in
      let b = ap length c.order.ensures in
      let o = ap (λ (d : Delays). length d.order.items) c.loop-k.invariant.others in
      trace_past n l sound (record c.args.self.now { marks = c.fill.new.self }) are c.loop-k.self c.order.result.now c.loop-k.k (c.loop-k.k - 1) c.loop-k.invariant.others c.order.ensures (omega (arith, t, m, a, b, o)) (omega (arith, t))
      c.loop-k.at (is_elsewhere c.loop-k.at (get_or c.order.result.now (c.loop-k.k - 1) 0) (sym c.eq.ensures ∙ c.if-eq.false)) (c.loop-k.invariant.tracing n l sound are);
}

pub returns : goal.returns
returns c = λ n l sound are.
    let filled = c.fill.ensures.len in
    let same : length c.fill.new.self.items ≡ length c.args.self.now.marks.items = search rules in
    let made : AreDelaysOf n l (record c.args.self.now { marks = c.fill.new.self }) = delays_marked n l c.args.self.now (record c.args.self.now { marks = c.fill.new.self }) are refl same in (
      delays_marked n l (record c.args.self.now { marks = c.fill.new.self }) c.loop-k.self made c.loop-k.invariant.others c.loop-k.invariant.many,
      traced_all n l sound (record c.args.self.now { marks = c.fill.new.self }) made c.loop-k.self.marks.items c.loop-k.k c.loop-k.at c.loop-k-test.false (c.loop-k.invariant.tracing n l sound made),
    )
