use Rattle.std.proofs.Common.{◌≡◌, ◌<◌, ◌+◌, ◌++◌, ℕ, Bool, List, length, map, sym, ap, subst, ◌∙◌, arith}
use Rattle.std.specs.Option.{option_copied}
use Rattle.std.proofs.lemmas.List.{drop_all}
use Rattle.machine_core.specs.Machine.{input_ports}
use Rattle.proof_joint.proofs.Roles.{now_at, nows_long}
use Rattle.proof_joint.proofs.Spreading.{IsGiving, with_clock, counted, drop_taken, gives_clock, gives_bit, has_bit, all_given, taken_within, given_long, given_values}
use Rattle.proof_joint.proofs.differing.given_bits.Goals.{then-is_clock+in_ok-push, else-is_clock+in_ok-push-2}
use Rattle.proof_joint.proofs.differing.given_bits.Goals as goal

pub bounds-held-taken : goal.bounds-held-taken
bounds-held-taken c =
    let clock = option_copied c.clock-clock.result in
    let names = map (λ n. n.now) c.deref-name-items.result.now in
    let ec : option_copied c.clock-clock.result ≡ c.args.m.now.clock = c.clock-clock.ensures.value in
    let en : map (λ n. n.now) c.deref-name-items.result.now ≡ input_ports c.args.m.now = ap (map (λ n. n.now)) c.deref-name-items.ensures.value ∙ c.in_ok-names.ensures.names in
    let long = counted c.args.m.now clock names c.args.held.now ec en c.requires in
    let within : c.loop-name.name-index < length (map (λ n. n.now) c.deref-name-items.result.now) = omega (arith, c.loop-name-test.true, nows_long c.deref-name-items.result.now) in
    let is = now_at c.deref-name-items.result.now c.loop-name.name-index c.name-item.result c.name-item.is in
    has_bit clock names c.args.held.now c.loop-name.given.items c.loop-name.given.items c.loop-name.name-index c.loop-name.taken c.name-item.result.now within is c.loop-name.invariant
    (sym c.is_clock.ensures ∙ c.if-is_clock.false) _ long

pub overflow_add-taken : goal.overflow_add-taken
overflow_add-taken c =
    let clock = option_copied c.clock-clock.result in
    let names = map (λ n. n.now) c.deref-name-items.result.now in
    let ec : option_copied c.clock-clock.result ≡ c.args.m.now.clock = c.clock-clock.ensures.value in
    let en : map (λ n. n.now) c.deref-name-items.result.now ≡ input_ports c.args.m.now = ap (map (λ n. n.now)) c.deref-name-items.ensures.value ∙ c.in_ok-names.ensures.names in
    let long = counted c.args.m.now clock names c.args.held.now ec en c.requires in
    let within : c.loop-name.name-index < length (map (λ n. n.now) c.deref-name-items.result.now) = omega (arith, c.loop-name-test.true, nows_long c.deref-name-items.result.now) in
    let is = now_at c.deref-name-items.result.now c.loop-name.name-index c.name-item.result c.name-item.is in
    let less = has_bit clock names c.args.held.now c.loop-name.given.items c.loop-name.given.items c.loop-name.name-index c.loop-name.taken c.name-item.result.now within is c.loop-name.invariant
    (sym c.is_clock.ensures ∙ c.if-is_clock.false) _ long in
    omega (arith, less, c.type_inv.held)

pub loop-name-preserved : goal.loop-name-preserved
loop-name-preserved c =
    let clock = option_copied c.clock-clock.result in
    let names = map (λ n. n.now) c.deref-name-items.result.now in
    let ec : option_copied c.clock-clock.result ≡ c.args.m.now.clock = c.clock-clock.ensures.value in
    let en : map (λ n. n.now) c.deref-name-items.result.now ≡ input_ports c.args.m.now = ap (map (λ n. n.now)) c.deref-name-items.ensures.value ∙ c.in_ok-names.ensures.names in
    let within : c.loop-name.name-index < length (map (λ n. n.now) c.deref-name-items.result.now) = omega (arith, c.loop-name-test.true, nows_long c.deref-name-items.result.now) in
    let is = now_at c.deref-name-items.result.now c.loop-name.name-index c.name-item.result c.name-item.is in
    elim c.if-is_clock.branch [
      | then-is_clock+in_ok-push w ↦ subst (λ (t : ℕ). IsGiving (option_copied c.clock-clock.result) (map (λ n. n.now) c.deref-name-items.result.now) c.args.held.now c.if-is_clock.given.items (c.loop-name.name-index + 1) t) (sym w.taken-is)
          (gives_clock clock names c.args.held.now c.loop-name.given.items c.if-is_clock.given.items c.loop-name.name-index c.loop-name.taken c.name-item.result.now within is c.loop-name.invariant
          (sym c.is_clock.ensures ∙ w.if-is_clock.true) (ap (λ v. v.items) w.given-is ∙ w.in_ok-push.ensures.items))
      | else-is_clock+in_ok-push-2 w ↦ subst (λ (t : ℕ). IsGiving (option_copied c.clock-clock.result) (map (λ n. n.now) c.deref-name-items.result.now) c.args.held.now c.if-is_clock.given.items (c.loop-name.name-index + 1) t) (sym w.taken-is)
          (gives_bit clock names c.args.held.now c.loop-name.given.items c.if-is_clock.given.items c.loop-name.name-index c.loop-name.taken c.name-item.result.now within is c.loop-name.invariant
          (sym c.is_clock.ensures ∙ w.if-is_clock.false) (ap (λ v. v.items) w.given-is ∙ w.in_ok-push-2.ensures.items))
    ]

pub slice_bounds-extend_from_slice-count : goal.slice_bounds-extend_from_slice-count
slice_bounds-extend_from_slice-count c =
    let clock = option_copied c.clock-clock.result in
    let names = map (λ n. n.now) c.deref-name-items.result.now in
    let ec : option_copied c.clock-clock.result ≡ c.args.m.now.clock = c.clock-clock.ensures.value in
    let en : map (λ n. n.now) c.deref-name-items.result.now ≡ input_ports c.args.m.now = ap (map (λ n. n.now)) c.deref-name-items.ensures.value ∙ c.in_ok-names.ensures.names in
    let long = counted c.args.m.now clock names c.args.held.now ec en c.requires in
    taken_within clock names c.args.held.now c.loop-name.given.items c.loop-name.name-index c.loop-name.taken c.loop-name.invariant _ long

pub slice_bounds-extend_from_slice-start : goal.slice_bounds-extend_from_slice-start
slice_bounds-extend_from_slice-start c =
    let clock = option_copied c.clock-clock.result in
    let names = map (λ n. n.now) c.deref-name-items.result.now in
    let ec : option_copied c.clock-clock.result ≡ c.args.m.now.clock = c.clock-clock.ensures.value in
    let en : map (λ n. n.now) c.deref-name-items.result.now ≡ input_ports c.args.m.now = ap (map (λ n. n.now)) c.deref-name-items.ensures.value ∙ c.in_ok-names.ensures.names in
    let long = counted c.args.m.now clock names c.args.held.now ec en c.requires in
    taken_within clock names c.args.held.now c.loop-name.given.items c.loop-name.name-index c.loop-name.taken c.loop-name.invariant _ long

pub returns-clause-length : goal.returns-clause-length
returns-clause-length c =
    let clock = option_copied c.clock-clock.result in
    let names = map (λ n. n.now) c.deref-name-items.result.now in
    let ec : option_copied c.clock-clock.result ≡ c.args.m.now.clock = c.clock-clock.ensures.value in
    let en : map (λ n. n.now) c.deref-name-items.result.now ≡ input_ports c.args.m.now = ap (map (λ n. n.now)) c.deref-name-items.ensures.value ∙ c.in_ok-names.ensures.names in
    let done = drop_all c.loop-name.name-index (map (λ n. n.now) c.deref-name-items.result.now) (omega (arith, c.loop-name-test.false, nows_long c.deref-name-items.result.now)) in
    let whole : c.extend_from_slice.new.self.items ≡ with_clock c.args.m.now.clock (input_ports c.args.m.now) c.args.held.now =
    c.in_ok-extend_from_slice.ensures.items
    ∙ ap (λ (l : List Bool). c.loop-name.given.items ++ l) (drop_taken c.args.held.now c.loop-name.taken) ∙ all_given clock names c.args.held.now c.loop-name.given.items c.loop-name.name-index c.loop-name.taken done c.loop-name.invariant
    ∙ (λ j. with_clock (ec j) (en j) c.args.held.now) in
    given_long c.args.m.now c.clock-clock.ensures.checked c.in_ok-names.ensures.ordered c.args.held.now c.extend_from_slice.new.self.items c.requires whole

pub returns-clause-values : goal.returns-clause-values
returns-clause-values c =
    let clock = option_copied c.clock-clock.result in
    let names = map (λ n. n.now) c.deref-name-items.result.now in
    let ec : option_copied c.clock-clock.result ≡ c.args.m.now.clock = c.clock-clock.ensures.value in
    let en : map (λ n. n.now) c.deref-name-items.result.now ≡ input_ports c.args.m.now = ap (map (λ n. n.now)) c.deref-name-items.ensures.value ∙ c.in_ok-names.ensures.names in
    let done = drop_all c.loop-name.name-index (map (λ n. n.now) c.deref-name-items.result.now) (omega (arith, c.loop-name-test.false, nows_long c.deref-name-items.result.now)) in
    let whole : c.extend_from_slice.new.self.items ≡ with_clock c.args.m.now.clock (input_ports c.args.m.now) c.args.held.now =
    c.in_ok-extend_from_slice.ensures.items
    ∙ ap (λ (l : List Bool). c.loop-name.given.items ++ l) (drop_taken c.args.held.now c.loop-name.taken) ∙ all_given clock names c.args.held.now c.loop-name.given.items c.loop-name.name-index c.loop-name.taken done c.loop-name.invariant
    ∙ (λ j. with_clock (ec j) (en j) c.args.held.now) in
    given_values c.args.m.now c.clock-clock.ensures.checked c.in_ok-names.ensures.ordered c.args.held.now c.extend_from_slice.new.self.items c.requires whole
