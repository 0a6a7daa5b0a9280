-- Of a text one answer is right.
use Rattle.std.proofs.Common.{◌≡◌, ℕ, Bool, true, false, List, None, Some, inl, inr, arith, ap, sym, subst, ◌∙◌}
use Rattle.vlsi_base.specs.declared.name.Name.{Name}
use Rattle.vlsi_base.specs.declared.name.Port.{Port}
use Rattle.vlsi_base.specs.declared.pragma.Pragma.{Pragma}
use Rattle.vlsi_base.specs.declared.fault.ReadError.{ReadError}
use Rattle.vhdl_lexer.specs.Listing.{tokens_in}
use Rattle.machine_core.specs.Machine.{names_of}
use Rattle.source_checks.specs.Elaboration.{port_bits}
use Rattle.vlsi_model.proofs.OneOrder.{one_order}
use Rattle.fsm_machine.specs.Fsm.{Fsm}
use Rattle.fsm_machine.specs.Statements.{Statements}
use Rattle.fsm_text.specs.Written.{MachineTree}
use Rattle.fsm_text.proofs.Laws as text
use Rattle.fsm_io.specs.Known.{Named, named, symbols}
use Rattle.fsm_io.specs.Checks.{PassesLimit, ports, states, IsRefusedFor, Passes}
use Rattle.fsm_io.specs.Elaboration.{IsMachineOf, body_bits, frame_of}
use Rattle.fsm_io.proofs.Once as fixed_once
use Rattle.state_free.specs.declared.state_machine.FreeStateMachine.{FreeStateMachine}
use Rattle.fsm_free.specs.declared.reader.FsmSource.{FsmSource}
use Rattle.fsm_free.specs.declared.reader.FsmSource.TheVariants as source
use Rattle.fsm_free.specs.Tokens.{with_operands, leaves_free}
use Rattle.fsm_free.specs.Filled.{filled}
use Rattle.fsm_free.specs.Text.{IsFreeWritten, IsFreeFsm, RefusedFree, unwritten, faulty, IsSource, RefusedSource, fixed, free}
use Rattle.fsm_free.specs.Laws.{OneSource, NeverBothSource, OneRefusalSource}

-- ---- the checks of one text

limit_or_few : (m : MachineTree) (pragmas : List Pragma) (n : Named) (e : ReadError) → Passes m pragmas n → PassesLimit m e → ⊥
limit_or_few m pragmas n e p (ports over is) = let few = p.few_ports in absurd (omega (arith, over, few))
limit_or_few m pragmas n e p (states few over is) = let small = p.few_states in absurd (omega (arith, over, small))

pass_or_fail : (m : MachineTree) (pragmas : List Pragma) (n : Named) (e : ReadError) → Passes m pragmas n → IsRefusedFor m pragmas e → ⊥
pass_or_fail m pragmas n e p (inl h) = let both : None ≡ Some e = sym p.no_fault ∙ h in absurd cc
pass_or_fail m pragmas n e p (inr h) = limit_or_few m pragmas n e p h.1

one_limit : (m : MachineTree) (d e : ReadError) → PassesLimit m d → PassesLimit m e → d ≡ e
one_limit m d e (ports over is) (ports many same) = is ∙ sym same
one_limit m d e (ports over is) (states few many same) = absurd (omega (arith, over, few))
one_limit m d e (states few over is) (ports many same) = absurd (omega (arith, many, few))
one_limit m d e (states few over is) (states small many same) = is ∙ sym same

one_fault : (m : MachineTree) (pragmas : List Pragma) (d e : ReadError) → IsRefusedFor m pragmas d → IsRefusedFor m pragmas e → d ≡ e
one_fault m pragmas d e (inl h) (inl k) = let both : Some d ≡ Some e = sym h ∙ k in cc
one_fault m pragmas d e (inl h) (inr k) = let both : Some d ≡ None = sym h ∙ k.0 in absurd cc
one_fault m pragmas d e (inr h) (inl k) = let both : Some e ≡ None = sym k ∙ h.0 in absurd cc
one_fault m pragmas d e (inr h) (inr k) = one_limit m d e h.1 k.1

machine_once : (m : MachineTree) (n : Named) (f g : Fsm) → IsMachineOf m n f → IsMachineOf m n g → f ≡ g
machine_once m n f g a b =
    let ports : f.ports ≡ g.ports = one_order (λ (p : Port). p.name) (port_bits (symbols m)) f.ports g.ports a.ports b.ports a.ordered b.ordered in
    let body : f.body ≡ g.body = a.body ∙ ap (λ (ps : List Port). body_bits (frame_of m n (names_of ps)) m.step.body) ports ∙ sym b.body in
    let name : f.name ≡ g.name = a.name ∙ sym b.name in
    let clock : f.clock ≡ g.clock = a.clock ∙ sym b.clock in
    let states : f.states ≡ g.states = a.states ∙ sym b.states in
    ap (λ (x : List ℕ). record f { name = x }) name ∙ ap (λ (ps : List Port). record f { name = g.name; ports = ps }) ports ∙ ap (λ (k : Name). record f { name = g.name; ports = g.ports; clock = k }) clock
    ∙ ap (λ (ks : List Name). record f { name = g.name; ports = g.ports; clock = g.clock; states = ks }) states
    ∙ ap (λ (s : Statements). record f { name = g.name; ports = g.ports; clock = g.clock; states = g.states; body = s }) body

-- ---- texts that leave bits free

written_once : (bytes : List ℕ) (a b : MachineTree) → IsFreeWritten bytes a → IsFreeWritten bytes b → a ≡ b
written_once bytes a b wa wb = text.one_machine (with_operands (tokens_in bytes)) a b wa.machine wb.machine

same_names : (m : MachineTree) (pragmas : List Pragma) (a b : Named) → named m pragmas ≡ Some a → named m pragmas ≡ Some b → a ≡ b
same_names m pragmas a b e h = let both : Some a ≡ Some b = sym e ∙ h in cc

both_same : (f g : FreeStateMachine) → f.low ≡ g.low → f.high ≡ g.high → f ≡ g
both_same f g lo hi = ap (λ (x : Fsm). record { low = x; high = f.high }) lo ∙ ap (λ (x : Fsm). record { low = g.low; high = x }) hi

one_free : (bytes : List ℕ) (f g : FreeStateMachine) → IsFreeFsm bytes f → IsFreeFsm bytes g → f ≡ g
one_free bytes f g a b =
    let pragmas = (tokens_in bytes).pragmas in
    let same : a.tree ≡ b.tree = written_once bytes a.tree b.tree a.written b.written in
    let passes = subst (λ (t : MachineTree). Passes (filled false t) pragmas a.names) same a.passes in
    let names : a.names ≡ b.names = same_names (filled false b.tree) pragmas a.names b.names passes.names b.passes.names in
    let low = subst (λ (k : Named). IsMachineOf (filled false b.tree) k f.low) names (subst (λ (t : MachineTree). IsMachineOf (filled false t) a.names f.low) same a.low) in
    let high = subst (λ (k : Named). IsMachineOf (filled true b.tree) k f.high) names (subst (λ (t : MachineTree). IsMachineOf (filled true t) a.names f.high) same a.high) in
    both_same f g (machine_once (filled false b.tree) b.names f.low g.low low b.low) (machine_once (filled true b.tree) b.names f.high g.high high b.high)

never_free : (bytes : List ℕ) (f : FreeStateMachine) (e : ReadError) → IsFreeFsm bytes f → RefusedFree bytes e → ⊥
never_free bytes f e is (unwritten few cut wrong) = text.never_both (with_operands (tokens_in bytes)) is.tree e is.written.machine wrong
never_free bytes f e is (faulty m w wrong) =
    let same : m ≡ is.tree = written_once bytes m is.tree w is.written in
    pass_or_fail (filled false is.tree) (tokens_in bytes).pragmas is.names e is.passes (subst (λ (t : MachineTree). IsRefusedFor (filled false t) (tokens_in bytes).pragmas e) same wrong)

one_refused : (bytes : List ℕ) (d e : ReadError) → RefusedFree bytes d → RefusedFree bytes e → d ≡ e
one_refused bytes d e (unwritten few cut wrong) (unwritten small whole other) = text.one_refusal (with_operands (tokens_in bytes)) d e wrong other
one_refused bytes d e (unwritten few cut wrong) (faulty m w other) = absurd (text.never_both (with_operands (tokens_in bytes)) m d w.machine wrong)
one_refused bytes d e (faulty m w wrong) (unwritten few cut other) = absurd (text.never_both (with_operands (tokens_in bytes)) m e w.machine other)
one_refused bytes d e (faulty m w wrong) (faulty k u other) =
    let same : m ≡ k = written_once bytes m k w u in
    one_fault (filled false k) (tokens_in bytes).pragmas d e (subst (λ (t : MachineTree). IsRefusedFor (filled false t) (tokens_in bytes).pragmas d) same wrong) other

-- ---- whole texts

apart : (bytes : List ℕ) → leaves_free bytes ≡ false → leaves_free bytes ≡ true → ⊥
apart bytes none some = let both : false ≡ true = sym none ∙ some in absurd cc

pub one_source : OneSource
one_source bytes (source.Fixed f) (source.Fixed g) a b = ap source.Fixed (fixed_once.one_fsm bytes f g a.1 b.1)
one_source bytes (source.Fixed f) (source.Free g) a b = absurd (apart bytes a.0 b.0)
one_source bytes (source.Free f) (source.Fixed g) a b = absurd (apart bytes b.0 a.0)
one_source bytes (source.Free f) (source.Free g) a b = ap source.Free (one_free bytes f g a.1 b.1)

pub never_both : NeverBothSource
never_both bytes (source.Fixed f) e a (fixed none h) = fixed_once.never_both bytes f e a.1 h
never_both bytes (source.Fixed f) e a (free some h) = apart bytes a.0 some
never_both bytes (source.Free f) e a (fixed none h) = apart bytes none a.0
never_both bytes (source.Free f) e a (free some h) = never_free bytes f e a.1 h

pub one_refusal : OneRefusalSource
one_refusal bytes d e (fixed none h) (fixed same k) = fixed_once.one_refusal bytes d e h k
one_refusal bytes d e (fixed none h) (free some k) = absurd (apart bytes none some)
one_refusal bytes d e (free some h) (fixed none k) = absurd (apart bytes none some)
one_refusal bytes d e (free some h) (free same k) = one_refused bytes d e h k
