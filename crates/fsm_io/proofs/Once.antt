-- Of a text one answer is right.
use Rattle.std.proofs.Common.{◌≡◌, ℕ, List, None, Some, inl, inr, arith, ap, sym, subst, ◌∙◌}
use Rattle.vlsi_base.specs.declared.pragma.Pragma.{Pragma}
use Rattle.vlsi_base.specs.declared.fault.ReadError.{ReadError}
use Rattle.vhdl_lexer.specs.Listing.{tokens_in, refusal_in}
use Rattle.fsm_machine.specs.Fsm.{Fsm}
use Rattle.fsm_machine.specs.Statements.{Statements}
use Rattle.vlsi_base.specs.declared.name.Name.{Name}
use Rattle.vlsi_base.specs.declared.name.Port.{Port}
use Rattle.machine_core.specs.Machine.{names_of}
use Rattle.source_checks.specs.Elaboration.{port_bits}
use Rattle.vlsi_model.proofs.OneOrder.{one_order}
use Rattle.fsm_text.specs.Written.{MachineTree}
use Rattle.fsm_text.proofs.Laws as text
use Rattle.fsm_io.specs.Known.{Named, named, symbols}
use Rattle.fsm_io.specs.Checks.{PassesLimit, ports, states, IsRefusedFor, Passes}
use Rattle.fsm_io.specs.Elaboration.{IsMachineOf, body_bits, frame_of}
use Rattle.fsm_io.specs.Text.{IsWritten, long, uncut, unwritten, faulty}
use Rattle.fsm_io.specs.Laws.{OneFsm, NeverBoth, OneRefusal}

-- ---- the checks of one text

limit_or_few : (m : MachineTree) (pragmas : List Pragma) (n : Named) (e : ReadError) → Passes m pragmas n → PassesLimit m e → ⊥
limit_or_few m pragmas n e p (ports over is) = let few = p.few_ports in absurd (omega (arith, over, few))
limit_or_few m pragmas n e p (states few over is) = let small = p.few_states in absurd (omega (arith, over, small))

pass_or_fail : (m : MachineTree) (pragmas : List Pragma) (n : Named) (e : ReadError) → Passes m pragmas n → IsRefusedFor m pragmas e → ⊥
pass_or_fail m pragmas n e p (inl h) = let both : None ≡ Some e = sym p.no_fault ∙ h in absurd cc
pass_or_fail m pragmas n e p (inr h) = limit_or_few m pragmas n e p h.1

one_limit : (m : MachineTree) (d e : ReadError) → PassesLimit m d → PassesLimit m e → d ≡ e
one_limit m d e (ports over is) (ports many same) = is ∙ sym same
one_limit m d e (ports over is) (states few many same) = absurd (omega (arith, over, few))
one_limit m d e (states few over is) (ports many same) = absurd (omega (arith, many, few))
one_limit m d e (states few over is) (states small many same) = is ∙ sym same

one_fault : (m : MachineTree) (pragmas : List Pragma) (d e : ReadError) → IsRefusedFor m pragmas d → IsRefusedFor m pragmas e → d ≡ e
one_fault m pragmas d e (inl h) (inl k) = let both : Some d ≡ Some e = sym h ∙ k in cc
one_fault m pragmas d e (inl h) (inr k) = let both : Some d ≡ None = sym h ∙ k.0 in absurd cc
one_fault m pragmas d e (inr h) (inl k) = let both : Some e ≡ None = sym k ∙ h.0 in absurd cc
one_fault m pragmas d e (inr h) (inr k) = one_limit m d e h.1 k.1

-- ---- the stages before

written_once : (bytes : List ℕ) (a b : MachineTree) → IsWritten bytes a → IsWritten bytes b → a ≡ b
written_once bytes a b wa wb = text.one_machine (tokens_in bytes) a b wa.machine wb.machine

cut_or_not : (bytes : List ℕ) (e : ReadError) → refusal_in bytes ≡ None → refusal_in bytes ≡ Some e → ⊥
cut_or_not bytes e none some = let both : None ≡ Some e = sym none ∙ some in absurd cc

-- ---- whole texts

pub never_both : NeverBoth
never_both bytes f e is (long over same) = let few = is.written.few in absurd (omega (arith, over, few))
never_both bytes f e is (uncut few some) = cut_or_not bytes e is.written.cut some
never_both bytes f e is (unwritten few cut wrong) = text.never_both (tokens_in bytes) is.tree e is.written.machine wrong
never_both bytes f e is (faulty m w wrong) =
    let same : m ≡ is.tree = written_once bytes m is.tree w is.written in
    pass_or_fail is.tree (tokens_in bytes).pragmas is.names e is.passes (subst (λ (t : MachineTree). IsRefusedFor t (tokens_in bytes).pragmas e) same wrong)

pub one_refusal : OneRefusal
one_refusal bytes d e (long over is) (long many same) = is ∙ sym same
one_refusal bytes d e (long over is) (uncut few some) = absurd (omega (arith, over, few))
one_refusal bytes d e (long over is) (unwritten few cut wrong) = absurd (omega (arith, over, few))
one_refusal bytes d e (long over is) (faulty m w wrong) = let few = w.few in absurd (omega (arith, over, few))
one_refusal bytes d e (uncut few some) (long over is) = absurd (omega (arith, over, few))
one_refusal bytes d e (uncut few some) (uncut small other) = let both : Some d ≡ Some e = sym some ∙ other in cc
one_refusal bytes d e (uncut few some) (unwritten small cut wrong) = absurd (cut_or_not bytes d cut some)
one_refusal bytes d e (uncut few some) (faulty m w wrong) = absurd (cut_or_not bytes d w.cut some)
one_refusal bytes d e (unwritten few cut wrong) (long over is) = absurd (omega (arith, over, few))
one_refusal bytes d e (unwritten few cut wrong) (uncut small some) = absurd (cut_or_not bytes e cut some)
one_refusal bytes d e (unwritten few cut wrong) (unwritten small whole other) = text.one_refusal (tokens_in bytes) d e wrong other
one_refusal bytes d e (unwritten few cut wrong) (faulty m w other) = absurd (text.never_both (tokens_in bytes) m d w.machine wrong)
one_refusal bytes d e (faulty m w wrong) (long over is) = let few = w.few in absurd (omega (arith, over, few))
one_refusal bytes d e (faulty m w wrong) (uncut few some) = absurd (cut_or_not bytes e w.cut some)
one_refusal bytes d e (faulty m w wrong) (unwritten few cut other) = absurd (text.never_both (tokens_in bytes) m e w.machine other)
one_refusal bytes d e (faulty m w wrong) (faulty k u other) =
    let same : m ≡ k = written_once bytes m k w u in
    one_fault k (tokens_in bytes).pragmas d e (subst (λ (t : MachineTree). IsRefusedFor t (tokens_in bytes).pragmas d) same wrong) other

-- ports in the order of names that are permutations of each other are equal; all else is told by the tree
machine_once : (m : MachineTree) (n : Named) (f g : Fsm) → IsMachineOf m n f → IsMachineOf m n g → f ≡ g
machine_once m n f g a b =
    let ports : f.ports ≡ g.ports = one_order (λ (p : Port). p.name) (port_bits (symbols m)) f.ports g.ports a.ports b.ports a.ordered b.ordered in
    let body : f.body ≡ g.body = a.body ∙ ap (λ (ps : List Port). body_bits (frame_of m n (names_of ps)) m.step.body) ports ∙ sym b.body in
    let name : f.name ≡ g.name = a.name ∙ sym b.name in
    let clock : f.clock ≡ g.clock = a.clock ∙ sym b.clock in
    let states : f.states ≡ g.states = a.states ∙ sym b.states in
    ap (λ (x : List ℕ). record f { name = x }) name ∙ ap (λ (ps : List Port). record f { name = g.name; ports = ps }) ports ∙ ap (λ (k : Name). record f { name = g.name; ports = g.ports; clock = k }) clock
    ∙ ap (λ (ks : List Name). record f { name = g.name; ports = g.ports; clock = g.clock; states = ks }) states
    ∙ ap (λ (s : Statements). record f { name = g.name; ports = g.ports; clock = g.clock; states = g.states; body = s }) body

same_names : (m : MachineTree) (pragmas : List Pragma) (a b : Named) → named m pragmas ≡ Some a → named m pragmas ≡ Some b → a ≡ b
same_names m pragmas a b e h = let both : Some a ≡ Some b = sym e ∙ h in cc

pub one_fsm : OneFsm
one_fsm bytes f g a b =
    let same : a.tree ≡ b.tree = written_once bytes a.tree b.tree a.written b.written in
    at b.tree a.names b.names (subst (λ (t : MachineTree). Passes t (tokens_in bytes).pragmas a.names) same a.passes) b.passes (subst (λ (t : MachineTree). IsMachineOf t a.names f) same a.machine) b.machine where
      at : (m : MachineTree) (x y : Named) → Passes m (tokens_in bytes).pragmas x → Passes m (tokens_in bytes).pragmas y → IsMachineOf m x f → IsMachineOf m y g → f ≡ g
      at m x y p q c d =
          let names : x ≡ y = same_names m (tokens_in bytes).pragmas x y p.names q.names in
          machine_once m y f g (subst (λ (k : Named). IsMachineOf m k f) names c) d
