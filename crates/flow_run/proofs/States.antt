-- A netlist that agrees with the machine of a state machine does what the state machine does.
use Rattle.std.proofs.Common.{◌≡◌, ℕ, ◌<◌, Bool, false, List, [], ◌∷◌, map, replicate, length, Some, sym, ◌∙◌, ap, subst}
use Rattle.std.proofs.lemmas.List.{length-map, length-replicate}
use Rattle.vlsi_base.specs.Member.{In}
use Rattle.bool_expr.specs.Expression.{bit}
use Rattle.machine_core.specs.Named.{value_at}
use Rattle.machine_core.specs.Machine.{Machine, Register, inputs, outputs, register_names}
use Rattle.machine_core.specs.Runs.{Trace}
use Rattle.machine_core.specs.Cycles.{Settles, outs, next, RunOf, AreVectors}
use Rattle.machine_core.specs.Order.{IsOrdered}
use Rattle.machine_core.proofs.Known.{known}
use Rattle.machine_core.proofs.Solve.{settles_once_known}
use Rattle.fsm_machine.specs.Fsm.{Fsm, Resets, FsmRun}
use Rattle.fsm_machine.specs.Codes.{Codes, code_of}
use Rattle.syf_machine.specs.Meaning.{DoesAs}
use Rattle.cell_model.specs.Cell.{Function, gate, flip_flop, other, opaque, Cell}
use Rattle.cell_model.specs.Library.{Library, cell_of, IsPlain}
use Rattle.net_meaning.specs.Netlist.{Member, AbstractNetlist}
use Rattle.net_meaning.specs.Behaviour.{Contents, Valuation, Drives, NetSettles, NetTrace, net_outs}
use Rattle.net_meaning.specs.Agreement.{Agrees, IsMatched, register_instance}
use Rattle.net_meaning.specs.Well.{IsWell}
use Rattle.net_theory.proofs.Basics.{length-listed, bit-listed}
use Rattle.net_theory.proofs.Settle.{held_bits}
use Rattle.flow_run.specs.Origin.{Origin, equations, states}
use Rattle.flow_run.specs.States.{AgreesWith, AgreesWithStates}
use Rattle.flow_run.specs.Drawn.{DoesAsOrigin}

-- ---- a machine has one run under each list of vectors

-- what settles has as many bits of registers as there are
held_count : (m : Machine) (s i w : List Bool) → Settles m s i w → length s ≡ length m.registers
held_count m s i w h =
    sym (ap length h.registers) ∙ length-map (register_names m) (value_at m.vars w) ∙ length-map m.registers (λ (r : Register). r.name)

-- and as many of inputs
vector_count : (m : Machine) (s i w : List Bool) → Settles m s i w → length i ≡ length (inputs m)
vector_count m s i w h = sym (ap length h.inputs) ∙ length-map (inputs m) (value_at m.vars w)

settled_once : (m : Machine) → IsOrdered m → (s i w u : List Bool) → Settles m s i w → Settles m s i u → w ≡ u
settled_once m ordered s i w u h g =
    let once = settles_once_known m s i (known m ordered) (held_count m s i w h) (vector_count m s i w h) in
    once.2 w h ∙ sym (once.2 u g)

traced_once : (m : Machine) → IsOrdered m → (v : List (List Bool)) (s : List Bool) (ws us : List (List Bool)) → Trace (Settles m) (next m) s v ws
    → Trace (Settles m) (next m) s v us → ws ≡ us
traced_once m ordered [] s ws us h g = h ∙ sym g
traced_once m ordered (i ∷ v) s ws us h g =
    let same : h.0 ≡ g.0 = settled_once m ordered s i h.0 g.0 h.1 g.1 in
    let behind : Trace (Settles m) (next m) (next m g.0) v h.2.0 = subst (λ (w : List Bool). Trace (Settles m) (next m) (next m w) v h.2.0) same h.2.2 in
    let rest : h.2.0 ≡ g.2.0 = traced_once m ordered v (next m g.0) h.2.0 g.2.0 behind g.2.2 in
    h.2.1 ∙ ap (λ (w : List Bool). w ∷ h.2.0) same ∙ ap (λ (ws : List (List Bool)). g.0 ∷ ws) rest ∙ sym g.2.1

runs_once : (m : Machine) → IsOrdered m → (s : List Bool) (v y z : List (List Bool)) → RunOf m s v y → RunOf m s v z → y ≡ z
runs_once m ordered s v y z h g = h.2 ∙ ap (map (outs m)) (traced_once m ordered v s h.0 g.0 h.1 g.1) ∙ sym g.2

-- what runs through a vector has as many bits of registers as there are
run_count : (m : Machine) (s i : List Bool) (v y : List (List Bool)) → RunOf m s (i ∷ v) y → length s ≡ length m.registers
run_count m s i v y h = held_count m s i h.1.0 h.1.1

-- ---- contents of which each instance has one bit

-- what an instance holds, as the one bit that a flip-flop shows of it
abbrev one_bit : Contents → Contents
one_bit t owner = bit (t owner) 0 ∷ []

held_length : (m : Machine) (t : Contents) → length (held_bits m t) ≡ length m.registers
held_length m t = length-listed (length m.registers) (λ k. bit (t (register_instance k)) 0)

held_matched : (m : Machine) (t : Contents) → IsMatched (held_bits m t) (one_bit t)
held_matched m t = record {
  bits = λ k less.
      let within : k < length m.registers = subst (λ (many : ℕ). k < many) (held_length m t) less in
      ap (λ (b : Bool). b ∷ []) (sym (bit-listed (length m.registers) (λ j. bit (t (register_instance j)) 0) k within));
}

drives_too : (n : AbstractNetlist) (w : Valuation) (t : Contents) (owner : List ℕ) (c : Cell) (f : Function) → IsPlain c f → Drives n w t owner c f
    → Drives n w (one_bit t) owner c f
drives_too n w t owner c (gate e) plain h = h
drives_too n w t owner c (flip_flop data_pin clock_pin) plain h = h
drives_too n w t owner c (other machine) plain h = absurd plain
drives_too n w t owner c opaque plain h = absurd plain

module _ (n : AbstractNetlist) (l : Library) (m : Machine) (well : IsWell n l m) where
  plain : (one : Member) (c : Cell) → In one n.instances → cell_of l one.model ≡ Some c → IsPlain c c.function
  plain one c listed found =
      let model = well.models one listed in
      let both : Some model.0 ≡ Some c = sym model.1 ∙ found in
      let same : model.0 ≡ c = cc both in
      subst (λ (x : Cell). IsPlain x x.function) same model.2.function

  settles_too : (t : Contents) (i : List Bool) (w : Valuation) → NetSettles n l (inputs m) m.clock t i w → NetSettles n l (inputs m) m.clock (one_bit t) i w
  settles_too t i w h = record {
    each = h.each;
    high = h.high;
    low = h.low;
    still = h.still;
    inputs = h.inputs;
    instances = λ one c listed found. drives_too n w t one.name c c.function (plain one c listed found) (h.instances one c listed found);
  }

  trace_too : (t : Contents) (i : List Bool) (v ws : List (List Bool)) → NetTrace n l m t (i ∷ v) ws → NetTrace n l m (one_bit t) (i ∷ v) ws
  trace_too t i v ws h = (h.0, (h.1.0, settles_too t i h.1.0 h.1.1, h.1.2), h.2)

  -- ---- and so it does what the state machine does

  module _ (f : Fsm) (k : Codes) (ordered : IsOrdered m) (agrees : Agrees n l m) (does : DoesAs f k m) where
    abbrev shown : List (List Bool) → List (List Bool)
    shown ws = map (net_outs n (outputs m)) ws

    from_code : (s : ℕ) (t : Contents) (v y ws : List (List Bool)) → s < length f.states → IsMatched (code_of k s) t → AreVectors m v → FsmRun f s v y
        → NetTrace n l m t v ws → shown ws ≡ y
    from_code s t [] y ws less matched vectors run h = ap shown (h.2 ∙ ap (map (λ (w : Valuation). w.classes)) h.1) ∙ sym run
    from_code s t (i ∷ v) y ws less matched vectors run h =
        let told = does.runs s (i ∷ v) y less vectors run in
        let size = run_count m (code_of k s) i v y told in
        runs_once m ordered (code_of k s) (i ∷ v) (shown ws) y (agrees.same (code_of k s) t (i ∷ v) ws size matched vectors h) told

    -- a run behind a vector that resets tells how many registers there are
    width_is : (r : ℕ) (i : List Bool) (v y : List (List Bool)) → AreVectors m (i ∷ v) → Resets f i r → FsmRun f r v y → k.width ≡ length m.registers
    width_is r i v y vectors resets run =
        let blank : List Bool = replicate k.width false in
        let told = does.reset_runs blank i r v y (length-replicate k.width false) vectors resets run in
        sym (length-replicate k.width false) ∙ run_count m blank i v (told.0 ∷ y) told.1

    from_reset : (r : ℕ) (t : Contents) (i w : List Bool) (v y ws : List (List Bool)) → AreVectors m (i ∷ v) → Resets f i r → FsmRun f r v y
        → NetTrace n l m t (i ∷ v) (w ∷ ws) → shown ws ≡ y
    from_reset r t i w v y ws vectors resets run h =
        let s = held_bits m t in
        let size = held_length m t in
        let told = does.reset_runs s i r v y (size ∙ sym (width_is r i v y vectors resets run)) vectors resets run in
        let own = agrees.same s (one_bit t) (i ∷ v) (w ∷ ws) size (held_matched m t) vectors (trace_too t i v (w ∷ ws) h) in
        let same : net_outs n (outputs m) w ∷ shown ws ≡ told.0 ∷ y = runs_once m ordered s (i ∷ v) (shown (w ∷ ws)) (told.0 ∷ y) own told.1 in
        cc same

    agrees_with : AgreesWithStates n l f k m
    agrees_with = record { matched = from_code; runs = does.each; reset = from_reset }

pub by_states : (o : Origin) (n : AbstractNetlist) (l : Library) (m : Machine) → IsWell n l m → IsOrdered m → Agrees n l m → DoesAsOrigin o m → AgreesWith o n l m
by_states equations n l m well ordered agrees does = tt
by_states (states f k) n l m well ordered agrees does = agrees_with n l m well f k ordered agrees does
