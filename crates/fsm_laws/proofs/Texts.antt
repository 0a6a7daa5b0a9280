-- Bytes are a text that is a state machine, or they have a refusal.
use Rattle.std.proofs.Common.{◌≡◌, ◌⊎◌, inl, inr, ℕ, ◌<◌, ◌≤◌, ◌+◌, List, [], map, length, Option, None, Some, refl, sym, ap, ◌∙◌}
use Rattle.std.proofs.lemmas.Bool.{cases_lt}
use Rattle.std.proofs.lemmas.List.Sorted.{IsPermutation-sym}
use Rattle.vlsi_base.specs.declared.entity.NewName.{NewName}
use Rattle.vlsi_base.specs.declared.limits.TheConstants.{MOST_SOURCE_BYTES}
use Rattle.vlsi_base.specs.declared.name.Port.{Port}
use Rattle.vlsi_base.specs.declared.pragma.Pragma.{Pragma}
use Rattle.vlsi_base.specs.declared.fault.LimitKind.TheVariants as limit
use Rattle.vlsi_base.specs.declared.fault.ReadError.{ReadError}
use Rattle.vlsi_base.specs.declared.fault.ReadError.TheVariants as errors
use Rattle.vlsi_base.specs.Member.{AllDifferent}
use Rattle.vhdl_lexer.specs.Listing.{tokens_in, refusal_in}
use Rattle.machine_core.specs.Machine.{names_of}
use Rattle.source_checks.specs.declared.symbol_table.Symbol.{Symbol}
use Rattle.source_checks.specs.Symbols.{scalar, all_names}
use Rattle.source_checks.specs.Elaboration.{port_bits}
use Rattle.source_checks.specs.Checks.{most_ports, if_symbol, first_repeated}
use Rattle.vlsi_model.proofs.Bits.{different_texts, different_bits}
use Rattle.vlsi_model.proofs.Members.{different_Sub}
use Rattle.vlsi_model.proofs.PortBits.{ports_sub}
use Rattle.vbe_laws.proofs.Arranging.{in_name_order}
use Rattle.fsm_machine.specs.Fsm.{Fsm}
use Rattle.fsm_text.specs.Written.{MachineTree}
use Rattle.fsm_text.proofs.Laws as text
use Rattle.fsm_io.specs.Known.{Named, named, symbols}
use Rattle.fsm_io.specs.Checks.{most_states, ports_count, first_fault, fault_of, PassesLimit, ports, states}
use Rattle.fsm_io.specs.Elaboration.{frame_of, body_bits, IsMachineOf}
use Rattle.fsm_io.specs.Text.{IsWritten, IsFsm, Refused, long, uncut, unwritten, faulty}
use Rattle.fsm_io.proofs.Listed.{has_state}
use Rattle.fsm_laws.specs.EachText.{EachFsm}

abbrev Answer : List ℕ → Type 0
Answer bytes = ((f : Fsm) × IsFsm bytes f) ⊎ ((e : ReadError) × Refused bytes e)

-- ---- the state machine of what is written

parts_of_none : (o : Option Symbol) (later : Option ReadError) → if_symbol o later ≡ None → (o ≡ None) × (later ≡ None)
parts_of_none None later e = (refl, e)
parts_of_none (Some s) later e = absurd cc

different_ports : (m : MachineTree) → first_repeated [] (symbols m) ≡ None → AllDifferent (names_of (port_bits (symbols m)))
different_ports m once =
    different_Sub (names_of (port_bits (symbols m))) (all_names (symbols m)) (ports_sub (symbols m)) (different_bits (symbols m) (different_texts (symbols m) once))

machine_from : (m : MachineTree) (n : Named) → first_repeated [] (symbols m) ≡ None → (f : Fsm) × IsMachineOf m n f
machine_from m n once =
    let ps = in_name_order (λ (p : Port). p.name) (port_bits (symbols m)) (different_ports m once) in (
      record {
        name = m.entity.name;
        ports = ps.list;
        clock = scalar n.clock;
        states = map (λ (s : NewName). scalar s.text) m.states.states;
        body = body_bits (frame_of m n (names_of ps.list)) m.step.body;
      },
      record { name = refl; ports = IsPermutation-sym (port_bits (symbols m)) ps.list ps.moved; ordered = ps.order; clock = refl; states = refl; body = refl },
    )

-- ---- limits

-- a limit that is passed, or that both are kept
limit_or_few : (m : MachineTree) → ((e : ReadError) × PassesLimit m e) ⊎ ((ports_count m ≤ most_ports) × (length m.states.states ≤ most_states))
limit_or_few m = by (cases_lt most_ports (ports_count m)) (cases_lt most_states (length m.states.states)) where
  by : (most_ports < ports_count m) ⊎ (ports_count m ≤ most_ports) → (most_states < length m.states.states) ⊎ (length m.states.states ≤ most_states)
      → ((e : ReadError) × PassesLimit m e) ⊎ ((ports_count m ≤ most_ports) × (length m.states.states ≤ most_states))
  by (inl many) other = inl (errors.Limit (record { which = limit.Ports; reached = ports_count m }), ports many refl)
  by (inr few) (inl many) = inl (errors.Limit (record { which = limit.States; reached = length m.states.states }), states few many refl)
  by (inr few) (inr small) = inr (few, small)

-- ---- whole texts

sound : (bytes : List ℕ) (m : MachineTree) → IsWritten bytes m → first_fault m (tokens_in bytes).pragmas ≡ None → Answer bytes
sound bytes m written none = by (named m pragmas) refl where
  pragmas : List Pragma
  pragmas = (tokens_in bytes).pragmas

  both : (first_repeated [] (symbols m) ≡ None) × (fault_of m (named m pragmas) ≡ None)
  both = parts_of_none (first_repeated [] (symbols m)) (fault_of m (named m pragmas)) none

  by : (o : Option Named) → named m pragmas ≡ o → Answer bytes
  by None is = let never : fault_of m None ≡ None = ap (fault_of m) (sym is) ∙ both.1 in absurd cc
  by (Some n) is =
      let f = machine_from m n both.0 in
      elim (limit_or_few m) [
        | inl over ↦ inr (over.0, faulty m written (inr (none, over.1)))
        | inr few ↦ inl (
          f.0,
          record {
            tree = m;
            names = n;
            written = written;
            passes = record { names = is; no_fault = none; few_ports = few.0; some_state = has_state (tokens_in bytes) m written.machine; few_states = few.1 };
            machine = f.1;
          },
        )
      ]

of_tree : (bytes : List ℕ) (m : MachineTree) → IsWritten bytes m → Answer bytes
of_tree bytes m written = by (first_fault m (tokens_in bytes).pragmas) refl where
  by : (o : Option ReadError) → first_fault m (tokens_in bytes).pragmas ≡ o → Answer bytes
  by (Some e) is = inr (e, faulty m written (inl is))
  by None is = sound bytes m written is

of_tokens : (bytes : List ℕ) → length bytes ≤ MOST_SOURCE_BYTES → refusal_in bytes ≡ None → Answer bytes
of_tokens bytes few cut = elim (text.each_machine (tokens_in bytes)) [
  | inl s ↦ of_tree bytes s.0 (record { few = few; cut = cut; machine = s.1 })
  | inr r ↦ inr (r.0, unwritten few cut r.1)
]

pub each_text : EachFsm
each_text bytes = by (cases_lt MOST_SOURCE_BYTES (length bytes)) where
  cut : length bytes ≤ MOST_SOURCE_BYTES → (o : Option ReadError) → refusal_in bytes ≡ o → Answer bytes
  cut few (Some e) is = inr (e, uncut few is)
  cut few None is = of_tokens bytes few is

  by : (MOST_SOURCE_BYTES < length bytes) ⊎ (length bytes ≤ MOST_SOURCE_BYTES) → Answer bytes
  by (inl many) = inr (errors.Limit (record { which = limit.File; reached = MOST_SOURCE_BYTES + 1 }), long many refl)
  by (inr few) = cut few (refusal_in bytes) refl
