-- Whole texts: what passes, and why others don't.
use Rattle.std.proofs.Common.{◌≡◌, ℕ, ◌<◌, Bool, true, false, cond, List, [], ◌∷◌, length, Option, Some, None, refl, sym, ap, subst, ◌∙◌, inl, inr}
use Rattle.vlsi_base.specs.declared.pragma.Pragma.{Pragma}
use Rattle.vlsi_base.specs.declared.fault.FaultKind.TheVariants as kind
use Rattle.vlsi_base.specs.declared.fault.ReadError.{ReadError}
use Rattle.vlsi_base.specs.declared.fault.ReadError.TheVariants as errors
use Rattle.source_checks.specs.declared.symbol_table.Symbol.{Symbol}
use Rattle.source_checks.specs.Symbols.{scalar}
use Rattle.source_checks.specs.Checks.{fault, if_symbol, first_repeated}
use Rattle.vhdl_lexer.specs.Listing.{tokens_in}
use Rattle.fsm_machine.specs.Fsm.{Fsm}
use Rattle.fsm_text.specs.Written.{MachineTree}
use Rattle.fsm_io.specs.Known.{Named, symbols, named, named_in, fits_all}
use Rattle.fsm_io.specs.Checks.{first_fault, fault_of, fault_behind, PassesLimit, IsRefusedFor}
use Rattle.fsm_io.specs.Elaboration.{IsMachineOf}
use Rattle.fsm_io.specs.Laws.{FsmIsChecked}
use Rattle.fsm_io.specs.Pieces.{HasRoles, PassesBehind, IsRefusedBehind}
use Rattle.fsm_io.specs.Verdict.{IsPassed, IsRefusedOrMemory}
use Rattle.std.specs.List.Sorted.{IsPermutation}
use Rattle.std.proofs.lemmas.List.Sorted.{length_permutation}
use Rattle.vlsi_base.specs.declared.name.Port.{Port}
use Rattle.machine_core.specs.Machine.{names_of}
use Rattle.source_checks.specs.declared.drivers.NameFault.{NameFault}
use Rattle.source_checks.specs.Checks.{if_name}
use Rattle.source_checks.specs.Elaboration.{port_bits}
use Rattle.fsm_machine.specs.Statements.{Statements}
use Rattle.fsm_io.specs.Drivers.{or_else}
use Rattle.fsm_io.specs.Assigned.{left_out, left_out_of}
use Rattle.fsm_io.specs.Checks.{ports_count}
use Rattle.fsm_io.specs.Pieces.{early_fault, body_over, IsFaultBehind}
use Rattle.fsm_io.proofs.Fine.{stages}
use Rattle.fsm_io.proofs.Surely.{over_any}
use Rattle.fsm_io.proofs.Listed.{lists_states}
use Rattle.fsm_io.proofs.Checking.{checked}

of_symbol : (o : Option Symbol) (later : Option ReadError) → if_symbol o later ≡ None → (o ≡ None) × (later ≡ None)
of_symbol None later e = (refl, e)
of_symbol (Some s) later e = absurd cc

-- what the pragmas name fits
fits_in : (m : MachineTree) (a b c : Option (List ℕ)) (n : Named) → named_in m a b c ≡ Some n → HasRoles m n
fits_in m (Some a) (Some b) (Some c) n e = by (fits_all m a b c) refl e where
  by : (x : Bool) → fits_all m a b c ≡ x → cond x (Some (record { current = a; next = b; clock = c })) None ≡ Some n → HasRoles m n
  by true is e =
      let same : record { current = a; next = b; clock = c } ≡ n = cc in
      subst (HasRoles m) same is
  by false is e = absurd cc
fits_in m None b c n e = absurd cc
fits_in m (Some a) None c n e = absurd cc
fits_in m (Some a) (Some b) None n e = absurd cc

pub roles_fit : (m : MachineTree) (pragmas : List Pragma) (n : Named) → named m pragmas ≡ Some n → HasRoles m n
roles_fit m pragmas n e = fits_in m _ _ _ n e

-- a text that passes is checked
pub fsm_is_checked : FsmIsChecked
fsm_is_checked bytes f is =
    let m = is.tree in
    let p = is.passes in
    let pragmas = (tokens_in bytes).pragmas in
    let a = of_symbol (first_repeated [] (symbols m)) (fault_of m (named m pragmas)) p.no_fault in
    let behind : fault_behind m is.names ≡ None = ap (fault_of m) (sym p.names) ∙ a.1 in
    checked m is.names f a.0 (roles_fit m pragmas is.names p.names) p.some_state (lists_states (tokens_in bytes) m is.written.machine) (record { no_fault = behind; few_ports = p.few_ports; few_states = p.few_states }) is.machine

-- ---- refusals

refused_by : (m : MachineTree) (n : Named) (e : ReadError) → IsFaultBehind m n e → IsRefusedBehind m n e
refused_by m n errors.Memory h = tt
refused_by m n (errors.Input f) h = h
refused_by m n (errors.Limit l) h = h

pub refused_early : (m : MachineTree) (n : Named) (e : ReadError) → Some e ≡ early_fault m n → IsRefusedBehind m n e
refused_early m n e h = refused_by m n e (inl (stages m n ∙ ap (λ (o : Option ReadError). or_else o (if_name kind.NotAssigned (left_out m n) None)) (sym h)))

left_behind : (m : MachineTree) (n : Named) → early_fault m n ≡ None → fault_behind m n ≡ if_name kind.NotAssigned (left_out m n) None
left_behind m n early = stages m n ∙ ap (λ (o : Option ReadError). or_else o (if_name kind.NotAssigned (left_out m n) None)) early

-- what the statements leave out hangs on no port bits
left_out_same : (m : MachineTree) (n : Named) (body : Statements) (ports : List Port) → body ≡ body_over m n ports → left_out_of m n body ≡ left_out m n
left_out_same m n body ports is = ap (left_out_of m n) is ∙ over_any m n (names_of ports) []

pub refused_late : (m : MachineTree) (n : Named) (body : Statements) (ports : List Port) (e : ReadError) → early_fault m n ≡ None → body ≡ body_over m n ports → Some e ≡ if_name kind.NotAssigned (left_out_of m n body) None → IsRefusedBehind m n e
refused_late m n body ports e early is h =
    refused_by m n e (inl (left_behind m n early ∙ ap (λ (o : Option NameFault). if_name kind.NotAssigned o None) (sym (left_out_same m n body ports is)) ∙ sym h))

pub none_behind : (m : MachineTree) (n : Named) (body : Statements) (ports : List Port) → early_fault m n ≡ None → body ≡ body_over m n ports → None ≡ if_name kind.NotAssigned (left_out_of m n body) None → fault_behind m n ≡ None
none_behind m n body ports early is h = left_behind m n early ∙ ap (λ (o : Option NameFault). if_name kind.NotAssigned o None) (sym (left_out_same m n body ports is)) ∙ sym h

pub refused_limit : (m : MachineTree) (n : Named) (e : ReadError) → fault_behind m n ≡ None → PassesLimit m e → IsRefusedBehind m n e
refused_limit m n e none h = refused_by m n e (inr (none, h))

pub count_is : (m : MachineTree) (ports : List Port) → IsPermutation (port_bits (symbols m)) ports → ports_count m ≡ length ports
count_is m ports p = sym (length_permutation (port_bits (symbols m)) ports p)

-- ---- whole texts

refused_for : (m : MachineTree) (pragmas : List Pragma) (e : ReadError) → IsRefusedFor m pragmas e → IsRefusedOrMemory m pragmas e
refused_for m pragmas errors.Memory h = tt
refused_for m pragmas (errors.Input f) h = h
refused_for m pragmas (errors.Limit l) h = h

first_is : (m : MachineTree) (pragmas : List Pragma) (n : Named) → first_repeated [] (symbols m) ≡ None → named m pragmas ≡ Some n → first_fault m pragmas ≡ fault_behind m n
first_is m pragmas n once names = ap (λ (o : Option Symbol). if_symbol o (fault_of m (named m pragmas))) once ∙ ap (fault_of m) names

pub passed : (m : MachineTree) (pragmas : List Pragma) (n : Named) (f : Fsm) → first_repeated [] (symbols m) ≡ None → named m pragmas ≡ Some n → 0 < length m.states.states → PassesBehind m n → IsMachineOf m n f → IsPassed m pragmas f
passed m pragmas n f once names some p is = record {
  names = n;
  passes = record { names = names; no_fault = first_is m pragmas n once names ∙ p.no_fault; few_ports = p.few_ports; some_state = some; few_states = p.few_states };
  machine = is;
}

behind_for : (m : MachineTree) (pragmas : List Pragma) (n : Named) (e : ReadError) → first_repeated [] (symbols m) ≡ None → named m pragmas ≡ Some n → IsFaultBehind m n e → IsRefusedFor m pragmas e
behind_for m pragmas n e once names (inl h) = inl (first_is m pragmas n once names ∙ h)
behind_for m pragmas n e once names (inr h) = inr (first_is m pragmas n once names ∙ h.0, h.1)

pub refused_named : (m : MachineTree) (pragmas : List Pragma) (n : Named) (e : ReadError) → first_repeated [] (symbols m) ≡ None → named m pragmas ≡ Some n → IsRefusedBehind m n e → IsRefusedOrMemory m pragmas e
refused_named m pragmas n errors.Memory once names h = tt
refused_named m pragmas n (errors.Input f) once names h = behind_for m pragmas n (errors.Input f) once names h
refused_named m pragmas n (errors.Limit l) once names h = behind_for m pragmas n (errors.Limit l) once names h

pub refused_twice : (m : MachineTree) (pragmas : List Pragma) (s : Symbol) (e : ReadError) → first_repeated [] (symbols m) ≡ Some s → e ≡ fault kind.Twice s.line (scalar s.text ∷ []) → IsRefusedOrMemory m pragmas e
refused_twice m pragmas s e h is = refused_for m pragmas e (inl (ap (λ (o : Option Symbol). if_symbol o (fault_of m (named m pragmas))) h ∙ ap Some (sym is)))

pub refused_nameless : (m : MachineTree) (pragmas : List Pragma) (e : ReadError) → first_repeated [] (symbols m) ≡ None → named m pragmas ≡ None → e ≡ fault kind.NoPragma 1 [] → IsRefusedOrMemory m pragmas e
refused_nameless m pragmas e once names is =
    refused_for m pragmas e (inl (ap (λ (o : Option Symbol). if_symbol o (fault_of m (named m pragmas))) once ∙ ap (fault_of m) names ∙ ap Some (sym is)))
