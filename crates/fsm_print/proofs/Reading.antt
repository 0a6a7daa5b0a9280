-- The text of a state machine passes all checks, and is read as the same.
use Rattle.std.proofs.Common.{◌≡◌, inl, ℕ, ◌<◌, Bool, true, false, cond, not, ◌&&◌, ◌||◌, List, [], ◌∷◌, ◌++◌, map, length, bytes_eq, Option, None, Some, refl, sym, ap, subst, ◌∙◌, arith}
use Rattle.std.specs.List.{All, list_any, flat_map}
use Rattle.std.proofs.lemmas.List.{length-map}
use Rattle.std.proofs.lemmas.List.Elements.{All-head, All-tail}
use Rattle.std.proofs.lemmas.List.Sorted.{length_permutation}
use Rattle.vlsi_base.specs.declared.name.Name.{Name}
use Rattle.vlsi_base.specs.declared.name.Port.{Port}
use Rattle.vlsi_base.specs.declared.pragma.Pragma.{Pragma}
use Rattle.vlsi_base.specs.declared.entity.NewName.{NewName}
use Rattle.vlsi_base.specs.declared.fault.FaultKind.TheVariants as kind
use Rattle.vlsi_base.specs.declared.fault.ReadError.{ReadError}
use Rattle.vlsi_base.specs.declared.fault.ReadError.TheVariants as errors
use Rattle.vlsi_base.specs.Member.{In, here, there, AllDifferent}
use Rattle.vlsi_base.specs.Name.{is_supply}
use Rattle.source_checks.specs.declared.symbol_table.Symbol.{Symbol}
use Rattle.source_checks.specs.declared.drivers.NameFault.{NameFault}
use Rattle.source_checks.specs.Symbols.{scalar}
use Rattle.source_checks.specs.Places.{Use, first_unknown}
use Rattle.source_checks.specs.Widths.{if_not, port_faults}
use Rattle.source_checks.specs.Drivers.{is_among}
use Rattle.source_checks.specs.Unsupported.{supply_faults, port_forms}
use Rattle.source_checks.specs.Elaboration.{port_bits}
use Rattle.source_checks.specs.Checks.{if_symbol, if_use, if_line, if_name, first_repeated}
use Rattle.source_checks.proofs.Lookups.{same_of}
use Rattle.vlsi_model.proofs.Bits.{texts}
use Rattle.vst_print.specs.Groups.{Group, grouped, declared}
use Rattle.vst_print.proofs.Runs.{some_groups}
use Rattle.vst_print.proofs.Grouped.{bits_good}
use Rattle.vst_print.proofs.Names.{texts_all}
use Rattle.vst_print.proofs.Netlists.{outline_name}
use Rattle.vbe_print.proofs.Known.{all_by, all_in}
use Rattle.vbe_laws.proofs.Plain.{used_both, nothing}
use Rattle.vbe_laws.proofs.Stated.{none_unknown}
use Rattle.vbe_laws.proofs.Declared.{entity_fine, FitsSupply, entity_forms}
use Rattle.fsm_machine.specs.Statements.{Assignment, Statements}
use Rattle.fsm_machine.specs.Fsm.{Fsm, fsm_outputs}
use Rattle.fsm_machine.specs.Assigned.{sure, sets_next, sets_output}
use Rattle.fsm_core.specs.Checked.{IsCheckedFsm}
use Rattle.fsm_text.specs.Written.{MachineTree}
use Rattle.fsm_io.specs.Known.{Named, symbols, texts as new_texts, is_clock_port, fits_all, named}
use Rattle.fsm_io.specs.Looks.{body_has_case, uses_at, all_uses, all_mentions, clock_uses}
use Rattle.fsm_io.specs.Widths.{widths_at, clock_widths, all_widths}
use Rattle.fsm_io.specs.Drivers.{names_at, or_else, first_unassigned}
use Rattle.fsm_io.specs.Unsupported.{forms_at, clock_forms, behind_mentions, all_forms}
use Rattle.fsm_io.specs.Clock.{is_edge, clock_reads_at, all_clock_reads}
use Rattle.fsm_io.specs.States.{bad_states, all_bad_states}
use Rattle.fsm_io.specs.Assigned.{always, next_left_out, left_out}
use Rattle.fsm_io.specs.Elaboration.{frame_of, body_bits, IsMachineOf}
use Rattle.fsm_io.specs.Checks.{if_state, fault_behind, fault_of, first_fault, Passes}
use Rattle.fsm_io.specs.Text.{IsFsm, Refused, IsFsmRefusal}
use Rattle.fsm_io.specs.Laws.{OneFsm, NeverBoth}
use Rattle.fsm_io.proofs.StateNames.{or_second}
use Rattle.fsm_io.proofs.Surely.{Blind, body_same}
use Rattle.fsm_print.specs.declared.words.Words.{Words}
use Rattle.fsm_print.specs.Writable.{CanBeFsm}
use Rattle.fsm_print.specs.Written.{AreWords, texts_of, text}
use Rattle.fsm_print.proofs.Known.{known as known_body}
use Rattle.fsm_print.specs.Placed.{named_at, placed_pragmas, type_line, body_line, machine_of}
use Rattle.fsm_print.specs.Said.{IsWithinLimits, WrittenIsASentence}
use Rattle.fsm_print.proofs.Declared.{Ready, sound_ports}
use Rattle.fsm_print.specs.Again.{FsmReadAgain, FsmIsAccepted}
use Rattle.fsm_print.proofs.KnownRead.{symbols_differ, ports_line, port_free, output_bit, ports_permuted, in_contains}
use Rattle.fsm_print.proofs.Body.{itself, body_again}
use Rattle.fsm_print.proofs.Quiet.{AreQuiet, roles_with, has_case, quiet_body}
use Rattle.fsm_print.proofs.States.{none_bad}
use Rattle.fsm_print.proofs.Assigned.{named_body, in_among, outputs_assigned, each_always}
use Rattle.fsm_print.proofs.ClockRead.{process_uses, process_widths, process_forms, process_edge}
use Rattle.fsm_print.proofs.NamesRead.{can_read, can_look, can_clock, clock_declared, signals_apart, current_free, next_free, clock_found}

-- ---- names that are declared once

not_before : (t : List ℕ) (before : List (List ℕ)) → (In t before → ⊥) → list_any (bytes_eq t) before ≡ false
not_before t [] lacks = refl
not_before t (b ∷ before) lacks = by (not_before t before (λ h. lacks (there h))) (bytes_eq t b) refl where
  by : list_any (bytes_eq t) before ≡ false → (x : Bool) → bytes_eq t b ≡ x → (x || list_any (bytes_eq t) before) ≡ false
  by rest false e = rest
  by rest true e = absurd (lacks (subst (λ (u : List ℕ). In t (u ∷ before)) (same_of t b e) here))

never_repeated : (before : List (List ℕ)) (known : List Symbol) → AllDifferent (texts known) → ((t : List ℕ) → In t before → In t (texts known) → ⊥) → first_repeated before known ≡ None
never_repeated before [] d apart = refl
never_repeated before (s ∷ known) d apart =
    ap (λ b. cond b (Some s) (first_repeated (s.text ∷ before) known)) (not_before s.text before (λ h. apart s.text h here))
    ∙ never_repeated (s.text ∷ before) known d.1 (more s.text (λ u h g. apart u h (there g)) d.0) where
      more : (t : List ℕ) → ((u : List ℕ) → In u before → In u (texts known) → ⊥) → (In t (texts known) → ⊥) → (u : List ℕ) → In u (t ∷ before) → In u (texts known) → ⊥
      more t later own u here g = own g
      more t later own u (there h) g = later u h g

-- no check finds a fault
all_none : {a : Option Use} {b : List ℕ} {c : Option NameFault} {d e : List ℕ} {g : List Use} {h : Option NameFault} → a ≡ None → b ≡ [] → c ≡ None → d ≡ [] → e ≡ [] → g ≡ [] → h ≡ None
    → if_use a (if_line kind.Width b (if_name kind.Undriven c (if_line kind.Unsupported d (if_line kind.ClockUse e (if_state g (if_name kind.NotAssigned h None)))))) ≡ None
all_none p q r s t u v = rw (p, q, r, s, t, u, v) refl

-- ---- states

states_texts : (line : ℕ) (ns : List Name) → new_texts (map (λ (n : Name). named_at line n.text) ns) ≡ texts_of ns
states_texts line [] = refl
states_texts line (n ∷ ns) = ap (λ (ts : List (List ℕ)). n.text ∷ ts) (states_texts line ns)

bare : List ℕ → Option ℕ → Name
bare t b = record { text = t; bit = b }

abbrev IsStateName : Name → Type 0
IsStateName n = n.bit ≡ None

states_again : (line : ℕ) (ns : List Name) → All (λ n. n.bit ≡ None) ns → ns ≡ map (λ (s : NewName). scalar s.text) (map (λ (n : Name). named_at line n.text) ns)
unfolding bare
states_again line [] all = refl
states_again line (n ∷ ns) all =
    ap (λ (b : Option ℕ). bare n.text b ∷ ns) (All-head IsStateName n ns all) ∙ ap (λ (ms : List Name). scalar n.text ∷ ms) (states_again line ns (All-tail IsStateName n ns all))

all_signs : (a b c d : Bool) → a ≡ true → b ≡ true → c ≡ true → d ≡ true → ((a && (b && c)) && d) ≡ true
all_signs a b c d p q r s = rw (p, q, r, s) refl

module _ (w : Words) (f : Fsm) (r : Ready w f) where
  abbrev m : MachineTree
  m = machine_of w f

  abbrev n : Named
  n = roles_with w f.clock.text

  abbrev known : List Symbol
  known = symbols m

  -- ---- pragmas

  fits : fits_all m w.current w.next f.clock.text ≡ true
  fits =
      all_signs (bytes_eq w.current w.current || bytes_eq w.next w.current) (bytes_eq w.current w.next || bytes_eq w.next w.next) (not (bytes_eq w.current w.next)) (is_clock_port m.entity.ports f.clock.text)
      (ap (λ b. b || bytes_eq w.next w.current) (itself w.current)) (or_second (bytes_eq w.current w.next) (bytes_eq w.next w.next) (itself w.next))
      (ap not (signals_apart w f r)) (clock_found w f r)

  named_so : named m (placed_pragmas w f.clock.text) ≡ Some n
  named_so = ap (λ b. cond b (Some n) None) fits

  -- ---- the checks, in their order

  none_twice : first_repeated [] known ≡ None
  none_twice = never_repeated [] known (symbols_differ w f r) (λ t h g. elim h [ ])

  quiet : AreQuiet known n (all_mentions m)
  quiet =
      let one = r.checked.one_case in
      quiet_body known f.clock.text w f (can_look w f r) false (body_line f) f.body r.checked.reads r.named.plain (omega (arith, one))

  all_known : first_unknown known (all_uses m n) ≡ None
  all_known =
      none_unknown known (all_uses m n)
      (used_both known (flat_map (uses_at n) (all_mentions m)) (clock_uses m.clock) quiet.uses
      (process_uses known f.clock.text w m.clock.condition_line m.clock.target.line (can_clock w f r)))

  groups_some : 0 < length (map declared (grouped f.ports))
  groups_some = some_groups f.ports (sound_ports w f r).some

  all_wide : all_widths m n ≡ []
  all_wide =
      nothing (port_faults m.entity.ports) (flat_map (widths_at known n) (all_mentions m) ++ clock_widths known n m.clock)
      (entity_fine ports_line f.name (grouped f.ports) groups_some (bits_good f.ports (sound_ports w f r).chain))
      (nothing (flat_map (widths_at known n) (all_mentions m)) (clock_widths known n m.clock) quiet.widths
      (process_widths known f.clock.text w m.clock.condition_line m.clock.target.line (can_clock w f r)))

  output_named : (x : Name) → In x (fsm_outputs f) → In x (flat_map (names_at known) (all_mentions m))
  output_named x h =
      named_body known f.clock.text w f (can_read w f r) x false (body_line f) 0 f.body r.checked.reads (r.checked.assigned.outputs 0 r.checked.some_state x (in_contains (fsm_outputs f) x h))

  all_driven : first_unassigned m ≡ None
  all_driven =
      let N = flat_map (names_at known) (all_mentions m) in
      outputs_assigned (is_among N) known (fsm_outputs f) (output_bit w f r) (λ x h. in_among N x (output_named x h))

  fit_groups : All FitsSupply (grouped f.ports)
  fit_groups =
      all_by FitsSupply (grouped f.ports) (λ g h. inl (free g h)) where
        all : All (λ (g : Group). is_supply g.text ≡ false) (grouped f.ports)
        all = texts_all (λ t. is_supply t ≡ false) f.ports (all_by (λ (p : Port). is_supply p.name.text ≡ false) f.ports (port_free w f r))

        free : (g : Group) → In g (grouped f.ports) → is_supply g.text ≡ false
        free g h = all_in (λ (x : Group). is_supply x.text ≡ false) (grouped f.ports) all g h

  signals_fit : supply_faults false (m.signals.first ∷ m.signals.second ∷ []) ≡ []
  signals_fit =
      let l = m.signals.line in
      nothing (if_not (false || not (is_supply w.current)) l) (if_not (false || not (is_supply w.next)) l ++ [])
      (ap (λ b. if_not (not b) l) (current_free w f r)) (ap (λ b. if_not (not b) l ++ []) (next_free w f r))

  behind_fits : behind_mentions m n ≡ []
  behind_fits =
      nothing (if_not (body_has_case m.step.body) m.step.end_line) (clock_forms n m.clock)
      (ap (λ b. if_not b m.step.end_line) (has_case w (body_line f) f.body r.checked.one_case))
      (process_forms f.clock.text w m.clock.condition_line m.clock.target.line)

  all_supported : all_forms m n ≡ []
  all_supported =
      let F = flat_map (forms_at known n) (all_mentions m) in
      let S = supply_faults false (m.signals.first ∷ m.signals.second ∷ []) in
      nothing (port_forms m.entity.ports) (S ++ (F ++ behind_mentions m n)) (entity_forms ports_line f.name (grouped f.ports) groups_some fit_groups)
      (nothing S (F ++ behind_mentions m n) signals_fit (nothing F (behind_mentions m n) quiet.forms behind_fits))

  all_clocks : all_clock_reads m n ≡ []
  all_clocks =
      let l = m.clock.condition_line in
      nothing (flat_map (clock_reads_at n) (all_mentions m)) (if_not (is_edge known f.clock.text m.clock.condition) l) quiet.clocks
      (ap (λ b. if_not b l) (process_edge known f.clock.text l (clock_declared w f r)))

  all_states : all_bad_states m n ≡ []
  all_states =
      let one = r.checked.one_case in
      ap (λ (ts : List (List ℕ)). bad_states ts w.next [] (all_mentions m)) (states_texts (type_line f) w.states)
      ∙ none_bad known f.clock.text w f (can_read w f r) (body_line f) f.body r.checked.reads (known_body f w r.checked r.words) r.checked.sound r.checked.listed (omega (arith, one))

  -- ---- what is read, and that none is left out

  body_read : body_bits (frame_of m n w.vars) m.step.body ≡ f.body
  body_read =
      ap (λ (ts : List (List ℕ)). body_bits (record { vars = w.vars; known = known; states = ts; next = w.next }) m.step.body) (states_texts (type_line f) w.states)
      ∙ body_again known f.clock.text w f (can_read w f r) (body_line f) f.body r.checked.reads r.named.plain (known_body f w r.checked r.words)

  many_states : length m.states.states ≡ length f.states
  many_states = length-map w.states (λ (x : Name). named_at (type_line f) x.text) ∙ ap (λ (ns : List Name). length ns) r.words.states

  always_read : (sets : Assignment → Bool) → Blind sets → ((q : ℕ) → q < length f.states → sure sets q f.body ≡ true) → always (length m.states.states) sets (body_bits (frame_of m n []) m.step.body) ≡ true
  always_read sets blind h =
      let many = many_states in
      each_always (length m.states.states) sets (body_bits (frame_of m n []) m.step.body)
      (λ q l. body_same sets blind q m n [] w.vars m.step.body ∙ ap (λ (b : Statements). sure sets q b) body_read ∙ h q (omega (arith, l, many)))

  none_left : left_out m n ≡ None
  none_left =
      let B = body_bits (frame_of m n []) m.step.body in
      let count = length m.states.states in
      ap (λ (o : Option NameFault). or_else o (next_left_out m n B))
      (outputs_assigned (λ (x : Name). always count (sets_output x) B) known (fsm_outputs f) (output_bit w f r)
      (λ x h. always_read (sets_output x) (λ y a b. refl) (λ q l. r.checked.assigned.outputs q l x (in_contains (fsm_outputs f) x h))))
      ∙ ap (λ b. cond b None (Some (record { line = m.signals.line; name = scalar w.next }))) (always_read sets_next (λ y a b. refl) r.checked.assigned.next_state)

  none_behind : fault_behind m n ≡ None
  none_behind = all_none all_known all_wide all_driven all_supported all_clocks all_states none_left

  no_fault : first_fault m (placed_pragmas w f.clock.text) ≡ None
  no_fault =
      ap (λ (o : Option Symbol). if_symbol o (fault_of m (named m (placed_pragmas w f.clock.text)))) none_twice
      ∙ ap (λ (o : Option Named). fault_of m o) named_so ∙ none_behind

  passing : Passes m (placed_pragmas w f.clock.text) n
  passing =
      let few = r.limits.few_ports in
      let count = length_permutation f.ports (port_bits known) (ports_permuted w f r) in
      let many = many_states in
      let some = r.checked.some_state in
      let most = r.checked.few_states in
      record {
        names = named_so;
        no_fault = no_fault;
        few_ports = omega (arith, few, count);
        some_state = omega (arith, many, some);
        few_states = omega (arith, many, most);
      }

  clock_again : f.clock ≡ scalar f.clock.text
  clock_again = ap (λ (b : Option ℕ). with_bit b) r.checked.scalar where
    with_bit : Option ℕ → Name
    with_bit b = record { text = f.clock.text; bit = b }

  machine : IsMachineOf m n f
  machine = record {
    name = sym (outline_name f.name (map declared (grouped f.ports)));
    ports = ports_permuted w f r;
    ordered = r.checked.ports;
    clock = clock_again;
    states =
        sym r.words.states
        ∙ states_again (type_line f) w.states (subst (λ (ns : List Name). All (λ x. x.bit ≡ None) ns) (sym r.words.states) (λ k d l. (r.named.states k d l).1));
    body = sym body_read ∙ ap (λ (vars : List Name). body_bits (frame_of m n vars) m.step.body) r.words.vars;
  }

  read : WrittenIsASentence → IsFsm (text w f) f
  read is_sentence =
      let s = is_sentence f w r.checked r.named r.words r.limits in
      record {
        tree = m;
        names = n;
        written = record { few = r.limits.short; cut = s.cut; machine = s.machine };
        passes = subst (λ (ps : List Pragma). Passes m ps n) (sym s.pragmas) passing;
        machine = machine;
      }

-- ---- the laws

pub is_read : WrittenIsASentence → (f : Fsm) (w : Words) → IsCheckedFsm f → CanBeFsm f → AreWords f w → IsWithinLimits w f → IsFsm (text w f) f
is_read is_sentence f w checked named words limits = read w f (record { checked = checked; named = named; words = words; limits = limits }) is_sentence

pub read_again : WrittenIsASentence → OneFsm → FsmReadAgain
read_again is_sentence one = record {
  is = λ f g w checked named words limits is. one (text w f) g f is (is_read is_sentence f w checked named words limits);
}

only_memory : (bytes : List ℕ) (e : ReadError) → (Refused bytes e → ⊥) → IsFsmRefusal bytes e → e ≡ errors.Memory
only_memory bytes errors.Memory never h = refl
only_memory bytes (errors.Input i) never h = absurd (never h)
only_memory bytes (errors.Limit l) never h = absurd (never h)

pub is_accepted : WrittenIsASentence → NeverBoth → FsmIsAccepted
is_accepted is_sentence never = record {
  read = is_read is_sentence;
  accepted = λ f w e checked named words limits h.
      only_memory (text w f) e (λ refused. never (text w f) f e (is_read is_sentence f w checked named words limits) refused) h;
}
