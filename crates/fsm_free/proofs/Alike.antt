-- No check tells a text with each free bit 1 from the one with each 0.
use Rattle.std.proofs.Common.{◌≡◌, ℕ, Bool, true, false, cond, List, [], ◌∷◌, ◌++◌, map, length, Option, None, Some, refl, sym, ap, ◌∙◌, bytes_eq, inl, inr}
use Rattle.std.specs.Prelude.{◌&&◌, if◌then◌else◌}
use Rattle.std.specs.List.{list_all}
use Rattle.vlsi_base.specs.Range.{rising}
use Rattle.vlsi_base.specs.Tree.{Tree}
use Rattle.vlsi_base.specs.declared.name.Name.{Name}
use Rattle.vlsi_base.specs.declared.pragma.Pragma.{Pragma}
use Rattle.vlsi_base.specs.declared.fault.FaultKind.TheVariants as kind
use Rattle.vlsi_base.specs.declared.fault.ReadError.{ReadError}
use Rattle.source_checks.specs.declared.symbol_table.Symbol.{Symbol}
use Rattle.source_checks.specs.declared.drivers.NameFault.{NameFault}
use Rattle.source_checks.specs.Symbols.{scalar}
use Rattle.source_checks.specs.Places.{Use, first_unknown}
use Rattle.source_checks.specs.Drivers.{is_among}
use Rattle.source_checks.specs.Widths.{if_not, port_faults}
use Rattle.source_checks.specs.Unsupported.{supply_faults, port_forms}
use Rattle.source_checks.specs.Checks.{if_use, if_line, if_name, if_symbol, first_repeated}
use Rattle.fsm_machine.specs.Statements as s
use Rattle.fsm_machine.specs.Assigned.{sure, sets_next, sets_output}
use Rattle.fsm_text.specs.Written.{MachineTree}
use Rattle.fsm_io.specs.Known.{Named, symbols, texts, named, named_in}
use Rattle.fsm_io.specs.Looks.{Mention, asserting, assigning, testing, selecting, listing, all_mentions, body_has_case, use_of, found, uses_at, clock_uses}
use Rattle.fsm_io.specs.Widths.{widths_at, clock_widths}
use Rattle.fsm_io.specs.Drivers.{names_at, unassigned_at, first_of, or_else}
use Rattle.fsm_io.specs.Unsupported.{forms_at, clock_forms}
use Rattle.fsm_io.specs.Clock.{is_edge, clock_reads_at}
use Rattle.fsm_io.specs.States.{bad_at, listed_after, bad_states}
use Rattle.fsm_io.specs.Elaboration.{body_bits, frame_of}
use Rattle.fsm_io.specs.Assigned.{always, left_out_at, next_left_out, left_out}
use Rattle.fsm_io.specs.Checks.{if_state, fault_behind, fault_of, first_fault, PassesLimit, ports, states, IsRefusedFor}
use Rattle.fsm_io.proofs.Surely.{Blind}
use Rattle.fsm_io.proofs.Leasts.{unassigned_agree, first_agree}
use Rattle.fsm_free.specs.Filled.{filled_body, filled}
use Rattle.fsm_free.specs.Laws.{RefusedAlike}
use Rattle.fsm_free.proofs.Mentions.{filled_mention, body_case, mentions, value_same, found_same}
use Rattle.fsm_free.proofs.Bits.{free_body, statements_sure}

-- ---- place by place

same_uses : (n : Named) (x : Mention) → uses_at n (filled_mention true x) ≡ uses_at n (filled_mention false x)
same_uses n (asserting e) = refl
same_uses n (assigning t first e) = value_same (λ (y : Tree). uses_at n (assigning t first y)) (λ line. refl) e
same_uses n (testing line e) = refl
same_uses n (selecting seen line called) = refl
same_uses n (listing names) = refl

same_widths : (known : List Symbol) (n : Named) (x : Mention) → widths_at known n (filled_mention true x) ≡ widths_at known n (filled_mention false x)
same_widths known n (asserting e) = refl
same_widths known n (assigning t first e) = value_same (λ (y : Tree). widths_at known n (assigning t first y)) (λ line. refl) e
same_widths known n (testing line e) = refl
same_widths known n (selecting seen line called) = refl
same_widths known n (listing names) = refl

same_names : (known : List Symbol) (x : Mention) → names_at known (filled_mention true x) ≡ names_at known (filled_mention false x)
same_names known (asserting e) = refl
same_names known (assigning t first e) = refl
same_names known (testing line e) = refl
same_names known (selecting seen line called) = refl
same_names known (listing names) = refl

same_forms : (known : List Symbol) (n : Named) (x : Mention) → forms_at known n (filled_mention true x) ≡ forms_at known n (filled_mention false x)
same_forms known n (asserting e) = refl
same_forms known n (assigning t first e) = value_same (λ (y : Tree). forms_at known n (assigning t first y)) (λ line. refl) e
same_forms known n (testing line e) = refl
same_forms known n (selecting seen line called) = refl
same_forms known n (listing names) = refl

same_clock : (n : Named) (x : Mention) → clock_reads_at n (filled_mention true x) ≡ clock_reads_at n (filled_mention false x)
same_clock n (asserting e) = refl
same_clock n (assigning t first e) = value_same (λ (y : Tree). clock_reads_at n (assigning t first y)) (λ line. refl) e
same_clock n (testing line e) = refl
same_clock n (selecting seen line called) = refl
same_clock n (listing names) = refl

same_bad : (all : List (List ℕ)) (to : List ℕ) (before : List (List ℕ)) (x : Mention) → bad_at all to before (filled_mention true x) ≡ bad_at all to before (filled_mention false x)
same_bad all to before (asserting e) = refl
same_bad all to before (assigning t first e) = value_same (λ (y : Tree). bad_at all to before (assigning t first y)) (λ line. refl) e
same_bad all to before (testing line e) = refl
same_bad all to before (selecting seen line called) = refl
same_bad all to before (listing names) = refl

same_after : (b : Bool) (before : List (List ℕ)) (x : Mention) → listed_after before (filled_mention b x) ≡ listed_after before x
same_after b before (asserting e) = refl
same_after b before (assigning t first e) = refl
same_after b before (testing line e) = refl
same_after b before (selecting seen line called) = refl
same_after b before (listing names) = refl

same_states : (all : List (List ℕ)) (to : List ℕ) (before : List (List ℕ)) (ms : List Mention)
    → bad_states all to before (map (filled_mention true) ms) ≡ bad_states all to before (map (filled_mention false) ms)
same_states all to before [] = refl
same_states all to before (x ∷ ms) =
    let after = listed_after before x in
    ap (λ (us : List (List ℕ)). bad_at all to before (filled_mention true x) ++ bad_states all to us (map (filled_mention true) ms)) (same_after true before x)
    ∙ (λ i. same_bad all to before x i ++ same_states all to after ms i)
    ∙ sym (ap (λ (us : List (List ℕ)). bad_at all to before (filled_mention false x) ++ bad_states all to us (map (filled_mention false) ms)) (same_after false before x))

states_same : (m : MachineTree) (n : Named)
    → bad_states (texts m.states.states) n.next [] (all_mentions (filled true m)) ≡ bad_states (texts m.states.states) n.next [] (all_mentions (filled false m))
states_same m n =
    let all = texts m.states.states in
    ap (bad_states all n.next []) (mentions true m) ∙ same_states all n.next [] (all_mentions m) ∙ sym (ap (bad_states all n.next []) (mentions false m))

-- ---- what is left out

next_blind : Blind sets_next
next_blind n a b = refl

output_blind : (k : Name) → Blind (sets_output k)
output_blind k n a b = refl

all_same : (p q : ℕ → Bool) (ks : List ℕ) → ((k : ℕ) → p k ≡ q k) → list_all p ks ≡ list_all q ks
all_same p q [] h = refl
all_same p q (k ∷ ks) h = ap (λ (b : Bool). b && list_all p ks) (h k) ∙ ap (λ (b : Bool). q k && b) (all_same p q ks h)

always_same : (sets : s.Assignment → Bool) → Blind sets → (count : ℕ) (a b : s.Statements) → ((q : ℕ) → sure sets q b ≡ sure sets q a) → always count sets b ≡ always count sets a
always_same sets blind count a b h = all_same (λ q. sure sets q b) (λ q. sure sets q a) (rising 0 count) h

left_out_same : (m : MachineTree) (n : Named) → left_out (filled true m) n ≡ left_out (filled false m) n
left_out_same m n =
    let count = length m.states.states in
    let a = body_bits (frame_of m n []) (filled_body false m.step.body) in
    let b = body_bits (frame_of m n []) (filled_body true m.step.body) in
    let free = free_body (frame_of m n []) m.step.body in
    ap (λ (o : Option NameFault). or_else o (next_left_out m n b))
    (first_agree (left_out_at count b) (left_out_at count a) (symbols m)
    (λ x i. unassigned_agree (λ (k : Name). always count (sets_output k) b) (λ (k : Name). always count (sets_output k) a) x
    (λ k j. always_same (sets_output k) (output_blind k) count a b (λ q. statements_sure (sets_output k) (output_blind k) q a b free))))
    ∙ ap (λ (t : Bool). or_else (first_of (left_out_at count a) (symbols m)) (cond {A = Option NameFault} t None (Some (record { line = m.signals.line; name = scalar n.next }))))
    (always_same sets_next next_blind count a b (λ q. statements_sure sets_next next_blind q a b free))

-- ---- all checks

behind_same : (m : MachineTree) (n : Named) → fault_behind (filled true m) n ≡ fault_behind (filled false m) n
behind_same m n =
    let known = symbols m in
    let uses = found_same (uses_at n) (same_uses n) m in
    let widths = found_same (widths_at known n) (same_widths known n) m in
    let names = found_same (names_at known) (same_names known) m in
    let forms = found_same (forms_at known n) (same_forms known n) m in
    let case = body_case true m.step.body ∙ sym (body_case false m.step.body) in
    let clock = found_same (clock_reads_at n) (same_clock n) m in
    λ i. if_use (first_unknown known (map use_of m.step.sensitivity ++ (uses i ++ clock_uses m.clock)))
    (if_line kind.Width (port_faults m.entity.ports ++ (widths i ++ clock_widths known n m.clock))
    (if_name kind.Undriven (first_of (unassigned_at (is_among (names i))) known)
    (if_line kind.Unsupported (port_forms m.entity.ports ++ (supply_faults false (m.signals.first ∷ m.signals.second ∷ []) ++ (forms i ++ (if_not (case i) m.step.end_line ++ clock_forms n m.clock))))
    (if_line kind.ClockUse (clock i ++ if_not (is_edge known n.clock m.clock.condition) m.clock.condition_line)
    (if_state (states_same m n i)
    (if_name kind.NotAssigned (left_out_same m n i) None))))))

of_same : (m : MachineTree) (o : Option Named) → fault_of (filled true m) o ≡ fault_of (filled false m) o
of_same m None = refl
of_same m (Some n) = behind_same m n

named_same : (b : Bool) (m : MachineTree) (x y z : Option (List ℕ)) → named_in (filled b m) x y z ≡ named_in m x y z
named_same b m (Some x) (Some y) (Some z) = refl
named_same b m None y z = refl
named_same b m (Some x) None z = refl
named_same b m (Some x) (Some y) None = refl

pub names_same : (b : Bool) (m : MachineTree) (pragmas : List Pragma) → named (filled b m) pragmas ≡ named m pragmas
names_same b m pragmas = named_same b m _ _ _

fault_same : (m : MachineTree) (pragmas : List Pragma) → first_fault (filled true m) pragmas ≡ first_fault (filled false m) pragmas
fault_same m pragmas =
    let twice = first_repeated [] (symbols m) in
    ap (λ (o : Option Named). if_symbol twice (fault_of (filled true m) o)) (names_same true m pragmas)
    ∙ ap (if_symbol twice) (of_same m (named m pragmas))
    ∙ sym (ap (λ (o : Option Named). if_symbol twice (fault_of (filled false m) o)) (names_same false m pragmas))

limit_same : (m : MachineTree) (e : ReadError) → PassesLimit (filled true m) e → PassesLimit (filled false m) e
limit_same m e (ports over is) = ports over is
limit_same m e (states few over is) = states few over is

pub refused_alike : RefusedAlike
refused_alike m pragmas e (inl h) = inl (sym (fault_same m pragmas) ∙ h)
refused_alike m pragmas e (inr h) = inr (sym (fault_same m pragmas) ∙ h.0, limit_same m e h.1)
