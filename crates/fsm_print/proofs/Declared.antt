-- What the text of a state machine declares is new, and what it mentions can be mentioned.
use Rattle.std.proofs.Common.{◌≡◌, ℕ, ◌+◌, ◌<◌, ◌≤◌, ◌^◌, not, List, [], ◌∷◌, ◌++◌, map, filter, length, Option, None, slice_index, refl, sym, ap, subst, ◌∙◌, arith, length-append}
use Rattle.std.specs.List.{All, Contains}
use Rattle.std.specs.Ordering.{is_lt}
use Rattle.std.proofs.lemmas.List.{length-map, map-id}
use Rattle.std.proofs.lemmas.List.Elements.{All-head, All-tail, All-cons, All-nil, All-map, All-weaker, All-append, All-filter, All-get_or}
use Rattle.vlsi_base.specs.declared.name.Name.{Name}
use Rattle.vlsi_base.specs.declared.name.Port.{Port}
use Rattle.vlsi_base.specs.Member.{In, AllDifferent}
use Rattle.vlsi_base.specs.Names.{scalar}
use Rattle.bool_expr.specs.Expression.{Expression, constant, variable, inverse as not_of, pair, choice, IsOver}
use Rattle.machine_core.specs.Machine.{is_input, names_of}
use Rattle.machine_core.proofs.Values.{In-left, In-right, In-map}
use Rattle.fsm_machine.specs.Statements as st
use Rattle.fsm_machine.specs.Fsm.{Fsm, fsm_outputs}
use Rattle.fsm_core.specs.Checked.{IsAssignmentOf, IsBodyOf, ArePartsOf, AreBranchesOf, IsCheckedFsm}
use Rattle.grammar_theory.specs.Marks.{uncounted}
use Rattle.vhdl_print.specs.EntityAgain.{IsName, CanBeWritten}
use Rattle.vst_print.specs.Groups.{grouped, declared, outline}
use Rattle.vst_print.proofs.Entries.{Entry, EntriesNew, port_entry, AreDifferent, total_bits, all_new, different_parts, total_parts}
use Rattle.vst_print.proofs.Fits.{CanBeMentioned}
use Rattle.vst_print.proofs.Grouped.{chained, GoodPort, groups_differ, bits_again}
use Rattle.vst_print.proofs.Names.{AllApart, name_of_identifier, entries_differ, kinds_differ, texts_all}
use Rattle.vst_print.proofs.Netlists.{Sound, outline_written}
use Rattle.vbe_print.proofs.Fits.{AreMentioned}
use Rattle.vbe_print.proofs.Known.{all_in, all_by, free_of}
use Rattle.vbe_print.proofs.Supplied.{group_keys, total_declared}
use Rattle.fsm_print.specs.declared.words.Words.{Words}
use Rattle.fsm_print.specs.Pieces.{IsKnownAssignment, IsKnownBody, AreKnownParts, AreKnownBranches}
use Rattle.fsm_print.specs.Writable.{CanBeFsm}
use Rattle.fsm_print.specs.Written.{taken_texts, texts_of, AreWords}
use Rattle.fsm_print.proofs.Known.{known}
use Rattle.fsm_print.specs.Said.{IsWithinLimits}
use Rattle.fsm_print.proofs.Fits.{AreSaid, IsStated, IsAssignmentSaid, IsBodySaid, ArePartsSaid, AreBranchesSaid}
use Rattle.fsm_print.proofs.Names.{IsAdded, added_type, added_current, added_next}

-- what is asked of a state machine and the names of its text
pub record Ready (w : Words) (f : Fsm) : Type 0 where
  pub checked : IsCheckedFsm f
  pub named : CanBeFsm f
  pub words : AreWords f w
  pub limits : IsWithinLimits w f

-- ---- ports and states

good_ports : (w : Words) (f : Fsm) → Ready w f → All GoodPort f.ports
good_ports w f r k d l = let s = r.limits.ports k d l in (name_of_identifier _ (r.named.ports.words k d l) s.0, s.1)

pub sound_ports : (w : Words) (f : Fsm) → Ready w f → Sound f.ports
sound_ports w f r = record {
  some = r.named.ports.some;
  good = good_ports w f r;
  chain = chained f.ports (λ i j d l k. ap is_lt (r.checked.ports i j d l k)) r.named.ports.runs;
}

port_names : (w : Words) (f : Fsm) → Ready w f → All CanBeMentioned (names_of f.ports)
port_names w f r = All-map CanBeMentioned (λ (p : Port). p.name) f.ports (good_ports w f r)

output_names : (w : Words) (f : Fsm) → Ready w f → All CanBeMentioned (fsm_outputs f)
output_names w f r =
    All-map CanBeMentioned (λ (p : Port). p.name) (filter (λ p. not (is_input p.dir)) f.ports) (All-filter (λ p. not (is_input p.dir)) GoodPort f.ports (good_ports w f r))

state_names : (w : Words) (f : Fsm) → Ready w f → All (λ n. IsName n.text) f.states
state_names w f r k d l = name_of_identifier _ (r.named.states k d l).0 (r.limits.states k d l)

few_taken : (w : Words) (f : Fsm) → Ready w f → length (taken_texts f) ≤ 2 ^ 32
few_taken w f r =
    let a : length (taken_texts f) ≡ length (map (λ p. p.name.text) f.ports) + length (map (λ s. s.text) f.states) = length-append (map (λ p. p.name.text) f.ports) (map (λ s. s.text) f.states) in
    let b : length (map (λ p. p.name.text) f.ports) ≡ length f.ports = length-map f.ports (λ p. p.name.text) in
    let c : length (map (λ s. s.text) f.states) ≡ length f.states = length-map f.states (λ s. s.text) in
    let ports = r.limits.few_ports in
    let states = r.checked.few_states in
    omega (arith, a, b, c, ports, states)

pub type_added : (w : Words) (f : Fsm) → Ready w f → IsAdded (taken_texts f) 115 w.type_name
type_added w f r = added_type (taken_texts f) w.type_name (few_taken w f r) r.words.type_name

pub current_added : (w : Words) (f : Fsm) → Ready w f → IsAdded (taken_texts f) 99 w.current
current_added w f r = added_current (taken_texts f) w.current (few_taken w f r) r.words.current

pub next_added : (w : Words) (f : Fsm) → Ready w f → IsAdded (taken_texts f) 110 w.next
next_added w f r = added_next (taken_texts f) w.next (few_taken w f r) r.words.next

pub are_said : (w : Words) (f : Fsm) → Ready w f → AreSaid w
are_said w f r = record {
  states = subst (λ (ns : List Name). All (λ n. IsName n.text) ns) (sym r.words.states) (state_names w f r);
  type_name = (type_added w f r).name;
  current = (current_added w f r).name;
  next = (next_added w f r).name;
}

contained : {X : Type 0} (P : X → Type 0) (xs : List X) (x : X) → All P xs → Contains xs x → P x
contained P xs x all c = subst P c.2 (all c.0 x c.1)

pub clock_said : (w : Words) (f : Fsm) → Ready w f → IsName f.clock.text
clock_said w f r = (contained CanBeMentioned (names_of f.ports) f.clock (port_names w f r) r.checked.clock).0

pub name_said : (w : Words) (f : Fsm) → Ready w f → IsName f.name
name_said w f r = name_of_identifier f.name r.named.name r.limits.name

-- ---- what statements mention

mentions : (names : List Name) (e : Expression) → All CanBeMentioned names → IsOver e (length names) → AreMentioned names e
mentions names (constant b) can over = tt
mentions names (variable k) can over = All-get_or CanBeMentioned names k (scalar []) over can
mentions names (not_of e) can over = mentions names e can over
mentions names (pair g a b) can over = (mentions names a can over.0, mentions names b can over.1)
mentions names (choice c a b) can over = (mentions names c can over.0, (mentions names a can over.1.0, mentions names b can over.1.1))

-- the names that may be mentioned
record May (w : Words) (f : Fsm) : Type 0 where
  vars : All CanBeMentioned w.vars
  outputs : All CanBeMentioned (fsm_outputs f)
  states : All (λ n. IsName n.text) w.states

stated : (w : Words) (f : Fsm) → May w f → (k : ℕ) → k < length w.states → IsStated w k
stated w f m k l = All-get_or (λ (n : Name). IsName n.text) w.states k (scalar []) l m.states

said_assignment : (w : Words) (f : Fsm) → May w f → (a : st.Assignment) → IsAssignmentOf f a → IsKnownAssignment w a → IsAssignmentSaid w a
said_assignment w f m (st.output n e) of is = (contained CanBeMentioned (fsm_outputs f) n m.outputs of.0, mentions w.vars e m.vars is)
said_assignment w f m (st.next k) of is = stated w f m k is

mutual
  said_body : (w : Words) (f : Fsm) → May w f → (b : st.Statements) → IsBodyOf f b → IsKnownBody w b → IsBodySaid w b
  said_body w f m st.finish of is = tt
  said_body w f m (st.assign a rest) of is = (said_assignment w f m a of.0 is.0, said_body w f m rest of.1 is.1)
  said_body w f m (st.choose ps rest) of is = (said_parts w f m ps of.0 is.0, said_body w f m rest of.1 is.1)
  said_body w f m (st.select bs rest) of is = (said_branches w f m bs of.0 is.0, said_body w f m rest of.1 is.1)

  said_parts : (w : Words) (f : Fsm) → May w f → (ps : st.Parts) → ArePartsOf f ps → AreKnownParts w ps → ArePartsSaid w ps
  said_parts w f m (st.only c a) of is = (mentions w.vars c m.vars is.0, said_body w f m a of.1 is.1)
  said_parts w f m (st.either c a b) of is = (mentions w.vars c m.vars is.0.0, (said_body w f m a of.1.0 is.0.1, said_body w f m b of.1.1 is.1))
  said_parts w f m (st.further c a more) of is = (mentions w.vars c m.vars is.0.0, (said_body w f m a of.1.0 is.0.1, said_parts w f m more of.1.1 is.1))

  said_branches : (w : Words) (f : Fsm) → May w f → (bs : st.Branches) → AreBranchesOf f bs → AreKnownBranches w bs → AreBranchesSaid w bs
  said_branches w f m st.closed of is = tt
  said_branches w f m (st.others a) of is = said_body w f m a of is
  said_branches w f m (st.listed ks a more) of is =
      (All-weaker (λ k. k < length w.states) (IsStated w) (stated w f m) ks is.0.0.1, (said_body w f m a of.0 is.0.1, said_branches w f m more of.1 is.1))

pub body_said : (w : Words) (f : Fsm) → Ready w f → IsBodySaid w f.body
body_said w f r =
    said_body w f (record {
      vars = subst (λ (ns : List Name). All CanBeMentioned ns) (sym r.words.vars) (port_names w f r);
      outputs = output_names w f r;
      states = (are_said w f r).states;
    }) f.body r.checked.reads (known f w r.checked r.words)

-- ---- what is declared

-- the names behind the ports
abbrev pub further_texts : Words → List (List ℕ)
further_texts w = w.type_name ∷ texts_of w.states ++ (w.current ∷ w.next ∷ [])

abbrev pub name_entry : List ℕ → Entry
name_entry t = record { key = t; bits = 0 }

abbrev pub port_entries : Fsm → List Entry
port_entries f = map port_entry (map declared (grouped f.ports))

abbrev pub all_entries : Words → Fsm → List Entry
all_entries w f = port_entries f ++ map name_entry (further_texts w)

-- a port's text, and one that no port has
abbrev IsPortText : Fsm → List ℕ → Type 0
IsPortText f t = (p : Port) × In p f.ports × (p.name.text ≡ t)

abbrev pub IsNoPortText : Fsm → List ℕ → Type 0
IsNoPortText f t = (p : Port) → In p f.ports → p.name.text ≡ t → ⊥

port_taken : (f : Fsm) (p : Port) → In p f.ports → In p.name.text (taken_texts f)
port_taken f p i = In-left p.name.text (map (λ p. p.name.text) f.ports) (map (λ s. s.text) f.states) (In-map (λ (p : Port). p.name.text) p f.ports i)

state_taken : (f : Fsm) (n : Name) → In n f.states → In n.text (taken_texts f)
state_taken f n i = In-right n.text (map (λ p. p.name.text) f.ports) (map (λ s. s.text) f.states) (In-map (λ (s : Name). s.text) n f.states i)

pub added_no_port : (f : Fsm) (byte : ℕ) (t : List ℕ) → IsAdded (taken_texts f) byte t → IsNoPortText f t
added_no_port f byte t a p i e = free_of (taken_texts f) p.name.text t a.free (port_taken f p i) e

state_no_port : (w : Words) (f : Fsm) → Ready w f → All (λ t. IsNoPortText f t) (texts_of f.states)
state_no_port w f r = All-map (IsNoPortText f) (λ (n : Name). n.text) f.states (all_by (λ (n : Name). IsNoPortText f n.text) f.states (λ n i p j e. r.named.apart p n j i e))

further_no_port : (w : Words) (f : Fsm) → Ready w f → All (λ t. IsNoPortText f t) (further_texts w)
further_no_port w f r =
    let P = IsNoPortText f in
    let states : All (λ t. IsNoPortText f t) (texts_of w.states) = subst (λ (ns : List Name). All (λ t. IsNoPortText f t) (texts_of ns)) (sym r.words.states) (state_no_port w f r) in
    All-cons P w.type_name (texts_of w.states ++ (w.current ∷ w.next ∷ [])) (added_no_port f 115 w.type_name (type_added w f r))
    (All-append P (texts_of w.states) (w.current ∷ w.next ∷ []) states
    (All-cons P w.current (w.next ∷ []) (added_no_port f 99 w.current (current_added w f r)) (All-cons P w.next [] (added_no_port f 110 w.next (next_added w f r)) (All-nil P))))

-- states with no bit differ by their texts
same_names : (m n : Name) → m.bit ≡ None → n.bit ≡ None → m.text ≡ n.text → m ≡ n
same_names m n p q e = ap (λ (t : List ℕ). scalar_like t m.bit) e ∙ ap (λ (b : Option ℕ). scalar_like n.text b) (p ∙ sym q) where
  scalar_like : List ℕ → Option ℕ → Name
  scalar_like t b = record { text = t; bit = b }

states_apart : (ns : List Name) → All (λ n. n.bit ≡ None) ns → AllDifferent ns → AllApart (texts_of ns)
states_apart [] plain d = tt
states_apart (n ∷ ns) plain d = (
  All-map (λ (u : List ℕ). n.text ≡ u → ⊥) (λ (m : Name). m.text) ns
      (all_by (λ (m : Name). n.text ≡ m.text → ⊥) ns
      (λ m i e. d.0 (subst (λ (z : Name). In z ns) (sym (same_names n m (All-head (λ (k : Name). k.bit ≡ None) n ns plain) (all_in (λ (k : Name). k.bit ≡ None) ns (All-tail (λ (k : Name). k.bit ≡ None) n ns plain) m i) e)) i))),
  states_apart ns (All-tail (λ (k : Name). k.bit ≡ None) n ns plain) d.1,
)

-- texts behind others from which they are apart
apart_parts : (ts us : List (List ℕ)) → AllApart ts → AllApart us → All (λ t. All (λ u. t ≡ u → ⊥) us) ts → AllApart (ts ++ us)
apart_parts [] us a b h = b
apart_parts (t ∷ ts) us a b h =
    let P : List ℕ → Type 0 = λ t. All (λ u. t ≡ u → ⊥) us in
    (All-append (λ (u : List ℕ). t ≡ u → ⊥) ts us a.0 (All-head P t ts h), apart_parts ts us a.1 b (All-tail P t ts h))

other_bytes : (t u : List ℕ) (a b : ℕ) → slice_index t 0 ≡ a → slice_index u 0 ≡ b → (a ≡ b → ⊥) → t ≡ u → ⊥
other_bytes t u a b p q differ e = differ (sym p ∙ ap (λ (z : List ℕ). slice_index z 0) e ∙ q)

pub two_signals : (w : Words) (f : Fsm) → Ready w f → AllApart (w.current ∷ w.next ∷ [])
two_signals w f r =
    let apart = other_bytes w.current w.next 99 110 (current_added w f r).begins (next_added w f r).begins (λ e. absurd (omega (arith, e))) in
    (All-cons (λ (u : List ℕ). w.current ≡ u → ⊥) w.next [] apart (All-nil (λ (u : List ℕ). w.current ≡ u → ⊥)), (All-nil (λ (u : List ℕ). w.next ≡ u → ⊥), tt))

state_apart : (w : Words) (f : Fsm) → Ready w f → (n : Name) → In n f.states → All (λ u. n.text ≡ u → ⊥) (w.current ∷ w.next ∷ [])
state_apart w f r n i =
    let O : List ℕ → Type 0 = λ u. n.text ≡ u → ⊥ in
    All-cons O w.current (w.next ∷ []) (free_of (taken_texts f) n.text w.current (current_added w f r).free (state_taken f n i))
    (All-cons O w.next [] (free_of (taken_texts f) n.text w.next (next_added w f r).free (state_taken f n i)) (All-nil O))

pub further_apart : (w : Words) (f : Fsm) → Ready w f → AllApart (further_texts w)
further_apart w f r =
    subst (λ (ns : List Name). AllApart (w.type_name ∷ texts_of ns ++ (w.current ∷ w.next ∷ []))) (sym r.words.states) (
      All-append O (texts_of f.states) (w.current ∷ w.next ∷ [])
          (All-map O (λ (n : Name). n.text) f.states (all_by (λ (n : Name). w.type_name ≡ n.text → ⊥) f.states (λ n i e. free_of (taken_texts f) n.text w.type_name kind.free (state_taken f n i) (sym e))))
          (All-cons O w.current (w.next ∷ []) (other_bytes w.type_name w.current 115 99 kind.begins (current_added w f r).begins (λ e. absurd (omega (arith, e))))
          (All-cons O w.next [] (other_bytes w.type_name w.next 115 110 kind.begins (next_added w f r).begins (λ e. absurd (omega (arith, e)))) (All-nil O))),
      apart_parts (texts_of f.states) (w.current ∷ w.next ∷ [])
          (states_apart f.states (λ k d l. (r.named.states k d l).1) r.checked.different) (two_signals w f r)
          (All-map (λ (t : List ℕ). All (λ u. t ≡ u → ⊥) (w.current ∷ w.next ∷ [])) (λ (n : Name). n.text) f.states
          (all_by (λ (n : Name). All (λ u. n.text ≡ u → ⊥) (w.current ∷ w.next ∷ [])) f.states (state_apart w f r))),
    ) where
      kind : IsAdded (taken_texts f) 115 w.type_name
      kind = type_added w f r

      O : List ℕ → Type 0
      O u = w.type_name ≡ u → ⊥

port_keys : (f : Fsm) → All (λ e. IsPortText f e.key) (port_entries f)
port_keys f = group_keys (IsPortText f) (grouped f.ports) (texts_all (IsPortText f) f.ports (all_by (λ (p : Port). IsPortText f p.name.text) f.ports (λ p h. (p, h, refl))))

no_bits : (ts : List (List ℕ)) → total_bits (map name_entry ts) ≡ 0
no_bits [] = refl
no_bits (t ∷ ts) = omega (arith, no_bits ts)

pub entries_new : (w : Words) (f : Fsm) → Ready w f → EntriesNew (all_entries w f) uncounted
entries_new w f r =
    let s = sound_ports w f r in
    let T = further_texts w in
    let names : AreDifferent (map name_entry T) = entries_differ (λ (t : List ℕ). t) name_entry (λ x y e. e) T (subst AllApart (sym (map-id T)) (further_apart w f r)) in
    let apart = kinds_differ (IsPortText f) (IsNoPortText f) (λ a b p q e. q p.0 p.1 (p.2 ∙ e)) (port_entries f) (map name_entry T) (port_keys f)
    (All-map (λ (e : Entry). IsNoPortText f e.key) name_entry T (further_no_port w f r)) in
    let a = total_parts (port_entries f) (map name_entry T) in
    let b = total_declared (map declared (grouped f.ports)) in
    let c = bits_again f.ports s.chain in
    let d = no_bits T in
    let few = r.limits.few_ports in
    all_new (all_entries w f) (different_parts (port_entries f) (map name_entry T) (groups_differ f.ports s.chain) names apart) (omega (arith, a, b, c, d, few))

pub entity_can : (w : Words) (f : Fsm) → Ready w f → CanBeWritten (outline f.name f.ports)
entity_can w f r = let few = r.limits.few_ports in outline_written f.name f.ports (name_said w f r) (sound_ports w f r) (omega (arith, few))
