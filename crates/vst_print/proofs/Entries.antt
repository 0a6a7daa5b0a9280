-- What a text declares, one after the other.
use Rattle.std.proofs.Common.{◌≡◌, ℕ, ◌+◌, ◌≤◌, Bool, false, List, [], ◌∷◌, ◌++◌, map, refl, sym, ap, ◌∙◌, arith}
use Rattle.std.specs.List.{All}
use Rattle.std.specs.BTreeSet.{insert_key}
use Rattle.std.specs.Cmp.Lexicographic.{slice_cmp}
use Rattle.std.specs.Ordering.{nat_cmp}
use Rattle.std.proofs.lemmas.List.Elements.{All-head, All-tail, All-cons, All-nil}
use Rattle.grammar_theory.specs.declared.limits.TheConstants.{BITS}
use Rattle.grammar_theory.specs.Marks.{State, uncounted, is_declared}
use Rattle.vhdl_print.specs.Outline.{OnePort, Outline, port_bits, with_name, with_bits, with_ports, AreNew}
use Rattle.vhdl_print.proofs.Steps.{Few}
use Rattle.vhdl_print.proofs.NewNames.{still_new}
use Rattle.vst_print.specs.Structure.{OneInstance, Structure}
use Rattle.vst_print.proofs.Parts.{component_key, component_bits, instance_key}

-- a name in the list that it stands in, and how many bits are declared with it
pub record Entry : Type 0 where
  pub key : List ℕ
  pub bits : ℕ

abbrev pub with_entry : Entry → State → State
with_entry e s = with_bits e.bits (with_name e.key s)

abbrev pub with_entries : List Entry → State → State
with_entries [] s = s
with_entries (e ∷ es) s = with_entries es (with_entry e s)

-- each is new behind the earlier ones, and the bits are within the limit
abbrev pub EntriesNew : List Entry → State → Type 0
EntriesNew [] s = Unit {0}
EntriesNew (e ∷ es) s = (is_declared e.key s.names ≡ false) × (s.bits + e.bits ≤ BITS) × EntriesNew es (with_entry e s)

abbrev pub port_entry : OnePort → Entry
port_entry p = record { key = p.name; bits = port_bits p.bounds }

abbrev pub component_entry : Outline → Entry
component_entry c = record { key = component_key c; bits = component_bits c }

abbrev pub signal_entry : List ℕ → Entry
signal_entry name = record { key = name; bits = 1 }

abbrev pub instance_entry : OneInstance → Entry
instance_entry i = record { key = instance_key i; bits = 0 }

abbrev pub entries : Structure → List Entry
entries st =
    map port_entry (st.entity.first ∷ st.entity.others)
    ++ (map component_entry st.components ++ (map signal_entry st.signals ++ map instance_entry st.instances))

-- ---- in parts

pub new_front : (xs ys : List Entry) (s : State) → EntriesNew (xs ++ ys) s → EntriesNew xs s
new_front [] ys s new = tt
new_front (x ∷ xs) ys s new = (new.0, new.1, new_front xs ys (with_entry x s) new.2)

pub new_back : (xs ys : List Entry) (s : State) → EntriesNew (xs ++ ys) s → EntriesNew ys (with_entries xs s)
new_back [] ys s new = new
new_back (x ∷ xs) ys s new = new_back xs ys (with_entry x s) new.2

pub ports_new : (ps : List OnePort) (s : State) → EntriesNew (map port_entry ps) s → AreNew ps s
ports_new [] s new = tt
ports_new (p ∷ ps) s new = (new.0, new.1, ports_new ps (with_entry (port_entry p) s) new.2)

pub with_port_entries : (ps : List OnePort) (s : State) → with_ports ps s ≡ with_entries (map port_entry ps) s
with_port_entries [] s = refl
with_port_entries (p ∷ ps) s = with_port_entries ps (with_entry (port_entry p) s)

pub few_entries : (es : List Entry) (s : State) → Few s → Few (with_entries es s)
few_entries [] s few = few
few_entries (e ∷ es) s few = few_entries es (with_entry e s) few

-- ---- names that differ are new

abbrev pub Differs : List ℕ → List Entry → Type 0
Differs key es = All (λ f. key ≡ f.key → ⊥) es

abbrev pub AreDifferent : List Entry → Type 0
AreDifferent [] = Unit {0}
AreDifferent (e ∷ es) = Differs e.key es × AreDifferent es

abbrev pub total_bits : List Entry → ℕ
total_bits [] = 0
total_bits (e ∷ es) = e.bits + total_bits es

abbrev IsNewTo : List (List ℕ) → Entry → Type 0
IsNewTo ks f = is_declared f.key ks ≡ false

all_still : (k : List ℕ) (ks : List (List ℕ)) (fs : List Entry) → Differs k fs → All (λ f. is_declared f.key ks ≡ false) fs → All (λ f. is_declared f.key (insert_key (slice_cmp nat_cmp) ks k) ≡ false) fs
all_still k ks [] others new = All-nil (IsNewTo (insert_key (slice_cmp nat_cmp) ks k))
all_still k ks (f ∷ fs) others new =
    let O : Entry → Type 0 = λ f. k ≡ f.key → ⊥ in
    All-cons (IsNewTo (insert_key (slice_cmp nat_cmp) ks k)) f fs
    (still_new f.key k ks (All-head (IsNewTo ks) f fs new) (λ e. All-head O f fs others (sym e)))
    (all_still k ks fs (All-tail O f fs others) (All-tail (IsNewTo ks) f fs new))

pub new_entries : (es : List Entry) (s : State) → AreDifferent es → All (λ f. is_declared f.key s.names ≡ false) es → s.bits + total_bits es ≤ BITS → EntriesNew es s
new_entries [] s apart new within = tt
new_entries (e ∷ es) s apart new within = (
  All-head (IsNewTo s.names) e es new,
  omega (arith, within),
  new_entries es (with_entry e s) apart.1 (all_still e.key s.names es apart.0 (All-tail (IsNewTo s.names) e es new)) (omega (arith, within)),
)

new_to_none : (es : List Entry) → All (λ f. is_declared f.key [] ≡ false) es
new_to_none [] = All-nil (IsNewTo [])
new_to_none (e ∷ es) = All-cons (IsNewTo []) e es refl (new_to_none es)

pub all_new : (es : List Entry) → AreDifferent es → total_bits es ≤ BITS → EntriesNew es uncounted
all_new es apart within = new_entries es uncounted apart (new_to_none es) (omega (arith, within))

-- two parts whose names differ from one another
pub different_parts : (xs ys : List Entry) → AreDifferent xs → AreDifferent ys → All (λ x. Differs x.key ys) xs → AreDifferent (xs ++ ys)
different_parts [] ys one two apart = two
different_parts (x ∷ xs) ys one two apart =
    (both xs one.0 (All-head (λ x. Differs x.key ys) x xs apart), different_parts xs ys one.1 two (All-tail (λ x. Differs x.key ys) x xs apart)) where
      O : Entry → Type 0
      O f = x.key ≡ f.key → ⊥

      both : (zs : List Entry) → Differs x.key zs → Differs x.key ys → Differs x.key (zs ++ ys)
      both [] h g = g
      both (z ∷ zs) h g = All-cons O z (zs ++ ys) (All-head O z zs h) (both zs (All-tail O z zs h) g)

pub total_parts : (xs ys : List Entry) → total_bits (xs ++ ys) ≡ total_bits xs + total_bits ys
total_parts [] ys = omega arith
total_parts (x ∷ xs) ys = omega (arith, total_parts xs ys)
