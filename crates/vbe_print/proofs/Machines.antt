-- The text of a machine can be laid out: names are words, what is declared is new, and numbers are within the limits.
use Rattle.std.proofs.Common.{◌≡◌, inl, inr, ℕ, ◌+◌, ◌-◌, ◌<◌, ◌≤◌, ◌^◌, Bool, true, false, not, List, [], ◌∷◌, ◌++◌, map, map-id, length, filter, None, Some, slice_index, refl, sym, ap, subst, ◌∙◌, arith, codes, length-append, get_or}
use Rattle.std.specs.List.{All}
use Rattle.std.specs.Char.{is_ascii_digit}
use Rattle.std.specs.Ordering.{is_lt}
use Rattle.std.proofs.lemmas.List.{length-map, map-append}
use Rattle.std.proofs.lemmas.List.Elements.{All-cons, All-nil, All-map, All-weaker, All-append, All-filter, All-get_or}
use Rattle.vlsi_base.specs.declared.name.Name.{Name}
use Rattle.vlsi_base.specs.declared.name.Port.{Port}
use Rattle.vlsi_base.specs.declared.entity.Mode.TheVariants as mode
use Rattle.vlsi_base.specs.Member.{In}
use Rattle.vlsi_base.specs.Names.{scalar}
use Rattle.bool_expr.specs.Expression.{Expression, constant, variable, inverse as not_of, pair, choice, IsOver}
use Rattle.machine_core.specs.Machine.{Machine, Equation, Register, is_input, is_clock, names_of, input_ports, inputs, outputs, register_names}
use Rattle.machine_core.specs.Checked.{IsChecked, IsNoSupply}
use Rattle.machine_core.specs.Order.{held_names, equation_names, EachReadsBelow}
use Rattle.machine_core.proofs.Values.{In-left, In-right, In-map}
use Rattle.grammar_theory.specs.declared.limits.TheConstants.{BITS, DEPTH}
use Rattle.grammar_theory.specs.Marks.{uncounted}
use Rattle.vhdl_token.specs.Keyword.{keyword_of}
use Rattle.text_names.specs.Words.{IsIdentifier}
use Rattle.text_names.proofs.Enough.{are_free}
use Rattle.vhdl_print.specs.Outline.{OnePort}
use Rattle.vhdl_print.specs.EntityAgain.{IsName, CanBeAPort, CanBeWritten, all_bits}
use Rattle.net_core.specs.Netlist.{AreInOrder as InOrder}
use Rattle.vst_print.specs.Groups.{grouped, declared, outline_of, outline}
use Rattle.vst_print.specs.Says.{IsSmall}
use Rattle.vst_print.proofs.Entries.{Entry, Differs, AreDifferent, EntriesNew, total_bits, total_parts, different_parts, all_new, port_entry, signal_entry}
use Rattle.vst_print.proofs.Fits.{CanBeMentioned}
use Rattle.vst_print.proofs.Grouped.{Chained, chained, GoodPort, groups_can, groups_differ, bits_again}
use Rattle.vst_print.proofs.Names.{AllApart, name_of_identifier, entries_differ, kinds_differ, texts_all}
use Rattle.vst_print.proofs.Netlists.{outline_ports}
use Rattle.vbe_print.specs.Writable.{CanBeVbe}
use Rattle.vbe_print.specs.Written.{inner_count, is_output, taken_texts, signal_texts, written_names, written_vars, with_supply_ports, as_port, as_ports}
use Rattle.vbe_print.proofs.Naming.{as_many_vars}
use Rattle.vbe_print.specs.Said.{IsLetter, IsWithinLimitsBy}
use Rattle.vbe_print.proofs.Whole.{Parts, parts_entries, CanBeStated}
use Rattle.vbe_print.proofs.Fits.{AreMentioned, IsMentioned, CanBeSaid}
use Rattle.vbe_print.proofs.Known.{all_in, all_by, front_all, back_all, unmapped, any_in, apart_of, free_of, IsSignalText, signals_good, renamed_all}
use Rattle.vbe_print.proofs.Supplied.{supply_groups, all_declared, declared_supplied, written_outline, apart_ports, bits_append, total_declared, group_keys, IsSupplyText, supply_keys}

-- a stem with which a machine's text is within the limits
pub record Limits (m : Machine) : Type 0 where
  pub stem : List ℕ
  pub letter : IsLetter stem
  pub within : IsWithinLimitsBy stem m

-- what the text of a machine is laid out of
abbrev pub parts_of : List ℕ → Machine → Parts
parts_of stem m = record {
  entity = outline m.name (with_supply_ports m.ports);
  signals = signal_texts stem m;
  groups = grouped (as_ports (register_names m));
  vars = written_vars stem m;
  names = written_names stem m;
  equations = m.equations;
  clock = m.clock;
  registers = m.registers;
}

-- ---- ports and registers

pub good_ports : (m : Machine) → CanBeVbe m → Limits m → All GoodPort m.ports
good_ports m named limits k d l = let s = limits.within.ports k d l in (name_of_identifier _ (named.ports.words k d l) s.0, s.1)

pub names_back : (names : List Name) → map (λ p. p.name) (as_ports names) ≡ names
names_back [] = refl
names_back (n ∷ names) = ap (λ (ns : List Name). n ∷ ns) (names_back names)

-- the names of registers as ports
pub good_stored : (m : Machine) → CanBeVbe m → Limits m → All GoodPort (as_ports (register_names m))
good_stored m named limits =
    let words : All (λ r. IsName r.name.text × IsSmall r.name.bit) m.registers =
    λ k d l. (let s = limits.within.registers k d l in (
      name_of_identifier _ (unmapped (λ (n : Name). Word n) (λ r. r.name) m.registers (unmapped (λ (p : Port). Word p.name) as_port (register_names m) (named.registers.words)) k d l) s.0,
      s.1,
    )) in
    All-map GoodPort as_port (register_names m) (All-map (λ (n : Name). GoodPort (as_port n)) (λ r. r.name) m.registers words) where
      Word : Name → Type 0
      Word n = IsIdentifier n.text

pub port_chain : (m : Machine) → IsChecked m → CanBeVbe m → Chained m.ports
port_chain m checked named = chained m.ports (λ i j d l k. ap is_lt (checked.ports i j d l k)) named.ports.runs

pub stored_chain : (m : Machine) → IsChecked m → CanBeVbe m → Chained (as_ports (register_names m))
stored_chain m checked named =
    chained (as_ports (register_names m)) (subst (λ (ns : List Name). InOrder ns) (sym (names_back (register_names m))) (λ i j d l k. ap is_lt (checked.registers i j d l k))) named.registers.runs

-- ---- no supply

pub no_port_supply : (m : Machine) → IsChecked m → All (λ p. IsNoSupply p.name) m.ports
no_port_supply m checked = unmapped IsNoSupply (λ p. p.name) m.ports (front_all IsNoSupply (names_of m.ports) m.vars checked.supplies)

pub no_stored_supply : (m : Machine) → IsChecked m → All (λ r. IsNoSupply r.name) m.registers
no_stored_supply m checked =
    let vars : All IsNoSupply (held_names m ++ equation_names m) = subst (λ (ns : List Name). All IsNoSupply ns) checked.ordered.vars (back_all IsNoSupply (names_of m.ports) m.vars checked.supplies) in
    unmapped IsNoSupply (λ r. r.name) m.registers (back_all IsNoSupply (inputs m) (register_names m) (front_all IsNoSupply (held_names m) (equation_names m) vars))

-- ---- how many

pub few_taken : (m : Machine) → Limits m → inner_count m + length (taken_texts m) ≤ 2 ^ 32
few_taken m limits =
    let a : length (taken_texts m) ≡ length (map (λ p. p.name.text) m.ports) + length (map (λ r. r.name.text) m.registers) = length-append (map (λ p. p.name.text) m.ports) (map (λ r. r.name.text) m.registers) in
    let b : length (map (λ p. p.name.text) m.ports) ≡ length m.ports = length-map m.ports (λ p. p.name.text) in
    let c : length (map (λ r. r.name.text) m.registers) ≡ length m.registers = length-map m.registers (λ r. r.name.text) in
    let bits = limits.within.bits in
    omega (arith, a, b, c, bits)

pub signals_are : (m : Machine) → (limits : Limits m) → All (IsSignalText (taken_texts m)) (signal_texts limits.stem m)
signals_are m limits = signals_good limits.stem (taken_texts m) (inner_count m) limits.letter (few_taken m limits)

pub many_signals : (m : Machine) → (limits : Limits m) → length (signal_texts limits.stem m) ≡ inner_count m
many_signals m limits = let few = few_taken m limits in (are_free limits.stem (taken_texts m) (inner_count m) (omega (arith, few))).each

-- ---- what is declared is new

abbrev pub IsPortText : Machine → List ℕ → Type 0
IsPortText m t = (p : Port) × In p m.ports × (p.name.text ≡ t)

abbrev pub IsStoredText : Machine → List ℕ → Type 0
IsStoredText m t = (r : Register) × In r m.registers × (r.name.text ≡ t)

pub port_taken : (m : Machine) (t : List ℕ) → IsPortText m t → In t (taken_texts m)
port_taken m t p =
    subst (λ (x : List ℕ). In x (taken_texts m)) p.2
    (In-left p.0.name.text (map (λ p. p.name.text) m.ports) (map (λ r. r.name.text) m.registers) (In-map (λ (p : Port). p.name.text) p.0 m.ports p.1))

pub stored_taken : (m : Machine) (t : List ℕ) → IsStoredText m t → In t (taken_texts m)
stored_taken m t r =
    subst (λ (x : List ℕ). In x (taken_texts m)) r.2
    (In-right r.0.name.text (map (λ p. p.name.text) m.ports) (map (λ r. r.name.text) m.registers) (In-map (λ (r : Register). r.name.text) r.0 m.registers r.1))

supply_clash : (n : Name) (a b : List ℕ) → IsNoSupply n → n.text ≡ a → IsSupplyText b → a ≡ b → ⊥
supply_clash n a b none is (inl f) same = none.0 (is ∙ same ∙ f)
supply_clash n a b none is (inr f) same = none.1 (is ∙ same ∙ f)

port_supply : (m : Machine) → IsChecked m → (a b : List ℕ) → IsPortText m a → IsSupplyText b → a ≡ b → ⊥
port_supply m checked a b p s same = supply_clash p.0.name a b (all_in (λ (p : Port). IsNoSupply p.name) m.ports (no_port_supply m checked) p.0 p.1) p.2 s same

supply_stored : (m : Machine) → IsChecked m → (a b : List ℕ) → IsSupplyText a → IsStoredText m b → a ≡ b → ⊥
supply_stored m checked a b s r same = supply_clash r.0.name b a (all_in (λ (r : Register). IsNoSupply r.name) m.registers (no_stored_supply m checked) r.0 r.1) r.2 s (sym same)

supply_signal : (taken : List (List ℕ)) (a b : List ℕ) → IsSupplyText a → IsSignalText taken b → a ≡ b → ⊥
supply_signal taken a b (inl f) s same = let e : false ≡ true = ap (λ (t : List ℕ). is_ascii_digit (slice_index t 1)) (sym f ∙ same) ∙ s.second in absurd cc
supply_signal taken a b (inr f) s same = let e : false ≡ true = ap (λ (t : List ℕ). is_ascii_digit (slice_index t 1)) (sym f ∙ same) ∙ s.second in absurd cc

port_stored : (m : Machine) → CanBeVbe m → (a b : List ℕ) → IsPortText m a → IsStoredText m b → a ≡ b → ⊥
port_stored m named a b p r same = named.apart p.0 r.0 p.1 r.1 (p.2 ∙ same ∙ sym r.2)

port_signal : (m : Machine) (a b : List ℕ) → IsPortText m a → IsSignalText (taken_texts m) b → a ≡ b → ⊥
port_signal m a b p s same = free_of (taken_texts m) a b s.free (port_taken m a p) same

signal_stored : (m : Machine) (a b : List ℕ) → IsSignalText (taken_texts m) a → IsStoredText m b → a ≡ b → ⊥
signal_stored m a b s r same = free_of (taken_texts m) b a s.free (stored_taken m b r) (sym same)

both_parts : (xs ys zs : List Entry) → All (λ x. Differs x.key ys) xs → All (λ x. Differs x.key zs) xs → All (λ x. Differs x.key (ys ++ zs)) xs
both_parts xs ys zs h g = λ k d l. All-append (λ f. (get_or xs k d).key ≡ f.key → ⊥) ys zs (h k d l) (g k d l)

abbrev pub port_entries : Machine → List Entry
port_entries m = map port_entry (map declared (grouped m.ports))

abbrev pub supply_entries : List Entry
supply_entries = map port_entry (map declared supply_groups)

abbrev pub signal_entries : List ℕ → Machine → List Entry
signal_entries stem m = map signal_entry (signal_texts stem m)

abbrev pub stored_entries : Machine → List Entry
stored_entries m = map port_entry (map declared (grouped (as_ports (register_names m))))

port_keys : (m : Machine) → All (λ e. IsPortText m e.key) (port_entries m)
port_keys m = group_keys (IsPortText m) (grouped m.ports) (texts_all (IsPortText m) m.ports (all_by (λ (p : Port). IsPortText m p.name.text) m.ports (λ p h. (p, h, refl))))

stored_keys : (m : Machine) → All (λ e. IsStoredText m e.key) (stored_entries m)
stored_keys m =
    group_keys (IsStoredText m) (grouped (as_ports (register_names m)))
    (texts_all (IsStoredText m) (as_ports (register_names m))
    (All-map (λ (p : Port). IsStoredText m p.name.text) as_port (register_names m)
    (All-map (λ (n : Name). IsStoredText m n.text) (λ r. r.name) m.registers (all_by (λ (r : Register). IsStoredText m r.name.text) m.registers (λ r h. (r, h, refl))))))

signal_keys : (m : Machine) → (limits : Limits m) → All (λ e. IsSignalText (taken_texts m) e.key) (signal_entries limits.stem m)
signal_keys m limits = All-map (λ (e : Entry). IsSignalText (taken_texts m) e.key) signal_entry (signal_texts limits.stem m) (signals_are m limits)

supplies_differ : AreDifferent (map port_entry (map declared supply_groups))
supplies_differ =
    let other : codes "vdd" ≡ codes "vss" → ⊥ = λ e. (let f : 100 ≡ 115 = ap (λ (t : List ℕ). slice_index t 1) e in absurd (omega (arith, f))) in
    (All-cons (λ (f : Entry). codes "vdd" ≡ f.key → ⊥) _ [] other (All-nil (λ (f : Entry). codes "vdd" ≡ f.key → ⊥)), (All-nil (λ (f : Entry). codes "vss" ≡ f.key → ⊥), tt))

ports_differ : (m : Machine) → IsChecked m → CanBeVbe m → AreDifferent (port_entries m ++ supply_entries)
ports_differ m checked named =
    different_parts (port_entries m) supply_entries (groups_differ m.ports (port_chain m checked named)) supplies_differ
    (kinds_differ (IsPortText m) IsSupplyText (port_supply m checked) (port_entries m) supply_entries (port_keys m) supply_keys)

signals_differ : (m : Machine) → (limits : Limits m) → AreDifferent (signal_entries limits.stem m)
signals_differ m limits =
    let few = few_taken m limits in
    let free = are_free limits.stem (taken_texts m) (inner_count m) (omega (arith, few)) in
    entries_differ (λ (t : List ℕ). t) signal_entry (λ x y e. e) (signal_texts limits.stem m) (subst AllApart (sym (map-id (signal_texts limits.stem m))) (apart_of (signal_texts limits.stem m) free.different))

pub all_differ : (m : Machine) → IsChecked m → CanBeVbe m → (limits : Limits m) → AreDifferent ((port_entries m ++ supply_entries) ++ (signal_entries limits.stem m ++ stored_entries m))
all_differ m checked named limits =
    let P = port_entries m in
    let S = signal_entries limits.stem m in
    let R = stored_entries m in
    let T = taken_texts m in
    let SR : AreDifferent (S ++ R) =
    different_parts S R (signals_differ m limits) (groups_differ (as_ports (register_names m)) (stored_chain m checked named))
    (kinds_differ (IsSignalText T) (IsStoredText m) (signal_stored m) S R (signal_keys m limits) (stored_keys m)) in
    let D : Entry → Type 0 = λ x. Differs x.key (S ++ R) in
    different_parts (P ++ supply_entries) (S ++ R) (ports_differ m checked named) SR
    (All-append D P supply_entries
    (both_parts P S R (kinds_differ (IsPortText m) (IsSignalText T) (port_signal m) P S (port_keys m) (signal_keys m limits)) (kinds_differ (IsPortText m) (IsStoredText m) (port_stored m named) P R (port_keys m) (stored_keys m)))
    (both_parts supply_entries S R (kinds_differ IsSupplyText (IsSignalText T) (supply_signal T) supply_entries S supply_keys (signal_keys m limits))
    (kinds_differ IsSupplyText (IsStoredText m) (supply_stored m checked) supply_entries R supply_keys (stored_keys m))))

total_signals : (ss : List (List ℕ)) → total_bits (map signal_entry ss) ≡ length ss
total_signals [] = refl
total_signals (s ∷ ss) = omega (arith, total_signals ss)

stored_bits : (m : Machine) → IsChecked m → CanBeVbe m → total_bits (stored_entries m) ≡ length m.registers
stored_bits m checked named =
    total_declared (map declared (grouped (as_ports (register_names m)))) ∙ bits_again (as_ports (register_names m)) (stored_chain m checked named)
    ∙ length-map (register_names m) as_port ∙ length-map m.registers (λ r. r.name)

declared_bits : (m : Machine) → IsChecked m → CanBeVbe m → all_bits (all_declared m.ports) ≡ length m.ports + 2
declared_bits m checked named =
    let a = bits_append (map declared (grouped m.ports)) (map declared supply_groups) in
    let b = bits_again m.ports (port_chain m checked named) in
    omega (arith, a, b)

all_few : (m : Machine) → IsChecked m → CanBeVbe m → (limits : Limits m) → total_bits (map port_entry (all_declared m.ports) ++ (signal_entries limits.stem m ++ stored_entries m)) ≤ BITS
all_few m checked named limits =
    let a = total_parts (map port_entry (all_declared m.ports)) (signal_entries limits.stem m ++ stored_entries m) in
    let b = total_parts (signal_entries limits.stem m) (stored_entries m) in
    let c = total_declared (all_declared m.ports) in
    let d = declared_bits m checked named in
    let e = total_signals (signal_texts limits.stem m) in
    let f = many_signals m limits in
    let g = stored_bits m checked named in
    let bits = limits.within.bits in
    omega (arith, a, b, c, d, e, f, g, bits)

-- the entries of the ports with the supplies
port_entries_are : (m : Machine) → map port_entry (all_declared m.ports) ≡ port_entries m ++ supply_entries
port_entries_are m = map-append port_entry (map declared (grouped m.ports)) (map declared supply_groups)

pub some_declared : (m : Machine) → 0 < length (all_declared m.ports)
some_declared m = omega (arith, length-append (map declared (grouped m.ports)) (map declared supply_groups))

ports_declared : (m : Machine) → IsChecked m → map declared (grouped (with_supply_ports m.ports)) ≡ all_declared m.ports
ports_declared m checked = declared_supplied m.ports (no_port_supply m checked)

pub what_is_new : (m : Machine) → IsChecked m → CanBeVbe m → (limits : Limits m) → EntriesNew (parts_entries (parts_of limits.stem m)) uncounted
what_is_new m checked named limits =
    let rest = signal_entries limits.stem m ++ stored_entries m in
    let D = map declared (grouped (with_supply_ports m.ports)) in
    let same = ports_declared m checked in
    let some : 0 < length D = subst (λ (ps : List OnePort). 0 < length ps) (sym same) (some_declared m) in
    let are : (outline m.name (with_supply_ports m.ports)).first ∷ (outline m.name (with_supply_ports m.ports)).others ≡ all_declared m.ports = outline_ports m.name D some ∙ same in
    subst (λ (ps : List OnePort). EntriesNew (map port_entry ps ++ rest) uncounted) (sym are)
    (all_new (map port_entry (all_declared m.ports) ++ rest)
    (subst (λ (es : List Entry). AreDifferent (es ++ rest)) (sym (port_entries_are m)) (all_differ m checked named limits)) (all_few m checked named limits))

-- ---- the entity

supply_names : IsName (codes "vdd") × IsName (codes "vss")
unfolding keyword_of
supply_names = ((record { begins = refl; letters = refl; short = omega arith }, refl), (record { begins = refl; letters = refl; short = omega arith }, refl))

supplies_can : All CanBeAPort (map declared supply_groups)
supplies_can =
    let one : OnePort = record { name = codes "vdd"; mode = mode.In; bounds = None } in
    let two : OnePort = record { name = codes "vss"; mode = mode.In; bounds = None } in
    All-cons CanBeAPort one (two ∷ []) (supply_names.0, tt) (All-cons CanBeAPort two [] (supply_names.1, tt) (All-nil CanBeAPort))

entity_can : (m : Machine) → IsChecked m → CanBeVbe m → Limits m → CanBeWritten (outline m.name (with_supply_ports m.ports))
entity_can m checked named limits =
    let bits = limits.within.bits in
    let d = declared_bits m checked named in
    let can : All CanBeAPort (all_declared m.ports) = All-append CanBeAPort (map declared (grouped m.ports)) (map declared supply_groups) (groups_can m.ports (good_ports m named limits)) supplies_can in
    let apart = apart_ports (all_declared m.ports) (subst AreDifferent (sym (port_entries_are m)) (ports_differ m checked named)) in
    subst (λ (ps : List OnePort). CanBeWritten (outline_of m.name ps)) (sym (ports_declared m checked))
    (written_outline m.name (all_declared m.ports) (some_declared m) (name_of_identifier m.name named.name limits.within.name) can apart (omega (arith, d, bits)))

-- ---- names that are mentioned

port_names : (m : Machine) (p : Port → Bool) → CanBeVbe m → Limits m → All CanBeMentioned (names_of (filter p m.ports))
port_names m p named limits = All-map CanBeMentioned (λ (q : Port). q.name) (filter p m.ports) (All-filter p GoodPort m.ports (good_ports m named limits))

inputs_can : (m : Machine) → CanBeVbe m → Limits m → All CanBeMentioned (inputs m)
inputs_can m named limits = All-filter (λ name. not (is_clock m.clock name)) CanBeMentioned (input_ports m) (port_names m (λ p. is_input p.dir) named limits)

registers_can : (m : Machine) → CanBeVbe m → Limits m → All CanBeMentioned (register_names m)
registers_can m named limits = unmapped GoodPort as_port (register_names m) (good_stored m named limits)

names_can : (m : Machine) → CanBeVbe m → (limits : Limits m) → All CanBeMentioned (written_names limits.stem m)
names_can m named limits =
    let many = many_signals m limits in
    let same : length (map scalar (signal_texts limits.stem m)) ≡ length (signal_texts limits.stem m) = length-map (signal_texts limits.stem m) scalar in
    renamed_all CanBeMentioned (is_output m) (equation_names m) (map scalar (signal_texts limits.stem m))
    (λ n e. all_in CanBeMentioned (outputs m) (port_names m (λ p. not (is_input p.dir)) named limits) n (any_in (outputs m) n e))
    (All-map CanBeMentioned scalar (signal_texts limits.stem m) (All-weaker (IsSignalText (taken_texts m)) (λ t. CanBeMentioned (scalar t)) (λ t s. (s.name, tt)) (signal_texts limits.stem m) (signals_are m limits)))
    (omega (arith, many, same))

pub vars_can : (m : Machine) → CanBeVbe m → (limits : Limits m) → All CanBeMentioned (written_vars limits.stem m)
vars_can m named limits =
    All-append CanBeMentioned (held_names m) (written_names limits.stem m) (All-append CanBeMentioned (inputs m) (register_names m) (inputs_can m named limits) (registers_can m named limits)) (names_can m named limits)

mentions : (names : List Name) (e : Expression) → All CanBeMentioned names → IsOver e (length names) → AreMentioned names e
mentions names (constant b) can over = tt
mentions names (variable k) can over = All-get_or CanBeMentioned names k (scalar []) over can
mentions names (not_of e) can over = mentions names e can over
mentions names (pair g a b) can over = (mentions names a can over.0, mentions names b can over.1)
mentions names (choice c a b) can over = (mentions names c can over.0, (mentions names a can over.1.0, mentions names b can over.1.1))

over_more : (e : Expression) (n m : ℕ) → n ≤ m → IsOver e n → IsOver e m
over_more (constant b) n m less over = tt
over_more (variable k) n m less over = omega (arith, less, over)
over_more (not_of e) n m less over = over_more e n m less over
over_more (pair g a b) n m less over = (over_more a n m less over.0, over_more b n m less over.1)
over_more (choice c a b) n m less over = (over_more c n m less over.0, (over_more a n m less over.1.0, over_more b n m less over.1.1))

pub each_over : (n total : ℕ) (es : List Equation) → n + length es ≤ total → EachReadsBelow n es → All (λ e. IsOver e.expr total) es
each_over n total [] few below = All-nil (λ (e : Equation). IsOver e.expr total)
each_over n total (e ∷ es) few below =
    All-cons (λ (e : Equation). IsOver e.expr total) e es (over_more e.expr n total (omega (arith, few)) below.0) (each_over (n + 1) total es (omega (arith, few)) below.1)

pub equations_over : (m : Machine) → IsChecked m → All (λ e. IsOver e.expr (length m.vars)) m.equations
equations_over m checked =
    let a : length m.vars ≡ length (held_names m) + length (equation_names m) = ap (λ (ns : List Name). length ns) checked.ordered.vars ∙ length-append (held_names m) (equation_names m) in
    let b : length (equation_names m) ≡ length m.equations = length-map m.equations (λ e. e.name) in
    each_over (length (held_names m)) (length m.vars) m.equations (omega (arith, a, b)) checked.ordered.below

pub reads_can : (m : Machine) → IsChecked m → CanBeVbe m → (limits : Limits m) → (e : Expression) → IsOver e (length m.vars) → AreMentioned (written_vars limits.stem m) e
reads_can m checked named limits e over = mentions (written_vars limits.stem m) e (vars_can m named limits) (subst (IsOver e) (sym (as_many_vars limits.stem m checked)) over)

-- ---- the whole

clock_can : (m : Machine) → IsChecked m → CanBeVbe m → Limits m → (n : Name) → m.clock ≡ Some n → IsName n.text
clock_can m checked named limits n e = (all_in CanBeMentioned (input_ports m) (port_names m (λ p. is_input p.dir) named limits) n (checked.clock n e).port).0

stored_can : (m : Machine) → IsChecked m → CanBeVbe m → (limits : Limits m) → All (IsMentioned (written_vars limits.stem m)) m.registers
stored_can m checked named limits k d l =
    let loads = checked.loads k d l in
    record {
      name = unmapped CanBeMentioned (λ r. r.name) m.registers (registers_can m named limits) k d l;
      next = reads_can m checked named limits (get_or m.registers k d).next loads.0;
      enable = reads_can m checked named limits (get_or m.registers k d).enable loads.1;
    }

pub can_be_said : (m : Machine) → IsChecked m → CanBeVbe m → (limits : Limits m) → CanBeSaid (parts_of limits.stem m)
can_be_said m checked named limits =
    let bits = limits.within.bits in
    let over = equations_over m checked in
    record {
      entity = entity_can m checked named limits;
      signals = All-weaker (IsSignalText (taken_texts m)) IsName (λ t s. s.name) (signal_texts limits.stem m) (signals_are m limits);
      groups = unmapped CanBeAPort declared (grouped (as_ports (register_names m))) (groups_can (as_ports (register_names m)) (good_stored m named limits));
      names = names_can m named limits;
      equations = λ k d l. reads_can m checked named limits (get_or m.equations k d).expr (over k d l);
      few = omega (arith, bits);
      clock = clock_can m checked named limits;
      registers = stored_can m checked named limits;
    }

pub can_be_stated : (m : Machine) → (limits : Limits m) → CanBeStated DEPTH (DEPTH - 2) (parts_of limits.stem m)
can_be_stated m limits = record {
  equations = λ k d l. record { nested = limits.within.nested k d l; few = limits.within.values k d l };
  registers = λ k d l. record { holds = record { nested = limits.within.loads_nested k d l; few = limits.within.loads k d l }; within = limits.within.guards_nested k d l; free = limits.within.guards k d l };
}
