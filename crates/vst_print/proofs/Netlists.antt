-- The text of a netlist can be laid out.
use Rattle.std.proofs.Common.{◌≡◌, ℕ, zero, suc, ◌+◌, ◌-◌, ◌<◌, ◌≤◌, ◌^◌, Bool, true, false, not, cond, ◌&&◌, nat_eq, List, [], ◌∷◌, ◌++◌, map, length, take, drop, Option, None, Some, bytes_eq, slice_index, get_or, refl, sym, ap, subst, ◌∙◌, arith, codes, map-id, length-append, length-take, length-drop, append-nil}
use Rattle.std.specs.List.{All, list_all, flat_map}
use Rattle.std.proofs.lemmas.Bool.{and_parts}
use Rattle.std.proofs.lemmas.List.{length-map, length-take-le}
use Rattle.std.proofs.lemmas.List.Elements.{All-head, All-tail, All-cons, All-nil, All-map, All-weaker, All-append, All-take, All-drop, All-get_or}
use Rattle.std.proofs.lemmas.List.Sums.{AllPass-from_list_all}
use Rattle.std.proofs.lemmas.Option.{slice_get_within, get_or_from_slice_get}
use Rattle.vlsi_base.specs.declared.name.Name.{Name}
use Rattle.vlsi_base.specs.declared.name.Port.{Port}
use Rattle.vlsi_base.specs.Names.{scalar}
use Rattle.spell_theory.specs.Words.{is_in_small_word}
use Rattle.grammar_theory.specs.declared.limits.TheConstants.{BITS}
use Rattle.vhdl_print.specs.Outline.{OnePort, Outline}
use Rattle.vhdl_print.specs.EntityAgain.{IsName, CanBeAPort, CanBeWritten, AreApart, all_bits}
use Rattle.vst_text.specs.Vst.{among_components, among_instances}
use Rattle.net_core.specs.declared.pins.ModelPin.{ModelPin}
use Rattle.net_core.specs.declared.pins.ModelPins.{ModelPins}
use Rattle.net_core.specs.Places.{Stands, IsThere, NoneTwice}
use Rattle.net_core.specs.Netlist.{Instance, Netlist, IsNetlist, AreInOrder, InTurn, pins_of, port}
use Rattle.net_core.specs.Checks.{Fits, IsPinTable, pins_named}
use Rattle.net_core.proofs.Namings.{turn_below}
use Rattle.net_core.proofs.Lookups.{itself}
use Rattle.net_right.specs.Writable.{IsIdentifier, CanBePorts, CanBeNamed, PinsCanBeWritten, port_of}
use Rattle.vst_print.specs.Groups.{Group, grouped, declared, outline_of, outline}
use Rattle.vst_print.specs.Structure.{Mapping, OneInstance, Structure}
use Rattle.vst_print.specs.Nets.{first_ports, signal_text, is_free, signal_numbers, port_nets, signal_nets, net_names}
use Rattle.vst_print.specs.Written.{each_once, used_models, component_of, mapped, instance_with, instances_with, structure_of}
use Rattle.vst_print.proofs.Runs.{some_groups}
use Rattle.vst_print.proofs.Signals.{firsts_few, signals_many, names_many}
use Rattle.vst_print.proofs.Joined.{mapped_length, pin_total, total_pins}
use Rattle.vst_print.specs.Says.{IsShort, IsSmall, IsSmallPort, pin_count, IsWithinLimits}
use Rattle.vst_print.proofs.Parts.{component_key, component_bits, instance_key}
use Rattle.vst_print.proofs.Entries.{Entry, Differs, AreDifferent, total_bits, total_parts, different_parts, all_new, port_entry, component_entry, signal_entry, instance_entry, entries}
use Rattle.vst_print.proofs.Fits.{CanBeAComponent, CanBeMentioned, CanBeMapped, CanBeInstance, CanBeLaidOut}
use Rattle.vst_print.proofs.Grouped.{Chained, chained, GoodPort, groups_can, groups_apart, groups_differ, bits_again}
use Rattle.vst_print.proofs.Names.{AllApart, not_of, name_of_identifier, signal_name, GoodNumber, numbers_good, signals_apart, once_apart, all_once, none_twice_apart, entries_differ, kinds_differ, texts_all}

-- ---- outlines

pub outline_ports : (name : List ℕ) (ps : List OnePort) → 0 < length ps → (outline_of name ps).first ∷ (outline_of name ps).others ≡ ps
outline_ports name [] some = absurd (omega arith)
outline_ports name (p ∷ ps) some = refl

pub outline_name : (name : List ℕ) (ps : List OnePort) → (outline_of name ps).name ≡ name
outline_name name [] = refl
outline_name name (p ∷ ps) = refl

-- ports that can be declared, with short names and small numbers
pub record Sound (ports : List Port) : Type 0 where
  pub some : 0 < length ports
  pub good : All GoodPort ports
  pub chain : Chained ports

pub sound : (ports : List Port) → AreInOrder (map (λ p. p.name) ports) → CanBePorts ports → All IsSmallPort ports → Sound ports
sound ports order can small = record {
  some = can.some;
  good = λ k d l. let s = small k d l in (name_of_identifier (get_or ports k d).name.text (can.words k d l) s.0, s.1);
  chain = chained ports order can.runs;
}

pub outline_can : (name : List ℕ) (ports : List Port) → IsName name → Sound ports → CanBeAComponent (outline name ports)
outline_can name ports is s = by (map declared (grouped ports)) (some_groups ports s.some) (groups_can ports s.good) where
  by : (ps : List OnePort) → 0 < length ps → All CanBeAPort ps → CanBeAComponent (outline_of name ps)
  by [] some all = absurd (omega arith)
  by (p ∷ ps) some all = (is, All-head CanBeAPort p ps all, All-tail CanBeAPort p ps all)

pub outline_written : (name : List ℕ) (ports : List Port) → IsName name → Sound ports → length ports ≤ BITS → CanBeWritten (outline name ports)
outline_written name ports is s few =
    let c = outline_can name ports is s in
    let e = outline_ports name (map declared (grouped ports)) (some_groups ports s.some) in
    let b : all_bits ((outline name ports).first ∷ (outline name ports).others) ≡ length ports = ap all_bits e ∙ bits_again ports s.chain in
    record {
      name = c.0;
      first = c.1;
      others = c.2;
      apart = subst AreApart (sym e) (groups_apart ports s.chain);
      bits = omega (arith, b, few);
    }

pub outline_bits : (name : List ℕ) (ports : List Port) → Sound ports → component_bits (outline name ports) ≡ length ports
outline_bits name ports s = ap all_bits (outline_ports name (map declared (grouped ports)) (some_groups ports s.some)) ∙ bits_again ports s.chain

-- ---- models

-- what is known of a model that an instance has
pub record Known (table : List ModelPins) (model : List ℕ) : Type 0 where
  pub name : IsName model
  pub sound : Sound (map port_of (pins_named table model))

names_of_ports : (pins : List ModelPin) → map (λ (p : Port). p.name) (map port_of pins) ≡ map (λ (p : ModelPin). p.name) pins
names_of_ports [] = refl
names_of_ports (p ∷ ps) = ap (λ (ns : List Name). p.name ∷ ns) (names_of_ports ps)

-- what holds of the pins of each listed model holds of those of a model that is listed
pub listed_has : (P : List ModelPin → Type 0) (table : List ModelPins) (model : List ℕ) → All (λ m. P m.pins) table → IsThere (map (λ m. m.model) table) model → P (pins_named table model)
listed_has P [] model all there = absurd (nothing there.0 there.1) where
  nothing : (k : ℕ) → Stands (map (λ (m : ModelPins). m.model) []) k model → ⊥
  nothing k s = absurd cc
listed_has P (m ∷ ms) model all there = by (listed_has P ms model (All-tail (λ (x : ModelPins). P x.pins) m ms all)) (bytes_eq m.model model) refl there.0 there.1 where
  by : (IsThere (map (λ x. x.model) ms) model → P (pins_named ms model)) → (b : Bool) → bytes_eq m.model model ≡ b → (k : ℕ) → Stands (map (λ x. x.model) (m ∷ ms)) k model → P (cond b m.pins (pins_named ms model))
  by rest true e k s = All-head (λ (x : ModelPins). P x.pins) m ms all
  by rest false e (suc k) s = rest (k, s)
  by rest false e zero s =
      let g : Some m.model ≡ Some model = s in
      let same : m.model ≡ model = cc in
      let yes : bytes_eq m.model m.model ≡ true = itself m.model in
      let no : true ≡ false = sym yes ∙ ap (bytes_eq m.model) same ∙ e in absurd cc

pub known_model : (n : Netlist) (table : List ModelPins) → Fits n table → PinsCanBeWritten table → CanBeNamed n → IsWithinLimits n table → All (λ i. Known table i.model) n.instances
known_model n table fits pins named limits k d l =
    let i = get_or n.instances k d in
    let there = fits.listed k d l in
    let order = listed_has (λ ps. AreInOrder (map (λ p. p.name) ps)) table i.model fits.table_is.order there in
    let can = listed_has (λ ps. CanBePorts (map port_of ps)) table i.model pins there in
    let words = named.instances k d l in
    let short = limits.instances k d l in
    record {
      name = name_of_identifier i.model words.1 short.1;
      sound = sound (map port_of (pins_named table i.model)) (subst AreInOrder (sym (names_of_ports (pins_named table i.model))) order) can (All-map IsSmallPort port_of (pins_named table i.model) (limits.pins k d l));
    }

pub known_used : (n : Netlist) (table : List ModelPins) → All (λ i. Known table i.model) n.instances → All (Known table) (used_models n.instances)
known_used n table all = all_once (Known table) (map (λ i. i.model) n.instances) (All-map (Known table) (λ i. i.model) n.instances all)

pub component_names : (table : List ModelPins) (models : List (List ℕ)) → map (λ c. c.name) (map (component_of table) models) ≡ models
component_names table [] = refl
component_names table (m ∷ ms) =
    ap (λ (t : List ℕ). t ∷ map (λ c. c.name) (map (component_of table) ms)) (outline_name m (map declared (grouped (map port_of (pins_named table m)))))
    ∙ ap (λ (ts : List (List ℕ)). m ∷ ts) (component_names table ms)

components_can : (table : List ModelPins) (models : List (List ℕ)) → All (Known table) models → All CanBeAComponent (map (component_of table) models)
components_can table models all = All-map CanBeAComponent (component_of table) models (All-weaker (Known table) (λ m. CanBeAComponent (component_of table m)) (λ m k. outline_can m (map port_of (pins_named table m)) k.name k.sound) models all)

components_bits : (table : List ModelPins) (models : List (List ℕ)) → All (Known table) models → total_bits (map component_entry (map (component_of table) models)) ≡ pin_count table models
components_bits table [] all = refl
components_bits table (m ∷ ms) all =
    let k = All-head (Known table) m ms all in
    let a = outline_bits m (map port_of (pins_named table m)) k.sound in
    let b : length (map port_of (pins_named table m)) ≡ length (pins_named table m) = length-map (pins_named table m) port_of in
    let c = length-append (pins_named table m) (flat_map (pins_named table) ms) in
    omega (arith, a, b, c, components_bits table ms (All-tail (Known table) m ms all))

-- ---- nets

firsts_good : (Q : Name → Type 0) (met : ℕ) (ports : List Port) (classes : List ℕ) → All (λ p. Q p.name) ports → All Q (first_ports met ports classes)
firsts_good Q met [] classes all = All-nil Q
firsts_good Q met (p ∷ ps) [] all = All-nil Q
firsts_good Q met (p ∷ ps) (k ∷ ks) all = by (nat_eq k met) (firsts_good Q (met + 1) ps ks (All-tail (λ (x : Port). Q x.name) p ps all)) (firsts_good Q met ps ks (All-tail (λ (x : Port). Q x.name) p ps all)) where
  by : (b : Bool) → All Q (first_ports (met + 1) ps ks) → All Q (first_ports met ps ks) → All Q (cond b (p.name ∷ first_ports (met + 1) ps ks) (first_ports met ps ks))
  by true h g = All-cons Q p.name (first_ports (met + 1) ps ks) (All-head (λ (x : Port). Q x.name) p ps all) h
  by false h g = g

pub signals_can : (ports : List Port) (many : ℕ) → many + length ports ≤ 2 ^ 32 → All IsName (map signal_text (signal_numbers ports many))
signals_can ports many few =
    All-map IsName signal_text (signal_numbers ports many)
    (All-weaker (GoodNumber ports (many + length ports)) (λ k. IsName (signal_text k)) (λ k w. signal_name k (let l = w.0 in omega (arith, l, few))) (signal_numbers ports many) (numbers_good ports many))

pub nets_can : (n : Netlist) → All GoodPort n.ports → (n.count - length (port_nets n)) + length n.ports ≤ 2 ^ 32 → All CanBeMentioned (net_names n)
nets_can n good few =
    All-append CanBeMentioned (port_nets n) (map scalar (signal_nets n)) (firsts_good CanBeMentioned 0 n.ports n.classes good)
    (All-map CanBeMentioned scalar (signal_nets n) (All-weaker IsName (λ t. CanBeMentioned (scalar t)) (λ t is. (is, tt)) (signal_nets n) (signals_can n.ports (n.count - length (port_nets n)) few)))

-- ---- instances

maps_can : (nets pins : List Name) (classes : List ℕ) → All CanBeMentioned nets → All CanBeMentioned pins → All (λ k. k < length nets) classes → All CanBeMapped (mapped nets pins classes)
maps_can nets [] classes good all inside = All-nil CanBeMapped
maps_can nets (p ∷ ps) [] good all inside = All-nil CanBeMapped
maps_can nets (p ∷ ps) (k ∷ ks) good all inside =
    All-cons CanBeMapped (record { pin = p; net = get_or nets k (scalar []) }) (mapped nets ps ks)
    (All-head CanBeMentioned p ps all, All-get_or CanBeMentioned nets k (scalar []) (All-head (λ k. k < length nets) k ks inside) good)
    (maps_can nets ps ks good (All-tail CanBeMentioned p ps all) (All-tail (λ k. k < length nets) k ks inside))

-- what is known of an instance
pub record Ready (i : Instance) : Type 0 where
  pub label : IsName i.name
  pub model : IsName i.model
  pub some : 0 < length i.pins
  pub pins : All CanBeMentioned i.pins

one_can : (i : Instance) (ms : List Mapping) → Ready i → 0 < length ms → All CanBeMapped ms → CanBeInstance (instance_with i ms)
one_can i [] r some all = absurd (omega arith)
one_can i (m ∷ ms) r some all = (r.label, r.model, All-head CanBeMapped m ms all, All-tail CanBeMapped m ms all)

pub instances_can : (nets : List Name) (is : List Instance) (classes : List ℕ) → All CanBeMentioned nets → All Ready is → length classes ≡ pin_total is → All (λ k. k < length nets) classes
    → All CanBeInstance (instances_with nets is classes)
instances_can nets [] classes good ready many inside = All-nil CanBeInstance
instances_can nets (i ∷ is) classes good ready many inside =
    let r = All-head Ready i is ready in
    let n = length i.pins in
    let own : length (take n classes) ≡ n = length-take-le n classes (omega (arith, many)) in
    let l = mapped_length nets i.pins (take n classes) own in
    let some = r.some in
    let rest : length (drop n classes) ≡ length classes - n = length-drop n classes in
    All-cons CanBeInstance (instance_with i (mapped nets i.pins (take n classes))) (instances_with nets is (drop n classes))
    (one_can i (mapped nets i.pins (take n classes)) r (omega (arith, l, some)) (maps_can nets i.pins (take n classes) good r.pins (All-take (λ k. k < length nets) n classes inside)))
    (instances_can nets is (drop n classes) good (All-tail Ready i is ready) (omega (arith, rest, many)) (All-drop (λ k. k < length nets) n classes inside))

labels_one : (i : Instance) (ms : List Mapping) → (instance_with i ms).label ≡ i.name
labels_one i [] = refl
labels_one i (m ∷ ms) = refl

pub labels_are : (nets : List Name) (is : List Instance) (classes : List ℕ) → map (λ i. i.label) (instances_with nets is classes) ≡ map (λ i. i.name) is
labels_are nets [] classes = refl
labels_are nets (i ∷ is) classes =
    ap (λ (t : List ℕ). t ∷ map (λ i. i.label) (instances_with nets is (drop (length i.pins) classes))) (labels_one i (mapped nets i.pins (take (length i.pins) classes)))
    ∙ ap (λ (ts : List (List ℕ)). i.name ∷ ts) (labels_are nets is (drop (length i.pins) classes))

pin_names : (pins : List ModelPin) → All (λ p. GoodPort (port_of p)) pins → All CanBeMentioned (map (λ p. p.name) pins)
pin_names pins all = All-map CanBeMentioned (λ (p : ModelPin). p.name) pins all

unmap_good : (pins : List ModelPin) → All GoodPort (map port_of pins) → All (λ p. GoodPort (port_of p)) pins
unmap_good [] all = All-nil (λ (p : ModelPin). GoodPort (port_of p))
unmap_good (p ∷ ps) all = All-cons (λ (p : ModelPin). GoodPort (port_of p)) p ps (All-head GoodPort (port_of p) (map port_of ps) all) (unmap_good ps (All-tail GoodPort (port_of p) (map port_of ps) all))

pub ready_instances : (n : Netlist) (table : List ModelPins) → Fits n table → CanBeNamed n → IsWithinLimits n table → All (λ i. Known table i.model) n.instances → All Ready n.instances
ready_instances n table fits named limits known k d l =
    let i = get_or n.instances k d in
    let m = known k d l in
    let pins = fits.pins k d l in
    let words = named.instances k d l in
    let short = limits.instances k d l in
    let some = m.sound.some in
    let a : length i.pins ≡ length (map (λ (p : ModelPin). p.name) (pins_named table i.model)) = ap length pins in
    let b : length (map (λ (p : ModelPin). p.name) (pins_named table i.model)) ≡ length (pins_named table i.model) = length-map (pins_named table i.model) (λ (p : ModelPin). p.name) in
    let c : length (map port_of (pins_named table i.model)) ≡ length (pins_named table i.model) = length-map (pins_named table i.model) port_of in
    record {
      label = name_of_identifier i.name words.0 short.0;
      model = m.name;
      some = omega (arith, a, b, c, some);
      pins = subst (All CanBeMentioned) (sym pins) (pin_names (pins_named table i.model) (unmap_good (pins_named table i.model) m.sound.good));
    }

-- ---- what is declared

abbrev Word : List ℕ → Type 0
Word t = list_all is_in_small_word t ≡ true

abbrev OfComponent : List ℕ → Type 0
OfComponent t = (x : List ℕ) × (t ≡ among_components ++ x)

abbrev OfInstance : List ℕ → Type 0
OfInstance t = (x : List ℕ) × (t ≡ among_instances ++ x)

word_component : (a b : List ℕ) → Word a → OfComponent b → a ≡ b → ⊥
word_component a b w c same = let no : false ≡ true = sym (ap (list_all is_in_small_word) (same ∙ c.1)) ∙ w in absurd cc

word_instance : (a b : List ℕ) → Word a → OfInstance b → a ≡ b → ⊥
word_instance a b w c same = let no : false ≡ true = sym (ap (list_all is_in_small_word) (same ∙ c.1)) ∙ w in absurd cc

component_word : (a b : List ℕ) → OfComponent a → Word b → a ≡ b → ⊥
component_word a b c w same = word_component b a w c (sym same)

component_instance : (a b : List ℕ) → OfComponent a → OfInstance b → a ≡ b → ⊥
component_instance a b c i same = let e : 99 ≡ 105 = ap (λ (t : List ℕ). slice_index t 0) (sym c.1 ∙ same ∙ i.1) in absurd (omega (arith, e))

both_parts : (xs ys zs : List Entry) → All (λ x. Differs x.key ys) xs → All (λ x. Differs x.key zs) xs → All (λ x. Differs x.key (ys ++ zs)) xs
both_parts xs ys zs h g = λ k d l. All-append (λ f. (get_or xs k d).key ≡ f.key → ⊥) ys zs (h k d l) (g k d l)

port_keys : (P : List ℕ → Type 0) (gs : List Group) → All (λ g. P g.text) gs → All (λ e. P e.key) (map port_entry (map declared gs))
port_keys P [] all = All-nil (λ (e : Entry). P e.key)
port_keys P (g ∷ gs) all = All-cons (λ (e : Entry). P e.key) (port_entry (declared g)) (map port_entry (map declared gs)) (All-head (λ (x : Group). P x.text) g gs all) (port_keys P gs (All-tail (λ (x : Group). P x.text) g gs all))

component_keys : (cs : List Outline) → All (λ e. OfComponent e.key) (map component_entry cs)
component_keys [] = All-nil (λ (e : Entry). OfComponent e.key)
component_keys (c ∷ cs) = All-cons (λ (e : Entry). OfComponent e.key) (component_entry c) (map component_entry cs) (c.name, refl) (component_keys cs)

instance_keys : (is : List OneInstance) → All (λ e. OfInstance e.key) (map instance_entry is)
instance_keys [] = All-nil (λ (e : Entry). OfInstance e.key)
instance_keys (i ∷ is) = All-cons (λ (e : Entry). OfInstance e.key) (instance_entry i) (map instance_entry is) (i.label, refl) (instance_keys is)

signal_keys : (ss : List (List ℕ)) → All IsName ss → All (λ e. Word e.key) (map signal_entry ss)
signal_keys ss all = All-map (λ (e : Entry). Word e.key) signal_entry ss (All-weaker IsName Word (λ t is. is.0.letters) ss all)

-- no port has the text of a signal
ports_signals : (ports : List Port) (many : ℕ) → All (λ x. Differs x.key (map signal_entry (map signal_text (signal_numbers ports many)))) (map port_entry (map declared (grouped ports)))
ports_signals ports many = λ k d l j e m. all j e m k d l where
  P : List Entry
  P = map port_entry (map declared (grouped ports))

  Lacks : Entry → Type 0
  Lacks y = All (λ x. x.key ≡ y.key → ⊥) P

  free : (k : ℕ) → is_free ports k ≡ true → Lacks (signal_entry (signal_text k))
  free k e =
      let passes = AllPass-from_list_all (λ (p : Port). not (bytes_eq p.name.text (signal_text k))) ports e in
      port_keys (λ t. t ≡ signal_text k → ⊥) (grouped ports)
      (texts_all (λ t. t ≡ signal_text k → ⊥) ports (All-weaker (λ (p : Port). not (bytes_eq p.name.text (signal_text k)) ≡ true) (λ (p : Port). p.name.text ≡ signal_text k → ⊥) (λ p h. not_of p.name.text (signal_text k) h) ports passes))

  all : All Lacks (map signal_entry (map signal_text (signal_numbers ports many)))
  all =
      All-map Lacks signal_entry (map signal_text (signal_numbers ports many))
      (All-map (λ t. Lacks (signal_entry t)) signal_text (signal_numbers ports many)
      (All-weaker (GoodNumber ports (many + length ports)) (λ k. Lacks (signal_entry (signal_text k))) (λ k w. free k w.1) (signal_numbers ports many) (numbers_good ports many)))

total_ports : (ps : List OnePort) → total_bits (map port_entry ps) ≡ all_bits ps
total_ports [] = refl
total_ports (p ∷ ps) = omega (arith, total_ports ps)

total_signals : (ss : List (List ℕ)) → total_bits (map signal_entry ss) ≡ length ss
total_signals [] = refl
total_signals (s ∷ ss) = omega (arith, total_signals ss)

total_instances : (is : List OneInstance) → total_bits (map instance_entry is) ≡ 0
total_instances [] = refl
total_instances (i ∷ is) = omega (arith, total_instances is)

firsts_short : (met : ℕ) (ports : List Port) (classes : List ℕ) → length (first_ports met ports classes) ≤ length ports
firsts_short met [] classes = omega arith
firsts_short met (p ∷ ps) [] = omega arith
firsts_short met (p ∷ ps) (k ∷ ks) = by (nat_eq k met) (firsts_short (met + 1) ps ks) (firsts_short met ps ks) where
  by : (b : Bool) → length (first_ports (met + 1) ps ks) ≤ length ps → length (first_ports met ps ks) ≤ length ps → length (cond b (p.name ∷ first_ports (met + 1) ps ks) (first_ports met ps ks)) ≤ suc (length ps)
  by true h g = omega (arith, h)
  by false h g = omega (arith, g)

-- ---- the text of a netlist

-- what is known of a netlist whose text is a sentence
pub record Facts (n : Netlist) (table : List ModelPins) : Type 0 where
  pub name : IsName n.name
  pub ports : Sound n.ports
  pub known : All (λ i. Known table i.model) n.instances
  pub ready : All Ready n.instances
  pub nets : All CanBeMentioned (net_names n)
  pub few : (n.count - length (port_nets n)) + length n.ports ≤ 2 ^ 32
  pub many : length (net_names n) ≡ n.count
  pub inside : All (λ k. k < length (net_names n)) n.classes
  pub pins : length (drop (length n.ports) n.classes) ≡ pin_total n.instances

pub facts : (n : Netlist) (table : List ModelPins) → IsNetlist n → Fits n table → PinsCanBeWritten table → CanBeNamed n → IsWithinLimits n table → Facts n table
facts n table is fits pins named limits =
    let bits = limits.bits in
    let s = sound n.ports is.ports named.ports limits.ports in
    let known = known_model n table fits pins named limits in
    let short = firsts_short 0 n.ports n.classes in
    let few : (n.count - length (port_nets n)) + length n.ports ≤ 2 ^ 32 = omega (arith, bits) in
    let many = names_many n is.turns (omega (arith, bits, short)) in
    let below = turn_below 0 n.count n.classes is.turns in
    let each = is.each in
    let a = length-append (map (λ (p : Port). port p.name) n.ports) (flat_map pins_of n.instances) in
    let b : length (map (λ (p : Port). port p.name) n.ports) ≡ length n.ports = length-map n.ports (λ (p : Port). port p.name) in
    let c = total_pins n.instances in
    let d : length (drop (length n.ports) n.classes) ≡ length n.classes - length n.ports = length-drop (length n.ports) n.classes in
    record {
      name = name_of_identifier n.name named.name limits.name;
      ports = s;
      known = known;
      ready = ready_instances n table fits named limits known;
      nets = nets_can n s.good few;
      few = few;
      many = many;
      inside = All-weaker (λ k. k < n.count) (λ k. k < length (net_names n)) (λ k l. omega (arith, l, many)) n.classes below;
      pins = omega (arith, each, a, b, c, d);
    }

entries_apart : (n : Netlist) (table : List ModelPins) → IsNetlist n → Facts n table → AreDifferent (entries (structure_of n table))
entries_apart n table is f = subst (λ (ps : List OnePort). AreDifferent (map port_entry ps ++ (C ++ (S ++ I)))) (sym ports_are) whole where
  ports_are : (outline n.name n.ports).first ∷ (outline n.name n.ports).others ≡ map declared (grouped n.ports)
  ports_are = outline_ports n.name (map declared (grouped n.ports)) (some_groups n.ports f.ports.some)

  used : List (List ℕ)
  used = used_models n.instances

  numbers : ℕ
  numbers = n.count - length (port_nets n)

  instances : List OneInstance
  instances = instances_with (net_names n) n.instances (drop (length n.ports) n.classes)

  P : List Entry
  P = map port_entry (map declared (grouped n.ports))

  C : List Entry
  C = map component_entry (map (component_of table) used)

  S : List Entry
  S = map signal_entry (signal_nets n)

  I : List Entry
  I = map instance_entry instances

  words : All (λ (e : Entry). Word e.key) P
  words = port_keys Word (grouped n.ports) (texts_all Word n.ports (All-weaker GoodPort (λ p. Word p.name.text) (λ p g. g.0.0.letters) n.ports f.ports.good))

  signals : All (λ (e : Entry). Word e.key) S
  signals = signal_keys (signal_nets n) (signals_can n.ports numbers f.few)

  small : numbers + length n.ports ≤ 2 ^ 64
  small = let few = f.few in omega (arith, few)

  dC : AreDifferent C
  dC = entries_differ (λ (c : Outline). c.name) component_entry (λ x y e. ap (λ (t : List ℕ). drop 10 t) e) (map (component_of table) used) (subst AllApart (sym (component_names table used)) (once_apart (map (λ i. i.model) n.instances)))

  dS : AreDifferent S
  dS = entries_differ (λ (t : List ℕ). t) signal_entry (λ x y e. e) (signal_nets n) (subst AllApart (sym (map-id (signal_nets n))) (signals_apart n.ports numbers small))

  dI : AreDifferent I
  dI = entries_differ (λ (i : OneInstance). i.label) instance_entry (λ x y e. ap (λ (t : List ℕ). drop 9 t) e) instances
      (subst AllApart (sym (labels_are (net_names n) n.instances (drop (length n.ports) n.classes))) (none_twice_apart (map (λ i. i.name) n.instances) is.names))

  SI : AreDifferent (S ++ I)
  SI = different_parts S I dS dI (kinds_differ Word OfInstance word_instance S I signals (instance_keys instances))

  CSI : AreDifferent (C ++ (S ++ I))
  CSI = different_parts C (S ++ I) dC SI
      (both_parts C S I (kinds_differ OfComponent Word component_word C S (component_keys (map (component_of table) used)) signals)
      (kinds_differ OfComponent OfInstance component_instance C I (component_keys (map (component_of table) used)) (instance_keys instances)))

  whole : AreDifferent (P ++ (C ++ (S ++ I)))
  whole = different_parts P (C ++ (S ++ I)) (groups_differ n.ports f.ports.chain) CSI
      (both_parts P C (S ++ I) (kinds_differ Word OfComponent word_component P C words (component_keys (map (component_of table) used)))
      (both_parts P S I (ports_signals n.ports numbers) (kinds_differ Word OfInstance word_instance P I words (instance_keys instances))))

entries_few : (n : Netlist) (table : List ModelPins) → Facts n table → IsWithinLimits n table → total_bits (entries (structure_of n table)) ≤ BITS
entries_few n table f limits =
    let used = used_models n.instances in
    let many = n.count - length (port_nets n) in
    let ps = (outline n.name n.ports).first ∷ (outline n.name n.ports).others in
    let instances = instances_with (net_names n) n.instances (drop (length n.ports) n.classes) in
    let P = map port_entry ps in
    let C = map component_entry (map (component_of table) used) in
    let S = map signal_entry (signal_nets n) in
    let I = map instance_entry instances in
    let a = total_parts P (C ++ (S ++ I)) in
    let b = total_parts C (S ++ I) in
    let c = total_parts S I in
    let p = total_ports ps in
    let q : all_bits ps ≡ length n.ports = outline_bits n.name n.ports f.ports in
    let r = components_bits table used (known_used n table f.known) in
    let s = total_signals (signal_nets n) in
    let t : length (signal_nets n) ≡ length (signal_numbers n.ports many) = length-map (signal_numbers n.ports many) signal_text in
    let few = f.few in
    let u = signals_many n.ports many (omega (arith, few)) in
    let v = total_instances instances in
    let bits = limits.bits in
    omega (arith, a, b, c, p, q, r, s, t, u, v, bits)

pub can_be_laid_out : (n : Netlist) (table : List ModelPins) → IsNetlist n → Facts n table → IsWithinLimits n table → CanBeLaidOut (structure_of n table)
can_be_laid_out n table is f limits =
    let bits = limits.bits in
    record {
      entity = outline_written n.name n.ports f.name f.ports (omega (arith, bits));
      components = components_can table (used_models n.instances) (known_used n table f.known);
      signals = signals_can n.ports (n.count - length (port_nets n)) f.few;
      instances = instances_can (net_names n) n.instances (drop (length n.ports) n.classes) f.nets f.ready f.pins (All-drop (λ k. k < length (net_names n)) (length n.ports) n.classes f.inside);
      new = all_new (entries (structure_of n table)) (entries_apart n table is f) (entries_few n table f limits);
    }
