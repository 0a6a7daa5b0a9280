-- What a text that is written declares.
use Rattle.std.proofs.Common.{◌≡◌, ◌⊎◌, inl, inr, ℕ, ◌+◌, ◌-◌, ◌≤◌, ◌^◌, Bool, true, false, not, cond, nat_eq, List, [], ◌∷◌, ◌++◌, map, length, None, refl, sym, ap, subst, ◌∙◌, bytes_eq, arith}
use Rattle.std.specs.List.{All, flat_map}
use Rattle.std.proofs.lemmas.List.Elements.{All-nil, All-cons, All-head, All-tail}
use Rattle.vlsi_base.specs.declared.name.Name.{Name}
use Rattle.vlsi_base.specs.declared.name.Port.{Port}
use Rattle.vlsi_base.specs.declared.entity.SignalGroup.{SignalGroup}
use Rattle.vlsi_base.specs.Member.{In, here, there, AllDifferent}
use Rattle.vlsi_base.specs.Names.{scalar}
use Rattle.vlsi_model.proofs.Members.{In-cases, In-map_back, different_append}
use Rattle.vlsi_model.proofs.Bits.{texts}
use Rattle.source_checks.specs.declared.symbol_table.Role.TheVariants as role
use Rattle.source_checks.specs.declared.symbol_table.Symbol.{Symbol}
use Rattle.source_checks.specs.Symbols.{port_symbols, signal_symbols}
use Rattle.spell_theory.specs.Layout.{line_behind, line_of}
use Rattle.vhdl_print.specs.Outline.{OnePort, Outline, placed_port, placed_ports}
use Rattle.net_core.specs.declared.pins.ModelPins.{ModelPins}
use Rattle.net_core.specs.Netlist.{Netlist}
use Rattle.net_core.specs.Checks.{pins_named}
use Rattle.net_right.specs.Writable.{port_of}
use Rattle.vst_text.specs.declared.file.Component.{Component}
use Rattle.vst_text.specs.declared.file.Declaration.{Declaration}
use Rattle.vst_text.specs.declared.file.Declaration.TheVariants as declares
use Rattle.vst_print.specs.Groups.{Group, grouped, declared, outline}
use Rattle.vst_print.specs.Structure.{component_layout}
use Rattle.vst_print.specs.Nets.{first_ports, signal_text, signal_numbers, port_nets, signal_nets}
use Rattle.vst_print.specs.Written.{component_of}
use Rattle.vst_print.proofs.Runs.{some_groups}
use Rattle.vst_print.specs.Placed.{placed_component, placed_components, placed_signal, placed_signals}
use Rattle.vst_print.specs.Says.{ports_of, components_of}
use Rattle.vst_print.proofs.Entries.{Entry, port_entry}
use Rattle.vst_print.proofs.Grouped.{groups_differ}
use Rattle.vst_print.proofs.Names.{not_of, numbers_good, GoodNumber, signals_apart, texts_all}
use Rattle.vst_print.proofs.Netlists.{Sound, Known, outline_ports}
use Rattle.vst_io.specs.Nets.{components, signal_groups, pins, port_bits}
use Rattle.vst_io.specs.Faults.{declaration_widths, declaration_forms}
use Rattle.vst_io.proofs.Fine.{map_append, all_true}
use Rattle.vst_laws.proofs.Symbols.{IsNameOf}
use Rattle.vst_laws.proofs.Plain.{ArePlain, outline_plain, plain_widths, plain_forms}
use Rattle.vst_laws.proofs.Modelled.{IsModel, no_lines}
use Rattle.vst_laws.proofs.Once.{all_in, apart_different, different_keys}

-- ---- declarations

pub same_components : (ds : List Declaration) → components ds ≡ components_of ds
same_components [] = refl
same_components (declares.Component c ∷ ds) = ap (λ (cs : List Component). c ∷ cs) (same_components ds)
same_components (declares.Signals s ∷ ds) = same_components ds

component_listed : (ds : List Declaration) (c : Component) → In (declares.Component c) ds → In c (components ds)
component_listed [] c h = elim h [ ]
component_listed (declares.Component x ∷ ds) c h = by (In-cases (declares.Component c) (declares.Component x) ds h) (component_listed ds c) where
  by : (declares.Component x ≡ declares.Component c) ⊎ In (declares.Component c) ds → (In (declares.Component c) ds → In c (components ds)) → In c (x ∷ components ds)
  by (inl e) rest = let same : x ≡ c = cc in subst (λ (z : Component). In c (z ∷ components ds)) (sym same) here
  by (inr g) rest = there (rest g)
component_listed (declares.Signals s ∷ ds) c h = by (In-cases (declares.Component c) (declares.Signals s) ds h) (component_listed ds c) where
  by : (declares.Signals s ≡ declares.Component c) ⊎ In (declares.Component c) ds → (In (declares.Component c) ds → In c (components ds)) → In c (components ds)
  by (inl e) rest = absurd cc
  by (inr g) rest = rest g

signals_listed : (ds : List Declaration) (s : SignalGroup) → In (declares.Signals s) ds → In s (signal_groups ds)
signals_listed [] s h = elim h [ ]
signals_listed (declares.Signals x ∷ ds) s h = by (In-cases (declares.Signals s) (declares.Signals x) ds h) (signals_listed ds s) where
  by : (declares.Signals x ≡ declares.Signals s) ⊎ In (declares.Signals s) ds → (In (declares.Signals s) ds → In s (signal_groups ds)) → In s (x ∷ signal_groups ds)
  by (inl e) rest = let same : x ≡ s = cc in subst (λ (z : SignalGroup). In s (z ∷ signal_groups ds)) (sym same) here
  by (inr g) rest = there (rest g)
signals_listed (declares.Component c ∷ ds) s h = by (In-cases (declares.Signals s) (declares.Component c) ds h) (signals_listed ds s) where
  by : (declares.Component c ≡ declares.Signals s) ⊎ In (declares.Signals s) ds → (In (declares.Signals s) ds → In s (signal_groups ds)) → In s (signal_groups ds)
  by (inl e) rest = absurd cc
  by (inr g) rest = rest g

-- ---- components

-- a component that is written, on some line
pub record IsWrittenAs (table : List ModelPins) (models : List (List ℕ)) (c : Component) : Type 0 where
  pub line : ℕ
  pub model : List ℕ
  pub listed : In model models
  pub is : c ≡ placed_component line (component_of table model)

no_component : (line : ℕ) (ss : List (List ℕ)) (c : Component) → In c (components (placed_signals line ss)) → ⊥
no_component line [] c h = elim h [ ]
no_component line (s ∷ ss) c h = no_component (line_behind line) ss c h

pub component_in : (table : List ModelPins) (line behind : ℕ) (models ss : List (List ℕ)) (c : Component) → In c (components (placed_components line (map (component_of table) models) ++ placed_signals behind ss)) → IsWrittenAs table models c
component_in table line behind [] ss c h = absurd (no_component behind ss c h)
component_in table line behind (m ∷ ms) ss c h =
    by (In-cases c (placed_component line (component_of table m)) (components (placed_components (line_of line (component_layout (component_of table m))) (map (component_of table) ms) ++ placed_signals behind ss)) h)
    (component_in table (line_of line (component_layout (component_of table m))) behind ms ss c) where
      by : (placed_component line (component_of table m) ≡ c) ⊎ In c (components (placed_components (line_of line (component_layout (component_of table m))) (map (component_of table) ms) ++ placed_signals behind ss))
          → (In c (components (placed_components (line_of line (component_layout (component_of table m))) (map (component_of table) ms) ++ placed_signals behind ss)) → IsWrittenAs table ms c) → IsWrittenAs table (m ∷ ms) c
      by (inl e) rest = record { line = line; model = m; listed = here; is = sym e }
      by (inr g) rest = let r = rest g in record { line = r.line; model = r.model; listed = there r.listed; is = r.is }

placed_texts : (line : ℕ) (ps : List OnePort) → texts (port_symbols (placed_ports line ps)) ≡ map (λ e. e.key) (map port_entry ps)
placed_texts line [] = refl
placed_texts line (p ∷ ps) = ap (λ (ts : List (List ℕ)). p.name ∷ ts) (placed_texts (line_behind line) ps)

pub outline_texts : (line : ℕ) (name : List ℕ) (ports : List Port) → Sound ports
    → texts (port_symbols (placed_port line (outline name ports).first ∷ placed_ports line (outline name ports).others)) ≡ map (λ e. e.key) (map port_entry (map declared (grouped ports)))
outline_texts line name ports s =
    ap (λ (ts : List (List ℕ)). (outline name ports).first.name ∷ ts) (placed_texts line (outline name ports).others)
    ∙ ap (λ (ps : List OnePort). map (λ (e : Entry). e.key) (map port_entry ps)) (outline_ports name (map declared (grouped ports)) (some_groups ports s.some))

pub outline_apart : (line : ℕ) (name : List ℕ) (ports : List Port) → Sound ports
    → AllDifferent (texts (port_symbols (placed_port line (outline name ports).first ∷ placed_ports line (outline name ports).others)))
outline_apart line name ports s =
    subst (λ (ts : List (List ℕ)). AllDifferent ts) (sym (outline_texts line name ports s)) (different_keys (map port_entry (map declared (grouped ports))) (groups_differ ports s.chain))

pub is_model : (table : List ModelPins) (models : List (List ℕ)) (c : Component) → All (Known table) models → IsWrittenAs table models c → flat_map ports_of c.ports ≡ map port_of (pins_named table c.name) → IsModel table c
is_model table models c known w pins_are =
    let k = all_in (Known table) models known w.model w.listed in
    let ports = map port_of (pins_named table w.model) in
    let l = line_behind (line_behind w.line) in
    record {
      plain = subst (λ (x : Component). ArePlain x.ports) (sym w.is) (outline_plain l w.model ports k.sound);
      apart = subst (λ (x : Component). AllDifferent (texts (pins x))) (sym w.is) (outline_apart l w.model ports k.sound);
      pins_are = pins_are;
    }

-- ---- signals

-- the symbols of signals, the first on this line
abbrev pub plain_symbols : ℕ → List (List ℕ) → List Symbol
plain_symbols line [] = []
plain_symbols line (s ∷ ss) = record { text = s; role = role.Inner; range = None; line = line } ∷ plain_symbols (line_behind line) ss

only_signals : (behind : ℕ) (ss : List (List ℕ)) → signal_symbols (signal_groups (placed_signals behind ss)) ≡ plain_symbols behind ss
only_signals behind [] = refl
only_signals behind (s ∷ ss) = ap (λ (xs : List Symbol). record { text = s; role = role.Inner; range = None; line = behind } ∷ xs) (only_signals (line_behind behind) ss)

pub signals_are : (line behind : ℕ) (cs : List Outline) (ss : List (List ℕ)) → signal_symbols (signal_groups (placed_components line cs ++ placed_signals behind ss)) ≡ plain_symbols behind ss
signals_are line behind [] ss = only_signals behind ss
signals_are line behind (c ∷ cs) ss = signals_are (line_of line (component_layout c)) behind cs ss

pub signal_texts : (line : ℕ) (ss : List (List ℕ)) → texts (plain_symbols line ss) ≡ ss
signal_texts line [] = refl
signal_texts line (s ∷ ss) = ap (λ (ts : List (List ℕ)). s ∷ ts) (signal_texts (line_behind line) ss)

pub no_ports : (line : ℕ) (ss : List (List ℕ)) → port_bits (plain_symbols line ss) ≡ []
no_ports line [] = refl
no_ports line (s ∷ ss) = no_ports (line_behind line) ss

pub signal_is : (line : ℕ) (ss : List (List ℕ)) (t : List ℕ) → In t ss → IsNameOf (plain_symbols line ss) (scalar t)
signal_is line (s ∷ ss) t here = record { symbol = record { text = s; role = role.Inner; range = None; line = line }; listed = here; text = refl; bit = refl }
signal_is line (s ∷ ss) t (there h) = let r = signal_is (line_behind line) ss t h in record { symbol = r.symbol; listed = there r.listed; text = r.text; bit = r.bit }
signal_is line [] t h = elim h [ ]

-- a group that is written, on some line
pub record IsWrittenSignal (s : SignalGroup) : Type 0 where
  pub line : ℕ
  pub text : List ℕ
  pub is : s ≡ placed_signal line text

only_group : (behind : ℕ) (ss : List (List ℕ)) (s : SignalGroup) → In s (signal_groups (placed_signals behind ss)) → IsWrittenSignal s
only_group behind [] s h = elim h [ ]
only_group behind (t ∷ ts) s h = elim (In-cases s (placed_signal behind t) (signal_groups (placed_signals (line_behind behind) ts)) h) [
  | inl e ↦ record { line = behind; text = t; is = sym e }
  | inr g ↦ only_group (line_behind behind) ts s g
]

signal_group : (line behind : ℕ) (cs : List Outline) (ss : List (List ℕ)) (s : SignalGroup) → In s (signal_groups (placed_components line cs ++ placed_signals behind ss)) → IsWrittenSignal s
signal_group line behind [] ss s h = only_group behind ss s h
signal_group line behind (c ∷ cs) ss s h = signal_group (line_of line (component_layout c)) behind cs ss s h

-- ---- no declaration is at fault

one_widths : (table : List ModelPins) (line behind : ℕ) (cs : List Outline) (ss : List (List ℕ))
    → ((c : Component) → In c (components (placed_components line cs ++ placed_signals behind ss)) → IsModel table c)
    → (d : Declaration) → In d (placed_components line cs ++ placed_signals behind ss) → declaration_widths d ≡ []
one_widths table line behind cs ss models (declares.Component c) h = plain_widths c.ports (models c (component_listed (placed_components line cs ++ placed_signals behind ss) c h)).plain
one_widths table line behind cs ss models (declares.Signals s) h =
    let r = signal_group line behind cs ss s (signals_listed (placed_components line cs ++ placed_signals behind ss) s h) in
    ap (λ (x : SignalGroup). declaration_widths (declares.Signals x)) r.is

pub no_widths : (table : List ModelPins) (line behind : ℕ) (cs : List Outline) (ss : List (List ℕ))
    → ((c : Component) → In c (components (placed_components line cs ++ placed_signals behind ss)) → IsModel table c)
    → flat_map declaration_widths (placed_components line cs ++ placed_signals behind ss) ≡ []
no_widths table line behind cs ss models = no_lines declaration_widths (placed_components line cs ++ placed_signals behind ss) (one_widths table line behind cs ss models)

one_forms : (table : List ModelPins) (line behind : ℕ) (cs : List Outline) (ss : List (List ℕ))
    → ((c : Component) → In c (components (placed_components line cs ++ placed_signals behind ss)) → IsModel table c)
    → (d : Declaration) → In d (placed_components line cs ++ placed_signals behind ss) → declaration_forms d ≡ []
one_forms table line behind cs ss models (declares.Component c) h = plain_forms c.ports (models c (component_listed (placed_components line cs ++ placed_signals behind ss) c h)).plain
one_forms table line behind cs ss models (declares.Signals s) h =
    let r = signal_group line behind cs ss s (signals_listed (placed_components line cs ++ placed_signals behind ss) s h) in
    ap (λ (x : SignalGroup). declaration_forms (declares.Signals x)) r.is

pub no_forms : (table : List ModelPins) (line behind : ℕ) (cs : List Outline) (ss : List (List ℕ))
    → ((c : Component) → In c (components (placed_components line cs ++ placed_signals behind ss)) → IsModel table c)
    → flat_map declaration_forms (placed_components line cs ++ placed_signals behind ss) ≡ []
no_forms table line behind cs ss models = no_lines declaration_forms (placed_components line cs ++ placed_signals behind ss) (one_forms table line behind cs ss models)

-- ---- names of nets

-- no port has the text of a signal
pub port_no_signal : (ports : List Port) (many : ℕ) (t : List ℕ) → In t (map (λ e. e.key) (map port_entry (map declared (grouped ports)))) → In t (map signal_text (signal_numbers ports many)) → ⊥
port_no_signal ports many t h g =
    let k = In-map_back signal_text t (signal_numbers ports many) g in
    let good = all_in (GoodNumber ports (many + length ports)) (signal_numbers ports many) (numbers_good ports many) k.0 k.1 in
    let other : (p : Port) → In p ports → p.name.text ≡ t → ⊥ = λ p i e. not_of p.name.text (signal_text k.0) (all_true (λ (q : Port). not (bytes_eq q.name.text (signal_text k.0))) ports good.1 p i) (e ∙ sym k.2) in
    let groups = texts_all (λ u. u ≡ t → ⊥) ports (all_of ports other) in
    key_of (grouped ports) h groups where
      all_of : (ps : List Port) → ((p : Port) → In p ps → p.name.text ≡ t → ⊥) → All (λ p. p.name.text ≡ t → ⊥) ps
      all_of [] f = All-nil (λ (p : Port). p.name.text ≡ t → ⊥)
      all_of (p ∷ ps) f = All-cons (λ (q : Port). q.name.text ≡ t → ⊥) p ps (f p here) (all_of ps (λ q i. f q (there i)))

      key_of : (gs : List Group) → In t (map (λ e. e.key) (map port_entry (map declared gs))) → All (λ g. g.text ≡ t → ⊥) gs → ⊥
      key_of [] i all = elim i [ ]
      key_of (x ∷ gs) i all = elim (In-cases t x.text (map (λ (e : Entry). e.key) (map port_entry (map declared gs))) i) [
        | inl e ↦ All-head (λ (y : Group). y.text ≡ t → ⊥) x gs all e
        | inr j ↦ key_of gs j (All-tail (λ (y : Group). y.text ≡ t → ⊥) x gs all)
      ]

pub nets_apart : (n : Netlist) (line behind : ℕ) → Sound n.ports → (n.count - length (port_nets n)) + length n.ports ≤ 2 ^ 32
    → AllDifferent (texts (port_symbols (placed_port line (outline n.name n.ports).first ∷ placed_ports line (outline n.name n.ports).others) ++ plain_symbols behind (signal_nets n)))
nets_apart n line behind s few =
    let key : Symbol → List ℕ = λ x. x.text in
    let A = port_symbols (placed_port line (outline n.name n.ports).first ∷ placed_ports line (outline n.name n.ports).others) in
    let B = plain_symbols behind (signal_nets n) in
    let many = n.count - length (port_nets n) in
    let signals : AllDifferent (texts B) = subst (λ (ts : List (List ℕ)). AllDifferent ts) (sym (signal_texts behind (signal_nets n))) (apart_different (signal_nets n) (signals_apart n.ports many (omega (arith, few)))) in
    subst (λ (ts : List (List ℕ)). AllDifferent ts) (sym (map_append key A B))
    (different_append (texts A) (texts B) (outline_apart line n.name n.ports s) signals
    (λ t h g. port_no_signal n.ports many t (subst (λ (ts : List (List ℕ)). In t ts) (outline_texts line n.name n.ports s) h) (subst (λ (ts : List (List ℕ)). In t ts) (signal_texts behind (signal_nets n)) g)))

-- a name of the first classes is a port's
pub first_in : (met : ℕ) (ports : List Port) (classes : List ℕ) (x : Name) → In x (first_ports met ports classes) → In x (map (λ p. p.name) ports)
first_in met [] classes x h = elim h [ ]
first_in met (p ∷ ps) [] x h = elim h [ ]
first_in met (p ∷ ps) (k ∷ ks) x h = by (nat_eq k met) h (first_in (met + 1) ps ks x) (first_in met ps ks x) where
  by : (b : Bool) → In x (cond b (p.name ∷ first_ports (met + 1) ps ks) (first_ports met ps ks)) → (In x (first_ports (met + 1) ps ks) → In x (map (λ q. q.name) ps)) → (In x (first_ports met ps ks) → In x (map (λ q. q.name) ps))
      → In x (p.name ∷ map (λ q. q.name) ps)
  by true i f g = elim (In-cases x p.name (first_ports (met + 1) ps ks) i) [
    | inl e ↦ subst (λ (y : Name). In x (y ∷ map (λ q. q.name) ps)) (sym e) here
    | inr j ↦ there (f j)
  ]
  by false i f g = there (g i)
