-- What the text of a machine declares: a symbol for each group of ports or registers and for each signal, which has their bits.
use Rattle.std.proofs.Common.{◌≡◌, ◌⊎◌, inl, inr, ℕ, ◌+◌, ◌-◌, ◌<◌, Bool, true, false, not, ◌&&◌, ◌||◌, List, [], ◌∷◌, ◌++◌, map, length, Option, None, Some, refl, sym, ap, subst, ◌∙◌, arith, append_assoc}
use Rattle.std.specs.List.{All, flat_map}
use Rattle.std.proofs.lemmas.Bool.{le-leb}
use Rattle.std.proofs.lemmas.List.Elements.{All-head, All-tail}
use Rattle.vlsi_base.specs.declared.name.Name.{Name}
use Rattle.vlsi_base.specs.declared.name.Port.{Port}
use Rattle.vlsi_base.specs.declared.name.Dir.{Dir}
use Rattle.vlsi_base.specs.declared.name.Dir.TheVariants as dir
use Rattle.vlsi_base.specs.declared.range.Range.{Range}
use Rattle.vlsi_base.specs.declared.entity.SignalGroup.{SignalGroup}
use Rattle.vlsi_base.specs.Member.{In, here, there}
use Rattle.vlsi_base.specs.Name.{is_supply}
use Rattle.vlsi_base.specs.Range.{rising, falling}
use Rattle.machine_core.proofs.Values.{In-split, In-left, In-right, In-map}
use Rattle.source_checks.specs.declared.symbol_table.Role.TheVariants as role
use Rattle.source_checks.specs.declared.symbol_table.Symbol.{Symbol}
use Rattle.source_checks.specs.Symbols.{bit_name, names_in, role_of_mode, role_of_word, symbols_named, port_symbols, signal_symbols}
use Rattle.source_checks.specs.Widths.{if_not, declared_faults, port_faults, signal_faults}
use Rattle.source_checks.specs.Unsupported.{is_in_mode, is_bit_word, port_form, port_forms, signal_form, signal_forms}
use Rattle.vlsi_model.proofs.Members.{In-cases, In-map_back}
use Rattle.vlsi_model.proofs.Bits.{texts, In-rising, rising-In, In-falling, both_le}
use Rattle.spell_theory.specs.Layout.{line_behind}
use Rattle.vhdl_print.specs.Outline.{Bounds, placed_type, placed_port, placed_ports}
use Rattle.vst_print.specs.Groups.{Group, mode_of, bounds_of, declared, outline_of}
use Rattle.vst_print.proofs.Grouped.{Good, GoodBits, one_port, bound_ports, group_ports}
use Rattle.vbe_print.specs.Placed.{placed_signals, placed_register_type, placed_groups}
use Rattle.vbe_laws.proofs.Plain.{LiesIn}

-- ---- lists

pub in_flat : {X Y : Type 0} (f : X → List Y) (xs : List X) (y : Y) → In y (flat_map f xs) → (x : X) × In x xs × In y (f x)
in_flat f [] y h = elim h [ ]
in_flat f (x ∷ xs) y h = elim (In-split y (f x) (flat_map f xs) h) [
  | inl i ↦ (x, here, i)
  | inr j ↦ let r = in_flat f xs y j in (r.0, there r.1, r.2)
]

pub flat_in : {X Y : Type 0} (f : X → List Y) (xs : List X) (x : X) (y : Y) → In x xs → In y (f x) → In y (flat_map f xs)
flat_in f (x ∷ xs) z y here h = In-left y (f z) (flat_map f xs) h
flat_in f (x ∷ xs) z y (there g) h = In-right y (f x) (flat_map f xs) (flat_in f xs z y g h)
flat_in f [] z y g h = elim g [ ]

-- ---- bits of groups

-- the range of a declaration on this line
abbrev pub range_on : ℕ → Option Bounds → Option Range
range_on line None = None
range_on line (Some b) = Some (record { left = b.left; falls = b.falls; right = b.right; line = line })

-- a bit of a group
pub record IsBitOf (g : Group) (p : Port) (line : ℕ) : Type 0 where
  pub text : g.text ≡ p.name.text
  pub dir : g.dir ≡ p.dir
  pub lies : LiesIn (range_on line (bounds_of g.low g.high)) p.name.bit

pub bit_of_group : (g : Group) (p : Port) (line : ℕ) → In p (group_ports g) → IsBitOf g p line
bit_of_group g p line h = by g.low g.high h where
  by : (low high : Option ℕ) → In p (bound_ports g.text g.dir (bounds_of low high)) → IsBitOf (record { text = g.text; dir = g.dir; low = low; high = high }) p line
  by None high h = elim (In-cases p (one_port g.text g.dir None) [] h) [
    | inl same ↦ subst (λ (q : Port). IsBitOf (record { text = g.text; dir = g.dir; low = None; high = high }) q line) same (record { text = refl; dir = refl; lies = tt })
    | inr j ↦ absurd (elim j [ ])
  ]
  by (Some l) None h = elim (In-cases p (one_port g.text g.dir None) [] h) [
    | inl same ↦ subst (λ (q : Port). IsBitOf (record { text = g.text; dir = g.dir; low = Some l; high = None }) q line) same (record { text = refl; dir = refl; lies = tt })
    | inr j ↦ absurd (elim j [ ])
  ]
  by (Some l) (Some u) h =
      let k = In-map_back (λ k. one_port g.text g.dir (Some k)) p (rising l (u + 1 - l)) h in
      let r = In-rising l (u + 1 - l) k.0 k.1 in
      subst (λ (q : Port). IsBitOf (record { text = g.text; dir = g.dir; low = Some l; high = Some u }) q line) k.2
      (record { text = refl; dir = refl; lies = both_le l k.0 k.0 u r.0 (omega (arith, r.0, r.1)) })

-- and each bit that a symbol of it has
pub bit_in_group : (g : Group) (line : ℕ) (n : Name) → In n (names_in g.text (range_on line (bounds_of g.low g.high))) → In (record { name = n; dir = g.dir }) (group_ports g)
bit_in_group g line n h = by g.low g.high h where
  by : (low high : Option ℕ) → In n (names_in g.text (range_on line (bounds_of low high))) → In (record { name = n; dir = g.dir }) (bound_ports g.text g.dir (bounds_of low high))
  by None high h = elim (In-cases n _ [] h) [
    | inl same ↦ subst (λ (x : Name). In (record { name = x; dir = g.dir }) (one_port g.text g.dir None ∷ [])) same here
    | inr j ↦ absurd (elim j [ ])
  ]
  by (Some l) None h = elim (In-cases n _ [] h) [
    | inl same ↦ subst (λ (x : Name). In (record { name = x; dir = g.dir }) (one_port g.text g.dir None ∷ [])) same here
    | inr j ↦ absurd (elim j [ ])
  ]
  by (Some l) (Some u) h =
      let k = In-map_back (bit_name g.text) n (falling l (u + 1 - l)) h in
      let r = In-falling l (u + 1 - l) k.0 k.1 in
      let i : In (one_port g.text g.dir (Some k.0)) (map (λ k. one_port g.text g.dir (Some k)) (rising l (u + 1 - l))) =
      In-map (λ k. one_port g.text g.dir (Some k)) k.0 (rising l (u + 1 - l)) (rising-In l (u + 1 - l) k.0 r.0 (omega (arith, r.0, r.1))) in
      subst (λ (x : Name). In (record { name = x; dir = g.dir }) (map (λ k. one_port g.text g.dir (Some k)) (rising l (u + 1 - l)))) k.2 i

-- ---- symbols

abbrev pub port_symbol : ℕ → Group → Symbol
port_symbol line g = record { text = g.text; role = role_of_mode (mode_of g.dir); range = range_on line (bounds_of g.low g.high); line = line }

abbrev pub stored_symbol : ℕ → Group → Symbol
stored_symbol line g = record { text = g.text; role = role.Register; range = range_on line (bounds_of g.low g.high); line = line }

abbrev pub signal_symbol : ℕ → List ℕ → Symbol
signal_symbol line t = record { text = t; role = role.Inner; range = None; line = line }

-- one for each, on lines one behind the other
abbrev pub on_lines : {X : Type 0} → (ℕ → X → Symbol) → ℕ → List X → List Symbol
on_lines {X} f line [] = []
on_lines {X} f line (x ∷ xs) = f line x ∷ on_lines f (line_behind line) xs

port_range : (line : ℕ) (o : Option Bounds) → (placed_type line o).range ≡ range_on line o
port_range line None = refl
port_range line (Some b) = refl

ports_on : (line : ℕ) (gs : List Group) → port_symbols (placed_ports line (map declared gs)) ≡ on_lines port_symbol (line_behind line) gs
ports_on line [] = refl
ports_on line (g ∷ gs) =
    ap (λ (o : Option Range). record { text = g.text; role = role_of_mode (mode_of g.dir); range = o; line = line_behind line } ∷ port_symbols (placed_ports (line_behind line) (map declared gs))) (port_range (line_behind line) (bounds_of g.low g.high))
    ∙ ap (λ (xs : List Symbol). port_symbol (line_behind line) g ∷ xs) (ports_on (line_behind line) gs)

pub entity_symbols : (line : ℕ) (name : List ℕ) (gs : List Group) → 0 < length (map declared gs)
    → port_symbols (placed_port line (outline_of name (map declared gs)).first ∷ placed_ports line (outline_of name (map declared gs)).others) ≡ on_lines port_symbol line gs
entity_symbols line name [] some = absurd (omega (arith, some))
entity_symbols line name (g ∷ gs) some =
    ap (λ (o : Option Range). record { text = g.text; role = role_of_mode (mode_of g.dir); range = o; line = line } ∷ port_symbols (placed_ports line (map declared gs))) (port_range line (bounds_of g.low g.high))
    ∙ ap (λ (xs : List Symbol). port_symbol line g ∷ xs) (ports_on line gs)

pub signals_both : (xs ys : List SignalGroup) → signal_symbols (xs ++ ys) ≡ signal_symbols xs ++ signal_symbols ys
signals_both [] ys = refl
signals_both (x ∷ xs) ys =
    ap (λ (z : List Symbol). own ++ z) (signals_both xs ys) ∙ sym (append_assoc own (signal_symbols xs) (signal_symbols ys)) where
      own : List Symbol
      own = symbols_named (role_of_word x.kind.word) x.kind.range x.line x.names

pub signals_on : (line : ℕ) (ss : List (List ℕ)) → signal_symbols (placed_signals line ss) ≡ on_lines signal_symbol line ss
signals_on line [] = refl
signals_on line (s ∷ ss) = ap (λ (xs : List Symbol). signal_symbol line s ∷ xs) (signals_on (line_behind line) ss)

stored_one : (line : ℕ) (text : List ℕ) (o : Option Bounds) (xs : List SignalGroup)
    → signal_symbols (record { line = line; names = record { text = text; line = line } ∷ []; kind = placed_register_type line o } ∷ xs) ≡ record { text = text; role = role.Register; range = range_on line o; line = line } ∷ signal_symbols xs
stored_one line text None xs = refl
stored_one line text (Some b) xs = refl

pub stored_on : (line : ℕ) (gs : List Group) → signal_symbols (placed_groups line gs) ≡ on_lines stored_symbol line gs
stored_on line [] = refl
stored_on line (g ∷ gs) = stored_one line g.text (bounds_of g.low g.high) (placed_groups (line_behind line) gs) ∙ ap (λ (xs : List Symbol). stored_symbol line g ∷ xs) (stored_on (line_behind line) gs)

-- each has one on some line
pub in_lines : {X : Type 0} (f : ℕ → X → Symbol) (line : ℕ) (xs : List X) (x : X) → In x xs → (l : ℕ) × In (f l x) (on_lines f line xs)
in_lines f line (x ∷ xs) y here = (line, here)
in_lines f line (x ∷ xs) y (there h) = let r = in_lines f (line_behind line) xs y h in (r.0, there r.1)
in_lines f line [] y h = elim h [ ]

-- and each is one of them
pub from_lines : {X : Type 0} (f : ℕ → X → Symbol) (line : ℕ) (xs : List X) (s : Symbol) → In s (on_lines f line xs) → (l : ℕ) × (x : X) × In x xs × (f l x ≡ s)
from_lines f line [] s h = elim h [ ]
from_lines f line (x ∷ xs) s h = elim (In-cases s (f line x) (on_lines f (line_behind line) xs) h) [
  | inl same ↦ (line, x, here, same)
  | inr g ↦ let r = from_lines f (line_behind line) xs s g in (r.0, r.1, there r.2, r.3)
]

pub texts_on : {X : Type 0} (f : ℕ → X → Symbol) (text : X → List ℕ) → ((l : ℕ) (x : X) → (f l x).text ≡ text x) → (line : ℕ) (xs : List X) → texts (on_lines f line xs) ≡ map text xs
texts_on f text same line [] = refl
texts_on f text same line (x ∷ xs) = ap (λ (t : List ℕ). t ∷ texts (on_lines f (line_behind line) xs)) (same line x) ∙ ap (λ (ts : List (List ℕ)). text x ∷ ts) (texts_on f text same (line_behind line) xs)

-- ---- no declaration is at fault

range_fine : (line : ℕ) (low high : Option ℕ) → Good low high → declared_faults (range_on line (bounds_of low high)) ≡ []
range_fine line None high good = refl
range_fine line (Some l) None good = absurd good
range_fine line (Some l) (Some u) good = ap (λ b. if_not b line) (le-leb l u good)

port_fine : (line : ℕ) (g : Group) → GoodBits g → declared_faults (placed_type line (bounds_of g.low g.high)).range ≡ []
port_fine line g good = ap declared_faults (port_range line (bounds_of g.low g.high)) ∙ range_fine line g.low g.high good

ports_fine : (line : ℕ) (gs : List Group) → All GoodBits gs → port_faults (placed_ports line (map declared gs)) ≡ []
ports_fine line [] all = refl
ports_fine line (g ∷ gs) all =
    ap (λ (xs : List ℕ). xs ++ port_faults (placed_ports (line_behind line) (map declared gs))) (port_fine (line_behind line) g (All-head GoodBits g gs all)) ∙ ports_fine (line_behind line) gs (All-tail GoodBits g gs all)

pub entity_fine : (line : ℕ) (name : List ℕ) (gs : List Group) → 0 < length (map declared gs) → All GoodBits gs
    → port_faults (placed_port line (outline_of name (map declared gs)).first ∷ placed_ports line (outline_of name (map declared gs)).others) ≡ []
entity_fine line name [] some all = absurd (omega (arith, some))
entity_fine line name (g ∷ gs) some all =
    ap (λ (xs : List ℕ). xs ++ port_faults (placed_ports line (map declared gs))) (port_fine line g (All-head GoodBits g gs all)) ∙ ports_fine line gs (All-tail GoodBits g gs all)

faults_both : (xs ys : List SignalGroup) → signal_faults xs ≡ [] → signal_faults ys ≡ [] → signal_faults (xs ++ ys) ≡ []
faults_both [] ys e f = f
faults_both (x ∷ xs) ys e f = by (declared_faults x.kind.range) e (faults_both xs ys) where
  by : (own : List ℕ) → own ++ signal_faults xs ≡ [] → (signal_faults xs ≡ [] → signal_faults ys ≡ [] → signal_faults (xs ++ ys) ≡ []) → own ++ signal_faults (xs ++ ys) ≡ []
  by [] e rest = rest e f
  by (l ∷ ls) e rest = absurd cc

signals_fine : (line : ℕ) (ss : List (List ℕ)) → signal_faults (placed_signals line ss) ≡ []
signals_fine line [] = refl
signals_fine line (s ∷ ss) = signals_fine (line_behind line) ss

stored_range : (line : ℕ) (o : Option Bounds) → (placed_register_type line o).range ≡ range_on line o
stored_range line None = refl
stored_range line (Some b) = refl

stored_fine : (line : ℕ) (gs : List Group) → All GoodBits gs → signal_faults (placed_groups line gs) ≡ []
stored_fine line [] all = refl
stored_fine line (g ∷ gs) all =
    ap (λ (o : Option Range). declared_faults o ++ signal_faults (placed_groups (line_behind line) gs)) (stored_range line (bounds_of g.low g.high))
    ∙ ap (λ (xs : List ℕ). xs ++ signal_faults (placed_groups (line_behind line) gs)) (range_fine line g.low g.high (All-head GoodBits g gs all))
    ∙ stored_fine (line_behind line) gs (All-tail GoodBits g gs all)

pub declarations_fine : (line l : ℕ) (ss : List (List ℕ)) (gs : List Group) → All GoodBits gs → signal_faults (placed_signals line ss ++ placed_groups l gs) ≡ []
declarations_fine line l ss gs all = faults_both (placed_signals line ss) (placed_groups l gs) (signals_fine line ss) (stored_fine l gs all)

-- ---- nothing is left out

-- a supply is an input of one bit
abbrev pub FitsSupply : Group → Type 0
FitsSupply g = (is_supply g.text ≡ false) ⊎ ((g.dir ≡ dir.In) × (bounds_of g.low g.high ≡ None))

or_not : (b : Bool) → (b || true) ≡ true
or_not true = refl
or_not false = refl

form_fine : (line : ℕ) (g : Group) → FitsSupply g → port_form (placed_port line (declared g)) ≡ []
form_fine line g fits = by g.dir (bounds_of g.low g.high) (supply_fine fits) where
  supply_fine : FitsSupply g → (is_in_mode (mode_of g.dir) && is_bit_word (placed_type line (bounds_of g.low g.high)).word || not (is_supply g.text)) ≡ true
  supply_fine (inl e) = ap (λ b. (is_in_mode (mode_of g.dir) && is_bit_word (placed_type line (bounds_of g.low g.high)).word || not b)) e ∙ or_not (is_in_mode (mode_of g.dir) && is_bit_word (placed_type line (bounds_of g.low g.high)).word)
  supply_fine (inr h) =
      ap (λ (d : Dir). (is_in_mode (mode_of d) && is_bit_word (placed_type line (bounds_of g.low g.high)).word || not (is_supply g.text))) h.0
      ∙ ap (λ (o : Option Bounds). (is_bit_word (placed_type line o).word || not (is_supply g.text))) h.1

  by : (d : Dir) (o : Option Bounds) → (is_in_mode (mode_of d) && is_bit_word (placed_type line o).word || not (is_supply g.text)) ≡ true
      → port_form (placed_port line (record { name = g.text; mode = mode_of d; bounds = o })) ≡ []
  by dir.In None e = ap (λ b. (if_not b line ++ []) ++ []) e
  by dir.In (Some b) e = ap (λ c. (if_not c line ++ []) ++ []) e
  by dir.Out None e = ap (λ b. (if_not b line ++ []) ++ []) e
  by dir.Out (Some b) e = ap (λ c. (if_not c line ++ []) ++ []) e

forms_fine : (line : ℕ) (gs : List Group) → All FitsSupply gs → port_forms (placed_ports line (map declared gs)) ≡ []
forms_fine line [] all = refl
forms_fine line (g ∷ gs) all =
    ap (λ (xs : List ℕ). xs ++ port_forms (placed_ports (line_behind line) (map declared gs))) (form_fine (line_behind line) g (All-head FitsSupply g gs all)) ∙ forms_fine (line_behind line) gs (All-tail FitsSupply g gs all)

pub entity_forms : (line : ℕ) (name : List ℕ) (gs : List Group) → 0 < length (map declared gs) → All FitsSupply gs
    → port_forms (placed_port line (outline_of name (map declared gs)).first ∷ placed_ports line (outline_of name (map declared gs)).others) ≡ []
entity_forms line name [] some all = absurd (omega (arith, some))
entity_forms line name (g ∷ gs) some all =
    ap (λ (xs : List ℕ). xs ++ port_forms (placed_ports line (map declared gs))) (form_fine line g (All-head FitsSupply g gs all)) ∙ forms_fine line gs (All-tail FitsSupply g gs all)

forms_both : (xs ys : List SignalGroup) → signal_forms xs ≡ [] → signal_forms ys ≡ [] → signal_forms (xs ++ ys) ≡ []
forms_both [] ys e f = f
forms_both (x ∷ xs) ys e f = by (signal_form x) e (forms_both xs ys) where
  by : (own : List ℕ) → own ++ signal_forms xs ≡ [] → (signal_forms xs ≡ [] → signal_forms ys ≡ [] → signal_forms (xs ++ ys) ≡ []) → own ++ signal_forms (xs ++ ys) ≡ []
  by [] e rest = rest e f
  by (l ∷ ls) e rest = absurd cc

abbrev pub IsNoSupplyText : List ℕ → Type 0
IsNoSupplyText t = is_supply t ≡ false

signal_forms_fine : (line : ℕ) (ss : List (List ℕ)) → All (λ t. is_supply t ≡ false) ss → signal_forms (placed_signals line ss) ≡ []
signal_forms_fine line [] all = refl
signal_forms_fine line (s ∷ ss) all =
    ap (λ b. ((if_not (not b) line ++ []) ++ []) ++ signal_forms (placed_signals (line_behind line) ss)) (All-head IsNoSupplyText s ss all) ∙ signal_forms_fine (line_behind line) ss (All-tail IsNoSupplyText s ss all)

stored_form : (line : ℕ) (text : List ℕ) (o : Option Bounds) → is_supply text ≡ false → signal_form (record { line = line; names = record { text = text; line = line } ∷ []; kind = placed_register_type line o }) ≡ []
stored_form line text None e = ap (λ b. (if_not (not b) line ++ []) ++ []) e
stored_form line text (Some b) e = ap (λ c. (if_not (not c) line ++ []) ++ []) e

stored_forms_fine : (line : ℕ) (gs : List Group) → All (λ g. is_supply g.text ≡ false) gs → signal_forms (placed_groups line gs) ≡ []
stored_forms_fine line [] all = refl
stored_forms_fine line (g ∷ gs) all =
    let P : Group → Type 0 = λ g. is_supply g.text ≡ false in
    ap (λ (xs : List ℕ). xs ++ signal_forms (placed_groups (line_behind line) gs)) (stored_form line g.text (bounds_of g.low g.high) (All-head P g gs all)) ∙ stored_forms_fine (line_behind line) gs (All-tail P g gs all)

pub declarations_forms : (line l : ℕ) (ss : List (List ℕ)) (gs : List Group) → All (λ t. is_supply t ≡ false) ss → All (λ g. is_supply g.text ≡ false) gs → signal_forms (placed_signals line ss ++ placed_groups l gs) ≡ []
declarations_forms line l ss gs free stored = forms_both (placed_signals line ss) (placed_groups l gs) (signal_forms_fine line ss free) (stored_forms_fine l gs stored)
