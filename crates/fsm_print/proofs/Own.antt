-- Which bits the text of a state machine counts: each target that is written is one bit, its own.
use Rattle.std.proofs.Common.{◌≡◌, ◌⊎◌, inl, inr, ℕ, zero, suc, ◌+◌, ◌-◌, ◌<◌, Bool, true, false, not, cond, get_or, List, [], ◌∷◌, map, filter, length, bytes_eq, is_none, Option, None, Some, if◌then◌else◌, refl, sym, ap, subst, ◌∙◌, arith}
use Rattle.std.specs.List.{All, Contains, flat_map}
use Rattle.std.proofs.lemmas.List.Elements.{All-head, All-tail, All-cons, All-nil, All-map, All-append}
use Rattle.vlsi_base.specs.declared.name.Name.{Name}
use Rattle.vlsi_base.specs.declared.name.Port.{Port}
use Rattle.vlsi_base.specs.declared.name.Dir.{Dir}
use Rattle.vlsi_base.specs.declared.range.Range.{Range}
use Rattle.vlsi_base.specs.Member.{In, here, there}
use Rattle.machine_core.proofs.Values.{In-split, In-map}
use Rattle.spell_theory.specs.Layout.{line_behind}
use Rattle.vlsi_base.specs.Names.{scalar}
use Rattle.vlsi_base.specs.Range.{rising}
use Rattle.machine_core.specs.Machine.{is_input, names_of}
use Rattle.fsm_machine.specs.Fsm.{Fsm, fsm_outputs}
use Rattle.net_core.proofs.Lookups.{same_of}
use Rattle.source_checks.specs.declared.symbol_table.Symbol.{Symbol}
use Rattle.source_checks.specs.declared.statement.Target.{Target}
use Rattle.source_checks.specs.Symbols.{role_of_mode, port_symbols, find, names_in}
use Rattle.source_checks.specs.declared.symbol_table.Role.TheVariants as role
use Rattle.source_checks.specs.Formula.{names_of_found}
use Rattle.source_checks.specs.Drivers.{target_names}
use Rattle.vhdl_print.specs.Outline.{Bounds, OnePort, placed_type, placed_port, placed_ports, placed_entity}
use Rattle.vhdl_print.specs.EntityAgain.{AreApart}
use Rattle.vst_print.specs.Groups.{Group, bounds_of, grouped, declared, outline, outline_of}
use Rattle.vst_print.specs.Placed.{selected}
use Rattle.vst_print.proofs.Grouped.{one_port, bound_ports, group_ports, ports_again, groups_apart}
use Rattle.vst_print.proofs.Names.{texts_all}
use Rattle.vst_print.proofs.Netlists.{Sound, outline_ports}
use Rattle.vst_print.proofs.Runs.{some_groups}
use Rattle.vbe_print.proofs.Known.{all_in, all_by}
use Rattle.fsm_text.specs.Chains.{is_out, next_symbols, counted_symbols}
use Rattle.fsm_print.specs.declared.words.Words.{Words}
use Rattle.fsm_print.proofs.Counting.{IsOwn, AreOwn}

-- ---- symbols that are found

found : (P : Symbol → Type 0) (known : List Symbol) (t : List ℕ) (s : Symbol) → All P known → find known t ≡ Some s → P s × (s.text ≡ t)
found P [] t s all e = absurd cc
found P (x ∷ xs) t s all e = by (λ f. found P xs t s (All-tail P x xs all) f) (bytes_eq x.text t) refl e where
  by : (find xs t ≡ Some s → P s × (s.text ≡ t)) → (b : Bool) → bytes_eq x.text t ≡ b → cond b (Some x) (find xs t) ≡ Some s → P s × (s.text ≡ t)
  by later true same f =
      let is : x ≡ s = cc in
      (subst P is (All-head P x xs all), ap (λ (y : Symbol). y.text) (sym is) ∙ same_of x.text t same)
  by later false same f = later f

-- no symbol of this text
none_found : (known : List Symbol) (t : List ℕ) → All (λ s. s.text ≡ t → ⊥) known → find known t ≡ None
none_found known t all = by (find known t) refl where
  by : (o : Option Symbol) → find known t ≡ o → find known t ≡ None
  by None e = e
  by (Some s) e = let r = found (λ (x : Symbol). x.text ≡ t → ⊥) known t s all e in absurd (r.0 r.1)

-- symbols of this text have no range
abbrev IsBit : List ℕ → Symbol → Type 0
IsBit t s = s.text ≡ t → s.range ≡ None

own_of : (known : List Symbol) (n : Name) → (n.bit ≡ None → All (IsBit n.text) known) → IsOwn known n
own_of known n bits line = by n.bit refl where
  told : Option ℕ → Target
  told b = record { name = n.text; line = line; selection = selected b }

  looked : (o : Option Symbol) → find known n.text ≡ o → n.bit ≡ None → (names_of_found o ≡ []) ⊎ (names_of_found o ≡ n ∷ [])
  looked None e none = inl refl
  looked (Some s) e none =
      let r = found (IsBit n.text) known n.text s (bits none) e in
      inr (ap (λ (o : Option Range). names_in s.text o) (r.0 r.1) ∙ ap (λ (t : List ℕ). record { text = t; bit = None } ∷ []) r.1 ∙ ap (λ (b : Option ℕ). record { text = n.text; bit = b } ∷ []) (sym none))

  by : (b : Option ℕ) → n.bit ≡ b → (target_names known (told b) ≡ []) ⊎ (target_names known (told b) ≡ n ∷ [])
  by (Some k) e = inr (ap (λ (b : Option ℕ). record { text = n.text; bit = b } ∷ []) (sym e))
  by None e = looked (find known n.text) refl e

-- ---- the symbols of ports

abbrev symbol_at : ℕ → OnePort → Symbol
symbol_at line d = record { text = d.name; role = role_of_mode d.mode; range = (placed_type line d.bounds).range; line = line }

led_one : (P : OnePort → Type 0) (Q : Symbol → Type 0) → ((d : OnePort) (line : ℕ) → P d → Q (symbol_at line d)) → (d : OnePort) (ds : List OnePort) (line : ℕ) → P d
    → All Q (port_symbols (filter is_out (placed_ports line ds))) → All Q (port_symbols (filter is_out (placed_port line d ∷ placed_ports line ds)))
led_one P Q h d ds line p rest = by (is_out (placed_port line d)) where
  by : (b : Bool) → All Q (port_symbols (if b then placed_port line d ∷ filter is_out (placed_ports line ds) else filter is_out (placed_ports line ds)))
  by false = rest
  by true = All-cons Q (symbol_at line d) (port_symbols (filter is_out (placed_ports line ds))) (h d line p) rest

-- what holds of each declared port holds of its symbol
led_symbols : (P : OnePort → Type 0) (Q : Symbol → Type 0) → ((d : OnePort) (line : ℕ) → P d → Q (symbol_at line d)) → (d : OnePort) (ds : List OnePort) → All P (d ∷ ds) → (line : ℕ)
    → All Q (port_symbols (filter is_out (placed_port line d ∷ placed_ports line ds)))
led_symbols P Q h d [] all line = led_one P Q h d [] line (All-head P d [] all) (All-nil Q)
led_symbols P Q h d (e ∷ es) all line =
    led_one P Q h d (e ∷ es) line (All-head P d (e ∷ es) all) (led_symbols P Q h e es (All-tail P d (e ∷ es) all) (line_behind line))

abbrev output_symbols : ℕ → Fsm → List Symbol
output_symbols line f = port_symbols (filter is_out (placed_entity line (outline f.name f.ports)).ports)

entity_symbols : (P : OnePort → Type 0) (Q : Symbol → Type 0) → ((d : OnePort) (line : ℕ) → P d → Q (symbol_at line d)) → (line : ℕ) (f : Fsm) → Sound f.ports → All P (map declared (grouped f.ports))
    → All Q (output_symbols line f)
entity_symbols P Q h line f sound all =
    let ds = map declared (grouped f.ports) in
    led_symbols P Q h (outline_of f.name ds).first (outline_of f.name ds).others (subst (All P) (sym (outline_ports f.name ds (some_groups f.ports sound.some))) all) (line_behind (line_behind line))

bit_symbol : (t : List ℕ) (d : OnePort) (line : ℕ) → (d.name ≡ t → d.bounds ≡ None) → IsBit t (symbol_at line d)
bit_symbol t d line h is = ap (λ (o : Option Bounds). (placed_type line o).range) (h is)

-- ---- scalar ports

in_cons : {A : Type 0} (x y : A) (xs : List A) → In x (y ∷ xs) → (x ≡ y) ⊎ In x xs
in_cons x y xs here = inl refl
in_cons x y xs (there i) = inr i

no_bit : (text : List ℕ) (d : Dir) (p : Port) (ks : List ℕ) → In p (map (λ k. one_port text d (Some k)) ks) → p.name.bit ≡ None → ⊥
no_bit text d p [] i none = elim i [ ]
no_bit text d p (k ∷ ks) i none = elim (in_cons p (one_port text d (Some k)) (map (λ k. one_port text d (Some k)) ks) i) [
  | inl e ↦ let never : Some k ≡ None = sym (ap (λ (q : Port). q.name.bit) e) ∙ none in absurd cc
  | inr j ↦ no_bit text d p ks j none
]

-- a scalar port of a group is all of it
scalar_of : (g : Group) (p : Port) → In p (group_ports g) → p.name.bit ≡ None → (g.text ≡ p.name.text) × (bounds_of g.low g.high ≡ None)
scalar_of g p i none = by (bounds_of g.low g.high) i where
  alone : In p (one_port g.text g.dir None ∷ []) → g.text ≡ p.name.text
  alone j = elim (in_cons p (one_port g.text g.dir None) [] j) [ inl e ↦ sym (ap (λ (q : Port). q.name.text) e) | inr k ↦ absurd (elim k [ ]) ]

  by : (o : Option Bounds) → In p (bound_ports g.text g.dir o) → (g.text ≡ p.name.text) × (o ≡ None)
  by None j = (alone j, refl)
  by (Some b) j = absurd (no_bit g.text g.dir p (rising b.right (b.left + 1 - b.right)) j none)

in_flat : {X Y : Type 0} (g : X → List Y) (xs : List X) (y : Y) → In y (flat_map g xs) → (x : X) × In x xs × In y (g x)
in_flat g [] y i = elim i [ ]
in_flat g (x ∷ xs) y i = elim (In-split y (g x) (flat_map g xs) i) [
  | inl j ↦ (x, here, j)
  | inr j ↦ let r = in_flat g xs y j in (r.0, there r.1, r.2)
]

-- of ports with names apart those of one name are one
apart_same : (ds : List OnePort) → AreApart ds → (d e : OnePort) → In d ds → In e ds → d.name ≡ e.name → d ≡ e
apart_same (x ∷ ds) a d e here here same = refl
apart_same (x ∷ ds) a d e here (there j) same = absurd (all_in (λ (q : OnePort). x.name ≡ q.name → ⊥) ds a.0 e j same)
apart_same (x ∷ ds) a d e (there i) here same = absurd (all_in (λ (q : OnePort). x.name ≡ q.name → ⊥) ds a.0 d i (sym same))
apart_same (x ∷ ds) a d e (there i) (there j) same = apart_same ds a.1 d e i j same
apart_same [] a d e i j same = elim i [ ]

-- declared ports of a scalar port's text have no bounds
scalar_declared : (f : Fsm) → Sound f.ports → (p : Port) → In p f.ports → p.name.bit ≡ None → All (λ d. d.name ≡ p.name.text → d.bounds ≡ None) (map declared (grouped f.ports))
scalar_declared f sound p i none =
    let ds = map declared (grouped f.ports) in
    let at = in_flat group_ports (grouped f.ports) p (subst (λ (ps : List Port). In p ps) (sym (ports_again f.ports sound.chain)) i) in
    let is = scalar_of at.0 p at.2 none in
    all_by (λ (d : OnePort). d.name ≡ p.name.text → d.bounds ≡ None) ds
    (λ d j same. ap (λ (x : OnePort). x.bounds) (apart_same ds (groups_apart f.ports sound.chain) d (declared at.0) j (In-map declared at.0 (grouped f.ports) at.1) (same ∙ sym is.0)) ∙ is.1)

got : (xs : List Name) (d : Name) (k : ℕ) → k < length xs → In (get_or xs k d) xs
got [] d k l = absurd (omega (arith, l))
got (x ∷ xs) d zero l = here
got (x ∷ xs) d (suc k) l = there (got xs d k (omega (arith, l)))

-- the names of these are those of some
abbrev IsNameOf : List Port → Name → Type 0
IsNameOf ps n = (p : Port) × In p ps × (p.name ≡ n)

from_port : (n : Name) (ps : List Port) → In n (names_of (filter (λ p. not (is_input p.dir)) ps)) → IsNameOf ps n
from_port n [] i = elim i [ ]
from_port n (p ∷ ps) i = by (from_port n ps) (not (is_input p.dir)) i where
  by : (In n (names_of (filter (λ p. not (is_input p.dir)) ps)) → IsNameOf ps n) → (b : Bool)
      → In n (names_of (if b then p ∷ filter (λ p. not (is_input p.dir)) ps else filter (λ p. not (is_input p.dir)) ps)) → IsNameOf (p ∷ ps) n
  by later false j = let r = later j in (r.0, there r.1, r.2)
  by later true j = elim (in_cons n p.name (names_of (filter (λ p. not (is_input p.dir)) ps)) j) [
    | inl e ↦ (p, here, sym e)
    | inr k ↦ let r = later k in (r.0, there r.1, r.2)
  ]

-- a bit of the outputs is a port's name
output_port : (f : Fsm) (n : Name) → Contains (fsm_outputs f) n → IsNameOf f.ports n
output_port f n c = from_port n f.ports (subst (λ (x : Name). In x (fsm_outputs f)) c.2 (got (fsm_outputs f) n c.0 c.1))

-- ---- what is counted

abbrev pub counted_here : Words → ℕ → Fsm → List Symbol
counted_here w line f = counted_symbols (placed_entity line (outline f.name f.ports)) (Some w.next)

-- the symbol of the next state, where there is one
next_all : (Q : Symbol → Type 0) (known : List Symbol) (t : List ℕ) → ((s : Symbol) → s.text ≡ t → s.range ≡ None → Q s) → All Q (next_symbols known (Some t))
next_all Q known t h = by (is_none (find known t)) where
  own : Symbol
  own = record { text = t; role = role.Inner; range = None; line = 0 }

  by : (b : Bool) → All Q (if b then own ∷ [] else [])
  by true = All-cons Q own [] (h own refl refl) (All-nil Q)
  by false = All-nil Q

all_counted : (Q : Symbol → Type 0) (w : Words) (line : ℕ) (f : Fsm) → All Q (output_symbols line f) → ((s : Symbol) → s.text ≡ w.next → s.range ≡ None → Q s) → All Q (counted_here w line f)
all_counted Q w line f outputs next = All-append Q (output_symbols line f) (next_symbols (output_symbols line f) (Some w.next)) outputs (next_all Q (output_symbols line f) w.next next)

-- no declared port has a text that no port has
declared_apart : (f : Fsm) (t : List ℕ) → ((p : Port) → In p f.ports → p.name.text ≡ t → ⊥) → All (λ d. d.name ≡ t → ⊥) (map declared (grouped f.ports))
declared_apart f t apart =
    All-map (λ (d : OnePort). d.name ≡ t → ⊥) declared (grouped f.ports) (texts_all (λ (u : List ℕ). u ≡ t → ⊥) f.ports (all_by (λ (p : Port). p.name.text ≡ t → ⊥) f.ports apart))

pub are_own : (w : Words) (line : ℕ) (f : Fsm) → Sound f.ports → ((p : Port) → In p f.ports → p.name.text ≡ w.next → ⊥) → AreOwn (counted_here w line f) w f
are_own w line f sound next_apart = record {
  outputs = λ n c. own_of (counted_here w line f) n
      (λ none. (let r = output_port f n c in
      let bare : r.0.name.bit ≡ None = ap (λ (x : Name). x.bit) r.2 ∙ none in
      let text : r.0.name.text ≡ n.text = ap (λ (x : Name). x.text) r.2 in
      all_counted (IsBit n.text) w line f
      (entity_symbols (λ (d : OnePort). d.name ≡ n.text → d.bounds ≡ None) (IsBit n.text) (bit_symbol n.text) line f sound
      (subst (λ (t : List ℕ). All (λ (d : OnePort). d.name ≡ t → d.bounds ≡ None) (map declared (grouped f.ports))) text (scalar_declared f sound r.0 r.1 bare)))
      (λ s is range same. range)));
  next = own_of (counted_here w line f) (scalar w.next)
      (λ none. all_counted (IsBit w.next) w line f
      (entity_symbols (λ (d : OnePort). d.name ≡ w.next → ⊥) (IsBit w.next) (λ d l no is. absurd (no is)) line f sound (declared_apart f w.next next_apart))
      (λ s is range same. range));
}

-- the signal of the current state isn't counted
pub current_uncounted : (w : Words) (line : ℕ) (f : Fsm) → Sound f.ports → ((p : Port) → In p f.ports → p.name.text ≡ w.current → ⊥) → (w.current ≡ w.next → ⊥)
    → find (counted_here w line f) w.current ≡ None
current_uncounted w line f sound apart differ =
    none_found (counted_here w line f) w.current
    (all_counted (λ (s : Symbol). s.text ≡ w.current → ⊥) w line f
    (entity_symbols (λ (d : OnePort). d.name ≡ w.current → ⊥) (λ (s : Symbol). s.text ≡ w.current → ⊥) (λ d l no. no) line f sound (declared_apart f w.current apart))
    (λ s is range same. differ (sym same ∙ is)))
