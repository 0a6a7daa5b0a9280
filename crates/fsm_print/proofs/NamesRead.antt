-- The names of the text of a state machine, as its checks look at them: inputs that are read, the clock, and the two signals.
use Rattle.std.proofs.Common.{◌≡◌, ℕ, Bool, true, false, not, List, [], ◌∷◌, map, filter, bytes_eq, is_none, slice_index, codes, Option, None, Some, refl, sym, ap, subst, ◌∙◌, arith}
use Rattle.std.proofs.lemmas.Slice.Eq.{bytes_eq-Decides}
use Rattle.std.proofs.lemmas.Option.{get_or_from_slice_get, slice_get_within}
use Rattle.std.proofs.lemmas.List.Elements.{All-head}
use Rattle.vlsi_base.specs.declared.name.Name.{Name}
use Rattle.vlsi_base.specs.declared.name.Port.{Port}
use Rattle.vlsi_base.specs.declared.name.Dir.{Dir}
use Rattle.vlsi_base.specs.declared.name.Dir.TheVariants as dir
use Rattle.vlsi_base.specs.declared.range.Range.{Range}
use Rattle.vlsi_base.specs.declared.entity.PortGroup.{PortGroup}
use Rattle.vlsi_base.specs.Member.{In, here, there, AllDifferent}
use Rattle.vlsi_base.specs.Name.{is_supply}
use Rattle.vlsi_base.specs.Names.{scalar}
use Rattle.vlsi_base.specs.Tree.{name}
use Rattle.machine_core.specs.Named.{is_same_name}
use Rattle.machine_core.specs.Machine.{is_input, names_of}
use Rattle.machine_core.proofs.Names.{same_name-itself}
use Rattle.machine_core.proofs.Values.{In-right, In-map}
use Rattle.source_checks.specs.declared.symbol_table.Role.TheVariants as role
use Rattle.source_checks.specs.declared.symbol_table.Symbol.{Symbol}
use Rattle.source_checks.specs.Symbols.{find, role_of_mode}
use Rattle.source_checks.specs.Clock.{may_clock, clock_lines}
use Rattle.source_checks.specs.Formula.{place}
use Rattle.vlsi_model.proofs.Members.{In-map_back, different_left}
use Rattle.vlsi_model.proofs.Numbering.{place_of_at}
use Rattle.vlsi_model.proofs.PortBits.{In-filter, filter-In}
use Rattle.vhdl_print.specs.Outline.{Bounds, placed_port, placed_ports}
use Rattle.vst_print.specs.Groups.{Group, grouped, mode_of, bounds_of, declared, outline_of}
use Rattle.vst_print.proofs.Grouped.{group_ports, ports_again}
use Rattle.vbe_print.specs.Expressions.{name_of}
use Rattle.vbe_laws.proofs.Plain.{LiesIn, IsDeclared}
use Rattle.vbe_laws.proofs.Guards.{IsClock}
use Rattle.vbe_laws.proofs.Declared.{in_flat, range_on, bit_of_group}
use Rattle.spell_theory.specs.Layout.{line_behind}
use Rattle.fsm_machine.specs.Fsm.{Fsm, fsm_inputs, fsm_outputs}
use Rattle.fsm_core.specs.Checked.{IsInput}
use Rattle.fsm_io.specs.Known.{symbols, is_clock_port}
use Rattle.fsm_print.specs.declared.words.Words.{Words}
use Rattle.fsm_print.specs.Written.{texts_of}
use Rattle.fsm_print.specs.Placed.{machine_of}
use Rattle.fsm_print.proofs.Declared.{Ready, sound_ports, current_added, next_added, further_texts, two_signals}
use Rattle.fsm_print.proofs.KnownRead.{InRole, group_differ, port_declared, inner_declared, further_no_port, contains_in, in_contains, port_named, output_declared, input_declared, port_free, leaf_named, names_differ, ports_line, further_differ}
use Rattle.fsm_print.proofs.Expressions.{IsReadName, IsReadInput}
use Rattle.fsm_print.proofs.Body.{itself, other, CanReadBody}
use Rattle.fsm_print.proofs.Quiet.{CanLook}
use Rattle.fsm_print.proofs.ClockRead.{CanClock}

-- ---- the clock

-- the clock's port, which is an input
record HasClock (f : Fsm) : Type 0 where
  port : Port
  listed : In port f.ports
  name : port.name ≡ f.clock
  input : port.dir ≡ dir.In

an_input : (x : Dir) → (not (is_input x) ≡ true → ⊥) → x ≡ dir.In
an_input dir.In h = refl
an_input dir.Out h = absurd (h refl)

has_clock : (w : Words) (f : Fsm) → Ready w f → HasClock f
has_clock w f r =
    let p = In-map_back (λ (q : Port). q.name) f.clock f.ports (contains_in (names_of f.ports) f.clock r.checked.clock) in
    let unobserved : not (is_input p.0.dir) ≡ true → ⊥ =
    λ e. r.checked.unobserved (in_contains (fsm_outputs f) f.clock
    (subst (λ (n : Name). In n (fsm_outputs f)) p.2 (In-map (λ (q : Port). q.name) p.0 (filter (λ q. not (is_input q.dir)) f.ports) (filter-In (λ q. not (is_input q.dir)) f.ports p.0 p.1 e)))) in
    record { port = p.0; listed = p.1; name = p.2; input = an_input p.0.dir unobserved }

none_lies : (o : Option Range) (b : Option ℕ) → LiesIn o b → b ≡ None → o ≡ None
none_lies None b h e = refl
none_lies (Some r) None h e = absurd h
none_lies (Some r) (Some k) h e = absurd cc

clocks_input : (x : Symbol) → x.role ≡ role.Input → x.range ≡ None → is_supply x.text ≡ false → may_clock (Some x) ≡ true
clocks_input x e f g = rw (e, f, g) refl

-- a name that is declared as the clock is
clock_is : (w : Words) (f : Fsm) → Ready w f → InRole (symbols (machine_of w f)) role.Input f.clock
clock_is w f r =
    let c = has_clock w f r in
    let d = port_declared w f r c.port c.listed in
    subst (λ (n : Name). InRole (symbols (machine_of w f)) role.Input n) c.name (record { declared = d.declared; role = d.role ∙ input c.port.dir c.input }) where
      input : (x : Dir) → x ≡ dir.In → role_of_mode (mode_of x) ≡ role.Input
      input x e = ap (λ (y : Dir). role_of_mode (mode_of y)) e

clock_free : (w : Words) (f : Fsm) → Ready w f → is_supply f.clock.text ≡ false
clock_free w f r = let c = has_clock w f r in ap (λ (n : Name). is_supply n.text) (sym c.name) ∙ port_free w f r c.port c.listed

pub clock_declared : (w : Words) (f : Fsm) → Ready w f → IsClock (symbols (machine_of w f)) f.clock.text
clock_declared w f r =
    let d = clock_is w f r in
    let x = d.declared.symbol in
    let range = none_lies x.range f.clock.bit d.declared.lies r.checked.scalar in
    record {
      symbol = x;
      found = d.declared.found;
      scalar = range;
      clocks = ap may_clock d.declared.found ∙ clocks_input x d.role range (ap is_supply d.declared.text ∙ clock_free w f r);
    }

-- ---- names that are read

-- two names that are declared with one text, where the one has no bit
alone : (known : List Symbol) (a b : Name) → IsDeclared known a → IsDeclared known b → a.text ≡ b.text → a.bit ≡ None → b.bit ≡ None
alone known a b p q same none =
    let one : Some p.symbol ≡ Some q.symbol = sym p.found ∙ ap (find known) same ∙ q.found in
    let symbol : p.symbol ≡ q.symbol = cc in
    by p.symbol.range a.bit b.bit p.lies (subst (λ (x : Symbol). LiesIn x.range b.bit) (sym symbol) q.lies) none where
      by : (o : Option Range) (x y : Option ℕ) → LiesIn o x → LiesIn o y → x ≡ None → y ≡ None
      by None x None h g e = refl
      by None x (Some k) h g e = absurd g
      by (Some r) None y h g e = absurd h
      by (Some r) (Some j) y h g e = absurd cc

name_is : (a b : Name) → a.text ≡ b.text → a.bit ≡ None → b.bit ≡ None → b ≡ a
name_is a b text x y = ap (λ (t : List ℕ). make t b.bit) (sym text) ∙ ap (make a.text) (y ∙ sym x) where
  make : List ℕ → Option ℕ → Name
  make t o = record { text = t; bit = o }

-- a read of another name than the clock
other_read : (clock text : List ℕ) (line : ℕ) → (clock ≡ text → ⊥) → clock_lines (Some clock) (name text line) ≡ []
other_read clock text line apart = rw (other clock text apart) refl

input_read : (w : Words) (f : Fsm) → Ready w f → (n : Name) → In n (fsm_inputs f) → IsReadName (symbols (machine_of w f)) f.clock.text n
input_read w f r n h =
    let i = In-filter (λ name. not (is_same_name f.clock name)) (names_of (filter (λ p. is_input p.dir) f.ports)) n h in
    let d = input_declared w f r n i.0 in
    let q = port_named f (λ p. is_input p.dir) n i.0 in
    let free : is_supply n.text ≡ false = ap (λ (x : Name). is_supply x.text) (sym q.3) ∙ port_free w f r q.0 q.1 in
    let c = (clock_is w f r).declared in
    record {
      readable = record {
        declared = d.declared;
        leaf_is = leaf_named n free;
        other = λ line. other_read f.clock.text n.text line (λ same. apart i.1 (name_is f.clock n same r.checked.scalar (alone (symbols (machine_of w f)) f.clock n c d.declared same r.checked.scalar)));
      };
      input = d.role;
    } where
      apart : not (is_same_name f.clock n) ≡ true → n ≡ f.clock → ⊥
      apart e same =
          let yes : is_same_name f.clock n ≡ true = ap (is_same_name f.clock) same ∙ same_name-itself f.clock in
          let never : false ≡ true = sym (ap not yes) ∙ e in absurd cc

pub inputs_read : (w : Words) (f : Fsm) → Ready w f → (k : ℕ) → IsInput f k → IsReadInput (symbols (machine_of w f)) f.clock.text w.vars k
inputs_read w f r k i =
    let names = names_of f.ports in
    let is : name_of w.vars k ≡ i.name = ap (λ (ns : List Name). name_of ns k) r.words.vars ∙ get_or_from_slice_get names k i.name (scalar []) i.is in
    let n = input_read w f r i.name (contains_in (fsm_inputs f) i.name i.input) in
    record {
      name = subst (λ (x : Name). IsReadName (symbols (machine_of w f)) f.clock.text x) (sym is) n;
      again = ap (λ (ns : List Name). place ns (name_of ns k)) r.words.vars ∙ place_of_at names k (scalar []) (names_differ f r.checked.ports) (slice_get_within names k i.name i.is);
    }

-- ---- what statements are read by

type_text : (w : Words) → In w.type_name (further_texts w)
type_text w = here

current_text : (w : Words) → In w.current (further_texts w)
current_text w = there (In-right w.current (texts_of w.states) (w.current ∷ w.next ∷ []) here)

next_text : (w : Words) → In w.next (further_texts w)
next_text w = there (In-right w.next (texts_of w.states) (w.current ∷ w.next ∷ []) (there here))

output_other : (w : Words) (f : Fsm) → Ready w f → (n : Name) → In n (fsm_outputs f) → bytes_eq n.text w.next ≡ false
output_other w f r n h =
    let q = port_named f (λ p. not (is_input p.dir)) n h in
    other n.text w.next (λ e. further_no_port w f r w.next (next_text w) q.0 q.1 (ap (λ (x : Name). x.text) q.3 ∙ e))

pub can_read : (w : Words) (f : Fsm) → Ready w f → CanReadBody (symbols (machine_of w f)) f.clock.text w f
can_read w f r = record {
  inputs = inputs_read w f r;
  outputs = output_declared w f r;
  others = output_other w f r;
  states = different_left (texts_of w.states) (w.current ∷ w.next ∷ []) (further_differ w f r).1;
}

pub current_is : (w : Words) (f : Fsm) → Ready w f → InRole (symbols (machine_of w f)) role.Inner (scalar w.current)
current_is w f r = inner_declared w f r w.current (current_text w)

pub next_is : (w : Words) (f : Fsm) → Ready w f → InRole (symbols (machine_of w f)) role.Inner (scalar w.next)
next_is w f r = inner_declared w f r w.next (next_text w)

pub can_look : (w : Words) (f : Fsm) → Ready w f → CanLook (symbols (machine_of w f)) f.clock.text w f
can_look w f r = record { body = can_read w f r; current = ap is_none (current_is w f r).declared.found; next = ap is_none (next_is w f r).declared.found }

pub signals_apart : (w : Words) (f : Fsm) → Ready w f → bytes_eq w.current w.next ≡ false
signals_apart w f r = other w.current w.next (All-head (λ (u : List ℕ). w.current ≡ u → ⊥) w.next [] (two_signals w f r).0)

pub can_clock : (w : Words) (f : Fsm) → Ready w f → CanClock (symbols (machine_of w f)) f.clock.text w
can_clock w f r = record { clock = clock_declared w f r; current = current_is w f r; next = next_is w f r; apart = signals_apart w f r }

-- ---- the two signals are no supplies

-- a text that begins with another byte than vdd and vss
other_byte : (t : List ℕ) (byte : ℕ) → slice_index t 0 ≡ byte → (byte ≡ 118 → ⊥) → is_supply t ≡ false
other_byte t byte begins apart = by (bytes_eq t (codes "vdd")) (bytes_eq t (codes "vss")) refl refl where
  first : (u : List ℕ) → slice_index u 0 ≡ 118 → t ≡ u → ⊥
  first u e same = apart (sym begins ∙ ap (λ (x : List ℕ). slice_index x 0) same ∙ e)

  by : (a b : Bool) → bytes_eq t (codes "vdd") ≡ a → bytes_eq t (codes "vss") ≡ b → is_supply t ≡ false
  by true b e f = absurd (first (codes "vdd") refl ((bytes_eq-Decides t (codes "vdd")).0 e))
  by false true e f = absurd (first (codes "vss") refl ((bytes_eq-Decides t (codes "vss")).0 f))
  by false false e f = rw (e, f) refl

pub current_free : (w : Words) (f : Fsm) → Ready w f → is_supply w.current ≡ false
current_free w f r = other_byte w.current 99 (current_added w f r).begins (λ e. absurd (omega (arith, e)))

pub next_free : (w : Words) (f : Fsm) → Ready w f → is_supply w.next ≡ false
next_free w f r = other_byte w.next 110 (next_added w f r).begins (λ e. absurd (omega (arith, e)))

-- ---- the clock's declaration

-- the declaration of an input of one bit is that of a clock
clock_port : (line : ℕ) (g : Group) (rest : List PortGroup) (t : List ℕ) → g.text ≡ t → g.dir ≡ dir.In → bounds_of g.low g.high ≡ None → is_supply t ≡ false
    → is_clock_port (placed_port line (declared g) ∷ rest) t ≡ true
clock_port line g rest t text input bounds free =
    let same : bytes_eq g.text t ≡ true = ap (λ (x : List ℕ). bytes_eq x t) text ∙ itself t in
    rw (same, input, bounds, free) refl

other_port : (line : ℕ) (g : Group) (rest : List PortGroup) (t : List ℕ) → bytes_eq g.text t ≡ false → is_clock_port rest t ≡ true → is_clock_port (placed_port line (declared g) ∷ rest) t ≡ true
other_port line g rest t apart later = rw (apart) later

clock_ports : (line : ℕ) (gs : List Group) (g : Group) (t : List ℕ) → AllDifferent (map (λ (x : Group). x.text) gs) → In g gs → g.text ≡ t → g.dir ≡ dir.In → bounds_of g.low g.high ≡ None → is_supply t ≡ false
    → is_clock_port (placed_ports line (map declared gs)) t ≡ true
clock_ports line (x ∷ gs) y t differ here text input bounds free = clock_port (line_behind line) x (placed_ports (line_behind line) (map declared gs)) t text input bounds free
clock_ports line (x ∷ gs) g t differ (there h) text input bounds free =
    other_port (line_behind line) x (placed_ports (line_behind line) (map declared gs)) t
    (other x.text t (λ e. differ.0 (subst (λ (u : List ℕ). In u (map (λ (y : Group). y.text) gs)) (text ∙ sym e) (In-map (λ (y : Group). y.text) g gs h))))
    (clock_ports (line_behind line) gs g t differ.1 h text input bounds free)
clock_ports line [] g t differ h text input bounds free = elim h [ ]

entity_clock : (line : ℕ) (entity : List ℕ) (gs : List Group) (g : Group) (t : List ℕ) → AllDifferent (map (λ (x : Group). x.text) gs) → In g gs → g.text ≡ t → g.dir ≡ dir.In → bounds_of g.low g.high ≡ None → is_supply t ≡ false
    → is_clock_port (placed_port line (outline_of entity (map declared gs)).first ∷ placed_ports line (outline_of entity (map declared gs)).others) t ≡ true
entity_clock line entity [] g t differ h text input bounds free = elim h [ ]
entity_clock line entity (x ∷ gs) y t differ here text input bounds free = clock_port line x (placed_ports line (map declared gs)) t text input bounds free
entity_clock line entity (x ∷ gs) g t differ (there h) text input bounds free =
    other_port line x (placed_ports line (map declared gs)) t
    (other x.text t (λ e. differ.0 (subst (λ (u : List ℕ). In u (map (λ (y : Group). y.text) gs)) (text ∙ sym e) (In-map (λ (y : Group). y.text) g gs h))))
    (clock_ports line gs g t differ.1 h text input bounds free)

no_bounds : (line : ℕ) (o : Option Bounds) (b : Option ℕ) → LiesIn (range_on line o) b → b ≡ None → o ≡ None
no_bounds line None b h e = refl
no_bounds line (Some x) None h e = absurd h
no_bounds line (Some x) (Some k) h e = absurd cc

pub clock_found : (w : Words) (f : Fsm) → Ready w f → is_clock_port (machine_of w f).entity.ports f.clock.text ≡ true
clock_found w f r =
    let c = has_clock w f r in
    let p = c.port in
    let g = in_flat group_ports (grouped f.ports) p (subst (λ (ps : List Port). In p ps) (sym (ports_again f.ports (sound_ports w f r).chain)) c.listed) in
    let b = bit_of_group g.0 p ports_line g.2 in
    let none : p.name.bit ≡ None = ap (λ (n : Name). n.bit) c.name ∙ r.checked.scalar in
    entity_clock ports_line f.name (grouped f.ports) g.0 f.clock.text (group_differ w f r) g.1 (b.text ∙ ap (λ (n : Name). n.text) c.name) (b.dir ∙ c.input)
    (no_bounds ports_line (bounds_of g.0.low g.0.high) p.name.bit b.lies none) (clock_free w f r)
