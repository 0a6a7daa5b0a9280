-- What the text of a state machine declares: its ports, the type with its states, and the two signals, each name once.
use Rattle.std.proofs.Common.{◌≡◌, inl, inr, ℕ, Bool, true, false, not, ◌||◌, List, [], ◌∷◌, ◌++◌, map, filter, Option, None, Some, bytes_eq, codes, get_or, refl, sym, ap, subst, ◌∙◌}
use Rattle.std.specs.List.{All, Contains}
use Rattle.std.proofs.lemmas.List.{map-append}
use Rattle.std.proofs.lemmas.List.Elements.{All-head, All-tail}
use Rattle.std.proofs.lemmas.Slice.Eq.{bytes_eq-Decides}
use Rattle.std.specs.Ordering.{ordering_reverse}
use Rattle.std.specs.declared.cmp.Ordering.TheVariants.{Less, Greater}
use Rattle.std.specs.List.Sorted.{IsPermutation}
use Rattle.vlsi_base.specs.Name.{is_supply, name_cmp}
use Rattle.vlsi_base.specs.Range.{range_bits}
use Rattle.vlsi_base.proofs.NameOrder.{name_total}
use Rattle.machine_core.specs.Checked.{AreInOrder, IsNoSupply}
use Rattle.source_checks.specs.Formula.{leaf, named as named_as}
use Rattle.source_checks.specs.Elaboration.{port_bits}
use Rattle.vlsi_base.specs.declared.name.Name.{Name}
use Rattle.vlsi_base.specs.declared.name.Port.{Port}
use Rattle.vlsi_base.specs.declared.name.Dir.{Dir}
use Rattle.vlsi_base.specs.declared.name.Dir.TheVariants as dir
use Rattle.vlsi_base.specs.declared.range.Range.{Range}
use Rattle.vlsi_base.specs.declared.entity.NewName.{NewName}
use Rattle.vlsi_base.specs.Member.{In, here, there, AllDifferent}
use Rattle.vlsi_base.specs.Names.{scalar}
use Rattle.machine_core.specs.Machine.{is_input, names_of}
use Rattle.machine_core.proofs.Values.{In-split, In-left, In-right, In-map}
use Rattle.source_checks.specs.declared.symbol_table.Role.{Role}
use Rattle.source_checks.specs.declared.symbol_table.Role.TheVariants as role
use Rattle.source_checks.specs.declared.symbol_table.Symbol.{Symbol}
use Rattle.source_checks.specs.Symbols.{find, bit_name, names_in, symbol_names, all_names, role_of_mode}
use Rattle.vlsi_model.proofs.Members.{In-cases, In-map_back, different_append, different_Sub}
use Rattle.vlsi_model.proofs.Bits.{texts, in_found, found_in, has-range, different_bits}
use Rattle.vlsi_model.proofs.PortBits.{role_of_dir, port_is, is_port_bit, ports_sub, In-filter, filter-In}
use Rattle.vlsi_model.proofs.Sorting.{In-at, place_of_In, different_from_pairs, permutation_same}
use Rattle.spell_theory.specs.Layout.{line_behind}
use Rattle.vst_print.specs.Groups.{Group, grouped, mode_of, declared}
use Rattle.vst_print.proofs.Runs.{some_groups}
use Rattle.vst_print.proofs.Entries.{Entry, Differs, AreDifferent, port_entry}
use Rattle.vst_print.proofs.Grouped.{group_ports, ports_again, groups_differ}
use Rattle.vst_print.proofs.Names.{AllApart, texts_all}
use Rattle.vbe_print.proofs.Known.{all_in, all_by}
use Rattle.vbe_laws.proofs.Plain.{LiesIn, IsDeclared}
use Rattle.vbe_laws.proofs.Declared.{in_flat, flat_in, bit_of_group, bit_in_group, port_symbol, on_lines, entity_symbols, in_lines, from_lines, texts_on}
use Rattle.fsm_machine.specs.Fsm.{Fsm, fsm_outputs}
use Rattle.fsm_io.specs.Known.{symbols, inner_symbols}
use Rattle.fsm_print.specs.declared.words.Words.{Words}
use Rattle.fsm_print.specs.Written.{texts_of}
use Rattle.fsm_print.specs.Placed.{named_at, first_line, type_line, machine_of}
use Rattle.fsm_print.proofs.Declared.{Ready, sound_ports, type_added, current_added, next_added, further_texts, further_apart, added_no_port}

-- ---- the symbols of the text

abbrev pub ports_line : ℕ
ports_line = line_behind (line_behind first_line)

abbrev pub port_part : Fsm → List Symbol
port_part f = on_lines port_symbol ports_line (grouped f.ports)

abbrev pub state_part : ℕ → Words → List Symbol
state_part line w = inner_symbols line (named_at line w.type_name ∷ map (λ (n : Name). named_at line n.text) w.states)

abbrev pub signal_part : ℕ → Words → List Symbol
signal_part line w = inner_symbols line (named_at line w.current ∷ named_at line w.next ∷ [])

abbrev pub inner_part : Words → Fsm → List Symbol
inner_part w f = state_part (type_line f) w ++ signal_part (line_behind (type_line f)) w

abbrev pub symbols_of : Words → Fsm → List Symbol
symbols_of w f = port_part f ++ inner_part w f

pub symbols_are : (w : Words) (f : Fsm) → Ready w f → symbols (machine_of w f) ≡ symbols_of w f
symbols_are w f r = ap (λ (xs : List Symbol). xs ++ inner_part w f) (entity_symbols ports_line f.name (grouped f.ports) (some_groups f.ports (sound_ports w f r).some))

-- ---- their texts differ

states_texts : (line : ℕ) (ns : List Name) → texts (inner_symbols line (map (λ (n : Name). named_at line n.text) ns)) ≡ texts_of ns
states_texts line [] = refl
states_texts line (n ∷ ns) = ap (λ (ts : List (List ℕ)). n.text ∷ ts) (states_texts line ns)

inner_texts : (w : Words) (f : Fsm) → texts (inner_part w f) ≡ further_texts w
inner_texts w f =
    map-append (λ (s : Symbol). s.text) (state_part (type_line f) w) (signal_part (line_behind (type_line f)) w)
    ∙ ap (λ (ts : List (List ℕ)). w.type_name ∷ ts ++ (w.current ∷ w.next ∷ [])) (states_texts (type_line f) w.states)

port_texts : (f : Fsm) → texts (port_part f) ≡ map (λ (g : Group). g.text) (grouped f.ports)
port_texts f = texts_on port_symbol (λ (g : Group). g.text) (λ l g. refl) ports_line (grouped f.ports)

key_apart : (t : List ℕ) (es : List Entry) → Differs t es → In t (map (λ e. e.key) es) → ⊥
key_apart t [] d h = elim h [ ]
key_apart t (e ∷ es) d h = elim (In-cases t e.key (map (λ (x : Entry). x.key) es) h) [
  | inl same ↦ All-head (λ (f : Entry). t ≡ f.key → ⊥) e es d (sym same)
  | inr g ↦ key_apart t es (All-tail (λ (f : Entry). t ≡ f.key → ⊥) e es d) g
]

keys_differ : (es : List Entry) → AreDifferent es → AllDifferent (map (λ e. e.key) es)
keys_differ [] d = tt
keys_differ (e ∷ es) d = (key_apart e.key es d.0, keys_differ es d.1)

group_texts : (gs : List Group) → map (λ e. e.key) (map port_entry (map declared gs)) ≡ map (λ (g : Group). g.text) gs
group_texts [] = refl
group_texts (g ∷ gs) = ap (λ (ts : List (List ℕ)). g.text ∷ ts) (group_texts gs)

text_apart : (t : List ℕ) (ts : List (List ℕ)) → All (λ u. t ≡ u → ⊥) ts → In t ts → ⊥
text_apart t ts all h = all_in (λ (u : List ℕ). t ≡ u → ⊥) ts all t h refl

pub apart_differ : (ts : List (List ℕ)) → AllApart ts → AllDifferent ts
apart_differ [] a = tt
apart_differ (t ∷ ts) a = (text_apart t ts a.0, apart_differ ts a.1)

-- the text of a group is that of a port
abbrev IsPortText : Fsm → List ℕ → Type 0
IsPortText f t = (p : Port) × In p f.ports × (p.name.text ≡ t)

group_port : (f : Fsm) (t : List ℕ) → In t (map (λ (g : Group). g.text) (grouped f.ports)) → IsPortText f t
group_port f t h =
    let g = In-map_back (λ (g : Group). g.text) t (grouped f.ports) h in
    let all = texts_all (IsPortText f) f.ports (all_by (λ (p : Port). IsPortText f p.name.text) f.ports (λ p i. (p, i, refl))) in
    subst (IsPortText f) g.2 (all_in (λ (x : Group). IsPortText f x.text) (grouped f.ports) all g.0 g.1)

-- none of the further texts is a port's
pub further_no_port : (w : Words) (f : Fsm) → Ready w f → (t : List ℕ) → In t (further_texts w) → (p : Port) → In p f.ports → p.name.text ≡ t → ⊥
further_no_port w f r t h p i e = elim (In-cases t w.type_name (texts_of w.states ++ (w.current ∷ w.next ∷ [])) h) [
  | inl a ↦ added_no_port f 115 w.type_name (type_added w f r) p i (e ∙ sym a)
  | inr b ↦ elim (In-split t (texts_of w.states) (w.current ∷ w.next ∷ []) b) [
    | inl c ↦
        let n = In-map_back (λ (n : Name). n.text) t w.states c in
        r.named.apart p n.0 i (subst (λ (ns : List Name). In n.0 ns) r.words.states n.1) (e ∙ sym n.2)
    | inr d ↦ elim (In-cases t w.current (w.next ∷ []) d) [
      | inl a ↦ added_no_port f 99 w.current (current_added w f r) p i (e ∙ sym a)
      | inr g ↦ elim (In-cases t w.next [] g) [
        | inl a ↦ added_no_port f 110 w.next (next_added w f r) p i (e ∙ sym a)
        | inr j ↦ absurd (elim j [ ])
      ]
    ]
  ]
]

pub group_differ : (w : Words) (f : Fsm) → Ready w f → AllDifferent (map (λ (g : Group). g.text) (grouped f.ports))
group_differ w f r =
    subst (λ (ts : List (List ℕ)). AllDifferent ts) (group_texts (grouped f.ports)) (keys_differ (map port_entry (map declared (grouped f.ports))) (groups_differ f.ports (sound_ports w f r).chain))

pub further_differ : (w : Words) (f : Fsm) → Ready w f → AllDifferent (further_texts w)
further_differ w f r = apart_differ (further_texts w) (further_apart w f r)

differ_here : (w : Words) (f : Fsm) → Ready w f → AllDifferent (texts (symbols_of w f))
differ_here w f r =
    let split : texts (symbols_of w f) ≡ map (λ (g : Group). g.text) (grouped f.ports) ++ further_texts w =
    map-append (λ (s : Symbol). s.text) (port_part f) (inner_part w f) ∙ ap (λ (ts : List (List ℕ)). ts ++ texts (inner_part w f)) (port_texts f)
    ∙ ap (λ (ts : List (List ℕ)). map (λ (g : Group). g.text) (grouped f.ports) ++ ts) (inner_texts w f) in
    subst (λ (ts : List (List ℕ)). AllDifferent ts) (sym split)
    (different_append (map (λ (g : Group). g.text) (grouped f.ports)) (further_texts w)
    (group_differ w f r) (further_differ w f r)
    (λ t h g. let p = group_port f t h in further_no_port w f r t g p.0 p.1 p.2))

pub symbols_differ : (w : Words) (f : Fsm) → Ready w f → AllDifferent (texts (symbols (machine_of w f)))
symbols_differ w f r = subst (λ (known : List Symbol). AllDifferent (texts known)) (sym (symbols_are w f r)) (differ_here w f r)

-- ---- how names are declared

-- the name is declared in this role
pub record InRole (known : List Symbol) (r : Role) (n : Name) : Type 0 where
  pub declared : IsDeclared known n
  pub role : declared.symbol.role ≡ r

in_role : (known : List Symbol) → AllDifferent (texts known) → (s : Symbol) (n : Name) (r : Role) → In s known → s.text ≡ n.text → LiesIn s.range n.bit → s.role ≡ r → InRole known r n
in_role known different s n r listed text lies is = record {
  declared = record { symbol = s; found = ap (find known) (sym text) ∙ in_found known s different listed; text = text; lies = lies };
  role = is;
}

here_too : (w : Words) (f : Fsm) → Ready w f → (s : Symbol) → In s (symbols_of w f) → In s (symbols (machine_of w f))
here_too w f r s h = subst (λ (known : List Symbol). In s known) (sym (symbols_are w f r)) h

pub port_declared : (w : Words) (f : Fsm) → Ready w f → (p : Port) → In p f.ports → InRole (symbols (machine_of w f)) (role_of_mode (mode_of p.dir)) p.name
port_declared w f r p h =
    let g = in_flat group_ports (grouped f.ports) p (subst (λ (ps : List Port). In p ps) (sym (ports_again f.ports (sound_ports w f r).chain)) h) in
    let l = in_lines port_symbol ports_line (grouped f.ports) g.0 g.1 in
    let b = bit_of_group g.0 p l.0 g.2 in
    in_role (symbols (machine_of w f)) (symbols_differ w f r) (port_symbol l.0 g.0) p.name (role_of_mode (mode_of p.dir))
    (here_too w f r (port_symbol l.0 g.0) (In-left (port_symbol l.0 g.0) (port_part f) (inner_part w f) l.1))
    b.text b.lies (ap (λ (x : Dir). role_of_mode (mode_of x)) b.dir)

pub inner_all : (line : ℕ) (names : List NewName) (s : Symbol) → In s (inner_symbols line names) → (s.role ≡ role.Inner) × (s.range ≡ None)
inner_all line [] s h = elim h [ ]
inner_all line (n ∷ names) s here = (refl, refl)
inner_all line (n ∷ names) s (there h) = inner_all line names s h

pub inner_is : (w : Words) (f : Fsm) (s : Symbol) → In s (inner_part w f) → (s.role ≡ role.Inner) × (s.range ≡ None)
inner_is w f s h =
    let d = type_line f in
    let e = line_behind d in
    elim (In-split s (state_part d w) (signal_part e w) h) [
      | inl a ↦ inner_all d (named_at d w.type_name ∷ map (λ (n : Name). named_at d n.text) w.states) s a
      | inr b ↦ inner_all e (named_at e w.current ∷ named_at e w.next ∷ []) s b
    ]

none_lies : (o : Option Range) → o ≡ None → LiesIn o None
none_lies o e = subst (λ x. LiesIn x None) (sym e) tt

pub inner_declared : (w : Words) (f : Fsm) → Ready w f → (t : List ℕ) → In t (further_texts w) → InRole (symbols (machine_of w f)) role.Inner (scalar t)
inner_declared w f r t h =
    let s = In-map_back (λ (x : Symbol). x.text) t (inner_part w f) (subst (λ (ts : List (List ℕ)). In t ts) (sym (inner_texts w f)) h) in
    let is = inner_is w f s.0 s.1 in
    in_role (symbols (machine_of w f)) (symbols_differ w f r) s.0 (scalar t) role.Inner
    (here_too w f r s.0 (In-right s.0 (port_part f) (inner_part w f) s.1)) s.2 (none_lies s.0.range is.1) is.0

-- ---- kinds of names

pub contains_in : {X : Type 0} (xs : List X) (x : X) → Contains xs x → In x xs
contains_in {X} xs x c = subst (λ (y : X). In y xs) c.2 (In-at xs c.0 x c.1)

pub in_contains : {X : Type 0} (xs : List X) (x : X) → In x xs → Contains xs x
in_contains xs x h = let p = place_of_In xs x h in (p.0, p.1, p.2 x)

pub port_named : (f : Fsm) (p : Port → Bool) (n : Name) → In n (names_of (filter p f.ports)) → (q : Port) × In q f.ports × (p q ≡ true) × (q.name ≡ n)
port_named f p n h =
    let q = In-map_back (λ (x : Port). x.name) n (filter p f.ports) h in
    let k = In-filter p f.ports q.0 q.1 in
    (q.0, k.0, k.1, q.2)

out_role : (x : Dir) → not (is_input x) ≡ true → role_of_mode (mode_of x) ≡ role.Output
out_role dir.In e = absurd cc
out_role dir.Out e = refl

in_mode : (x : Dir) → is_input x ≡ true → role_of_mode (mode_of x) ≡ role.Input
in_mode dir.In e = refl
in_mode dir.Out e = absurd cc

pub output_declared : (w : Words) (f : Fsm) → Ready w f → (n : Name) → In n (fsm_outputs f) → InRole (symbols (machine_of w f)) role.Output n
output_declared w f r n h =
    let q = port_named f (λ p. not (is_input p.dir)) n h in
    let d = port_declared w f r q.0 q.1 in
    subst (λ (x : Name). InRole (symbols (machine_of w f)) role.Output x) q.3 (record { declared = d.declared; role = d.role ∙ out_role q.0.dir q.2 })

pub input_declared : (w : Words) (f : Fsm) → Ready w f → (n : Name) → In n (names_of (filter (λ p. is_input p.dir) f.ports)) → InRole (symbols (machine_of w f)) role.Input n
input_declared w f r n h =
    let q = port_named f (λ p. is_input p.dir) n h in
    let d = port_declared w f r q.0 q.1 in
    subst (λ (x : Name). InRole (symbols (machine_of w f)) role.Input x) q.3 (record { declared = d.declared; role = d.role ∙ in_mode q.0.dir q.2 })

-- ---- no port is a supply

name_free : (n : Name) → IsNoSupply n → is_supply n.text ≡ false
name_free n none = by (bytes_eq n.text (codes "vdd")) (bytes_eq n.text (codes "vss")) refl refl where
  by : (a b : Bool) → bytes_eq n.text (codes "vdd") ≡ a → bytes_eq n.text (codes "vss") ≡ b → is_supply n.text ≡ false
  by true b e f = absurd (none.0 ((bytes_eq-Decides n.text (codes "vdd")).0 e))
  by false true e f = absurd (none.1 ((bytes_eq-Decides n.text (codes "vss")).0 f))
  by false false e f = rw (e, f) refl

pub port_free : (w : Words) (f : Fsm) → Ready w f → (p : Port) → In p f.ports → is_supply p.name.text ≡ false
port_free w f r p h = name_free p.name (all_in IsNoSupply (names_of f.ports) r.checked.supplies p.name (In-map (λ (q : Port). q.name) p f.ports h))

pub leaf_named : (n : Name) → is_supply n.text ≡ false → leaf n ≡ named_as n
leaf_named n e = by (bytes_eq n.text (codes "vdd")) (bytes_eq n.text (codes "vss")) refl refl where
  by : (a b : Bool) → bytes_eq n.text (codes "vdd") ≡ a → bytes_eq n.text (codes "vss") ≡ b → leaf n ≡ named_as n
  by true b f g = let no : true ≡ false = sym (ap (λ x. x || bytes_eq n.text (codes "vss")) f) ∙ e in absurd cc
  by false true f g = let no : true ≡ false = sym (ap (λ x. x || bytes_eq n.text (codes "vss")) f ∙ g) ∙ e in absurd cc
  by false false f g = rw (f, g) refl

-- ---- the bits of what is declared

is_out_dir : (x : Dir) → role_of_mode (mode_of x) ≡ role.Output → not (is_input x) ≡ true
is_out_dir dir.In e = absurd cc
is_out_dir dir.Out e = refl

no_output : (x : Role) → x ≡ role.Inner → x ≡ role.Output → ⊥
no_output x e f = let no : role.Inner ≡ role.Output = sym e ∙ f in absurd cc

-- a bit of a group is a port
group_bit : (w : Words) (f : Fsm) → Ready w f → (line : ℕ) (g : Group) → In g (grouped f.ports) → (n : Name) → In n (symbol_names (port_symbol line g)) → In (record { name = n; dir = g.dir }) f.ports
group_bit w f r line g h n i =
    let p : Port = record { name = n; dir = g.dir } in
    subst (λ (ps : List Port). In p ps) (ports_again f.ports (sound_ports w f r).chain) (flat_in group_ports (grouped f.ports) g p h (bit_in_group g line n i))

-- each bit of what is an output is one of the outputs
pub output_bit : (w : Words) (f : Fsm) → Ready w f → (s : Symbol) → In s (symbols (machine_of w f)) → s.role ≡ role.Output → (n : Name) → In n (symbol_names s) → In n (fsm_outputs f)
output_bit w f r s h is n i = elim (In-split s (port_part f) (inner_part w f) (subst (λ (known : List Symbol). In s known) (symbols_are w f r) h)) [
  | inl a ↦
      let x = from_lines port_symbol ports_line (grouped f.ports) s a in
      let g = x.1 in
      let p : Port = record { name = n; dir = g.dir } in
      let listed = group_bit w f r x.0 g x.2 n (subst (λ (y : Symbol). In n (symbol_names y)) (sym x.3) i) in
      In-map (λ (q : Port). q.name) p (filter (λ q. not (is_input q.dir)) f.ports)
      (filter-In (λ q. not (is_input q.dir)) f.ports p listed (is_out_dir g.dir (ap (λ (y : Symbol). y.role) x.3 ∙ is)))
  | inr b ↦ absurd (no_output s.role (inner_is w f s b).0 is)
]

-- ---- the ports are those of the text

range_names : (text : List ℕ) (o : Option Range) (b : Option ℕ) → LiesIn o b → In (record { text = text; bit = b }) (names_in text o)
range_names text None None h = here
range_names text None (Some k) h = absurd h
range_names text (Some r) None h = absurd h
range_names text (Some r) (Some k) h = In-map (bit_name text) k (range_bits r) (has-range r k h)

role_dir : (x : Dir) → role_of_mode (mode_of x) ≡ role_of_dir x
role_dir dir.In = refl
role_dir dir.Out = refl

same_dir : (x y : Dir) → role_of_mode (mode_of x) ≡ role_of_dir y → x ≡ y
same_dir dir.In dir.In e = refl
same_dir dir.In dir.Out e = absurd cc
same_dir dir.Out dir.In e = absurd cc
same_dir dir.Out dir.Out e = refl

not_inner : (x : Dir) → role.Inner ≡ role_of_dir x → ⊥
not_inner dir.In e = absurd cc
not_inner dir.Out e = absurd cc

port_bit : (w : Words) (f : Fsm) → Ready w f → (p : Port) → In p f.ports → In p (port_bits (symbols (machine_of w f)))
port_bit w f r p h =
    let known = symbols (machine_of w f) in
    let d = port_declared w f r p h in
    let x = d.declared.symbol in
    is_port_bit known x p.name p.dir (found_in known p.name.text x d.declared.found)
    (subst (λ (t : List ℕ). In p.name (names_in t x.range)) (sym d.declared.text) (range_names p.name.text x.range p.name.bit d.declared.lies))
    (ap is_supply d.declared.text ∙ port_free w f r p h) (d.role ∙ role_dir p.dir)

bit_port : (w : Words) (f : Fsm) → Ready w f → (p : Port) → In p (port_bits (symbols (machine_of w f))) → In p f.ports
bit_port w f r p h =
    let b = port_is (symbols (machine_of w f)) p h in
    let x = b.symbol in
    elim (In-split x (port_part f) (inner_part w f) (subst (λ (known : List Symbol). In x known) (symbols_are w f r) b.declared)) [
      | inl a ↦
          let y = from_lines port_symbol ports_line (grouped f.ports) x a in
          let g = y.1 in
          let dir_is : g.dir ≡ p.dir = same_dir g.dir p.dir (ap (λ (z : Symbol). z.role) y.3 ∙ b.role) in
          let listed = group_bit w f r y.0 g y.2 p.name (subst (λ (z : Symbol). In p.name (symbol_names z)) (sym y.3) b.bit) in
          subst (λ (z : Dir). In (record { name = p.name; dir = z }) f.ports) dir_is listed
      | inr c ↦ absurd (not_inner p.dir (sym (inner_is w f x c).0 ∙ b.role))
    ]

-- items whose keys differ
different_unmapped : {X Y : Type 0} (f : X → Y) (xs : List X) → AllDifferent (map f xs) → AllDifferent xs
different_unmapped f [] d = tt
different_unmapped f (x ∷ xs) d = ((λ h. d.0 (In-map f x xs h)), different_unmapped f xs d.1)

in_order_differ : (names : List Name) → AreInOrder names → AllDifferent names
in_order_differ names order = different_from_pairs names (λ i j d l k e. apart (get_or names i d) (get_or names j d) (order i j d l k) e) where
  apart : (a b : Name) → name_cmp a b ≡ Less → a ≡ b → ⊥
  apart a b less e =
      let own : name_cmp a a ≡ Less = ap (name_cmp a) e ∙ less in
      let turned : Less ≡ Greater = sym own ∙ name_total.antisymm a a ∙ ap ordering_reverse own in absurd cc

pub names_differ : (f : Fsm) → AreInOrder (names_of f.ports) → AllDifferent (names_of f.ports)
names_differ f order = in_order_differ (names_of f.ports) order

pub ports_permuted : (w : Words) (f : Fsm) → Ready w f → IsPermutation f.ports (port_bits (symbols (machine_of w f)))
ports_permuted w f r =
    let known = symbols (machine_of w f) in
    permutation_same f.ports (port_bits known) (different_unmapped (λ (p : Port). p.name) f.ports (names_differ f r.checked.ports))
    (different_unmapped (λ (p : Port). p.name) (port_bits known)
    (different_Sub (names_of (port_bits known)) (all_names known) (ports_sub known) (different_bits known (symbols_differ w f r))))
    (port_bit w f r) (bit_port w f r)
