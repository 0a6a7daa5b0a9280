-- The bits of the ports but vdd and vss.
use Rattle.std.proofs.Common.{◌≡◌, ◌⊎◌, inl, inr, Bool, true, false, cond, List, [], ◌∷◌, ◌++◌, map, Option, None, Some, refl, sym, ap, ◌∙◌, subst}
use Rattle.std.specs.Prelude.{filter}
use Rattle.std.specs.List.{filter_map, cons_option}
use Rattle.std.proofs.lemmas.List.Elements.{filter_map-append}
use Rattle.std.proofs.lemmas.List.{map-append}
use Rattle.vlsi_base.specs.declared.name.Name.{Name}
use Rattle.vlsi_base.specs.declared.name.Port.{Port}
use Rattle.vlsi_base.specs.declared.name.Dir.{Dir}
use Rattle.vlsi_base.specs.declared.name.Dir.TheVariants as dir
use Rattle.machine_core.specs.Machine.{names_of}
use Rattle.machine_core.specs.Order.{In, here, there, AllDifferent}
use Rattle.machine_core.proofs.Values.{In-split, In-left, In-right, In-map}
use Rattle.source_checks.specs.declared.symbol_table.Role.{Role}
use Rattle.source_checks.specs.declared.symbol_table.Role.TheVariants as role
use Rattle.source_checks.specs.declared.symbol_table.Symbol.{Symbol}
use Rattle.vlsi_base.specs.Name.{is_supply}
use Rattle.source_checks.specs.Symbols.{find, symbol_names, all_names}
use Rattle.source_checks.specs.Elaboration.{port_of, ports_of_role, port_bits}
use Rattle.vlsi_model.specs.PortNames.{port_of_role, port_of_found, port_named}
use Rattle.vlsi_model.proofs.Bits.{texts, in_found, text_in}
use Rattle.vlsi_model.proofs.Members.{In-map_back, In-cases, Sub, none, keep, skip, Sub-append, Sub-nothing, Sub-itself}

abbrev pub role_of_dir : Dir → Role
role_of_dir dir.In = role.Input
role_of_dir dir.Out = role.Output

-- a port bit is a bit of an input or output that is no supply
pub record IsPortBit (known : List Symbol) (p : Port) : Type 0 where
  pub symbol : Symbol
  pub declared : In symbol known
  pub bit : In p.name (symbol_names symbol)
  pub no_supply : is_supply symbol.text ≡ false
  pub role : symbol.role ≡ role_of_dir p.dir

of_role : (r : Role) (names : List Name) (p : Port) → In p (ports_of_role r names) → In p.name names × (r ≡ role_of_dir p.dir)
of_role role.Input names p i = let m = In-map_back (port_of dir.In) p names i in (subst (λ (q : Port). In q.name names) m.2 m.1, ap (λ (q : Port). role_of_dir q.dir) m.2)
of_role role.Output names p i = let m = In-map_back (port_of dir.Out) p names i in (subst (λ (q : Port). In q.name names) m.2 m.1, ap (λ (q : Port). role_of_dir q.dir) m.2)
of_role role.Both names p i = elim i [ ]
of_role role.Inner names p i = elim i [ ]
of_role role.Register names p i = elim i [ ]

abbrev ports_of : Symbol → List Port
ports_of s = cond (is_supply s.text) [] (ports_of_role s.role (symbol_names s))

of_symbol : (s : Symbol) (p : Port) → In p (ports_of s) → In p.name (symbol_names s) × (is_supply s.text ≡ false) × (s.role ≡ role_of_dir p.dir)
of_symbol s p i = by (is_supply s.text) refl i where
  by : (b : Bool) → is_supply s.text ≡ b → In p (cond b [] (ports_of_role s.role (symbol_names s))) → In p.name (symbol_names s) × (is_supply s.text ≡ false) × (s.role ≡ role_of_dir p.dir)
  by true is i = elim i [ ]
  by false is i = let r = of_role s.role (symbol_names s) p i in (r.0, is, r.1)

pub port_is : (known : List Symbol) (p : Port) → In p (port_bits known) → IsPortBit known p
port_is [] p i = elim i [ ]
port_is (s ∷ known) p i = elim (In-split p (ports_of s) (port_bits known) i) [
  | inl a ↦ let r = of_symbol s p a in record { symbol = s; declared = here; bit = r.0; no_supply = r.1; role = r.2 }
  | inr b ↦ let r = port_is known p b in record { symbol = r.symbol; declared = there r.declared; bit = r.bit; no_supply = r.no_supply; role = r.role }
]

in_role : (d : Dir) (r : Role) (names : List Name) (n : Name) → r ≡ role_of_dir d → In n names → In (port_of d n) (ports_of_role r names)
in_role dir.In r names n e i = subst (λ (x : Role). In (port_of dir.In n) (ports_of_role x names)) (sym e) (In-map (port_of dir.In) n names i)
in_role dir.Out r names n e i = subst (λ (x : Role). In (port_of dir.Out n) (ports_of_role x names)) (sym e) (In-map (port_of dir.Out) n names i)

pub is_port_bit : (known : List Symbol) (s : Symbol) (n : Name) (d : Dir) → In s known → In n (symbol_names s) → is_supply s.text ≡ false → s.role ≡ role_of_dir d → In (port_of d n) (port_bits known)
is_port_bit (s ∷ known) t n d here i supply e =
    In-left (port_of d n) (ports_of t) (port_bits known) (subst (λ b. In (port_of d n) (cond b [] (ports_of_role t.role (symbol_names t)))) (sym supply) (in_role d t.role (symbol_names t) n e i))
is_port_bit (s ∷ known) t n d (there j) i supply e = In-right (port_of d n) (ports_of s) (port_bits known) (is_port_bit known t n d j i supply e)
is_port_bit [] t n d j i supply e = elim j [ ]

names-port_of : (d : Dir) (names : List Name) → names_of (map (port_of d) names) ≡ names
names-port_of d [] = refl
names-port_of d (n ∷ names) = ap (λ (ns : List Name). n ∷ ns) (names-port_of d names)

sub_role : (r : Role) (names : List Name) → Sub (names_of (ports_of_role r names)) names
sub_role role.Input names = subst (λ (ns : List Name). Sub ns names) (sym (names-port_of dir.In names)) (Sub-itself names)
sub_role role.Output names = subst (λ (ns : List Name). Sub ns names) (sym (names-port_of dir.Out names)) (Sub-itself names)
sub_role role.Both names = Sub-nothing names
sub_role role.Inner names = Sub-nothing names
sub_role role.Register names = Sub-nothing names

sub_ports : (s : Symbol) → Sub (names_of (ports_of s)) (symbol_names s)
sub_ports s = by (is_supply s.text) where
  by : (b : Bool) → Sub (names_of (cond b [] (ports_of_role s.role (symbol_names s)))) (symbol_names s)
  by true = Sub-nothing (symbol_names s)
  by false = sub_role s.role (symbol_names s)

-- the port bits stand among all bits, in file order
pub ports_sub : (known : List Symbol) → Sub (names_of (port_bits known)) (all_names known)
ports_sub [] = none
ports_sub (s ∷ known) =
    subst (λ (ns : List Name). Sub ns (all_names (s ∷ known))) (sym (map-append (λ (p : Port). p.name) (ports_of s) (port_bits known)))
    (Sub-append (names_of (ports_of s)) (symbol_names s) (names_of (port_bits known)) (all_names known) (sub_ports s) (ports_sub known))

pub Sub-filter : {A : Type 0} (p : A → Bool) (xs : List A) → Sub (filter p xs) xs
Sub-filter p [] = none
Sub-filter {A} p (x ∷ xs) = by (p x) (Sub-filter p xs) where
  by : (b : Bool) → Sub (filter p xs) xs → Sub (cond b (x ∷ filter p xs) (filter p xs)) (x ∷ xs)
  by true s = keep x s
  by false s = skip x s

pub Sub-map : {A B : Type 0} (f : A → B) (xs ys : List A) → Sub xs ys → Sub (map f xs) (map f ys)
Sub-map f _ _ none = none
Sub-map f _ _ (keep x s) = keep (f x) (Sub-map f _ _ s)
Sub-map f _ _ (skip y s) = skip (f y) (Sub-map f _ _ s)

pub In-filter : {A : Type 0} (p : A → Bool) (xs : List A) (x : A) → In x (filter p xs) → In x xs × (p x ≡ true)
In-filter p [] x i = elim i [ ]
In-filter p (y ∷ xs) x i = by (p y) refl i (In-filter p xs x) where
  by : (b : Bool) → p y ≡ b → In x (cond b (y ∷ filter p xs) (filter p xs)) → (In x (filter p xs) → In x xs × (p x ≡ true)) → In x (y ∷ xs) × (p x ≡ true)
  by true is i rest = elim (In-cases x y (filter p xs) i) [
    | inl same ↦ (subst (λ z. In z (y ∷ xs)) same here, ap p (sym same) ∙ is)
    | inr j ↦ let r = rest j in (there r.0, r.1)
  ]
  by false is i rest = let r = rest i in (there r.0, r.1)

pub filter-In : {A : Type 0} (p : A → Bool) (xs : List A) (x : A) → In x xs → p x ≡ true → In x (filter p xs)
filter-In p (y ∷ xs) x i e = by (p y) refl (filter-In p xs x) (In-cases x y xs i) where
  by : (b : Bool) → p y ≡ b → (In x xs → p x ≡ true → In x (filter p xs)) → (y ≡ x) ⊎ In x xs → In x (cond b (y ∷ filter p xs) (filter p xs))
  by true is rest (inl same) = subst (λ z. In z (y ∷ filter p xs)) same here
  by true is rest (inr j) = there (rest j e)
  by false is rest (inl same) = let h : true ≡ false = sym e ∙ ap p (sym same) ∙ is in absurd cc
  by false is rest (inr j) = rest j e
filter-In p [] x i e = elim i [ ]

-- the port bits are those of all declared bits that are one

agree : (f g : Name → Option Port) (ns : List Name) → ((n : Name) → In n ns → f n ≡ g n) → filter_map f ns ≡ filter_map g ns
agree f g [] h = refl
agree f g (n ∷ ns) h = ap (λ (o : Option Port). cons_option o (filter_map f ns)) (h n here) ∙ ap (cons_option (g n)) (agree f g ns (λ m i. h m (there i)))

by_role : (r : Role) (ns : List Name) → filter_map (port_of_role r) ns ≡ ports_of_role r ns
by_role role.Input [] = refl
by_role role.Input (n ∷ ns) = ap (λ (ps : List Port). port_of dir.In n ∷ ps) (by_role role.Input ns)
by_role role.Output [] = refl
by_role role.Output (n ∷ ns) = ap (λ (ps : List Port). port_of dir.Out n ∷ ps) (by_role role.Output ns)
by_role role.Both [] = refl
by_role role.Both (n ∷ ns) = by_role role.Both ns
by_role role.Inner [] = refl
by_role role.Inner (n ∷ ns) = by_role role.Inner ns
by_role role.Register [] = refl
by_role role.Register (n ∷ ns) = by_role role.Register ns

abbrev no_port : Name → Option Port
no_port n = None

nothing_of : (ns : List Name) → filter_map no_port ns ≡ []
nothing_of [] = refl
nothing_of (n ∷ ns) = nothing_of ns

by_supply : (b : Bool) (r : Role) (ns : List Name) → filter_map (λ n. cond b None (port_of_role r n)) ns ≡ cond b [] (ports_of_role r ns)
by_supply true r ns = nothing_of ns
by_supply false r ns = by_role r ns

ports_from : (known rest : List Symbol) → ((s : Symbol) → In s rest → find known s.text ≡ Some s) → filter_map (port_named known) (all_names rest) ≡ port_bits rest
ports_from known [] h = refl
ports_from known (s ∷ rest) h =
    filter_map-append (port_named known) (symbol_names s) (all_names rest)
    ∙ ap (λ (ps : List Port). ps ++ filter_map (port_named known) (all_names rest))
    (agree (port_named known) (λ n. cond (is_supply s.text) None (port_of_role s.role n)) (symbol_names s) (λ n i. ap (λ (o : Option Symbol). port_of_found o n) (ap (find known) (text_in s.text s.range n i) ∙ h s here))
    ∙ by_supply (is_supply s.text) s.role (symbol_names s))
    ∙ ap (λ (ps : List Port). ports_of s ++ ps) (ports_from known rest (λ t i. h t (there i)))

pub all_ports : (known : List Symbol) → AllDifferent (texts known) → filter_map (port_named known) (all_names known) ≡ port_bits known
all_ports known different = ports_from known known (λ s i. in_found known s different i)
