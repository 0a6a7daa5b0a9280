-- Each usable cell of a library that is read has its arcs.
use Rattle.std.proofs.Common.{◌≡◌, ◌⊎◌, inl, inr, ℕ, zero, suc, Bool, true, false, cond, List, [], ◌∷◌, map, length, get_or, Option, None, Some, refl, sym, ap, ◌∙◌, subst, arith}
use Rattle.std.specs.Prelude.{nat_eq, slice_get, if◌then◌else◌}
use Rattle.std.proofs.lemmas.Option.{slice_get_within, slice_get-get_or, get_or_from_slice_get}
use Rattle.vlsi_base.specs.declared.name.Name.{Name}
use Rattle.vlsi_base.specs.declared.name.Port.{Port}
use Rattle.vlsi_base.specs.declared.name.Dir.{Dir}
use Rattle.vlsi_base.specs.declared.name.Dir.TheVariants as dir
use Rattle.vlsi_base.specs.Member.{In, here, there, AllDifferent}
use Rattle.machine_core.specs.Machine.{is_input, names_of}
use Rattle.machine_core.specs.Named.{is_same_name, is_same_text}
use Rattle.machine_core.proofs.Names.{same_name-itself}
use Rattle.vlsi_model.proofs.Members.{In-cases}
use Rattle.vbe_io.specs.declared.cell_text.GenericValue.{GenericValue}
use Rattle.vbe_io.specs.declared.cell_text.CellText.{CellText}
use Rattle.cell_model.specs.declared.function.Function.{Function as Parts}
use Rattle.cell_model.specs.declared.function.Function.TheVariants as parts
use Rattle.cell_model.specs.declared.cell.Arc.{Arc}
use Rattle.cell_model.specs.declared.cell.Pin.{Pin}
use Rattle.cell_model.specs.View.{function_view}
use Rattle.cell_model.specs.Cell.{Cell, Function, gate, flip_flop, other, opaque, pin_ports, cell_outputs}
use Rattle.cell_model.specs.Library.{cell_named, IsUsable, IsPlain}
use Rattle.cell_model.proofs.Members.{In-at, In-map, place-In}
use Rattle.cell_function.specs.Row.{first, only_output, output_names}
use Rattle.cell_function.specs.Timing.{arc_of, begins_arc, arcs_to, arcs_of}
use Rattle.cell_checks.specs.Arcs.{HasPin, Begins, HasItsArcs}
use Rattle.cell_lib.specs.Cells.{Source}
use Rattle.cell_lib.specs.Library.{IsSaid, DoesAs}
use Rattle.cell_lib.proofs.Forming.{ports_are, pins_different}

-- ---- lists

at_place : {A : Type 0} (xs : List A) (k : ℕ) (x : A) → slice_get xs k ≡ Some x → In x xs
at_place xs k x h = subst (λ y. In y xs) (get_or_from_slice_get xs k x x h) (In-at xs k x (slice_get_within xs k x h))

some_place : {A : Type 0} (xs : List A) (x : A) → In x xs → (k : ℕ) × (slice_get xs k ≡ Some x)
some_place xs x i = let r = place-In x xs i in (r.0, slice_get-get_or xs r.0 x r.1 ∙ ap Some (r.2 x))

one_of : {A : Type 0} (xs : List A) → length xs ≡ 1 → (x : A) × (xs ≡ x ∷ [])
one_of [] h = absurd cc
one_of (x ∷ []) h = (x, refl)
one_of (x ∷ y ∷ xs) h = absurd (omega (arith, h))

only_member : {A : Type 0} (x y : A) → In x (y ∷ []) → x ≡ y
only_member x y here = refl
only_member x y (there i) = elim i [ ]

-- ---- the arcs to an output

module _ (f : Parts) (generics : List GenericValue) (to : Name) where
  listed : (p : Port) (ports : List Port) → In p ports → begins_arc f p ≡ true → In (arc_of generics p.name to) (arcs_to f generics to ports)
  listed p [] i is = elim i [ ]
  listed p (q ∷ rest) i is = by (begins_arc f q) refl (In-cases p q rest i) (λ j. listed p rest j is) where
    by : (b : Bool) → begins_arc f q ≡ b → (q ≡ p) ⊎ In p rest → (In p rest → In (arc_of generics p.name to) (arcs_to f generics to rest))
        → In (arc_of generics p.name to) (cond b (arc_of generics q.name to ∷ arcs_to f generics to rest) (arcs_to f generics to rest))
    by true e (inl same) later = subst (λ (r : Port). In (arc_of generics r.name to) (arc_of generics q.name to ∷ arcs_to f generics to rest)) same here
    by true e (inr j) later = there (later j)
    by false e (inl same) later = let bad : true ≡ false = sym is ∙ ap (begins_arc f) (sym same) ∙ e in absurd cc
    by false e (inr j) later = later j

  -- the port at which an arc begins
  of_port : (a : Arc) (ports : List Port) → In a (arcs_to f generics to ports) → (p : Port) × In p ports × (a ≡ arc_of generics p.name to)
  of_port a [] i = elim i [ ]
  of_port a (q ∷ rest) i = by (begins_arc f q) i (λ j. of_port a rest j) where
    by : (b : Bool) → In a (cond b (arc_of generics q.name to ∷ arcs_to f generics to rest) (arcs_to f generics to rest))
        → (In a (arcs_to f generics to rest) → (p : Port) × In p rest × (a ≡ arc_of generics p.name to))
        → (p : Port) × In p (q ∷ rest) × (a ≡ arc_of generics p.name to)
    by true j later = elim (In-cases a (arc_of generics q.name to) (arcs_to f generics to rest) j) [
      | inl same ↦ (q, here, sym same)
      | inr k ↦ let r = later k in (r.0, there r.1, r.2)
    ]
    by false j later = let r = later j in (r.0, there r.1, r.2)

  -- no two begin at one port
  once_to : (ports : List Port) → AllDifferent (names_of ports) → (j k : ℕ) (a b : Arc) → slice_get (arcs_to f generics to ports) j ≡ Some a
      → slice_get (arcs_to f generics to ports) k ≡ Some b → a.from ≡ b.from → j ≡ k
  once_to [] s j k a b p q same = absurd cc
  once_to (r ∷ rest) s j k a b p q same = by (begins_arc f r) j k p q (λ x y h g. once_to rest s.1 x y a b h g same) where
    late : (x : ℕ) (c d : Arc) → slice_get (arcs_to f generics to rest) x ≡ Some c → c.from ≡ d.from → arc_of generics r.name to ≡ d → ⊥
    late x c d h e is =
        let i = of_port c rest (at_place (arcs_to f generics to rest) x c h) in
        let name : i.0.name ≡ r.name = sym (ap (λ (z : Arc). z.from) i.2) ∙ e ∙ sym (ap (λ (z : Arc). z.from) is) in
        s.0 (subst (λ (z : Name). In z (names_of rest)) name (In-map (λ (p : Port). p.name) i.0 rest i.1))

    by : (v : Bool) (x y : ℕ) → slice_get (cond v (arc_of generics r.name to ∷ arcs_to f generics to rest) (arcs_to f generics to rest)) x ≡ Some a
        → slice_get (cond v (arc_of generics r.name to ∷ arcs_to f generics to rest) (arcs_to f generics to rest)) y ≡ Some b
        → ((m n : ℕ) → slice_get (arcs_to f generics to rest) m ≡ Some a → slice_get (arcs_to f generics to rest) n ≡ Some b → m ≡ n) → x ≡ y
    by false x y h g later = later x y h g
    by true zero zero h g later = refl
    by true (suc x) (suc y) h g later = ap suc (later x y h g)
    by true zero (suc y) h g later = let is : arc_of generics r.name to ≡ a = cc h in absurd (late y b a g (sym same) is)
    by true (suc x) zero h g later = let is : arc_of generics r.name to ≡ b = cc g in absurd (late x a b h same is)

-- ---- a cell

abbrev arcs_by : Parts → List Port → List GenericValue → Option Name → List Arc
arcs_by f ports generics None = []
arcs_by f ports generics (Some to) = arcs_to f generics to ports

arcs_are : (f : Parts) (ports : List Port) (generics : List GenericValue) → arcs_of f ports generics ≡ arcs_by f ports generics (only_output ports)
arcs_are f ports generics = refl

only_one : (ports : List Port) (to : Name) → output_names ports ≡ to ∷ [] → only_output ports ≡ Some to
only_one ports to is = ap (λ (names : List Name). if nat_eq (length names) 1 then first names else None) is

out_name : (ports : List Port) (p : Port) → In p ports → p.dir ≡ dir.Out → In p.name (output_names ports)
out_name [] p i is = elim i [ ]
out_name (q ∷ rest) p i is = by (is_input q.dir) refl (In-cases p q rest i) (λ j. out_name rest p j is) where
  by : (b : Bool) → is_input q.dir ≡ b → (q ≡ p) ⊎ In p rest → (In p rest → In p.name (output_names rest)) → In p.name (output_names (q ∷ rest))
  by true e (inl same) later =
      let bad : true ≡ false = sym e ∙ ap (λ (r : Port). is_input r.dir) same ∙ ap is_input is in absurd cc
  by true e (inr j) later = rw e (later j)
  by false e (inl same) later = rw e (subst (λ (r : Port). In r.name (q.name ∷ output_names rest)) same here)
  by false e (inr j) later = rw e (there (later j))

module _ (text : CellText) (c : Cell) (does : DoesAs text c) (different : AllDifferent (names_of (pin_ports c))) (usable : IsUsable c) where
  same_ports : pin_ports c ≡ text.ports
  same_ports = ports_are text c does

  one_output : (f : Function) → IsPlain c f → length (cell_outputs c) ≡ 1
  one_output (gate e) plain = plain.0
  one_output (flip_flop data_name clock_name) plain = plain.0
  one_output (other m) plain = absurd plain
  one_output opaque plain = absurd plain

  to : (name : Name) × (output_names text.ports ≡ name ∷ [])
  to = one_of (output_names text.ports) (sym (ap (λ (ps : List Port). length (output_names ps)) same_ports) ∙ one_output c.function usable.function)

  the_arcs : c.arcs ≡ arcs_to does.computed text.generics to.0 text.ports
  the_arcs =
      does.arcs ∙ arcs_are does.computed text.ports text.generics
      ∙ ap (arcs_by does.computed text.ports text.generics) (only_one text.ports to.0 to.1)

  -- a pin as a port of the text
  port_of : (way : Dir) (name : Name) → HasPin c.pins way name → (p : Port) × In p text.ports × (p.name ≡ name) × (p.dir ≡ way)
  port_of way name h =
      let i = at_place c.pins h.listed.0 h.pin h.listed.1 in
      (h.pin.port, subst (λ (ps : List Port). In h.pin.port ps) same_ports (In-map (λ (p : Pin). p.port) h.pin c.pins i), h.named, h.is)

  to_output : (name : Name) → HasPin c.pins dir.Out name → name ≡ to.0
  to_output name h =
      let p = port_of dir.Out name h in
      sym p.2 ∙ only_member p.0.name to.0 (subst (λ (names : List Name). In p.0.name names) to.1 (out_name text.ports p.0 p.1 p.3))

  begins : (f : Parts) (p : Port) → Begins (function_view f) p.name → p.dir ≡ dir.In → begins_arc f p ≡ true
  begins (parts.Gate e) p h is = ap is_input is
  begins (parts.FlipFlop data_name clock_name) p (inl h) is = subst (λ (n : Name). is_same_name clock_name n ≡ true) (sym h) (same_name-itself clock_name)
  begins (parts.FlipFlop data_name clock_name) p (inr h) is = absurd h
  begins (parts.Other m) p (inl h) is = absurd h
  begins (parts.Other m) p (inr h) is = absurd h
  begins parts.Opaque p (inl h) is = absurd h
  begins parts.Opaque p (inr h) is = absurd h

  does_have : HasItsArcs c
  does_have = record {
    one = λ from name h takes gives.
        let p = port_of dir.In from takes in
        let starts : Begins (function_view does.computed) p.0.name = subst (λ (n : Name). Begins (function_view does.computed) n) (sym p.2) (subst (λ (f : Function). Begins f from) does.function h) in
        let i = listed does.computed text.generics to.0 p.0 text.ports p.1 (begins does.computed p.0 starts p.3) in
        let r = some_place (arcs_to does.computed text.generics to.0 text.ports) (arc_of text.generics p.0.name to.0) i in
        (r.0, arc_of text.generics p.0.name to.0, subst (λ (arcs : List Arc). slice_get arcs r.0 ≡ Some (arc_of text.generics p.0.name to.0)) (sym the_arcs) r.1, p.2, sym (to_output name gives));
    once = λ j k a b p q from same.
        once_to does.computed text.generics to.0 text.ports
        (subst (λ (ps : List Port). AllDifferent (names_of ps)) same_ports different) j k a b
        (subst (λ (arcs : List Arc). slice_get arcs j ≡ Some a) the_arcs p) (subst (λ (arcs : List Arc). slice_get arcs k ≡ Some b) the_arcs q) from;
  }

pub has_arcs : (source : Source) (c : Cell) → IsSaid source c → IsUsable c → HasItsArcs c
has_arcs source c s usable = does_have s.text c s.does (pins_different source c s) usable

-- ---- a library

pub cell_in : (cells : List Cell) (model : List ℕ) (c : Cell) → cell_named cells model ≡ Some c → In c cells
cell_in [] model c h = absurd cc
cell_in (d ∷ rest) model c h = by (is_same_text d.name model) h (λ k. cell_in rest model c k) where
  by : (b : Bool) → cond b (Some d) (cell_named rest model) ≡ Some c → (cell_named rest model ≡ Some c → In c rest) → In c (d ∷ rest)
  by true k later = let same : d ≡ c = cc k in subst (λ (x : Cell). In x (d ∷ rest)) same here
  by false k later = there (later k)
