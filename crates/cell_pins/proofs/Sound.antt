-- A table of cells' pins is what the checks of netlists ask for.
use Rattle.std.proofs.Common.{◌≡◌, ◌≢◌, inl, inr, ℕ, zero, suc, List, [], ◌∷◌, map, length, refl, sym, ◌∙◌, ap, subst, arith, Some, slice_get, false}
use Rattle.std.specs.Prelude.{AllPairs, All}
use Rattle.vlsi_base.specs.declared.name.Name.{Name}
use Rattle.vlsi_base.specs.declared.name.Port.{Port}
use Rattle.vlsi_base.specs.Member.{In, here, there, AllDifferent}
use Rattle.machine_core.specs.Machine.{names_of}
use Rattle.net_core.specs.declared.pins.ModelPin.{ModelPin}
use Rattle.net_core.specs.declared.pins.ModelPins.{ModelPins}
use Rattle.net_core.specs.Places.{NoneTwice}
use Rattle.net_core.specs.Netlist.{AreInOrder}
use Rattle.net_core.specs.Checks.{IsInputAt, DependsWithin, IsPinTable}
use Rattle.cell_model.specs.Cell.{Cell, Function}
use Rattle.cell_model.specs.Library.{Library}
use Rattle.cell_model.specs.Usable.{IsFormed}
use Rattle.cell_model.specs.Connectors.{PinsAreConnectors}
use Rattle.cell_model.proofs.Members.{In-map_back, place-In, All-In, All-from}
use Rattle.cell_checks.specs.Checked.{IsChecked}
use Rattle.cell_checks.specs.declared.verdict.Check.TheVariants as check
use Rattle.cell_pins.specs.Pins.{all_ports}
use Rattle.cell_pins.specs.Table.{first_places, DependsAt, IsPinOf, ArePins, one_pin, IsModelOf, AreModels, listed, left_out}
use Rattle.cell_pins.proofs.Listed.{picked_has, member_cases}
use Rattle.cell_pins.proofs.Ports.{sorted_pairs, all_sorted}

pub connected : (l : Library) → IsChecked false l → All PinsAreConnectors l.cells
connected l h k d low = (h.passes k d low).0 check.Connectors

-- ---- names

pub member_at : {A : Type 0} (xs : List A) (k : ℕ) (x : A) → slice_get xs k ≡ Some x → In x xs
member_at [] k x h = absurd cc
member_at (y ∷ xs) zero x h = let is : y ≡ x = cc in subst (λ z. In z (y ∷ xs)) is here
member_at (y ∷ xs) (suc k) x h = there (member_at xs k x h)

none_twice : {A : Type 0} (xs : List A) → AllDifferent xs → NoneTwice xs
none_twice [] d i j x p q = absurd cc
none_twice (y ∷ xs) d zero zero x p q = refl
none_twice (y ∷ xs) d zero (suc j) x p q = let is : y ≡ x = cc in absurd (d.0 (subst (λ z. In z xs) (sym is) (member_at xs j x q)))
none_twice (y ∷ xs) d (suc i) zero x p q = let is : y ≡ x = cc in absurd (d.0 (subst (λ z. In z xs) (sym is) (member_at xs i x p)))
none_twice (y ∷ xs) d (suc i) (suc j) x p q = ap suc (none_twice xs d.1 i j x p q)

abbrev pub Apart : List Cell → Type 0
Apart cells = AllPairs (λ a b. a.name ≢ b.name) cells

-- the cell of a model
record HasCell (cells : List Cell) (m : ModelPins) : Type 0 where
  pub cell : Cell
  pub listed : In cell cells
  pub is : IsModelOf cell m

one_behind : (c : Cell) (cells : List Cell) (m : ModelPins) → HasCell cells m → HasCell (c ∷ cells) m
one_behind c cells m h = record { cell = h.cell; listed = there h.listed; is = h.is }

cell_of_model : (P : Cell → Type 0) (cells : List Cell) (table : List ModelPins) (m : ModelPins) → AreModels P cells table → In m table → HasCell cells m
cell_of_model P cells [] m r i = elim i [ ]
cell_of_model P [] (n ∷ table) m r i = elim r [ ]
cell_of_model P (c ∷ cells) (n ∷ table) m (listed p is rest) i = elim (member_cases m n table i) [
  | inl same ↦ record { cell = c; listed = here; is = subst (λ (x : ModelPins). IsModelOf c x) (sym same) is }
  | inr j ↦ one_behind c cells m (cell_of_model P cells table m rest j)
]
cell_of_model P (c ∷ cells) (n ∷ table) m (left_out p rest) i = one_behind c cells m (cell_of_model P cells (n ∷ table) m rest i)

pub apart_rest : (c : Cell) (cells : List Cell) → Apart (c ∷ cells) → Apart cells
apart_rest c cells h i j d low high = h (suc i) (suc j) d (omega (arith, low)) (omega (arith, high))

pub apart_first : (c b : Cell) (cells : List Cell) → Apart (c ∷ cells) → In b cells → c.name ≢ b.name
apart_first c b cells h i = let r = place-In b cells i in subst (λ (x : Cell). c.name ≢ x.name) (r.2 c) (h 0 (suc r.0) c (omega arith) (omega (arith, r.1)))

models_differ : (P : Cell → Type 0) (cells : List Cell) (table : List ModelPins) → Apart cells → AreModels P cells table → AllDifferent (map (λ m. m.model) table)
models_differ P cells [] h r = tt
models_differ P [] (m ∷ table) h r = elim r [ ]
models_differ P (c ∷ cells) (m ∷ table) h (listed p is rest) = (
  λ i.
      let n = In-map_back (λ x. x.model) m.model table i in
      let b = cell_of_model P cells table n.0 rest n.1 in
      apart_first c b.cell cells h b.listed (sym is.name ∙ sym n.2 ∙ b.is.name),
  models_differ P cells table (apart_rest c cells h) rest,
)
models_differ P (c ∷ cells) (m ∷ table) h (left_out p rest) = models_differ P cells (m ∷ table) (apart_rest c cells h) rest

-- ---- the pins of one model

pub pin_names : (f : Function) (ports xs : List Port) (ps : List ModelPin) → ArePins f ports xs ps → map (λ p. p.name) ps ≡ names_of xs
pin_names f ports [] [] r = refl
pin_names f ports [] (p ∷ ps) r = elim r [ ]
pin_names f ports (x ∷ xs) [] r = elim r [ ]
pin_names f ports (x ∷ xs) (p ∷ ps) (one_pin is rest) = ap (λ n. n ∷ map (λ q. q.name) ps) is.name ∙ ap (λ (ns : List Name). x.name ∷ ns) (pin_names f ports xs ps rest)

pub pin_at : (f : Function) (ports xs : List Port) (ps : List ModelPin) (k : ℕ) (x : Port) → ArePins f ports xs ps → slice_get xs k ≡ Some x
    → (p : ModelPin) × (slice_get ps k ≡ Some p) × IsPinOf f ports x p
pin_at f ports [] ps k x r at = absurd cc
pin_at f ports (y ∷ xs) [] k x r at = elim r [ ]
pin_at f ports (y ∷ xs) (p ∷ ps) zero x (one_pin is rest) at = let same : y ≡ x = cc in (p, refl, subst (λ (z : Port). IsPinOf f ports z p) same is)
pin_at f ports (y ∷ xs) (p ∷ ps) (suc k) x (one_pin is rest) at = pin_at f ports xs ps k x rest at

pub port_of_pin : (f : Function) (ports xs : List Port) (ps : List ModelPin) (p : ModelPin) → ArePins f ports xs ps → In p ps → (x : Port) × In x xs × IsPinOf f ports x p
port_of_pin f ports xs [] p r i = elim i [ ]
port_of_pin f ports [] (q ∷ ps) p r i = elim r [ ]
port_of_pin f ports (x ∷ xs) (q ∷ ps) p (one_pin is rest) i = elim (member_cases p q ps i) [
  | inl same ↦ (x, here, subst (λ (y : ModelPin). IsPinOf f ports x y) (sym same) is)
  | inr j ↦ let r = port_of_pin f ports xs ps p rest j in (r.0, there r.1, r.2)
]

within : (f : Function) (ports : List Port) (m : ModelPins) → ArePins f ports ports m.pins → DependsWithin m
within f ports m r =
    All-from (λ p. All (IsInputAt m.pins) p.depends_on) m.pins
    (λ p i.
    let x = port_of_pin f ports ports m.pins p r i in
    All-from (IsInputAt m.pins) p.depends_on
    (λ k j.
    let d = picked_has (DependsAt f ports x.0) (first_places (length ports)) p.depends_on k x.2.depends j in
    let q = pin_at f ports ports m.pins k d.0 r d.1 in
    (q.0, q.1, q.2.dir ∙ d.2.1)))

in_order : (c : Cell) (m : ModelPins) → IsFormed c → IsModelOf c m → AreInOrder (map (λ p. p.name) m.pins)
in_order c m h is =
    subst (λ (ns : List Name). AreInOrder ns) (sym (pin_names c.function (all_ports c) (all_ports c) m.pins is.pins)) (sorted_pairs (all_ports c) (all_sorted c h))

pub sound : (P : Cell → Type 0) (cells : List Cell) (table : List ModelPins) → All IsFormed cells → Apart cells → AreModels P cells table → IsPinTable table
sound P cells table formed apart r = record {
  once = none_twice (map (λ m. m.model) table) (models_differ P cells table apart r);
  order = All-from (λ m. AreInOrder (map (λ p. p.name) m.pins)) table
      (λ m i. let b = cell_of_model P cells table m r i in in_order b.cell m (All-In IsFormed cells formed b.cell b.listed) b.is);
  depends = All-from DependsWithin table (λ m i. let b = cell_of_model P cells table m r i in within b.cell.function (all_ports b.cell) m b.is.pins);
}
