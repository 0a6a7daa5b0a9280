-- Two libraries of the same files have one table of pins.
use Rattle.std.proofs.Common.{◌≡◌, inl, inr, ℕ, Bool, true, false, List, [], ◌∷◌, map, length, Option, None, Some, refl, sym, ap, ◌∙◌, subst}
use Rattle.std.specs.Prelude.{◌↔◌, IsTrue}
use Rattle.vlsi_base.specs.declared.name.Name.{Name}
use Rattle.vlsi_base.specs.declared.name.Dir.{Dir}
use Rattle.vlsi_base.specs.declared.name.Port.{Port}
use Rattle.vlsi_base.specs.Member.{Picks, done, takes, skips}
use Rattle.machine_core.specs.Machine.{Machine}
use Rattle.vbe_io.specs.Text.{IsVbe}
use Rattle.vbe_io.specs.Laws.{CellIsMachine}
use Rattle.vbe_laws.specs.OneMachine.{MachinesHaveTheSameParts}
use Rattle.vbe_roots.proofs.Readings.{of_one}
use Rattle.net_core.specs.declared.pins.ModelPin.{ModelPin}
use Rattle.net_core.specs.declared.pins.ModelPins.{ModelPins}
use Rattle.cell_model.specs.declared.function.Function.{Function as Parts}
use Rattle.cell_model.specs.declared.function.Function.TheVariants as parts
use Rattle.cell_model.specs.declared.cell.Pin.{Pin}
use Rattle.cell_model.specs.View.{function_view}
use Rattle.cell_model.specs.Cell.{Function, gate, flip_flop, other, opaque, Cell, cell_inputs}
use Rattle.cell_function.specs.Function.{IsFunctionOf}
use Rattle.cell_pins.specs.Pins.{with_supply, all_ports, IsClockPin}
use Rattle.cell_pins.specs.Follows.{DependsAtOnce, DependsOn}
use Rattle.cell_pins.specs.Table.{first_places, DependsAt, IsPinOf, ArePins, no_pins, one_pin, IsModelOf, AreModels, no_models, listed, left_out, IsListed}
use Rattle.vlsi_base.specs.Names.{vdd, vss}
use Rattle.cell_lib.specs.Cells.{Source, sources, AreCells, none, next}
use Rattle.cell_lib.specs.Library.{IsSaid, IsCell}
use Rattle.catal.proofs.Once as list
use Rattle.flow_run.specs.Same.{AreSameFunctions, IsSameCell, AreSameCells}
use Rattle.flow_run.specs.OneLibrary.{LibrariesAreSame}
use Rattle.tool_laws.specs.OneStatus.{TablesAreOne}
use Rattle.tool_laws.proofs.Follow.{follows_too}

-- ---- on what outputs depend

-- a cell that is a machine has that of its text
other_of : CellIsMachine → (source : Source) (c : Cell) → IsSaid source c → (m : Machine) → c.function ≡ other m → IsVbe source.vbe m
other_of machines source c x m e = by x.does.computed (sym x.does.function ∙ e) x.text.machine refl x.does.computes where
  by : (f : Parts) → function_view f ≡ other m → (o : Option Machine) → x.text.machine ≡ o → IsFunctionOf o f → IsVbe source.vbe m
  by (parts.Gate g) is o some h = absurd (cc is)
  by (parts.FlipFlop a b) is o some h = absurd (cc is)
  by parts.Opaque is o some h = absurd (cc is)
  by (parts.Other w) is None some h = absurd (cc h)
  by (parts.Other w) is (Some k) some h =
      let same : k ≡ m = let e : w ≡ m = cc is in sym h.0 ∙ e in
      subst (λ (n : Machine). IsVbe source.vbe n) same (machines source.vbe x.text k x.text_read some)

abbrev DependAlike : Function → Function → Type 0
DependAlike f g = (output input : Name) → DependsAtOnce f output input → DependsAtOnce g output input

depends_too : CellIsMachine → MachinesHaveTheSameParts → (source : Source) (c d : Cell) → IsSaid source c → IsSaid source d → (n : ℕ) (f g : Function) → c.function ≡ f → d.function ≡ g
    → AreSameFunctions n f g → DependAlike f g
depends_too machines same source c d x y n (gate e) (gate h) p q s output input k = k
depends_too machines same source c d x y n (gate e) (flip_flop a b) p q s output input k = absurd s
depends_too machines same source c d x y n (gate e) (other w) p q s output input k = absurd s
depends_too machines same source c d x y n (gate e) opaque p q s output input k = absurd s
depends_too machines same source c d x y n (flip_flop a b) g p q s output input k = absurd k
depends_too machines same source c d x y n (other m) (gate h) p q s output input k = absurd s
depends_too machines same source c d x y n (other m) (flip_flop a b) p q s output input k = absurd s
depends_too machines same source c d x y n (other m) (other w) p q s output input k =
    follows_too m w (of_one same source.vbe m w (other_of machines source c x m p) (other_of machines source d y w q)) input output k
depends_too machines same source c d x y n (other m) opaque p q s output input k = absurd s
depends_too machines same source c d x y n opaque g p q s output input k = absurd k

-- ---- clock pins

clock_too : (n : ℕ) (f g : Function) → AreSameFunctions n f g → (name : Name) → IsClockPin f name → IsClockPin g name
clock_too n (gate e) g s name h = absurd h
clock_too n (flip_flop a b) (gate e) s name h = absurd s
clock_too n (flip_flop a b) (flip_flop x y) s name h = sym s.1 ∙ h
clock_too n (flip_flop a b) (other w) s name h = absurd s
clock_too n (flip_flop a b) opaque s name h = absurd s
clock_too n (other m) (gate e) s name h = absurd s
clock_too n (other m) (flip_flop a b) s name h = absurd s
clock_too n (other m) (other w) s name h = sym s.clock ∙ h
clock_too n (other m) opaque s name h = absurd s
clock_too n opaque g s name h = absurd h

-- ---- models

-- two cells of one pair of files, as far as tables tell
record AreTwins (c d : Cell) : Type 0 where
  name : c.name ≡ d.name
  pins : c.pins ≡ d.pins
  there : DependAlike c.function d.function
  back : DependAlike d.function c.function
  clock_there : (name : Name) → IsClockPin c.function name → IsClockPin d.function name
  clock_back : (name : Name) → IsClockPin d.function name → IsClockPin c.function name
  usable : (all : Bool) → IsListed all c ↔ IsListed all d

picked_same : {A : Type 0} (P Q : A → Type 0) → ((x : A) → P x → Q x) → ((x : A) → Q x → P x) → (xs ys zs : List A) → Picks P xs ys → Picks Q xs zs → ys ≡ zs
picked_same P Q to from _ _ _ done done = refl
picked_same P Q to from _ _ _ (takes {x = x} {xs = xs} {ys = ys} h p) (takes {ys = zs} k q) = ap (λ l. x ∷ l) (picked_same P Q to from xs ys zs p q)
picked_same P Q to from _ _ _ (takes {x = x} h p) (skips k q) = absurd (k (to x h))
picked_same P Q to from _ _ _ (skips {x = x} h p) (takes k q) = absurd (h (from x k))
picked_same P Q to from _ _ zs (skips {xs = xs} {ys = ys} h p) (skips k q) = picked_same P Q to from xs ys zs p q

bits_same : (a b : Bool) → (IsTrue a → IsTrue b) → (IsTrue b → IsTrue a) → a ≡ b
bits_same true true f g = refl
bits_same false false f g = refl
bits_same true false f g = sym (f refl)
bits_same false true f g = g refl

abbrev pin_of_parts : Name → Dir → Bool → List ℕ → ModelPin
pin_of_parts name dir clock depends = record { name = name; dir = dir; is_clock = clock; depends_on = depends }

module _ (c d : Cell) (t : AreTwins c d) where
  depends_on_too : (output input : Port) → DependsOn c.function output input → DependsOn d.function output input
  depends_on_too output input h = (h.0, h.1, t.there output.name input.name h.2)

  depends_on_back : (output input : Port) → DependsOn d.function output input → DependsOn c.function output input
  depends_on_back output input h = (h.0, h.1, t.back output.name input.name h.2)

  one_pin_of : (ports : List Port) (port : Port) (p q : ModelPin) → IsPinOf c.function ports port p → IsPinOf d.function ports port q → p ≡ q
  one_pin_of ports port p q h k =
      let names : p.name ≡ q.name = h.name ∙ sym k.name in
      let dirs : p.dir ≡ q.dir = h.dir ∙ sym k.dir in
      let clocks : p.is_clock ≡ q.is_clock =
      bits_same p.is_clock q.is_clock (λ e. k.clock.1 (t.clock_there port.name (h.clock.0 e))) (λ e. h.clock.1 (t.clock_back port.name (k.clock.0 e))) in
      let depends : p.depends_on ≡ q.depends_on =
      picked_same (DependsAt c.function ports port) (DependsAt d.function ports port) (λ j a. (a.0, a.1, depends_on_too port a.0 a.2)) (λ j a. (a.0, a.1, depends_on_back port a.0 a.2))
      (first_places (length ports)) p.depends_on q.depends_on h.depends k.depends in
      ap (λ (n : Name). pin_of_parts n p.dir p.is_clock p.depends_on) names ∙ ap (λ (x : Dir). pin_of_parts q.name x p.is_clock p.depends_on) dirs
      ∙ ap (λ (b : Bool). pin_of_parts q.name q.dir b p.depends_on) clocks ∙ ap (λ (ks : List ℕ). pin_of_parts q.name q.dir q.is_clock ks) depends

  pins_once : (ports rest : List Port) (ps qs : List ModelPin) → ArePins c.function ports rest ps → ArePins d.function ports rest qs → ps ≡ qs
  pins_once ports _ _ _ no_pins no_pins = refl
  pins_once ports _ _ _ (one_pin {port = port} {p = p} {rest = rest} {pins = ps} h more) (one_pin {p = q} {pins = qs} k others) =
      ap (λ (x : ModelPin). x ∷ ps) (one_pin_of ports port p q h k) ∙ ap (λ (l : List ModelPin). q ∷ l) (pins_once ports rest ps qs more others)

  ports_same : all_ports c ≡ all_ports d
  ports_same = ap (λ (ps : List Pin). with_supply vss (with_supply vdd (map (λ p. p.port) ps))) t.pins

  model_once : (m n : ModelPins) → IsModelOf c m → IsModelOf d n → m ≡ n
  model_once m n h k =
      let pins : ArePins c.function (all_ports d) (all_ports d) m.pins = subst (λ (ports : List Port). ArePins c.function ports ports m.pins) ports_same h.pins in
      let build : List ℕ → List ModelPin → ModelPins = λ name ps. record { model = name; pins = ps } in
      ap (λ (x : List ℕ). build x m.pins) (h.name ∙ t.name ∙ sym k.name) ∙ ap (λ (ps : List ModelPin). build n.model ps) (pins_once (all_ports d) (all_ports d) m.pins n.pins pins k.pins)

-- ---- tables

-- cell by cell
data AllTwins : List Cell → List Cell → Type 0 where
  no_twins : AllTwins [] []
  twins : {c d : Cell} {cs ds : List Cell} → AreTwins c d → AllTwins cs ds → AllTwins (c ∷ cs) (d ∷ ds)

tables_same : (all : Bool) (cs ds : List Cell) (ts us : List ModelPins) → AllTwins cs ds → AreModels (IsListed all) cs ts → AreModels (IsListed all) ds us → ts ≡ us
tables_same all _ _ _ _ no_twins no_models no_models = refl
tables_same all _ _ _ _ (twins {c = c} {d = d} {cs = cs} {ds = ds} t rest) (listed {m = m} {models = ts} l h more) (listed {m = n} {models = us} j k others) =
    ap (λ (x : ModelPins). x ∷ ts) (model_once c d t m n h k) ∙ ap (λ (xs : List ModelPins). n ∷ xs) (tables_same all cs ds ts us rest more others)
tables_same all _ _ _ _ (twins {c = c} {d = d} t rest) (listed l h more) (left_out lacks others) = absurd (lacks ((t.usable all).0 l))
tables_same all _ _ _ _ (twins {c = c} {d = d} t rest) (left_out lacks more) (listed j k others) = absurd (lacks ((t.usable all).1 j))
tables_same all _ _ ts us (twins {c = c} {d = d} {cs = cs} {ds = ds} t rest) (left_out lacks more) (left_out misses others) = tables_same all cs ds ts us rest more others

-- ---- libraries

listed_alike : (c d : Cell) → IsSameCell c d → (all : Bool) → IsListed all c ↔ IsListed all d
listed_alike c d s all = (to, from) where
  to : IsListed all c → IsListed all d
  to (inl a) = inl a
  to (inr u) = inr (s.usable.0 u)

  from : IsListed all d → IsListed all c
  from (inl a) = inl a
  from (inr u) = inr (s.usable.1 u)

module _ (machines : CellIsMachine) (same : MachinesHaveTheSameParts) where
  twins_of : (source : Source) (c d : Cell) → IsSaid source c → IsSaid source d → IsSameCell c d → IsSameCell d c → AreTwins c d
  twins_of source c d x y s r = record {
    name = s.name;
    pins = s.pins;
    there = depends_too machines same source c d x y (length (cell_inputs c)) c.function d.function refl refl s.function;
    back = depends_too machines same source d c y x (length (cell_inputs d)) d.function c.function refl refl r.function;
    clock_there = clock_too (length (cell_inputs c)) c.function d.function s.function;
    clock_back = clock_too (length (cell_inputs d)) d.function c.function r.function;
    usable = listed_alike c d s;
  }

  all_twins : (tracks others : Bool) (ss : List Source) (cs ds : List Cell) → AreCells (IsCell tracks) ss cs → AreCells (IsCell others) ss ds → AreSameCells cs ds → AreSameCells ds cs
      → AllTwins cs ds
  all_twins tracks others _ _ _ none none s r = no_twins
  all_twins tracks others _ _ _ (next {source = source} {rest = ss} {cell = c} {cells = cs} h more) (next {cell = d} {cells = ds} k further) s r =
      twins (twins_of source c d h.said k.said s.0 r.0) (all_twins tracks others ss cs ds more further s.1 r.1)

  pub tables_are_one : LibrariesAreSame → TablesAreOne
  tables_are_one libraries tracks others catal files l k all t u h g a b =
      let names : g.names ≡ h.names = sym (list.one_list catal g.names g.uses) ∙ list.one_list catal h.names h.uses in
      let cells : AreCells (IsCell others) (sources h.names files) k.cells = subst (λ (ns : List (List ℕ)). AreCells (IsCell others) (sources ns files) k.cells) names g.cells in
      tables_same all l.cells k.cells t u
      (all_twins tracks others (sources h.names files) l.cells k.cells h.cells cells (libraries tracks others catal files l k h g) (libraries others tracks catal files k l g h)) a b
