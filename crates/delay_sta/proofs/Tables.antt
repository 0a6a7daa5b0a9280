-- The pins that a table of a library's cells has for a cell.
use Rattle.std.proofs.Common.{◌≡◌, ◌≢◌, ◌⊎◌, inl, inr, ℕ, zero, suc, ◌+◌, ◌<◌, ◌≤◌, Bool, true, false, cond, List, [], ◌∷◌, ◌++◌, map, filter, length, bytes_eq, Some, refl, sym, ap, ◌∙◌, subst, arith}
use Rattle.std.specs.Prelude.{◌↔◌, IsTrue}
use Rattle.std.specs.Ordering.{is_lt, ordering_reverse}
use Rattle.std.specs.Cmp.Lexicographic.{bytes_decides}
use Rattle.std.specs.declared.cmp.Ordering.{Ordering}
use Rattle.std.specs.declared.cmp.Ordering.TheVariants.{Less, Equal, Greater}
use Rattle.std.proofs.lemmas.Option.{slice_get_within}
use Rattle.std.proofs.lemmas.Bool.{cases_lt}
use Rattle.vlsi_base.specs.declared.name.Name.{Name}
use Rattle.vlsi_base.specs.declared.name.Port.{Port}
use Rattle.vlsi_base.specs.declared.name.Dir.{Dir}
use Rattle.vlsi_base.specs.declared.name.Dir.TheVariants as dir
use Rattle.vlsi_base.specs.Name.{name_cmp}
use Rattle.vlsi_base.specs.Names.{vdd, vss, comes_before}
use Rattle.vlsi_base.specs.Member.{In, here, there, Picks, done, takes, skips}
use Rattle.vlsi_base.proofs.NameOrder.{name_total, name_exact}
use Rattle.machine_core.specs.Machine.{names_of}
use Rattle.machine_core.specs.Named.{is_same_text}
use Rattle.cell_model.specs.Cell.{Function, gate, flip_flop, other, opaque, Cell, pin_ports}
use Rattle.cell_model.specs.Library.{cell_named}
use Rattle.cell_model.specs.Usable.{IsFormed}
use Rattle.cell_model.specs.declared.cell.Pin.{Pin}
use Rattle.cell_checks.specs.Arcs.{HasPin, GoesThrough}
use Rattle.cell_pins.specs.Pins.{supply, with_supply, all_ports}
use Rattle.cell_pins.specs.Follows.{DependsAtOnce}
use Rattle.cell_pins.specs.Table.{first_places, DependsAt, IsPinOf, ArePins, one_pin, AreModels, no_models, listed, left_out}
use Rattle.net_core.specs.declared.pins.ModelPin.{ModelPin}
use Rattle.net_core.specs.declared.pins.ModelPins.{ModelPins}
use Rattle.net_core.specs.Places.{Stands, IsThere}
use Rattle.net_core.specs.Checks.{pins_named}
use Rattle.net_core.proofs.Lookups.{same_of, itself}
use Rattle.net_core.proofs.Standing.{stands_left, stands_right}
use Rattle.net_core.proofs.Frames.{mapped}
use Rattle.net_core.proofs.Pieces.{there_filter}

-- ---- members and places

pub there_In : {A : Type 0} (xs : List A) (k : ℕ) (x : A) → Stands xs k x → In x xs
there_In [] k x s = absurd cc
there_In {A} (y ∷ xs) zero x s = let e : Some y ≡ Some x = s in let same : y ≡ x = cc in subst (λ (z : A). In z (y ∷ xs)) same here
there_In (y ∷ xs) (suc k) x s = there (there_In xs k x s)

pub In_there : {A : Type 0} (x : A) (xs : List A) → In x xs → IsThere xs x
In_there x [] i = elim i [ ]
In_there x (y ∷ xs) here = (0, refl)
In_there x (y ∷ xs) (there i) = let r = In_there x xs i in (suc r.0, r.1)

-- ---- two tables have the same pins

picks_once : {A : Type 0} (P : A → Type 0) (xs ys zs : List A) → Picks P xs ys → Picks P xs zs → ys ≡ zs
picks_once P [] [] [] done done = refl
picks_once P [] [] (z ∷ zs) i j = elim j [ ]
picks_once P [] (y ∷ ys) zs i j = elim i [ ]
picks_once P (x ∷ xs) [] [] (skips p r) (skips q s) = refl
picks_once P (x ∷ xs) [] (z ∷ zs) (skips p r) (takes q s) = absurd (p q)
picks_once P (x ∷ xs) [] (z ∷ zs) (skips p r) (skips q s) = picks_once P xs [] (z ∷ zs) r s
picks_once P (x ∷ xs) (y ∷ ys) [] (takes p r) (skips q s) = absurd (q p)
picks_once P (x ∷ xs) (y ∷ ys) [] (skips p r) (skips q s) = picks_once P xs (y ∷ ys) [] r s
picks_once P (x ∷ xs) (y ∷ ys) (z ∷ zs) (takes p r) (takes q s) = ap (λ l. x ∷ l) (picks_once P xs ys zs r s)
picks_once P (x ∷ xs) (y ∷ ys) (z ∷ zs) (takes p r) (skips q s) = absurd (q p)
picks_once P (x ∷ xs) (y ∷ ys) (z ∷ zs) (skips p r) (takes q s) = absurd (p q)
picks_once P (x ∷ xs) (y ∷ ys) (z ∷ zs) (skips p r) (skips q s) = picks_once P xs (y ∷ ys) (z ∷ zs) r s

bool_same : (a b : Bool) (P : Type 0) → (IsTrue a ↔ P) → (IsTrue b ↔ P) → a ≡ b
bool_same true true P h g = refl
bool_same false false P h g = refl
bool_same true false P h g = let e : false ≡ true = g.1 (h.0 refl) in absurd cc
bool_same false true P h g = let e : false ≡ true = h.1 (g.0 refl) in absurd cc

make : Name → Dir → Bool → List ℕ → ModelPin
make name way clock depends = record { name = name; dir = way; is_clock = clock; depends_on = depends }

pin_same : (f : Function) (ports : List Port) (x : Port) (p q : ModelPin) → IsPinOf f ports x p → IsPinOf f ports x q → p ≡ q
unfolding make
pin_same f ports x p q h g =
    let e : p.name ≡ q.name = h.name ∙ sym g.name in
    let d : p.dir ≡ q.dir = h.dir ∙ sym g.dir in
    let c : p.is_clock ≡ q.is_clock = bool_same p.is_clock q.is_clock _ h.clock g.clock in
    let s : p.depends_on ≡ q.depends_on = picks_once (DependsAt f ports x) (first_places (length ports)) p.depends_on q.depends_on h.depends g.depends in
    ap (λ n. make n p.dir p.is_clock p.depends_on) e ∙ ap (λ w. make q.name w p.is_clock p.depends_on) d
    ∙ ap (λ b. make q.name q.dir b p.depends_on) c ∙ ap (λ l. make q.name q.dir q.is_clock l) s

pub pins_same : (f : Function) (ports xs : List Port) (ps qs : List ModelPin) → ArePins f ports xs ps → ArePins f ports xs qs → ps ≡ qs
pins_same f ports [] [] [] a b = refl
pins_same f ports [] [] (q ∷ qs) a b = elim b [ ]
pins_same f ports [] (p ∷ ps) qs a b = elim a [ ]
pins_same f ports (x ∷ xs) [] qs a b = elim a [ ]
pins_same f ports (x ∷ xs) (p ∷ ps) [] a b = elim b [ ]
pins_same f ports (x ∷ xs) (p ∷ ps) (q ∷ qs) (one_pin i r) (one_pin j s) =
    ap (λ (y : ModelPin). y ∷ ps) (pin_same f ports x p q i j) ∙ ap (λ (l : List ModelPin). q ∷ l) (pins_same f ports xs ps qs r s)

pub names_same : (f : Function) (ports xs : List Port) (ps : List ModelPin) → ArePins f ports xs ps → map (λ p. p.name) ps ≡ names_of xs
names_same f ports [] [] a = refl
names_same f ports [] (p ∷ ps) a = elim a [ ]
names_same f ports (x ∷ xs) [] a = elim a [ ]
names_same f ports (x ∷ xs) (p ∷ ps) (one_pin i r) =
    ap (λ (n : Name). n ∷ map (λ p. p.name) ps) i.name ∙ ap (λ (l : List Name). x.name ∷ l) (names_same f ports xs ps r)

-- ---- the pins of a cell in a table

text_true : (a b : List ℕ) → is_same_text a b ≡ true → a ≡ b
text_true a b e = (bytes_decides a b).0 e

text_false : (a b : List ℕ) → is_same_text a b ≡ false → a ≢ b
text_false a b e same = let t : is_same_text a b ≡ true = (bytes_decides a b).1 same in let no : true ≡ false = sym t ∙ e in absurd cc

bytes_false : (a b : List ℕ) → a ≢ b → bytes_eq a b ≡ false
bytes_false a b apart = by (bytes_eq a b) refl where
  by : (r : Bool) → bytes_eq a b ≡ r → bytes_eq a b ≡ false
  by true e = absurd (apart (same_of a b e))
  by false e = e

bytes_true : (a b : List ℕ) → a ≡ b → bytes_eq a b ≡ true
bytes_true a b e = subst (λ (x : List ℕ). bytes_eq a x ≡ true) e (itself a)

pub record Row (table : List ModelPins) (model : List ℕ) (c : Cell) : Type 0 where
  pub listed : IsThere (map (λ m. m.model) table) model
  pub pins : ArePins c.function (all_ports c) (all_ports c) (pins_named table model)

later_row : (m : ModelPins) (models : List ModelPins) (model : List ℕ) (c : Cell) → m.model ≢ model → Row models model c → Row (m ∷ models) model c
later_row m models model c apart r = record {
  listed = (suc r.listed.0, r.listed.1);
  pins = subst (λ (ps : List ModelPin). ArePins c.function (all_ports c) (all_ports c) ps) (sym (ap (λ b. cond b m.pins (pins_named models model)) (bytes_false m.model model apart))) r.pins;
}

pub row_of : (P : Cell → Type 0) (cells : List Cell) (table : List ModelPins) (model : List ℕ) (c : Cell) → AreModels P cells table → cell_named cells model ≡ Some c → P c → Row table model c
row_of P _ _ model c no_models e p = absurd cc
row_of P _ _ model c (listed {c = d} {m = m} {cells = cells} {models = models} q is rest) e p = by (row_of P cells models model c rest) (is_same_text d.name model) refl e where
  by : (cell_named cells model ≡ Some c → P c → Row models model c) → (b : Bool) → is_same_text d.name model ≡ b → cond b (Some d) (cell_named cells model) ≡ Some c → Row (m ∷ models) model c
  by further true t e =
      let same : d ≡ c = cc in
      let name : m.model ≡ model = is.name ∙ text_true d.name model t in
      let test : bytes_eq m.model model ≡ true = bytes_true m.model model name in
      subst (λ (x : Cell). Row (m ∷ models) model x) same (record {
        listed = (0, ap Some name);
        pins = subst (λ (ps : List ModelPin). ArePins d.function (all_ports d) (all_ports d) ps) (sym (ap (λ b. cond b m.pins (pins_named models model)) test)) is.pins;
      })
  by further false t e = later_row m models model c (λ s. text_false d.name model t (sym is.name ∙ s)) (further e p)
row_of P _ _ model c (left_out {c = d} {cells = cells} {models = models} q rest) e p = by (row_of P cells models model c rest) (is_same_text d.name model) e where
  by : (cell_named cells model ≡ Some c → P c → Row models model c) → (b : Bool) → cond b (Some d) (cell_named cells model) ≡ Some c → Row models model c
  by further true e = let same : c ≡ d = cc in absurd (q (subst P same p))
  by further false e = further e p

pub pin_at_place : (f : Function) (ports xs : List Port) (ps : List ModelPin) (k : ℕ) (x : Port) → ArePins f ports xs ps → Stands xs k x → (q : ModelPin) × Stands ps k q × IsPinOf f ports x q
pin_at_place f ports [] ps k x a s = absurd cc
pin_at_place f ports (y ∷ xs) [] k x a s = elim a [ ]
pin_at_place f ports (y ∷ xs) (p ∷ ps) zero x (one_pin i r) s = let e : Some y ≡ Some x = s in let same : y ≡ x = cc in (p, refl, subst (λ (z : Port). IsPinOf f ports z p) same i)
pin_at_place f ports (y ∷ xs) (p ∷ ps) (suc k) x (one_pin i r) s = pin_at_place f ports xs ps k x r s

-- ---- signal pins among all pins

before_or_behind : (a b : Name) → a ≢ b → (comes_before a b ≡ true) ⊎ (comes_before b a ≡ true)
before_or_behind a b apart = by (name_cmp a b) refl where
  by : (o : Ordering) → name_cmp a b ≡ o → (comes_before a b ≡ true) ⊎ (comes_before b a ≡ true)
  by Less e = inl (ap is_lt e)
  by Equal e = absurd (apart (name_exact a b e))
  by Greater e = inr (ap is_lt (name_total.antisymm b a ∙ ap ordering_reverse e))

in_supplied : (name : Name) (ps : List Port) (x : Port) → x.name ≢ name → IsThere ps x → IsThere (with_supply name ps) x
in_supplied name ps x apart t = elim (before_or_behind x.name name apart) [
  | inl e ↦
      let r = there_filter (λ (p : Port). comes_before p.name name) ps t.0 x t.1 e in
      (r.0, stands_left (filter (λ p. comes_before p.name name) ps) (supply name ∷ filter (λ p. comes_before name p.name) ps) r.0 x r.1)
  | inr e ↦
      let r = there_filter (λ (p : Port). comes_before name p.name) ps t.0 x t.1 e in (
        length (filter (λ p. comes_before p.name name) ps) + suc r.0,
        stands_right (filter (λ p. comes_before p.name name) ps) (supply name ∷ filter (λ p. comes_before name p.name) ps) (suc r.0) x r.1,
      )
]

-- a pin that the cell has, as a port that is no supply
pub record Signal (c : Cell) (way : Dir) (name : Name) : Type 0 where
  pub port : Port
  pub named : port.name ≡ name
  pub is : port.dir ≡ way
  pub high : name ≢ vdd
  pub low : name ≢ vss
  pub place : ℕ
  pub stands : Stands (all_ports c) place port

pub signal_of : (c : Cell) (way : Dir) (name : Name) → IsFormed c → HasPin c.pins way name → Signal c way name
signal_of c way name formed h =
    let s : Stands (pin_ports c) h.listed.0 h.pin.port = mapped (λ (p : Pin). p.port) c.pins h.listed.0 h.pin h.listed.1 in
    let n : Stands (names_of (pin_ports c)) h.listed.0 h.pin.port.name = mapped (λ (p : Port). p.name) (pin_ports c) h.listed.0 h.pin.port s in
    let apart = formed.signals h.pin.port.name (there_In (names_of (pin_ports c)) h.listed.0 h.pin.port.name n) in
    let t = in_supplied vss (with_supply vdd (pin_ports c)) h.pin.port apart.1 (in_supplied vdd (pin_ports c) h.pin.port apart.0 (h.listed.0, s)) in
    record {
      port = h.pin.port;
      named = h.named;
      is = h.is;
      high = subst (λ (m : Name). m ≢ vdd) h.named apart.0;
      low = subst (λ (m : Name). m ≢ vss) h.named apart.1;
      place = t.0;
      stands = t.1;
    }

-- ---- a gate's output depends on its inputs

member_cases : {A : Type 0} (x y : A) (ys : List A) → In x (y ∷ ys) → (y ≡ x) ⊎ In x ys
member_cases x y ys here = inl refl
member_cases x y ys (there i) = inr i

picked_in : {A : Type 0} (P : A → Type 0) (xs ys : List A) (x : A) → Picks P xs ys → In x xs → P x → In x ys
picked_in {A} P _ _ x done i h = absurd (elim i [ ])
picked_in {A} P _ _ x (takes {x = z} {xs = xs} {ys = ys} p more) i h = elim (member_cases x z xs i) [
  | inl e ↦ subst (λ (v : A). In v (z ∷ ys)) e here
  | inr j ↦ there (picked_in P xs ys x more j h)
]
picked_in {A} P _ _ x (skips {x = z} {xs = xs} {ys = ys} p more) i h = elim (member_cases x z xs i) [
  | inl e ↦ absurd (p (subst P (sym e) h))
  | inr j ↦ picked_in P xs ys x more j h
]

in_first : (xs ys : List ℕ) (x : ℕ) → In x xs → In x (xs ++ ys)
in_first [] ys x i = elim i [ ]
in_first (y ∷ xs) ys x here = here
in_first (y ∷ xs) ys x (there i) = there (in_first xs ys x i)

in_last : (xs : List ℕ) (x : ℕ) → In x (xs ++ x ∷ [])
in_last [] x = here
in_last (y ∷ xs) x = there (in_last xs x)

first_places_in : (n k : ℕ) → k < n → In k (first_places n)
first_places_in zero k l = absurd (omega (arith, l))
first_places_in (suc n) k l = by (cases_lt k n) (first_places_in n k) where
  by : (k < n) ⊎ (n ≤ k) → (k < n → In k (first_places n)) → In k (first_places n ++ n ∷ [])
  by (inl m) rest = in_first (first_places n) (n ∷ []) k (rest m)
  by (inr m) rest = let e : n ≡ k = omega (arith, l, m) in subst (λ j. In j (first_places n ++ n ∷ [])) e (in_last (first_places n) n)

goes_at_once : (f : Function) (output input : Name) → GoesThrough f input → input ≢ vdd → input ≢ vss → DependsAtOnce f output input
goes_at_once (gate e) output input h a b = (a, b)
goes_at_once (flip_flop d c) output input h a b = absurd h
goes_at_once (other m) output input h a b = absurd h
goes_at_once opaque output input h a b = absurd h

pub depends_there : (c : Cell) (p : ModelPin) (out : Port) (name : Name) (s : Signal c dir.In name) → GoesThrough c.function name → IsPinOf c.function (all_ports c) out p → out.dir ≡ dir.Out → IsThere p.depends_on s.place
depends_there c p out name s goes is gives =
    In_there s.place p.depends_on
    (picked_in (DependsAt c.function (all_ports c) out) (first_places (length (all_ports c))) p.depends_on s.place is.depends
    (first_places_in (length (all_ports c)) s.place (slice_get_within (all_ports c) s.place s.port s.stands))
    (s.port, s.stands, (gives, s.is, subst (λ (n : Name). DependsAtOnce c.function out.name n) (sym s.named) (goes_at_once c.function out.name name goes s.high s.low))))
