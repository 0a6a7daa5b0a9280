-- The usable cells in a table of pins, and the netlists that fit it.
use Rattle.std.proofs.Common.{◌≡◌, ◌≢◌, inl, inr, ℕ, zero, suc, Bool, true, false, cond, List, [], ◌∷◌, map, bytes_eq, Some, refl, sym, ap, ◌∙◌, subst}
use Rattle.std.specs.Cmp.Lexicographic.{bytes_decides}
use Rattle.vlsi_base.specs.declared.name.Name.{Name}
use Rattle.vlsi_base.specs.declared.name.Port.{Port}
use Rattle.vlsi_base.specs.Member.{In, here, there}
use Rattle.machine_core.specs.Machine.{names_of}
use Rattle.machine_core.specs.Named.{is_same_text}
use Rattle.cell_model.specs.Cell.{Cell, Function}
use Rattle.cell_model.specs.Library.{cell_named, IsUsable}
use Rattle.cell_pins.specs.Pins.{all_ports}
use Rattle.cell_pins.specs.Table.{ArePins, no_pins, one_pin, IsModelOf, AreModels, no_models, listed, left_out, IsListed}
use Rattle.net_core.specs.declared.pins.ModelPin.{ModelPin}
use Rattle.net_core.specs.declared.pins.ModelPins.{ModelPins}
use Rattle.net_core.specs.Places.{Stands, IsThere}
use Rattle.net_core.specs.Checks.{pins_named}
use Rattle.net_core.proofs.Lookups.{same_of, itself}

text_true : (a b : List ℕ) → is_same_text a b ≡ true → a ≡ b
text_true a b e = (bytes_decides a b).0 e

text_false : (a b : List ℕ) → is_same_text a b ≡ false → a ≢ b
text_false a b e same = let t : is_same_text a b ≡ true = (bytes_decides a b).1 same in let no : true ≡ false = sym t ∙ e in absurd cc

bytes_false : (a b : List ℕ) → a ≢ b → bytes_eq a b ≡ false
bytes_false a b apart = by (bytes_eq a b) refl where
  by : (r : Bool) → bytes_eq a b ≡ r → bytes_eq a b ≡ false
  by true e = absurd (apart (same_of a b e))
  by false e = e

bytes_true : (a b : List ℕ) → a ≡ b → bytes_eq a b ≡ true
bytes_true a b e = subst (λ (x : List ℕ). bytes_eq a x ≡ true) e (itself a)

text_false_of : (a b : List ℕ) → a ≢ b → is_same_text a b ≡ false
text_false_of a b apart = by (is_same_text a b) refl where
  by : (r : Bool) → is_same_text a b ≡ r → is_same_text a b ≡ false
  by true e = absurd (apart (text_true a b e))
  by false e = e

pin_names : (f : Function) (ports xs : List Port) (ps : List ModelPin) → ArePins f ports xs ps → map (λ (p : ModelPin). p.name) ps ≡ names_of xs
pin_names f ports _ _ no_pins = refl
pin_names f ports _ _ (one_pin {port = x} {p = p} {rest = rest} {pins = pins} is more) =
    ap (λ (n : Name). n ∷ map (λ (q : ModelPin). q.name) pins) is.name ∙ ap (λ (ns : List Name). x.name ∷ ns) (pin_names f ports rest pins more)

-- no two cells of a list have one name
abbrev pub AreApart : List Cell → Type 0
AreApart [] = Unit {0}
AreApart (c ∷ cells) = ((d : Cell) → In d cells → c.name ≢ d.name) × AreApart cells

-- a usable cell of this name, and its pins in the table
pub record Row (cells : List Cell) (table : List ModelPins) (model : List ℕ) : Type 0 where
  pub cell : Cell
  pub found : cell_named cells model ≡ Some cell
  pub listed : In cell cells
  pub named : cell.name ≡ model
  pub usable : IsUsable cell
  pub pins : map (λ (p : ModelPin). p.name) (pins_named table model) ≡ names_of (all_ports cell)

behind : (m : ModelPins) (models : List ModelPins) (model : List ℕ) → m.model ≢ model → IsThere (map (λ (x : ModelPins). x.model) (m ∷ models)) model
    → IsThere (map (λ (x : ModelPins). x.model) models) model
behind m models model apart t = by t.0 t.1 where
  by : (k : ℕ) → Stands (m.model ∷ map (λ (x : ModelPins). x.model) models) k model → IsThere (map (λ (x : ModelPins). x.model) models) model
  by zero s = let e : m.model ≡ model = cc s in absurd (apart e)
  by (suc k) s = (k, s)

is_usable : (c : Cell) → IsListed false c → IsUsable c
is_usable c (inl bad) = let e : false ≡ true = bad in absurd cc
is_usable c (inr is) = is

passed : (c : Cell) (cells : List Cell) (m : ModelPins) (models : List ModelPins) (model : List ℕ) → c.name ≢ model → m.model ≢ model
    → Row cells models model → Row (c ∷ cells) (m ∷ models) model
passed c cells m models model apart other r = record {
  cell = r.cell;
  found = ap (λ (b : Bool). cond b (Some c) (cell_named cells model)) (text_false_of c.name model apart) ∙ r.found;
  listed = there r.listed;
  named = r.named;
  usable = r.usable;
  pins = ap (λ (b : Bool). map (λ (p : ModelPin). p.name) (cond b m.pins (pins_named models model))) (bytes_false m.model model other) ∙ r.pins;
}

first : (c : Cell) (cells : List Cell) (m : ModelPins) (models : List ModelPins) (model : List ℕ) → c.name ≡ model → IsUsable c → IsModelOf c m
    → Row (c ∷ cells) (m ∷ models) model
first c cells m models model same usable is = record {
  cell = c;
  found = ap (λ (b : Bool). cond b (Some c) (cell_named cells model)) ((bytes_decides c.name model).1 same);
  listed = here;
  named = same;
  usable = usable;
  pins = ap (λ (b : Bool). map (λ (p : ModelPin). p.name) (cond b m.pins (pins_named models model))) (bytes_true m.model model (is.name ∙ same))
      ∙ pin_names c.function (all_ports c) (all_ports c) m.pins is.pins;
}

-- a model that the table lists
pub row_of : (cells : List Cell) (table : List ModelPins) (model : List ℕ) → AreModels (IsListed false) cells table → AreApart cells
    → IsThere (map (λ m. m.model) table) model → Row cells table model
row_of _ _ model no_models apart t = absurd (nothing t.0 t.1) where
  nothing : (k : ℕ) → Stands [] k model → ⊥
  nothing k s = absurd cc
row_of _ _ model (listed {c = c} {m = m} {cells = cells} {models = models} p is rest) apart t = by (is_same_text c.name model) refl (row_of cells models model rest apart.1) where
  by : (b : Bool) → is_same_text c.name model ≡ b → (IsThere (map (λ (x : ModelPins). x.model) models) model → Row cells models model) → Row (c ∷ cells) (m ∷ models) model
  by true e later = first c cells m models model (text_true c.name model e) (is_usable c p) is
  by false e later =
      let other = text_false c.name model e in
      let also : m.model ≢ model = λ q. other (sym is.name ∙ q) in
      passed c cells m models model other also (later (behind m models model also t))
row_of _ _ model (left_out {c = c} {cells = cells} {models = models} p rest) apart t =
    let r = row_of cells models model rest apart.1 t in
    let other : c.name ≢ model = λ q. apart.0 r.cell r.listed (q ∙ sym r.named) in
    record {
      cell = r.cell;
      found = ap (λ (b : Bool). cond b (Some c) (cell_named cells model)) (text_false_of c.name model other) ∙ r.found;
      listed = there r.listed;
      named = r.named;
      usable = r.usable;
      pins = r.pins;
    }

-- a usable cell is listed
pub is_listed : (cells : List Cell) (table : List ModelPins) (model : List ℕ) (c : Cell) → AreModels (IsListed false) cells table
    → cell_named cells model ≡ Some c → IsUsable c → IsThere (map (λ m. m.model) table) model
is_listed _ _ model c no_models found usable = absurd cc
is_listed _ _ model c (listed {c = d} {m = m} {cells = cells} {models = models} p is rest) found usable =
    by (is_same_text d.name model) refl found (λ f. is_listed cells models model c rest f usable) where
      by : (b : Bool) → is_same_text d.name model ≡ b → cond b (Some d) (cell_named cells model) ≡ Some c
          → (cell_named cells model ≡ Some c → IsThere (map (λ (x : ModelPins). x.model) models) model) → IsThere (map (λ (x : ModelPins). x.model) (m ∷ models)) model
      by true e f later = (zero, ap Some (is.name ∙ text_true d.name model e))
      by false e f later = let r = later f in (suc r.0, r.1)
is_listed _ _ model c (left_out {c = d} {cells = cells} {models = models} p rest) found usable =
    by (is_same_text d.name model) found (λ f. is_listed cells models model c rest f usable) where
      by : (b : Bool) → cond b (Some d) (cell_named cells model) ≡ Some c → (cell_named cells model ≡ Some c → IsThere (map (λ (x : ModelPins). x.model) models) model)
          → IsThere (map (λ (x : ModelPins). x.model) models) model
      by true f later = let same : d ≡ c = cc f in absurd (p (inr (subst IsUsable (sym same) usable)))
      by false f later = later f
