-- The models of a table and the cells of a library.
use Rattle.std.proofs.Common.{◌≡◌, ℕ, zero, suc, Bool, true, false, cond, List, [], ◌∷◌, map, Some, None, refl, sym, ◌∙◌, ap, subst, bytes_eq}
use Rattle.std.proofs.lemmas.Bool.{cond-true, cond-false, false_from_ne_true}
use Rattle.std.proofs.lemmas.Option.{same_Some}
use Rattle.vlsi_base.specs.Member.{In, here, there}
use Rattle.machine_core.specs.Named.{is_same_text}
use Rattle.net_core.specs.declared.pins.ModelPins.{ModelPins}
use Rattle.net_core.specs.Places.{Stands, IsThere}
use Rattle.net_core.specs.Checks.{pins_named}
use Rattle.net_core.proofs.Lookups.{same_of, itself}
use Rattle.cell_model.specs.Cell.{Cell}
use Rattle.cell_model.specs.Library.{cell_named}
use Rattle.cell_model.proofs.Texts.{text_same, text_itself}
use Rattle.cell_pins.specs.Table.{IsModelOf, AreModels, listed, left_out}
use Rattle.cell_pins.proofs.Sound.{Apart, apart_rest, apart_first}

-- ---- cells by their names

-- the cell of a name is listed, and has this name
pub named_cell : (cells : List Cell) (model : List ℕ) (c : Cell) → cell_named cells model ≡ Some c → In c cells × (c.name ≡ model)
named_cell [] model c e = let n : None ≡ Some c = e in absurd cc
named_cell (b ∷ cells) model c e = by (is_same_text b.name model) refl (named_cell cells model c) e where
  by : (t : Bool) → is_same_text b.name model ≡ t → (cell_named cells model ≡ Some c → In c cells × (c.name ≡ model))
      → cond t (Some b) (cell_named cells model) ≡ Some c → In c (b ∷ cells) × (c.name ≡ model)
  by true same rest h =
      let is : b ≡ c = same_Some b c h in
      (subst (λ (x : Cell). In x (b ∷ cells)) is here, ap (λ (x : Cell). x.name) (sym is) ∙ text_same b.name model same)
  by false same rest h = let r = rest h in (there r.0, r.1)

-- ---- the model of a cell

-- the first model of this name is the cell's
pub record HasModel (c : Cell) (table : List ModelPins) (model : List ℕ) : Type 0 where
  pub found : ModelPins
  pub is : IsModelOf c found
  pub pins : pins_named table model ≡ found.pins
  pub known : IsThere (map (λ m. m.model) table) model

head_pins : (m : ModelPins) (table : List ModelPins) (model : List ℕ) → m.model ≡ model → pins_named (m ∷ table) model ≡ m.pins
head_pins m table model e = cond-true (bytes_eq m.model model) m.pins (pins_named table model) (subst (λ (x : List ℕ). bytes_eq m.model x ≡ true) e (itself m.model))

later_pins : (m : ModelPins) (table : List ModelPins) (model : List ℕ) → (m.model ≡ model → ⊥) → pins_named (m ∷ table) model ≡ pins_named table model
later_pins m table model differ = cond-false (bytes_eq m.model model) m.pins (pins_named table model) (false_from_ne_true (bytes_eq m.model model) (λ t. differ (same_of m.model model t)))

not_named : (b : Cell) (m : ModelPins) (model : List ℕ) → IsModelOf b m → is_same_text b.name model ≡ false → m.model ≡ model → ⊥
not_named b m model is differ same =
    let yes_same : is_same_text b.name model ≡ true = subst (λ (x : List ℕ). is_same_text b.name x ≡ true) (sym is.name ∙ same) (text_itself b.name) in
    let never : true ≡ false = sym yes_same ∙ differ in cc never

-- a cell that is left out is another one
passed_by : (P : Cell → Type 0) (b : Cell) (cells : List Cell) (table : List ModelPins) (c : Cell) (model : List ℕ) → (P b → ⊥)
    → (cell_named cells model ≡ Some c → P c → HasModel c table model) → cell_named (b ∷ cells) model ≡ Some c → P c → HasModel c table model
passed_by P b cells table c model without rest found p = by (is_same_text b.name model) found where
  by : (t : Bool) → cond t (Some b) (cell_named cells model) ≡ Some c → HasModel c table model
  by true h = absurd (without (subst (λ (x : Cell). P x) (sym (same_Some b c h)) p))
  by false h = rest h p

pub model_found : (P : Cell → Type 0) (cells : List Cell) (table : List ModelPins) (c : Cell) (model : List ℕ) → AreModels P cells table → cell_named cells model ≡ Some c → P c
    → HasModel c table model
model_found P [] table c model r found p = let n : None ≡ Some c = found in absurd cc
model_found P (b ∷ cells) [] c model (left_out without rest) found p = passed_by P b cells [] c model without (model_found P cells [] c model rest) found p
model_found P (b ∷ cells) (m ∷ table) c model (left_out without rest) found p = passed_by P b cells (m ∷ table) c model without (model_found P cells (m ∷ table) c model rest) found p
model_found P (b ∷ cells) (m ∷ table) c model (listed q is rest) found p = by (is_same_text b.name model) refl (model_found P cells table c model rest) found where
  by : (t : Bool) → is_same_text b.name model ≡ t → (cell_named cells model ≡ Some c → P c → HasModel c table model) → cond t (Some b) (cell_named cells model) ≡ Some c
      → HasModel c (m ∷ table) model
  by true e later h =
      let named : m.model ≡ model = is.name ∙ text_same b.name model e in
      record {
        found = m;
        is = subst (λ (x : Cell). IsModelOf x m) (same_Some b c h) is;
        pins = head_pins m table model named;
        known = (0, ap Some named);
      }
  by false e later h =
      let r = later h p in
      record {
        found = r.found;
        is = r.is;
        pins = later_pins m table model (not_named b m model is e) ∙ r.pins;
        known = (suc r.known.0, r.known.1);
      }

-- ---- the cell of a model

abbrev HasCell : (Cell → Type 0) → List Cell → List ℕ → Type 0
HasCell P cells model = (c : Cell) × (cell_named cells model ≡ Some c) × P c

behind : (P : Cell → Type 0) (b : Cell) (cells : List Cell) (model : List ℕ) → Apart (b ∷ cells) → HasCell P cells model → HasCell P (b ∷ cells) model
behind P b cells model apart r = by (is_same_text b.name model) refl where
  by : (t : Bool) → is_same_text b.name model ≡ t → (c : Cell) × (cond t (Some b) (cell_named cells model) ≡ Some c) × P c
  by true e =
      let n = named_cell cells model r.0 r.1 in
      absurd (apart_first b r.0 cells apart n.0 (text_same b.name model e ∙ sym n.1))
  by false e = r

-- the cell of a model that is listed is the library's of this name
pub cell_listed : (P : Cell → Type 0) (cells : List Cell) (table : List ModelPins) (model : List ℕ) → Apart cells → AreModels P cells table → IsThere (map (λ m. m.model) table) model
    → (c : Cell) × (cell_named cells model ≡ Some c) × P c
cell_listed P cells [] model apart r t = let n : None ≡ Some model = t.1 in absurd cc
cell_listed P [] (m ∷ table) model apart r t = elim r [ ]
cell_listed P (b ∷ cells) (m ∷ table) model apart (left_out without rest) t = behind P b cells model apart (cell_listed P cells (m ∷ table) model (apart_rest b cells apart) rest t)
cell_listed P (b ∷ cells) (m ∷ table) model apart (listed q is rest) t = by t.0 t.1 (cell_listed P cells table model (apart_rest b cells apart) rest) where
  head : m.model ≡ model → HasCell P (b ∷ cells) model
  head named =
      (b, cond-true (is_same_text b.name model) (Some b) (cell_named cells model) (subst (λ (x : List ℕ). is_same_text b.name x ≡ true) (sym is.name ∙ named) (text_itself b.name)), q)

  by : (k : ℕ) → Stands (map (λ (x : ModelPins). x.model) (m ∷ table)) k model → (IsThere (map (λ (x : ModelPins). x.model) table) model → HasCell P cells model) → HasCell P (b ∷ cells) model
  by zero s later = head (same_Some m.model model s)
  by (suc k) s later = behind P b cells model apart (later (k, s))
