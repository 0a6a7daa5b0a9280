-- The models that a table of usable cells lists.
use Rattle.std.proofs.Common.{◌≡◌, ◌≢◌, ℕ, zero, suc, Bool, true, false, cond, List, [], ◌∷◌, map, Some, inl, inr, refl, sym, ap, ◌∙◌, subst}
use Rattle.vlsi_base.specs.Member.{In, here, there}
use Rattle.machine_core.specs.Named.{is_same_text}
use Rattle.cell_model.specs.Cell.{Cell}
use Rattle.cell_model.specs.Library.{cell_named, IsUsable}
use Rattle.cell_model.proofs.Texts.{text_same, text_itself, text_differs}
use Rattle.cell_pins.specs.Table.{IsListed, AreModels, no_models, listed, left_out}
use Rattle.cell_pins.proofs.Sound.{Apart, apart_rest, apart_first}
use Rattle.net_core.specs.declared.pins.ModelPins.{ModelPins}
use Rattle.net_core.specs.Places.{Stands, IsThere}

-- a usable cell of this name
pub record HasCell (cells : List Cell) (model : List ℕ) : Type 0 where
  pub cell : Cell
  pub found : cell_named cells model ≡ Some cell
  pub usable : IsUsable cell
  pub listed : In cell cells
  pub named : cell.name ≡ model

is_usable : (c : Cell) → IsListed false c → IsUsable c
is_usable c (inl bad) = let e : false ≡ true = bad in absurd cc
is_usable c (inr is) = is

first : (c : Cell) (cells : List Cell) (model : List ℕ) → is_same_text c.name model ≡ true → IsUsable c → HasCell (c ∷ cells) model
first c cells model same usable = record {
  cell = c;
  found = ap (λ (b : Bool). cond b (Some c) (cell_named cells model)) same;
  usable = usable;
  listed = here;
  named = text_same c.name model same;
}

later : (c : Cell) (cells : List Cell) (model : List ℕ) → c.name ≢ model → HasCell cells model → HasCell (c ∷ cells) model
later c cells model other r = record {
  cell = r.cell;
  found = ap (λ (b : Bool). cond b (Some c) (cell_named cells model)) (text_differs c.name model other) ∙ r.found;
  usable = r.usable;
  listed = there r.listed;
  named = r.named;
}

differ : (a b : List ℕ) → is_same_text a b ≡ false → a ≢ b
differ a b e same =
    let t : is_same_text a a ≡ true = text_itself a in
    let s : is_same_text a b ≡ true = subst (λ (x : List ℕ). is_same_text a x ≡ true) same t in
    let never : true ≡ false = sym s ∙ e in cc never

behind : (m : ModelPins) (models : List ModelPins) (model : List ℕ) → m.model ≢ model → IsThere (map (λ (x : ModelPins). x.model) (m ∷ models)) model
    → IsThere (map (λ (x : ModelPins). x.model) models) model
behind m models model apart t = by t.0 t.1 where
  by : (k : ℕ) → Stands (m.model ∷ map (λ (x : ModelPins). x.model) models) k model → IsThere (map (λ (x : ModelPins). x.model) models) model
  by zero s = let e : m.model ≡ model = cc s in absurd (apart e)
  by (suc k) s = (k, s)

-- each model that is listed is such a cell
pub usable_cell : (cells : List Cell) (table : List ModelPins) (model : List ℕ) → AreModels (IsListed false) cells table → Apart cells
    → IsThere (map (λ (x : ModelPins). x.model) table) model → HasCell cells model
usable_cell _ _ model no_models apart t = absurd (nothing t.0 t.1) where
  nothing : (k : ℕ) → Stands [] k model → ⊥
  nothing k s = absurd cc
usable_cell _ _ model (listed {c = c} {m = m} {cells = cells} {models = models} p is rest) apart t =
    by (is_same_text c.name model) refl (usable_cell cells models model rest (apart_rest c cells apart)) where
      by : (b : Bool) → is_same_text c.name model ≡ b → (IsThere (map (λ (x : ModelPins). x.model) models) model → HasCell cells model) → HasCell (c ∷ cells) model
      by true e more = first c cells model e (is_usable c p)
      by false e more =
          let other = differ c.name model e in
          later c cells model other (more (behind m models model (λ q. other (sym is.name ∙ q)) t))
usable_cell _ _ model (left_out {c = c} {cells = cells} {models = models} p rest) apart t =
    let r = usable_cell cells models model rest (apart_rest c cells apart) t in
    later c cells model (λ q. apart_first c r.cell cells apart r.listed (q ∙ sym r.named)) r
