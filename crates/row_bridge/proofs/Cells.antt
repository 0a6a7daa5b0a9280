-- The cells of a netlist's instances stand in rows, as wide as they are by number.
use Rattle.std.proofs.Common.{◌≡◌, ℕ, zero, suc, ◌*◌, ◌<◌, List, [], ◌∷◌, ◌++◌, map, length, get_or, slice_index, Some, refl, sym, ap, subst, ◌∙◌, arith}
use Rattle.std.specs.Prelude.{pos}
use Rattle.std.proofs.lemmas.Int.{ints}
use Rattle.std.proofs.lemmas.Option.{same_Some}
use Rattle.std.proofs.lemmas.List.{length-map, get_or_append_left, get_or_push}
use Rattle.vlsi_base.specs.Member.{In}
use Rattle.sym_geom.specs.declared.rect.Rect.{Rect}
use Rattle.cell_model.specs.Cell.{Cell, cell_width, cell_height}
use Rattle.cell_model.specs.Library.{Library, cell_of}
use Rattle.cell_checks.specs.Checks.{StandsInRow}
use Rattle.net_meaning.specs.Netlist.{Member, AbstractNetlist}
use Rattle.net_drawing.specs.Clean.{IsClean}
use Rattle.ocp_rows.specs.Placement.{natural, model_width, width_of}
use Rattle.ocp_place.specs.Orderly.{IsOrderly}
use Rattle.ocp_place.specs.Stood.{member, instance_widths}
use Rattle.ocp_place.proofs.Widths.{member_in}

pub clean_row : (c : Cell) → IsClean c → StandsInRow c
clean_row c clean = record {
  columns = clean.columns;
  box = record {
    wide = clean.wide;
    left = ap (λ (r : Rect). r.x1) clean.box;
    low = ap (λ (r : Rect). r.y1) clean.box;
    right = ap (λ (r : Rect). r.x2) clean.box;
    high = ap (λ (r : Rect). r.y2) clean.box;
  };
}

pub width_is : (c : Cell) (row : StandsInRow c) → cell_width c ≡ pos (500 * row.columns)
width_is c row = let a = row.box.left in let b = row.box.right in omega (arith, ints)

pub height_is : (c : Cell) → StandsInRow c → cell_height c ≡ pos 5000
height_is c row = let a = row.box.low in let b = row.box.high in omega (arith, ints)

-- the width of the instance of a number, before one more
pub own_width : (l : Library) (ms : List Member) (last i : ℕ) → i < length ms → slice_index (instance_widths l ms ++ last ∷ []) i ≡ natural (model_width l (member ms i).model)
own_width l ms last i low =
    let own : Member → ℕ = λ m. natural (model_width l m.model) in
    let many = length-map ms own in
    get_or_append_left (map own ms) (last ∷ []) 0 i (omega arith) ∙ at ms i low
  where
    at : (xs : List Member) (k : ℕ) → k < length xs → get_or (map (λ m. natural (model_width l m.model)) xs) k 0 ≡ natural (model_width l (member xs k).model)
    at [] k m = absurd (omega arith)
    at (x ∷ xs) zero m = refl
    at (x ∷ xs) (suc k) m = at xs k (omega arith)

pub last_width : (l : Library) (ms : List Member) (last : ℕ) → slice_index (instance_widths l ms ++ last ∷ []) (length ms) ≡ last
last_width l ms last =
    let own : Member → ℕ = λ m. natural (model_width l m.model) in
    get_or_push (map own ms) last 0 (length ms) (length-map ms own)

module _ (n : AbstractNetlist) (l : Library) (orderly : IsOrderly n l) where
  pub in_row : (m : Member) (c : Cell) → In m n.instances → cell_of l m.model ≡ Some c → StandsInRow c
  in_row m c listed found =
      let r = orderly.models m listed in
      clean_row c (subst (λ (x : Cell). IsClean x) (same_Some r.0 c (sym r.1 ∙ found)) r.3)

  pub width_at : (last i : ℕ) → i < length n.instances
      → model_width l (member n.instances i).model ≡ pos (slice_index (instance_widths l n.instances ++ last ∷ []) i)
  width_at last i low =
      let m = member n.instances i in
      let r = orderly.models m (member_in n.instances i low) in
      let is : model_width l m.model ≡ cell_width r.0 = ap width_of r.1 in
      let w : cell_width r.0 ≡ pos (500 * (clean_row r.0 r.3).columns) = width_is r.0 (clean_row r.0 r.3) in
      let whole : model_width l m.model ≡ pos (500 * (clean_row r.0 r.3).columns) = is ∙ w in
      whole ∙ ap pos (sym (ap natural whole)) ∙ ap pos (sym (own_width l n.instances last i low))
