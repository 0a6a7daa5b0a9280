-- The parts of cells at places.
use Rattle.std.proofs.Common.{◌≡◌, ◌⊎◌, inl, inr, ℕ, ◌+◌, ◌<◌, ◌≤◌, List, [], ◌∷◌, ◌++◌, length, take, get_or, All, Some, refl, sym, subst, arith, length-append}
use Rattle.std.specs.Prelude.{slice_get}
use Rattle.std.proofs.lemmas.Option.{slice_get_within}
use Rattle.cell_model.specs.Cell.{Cell}
use Rattle.cell_model.specs.Library.{Library, IsUsable}
use Rattle.cell_match.proofs.Filling.{got_end}
use Rattle.net_core.proofs.Standing.{stands_same}
use Rattle.gate_cells.specs.declared.listed.GateCells.{GateCells}
use Rattle.gate_cells.specs.Listed.{AreGateCells}
use Rattle.boog_map.specs.declared.part.Part.{Part}
use Rattle.boog_map.specs.Tied.{IsPart, IsUsableAt, AreGateParts}
use Rattle.boog_map.proofs.Building.{take_next, stands_get}
use Rattle.boog_map.proofs.Lists.{got, stands_at, take_all}

pub parts_none : (cells : List Cell) → AreGateParts cells [] []
parts_none cells = record { many = refl; each = λ k place c p h. absurd cc }

parts_more : (cells : List Cell) (places : List ℕ) (parts : List Part) (place : ℕ) (c : Cell) (p : Part) → AreGateParts cells places parts
    → slice_get cells place ≡ Some c → IsPart c p → AreGateParts cells (places ++ place ∷ []) (parts ++ p ∷ [])
parts_more cells places parts place c p so_far at is = record {
  many =
      let a = length-append places (place ∷ []) in
      let b = length-append parts (p ∷ []) in
      let many = so_far.many in
      omega (arith, a, b, many);
  each = λ k place2 c2 p2 h1 h2 h3. by k place2 c2 p2 h2 (got_end places place k place2 h1) (got_end parts p k p2 h3);
} where
  by : (k place2 : ℕ) (c2 : Cell) (p2 : Part) → slice_get cells place2 ≡ Some c2 → (slice_get places k ≡ Some place2) ⊎ ((k ≡ length places) × (place ≡ place2))
      → (slice_get parts k ≡ Some p2) ⊎ ((k ≡ length parts) × (p ≡ p2)) → IsPart c2 p2
  by k place2 c2 p2 h (inl a) (inl b) = so_far.each k place2 c2 p2 a h b
  by k place2 c2 p2 h (inl a) (inr b) =
      let low = slice_get_within places k place2 a in let many = so_far.many in let end = b.0 in absurd (omega (arith, low, many, end))
  by k place2 c2 p2 h (inr a) (inl b) =
      let low = slice_get_within parts k p2 b in let many = so_far.many in let end = a.0 in absurd (omega (arith, low, many, end))
  by k place2 c2 p2 h (inr a) (inr b) =
      let P : ℕ → Type 0 = λ n. slice_get cells n ≡ Some c in
      let same : c ≡ c2 = stands_same cells place2 c c2 (subst P a.1 at) h in
      subst (λ (x : Cell). IsPart x p2) same (subst (λ (q : Part). IsPart c q) b.1 is)

module _ (cells : List Cell) (places : List ℕ) (i place : ℕ) (low : i < length places) (is : place ≡ get_or places i place) (all : All (IsUsableAt cells) places) where
  pub usable_next : IsUsableAt cells place
  usable_next = let P : ℕ → Type 0 = λ n. IsUsableAt cells n in subst P (sym is) (all i place low)

  pub place_below : place < length cells
  place_below = slice_get_within cells place usable_next.cell usable_next.at

  read_is : (c : Cell) → c ≡ get_or cells place c → usable_next.cell ≡ c
  read_is c e = stands_same cells place usable_next.cell c usable_next.at (stands_get cells place c place_below e)

  pub read_usable : (c : Cell) → c ≡ get_or cells place c → IsUsable c
  read_usable c e = subst IsUsable (read_is c e) usable_next.usable

  pub parts_next : (parts : List Part) (c : Cell) (p : Part) → AreGateParts cells (take i places) parts → c ≡ get_or cells place c → IsPart c p
      → AreGateParts cells (take (i + 1) places) (parts ++ p ∷ [])
  parts_next parts c p so_far e one =
      subst (λ (ps : List ℕ). AreGateParts cells ps (parts ++ p ∷ [])) (sym (take_next places i place low is))
      (parts_more cells (take i places) parts place c p so_far (stands_get cells place c place_below e) one)

pub parts_done : (cells : List Cell) (places : List ℕ) (i : ℕ) (parts : List Part) → length places ≤ i → AreGateParts cells (take i places) parts → AreGateParts cells places parts
parts_done cells places i parts over so_far = subst (λ (ps : List ℕ). AreGateParts cells ps parts) (take_all places i over) so_far

-- the gates of a library stand at their places
pub all_usable : (l : Library) (g : GateCells) → AreGateCells l g → All (IsUsableAt l.cells) g.places.items
all_usable l g are k d low =
    let place = stands_at g.places.items k low in
    let words = are.words in
    let areas = are.areas in
    let w = stands_at g.words.items k (omega (arith, low, words)) in
    let a = stands_at g.areas.items k (omega (arith, low, areas)) in
    let r = are.each k w.0 a.0 place.0 w.1 a.1 place.1 in
    let P : ℕ → Type 0 = λ n. IsUsableAt l.cells n in
    subst P (sym (got g.places.items k place.0 d place.1)) (record { cell = r.0; at = r.1; usable = r.2.usable })
