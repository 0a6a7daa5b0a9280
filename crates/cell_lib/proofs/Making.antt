-- One more cell of a library.
use Rattle.std.proofs.Common.{◌≡◌, ◌<◌, ◌+◌, ℕ, List, [], ◌∷◌, ◌++◌, length, drop, get_or, refl, sym, ◌∙◌, ap, subst}
use Rattle.std.proofs.lemmas.List.{append-nil, append_assoc, drop_more}
use Rattle.cell_model.specs.declared.cell.Cell.{Cell}
use Rattle.cell_lib.specs.declared.error.LibError.{LibError}
use Rattle.cell_lib.specs.declared.error.LibError.TheVariants as errors
use Rattle.cell_lib.specs.Cells.{Source, sources, AreCells, none, next, IsFirstRefused, OrMemory}

-- the first of these are cells, and these are left
pub record HasMade (Makes : Source → Cell → Type 0) (all left : List Source) (cells : List Cell) : Type 0 where
  pub front : List Source
  pub all_are : all ≡ front ++ left
  pub made : AreCells Makes front cells

pub nothing_made : (Makes : Source → Cell → Type 0) (all : List Source) (cells : List Cell) → cells ≡ [] → HasMade Makes all all cells
nothing_made Makes all cells is = record { front = []; all_are = refl; made = subst (λ (l : List Cell). AreCells Makes [] l) (sym is) none }

one_cell : (Makes : Source → Cell → Type 0) (front : List Source) (cells : List Cell) (s : Source) (c : Cell) → AreCells Makes front cells → Makes s c
    → AreCells Makes (front ++ s ∷ []) (cells ++ c ∷ [])
one_cell Makes _ _ s c none m = next m none
one_cell Makes _ _ s c (next {source = x} {rest = xs} {cell = y} {cells = ys} h t) m = next h (one_cell Makes xs ys s c t m)

abbrev pub source_of : List ℕ → List (List ℕ) → Source
source_of name files = record { name = name; vbe = get_or files 0 []; ap = get_or files 1 [] }

left_is : (names files : List (List ℕ)) (k : ℕ) (name other : List ℕ) → k < length names → name ≡ get_or names k other
    → sources (drop k names) files ≡ source_of name files ∷ sources (drop (k + 1) names) (drop 2 files)
left_is names files k name other within is =
    ap (λ (l : List (List ℕ)). sources l files) (drop_more names k other within ∙ ap (λ (x : List ℕ). x ∷ drop (k + 1) names) (sym is))

pub one_more_made : (Makes : Source → Cell → Type 0) (all : List Source) (names files rest : List (List ℕ)) (k : ℕ) (name other vbe layout : List ℕ) (cells pushed : List Cell) (cell : Cell)
    → HasMade Makes all (sources (drop k names) files) cells → k < length names → name ≡ get_or names k other → vbe ≡ get_or files 0 [] → layout ≡ get_or files 1 []
    → Makes (record { name = name; vbe = vbe; ap = layout }) cell → pushed ≡ cells ++ cell ∷ [] → rest ≡ drop 2 files
    → HasMade Makes all (sources (drop (k + 1) names) rest) pushed
one_more_made Makes all names files rest k name other vbe layout cells pushed cell h within is first second m more left =
    let made : Makes (source_of name files) cell =
    subst (λ (x : List ℕ). Makes (record { name = name; vbe = x; ap = get_or files 1 [] }) cell) first
    (subst (λ (x : List ℕ). Makes (record { name = name; vbe = vbe; ap = x }) cell) second m) in
    record {
      front = h.front ++ source_of name files ∷ [];
      all_are = h.all_are ∙ ap (λ (l : List Source). h.front ++ l) (left_is names files k name other within is)
          ∙ sym (append_assoc h.front (source_of name files ∷ []) (sources (drop (k + 1) names) (drop 2 files)))
          ∙ ap (λ (l : List (List ℕ)). (h.front ++ source_of name files ∷ []) ++ sources (drop (k + 1) names) l) (sym left);
      made = subst (λ (l : List Cell). AreCells Makes (h.front ++ source_of name files ∷ []) l) (sym more) (one_cell Makes h.front cells (source_of name files) cell h.made made);
    }

pub all_made : (Makes : Source → Cell → Type 0) (all left : List Source) (cells : List Cell) → HasMade Makes all left cells → left ≡ [] → AreCells Makes all cells
all_made Makes all left cells h is = subst (λ (l : List Source). AreCells Makes l cells) (sym (h.all_are ∙ ap (λ (l : List Source). h.front ++ l) is ∙ append-nil h.front)) h.made

pub first_refused : (Makes : Source → Cell → Type 0) (Refuses : Source → LibError → Type 0) (all : List Source) (names files : List (List ℕ)) (k : ℕ) (name other vbe layout : List ℕ)
    (cells : List Cell) (e : LibError) → HasMade Makes all (sources (drop k names) files) cells → k < length names → name ≡ get_or names k other → vbe ≡ get_or files 0 []
    → layout ≡ get_or files 1 [] → OrMemory (Refuses (record { name = name; vbe = vbe; ap = layout })) e → OrMemory (IsFirstRefused Makes Refuses all) e
first_refused Makes Refuses all names files k name other vbe layout cells e h within is first second r = by e r where
  at : (x : LibError) → Refuses (record { name = name; vbe = vbe; ap = layout }) x → IsFirstRefused Makes Refuses all x
  at x q = record {
    before = h.front;
    source = source_of name files;
    behind = sources (drop (k + 1) names) (drop 2 files);
    cells = cells;
    all_are = h.all_are ∙ ap (λ (l : List Source). h.front ++ l) (left_is names files k name other within is);
    made = h.made;
    refused = subst (λ (y : List ℕ). Refuses (record { name = name; vbe = y; ap = get_or files 1 [] }) x) first
        (subst (λ (y : List ℕ). Refuses (record { name = name; vbe = vbe; ap = y }) x) second q);
  }

  by : (x : LibError) → OrMemory (Refuses (record { name = name; vbe = vbe; ap = layout })) x → OrMemory (IsFirstRefused Makes Refuses all) x
  by errors.Memory q = tt
  by (errors.Missing n) q = at (errors.Missing n) q
  by (errors.ReadFault n) q = at (errors.ReadFault n) q
  by (errors.Limit l) q = at (errors.Limit l) q
  by (errors.BadCatal n) q = at (errors.BadCatal n) q
  by (errors.BadCell n cause) q = at (errors.BadCell n cause) q
