-- Moves one after another, by the words of a generator.
use Rattle.std.proofs.Common.{◌≡◌, ℕ, suc, ◌+◌, ◌-◌, ◌*◌, ◌%◌, ◌≤◌, ◌<◌, Bool, true, false, cond, List, [], ◌∷◌, length, nat_le, sym, ap, ap₂, ◌∙◌, subst, le-leb, arith}
use Rattle.std.proofs.lemmas.Bool.{cond-true, cond-false, lt-leb}
use Rattle.rand_core.specs.Steps.{first_words}
use Rattle.row_meaning.specs.Rows.{row_at, exchanged, HaveSameCells}
use Rattle.row_meaning.specs.Length.{Block, hp, IsStable}
use Rattle.row_meaning.specs.Tried.{unless_raised, moved, tried_by, words_of, tried}
use Rattle.row_meaning.proofs.Exchanging.{same_itself, same_then, same_exchanged}
use Rattle.row_meaning.proofs.Keeping.{even_kept, times_kept}
use Rattle.row_descent.specs.Steps.{IsImproved}

pub moved_yes : (b : Block) (u v : ℕ) (rows : List (List ℕ)) (row places place : ℕ) → row ≡ u % length rows → places ≡ length (row_at rows row)
    → place ≡ v % (places - 1) → 2 ≤ places → unless_raised (hp b) rows (exchanged rows row place) ≡ moved (hp b) u v rows
unfolding moved
moved_yes b u v rows row places place re pe ke l =
    let r = u % length rows in
    let many = length (row_at rows r) in
    let same : many ≡ places = ap (λ (q : ℕ). length (row_at rows q)) (sym re) ∙ sym pe in
    let k : place ≡ v % (many - 1) = ke ∙ ap (λ (q : ℕ). v % (q - 1)) (sym same) in
    ap₂ (λ (q j : ℕ). unless_raised (hp b) rows (exchanged rows q j)) re k
    ∙ sym (cond-true (nat_le 2 many) (unless_raised (hp b) rows (exchanged rows r (v % (many - 1)))) rows (le-leb 2 many (omega arith)))

pub moved_no : (b : Block) (u v : ℕ) (rows : List (List ℕ)) (row places : ℕ) → row ≡ u % length rows → places ≡ length (row_at rows row)
    → places < 2 → rows ≡ moved (hp b) u v rows
unfolding moved
moved_no b u v rows row places re pe l =
    let r = u % length rows in
    let many = length (row_at rows r) in
    let same : many ≡ places = ap (λ (q : ℕ). length (row_at rows q)) (sym re) ∙ sym pe in
    sym (cond-false (nat_le 2 many) (unless_raised (hp b) rows (exchanged rows r (v % (many - 1)))) rows (lt-leb 2 many (omega arith)))

two_words : {S : Type 0} (step : S → ℕ × S) (n left u v : ℕ) (g h i : S) → n ≡ suc (suc left) → (u, h) ≡ step g → (v, i) ≡ step h
    → first_words step n g ≡ u ∷ v ∷ first_words step left i
unfolding first_words
two_words {S} step n left u v g h i e ue ve =
    ap (λ (k : ℕ). first_words step k g) e
    ∙ ap (λ (p : ℕ × S). p.0 ∷ first_words step (suc left) p.1) (sym ue)
    ∙ ap (λ (p : ℕ × S). u ∷ p.0 ∷ first_words step left p.1) (sym ve)

pub tried_more : {S : Type 0} (step : S → ℕ × S) (b : Block) (moves made u v : ℕ) (g h i : S) (rows new : List (List ℕ)) → made < moves
    → (u, h) ≡ step g → (v, i) ≡ step h → new ≡ moved (hp b) u v rows
    → tried_by (hp b) (first_words step (2 * (moves - (made + 1))) i) new ≡ tried_by (hp b) (first_words step (2 * (moves - made)) g) rows
unfolding tried_by
tried_more step b moves made u v g h i rows new l ue ve ne =
    ap (λ (xs : List (List ℕ)). tried_by (hp b) (first_words step (2 * (moves - (made + 1))) i) xs) ne
    ∙ ap (λ (ws : List ℕ). tried_by (hp b) ws rows) (sym (two_words step (2 * (moves - made)) (2 * (moves - (made + 1))) u v g h i (omega arith) ue ve))

pub tried_none : {S : Type 0} (step : S → ℕ × S) (b : Block) (moves made : ℕ) (g : S) (rows : List (List ℕ)) → moves ≤ made
    → tried_by (hp b) (first_words step (2 * (moves - made)) g) rows ≡ rows
unfolding tried_by first_words
tried_none step b moves made g rows l =
    let e : 2 * (moves - made) ≡ 0 = omega arith in
    ap (λ (n : ℕ). tried_by (hp b) (first_words step n g) rows) e

-- ---- the same cells

same_either : (t : Bool) (xs ys zs : List (List ℕ)) → HaveSameCells xs ys → HaveSameCells xs zs → HaveSameCells xs (cond t ys zs)
same_either true xs ys zs g h = g
same_either false xs ys zs g h = h

same_unless : (b : Block) (rows others : List (List ℕ)) → HaveSameCells rows others → HaveSameCells rows (unless_raised (hp b) rows others)
unfolding unless_raised
same_unless b rows others h = same_either (nat_le (hp b others) (hp b rows)) rows others rows h (same_itself rows)

same_moved : (b : Block) (u v : ℕ) (rows : List (List ℕ)) → HaveSameCells rows (moved (hp b) u v rows)
unfolding moved
same_moved b u v rows =
    let r = u % length rows in
    let k = v % (length (row_at rows r) - 1) in
    same_either (nat_le 2 (length (row_at rows r))) rows (unless_raised (hp b) rows (exchanged rows r k)) rows
    (same_unless b rows (exchanged rows r k) (same_exchanged rows r k)) (same_itself rows)

pub same_tried : (b : Block) (words : List ℕ) (rows : List (List ℕ)) → HaveSameCells rows (tried_by (hp b) words rows)
unfolding tried_by
same_tried b [] rows = same_itself rows
same_tried b (u ∷ []) rows = same_itself rows
same_tried b (u ∷ v ∷ words) rows = same_then rows (moved (hp b) u v rows) (tried_by (hp b) words (moved (hp b) u v rows)) (same_moved b u v rows) (same_tried b words (moved (hp b) u v rows))

pub improved : (b : Block) (seed moves : ℕ) (old mid new : List (List ℕ)) → mid ≡ tried (hp b) seed moves old → IsStable (hp b) new → hp b new ≤ hp b mid → HaveSameCells mid new
    → IsImproved b seed moves old new
improved b seed moves old mid new e stable lower same =
    let all : HaveSameCells old new =
    same_then old mid new (subst (λ (rows : List (List ℕ)). HaveSameCells old rows) (sym e) (same_tried b (words_of seed (2 * moves)) old)) same in
    record {
      stable = stable;
      lower = (let f = ap (hp b) e in omega arith);
      same = all;
      even = λ widths was. even_kept widths old new all was;
      each = λ c. times_kept c old new all;
    }
