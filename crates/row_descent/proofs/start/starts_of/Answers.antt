use Rattle.std.proofs.Common.{◌≡◌, ◌<◌, ℕ, List, length, replicate, slice_index, ap, subst, ◌∙◌}
use Rattle.std.proofs.lemmas.List.{length-replicate}
use Rattle.row_meaning.specs.Rows.{x_of}
use Rattle.row_meaning.specs.Length.{block_of}
use Rattle.row_descent.specs.Tables.{rows_of}
use Rattle.row_descent.proofs.Starting.{rows_inside, rows_narrow, starts_are}
use Rattle.row_descent.proofs.start.starts_of.Goals as goal

pub begin_rows-requires-clause-cells : goal.begin_rows-requires-clause-cells
begin_rows-requires-clause-cells c =
    let zeros = ap (λ (xs : List ℕ). length xs) (c.in_ok-starts.ensures.items_if_clones_equal (λ y e. e)) ∙ length-replicate c.len.result 0 in
    let all = c.args.cells.now.widths.ok.0 in
    rows_inside c.args.cells.now c.args.rows.now (length c.deref_mut.result.now) c.requires.rows
    (ap (λ (xs : List ℕ). length xs) c.deref_mut.ensures.value ∙ zeros ∙ c.len.ensures ∙ all)

pub begin_rows-requires-clause-narrow : goal.begin_rows-requires-clause-narrow
begin_rows-requires-clause-narrow c = rows_narrow c.args.cells.now c.args.rows.now c.deref.result.now c.requires.narrow c.deref.ensures.value

pub returns : goal.returns
returns c =
    let all = c.args.cells.now.widths.ok.0 in
    let many : c.len.result ≡ length c.args.cells.now.widths.items = c.len.ensures ∙ all in
    let P : List ℕ → Type 0 = λ xs. (k : ℕ) → k < length xs
    → slice_index c.begin_rows.new.starts k ≡ x_of c.deref.result.now c.args.cells.now.left (rows_of c.args.rows.now) k (slice_index xs k) in
    let Q : List ℕ → Type 0 = λ ws. (k : ℕ) → k < length c.in_ok-starts.starts.items
    → slice_index c.begin_rows.new.starts k ≡ x_of ws c.args.cells.now.left (rows_of c.args.rows.now) k (slice_index c.in_ok-starts.starts.items k) in
    starts_are (block_of c.args.cells.now) (rows_of c.args.rows.now) c.in_ok-starts.starts c.begin_rows.new.starts c.requires.narrow
    (c.in_ok-starts.ensures.items_if_clones_equal (λ y e. e) ∙ ap (λ (n : ℕ). replicate n 0) many)
    c.in_ok-starts.starts.ok.0
    (c.begin_rows.auto.starts ∙ ap (λ (xs : List ℕ). length xs) c.deref_mut.ensures.value)
    (subst Q c.deref.ensures.value (subst P c.deref_mut.ensures.value c.begin_rows.ensures))
