-- The sum of all extents is the length along rows, so it orders placements as the length does.
use Rattle.std.proofs.Common.{◌≡◌, ℕ, ◌+◌, ◌-◌, ◌≤◌, ◌<◌, Bool, true, false, All, List, [], ◌∷◌, map, length, nat_lt, nat_le, sum_by, min, max, refl, sym, ap, ap₂, ◌∙◌, subst, ltb-true, ltb-false, lt-ltb, le-ltb, le-leb, arith}
use Rattle.std.proofs.lemmas.Bool.{lt-leb, cond-true, cond-false}
use Rattle.std.proofs.lemmas.List.Sums.{sum_by-cons}
use Rattle.std.proofs.lemmas.List.Elements.{All-head, All-tail}
use Rattle.row_meaning.specs.declared.Pin.{Pin}
use Rattle.row_meaning.specs.Rows.{row_at, exchanged_row, exchanged}
use Rattle.row_meaning.specs.Length.{Block, least, greatest, extent, pin_x, hp}
use Rattle.row_meaning.specs.Tried.{unless_raised}
use Rattle.row_meaning.proofs.Exchanging.{row_there, row_length, rows_back}
use Rattle.row_meaning.proofs.Lengths.{along, across, hp_parts, across_same}
use Rattle.row_descent.specs.declared.table.Table.{Table}
use Rattle.row_descent.specs.Spans.{top, at, span_of, extent_of, total_of}
use Rattle.row_descent.specs.Tables.{IsPinOf, AreStarts, IsReady}

-- the extent of numbers of 64 bits
extent_is : (xs : List ℕ) → All (λ x. x ≤ top) xs → greatest 0 xs - least top xs ≡ extent xs
extent_is [] h = refl
extent_is (x ∷ xs) h =
    let a : max 0 x ≡ x = omega arith in
    let b : min top x ≡ x = (let low = All-head (λ y. y ≤ top) x xs h in omega arith) in
    ap₂ (λ (m n : ℕ). greatest m xs - least n xs) a b

module _ (b : Block) (rows : List (List ℕ)) (starts : List ℕ) (began : AreStarts b rows starts) where
  net_along : (net : List Pin) → All (IsPinOf b.widths) net → extent_of (span_of starts net) ≡ along b rows net
  net_along net pins = extent_is (map (at starts) net) (small net pins) ∙ ap extent (same net pins) where
    pin_small : (p : Pin) → IsPinOf b.widths p → at starts p ≤ top
    pin_small p ok = let near = began.near p.cell ok.0 in let wide = ok.1 in omega arith

    small : (net : List Pin) → All (IsPinOf b.widths) net → All (λ x. x ≤ top) (map (at starts) net)
    small [] pins = λ k d l. absurd (omega arith)
    small (p ∷ ps) pins =
        Rattle.std.proofs.lemmas.List.Elements.All-cons (λ x. x ≤ top) (at starts p) (map (at starts) ps)
        (pin_small p (All-head (IsPinOf b.widths) p ps pins)) (small ps (All-tail (IsPinOf b.widths) p ps pins))

    same : (net : List Pin) → All (IsPinOf b.widths) net → map (at starts) net ≡ map (pin_x b rows) net
    same [] pins = refl
    same (p ∷ ps) pins =
        ap₂ (λ (x : ℕ) (xs : List ℕ). x ∷ xs) (ap (λ (x : ℕ). x + p.x) (began.each p.cell (All-head (IsPinOf b.widths) p ps pins).0))
        (same ps (All-tail (IsPinOf b.widths) p ps pins))

  pub total_along : (nets : List (List Pin)) → All (λ net. All (IsPinOf b.widths) net) nets → total_of (map (span_of starts) nets) ≡ sum_by (along b rows) nets
  total_along [] h = refl
  total_along (net ∷ nets) h =
      sum_by-cons extent_of (span_of starts net) (map (span_of starts) nets)
      ∙ ap₂ (λ (m n : ℕ). m + n) (net_along net (All-head (λ one. All (IsPinOf b.widths) one) net nets h))
      (total_along nets (All-tail (λ one. All (IsPinOf b.widths) one) net nets h))
      ∙ sym (sum_by-cons (along b rows) net nets)

pub total_is : (b : Block) (rows : List (List ℕ)) (t : Table) → IsReady b rows t → hp b rows ≡ t.total + sum_by (across rows) b.nets
total_is b rows t ready =
    let a = total_along b rows t.starts.items ready.table.starts b.nets ready.block.pins in
    let e : t.total ≡ sum_by (along b rows) b.nets = ready.table.total ∙ ap total_of ready.table.spans ∙ a in
    let p = hp_parts b rows in
    omega arith

-- so one total is less than another exactly where the length is
pub less_alike : (b : Block) (rows : List (List ℕ)) (r k : ℕ) (t u : Table) → IsReady b rows t → IsReady b (exchanged rows r k) u
    → nat_lt u.total t.total ≡ nat_lt (hp b (exchanged rows r k)) (hp b rows)
less_alike b rows r k t u before after =
    let x = total_is b rows t before in
    let y = total_is b (exchanged rows r k) u after in
    let same = across_same b.nets rows r k in
    by (nat_lt u.total t.total) refl where
      by : (q : Bool) → nat_lt u.total t.total ≡ q → q ≡ nat_lt (hp b (exchanged rows r k)) (hp b rows)
      by true e =
          let x = total_is b rows t before in
          let y = total_is b (exchanged rows r k) u after in
          let same = across_same b.nets rows r k in
          let l : u.total < t.total = ltb-true u.total t.total e in
          sym (lt-ltb (hp b (exchanged rows r k)) (hp b rows) (omega arith))
      by false e =
          let x = total_is b rows t before in
          let y = total_is b (exchanged rows r k) u after in
          let same = across_same b.nets rows r k in
          let l : t.total ≤ u.total = ltb-false u.total t.total e in
          sym (le-ltb (hp b (exchanged rows r k)) (hp b rows) (omega arith))

-- for what is tested in code: the total afterwards is less, or it isn't
pub is_lower : (b : Block) (rows : List (List ℕ)) (r k : ℕ) (t u : Table) (others : List (List ℕ)) → IsReady b rows t → others ≡ exchanged rows r k → IsReady b others u
    → u.total < t.total → true ≡ nat_lt (hp b (exchanged rows r k)) (hp b rows)
is_lower b rows r k t u others before e after l =
    sym (lt-ltb u.total t.total l) ∙ less_alike b rows r k t u before (subst (λ (xs : List (List ℕ)). IsReady b xs u) e after)

pub is_not_lower : (b : Block) (rows : List (List ℕ)) (r k : ℕ) (t u : Table) (others : List (List ℕ)) → IsReady b rows t → others ≡ exchanged rows r k → IsReady b others u
    → t.total ≤ u.total → false ≡ nat_lt (hp b (exchanged rows r k)) (hp b rows)
is_not_lower b rows r k t u others before e after l =
    sym (le-ltb u.total t.total l) ∙ less_alike b rows r k t u before (subst (λ (xs : List (List ℕ)). IsReady b xs u) e after)

module _ (b : Block) (rows : List (List ℕ)) (r k : ℕ) (t u : Table) (others : List (List ℕ)) (before : IsReady b rows t) (e : others ≡ exchanged rows r k) (after : IsReady b others u) where
  there : IsReady b (exchanged rows r k) u
  there = subst (λ (xs : List (List ℕ)). IsReady b xs u) e after

  -- rows whose length is raised are left, and others are taken
  pub left_again : t.total < u.total → rows ≡ unless_raised (hp b) rows (exchanged rows r k)
  unfolding unless_raised
  left_again l =
      let x = total_is b rows t before in
      let y = total_is b (exchanged rows r k) u there in
      let same = across_same b.nets rows r k in
      sym (cond-false (nat_le (hp b (exchanged rows r k)) (hp b rows)) (exchanged rows r k) rows (lt-leb (hp b (exchanged rows r k)) (hp b rows) (omega arith)))

  pub taken : u.total ≤ t.total → others ≡ unless_raised (hp b) rows (exchanged rows r k)
  unfolding unless_raised
  taken l =
      let x = total_is b rows t before in
      let y = total_is b (exchanged rows r k) u there in
      let same = across_same b.nets rows r k in
      e ∙ sym (cond-true (nat_le (hp b (exchanged rows r k)) (hp b rows)) (exchanged rows r k) rows (le-leb (hp b (exchanged rows r k)) (hp b rows) (omega arith)))

-- ---- what an exchange leaves

pub still_there : (rows others : List (List ℕ)) (r k j : ℕ) → others ≡ exchanged rows r k → j < length (row_at rows r) → j < length (row_at others r)
still_there rows others r k j e l =
    let a : length (row_at others r) ≡ length (row_at (exchanged rows r k) r) = ap (λ (xs : List (List ℕ)). length (row_at xs r)) e in
    let b : length (row_at (exchanged rows r k) r) ≡ length (exchanged_row (row_at rows r) k) = ap (λ (row : List ℕ). length row) (row_there rows r k) in
    let c = row_length (row_at rows r) k in
    omega arith

pub back_again : (rows others again : List (List ℕ)) (r k : ℕ) → others ≡ exchanged rows r k → again ≡ exchanged others r k → again ≡ rows
back_again rows others again r k e f = f ∙ ap (λ (xs : List (List ℕ)). exchanged xs r k) e ∙ rows_back rows r k
