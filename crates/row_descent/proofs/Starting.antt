-- What is kept beside rows of cells, for rows that are given.
use Rattle.std.proofs.Common.{◌≡◌, ◌⊎◌, inl, inr, ℕ, ◌+◌, ◌^◌, ◌≤◌, ◌<◌, ◌==◌, Bool, true, false, cond, ◌||◌, All, List, [], ◌∷◌, ◌++◌, map, length, take, drop, get_or, set, slice_index, replicate, refl, sym, ap, ◌∙◌, subst, eq-eqb, eqb-true, take_at, arith}
use Rattle.std.proofs.lemmas.Bool.{cases_eq}
use Rattle.std.proofs.lemmas.List.{map-set, length-map, get_or-set_same, get_or-set_other, get_or-replicate, length-replicate, get_or_default}
use Rattle.std.proofs.lemmas.List.Elements.{All-append, All-more, All-weaker, All-nil, All-cons, All-head, All-tail}
use Rattle.std.proofs.lemmas.List.Sums.{sum_by-cons, sum_by_more_le}
use Rattle.std.specs.Global.{Vec}
use Rattle.row_meaning.specs.declared.Pin.{Pin}
use Rattle.row_meaning.specs.declared.Cells.{Cells}
use Rattle.row_meaning.specs.Rows.{x_in, x_of, row_at, cell_at, row_width, stands_in}
use Rattle.row_meaning.specs.Length.{Block, block_of}
use Rattle.row_descent.specs.declared.span.Span.{Span}
use Rattle.row_descent.specs.Spans.{limit, span_of, extent_of, total_of, AreNear, AreSpansNear}
use Rattle.row_descent.specs.Tables.{rows_of, nets_in, net_at, IsPinOf, IsBlock, AreRowsOf, AreNarrow, AreStarts, AreNetsOf, Lists, AreListed}
use Rattle.row_descent.proofs.Totals.{total_small}
use Rattle.row_descent.proofs.Views.{items, at_map, row_view}
use Rattle.row_descent.proofs.Afterwards.{pins_in, spans_near}

pub sum_fits : (spans : List Span) (i : ℕ) (d : Span) → AreSpansNear spans → length spans < 2 ^ 32 → i < length spans
    → total_of (take i spans) + extent_of (get_or spans i d) < 2 ^ 100
sum_fits spans i d near few l =
    let a = sum_by_more_le extent_of spans i d l in
    let b = total_small spans near few in
    omega arith

-- ---- lists of nets

pub pushed_view : (lists : List (Vec ℕ)) (cell net : ℕ) (old new : Vec ℕ) → cell < length lists → old ≡ get_or lists cell old → new.items ≡ old.items ++ net ∷ []
    → rows_of (set lists cell new) ≡ set (rows_of lists) cell (row_at (rows_of lists) cell ++ net ∷ [])
pushed_view lists cell net old new l is e =
    map-set items lists cell new
    ∙ ap (λ (row : List ℕ). set (rows_of lists) cell row) (e ∙ ap (λ (row : List ℕ). row ++ net ∷ []) (sym (row_view lists cell old l is)))

stands_pushed : (row : List ℕ) (net k : ℕ) → stands_in (row ++ net ∷ []) k ≡ (stands_in row k || net == k)
stands_pushed [] net k = last (net == k) where
  last : (t : Bool) → (t || false) ≡ t
  last true = refl
  last false = refl
stands_pushed (d ∷ row) net k = by (d == k) (stands_pushed row net k) where
  by : (t : Bool) → stands_in (row ++ net ∷ []) k ≡ (stands_in row k || net == k) → (t || stands_in (row ++ net ∷ []) k) ≡ ((t || stands_in row k) || net == k)
  by true e = refl
  by false e = e

row_set : (rows : List (List ℕ)) (c : ℕ) (row : List ℕ) (k : ℕ) → c < length rows → ((c ≡ k) × (row_at (set rows c row) k ≡ row)) ⊎ (row_at (set rows c row) k ≡ row_at rows k)
row_set rows c row k l = by (cases_eq c k) where
  by : (c ≡ k) ⊎ (c ≡ k → ⊥) → ((c ≡ k) × (row_at (set rows c row) k ≡ row)) ⊎ (row_at (set rows c row) k ≡ row_at rows k)
  by (inl e) = inl (e, ap (λ (j : ℕ). row_at (set rows c row) j) (sym e) ∙ get_or-set_same rows c row [] l)
  by (inr n) = inr (get_or-set_other rows c k row [] (λ e. n (sym e)))

-- one more
one_listed : (net c : ℕ) (old : List (List ℕ)) → c < length old → Lists net [] old (set old c (row_at old c ++ net ∷ []))
one_listed net c old l = record {
  kept = λ k j h. kept k j h (row_set old c (row_at old c ++ net ∷ []) k l);
  listed = All-nil (λ p. stands_in (row_at (set old c (row_at old c ++ net ∷ [])) p.cell) net ≡ true);
  inside = λ most k m h. inside most k m h (row_set old c (row_at old c ++ net ∷ []) k l);
} where
  new : List (List ℕ)
  new = set old c (row_at old c ++ net ∷ [])

  kept : (k j : ℕ) → stands_in (row_at old k) j ≡ true → ((c ≡ k) × (row_at (set old c (row_at old c ++ net ∷ [])) k ≡ row_at old c ++ net ∷ []))
      ⊎ (row_at (set old c (row_at old c ++ net ∷ [])) k ≡ row_at old k) → stands_in (row_at (set old c (row_at old c ++ net ∷ [])) k) j ≡ true
  kept k j h (inr e) = ap (λ (row : List ℕ). stands_in row j) e ∙ h
  kept k j h (inl e) =
      ap (λ (row : List ℕ). stands_in row j) e.1 ∙ stands_pushed (row_at old c) net j
      ∙ ap (λ (t : Bool). t || net == j) (ap (λ (i : ℕ). stands_in (row_at old i) j) e.0 ∙ h)

  inside : (most k : ℕ) → net < most → All (λ i. i < most) (row_at old k) → ((c ≡ k) × (row_at (set old c (row_at old c ++ net ∷ [])) k ≡ row_at old c ++ net ∷ []))
      ⊎ (row_at (set old c (row_at old c ++ net ∷ [])) k ≡ row_at old k) → All (λ i. i < most) (row_at (set old c (row_at old c ++ net ∷ [])) k)
  inside most k m h (inr e) = let P : List ℕ → Type 0 = λ row. All (λ i. i < most) row in subst P (sym e) h
  inside most k m h (inl e) =
      let P : List ℕ → Type 0 = λ row. All (λ i. i < most) row in
      let Q : ℕ → Type 0 = λ i. P (row_at old i) in
      subst P (sym e.1)
      (All-append (λ i. i < most) (row_at old c) (net ∷ []) (subst Q (sym e.0) h) (All-cons (λ i. i < most) net [] m (All-nil (λ i. i < most))))

here_listed : (net c : ℕ) (old : List (List ℕ)) → c < length old → stands_in (row_at (set old c (row_at old c ++ net ∷ [])) c) net ≡ true
here_listed net c old l =
    ap (λ (row : List ℕ). stands_in row net) (get_or-set_same old c (row_at old c ++ net ∷ []) [] l) ∙ stands_pushed (row_at old c) net net
    ∙ ap (λ (t : Bool). stands_in (row_at old c) net || t) (eq-eqb net net refl) ∙ always (stands_in (row_at old c) net) where
      always : (t : Bool) → (t || true) ≡ true
      always true = refl
      always false = refl

pub lists_none : (net : ℕ) (rows : List (List ℕ)) → Lists net [] rows rows
lists_none net rows = record {
  kept = λ c k h. h;
  listed = All-nil (λ p. stands_in (row_at rows p.cell) net ≡ true);
  inside = λ most c m h. h;
}

pub lists_more : (net : ℕ) (pins : List Pin) (i : ℕ) (d : Pin) (old mid new : List (List ℕ)) → i < length pins → (get_or pins i d).cell < length mid
    → Lists net (take i pins) old mid → new ≡ set mid (get_or pins i d).cell (row_at mid (get_or pins i d).cell ++ net ∷ []) → Lists net (take (i + 1) pins) old new
lists_more net pins i d old mid new l m h e =
    let c = (get_or pins i d).cell in
    let after = set mid c (row_at mid c ++ net ∷ []) in
    let one = one_listed net c mid m in
    let P : List (List ℕ) → Type 0 = λ rows. Lists net (take (i + 1) pins) old rows in
    subst P (sym e) (record {
      kept = λ k j g. one.kept k j (h.kept k j g);
      listed =
          All-more (λ p. stands_in (row_at after p.cell) net ≡ true) pins i d l
          (All-weaker (λ p. stands_in (row_at mid p.cell) net ≡ true) (λ p. stands_in (row_at after p.cell) net ≡ true) (λ p g. one.kept p.cell net g) (take i pins) h.listed)
          (here_listed net c mid m);
      inside = λ most k n g. one.inside most k n (h.inside most k n g);
    })

-- the pins of nets are those of cells that have lists
pub pins_listed : (c : Cells) (nets : List (Vec Pin)) (n : ℕ) → IsBlock (block_of c) → nets ≡ c.nets.items → n ≡ length c.widths.items
    → All (λ net. All (λ p. p.cell < n) net.items) nets
pins_listed c nets n block is e =
    let P : List (Vec Pin) → Type 0 = λ vs. All (λ net. All (λ p. p.cell < n) net.items) vs in
    subst P (sym is)
    (pins_in (λ one. All (λ p. p.cell < n) one) c.nets.items
    (All-weaker (λ one. All (IsPinOf c.widths.items) one) (λ one. All (λ p. p.cell < n) one)
    (λ one h. λ k d l. let first = (h k d l).0 in omega arith) (nets_in c.nets.items) block.pins))

pub listed_more : (nets : List (List Pin)) (net : ℕ) (pins : List Pin) (old new : List (List ℕ)) → net < length nets → net_at nets net ≡ pins → AreListed nets net old
    → Lists net pins old new → AreListed nets (net + 1) new
listed_more nets net pins old new l is before h = record {
  inside = λ c. h.inside (length nets) c l (before.inside c);
  listed = λ k m. by k (cases_eq k net) m;
} where
  by : (k : ℕ) → (k ≡ net) ⊎ (k ≡ net → ⊥) → k < net + 1 → All (λ p. stands_in (row_at new p.cell) k ≡ true) (net_at nets k)
  by k (inl e) m =
      let P : ℕ → Type 0 = λ j. All (λ p. stands_in (row_at new p.cell) j ≡ true) (net_at nets j) in
      let Q : List Pin → Type 0 = λ xs. All (λ p. stands_in (row_at new p.cell) net ≡ true) xs in
      subst P (sym e) (subst Q (sym is) h.listed)
  by k (inr n) m =
      All-weaker (λ p. stands_in (row_at old p.cell) k ≡ true) (λ p. stands_in (row_at new p.cell) k ≡ true) (λ p g. h.kept p.cell k g) (net_at nets k)
      (before.listed k (omega arith))

-- ---- where cells begin

near_in : (w : List ℕ) (x : ℕ) (row : List ℕ) (c before : ℕ) → before + slice_index w c ≤ limit → x + row_width w row ≤ limit
    → x_in w x row c before + slice_index w c ≤ limit
near_in w x [] c before h l = h
near_in w x (d ∷ row) c before h l =
    let e = sum_by-cons (slice_index w) d row in
    near_in w (x + slice_index w d) row c (cond (d == c) x before) (by (d == c) refl) (omega arith) where
      by : (t : Bool) → (d == c) ≡ t → cond t x before + slice_index w c ≤ limit
      by false e = h
      by true q =
          let e = sum_by-cons (slice_index w) d row in
          let is = ap (λ (i : ℕ). slice_index w i) (eqb-true d c q) in
          omega arith

near_of : (w : List ℕ) (left : ℕ) (rows : List (List ℕ)) (c before : ℕ) → before + slice_index w c ≤ limit → All (λ row. left + row_width w row ≤ limit) rows
    → x_of w left rows c before + slice_index w c ≤ limit
near_of w left [] c before h all = h
near_of w left (row ∷ rows) c before h all =
    near_of w left rows c (x_in w left row c before)
    (near_in w left row c before h (All-head (λ one. left + row_width w one ≤ limit) row rows all))
    (All-tail (λ one. left + row_width w one ≤ limit) row rows all)

pub starts_are : (b : Block) (rows : List (List ℕ)) (v : Vec ℕ) (new : List ℕ) → AreNarrow b rows → v.items ≡ replicate (length b.widths) 0 → v.len ≡ length v.items
    → length new ≡ length v.items
    → ((c : ℕ) → c < length v.items → slice_index new c ≡ x_of b.widths b.left rows c (slice_index v.items c))
    → AreStarts b rows (take v.len (new ++ drop (length new) v.items))
starts_are b rows v new narrow zeros len many each =
    subst (AreStarts b rows) (sym (take_at new (drop (length new) v.items) v.len (omega arith)))
    (record {
      many = (let a = ap (λ (xs : List ℕ). length xs) zeros in let e = length-replicate {A = ℕ} (length b.widths) 0 in omega arith);
      each = λ c l. is c l;
      near = λ c l. let e = is c l in
          let n = near_of b.widths b.left rows c 0 (let w = narrow.wide c 0 l in omega arith) narrow.narrow in
          omega arith;
    }) where
      is : (c : ℕ) → c < length b.widths → slice_index new c ≡ x_of b.widths b.left rows c 0
      is c l =
          let a = ap (λ (xs : List ℕ). length xs) zeros in
          let e = length-replicate {A = ℕ} (length b.widths) 0 in
          each c (omega arith)
          ∙ ap (λ (x : ℕ). x_of b.widths b.left rows c x) (ap (λ (xs : List ℕ). slice_index xs c) zeros ∙ get_or-replicate (length b.widths) c 0 0 l)

pub rows_inside : (c : Cells) (rows : List (Vec ℕ)) (n : ℕ) → AreRowsOf (block_of c) (rows_of rows) → n ≡ length c.widths.items → All (λ row. All (λ k. k < n) row.items) rows
rows_inside c rows n h e = λ r v l k d m.
    let view : row_at (rows_of rows) r ≡ (get_or rows r v).items = at_map items rows r v [] l in
    let many = ap (λ (row : List ℕ). length row) view in
    let inside = h.cells r k (omega arith) in
    let same : get_or (get_or rows r v).items k d ≡ cell_at (rows_of rows) r k =
    get_or_default (get_or rows r v).items k d 0 m ∙ ap (λ (row : List ℕ). slice_index row k) (sym view) in
    omega arith

pub rows_narrow : (c : Cells) (rows : List (Vec ℕ)) (w : List ℕ) → AreNarrow (block_of c) (rows_of rows) → w ≡ c.widths.items → All (λ row. c.left + row_width w row.items ≤ limit) rows
rows_narrow c rows w h e = λ r v l.
    let P : List ℕ → Type 0 = λ row. c.left + row_width c.widths.items row ≤ limit in
    let Q : List ℕ → Type 0 = λ ws. c.left + row_width ws (get_or rows r v).items ≤ limit in
    subst Q (sym e) (subst P (at_map items rows r v [] l) (h.narrow r [] (let m = length-map rows items in omega arith)))

-- nothing is listed in empty lists
pub listed_none : (nets : List (List Pin)) (lists : List (List ℕ)) → ((c : ℕ) → row_at lists c ≡ []) → AreListed nets 0 lists
listed_none nets lists empty = record {
  inside = λ c. let P : List ℕ → Type 0 = λ row. All (λ k. k < length nets) row in subst P (sym (empty c)) (All-nil (λ k. k < length nets));
  listed = λ k l. absurd (omega arith);
}

pub nets_are : (c : Cells) (v : Vec (Vec ℕ)) (new : List (Vec ℕ)) → v.len ≡ length v.items → length new ≡ length v.items → length v.items ≡ length c.widths.items
    → AreListed (nets_in c.nets.items) (length c.nets.items) (rows_of new) → AreNetsOf (block_of c) (rows_of (take v.len (new ++ drop (length new) v.items)))
nets_are c v new len many all h =
    let P : List (Vec ℕ) → Type 0 = λ lists. AreNetsOf (block_of c) (rows_of lists) in
    subst P (sym (take_at new (drop (length new) v.items) v.len (omega arith)))
    (record {
      many = length-map new items ∙ many ∙ all;
      inside = λ k l. h.inside k;
      listed = λ k l. h.listed k (let e = length-map c.nets.items (λ (w : Vec Pin). w.items) in omega arith);
    })

pub all_near : (c : Cells) (rows : List (List ℕ)) (starts xs : List ℕ) (nets : List (Vec Pin)) → IsBlock (block_of c) → AreStarts (block_of c) rows starts → xs ≡ starts
    → nets ≡ c.nets.items → All (λ net. AreNear xs net.items) nets
all_near c rows starts xs nets block h e is =
    let P : List (Vec Pin) → Type 0 = λ vs. All (λ net. AreNear xs net.items) vs in
    let Q : List ℕ → Type 0 = λ ys. All (λ net. AreNear ys net.items) c.nets.items in
    subst P (sym is)
    (subst Q (sym e)
    (pins_in (λ one. AreNear starts one) c.nets.items
    (All-weaker (λ one. All (IsPinOf c.widths.items) one) (λ one. AreNear starts one) (λ one pins. near one pins) (nets_in c.nets.items) block.pins))) where
      near : (net : List Pin) → All (IsPinOf c.widths.items) net → AreNear starts net
      near net pins = λ i d m.
          let pin = get_or net i d in
          let ok = pins i d m in
          let many = h.many in
          let here = h.near pin.cell ok.0 in
          let wide = ok.1 in
          let cell = ok.0 in
          (omega arith, omega arith)

pub all_spans_near : (c : Cells) (rows : List (List ℕ)) (starts xs : List ℕ) (nets : List (Vec Pin)) (spans all : List Span) → IsBlock (block_of c)
    → AreStarts (block_of c) rows starts → xs ≡ starts → nets ≡ c.nets.items → spans ≡ map (span_of xs) (nets_in nets) → all ≡ spans → AreSpansNear all
all_spans_near c rows starts xs nets spans all block h e is se ae =
    subst AreSpansNear
    (sym (ae ∙ se ∙ ap (λ (ys : List ℕ). map (span_of ys) (nets_in nets)) e ∙ ap (λ (vs : List (Vec Pin)). map (span_of starts) (nets_in vs)) is))
    (spans_near (block_of c) rows starts block h)
