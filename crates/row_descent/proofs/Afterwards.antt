-- What is kept beside rows of cells, after two neighbours were exchanged.
use Rattle.std.proofs.Common.{◌≡◌, ◌≢◌, ◌⊎◌, inl, inr, ℕ, zero, suc, ◌+◌, ◌≤◌, ◌<◌, Bool, true, false, cond, All, List, [], ◌∷◌, map, length, get_or, set, slice_index, refl, sym, ap, ap₂, ◌∙◌, subst, ext_get_or, add-one, arith}
use Rattle.std.proofs.lemmas.Bool.{cond-true, cond-false, cases_eq}
use Rattle.std.proofs.lemmas.List.{length-set, length-map, get_or-set_same, get_or-set_other}
use Rattle.row_meaning.specs.declared.Pin.{Pin}
use Rattle.row_meaning.specs.Rows.{x_of, times, row_at, cell_at, exchanged, stands_in}
use Rattle.row_meaning.specs.declared.Cells.{Cells}
use Rattle.row_meaning.specs.Length.{Block, block_of}
use Rattle.std.specs.Global.{Vec}
use Rattle.std.proofs.lemmas.List.Elements.{All-map}
use Rattle.row_descent.specs.declared.table.Table.{Table}
use Rattle.row_descent.proofs.Totals.{span_near}
use Rattle.row_meaning.proofs.Exchanging.{AreExchanged, neighbours_move, rows_times, row_there, row_elsewhere, row_length, cell_first, cell_second}
use Rattle.row_descent.specs.declared.span.Span.{Span}
use Rattle.row_descent.specs.Spans.{limit, AreNear, AreSpansNear, span_of, total_of, refreshed, refreshed_all}
use Rattle.row_descent.specs.Tables.{rows_of, nets_in, net_at, IsPinOf, IsBlock, AreRowsOf, AreStarts, AreNetsOf, IsReady}
use Rattle.row_descent.proofs.Windows.{Within, Between, Anew, all_anew, span_alike}
use Rattle.row_descent.proofs.Views.{at_map}

module _ (b : Block) (rows : List (List ℕ)) (r k : ℕ) (block : IsBlock b) (placed : AreRowsOf b rows) (l : suc k < length (row_at rows r)) (starts : List ℕ)
    (began : AreStarts b rows starts) where
  abbrev n : ℕ
  n = length b.widths

  abbrev pub first : ℕ
  first = cell_at rows r k

  abbrev pub second : ℕ
  second = cell_at rows r (suc k)

  abbrev pub low : ℕ
  low = slice_index starts first

  abbrev pub between : ℕ
  between = low + slice_index b.widths second

  abbrev pub high : ℕ
  high = between + slice_index b.widths first

  -- where cells begin afterwards
  abbrev pub moved : List ℕ
  moved = set (set starts second low) first between

  pub moves : AreExchanged b.widths (λ c. x_of b.widths b.left rows c 0) (λ c. x_of b.widths b.left (exchanged rows r k) c 0) first second
  moves = neighbours_move b.widths b.left rows r k (record { once = placed.once }) l

  pub first_inside : first < n
  first_inside = placed.cells r k (omega arith)

  pub second_inside : second < n
  second_inside = placed.cells r (suc k) l

  pub moved_many : length moved ≡ n
  moved_many = length-set (set starts second low) first between ∙ length-set starts second low ∙ began.many

  pub at_first : slice_index moved first ≡ between
  at_first = get_or-set_same (set starts second low) first between 0 (let a = length-set starts second low in let m = began.many in let f = first_inside in omega arith)

  pub at_second : slice_index moved second ≡ low
  at_second =
      get_or-set_other (set starts second low) first second between 0 (λ e. moves.unlike (sym e))
      ∙ get_or-set_same starts second low 0 (let m = began.many in let s = second_inside in omega arith)

  pub at_other : (c : ℕ) → first ≢ c → second ≢ c → slice_index moved c ≡ slice_index starts c
  at_other c f s = get_or-set_other (set starts second low) first c between 0 (λ e. f (sym e)) ∙ get_or-set_other starts second c low 0 (λ e. s (sym e))

  -- the second begins where the first ends
  pub second_before : slice_index starts second ≡ low + slice_index b.widths first
  second_before =
      let a = began.each first first_inside in
      let c = began.each second second_inside in
      let d = moves.second in
      omega arith

  -- each cell is one of the two, or another
  pub which : (P : ℕ → Type 0) → P first → P second → ((c : ℕ) → first ≢ c → second ≢ c → P c) → (c : ℕ) → P c
  which P f s o c = by (cases_eq first c) (cases_eq second c) where
    by : (first ≡ c) ⊎ (first ≡ c → ⊥) → (second ≡ c) ⊎ (second ≡ c → ⊥) → P c
    by (inl e) h = subst P e f
    by (inr g) (inl e) = subst P e s
    by (inr g) (inr h) = o c g h

  pub starts_afterwards : AreStarts b (exchanged rows r k) moved
  starts_afterwards = record {
    many = moved_many;
    each = which (λ c. c < n → slice_index moved c ≡ x_of b.widths b.left (exchanged rows r k) c 0)
        (λ i. let a = at_first in let e = began.each first first_inside in let m = moves.right in omega arith)
        (λ i. let a = at_second in let e = began.each first first_inside in let m = moves.left in omega arith)
        (λ c f s i. at_other c f s ∙ began.each c i ∙ sym (moves.others c f s));
    near = which (λ c. c < n → slice_index moved c + slice_index b.widths c ≤ limit)
        (λ i. let a = at_first in let e = began.near second second_inside in let m = second_before in omega arith)
        (λ i. let a = at_second in let e = began.near second second_inside in let m = second_before in omega arith)
        (λ c f s i. let a = at_other c f s in let e = began.near c i in omega arith);
  }

  pub rows_afterwards : AreRowsOf b (exchanged rows r k)
  rows_afterwards = record {
    cells = λ s j m. inside s j (cases_eq s r) m;
    once = λ c. let a = rows_times rows r k c in let e = placed.once c in omega arith;
  } where
    -- a cell of a row that stands anew stood there before
    inside : (s j : ℕ) → (s ≡ r) ⊎ (s ≡ r → ⊥) → j < length (row_at (exchanged rows r k) s) → cell_at (exchanged rows r k) s j < length b.widths
    inside s j (inr h) m =
        let e = row_elsewhere rows r s k h in
        let P : List ℕ → Type 0 = λ row. j < length row → slice_index row j < length b.widths in
        subst P (sym e) (λ i. placed.cells s j i) m
    inside s j (inl h) m =
        let P : ℕ → Type 0 = λ q. j < length (row_at (exchanged rows r k) q) → cell_at (exchanged rows r k) q j < length b.widths in
        subst P (sym h) (λ i. here j (cases_eq j k) (cases_eq j (suc k)) i) m where
          row_others : (row : List ℕ) (k j : ℕ) → j ≢ k → j ≢ suc k → slice_index (Rattle.row_meaning.specs.Rows.exchanged_row row k) j ≡ slice_index row j
          row_others [] k j f g = refl
          row_others (a ∷ []) k j f g = refl
          row_others (a ∷ c ∷ row) zero zero f g = absurd (f refl)
          row_others (a ∷ c ∷ row) zero (suc zero) f g = absurd (g refl)
          row_others (a ∷ c ∷ row) zero (suc (suc j)) f g = refl
          row_others (a ∷ c ∷ row) (suc k) zero f g = refl
          row_others (a ∷ c ∷ row) (suc k) (suc j) f g = row_others (c ∷ row) k j (λ e. f (ap suc e)) (λ e. g (ap suc e))

          here : (j : ℕ) → (j ≡ k) ⊎ (j ≡ k → ⊥) → (j ≡ suc k) ⊎ (j ≡ suc k → ⊥) → j < length (row_at (exchanged rows r k) r) → cell_at (exchanged rows r k) r j < length b.widths
          here j (inl e) g i =
              let is : cell_at (exchanged rows r k) r j ≡ second = ap (λ (q : ℕ). cell_at (exchanged rows r k) r q) e ∙ cell_first rows r k l in
              let s = second_inside in omega arith
          here j (inr f) (inl e) i =
              let is : cell_at (exchanged rows r k) r j ≡ first = ap (λ (q : ℕ). cell_at (exchanged rows r k) r q) e ∙ cell_second rows r k l in
              let s = first_inside in omega arith
          here j (inr f) (inr g) i =
              let there = row_there rows r k in
              let is : cell_at (exchanged rows r k) r j ≡ cell_at rows r j = ap (λ (row : List ℕ). slice_index row j) there ∙ row_others (row_at rows r) k j f g in
              let many = ap (λ (row : List ℕ). length row) there in
              let same = row_length (row_at rows r) k in
              let c = placed.cells r j (omega arith) in
              omega arith

  -- ---- spans

  pub pins_within : Within low high starts moved b.nets
  pins_within = record {
    each = λ j m i d h. let pin = get_or (net_at b.nets j) i d in let ok = block.pins j [] m i d h in
        which (λ c. c < n → pin.x ≤ slice_index b.widths c
        → (slice_index moved c + pin.x ≡ slice_index starts c + pin.x)
        ⊎ ((low ≤ slice_index starts c + pin.x) × (slice_index starts c + pin.x ≤ high) × (low ≤ slice_index moved c + pin.x) × (slice_index moved c + pin.x ≤ high)))
        (λ g w. let a = at_first in inr (omega arith, omega arith, omega arith, omega arith))
        (λ g w. let a = at_second in let s = second_before in inr (omega arith, omega arith, omega arith, omega arith))
        (λ c f s g w. inl (ap (λ (x : ℕ). x + pin.x) (at_other c f s)))
        pin.cell ok.0 ok.1;
  }

  pub pins_near : (xs : List ℕ) (others : List (List ℕ)) → AreStarts b others xs → (net : List Pin) → All (IsPinOf b.widths) net → AreNear xs net
  pins_near xs others h net pins = λ i d m.
      let pin = get_or net i d in
      let ok = pins i d m in
      let many = h.many in
      let near = h.near pin.cell ok.0 in
      let wide = ok.1 in
      let cell = ok.0 in
      (omega arith, omega arith)

  pub spans_afterwards : (lists : List (List ℕ)) → AreNetsOf b lists
      → refreshed_all moved low high b.nets (row_at lists second) (refreshed_all moved low high b.nets (row_at lists first) (map (span_of starts) b.nets)) ≡ map (span_of moved) b.nets
  spans_afterwards lists h =
      let before = map (span_of starts) b.nets in
      let at_start : Between starts moved b.nets before = record {
        many = length-map b.nets (span_of starts);
        each = λ j d m. inl (at_map (span_of starts) b.nets j [] d m);
      } in
      let one : Anew low high starts moved b.nets pins_within (row_at lists first) before (refreshed_all moved low high b.nets (row_at lists first) before) =
      all_anew low high starts moved b.nets pins_within (row_at lists first) before (h.inside first first_inside) at_start in
      let middle = refreshed_all moved low high b.nets (row_at lists first) before in
      let two : Anew low high starts moved b.nets pins_within (row_at lists second) middle (refreshed_all moved low high b.nets (row_at lists second) middle) =
      all_anew low high starts moved b.nets pins_within (row_at lists second) middle (h.inside second second_inside) one.between in
      let none : Span = record { low = 0; high = 0 } in
      ext_get_or none (refreshed_all moved low high b.nets (row_at lists second) middle) (map (span_of moved) b.nets)
      (two.between.many ∙ sym (length-map b.nets (span_of moved)))
      (λ j m. let inside : j < length b.nets = (let e = two.between.many in omega arith) in
      two.at j none
      ∙ by j inside (stands_in (row_at lists second) j) refl (stands_in (row_at lists first) j) refl (get_or middle j none) (one.at j none) (at_map (span_of starts) b.nets j [] none inside)
      ∙ sym (at_map (span_of moved) b.nets j [] none inside)) where
        none : Span
        none = record { low = 0; high = 0 }

        by : (j : ℕ) → j < length b.nets → (t : Bool) → stands_in (row_at lists second) j ≡ t → (u : Bool) → stands_in (row_at lists first) j ≡ u → (s : Span)
            → s ≡ cond (stands_in (row_at lists first) j) (span_of moved (net_at b.nets j)) (get_or (map (span_of starts) b.nets) j (record { low = 0; high = 0 }))
            → get_or (map (span_of starts) b.nets) j (record { low = 0; high = 0 }) ≡ span_of starts (net_at b.nets j)
            → cond (stands_in (row_at lists second) j) (span_of moved (net_at b.nets j)) s ≡ span_of moved (net_at b.nets j)
        by j m true e u f s is was = cond-true (stands_in (row_at lists second) j) (span_of moved (net_at b.nets j)) s e
        by j m false e true f s is was =
            cond-false (stands_in (row_at lists second) j) (span_of moved (net_at b.nets j)) s e ∙ is
            ∙ cond-true (stands_in (row_at lists first) j) (span_of moved (net_at b.nets j)) (get_or (map (span_of starts) b.nets) j (record { low = 0; high = 0 })) f
        by j m false e false f s is was =
            cond-false (stands_in (row_at lists second) j) (span_of moved (net_at b.nets j)) s e ∙ is
            ∙ cond-false (stands_in (row_at lists first) j) (span_of moved (net_at b.nets j)) (get_or (map (span_of starts) b.nets) j (record { low = 0; high = 0 })) f
            ∙ was
            ∙ span_alike starts moved (net_at b.nets j)
            (λ i d g. let pin = get_or (net_at b.nets j) i d in
            ap (λ (x : ℕ). x + pin.x)
            (at_other pin.cell
            (λ q. let yes : stands_in (row_at lists pin.cell) j ≡ true = h.listed j m i d g in
            let no : stands_in (row_at lists pin.cell) j ≡ false = ap (λ (c : ℕ). stands_in (row_at lists c) j) (sym q) ∙ f in
            absurd (cc (yes, no)))
            (λ q. let yes : stands_in (row_at lists pin.cell) j ≡ true = h.listed j m i d g in
            let no : stands_in (row_at lists pin.cell) j ≡ false = ap (λ (c : ℕ). stands_in (row_at lists c) j) (sym q) ∙ e in
            absurd (cc (yes, no)))))

-- ---- spans lie near

pub refreshed_length : (starts : List ℕ) (low high : ℕ) (nets : List (List Pin)) (ks : List ℕ) (spans : List Span)
    → length (refreshed_all starts low high nets ks spans) ≡ length spans
refreshed_length starts lo hi nets [] spans = refl
refreshed_length starts lo hi nets (k ∷ ks) spans =
    let fresh = refreshed starts lo hi (net_at nets k) (get_or spans k (span_of starts (net_at nets k))) in
    refreshed_length starts lo hi nets ks (set spans k fresh) ∙ length-set spans k fresh

pub spans_near : (b : Block) (rows : List (List ℕ)) (starts : List ℕ) → IsBlock b → AreStarts b rows starts → AreSpansNear (map (span_of starts) b.nets)
spans_near b rows starts block h =
    All-map (λ (s : Span). s.high ≤ limit) (span_of starts) b.nets
    (λ k d m. span_near starts (get_or b.nets k d) (nets_near (get_or b.nets k d) (block.pins k d m))) where
      nets_near : (net : List Pin) → All (IsPinOf b.widths) net → AreNear starts net
      nets_near net pins = λ i d m.
          let pin = get_or net i d in
          let ok = pins i d m in
          let many = h.many in
          let near = h.near pin.cell ok.0 in
          let wide = ok.1 in
          let cell = ok.0 in
          (omega arith, omega arith)

pub pins_in : (P : List Pin → Type 0) (nets : List (Vec Pin)) → All P (nets_in nets) → All (λ v. P v.items) nets
pins_in P nets h = λ k d m.
    subst P (at_map (λ (v : Vec Pin). v.items) nets k d [] m) (h k [] (let e = length-map nets (λ (v : Vec Pin). v.items) in omega arith))

-- ---- all of it

module _ (c : Cells) (rows : List (List ℕ)) (r k f s : ℕ) (t : Table) (ready : IsReady (block_of c) rows t) (within : k + 1 < length (row_at rows r))
    (is_first : f ≡ cell_at rows r k) (is_second : s ≡ cell_at rows r (k + 1)) where
  abbrev b : Block
  b = block_of c

  abbrev starts : List ℕ
  starts = t.starts.items

  l : suc k < length (row_at rows r)
  l = omega arith

  first_is : f ≡ first b rows r k ready.block ready.placed l starts ready.table.starts
  first_is = is_first

  second_is : s ≡ second b rows r k ready.block ready.placed l starts ready.table.starts
  second_is = is_second ∙ ap (λ (i : ℕ). cell_at rows r i) (add-one k)

  abbrev pub new_starts : List ℕ
  new_starts = set (set starts s (slice_index starts f)) f (slice_index starts f + slice_index b.widths s)

  new_starts_are : new_starts ≡ moved b rows r k ready.block ready.placed l starts ready.table.starts
  new_starts_are = ap₂ (λ (x y : ℕ). set (set starts y (slice_index starts x)) x (slice_index starts x + slice_index b.widths y)) first_is second_is

  pub room : slice_index starts f + slice_index b.widths s + slice_index b.widths f ≤ limit
  room =
      let a = second_before b rows r k ready.block ready.placed l starts ready.table.starts in
      let near = ready.table.starts.near (cell_at rows r (suc k)) (second_inside b rows r k ready.block ready.placed l starts ready.table.starts) in
      let wf : slice_index b.widths f ≡ slice_index b.widths (cell_at rows r k) = ap (λ (x : ℕ). slice_index b.widths x) first_is in
      let ws : slice_index b.widths s ≡ slice_index b.widths (cell_at rows r (suc k)) = ap (λ (x : ℕ). slice_index b.widths x) second_is in
      let xf : slice_index starts f ≡ slice_index starts (cell_at rows r k) = ap (λ (x : ℕ). slice_index starts x) first_is in
      omega arith

  pub first_within : f < length b.widths
  first_within = let a = ready.placed.cells r k (omega arith) in omega arith

  pub second_within : s < length b.widths
  second_within = let a = ready.placed.cells r (k + 1) within in omega arith

  pub near_now : AreSpansNear t.spans.items
  near_now = subst AreSpansNear (sym ready.table.spans) (spans_near b rows starts ready.block ready.table.starts)

  pub pins_near_then : (xs : List ℕ) → xs ≡ new_starts → All (λ net. AreNear xs net.items) c.nets.items
  pins_near_then xs e =
      let is = e ∙ new_starts_are in
      let P : List ℕ → Type 0 = λ ys. All (λ net. AreNear ys net.items) c.nets.items in
      let new = moved b rows r k ready.block ready.placed l starts ready.table.starts in
      subst P (sym is)
      (pins_in (λ net. AreNear new net) c.nets.items
      (λ j d m. pins_near b rows r k ready.block ready.placed l starts ready.table.starts new (exchanged rows r k)
      (starts_afterwards b rows r k ready.block ready.placed l starts ready.table.starts) (get_or b.nets j d) (ready.block.pins j d m)))

  pub ready_then : (u : Table) (xs : List ℕ) (low' high' : ℕ) (middle : List Span) → xs ≡ new_starts
      → low' ≡ slice_index starts f → high' ≡ slice_index starts f + slice_index b.widths s + slice_index b.widths f
      → middle ≡ refreshed_all xs low' high' b.nets (row_at (rows_of t.nets_of.items) f) t.spans.items
      → u.spans.items ≡ refreshed_all xs low' high' b.nets (row_at (rows_of t.nets_of.items) s) middle
      → u.starts.items ≡ xs → u.total ≡ total_of u.spans.items → u.nets_of.items ≡ t.nets_of.items
      → IsReady b (exchanged rows r k) u
  ready_then u xs low' high' middle e le he me ue se te ne =
      let new = moved b rows r k ready.block ready.placed l starts ready.table.starts in
      let low'' = low b rows r k ready.block ready.placed l starts ready.table.starts in
      let high'' = high b rows r k ready.block ready.placed l starts ready.table.starts in
      let lists = rows_of t.nets_of.items in
      let fst = cell_at rows r k in
      let snd = cell_at rows r (suc k) in
      let is : xs ≡ new = e ∙ new_starts_are in
      let low_is : low' ≡ low'' = le ∙ ap (λ (x : ℕ). slice_index starts x) first_is in
      let high_is : high' ≡ high'' = he ∙ ap₂ (λ (x y : ℕ). slice_index starts x + slice_index b.widths y + slice_index b.widths x) first_is second_is in
      let call : List ℕ → ℕ → ℕ → List ℕ → List Span → List Span = λ ys lo hi ks spans. refreshed_all ys lo hi b.nets ks spans in
      let lists_f : row_at lists f ≡ row_at lists fst = ap (λ (x : ℕ). row_at lists x) first_is in
      let lists_s : row_at lists s ≡ row_at lists snd = ap (λ (x : ℕ). row_at lists x) second_is in
      let one : middle ≡ refreshed_all new low'' high'' b.nets (row_at lists fst) (map (span_of starts) b.nets) =
      me ∙ ap (λ (ys : List ℕ). call ys low' high' (row_at lists f) t.spans.items) is
      ∙ ap₂ (λ (lo hi : ℕ). call new lo hi (row_at lists f) t.spans.items) low_is high_is
      ∙ ap₂ (λ (ks : List ℕ) (spans : List Span). call new low'' high'' ks spans) lists_f ready.table.spans in
      let two : u.spans.items ≡ refreshed_all new low'' high'' b.nets (row_at lists snd) (refreshed_all new low'' high'' b.nets (row_at lists fst) (map (span_of starts) b.nets)) =
      ue ∙ ap (λ (ys : List ℕ). call ys low' high' (row_at lists s) middle) is
      ∙ ap₂ (λ (lo hi : ℕ). call new lo hi (row_at lists s) middle) low_is high_is
      ∙ ap₂ (λ (ks : List ℕ) (spans : List Span). call new low'' high'' ks spans) lists_s one in
      let began : u.starts.items ≡ new = se ∙ is in
      record {
        block = ready.block;
        placed = rows_afterwards b rows r k ready.block ready.placed l starts ready.table.starts;
        table = record {
          starts = subst (AreStarts b (exchanged rows r k)) (sym began) (starts_afterwards b rows r k ready.block ready.placed l starts ready.table.starts);
          spans =
              two ∙ spans_afterwards b rows r k ready.block ready.placed l starts ready.table.starts lists ready.table.nets
              ∙ ap (λ (ys : List ℕ). map (span_of ys) b.nets) (sym began);
          total = te;
          nets = (let P : List (Vec ℕ) → Type 0 = λ ls. AreNetsOf b (rows_of ls) in subst P (sym ne) ready.table.nets);
        };
      }
