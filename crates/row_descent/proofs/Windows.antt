-- Spans of nets of which some pins move within a window.
use Rattle.std.proofs.Common.{◌≡◌, ◌⊎◌, inl, inr, ℕ, ◌≤◌, ◌<◌, ◌==◌, ◌||◌, ◌&&◌, min, max, Bool, true, false, cond, All, List, [], ◌∷◌, map, length, get_or, set, slice_index_or, nat_lt, refl, sym, ap, ap₂, ◌∙◌, subst, ltb-true, eqb-true, arith}
use Rattle.std.proofs.lemmas.Bool.{cond-true, cond-false, and_parts, eqb-false}
use Rattle.std.proofs.lemmas.List.{length-set, get_or-set_same, get_or-set_other}
use Rattle.std.proofs.lemmas.List.Elements.{All-head, All-tail, All-nil, All-cons}
use Rattle.row_meaning.specs.declared.Pin.{Pin}
use Rattle.row_meaning.specs.Length.{least, greatest}
use Rattle.row_meaning.specs.Rows.{stands_in}
use Rattle.row_descent.specs.declared.span.Span.{Span}
use Rattle.row_descent.specs.Spans.{top, at, span_from, span_of, refreshed, refreshed_all}

-- ---- bounds

pub greatest_within : (f : Pin → ℕ) (pins : List Pin) (x most : ℕ) → x ≤ most → All (λ p. f p ≤ most) pins → greatest x (map f pins) ≤ most
greatest_within f [] x most l h = l
greatest_within f (p ∷ ps) x most l h =
    greatest_within f ps (max x (f p)) most (let a = All-head (λ q. f q ≤ most) p ps h in omega arith) (All-tail (λ q. f q ≤ most) p ps h)

pub greatest_start : (f : Pin → ℕ) (pins : List Pin) (x : ℕ) → x ≤ greatest x (map f pins)
greatest_start f [] x = omega arith
greatest_start f (p ∷ ps) x = let a = greatest_start f ps (max x (f p)) in omega arith

pub greatest_each : (f : Pin → ℕ) (pins : List Pin) (x : ℕ) → All (λ p. f p ≤ greatest x (map f pins)) pins
greatest_each f [] x = All-nil (λ p. f p ≤ x)
greatest_each f (p ∷ ps) x =
    All-cons (λ q. f q ≤ greatest (max x (f p)) (map f ps)) p ps
    (let a = greatest_start f ps (max x (f p)) in omega arith) (greatest_each f ps (max x (f p)))

pub least_within : (f : Pin → ℕ) (pins : List Pin) (x fewest : ℕ) → fewest ≤ x → All (λ p. fewest ≤ f p) pins → fewest ≤ least x (map f pins)
least_within f [] x fewest l h = l
least_within f (p ∷ ps) x fewest l h =
    least_within f ps (min x (f p)) fewest (let a = All-head (λ q. fewest ≤ f q) p ps h in omega arith) (All-tail (λ q. fewest ≤ f q) p ps h)

pub least_start : (f : Pin → ℕ) (pins : List Pin) (x : ℕ) → least x (map f pins) ≤ x
least_start f [] x = omega arith
least_start f (p ∷ ps) x = let a = least_start f ps (min x (f p)) in omega arith

pub least_each : (f : Pin → ℕ) (pins : List Pin) (x : ℕ) → All (λ p. least x (map f pins) ≤ f p) pins
least_each f [] x = All-nil (λ p. x ≤ f p)
least_each f (p ∷ ps) x =
    All-cons (λ q. least (min x (f p)) (map f ps) ≤ f q) p ps
    (let a = least_start f ps (min x (f p)) in omega arith) (least_each f ps (min x (f p)))

-- ---- a window

-- a pin stays, or it stands in a window before and after
abbrev pub StaysOrWithin : ℕ → ℕ → (Pin → ℕ) → (Pin → ℕ) → Pin → Type 0
StaysOrWithin low high f g p = (g p ≡ f p) ⊎ ((low ≤ f p) × (f p ≤ high) × (low ≤ g p) × (g p ≤ high))

turned : (low high : ℕ) (f g : Pin → ℕ) (p : Pin) → StaysOrWithin low high f g p → StaysOrWithin low high g f p
turned low high f g p (inl e) = inl (sym e)
turned low high f g p (inr h) = inr (h.2, h.3, h.0, h.1)

no_further : (low high : ℕ) (f g : Pin → ℕ) (pins : List Pin) → All (StaysOrWithin low high f g) pins
    → greatest 0 (map g pins) ≤ max high (greatest 0 (map f pins))
no_further low high f g pins h =
    greatest_within g pins 0 (max high (greatest 0 (map f pins))) (omega arith)
    (λ k d l. each (get_or pins k d) (h k d l) (greatest_each f pins 0 k d l)) where
      each : (p : Pin) → StaysOrWithin low high f g p → f p ≤ greatest 0 (map f pins) → g p ≤ max high (greatest 0 (map f pins))
      each p (inl e) m = omega arith
      each p (inr w) m = let a = w.3 in omega arith

no_nearer : (low high : ℕ) (f g : Pin → ℕ) (pins : List Pin) → All (StaysOrWithin low high f g) pins
    → min low (least top (map f pins)) ≤ least top (map g pins)
no_nearer low high f g pins h =
    least_within g pins top (min low (least top (map f pins))) (let a = least_start f pins top in omega arith)
    (λ k d l. each (get_or pins k d) (h k d l) (least_each f pins top k d l)) where
      each : (p : Pin) → StaysOrWithin low high f g p → least top (map f pins) ≤ f p → min low (least top (map f pins)) ≤ g p
      each p (inl e) m = omega arith
      each p (inr w) m = let a = w.2 in omega arith

-- a span that goes beyond the window on both sides stays
pub span_stays : (low high : ℕ) (old new : List ℕ) (pins : List Pin) → All (StaysOrWithin low high (at old) (at new)) pins
    → (span_of old pins).low < low → high < (span_of old pins).high → span_of old pins ≡ span_of new pins
span_stays low high old new pins h l m =
    let f = at old in
    let g = at new in
    let back : All (StaysOrWithin low high g f) pins = λ k d n. turned low high f g (get_or pins k d) (h k d n) in
    let a : greatest 0 (map g pins) ≤ max high (greatest 0 (map f pins)) = no_further low high f g pins h in
    let b : greatest 0 (map f pins) ≤ max high (greatest 0 (map g pins)) = no_further low high g f pins back in
    let c : min low (least top (map f pins)) ≤ least top (map g pins) = no_nearer low high f g pins h in
    let d : min low (least top (map g pins)) ≤ least top (map f pins) = no_nearer low high g f pins back in
    let e : least top (map f pins) ≡ least top (map g pins) = omega arith in
    let k : greatest 0 (map f pins) ≡ greatest 0 (map g pins) = omega arith in
    let made : ℕ → ℕ → Span = λ x y. record { low = x; high = y } in
    ap₂ made e k

pub span_alike : (old new : List ℕ) (pins : List Pin) → All (λ p. at new p ≡ at old p) pins → span_of old pins ≡ span_of new pins
span_alike old new pins h = ap (span_from top 0) (same pins h) where
  same : (ps : List Pin) → All (λ p. at new p ≡ at old p) ps → map (at old) ps ≡ map (at new) ps
  same [] h = refl
  same (p ∷ ps) h =
      ap₂ (λ (x : ℕ) (xs : List ℕ). x ∷ xs) (sym (All-head (λ q. at new q ≡ at old q) p ps h)) (same ps (All-tail (λ q. at new q ≡ at old q) p ps h))

-- ---- spans anew

-- from the span before or the span after, it is the span after
pub refreshed_is : (low high : ℕ) (old new : List ℕ) (pins : List Pin) (s : Span) → All (StaysOrWithin low high (at old) (at new)) pins
    → (s ≡ span_of old pins) ⊎ (s ≡ span_of new pins) → refreshed new low high pins s ≡ span_of new pins
refreshed_is low high old new pins s h which = by (nat_lt s.low low && nat_lt high s.high) refl which where
  by : (t : Bool) → (nat_lt s.low low && nat_lt high s.high) ≡ t → (s ≡ span_of old pins) ⊎ (s ≡ span_of new pins)
      → cond (nat_lt s.low low && nat_lt high s.high) s (span_of new pins) ≡ span_of new pins
  by false e which = cond-false (nat_lt s.low low && nat_lt high s.high) s (span_of new pins) e
  by true e (inr is) = cond-true (nat_lt s.low low && nat_lt high s.high) s (span_of new pins) e ∙ is
  by true e (inl is) =
      let both = and_parts (nat_lt s.low low) (nat_lt high s.high) e in
      let l : s.low < low = ltb-true s.low low both.0 in
      let m : high < s.high = ltb-true high s.high both.1 in
      let le : s.low ≡ (span_of old pins).low = ap (λ (x : Span). x.low) is in
      let he : s.high ≡ (span_of old pins).high = ap (λ (x : Span). x.high) is in
      cond-true (nat_lt s.low low && nat_lt high s.high) s (span_of new pins) e ∙ is
      ∙ span_stays low high old new pins h (omega arith) (omega arith)

-- the net of this number
abbrev pub net_at : List (List Pin) → ℕ → List Pin
net_at nets k = slice_index_or nets k []

pub record Within (low high : ℕ) (old new : List ℕ) (nets : List (List Pin)) : Type 0 where
  pub each : (k : ℕ) → k < length nets → All (StaysOrWithin low high (at old) (at new)) (net_at nets k)

-- each span is that before or that after
pub record Between (old new : List ℕ) (nets : List (List Pin)) (spans : List Span) : Type 0 where
  pub many : length spans ≡ length nets
  pub each : (k : ℕ) (d : Span) → k < length nets
      → (get_or spans k d ≡ span_of old (net_at nets k)) ⊎ (get_or spans k d ≡ span_of new (net_at nets k))

module _ (low high : ℕ) (old new : List ℕ) (nets : List (List Pin)) (w : Within low high old new nets) where
  abbrev after : ℕ → Span
  after k = span_of new (net_at nets k)

  abbrev one : ℕ → List Span → List Span
  one k spans = set spans k (refreshed new low high (net_at nets k) (get_or spans k (after k)))

  pub one_is : (k : ℕ) (spans : List Span) → k < length nets → Between old new nets spans → one k spans ≡ set spans k (after k)
  one_is k spans l b =
      ap (λ (s : Span). set spans k s)
      (refreshed_is low high old new (net_at nets k) (get_or spans k (after k)) (w.each k l) (b.each k (after k) l))

  -- one write
  pub one_at : (k j : ℕ) (d : Span) (spans : List Span) → k < length spans → get_or (set spans k (after k)) j d ≡ cond (k == j) (after j) (get_or spans j d)
  one_at k j d spans l = by (k == j) refl where
    by : (t : Bool) → (k == j) ≡ t → get_or (set spans k (after k)) j d ≡ cond t (after j) (get_or spans j d)
    by true e =
        let is : k ≡ j = eqb-true k j e in
        ap (λ (i : ℕ). get_or (set spans k (after k)) i d) (sym is) ∙ get_or-set_same spans k (after k) d l ∙ ap after is
    by false e = get_or-set_other spans k j (after k) d (λ h. eqb-false k j e (sym h))

  pub one_between : (k : ℕ) (spans : List Span) → k < length nets → Between old new nets spans → Between old new nets (set spans k (after k))
  one_between k spans l b = record {
    many = length-set spans k (after k) ∙ b.many;
    each = λ j d m. by j d (k == j) (one_at k j d spans (let e = b.many in omega arith)) (b.each j d m);
  } where
    by : (j : ℕ) (d : Span) (t : Bool) → get_or (set spans k (after k)) j d ≡ cond t (after j) (get_or spans j d)
        → (get_or spans j d ≡ span_of old (net_at nets j)) ⊎ (get_or spans j d ≡ after j)
        → (get_or (set spans k (after k)) j d ≡ span_of old (net_at nets j)) ⊎ (get_or (set spans k (after k)) j d ≡ after j)
    by j d true e h = inr e
    by j d false e (inl h) = inl (e ∙ h)
    by j d false e (inr h) = inr (e ∙ h)

  pub record Anew (ks : List ℕ) (before spans : List Span) : Type 0 where
    pub between : Between old new nets spans
    pub at : (j : ℕ) (d : Span) → get_or spans j d ≡ cond (stands_in ks j) (after j) (get_or before j d)

  pub all_anew : (ks : List ℕ) (spans : List Span) → All (λ k. k < length nets) ks → Between old new nets spans
      → Anew ks spans (refreshed_all new low high nets ks spans)
  all_anew [] spans within b = record { between = b; at = λ j d. refl }
  all_anew (k ∷ ks) spans within b =
      let l : k < length nets = All-head (λ i. i < length nets) k ks within in
      let is : one k spans ≡ set spans k (after k) = one_is k spans l b in
      let rest = all_anew ks (set spans k (after k)) (All-tail (λ i. i < length nets) k ks within) (one_between k spans l b) in
      let P : List Span → Type 0 = λ xs. Anew (k ∷ ks) spans (refreshed_all new low high nets ks xs) in
      subst P (sym is) (record {
        between = rest.between;
        at = λ j d. rest.at j d ∙ by j d (k == j) (stands_in ks j) (one_at k j d spans (let e = b.many in omega arith));
      }) where
        by : (j : ℕ) (d : Span) (t u : Bool) → get_or (set spans k (after k)) j d ≡ cond t (after j) (get_or spans j d)
            → cond u (after j) (get_or (set spans k (after k)) j d) ≡ cond (t || u) (after j) (get_or spans j d)
        by j d true true e = refl
        by j d true false e = e
        by j d false true e = refl
        by j d false false e = e
