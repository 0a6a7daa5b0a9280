-- Boxes of metals lie beside what they write.
use Rattle.std.proofs.Common.{◌≡◌, inl, inr, ℕ, suc, zero, ◌+◌, ◌*◌, ◌/◌, ◌<◌, ◌≤◌, Bool, true, false, not, List, [], ◌∷◌, ◌++◌, length, take, get_or, neg_ℤ, Option, None, Some, All, cond, refl, sym, subst, ap, arith}
use Rattle.std.specs.Prelude.{ℤ, pos, ◌+ℤ◌, ◌-ℤ◌, ◌*ℤ◌, ◌≤ℤ◌, ◌<ℤ◌, bytes_eq, is_some}
use Rattle.std.proofs.lemmas.Bool.{false≢true, and_parts}
use Rattle.std.proofs.lemmas.Int.{ints}
use Rattle.std.proofs.lemmas.List.Elements.{All-more}
use Rattle.vlsi_base.specs.Member.{In, here, there}
use Rattle.cell_model.proofs.Members.{In-split, All-In, All-from}
use Rattle.sym_geom.specs.declared.rect.Rect.{Rect}
use Rattle.sym_shapes.specs.Shape.{Shape}
use Rattle.sym_near.specs.Related.{shape_at}
use Rattle.s2r_cif.proofs.Scales.{scale_keeps, scale_moved, near_axis}
use Rattle.real_table.specs.declared.table.Growth.{Growth}
use Rattle.real_table.specs.declared.table.Rule.{Rule}
use Rattle.real_table.specs.declared.table.Entry.{Entry}
use Rattle.real_table.specs.declared.table.Entry.TheVariants as entry
use Rattle.real_table.specs.declared.table.ProcessTable.{ProcessTable}
use Rattle.real_boxes.specs.declared.mark.Mark.{Mark}
use Rattle.real_boxes.specs.declared.boxes.RealBox.{RealBox}
use Rattle.real_boxes.specs.Boxes.{layer_of, box_rect, rule_boxes, boxes_by}
use Rattle.real_boxes.specs.Metals.{is_layer_of, metal_box, is_written, mark_boxes, is_kept, on_metal, lengthened, padded, shown_by, shown_rect, mark_shapes, metal_shapes, rect_of, written_rect, written_shapes, metal_boxes, IsMovedWithin, IsGrownWithin, IsEntryGrownWithin, IsMostAside, AreWithinGap}
use Rattle.real_boxes.specs.Refused.{first_lost}
use Rattle.real_boxes.proofs.Firsts.{found_in}
use Rattle.real_boxes.proofs.Layers.{only}

-- ---- rectangles from their edges

pub lengthened_up : (u : Bool) (r : Rect) (a b c d : ℤ) → u ≡ true → a ≡ r.x1 → b ≡ r.y1 -ℤ pos 100 → c ≡ r.x2 → d ≡ r.y2 +ℤ pos 100
    → ◌≡◌ {A = Rect} (record { x1 = a; y1 = b; x2 = c; y2 = d }) (lengthened u r)
lengthened_up u r a b c d is p q v w =
    subst (λ (t : Bool). ◌≡◌ {A = Rect} (record { x1 = a; y1 = b; x2 = c; y2 = d }) (lengthened t r)) (sym is) (λ i. record { x1 = p i; y1 = q i; x2 = v i; y2 = w i })

pub lengthened_level : (u : Bool) (r : Rect) (a b c d : ℤ) → u ≡ false → a ≡ r.x1 -ℤ pos 100 → b ≡ r.y1 → c ≡ r.x2 +ℤ pos 100 → d ≡ r.y2
    → ◌≡◌ {A = Rect} (record { x1 = a; y1 = b; x2 = c; y2 = d }) (lengthened u r)
lengthened_level u r a b c d is p q v w =
    subst (λ (t : Bool). ◌≡◌ {A = Rect} (record { x1 = a; y1 = b; x2 = c; y2 = d }) (lengthened t r)) (sym is) (λ i. record { x1 = p i; y1 = q i; x2 = v i; y2 = w i })

pub padded_is : (r : Rect) (a b c d : ℤ) → a ≡ r.x1 -ℤ pos 100 → b ≡ r.y1 -ℤ pos 100 → c ≡ r.x2 +ℤ pos 100 → d ≡ r.y2 +ℤ pos 100
    → ◌≡◌ {A = Rect} (record { x1 = a; y1 = b; x2 = c; y2 = d }) (padded r)
padded_is r a b c d p q v w = λ i. record { x1 = p i; y1 = q i; x2 = v i; y2 = w i }

-- ---- how far a line of the table moves edges

moved_within : (a b n : ℕ) (out by : ℤ) → neg_ℤ (pos a) ≤ℤ out → out ≤ℤ pos a → neg_ℤ (pos b) ≤ℤ by → by ≤ℤ pos b → a + b ≤ n → IsMovedWithin n out by
moved_within a b n out by p q u v most = record {
  in_low = omega (arith, ints, p, q, u, v, most);
  in_high = omega (arith, ints, p, q, u, v, most);
  out_low = omega (arith, ints, p, q, u, v, most);
  out_high = omega (arith, ints, p, q, u, v, most);
}

pub grown_of : (one : Entry) (r : Rule) (a b x y n : ℕ) → one ≡ entry.Rule r → n ≡ a + b + x + y
    → neg_ℤ (pos a) ≤ℤ r.growth.along → r.growth.along ≤ℤ pos a → neg_ℤ (pos b) ≤ℤ r.growth.across → r.growth.across ≤ℤ pos b
    → neg_ℤ (pos x) ≤ℤ r.growth.x → r.growth.x ≤ℤ pos x → neg_ℤ (pos y) ≤ℤ r.growth.y → r.growth.y ≤ℤ pos y → IsEntryGrownWithin n one
grown_of one r a b x y n is sum p q u v k l s t =
    subst (λ (e : Entry). IsEntryGrownWithin n e) (sym is)
    (record {
      along_x = moved_within a x n r.growth.along r.growth.x p q k l (omega (arith, sum));
      along_y = moved_within a y n r.growth.along r.growth.y p q s t (omega (arith, sum));
      across_x = moved_within b x n r.growth.across r.growth.x u v k l (omega (arith, sum));
      across_y = moved_within b y n r.growth.across r.growth.y u v s t (omega (arith, sum));
    })

-- what is moved by less is moved by no more
moved_more : (m n : ℕ) (out by : ℤ) → m ≤ n → IsMovedWithin m out by → IsMovedWithin n out by
moved_more m n out by most h =
    let a = h.in_low in
    let b = h.in_high in
    let c = h.out_low in
    let d = h.out_high in
    record {
      in_low = omega (arith, ints, a, b, c, d, most);
      in_high = omega (arith, ints, a, b, c, d, most);
      out_low = omega (arith, ints, a, b, c, d, most);
      out_high = omega (arith, ints, a, b, c, d, most);
    }

pub grown_more : (m n : ℕ) → m ≤ n → (e : Entry) → IsEntryGrownWithin m e → IsEntryGrownWithin n e
grown_more m n most (entry.Rule r) h = record {
  along_x = moved_more m n r.growth.along r.growth.x most h.along_x;
  along_y = moved_more m n r.growth.along r.growth.y most h.along_y;
  across_x = moved_more m n r.growth.across r.growth.x most h.across_x;
  across_y = moved_more m n r.growth.across r.growth.y most h.across_y;
}
grown_more m n most (entry.Metal k real) h = tt
grown_more m n most (entry.Space real gap) h = tt
grown_more m n most (entry.Label layer real) h = tt
grown_more m n most entry.Nothing h = tt

-- one line more
pub grown_next : (all : List Entry) (k m n : ℕ) (one : Entry) → k < length all → one ≡ get_or all k one → m ≤ n → All (λ e. IsEntryGrownWithin m e) (take k all)
    → IsEntryGrownWithin n one → All (λ e. IsEntryGrownWithin n e) (take (k + 1) all)
grown_next all k m n one low is most h own =
    All-more (λ (e : Entry). IsEntryGrownWithin n e) all k one low
    (All-from (λ (e : Entry). IsEntryGrownWithin n e) (take k all)
    (λ e i. grown_more m n most e (All-In (λ (x : Entry). IsEntryGrownWithin m x) (take k all) h e i)))
    (subst (λ (x : Entry). IsEntryGrownWithin n x) is own)

-- ---- edges

-- an edge times the scale, and the edge of its box, differ by at most this
pub record IsBy (s e : ℕ) (a b : ℤ) : Type 0 where
  pub low : (pos s *ℤ a) ≤ℤ (b +ℤ pos e)
  pub high : b ≤ℤ ((pos s *ℤ a) +ℤ pos e)

pub record AreBeside (s e : ℕ) (a b : Rect) : Type 0 where
  pub x1 : IsBy s e a.x1 b.x1
  pub y1 : IsBy s e a.y1 b.y1
  pub x2 : IsBy s e a.x2 b.x2
  pub y2 : IsBy s e a.y2 b.y2

module _ (s r : ℕ) (c p q : ℤ) (h : IsMovedWithin r p q) where
  low_end : IsBy s (s * 100 + r) (c -ℤ pos 100) (((pos s *ℤ c) -ℤ p) +ℤ q)
  low_end =
      let same : c ≡ (c -ℤ pos 100) +ℤ pos 100 = omega (arith, ints) in
      let times : pos s *ℤ c ≡ pos s *ℤ ((c -ℤ pos 100) +ℤ pos 100) = ap (λ (z : ℤ). pos s *ℤ z) same in
      let moved = scale_moved s (c -ℤ pos 100) 100 in
      let u = h.in_low in
      let v = h.in_high in
      record { low = omega (arith, ints, times, moved, u, v); high = omega (arith, ints, times, moved, u, v) }

  high_end : IsBy s (s * 100 + r) (c +ℤ pos 100) (((pos s *ℤ c) +ℤ p) +ℤ q)
  high_end =
      let moved = scale_moved s c 100 in
      let u = h.out_low in
      let v = h.out_high in
      record { low = omega (arith, ints, moved, u, v); high = omega (arith, ints, moved, u, v) }

  low_side : IsBy s (s * 100 + r) c (((pos s *ℤ c) -ℤ p) +ℤ q)
  low_side = let u = h.in_low in let v = h.in_high in record { low = omega (arith, ints, u, v); high = omega (arith, ints, u, v) }

  high_side : IsBy s (s * 100 + r) c (((pos s *ℤ c) +ℤ p) +ℤ q)
  high_side = let u = h.out_low in let v = h.out_high in record { low = omega (arith, ints, u, v); high = omega (arith, ints, u, v) }

-- the box of a wire, and of a pad
beside : (s r : ℕ) (g : Growth) (above : Option ℕ) (upright : Bool) (c : Rect) → IsGrownWithin r g → AreBeside s (s * 100 + r) (shown_by above upright c) (box_rect s g upright c)
beside s r g None true c h = record {
  x1 = low_side s r c.x1 g.across g.x h.across_x;
  y1 = low_end s r c.y1 g.along g.y h.along_y;
  x2 = high_side s r c.x2 g.across g.x h.across_x;
  y2 = high_end s r c.y2 g.along g.y h.along_y;
}
beside s r g None false c h = record {
  x1 = low_end s r c.x1 g.along g.x h.along_x;
  y1 = low_side s r c.y1 g.across g.y h.across_y;
  x2 = high_end s r c.x2 g.along g.x h.along_x;
  y2 = high_side s r c.y2 g.across g.y h.across_y;
}
beside s r g (Some k) true c h = record {
  x1 = low_end s r c.x1 g.across g.x h.across_x;
  y1 = low_end s r c.y1 g.along g.y h.along_y;
  x2 = high_end s r c.x2 g.across g.x h.across_x;
  y2 = high_end s r c.y2 g.along g.y h.along_y;
}
beside s r g (Some k) false c h = record {
  x1 = low_end s r c.x1 g.along g.x h.along_x;
  y1 = low_end s r c.y1 g.across g.y h.across_y;
  x2 = high_end s r c.x2 g.along g.x h.along_x;
  y2 = high_end s r c.y2 g.across g.y h.across_y;
}

-- ---- the boxes of a mark

module _ (all : List Entry) (s r : ℕ) (m : Mark) where
  abbrev Lies : RealBox → Type 0
  Lies b = AreBeside s (s * 100 + r) (shown_rect m) b.rect

  rule_lies : (rule : Rule) (b : RealBox) → IsGrownWithin r rule.growth → In b (rule_boxes all s rule m) → Lies b
  rule_lies rule b h i =
      only Lies (bytes_eq rule.word m.word) b (record { layer = layer_of all rule.real; rect = box_rect s rule.growth m.upright m.core })
      (beside s r rule.growth m.above m.upright m.core h) i

  by_lies : (rest : List Entry) (b : RealBox) → ((e : Entry) → In e rest → IsEntryGrownWithin r e) → In b (boxes_by all s rest m) → Lies b
  by_lies [] b each i = elim i [ ]
  by_lies (entry.Rule rule ∷ rest) b each i = elim (In-split b (rule_boxes all s rule m) (boxes_by all s rest m) i) [
    | inl x ↦ rule_lies rule b (each (entry.Rule rule) here) x
    | inr y ↦ by_lies rest b (λ e h. each e (there h)) y
  ]
  by_lies (entry.Metal k real ∷ rest) b each i = by_lies rest b (λ e h. each e (there h)) i
  by_lies (entry.Space real gap ∷ rest) b each i = by_lies rest b (λ e h. each e (there h)) i
  by_lies (entry.Label layer real ∷ rest) b each i = by_lies rest b (λ e h. each e (there h)) i
  by_lies (entry.Nothing ∷ rest) b each i = by_lies rest b (λ e h. each e (there h)) i

-- ---- shapes, and their boxes

abbrev pub Paired : ℕ → ℕ → List Shape → List Shape → Type 0
Paired s e [] [] = Unit {0}
Paired s e (x ∷ xs) (y ∷ ys) = (x.metal ≡ y.metal) × AreBeside s e x.rect y.rect × Paired s e xs ys
Paired s e [] (y ∷ ys) = ⊥
Paired s e (x ∷ xs) [] = ⊥

paired_both : (s e : ℕ) (xs ys us vs : List Shape) → Paired s e xs ys → Paired s e us vs → Paired s e (xs ++ us) (ys ++ vs)
paired_both s e [] [] us vs p q = q
paired_both s e (x ∷ xs) (y ∷ ys) us vs p q = (p.0, p.1, paired_both s e xs ys us vs p.2 q)
paired_both s e [] (y ∷ ys) us vs p q = absurd p
paired_both s e (x ∷ xs) [] us vs p q = absurd p

module _ (t : ProcessTable) (r : ℕ) (grown : All (λ e. IsEntryGrownWithin r e) t.entries) where
  abbrev s : ℕ
  s = t.head.scale

  on_paired : (m : Mark) (metal : Option ℕ) → is_written t.entries (mark_boxes t m) metal ≡ true
      → Paired s (s * 100 + r) (on_metal metal (shown_rect m)) (on_metal metal (written_rect t.entries (mark_boxes t m) metal))
  on_paired m None h = tt
  on_paired m (Some k) h = (refl, found (metal_box t.entries k (mark_boxes t m)) refl h, tt) where
    found : (o : Option RealBox) → metal_box t.entries k (mark_boxes t m) ≡ o → is_some o ≡ true → AreBeside s (s * 100 + r) (shown_rect m) (rect_of o)
    found None is h = absurd (false≢true h)
    found (Some b) is h =
        by_lies t.entries s r m t.entries b (λ e i. All-In (λ (x : Entry). IsEntryGrownWithin r x) t.entries grown e i)
        (found_in (λ (x : RealBox). is_layer_of t.entries k x.layer) (mark_boxes t m) b is)

  mark_paired : (m : Mark) → is_kept t m ≡ true → Paired s (s * 100 + r) (mark_shapes m) (written_shapes t.entries (mark_boxes t m) m)
  mark_paired m kept =
      let both = and_parts (is_written t.entries (mark_boxes t m) m.metal) (is_written t.entries (mark_boxes t m) m.above) kept in
      paired_both s (s * 100 + r) (on_metal m.metal (shown_rect m)) (on_metal m.metal (written_rect t.entries (mark_boxes t m) m.metal))
      (on_metal m.above (shown_rect m)) (on_metal m.above (written_rect t.entries (mark_boxes t m) m.above))
      (on_paired m m.metal both.0) (on_paired m m.above both.1)

  kept_parts : (b : Bool) (m : Mark) (o : Option Mark) → cond (not b) (Some m) o ≡ None → (b ≡ true) × (o ≡ None)
  kept_parts true m o h = (refl, h)
  kept_parts false m o h = absurd (cc h)

  -- the boxes of marks of which no metal is lost
  pub all_paired : (ms : List Mark) → first_lost t ms ≡ None → Paired s (s * 100 + r) (metal_shapes ms) (metal_boxes t ms)
  all_paired [] kept = tt
  all_paired (m ∷ rest) kept =
      let both = kept_parts (is_kept t m) m (first_lost t rest) kept in
      paired_both s (s * 100 + r) (mark_shapes m) (written_shapes t.entries (mark_boxes t m) m) (metal_shapes rest) (metal_boxes t rest)
      (mark_paired m both.0) (all_paired rest both.1)

-- ---- by their places

module _ (s e : ℕ) where
  pub paired_length : (xs ys : List Shape) → Paired s e xs ys → length ys ≡ length xs
  paired_length [] [] p = refl
  paired_length (x ∷ xs) (y ∷ ys) p = ap suc (paired_length xs ys p.2)
  paired_length [] (y ∷ ys) p = absurd p
  paired_length (x ∷ xs) [] p = absurd p

  pub paired_metal : (xs ys : List Shape) (k : ℕ) → Paired s e xs ys → k < length xs → (shape_at xs k).metal ≡ (shape_at ys k).metal
  paired_metal [] ys k p low = absurd (omega arith)
  paired_metal (x ∷ xs) (y ∷ ys) zero p low = p.0
  paired_metal (x ∷ xs) (y ∷ ys) (suc k) p low = paired_metal xs ys k p.2 (omega arith)
  paired_metal (x ∷ xs) [] k p low = absurd p

  paired_at : (xs ys : List Shape) (k : ℕ) → Paired s e xs ys → k < length xs → AreBeside s e (shape_at xs k).rect (shape_at ys k).rect
  paired_at [] ys k p low = absurd (omega arith)
  paired_at (x ∷ xs) (y ∷ ys) zero p low = p.1
  paired_at (x ∷ xs) (y ∷ ys) (suc k) p low = paired_at xs ys k p.2 (omega arith)
  paired_at (x ∷ xs) [] k p low = absurd p

  -- where boxes meet, the shapes have a small gap
  shape_axis : (a b c d : ℤ) → 1 ≤ s → IsBy s e a c → IsBy s e b d → c ≤ℤ d → a <ℤ (b +ℤ pos (2 * e / s + 1))
  shape_axis a b c d least p q meet =
      let u = p.low in let v = q.high in near_axis s e e a b least (omega arith) (omega (arith, ints, u, v, meet))

  pub near_shapes : (xs ys : List Shape) → 1 ≤ s → Paired s e xs ys → AreWithinGap xs ys (2 * e / s + 1)
  near_shapes xs ys least p i j low1 low2 meet =
      let a = paired_at xs ys i p low1 in
      let b = paired_at xs ys j p low2 in
      record {
        left = shape_axis _ _ _ _ least a.x1 b.x2 meet.left;
        right = shape_axis _ _ _ _ least b.x1 a.x2 meet.right;
        low = shape_axis _ _ _ _ least a.y1 b.y2 meet.low;
        high = shape_axis _ _ _ _ least b.y1 a.y2 meet.high;
      }

  -- where shapes touch, the boxes do
  box_axis : (a b c d : ℤ) → IsBy s e a c → IsBy s e b d → a ≤ℤ b → c <ℤ (d +ℤ pos (2 * e + 1))
  box_axis a b c d p q meet = let u = p.high in let v = q.low in let w = scale_keeps s a b meet in omega (arith, ints, u, v, w)

  pub near_boxes : (xs ys : List Shape) → Paired s e xs ys → AreWithinGap ys xs (2 * e + 1)
  near_boxes xs ys p i j low1 low2 meet =
      let n = paired_length xs ys p in
      let a = paired_at xs ys i p (omega (arith, n, low1)) in
      let b = paired_at xs ys j p (omega (arith, n, low2)) in
      record {
        left = box_axis _ _ _ _ a.x1 b.x2 meet.left;
        right = box_axis _ _ _ _ b.x1 a.x2 meet.right;
        low = box_axis _ _ _ _ a.y1 b.y2 meet.low;
        high = box_axis _ _ _ _ b.y1 a.y2 meet.high;
      }

-- ---- the shapes of marks, and their boxes

module _ (t : ProcessTable) (ms : List Mark) (n : ℕ) (ss bs : List Shape) (kept : first_lost t ms ≡ None) (aside : IsMostAside t n) (are : ss ≡ metal_shapes ms)
    (written : bs ≡ metal_boxes t ms) where
  paired : Paired t.head.scale n ss bs
  paired =
      subst (λ (k : ℕ). Paired t.head.scale k ss bs) (sym aside.is)
      (subst (λ (xs : List Shape). Paired t.head.scale (t.head.scale * 100 + aside.reach) xs bs) (sym are)
      (subst (λ (ys : List Shape). Paired t.head.scale (t.head.scale * 100 + aside.reach) (metal_shapes ms) ys) (sym written)
      (all_paired t aside.reach aside.grown ms kept)))

  pub same_count : length bs ≡ length ss
  same_count = paired_length t.head.scale n ss bs paired

  pub same_metal : (k : ℕ) → k < length ss → (shape_at ss k).metal ≡ (shape_at bs k).metal
  same_metal k low = paired_metal t.head.scale n ss bs k paired low

  pub shapes_gap : 1 ≤ t.head.scale → AreWithinGap ss bs (2 * n / t.head.scale + 1)
  shapes_gap least = near_shapes t.head.scale n ss bs least paired

  pub boxes_gap : AreWithinGap bs ss (2 * n + 1)
  boxes_gap = near_boxes t.head.scale n ss bs paired
