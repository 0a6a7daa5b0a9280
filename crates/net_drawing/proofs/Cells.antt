-- A clean cell passes the checks by numbers.
use Rattle.std.proofs.Common.{Ordering, Less, Equal, Greater, ◌≡◌, ◌≢◌, ℕ, suc, ◌*◌, ◌<◌, ◌⊎◌, inl, inr, ⊎_elim, Bool, true, false, List, [], ◌∷◌, ◌++◌, map, length, Option, Some, None, refl, sym, ap, ◌∙◌, subst, arith, if◌then◌else◌}
use Rattle.std.specs.Prelude.{pos, ◌≤ℤ◌, slice_get, slice_index_or, ◌/◌, AllPairs, IsTrue}
use Rattle.std.specs.Ordering.{is_lt, ordering_reverse}
use Rattle.std.proofs.lemmas.Int.{ints}
use Rattle.std.proofs.lemmas.Bool.{cases_lt}
use Rattle.std.proofs.lemmas.Option.{slice_get_within, get_or_from_slice_get}
use Rattle.vlsi_base.specs.declared.name.Name as name
use Rattle.vlsi_base.specs.Name.{name_cmp}
use Rattle.vlsi_base.proofs.NameOrder.{name_total}
use Rattle.machine_core.specs.Named.{is_same_name}
use Rattle.machine_core.specs.Machine.{names_of}
use Rattle.sym_geom.specs.Items.{via_pads, segment_rect}
use Rattle.sym_geom.specs.Rect.{IsRect}
use Rattle.sym_geom.specs.Metal.{metal_of}
use Rattle.sym_geom.specs.declared.rect.Rect.{Rect}
use Rattle.sym_geom.specs.declared.item.Item.{Item}
use Rattle.sym_geom.specs.declared.item.Item.TheVariants as item
use Rattle.vlsi_base.specs.Member as member
use Rattle.vlsi_base.specs.Names.{comes_before}
use Rattle.sym_shapes.specs.Shape as shape
use Rattle.sym_shapes.specs.Shape.{drawn, drawn_from, item_shapes, on_metal, pad_shapes, wire_name, label, connector_name, connector_names}
use Rattle.sym_shapes.specs.Joined as joined
use Rattle.cell_model.specs.Cell.{pin_ports}
use Rattle.cell_model.specs.Cell as cells
use Rattle.cell_model.specs.Library.{IsUsable}
use Rattle.vlsi_base.specs.Names.{vdd, vss}
use Rattle.ocp_rows.specs.Placement.{natural}
use Rattle.cell_model.specs.Access.{access_point}
use Rattle.block_geom.specs.Figure.{Vss, Vdd, Shape, Name, Power, Bit, In}
use Rattle.block_geom.specs.Joined.{Joined}
use Rattle.block_geom.specs.Block as block
use Rattle.block_geom.specs.Block.{Cell, cell_shapes, Passes, IsJoinedTo, HasOwnColumns}
use Rattle.block_geom.proofs.Chains.{Joined_trans, Joined_sym}
use Rattle.net_drawing.specs.Picture.{option_map}
use Rattle.net_drawing.specs.Clean as clean
use Rattle.net_drawing.specs.Clean.{IsClean, PinColumnsDiffer}
use Rattle.net_drawing.proofs.Access.{reached}
use Rattle.net_drawing.proofs.Coding.{same_name_false, In_get, get_there, index_of, index_get, name_or, code, IsOneOf, coded, column_of, row_of, cell_by, up_joined, coded_in, coded_cases, IsPlain, decoded, decoded_coded, down_joined, name_of, columns_of, code_bit}

-- ---- different names
irreflexive : (o : Ordering) → o ≡ ordering_reverse o → IsTrue (is_lt o) → ⊥
irreflexive Less e h = cc e
irreflexive Equal e h = cc h
irreflexive Greater e h = cc h

pub distinct : {A : Type 0} (R : A → A → Type 0) → ((a : A) → R a a → ⊥) → (xs : List A) → AllPairs R xs → (i k : ℕ) (a b : A) → slice_get xs i ≡ Some a → slice_get xs k ≡ Some b → a ≡ b → i ≡ k
distinct {A = A} R irr xs all i k a b e f g =
    ⊎_elim
    (λ lt. absurd (irr a (subst (λ v. R a v) (sym g) (both i k a b e f lt))))
    (λ ge. ⊎_elim
    (λ gt. absurd (irr b (subst (λ v. R b v) g (both k i b a f e gt))))
    (λ le. omega arith)
    (cases_lt k i))
    (cases_lt i k)
  where
    both : (i k : ℕ) (a b : A) → slice_get xs i ≡ Some a → slice_get xs k ≡ Some b → i < k → R a b
    both i k a b e f lt =
        let h = all i k a lt (slice_get_within xs k b f) in
        let p : slice_index_or xs i a ≡ a = get_or_from_slice_get xs i a a e in
        let q : slice_index_or xs k a ≡ b = get_or_from_slice_get xs k b a f in
        subst (λ v. R a v) q (subst (λ v. R v (slice_index_or xs k a)) p h)

pub names_distinct : (xs : List name.Name) → AllPairs (λ a b. IsTrue (comes_before a b)) xs → (i k : ℕ) (a b : name.Name) → slice_get xs i ≡ Some a → slice_get xs k ≡ Some b → a ≡ b → i ≡ k
names_distinct xs all = distinct (λ a b. IsTrue (comes_before a b)) (λ a h. irreflexive (name_cmp a a) (name_total.antisymm a a) h) xs all

pub code_at : (xs : List name.Name) → AllPairs (λ a b. IsTrue (comes_before a b)) xs → (p : ℕ) (m : name.Name) → slice_get xs p ≡ Some m → m ≢ vdd → m ≢ vss → code xs m ≡ Bit p
code_at xs all p m e f g = by (is_same_name m vdd) (is_same_name m vss) (same_name_false m vdd f) (same_name_false m vss g)
  where
    by : (r q : Bool) → r ≡ false → q ≡ false → (if r then Power Vdd else if q then Power Vss else Bit (index_of xs m)) ≡ Bit p
    by true q a c = absurd (cc a)
    by false true a c = absurd (cc c)
    by false false a c = ap (λ v. Bit v) (names_distinct xs all (index_of xs m) p m m (index_get xs m (In_get xs p m e)) e refl)

-- ---- what a figure draws belongs to no instance, and its names are those of its connectors
abbrev pub IsDrawn : List name.Name → shape.Shape → Type 0
IsDrawn names s = (s.owner ≡ None) × ((m : name.Name) → s.name ≡ Some m → member.In m names)

label_in : (o : Option name.Name) (m : name.Name) → o ≡ Some m → member.In m (label o)
label_in None m e = absurd (cc e)
label_in (Some x) m e = let f : x ≡ m = cc in subst (λ v. member.In v (x ∷ [])) f member.here

metal_drawn : (o : Option ℕ) (k : ℕ) (r : Rect) (n : Option name.Name) (s : shape.Shape) → member.In s (on_metal o k r n) → IsDrawn (label n) s
metal_drawn None k r n s h = elim h [ ]
metal_drawn (Some j) k r n s member.here = (refl, λ m e. label_in n m e)
metal_drawn (Some j) k r n s (member.there h) = elim h [ ]

pads_drawn : (k : ℕ) (pads : List (ℕ × Rect)) (s : shape.Shape) → member.In s (map (λ p. record { metal = p.0; rect = p.1; owner = None; line = k; name = None }) pads) → IsDrawn [] s
pads_drawn k [] s h = elim h [ ]
pads_drawn k (p ∷ ps) s member.here = (refl, λ m e. absurd (cc e))
pads_drawn k (p ∷ ps) s (member.there h) = pads_drawn k ps s h

pad_drawn : (k : ℕ) (o : Option (List (ℕ × Rect))) (s : shape.Shape) → member.In s (pad_shapes k o) → IsDrawn [] s
pad_drawn k None s h = elim h [ ]
pad_drawn k (Some pads) s h = pads_drawn k pads s h

item_drawn : (k : ℕ) (one : Item) (s : shape.Shape) → member.In s (item_shapes k one) → IsDrawn (connector_name one) s
item_drawn k (item.Segment g) s h = metal_drawn (metal_of g.layer) k (segment_rect g) (wire_name g.layer g.name) s h
item_drawn k (item.Connector c) s h = metal_drawn (metal_of c.layer) k _ c.name s h
item_drawn k (item.Via v) s h = pad_drawn k (via_pads v) s h
item_drawn k (item.Instance i) s h = elim h [ ]
item_drawn k (item.Reference r) s h = elim h [ ]
item_drawn k (item.Remark text) s h = elim h [ ]

In_either : {A : Type 0} (xs ys : List A) (x : A) → member.In x (xs ++ ys) → member.In x xs ⊎ member.In x ys
In_either [] ys x h = inr h
In_either (y ∷ xs) ys x member.here = inl member.here
In_either (y ∷ xs) ys x (member.there h) = ⊎_elim (λ g. inl (member.there g)) (λ g. inr g) (In_either xs ys x h)

pub In_first : {A : Type 0} (xs ys : List A) (x : A) → member.In x xs → member.In x (xs ++ ys)
In_first [] ys x h = elim h [ ]
In_first (y ∷ xs) ys x member.here = member.here
In_first (y ∷ xs) ys x (member.there h) = member.there (In_first xs ys x h)

pub In_last : {A : Type 0} (xs ys : List A) (x : A) → member.In x ys → member.In x (xs ++ ys)
In_last [] ys x h = h
In_last (y ∷ xs) ys x h = member.there (In_last xs ys x h)

pub all_drawn : (k : ℕ) (items : List Item) (s : shape.Shape) → member.In s (drawn_from k items) → IsDrawn (connector_names items) s
all_drawn k [] s h = elim h [ ]
all_drawn k (one ∷ rest) s h =
    ⊎_elim
    (λ g. let r = item_drawn k one s g in (r.0, λ m e. In_first (connector_name one) (connector_names rest) m (r.1 m e)))
    (λ g. let r = all_drawn (suc k) rest s g in (r.0, λ m e. In_last (connector_name one) (connector_names rest) m (r.1 m e)))
    (In_either (item_shapes k one) (drawn_from (suc k) rest) s h)

pub all_plain : (c : cells.Cell) → IsUsable c → (s : shape.Shape) → member.In s (drawn c.items) → IsPlain (names_of (pin_ports c)) s
all_plain c u s h = let r = all_drawn 0 c.items s h in (r.0, λ m e. (u.connectors m).0 (r.1 m e))

module _ (c : cells.Cell) (u : IsUsable c) (d : IsClean c) where
  pub width_is : (cell_by c).width ≡ d.columns
  width_is = ap (λ (v : Rect). natural v.x2 / 500) d.box ∙ columns_of d.columns

  -- the name of a number
  pin_at : (p : ℕ) → p < length (names_of (pin_ports c)) → (m : name.Name) × (slice_get (names_of (pin_ports c)) p ≡ Some m)
  pin_at p lt = get_there (names_of (pin_ports c)) p lt

  pub column_is : (p : ℕ) (m : name.Name) (e : slice_get (names_of (pin_ports c)) p ≡ Some m) → (cell_by c).column p ≡ (reached c d m (In_get (names_of (pin_ports c)) p m e)).column
  column_is p m e = let a = reached c d m (In_get (names_of (pin_ports c)) p m e) in ap (λ o. column_of (access_point c (name_or o))) e ∙ ap column_of a.point ∙ columns_of a.column

  pub row_is : (p : ℕ) (m : name.Name) (e : slice_get (names_of (pin_ports c)) p ≡ Some m) → (cell_by c).row p ≡ (reached c d m (In_get (names_of (pin_ports c)) p m e)).row
  row_is p m e = let a = reached c d m (In_get (names_of (pin_ports c)) p m e) in ap (λ o. row_of (access_point c (name_or o))) e ∙ ap row_of a.point ∙ columns_of a.row

  tied : (s : shape.Shape) (m : name.Name) → clean.IsTied c s m → IsJoinedTo (cell_by c) (coded (names_of (pin_ports c)) s) (code (names_of (pin_ports c)) m)
  tied s m t = record {
    pin = coded (names_of (pin_ports c)) t.pin;
    within = coded_in (names_of (pin_ports c)) (drawn c.items) t.pin t.listed;
    named = ap (option_map (code (names_of (pin_ports c)))) t.named;
    joined = up_joined (names_of (pin_ports c)) (drawn c.items) t.pin s t.joined;
  }

  apart_by : (s : Shape) (n m : Name) → IsJoinedTo (cell_by c) s n → IsJoinedTo (cell_by c) s m → n ≡ m
  apart_by s n m f g =
      let xs = names_of (pin_ports c) in
      let p = coded_cases xs (drawn c.items) f.pin f.within in
      let q = coded_cases xs (drawn c.items) g.pin g.within in
      let j : Joined (cell_shapes (cell_by c)) f.pin g.pin = Joined_trans f.pin s g.pin f.joined (Joined_sym g.pin s g.within g.joined) in
      let k = down_joined xs (drawn c.items) (all_plain c u) f.pin g.pin f.within j in
      let e1 : decoded xs f.pin ≡ p.0 = ap (decoded xs) p.2 ∙ decoded_coded xs p.0 (all_plain c u p.0 p.1) in
      let e2 : decoded xs g.pin ≡ q.0 = ap (decoded xs) q.2 ∙ decoded_coded xs q.0 (all_plain c u q.0 q.1) in
      let k1 : joined.Joined (drawn c.items) p.0 (decoded xs g.pin) = subst (λ v. joined.Joined (drawn c.items) v (decoded xs g.pin)) e1 k in
      let k2 : joined.Joined (drawn c.items) p.0 q.0 = subst (λ v. joined.Joined (drawn c.items) p.0 v) e2 k1 in
      let a = name_of (code xs) p.0.name n (sym (ap (λ v. v.name) p.2) ∙ f.named) in
      let b = name_of (code xs) q.0.name m (sym (ap (λ v. v.name) q.2) ∙ g.named) in
      sym a.2 ∙ ap (code xs) (d.apart p.0 q.0 a.0 b.0 a.1 b.1 k2) ∙ b.2

  number_low : (m : name.Name) (p : ℕ) → code (names_of (pin_ports c)) m ≡ Bit p → IsOneOf (names_of (pin_ports c)) m → p < length (names_of (pin_ports c))
  number_low m p e (inl f) = absurd (let g : Power Vdd ≡ Bit p = sym (ap (code (names_of (pin_ports c))) f) ∙ e in cc g)
  number_low m p e (inr (inl f)) = absurd (let g : Power Vss ≡ Bit p = sym (ap (code (names_of (pin_ports c))) f) ∙ e in cc g)
  number_low m p e (inr (inr h)) =
      let a = slice_get_within (names_of (pin_ports c)) (index_of (names_of (pin_ports c)) m) m (index_get (names_of (pin_ports c)) m h) in
      let b = code_bit (names_of (pin_ports c)) m p e in omega arith

  names_by : (s : Shape) (p : ℕ) → In s (cell_shapes (cell_by c)) → s.name ≡ Some (Bit p) → p < (cell_by c).pins
  names_by s p h e =
      let r = coded_cases (names_of (pin_ports c)) (drawn c.items) s h in
      let n = name_of (code (names_of (pin_ports c))) r.0.name (Bit p) (sym (ap (λ v. v.name) r.2) ∙ e) in
      number_low n.0 p n.2 ((all_plain c u r.0 r.1).1 n.0 n.1)

  access_by : (p : ℕ) → p < (cell_by c).pins → block.Access (cell_by c) p
  access_by p lt =
      let xs = names_of (pin_ports c) in
      let m = pin_at p lt in
      let a = reached c d m.0 (In_get xs p m.0 m.1) in
      let f = d.signals m.0 (In_get xs p m.0 m.1) in
      let x = column_is p m.0 m.1 in let y = row_is p m.0 m.1 in let w = a.holds in
      record {
        pin = coded xs a.pin;
        within = coded_in xs (drawn c.items) a.pin a.listed;
        named = ap (option_map (code xs)) a.named ∙ ap (λ v. Some v) (code_at xs u.order p m.0 m.1 f.0 f.1);
        holds = omega (arith, ints);
      }

  inside_by : (s : shape.Shape) → member.In s (drawn c.items) → block.IsInside (cell_by c).width s.rect ⊎ block.IsInStrip (cell_by c).width 0 600 s.rect ⊎ block.IsInStrip (cell_by c).width 4400 5000 s.rect
  inside_by s h =
      let w = width_is in
      ⊎_elim (λ a. inl (omega (arith, ints))) (⊎_elim (λ a. inr (inl (omega (arith, ints)))) (λ a. inr (inr (omega (arith, ints))))) (d.inside s h)

  by_cases : (P : Shape → Type 0) → ((s : shape.Shape) → member.In s (drawn c.items) → P (coded (names_of (pin_ports c)) s)) → (s : Shape) → In s (cell_shapes (cell_by c)) → P s
  by_cases P f s h = let r = coded_cases (names_of (pin_ports c)) (drawn c.items) s h in subst P (sym r.2) (f r.0 r.1)

  pub passes : Passes (cell_by c)
  passes =
      let w = width_is in let v = d.wide in
      let low = d.low_strip in let high = d.high_strip in
      let xs = names_of (pin_ports c) in
      record {
        wide = omega arith;
        drawn = by_cases (λ s. s.owner ≡ None) (λ s h. refl);
        metal = by_cases (λ s. s.metal ≡ 1) (λ s h. d.metal s h);
        order = by_cases (λ s. IsRect s.rect) (λ s h. d.order s h);
        vss = record { pin = coded xs low.pin; within = coded_in xs (drawn c.items) low.pin low.listed; named = ap (option_map (code xs)) low.named; left = omega (arith, ints); right = omega (arith, ints); low = omega (arith, ints); high = omega (arith, ints) };
        vdd = record { pin = coded xs high.pin; within = coded_in xs (drawn c.items) high.pin high.listed; named = ap (option_map (code xs)) high.named; left = omega (arith, ints); right = omega (arith, ints); low = omega (arith, ints); high = omega (arith, ints) };
        access = access_by;
        names = names_by;
        apart = apart_by;
        inside = by_cases (λ s. block.IsInside (cell_by c).width s.rect ⊎ block.IsInStrip (cell_by c).width 0 600 s.rect ⊎ block.IsInStrip (cell_by c).width 4400 5000 s.rect) inside_by;
        off_vss = by_cases (λ s. IsJoinedTo (cell_by c) s (Power Vss) ⊎ (pos 800 ≤ℤ s.rect.y1)) (λ s h. ⊎_elim (λ t. inl (tied s vss t)) (λ e. inr e) (d.off_low s h));
        off_vdd = by_cases (λ s. IsJoinedTo (cell_by c) s (Power Vdd) ⊎ (s.rect.y2 ≤ℤ pos 4200)) (λ s h. ⊎_elim (λ t. inl (tied s vdd t)) (λ e. inr e) (d.off_high s h));
      }

  pub own_columns : PinColumnsDiffer c → HasOwnColumns (cell_by c)
  own_columns differ p q hp hq e =
      let xs = names_of (pin_ports c) in
      let m = pin_at p hp in let k = pin_at q hq in
      let a = reached c d m.0 (In_get xs p m.0 m.1) in let b = reached c d k.0 (In_get xs q k.0 k.1) in
      let f : a.column ≡ b.column = sym (column_is p m.0 m.1) ∙ e ∙ column_is q k.0 k.1 in
      let g : access_point c k.0 ≡ Some (pos (500 * a.column), pos (500 * b.row)) = b.point ∙ ap (λ v. Some (pos (500 * v), pos (500 * b.row))) (sym f) in
      names_distinct xs u.order p q m.0 k.0 m.1 k.1 (differ m.0 k.0 _ _ _ (In_get xs p m.0 m.1) (In_get xs q k.0 k.1) a.point g)
