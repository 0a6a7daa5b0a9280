-- Pins that are reached in one column, by the columns that are kept for them.
use Rattle.std.proofs.Common.{◌≡◌, inl, inr, ℕ, ◌*◌, ◌<◌, pos, ℤ, List, map, length, get_or, Option, None, Some, refl, sym, ap, subst, ◌∙◌, arith}
use Rattle.std.specs.Prelude.{option_map, slice_get, IfSome, IfNone}
use Rattle.std.proofs.lemmas.Int.{ints}
use Rattle.std.proofs.lemmas.Bool.{cases_lt}
use Rattle.std.proofs.lemmas.List.{length-map, get_or-take, length-take}
use Rattle.std.proofs.lemmas.Option.{same_Some, slice_get-get_or, slice_get_within, get_or_from_slice_get}
use Rattle.vlsi_base.specs.declared.name.Name.{Name}
use Rattle.vlsi_base.specs.declared.name.Port.{Port}
use Rattle.vlsi_base.specs.Member.{In}
use Rattle.vlsi_base.specs.Names.{vdd}
use Rattle.machine_core.specs.Machine.{names_of}
use Rattle.sym_geom.specs.declared.grid.TheConstants.{PITCH}
use Rattle.cell_model.specs.declared.cell.Pin.{Pin}
use Rattle.cell_model.specs.Cell.{Cell, pin_ports}
use Rattle.cell_model.specs.Usable.{IsFormed}
use Rattle.cell_model.specs.Access.{Point, access_point}
use Rattle.cell_model.proofs.Members.{In-at, place-In}
use Rattle.cell_checks.specs.Checks.{ColumnsDiffer}
use Rattle.cell_checks.specs.Nodes.{IsReachedAt, AreReachedAt}
use Rattle.cell_checks.specs.Columns.{ShareAColumn, IsSharedAt, AreOne, IsRepeatedAt, AreAllOther}
use Rattle.cell_checks.proofs.PinsApart.{before_differs}

abbrev across : ℕ → ℤ
across a = pos (PITCH * a)

abbrev first : Point → ℤ
first q = q.0

at_column : (o : Option ℕ) (x : ℤ) → option_map across o ≡ Some x → (a : ℕ) × (o ≡ Some a) × (across a ≡ x)
at_column None x e = absurd cc
at_column (Some a) x e = (a, refl, cc)

at_point : (o : Option Point) (x : ℤ) → option_map first o ≡ Some x → (y : ℤ) × (o ≡ Some (x, y))
at_point None x e = absurd cc
at_point (Some q) x e = let f : q.0 ≡ x = cc in (q.1, ap (λ (v : ℤ). Some (v, q.1)) f)

across_same : (a b : ℕ) → across a ≡ across b → a ≡ b
across_same a b e = omega (arith, ints)

are_one : (a b : Option ℕ) (p q : ℕ) → a ≡ Some p → b ≡ Some q → p ≡ q → AreOne a b
are_one a b p q e f same =
    subst (λ (o : Option ℕ). AreOne o b) (sym e) (subst (λ (o : Option ℕ). AreOne (Some p) o) (sym f) same)

-- the column of two that have one
one_column : (a b : Option ℕ) → AreOne a b → (p : ℕ) × (a ≡ Some p) × (b ≡ Some p)
one_column None b h = absurd h
one_column (Some p) None h = absurd h
one_column (Some p) (Some q) h = (p, refl, ap (λ (k : ℕ). Some k) (sym h))

names_many : (c : Cell) → length (names_of (pin_ports c)) ≡ length c.pins
names_many c = length-map (pin_ports c) (λ (p : Port). p.name) ∙ length-map c.pins (λ (p : Pin). p.port)

module _ (c : Cell) (columns : List (Option ℕ)) (are : AreReachedAt c columns) where
  abbrev names : List Name
  names = names_of (pin_ports c)

  -- the column that is kept for a pin
  kept : (k : ℕ) (name : Name) (x y : ℤ) → slice_get names k ≡ Some name → access_point c name ≡ Some (x, y)
      → (a : ℕ) × (k < length columns) × (get_or columns k None ≡ Some a) × (across a ≡ x)
  kept k name x y stands reached =
      let many = are.many in
      let inside : k < length names = slice_get_within names k name stands in
      let low : k < length columns = omega (arith, many, inside) in
      let at : IsReachedAt c name (get_or columns k None) =
      subst (λ (n : Name). IsReachedAt c n (get_or columns k None)) (get_or_from_slice_get names k name name stands) (are.each k name None low) in
      let r = at_column (get_or columns k None) x (sym at ∙ ap (option_map first) reached) in
      (r.0, low, r.1, r.2)

  -- the pin that a column is kept for
  pin_at : (k a : ℕ) → k < length columns → get_or columns k None ≡ Some a
      → (name : Name) × (slice_get names k ≡ Some name) × ((y : ℤ) × (access_point c name ≡ Some (across a, y)))
  pin_at k a low is =
      let many = are.many in
      let inside : k < length names = omega (arith, many, low) in (
        get_or names k vdd,
        slice_get-get_or names k vdd inside,
        at_point (access_point c (get_or names k vdd)) (across a) (are.each k vdd None low ∙ ap (option_map across) is),
      )

  all_differ : AreAllOther columns → ColumnsDiffer c
  all_differ other = record { same = one_name } where
    one_name : (m n : Name) (x y z : ℤ) → In m names → In n names → access_point c m ≡ Some (x, y) → access_point c n ≡ Some (x, z) → m ≡ n
    one_name m n x y z is_m is_n at_m at_n =
        let s = place-In m names is_m in
        let t = place-In n names is_n in
        let p = kept s.0 m x y (slice_get-get_or names s.0 m s.1 ∙ ap Some (s.2 m)) at_m in
        let q = kept t.0 n x z (slice_get-get_or names t.0 n t.1 ∙ ap Some (t.2 n)) at_n in
        let same : p.0 ≡ q.0 = across_same p.0 q.0 (p.3 ∙ sym q.3) in
        elim (cases_lt s.0 t.0) [
          | inl less ↦ absurd (other s.0 t.0 None less q.1 (are_one (get_or columns s.0 None) (get_or columns t.0 None) p.0 q.0 p.2 q.2 same))
          | inr more ↦ elim (cases_lt t.0 s.0) [
            | inl less ↦ absurd (other t.0 s.0 None less p.1 (are_one (get_or columns t.0 None) (get_or columns s.0 None) q.0 p.0 q.2 p.2 (sym same)))
            | inr equal ↦
                let k : s.0 ≡ t.0 = omega (arith, more, equal) in
                sym (s.2 m) ∙ ap (λ (i : ℕ). get_or names i m) k ∙ t.2 m
          ]
        ]

  a_shared_place : (j : ℕ) → IsRepeatedAt columns j → IsSharedAt c j
  a_shared_place j s =
      let i = s.earlier.0 in
      let inner = s.within in
      let low : i < j = let a = s.earlier.2 in let b = length-take j columns in omega (arith, a, b) in
      let below : i < length columns = omega (arith, inner, low) in
      let front : get_or columns i s.earlier.1 ≡ s.earlier.1 = sym (get_or-take j columns i s.earlier.1 low) ∙ s.earlier.3 in
      let r = one_column s.earlier.1 (get_or columns j None) s.earlier.4 in
      let at_i : get_or columns i None ≡ Some r.0 =
      same_Some (get_or columns i None) (Some r.0) (sym (slice_get-get_or columns i None below) ∙ slice_get-get_or columns i s.earlier.1 below ∙ ap Some (front ∙ r.1)) in
      let a = pin_at i r.0 below at_i in
      let b = pin_at j r.0 inner r.2 in
      let many = are.many in
      let pins = names_many c in
      record {
        within = omega (arith, inner, many, pins);
        earlier = i;
        before = low;
        shares = record {
          one = a.0;
          other = b.0;
          one_stands = a.1;
          other_stands = b.1;
          x = across r.0;
          y = a.2.0;
          z = b.2.0;
          one_point = a.2.1;
          other_point = b.2.1;
        };
        first = λ p q less under h. none p q less under h;
      }
    where
      none : (p q : ℕ) → p < q → q < j → ShareAColumn c p q → ⊥
      none p q less under h =
          let u = kept p h.one h.x h.y h.one_stands h.one_point in
          let v = kept q h.other h.x h.z h.other_stands h.other_point in
          s.first p q None less under (are_one (get_or columns p None) (get_or columns q None) u.0 v.0 u.2 v.2 (across_same u.0 v.0 (u.3 ∙ sym v.3)))

  pub place_is_shared : (o : Option ℕ) → IfSome o (λ j. IsRepeatedAt columns j) → IfSome o (λ j. IsSharedAt c j)
  place_is_shared None h = tt
  place_is_shared (Some j) h = a_shared_place j h

  pub none_is_shared : (o : Option ℕ) → IfNone o (AreAllOther columns) → IfNone o (ColumnsDiffer c)
  none_is_shared None h = all_differ h
  none_is_shared (Some j) h = tt

-- a cell with such a pin isn't one whose columns differ, since the names of its pins do
pub not_shared : (c : Cell) (place : ℕ) → IsFormed c → IsSharedAt c place → ColumnsDiffer c → ⊥
not_shared c place formed s differ =
    let h = s.shares in
    let names = names_of (pin_ports c) in
    let low = slice_get_within names s.earlier h.one h.one_stands in
    let high = slice_get_within names place h.other h.other_stands in
    let at_one : get_or names s.earlier vdd ≡ h.one = get_or_from_slice_get names s.earlier h.one vdd h.one_stands in
    let at_other : get_or names place vdd ≡ h.other = get_or_from_slice_get names place h.other vdd h.other_stands in
    let same : h.one ≡ h.other =
    differ.same h.one h.other h.x h.y h.z
    (subst (λ (n : Name). In n names) at_one (In-at names s.earlier vdd low))
    (subst (λ (n : Name). In n names) at_other (In-at names place vdd high))
    h.one_point h.other_point in
    before_differs (get_or names s.earlier vdd) (get_or names place vdd) (formed.order s.earlier place vdd s.before high) (at_one ∙ same ∙ sym at_other)
