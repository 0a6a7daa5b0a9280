-- The points of a netlist's classes, terminal by terminal, are those of its ports and of its signal pins.
use Rattle.std.proofs.Common.{◌≡◌, ◌⊎◌, inl, inr, ℕ, suc, Bool, true, false, cond, nat_eq, List, [], ◌∷◌, map, Option, Some, None, refl, sym, ap, subst, ◌∙◌}
use Rattle.std.specs.Prelude.{pos, flat_map, filter_map}
use Rattle.std.proofs.lemmas.Bool.{cond-true, cond-false, eqb-true, eq-eqb}
use Rattle.std.proofs.lemmas.Option.{same_Some}
use Rattle.vlsi_base.specs.declared.name.Name.{Name}
use Rattle.vlsi_base.specs.Member.{In, here, there, AllDifferent}
use Rattle.machine_core.specs.Named.{is_same_name}
use Rattle.sym_geom.specs.declared.grid.TheConstants.{FIRST_CELL_X}
use Rattle.cell_model.specs.Access.{Point}
use Rattle.cell_model.proofs.Members.{In-split, In-left, In-right}
use Rattle.net_meaning.specs.Netlist.{AbstractNetlist, port}
use Rattle.ocp_rows.specs.Placement.{track_y, port_row, column_x, row_y}
use Rattle.ocp_rows.specs.Length.{port_point, grid_point}
use Rattle.net_drawing.proofs.Coding.{same_name_true, same_name_itself, same_name_false}
use Rattle.ocp_place.specs.Sites.{Site, port_sites, points_in}
use Rattle.ocp_place.specs.Stood.{grid_sites}

-- ---- lists

abbrev pub site : ℕ → Point → Site
site class q = (class, q)

-- a point in a class is that of a site of this class
pub points_back : (class : ℕ) (sites : List Site) (q : Point) → In q (points_in class sites) → In (class, q) sites
points_back class [] q i = elim i [ ]
points_back class (s ∷ rest) q i =
    by (nat_eq s.0 class) refl (In-split q (cond (nat_eq s.0 class) (s.1 ∷ []) []) (points_in class rest) i) (points_back class rest q) where
      first : (x y : Point) → In x (y ∷ []) → x ≡ y
      first x y here = refl
      first x y (there j) = elim j [ ]

      by : (b : Bool) → nat_eq s.0 class ≡ b → In q (cond (nat_eq s.0 class) (s.1 ∷ []) []) ⊎ In q (points_in class rest)
          → (In q (points_in class rest) → In (class, q) rest) → In (class, q) (s ∷ rest)
      by b e (inr j) next = there (next j)
      by true e (inl j) next =
          let j2 : In q (s.1 ∷ []) = subst (λ (r : Bool). In q (cond r (s.1 ∷ []) [])) e j in
          let same : s ≡ (class, q) = ap (λ (c : ℕ). (c, s.1)) (eqb-true s.0 class e) ∙ ap (λ (x : Point). (class, x)) (sym (first q s.1 j2)) in
          subst (λ (x : Site). In x (s ∷ rest)) same here
      by false e (inl j) next = let j2 : In q [] = subst (λ (r : Bool). In q (cond r (s.1 ∷ []) [])) e j in elim j2 [ ]

pub points_there : (class : ℕ) (sites : List Site) (q : Point) → In (class, q) sites → In q (points_in class sites)
points_there class [] q i = elim i [ ]
points_there class (s ∷ rest) q here =
    In-left q (cond (nat_eq class class) (q ∷ []) []) (points_in class rest) (subst (λ (b : Bool). In q (cond b (q ∷ []) [])) (sym (eq-eqb class class refl)) here)
points_there class (s ∷ rest) q (there i) = In-right q (cond (nat_eq s.0 class) (s.1 ∷ []) []) (points_in class rest) (points_there class rest q i)

pub kept_back : {A B : Type 0} (h : A → Option B) (xs : List A) (y : B) → In y (filter_map h xs) → (x : A) × In x xs × (h x ≡ Some y)
kept_back h [] y i = elim i [ ]
kept_back {A} {B} h (x ∷ xs) y i = by (h x) refl i (kept_back h xs y) where
  head : (w : B) → h x ≡ Some w → In y (w ∷ filter_map h xs) → (In y (filter_map h xs) → (z : A) × In z xs × (h z ≡ Some y)) → (z : A) × In z (x ∷ xs) × (h z ≡ Some y)
  head w e here next = (x, here, e)
  head w e (there k) next = let r = next k in (r.0, there r.1, r.2)

  by : (o : Option B) → h x ≡ o → In y (filter_map h (x ∷ xs)) → (In y (filter_map h xs) → (z : A) × In z xs × (h z ≡ Some y)) → (z : A) × In z (x ∷ xs) × (h z ≡ Some y)
  by None e j next =
      let j2 : In y (filter_map h xs) = rw e at j in
      let r = next j2 in (r.0, there r.1, r.2)
  by (Some w) e j next =
      let j2 : In y (w ∷ filter_map h xs) = rw e at j in
      head w e j2 next

pub kept_there : {A B : Type 0} (h : A → Option B) (xs : List A) (x : A) (y : B) → In x xs → h x ≡ Some y → In y (filter_map h xs)
kept_there h [] x y i e = elim i [ ]
kept_there h (z ∷ xs) x y here e = rw e here
kept_there {A} {B} h (z ∷ xs) x y (there i) e = by (h z) refl (kept_there h xs x y i e) where
  by : (o : Option B) → h z ≡ o → In y (filter_map h xs) → In y (filter_map h (z ∷ xs))
  by None f j = rw f j
  by (Some w) f j = rw f (there j)

pub flat_back : {A B : Type 0} (f : A → List B) (xs : List A) (y : B) → In y (flat_map f xs) → (x : A) × In x xs × In y (f x)
flat_back f [] y i = elim i [ ]
flat_back f (x ∷ xs) y i = elim (In-split y (f x) (flat_map f xs) i) [
  | inl a ↦ (x, here, a)
  | inr b ↦ let r = flat_back f xs y b in (r.0, there r.1, r.2)
]

pub flat_there : {A B : Type 0} (f : A → List B) (xs : List A) (x : A) (y : B) → In x xs → In y (f x) → In y (flat_map f xs)
flat_there f [] x y i j = elim i [ ]
flat_there f (z ∷ xs) x y here j = In-left y (f z) (flat_map f xs) j
flat_there f (z ∷ xs) x y (there i) j = In-right y (f z) (flat_map f xs) (flat_there f xs x y i j)

-- ---- ports

-- the point of a port, from number k on, where the port of a number has this point; and the sites of such ports by their classes
abbrev ranked_point : (ℕ → Point) → ℕ → List Name → Name → Option Point
ranked_point at k [] name = None
ranked_point at k (one ∷ rest) name = cond (is_same_name one name) (Some (at k)) (ranked_point at (suc k) rest name)

abbrev ranked_sites : (ℕ → Point) → ℕ → List ℕ → List Site
ranked_sites at k [] = []
ranked_sites at k (class ∷ rest) = (class, at k) ∷ ranked_sites at (suc k) rest

module _ (n : AbstractNetlist) (at : ℕ → Point) where
  -- the point of a port is that of a site of its class
  ranked_back : (k : ℕ) (names : List Name) (name : Name) (q : Point) → ranked_point at k names name ≡ Some q
      → In (n.class (port name), q) (ranked_sites at k (map (λ x. n.class (port x)) names))
  ranked_back k [] name q e = absurd (cc e)
  ranked_back k (one ∷ rest) name q e = by (is_same_name one name) refl e (ranked_back (suc k) rest name q) where
    by : (b : Bool) → is_same_name one name ≡ b → cond b (Some (at k)) (ranked_point at (suc k) rest name) ≡ Some q
        → (ranked_point at (suc k) rest name ≡ Some q → In (n.class (port name), q) (ranked_sites at (suc k) (map (λ x. n.class (port x)) rest)))
        → In (n.class (port name), q) (ranked_sites at k (map (λ x. n.class (port x)) (one ∷ rest)))
    by true f g next =
        let named : one ≡ name = same_name_true one name f in
        let is : at k ≡ q = same_Some (at k) q g in
        subst (λ (x : Name). In (n.class (port x), q) (ranked_sites at k (map (λ y. n.class (port y)) (one ∷ rest)))) named
        (subst (λ (r : Point). In (n.class (port one), r) (ranked_sites at k (map (λ y. n.class (port y)) (one ∷ rest)))) is here)
    by false f g next = there (next g)

  -- and the other way round, where the names differ
  ranked_there : (k class : ℕ) (names : List Name) (q : Point) → AllDifferent names → In (class, q) (ranked_sites at k (map (λ x. n.class (port x)) names))
      → (name : Name) × In name names × (n.class (port name) ≡ class) × (ranked_point at k names name ≡ Some q)
  ranked_there k class [] q d i = elim i [ ]
  ranked_there k class (one ∷ rest) q d i = by (heads (site class q) i) (ranked_there (suc k) class rest q d.1) where
    heads : (s : Site) → In s (ranked_sites at k (map (λ x. n.class (port x)) (one ∷ rest)))
        → (s ≡ site (n.class (port one)) (at k)) ⊎ In s (ranked_sites at (suc k) (map (λ x. n.class (port x)) rest))
    heads s here = inl refl
    heads s (there j) = inr j

    by : (site class q ≡ site (n.class (port one)) (at k)) ⊎ In (class, q) (ranked_sites at (suc k) (map (λ x. n.class (port x)) rest))
        → (In (class, q) (ranked_sites at (suc k) (map (λ x. n.class (port x)) rest)) → (name : Name) × In name rest × (n.class (port name) ≡ class) × (ranked_point at (suc k) rest name ≡ Some q))
        → (name : Name) × In name (one ∷ rest) × (n.class (port name) ≡ class) × (ranked_point at k (one ∷ rest) name ≡ Some q)
    by (inl e) next = (
      one,
      here,
      sym (ap (λ (s : Site). s.0) e),
      cond-true (is_same_name one one) (Some (at k)) (ranked_point at (suc k) rest one) (same_name_itself one) ∙ ap (λ (s : Site). Some s.1) (sym e),
    )
    by (inr j) next =
        let r = next j in
        let differ : is_same_name one r.0 ≡ false = same_name_false one r.0 (λ e. d.0 (subst (λ (x : Name). In x rest) (sym e) r.1)) in
        (r.0, there r.1, r.2, cond-false (is_same_name one r.0) (Some (at k)) (ranked_point at (suc k) rest r.0) differ ∙ r.3)

-- at the left ends of tracks
abbrev track_end : ℕ → Point
track_end k = (pos FIRST_CELL_X, track_y k)

track_points : (k : ℕ) (names : List Name) (name : Name) → port_point k names name ≡ ranked_point track_end k names name
track_points k [] name = refl
track_points k (one ∷ rest) name = ap (λ (o : Option Point). cond (is_same_name one name) (Some (track_end k)) o) (track_points (suc k) rest name)

track_sites : (k : ℕ) (classes : List ℕ) → port_sites k classes ≡ ranked_sites track_end k classes
track_sites k [] = refl
track_sites k (c ∷ rest) = ap (λ (ss : List Site). site c (track_end k) ∷ ss) (track_sites (suc k) rest)

pub port_back : (n : AbstractNetlist) (k : ℕ) (names : List Name) (name : Name) (q : Point) → port_point k names name ≡ Some q
    → In (n.class (port name), q) (port_sites k (map (λ x. n.class (port x)) names))
port_back n k names name q e =
    subst (λ (ss : List Site). In (n.class (port name), q) ss) (sym (track_sites k (map (λ x. n.class (port x)) names)))
    (ranked_back n track_end k names name q (sym (track_points k names name) ∙ e))

pub port_there : (n : AbstractNetlist) (k class : ℕ) (names : List Name) (q : Point) → AllDifferent names → In (class, q) (port_sites k (map (λ x. n.class (port x)) names))
    → (name : Name) × In name names × (n.class (port name) ≡ class) × (port_point k names name ≡ Some q)
port_there n k class names q d i =
    let r = ranked_there n track_end k class names q d (subst (λ (ss : List Site). In (class, q) ss) (track_sites k (map (λ x. n.class (port x)) names)) i) in
    (r.0, r.1, r.2, track_points k names r.0 ∙ r.3)

-- in columns above rows
abbrev column_top : (ℕ → ℕ) → ℕ → ℕ → Point
column_top column rows k = (column_x (column k), row_y (port_row rows))

column_points : (column : ℕ → ℕ) (rows k : ℕ) (names : List Name) (name : Name) → grid_point column rows k names name ≡ ranked_point (column_top column rows) k names name
column_points column rows k [] name = refl
column_points column rows k (one ∷ rest) name =
    ap (λ (o : Option Point). cond (is_same_name one name) (Some (column_top column rows k)) o) (column_points column rows (suc k) rest name)

column_sites : (column : ℕ → ℕ) (rows k : ℕ) (classes : List ℕ) → grid_sites column rows k classes ≡ ranked_sites (column_top column rows) k classes
column_sites column rows k [] = refl
column_sites column rows k (c ∷ rest) = ap (λ (ss : List Site). site c (column_top column rows k) ∷ ss) (column_sites column rows (suc k) rest)

pub grid_back : (n : AbstractNetlist) (column : ℕ → ℕ) (rows k : ℕ) (names : List Name) (name : Name) (q : Point) → grid_point column rows k names name ≡ Some q
    → In (n.class (port name), q) (grid_sites column rows k (map (λ x. n.class (port x)) names))
grid_back n column rows k names name q e =
    subst (λ (ss : List Site). In (n.class (port name), q) ss) (sym (column_sites column rows k (map (λ x. n.class (port x)) names)))
    (ranked_back n (column_top column rows) k names name q (sym (column_points column rows k names name) ∙ e))

pub grid_there : (n : AbstractNetlist) (column : ℕ → ℕ) (rows k class : ℕ) (names : List Name) (q : Point) → AllDifferent names
    → In (class, q) (grid_sites column rows k (map (λ x. n.class (port x)) names))
    → (name : Name) × In name names × (n.class (port name) ≡ class) × (grid_point column rows k names name ≡ Some q)
grid_there n column rows k class names q d i =
    let r = ranked_there n (column_top column rows) k class names q d (subst (λ (ss : List Site). In (class, q) ss) (column_sites column rows k (map (λ x. n.class (port x)) names)) i) in
    (r.0, r.1, r.2, column_points column rows k names r.0 ∙ r.3)
