-- The pins of a netlist's instances, by number.
use Rattle.std.proofs.Common.{◌≡◌, inl, inr, ℕ, zero, suc, ◌+◌, ◌<◌, List, [], ◌∷◌, length, Option, None, Some, refl, sym, ap, subst, ◌∙◌, arith}
use Rattle.vlsi_base.specs.declared.name.Name.{Name}
use Rattle.vlsi_base.specs.Member.{In, here, there}
use Rattle.machine_core.specs.Machine.{names_of}
use Rattle.cell_model.specs.Access.{Point, access_point}
use Rattle.cell_model.specs.Cell.{Cell, pin_ports}
use Rattle.cell_model.specs.Library.{Library, cell_of}
use Rattle.cell_model.proofs.Members.{In-split, In-left, In-right}
use Rattle.net_meaning.specs.Netlist.{Member, AbstractNetlist, pin_of}
use Rattle.ocp_rows.specs.Placement.{natural}
use Rattle.ocp_place.specs.Stood.{member}
use Rattle.ocp_place.proofs.Points.{flat_back, flat_there}
use Rattle.ocp_anneal.specs.declared.cells.Tied.{Tied}
use Rattle.ocp_anneal.specs.Cells.{tied, point_pin, own_pins, cell_pins}

pub member_in : (ms : List Member) (c : ℕ) → c < length ms → In (member ms c) ms
member_in [] c low = absurd (omega arith)
member_in (m ∷ ms) zero low = here
member_in (m ∷ ms) (suc c) low = there (member_in ms c (omega arith))

module _ (n : AbstractNetlist) (l : Library) where
  -- a pin of one of some instances, the first of which has number i
  pub record IsCellPin (i : ℕ) (ms : List Member) (t : Tied) : Type 0 where
    pub place : ℕ
    pub inside : place < length ms
    pub cell : Cell
    pub pin : Name
    pub point : Point
    pub found : cell_of l (member ms place).model ≡ Some cell
    pub is_pin : In pin (names_of (pin_ports cell))
    pub reached : access_point cell pin ≡ Some point
    pub is : t ≡ tied (n.class (pin_of (member ms place).name pin)) (i + place) (natural point.0) (natural point.1)

  own_there : (i : ℕ) (m : Member) (ms : List Member) (t : Tied) (o : Option Cell) → cell_of l m.model ≡ o → In t (own_pins n i m.name o) → IsCellPin i (m ∷ ms) t
  own_there i m ms t None e h = elim h [ ]
  own_there i m ms t (Some c) e h =
      let r = flat_back (λ pin. point_pin i (n.class (pin_of m.name pin)) (access_point c pin)) (names_of (pin_ports c)) t h in
      by r.0 r.1 (access_point c r.0) refl r.2
    where
      head : (s u : Tied) → In s (u ∷ []) → s ≡ u
      head s u here = refl
      head s u (there j) = elim j [ ]

      by : (pin : Name) → In pin (names_of (pin_ports c)) → (q : Option Point) → access_point c pin ≡ q → In t (point_pin i (n.class (pin_of m.name pin)) q) → IsCellPin i (m ∷ ms) t
      by pin g None f j = elim j [ ]
      by pin g (Some a) f j = record {
        place = 0;
        inside = omega arith;
        cell = c;
        pin = pin;
        point = a;
        found = e;
        is_pin = g;
        reached = f;
        is = head t (tied (n.class (pin_of m.name pin)) i (natural a.0) (natural a.1)) j
            ∙ ap (λ (x : ℕ). tied (n.class (pin_of m.name pin)) x (natural a.0) (natural a.1)) (let e : i ≡ i + 0 = omega arith in e);
      }

  pub cell_there : (i : ℕ) (ms : List Member) (t : Tied) → In t (cell_pins n l i ms) → IsCellPin i ms t
  cell_there i [] t h = elim h [ ]
  cell_there i (m ∷ ms) t h = elim (In-split t (own_pins n i m.name (cell_of l m.model)) (cell_pins n l (suc i) ms) h) [
    | inl a ↦ own_there i m ms t (cell_of l m.model) refl a
    | inr b ↦ later (cell_there (suc i) ms t b)
  ] where
    later : IsCellPin (suc i) ms t → IsCellPin i (m ∷ ms) t
    later s = let low = s.inside in record {
      place = suc s.place;
      inside = omega arith;
      cell = s.cell;
      pin = s.pin;
      point = s.point;
      found = s.found;
      is_pin = s.is_pin;
      reached = s.reached;
      is = s.is ∙ ap (λ (x : ℕ). tied (n.class (pin_of (member ms s.place).name s.pin)) x (natural s.point.0) (natural s.point.1))
          (let e : suc i + s.place ≡ i + suc s.place = omega arith in e);
    }

  -- and the other way round
  pub cell_back : (i : ℕ) (ms : List Member) (j : ℕ) (c : Cell) (pin : Name) (q : Point) → j < length ms → cell_of l (member ms j).model ≡ Some c → In pin (names_of (pin_ports c))
      → access_point c pin ≡ Some q → In (tied (n.class (pin_of (member ms j).name pin)) (i + j) (natural q.0) (natural q.1)) (cell_pins n l i ms)
  cell_back i [] j c pin q low found h e = absurd (omega arith)
  cell_back i (m ∷ ms) zero c pin q low found h e =
      let t = tied (n.class (pin_of m.name pin)) i (natural q.0) (natural q.1) in
      let own : In t (own_pins n i m.name (Some c)) =
      flat_there (λ (name : Name). point_pin i (n.class (pin_of m.name name)) (access_point c name)) (names_of (pin_ports c)) pin t h
      (subst (λ (o : Option Point). In t (point_pin i (n.class (pin_of m.name pin)) o)) (sym e) here) in
      let all : In t (cell_pins n l i (m ∷ ms)) =
      In-left t (own_pins n i m.name (cell_of l m.model)) (cell_pins n l (suc i) ms) (subst (λ (o : Option Cell). In t (own_pins n i m.name o)) (sym found) own) in
      subst (λ (x : ℕ). In (tied (n.class (pin_of m.name pin)) x (natural q.0) (natural q.1)) (cell_pins n l i (m ∷ ms))) (let f : i ≡ i + 0 = omega arith in f) all
  cell_back i (m ∷ ms) (suc j) c pin q low found h e =
      let more = cell_back (suc i) ms j c pin q (omega arith) found h e in
      let x : suc i + j ≡ i + suc j = omega arith in
      In-right (tied (n.class (pin_of (member ms j).name pin)) (i + suc j) (natural q.0) (natural q.1)) (own_pins n i m.name (cell_of l m.model)) (cell_pins n l (suc i) ms)
      (subst (λ (y : ℕ). In (tied (n.class (pin_of (member ms j).name pin)) y (natural q.0) (natural q.1)) (cell_pins n l (suc i) ms)) x more)
