-- The exchanges that a table lists are all that there are, but for exchanges of cells for themselves.
use Rattle.std.proofs.Common.{◌≡◌, ◌⊎◌, inl, inr, ℕ, zero, suc, ◌≤◌, Bool, true, false, cond, List, [], ◌∷◌, nat_eq, Some, refl, sym, ap, ◌∙◌, subst, arith}
use Rattle.std.specs.Prelude.{slice_set}
use Rattle.std.specs.Cmp.Lexicographic.{bytes_decides}
use Rattle.std.proofs.lemmas.Bool.{eqb-true}
use Rattle.std.proofs.lemmas.Option.{slice_get_within}
use Rattle.machine_core.specs.Named.{is_same_text}
use Rattle.cell_model.specs.Cell.{Cell}
use Rattle.cell_model.specs.Library.{Library, cell_named, IsUsable}
use Rattle.net_core.specs.Places.{Stands}
use Rattle.net_core.specs.Netlist.{Instance, Netlist}
use Rattle.net_core.proofs.Standing.{stands_same}
use Rattle.delay_sta.specs.Paths.{Ends, IsWorst}
use Rattle.loon_buffer.specs.Drives.{IsExchange, TableIsEnough}
use Rattle.loon_buffer.proofs.Exchanging.{with_model}
use Rattle.loon_buffer.proofs.Keeping.{apart_of}

-- a cell that is found by a name stands in the list, and has the name
pub record Named (cells : List Cell) (model : List ℕ) (c : Cell) : Type 0 where
  pub place : ℕ
  pub stands : Stands cells place c
  pub name : c.name ≡ model

pub named : (cells : List Cell) (model : List ℕ) (c : Cell) → cell_named cells model ≡ Some c → Named cells model c
named [] model c e = absurd cc
named (d ∷ cells) model c e = by (λ f. named cells model c f) (is_same_text d.name model) refl e where
  by : (cell_named cells model ≡ Some c → Named cells model c) → (b : Bool) → is_same_text d.name model ≡ b → cond b (Some d) (cell_named cells model) ≡ Some c → Named (d ∷ cells) model c
  by further true t f =
      let same : d ≡ c = cc in
      record { place = 0; stands = f; name = ap (λ (x : Cell). x.name) (sym same) ∙ (bytes_decides d.name model).0 t }
  by further false t f = let r = further f in record { place = suc r.place; stands = r.stands; name = r.name }

pub set_same : (is : List Instance) (place : ℕ) (i : Instance) → Stands is place i → slice_set is place i ≡ is
set_same [] place i s = absurd cc
set_same (x ∷ is) zero i s =
    let f : Some x ≡ Some i = s in
    let e : i ≡ x = cc in
    ap (λ (y : Instance). y ∷ is) e
set_same (x ∷ is) (suc place) i s = ap (λ (ys : List Instance). x ∷ ys) (set_same is place i s)

-- the longest path of a netlist takes one time
pub worst_once : (n : Netlist) (l : Library) (a b : ℕ) → IsWorst n l a → IsWorst n l b → a ≤ b
worst_once n l a b p q = by p.is where
  by : Ends n l a ⊎ (a ≡ 0) → a ≤ b
  by (inl e) = q.most a e
  by (inr z) = omega (arith, z)

module _ (l : Library) (n m : Netlist) (x : IsExchange l n m) where
  owner : x.owner ≡ x.sets.was
  owner = stands_same n.instances x.place x.owner x.sets.was x.stands x.sets.stood

  made : List Instance → Netlist
  made is = record n { instances = is }

  unchanged : x.was ≡ x.now → m ≡ n
  unfolding made
  unchanged same =
      let a = named l.cells x.owner.model x.was x.found in
      let model : x.now.name ≡ x.sets.was.model = ap (λ (c : Cell). c.name) (sym same) ∙ a.name ∙ ap (λ (o : Instance). o.model) owner in
      x.sets.now ∙ ap (λ (t : List ℕ). made (slice_set n.instances x.place (with_model x.sets.was t))) model
      ∙ ap made (set_same n.instances x.place x.sets.was x.sets.stood)

pub table_is_enough : TableIsEnough
table_is_enough l table n is timed enough m time other x worst after = by (nat_eq a.place b.place) refl where
  a : Named l.cells x.owner.model x.was
  a = named l.cells x.owner.model x.was x.found

  b : Named l.cells x.now.name x.now
  b = named l.cells x.now.name x.now x.listed

  usable : IsUsable x.was
  usable =
      let u = timed.usable x.owner (x.place, x.stands) in
      let same : u.0 ≡ x.was = (let f : Some u.0 ≡ Some x.was = sym u.1 ∙ x.found in cc) in
      subst IsUsable same u.2

  by : (t : Bool) → nat_eq a.place b.place ≡ t → time ≤ other
  by true e =
      let same : x.was ≡ x.now = stands_same l.cells b.place x.was x.now (subst (λ k. Stands l.cells k x.was) (eqb-true a.place b.place e) a.stands) b.stands in
      worst_once n l time other worst (subst (λ (k : Netlist). IsWorst k l other) (unchanged l n m x same) after)
  by false e =
      let low = slice_get_within l.cells a.place x.was a.stands in
      let high = slice_get_within l.cells b.place x.now b.stands in
      enough m time other (record {
        exchange = x;
        from = a.place;
        stood = a.stands;
        to = b.place;
        stands = b.stands;
        listed = (is.each a.place low b.place).1 (
          high,
          record {
            apart = λ q. apart_of a.place b.place e (sym q);
            was = x.was;
            stood = a.stands;
            usable = usable;
            now = x.now;
            stands = b.stands;
            as_usable = x.usable;
            drive = x.drive;
          },
        );
      }) worst after
