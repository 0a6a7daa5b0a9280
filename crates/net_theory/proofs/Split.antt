-- A buffer put into a netlist that shows nodes.
use Rattle.std.proofs.Common.{◌≡◌, ◌⊎◌, inl, inr, ℕ, suc, ◌+◌, ◌<◌, ◌≤◌, Bool, true, false, List, [], ◌∷◌, ◌++◌, map, Some, refl, sym, ◌∙◌, ap, subst, arith, nat_eq, eqb-true, eq-eqb, if◌then◌else◌}
use Rattle.std.proofs.lemmas.Bool.{cases_lt}
use Rattle.vlsi_base.specs.declared.name.Name.{Name}
use Rattle.vlsi_base.specs.declared.name.Terminal.{Terminal}
use Rattle.bool_expr.specs.Expression.{val}
use Rattle.machine_core.specs.Machine.{Machine, inputs, outputs, names_of}
use Rattle.machine_core.specs.Checked.{IsChecked}
use Rattle.sym_shapes.specs.Shape.{connector_names}
use Rattle.vlsi_base.specs.Member.{In, here, there}
use Rattle.cell_model.specs.Cell.{Function, gate, flip_flop, other, opaque, Cell, pin_ports, cell_inputs, cell_outputs}
use Rattle.cell_model.specs.Library.{Library, cell_of, IsUsable, IsPlain}
use Rattle.net_meaning.specs.Netlist.{Member, AbstractNetlist, port, pin_of, IsTerminal, a_port, a_pin}
use Rattle.vlsi_base.specs.Names.{vdd, vss}
use Rattle.net_meaning.specs.Well.{Has}
use Rattle.net_theory.specs.Sources.{Source, high, low, ticking, node, Values, Seat, Roots, Sourced, source_of, pin_sources, Plays, IsSeated, ComesFrom, Shows}
use Rattle.net_theory.specs.Exchanges.{standing_for}
use Rattle.net_theory.specs.Split.{IsSplit, split_origin, split_netlist, IsFresh, ShownSplit}
use Rattle.net_theory.proofs.Basics.{number_in, In-names, In-inputs, In-held, In-pins}
use Rattle.net_theory.proofs.Seats.{In-only, seat_has, input_terminal, output_terminal}

In-split : {A : Type 0} (x : A) (xs ys : List A) → In x (xs ++ ys) → In x xs ⊎ In x ys
In-split x [] ys h = inr h
In-split x (y ∷ xs) ys here = inl here
In-split x (y ∷ xs) ys (there h) = elim (In-split x xs ys h) [ inl left ↦ inl (there left) | inr right ↦ inr right ]

In-left : {A : Type 0} (x : A) (xs ys : List A) → In x xs → In x (xs ++ ys)
In-left x (y ∷ xs) ys here = here
In-left x (y ∷ xs) ys (there h) = there (In-left x xs ys h)
In-left x [] ys h = elim h [ ]

In-last : {A : Type 0} (x : A) (xs : List A) → In x (xs ++ x ∷ [])
In-last x [] = here
In-last x (y ∷ xs) = there (In-last x xs)

In-one : {A : Type 0} (x y : A) → In y (x ∷ []) → y ≡ x
In-one x y here = refl
In-one x y (there k) = elim k [ ]

map-last : {A B : Type 0} (f : A → B) (xs : List A) (x : A) → map f (xs ++ x ∷ []) ≡ map f xs ++ f x ∷ []
map-last f [] x = refl
map-last {B = B} f (y ∷ xs) x = ap (λ (zs : List B). f y ∷ zs) (map-last f xs x)

not_same : (x y : ℕ) → x < y → nat_eq x y ≡ false
not_same x y low_one = by (nat_eq x y) refl where
  by : (b : Bool) → nat_eq x y ≡ b → b ≡ false
  by true e = let same = eqb-true x y e in absurd (omega (arith, same, low_one))
  by false e = refl

module _ (n : Sourced) (k : AbstractNetlist) (l : Library) (m : Machine) (f : Values) (r q : Roots) (moved : Terminal → Bool) (a fresh : ℕ) (h : Shows n l m f r) (is_fresh : IsFresh n l m f r h fresh) (x : IsSplit n k l m moved a fresh r q) where
  abbrev split : Sourced
  split = split_netlist n k a fresh

  abbrev last : Seat
  last = record { member = x.buffer; node = fresh }

  abbrev values : Values
  values = standing_for (split_origin a fresh) f

  -- old classes have their sources
  source_old : (c : ℕ) → c < n.netlist.classes → split.source c ≡ n.source c
  source_old c below = ap (λ (b : Bool). if b then node fresh else n.source c) (not_same c n.netlist.classes below)

  source_new : split.source n.netlist.classes ≡ node fresh
  source_new = ap (λ (b : Bool). if b then node fresh else n.source n.netlist.classes) (eq-eqb n.netlist.classes n.netlist.classes refl)

  source_by : (t : Terminal) → IsTerminal n.netlist l t → source_of split t ≡ (if moved t then node fresh else source_of n t)
  source_by t is = ap split.source (x.class t is) ∙ by (moved t) where
    by : (b : Bool) → split.source (if b then n.netlist.classes else n.netlist.class t) ≡ (if b then node fresh else source_of n t)
    by true = source_new
    by false = source_old (n.netlist.class t) (h.numbered t is)

  source_kept : (t : Terminal) → IsTerminal n.netlist l t → moved t ≡ false → source_of split t ≡ source_of n t
  source_kept t is still_here = source_by t is ∙ ap (λ (b : Bool). if b then node fresh else source_of n t) still_here

  -- a class whose source is no node a keeps it
  not_moved : (t : Terminal) (s : Source) → source_of n t ≡ s → (s ≡ node a → ⊥) → moved t ≡ false
  not_moved t s is apart = by (moved t) refl where
    by : (b : Bool) → moved t ≡ b → b ≡ false
    by true e = absurd (apart (sym is ∙ x.moves t e))
    by false e = refl

  -- what classes show is below the new number
  node_low : (c y : ℕ) → c < n.netlist.classes → n.source c ≡ node y → y < fresh
  node_low c y below is = elim (subst (λ (s : Source). ComesFrom m h.seats s) is (h.origins c below)) [
    | inl low_one ↦ let all = is_fresh.0 in omega (arith, all, low_one)
    | inr p ↦ let low_one = is_fresh.1 p.0 p.1 in let same = p.2 in omega (arith, low_one, same)
  ]

  origin_old : (y : ℕ) → y < fresh → split_origin a fresh y ≡ y
  origin_old y below = ap (λ (b : Bool). if b then a else y) (not_same y fresh below)

  origin_new : split_origin a fresh fresh ≡ a
  origin_new = ap (λ (b : Bool). if b then a else fresh) (eq-eqb fresh fresh refl)

  rank_old : (y : ℕ) → y < fresh → split.rank y ≡ n.rank y + n.rank y
  rank_old y below = ap (λ (b : Bool). if b then suc (n.rank a + n.rank a) else n.rank y + n.rank y) (not_same y fresh below)

  rank_new : split.rank fresh ≡ suc (n.rank a + n.rank a)
  rank_new = ap (λ (b : Bool). if b then suc (n.rank a + n.rank a) else n.rank fresh + n.rank fresh) (eq-eqb fresh fresh refl)

  -- the leaves of a gate after the split
  abbrev leaves_after : List ℕ → List Name → List ℕ → List ℕ
  leaves_after owner [] leaves = []
  leaves_after owner (p ∷ pins) [] = []
  leaves_after owner (p ∷ pins) (y ∷ leaves) = (if moved (pin_of owner p) then fresh else y) ∷ leaves_after owner pins leaves

  -- one leaf
  record IsLeaf (y z : ℕ) : Type 0 where
    bits : (i s : List Bool) → values i s z ≡ f i s y
    ranks : split.rank z ≤ suc (n.rank y + n.rank y)

  leaf : (t : Terminal) (y : ℕ) → IsTerminal n.netlist l t → source_of n t ≡ node y → IsLeaf y (if moved t then fresh else y)
  leaf t y is shows_y = by (moved t) refl where
    by : (b : Bool) → moved t ≡ b → IsLeaf y (if b then fresh else y)
    by true e =
        let nodes : node a ≡ node y = sym (x.moves t e) ∙ shows_y in
        let same : a ≡ y = cc nodes in
        let ranks = ap n.rank same in
        let rank = rank_new in
        record { bits = λ i s. ap (f i s) (origin_new ∙ same); ranks = omega (arith, rank, ranks) }
    by false e =
        let below = node_low (n.netlist.class t) y (h.numbered t is) shows_y in
        let rank = rank_old y below in
        record { bits = λ i s. ap (f i s) (origin_old y below); ranks = omega (arith, rank) }

  -- the pins of a gate, after the split
  record AreAfter (owner : List ℕ) (pins : List Name) (leaves after : List ℕ) : Type 0 where
    reads : pin_sources split owner pins ≡ map node after
    bits : (i s : List Bool) → map (values i s) after ≡ map (f i s) leaves
    ranks : (top z : ℕ) → ((y : ℕ) → In y leaves → n.rank y < top) → In z after → split.rank z < top + top

  pins_after : (owner : List ℕ) (pins : List Name) (leaves : List ℕ) → ((p : Name) → In p pins → IsTerminal n.netlist l (pin_of owner p)) → pin_sources n owner pins ≡ map node leaves
      → AreAfter owner pins leaves (leaves_after owner pins leaves)
  pins_after owner [] [] each same = record { reads = refl; bits = λ i s. refl; ranks = λ top z g is. elim is [ ] }
  pins_after owner [] (y ∷ leaves) each same = absurd (cc same)
  pins_after owner (p ∷ pins) [] each same = absurd (cc same)
  pins_after owner (p ∷ pins) (y ∷ leaves) each same =
      let first : source_of n (pin_of owner p) ≡ node y = cc same in
      let others : pin_sources n owner pins ≡ map node leaves = cc same in
      let rest = pins_after owner pins leaves (λ w g. each w (there g)) others in
      let one = leaf (pin_of owner p) y (each p here) first in
      let z = if moved (pin_of owner p) then fresh else y in
      let after = leaves_after owner pins leaves in
      let shown_z : source_of split (pin_of owner p) ≡ node z = source_by (pin_of owner p) (each p here) ∙ choose (moved (pin_of owner p)) y (source_of n (pin_of owner p)) first in
      record {
        reads = ap (λ (s : Source). s ∷ pin_sources split owner pins) shown_z ∙ ap (λ (ss : List Source). node z ∷ ss) rest.reads;
        bits = λ i s. ap (λ (b : Bool). b ∷ map (values i s) after) (one.bits i s) ∙ ap (λ (bs : List Bool). f i s y ∷ bs) (rest.bits i s);
        ranks = λ top w g is. by top w y z leaves after g one.ranks rest.ranks is;
      } where
        choose : (b : Bool) (y : ℕ) (s : Source) → s ≡ node y → (if b then node fresh else s) ≡ node (if b then fresh else y)
        choose true y s is = refl
        choose false y s is = is

        by : (top w y z : ℕ) (leaves after : List ℕ) → ((v : ℕ) → In v (y ∷ leaves) → n.rank v < top) → split.rank z ≤ suc (n.rank y + n.rank y)
            → ((top v : ℕ) → ((u : ℕ) → In u leaves → n.rank u < top) → In v after → split.rank v < top + top) → In w (z ∷ after) → split.rank w < top + top
        by top w y z leaves after g ranks rest here = let low_y = g y here in omega (arith, ranks, low_y)
        by top w y z leaves after g ranks rest (there is) = rest top w (λ u a. g u (there a)) is

  outputs_kept : (i : Member) (c : Cell) → Has n.netlist l i c → IsUsable c → (names : List Name) → ((y : Name) → In y names → In y (cell_outputs c)) → pin_sources split i.name names ≡ pin_sources n i.name names
  outputs_kept i c has usable [] each = refl
  outputs_kept i c has usable (p ∷ names) each =
      ap (λ (s : Source). s ∷ pin_sources split i.name names) (source_kept (pin_of i.name p) (output_terminal n.netlist l i c p has usable (each p here)) (x.no_output i c p has (each p here)))
      ∙ ap (λ (ss : List Source). source_of n (pin_of i.name p) ∷ ss) (outputs_kept i c has usable names (λ y g. each y (there g)))

  plays : (p : Seat) (c : Cell) (u : Function) → In p h.seats → Has n.netlist l p.member c → IsUsable c → c.function ≡ u → IsPlain c u → Plays n m f r p c u → Plays split m values q p c u
  plays p c (gate e) g has usable is plain old =
      let after = pins_after p.member.name (cell_inputs c) old.leaves (λ z w. input_terminal n.netlist l p.member c z has usable w) old.reads in
      record {
        beyond = old.beyond;
        named = old.named;
        leaves = leaves_after p.member.name (cell_inputs c) old.leaves;
        reads = after.reads;
        shows = outputs_kept p.member c has usable (cell_outputs c) (λ y w. w) ∙ old.shows;
        value = λ i s held. ap (f i s) (origin_old p.node (is_fresh.1 p g)) ∙ old.value i s held ∙ ap (val e) (sym (after.bits i s));
        earlier = λ z listed. let low_one = after.ranks (n.rank p.node) z old.earlier listed in let rank = rank_old p.node (is_fresh.1 p g) in omega (arith, low_one, rank);
      }
  plays p c (flip_flop d ck) g has usable is plain old = record {
    number = old.number;
    within = old.within;
    named = old.named;
    place = old.place;
    shows = outputs_kept p.member c has usable (cell_outputs c) (λ y w. w) ∙ old.shows;
    loads = source_by (pin_of p.member.name d) (input_terminal n.netlist l p.member c d has usable plain.2)
        ∙ choose (moved (pin_of p.member.name d)) (r.load old.number) (source_of n (pin_of p.member.name d)) old.loads
        ∙ ap node (sym (x.loads p.member c d ck old.number has is old.named));
    clocked = source_kept (pin_of p.member.name ck) (input_terminal n.netlist l p.member c ck has usable plain.3) (not_moved (pin_of p.member.name ck) ticking old.clocked (λ e. absurd (cc e))) ∙ old.clocked;
  } where
    choose : (b : Bool) (y : ℕ) (s : Source) → s ≡ node y → (if b then node fresh else s) ≡ node (if b then fresh else y)
    choose true y s is = refl
    choose false y s is = is
  plays p c (other machine) g has usable is plain old = absurd old
  plays p c opaque g has usable is plain old = absurd old

  supply : (i : Member) (c : Cell) (name : Name) → Has n.netlist l i c → IsUsable c → (name ≡ vdd) ⊎ (name ≡ vss) → IsTerminal n.netlist l (pin_of i.name name)
  supply i c name has usable is = a_pin i c has.listed has.found ((usable.connectors name).1 (elim is [ inl z ↦ inl z | inr w ↦ inr (inl w) ]))

  seated_old : (p : Seat) → In p h.seats → IsSeated split l m values q p
  seated_old p g =
      let s = h.seated p g in
      let has = seat_has n l m f r h p g in
      record {
        cell = s.cell;
        found = s.found;
        usable = s.usable;
        on_vdd = source_kept (pin_of p.member.name vdd) (supply p.member s.cell vdd has s.usable (inl refl)) (not_moved (pin_of p.member.name vdd) high s.on_vdd (λ e. absurd (cc e))) ∙ s.on_vdd;
        on_vss = source_kept (pin_of p.member.name vss) (supply p.member s.cell vss has s.usable (inr refl)) (not_moved (pin_of p.member.name vss) low s.on_vss (λ e. absurd (cc e))) ∙ s.on_vss;
        plays = plays p s.cell s.cell.function g has s.usable refl s.usable.function s.plays;
      }

  a_low : a < fresh
  a_low = node_low (k.class (pin_of x.buffer.name x.is_buffer.input)) a x.reads_low x.reads

  vdd_low : n.netlist.class (port vdd) < n.netlist.classes
  vdd_low = h.numbered (port vdd) (a_port ((h.ports vdd).1 (inl refl)))

  vss_low : n.netlist.class (port vss) < n.netlist.classes
  vss_low = h.numbered (port vss) (a_port ((h.ports vss).1 (inr (inl refl))))

  seated_new : IsSeated split l m values q last
  seated_new =
      let b = x.is_buffer in
      record {
        cell = x.cell;
        found = b.found;
        usable = b.usable;
        on_vdd = ap split.source x.on_vdd ∙ source_old (n.netlist.class (port vdd)) vdd_low ∙ h.on_vdd;
        on_vss = ap split.source x.on_vss ∙ source_old (n.netlist.class (port vss)) vss_low ∙ h.on_vss;
        plays = subst (λ (u : Function). Plays split m values q last x.cell u) (sym b.is_gate) (record {
          beyond = is_fresh.0;
          named = b.named;
          leaves = a ∷ [];
          reads = ap (pin_sources split x.buffer.name) b.one_input
              ∙ ap (λ (s : Source). s ∷ []) (source_old (k.class (pin_of x.buffer.name b.input)) x.reads_low ∙ x.reads);
          shows = ap (pin_sources split x.buffer.name) b.one_output ∙ ap (λ (c : ℕ). split.source c ∷ []) x.drives ∙ ap (λ (s : Source). s ∷ []) source_new;
          value = λ i s held. ap (f i s) (origin_new ∙ sym (origin_old a a_low)) ∙ sym (b.same (values i s a));
          earlier = λ z listed. let same = In-one a z listed in let ranks = ap split.rank same in let one = rank_old a a_low in let two = rank_new in omega (arith, ranks, one, two);
        });
      }

  kind : (p : Seat) → In p (h.seats ++ last ∷ []) → In p h.seats ⊎ (p ≡ last)
  kind p g = elim (In-split p h.seats (last ∷ []) g) [ inl old ↦ inl old | inr new ↦ inr (In-one last p new) ]

  seated : (p : Seat) → In p (h.seats ++ last ∷ []) → IsSeated split l m values q p
  seated p g = elim (kind p g) [ inl old ↦ seated_old p old | inr new ↦ subst (λ (z : Seat). IsSeated split l m values q z) (sym new) seated_new ]

  one_node : (p w : Seat) → In p h.seats ⊎ (p ≡ last) → In w h.seats ⊎ (w ≡ last) → p.node ≡ w.node → p ≡ w
  one_node p w (inl c) (inl d) same = h.one_node p w c d same
  one_node p w (inl c) (inr d) same = let low_one = is_fresh.1 p c in let e = ap (λ (z : Seat). z.node) d in absurd (omega (arith, low_one, e, same))
  one_node p w (inr c) (inl d) same = let low_one = is_fresh.1 w d in let e = ap (λ (z : Seat). z.node) c in absurd (omega (arith, low_one, e, same))
  one_node p w (inr c) (inr d) same = c ∙ sym d

  one_name : (p w : Seat) → In p h.seats ⊎ (p ≡ last) → In w h.seats ⊎ (w ≡ last) → p.member.name ≡ w.member.name → p ≡ w
  one_name p w (inl c) (inl d) same = h.one_name p w c d same
  one_name p w (inl c) (inr d) same = absurd (x.new_name p.member (seat_has n l m f r h p c).listed (same ∙ ap (λ (z : Seat). z.member.name) d))
  one_name p w (inr c) (inl d) same = absurd (x.new_name w.member (seat_has n l m f r h w d).listed (sym same ∙ ap (λ (z : Seat). z.member.name) c))
  one_name p w (inr c) (inr d) same = c ∙ sym d

  old_or_new : (c : ℕ) → c < k.classes → (c < n.netlist.classes) ⊎ (c ≡ n.netlist.classes)
  old_or_new c below = elim (cases_lt c n.netlist.classes) [ inl low_one ↦ inl low_one | inr up ↦ inr (let all = x.classes in omega (arith, below, up, all)) ]

  one_class : (j c : ℕ) → (j < n.netlist.classes) ⊎ (j ≡ n.netlist.classes) → (c < n.netlist.classes) ⊎ (c ≡ n.netlist.classes) → split.source j ≡ split.source c → j ≡ c
  one_class j c (inl d) (inl e) same = h.one_class j c d e (sym (source_old j d) ∙ same ∙ source_old c e)
  one_class j c (inl d) (inr e) same =
      let low_one = node_low j fresh d (sym (source_old j d) ∙ same ∙ ap split.source e ∙ source_new) in absurd (omega (arith, low_one))
  one_class j c (inr d) (inl e) same =
      let low_one = node_low c fresh e (sym (source_old c e) ∙ sym same ∙ ap split.source d ∙ source_new) in absurd (omega (arith, low_one))
  one_class j c (inr d) (inr e) same = d ∙ sym e

  more : (s : Source) → ComesFrom m h.seats s → ComesFrom m (h.seats ++ last ∷ []) s
  more high c = tt
  more low c = tt
  more ticking c = c
  more (node y) c = elim c [ inl low_one ↦ inl low_one | inr p ↦ inr (p.0, In-left p.0 h.seats (last ∷ []) p.1, p.2) ]

  origins : (c : ℕ) → (c < n.netlist.classes) ⊎ (c ≡ n.netlist.classes) → ComesFrom m (h.seats ++ last ∷ []) (split.source c)
  origins c (inl below) = subst (λ (s : Source). ComesFrom m (h.seats ++ last ∷ []) s) (sym (source_old c below)) (more (n.source c) (h.origins c below))
  origins c (inr is) = subst (λ (s : Source). ComesFrom m (h.seats ++ last ∷ []) s) (sym (ap split.source is ∙ source_new)) (inr (last, In-last last h.seats, refl))

  port_kept : (name : Name) → (name ≡ vdd) ⊎ ((name ≡ vss) ⊎ In name (names_of m.ports)) → source_of split (port name) ≡ source_of n (port name)
  port_kept name is = source_kept (port name) (a_port ((h.ports name).1 is)) (x.no_port name)

  old_class : (t : Terminal) → IsTerminal n.netlist l t → k.class t < k.classes
  old_class t is = let e = x.class t is in let all = x.classes in let low_one = by (moved t) in omega (arith, e, all, low_one) where
    by : (b : Bool) → (if b then n.netlist.classes else n.netlist.class t) ≤ n.netlist.classes
    by true = omega arith
    by false = let below = h.numbered t is in omega (arith, below)

  buffer_class : (c : Cell) (name : Name) → x.cell ≡ c → In name (connector_names c.items) → k.class (pin_of x.buffer.name name) < k.classes
  buffer_class c name same listed =
      let b = x.is_buffer in
      let all = x.classes in
      elim ((b.usable.connectors name).0 (subst (λ (z : Cell). In name (connector_names z.items)) (sym same) listed)) [
        | inl is ↦ let e = ap (λ (z : Name). k.class (pin_of x.buffer.name z)) is in let d = x.on_vdd in let low_one = vdd_low in omega (arith, e, d, low_one, all)
        | inr others ↦ elim others [
          | inl is ↦ let e = ap (λ (z : Name). k.class (pin_of x.buffer.name z)) is in let d = x.on_vss in let low_one = vss_low in omega (arith, e, d, low_one, all)
          | inr pin ↦ elim (In-pins (pin_ports x.cell) name pin) [
            | inl i ↦
                let is = In-only b.input name (cell_inputs x.cell) b.one_input i in
                let e = ap (λ (z : Name). k.class (pin_of x.buffer.name z)) is in
                let d = x.reads_low in omega (arith, e, d, all)
            | inr o ↦
                let is = In-only b.output name (cell_outputs x.cell) b.one_output o in
                let e = ap (λ (z : Name). k.class (pin_of x.buffer.name z)) is in
                let d = x.drives in omega (arith, e, d, all)
          ]
        ]
      ]

  numbered : (t : Terminal) → IsTerminal k l t → k.class t < k.classes
  numbered t (a_port {name = name} g) = old_class (port name) (a_port (subst (λ (all : List Name). In name all) x.ports g))
  numbered t (a_pin {name = name} i c listed found g) =
      elim (In-split i n.netlist.instances (x.buffer ∷ []) (subst (λ (all : List Member). In i all) x.instances listed)) [
        | inl old ↦ old_class (pin_of i.name name) (a_pin i c old found g)
        | inr new ↦
            let is = In-one x.buffer i new in
            let there_found : cell_of l x.buffer.model ≡ Some c = subst (λ (z : Member). cell_of l z.model ≡ Some c) is found in
            let buffer_found : cell_of l x.buffer.model ≡ Some x.cell = x.is_buffer.found in
            let same : x.cell ≡ c = cc (there_found, buffer_found) in
            subst (λ (z : Member). k.class (pin_of z.name name) < k.classes) (sym is) (buffer_class c name same g)
      ]

  pub shows_split : IsChecked m → Shows split l m values q
  shows_split checked = record {
    seats = h.seats ++ last ∷ [];
    instances = x.instances ∙ ap (λ (is : List Member). is ++ x.buffer ∷ []) h.instances ∙ sym (map-last (λ (p : Seat). p.member) h.seats last);
    seated = seated;
    one_node = λ p w c d same. one_node p w (kind p c) (kind w d) same;
    one_name = λ p w c d same. one_name p w (kind p c) (kind w d) same;
    all_registers = λ j within. let p = h.all_registers j within in (p.0, In-left p.0 h.seats (last ∷ []) p.1, p.2);
    numbered = numbered;
    one_class = λ j c d e same. one_class j c (old_or_new j d) (old_or_new c e) same;
    origins = λ c below. origins c (old_or_new c below);
    ports = λ name.
        (λ g. (h.ports name).0 (subst (λ (all : List Name). In name all) x.ports g), λ g. subst (λ (all : List Name). In name all) (sym x.ports) ((h.ports name).1 g));
    on_vdd = port_kept vdd (inl refl) ∙ h.on_vdd;
    on_vss = port_kept vss (inr (inl refl)) ∙ h.on_vss;
    on_clock = λ name is. port_kept name (inr (inr (In-names _ m.ports name (In-held name _ (checked.clock name is).port)))) ∙ h.on_clock name is;
    in_ports = λ j name is. port_kept name (inr (inr (In-inputs m.clock m.ports name (number_in (inputs m) j name is)))) ∙ h.in_ports j name is;
    out_ports = λ j name is.
        port_kept name (inr (inr (In-names _ m.ports name (number_in (outputs m) j name is)))) ∙ h.out_ports j name is ∙ ap (λ (g : ℕ → ℕ). node (g j)) (sym x.outputs);
    no_input = λ j within. let e = ap (λ (g : ℕ → ℕ). g j) x.outputs in let b = h.no_input j within in omega (arith, e, b);
    different = λ j c d e same. h.different j c d e (sym (ap (λ (g : ℕ → ℕ). g j) x.outputs) ∙ same ∙ ap (λ (g : ℕ → ℕ). g c) x.outputs);
  }

pub shown_split : ShownSplit
shown_split n k l m f r q moved a fresh h checked is_fresh x = shows_split n k l m f r q moved a fresh h is_fresh x checked
