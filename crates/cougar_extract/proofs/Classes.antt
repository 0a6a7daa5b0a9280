-- Pairs of connectors with one number join terminals exactly where shapes join them.
use Rattle.std.proofs.Common.{◌≡◌, ◌⊎◌, inl, inr, ℕ, Bool, false, List, map, get_or, refl, sym, ap, subst, ◌∙◌}
use Rattle.std.specs.Prelude.{slice_get}
use Rattle.std.proofs.lemmas.Option.{slice_get_within, get_or_from_slice_get}
use Rattle.vlsi_base.specs.declared.name.Terminal.{Terminal}
use Rattle.vlsi_base.specs.Member.{In}
use Rattle.cell_model.proofs.Members.{In-map, In-map_back}
use Rattle.cell_pins.proofs.Sound.{member_at}
use Rattle.net_core.specs.Places.{Stands}
use Rattle.net_core.specs.Joins.{Joined as JoinedBy, same, along, against}
use Rattle.net_right.proofs.Lists.{in_place}
use Rattle.sym_shapes.specs.Shape.{Shape}
use Rattle.sym_shapes.specs.Joined.{Joined, itself, through, one_name, Shows, AreJoined}
use Rattle.sym_shapes.proofs.Joins.{joined_then, linked_back}
use Rattle.sym_shapes.proofs.Labels.{first_In, last_In}
use Rattle.cougar_extract.specs.declared.links.Link.{Link}
use Rattle.cougar_extract.specs.Stages.{AreConnected, AreLeaders, terminal_of, join_of}

-- ---- joined terminals

joined_back : {all : List Shape} {a b : Shape} → Joined all a b → Joined all b a
joined_back (itself h) = itself h
joined_back (through h link rest) = joined_then (joined_back rest) (through (first_In rest) (linked_back link) (itself h))

pub tied_then : (all : List Shape) (a b c : Terminal) → AreJoined all a b → AreJoined all b c → AreJoined all a c
tied_then all a b c p q = record {
  from = p.from;
  to = q.to;
  shows_from = p.shows_from;
  shows_to = q.shows_to;
  joined = joined_then p.joined (through (last_In p.joined) (one_name (p.shows_to.owner ∙ sym q.shows_from.owner) b.pin p.shows_to.name q.shows_from.name) q.joined);
}

pub tied_back : (all : List Shape) (a b : Terminal) → AreJoined all a b → AreJoined all b a
tied_back all a b p = record { from = p.to; to = p.from; shows_from = p.shows_to; shows_to = p.shows_from; joined = joined_back p.joined }

-- ---- connectors

module _ (all : List Shape) (outputs : List Bool) (links : List Link) (is : AreConnected all outputs links) where
  -- connectors with one number are joined
  pub linked_tied : (x y : Link) → In x links → In y links → x.number ≡ y.number → AreJoined all x.terminal y.terminal
  linked_tied x y p q e =
      let a = is.are.sound x p in
      let b = is.are.sound y q in
      let i = a.0 in
      let j = b.0 in
      let sx = a.2.shape in
      let sy = b.2.shape in
      let numbers_are : get_or is.numbers i 0 ≡ get_or is.numbers j 0 = sym a.2.number ∙ e ∙ b.2.number in
      let chain : Joined all (get_or all i sx) (get_or all j sx) = (is.joined i j sx a.1 b.1).0 numbers_are in
      let at_x : get_or all i sx ≡ sx = get_or_from_slice_get all i sx sx a.2.stands in
      let at_y : get_or all j sx ≡ sy = get_or_from_slice_get all j sy sx b.2.stands in
      record {
        from = sx;
        to = sy;
        shows_from = a.2.shows;
        shows_to = b.2.shows;
        joined = subst (λ (s : Shape). Joined all sx s) at_y (subst (λ (s : Shape). Joined all s (get_or all j sx)) at_x chain);
      }

  -- the connector of a shape that shows a terminal
  pub record IsLinkOf (s : Shape) (t : Terminal) : Type 0 where
    pub place : ℕ
    pub stands : Stands all place s
    pub link : Link
    pub listed : In link links
    pub terminal : link.terminal ≡ t
    pub number : link.number ≡ get_or is.numbers place 0
    pub marked : link.gives ≡ get_or outputs place false

  pub link_of_shape : (s : Shape) (t : Terminal) → In s all → Shows t s → IsLinkOf s t
  link_of_shape s t h shows =
      let p = in_place s all h in
      let r = is.are.complete p.0 s t (slice_get_within all p.0 s p.1) p.1 shows in
      record { place = p.0; stands = p.1; link = r.0; listed = r.1; terminal = r.2; number = r.3; marked = r.4 }

  -- those of joined shapes have one number
  pub one_number : (s u : Shape) (t v : Terminal) → Joined all s u → (a : IsLinkOf s t) → (b : IsLinkOf u v) → a.link.number ≡ b.link.number
  one_number s u t v chain a b =
      let at_s : get_or all a.place s ≡ s = get_or_from_slice_get all a.place s s a.stands in
      let at_u : get_or all b.place s ≡ u = get_or_from_slice_get all b.place u s b.stands in
      let placed : Joined all (get_or all a.place s) (get_or all b.place s) =
      subst (λ (x : Shape). Joined all (get_or all a.place s) x) (sym at_u) (subst (λ (x : Shape). Joined all x u) (sym at_s) chain) in
      let alike = (is.joined a.place b.place s (slice_get_within all a.place s a.stands) (slice_get_within all b.place u b.stands)).1 placed in
      a.number ∙ alike ∙ sym b.number

  -- ---- pairs

  module _ (places : List ℕ) (led : AreLeaders links places) where
    abbrev pub pairs : List (Terminal × Terminal)
    pairs = map (join_of links places) links

    abbrev lead : ℕ → Terminal
    lead n = terminal_of (slice_get links (get_or places n 0))

    led_pair : (x : Link) → In x links → In (lead x.number, x.terminal) pairs
    led_pair x h = In-map (join_of links places) x links h

    pair_tied : (a b : Terminal) → In (a, b) pairs → AreJoined all a b
    pair_tied a b h =
        let r = In-map_back (join_of links places) (a, b) links h in
        let leader = led r.0 r.1 in
        let first : lead r.0.number ≡ a = ap (λ (p : Terminal × Terminal). p.0) r.2 in
        let second : r.0.terminal ≡ b = ap (λ (p : Terminal × Terminal). p.1) r.2 in
        let is_leader : leader.leader.terminal ≡ a = sym (ap terminal_of leader.stands) ∙ first in
        let tied = linked_tied leader.leader r.0 (member_at links (get_or places r.0.number 0) leader.leader leader.stands) r.1 leader.same in
        subst (λ (t : Terminal). AreJoined all a t) second (subst (λ (t : Terminal). AreJoined all t r.0.terminal) is_leader tied)

    pub joined_tied : {a b : Terminal} → JoinedBy pairs a b → (a ≡ b) ⊎ AreJoined all a b
    joined_tied same = inl refl
    joined_tied (along {a} {b} {c} p rest) = elim (joined_tied rest) [
      | inl e ↦ inr (subst (λ (t : Terminal). AreJoined all a t) e (pair_tied a b p))
      | inr t ↦ inr (tied_then all a b c (pair_tied a b p) t)
    ]
    joined_tied (against {a} {b} {c} p rest) = elim (joined_tied rest) [
      | inl e ↦ inr (subst (λ (t : Terminal). AreJoined all b t) e (tied_back all a b (pair_tied a b p)))
      | inr t ↦ inr (tied_then all b a c (tied_back all a b (pair_tied a b p)) t)
    ]

    pub tied_joined : (a b : Terminal) → AreJoined all a b → JoinedBy pairs a b
    tied_joined a b t =
        let x = link_of_shape t.from a (first_In t.joined) t.shows_from in
        let y = link_of_shape t.to b (last_In t.joined) t.shows_to in
        let e : x.link.number ≡ y.link.number = one_number t.from t.to a b t.joined x y in
        let first : In (lead x.link.number, a) pairs = subst (λ (u : Terminal). In (lead x.link.number, u) pairs) x.terminal (led_pair x.link x.listed) in
        let second : In (lead y.link.number, b) pairs = subst (λ (u : Terminal). In (lead y.link.number, u) pairs) y.terminal (led_pair y.link y.listed) in
        let third : In (lead x.link.number, b) pairs = subst (λ (n : ℕ). In (lead n, b) pairs) (sym e) second in
        against first (along third same)
