-- Which classes keep their members, by the images of the classes of both netlists.
use Rattle.std.proofs.Common.{◌≡◌, ◌⊎◌, inl, inr, ℕ, ◌<◌, true, false, List, length, get_or, map, Option, Some, None, refl, sym, ap, subst, ◌∙◌, arith}
use Rattle.std.specs.Prelude.{slice_get}
use Rattle.std.specs.List.{All}
use Rattle.std.proofs.lemmas.Bool.{cases_eq}
use Rattle.std.proofs.lemmas.List.{length-map}
use Rattle.std.proofs.lemmas.Option.{slice_get_within, slice_get-get_or, same_Some}
use Rattle.vlsi_base.specs.declared.name.Terminal.{Terminal}
use Rattle.net_core.specs.Places.{Stands}
use Rattle.net_core.specs.Netlist.{Netlist, IsNetlist, terminals, HasClass, IsClassOf}
use Rattle.net_core.proofs.Frames.{unmapped}
use Rattle.net_core.proofs.Finishing.{class_once}
use Rattle.net_core.proofs.Rings.{at_place, class_below}
use Rattle.net_core.proofs.Namings.{turn_below}
use Rattle.net_right.specs.Same.{AreJoined}
use Rattle.lvx_compare.specs.declared.images.Image.{Image}
use Rattle.lvx_compare.specs.declared.images.Image.TheVariants as image
use Rattle.lvx_compare.specs.Compared.{HasOtherMembers}
use Rattle.lvx_compare.specs.Stages.{AreClasses, IsScattered, IsImage, AreImages, is_within, is_kept, KeepsMembers, AreMarks}
use Rattle.lvx_compare.proofs.Members.{is_there}

-- whether two places hold one class
together : (o p : Option ℕ) → ((d : ℕ) × (o ≡ Some d) × (p ≡ Some d)) ⊎ ((d : ℕ) → o ≡ Some d → p ≡ Some d → ⊥)
together None p = inr (λ d e f. absurd cc)
together (Some x) None = inr (λ d e f. absurd cc)
together (Some x) (Some y) = elim (cases_eq x y) [
  | inl same ↦ inl (y, ap Some same, refl)
  | inr ne ↦ inr (λ d e f. ne (same_Some x d e ∙ sym (same_Some y d f)))
]

-- of a netlist and another: for each terminal of the first its class in the second
module _ (n m : Netlist) (is_n : IsNetlist n) (is_m : IsNetlist m) (found : List (Option ℕ)) (are : AreClasses m (terminals n) found) where
  -- members of a class that are all in one class there
  pub moved : (c d : ℕ) → ((k : ℕ) → Stands n.classes k c → Stands found k (Some d)) → (t : Terminal) → HasClass n t c → HasClass m t d
  moved c d all t h = are.each h.0 t (Some d) h.1 (all h.0 h.2)

  found_at : (k : ℕ) (t : Terminal) → Stands (terminals n) k t → (o : Option ℕ) × Stands found k o × IsClassOf m t o
  found_at k t s =
      let l = slice_get_within (terminals n) k t s in
      let many = are.many in
      let o = at_place found k (omega (arith, l, many)) in (o.0, o.1, are.each k t o.0 s o.1)

  terminal_at_class : (k c : ℕ) → Stands n.classes k c → (t : Terminal) × Stands (terminals n) k t
  terminal_at_class k c s =
      let l = slice_get_within n.classes k c s in
      let many = is_n.each in
      at_place (terminals n) k (omega (arith, l, many))

  -- a terminal that has a class there is there with that class
  class_there : (t : Terminal) (o : Option ℕ) (d : ℕ) → IsClassOf m t o → HasClass m t d → o ≡ Some d
  class_there t None d lacks h = absurd (lacks (is_there m t d h))
  class_there t (Some x) d is h = ap Some (class_once m is_m t x d is h)

  -- where members of a class aren't in one class there, one isn't joined there to a given member
  pub scattered : (c : ℕ) (t : Terminal) → HasClass n t c → IsScattered n.classes found c → (s : Terminal) × AreJoined n t s × (AreJoined m t s → ⊥)
  scattered c t h apart = by (together own.0 one.0) (together own.0 other.0) where
    own : (o : Option ℕ) × Stands found h.0 o × IsClassOf m t o
    own = found_at h.0 t h.1

    s1 : (s : Terminal) × Stands (terminals n) apart.first s
    s1 = terminal_at_class apart.first c apart.one

    s2 : (s : Terminal) × Stands (terminals n) apart.second s
    s2 = terminal_at_class apart.second c apart.other

    one : (o : Option ℕ) × Stands found apart.first o × IsClassOf m s1.0 o
    one = found_at apart.first s1.0 s1.1

    other : (o : Option ℕ) × Stands found apart.second o × IsClassOf m s2.0 o
    other = found_at apart.second s2.0 s2.1

    parted : (s : Terminal) (o : Option ℕ) → IsClassOf m s o → ((d : ℕ) → own.0 ≡ Some d → o ≡ Some d → ⊥) → AreJoined m t s → ⊥
    parted s o is apart_from j = apart_from j.class (class_there t own.0 j.class own.2 j.first) (class_there s o j.class is j.second)

    by : ((d : ℕ) × (own.0 ≡ Some d) × (one.0 ≡ Some d)) ⊎ ((d : ℕ) → own.0 ≡ Some d → one.0 ≡ Some d → ⊥)
        → ((d : ℕ) × (own.0 ≡ Some d) × (other.0 ≡ Some d)) ⊎ ((d : ℕ) → own.0 ≡ Some d → other.0 ≡ Some d → ⊥)
        → (s : Terminal) × AreJoined n t s × (AreJoined m t s → ⊥)
    by (inr never) q = (s1.0, record { class = c; first = h; second = (apart.first, s1.1, apart.one) }, parted s1.0 one.0 one.2 never)
    by (inl p) (inr never) = (s2.0, record { class = c; first = h; second = (apart.second, s2.1, apart.other) }, parted s2.0 other.0 other.2 never)
    by (inl p) (inl q) =
        let same : p.0 ≡ q.0 = same_Some p.0 q.0 (sym p.1 ∙ q.1) in
        absurd (apart.apart p.0 (subst (λ (o : Option ℕ). Stands found apart.first o) p.2 one.1)
        (subst (λ (o : Option ℕ). Stands found apart.second o) (q.2 ∙ ap Some (sym same)) other.1))

-- an image of a class by its number
image_at : (n : Netlist) (found : List (Option ℕ)) (images : List Image) (c : ℕ) (i : Image) → AreImages n.classes found images → Stands images c i → IsImage n.classes found c i
image_at n found images c i are s =
    let l = slice_get_within images c i s in
    let e : Some (get_or images c i) ≡ Some i = sym (slice_get-get_or images c i l) ∙ s in
    subst (λ (x : Image). IsImage n.classes found c x) (same_Some (get_or images c i) i e) (are.each c i l)

-- all of two netlists that the marks are made of
pub record Compared (a b : Netlist) (there here : List (Option ℕ)) (ahead back : List Image) : Type 0 where
  pub first : IsNetlist a
  pub second : IsNetlist b
  pub there_are : AreClasses b (terminals a) there
  pub here_are : AreClasses a (terminals b) here
  pub ahead_are : AreImages a.classes there ahead
  pub back_are : AreImages b.classes here back
  pub ahead_many : length ahead ≡ a.count
  pub back_many : length back ≡ b.count

within_of : (o : Option Image) → is_within o ≡ true → (d : ℕ) × (o ≡ Some (image.Within d))
within_of None e = absurd cc
within_of (Some image.Unseen) e = absurd cc
within_of (Some (image.Within d)) e = (d, refl)
within_of (Some image.Scattered) e = absurd cc

module _ (a b : Netlist) (there here : List (Option ℕ)) (ahead back : List Image) (all : Compared a b there here ahead back) where
  -- members that are those of one class there
  kept_class : (c d e : ℕ) → IsImage a.classes there c (image.Within d) → IsImage b.classes here d (image.Within e) → (t : Terminal) → HasClass a t c → KeepsMembers a b t
  kept_class c d e ahead_is back_is t h s = (to, from) where
    across : HasClass b t d
    across = moved a b all.first all.second there all.there_are c d ahead_is.1 t h

    again : HasClass a t e
    again = moved b a all.second all.first here all.here_are d e back_is.1 t across

    to : AreJoined a t s → AreJoined b t s
    to j =
        let own : j.class ≡ c = class_once a all.first t j.class c j.first h in
        let with : HasClass a s c = subst (λ k. HasClass a s k) own j.second in
        record { class = d; first = across; second = moved a b all.first all.second there all.there_are c d ahead_is.1 s with }

    from : AreJoined b t s → AreJoined a t s
    from j =
        let own : j.class ≡ d = class_once b all.second t j.class d j.first across in
        let with : HasClass b s d = subst (λ k. HasClass b s k) own j.second in
        record { class = e; first = again; second = moved b a all.second all.first here all.here_are d e back_is.1 s with }

  kept_by : (c : ℕ) (i : Image) → IsImage a.classes there c i → is_kept back i ≡ true → (t : Terminal) → HasClass a t c → KeepsMembers a b t
  kept_by c image.Unseen is e t h = absurd cc
  kept_by c image.Scattered is e t h = absurd cc
  kept_by c (image.Within d) is e t h =
      let w = within_of (slice_get back d) e in
      kept_class c d w.0 is (image_at b here back d (image.Within w.0) all.back_are w.1) t h

  parted_by : (c : ℕ) (i : Image) → IsImage a.classes there c i → is_kept back i ≡ false → (t : Terminal) → HasClass a t c → HasOtherMembers a b t
  parted_by c image.Unseen is e t h = absurd (is (h.0, h.2))
  parted_by c image.Scattered is e t h =
      let s = scattered a b all.first all.second there all.there_are c t h is in (s.0, inl (s.1, s.2))
  parted_by c (image.Within d) is e t h = by (at_place back d (omega (arith, below, many))) where
    across : HasClass b t d
    across = moved a b all.first all.second there all.there_are c d is.1 t h

    below : d < b.count
    below = class_below b all.second t d across

    many : length back ≡ b.count
    many = all.back_many

    at : (x : Image) → Stands back d x → IsImage b.classes here d x → HasOtherMembers a b t
    at image.Unseen s none = absurd (none (across.0, across.2))
    at (image.Within y) s w = let no : true ≡ false = sym (ap is_within s) ∙ e in absurd cc
    at image.Scattered s w =
        let r = scattered b a all.second all.first here all.here_are d t across w in (r.0, inr (r.1, r.2))

    by : (x : Image) × Stands back d x → HasOtherMembers a b t
    by x = at x.0 x.1 (image_at b here back d x.0 all.back_are x.1)

  pub marks_are : AreMarks a b (map (is_kept back) ahead)
  marks_are = record {
    sound = all.first;
    many = length-map ahead (is_kept back) ∙ all.ahead_many;
    kept = λ t c h s. let u = unmapped (is_kept back) ahead c true s in kept_by c u.0 (image_at a there ahead c u.0 all.ahead_are u.1) u.2 t h;
    parted = λ t c h s. let u = unmapped (is_kept back) ahead c false s in parted_by c u.0 (image_at a there ahead c u.0 all.ahead_are u.1) u.2 t h;
  }

pub turned : (a b : Netlist) (there here : List (Option ℕ)) (ahead back : List Image) → Compared a b there here ahead back → Compared b a here there back ahead
turned a b there here ahead back all = record {
  first = all.second;
  second = all.first;
  there_are = all.here_are;
  here_are = all.there_are;
  ahead_are = all.back_are;
  back_are = all.ahead_are;
  ahead_many = all.back_many;
  back_many = all.ahead_many;
}

pub classes_low : (n : Netlist) → IsNetlist n → All (λ class. class < n.count) n.classes
classes_low n is = turn_below 0 n.count n.classes is.turns
