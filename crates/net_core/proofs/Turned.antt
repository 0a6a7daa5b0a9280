-- A ring that is turned, and its names.
use Rattle.std.proofs.Common.{◌≡◌, ℕ, zero, suc, ◌+◌, ◌-◌, ◌<◌, false, List, [], ◌∷◌, ◌++◌, length, take, drop, map, Option, Some, None, refl, sym, ap, subst, ◌∙◌, arith}
use Rattle.std.specs.Prelude.{slice_index_or}
use Rattle.std.specs.List.{All}
use Rattle.std.specs.Global.{Vec}
use Rattle.std.proofs.lemmas.List.{length-append, length-drop, map-append, take-append-drop}
use Rattle.std.proofs.lemmas.List.Elements.{All-map}
use Rattle.std.proofs.lemmas.Option.{slice_get_within, get_or_from_slice_get}
use Rattle.bit_order.specs.Order as order
use Rattle.vlsi_base.specs.declared.name.Name.{Name}
use Rattle.vlsi_base.specs.declared.name.Terminal.{Terminal}
use Rattle.vlsi_base.specs.Names.{comes_before, scalar}
use Rattle.net_core.specs.declared.frame.Node.{Node}
use Rattle.net_core.specs.declared.pins.ModelPins.{ModelPins}
use Rattle.net_core.specs.declared.links.Link.{Link}
use Rattle.net_core.specs.Places.{Stands, IsThere}
use Rattle.net_core.specs.Netlist.{Instance, Netlist, IsNetlist}
use Rattle.net_core.specs.Frame.{instance_of}
use Rattle.net_core.specs.Checks.{DependsOn, IsRing, NamesRing}
use Rattle.net_core.specs.Links.{IsLinkOf, AreLinks, AreGrouped, inputs_of, owner_name, name_at, IsLeastName, NamesLinks, IsCycle}
use Rattle.net_core.proofs.Standing.{Split, left, right, split, stands_left, stands_right}
use Rattle.net_core.proofs.Frames.{mapped, unmapped}
use Rattle.net_core.proofs.Rings.{terminal_ring}

turned : (table : List ModelPins) (n : Netlist) (ys zs : List Terminal) → IsRing table n (ys ++ zs) → IsRing table n (zs ++ ys)
turned table n ys zs r = record {
  some = let m = r.some in omega (arith, m, one, two);
  once = λ i j t p q. once i j t (split zs ys i t p) (split zs ys j t q);
  next = λ k a b p q. next k a b (split zs ys k a p) (split zs ys (k + 1) b q);
  close = λ a b p q. close a b (split zs ys (length (zs ++ ys) - 1) a p) (split zs ys 0 b q);
} where
  one : length (ys ++ zs) ≡ length ys + length zs
  one = length-append ys zs

  two : length (zs ++ ys) ≡ length zs + length ys
  two = length-append zs ys

  behind : (k : ℕ) (t : Terminal) (j : ℕ) → Stands zs k t → length ys + k ≡ j → Stands (ys ++ zs) j t
  behind k t j s e = subst (λ i. Stands (ys ++ zs) i t) e (stands_right ys zs k t s)

  front : (k : ℕ) (t : Terminal) (j : ℕ) → Stands ys k t → k ≡ j → Stands (ys ++ zs) j t
  front k t j s e = subst (λ i. Stands (ys ++ zs) i t) e (stands_left ys zs k t s)

  once : (i j : ℕ) (t : Terminal) → Split zs ys i t → Split zs ys j t → i ≡ j
  once i j t (left p) (left q) = let e = r.once (length ys + i) (length ys + j) t (behind i t (length ys + i) p refl) (behind j t (length ys + j) q refl) in omega (arith, e)
  once i j t (left p) (right l m q) = let e = r.once (length ys + i) l t (behind i t (length ys + i) p refl) (front l t l q refl) in let w = slice_get_within ys l t q in absurd (omega (arith, e, w))
  once i j t (right k m p) (left q) = let e = r.once k (length ys + j) t (front k t k p refl) (behind j t (length ys + j) q refl) in let w = slice_get_within ys k t p in absurd (omega (arith, e, w))
  once i j t (right k m p) (right l o q) = let e = r.once k l t (front k t k p refl) (front l t l q refl) in omega (arith, e, m, o)

  next : (k : ℕ) (a b : Terminal) → Split zs ys k a → Split zs ys (k + 1) b → DependsOn table n a b
  next k a b (left p) (left q) = r.next (length ys + k) a b (behind k a (length ys + k) p refl) (behind (k + 1) b (length ys + k + 1) q (omega arith))
  next k a b (left p) (right j m q) =
      let w = slice_get_within zs k a p in
      r.close a b (behind k a (length (ys ++ zs) - 1) p (omega (arith, w, m, one))) (front j b 0 q (omega (arith, w, m)))
  next k a b (right i m p) (left q) = let w = slice_get_within zs (k + 1) b q in absurd (omega (arith, w, m))
  next k a b (right i m p) (right j o q) = r.next i a b (front i a i p refl) (front j b (i + 1) q (omega (arith, m, o)))

  close : (a b : Terminal) → Split zs ys (length (zs ++ ys) - 1) a → Split zs ys 0 b → DependsOn table n a b
  close a b (left p) (left q) =
      let w = slice_get_within zs (length (zs ++ ys) - 1) a p in
      r.close a b (behind (length (zs ++ ys) - 1) a (length (ys ++ zs) - 1) p (omega (arith, w, one, two))) (behind 0 b 0 q (omega (arith, w, two)))
  close a b (left p) (right j m q) = let w = slice_get_within zs (length (zs ++ ys) - 1) a p in absurd (omega (arith, w, m))
  close a b (right i m p) (left q) =
      let w = slice_get_within ys i a p in
      r.next i a b (front i a i p refl) (behind 0 b (i + 1) q (omega (arith, w, m, two)))
  close a b (right i m p) (right j o q) =
      let w = slice_get_within ys i a p in
      r.close a b (front i a (length (ys ++ zs) - 1) p (omega (arith, w, m, o, one, two))) (front j b 0 q (omega (arith, o)))

map_drop : {X Y : Type 0} (f : X → Y) (m : ℕ) (xs : List X) → map f (drop m xs) ≡ drop m (map f xs)
map_drop f zero xs = refl
map_drop f (suc m) [] = refl
map_drop f (suc m) (x ∷ xs) = map_drop f m xs

map_take : {X Y : Type 0} (f : X → Y) (m : ℕ) (xs : List X) → map f (take m xs) ≡ take m (map f xs)
map_take f zero xs = refl
map_take f (suc m) [] = refl
map_take f (suc m) (x ∷ xs) = ap (λ ys. f x ∷ ys) (map_take f m xs)

turn_map : {X Y : Type 0} (f : X → Y) (m : ℕ) (xs : List X) → map f (drop m xs ++ take m xs) ≡ drop m (map f xs) ++ take m (map f xs)
turn_map f m xs = map-append f (drop m xs) (take m xs) ∙ ap (λ ys. ys ++ map f (take m xs)) (map_drop f m xs) ∙ ap (λ ys. drop m (map f xs) ++ ys) (map_take f m xs)

dropped : {X : Type 0} (m : ℕ) (xs : List X) (k : ℕ) (x : X) → Stands (drop m xs) k x → Stands xs (m + k) x
dropped {X} zero xs k x s = let n : k ≡ 0 + k = omega arith in subst (λ i. Stands xs i x) n s
dropped (suc m) [] k x s = absurd cc
dropped {X} (suc m) (y ∷ xs) k x s = let n : suc (m + k) ≡ suc m + k = omega arith in subst (λ i. Stands (y ∷ xs) i x) n (dropped m xs k x s)

taken : {X : Type 0} (m : ℕ) (xs : List X) (k : ℕ) (x : X) → Stands (take m xs) k x → Stands xs k x
taken zero xs k x s = absurd cc
taken (suc m) [] k x s = absurd cc
taken (suc m) (y ∷ xs) zero x s = s
taken (suc m) (y ∷ xs) (suc k) x s = taken m xs k x s

same_maps : {X Y Z : Type 0} (f : X → Z) (g : Y → Z) (xs : List X) (ys : List Y) → length ys ≡ length xs → ((k : ℕ) (x : X) (y : Y) → Stands xs k x → Stands ys k y → g y ≡ f x) → map g ys ≡ map f xs
same_maps f g [] [] e each = refl
same_maps f g [] (y ∷ ys) e each = absurd (omega (arith, e))
same_maps f g (x ∷ xs) [] e each = absurd (omega (arith, e))
same_maps f g (x ∷ xs) (y ∷ ys) e each = ap (λ z. z ∷ map g ys) (each 0 x y refl refl) ∙ ap (λ zs. f x ∷ zs) (same_maps f g xs ys (omega (arith, e)) (λ k a b s t. each (suc k) a b s t))

names_are : {X : Type 0} (f : X → Name) (xs : List X) → map (λ (x : X). Some (f x).text) xs ≡ map (λ name. Some name.text) (map f xs)
names_are f [] = refl
names_are f (x ∷ xs) = ap (λ ts. Some (f x).text ∷ ts) (names_are f xs)

owner_of : (table : List ModelPins) (n : Netlist) (models : List (List ℕ)) (nodes : List Node) → map (instance_of models) nodes ≡ n.instances → (l : Link) (t : Terminal) → IsLinkOf table n l t → t.instance ≡ Some (owner_name nodes l).text
owner_of table n models nodes seen l t is =
    let u = unmapped (instance_of models) nodes l.owner is.owner (subst (λ (xs : List Instance). Stands xs l.owner is.owner) (sym seen) is.stands) in
    let named : Stands (map (λ (i : Node). i.name) nodes) l.owner u.0.name = mapped (λ (i : Node). i.name) nodes l.owner u.0 u.1 in
    let e : slice_index_or (map (λ (i : Node). i.name) nodes) l.owner [] ≡ u.0.name = get_or_from_slice_get (map (λ (i : Node). i.name) nodes) l.owner u.0.name [] named in
    ap (λ (x : Terminal). x.instance) is.is ∙ ap Some (ap (λ (x : Instance). x.name) (sym u.2) ∙ sym e)

turn_least : (ns : List Name) (m : ℕ) → m < length ns → IsLeastName ns (name_at ns m) → (first other : Name) → Stands (drop m ns ++ take m ns) 0 first → IsThere (drop m ns ++ take m ns) other → comes_before other first ≡ false
turn_least ns m low least first other s t =
    let at = start (split (drop m ns) (take m ns) 0 first s) in
    let e : name_at ns m ≡ first = get_or_from_slice_get ns m first (scalar []) at in
    let there = inside t.0 (split (drop m ns) (take m ns) t.0 other t.1) in
    subst (λ (x : Name). comes_before other x ≡ false) e
    (subst (λ (x : Name). comes_before x (name_at ns m) ≡ false) (get_or_from_slice_get ns there.0 other other there.1) (least there.0 other (slice_get_within ns there.0 other there.1))) where
      start : Split (drop m ns) (take m ns) 0 first → Stands ns m first
      start (left p) = let n : m + 0 ≡ m = omega arith in subst (λ i. Stands ns i first) n (dropped m ns 0 first p)
      start (right j e p) = let n = length-drop m ns in absurd (omega (arith, e, n, low))

      inside : (k : ℕ) → Split (drop m ns) (take m ns) k other → IsThere ns other
      inside k (left p) = (m + k, dropped m ns k other p)
      inside k (right j e p) = (j, taken m ns j other p)

-- a ring of classes is one of output pins, with these names
pub ring_named : (table : List ModelPins) (n : Netlist) (models : List (List ℕ)) (nodes : List Node) (links : List Link) (groups : List (Vec Link)) (ring : List ℕ) (names : List Name)
    → IsNetlist n → map (instance_of models) nodes ≡ n.instances → AreLinks table n links → AreGrouped links groups → order.IsRing (inputs_of groups) ring → NamesLinks nodes groups ring names → Vec Link → IsCycle table n (Some names)
ring_named table n models nodes links groups ring names is seen are grouped r named v =
    let made = terminal_ring table n links groups ring named.chosen is are grouped r named.are v in
    let ts = made.0 in
    let m = named.turn in
    let ns = map (owner_name nodes) named.chosen in
    let whole : IsRing table n (take m ts ++ drop m ts) = subst (λ (xs : List Terminal). IsRing table n xs) (sym (take-append-drop m ts)) made.2 in
    let base : map (λ (t : Terminal). t.instance) ts ≡ map (λ (x : Name). Some x.text) ns =
    same_maps (λ (l : Link). Some (owner_name nodes l).text) (λ (t : Terminal). t.instance) named.chosen ts made.1.many (λ k l t p q. owner_of table n models nodes seen l t (made.1.each k l t p q)) ∙ names_are (owner_name nodes) named.chosen in
    let bits : All (λ (x : Name). x.bit ≡ None) (map (owner_name nodes) (drop m named.chosen ++ take m named.chosen)) = All-map (λ (x : Name). x.bit ≡ None) (owner_name nodes) (drop m named.chosen ++ take m named.chosen) (λ k d l. refl) in
    let is_ring : NamesRing (drop m ts ++ take m ts) (drop m ns ++ take m ns) = record {
      owners = turn_map (λ (t : Terminal). t.instance) m ts ∙ ap (λ (xs : List (Option (List ℕ))). drop m xs ++ take m xs) base ∙ sym (turn_map (λ (x : Name). Some x.text) m ns);
      scalars = subst (λ (xs : List Name). All (λ x. x.bit ≡ None) xs) (turn_map (owner_name nodes) m named.chosen) bits;
      least = turn_least ns m named.within named.least;
    } in
    (drop m ts ++ take m ts, turned table n (take m ts) (drop m ts) whole, subst (λ (xs : List Name). NamesRing (drop m ts ++ take m ts) xs) (sym named.named) is_ring)
