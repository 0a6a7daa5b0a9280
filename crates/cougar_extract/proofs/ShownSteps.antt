-- Steps of the loops over numbers, shapes and places, and what is known of the classes of ports.
use Rattle.std.proofs.Common.{◌≡◌, ℕ, ◌+◌, ◌<◌, ◌≤◌, List, [], ◌∷◌, ◌++◌, map, length, take, get_or, Option, Some, sym, ap, subst, ◌∙◌, arith}
use Rattle.std.specs.Prelude.{ℤ, slice_get, option_map}
use Rattle.std.specs.List.{All}
use Rattle.std.proofs.lemmas.List.{map_more, map_push, take_all}
use Rattle.std.proofs.lemmas.List.Elements.{All-take, All-from_get_or, All-more, All-weaker}
use Rattle.std.proofs.lemmas.Option.{slice_get-get_or}
use Rattle.sym_geom.specs.Rect.{transformed}
use Rattle.sym_geom.specs.declared.rect.Rect.{Rect}
use Rattle.sym_geom.specs.declared.rect.Transform.{Transform}
use Rattle.sym_shapes.specs.Shape.{Shape}
use Rattle.sym_shapes.specs.Chain.{IsChain}
use Rattle.net_core.specs.Netlist.{Netlist, IsNetlist}
use Rattle.net_core.proofs.Namings.{turn_below}
use Rattle.cougar_extract.specs.declared.error.Step.{Step}
use Rattle.cougar_extract.specs.declared.links.Link.{Link}
use Rattle.cougar_extract.specs.Refused.{step_of}
use Rattle.cougar_extract.specs.Stages.{AreBelow}

-- ---- numbers of connectors

-- a bound of the numbers of the first ones, and of one more
pub bound_next : (links : List Link) (k : ℕ) (x : Link) (before after : ℕ) → k < length links → AreBelow (take k links) before → before ≤ after → x ≡ get_or links k x
    → x.number < after → AreBelow (take (k + 1) links) after
bound_next links k x before after low so_far more at own =
    All-more (λ (y : Link). y.number < after) links k x low
    (All-weaker (λ (y : Link). y.number < before) (λ (y : Link). y.number < after) (λ y h. omega (arith, h, more)) (take k links) so_far)
    (subst (λ (y : Link). y.number < after) at own)

pub bound_whole : (links : List Link) (k bound : ℕ) → length links ≤ k → AreBelow (take k links) bound → AreBelow links bound
bound_whole links k bound most h = subst (λ (xs : List Link). AreBelow xs bound) (take_all k links most) h

-- ---- shapes of instances

-- where one lies, by numbers that are those of the cell and the instance
pub transformed_same : (t : Transform) (made r own : Rect) (w width h height x at_x y at_y : ℤ) → made ≡ transformed t r w h x y → r ≡ own → w ≡ width → h ≡ height → x ≡ at_x → y ≡ at_y
    → made ≡ transformed t own width height at_x at_y
transformed_same t made r own w width h height x at_x y at_y is p q u v z = is ∙ (λ k. transformed t (p k) (q k) (u k) (v k) (z k))

-- ---- what a chain tells

pub told_next : (shapes : List Shape) (places : List ℕ) (k : ℕ) (d : Shape) (before after : List Step) (s : Step)
    → k < length places → get_or places k 0 < length shapes
    → map Some before ≡ map (λ (j : ℕ). option_map step_of (slice_get shapes j)) (take k places) → after ≡ before ++ s ∷ [] → s ≡ step_of (get_or shapes (get_or places k 0) d)
    → map Some after ≡ map (λ (j : ℕ). option_map step_of (slice_get shapes j)) (take (k + 1) places)
told_next shapes places k d before after s low inside so_far made same =
    let f : ℕ → Option Step = λ j. option_map step_of (slice_get shapes j) in
    let here_it : Some s ≡ f (get_or places k 0) =
    ap Some same ∙ sym (ap (λ (o : Option Shape). option_map step_of o) (slice_get-get_or shapes (get_or places k 0) d inside)) in
    ap (λ (xs : List Step). map Some xs) made
    ∙ map_push Some before s
    ∙ ap (λ (o : Option Step). map Some before ++ o ∷ []) here_it
    ∙ ap (λ (xs : List (Option Step)). xs ++ f (get_or places k 0) ∷ []) so_far
    ∙ sym (map_more f places k 0 low)

-- each place of a chain is one of a shape
pub places_low : (all : List Shape) (places own : List ℕ) (from to : ℕ) → IsChain all own from to → places ≡ own → All (λ (k : ℕ). k < length all) places
places_low all places own from to chain same =
    subst (λ (ks : List ℕ). All (λ (k : ℕ). k < length all) ks) (sym same) (All-from_get_or (λ (k : ℕ). k < length all) own 0 chain.within)

-- ---- classes of ports

pub classes_low : (n : Netlist) (k : ℕ) → IsNetlist n → All (λ c. c < n.count) (take k n.classes)
classes_low n k is = All-take (λ (c : ℕ). c < n.count) k n.classes (turn_below 0 n.count n.classes is.turns)
