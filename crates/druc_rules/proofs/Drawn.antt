-- The whole list.
use Rattle.std.proofs.Common.{◌≡◌, List, [], ◌∷◌, ◌++◌, map, refl, ◌∙◌, ap, subst}
use Rattle.sym_geom.specs.declared.item.Item.{Item}
use Rattle.sym_shapes.specs.Shape.{Shape}
use Rattle.cell_model.specs.Library.{Library}
use Rattle.cell_model.specs.Layout.{shapes}
use Rattle.net_meaning.specs.Breaches.{Breach, width, gap}
use Rattle.druc_rules.specs.declared.breach.Rules.{Rules}
use Rattle.druc_rules.specs.declared.breach.Breach.{Breach as Found}
use Rattle.druc_rules.specs.declared.breach.Breach.TheVariants as breach
use Rattle.druc_rules.specs.Breaches.{breach_of, BreachesBy, AreWidths, AddsGaps}

map_both : {A B : Type 0} (f : A → B) (xs ys : List A) → map f (xs ++ ys) ≡ map f xs ++ map f ys
map_both f [] ys = refl
map_both f (x ∷ xs) ys = ap (λ zs. f x ∷ zs) (map_both f xs ys)

widths_meant : (ss : List Shape) → map breach_of (map (λ (s : Shape). breach.Width s.metal s.rect) ss) ≡ map (λ (s : Shape). width s.metal s.rect) ss
widths_meant [] = refl
widths_meant (s ∷ ss) = ap (λ (bs : List Breach). width s.metal s.rect ∷ bs) (widths_meant ss)

gaps_meant : (ps : List (Shape × Shape)) → map breach_of (map (λ (p : Shape × Shape). breach.Gap p.0.metal p.0.rect p.1.rect) ps) ≡ map (λ (p : Shape × Shape). gap p.0.metal p.0.rect p.1.rect) ps
gaps_meant [] = refl
gaps_meant (p ∷ ps) = ap (λ (bs : List Breach). gap p.0.metal p.0.rect p.1.rect ∷ bs) (gaps_meant ps)

pub breaches_by : (r : Rules) (items : List Item) (l : Library) (all : List Shape) (olds news : List Found) → all ≡ shapes items l → AreWidths r.width all olds → AddsGaps r.gap all olds news
    → BreachesBy r items l (map breach_of news)
breaches_by r items l all olds news all_is w g =
    let w2 : AreWidths r.width (shapes items l) olds = subst (λ (xs : List Shape). AreWidths r.width xs olds) all_is w in
    let g2 : AddsGaps r.gap (shapes items l) olds news = subst (λ (xs : List Shape). AddsGaps r.gap xs olds news) all_is g in
    record {
      narrow = w2.narrow;
      near = g2.near;
      widths = w2.picked;
      gaps = g2.picked;
      are =
          ap (λ (fs : List Found). map breach_of fs) (g2.are ∙ ap (λ (fs : List Found). fs ++ map (λ (p : Shape × Shape). breach.Gap p.0.metal p.0.rect p.1.rect) g2.near) w2.are)
          ∙ map_both breach_of (map (λ (s : Shape). breach.Width s.metal s.rect) w2.narrow) (map (λ (p : Shape × Shape). breach.Gap p.0.metal p.0.rect p.1.rect) g2.near)
          ∙ (λ i. widths_meant w2.narrow i ++ gaps_meant g2.near i);
    }
