-- Runs of any two systems that settle.
use Rattle.std.proofs.Common.{◌≡◌, Bool, List, [], ◌∷◌, map, refl, ◌∙◌, ap, subst}
use Rattle.std.specs.List.{AllByRecursion}
use Rattle.machine_core.specs.Runs.{Trace, Run}

-- one valuation, and a good state after it; any other shows the same, and leads to the same state
pub record StepsOnce {S I W : Type 0} (settles : S → I → W → Type 0) (outs : W → List Bool) (next : W → S) (good : S → Type 0) (s : S) (i : I) : Type 0 where
  pub w : W
  pub settled : settles s i w
  pub alone : (other : W) → settles s i other → outs other ≡ outs w
  pub follows : (other : W) → settles s i other → next other ≡ next w
  pub goes_on : good (next w)

-- exactly one run
pub run_once : {S I W : Type 0} (settles : S → I → W → Type 0) (outs : W → List Bool) (next : W → S) (good : S → Type 0) (fits : I → Type 0)
    → ((s : S) (i : I) → good s → fits i → StepsOnce settles outs next good s i)
    → (s : S) (v : List I) → good s → AllByRecursion fits v
    → (y : List (List Bool)) × Run settles outs next s v y × ((other : List (List Bool)) → Run settles outs next s v other → other ≡ y)
run_once {W = W} settles outs next good fits step s [] is_good all = ([], ([], refl, refl), λ other r. r.2 ∙ ap (map outs) r.1)
run_once {W = W} settles outs next good fits step s (i ∷ v) is_good all =
    let one = step s i is_good all.0 in
    let rest = run_once settles outs next good fits step (next one.w) v one.goes_on all.1 in (
      outs one.w ∷ rest.0,
      (one.w ∷ rest.1.0, (one.w, one.settled, (rest.1.0, refl, rest.1.1)), ap (λ (bs : List (List Bool)). outs one.w ∷ bs) rest.1.2),
      λ other r.
          let w = r.1.0 in
          let trace = subst (λ s'. Trace settles next s' v r.1.2.0) (one.follows w r.1.1) r.1.2.2 in
          let later = rest.2 (map outs r.1.2.0) (r.1.2.0, trace, refl) in
          r.2 ∙ ap (map outs) r.1.2.1 ∙ ap (λ (b : List Bool). b ∷ map outs r.1.2.0) (one.alone w r.1.1) ∙ ap (λ (bs : List (List Bool)). outs one.w ∷ bs) later,
    )

-- a step of the one is matched by a step of the other, whose outputs are read off what the first one shows
pub record Matches {S T I W U : Type 0} (shown : W → List Bool) (outs : List Bool → List Bool) (next : W → T) (settles' : S → I → U → Type 0) (outs' : U → List Bool) (next' : U → S) (related : S → T → Type 0) (s : S) (i : I) (w : W) : Type 0 where
  pub u : U
  pub settled : settles' s i u
  pub same : outs (shown w) ≡ outs' u
  pub goes_on : related (next' u) (next w)

pub run_matched : {S T I W U : Type 0} (settles : T → I → W → Type 0) (shown : W → List Bool) (outs : List Bool → List Bool) (next : W → T) (settles' : S → I → U → Type 0) (outs' : U → List Bool) (next' : U → S) (related : S → T → Type 0)
    → ((s : S) (t : T) (i : I) (w : W) → related s t → settles t i w → Matches shown outs next settles' outs' next' related s i w)
    → (s : S) (t : T) (v : List I) (bits : List (List Bool)) → related s t → Run settles shown next t v bits → Run settles' outs' next' s v (map outs bits)
run_matched settles shown outs next settles' outs' next' related step s t [] bits r run = ([], refl, ap (map outs) (run.2 ∙ ap (map shown) run.1))
run_matched settles shown outs next settles' outs' next' related step s t (i ∷ v) bits r run =
    let w = run.1.0 in
    let ws = run.1.2.0 in
    let one = step s t i w r run.1.1 in
    let rest = run_matched settles shown outs next settles' outs' next' related step (next' one.u) (next w) v (map shown ws) one.goes_on (ws, run.1.2.2, refl) in (
      one.u ∷ rest.0,
      (one.u, one.settled, (rest.0, refl, rest.1)),
      ap (map outs) (run.2 ∙ ap (map shown) run.1.2.1)
          ∙ ap (λ (b : List Bool). b ∷ map outs (map shown ws)) one.same
          ∙ ap (λ (bs : List (List Bool)). outs' one.u ∷ bs) rest.2,
    )
