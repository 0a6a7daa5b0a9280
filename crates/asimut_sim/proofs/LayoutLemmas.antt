-- Expressions on the way into a program.
use Rattle.std.proofs.Common.{◌≡◌, ℕ, ◌+◌, ◌<◌, ◌≤◌, Bool, List, [], ◌∷◌, ◌++◌, map, length, drop, length-drop, get_or, refl, sym, ◌∙◌, ap, subst, arith, Some, false, if◌then◌else◌}
use Rattle.std.specs.List.{All}
use Rattle.std.proofs.lemmas.List.{get_or-map, map_push, length_push, length-map}
use Rattle.std.proofs.lemmas.List.Elements.{All-nil, All-push, All-pop, All-weaker}
use Rattle.bool_expr.specs.Expression.{Expression, constant, variable, inverse, pair, choice, bit, val, gate_value, IsOver}
use Rattle.bool_expr.specs.View.{view}
use Rattle.bool_expr.specs.declared.expr.Gate.{Gate}
use Rattle.machine_core.specs.Machine.{Equation}
use Rattle.machine_core.specs.declared.equation.Equation.{Equation as EquationParts}
use Rattle.machine_core.specs.Built.{built}
use Rattle.machine_core.specs.Order.{EachReadsBelow}
use Rattle.machine_core.specs.View.{equation_view}
use Rattle.asimut_sim.specs.declared.operator.Operator.{Operator}
use Rattle.asimut_sim.specs.declared.operator.Step.{Step}
use Rattle.asimut_sim.specs.declared.operator.Step.TheVariants as step
use Rattle.asimut_sim.specs.declared.program.Program.{Program}
use Rattle.asimut_sim.specs.Operator.{chosen, HasConstants, step_value, steps_value, StepBelow}
use Rattle.asimut_sim.specs.Program.{extent, IsProgram, Obeys, GoesOn, bits_of, AreBelow, Computes, Descends, Ascends, ComputesEach}
use Rattle.asimut_sim.proofs.OperatorLemmas.{steps_value_push, step_weaker}
use Rattle.asimut_sim.proofs.ProgramLemmas.{obeys_last, goes_on_itself, goes_on_further, extent_grows}
use Rattle.asimut_sim.proofs.Rest.{rest-cons}

pub below_weaker : (n m : ℕ) (places : List ℕ) → n ≤ m → AreBelow n places → AreBelow m places
below_weaker n m places h all = All-weaker (λ k. k < n) (λ k. k < m) (λ k l. omega (arith, l, h)) places all

pub steps_weaker : (n m : ℕ) (steps : List Step) → n ≤ m → All (StepBelow n) steps → All (StepBelow m) steps
steps_weaker n m steps h all = All-weaker (StepBelow n) (StepBelow m) (λ s b. step_weaker n m s h b) steps all

-- one step up
pub ascends_one : (p q : Program) (o : Operator) (s : Step) (inner place : ℕ) → GoesOn p q → q.operators.items ≡ p.operators.items ++ o ∷ [] → place ≡ extent p
    → ((a : List Bool) → HasConstants a → chosen a o ≡ step_value a s (bit a inner)) → Ascends p q (s ∷ []) inner place
ascends_one p q o s inner place g e at gives = record {
  goes_on = g;
  within = let many : length q.operators.items ≡ length p.operators.items + 1 = ap length e ∙ length_push p.operators.items o in let start = g.start in omega (arith, many, start, at);
  value = λ a h. ap (bit a) at ∙ obeys_last p q o g.start e a h ∙ gives a h.constants;
}

-- on the way up, what is left of the steps gives the whole
pub record Climbs (first p : Program) (steps : List Step) (place : ℕ) (whole : List Step) (inner : ℕ) : Type 0 where
  pub goes_on : GoesOn first p
  pub within : place < extent p
  pub below : All (StepBelow (extent first)) steps
  pub value : (a : List Bool) → Obeys p a → steps_value a steps (bit a place) ≡ steps_value a whole (bit a inner)

pub climbs_begins : (p : Program) (steps : List Step) (inner : ℕ) → IsProgram p → All (StepBelow (extent p)) steps → inner < extent p → Climbs p p steps inner steps inner
climbs_begins p steps inner program below within = record { goes_on = goes_on_itself p program; within = within; below = below; value = λ a h. refl }

pub climbs_step : (first p : Program) (items steps : List Step) (s : Step) (place : ℕ) (whole : List Step) (inner : ℕ) → items ≡ steps ++ s ∷ []
    → Climbs first p items place whole inner → StepBelow (extent p) s
climbs_step first p items steps s place whole inner e c =
    let last = (All-pop (StepBelow (extent first)) items steps (Some s) e c.below).1 in
    step_weaker (extent first) (extent p) s (extent_grows first p c.goes_on) last

pub climbs_next : (first p q : Program) (items steps : List Step) (s : Step) (place next : ℕ) (whole : List Step) (inner : ℕ) → items ≡ steps ++ s ∷ []
    → Climbs first p items place whole inner → Ascends p q (s ∷ []) place next → Climbs first q steps next whole inner
climbs_next first p q items steps s place next whole inner e c up = record {
  goes_on = goes_on_further first p q c.goes_on up.goes_on;
  within = up.within;
  below = (All-pop (StepBelow (extent first)) items steps (Some s) e c.below).0;
  value = λ a h.
      ap (steps_value a steps) (up.value a h) ∙ sym (steps_value_push a steps s (bit a place))
      ∙ ap (λ (x : List Step). steps_value a x (bit a place)) (sym e) ∙ c.value a (up.goes_on.keeps a h);
}

pub climbs_ends : (first p : Program) (steps : List Step) (place : ℕ) (whole : List Step) (inner : ℕ) → steps ≡ [] → Climbs first p steps place whole inner
    → Ascends first p whole inner place
climbs_ends first p steps place whole inner none c = record {
  goes_on = c.goes_on;
  within = c.within;
  value = λ a h. sym (ap (λ (x : List Step). steps_value a x (bit a place)) none) ∙ c.value a h;
}

pub computes_from : (p q r : Program) (vars : List ℕ) (e : Expression) (steps : List Step) (inner place : ℕ) → Descends p q vars e steps inner → Ascends q r steps inner place
    → Computes p r vars e place
computes_from p q r vars e steps inner place down up = record {
  goes_on = goes_on_further p q r down.goes_on up.goes_on;
  within = up.within;
  value = λ a h. up.value a h ∙ down.value a (up.goes_on.keeps a h);
}

-- on the way down, the steps over what is left give the whole
pub record Down (first p : Program) (vars : List ℕ) (e : Expression) (steps : List Step) (rest : Expression) : Type 0 where
  pub goes_on : GoesOn first p
  pub below : All (StepBelow (extent p)) steps
  pub over : IsOver rest (length vars)
  pub value : (a : List Bool) → Obeys p a → steps_value a steps (val rest (bits_of a vars)) ≡ val e (bits_of a vars)

pub down_begins : (p : Program) (vars : List ℕ) (e : Expression) (steps : List Step) → steps ≡ [] → IsProgram p → IsOver e (length vars) → Down p p vars e steps e
down_begins p vars e steps none program over =
    let P : List Step → Type 0 = λ x. Down p p vars e x e in
    subst P (sym none) (record { goes_on = goes_on_itself p program; below = All-nil (StepBelow (extent p)); over = over; value = λ a h. refl })

pub down_constant : (first p : Program) (vars : List ℕ) (e rest : Expression) (steps : List Step) (b : Bool) (place : ℕ) → rest ≡ constant b → place < 2
    → ((a : List Bool) → HasConstants a → bit a place ≡ b) → Down first p vars e steps rest → Descends first p vars e steps place
down_constant first p vars e rest steps b place is within gives d = record {
  goes_on = d.goes_on;
  within = let two = d.goes_on.program.constants in omega (arith, two, within);
  below = d.below;
  value = λ a h.
      ap (steps_value a steps) (gives a h.constants ∙ ap (λ (x : Expression). val x (bits_of a vars)) (sym is)) ∙ d.value a h;
}

pub down_variable : (first p : Program) (vars : List ℕ) (e rest : Expression) (steps : List Step) (k place : ℕ) → rest ≡ variable k → place ≡ get_or vars k 0
    → AreBelow (extent first) vars → Down first p vars e steps rest → Descends first p vars e steps place
down_variable first p vars e rest steps k place is at below d =
    let P : Expression → Type 0 = λ x. IsOver x (length vars) in
    let over : k < length vars = subst P is d.over in
    let grows = extent_grows first p d.goes_on in
    let low = below k 0 over in
    record {
      goes_on = d.goes_on;
      within = omega (arith, low, grows, at);
      below = d.below;
      value = λ a h.
          ap (steps_value a steps)
          (ap (bit a) at ∙ sym (get_or-map (bit a) vars k 0 false over) ∙ ap (λ (x : Expression). val x (bits_of a vars)) (sym is)) ∙ d.value a h;
    }

-- a step down where one more step takes what is left to what was left
down_more : (first p q : Program) (vars : List ℕ) (e rest next : Expression) (steps items : List Step) (s : Step) → items ≡ steps ++ s ∷ [] → GoesOn p q
    → StepBelow (extent q) s → IsOver next (length vars)
    → ((a : List Bool) → Obeys q a → step_value a s (val next (bits_of a vars)) ≡ val rest (bits_of a vars))
    → Down first p vars e steps rest → Down first q vars e items next
down_more first p q vars e rest next steps items s pushed g low over gives d = record {
  goes_on = goes_on_further first p q d.goes_on g;
  below =
      let P : List Step → Type 0 = λ x. All (StepBelow (extent q)) x in
      subst P (sym pushed) (All-push (StepBelow (extent q)) steps s (steps_weaker (extent p) (extent q) steps (extent_grows p q g) d.below) low);
  over = over;
  value = λ a h.
      ap (λ (x : List Step). steps_value a x (val next (bits_of a vars))) pushed ∙ steps_value_push a steps s (val next (bits_of a vars))
      ∙ ap (steps_value a steps) (gives a h) ∙ d.value a (g.keeps a h);
}

over_at : (vars : List ℕ) (rest whole : Expression) → rest ≡ whole → IsOver rest (length vars) → IsOver whole (length vars)
over_at vars rest whole is h = let P : Expression → Type 0 = λ x. IsOver x (length vars) in subst P is h

pub down_inverse : (first p : Program) (vars : List ℕ) (e rest next : Expression) (steps items : List Step) → items ≡ steps ++ step.Not ∷ [] → rest ≡ inverse next
    → Down first p vars e steps rest → Down first p vars e items next
down_inverse first p vars e rest next steps items pushed is d =
    down_more first p p vars e rest next steps items step.Not pushed (goes_on_itself p d.goes_on.program) tt (over_at vars rest (inverse next) is d.over)
    (λ a h. ap (λ (x : Expression). val x (bits_of a vars)) (sym is)) d

pub down_pair : (first p q : Program) (vars : List ℕ) (e rest left right : Expression) (steps items : List Step) (g : Gate) (place : ℕ)
    → items ≡ steps ++ step.Pair g place ∷ [] → rest ≡ pair g left right → Computes p q vars right place
    → Down first p vars e steps rest → Down first q vars e items left
down_pair first p q vars e rest left right steps items g place pushed is c d =
    down_more first p q vars e rest left steps items (step.Pair g place) pushed c.goes_on c.within (over_at vars rest (pair g left right) is d.over).0
    (λ a h. ap (gate_value g (val left (bits_of a vars))) (c.value a h) ∙ ap (λ (x : Expression). val x (bits_of a vars)) (sym is)) d

pub down_choice : (first p q r : Program) (vars : List ℕ) (e rest condition one other : Expression) (steps items : List Step) (place at : ℕ)
    → items ≡ steps ++ step.Choice place at ∷ [] → rest ≡ choice condition one other → Computes p q vars condition place → Computes q r vars one at
    → Down first p vars e steps rest → Down first r vars e items other
down_choice first p q r vars e rest condition one other steps items place at pushed is c f d =
    let grows = extent_grows q r f.goes_on in
    let low = c.within in
    down_more first p r vars e rest other steps items (step.Choice place at) pushed (goes_on_further p q r c.goes_on f.goes_on) (omega (arith, low, grows), f.within)
    (over_at vars rest (choice condition one other) is d.over).1.1
    (λ a h.
    ap (λ (x : Bool). if x then bit a at else val other (bits_of a vars)) (c.value a (f.goes_on.keeps a h))
    ∙ ap (λ (x : Bool). if val condition (bits_of a vars) then x else val other (bits_of a vars)) (f.value a h)
    ∙ ap (λ (x : Expression). val x (bits_of a vars)) (sym is)) d

-- of equations: those that are left give the whole
pub record Lays (first p : Program) (start vars : List ℕ) (equations : List EquationParts) (i : ℕ) : Type 0 where
  pub goes_on : GoesOn first p
  pub within : AreBelow (extent p) vars
  pub many : length vars + length (drop i equations) ≡ length start + length equations
  pub reads : EachReadsBelow (length vars) (map equation_view (drop i equations))
  pub values : (a : List Bool) → Obeys p a → built (bits_of a vars) (map equation_view (drop i equations)) ≡ built (bits_of a start) (map equation_view equations)

pub lays_begins : (p : Program) (vars : List ℕ) (equations : List EquationParts) → IsProgram p → AreBelow (extent p) vars
    → EachReadsBelow (length vars) (map equation_view equations) → Lays p p vars vars equations 0
lays_begins p vars equations program within reads = record { goes_on = goes_on_itself p program; within = within; many = refl; reads = reads; values = λ a h. refl }

pub lays_over : (first p : Program) (start vars : List ℕ) (equations : List EquationParts) (i : ℕ) (e : EquationParts) → i < length equations → e ≡ get_or equations i e
    → Lays first p start vars equations i → IsOver (view e.expr) (length vars)
lays_over first p start vars equations i e h is l =
    let P : List Equation → Type 0 = λ x. EachReadsBelow (length vars) x in (subst P (rest-cons equations i e h is) l.reads).0

pub lays_next : (first p q : Program) (start vars items : List ℕ) (equations : List EquationParts) (i : ℕ) (e : EquationParts) (place : ℕ) → i < length equations
    → e ≡ get_or equations i e → items ≡ vars ++ place ∷ [] → Computes p q vars (view e.expr) place → Lays first p start vars equations i
    → Lays first q start items equations (i + 1)
lays_next first p q start vars items equations i e place h is pushed c l =
    let rest = map equation_view (drop (i + 1) equations) in
    let P : List Equation → Type 0 = λ x. EachReadsBelow (length vars) x in
    let many : length items ≡ length vars + 1 = ap length pushed ∙ length_push vars place in
    let before = l.many in
    let left = length-drop i equations in
    let fewer = length-drop (i + 1) equations in
    let Q : ℕ → Type 0 = λ n. EachReadsBelow n rest in
    let R : List ℕ → Type 0 = λ x. AreBelow (extent q) x in
    record {
      goes_on = goes_on_further first p q l.goes_on c.goes_on;
      within = subst R (sym pushed) (All-push (λ k. k < extent q) vars place (below_weaker (extent p) (extent q) vars (extent_grows p q c.goes_on) l.within) c.within);
      many = omega (arith, many, before, left, fewer, h);
      reads = subst Q (sym many) (subst P (rest-cons equations i e h is) l.reads).1;
      values = λ a o.
          ap (λ (x : List ℕ). built (bits_of a x) rest) pushed
          ∙ ap (λ (x : List Bool). built x rest) (map_push (bit a) vars place)
          ∙ ap (λ (x : Bool). built (bits_of a vars ++ x ∷ []) rest) (c.value a o)
          ∙ ap (built (bits_of a vars)) (sym (rest-cons equations i e h is))
          ∙ l.values a (c.goes_on.keeps a o);
    }

pub lays_ends : (first p : Program) (start vars : List ℕ) (equations : List EquationParts) (i : ℕ) → drop i equations ≡ [] → Lays first p start vars equations i
    → ComputesEach first p start vars (map equation_view equations)
lays_ends first p start vars equations i none l = record {
  goes_on = l.goes_on;
  within = l.within;
  many =
      let before = l.many in
      let left : length (drop i equations) ≡ 0 = ap length none in
      let all = length-map equations equation_view in
      omega (arith, before, left, all);
  values = λ a h. sym (ap (λ (x : List EquationParts). built (bits_of a vars) (map equation_view x)) none) ∙ l.values a h;
}
