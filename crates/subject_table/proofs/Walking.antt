-- Down a chain of operators, and up again.
use Rattle.std.proofs.Common.{◌≡◌, ℕ, ◌+◌, ◌<◌, ◌≤◌, Bool, List, [], ◌∷◌, ◌++◌, map, length, refl, sym, ◌∙◌, ap, subst, arith, append_assoc, append-nil, length-append, count_by, if◌then◌else◌}
use Rattle.bool_expr.specs.declared.expr.Gate.{Gate}
use Rattle.bool_expr.specs.Expression.{Expression, inverse, pair, choice, val, gate_value, size_of, IsOver}
use Rattle.graph_theory.specs.Graph.{Node, is_logic}
use Rattle.subject_table.specs.declared.steps.Step.{Step}
use Rattle.subject_table.specs.declared.steps.Step.TheVariants as step
use Rattle.subject_table.specs.declared.table.Table.{Table}
use Rattle.subject_table.specs.View.{kinds, end_of}
use Rattle.subject_table.specs.Grows.{IsSound, HasRoom, AreBelow, value, Adds}
use Rattle.subject_table.specs.Steps.{step_value, step_size, steps_value, steps_size, IsStepBelow, AreStepsBelow, Walks}
use Rattle.subject_table.proofs.Tables.{follow, stays, end_grows}
use Rattle.subject_table.proofs.Operators.{still, still_value, below_grows, same_numbers}

-- one operator more inside the others
steps_push : (ss : List Step) (s : Step) (v : ℕ → Bool) (x : Bool) → steps_value (ss ++ s ∷ []) v x ≡ steps_value ss v (step_value s v x)
steps_push [] s v x = refl
steps_push (z ∷ ss) s v x = ap (step_value z v) (steps_push ss s v x)

size_push : (ss : List Step) (s : Step) → steps_size (ss ++ s ∷ []) ≡ steps_size ss + step_size s
size_push [] s = omega arith
size_push (z ∷ ss) s = let h = size_push ss s in omega (arith, h)

below_push : (n : ℕ) (ss : List Step) (s : Step) → AreStepsBelow n ss → IsStepBelow n s → AreStepsBelow n (ss ++ s ∷ [])
below_push n [] s all one = (one, tt)
below_push n (z ∷ ss) s all one = (all.0, below_push n ss s all.1 one)

pub below_last : (n : ℕ) (ss : List Step) (s : Step) → AreStepsBelow n (ss ++ s ∷ []) → AreStepsBelow n ss × IsStepBelow n s
below_last n [] s all = (tt, all.0)
below_last n (z ∷ ss) s all = let rest = below_last n ss s all.1 in ((all.0, rest.0), rest.1)

pub step_more : (n m : ℕ) (s : Step) → n ≤ m → IsStepBelow n s → IsStepBelow m s
step_more n m step.Not up low = tt
step_more n m (step.Pair g b) up low = omega (arith, up, low)
step_more n m (step.Choice c a) up low = let x = low.0 in let y = low.1 in (omega (arith, up, x), omega (arith, up, y))

steps_more : (n m : ℕ) (ss : List Step) → n ≤ m → AreStepsBelow n ss → AreStepsBelow m ss
steps_more n m [] up low = tt
steps_more n m (s ∷ ss) up low = (step_more n m s up low.0, steps_more n m ss up low.1)

-- the operands that are there keep their values
step_still : (n : ℕ) (s : Step) (v u : ℕ → Bool) (x : Bool) → IsStepBelow n s → ((a : ℕ) → a < n → v a ≡ u a) → step_value s v x ≡ step_value s u x
step_still n step.Not v u x low same = refl
step_still n (step.Pair g b) v u x low same = ap (gate_value g x) (same b low)
step_still n (step.Choice c a) v u x low same =
    ap (λ (k : Bool). if k then v a else x) (same c low.0) ∙ ap (λ (k : Bool). if u c then k else x) (same a low.1)

steps_still : (n : ℕ) (ss : List Step) (v u : ℕ → Bool) (x : Bool) → AreStepsBelow n ss → ((a : ℕ) → a < n → v a ≡ u a) → steps_value ss v x ≡ steps_value ss u x
steps_still n [] v u x low same = refl
steps_still n (s ∷ ss) v u x low same =
    ap (step_value s v) (steps_still n ss v u x low.1 same) ∙ step_still n s v u (steps_value ss u x) low.0 same

-- the operators over what is left of an expression have the value of the whole
pub record Walking (t u : Table) (numbers : List ℕ) (whole : Expression) (steps : List Step) (rest : Expression) : Type 0 where
  pub held : u.held ≡ t.held
  pub more : List Node
  pub nodes : kinds u ≡ kinds t ++ more
  pub sound : IsSound u
  pub cost : count_by is_logic (kinds u) + steps_size steps + size_of rest ≤ count_by is_logic (kinds t) + size_of whole
  pub over : IsOver rest (length numbers)
  pub below : AreBelow (end_of u) numbers
  pub known : AreStepsBelow (end_of u) steps
  pub same : (w : List Bool) → length w ≡ t.held → steps_value steps (value u w) (val rest (map (value u w) numbers)) ≡ val whole (map (value t w) numbers)

pub sets_out : (t : Table) (numbers : List ℕ) (e : Expression) → IsSound t → IsOver e (length numbers) → AreBelow (end_of t) numbers → Walking t t numbers e [] e
sets_out t numbers e sound over below = record {
  held = refl;
  more = [];
  nodes = sym (append-nil (kinds t));
  sound = sound;
  cost = omega arith;
  over = over;
  below = below;
  known = tt;
  same = λ w size. refl;
}

-- the table grows while the walk stands still
module _ (t u v : Table) (numbers : List ℕ) (whole : Expression) (steps : List Step) (rest : Expression) (n r : ℕ) (f : (ℕ → Bool) → Bool) (k : Walking t u numbers whole steps rest) (a : Adds u v n f r) where
  grows : end_of u ≤ end_of v
  grows =
      let held = a.held in
      let nodes = ap (λ (xs : List Node). length xs) a.nodes in
      let all = length-append (kinds u) a.more in
      omega (arith, held, nodes, all)

  held : v.held ≡ t.held
  held = a.held ∙ k.held

  nodes : kinds v ≡ kinds t ++ (k.more ++ a.more)
  nodes = a.nodes ∙ ap (λ (xs : List Node). xs ++ a.more) k.nodes ∙ append_assoc (kinds t) k.more a.more

  stand : (w : List Bool) → length w ≡ t.held → (x : Bool) → steps_value steps (value v w) x ≡ steps_value steps (value u w) x
  stand w size x = steps_still (end_of u) steps (value v w) (value u w) x k.known (λ b low. still u v n r b f w a (size ∙ sym k.held) low)

  stand_numbers : (w : List Bool) → length w ≡ t.held → map (value v w) numbers ≡ map (value u w) numbers
  stand_numbers w size = same_numbers (value v w) (value u w) numbers (λ b is. still u v n r b f w a (size ∙ sym k.held) (k.below b is))

pub arrives : (t u v : Table) (numbers : List ℕ) (whole : Expression) (steps : List Step) (rest : Expression) (a : ℕ) → Walking t u numbers whole steps rest
    → Adds u v (size_of rest) (λ y. val rest (map y numbers)) a → Walks t v numbers whole steps a
arrives t u v numbers whole steps rest a k added =
    let f : (ℕ → Bool) → Bool = λ y. val rest (map y numbers) in
    record {
      held = held t u v numbers whole steps rest (size_of rest) a f k added;
      more = k.more ++ added.more;
      nodes = nodes t u v numbers whole steps rest (size_of rest) a f k added;
      sound = added.sound;
      cost = let x = k.cost in let y = added.cost in omega (arith, x, y);
      within = added.within;
      known = steps_more (end_of u) (end_of v) steps (grows t u v numbers whole steps rest (size_of rest) a f k added) k.known;
      same = λ w size.
          ap (steps_value steps (value v w)) (added.gives w (size ∙ sym k.held))
          ∙ stand t u v numbers whole steps rest (size_of rest) a f k added w size (val rest (map (value u w) numbers)) ∙ k.same w size;
    }

pub not_in : (t u : Table) (numbers : List ℕ) (whole e : Expression) (steps : List Step) → Walking t u numbers whole steps (inverse e)
    → Walking t u numbers whole (steps ++ step.Not ∷ []) e
not_in t u numbers whole e steps k = record {
  held = k.held;
  more = k.more;
  nodes = k.nodes;
  sound = k.sound;
  cost = let x = k.cost in let y = size_push steps step.Not in omega (arith, x, y);
  over = k.over;
  below = k.below;
  known = below_push (end_of u) steps step.Not k.known tt;
  same = λ w size. steps_push steps step.Not (value u w) (val e (map (value u w) numbers)) ∙ k.same w size;
}

pub pair_in : (t u v : Table) (numbers : List ℕ) (whole l r : Expression) (g : Gate) (steps : List Step) (b : ℕ) → Walking t u numbers whole steps (pair g l r)
    → Adds u v (size_of r) (λ y. val r (map y numbers)) b → Walking t v numbers whole (steps ++ step.Pair g b ∷ []) l
pair_in t u v numbers whole l r g steps b k added =
    let f : (ℕ → Bool) → Bool = λ y. val r (map y numbers) in
    let e = pair g l r in
    record {
      held = held t u v numbers whole steps e (size_of r) b f k added;
      more = k.more ++ added.more;
      nodes = nodes t u v numbers whole steps e (size_of r) b f k added;
      sound = added.sound;
      cost = let x = k.cost in let y = added.cost in let z = size_push steps (step.Pair g b) in omega (arith, x, y, z);
      over = k.over.0;
      below = below_grows u v (size_of r) b f numbers added k.below;
      known =
          below_push (end_of v) steps (step.Pair g b) (steps_more (end_of u) (end_of v) steps (grows t u v numbers whole steps e (size_of r) b f k added) k.known) added.within;
      same = λ w size.
          let xs = map (value u w) numbers in
          steps_push steps (step.Pair g b) (value v w) (val l (map (value v w) numbers))
          ∙ ap (λ (ys : List Bool). steps_value steps (value v w) (gate_value g (val l ys) (value v w b))) (stand_numbers t u v numbers whole steps e (size_of r) b f k added w size)
          ∙ ap (λ (z : Bool). steps_value steps (value v w) (gate_value g (val l xs) z)) (added.gives w (size ∙ sym k.held))
          ∙ stand t u v numbers whole steps e (size_of r) b f k added w size (gate_value g (val l xs) (val r xs)) ∙ k.same w size;
    }

pub choice_in : (t u v x : Table) (numbers : List ℕ) (whole q d l : Expression) (steps : List Step) (c a : ℕ) → Walking t u numbers whole steps (choice q d l)
    → Adds u v (size_of q) (λ y. val q (map y numbers)) c → Adds v x (size_of d) (λ y. val d (map y numbers)) a → Walking t x numbers whole (steps ++ step.Choice c a ∷ []) l
choice_in t u v x numbers whole q d l steps c a k first second =
    let e = choice q d l in
    let both : Adds u x (size_of q + size_of d) (λ y. val d (map y numbers)) a =
    follow u v x (size_of q) (size_of d) (size_of q + size_of d) (λ y. val q (map y numbers)) (λ y. val d (map y numbers)) (λ y. val d (map y numbers)) c a first second (omega arith)
    (λ w size gives same. still_value u v (size_of q) c (λ y. val q (map y numbers)) d numbers w first size k.below) in
    let n = size_of q + size_of d in
    let f : (ℕ → Bool) → Bool = λ y. val d (map y numbers) in
    let low_c = end_grows v x (size_of d) c a f second first.within in
    record {
      held = held t u x numbers whole steps e n a f k both;
      more = k.more ++ both.more;
      nodes = nodes t u x numbers whole steps e n a f k both;
      sound = both.sound;
      cost = let i = k.cost in let j = both.cost in let z = size_push steps (step.Choice c a) in omega (arith, i, j, z);
      over = k.over.1.1;
      below = below_grows u x n a f numbers both k.below;
      known =
          below_push (end_of x) steps (step.Choice c a) (steps_more (end_of u) (end_of x) steps (grows t u x numbers whole steps e n a f k both) k.known) (low_c, both.within);
      same = λ w size.
          let size_u : length w ≡ u.held = size ∙ sym k.held in
          let xs = map (value u w) numbers in
          let is_c : value x w c ≡ val q xs = still v x (size_of d) a c f w second (size_u ∙ sym first.held) first.within ∙ first.gives w size_u in
          steps_push steps (step.Choice c a) (value x w) (val l (map (value x w) numbers))
          ∙ ap (λ (ys : List Bool). steps_value steps (value x w) (if value x w c then value x w a else val l ys)) (stand_numbers t u x numbers whole steps e n a f k both w size)
          ∙ ap (λ (z : Bool). steps_value steps (value x w) (if z then value x w a else val l xs)) is_c
          ∙ ap (λ (z : Bool). steps_value steps (value x w) (if val q xs then z else val l xs)) (both.gives w size_u)
          ∙ stand t u x numbers whole steps e n a f k both w size (if val q xs then val d xs else val l xs) ∙ k.same w size;
    }

-- there is room for what is left
pub room_left : (t u : Table) (numbers : List ℕ) (whole : Expression) (steps : List Step) (rest : Expression) → HasRoom t (size_of whole) → Walking t u numbers whole steps rest → HasRoom u (size_of rest)
room_left t u numbers whole steps rest room k = let held = k.held in let cost = k.cost in omega (arith, room, held, cost)

pub room_up : (t u : Table) (numbers : List ℕ) (e : Expression) (steps : List Step) (last : ℕ) → HasRoom t (size_of e) → Walks t u numbers e steps last → HasRoom u (steps_size steps)
room_up t u numbers e steps last room k = let held = k.held in let cost = k.cost in omega (arith, room, held, cost)

-- the whole way
pub climbed : (t u v : Table) (numbers : List ℕ) (e : Expression) (steps : List Step) (last r : ℕ) → Walks t u numbers e steps last
    → Adds u v (steps_size steps) (λ y. steps_value steps y (y last)) r → Adds t v (size_of e) (λ y. val e (map y numbers)) r
climbed t u v numbers e steps last r k a = record {
  held = a.held ∙ k.held;
  more = k.more ++ a.more;
  nodes = a.nodes ∙ ap (λ (xs : List Node). xs ++ a.more) k.nodes ∙ append_assoc (kinds t) k.more a.more;
  sound = a.sound;
  cost = let x = k.cost in let y = a.cost in omega (arith, x, y);
  within = a.within;
  gives = λ w size. a.gives w (size ∙ sym k.held) ∙ k.same w size;
}

-- up the way: what was taken off has this number
pub record Climbs (t u : Table) (steps : List Step) (last : ℕ) (left : List Step) (number : ℕ) : Type 0 where
  pub taken : List Step
  pub parts : steps ≡ left ++ taken
  pub added : Adds t u (steps_size taken) (λ v. steps_value taken v (v last)) number

pub starts_up : (t : Table) (steps : List Step) (last : ℕ) → IsSound t → last < end_of t → Climbs t t steps last steps last
starts_up t steps last sound within = record { taken = []; parts = sym (append-nil steps); added = stays t 0 (λ v. v last) last sound within (λ w size. refl) }

left_below : (n : ℕ) (left taken : List Step) → AreStepsBelow n (left ++ taken) → AreStepsBelow n left
left_below n [] taken all = tt
left_below n (s ∷ left) taken all = (all.0, left_below n left taken all.1)

size-append : (left taken : List Step) → steps_size (left ++ taken) ≡ steps_size left + steps_size taken
size-append [] taken = omega arith
size-append (s ∷ left) taken = let h = size-append left taken in omega (arith, h)

-- what the next operator needs
pub next_below : (t u : Table) (steps : List Step) (last : ℕ) (left rest : List Step) (s : Step) (number : ℕ) → AreStepsBelow (end_of t) steps → left ≡ rest ++ s ∷ []
    → Climbs t u steps last left number → IsStepBelow (end_of u) s
next_below t u steps last left rest s number all popped k =
    let parts : steps ≡ (rest ++ s ∷ []) ++ k.taken = k.parts ∙ ap (λ (xs : List Step). xs ++ k.taken) popped in
    let low = (below_last (end_of t) rest s (left_below (end_of t) (rest ++ s ∷ []) k.taken (subst (AreStepsBelow (end_of t)) parts all))).1 in
    let held = k.added.held in
    let nodes = ap (λ (xs : List Node). length xs) k.added.nodes in
    let long = length-append (kinds t) k.added.more in
    step_more (end_of t) (end_of u) s (omega (arith, held, nodes, long)) low

pub next_room : (t u : Table) (steps : List Step) (last : ℕ) (left rest : List Step) (s : Step) (number : ℕ) → HasRoom t (steps_size steps) → left ≡ rest ++ s ∷ []
    → Climbs t u steps last left number → HasRoom u (step_size s)
next_room t u steps last left rest s number room popped k =
    let parts = ap steps_size (k.parts ∙ ap (λ (xs : List Step). xs ++ k.taken) popped) in
    let all = size-append (rest ++ s ∷ []) k.taken in
    let one = size_push rest s in
    let held = k.added.held in
    let cost = k.added.cost in
    omega (arith, room, parts, all, one, held, cost)

pub one_up : (t u v : Table) (steps : List Step) (last : ℕ) (left rest : List Step) (s : Step) (number next : ℕ) → AreStepsBelow (end_of t) steps → left ≡ rest ++ s ∷ []
    → Climbs t u steps last left number → Adds u v (step_size s) (λ y. step_value s y (y number)) next → Climbs t v steps last rest next
one_up t u v steps last left rest s number next all popped k a =
    let parts : steps ≡ (rest ++ s ∷ []) ++ k.taken = k.parts ∙ ap (λ (xs : List Step). xs ++ k.taken) popped in
    let low = (below_last (end_of t) rest s (left_below (end_of t) (rest ++ s ∷ []) k.taken (subst (AreStepsBelow (end_of t)) parts all))).1 in
    record {
      taken = s ∷ k.taken;
      parts = parts ∙ append_assoc rest (s ∷ []) k.taken;
      added =
          follow t u v (steps_size k.taken) (step_size s) (step_size s + steps_size k.taken) (λ y. steps_value k.taken y (y last)) (λ y. step_value s y (y number))
          (λ y. step_value s y (steps_value k.taken y (y last))) number next k.added a (omega arith)
          (λ w size gives same.
          ap (step_value s (value u w)) gives ∙ step_still (end_of t) s (value u w) (value t w) (steps_value k.taken (value t w) (value t w last)) low same);
    }

pub up_there : (t u : Table) (steps : List Step) (last number : ℕ) → Climbs t u steps last [] number → Adds t u (steps_size steps) (λ v. steps_value steps v (v last)) number
up_there t u steps last number k =
    subst (λ (xs : List Step). Adds t u (steps_size xs) (λ v. steps_value xs v (v last)) number) (sym k.parts) k.added

-- the same, of what is left said otherwise
pub seen : (t u : Table) (numbers : List ℕ) (whole : Expression) (steps : List Step) (rest other : Expression) → rest ≡ other → Walking t u numbers whole steps rest → Walking t u numbers whole steps other
seen t u numbers whole steps rest other same k = subst (λ (x : Expression). Walking t u numbers whole steps x) same k
