-- Runs of a checked machine, and of the machine that is left.
use Rattle.std.proofs.Common.{◌≡◌, ℕ, ◌<◌, Bool, true, false, ◌||◌, List, [], ◌∷◌, map, length, Option, None, Some, is_some, refl, sym, ap, ◌∙◌, subst, arith, if◌then◌else◌}
use Rattle.std.specs.List.{Contains}
use Rattle.std.specs.Option.{option_map}
use Rattle.vlsi_base.specs.declared.name.Name.{Name}
use Rattle.vlsi_base.specs.Member.{In, here, there}
use Rattle.bool_expr.specs.Expression.{val}
use Rattle.bool_expr.specs.Support.{among}
use Rattle.machine_core.specs.Named.{is_same_name}
use Rattle.fsm_machine.specs.Statements.{Assignment, output, next, Statements}
use Rattle.fsm_machine.specs.Walk.{walk, given_next, given_output}
use Rattle.fsm_machine.specs.Fsm.{Fsm, fsm_outputs, seen, walked_next, walked_output, FsmRun}
use Rattle.fsm_machine.specs.Assigned.{sure, sets_next, sets_output}
use Rattle.fsm_machine.specs.MachineOf.{all_states}
use Rattle.fsm_machine.proofs.Known.{known_after}
use Rattle.fsm_machine.proofs.Nexts.{IsAmong, walk_among}
use Rattle.fsm_machine.proofs.States.{among_up}
use Rattle.fsm_core.specs.Checked.{IsCheckedFsm}
use Rattle.fsm_merge.specs.Numbering.{nth, IsNumbering}
use Rattle.fsm_merge.specs.Merged.{merged_assignment, merged, merged_fsm}
use Rattle.fsm_merge.proofs.Members.{in_contains}
use Rattle.fsm_merge.proofs.Walking.{Keeps, walk_merged, none_merged}

-- ---- a step of a checked machine

pub walk_below : (f : Fsm) → IsCheckedFsm f → (w : List Bool) (st : Option ℕ) (t : ℕ) → walk given_next w st f.body None ≡ Some t → t < length f.states
walk_below f checked w st t e =
    let P : Option ℕ → Type 0 = λ k. IsAmong (all_states f) k in
    let g : among t (all_states f) ≡ true = subst P e (walk_among w st (all_states f) f.body None checked.sound tt) in
    let l = among_up t 0 (length f.states) g in omega arith

pub next_below : (f : Fsm) → IsCheckedFsm f → (i : List Bool) (st : Option ℕ) (t : ℕ) → walked_next f i st ≡ Some t → t < length f.states
next_below f checked i st t e = walk_below f checked (seen f i) st t e

same_next : (a : Assignment) → sets_next a ≡ is_some (given_next a)
same_next (output name e) = refl
same_next (next s) = refl

same_output : (w : List Bool) (name : Name) (a : Assignment) → sets_output name a ≡ is_some (given_output w name a)
same_output w name (output target e) = elim (is_same_name target name) as (λ t. t ≡ is_some (if t then Some (val e w) else None)) [ true ↦ refl | false ↦ refl ]
same_output w name (next s) = refl

or_false : (a : Bool) → a ≡ true → (a || false) ≡ true
or_false true h = refl
or_false false h = h

some_value : {A : Type 0} (o : Option A) → is_some o ≡ true → (a : A) × (o ≡ Some a)
some_value None e = absurd (cc)
some_value (Some a) e = (a, refl)

all_known : {A B : Type 0} (g : A → Option B) (xs : List A) → ((x : A) → In x xs → is_some (g x) ≡ true) → (ys : List B) × (map g xs ≡ map (λ y. Some y) ys)
all_known g [] h = ([], refl)
all_known {A} {B} g (x ∷ xs) h =
    let first = some_value (g x) (h x here) in
    let later = all_known g xs (λ y i. h y (there i)) in
    (first.0 ∷ later.0, ap (λ (o : Option B). o ∷ map g xs) first.1 ∙ ap (λ (os : List (Option B)). Some first.0 ∷ os) later.1)

pub walk_known : (f : Fsm) → IsCheckedFsm f → (w : List Bool) (s : ℕ) → s < length f.states → (t : ℕ) × (walk given_next w (Some s) f.body None ≡ Some t)
walk_known f checked w s l =
    some_value (walk given_next w (Some s) f.body None)
    (known_after given_next sets_next same_next w s f.body None (or_false (sure sets_next s f.body) (checked.assigned.next_state s l)))

pub next_known : (f : Fsm) → IsCheckedFsm f → (i : List Bool) (s : ℕ) → s < length f.states → (t : ℕ) × (walked_next f i (Some s) ≡ Some t)
next_known f checked i s l = walk_known f checked (seen f i) s l

pub outputs_known : (f : Fsm) → IsCheckedFsm f → (i : List Bool) (s : ℕ) → s < length f.states
    → (y : List Bool) × (map (walked_output f i (Some s)) (fsm_outputs f) ≡ map (λ b. Some b) y)
outputs_known f checked i s l =
    all_known (walked_output f i (Some s)) (fsm_outputs f)
    (λ name is.
    known_after (given_output (seen f i) name) (sets_output name) (same_output (seen f i) name) (seen f i) s f.body None
    (or_false (sure (sets_output name) s f.body) (checked.assigned.outputs s l name (in_contains name (fsm_outputs f) is))))

-- ---- runs

pub each_run : (f : Fsm) → IsCheckedFsm f → (v : List (List Bool)) (s : ℕ) → s < length f.states → (y : List (List Bool)) × FsmRun f s v y
each_run f checked [] s l = ([], refl)
each_run f checked (i ∷ v) s l =
    let o = outputs_known f checked i s l in
    let t = next_known f checked i s l in
    let later = each_run f checked v t.0 (next_below f checked i (Some s) t.0 t.1) in
    (o.0 ∷ later.0, (o.0, o.1, (t.0, t.1, (later.0, refl, later.1))))

some_same : (a b : List Bool) → map (λ x. Some x) a ≡ map (λ x. Some x) b → a ≡ b
some_same [] [] e = refl
some_same [] (y ∷ b) e = absurd (cc)
some_same (x ∷ a) [] e = absurd (cc)
some_same (x ∷ a) (y ∷ b) e =
    let first : x ≡ y = cc in
    let rest : map (λ x. Some x) a ≡ map (λ x. Some x) b = cc in
    ap (λ z. z ∷ a) first ∙ ap (λ (zs : List Bool). y ∷ zs) (some_same a b rest)

value_same : (o : Option ℕ) (a b : ℕ) → o ≡ Some a → o ≡ Some b → a ≡ b
value_same o a b e f = cc

pub one_run : (f : Fsm) (v : List (List Bool)) (s : ℕ) (y z : List (List Bool)) → FsmRun f s v y → FsmRun f s v z → y ≡ z
one_run f [] s y z a b = a ∙ sym b
one_run f (i ∷ v) s y z (o, oe, (t, te, (r, re, run))) (p, pe, (u, ue, (q, qe, other))) =
    let outs : o ≡ p = some_same o p (sym oe ∙ pe) in
    let states : t ≡ u = value_same (walked_next f i (Some s)) t u te ue in
    let P : ℕ → Type 0 = λ x. FsmRun f x v r in
    let rest : r ≡ q = one_run f v u r q (subst P states run) other in
    re ∙ ap (λ (x : List Bool). x ∷ r) outs ∙ ap (λ (xs : List (List Bool)). p ∷ xs) rest ∙ sym qe

-- where each step has the same outputs and leads to states that are related again, runs are the same
pub same_runs : (f g : Fsm) (R : ℕ → ℕ → Type 0)
    → ((i : List Bool) (s t : ℕ) → R s t → map (walked_output f i (Some s)) (fsm_outputs f) ≡ map (walked_output g i (Some t)) (fsm_outputs g))
    → ((i : List Bool) (s t a : ℕ) → R s t → walked_next f i (Some s) ≡ Some a → (b : ℕ) × (walked_next g i (Some t) ≡ Some b) × R a b)
    → (v : List (List Bool)) (s t : ℕ) (y : List (List Bool)) → R s t → FsmRun f s v y → FsmRun g t v y
same_runs f g R outs nexts [] s t y h run = run
same_runs f g R outs nexts (i ∷ v) s t y h (o, oe, (a, ae, (r, re, run))) =
    let b = nexts i s t a h ae in
    (o, sym (outs i s t h) ∙ oe, (b.0, b.1, (r, re, same_runs f g R outs nexts v a b.0 r b.2 run)))

-- ---- a step of the machine that is left

next_given : (c : List ℕ) (a : Assignment) → given_next (merged_assignment c a) ≡ option_map (nth c) (given_next a)
next_given c (output name e) = refl
next_given c (next s) = refl

output_given : (c : List ℕ) (w : List Bool) (name : Name) (a : Assignment) → given_output w name (merged_assignment c a) ≡ option_map (λ b. b) (given_output w name a)
output_given c w name (output target e) =
    elim (is_same_name target name) as (λ t. (if t then Some (val e w) else None) ≡ option_map (λ b. b) (if t then Some (val e w) else None)) [ true ↦ refl | false ↦ refl ]
output_given c w name (next s) = refl

map_same : {A : Type 0} (o : Option A) → option_map (λ b. b) o ≡ o
map_same None = refl
map_same (Some a) = refl

pub next_merged : (f : Fsm) (c k : List ℕ) → IsNumbering (length f.states) c k → (i : List Bool) (p : ℕ) → p < length k
    → walked_next (merged_fsm f c k) i (Some p) ≡ option_map (nth c) (walked_next f i (Some (nth k p)))
next_merged f c k h i p l = walk_merged (nth c) given_next given_next (length f.states) c k h (next_given c) (seen f i) p l f.body None

output_merged : (f : Fsm) (c k : List ℕ) → IsNumbering (length f.states) c k → (i : List Bool) (p : ℕ) → p < length k → (name : Name)
    → walked_output (merged_fsm f c k) i (Some p) name ≡ walked_output f i (Some (nth k p)) name
output_merged f c k h i p l name =
    walk_merged (λ b. b) (given_output (seen f i) name) (given_output (seen f i) name) (length f.states) c k h (output_given c (seen f i) name) (seen f i) p l f.body None
    ∙ map_same (walked_output f i (Some (nth k p)) name)

map_each : {A B : Type 0} (g h : A → B) → ((x : A) → g x ≡ h x) → (xs : List A) → map g xs ≡ map h xs
map_each g h same [] = refl
map_each {A} {B} g h same (x ∷ xs) = ap (λ (y : B). y ∷ map g xs) (same x) ∙ ap (λ (ys : List B). h x ∷ ys) (map_each g h same xs)

pub outputs_merged : (f : Fsm) (c k : List ℕ) → IsNumbering (length f.states) c k → (i : List Bool) (p : ℕ) → p < length k
    → map (walked_output (merged_fsm f c k) i (Some p)) (fsm_outputs (merged_fsm f c k)) ≡ map (walked_output f i (Some (nth k p))) (fsm_outputs f)
outputs_merged f c k h i p l =
    map_each (walked_output (merged_fsm f c k) i (Some p)) (walked_output f i (Some (nth k p))) (output_merged f c k h i p l) (fsm_outputs f)

pub reset_merged : (f : Fsm) (c k : List ℕ) (i : List Bool) (r : ℕ) → walked_next f i None ≡ Some r → walked_next (merged_fsm f c k) i None ≡ Some (nth c r)
reset_merged f c k i r e =
    let P : Option ℕ → Type 0 = λ x. Keeps (nth c) x (walked_next (merged_fsm f c k) i None) in
    subst P e (none_merged (nth c) given_next given_next c k (next_given c) (seen f i) f.body None None tt)
