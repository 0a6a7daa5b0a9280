-- Registers whose loads are laid out.
use Rattle.std.proofs.Common.{◌≡◌, ℕ, suc, ◌+◌, ◌<◌, ◌≤◌, Bool, List, [], ◌∷◌, ◌++◌, map, length, take, drop, get_or, set, refl, sym, ◌∙◌, ap, subst, arith, append_assoc, append-nil, if◌then◌else◌}
use Rattle.std.specs.List.{All}
use Rattle.std.proofs.lemmas.List.{map_more, take_all, drop_more, take_more_set, drop-set-lt, drop_all}
use Rattle.std.proofs.lemmas.List.Elements.{All-nil, All-cons, All-append, All-weaker}
use Rattle.bool_expr.specs.Expression.{bit, val}
use Rattle.machine_core.specs.Machine.{Register}
use Rattle.machine_core.specs.declared.equation.Register.{Register as Parts}
use Rattle.machine_core.specs.View.{register_view}
use Rattle.asimut_sim.specs.Load.{loaded}
use Rattle.asimut_sim.specs.declared.layout.Load.{Load}
use Rattle.asimut_sim.specs.declared.program.Program.{Program}
use Rattle.asimut_sim.specs.Program.{extent, IsProgram, bits_of, Computes}
use Rattle.asimut_sim.specs.Flat.{IsLoadBelow, AreLoadsOf, ComputesLoads, held_after}
use Rattle.asimut_sim.proofs.ProgramLemmas.{goes_on_itself, goes_on_further, extent_grows}

-- a place has what the register loads
abbrev pub IsLoadOf : List Bool → List Bool → Load → Register → Type 0
IsLoadOf a w l r = (bit a l.next ≡ val r.next w) × (bit a l.enable ≡ val r.enable w)

pub loads_append : (a w : List Bool) (ls ms : List Load) (rs qs : List Register) → AreLoadsOf a w ls rs → AreLoadsOf a w ms qs → AreLoadsOf a w (ls ++ ms) (rs ++ qs)
loads_append a w [] ms [] qs h k = k
loads_append a w [] ms (r ∷ rs) qs h k = absurd h
loads_append a w (l ∷ ls) ms [] qs h k = absurd h
loads_append a w (l ∷ ls) ms (r ∷ rs) qs h k = (h.0, loads_append a w ls ms rs qs h.1 k)

pub as_many_loads : (a w : List Bool) (ls : List Load) (rs : List Register) → AreLoadsOf a w ls rs → length ls ≡ length rs
as_many_loads a w [] [] h = refl
as_many_loads a w [] (r ∷ rs) h = absurd h
as_many_loads a w (l ∷ ls) [] h = absurd h
as_many_loads a w (l ∷ ls) (r ∷ rs) h = ap suc (as_many_loads a w ls rs h.1)

pub held_is_loaded : (a w : List Bool) (ls : List Load) (rs : List Register) (held : List Bool) → AreLoadsOf a w ls rs → held_after a ls held ≡ loaded w rs held
held_is_loaded a w [] [] held h = refl
held_is_loaded a w [] (r ∷ rs) held h = absurd h
held_is_loaded a w (l ∷ ls) [] held h = absurd h
held_is_loaded a w (l ∷ ls) (r ∷ rs) [] h = refl
held_is_loaded a w (l ∷ ls) (r ∷ rs) (b ∷ held) h =
    ap (λ (x : Bool). (if x then bit a l.next else b) ∷ held_after a ls held) h.0.1
    ∙ ap (λ (x : Bool). (if val r.enable w then x else b) ∷ held_after a ls held) h.0.0
    ∙ ap (λ (x : List Bool). (if val r.enable w then val r.next w else b) ∷ x) (held_is_loaded a w ls rs held h.1)

pub loads_weaker : (n m : ℕ) (ls : List Load) → n ≤ m → All (IsLoadBelow n) ls → All (IsLoadBelow m) ls
loads_weaker n m ls h all = All-weaker (IsLoadBelow n) (IsLoadBelow m) (λ l b. let x = b.0 in let y = b.1 in (omega (arith, x, h), omega (arith, y, h))) ls all

pub loads_none : (p : Program) (vars : List ℕ) (ls : List Load) → ls ≡ [] → IsProgram p → ComputesLoads p p vars ls []
loads_none p vars ls none program =
    let P : List Load → Type 0 = λ x. ComputesLoads p p vars x [] in
    subst P (sym none) (record { goes_on = goes_on_itself p program; within = All-nil (IsLoadBelow (extent p)); values = λ a h. tt })

pub loads_one : (p q s : Program) (vars : List ℕ) (r : Register) (l : Load) → Computes p q vars r.next l.next → Computes q s vars r.enable l.enable
    → ComputesLoads p s vars (l ∷ []) (r ∷ [])
loads_one p q s vars r l n e =
    let grows = extent_grows q s e.goes_on in
    let low = n.within in
    record {
      goes_on = goes_on_further p q s n.goes_on e.goes_on;
      within = All-cons (IsLoadBelow (extent s)) l [] (omega (arith, low, grows), e.within) (All-nil (IsLoadBelow (extent s)));
      values = λ a h. ((n.value a (e.goes_on.keeps a h), e.value a h), tt);
    }

pub loads_more : (p q s : Program) (vars : List ℕ) (ls items : List Load) (l : Load) (registers : List Parts) (k : ℕ) (r : Parts) → k < length registers
    → r ≡ get_or registers k r → items ≡ ls ++ l ∷ [] → ComputesLoads q s vars (l ∷ []) (register_view r ∷ [])
    → ComputesLoads p q vars ls (map register_view (take k registers)) → ComputesLoads p s vars items (map register_view (take (k + 1) registers))
loads_more p q s vars ls items l registers k r h is pushed one c =
    let taken : map register_view (take k registers) ++ register_view r ∷ [] ≡ map register_view (take (k + 1) registers) =
    ap (λ (x : Parts). map register_view (take k registers) ++ register_view x ∷ []) is ∙ sym (map_more register_view registers k r h) in
    let P : List Load → Type 0 = λ x. All (IsLoadBelow (extent s)) x in
    record {
      goes_on = goes_on_further p q s c.goes_on one.goes_on;
      within =
          subst P (sym pushed)
          (All-append (IsLoadBelow (extent s)) ls (l ∷ []) (loads_weaker (extent q) (extent s) ls (extent_grows q s one.goes_on) c.within) one.within);
      values = λ a o.
          let Q : List Load → Type 0 = λ x. AreLoadsOf a (bits_of a vars) x (map register_view (take (k + 1) registers)) in
          let R : List Register → Type 0 = λ x. AreLoadsOf a (bits_of a vars) (ls ++ l ∷ []) x in
          subst Q (sym pushed)
          (subst R taken
          (loads_append a (bits_of a vars) ls (l ∷ []) (map register_view (take k registers)) (register_view r ∷ []) (c.values a (one.goes_on.keeps a o)) (one.values a o)));
    }

pub loads_all : (p q : Program) (vars : List ℕ) (ls : List Load) (registers : List Parts) (k : ℕ) → length registers ≤ k
    → ComputesLoads p q vars ls (map register_view (take k registers)) → ComputesLoads p q vars ls (map register_view registers)
loads_all p q vars ls registers k h c =
    let P : List Parts → Type 0 = λ x. ComputesLoads p q vars ls (map register_view x) in subst P (take_all k registers h) c

-- what was written, and what the loads from number k on give over the rest, is the whole
abbrev pub Written : List Bool → List Load → List Bool → ℕ → List Bool → Type 0
Written a loads old k now = take k now ++ held_after a (drop k loads) (drop k now) ≡ held_after a loads old

pub written_next : (a : List Bool) (loads : List Load) (old now after : List Bool) (k : ℕ) (l : Load) (b : Bool) → k < length loads → l ≡ get_or loads k l → k < length now
    → b ≡ get_or now k b → after ≡ set now k (if bit a l.enable then bit a l.next else b) → Written a loads old k now → Written a loads old (k + 1) after
written_next a loads old now after k l b h is g held e w =
    let v : Bool = if bit a l.enable then bit a l.next else b in
    let rest = held_after a (drop (k + 1) loads) (drop (k + 1) now) in
    let dropped : drop k now ≡ b ∷ drop (k + 1) now = drop_more now k b g ∙ ap (λ (x : Bool). x ∷ drop (k + 1) now) (sym held) in
    let left : drop k loads ≡ l ∷ drop (k + 1) loads = drop_more loads k l h ∙ ap (λ (x : Load). x ∷ drop (k + 1) loads) (sym is) in
    ap (λ (x : List Bool). take (k + 1) x ++ held_after a (drop (k + 1) loads) (drop (k + 1) x)) e
    ∙ ap (λ (x : List Bool). x ++ held_after a (drop (k + 1) loads) (drop (k + 1) (set now k v))) (take_more_set now k v g)
    ∙ ap (λ (x : List Bool). (take k now ++ v ∷ []) ++ held_after a (drop (k + 1) loads) x) (drop-set-lt (k + 1) now k v (omega arith))
    ∙ append_assoc (take k now) (v ∷ []) rest
    ∙ sym (ap (λ (x : List Load). take k now ++ held_after a x (drop k now)) left ∙ ap (λ (x : List Bool). take k now ++ held_after a (l ∷ drop (k + 1) loads) x) dropped)
    ∙ w

pub written_all : (a : List Bool) (loads : List Load) (old now : List Bool) (k : ℕ) → length loads ≤ k → length now ≤ k → Written a loads old k now
    → now ≡ held_after a loads old
written_all a loads old now k h g w =
    sym (append-nil now) ∙ ap (λ (x : List Bool). x ++ []) (sym (take_all k now g))
    ∙ ap (λ (x : List Load). take k now ++ held_after a x (drop k now)) (sym (drop_all k loads h)) ∙ w
