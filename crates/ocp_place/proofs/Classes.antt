-- A netlist in memory as one of layouts, by the class of each of its terminals.
use Rattle.std.proofs.Common.{◌≡◌, ℕ, zero, suc, Bool, true, false, cond, ◌&&◌, List, [], ◌∷◌, Option, None, Some, refl, ap, ◌∙◌, subst, arith}
use Rattle.std.specs.Cmp.Lexicographic.{bytes_decides}
use Rattle.vlsi_base.specs.declared.name.Name.{Name}
use Rattle.vlsi_base.specs.declared.name.Terminal.{Terminal}
use Rattle.machine_core.specs.Named.{is_same_text, is_same_name}
use Rattle.net_core.specs.Places.{Stands, NoneTwice}
use Rattle.net_core.specs.Netlist.{Netlist as InMemory, IsNetlist, terminals}
use Rattle.net_core.proofs.Finishing.{netlist_terminals_once}
use Rattle.net_meaning.specs.Netlist.{AbstractNetlist}
use Rattle.net_right.specs.View.{netlist_by, IsSeenAs}
use Rattle.net_drawing.proofs.Coding.{same_name_true, same_name_itself}

abbrev same_owner : Option (List ℕ) → Option (List ℕ) → Bool
same_owner None None = true
same_owner None (Some b) = false
same_owner (Some a) None = false
same_owner (Some a) (Some b) = is_same_text a b

abbrev same_terminal : Terminal → Terminal → Bool
same_terminal t u = same_owner t.instance u.instance && is_same_name t.pin u.pin

owner_true : (a b : Option (List ℕ)) → same_owner a b ≡ true → a ≡ b
owner_true None None e = refl
owner_true None (Some b) e = absurd cc
owner_true (Some a) None e = absurd cc
owner_true (Some a) (Some b) e = ap Some ((bytes_decides a b).0 e)

owner_itself : (a : Option (List ℕ)) → same_owner a a ≡ true
owner_itself None = refl
owner_itself (Some a) = (bytes_decides a a).1 refl

both_true : (a b : Bool) → (a && b) ≡ true → (a ≡ true) × (b ≡ true)
both_true true true e = (refl, refl)
both_true true false e = absurd cc
both_true false b e = absurd cc

terminal_true : (t u : Terminal) → same_terminal t u ≡ true → t ≡ u
terminal_true t u e =
    let p = both_true (same_owner t.instance u.instance) (is_same_name t.pin u.pin) e in
    let made : Option (List ℕ) → Name → Terminal = λ i n. record { instance = i; pin = n } in
    ap (λ i. made i t.pin) (owner_true t.instance u.instance p.0) ∙ ap (made u.instance) (same_name_true t.pin u.pin p.1)

terminal_itself : (t : Terminal) → same_terminal t t ≡ true
terminal_itself t = ap (λ b. b && is_same_name t.pin t.pin) (owner_itself t.instance) ∙ same_name_itself t.pin

abbrev class_in : List Terminal → List ℕ → Terminal → ℕ
class_in [] cs t = 0
class_in (u ∷ ts) [] t = 0
class_in (u ∷ ts) (c ∷ cs) t = cond (same_terminal u t) c (class_in ts cs t)

tail_once : (u : Terminal) (ts : List Terminal) → NoneTwice (u ∷ ts) → NoneTwice ts
tail_once u ts h i j x p q = let e = h (suc i) (suc j) x p q in omega (arith, e)

class_in_is : (ts : List Terminal) (cs : List ℕ) → NoneTwice ts → (k : ℕ) (t : Terminal) (c : ℕ) → Stands ts k t → Stands cs k c → class_in ts cs t ≡ c
class_in_is [] cs h k t c p q = absurd cc
class_in_is (u ∷ ts) [] h k t c p q = absurd cc
class_in_is (u ∷ ts) (d ∷ cs) h zero t c p q =
    let same : u ≡ t = cc in
    let like : d ≡ c = cc in
    ap (λ b. cond b d (class_in ts cs t)) (subst (λ (x : Terminal). same_terminal u x ≡ true) same (terminal_itself u)) ∙ like
class_in_is (u ∷ ts) (d ∷ cs) h (suc k) t c p q = by (same_terminal u t) refl (class_in_is ts cs (tail_once u ts h) k t c p q) where
  by : (b : Bool) → same_terminal u t ≡ b → class_in ts cs t ≡ c → cond b d (class_in ts cs t) ≡ c
  by false e rest = rest
  by true e rest =
      let same = terminal_true u t e in
      let w = h 0 (suc k) t (ap Some same) p in absurd (omega (arith, w))

-- one of the netlists that it is seen as
abbrev pub known : InMemory → AbstractNetlist
known n = netlist_by (λ t. class_in (terminals n) n.classes t) n

pub known_seen : (n : InMemory) → IsNetlist n → IsSeenAs n (known n)
known_seen n is = record {
  is = refl;
  classes = record { each = λ t k h. class_in_is (terminals n) n.classes (netlist_terminals_once n is) h.0 t k h.1 h.2 };
}
