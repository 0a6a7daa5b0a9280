-- Why each netlist is seen as one.
use Rattle.std.proofs.Common.{◌≡◌, ℕ, zero, suc, Bool, true, false, ◌&&◌, List, [], ◌∷◌, Option, None, Some, refl, sym, ◌∙◌, ap, subst, arith, if◌then◌else◌}
use Rattle.vlsi_base.specs.declared.name.Name.{Name}
use Rattle.vlsi_base.specs.declared.name.Terminal.{Terminal}
use Rattle.machine_core.specs.Named.{is_same_text, is_same_name}
use Rattle.machine_core.proofs.Names.{same_name-true, same_name-itself}
use Rattle.cell_model.proofs.Texts.{text_same, text_itself}
use Rattle.net_core.specs.Places.{Stands, NoneTwice}
use Rattle.net_core.specs.Netlist.{terminals}
use Rattle.net_core.proofs.Finishing.{netlist_terminals_once}
use Rattle.net_bits.specs.Seen.{is_same_owner, is_same_terminal, class_at, EachNetlistIsSeen}

owner_same : (a b : Option (List ℕ)) → is_same_owner a b ≡ true → a ≡ b
unfolding is_same_owner
owner_same None None h = refl
owner_same (Some a) (Some b) h = ap Some (text_same a b h)
owner_same None (Some b) h = absurd (cc h)
owner_same (Some a) None h = absurd (cc h)

owner_itself : (a : Option (List ℕ)) → is_same_owner a a ≡ true
unfolding is_same_owner
owner_itself None = refl
owner_itself (Some a) = text_itself a

both : (a b : Bool) → (a && b) ≡ true → (a ≡ true) × (b ≡ true)
both true true h = (refl, refl)
both true false h = absurd (cc h)
both false b h = absurd (cc h)

terminal_same : (a b : Terminal) → is_same_terminal a b ≡ true → a ≡ b
unfolding is_same_terminal
terminal_same a b h =
    let p = both (is_same_owner a.instance b.instance) (is_same_name a.pin b.pin) h in
    let made : Option (List ℕ) → Name → Terminal = λ o x. record { instance = o; pin = x } in
    ap (λ (o : Option (List ℕ)). made o a.pin) (owner_same a.instance b.instance p.0) ∙ ap (made b.instance) (same_name-true a.pin b.pin p.1)

terminal_itself : (a : Terminal) → is_same_terminal a a ≡ true
unfolding is_same_terminal
terminal_itself a = rw (owner_itself a.instance, same_name-itself a.pin) refl

class_is : (us : List Terminal) (ks : List ℕ) (t : Terminal) (i k : ℕ) → NoneTwice us → Stands us i t → Stands ks i k → class_at us ks t ≡ k
unfolding class_at
class_is [] ks t i k once p q = absurd cc
class_is (u ∷ us) [] t i k once p q = absurd cc
class_is (u ∷ us) (c ∷ ks) t i k once p q = by (λ i p q. class_is us ks t i k later p q) (is_same_terminal u t) refl i p q where
  later : NoneTwice us
  later x y z a b = let h : suc x ≡ suc y = once (suc x) (suc y) z a b in omega (arith, h)

  by : ((i : ℕ) → Stands us i t → Stands ks i k → class_at us ks t ≡ k) → (b : Bool) → is_same_terminal u t ≡ b → (i : ℕ) → Stands (u ∷ us) i t → Stands (c ∷ ks) i k → (if b then c else class_at us ks t) ≡ k
  by rest true e zero p q = cc
  by rest true e (suc i) p q =
      let same : u ≡ t = terminal_same u t e in
      let twice : suc i ≡ 0 = once (suc i) 0 t p (ap Some same) in absurd (omega (arith, twice))
  by rest false e zero p q = let same : u ≡ t = cc in absurd (let yes = subst (λ (x : Terminal). is_same_terminal u x ≡ true) same (terminal_itself u) in let no : true ≡ false = sym yes ∙ e in cc)
  by rest false e (suc i) p q = rest i p q

pub seen_is : EachNetlistIsSeen
seen_is n sound = record {
  is = refl;
  classes = record { each = λ t k h. class_is (terminals n) n.classes t h.0 k (netlist_terminals_once n sound) h.1 h.2 };
}
