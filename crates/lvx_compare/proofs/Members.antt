-- Terminals in one class, and the order of names.
use Rattle.std.proofs.Common.{◌≡◌, inl, inr, ℕ, true, false, refl, sym, ap, subst, ◌∙◌}
use Rattle.std.specs.Ordering.{is_lt, ordering_reverse}
use Rattle.std.specs.declared.cmp.Ordering.{Ordering}
use Rattle.std.specs.declared.cmp.Ordering.TheVariants.{Less, Equal, Greater}
use Rattle.vlsi_base.specs.declared.name.Name.{Name}
use Rattle.vlsi_base.specs.declared.name.Terminal.{Terminal}
use Rattle.vlsi_base.specs.Name.{name_cmp}
use Rattle.vlsi_base.specs.Names.{comes_before}
use Rattle.vlsi_base.proofs.NameOrder.{name_total}
use Rattle.net_core.specs.Places.{IsThere}
use Rattle.net_core.specs.Netlist.{Netlist, terminals, HasClass}
use Rattle.net_core.proofs.Searching.{not_itself, name_equal}
use Rattle.net_right.specs.Same.{AreJoined}
use Rattle.lvx_compare.specs.Compared.{HasOtherMembers}
use Rattle.lvx_compare.specs.Stages.{KeepsMembers}

pub with_itself : (n : Netlist) (t : Terminal) (c : ℕ) → HasClass n t c → AreJoined n t t
with_itself n t c h = record { class = c; first = h; second = h }

pub is_there : (n : Netlist) (t : Terminal) (c : ℕ) → HasClass n t c → IsThere (terminals n) t
is_there n t c h = (h.0, h.1)

-- members that are kept aren't others
pub kept_or_other : (n other : Netlist) (t : Terminal) → KeepsMembers n other t → HasOtherMembers n other t → ⊥
kept_or_other n other t keeps h = elim h.1 [ inl p ↦ p.1 ((keeps h.0).0 p.0) | inr q ↦ q.1 ((keeps h.0).1 q.0) ]

-- the two netlists may change places
pub others_turned : (a b : Netlist) (t : Terminal) → HasOtherMembers a b t → HasOtherMembers b a t
others_turned a b t h = elim h.1 [ inl p ↦ (h.0, inr p) | inr q ↦ (h.0, inl q) ]

-- ---- the order of names

not_less : (o : Ordering) → (o ≡ Less → ⊥) → is_lt o ≡ false
not_less Less never = absurd (never refl)
not_less Equal never = refl
not_less Greater never = refl

pub less_is : (a b : Name) → comes_before a b ≡ true → name_cmp a b ≡ Less
less_is a b e = by (name_cmp a b) e where
  by : (o : Ordering) → is_lt o ≡ true → o ≡ Less
  by Less e = refl
  by Equal e = absurd cc
  by Greater e = absurd cc

-- no name stands before itself, and none before one that stands before it
pub self_last : (a : Name) → comes_before a a ≡ false
self_last a = not_less (name_cmp a a) (not_itself a)

pub not_back : (a b : Name) → name_cmp a b ≡ Less → comes_before b a ≡ false
not_back a b less = not_less (name_cmp b a) (λ back. not_itself a (name_total.trans a b a less back))

clash : (o : Ordering) → o ≡ Less → is_lt o ≡ false → ⊥
clash o less not_lt = let e : true ≡ false = sym (ap is_lt less) ∙ not_lt in absurd cc

pub not_less_than : (a b : Name) → comes_before a b ≡ false → name_cmp a b ≡ Less → ⊥
not_less_than a b not_lt less = clash (name_cmp a b) less not_lt

-- what isn't before a name isn't before a lesser one
pub lesser_still : (a b c : Name) → name_cmp b a ≡ Less → comes_before c a ≡ false → comes_before c b ≡ false
lesser_still a b c less last = not_less (name_cmp c b) (λ l. clash (name_cmp c a) (name_total.trans c b a l less) last)

-- nor before one that it isn't greater than
pub first_still : (a b c : Name) → comes_before b a ≡ false → comes_before c b ≡ false → comes_before c a ≡ false
first_still a b c first last = not_less (name_cmp c a) (λ l. by l (name_cmp a b) refl) where
  by : name_cmp c a ≡ Less → (o : Ordering) → name_cmp a b ≡ o → ⊥
  by l Less is = clash (name_cmp c b) (name_total.trans c a b l is) last
  by l Equal is = let same = name_equal a b is in clash (name_cmp c b) (subst (λ (x : Name). name_cmp c x ≡ Less) same l) last
  by l Greater is = clash (name_cmp b a) (name_total.antisymm b a ∙ ap ordering_reverse is) first
