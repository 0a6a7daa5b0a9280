-- The sinks of nets are the inputs that read their classes; the classes of supplies are no nets.
use Rattle.std.proofs.Common.{◌≡◌, ◌≢◌, ◌⊎◌, inl, inr, ℕ, ◌<◌, Bool, true, false, ◌||◌, List, [], filter, length, refl, sym, ◌∙◌, ap, subst, arith, nat_eq, eqb-true, if◌then◌else◌}
use Rattle.std.proofs.lemmas.Bool.{eq-eqb}
use Rattle.vlsi_base.specs.declared.name.Name.{Name}
use Rattle.vlsi_base.specs.declared.name.Terminal.{Terminal}
use Rattle.vlsi_base.specs.Names.{vdd, vss}
use Rattle.vlsi_base.specs.Member.{In}
use Rattle.cell_model.specs.Library.{Library}
use Rattle.net_core.specs.Netlist.{port}
use Rattle.loon_fanout.specs.Sinks.{Wired, all_sinks, is_supply_class, sinks}
use Rattle.loon_fanout.proofs.Picking.{is_false}

-- ---- numbers

pub eq_itself : (k : ℕ) → nat_eq k k ≡ true
eq_itself k = eq-eqb k k refl

pub eq_not : (a b : ℕ) → a ≢ b → nat_eq a b ≡ false
eq_not a b differ = is_false (nat_eq a b) (λ e. differ (eqb-true a b e))

-- ---- classes of supplies

pub apart_net : (w : Wired) (k : ℕ) → w.class (port vdd) ≢ k → w.class (port vss) ≢ k → is_supply_class w k ≡ false
apart_net w k high low = ap (λ (b : Bool). b || nat_eq (w.class (port vss)) k) (eq_not (w.class (port vdd)) k high) ∙ eq_not (w.class (port vss)) k low

-- a net isn't the class of a supply
pub supply_apart : (w : Wired) (k : ℕ) → is_supply_class w k ≡ false → (supply : Name) → (supply ≡ vdd) ⊎ (supply ≡ vss) → w.class (port supply) ≡ k → ⊥
supply_apart w k net supply (inl high) e =
    let is : nat_eq (w.class (port vdd)) k ≡ true = eq-eqb (w.class (port vdd)) k (ap (λ (s : Name). w.class (port s)) (sym high) ∙ e) in
    let wrong : true ≡ false = sym (ap (λ (b : Bool). b || nat_eq (w.class (port vss)) k) is) ∙ net in cc wrong
supply_apart w k net supply (inr low) e =
    let is : nat_eq (w.class (port vss)) k ≡ true = eq-eqb (w.class (port vss)) k (ap (λ (s : Name). w.class (port s)) (sym low) ∙ e) in
    let wrong : true ≡ false = sym (or_true (nat_eq (w.class (port vdd)) k)) ∙ sym (ap (λ (b : Bool). nat_eq (w.class (port vdd)) k || b) is) ∙ net in cc wrong where
      or_true : (b : Bool) → (b || true) ≡ true
      or_true true = refl
      or_true false = refl

-- where the ports of supplies stay in their classes, so do nets
pub supply_same : (w u : Wired) (k : ℕ) → u.class (port vdd) ≡ w.class (port vdd) → u.class (port vss) ≡ w.class (port vss) → is_supply_class u k ≡ is_supply_class w k
supply_same w u k high low =
    ap (λ (a : ℕ). nat_eq a k || nat_eq (u.class (port vss)) k) high
    ∙ ap (λ (b : ℕ). nat_eq (w.class (port vdd)) k || nat_eq b k) low

-- ---- sinks

-- the inputs that read a class, be it a net or not
abbrev pub readers : Library → Wired → ℕ → List Terminal
readers l w k = filter (λ t. nat_eq (w.class t) k) (all_sinks l w.instances)

pub net_sinks : (l : Library) (w : Wired) (k : ℕ) → is_supply_class w k ≡ false → sinks l w k ≡ readers l w k
net_sinks l w k net = ap (λ (b : Bool). if b then [] else readers l w k) net

pub no_sinks : (l : Library) (w : Wired) (k : ℕ) → is_supply_class w k ≡ true → sinks l w k ≡ []
no_sinks l w k supply = ap (λ (b : Bool). if b then [] else readers l w k) supply

-- a class with sinks is a net
pub is_net : (l : Library) (w : Wired) (k : ℕ) (t : Terminal) → In t (sinks l w k) → is_supply_class w k ≡ false
is_net l w k t i = is_false (is_supply_class w k) (λ e. elim (subst (λ (ts : List Terminal). In t ts) (no_sinks l w k e) i) [ ])

pub long_net : (l : Library) (w : Wired) (k n : ℕ) → n < length (sinks l w k) → is_supply_class w k ≡ false
long_net l w k n long = is_false (is_supply_class w k) (λ e. let none = ap length (no_sinks l w k e) in omega (arith, none, long))

pub sink_reads : (l : Library) (w : Wired) (k : ℕ) (t : Terminal) → In t (sinks l w k) → In t (readers l w k)
sink_reads l w k t i = subst (λ (ts : List Terminal). In t ts) (net_sinks l w k (is_net l w k t i)) i
