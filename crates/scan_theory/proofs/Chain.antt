-- The gates of a scan path, one after the other.
use Rattle.std.proofs.Common.{◌≡◌, ◌≢◌, ◌⊎◌, inl, inr, ℕ, suc, ◌+◌, ◌*◌, ◌<◌, ◌≤◌, Bool, true, false, List, [], ◌∷◌, length, map, Some, refl, sym, ap, ◌∙◌, subst, arith, if◌then◌else◌}
use Rattle.vlsi_base.specs.declared.name.Name.{Name}
use Rattle.vlsi_base.specs.declared.name.Terminal.{Terminal}
use Rattle.vlsi_base.specs.Names.{vdd, vss}
use Rattle.vlsi_base.specs.Member.{In, here, there, AllDifferent}
use Rattle.machine_core.specs.Named.{is_same_name}
use Rattle.machine_core.proofs.Names.{same_name-itself, same_name-false}
use Rattle.cell_model.specs.Cell.{cell_inputs}
use Rattle.cell_model.proofs.Members.{In-split, In-right, In-map}
use Rattle.cell_model.proofs.Texts.{text_itself, text_differs}
use Rattle.net_core.specs.Netlist.{Netlist, pin_of}
use Rattle.loon_fanout.specs.Sinks.{is_same_owner, is_same_terminal}
use Rattle.loon_fanout.proofs.Terminals.{owner_same, terminal_same}
use Rattle.net_bits.proofs.Lists.{in_cons}
use Rattle.scan_theory.specs.Gates.{Gate, read_class, gate_class, class_with}
use Rattle.scan_theory.specs.Scan.{Cells, Stage, on_scin, on_test, shown, loads, gives, gate_name, inverts, nands, chain, first_gate, gates, class_in, fed}

-- ---- what is known of each gate

module _ (n : Netlist) (cells : Cells) (P : Gate → Type 0) (of_inverter : (m a : ℕ) → P (inverts n cells m a)) (of_nand : (m a b : ℕ) → P (nands n cells m a b)) where
  chain_each : (stages : List Stage) (j before : ℕ) (g : Gate) → In g (chain n cells j before stages) → P g
  chain_each [] j before g here = of_inverter (3 * j + 1) before
  chain_each [] j before g (there here) = of_inverter (3 * j + 2) (shown n (3 * j + 1))
  chain_each [] j before g (there (there h)) = elim h [ ]
  chain_each (s ∷ stages) j before g here = of_nand (3 * j + 1) (on_test n) before
  chain_each (s ∷ stages) j before g (there here) = of_nand (3 * j + 2) (shown n 0) (loads n s)
  chain_each (s ∷ stages) j before g (there (there here)) = of_nand (3 * j + 3) (shown n (3 * j + 1)) (shown n (3 * j + 2))
  chain_each (s ∷ stages) j before g (there (there (there h))) = chain_each stages (suc j) (gives n s) g h

  first_each : (stages : List Stage) (g : Gate) → In g (first_gate n cells stages) → P g
  first_each [] g h = elim h [ ]
  first_each (s ∷ stages) g here = of_inverter 0 (on_test n)
  first_each (s ∷ stages) g (there h) = elim h [ ]

  pub gates_each : (stages : List Stage) (g : Gate) → In g (gates n cells stages) → P g
  gates_each stages g h = elim (In-split g (first_gate n cells stages) (chain n cells 0 (on_scin n) stages) h) [
    | inl a ↦ first_each stages g a
    | inr b ↦ chain_each stages 0 (on_scin n) g b
  ]

-- ---- what they read

module _ (n : Netlist) (cells : Cells) (P : ℕ → Type 0) where
  -- what the gates of the stages read beside each other
  pub record AreRead (stages : List Stage) : Type 0 where
    pub at_test : P (on_test n)
    pub at_scin : P (on_scin n)
    pub loaded : (s : Stage) → In s stages → P (loads n s)
    pub given : (s : Stage) → In s stages → P (gives n s)

  chain_reads : (stages : List Stage) (j before : ℕ) → P before → P (on_test n) → ((s : Stage) → In s stages → P (shown n 0) × P (loads n s) × P (gives n s))
      → ((g : Gate) → In g (chain n cells j before stages) → P g.shows) → (g : Gate) → In g (chain n cells j before stages) → (c : ℕ) → In c g.reads → P c
  chain_reads [] j before b t each out g here c here = b
  chain_reads [] j before b t each out g here c (there k) = elim k [ ]
  chain_reads [] j before b t each out g (there here) c here = out (inverts n cells (3 * j + 1) before) here
  chain_reads [] j before b t each out g (there here) c (there k) = elim k [ ]
  chain_reads [] j before b t each out g (there (there h)) c k = elim h [ ]
  chain_reads (s ∷ stages) j before b t each out g here c here = t
  chain_reads (s ∷ stages) j before b t each out g here c (there here) = b
  chain_reads (s ∷ stages) j before b t each out g here c (there (there k)) = elim k [ ]
  chain_reads (s ∷ stages) j before b t each out g (there here) c here = (each s here).0
  chain_reads (s ∷ stages) j before b t each out g (there here) c (there here) = (each s here).1
  chain_reads (s ∷ stages) j before b t each out g (there here) c (there (there k)) = elim k [ ]
  chain_reads (s ∷ stages) j before b t each out g (there (there here)) c here = out (nands n cells (3 * j + 1) (on_test n) before) here
  chain_reads (s ∷ stages) j before b t each out g (there (there here)) c (there here) = out (nands n cells (3 * j + 2) (shown n 0) (loads n s)) (there here)
  chain_reads (s ∷ stages) j before b t each out g (there (there here)) c (there (there k)) = elim k [ ]
  chain_reads (s ∷ stages) j before b t each out g (there (there (there h))) c k =
      chain_reads stages (suc j) (gives n s) (each s here).2 t (λ x i. each x (there i)) (λ x i. out x (there (there (there i)))) g h c k

  first_reads : (stages : List Stage) → P (on_test n) → (g : Gate) → In g (first_gate n cells stages) → (c : ℕ) → In c g.reads → P c
  first_reads [] t g h c k = elim h [ ]
  first_reads (s ∷ stages) t g here c here = t
  first_reads (s ∷ stages) t g here c (there k) = elim k [ ]
  first_reads (s ∷ stages) t g (there h) c k = elim h [ ]

  -- s0 is there where there is a register
  inverse_shown : (stages : List Stage) (s : Stage) → In s stages → ((g : Gate) → In g (gates n cells stages) → P g.shows) → P (shown n 0)
  inverse_shown [] s h out = elim h [ ]
  inverse_shown (x ∷ stages) s h out = out (inverts n cells 0 (on_test n)) here

  pub gates_read : (stages : List Stage) → AreRead stages → ((g : Gate) → In g (gates n cells stages) → P g.shows)
      → (g : Gate) → In g (gates n cells stages) → (c : ℕ) → In c g.reads → P c
  gates_read stages r out g h c k = elim (In-split g (first_gate n cells stages) (chain n cells 0 (on_scin n) stages) h) [
    | inl a ↦ first_reads stages r.at_test g a c k
    | inr b ↦ chain_reads stages 0 (on_scin n) r.at_scin r.at_test (λ s i. (inverse_shown stages s i out, r.loaded s i, r.given s i))
        (λ x i. out x (In-right x (first_gate n cells stages) (chain n cells 0 (on_scin n) stages) i)) g b c k
  ]

-- ---- their numbers rise

-- the numbers of gates rise from b on, and each reads what stands before it
abbrev pub Climbs : Netlist → ℕ → List Gate → Type 0
Climbs n b [] = Unit {0}
Climbs n b (g ∷ gs) =
    (m : ℕ) × (b ≤ m) × (g.name ≡ gate_name m) × (g.shows ≡ shown n m) × ((c : ℕ) → In c g.reads → c < g.shows) × Climbs n (suc m) gs

pub lower : (n : Netlist) (b d : ℕ) (gs : List Gate) → d ≤ b → Climbs n b gs → Climbs n d gs
lower n b d [] low h = tt
lower n b d (g ∷ gs) low (m, k, name, shows, reads, rest) = (m, omega (arith, low, k), name, shows, reads, rest)

module _ (n : Netlist) (cells : Cells) where
  one_read : (a b c : ℕ) → a < b → In c (a ∷ []) → c < b
  one_read a b c low here = low
  one_read a b c low (there h) = elim h [ ]

  two_read : (x y b c : ℕ) → x < b → y < b → In c (x ∷ y ∷ []) → c < b
  two_read x y b c p q here = p
  two_read x y b c p q (there here) = q
  two_read x y b c p q (there (there h)) = elim h [ ]

  chain_climbs : (stages : List Stage) (j before : ℕ) → before < n.count + 4 → ((s : Stage) → In s stages → (loads n s < n.count) × (gives n s < n.count))
      → Climbs n (3 * j + 1) (chain n cells j before stages)
  chain_climbs [] j before low each = (
    3 * j + 1,
    omega arith,
    refl,
    refl,
    λ c h. one_read before (shown n (3 * j + 1)) c (omega (arith, low)) h,
    (3 * j + 2, omega arith, refl, refl, λ c h. one_read (shown n (3 * j + 1)) (shown n (3 * j + 2)) c (omega arith) h, tt),
  )
  chain_climbs (s ∷ stages) j before low each =
      let loaded = (each s here).0 in
      let given = (each s here).1 in
      let rest = chain_climbs stages (suc j) (gives n s) (omega (arith, given)) (λ x i. each x (there i)) in (
        3 * j + 1,
        omega arith,
        refl,
        refl,
        λ c h. two_read (on_test n) before (shown n (3 * j + 1)) c (omega arith) (omega (arith, low)) h,
        (
          3 * j + 2,
          omega arith,
          refl,
          refl,
          λ c h. two_read (shown n 0) (loads n s) (shown n (3 * j + 2)) c (omega arith) (omega (arith, loaded)) h,
          (
            3 * j + 3,
            omega arith,
            refl,
            refl,
            λ c h. two_read (shown n (3 * j + 1)) (shown n (3 * j + 2)) (shown n (3 * j + 3)) c (omega arith) (omega arith) h,
            lower n (3 * suc j + 1) (suc (3 * j + 3)) (chain n cells (suc j) (gives n s) stages) (omega arith) rest,
          ),
        ),
      )

  pub gates_climb : (stages : List Stage) → ((s : Stage) → In s stages → (loads n s < n.count) × (gives n s < n.count)) → Climbs n 0 (gates n cells stages)
  gates_climb [] each = lower n 1 0 (chain n cells 0 (on_scin n) []) (omega arith) (chain_climbs [] 0 (on_scin n) (omega arith) each)
  gates_climb (s ∷ stages) each =
      (0, omega arith, refl, refl, λ c h. one_read (on_test n) (shown n 0) c (omega arith) h, chain_climbs (s ∷ stages) 0 (on_scin n) (omega arith) each)

-- the number of a gate
pub record Numbered (n : Netlist) (b : ℕ) (g : Gate) : Type 0 where
  pub number : ℕ
  pub least : b ≤ number
  pub named : g.name ≡ gate_name number
  pub shows : g.shows ≡ shown n number
  pub reads : (c : ℕ) → In c g.reads → c < g.shows

pub numbered_in : (n : Netlist) (b : ℕ) (gs : List Gate) → Climbs n b gs → (g : Gate) → In g gs → Numbered n b g
numbered_in n b [] k g h = elim h [ ]
numbered_in n b (g ∷ gs) (m, least, named, shows, reads, rest) _ here = record { number = m; least = least; named = named; shows = shows; reads = reads }
numbered_in n b (x ∷ gs) (m, least, named, shows, reads, rest) g (there h) =
    let r = numbered_in n (suc m) gs rest g h in
    let low = r.least in
    record { number = r.number; least = omega (arith, low, least); named = r.named; shows = r.shows; reads = r.reads }

-- gates that show one class are one
pub one_shown : (n : Netlist) (b : ℕ) (gs : List Gate) → Climbs n b gs → (g d : Gate) → In g gs → In d gs → g.shows ≡ d.shows → g ≡ d
one_shown n b [] k g d h i e = elim h [ ]
one_shown n b (x ∷ gs) k g d here here e = refl
one_shown n b (x ∷ gs) (m, least, named, shows, reads, rest) g d here (there i) e =
    let r = numbered_in n (suc m) gs rest d i in
    let low = r.least in let is = r.shows in
    absurd (omega (arith, low, is, shows, e))
one_shown n b (x ∷ gs) (m, least, named, shows, reads, rest) g d (there h) here e =
    let r = numbered_in n (suc m) gs rest g h in
    let low = r.least in let is = r.shows in
    absurd (omega (arith, low, is, shows, e))
one_shown n b (x ∷ gs) (m, least, named, shows, reads, rest) g d (there h) (there i) e = one_shown n (suc m) gs rest g d h i e

-- ---- the classes of their pins

pub other_told : (high low : ℕ) (f : Terminal → ℕ) (gs : List Gate) (t : Terminal) → ((g : Gate) → In g gs → t.instance ≡ Some g.name → ⊥) → class_with high low f gs t ≡ f t
other_told high low f [] t apart = refl
other_told high low f (g ∷ gs) t apart = by (is_same_owner t.instance (Some g.name)) refl (other_told high low f gs t (λ x h. apart x (there h))) where
  by : (b : Bool) → is_same_owner t.instance (Some g.name) ≡ b → class_with high low f gs t ≡ f t
      → (if b then gate_class high low g t.pin else class_with high low f gs t) ≡ f t
  by true e rest = absurd (apart g here (owner_same t.instance (Some g.name) e))
  by false e rest = rest

pub gate_told : (high low : ℕ) (f : Terminal → ℕ) (gs : List Gate) → AllDifferent (map (λ g. g.name) gs) → (g : Gate) → In g gs → (pin : Name)
    → class_with high low f gs (pin_of g.name pin) ≡ gate_class high low g pin
gate_told high low f [] d g h pin = elim h [ ]
gate_told high low f (g ∷ gs) d _ here pin = ap (λ (b : Bool). if b then gate_class high low g pin else class_with high low f gs (pin_of g.name pin)) (text_itself g.name)
gate_told high low f (x ∷ gs) d g (there h) pin =
    ap (λ (b : Bool). if b then gate_class high low x pin else class_with high low f gs (pin_of g.name pin))
    (text_differs g.name x.name (λ e. d.0 (subst (λ (t : List ℕ). In t (map (λ g. g.name) gs)) e (In-map (λ (y : Gate). y.name) g gs h))))
    ∙ gate_told high low f gs d.1 g h pin

-- what stands beside the name of an input
pub read_in : (ps : List Name) (reads : List ℕ) (other : ℕ) (pin : Name) → length reads ≡ length ps → In pin ps → In (read_class ps reads other pin) reads
read_in [] reads other pin many h = elim h [ ]
read_in (p ∷ ps) [] other pin many h = absurd (omega (arith, many))
read_in (p ∷ ps) (k ∷ reads) other pin many h = by (is_same_name p pin) refl (in_cons p ps pin h) (read_in ps reads other pin (omega (arith, many))) where
  by : (b : Bool) → is_same_name p pin ≡ b → (pin ≡ p) ⊎ In pin ps → (In pin ps → In (read_class ps reads other pin) reads) → In (if b then k else read_class ps reads other pin) (k ∷ reads)
  by true e i rest = here
  by false e (inl i) rest = absurd (let yes = subst (λ (x : Name). is_same_name p x ≡ true) (sym i) (same_name-itself p) in let never : true ≡ false = sym yes ∙ e in cc)
  by false e (inr i) rest = there (rest i)

pub read_out : (ps : List Name) (reads : List ℕ) (other : ℕ) (pin : Name) → (In pin ps → ⊥) → read_class ps reads other pin ≡ other
read_out [] reads other pin out = refl
read_out (p ∷ ps) [] other pin out = refl
read_out (p ∷ ps) (k ∷ reads) other pin out =
    ap (λ (b : Bool). if b then k else read_class ps reads other pin) (same_name-false p pin (λ e. out (subst (λ (x : Name). In x (p ∷ ps)) e here)))
    ∙ read_out ps reads other pin (λ h. out (there h))

pub class_vdd : (high low : ℕ) (g : Gate) → gate_class high low g vdd ≡ high
class_vdd high low g = refl

pub class_vss : (high low : ℕ) (g : Gate) → gate_class high low g vss ≡ low
class_vss high low g = refl

pub class_signal : (high low : ℕ) (g : Gate) (pin : Name) → pin ≢ vdd → pin ≢ vss → gate_class high low g pin ≡ read_class (cell_inputs g.cell) g.reads g.shows pin
class_signal high low g pin no_vdd no_vss = rw (same_name-false pin vdd no_vdd, same_name-false pin vss no_vss) refl

-- ---- pins that are fed

-- each multiplexer is among the gates
pub feeder_in : (n : Netlist) (cells : Cells) (stages : List Stage) (from before : ℕ) (t : Terminal)
    → (fed n from stages t ≡ class_in n t) ⊎ ((s : Stage) × In s stages × (t ≡ pin_of s.name s.load) × (g : Gate) × In g (chain n cells from before stages) × (fed n from stages t ≡ g.shows))
feeder_in n cells [] from before t = inl refl
feeder_in n cells (s ∷ stages) from before t = by (is_same_terminal (pin_of s.name s.load) t) refl (feeder_in n cells stages (suc from) (gives n s) t) where
  by : (b : Bool) → is_same_terminal (pin_of s.name s.load) t ≡ b
      → (fed n (suc from) stages t ≡ class_in n t)
      ⊎ ((x : Stage) × In x stages × (t ≡ pin_of x.name x.load) × (g : Gate) × In g (chain n cells (suc from) (gives n s) stages) × (fed n (suc from) stages t ≡ g.shows))
      → ((if b then shown n (3 * from + 3) else fed n (suc from) stages t) ≡ class_in n t)
      ⊎ ((x : Stage) × In x (s ∷ stages) × (t ≡ pin_of x.name x.load) × (g : Gate) × In g (chain n cells from before (s ∷ stages)) × ((if b then shown n (3 * from + 3) else fed n (suc from) stages t) ≡ g.shows))
  by true e rest = inr (s, here, sym (terminal_same (pin_of s.name s.load) t e), nands n cells (3 * from + 3) (shown n (3 * from + 1)) (shown n (3 * from + 2)), there (there here), refl)
  by false e (inl r) = inl r
  by false e (inr r) = inr (r.0, there r.1, r.2, r.3, there (there (there r.4)), r.5)

-- a pin that no register of the path loads stays where it was
pub unfed : (n : Netlist) (stages : List Stage) (from : ℕ) (t : Terminal) → ((s : Stage) → In s stages → t ≡ pin_of s.name s.load → ⊥) → fed n from stages t ≡ class_in n t
unfed n [] from t apart = refl
unfed n (s ∷ stages) from t apart = by (is_same_terminal (pin_of s.name s.load) t) refl (unfed n stages (suc from) t (λ x h. apart x (there h))) where
  by : (b : Bool) → is_same_terminal (pin_of s.name s.load) t ≡ b → fed n (suc from) stages t ≡ class_in n t
      → (if b then shown n (3 * from + 3) else fed n (suc from) stages t) ≡ class_in n t
  by true e rest = absurd (apart s here (sym (terminal_same (pin_of s.name s.load) t e)))
  by false e rest = rest

-- the gate that scout is tied to
pub last_gate : (n : Netlist) (cells : Cells) (stages : List Stage) (from before : ℕ)
    → (g : Gate) × In g (chain n cells from before stages) × (shown n (3 * (from + length stages) + 2) ≡ g.shows)
last_gate n cells [] from before =
    let e : 3 * (from + 0) + 2 ≡ 3 * from + 2 = omega arith in
    (inverts n cells (3 * from + 2) (shown n (3 * from + 1)), there here, ap (shown n) e)
last_gate n cells (s ∷ stages) from before =
    let r = last_gate n cells stages (suc from) (gives n s) in
    let e : 3 * (from + suc (length stages)) + 2 ≡ 3 * (suc from + length stages) + 2 = omega arith in
    (r.0, there (there (there r.1)), ap (shown n) e ∙ r.2)
