-- The ports of a text with the supplies behind them: their groups, and what an entity of them declares.
use Rattle.std.proofs.Common.{◌≡◌, ◌⊎◌, inl, inr, ℕ, ◌+◌, ◌<◌, ◌≤◌, Bool, true, false, cond, List, [], ◌∷◌, ◌++◌, map, length, bytes_eq, refl, ap, ◌∙◌, arith, codes}
use Rattle.std.specs.List.{All}
use Rattle.std.proofs.lemmas.List.{map-append}
use Rattle.std.proofs.lemmas.List.Elements.{All-head, All-tail, All-cons, All-nil, All-weaker}
use Rattle.vlsi_base.specs.declared.name.Port.{Port}
use Rattle.vlsi_base.specs.declared.name.Dir.TheVariants as dir
use Rattle.vlsi_base.specs.Names.{vdd, vss}
use Rattle.machine_core.specs.Checked.{IsNoSupply}
use Rattle.grammar_theory.specs.declared.limits.TheConstants.{BITS}
use Rattle.vhdl_print.specs.Outline.{OnePort}
use Rattle.vhdl_print.specs.EntityAgain.{IsName, CanBeAPort, CanBeWritten, IsApart, AreApart, all_bits}
use Rattle.net_core.proofs.Lookups.{same_of}
use Rattle.vst_print.specs.Groups.{Group, group_of, led_by, grouped, declared, outline_of}
use Rattle.vst_print.proofs.Entries.{Entry, Differs, AreDifferent, port_entry, total_bits}
use Rattle.vbe_print.specs.Written.{with_supply_ports}

-- ---- groups

apart_text : (t u : List ℕ) → (t ≡ u → ⊥) → bytes_eq t u ≡ false
apart_text t u h = by (bytes_eq t u) refl where
  by : (b : Bool) → bytes_eq t u ≡ b → bytes_eq t u ≡ false
  by true e = absurd (h (same_of t u e))
  by false e = e

abbrev IsOther : Port → Group → Type 0
IsOther p g = p.name.text ≡ g.text → ⊥

led_apart : (p : Port) (gs xs : List Group) → All (λ g. p.name.text ≡ g.text → ⊥) xs → led_by p (gs ++ xs) ≡ led_by p gs ++ xs
led_apart p [] [] h = refl
led_apart p [] (x ∷ xs) h =
    ap (λ (b : Bool). cond b (record x { dir = p.dir; low = p.name.bit } ∷ xs) (group_of p p ∷ x ∷ xs)) (apart_text p.name.text x.text (All-head (IsOther p) x xs h))
led_apart p (g ∷ gs) xs h = by (bytes_eq p.name.text g.text) where
  by : (b : Bool) → cond b (record g { dir = p.dir; low = p.name.bit } ∷ gs ++ xs) (group_of p p ∷ g ∷ gs ++ xs) ≡ cond b (record g { dir = p.dir; low = p.name.bit } ∷ gs) (group_of p p ∷ g ∷ gs) ++ xs
  by true = refl
  by false = refl

grouped_apart : (ps qs : List Port) → All (λ p. All (λ g. p.name.text ≡ g.text → ⊥) (grouped qs)) ps → grouped (ps ++ qs) ≡ grouped ps ++ grouped qs
grouped_apart [] qs h = refl
grouped_apart (p ∷ ps) qs h =
    let P : Port → Type 0 = λ p. All (λ g. p.name.text ≡ g.text → ⊥) (grouped qs) in
    ap (led_by p) (grouped_apart ps qs (All-tail P p ps h)) ∙ led_apart p (grouped ps) (grouped qs) (All-head P p ps h)

abbrev pub supply_ports : List Port
supply_ports = record { name = vdd; dir = dir.In } ∷ record { name = vss; dir = dir.In } ∷ []

abbrev pub supply_groups : List Group
supply_groups = group_of (record { name = vdd; dir = dir.In }) (record { name = vdd; dir = dir.In }) ∷ group_of (record { name = vss; dir = dir.In }) (record { name = vss; dir = dir.In }) ∷ []

no_supply : (p : Port) → IsNoSupply p.name → All (λ g. p.name.text ≡ g.text → ⊥) supply_groups
no_supply p n =
    let one : Port = record { name = vdd; dir = dir.In } in
    let two : Port = record { name = vss; dir = dir.In } in
    All-cons (IsOther p) (group_of one one) (group_of two two ∷ []) n.0 (All-cons (IsOther p) (group_of two two) [] n.1 (All-nil (IsOther p)))

pub groups_supplied : (ports : List Port) → All (λ p. IsNoSupply p.name) ports → grouped (with_supply_ports ports) ≡ grouped ports ++ supply_groups
groups_supplied ports all =
    grouped_apart ports supply_ports (All-weaker (λ (p : Port). IsNoSupply p.name) (λ (p : Port). All (λ g. p.name.text ≡ g.text → ⊥) supply_groups) no_supply ports all)

-- what the entity declares
abbrev pub all_declared : List Port → List OnePort
all_declared ports = map declared (grouped ports) ++ map declared supply_groups

pub declared_supplied : (ports : List Port) → All (λ p. IsNoSupply p.name) ports → map declared (grouped (with_supply_ports ports)) ≡ all_declared ports
declared_supplied ports all = ap (map declared) (groups_supplied ports all) ∙ map-append declared (grouped ports) supply_groups

-- ---- outlines

pub written_outline : (name : List ℕ) (ps : List OnePort) → 0 < length ps → IsName name → All CanBeAPort ps → AreApart ps → all_bits ps ≤ BITS → CanBeWritten (outline_of name ps)
written_outline name [] some is can apart few = absurd (omega arith)
written_outline name (p ∷ ps) some is can apart few = record { name = is; first = All-head CanBeAPort p ps can; others = All-tail CanBeAPort p ps can; apart = apart; bits = few }

-- ports whose entries differ are apart
pub apart_ports : (ps : List OnePort) → AreDifferent (map port_entry ps) → AreApart ps
apart_ports [] d = tt
apart_ports (p ∷ ps) d = (each ps d.0, apart_ports ps d.1) where
  each : (qs : List OnePort) → Differs p.name (map port_entry qs) → IsApart p.name qs
  each [] h = All-nil (λ (q : OnePort). p.name ≡ q.name → ⊥)
  each (q ∷ qs) h =
      All-cons (λ (q : OnePort). p.name ≡ q.name → ⊥) q qs (All-head (λ (f : Entry). p.name ≡ f.key → ⊥) (port_entry q) (map port_entry qs) h)
      (each qs (All-tail (λ (f : Entry). p.name ≡ f.key → ⊥) (port_entry q) (map port_entry qs) h))

pub bits_append : (ps qs : List OnePort) → all_bits (ps ++ qs) ≡ all_bits ps + all_bits qs
bits_append [] qs = omega arith
bits_append (p ∷ ps) qs = omega (arith, bits_append ps qs)

pub total_declared : (ps : List OnePort) → total_bits (map port_entry ps) ≡ all_bits ps
total_declared [] = refl
total_declared (p ∷ ps) = omega (arith, total_declared ps)

-- the keys of what groups declare are their texts
pub group_keys : (P : List ℕ → Type 0) (gs : List Group) → All (λ g. P g.text) gs → All (λ e. P e.key) (map port_entry (map declared gs))
group_keys P [] all = All-nil (λ (e : Entry). P e.key)
group_keys P (g ∷ gs) all = All-cons (λ (e : Entry). P e.key) (port_entry (declared g)) (map port_entry (map declared gs)) (All-head (λ (x : Group). P x.text) g gs all) (group_keys P gs (All-tail (λ (x : Group). P x.text) g gs all))

-- a supply's text
abbrev pub IsSupplyText : List ℕ → Type 0
IsSupplyText t = (t ≡ codes "vdd") ⊎ (t ≡ codes "vss")

pub supply_keys : All (λ e. IsSupplyText e.key) (map port_entry (map declared supply_groups))
supply_keys =
    let one : Port = record { name = vdd; dir = dir.In } in
    let two : Port = record { name = vss; dir = dir.In } in
    group_keys IsSupplyText supply_groups
    (All-cons (λ (g : Group). IsSupplyText g.text) (group_of one one) (group_of two two ∷ []) (inl refl) (All-cons (λ (g : Group). IsSupplyText g.text) (group_of two two) [] (inr refl) (All-nil (λ (g : Group). IsSupplyText g.text))))
