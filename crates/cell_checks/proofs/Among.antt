-- Names that stand in a list.
use Rattle.std.proofs.Common.{◌≡◌, ℕ, ◌<◌, ◌⊎◌, inl, inr, List, length, get_or, refl, subst, sym, ◌∙◌}
use Rattle.vlsi_base.specs.declared.name.Name.{Name}
use Rattle.vlsi_base.specs.Member.{In, here, there}
use Rattle.vlsi_base.specs.Names.{vdd, vss}
use Rattle.machine_core.specs.Machine.{names_of}
use Rattle.sym_shapes.specs.Shape.{connector_names}
use Rattle.cell_model.specs.Cell.{Cell, pin_ports}
use Rattle.cell_model.specs.Connectors.{PinsAreConnectors}
use Rattle.cell_checks.specs.Shapes.{wanted}
use Rattle.cell_model.proofs.Members.{In-at, place-In}

pub among_at : (names : List Name) (name x : Name) (k : ℕ) → k < length names → x ≡ get_or names k x → x ≡ name → In name names
among_at names name x k h at is = subst (λ n. In n names) (sym at ∙ is) (In-at names k x h)

-- all first n names of the list are others
abbrev pub NoneIs : List Name → Name → ℕ → Type 0
NoneIs names name n = (i : ℕ) (d : Name) → i < n → get_or names i d ≡ name → ⊥

pub none_among : (names : List Name) (name : Name) → NoneIs names name (length names) → In name names → ⊥
none_among names name none h = let r = place-In name names h in none r.0 name r.1 (r.2 name)

-- the first n names of the list stand in the other
abbrev pub FirstAmong : List Name → List Name → ℕ → Type 0
FirstAmong names others n = (i : ℕ) (d : Name) → i < n → In (get_or names i d) others

pub all_of : (names others : List Name) → FirstAmong names others (length names) → (name : Name) → In name names → In name others
all_of names others first name h = let r = place-In name names h in subst (λ n. In n others) (r.2 name) (first r.0 name r.1)

pub not_all : (names others : List Name) (k : ℕ) (x : Name) → k < length names → x ≡ get_or names k x → (In x others → ⊥)
    → ((name : Name) → In name names → In name others) → ⊥
not_all names others k x h at none all = none (all x (among_at names x x k h at refl))

pub wanted_cases : (c : Cell) (n : Name) → In n (wanted c) → (n ≡ vdd) ⊎ ((n ≡ vss) ⊎ In n (names_of (pin_ports c)))
wanted_cases c n here = inl refl
wanted_cases c n (there here) = inr (inl refl)
wanted_cases c n (there (there h)) = inr (inr h)

pub wanted_joined : (c : Cell) (n : Name) → (n ≡ vdd) ⊎ ((n ≡ vss) ⊎ In n (names_of (pin_ports c))) → In n (wanted c)
wanted_joined c n (inl h) = subst (λ m. In m (wanted c)) (sym h) here
wanted_joined c n (inr (inl h)) = subst (λ m. In m (wanted c)) (sym h) (there here)
wanted_joined c n (inr (inr h)) = there (there h)

pub both_ways : (c : Cell) → ((name : Name) → In name (connector_names c.items) → In name (wanted c))
    → ((name : Name) → In name (wanted c) → In name (connector_names c.items)) → PinsAreConnectors c
both_ways c forth back name = (λ h. wanted_cases c name (forth name h), λ h. back name (wanted_joined c name h))

pub one_way : (c : Cell) → PinsAreConnectors c → (name : Name) → In name (connector_names c.items) → In name (wanted c)
one_way c same name h = wanted_joined c name ((same name).0 h)

pub other_way : (c : Cell) → PinsAreConnectors c → (name : Name) → In name (wanted c) → In name (connector_names c.items)
other_way c same name h = (same name).1 (wanted_cases c name h)
