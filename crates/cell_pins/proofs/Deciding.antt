-- Which cells a netlist may use, and on which inputs their outputs depend, is decided.
use Rattle.std.proofs.Common.{◌≡◌, ◌≢◌, ◌⊎◌, inl, inr, ℕ, ◌≤◌, Bool, true, false, List, [], ◌∷◌, Option, None, Some, slice_get, refl, sym, ◌∙◌, ap, subst, arith}
use Rattle.std.specs.Prelude.{All, IsTrue, ◌↔◌}
use Rattle.std.proofs.lemmas.Bool.{cases_lt}
use Rattle.std.proofs.lemmas.Option.{same_Some}
use Rattle.vlsi_base.specs.declared.name.Name.{Name}
use Rattle.vlsi_base.specs.declared.name.Port.{Port}
use Rattle.vlsi_base.specs.declared.name.Dir.{Dir}
use Rattle.vlsi_base.specs.declared.name.Dir.TheVariants as dir
use Rattle.vlsi_base.specs.Member.{In, here, there, Picks, done, takes, skips}
use Rattle.vlsi_base.specs.Names.{vdd, vss}
use Rattle.machine_core.specs.Named.{is_same_name}
use Rattle.machine_core.proofs.Names.{same_name-true, same_name-itself}
use Rattle.sym_geom.specs.declared.layer.Layer.{Layer}
use Rattle.sym_geom.specs.declared.layer.Layer.TheVariants.{Talu}
use Rattle.sym_geom.specs.Metal.{metal_of, level_number}
use Rattle.sym_geom.specs.Items.{lower_metal}
use Rattle.sym_geom.specs.declared.item.Item.{Item}
use Rattle.sym_geom.specs.declared.item.Item.TheVariants as item
use Rattle.cell_model.specs.Function.{Function, gate, flip_flop, other, opaque}
use Rattle.cell_model.specs.declared.cell.Pin.{Pin}
use Rattle.cell_model.specs.Cell.{Cell}
use Rattle.cell_model.specs.Library.{IsLowBlockage, IsUsable}
use Rattle.cell_model.specs.Usable.{IsPlainForm, IsScalarPin, IsMappable, IsFormed, IsLowMetal, IsLowLayer, IsLow}
use Rattle.cell_model.specs.Connectors.{PinsAreConnectors}
use Rattle.cell_model.proofs.Members.{All-In, All-from}
use Rattle.cell_model.proofs.Mapped.{mapped, mapped_scalars, mapped_low, mappable_is_usable, usable_is_mappable}
use Rattle.cell_pins.specs.Pins.{IsClockPin}
use Rattle.cell_pins.specs.Follows.{DependsOn}
use Rattle.cell_pins.specs.Table.{DependsAt}

-- it holds, or it doesn't
abbrev pub Decided : Type 0 → Type 0
Decided P = P ⊎ (P → ⊥)

both : {A B : Type 0} → Decided A → Decided B → Decided (A × B)
both (inl a) (inl b) = inl (a, b)
both (inl a) (inr n) = inr (λ h. n h.1)
both (inr n) d = inr (λ h. n h.0)

none_or : {A : Type 0} (o : Option A) → Decided (o ≡ None)
none_or None = inl refl
none_or (Some x) = inr (λ e. cc)

at_most_one : (n : ℕ) → Decided (n ≤ 1)
at_most_one n = elim (cases_lt n 2) [ inl low ↦ inl (omega arith) | inr high ↦ inr (λ h. omega arith) ]

front_all : {A : Type 0} (P : A → Type 0) (x : A) (xs : List A) → P x → All P xs → All P (x ∷ xs)
front_all {A} P x xs p all = All-from P (x ∷ xs) each where
  each : (y : A) → In y (x ∷ xs) → P y
  each y here = p
  each y (there i) = All-In P xs all y i

all_or : {A : Type 0} (P : A → Type 0) → ((x : A) → Decided (P x)) → (xs : List A) → Decided (All P xs)
all_or P d [] = inl (All-from P [] (λ x h. elim h [ ]))
all_or P d (x ∷ xs) =
    elim (d x) [
      | inl p ↦ elim (all_or P d xs) [
        | inl all ↦ inl (front_all P x xs p all)
        | inr n ↦ inr (λ all. n (All-from P xs (λ y i. All-In P (x ∷ xs) all y (there i))))
      ]
      | inr n ↦ inr (λ all. n (All-In P (x ∷ xs) all x here))
    ]

same_name : (a b : Name) → Decided (a ≡ b)
same_name a b = by (is_same_name a b) refl where
  by : (r : Bool) → is_same_name a b ≡ r → Decided (a ≡ b)
  by true e = inl (same_name-true a b e)
  by false e = inr (λ same. let t : is_same_name a a ≡ true = same_name-itself a in let f : is_same_name a a ≡ false = ap (is_same_name a) same ∙ e in cc)

other_name : (a b : Name) → Decided (a ≢ b)
other_name a b = elim (same_name a b) [ inl e ↦ inr (λ n. n e) | inr n ↦ inl n ]

-- ---- usable cells

plain_or : (f : Function) → Decided (IsPlainForm f)
plain_or (gate e) = inl tt
plain_or (flip_flop a b) = inl tt
plain_or (other m) = inr (λ h. h)
plain_or opaque = inr (λ h. h)

low_metal : (o : Option ℕ) → Decided (IsLowMetal o)
low_metal None = inl tt
low_metal (Some metal) = at_most_one metal

low_blockage : (layer : Layer) → Decided (IsLowBlockage layer)
low_blockage (Talu level) = at_most_one (level_number level)
low_blockage _ = inl tt

low_layer : (layer : Layer) → Decided (IsLowLayer layer)
low_layer layer = both (low_metal (metal_of layer)) (low_blockage layer)

low_or : (one : Item) → Decided (IsLow one)
low_or (item.Segment s) = low_layer s.layer
low_or (item.Connector c) = low_layer c.layer
low_or (item.Via v) = none_or (lower_metal v.contact)
low_or (item.Instance i) = inl tt
low_or (item.Reference r) = inl tt
low_or (item.Remark text) = inl tt

mappable_or : (c : Cell) → Decided (IsMappable c)
mappable_or c =
    elim (plain_or c.function) [
      | inl form ↦ elim (all_or IsScalarPin (λ (p : Pin). none_or p.port.name.bit) c.pins) [
        | inl scalars ↦ elim (all_or IsLow low_or c.items) [ inl low ↦ inl (mapped c form scalars low) | inr n ↦ inr (λ m. n (mapped_low c m)) ]
        | inr n ↦ inr (λ m. n (mapped_scalars c m))
      ]
      | inr n ↦ inr (λ m. n m.form)
    ]

pub usable_or : (c : Cell) → IsFormed c → PinsAreConnectors c → Decided (IsUsable c)
usable_or c formed connectors =
    elim (mappable_or c) [ inl m ↦ inl (mappable_is_usable c formed connectors m) | inr n ↦ inr (λ u. n (usable_is_mappable c u)) ]

-- ---- clocks and dependences of a gate or a plain flip-flop

pub clock_or : (f : Function) → IsPlainForm f → (name : Name) → (b : Bool) × (IsTrue b ↔ IsClockPin f name)
clock_or (gate e) form name = (false, (λ t. absurd cc, λ h. absurd h))
clock_or (flip_flop data_pin clock_pin) form name =
    elim (same_name clock_pin name) [ inl e ↦ (true, (λ t. e, λ h. refl)) | inr n ↦ (false, (λ t. absurd cc, λ h. absurd (n h))) ]
clock_or (other machine) form name = absurd form
clock_or opaque form name = absurd form

output_or : (d : Dir) → Decided (d ≡ dir.Out)
output_or dir.In = inr (λ e. cc)
output_or dir.Out = inl refl

input_or : (d : Dir) → Decided (d ≡ dir.In)
input_or dir.In = inl refl
input_or dir.Out = inr (λ e. cc)

depends_or : (f : Function) → IsPlainForm f → (output input : Port) → Decided (DependsOn f output input)
depends_or (gate e) form output input =
    elim (output_or output.dir) [
      | inl out ↦ elim (input_or input.dir) [
        | inl into ↦ elim (both (other_name input.name vdd) (other_name input.name vss)) [ inl signal ↦ inl (out, into, signal) | inr n ↦ inr (λ h. n h.2) ]
        | inr n ↦ inr (λ h. n h.1)
      ]
      | inr n ↦ inr (λ h. n h.0)
    ]
depends_or (flip_flop data_pin clock_pin) form output input = inr (λ h. h.2)
depends_or (other machine) form output input = absurd form
depends_or opaque form output input = absurd form

depends_at : (f : Function) → IsPlainForm f → (ports : List Port) (output : Port) (place : ℕ) → Decided (DependsAt f ports output place)
depends_at f form ports output place = by (slice_get ports place) refl where
  by : (o : Option Port) → slice_get ports place ≡ o → Decided (DependsAt f ports output place)
  by None e = inr (λ h. let some : None ≡ Some h.0 = sym e ∙ h.1 in cc)
  by (Some input) e =
      elim (depends_or f form output input) [
        | inl yes_it ↦ inl (input, e, yes_it)
        | inr n ↦ inr (λ h. n (subst (λ (i : Port). DependsOn f output i) (same_Some h.0 input (sym h.1 ∙ e)) h.2))
      ]

picked : (P : ℕ → Type 0) → ((k : ℕ) → Decided (P k)) → (xs : List ℕ) → (ys : List ℕ) × Picks P xs ys
picked P d [] = ([], done)
picked P d (x ∷ xs) = let r = picked P d xs in elim (d x) [ inl h ↦ (x ∷ r.0, takes h r.1) | inr n ↦ (r.0, skips n r.1) ]

pub depended : (f : Function) → IsPlainForm f → (ports : List Port) (output : Port) (places : List ℕ) → (ys : List ℕ) × Picks (DependsAt f ports output) places ys
depended f form ports output places = picked (DependsAt f ports output) (depends_at f form ports output) places
