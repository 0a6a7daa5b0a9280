-- Joined shapes by their numbers.
use Rattle.std.proofs.Common.{◌≡◌, pos, ℕ, ◌<◌, ◌⊎◌, inl, inr, List, length, get_or, Option, None, Some, IfSome, IfNone, All, sym, ap, subst, ◌∙◌}
use Rattle.vlsi_base.specs.declared.name.Name.{Name}
use Rattle.vlsi_base.specs.Member.{In}
use Rattle.sym_geom.specs.declared.rect.Rect.{Rect}
use Rattle.sym_geom.specs.Rect.{Apart}
use Rattle.sym_geom.specs.declared.grid.TheConstants.{LEAST_GAP}
use Rattle.sym_shapes.specs.Shape.{Shape}
use Rattle.sym_shapes.specs.Joined.{Joined, itself, through, one_name}
use Rattle.sym_shapes.proofs.Labels.{first_In, last_In}
use Rattle.cell_model.proofs.Members.{In-at, place-In, All-In}
use Rattle.cell_checks.specs.Shapes.{AreNumbered, HasNumber, IsNoConnector, AreApart, KeepsOff}

-- a shape that is joined to a connector of the name has the name's number
pub tied_number : (shapes : List Shape) (numbers : List ℕ) → AreNumbered shapes numbers → (name : Name) (n : ℕ) → HasNumber shapes numbers name n
    → (pin : Shape) → pin.name ≡ Some name → (i : ℕ) (d : Shape) → i < length shapes → Joined shapes pin (get_or shapes i d) → get_or numbers i 0 ≡ n
tied_number shapes numbers numbered name n has pin named i d lt j =
    let first : In (get_or shapes has.place d) shapes = In-at shapes has.place d has.within in
    let owner : (get_or shapes has.place d).owner ≡ pin.owner =
    numbered.drawn has.place d has.within ∙ sym (All-In (λ (s : Shape). s.owner ≡ None) shapes numbered.drawn pin (first_In j)) in
    let chain : Joined shapes (get_or shapes has.place d) (get_or shapes i d) = through first (one_name owner name (has.named d) named) j in
    sym ((numbered.joined has.place i d has.within lt).1 chain) ∙ has.number

pub number_tied : (shapes : List Shape) (numbers : List ℕ) → AreNumbered shapes numbers → (name : Name) (n : ℕ) → (has : HasNumber shapes numbers name n)
    → (i : ℕ) (d : Shape) → i < length shapes → get_or numbers i 0 ≡ n → Joined shapes (get_or shapes has.place d) (get_or shapes i d)
number_tied shapes numbers numbered name n has i d lt is = (numbered.joined has.place i d has.within lt).0 (has.number ∙ sym is)

pub apart_numbers : (shapes : List Shape) (numbers : List ℕ) → AreNumbered shapes numbers → (m n : Name) (a b : ℕ)
    → HasNumber shapes numbers m a → HasNumber shapes numbers n b → (a ≡ b → ⊥) → AreApart shapes m n
apart_numbers shapes numbers numbered m n a b one other differ x y is_m is_n j =
    let p = place-In y shapes (last_In j) in
    let k : Joined shapes x (get_or shapes p.0 y) = subst (Joined shapes x) (sym (p.2 y)) j in
    let first = tied_number shapes numbers numbered m a one x is_m p.0 y p.1 k in
    let own : Joined shapes y (get_or shapes p.0 y) = subst (Joined shapes y) (sym (p.2 y)) (itself (last_In j)) in
    let second = tied_number shapes numbers numbered n b other y is_n p.0 y p.1 own in
    differ (sym first ∙ second)

pub numbers_apart : (shapes : List Shape) (numbers : List ℕ) → AreNumbered shapes numbers → (m n : Name) (a b : ℕ)
    → HasNumber shapes numbers m a → HasNumber shapes numbers n b → AreApart shapes m n → a ≡ b → ⊥
numbers_apart shapes numbers numbered m n a b one other apart same =
    let d : Shape = record { metal = 0; rect = record { x1 = pos 0; y1 = pos 0; x2 = pos 0; y2 = pos 0 }; owner = None; line = 0; name = None } in
    apart (get_or shapes one.place d) (get_or shapes other.place d) (one.named d) (other.named d)
    ((numbered.joined one.place other.place d one.within other.within).0 (one.number ∙ same ∙ sym other.number))

pub none_apart : (shapes : List Shape) (m n : Name) → All (IsNoConnector m) shapes → AreApart shapes m n
none_apart shapes m n none x y is_m is_n j = All-In (IsNoConnector m) shapes none x (first_In j) is_m

pub none_apart_right : (shapes : List Shape) (m n : Name) → All (IsNoConnector n) shapes → AreApart shapes m n
none_apart_right shapes m n none x y is_m is_n j = All-In (IsNoConnector n) shapes none y (last_In j) is_n

-- what is known of a name's number
pub record Told (shapes : List Shape) (numbers : List ℕ) (name : Name) (tied : Option ℕ) : Type 0 where
  pub number : IfSome tied (HasNumber shapes numbers name)
  pub none : IfNone tied (All (IsNoConnector name) shapes)

-- the test of one shape, by its number
abbrev pub OffAt : List Shape → List ℕ → Option ℕ → Rect → ℕ → Type 0
OffAt shapes numbers tied r i = (d : Shape) → (get_or shapes i d).metal ≡ 1 → (tied ≡ Some (get_or numbers i 0)) ⊎ Apart LEAST_GAP (get_or shapes i d).rect r

pub off_at : (shapes : List Shape) (numbers : List ℕ) → AreNumbered shapes numbers → (name : Name) (tied : Option ℕ) (r : Rect) (i : ℕ) (d : Shape)
    → Told shapes numbers name tied → i < length shapes
    → ((get_or shapes i d).metal ≡ 1 → (tied ≡ Some (get_or numbers i 0)) ⊎ Apart LEAST_GAP (get_or shapes i d).rect r)
    → KeepsOff shapes name r (get_or shapes i d)
off_at shapes numbers numbered name None r i d told_ lt off metal =
    elim (off metal) [
      | inl h ↦ absurd (let e = h in cc)
      | inr h ↦ inr h
    ]
off_at shapes numbers numbered name (Some n) r i d told_ lt off metal =
    elim (off metal) [
      | inl h ↦ let e : n ≡ get_or numbers i 0 = cc in
          inl (get_or shapes told_.number.place d, told_.number.named d, number_tied shapes numbers numbered name n told_.number i d lt (sym e))
      | inr h ↦ inr h
    ]

pub at_off : (shapes : List Shape) (numbers : List ℕ) → AreNumbered shapes numbers → (name : Name) (tied : Option ℕ) (r : Rect) (i : ℕ) (d : Shape)
    → Told shapes numbers name tied → i < length shapes → KeepsOff shapes name r (get_or shapes i d)
    → (get_or shapes i d).metal ≡ 1 → (tied ≡ Some (get_or numbers i 0)) ⊎ Apart LEAST_GAP (get_or shapes i d).rect r
at_off shapes numbers numbered name None r i d told_ lt keeps metal =
    elim (keeps metal) [
      | inl h ↦ absurd (All-In (IsNoConnector name) shapes told_.none h.0 (first_In h.2) h.1)
      | inr h ↦ inr h
    ]
at_off shapes numbers numbered name (Some n) r i d told_ lt keeps metal =
    elim (keeps metal) [
      | inl h ↦ inl (ap Some (sym (tied_number shapes numbers numbered name n told_.number h.0 h.1 i d lt h.2)))
      | inr h ↦ inr h
    ]

-- the same of a shape that was read at its place
pub off_it : (shapes : List Shape) (numbers : List ℕ) → AreNumbered shapes numbers → (name : Name) (tied : Option ℕ) (r : Rect) (i : ℕ) (s : Shape)
    → Told shapes numbers name tied → i < length shapes → s ≡ get_or shapes i s
    → (s.metal ≡ 1 → (tied ≡ Some (get_or numbers i 0)) ⊎ Apart LEAST_GAP s.rect r) → KeepsOff shapes name r s
off_it shapes numbers numbered name tied r i s known lt at off =
    subst (KeepsOff shapes name r) (sym at)
    (off_at shapes numbers numbered name tied r i s known lt
    (subst (λ (x : Shape). x.metal ≡ 1 → (tied ≡ Some (get_or numbers i 0)) ⊎ Apart LEAST_GAP x.rect r) at off))

pub it_off : (shapes : List Shape) (numbers : List ℕ) → AreNumbered shapes numbers → (name : Name) (tied : Option ℕ) (r : Rect) (i : ℕ) (s : Shape)
    → Told shapes numbers name tied → i < length shapes → s ≡ get_or shapes i s
    → KeepsOff shapes name r s → s.metal ≡ 1 → (tied ≡ Some (get_or numbers i 0)) ⊎ Apart LEAST_GAP s.rect r
it_off shapes numbers numbered name tied r i s known lt at keeps =
    subst (λ (x : Shape). x.metal ≡ 1 → (tied ≡ Some (get_or numbers i 0)) ⊎ Apart LEAST_GAP x.rect r) (sym at)
    (at_off shapes numbers numbered name tied r i s known lt (subst (KeepsOff shapes name r) at keeps))
