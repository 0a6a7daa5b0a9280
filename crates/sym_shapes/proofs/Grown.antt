-- Entries that are put behind others, one for each band.
use Rattle.std.proofs.Common.{◌≡◌, ℕ, ◌+◌, ◌/◌, ◌^◌, ◌<◌, ◌≤◌, min, inl, inr, List, [], ◌∷◌, ◌++◌, sym, ap, subst, arith}
use Rattle.std.specs.List.{Contains}
use Rattle.std.proofs.lemmas.Bool.{cases_lt}
use Rattle.std.proofs.lemmas.List.Elements.{Contains-append_left, Contains-push, Contains-push_cases}
use Rattle.sym_geom.specs.declared.rect.Rect.{Rect}
use Rattle.sym_shapes.specs.Shape.{Shape}
use Rattle.sym_shapes.specs.declared.bands.Cut.{Cut}
use Rattle.sym_shapes.specs.declared.sweep.Entry.{Entry}
use Rattle.sym_shapes.specs.Bands.{laid, IsLevel, band_of, entry_at, IsEntered, AddsOf}

-- from the band `low` up to `high`, all of one rectangle are there
pub record Climbs (olds news : List Entry) (metal : ℕ) (r : Rect) (place low high : ℕ) : Type 0 where
  pub adds : AddsOf olds news place
  pub each : (b : ℕ) → low ≤ b → b ≤ high → Contains news (entry_at metal r place b)

pub climbs : (olds news : List Entry) (metal : ℕ) (r : Rect) (place low high : ℕ) → Climbs olds news metal r place low high
    → Climbs olds (news ++ entry_at metal r place (high + 1) ∷ []) metal r place low (high + 1)
climbs olds news metal r place low high c =
    let last : Entry = entry_at metal r place (high + 1) in
    record {
      adds = record {
        kept = λ e h. Contains-append_left news (last ∷ []) e (c.adds.kept e h);
        only = λ e h other. elim (Contains-push_cases news last e h) [
          | inl before ↦ c.adds.only e before other
          | inr is ↦ absurd (other (ap (λ (x : Entry). x.place) (sym is)))
        ];
      };
      each = λ b from upto. elim (cases_lt high b) [
        | inl above ↦ let e : high + 1 ≡ b = omega arith in subst (λ (k : ℕ). Contains (news ++ last ∷ []) (entry_at metal r place k)) e (Contains-push news last)
        | inr within ↦ Contains-append_left news (last ∷ []) (entry_at metal r place b) (c.each b from within)
      ];
    }

-- once the last band is reached, the shape is entered
pub entered : (cut : Cut) (s : Shape) (place low high shift band metal : ℕ) (r : Rect) (olds news : List Entry)
    → metal ≡ s.metal → r ≡ laid cut s.rect → shift ≡ min cut.shift 63 → IsLevel r.y1 low → IsLevel r.y2 high
    → Climbs olds news metal r place (low / 2 ^ shift) band → low / 2 ^ shift ≤ band → high / 2 ^ shift ≤ band → IsEntered cut s place news
entered cut s place low high shift band metal r olds news metal_is r_is shift_is low_is high_is c above top =
    let moved : (b : ℕ) → Contains news (entry_at metal r place b) → Contains news (entry_at s.metal (laid cut s.rect) place b) = λ b h.
    subst (λ (x : ℕ). Contains news (entry_at x (laid cut s.rect) place b)) metal_is (subst (λ (x : Rect). Contains news (entry_at metal x place b)) r_is h) in
    record {
      low = low;
      high = high;
      low_is = subst (λ (x : Rect). IsLevel x.y1 low) r_is low_is;
      high_is = subst (λ (x : Rect). IsLevel x.y2 high) r_is high_is;
      first = moved (band_of cut low) (subst (λ (x : ℕ). Contains news (entry_at metal r place (low / 2 ^ x))) shift_is (c.each (low / 2 ^ shift) (omega arith) above));
      each = λ b from upto.
          let from_low : low / 2 ^ shift ≤ b = subst (λ (x : ℕ). low / 2 ^ x ≤ b) (sym shift_is) from in
          let to_high : b ≤ high / 2 ^ shift = subst (λ (x : ℕ). b ≤ high / 2 ^ x) (sym shift_is) upto in
          moved b (c.each b from_low (omega (arith, to_high, top)));
    }

-- what was entered stays entered
pub kept_entered : (cut : Cut) (s : Shape) (place other : ℕ) (olds news : List Entry) → AddsOf olds news other → IsEntered cut s place olds → IsEntered cut s place news
kept_entered cut s place other olds news adds e = record {
  low = e.low;
  high = e.high;
  low_is = e.low_is;
  high_is = e.high_is;
  first = adds.kept (entry_at s.metal (laid cut s.rect) place (band_of cut e.low)) e.first;
  each = λ b from upto. adds.kept (entry_at s.metal (laid cut s.rect) place b) (e.each b from upto);
}

-- where the new place is within, all places are
pub places_on : (n place : ℕ) (olds news : List Entry) → AddsOf olds news place → place < n → ((e : Entry) → Contains olds e → e.place < n)
    → (e : Entry) → Contains news e → e.place < n
places_on n place olds news adds within before e h = elim (cases_lt e.place n) [
  | inl lt ↦ lt
  | inr ge ↦ before e (adds.only e h (λ same. omega (arith, same, ge, within)))
]
