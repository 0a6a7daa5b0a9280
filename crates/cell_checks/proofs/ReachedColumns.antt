-- The columns in which the pins of a cell are reached, one after another.
use Rattle.std.proofs.Common.{◌≡◌, ◌≢◌, inl, inr, ℕ, ◌+◌, ◌*◌, ◌<◌, pos, ℤ, List, [], ◌∷◌, ◌++◌, length, get_or, Option, None, Some, AllPairs, refl, sym, ap, subst, ◌∙◌, arith}
use Rattle.std.specs.Prelude.{option_map}
use Rattle.std.proofs.lemmas.Int.{ints}
use Rattle.std.proofs.lemmas.Bool.{cases_lt}
use Rattle.std.proofs.lemmas.List.{length-map, length-append, get_or_append_left, get_or-map}
use Rattle.std.proofs.Math.Seq.{get_or-append_seam}
use Rattle.vlsi_base.specs.declared.name.Name.{Name}
use Rattle.vlsi_base.specs.declared.name.Port.{Port}
use Rattle.vlsi_base.specs.Member.{In}
use Rattle.vlsi_base.specs.Names.{vdd}
use Rattle.machine_core.specs.Machine.{names_of}
use Rattle.sym_geom.specs.declared.grid.TheConstants.{PITCH}
use Rattle.cell_model.specs.declared.cell.Pin.{Pin}
use Rattle.cell_model.specs.Cell.{Cell, pin_ports}
use Rattle.cell_model.specs.Usable.{IsFormed}
use Rattle.cell_model.specs.Access.{Point, access_point}
use Rattle.cell_model.proofs.Members.{In-at, place-In}
use Rattle.cell_checks.specs.Checks.{ColumnsDiffer}
use Rattle.cell_checks.specs.Nodes.{IsReachedAt, AreReachedAt}
use Rattle.cell_checks.proofs.PinsApart.{before_differs}

-- the columns of the first n pins
pub record FirstReached (c : Cell) (columns : List (Option ℕ)) (n : ℕ) : Type 0 where
  pub many : length columns ≡ n
  pub each : (i : ℕ) (d : Name) (e : Option ℕ) → i < n → IsReachedAt c (get_or (names_of (pin_ports c)) i d) (get_or columns i e)

name_at : (c : Cell) (n : ℕ) (pin : Pin) (d : Name) → n < length c.pins → pin ≡ get_or c.pins n pin → pin.port.name ≡ get_or (names_of (pin_ports c)) n d
name_at c n pin d less at =
    let inner : n < length (pin_ports c) = omega (arith, length-map c.pins (λ (p : Pin). p.port)) in
    ap (λ (p : Pin). p.port.name) at
    ∙ ap (λ (p : Port). p.name) (sym (get_or-map (λ (p : Pin). p.port) c.pins n pin pin.port less))
    ∙ sym (get_or-map (λ (p : Port). p.name) (pin_ports c) n pin.port d inner)

pub one_more_reached : (c : Cell) (pins : List Pin) (columns : List (Option ℕ)) (n : ℕ) (pin : Pin) (column : Option ℕ) → pins ≡ c.pins
    → FirstReached c columns n → n < length pins → pin ≡ get_or pins n pin → IsReachedAt c pin.port.name column → FirstReached c (columns ++ column ∷ []) (n + 1)
one_more_reached c pins columns n pin column same first less at reached = record {
  many = let m = first.many in omega (arith, length-append columns (column ∷ []));
  each = λ i d e below.
      let m = first.many in
      elim (cases_lt i n) [
        | inl before ↦ subst (IsReachedAt c (get_or (names_of (pin_ports c)) i d)) (sym (get_or_append_left columns (column ∷ []) e i (omega arith))) (first.each i d e before)
        | inr past ↦
            let is : n ≡ i = omega arith in
            let lt : n < length c.pins = subst (λ (ps : List Pin). n < length ps) same less in
            let stands : pin ≡ get_or c.pins n pin = at ∙ ap (λ (ps : List Pin). get_or ps n pin) same in
            let last : column ≡ get_or (columns ++ column ∷ []) n e = sym (ap (λ k. get_or (columns ++ column ∷ []) k e) (sym m) ∙ get_or-append_seam columns column [] e) in
            subst (λ k. IsReachedAt c (get_or (names_of (pin_ports c)) k d) (get_or (columns ++ column ∷ []) k e)) is
            (subst (λ (name : Name). IsReachedAt c name (get_or (columns ++ column ∷ []) n e)) (name_at c n pin d lt stands)
            (subst (IsReachedAt c pin.port.name) last reached))
      ];
}

pub all_reached : (c : Cell) (pins : List Pin) (columns : List (Option ℕ)) (n : ℕ) → pins ≡ c.pins → n ≡ length pins → FirstReached c columns n → AreReachedAt c columns
all_reached c pins columns n same all first = record {
  many = first.many ∙ all ∙ ap length same ∙ sym (length-map c.pins (λ (p : Pin). p.port)) ∙ sym (length-map (pin_ports c) (λ (p : Port). p.name));
  each = λ i d e below. first.each i d e (let m = first.many in omega arith);
}
