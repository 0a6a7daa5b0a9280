-- How wide the instances of a netlist are.
use Rattle.std.proofs.Common.{◌≡◌, ℕ, zero, suc, ◌*◌, ◌/◌, ◌<◌, ◌≤◌, false, List, [], ◌∷◌, length, map, slice_index, sum, refl, sym, ap, ◌∙◌, arith}
use Rattle.std.specs.Prelude.{pos}
use Rattle.std.specs.List.{All}
use Rattle.std.proofs.lemmas.Int.{ints}
use Rattle.std.proofs.lemmas.List.Sums.{sum_by-le}
use Rattle.std.proofs.lemmas.Simd.{map-map}
use Rattle.std.proofs.lemmas.List.Elements.{All-nil, All-cons}
use Rattle.vlsi_base.specs.Member.{In, here, there}
use Rattle.cell_model.specs.Cell.{cell_width}
use Rattle.cell_model.specs.Library.{Library}
use Rattle.cell_model.proofs.Mapped.{usable_is_mappable}
use Rattle.cell_checks.specs.Checked.{IsChecked as HasPassed}
use Rattle.net_meaning.specs.Netlist.{Member, AbstractNetlist}
use Rattle.ocp_rows.specs.Placement.{natural, model_width, width_of}
use Rattle.ocp_place.specs.Orderly.{IsOrderly}
use Rattle.ocp_place.specs.Stood.{member, instance_widths, instance_columns}
use Rattle.ocp_place.proofs.Models.{cell_row, cell_narrow}

-- an instance is some columns wide, at most 32
pub record HasWidth (l : Library) (m : Member) : Type 0 where
  pub columns : ℕ
  pub is : model_width l m.model ≡ pos (500 * columns)
  pub some : 1 ≤ columns
  pub few : columns ≤ 32

pub member_in : (ms : List Member) (c : ℕ) → c < length ms → In (member ms c) ms
member_in [] c low = absurd (omega arith)
member_in (m ∷ ms) zero low = here
member_in (m ∷ ms) (suc c) low = there (member_in ms c (omega arith))

mapped_at : (f : Member → ℕ) (ms : List Member) (c : ℕ) → c < length ms → slice_index (map f ms) c ≡ f (member ms c)
mapped_at f [] c low = absurd (omega arith)
mapped_at f (m ∷ ms) zero low = refl
mapped_at f (m ∷ ms) (suc c) low = mapped_at f ms c (omega arith)

-- widths in columns
pub columns_of : (l : Library) (ms : List Member) (widths : List ℕ) → widths ≡ instance_widths l ms → map (λ w. w / 500) widths ≡ instance_columns l ms
columns_of l ms widths e = ap (map (λ (w : ℕ). w / 500)) e ∙ map-map (λ (w : ℕ). w / 500) (λ m. natural (model_width l m.model)) ms

module _ (k : AbstractNetlist) (l : Library) (passed : HasPassed false l) (orderly : IsOrderly k l) where
  pub wide : (m : Member) → In m k.instances → HasWidth l m
  wide m h =
      let r = orderly.models m h in
      let mappable = usable_is_mappable r.0 r.2 in
      let row = cell_row l m.model r.0 passed r.1 mappable in
      let narrow = cell_narrow l m.model r.0 passed r.1 mappable in
      let left = row.box.left in let right = row.box.right in
      let width : cell_width r.0 ≡ pos (500 * row.columns) = omega (arith, ints) in
      record {
        columns = row.columns;
        is = ap width_of r.1 ∙ width;
        some = row.box.wide;
        few = omega (arith, ints);
      }

  pub width_at : (c : ℕ) → c < length k.instances → model_width l (member k.instances c).model ≡ pos (slice_index (instance_widths l k.instances) c)
  width_at c low =
      let w = wide (member k.instances c) (member_in k.instances c low) in
      w.is ∙ ap pos (ap natural (sym w.is) ∙ sym (mapped_at (λ m. natural (model_width l m.model)) k.instances c low))

  -- in columns
  columns_are : (m : Member) (w : HasWidth l m) → natural (model_width l m.model) / 500 ≡ w.columns
  columns_are m w = ap (λ z. natural z / 500) w.is ∙ (let e : 500 * w.columns / 500 ≡ w.columns = omega arith in e)

  pub columns_all : All (λ w. (0 < w) × (w ≤ 32)) (instance_columns l k.instances)
  columns_all = each k.instances (λ m h. h) where
    each : (ms : List Member) → ((m : Member) → In m ms → In m k.instances) → All (λ w. (0 < w) × (w ≤ 32)) (instance_columns l ms)
    each [] inside = All-nil (λ w. (0 < w) × (w ≤ 32))
    each (m ∷ ms) inside =
        let w = wide m (inside m here) in
        let e = columns_are m w in
        let some = w.some in let few = w.few in
        All-cons (λ w. (0 < w) × (w ≤ 32)) (natural (model_width l m.model) / 500) (instance_columns l ms) (omega arith, omega arith) (each ms (λ n h. inside n (there h)))

  -- hundredths and columns
  pub columns_at : (c : ℕ) → slice_index (instance_widths l k.instances) c ≡ 500 * slice_index (instance_columns l k.instances) c
  columns_at c = each k.instances (λ m h. h) c where
    each : (ms : List Member) → ((m : Member) → In m ms → In m k.instances) → (c : ℕ) → slice_index (instance_widths l ms) c ≡ 500 * slice_index (instance_columns l ms) c
    each [] inside c = omega arith
    each (m ∷ ms) inside zero =
        let w = wide m (inside m here) in
        ap natural w.is ∙ ap (λ (x : ℕ). 500 * x) (sym (columns_are m w))
    each (m ∷ ms) inside (suc c) = each ms (λ n h. inside n (there h)) c

  pub columns_sum : sum (instance_columns l k.instances) ≤ length (instance_columns l k.instances) * 32
  columns_sum = sum_by-le (λ x. x) 32 (instance_columns l k.instances) (λ j d low. (columns_all j d low).1)
