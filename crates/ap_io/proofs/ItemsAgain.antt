-- What is written is read again: segments and connectors.
use Rattle.std.proofs.Common.{◌≡◌, ℕ, Bool, true, false, ◌&&◌, List, [], ◌∷◌, ◌++◌, take, drop, refl, sym, ap, ◌∙◌, arith, Option, None, Some}
use Rattle.std.specs.List.{list_all}
use Rattle.std.specs.Option.{is_some, is_none}
use Rattle.std.specs.Fmt.{signed_decimal}
use Rattle.sym_geom.specs.declared.item.Direction.{Direction}
use Rattle.sym_geom.specs.declared.item.Direction.TheVariants.{Up, Down, Left, Right}
use Rattle.sym_geom.specs.declared.item.Segment.{Segment}
use Rattle.sym_geom.specs.declared.item.Connector.{Connector}
use Rattle.sym_geom.specs.declared.item.Item.{Item}
use Rattle.sym_geom.specs.declared.item.Item.TheVariants as item
use Rattle.ap_io.specs.declared.scale.Scale.TheVariants.{Hundred}
use Rattle.ap_io.specs.declared.fault.LineFault.TheVariants.{BadLayer}
use Rattle.ap_io.specs.Spelling.{item_text, name_text, layer_text, direction_text, side_text}
use Rattle.ap_io.specs.Fields.{at, is_text_byte, is_number, is_width, is_index, is_label, number_of}
use Rattle.ap_io.specs.Words.{layer_of, direction_of, side_of}
use Rattle.ap_io.specs.LineFaults.{is_along, is_segment, is_connector, segment_fault, connector_fault, long_name, far_coordinate, limit_fault, is_blank_line, item_fault}
use Rattle.ap_io.specs.Items.{IsItem}
use Rattle.ap_io.specs.ApText.{IsLine, IsItemWithin, is_field_byte, RunsAlong}
use Rattle.ap_io.proofs.Again.{layer_again, direction_again, side_again}
use Rattle.ap_io.proofs.Bytes.{both}
use Rattle.ap_io.proofs.NumbersAgain.{coordinate_again, width_again, index_again, number_again}
use Rattle.ap_io.proofs.NamesAgain.{label_again}
use Rattle.ap_io.proofs.WordsAgain.{layer_bytes, direction_bytes, side_bytes}
use Rattle.ap_io.proofs.LinesAgain.{joined, then_text, all_fields, behind_joined, comma_behind}
use Rattle.ap_io.proofs.FormsAgain.{two, four, equal_again, without_faults, no_limit, near_next, lined, fault_again}

-- the line that an item is written on
pub record IsAgain (one : Item) (line : List ℕ) : Type 0 where
  pub text : (rest : List ℕ) → item_text one ++ rest ≡ line ++ 10 ∷ rest
  pub bytes : list_all is_text_byte line ≡ true
  pub filled : is_blank_line line ≡ false
  pub right : item_fault Hundred false line ≡ None
  pub item : IsItem Hundred line one

pub all_next : (f : List ℕ) (fs : List (List ℕ)) → list_all is_field_byte f ≡ true → all_fields fs ≡ true → all_fields (f ∷ fs) ≡ true
all_next f fs h all = both (list_all is_field_byte f) (all_fields fs) h all

-- ---- segments

abbrev pub segment_fields : Segment → List (List ℕ)
segment_fields s =
    signed_decimal s.x1 ∷ signed_decimal s.y1 ∷ signed_decimal s.x2 ∷ signed_decimal s.y2 ∷ signed_decimal s.width ∷ name_text s.name
    ∷ direction_text s.direction ∷ layer_text s.layer ∷ []

along_again : (d : Direction) (s : Segment) (f : List (List ℕ)) → RunsAlong d s → number_of (at f 0) ≡ s.x1 → number_of (at f 1) ≡ s.y1 → number_of (at f 2) ≡ s.x2
    → number_of (at f 3) ≡ s.y2 → is_along (Some d) f ≡ true
along_again Up s f runs a b c d = equal_again s.x1 s.x2 (number_of (at f 0)) (number_of (at f 2)) a c runs
along_again Down s f runs a b c d = equal_again s.x1 s.x2 (number_of (at f 0)) (number_of (at f 2)) a c runs
along_again Left s f runs a b c d = equal_again s.y1 s.y2 (number_of (at f 1)) (number_of (at f 3)) b d runs
along_again Right s f runs a b c d = equal_again s.y1 s.y2 (number_of (at f 1)) (number_of (at f 3)) b d runs

five : (a b c d : Bool) → a ≡ true → b ≡ true → c ≡ true → d ≡ true → (true && a && b && c && d) ≡ true
five a b c d h i j k = rw (h, i, j, k) refl

segment_right : (s : Segment) → IsLine (item.Segment s) → IsItemWithin (item.Segment s) → segment_fault Hundred (segment_fields s) ≡ None
segment_right s line within =
    let f = segment_fields s in
    let x1 = coordinate_again s.x1 within.0 in
    let y1 = coordinate_again s.y1 within.1 in
    let x2 = coordinate_again s.x2 within.2 in
    let y2 = coordinate_again s.y2 within.3 in
    let w = coordinate_again s.width within.4 in
    let n = label_again s.name line.2 within.5 in
    let along : is_along (direction_of (at f 6)) f ≡ true =
    ap (λ (o : Option Direction). is_along o f) (direction_again s.direction) ∙ along_again s.direction s f line.1 x1.number y1.number x2.number y2.number in
    let form : is_segment f ≡ true =
    five (list_all is_number (take 4 f)) (is_width (at f 4)) (is_label (at f 5)) (is_along (direction_of (at f 6)) f)
    (four (is_number (at f 0)) (is_number (at f 1)) (is_number (at f 2)) (is_number (at f 3)) x1.is_number y1.is_number x2.is_number y2.is_number)
    (width_again s.width within.4 line.0) n.right along in
    let far : far_coordinate Hundred (take 5 f) ≡ None =
    near_next s.x1 (take 4 (drop 1 f)) x1 (near_next s.y1 (take 3 (drop 2 f)) y1 (near_next s.x2 (take 2 (drop 3 f)) x2 (near_next s.y2 (take 1 (drop 4 f)) y2 (near_next s.width [] w refl)))) in
    without_faults (is_segment f) (is_none (layer_of (at f 7))) BadLayer (limit_fault (long_name (at f 5)) (far_coordinate Hundred (take 5 f))) form
    (ap is_none (layer_again s.layer)) (no_limit (long_name (at f 5)) (far_coordinate Hundred (take 5 f)) n.short far)

segment_bytes : (s : Segment) → IsLine (item.Segment s) → IsItemWithin (item.Segment s) → all_fields (segment_fields s) ≡ true
segment_bytes s line within =
    let f = segment_fields s in
    all_next (at f 0) (drop 1 f) (coordinate_again s.x1 within.0).bytes (all_next (at f 1) (drop 2 f) (coordinate_again s.y1 within.1).bytes
    (all_next (at f 2) (drop 3 f) (coordinate_again s.x2 within.2).bytes (all_next (at f 3) (drop 4 f) (coordinate_again s.y2 within.3).bytes
    (all_next (at f 4) (drop 5 f) (coordinate_again s.width within.4).bytes (all_next (at f 5) (drop 6 f) (label_again s.name line.2 within.5).bytes
    (all_next (at f 6) (drop 7 f) (direction_bytes s.direction) (all_next (at f 7) [] (layer_bytes s.layer) refl)))))))

segment_text_again : (s : Segment) (rest : List ℕ) → item_text (item.Segment s) ++ rest ≡ (83 ∷ 32 ∷ joined (segment_fields s)) ++ 10 ∷ rest
segment_text_again s rest =
    let whole : item_text (item.Segment s) ≡ 83 ∷ 32 ∷ then_text (segment_fields s) (10 ∷ []) =
    ap (λ (t : List ℕ). 83 ∷ 32 ∷ t) (comma_behind (signed_decimal s.x1) _ _ (comma_behind (signed_decimal s.y1) _ _ (comma_behind (signed_decimal s.x2) _ _
    (comma_behind (signed_decimal s.y2) _ _ (comma_behind (signed_decimal s.width) _ _ refl))))) in
    ap (λ (t : List ℕ). t ++ rest) whole
    ∙ ap (λ (t : List ℕ). 83 ∷ 32 ∷ t) (behind_joined (segment_fields s) (10 ∷ []) rest ∙ sym (behind_joined (segment_fields s) [] (10 ∷ rest)))

pub segment_item_again : (s : Segment) → IsLine (item.Segment s) → IsItemWithin (item.Segment s) → IsAgain (item.Segment s) (83 ∷ 32 ∷ joined (segment_fields s))
segment_item_again s line within =
    let l = lined 83 (signed_decimal s.x1) (drop 1 (segment_fields s)) refl refl (segment_bytes s line within) in
    let t = 83 ∷ 32 ∷ joined (segment_fields s) in
    record {
      text = segment_text_again s;
      bytes = l.bytes;
      filled = l.filled;
      right = fault_again 83 t l.filled l.letter ∙ ap (segment_fault Hundred) l.behind ∙ segment_right s line within;
      item = (
        l.letter,
        rw (l.behind) (record {
          x1 = (coordinate_again s.x1 within.0).coordinate;
          y1 = (coordinate_again s.y1 within.1).coordinate;
          x2 = (coordinate_again s.x2 within.2).coordinate;
          y2 = (coordinate_again s.y2 within.3).coordinate;
          width = (coordinate_again s.width within.4).coordinate;
          name = (label_again s.name line.2 within.5).name;
          direction = direction_again s.direction;
          layer = layer_again s.layer;
        }),
      );
    }

-- ---- connectors

abbrev pub connector_fields : Connector → List (List ℕ)
connector_fields c =
    signed_decimal c.x ∷ signed_decimal c.y ∷ signed_decimal c.width ∷ name_text c.name ∷ signed_decimal c.index ∷ side_text c.side
    ∷ layer_text c.layer ∷ []

six : (a b c d e : Bool) → a ≡ true → b ≡ true → c ≡ true → d ≡ true → e ≡ true → (true && a && b && c && d && e) ≡ true
six a b c d e h i j k l = rw (h, i, j, k, l) refl

connector_right : (c : Connector) → IsLine (item.Connector c) → IsItemWithin (item.Connector c) → connector_fault Hundred (connector_fields c) ≡ None
connector_right c line within =
    let f = connector_fields c in
    let x = coordinate_again c.x within.0 in
    let y = coordinate_again c.y within.1 in
    let w = coordinate_again c.width within.2 in
    let n = label_again c.name line.1 within.3 in
    let form : is_connector f ≡ true =
    six (list_all is_number (take 2 f)) (is_width (at f 2)) (is_label (at f 3)) (is_index (at f 4)) (is_some (side_of (at f 5)))
    (two (is_number (at f 0)) (is_number (at f 1)) x.is_number y.is_number) (width_again c.width within.2 line.0) n.right
    (index_again c.index within.4) (ap is_some (side_again c.side)) in
    let far : far_coordinate Hundred (take 3 f) ≡ None =
    near_next c.x (take 2 (drop 1 f)) x (near_next c.y (take 1 (drop 2 f)) y (near_next c.width [] w refl)) in
    without_faults (is_connector f) (is_none (layer_of (at f 6))) BadLayer (limit_fault (long_name (at f 3)) (far_coordinate Hundred (take 3 f))) form
    (ap is_none (layer_again c.layer)) (no_limit (long_name (at f 3)) (far_coordinate Hundred (take 3 f)) n.short far)

connector_bytes : (c : Connector) → IsLine (item.Connector c) → IsItemWithin (item.Connector c) → all_fields (connector_fields c) ≡ true
connector_bytes c line within =
    let f = connector_fields c in
    let index = number_again c.index (omega (arith, within.4)) in
    all_next (at f 0) (drop 1 f) (coordinate_again c.x within.0).bytes (all_next (at f 1) (drop 2 f) (coordinate_again c.y within.1).bytes
    (all_next (at f 2) (drop 3 f) (coordinate_again c.width within.2).bytes (all_next (at f 3) (drop 4 f) (label_again c.name line.1 within.3).bytes
    (all_next (at f 4) (drop 5 f) index.bytes (all_next (at f 5) (drop 6 f) (side_bytes c.side) (all_next (at f 6) [] (layer_bytes c.layer) refl))))))

connector_text_again : (c : Connector) (rest : List ℕ) → item_text (item.Connector c) ++ rest ≡ (67 ∷ 32 ∷ joined (connector_fields c)) ++ 10 ∷ rest
connector_text_again c rest =
    let whole : item_text (item.Connector c) ≡ 67 ∷ 32 ∷ then_text (connector_fields c) (10 ∷ []) =
    ap (λ (t : List ℕ). 67 ∷ 32 ∷ t) (comma_behind (signed_decimal c.x) _ _ (comma_behind (signed_decimal c.y) _ _ (comma_behind (signed_decimal c.width) _ _
    (ap (λ (t : List ℕ). name_text c.name ++ 44 ∷ t) (comma_behind (signed_decimal c.index) _ _ refl))))) in
    ap (λ (t : List ℕ). t ++ rest) whole
    ∙ ap (λ (t : List ℕ). 67 ∷ 32 ∷ t) (behind_joined (connector_fields c) (10 ∷ []) rest ∙ sym (behind_joined (connector_fields c) [] (10 ∷ rest)))

pub connector_item_again : (c : Connector) → IsLine (item.Connector c) → IsItemWithin (item.Connector c)
    → IsAgain (item.Connector c) (67 ∷ 32 ∷ joined (connector_fields c))
connector_item_again c line within =
    let l = lined 67 (signed_decimal c.x) (drop 1 (connector_fields c)) refl refl (connector_bytes c line within) in
    let t = 67 ∷ 32 ∷ joined (connector_fields c) in
    record {
      text = connector_text_again c;
      bytes = l.bytes;
      filled = l.filled;
      right = fault_again 67 t l.filled l.letter ∙ ap (connector_fault Hundred) l.behind ∙ connector_right c line within;
      item = (
        l.letter,
        rw (l.behind) (record {
          x = (coordinate_again c.x within.0).coordinate;
          y = (coordinate_again c.y within.1).coordinate;
          width = (coordinate_again c.width within.2).coordinate;
          name = (label_again c.name line.1 within.3).name;
          index = sym (number_again c.index (omega (arith, within.4))).number;
          side = side_again c.side;
          layer = layer_again c.layer;
        }),
      );
    }
