-- What is written is read again: contacts, instances, references and remarks.
use Rattle.std.proofs.Common.{◌≡◌, ℕ, Bool, true, false, not, ◌&&◌, ◌||◌, List, [], ◌∷◌, ◌++◌, take, drop, refl, sym, ap, ◌∙◌, append_assoc, Option, None, Some, if◌then◌else◌}
use Rattle.std.specs.List.{list_all}
use Rattle.std.specs.Option.{is_none, option_or}
use Rattle.std.specs.Fmt.{signed_decimal}
use Rattle.std.proofs.lemmas.List.Sums.{list_all-from_AllPass}
use Rattle.sym_geom.specs.declared.item.Via.{Via}
use Rattle.sym_geom.specs.declared.item.Instance.{Instance}
use Rattle.sym_geom.specs.declared.item.Reference.{Reference}
use Rattle.sym_geom.specs.declared.item.Item.TheVariants as item
use Rattle.ap_io.specs.declared.scale.Scale.TheVariants.{Hundred}
use Rattle.ap_io.specs.declared.fault.LineFault.TheVariants.{BadLine, BadTransform}
use Rattle.ap_io.specs.Spelling.{item_text, name_text, contact_text, transform_text}
use Rattle.ap_io.specs.Fields.{at, is_text_byte, is_number, is_label, is_identifier}
use Rattle.ap_io.specs.Words.{transform_of, is_contact}
use Rattle.ap_io.specs.LineFaults.{is_via, is_instance, is_reference, via_fault, instance_fault, reference_fault, long_name, far_coordinate, limit_fault, fields_behind}
use Rattle.ap_io.specs.ApText.{IsLine, IsItemWithin, is_field_byte}
use Rattle.ap_io.proofs.Again.{transform_again}
use Rattle.ap_io.proofs.Bytes.{texts_have}
use Rattle.ap_io.proofs.NumbersAgain.{coordinate_again}
use Rattle.ap_io.proofs.NamesAgain.{label_again, word_again, identifier_again, word_short}
use Rattle.ap_io.proofs.ContactsAgain.{contact_again}
use Rattle.ap_io.proofs.WordsAgain.{transform_bytes}
use Rattle.ap_io.proofs.LinesAgain.{joined, then_text, all_fields, behind_joined, comma_behind}
use Rattle.ap_io.proofs.FormsAgain.{two, without_fault, without_faults, no_limit, near_next, lined, letter_again, filled, fault_again}
use Rattle.ap_io.proofs.ItemsAgain.{IsAgain, all_next}

-- ---- contacts

abbrev pub via_fields : Via → List (List ℕ)
via_fields v = signed_decimal v.x ∷ signed_decimal v.y ∷ contact_text v.contact ∷ name_text v.name ∷ []

via_form : (a b c : Bool) → a ≡ true → b ≡ true → c ≡ true → (false || (true && a)) && b && c ≡ true
via_form a b c h i j = rw (h, i, j) refl

via_right : (v : Via) → IsLine (item.Via v) → IsItemWithin (item.Via v) → via_fault Hundred (via_fields v) ≡ None
via_right v line within =
    let f = via_fields v in
    let x = coordinate_again v.x within.0 in
    let y = coordinate_again v.y within.1 in
    let n = label_again v.name line.1 within.2 in
    let form : is_via f ≡ true =
    via_form (is_label (at f 3)) (list_all is_number (take 2 f)) (is_contact (at f 2)) n.right
    (two (is_number (at f 0)) (is_number (at f 1)) x.is_number y.is_number) (contact_again v.contact line.0).right in
    let far : far_coordinate Hundred (take 2 f) ≡ None = near_next v.x (take 1 (drop 1 f)) x (near_next v.y [] y refl) in
    without_fault (is_via f) (limit_fault (long_name (at f 3)) (far_coordinate Hundred (take 2 f))) form
    (no_limit (long_name (at f 3)) (far_coordinate Hundred (take 2 f)) n.short far)

via_bytes : (v : Via) → IsLine (item.Via v) → IsItemWithin (item.Via v) → all_fields (via_fields v) ≡ true
via_bytes v line within =
    let f = via_fields v in
    all_next (at f 0) (drop 1 f) (coordinate_again v.x within.0).bytes (all_next (at f 1) (drop 2 f) (coordinate_again v.y within.1).bytes
    (all_next (at f 2) (drop 3 f) (contact_again v.contact line.0).bytes (all_next (at f 3) [] (label_again v.name line.1 within.2).bytes refl)))

via_text_again : (v : Via) (rest : List ℕ) → item_text (item.Via v) ++ rest ≡ (86 ∷ 32 ∷ joined (via_fields v)) ++ 10 ∷ rest
via_text_again v rest =
    let whole : item_text (item.Via v) ≡ 86 ∷ 32 ∷ then_text (via_fields v) (10 ∷ []) =
    ap (λ (t : List ℕ). 86 ∷ 32 ∷ t) (comma_behind (signed_decimal v.x) _ _ (comma_behind (signed_decimal v.y) _ _ refl)) in
    ap (λ (t : List ℕ). t ++ rest) whole
    ∙ ap (λ (t : List ℕ). 86 ∷ 32 ∷ t) (behind_joined (via_fields v) (10 ∷ []) rest ∙ sym (behind_joined (via_fields v) [] (10 ∷ rest)))

pub via_item_again : (v : Via) → IsLine (item.Via v) → IsItemWithin (item.Via v) → IsAgain (item.Via v) (86 ∷ 32 ∷ joined (via_fields v))
via_item_again v line within =
    let l = lined 86 (signed_decimal v.x) (drop 1 (via_fields v)) refl refl (via_bytes v line within) in
    let t = 86 ∷ 32 ∷ joined (via_fields v) in
    record {
      text = via_text_again v;
      bytes = l.bytes;
      filled = l.filled;
      right = fault_again 86 t l.filled l.letter ∙ ap (via_fault Hundred) l.behind ∙ via_right v line within;
      item = (
        l.letter,
        rw (l.behind) (record {
          x = (coordinate_again v.x within.0).coordinate;
          y = (coordinate_again v.y within.1).coordinate;
          contact = (contact_again v.contact line.0).contact;
          name = (label_again v.name line.1 within.2).name;
        }),
      );
    }

-- ---- instances

abbrev pub instance_fields : Instance → List (List ℕ)
instance_fields i = signed_decimal i.x ∷ signed_decimal i.y ∷ i.model ∷ i.name ∷ transform_text i.transform ∷ []

instance_form : (a b c : Bool) → a ≡ true → b ≡ true → c ≡ true → (true && a && b && c && not false) ≡ true
instance_form a b c h i j = rw (h, i, j) refl

instance_right : (i : Instance) → IsLine (item.Instance i) → IsItemWithin (item.Instance i) → instance_fault Hundred false (instance_fields i) ≡ None
instance_right i line within =
    let f = instance_fields i in
    let x = coordinate_again i.x within.0 in
    let y = coordinate_again i.y within.1 in
    let form : is_instance false f ≡ true =
    instance_form (list_all is_number (take 2 f)) (is_identifier (at f 2)) (is_identifier (at f 3))
    (two (is_number (at f 0)) (is_number (at f 1)) x.is_number y.is_number) (identifier_again i.model line.0) (identifier_again i.name line.1) in
    let short : option_or (long_name (at f 2)) (long_name (at f 3)) ≡ None =
    ap (λ (o : Option ℕ). option_or o (long_name (at f 3))) (word_short i.model line.0 within.2) ∙ word_short i.name line.1 within.3 in
    let far : far_coordinate Hundred (take 2 f) ≡ None = near_next i.x (take 1 (drop 1 f)) x (near_next i.y [] y refl) in
    without_faults (is_instance false f) (is_none (transform_of (at f 4))) BadTransform
    (limit_fault (option_or (long_name (at f 2)) (long_name (at f 3))) (far_coordinate Hundred (take 2 f))) form
    (ap is_none (transform_again i.transform)) (no_limit (option_or (long_name (at f 2)) (long_name (at f 3))) (far_coordinate Hundred (take 2 f)) short far)

instance_bytes : (i : Instance) → IsLine (item.Instance i) → IsItemWithin (item.Instance i) → all_fields (instance_fields i) ≡ true
instance_bytes i line within =
    let f = instance_fields i in
    all_next (at f 0) (drop 1 f) (coordinate_again i.x within.0).bytes (all_next (at f 1) (drop 2 f) (coordinate_again i.y within.1).bytes
    (all_next (at f 2) (drop 3 f) (word_again i.model line.0).bytes (all_next (at f 3) (drop 4 f) (word_again i.name line.1).bytes
    (all_next (at f 4) [] (transform_bytes i.transform) refl))))

instance_text_again : (i : Instance) (rest : List ℕ) → item_text (item.Instance i) ++ rest ≡ (73 ∷ 32 ∷ joined (instance_fields i)) ++ 10 ∷ rest
instance_text_again i rest =
    let whole : item_text (item.Instance i) ≡ 73 ∷ 32 ∷ then_text (instance_fields i) (10 ∷ []) =
    ap (λ (t : List ℕ). 73 ∷ 32 ∷ t) (comma_behind (signed_decimal i.x) _ _ (comma_behind (signed_decimal i.y) _ _ refl)) in
    ap (λ (t : List ℕ). t ++ rest) whole
    ∙ ap (λ (t : List ℕ). 73 ∷ 32 ∷ t) (behind_joined (instance_fields i) (10 ∷ []) rest ∙ sym (behind_joined (instance_fields i) [] (10 ∷ rest)))

pub instance_behind : (i : Instance) → IsLine (item.Instance i) → IsItemWithin (item.Instance i)
    → fields_behind (73 ∷ 32 ∷ joined (instance_fields i)) ≡ instance_fields i
instance_behind i line within = (lined 73 (signed_decimal i.x) (drop 1 (instance_fields i)) refl refl (instance_bytes i line within)).behind

pub instance_item_again : (i : Instance) → IsLine (item.Instance i) → IsItemWithin (item.Instance i)
    → IsAgain (item.Instance i) (73 ∷ 32 ∷ joined (instance_fields i))
instance_item_again i line within =
    let l = lined 73 (signed_decimal i.x) (drop 1 (instance_fields i)) refl refl (instance_bytes i line within) in
    let t = 73 ∷ 32 ∷ joined (instance_fields i) in
    record {
      text = instance_text_again i;
      bytes = l.bytes;
      filled = l.filled;
      right = fault_again 73 t l.filled l.letter ∙ ap (instance_fault Hundred false) l.behind ∙ instance_right i line within;
      item = (
        l.letter,
        rw (l.behind) (record {
          x = (coordinate_again i.x within.0).coordinate;
          y = (coordinate_again i.y within.1).coordinate;
          model = sym (word_again i.model line.0).same;
          name = sym (word_again i.name line.1).same;
          transform = transform_again i.transform;
        }),
      );
    }

-- ---- references

abbrev pub reference_fields : Reference → List (List ℕ)
reference_fields r = signed_decimal r.x ∷ signed_decimal r.y ∷ r.word ∷ r.name ∷ []

reference_form : (a b c : Bool) → a ≡ true → b ≡ true → c ≡ true → (true && a && b && c) ≡ true
reference_form a b c h i j = rw (h, i, j) refl

reference_right : (r : Reference) → IsLine (item.Reference r) → IsItemWithin (item.Reference r) → reference_fault Hundred (reference_fields r) ≡ None
reference_right r line within =
    let f = reference_fields r in
    let x = coordinate_again r.x within.0 in
    let y = coordinate_again r.y within.1 in
    let form : is_reference f ≡ true =
    reference_form (list_all is_number (take 2 f)) (is_identifier (at f 2)) (list_all is_text_byte (at f 3))
    (two (is_number (at f 0)) (is_number (at f 1)) x.is_number y.is_number) (identifier_again r.word line.0)
    (texts_have r.name (list_all-from_AllPass is_field_byte r.name line.1)) in
    let far : far_coordinate Hundred (take 2 f) ≡ None = near_next r.x (take 1 (drop 1 f)) x (near_next r.y [] y refl) in
    without_fault (is_reference f) (limit_fault (long_name (at f 2)) (far_coordinate Hundred (take 2 f))) form
    (no_limit (long_name (at f 2)) (far_coordinate Hundred (take 2 f)) (word_short r.word line.0 within.2) far)

reference_bytes : (r : Reference) → IsLine (item.Reference r) → IsItemWithin (item.Reference r) → all_fields (reference_fields r) ≡ true
reference_bytes r line within =
    let f = reference_fields r in
    all_next (at f 0) (drop 1 f) (coordinate_again r.x within.0).bytes (all_next (at f 1) (drop 2 f) (coordinate_again r.y within.1).bytes
    (all_next (at f 2) (drop 3 f) (word_again r.word line.0).bytes (all_next (at f 3) [] (list_all-from_AllPass is_field_byte r.name line.1) refl)))

reference_text_again : (r : Reference) (rest : List ℕ) → item_text (item.Reference r) ++ rest ≡ (82 ∷ 32 ∷ joined (reference_fields r)) ++ 10 ∷ rest
reference_text_again r rest =
    let whole : item_text (item.Reference r) ≡ 82 ∷ 32 ∷ then_text (reference_fields r) (10 ∷ []) =
    ap (λ (t : List ℕ). 82 ∷ 32 ∷ t) (comma_behind (signed_decimal r.x) _ _ (comma_behind (signed_decimal r.y) _ _ refl)) in
    ap (λ (t : List ℕ). t ++ rest) whole
    ∙ ap (λ (t : List ℕ). 82 ∷ 32 ∷ t) (behind_joined (reference_fields r) (10 ∷ []) rest ∙ sym (behind_joined (reference_fields r) [] (10 ∷ rest)))

pub reference_item_again : (r : Reference) → IsLine (item.Reference r) → IsItemWithin (item.Reference r)
    → IsAgain (item.Reference r) (82 ∷ 32 ∷ joined (reference_fields r))
reference_item_again r line within =
    let l = lined 82 (signed_decimal r.x) (drop 1 (reference_fields r)) refl refl (reference_bytes r line within) in
    let t = 82 ∷ 32 ∷ joined (reference_fields r) in
    record {
      text = reference_text_again r;
      bytes = l.bytes;
      filled = l.filled;
      right = fault_again 82 t l.filled l.letter ∙ ap (reference_fault Hundred) l.behind ∙ reference_right r line within;
      item = (
        l.letter,
        rw (l.behind) (record {
          x = (coordinate_again r.x within.0).coordinate;
          y = (coordinate_again r.y within.1).coordinate;
          word = sym (word_again r.word line.0).same;
          name = refl;
        }),
      );
    }

-- ---- remarks

pub remark_item_again : (text : List ℕ) → IsLine (item.Remark text) → IsAgain (item.Remark text) (66 ∷ 32 ∷ text)
remark_item_again text line =
    let all = list_all-from_AllPass is_text_byte text line in
    record {
      text = λ rest. ap (λ (t : List ℕ). 66 ∷ 32 ∷ t) (append_assoc text (10 ∷ []) rest);
      bytes = all;
      filled = filled 66 text refl;
      right = fault_again 66 (66 ∷ 32 ∷ text) (filled 66 text refl) (letter_again 66 text) ∙ ap (λ (b : Bool). if b then None else Some BadLine) all;
      item = (letter_again 66 text, refl);
    }
