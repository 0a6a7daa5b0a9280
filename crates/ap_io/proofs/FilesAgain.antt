-- What is written is read again: the lines of the items, the head, and the whole file.
use Rattle.std.proofs.Common.{◌≡◌, ◌≢◌, ℕ, suc, ◌<◌, Bool, true, false, ◌==◌, ◌&&◌, ◌||◌, List, [], ◌∷◌, ◌++◌, length, take, drop, refl, sym, ap, ◌∙◌, arith, append_assoc, length-append, bytes_eq, codes, Option, None, Some, if◌then◌else◌}
use Rattle.std.specs.Prelude.{All, AllPairs, get_or}
use Rattle.std.specs.List.{list_all, list_any}
use Rattle.std.specs.Option.{is_some}
use Rattle.std.specs.Ordering.{int_cmp, is_le}
use Rattle.std.specs.Fmt.{signed_decimal}
use Rattle.std.proofs.Math.Seq.{get_or-append_seam}
use Rattle.std.proofs.lemmas.List.Elements.{All-head, All-tail}
use Rattle.vlsi_base.specs.declared.name.Name.{Name}
use Rattle.sym_geom.specs.Rect.{IsRect}
use Rattle.sym_geom.specs.declared.rect.Rect.{Rect}
use Rattle.sym_geom.specs.declared.item.Item.{Item}
use Rattle.sym_geom.specs.declared.item.Item.TheVariants as item
use Rattle.vlsi_base.specs.Lines.{lines_of}
use Rattle.ap_io.specs.declared.figure.Figure.{Figure}
use Rattle.ap_io.specs.declared.scale.Scale.TheVariants.{Hundred}
use Rattle.ap_io.specs.declared.fault.LineFault.TheVariants.{BadLine}
use Rattle.ap_io.specs.Spelling.{items_text, head_text, name_text, text_of}
use Rattle.ap_io.specs.Fields.{at, is_number, is_label, is_text_byte, lower, number_of, label_of}
use Rattle.ap_io.specs.Words.{scale_of}
use Rattle.ap_io.specs.LineFaults.{is_blank_line, item_fault, is_taken, names_on, name_on, is_letter, letter_of, fields_behind, head_fault, is_head, name_line_fault, is_box, box_fault, box_line_fault, version_fault, is_version, long_name, far_coordinate, limit_fault}
use Rattle.ap_io.specs.Items.{IsBox}
use Rattle.ap_io.specs.ApText.{IsLine, IsItemWithin, IsFigure, HasNearLines, IsWithinLimits, IsLabel, IsShortLabel, AreItems, IsApLines, IsApText, instance_names, lines_in, IsNear}
use Rattle.ap_io.proofs.NumbersAgain.{coordinate_again}
use Rattle.ap_io.proofs.NamesAgain.{label_again, word_again}
use Rattle.ap_io.proofs.ContactsAgain.{differ}
use Rattle.ap_io.proofs.LinesAgain.{joined, then_text, behind_joined, comma_behind, next_line}
use Rattle.ap_io.proofs.FormsAgain.{four, order_again, without_fault, no_limit, near_next, lined}
use Rattle.ap_io.proofs.ItemsAgain.{IsAgain, all_next, segment_fields, connector_fields, segment_item_again, connector_item_again}
use Rattle.ap_io.proofs.PointsAgain.{via_fields, instance_fields, reference_fields, via_item_again, instance_item_again, instance_behind, reference_item_again, remark_item_again}

-- ---- one item

abbrev line_of : Item → List ℕ
line_of (item.Segment s) = 83 ∷ 32 ∷ joined (segment_fields s)
line_of (item.Connector c) = 67 ∷ 32 ∷ joined (connector_fields c)
line_of (item.Via v) = 86 ∷ 32 ∷ joined (via_fields v)
line_of (item.Instance i) = 73 ∷ 32 ∷ joined (instance_fields i)
line_of (item.Reference r) = 82 ∷ 32 ∷ joined (reference_fields r)
line_of (item.Remark text) = 66 ∷ 32 ∷ text

item_again : (one : Item) → IsLine one → IsItemWithin one → IsAgain one (line_of one)
item_again (item.Segment s) line within = segment_item_again s line within
item_again (item.Connector c) line within = connector_item_again c line within
item_again (item.Via v) line within = via_item_again v line within
item_again (item.Instance i) line within = instance_item_again i line within
item_again (item.Reference r) line within = reference_item_again r line within
item_again (item.Remark text) line within = remark_item_again text line

-- ---- the names of instances

-- the name of an item that is an instance
abbrev own_names : Item → List (List ℕ)
own_names (item.Segment s) = []
own_names (item.Connector c) = []
own_names (item.Via v) = []
own_names (item.Instance i) = i.name ∷ []
own_names (item.Reference r) = []
own_names (item.Remark text) = []

own_first : (one : Item) (rest : List Item) → instance_names (one ∷ rest) ≡ own_names one ++ instance_names rest
own_first (item.Segment s) rest = refl
own_first (item.Connector c) rest = refl
own_first (item.Via v) rest = refl
own_first (item.Instance i) rest = refl
own_first (item.Reference r) rest = refl
own_first (item.Remark text) rest = refl

-- none of the names so far is this one
abbrev is_among : List (List ℕ) → List ℕ → Bool
is_among names name = list_any (bytes_eq name) names

fresh : (names more : List (List ℕ)) (name : List ℕ) → AllPairs (λ a b. a ≢ b) (names ++ name ∷ more) → is_among names name ≡ false
fresh [] more name pairs = refl
fresh (m ∷ ms) more name pairs =
    let within : suc (length ms) < length (m ∷ ms ++ name ∷ more) = omega (arith, length-append ms (name ∷ more)) in
    let seam : get_or (ms ++ name ∷ more) (length ms) [] ≡ name = get_or-append_seam ms name more [] in
    let other : m ≢ name = λ same. pairs 0 (suc (length ms)) [] (omega arith) within (same ∙ sym seam) in
    let first : bytes_eq name m ≡ false = differ name m (λ same. other (sym same)) in
    let rest : is_among ms name ≡ false = fresh ms more name (λ i j d less inside. pairs (suc i) (suc j) d (omega (arith, less)) (omega (arith, inside))) in
    ap (λ (b : Bool). b || is_among ms name) first ∙ rest

-- the names of a line are those of its item, and none is taken
record IsNamed (names : List (List ℕ)) (one : Item) : Type 0 where
  pub free : is_taken names (line_of one) ≡ false
  pub own : names_on (line_of one) ≡ own_names one

nameless : (c : ℕ) (names : List (List ℕ)) (text : List ℕ) → (73 == c) ≡ false → is_blank_line (c ∷ 32 ∷ text) ≡ false
    → (is_taken names (c ∷ 32 ∷ text) ≡ false) × (names_on (c ∷ 32 ∷ text) ≡ [])
unfolding letter_of
nameless c names text other some = (
  ap (λ (b : Bool). b && is_among names (name_on (c ∷ 32 ∷ text))) other,
  ap (λ (b : Bool). if b then [] else if 73 == c then name_on (c ∷ 32 ∷ text) ∷ [] else []) some
      ∙ ap (λ (b : Bool). if b then name_on (c ∷ 32 ∷ text) ∷ [] else []) other,
)

named_again : (names : List (List ℕ)) (one : Item) (more : List (List ℕ)) → IsLine one → IsItemWithin one
    → AllPairs (λ a b. a ≢ b) (names ++ (own_names one ++ more)) → IsNamed names one
unfolding letter_of
named_again names (item.Segment s) more line within pairs =
    let n = nameless 83 names (joined (segment_fields s)) refl (item_again (item.Segment s) line within).filled in record { free = n.0; own = n.1 }
named_again names (item.Connector c) more line within pairs =
    let n = nameless 67 names (joined (connector_fields c)) refl (item_again (item.Connector c) line within).filled in record { free = n.0; own = n.1 }
named_again names (item.Via v) more line within pairs =
    let n = nameless 86 names (joined (via_fields v)) refl (item_again (item.Via v) line within).filled in record { free = n.0; own = n.1 }
named_again names (item.Instance i) more line within pairs =
    let t = line_of (item.Instance i) in
    let name : name_on t ≡ i.name = ap (λ (f : List (List ℕ)). lower (at f 3)) (instance_behind i line within) ∙ (word_again i.name line.1).same in
    record {
      free = ap (is_among names) name ∙ fresh names more i.name pairs;
      own = ap (λ (b : Bool). if b then [] else name_on t ∷ []) (item_again (item.Instance i) line within).filled ∙ ap (λ (n : List ℕ). n ∷ []) name;
    }
named_again names (item.Reference r) more line within pairs =
    let n = nameless 82 names (joined (reference_fields r)) refl (item_again (item.Reference r) line within).filled in record { free = n.0; own = n.1 }
named_again names (item.Remark text) more line within pairs =
    let n = nameless 66 names text refl (item_again (item.Remark text) line within).filled in record { free = n.0; own = n.1 }

-- ---- all items

last_line : lines_in (codes "EOF" ++ 10 ∷ []) ≡ codes "EOF" ∷ []
unfolding lines_of
last_line = refl

items_again : (names : List (List ℕ)) (items : List Item) → All IsLine items → All IsItemWithin items → AllPairs (λ a b. a ≢ b) (names ++ instance_names items)
    → AreItems Hundred names (lines_in (items_text items)) items
items_again names [] lines within pairs = rw (last_line) (AreItems.ends refl refl)
items_again names (one ∷ rest) lines within pairs =
    let line = All-head IsLine one rest lines in
    let near = All-head IsItemWithin one rest within in
    let a = item_again one line near in
    let apart : AllPairs (λ a b. a ≢ b) (names ++ (own_names one ++ instance_names rest)) = rw (← own_first one rest) pairs in
    let n = named_again names one (instance_names rest) line near apart in
    let next : AllPairs (λ a b. a ≢ b) ((names ++ own_names one) ++ instance_names rest) = rw (append_assoc names (own_names one) (instance_names rest)) apart in
    let more : AreItems Hundred (names ++ names_on (line_of one)) (lines_in (items_text rest)) rest =
    rw (n.own) (items_again (names ++ own_names one) rest (All-tail IsLine one rest lines) (All-tail IsItemWithin one rest within) next) in
    rw (next_line (items_text (one ∷ rest)) (line_of one) (items_text rest) (a.text (items_text rest)) a.bytes)
    (AreItems.next a.filled (ap (λ (b : Bool). item_fault Hundred b (line_of one)) n.free ∙ a.right) a.item more)

-- ---- the first three lines

abbrev version_line : List ℕ
version_line = codes "V ALLIANCE : 6"

version_again : version_fault version_line ≡ None
unfolding is_version is_number
version_again = refl

abbrev head_fields : Option Name → List (List ℕ)
head_fields name = name_text name ∷ codes "P" ∷ codes "01/01/2000" ∷ codes "100" ∷ []

abbrev head_line : Option Name → List ℕ
head_line name = 72 ∷ 32 ∷ joined (head_fields name)

abbrev box_fields : Rect → List (List ℕ)
box_fields b = signed_decimal b.x1 ∷ signed_decimal b.y1 ∷ signed_decimal b.x2 ∷ signed_decimal b.y2 ∷ []

abbrev box_line : Rect → List ℕ
box_line b = 65 ∷ 32 ∷ joined (box_fields b)

record IsHeadAgain (name : Option Name) : Type 0 where
  pub bytes : list_all is_text_byte (head_line name) ≡ true
  pub right : name_line_fault (head_line name) ≡ None
  pub named : name ≡ label_of (at (fields_behind (head_line name)) 0)
  pub at_scale : scale_of (at (fields_behind (head_line name)) 3) ≡ Some Hundred

scale_again : scale_of (codes "100") ≡ Some Hundred
unfolding scale_of
scale_again = refl

head_form : (a b : Bool) → a ≡ true → b ≡ true → (true && a && true && true && b) ≡ true
head_form a b h i = rw (h, i) refl

head_again : (name : Option Name) → IsLabel name → IsShortLabel name → IsHeadAgain name
head_again name label short =
    let f = head_fields name in
    let n = label_again name label short in
    let l = lined 72 (name_text name) (drop 1 f) refl refl (all_next (at f 0) (drop 1 f) n.bytes refl) in
    let form : is_head f ≡ true = head_form (is_label (at f 0)) (is_some (scale_of (at f 3))) n.right (ap is_some scale_again) in
    record {
      bytes = l.bytes;
      right = ap (λ (o : Option ℕ). if is_letter 72 o then head_fault (fields_behind (head_line name)) else Some BadLine) l.letter ∙ ap head_fault l.behind
          ∙ without_fault (is_head f) (limit_fault (long_name (at f 0)) None) form (no_limit (long_name (at f 0)) None n.short refl);
      named = n.name ∙ sym (ap (λ (g : List (List ℕ)). label_of (at g 0)) l.behind);
      at_scale = ap (λ (g : List (List ℕ)). scale_of (at g 3)) l.behind ∙ scale_again;
    }

record IsBoxAgain (box : Rect) : Type 0 where
  pub bytes : list_all is_text_byte (box_line box) ≡ true
  pub right : box_line_fault Hundred (box_line box) ≡ None
  pub bounds : IsBox Hundred (fields_behind (box_line box)) box

box_form : (a b c : Bool) → a ≡ true → b ≡ true → c ≡ true → (true && a && b && c) ≡ true
box_form a b c h i j = rw (h, i, j) refl

box_again : (b : Rect) → IsRect b → IsNear b.x1 → IsNear b.y1 → IsNear b.x2 → IsNear b.y2 → IsBoxAgain b
box_again b rect n1 n2 n3 n4 =
    let f = box_fields b in
    let x1 = coordinate_again b.x1 n1 in
    let y1 = coordinate_again b.y1 n2 in
    let x2 = coordinate_again b.x2 n3 in
    let y2 = coordinate_again b.y2 n4 in
    let l = lined 65 (signed_decimal b.x1) (drop 1 f) refl refl
    (all_next (at f 0) (drop 1 f) x1.bytes (all_next (at f 1) (drop 2 f) y1.bytes (all_next (at f 2) (drop 3 f) x2.bytes (all_next (at f 3) [] y2.bytes refl)))) in
    let form : is_box f ≡ true =
    box_form (list_all is_number (take 4 f)) (is_le (int_cmp (number_of (at f 0)) (number_of (at f 2)))) (is_le (int_cmp (number_of (at f 1)) (number_of (at f 3))))
    (four (is_number (at f 0)) (is_number (at f 1)) (is_number (at f 2)) (is_number (at f 3)) x1.is_number y1.is_number x2.is_number y2.is_number)
    (order_again b.x1 b.x2 (number_of (at f 0)) (number_of (at f 2)) x1.number x2.number rect.wide)
    (order_again b.y1 b.y2 (number_of (at f 1)) (number_of (at f 3)) y1.number y2.number rect.tall) in
    let far : far_coordinate Hundred (take 4 f) ≡ None =
    near_next b.x1 (take 3 (drop 1 f)) x1 (near_next b.y1 (take 2 (drop 2 f)) y1 (near_next b.x2 (take 1 (drop 3 f)) x2 (near_next b.y2 [] y2 refl))) in
    record {
      bytes = l.bytes;
      right = ap (λ (o : Option ℕ). if is_letter 65 o then box_fault Hundred (fields_behind (box_line b)) else Some BadLine) l.letter ∙ ap (box_fault Hundred) l.behind
          ∙ without_fault (is_box f) (limit_fault None (far_coordinate Hundred (take 4 f))) form (no_limit None (far_coordinate Hundred (take 4 f)) refl far);
      bounds = rw (l.behind) (record { x1 = x1.coordinate; y1 = y1.coordinate; x2 = x2.coordinate; y2 = y2.coordinate });
    }

-- ---- the file

-- the text from the head line on, and from the box on
abbrev from_box : Rect → List ℕ → List ℕ
from_box b rest = box_line b ++ 10 ∷ rest

abbrev from_head : Option Name → Rect → List ℕ → List ℕ
from_head name b rest = head_line name ++ 10 ∷ from_box b rest

head_text_again : (name : Option Name) (b : Rect) (rest : List ℕ) → head_text name b ++ rest ≡ version_line ++ 10 ∷ from_head name b rest
head_text_again name b rest =
    let box : List ℕ = 10 ∷ 65 ∷ 32 ∷ then_text (box_fields b) (10 ∷ []) in
    let tail : List ℕ = codes ",P,01/01/2000,100" ++ box in
    let inner : head_text name b ≡ version_line ++ 10 ∷ 72 ∷ 32 ∷ (name_text name ++ tail) =
    ap (λ (t : List ℕ). version_line ++ 10 ∷ 72 ∷ 32 ∷ (name_text name ++ (codes ",P,01/01/2000,100" ++ 10 ∷ 65 ∷ 32 ∷ t)))
    (comma_behind (signed_decimal b.x1) _ _ (comma_behind (signed_decimal b.y1) _ _ (comma_behind (signed_decimal b.x2) _ _ refl))) in
    let boxed : then_text (box_fields b) (10 ∷ []) ++ rest ≡ joined (box_fields b) ++ 10 ∷ rest =
    behind_joined (box_fields b) (10 ∷ []) rest ∙ sym (behind_joined (box_fields b) [] (10 ∷ rest)) in
    let headed : name_text name ++ (codes ",P,01/01/2000,100" ++ 10 ∷ from_box b rest) ≡ joined (head_fields name) ++ 10 ∷ from_box b rest =
    sym (behind_joined (head_fields name) [] (10 ∷ from_box b rest)) in
    ap (λ (t : List ℕ). t ++ rest) inner
    ∙ ap (λ (t : List ℕ). version_line ++ 10 ∷ 72 ∷ 32 ∷ t) (append_assoc (name_text name) tail rest
    ∙ ap (λ (t : List ℕ). name_text name ++ (codes ",P,01/01/2000,100" ++ 10 ∷ 65 ∷ 32 ∷ t)) boxed ∙ headed)

pub lines_again : (f : Figure) → IsFigure f → HasNearLines f → IsApLines (text_of f) f
lines_again f figure within =
    let rest = items_text f.items in
    let h = head_again f.name figure.name within.name in
    let b = box_again f.bounds figure.box within.x1 within.y1 within.x2 within.y2 in
    record {
      version = version_line;
      head = head_line f.name;
      scale = Hundred;
      box = box_line f.bounds;
      others = lines_in rest;
      lines = next_line (text_of f) version_line (from_head f.name f.bounds rest) (head_text_again f.name f.bounds rest) refl
          ∙ ap (λ (ls : List (List ℕ)). version_line ∷ ls) (next_line (from_head f.name f.bounds rest) (head_line f.name) (from_box f.bounds rest) refl h.bytes)
          ∙ ap (λ (ls : List (List ℕ)). version_line ∷ head_line f.name ∷ ls) (next_line (from_box f.bounds rest) (box_line f.bounds) rest refl b.bytes);
      right_version = version_again;
      right_head = h.right;
      name = h.named;
      at_scale = h.at_scale;
      right_box = b.right;
      bounds = b.bounds;
      items = items_again [] f.items figure.lines within.items figure.instances;
    }

pub written_again : (f : Figure) → IsFigure f → IsWithinLimits f → IsApText (text_of f) f
written_again f figure within = record { few = within.few; form = lines_again f figure within.near }
