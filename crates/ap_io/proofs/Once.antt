-- Of a file one answer is right.
use Rattle.std.proofs.Common.{◌≡◌, ℕ, ◌+◌, Bool, true, false, List, [], ◌∷◌, ◌++◌, refl, sym, ap, ◌∙◌, arith, subst, Option, None, Some, if◌then◌else◌}
use Rattle.std.specs.List.{list_all}
use Rattle.std.proofs.lemmas.Slice.Eq.{bytes_eq-Decides}
use Rattle.vlsi_base.specs.declared.fault.ReadError.{ReadError}
use Rattle.vlsi_base.specs.declared.fault.FaultKind.TheVariants as kind
use Rattle.sym_geom.specs.declared.rect.Rect.{Rect}
use Rattle.sym_geom.specs.declared.item.Segment.{Segment}
use Rattle.sym_geom.specs.declared.item.Connector.{Connector}
use Rattle.sym_geom.specs.declared.item.Via.{Via}
use Rattle.sym_geom.specs.declared.item.Instance.{Instance}
use Rattle.sym_geom.specs.declared.item.Reference.{Reference}
use Rattle.sym_geom.specs.declared.item.Item.{Item}
use Rattle.sym_geom.specs.declared.item.Item.TheVariants as item
use Rattle.ap_io.specs.declared.scale.Scale.{Scale}
use Rattle.ap_io.specs.declared.figure.Figure.{Figure}
use Rattle.ap_io.specs.declared.fault.LineFault.{LineFault}
use Rattle.ap_io.specs.Fields.{at, label_of}
use Rattle.ap_io.specs.Words.{scale_of}
use Rattle.ap_io.proofs.Digits.{both_true}
use Rattle.ap_io.specs.Items.{IsSegment, IsConnector, IsVia, IsInstance, IsReference, IsBox, IsItem}
use Rattle.ap_io.specs.LineFaults.{has_letter, name_on, letter_of, fields_behind, is_blank_line, is_end, is_taken, names_on, item_fault, fault_by}
use Rattle.ap_io.specs.ApText.{lines_in, AreItems, ends, blank, next, IsApText}
use Rattle.ap_io.specs.Refusal.{fault_on, or_behind, end_refusal, items_refusal, box_refusal, head_refusal, first_refusal, long, faulty}
use Rattle.ap_io.specs.Laws.{LinesSayOneFigure, OneFigure, NeverBoth, OneRefusal}

some_once : {A : Type 0} (x y : A) → Some x ≡ Some y → x ≡ y
some_once x y h = cc

-- ---- one refusal

pub one_refusal : OneRefusal
one_refusal bytes d e (long many same) (long more also_same) = same ∙ sym also_same
one_refusal bytes d e (long many same) (faulty few other) = absurd (omega (arith, many, few))
one_refusal bytes d e (faulty few this) (long more same) = absurd (omega (arith, more, few))
one_refusal bytes d e (faulty few this) (faulty less other) = some_once d e (sym this ∙ other)

-- ---- a line of an item isn't the end

eof_blank : is_blank_line (69 ∷ 79 ∷ 70 ∷ []) ≡ false
unfolding is_blank_line
eof_blank = refl

eof_letter : letter_of (69 ∷ 79 ∷ 70 ∷ []) ≡ None
unfolding letter_of
eof_letter = refl

eof_is : (line : List ℕ) → is_end line ≡ true → line ≡ 69 ∷ 79 ∷ 70 ∷ []
eof_is line h = (bytes_eq-Decides line (69 ∷ 79 ∷ 70 ∷ [])).0 h

not_end : (line : List ℕ) (e : Bool) → is_end line ≡ e → (is_end line ≡ true → ⊥) → is_end line ≡ false
not_end line true is no_end = absurd (no_end is)
not_end line false is no_end = is

blank_goes_on : (line : List ℕ) → is_blank_line line ≡ true → is_end line ≡ false
blank_goes_on line is = not_end line (is_end line) refl (λ h. let e = eof_is line h in let both : true ≡ false = sym is ∙ ap is_blank_line e ∙ eof_blank in absurd (cc))

clean_blank : (scale : Scale) (taken : Bool) (line : List ℕ) → is_blank_line line ≡ true → item_fault scale taken line ≡ None
clean_blank scale taken line is = ap (λ (b : Bool). if b then None else fault_by (letter_of line) scale taken line) is

-- the letter of an item's line
letter_is : (scale : Scale) (line : List ℕ) (one : Item) → IsItem scale line one → letter_of line ≡ None → ⊥
letter_is scale line (item.Segment s) is none = let both : ◌≡◌ {A = Option ℕ} None (Some 83) = sym none ∙ is.0 in absurd (cc)
letter_is scale line (item.Connector s) is none = let both : ◌≡◌ {A = Option ℕ} None (Some 67) = sym none ∙ is.0 in absurd (cc)
letter_is scale line (item.Via s) is none = let both : ◌≡◌ {A = Option ℕ} None (Some 86) = sym none ∙ is.0 in absurd (cc)
letter_is scale line (item.Instance s) is none = let both : ◌≡◌ {A = Option ℕ} None (Some 73) = sym none ∙ is.0 in absurd (cc)
letter_is scale line (item.Reference s) is none = let both : ◌≡◌ {A = Option ℕ} None (Some 82) = sym none ∙ is.0 in absurd (cc)
letter_is scale line (item.Remark s) is none = let both : ◌≡◌ {A = Option ℕ} None (Some 66) = sym none ∙ is.0 in absurd (cc)

item_goes_on : (scale : Scale) (line : List ℕ) (one : Item) → IsItem scale line one → is_end line ≡ false
item_goes_on scale line one is = not_end line (is_end line) refl (λ h. letter_is scale line one is (ap letter_of (eof_is line h) ∙ eof_letter))

-- ---- items have no refusal

blanks_end : (before : ℕ) (lines : List (List ℕ)) → list_all is_blank_line lines ≡ true → end_refusal before lines ≡ None
unfolding end_refusal
blanks_end before [] all = refl
blanks_end before (line ∷ rest) all =
    let both = both_true (is_blank_line line) (list_all is_blank_line rest) all in
    ap (λ (b : Bool). if b then end_refusal (before + 1) rest else Some (fault_on (before + 1) kind.AfterEnd)) both.0 ∙ blanks_end (before + 1) rest both.1

abbrev by_end : Scale → ℕ → List (List ℕ) → List ℕ → List (List ℕ) → Bool → Option LineFault → Option ReadError
by_end scale before names line rest e fault =
    if e then end_refusal (before + 1) rest else or_behind (before + 1) rest fault (items_refusal scale (before + 1) (names ++ names_on line) rest)

append_none : (xs : List (List ℕ)) → xs ++ [] ≡ xs
append_none [] = refl
append_none (x ∷ xs) = ap (λ (ys : List (List ℕ)). x ∷ ys) (append_none xs)

no_names : (names : List (List ℕ)) (line : List ℕ) → is_blank_line line ≡ true → names ++ names_on line ≡ names
no_names names line is = ap (λ (b : Bool). names ++ (if b then [] else if has_letter 73 line then name_on line ∷ [] else [])) is ∙ append_none names

items_clean : (scale : Scale) (before : ℕ) (names lines : List (List ℕ)) (items : List Item) → AreItems scale names lines items → items_refusal scale before names lines ≡ None
unfolding items_refusal
items_clean scale before names [] items none = elim none [ ]
items_clean scale before names (line ∷ rest) items (ends over blanks) =
    ap (λ (b : Bool). by_end scale before names line rest b (item_fault scale (is_taken names line) line)) over ∙ blanks_end (before + 1) rest blanks
items_clean scale before names (line ∷ rest) items (blank is more) =
    ap (λ (b : Bool). by_end scale before names line rest b (item_fault scale (is_taken names line) line)) (blank_goes_on line is)
    ∙ ap (by_end scale before names line rest false) (clean_blank scale (is_taken names line) line is)
    ∙ ap (λ (ns : List (List ℕ)). items_refusal scale (before + 1) ns rest) (no_names names line is) ∙ items_clean scale (before + 1) names rest items more
items_clean scale before names (line ∷ rest) (one ∷ items) (next some clean is more) =
    ap (λ (b : Bool). by_end scale before names line rest b (item_fault scale (is_taken names line) line)) (item_goes_on scale line one is)
    ∙ ap (by_end scale before names line rest false) clean ∙ items_clean scale (before + 1) (names ++ names_on line) rest items more

whole_clean : (bytes : List ℕ) (f : Figure) → IsApText bytes f → first_refusal (lines_in bytes) ≡ None
unfolding first_refusal
whole_clean bytes f is =
    let k = is.form.scale in
    ap first_refusal is.form.lines
    ∙ ap (λ (x : Option LineFault). or_behind 1 (is.form.head ∷ is.form.box ∷ is.form.others) x (head_refusal (is.form.head ∷ is.form.box ∷ is.form.others))) is.form.right_version
    ∙ ap (λ (x : Option LineFault). or_behind 2 (is.form.box ∷ is.form.others) x (box_refusal (scale_of (at (fields_behind is.form.head) 3)) (is.form.box ∷ is.form.others))) is.form.right_head
    ∙ ap (λ (o : Option Scale). box_refusal o (is.form.box ∷ is.form.others)) is.form.at_scale
    ∙ ap (λ (x : Option LineFault). or_behind 3 is.form.others x (items_refusal k 3 [] is.form.others)) is.form.right_box
    ∙ items_clean k 3 [] is.form.others f.items is.form.items

pub never_both : NeverBoth
never_both bytes f e is (long many same) = let few = is.few in absurd (omega (arith, many, few))
never_both bytes f e is (faulty few refused) = let both : None ≡ Some e = sym (whole_clean bytes f is) ∙ refused in absurd (cc)

-- ---- one figure

segment_once : (k : Scale) (f : List (List ℕ)) (s t : Segment) → IsSegment k f s → IsSegment k f t → s ≡ t
segment_once k f s t a b = λ i. record { x1 = (a.x1 ∙ sym b.x1) i; y1 = (a.y1 ∙ sym b.y1) i; x2 = (a.x2 ∙ sym b.x2) i; y2 = (a.y2 ∙ sym b.y2) i; width = (a.width ∙ sym b.width) i; name = (a.name ∙ sym b.name) i; direction = some_once s.direction t.direction (sym a.direction ∙ b.direction) i; layer = some_once s.layer t.layer (sym a.layer ∙ b.layer) i }

connector_once : (k : Scale) (f : List (List ℕ)) (s t : Connector) → IsConnector k f s → IsConnector k f t → s ≡ t
connector_once k f s t a b = λ i. record { x = (a.x ∙ sym b.x) i; y = (a.y ∙ sym b.y) i; width = (a.width ∙ sym b.width) i; name = (a.name ∙ sym b.name) i; index = (a.index ∙ sym b.index) i; side = some_once s.side t.side (sym a.side ∙ b.side) i; layer = some_once s.layer t.layer (sym a.layer ∙ b.layer) i }

via_once : (k : Scale) (f : List (List ℕ)) (s t : Via) → IsVia k f s → IsVia k f t → s ≡ t
via_once k f s t a b = λ i. record { x = (a.x ∙ sym b.x) i; y = (a.y ∙ sym b.y) i; contact = (a.contact ∙ sym b.contact) i; name = (a.name ∙ sym b.name) i }

instance_once : (k : Scale) (f : List (List ℕ)) (s t : Instance) → IsInstance k f s → IsInstance k f t → s ≡ t
instance_once k f s t a b = λ i. record { x = (a.x ∙ sym b.x) i; y = (a.y ∙ sym b.y) i; model = (a.model ∙ sym b.model) i; name = (a.name ∙ sym b.name) i; transform = some_once s.transform t.transform (sym a.transform ∙ b.transform) i }

reference_once : (k : Scale) (f : List (List ℕ)) (s t : Reference) → IsReference k f s → IsReference k f t → s ≡ t
reference_once k f s t a b = λ i. record { x = (a.x ∙ sym b.x) i; y = (a.y ∙ sym b.y) i; word = (a.word ∙ sym b.word) i; name = (a.name ∙ sym b.name) i }

box_once : (k : Scale) (f : List (List ℕ)) (s t : Rect) → IsBox k f s → IsBox k f t → s ≡ t
box_once k f s t a b = λ i. record { x1 = (a.x1 ∙ sym b.x1) i; y1 = (a.y1 ∙ sym b.y1) i; x2 = (a.x2 ∙ sym b.x2) i; y2 = (a.y2 ∙ sym b.y2) i }

two_letters : (o : Option ℕ) (a b : ℕ) → o ≡ Some a → o ≡ Some b → a ≡ b
two_letters o a b x y = some_once a b (sym x ∙ y)

item_once : (k : Scale) (line : List ℕ) (one two : Item) → IsItem k line one → IsItem k line two → one ≡ two
item_once k line (item.Segment s) (item.Segment t) a b = ap item.Segment (segment_once k (fields_behind line) s t a.1 b.1)
item_once k line (item.Segment s) (item.Connector t) a b = let e = two_letters (letter_of line) 83 67 a.0 b.0 in absurd (omega (arith, e))
item_once k line (item.Segment s) (item.Via t) a b = let e = two_letters (letter_of line) 83 86 a.0 b.0 in absurd (omega (arith, e))
item_once k line (item.Segment s) (item.Instance t) a b = let e = two_letters (letter_of line) 83 73 a.0 b.0 in absurd (omega (arith, e))
item_once k line (item.Segment s) (item.Reference t) a b = let e = two_letters (letter_of line) 83 82 a.0 b.0 in absurd (omega (arith, e))
item_once k line (item.Segment s) (item.Remark t) a b = let e = two_letters (letter_of line) 83 66 a.0 b.0 in absurd (omega (arith, e))
item_once k line (item.Connector s) (item.Segment t) a b = let e = two_letters (letter_of line) 67 83 a.0 b.0 in absurd (omega (arith, e))
item_once k line (item.Connector s) (item.Connector t) a b = ap item.Connector (connector_once k (fields_behind line) s t a.1 b.1)
item_once k line (item.Connector s) (item.Via t) a b = let e = two_letters (letter_of line) 67 86 a.0 b.0 in absurd (omega (arith, e))
item_once k line (item.Connector s) (item.Instance t) a b = let e = two_letters (letter_of line) 67 73 a.0 b.0 in absurd (omega (arith, e))
item_once k line (item.Connector s) (item.Reference t) a b = let e = two_letters (letter_of line) 67 82 a.0 b.0 in absurd (omega (arith, e))
item_once k line (item.Connector s) (item.Remark t) a b = let e = two_letters (letter_of line) 67 66 a.0 b.0 in absurd (omega (arith, e))
item_once k line (item.Via s) (item.Segment t) a b = let e = two_letters (letter_of line) 86 83 a.0 b.0 in absurd (omega (arith, e))
item_once k line (item.Via s) (item.Connector t) a b = let e = two_letters (letter_of line) 86 67 a.0 b.0 in absurd (omega (arith, e))
item_once k line (item.Via s) (item.Via t) a b = ap item.Via (via_once k (fields_behind line) s t a.1 b.1)
item_once k line (item.Via s) (item.Instance t) a b = let e = two_letters (letter_of line) 86 73 a.0 b.0 in absurd (omega (arith, e))
item_once k line (item.Via s) (item.Reference t) a b = let e = two_letters (letter_of line) 86 82 a.0 b.0 in absurd (omega (arith, e))
item_once k line (item.Via s) (item.Remark t) a b = let e = two_letters (letter_of line) 86 66 a.0 b.0 in absurd (omega (arith, e))
item_once k line (item.Instance s) (item.Segment t) a b = let e = two_letters (letter_of line) 73 83 a.0 b.0 in absurd (omega (arith, e))
item_once k line (item.Instance s) (item.Connector t) a b = let e = two_letters (letter_of line) 73 67 a.0 b.0 in absurd (omega (arith, e))
item_once k line (item.Instance s) (item.Via t) a b = let e = two_letters (letter_of line) 73 86 a.0 b.0 in absurd (omega (arith, e))
item_once k line (item.Instance s) (item.Instance t) a b = ap item.Instance (instance_once k (fields_behind line) s t a.1 b.1)
item_once k line (item.Instance s) (item.Reference t) a b = let e = two_letters (letter_of line) 73 82 a.0 b.0 in absurd (omega (arith, e))
item_once k line (item.Instance s) (item.Remark t) a b = let e = two_letters (letter_of line) 73 66 a.0 b.0 in absurd (omega (arith, e))
item_once k line (item.Reference s) (item.Segment t) a b = let e = two_letters (letter_of line) 82 83 a.0 b.0 in absurd (omega (arith, e))
item_once k line (item.Reference s) (item.Connector t) a b = let e = two_letters (letter_of line) 82 67 a.0 b.0 in absurd (omega (arith, e))
item_once k line (item.Reference s) (item.Via t) a b = let e = two_letters (letter_of line) 82 86 a.0 b.0 in absurd (omega (arith, e))
item_once k line (item.Reference s) (item.Instance t) a b = let e = two_letters (letter_of line) 82 73 a.0 b.0 in absurd (omega (arith, e))
item_once k line (item.Reference s) (item.Reference t) a b = ap item.Reference (reference_once k (fields_behind line) s t a.1 b.1)
item_once k line (item.Reference s) (item.Remark t) a b = let e = two_letters (letter_of line) 82 66 a.0 b.0 in absurd (omega (arith, e))
item_once k line (item.Remark s) (item.Segment t) a b = let e = two_letters (letter_of line) 66 83 a.0 b.0 in absurd (omega (arith, e))
item_once k line (item.Remark s) (item.Connector t) a b = let e = two_letters (letter_of line) 66 67 a.0 b.0 in absurd (omega (arith, e))
item_once k line (item.Remark s) (item.Via t) a b = let e = two_letters (letter_of line) 66 86 a.0 b.0 in absurd (omega (arith, e))
item_once k line (item.Remark s) (item.Instance t) a b = let e = two_letters (letter_of line) 66 73 a.0 b.0 in absurd (omega (arith, e))
item_once k line (item.Remark s) (item.Reference t) a b = let e = two_letters (letter_of line) 66 82 a.0 b.0 in absurd (omega (arith, e))
item_once k line (item.Remark s) (item.Remark t) a b = ap item.Remark (a.1 ∙ sym b.1)

no_both : (e : Bool) → e ≡ true → e ≡ false → ⊥
no_both e yes' no' = let both : true ≡ false = sym yes' ∙ no' in absurd (cc)

items_once : (k : Scale) (names lines : List (List ℕ)) (xs ys : List Item) → AreItems k names lines xs → AreItems k names lines ys → xs ≡ ys
items_once k names [] xs ys none also = elim none [ ]
items_once k names (line ∷ rest) xs ys (ends over blanks) (ends also more) = refl
items_once k names (line ∷ rest) xs ys (ends over blanks) (blank is more) = absurd (no_both (is_end line) over (blank_goes_on line is))
items_once k names (line ∷ rest) xs (two ∷ ys) (ends over blanks) (next some clean is more) = absurd (no_both (is_end line) over (item_goes_on k line two is))
items_once k names (line ∷ rest) xs ys (blank is more) (ends over blanks) = absurd (no_both (is_end line) over (blank_goes_on line is))
items_once k names (line ∷ rest) xs ys (blank is more) (blank also others) = items_once k names rest xs ys more others
items_once k names (line ∷ rest) xs (two ∷ ys) (blank is more) (next some clean also others) = absurd (no_both (is_blank_line line) is some)
items_once k names (line ∷ rest) (one ∷ xs) ys (next some clean is more) (ends over blanks) = absurd (no_both (is_end line) over (item_goes_on k line one is))
items_once k names (line ∷ rest) (one ∷ xs) ys (next some clean is more) (blank also others) = absurd (no_both (is_blank_line line) also some)
items_once k names (line ∷ rest) (one ∷ xs) (two ∷ ys) (next some clean is more) (next some' clean' also others) =
    ap (λ (x : Item). x ∷ xs) (item_once k line one two is also) ∙ ap (λ (zs : List Item). two ∷ zs) (items_once k (names ++ names_on line) rest xs ys more others)

first_of : List (List ℕ) → List ℕ
first_of [] = []
first_of (x ∷ xs) = x

rest_of : List (List ℕ) → List (List ℕ)
rest_of [] = []
rest_of (x ∷ xs) = xs

abbrev IsDrawnBy : Scale → List ℕ → List (List ℕ) → Figure → Type 0
IsDrawnBy k box others f = IsBox k (fields_behind box) f.bounds × AreItems k [] others f.items

drawn_once : (k : Scale) (box : List ℕ) (others : List (List ℕ)) (f g : Figure) → f.name ≡ g.name → IsDrawnBy k box others f → IsDrawnBy k box others g → f ≡ g
drawn_once k box others f g name a b = λ i. record {
  name = name i;
  bounds = box_once k (fields_behind box) f.bounds g.bounds a.0 b.0 i;
  items = items_once k [] others f.items g.items a.1 b.1 i;
}

pub one_figure_of_lines : LinesSayOneFigure
unfolding first_of rest_of
one_figure_of_lines bytes f g a b =
    let lines = sym a.lines ∙ b.lines in
    let heads : a.head ≡ b.head = ap (λ (ls : List (List ℕ)). first_of (rest_of ls)) lines in
    let boxes : a.box ≡ b.box = ap (λ (ls : List (List ℕ)). first_of (rest_of (rest_of ls))) lines in
    let others : a.others ≡ b.others = ap (λ (ls : List (List ℕ)). rest_of (rest_of (rest_of ls))) lines in
    let scales : b.scale ≡ a.scale = some_once b.scale a.scale (sym b.at_scale ∙ ap (λ (h : List ℕ). scale_of (at (fields_behind h) 3)) (sym heads) ∙ a.at_scale) in
    let names : f.name ≡ g.name = a.name ∙ ap (λ (h : List ℕ). label_of (at (fields_behind h) 0)) heads ∙ sym b.name in
    let P : Scale → Type 0 = λ k. IsDrawnBy k b.box b.others g in
    let Q : List ℕ → Type 0 = λ box. IsDrawnBy a.scale box b.others g in
    let R : List (List ℕ) → Type 0 = λ ls. IsDrawnBy a.scale a.box ls g in
    drawn_once a.scale a.box a.others f g names (a.bounds, a.items) (subst R (sym others) (subst Q (sym boxes) (subst P scales (b.bounds, b.items))))

pub one_figure : OneFigure
one_figure bytes f g a b = one_figure_of_lines bytes f g a.form b.form
