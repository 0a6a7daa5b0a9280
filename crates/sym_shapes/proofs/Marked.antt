-- Shapes of one mark come into one group, one after another.
use Rattle.std.proofs.Common.{◌≡◌, ℕ, ◌+◌, ◌<◌, inl, inr, Bool, true, false, cond, List, [], length, get_or, Option, None, Some, nat_eq, Bor, refl, sym, ◌∙◌, ap, subst, arith}
use Rattle.std.specs.Cmp.Lexicographic.{pointwise, bytes_decides}
use Rattle.std.specs.Option.{option_eq, option_copied}
use Rattle.std.proofs.lemmas.Bool.{cases_lt}
use Rattle.vlsi_base.specs.declared.name.Name.{Name}
use Rattle.sym_groups.specs.Ties.{Tied, same}
use Rattle.sym_groups.proofs.Steps.{tied_then, tied_back}
use Rattle.sym_shapes.proofs.Tests.{both, and_told, number_told, number_so}
use Rattle.sym_shapes.specs.Shape.{Shape}
use Rattle.sym_shapes.specs.Joined.{Linked, touching, one_line, one_name}
use Rattle.sym_shapes.specs.Joints.{Covers}
use Rattle.sym_shapes.specs.Sweep.{CoversTouching}
use Rattle.sym_shapes.specs.Marks.{Sign, by_line, by_name, Mark, name_mark, mark_of, CoversMarks}
use Rattle.sym_shapes.specs.View.{sign_view, mark_view}
use Rattle.sym_shapes.specs.Seen.{Seen}
use Rattle.sym_shapes.specs.declared.marks.Kind.{Kind}
use Rattle.sym_shapes.specs.declared.marks.Kind.TheVariants as kind
use Rattle.sym_shapes.specs.declared.marks.Mark.{Mark as Key}
use Rattle.sym_shapes.specs.declared.marks.Sign.{Sign as KeySign}
use Rattle.sym_shapes.specs.declared.marks.Sign.TheVariants as sign
use Rattle.sym_shapes.specs.contracts.marks.MarkPartialEq.TheImpl as the_eq
use Rattle.sym_shapes.specs.contracts.marks.SignPartialEq.TheImpl as sign_eq

abbrev pub key_eq : Key → Key → Bool
key_eq = the_eq.ghosts.eq

owner_same : (a b : Option (Bor (List ℕ))) → option_eq (λ x y. pointwise nat_eq x.now y.now) a b ≡ true → option_copied a ≡ option_copied b
owner_same None None h = refl
owner_same (Some a) (Some b) h = ap (λ (x : List ℕ). Some x) ((bytes_decides a.now b.now).0 h)
owner_same None (Some b) h = absurd (cc h)
owner_same (Some a) None h = absurd (cc h)

owner_told : (a b : Option (Bor (List ℕ))) → option_copied a ≡ option_copied b → option_eq (λ x y. pointwise nat_eq x.now y.now) a b ≡ true
owner_told None None h = refl
owner_told (Some a) (Some b) h = let e : a.now ≡ b.now = cc h in (bytes_decides a.now b.now).1 e
owner_told None (Some b) h = absurd (cc h)
owner_told (Some a) None h = absurd (cc h)

bit_same : (a b : Option ℕ) → option_eq nat_eq a b ≡ true → a ≡ b
bit_same None None h = refl
bit_same (Some a) (Some b) h = ap (λ (x : ℕ). Some x) (number_so a b h)
bit_same None (Some b) h = absurd (cc h)
bit_same (Some a) None h = absurd (cc h)

bit_told : (a b : Option ℕ) → a ≡ b → option_eq nat_eq a b ≡ true
bit_told None None h = refl
bit_told (Some a) (Some b) h = let e : a ≡ b = cc h in number_told a b e
bit_told None (Some b) h = absurd (cc h)
bit_told (Some a) None h = absurd (cc h)

abbrev line_of : Sign → ℕ
line_of (by_line line) = line
line_of (by_name name) = 0

abbrev text_of : Sign → List ℕ
text_of (by_line line) = []
text_of (by_name name) = name.text

abbrev bit_of : Sign → Option ℕ
bit_of (by_line line) = None
bit_of (by_name name) = name.bit

abbrev is_line : Sign → Bool
is_line (by_line line) = true
is_line (by_name name) = false

sign_same : (a b : KeySign) → sign_eq.ghosts.eq a b ≡ true → sign_view a ≡ sign_view b
sign_same (sign.Line m) (sign.Line n) h = ap by_line (number_so m n h)
sign_same (sign.Connector t m) (sign.Connector u n) h =
    let p = both (pointwise nat_eq t.now u.now) (option_eq nat_eq m n) h in
    ap (λ (x : List ℕ). by_name (record { text = x; bit = m })) ((bytes_decides t.now u.now).0 p.0)
    ∙ ap (λ (x : Option ℕ). by_name (record { text = u.now; bit = x })) (bit_same m n p.1)
sign_same (sign.Line m) (sign.Connector u n) h = absurd (cc h)
sign_same (sign.Connector t m) (sign.Line n) h = absurd (cc h)

sign_told : (a b : KeySign) → sign_view a ≡ sign_view b → sign_eq.ghosts.eq a b ≡ true
sign_told (sign.Line m) (sign.Line n) h = number_told m n (ap line_of h)
sign_told (sign.Connector t m) (sign.Connector u n) h =
    and_told (pointwise nat_eq t.now u.now) (option_eq nat_eq m n) ((bytes_decides t.now u.now).1 (ap text_of h)) (bit_told m n (ap bit_of h))
sign_told (sign.Line m) (sign.Connector u n) h = absurd (let e : true ≡ false = ap is_line h in cc e)
sign_told (sign.Connector t m) (sign.Line n) h = absurd (let e : false ≡ true = ap is_line h in cc e)

-- two marks in memory are equal where they are one mark
pub key_same : (p q : Key) → key_eq p q ≡ true → mark_view p ≡ mark_view q
key_same p q h =
    let r = both (option_eq (λ x y. pointwise nat_eq x.now y.now) p.owner q.owner) (sign_eq.ghosts.eq p.sign q.sign) h in
    ap (λ (x : Option (List ℕ)). record { owner = x; sign = sign_view p.sign }) (owner_same p.owner q.owner r.0)
    ∙ ap (λ (x : Sign). record { owner = option_copied q.owner; sign = x }) (sign_same p.sign q.sign r.1)

pub key_told : (p q : Key) → mark_view p ≡ mark_view q → key_eq p q ≡ true
key_told p q h =
    and_told (option_eq (λ x y. pointwise nat_eq x.now y.now) p.owner q.owner) (sign_eq.ghosts.eq p.sign q.sign)
    (owner_told p.owner q.owner (ap (λ (x : Mark). x.owner) h)) (sign_told p.sign q.sign (ap (λ (x : Mark). x.sign) h))

name_linked : (a b : Shape) (m d : Option Name) (x : Mark) → a.name ≡ m → b.name ≡ d → name_mark a.owner m ≡ Some x → name_mark b.owner d ≡ Some x → Linked a b
name_linked a b None d x ea eb h g = absurd (cc h)
name_linked a b (Some m) None x ea eb h g = absurd (cc g)
name_linked a b (Some m) (Some d) x ea eb h g =
    let first : record { owner = a.owner; sign = by_name m } ≡ x = cc h in
    let second : record { owner = b.owner; sign = by_name d } ≡ x = cc g in
    let all : Path Mark (record { owner = a.owner; sign = by_name m }) (record { owner = b.owner; sign = by_name d }) = first ∙ sym second in
    let signs = ap (λ (z : Mark). z.sign) all in
    let texts : m.text ≡ d.text = ap text_of signs in
    let bits : m.bit ≡ d.bit = ap bit_of signs in
    let names : m ≡ d = ap (λ (t : List ℕ). record { text = t; bit = m.bit }) texts ∙ ap (λ (k : Option ℕ). record { text = d.text; bit = k }) bits in
    one_name (ap (λ (z : Mark). z.owner) all) d (ea ∙ ap (λ (z : Name). Some z) names) eb

-- shapes of one mark are linked
pub marked_linked : (k : Kind) (a b : Shape) (x : Mark) → mark_of k a ≡ Some x → mark_of k b ≡ Some x → Linked a b
marked_linked kind.Line a b x h g =
    let first : record { owner = a.owner; sign = by_line a.line } ≡ x = cc h in
    let second : record { owner = b.owner; sign = by_line b.line } ≡ x = cc g in
    let all : Path Mark (record { owner = a.owner; sign = by_line a.line }) (record { owner = b.owner; sign = by_line b.line }) = first ∙ sym second in
    one_line (ap (λ (z : Mark). z.owner) all) (ap line_of (ap (λ (z : Mark). z.sign) all))
marked_linked kind.Name a b x h g = name_linked a b a.name b.name x refl refl h g

pub some_same : {A : Type 0} (a b : A) → Some a ≡ Some b → a ≡ b
some_same a b h = cc h

-- a shape without a mark changes nothing
pub unmarked : (shapes : List Shape) (k : Kind) (ps : List ℕ) (place : Key → Option ℕ) (n : ℕ) → Seen shapes k ps place n
    → ((d : Shape) → mark_of k (get_or shapes n d) ≡ None) → Seen shapes k ps place (n + 1)
unmarked shapes k ps place n seen none = record {
  sound = λ q f d e. let r = seen.sound q f d e in (let low = r.0 in omega (arith, low), r.1);
  found = λ i q d low is. elim (cases_lt i n) [
    | inl lt ↦ seen.found i q d lt is
    | inr ge ↦ let e : i ≡ n = omega arith in absurd (let h : None ≡ Some (mark_view q) = sym (none d) ∙ subst (λ (x : ℕ). mark_of k (get_or shapes x d) ≡ Some (mark_view q)) e is in cc h)
  ];
  keyed = λ i d m low is. elim (cases_lt i n) [
    | inl lt ↦ seen.keyed i d m lt is
    | inr ge ↦ let e : i ≡ n = omega arith in absurd (let h : None ≡ Some m = sym (none d) ∙ subst (λ (x : ℕ). mark_of k (get_or shapes x d) ≡ Some m) e is in cc h)
  ];
}

-- a shape takes the place of its mark, in one group with the one that had it
module _ (shapes : List Shape) (k : Kind) (ps qs : List ℕ) (place after : Key → Option ℕ) (n : ℕ) (key : Key) (seen : Seen shapes k ps place n)
    (marked : (d : Shape) → mark_of k (get_or shapes n d) ≡ Some (mark_view key)) (put : (q : Key) → after q ≡ cond (key_eq key q) (Some n) (place q))
    (kept : (i j : ℕ) → Tied ps i j → Tied qs i j) (met : (f : ℕ) → place key ≡ Some f → Tied qs f n) where
  sound_by : (q : Key) (f : ℕ) (d : Shape) (b : Bool) → key_eq key q ≡ b → cond b (Some n) (place q) ≡ Some f → (f < n + 1) × (mark_of k (get_or shapes f d) ≡ Some (mark_view q))
  sound_by q f d true e is =
      let at : n ≡ f = some_same n f is in
      (omega (arith, at), subst (λ (x : ℕ). mark_of k (get_or shapes x d) ≡ Some (mark_view q)) at (marked d ∙ ap (λ (m : Mark). Some m) (key_same key q e)))
  sound_by q f d false e is = let r = seen.sound q f d is in (let low = r.0 in omega (arith, low), r.1)

  found_by : (i : ℕ) (q : Key) (d : Shape) (b : Bool) → key_eq key q ≡ b → i < n + 1 → mark_of k (get_or shapes i d) ≡ Some (mark_view q)
      → (f : ℕ) × (cond b (Some n) (place q) ≡ Some f) × Tied qs f i
  found_by i q d true e low is = (
    n,
    refl,
    elim (cases_lt i n) [
      | inl lt ↦
          let r = seen.found i key d lt (is ∙ ap (λ (m : Mark). Some m) (sym (key_same key q e))) in
          tied_then (tied_back (met r.0 r.1)) (kept r.0 i r.2)
      | inr ge ↦ let at : n ≡ i = omega arith in subst (λ (x : ℕ). Tied qs n x) at same
    ],
  )
  found_by i q d false e low is = elim (cases_lt i n) [
    | inl lt ↦ let r = seen.found i q d lt is in (r.0, r.1, kept r.0 i r.2)
    | inr ge ↦
        let at : i ≡ n = omega arith in
        let one : Some (mark_view key) ≡ Some (mark_view q) = sym (marked d) ∙ subst (λ (x : ℕ). mark_of k (get_or shapes x d) ≡ Some (mark_view q)) at is in
        absurd (let h : false ≡ true = sym e ∙ key_told key q (some_same (mark_view key) (mark_view q) one) in cc h)
  ]

  pub put_seen : Seen shapes k qs after (n + 1)
  put_seen = record {
    sound = λ q f d e. sound_by q f d (key_eq key q) refl (sym (put q) ∙ e);
    found = λ i q d low is. let r = found_by i q d (key_eq key q) refl low is in (r.0, put q ∙ r.1, r.2);
    keyed = λ i d m low is. elim (cases_lt i n) [
      | inl lt ↦ seen.keyed i d m lt is
      | inr ge ↦ let at : i ≡ n = omega arith in
          (key, some_same (mark_view key) m (sym (marked d) ∙ subst (λ (x : ℕ). mark_of k (get_or shapes x d) ≡ Some m) at is))
    ];
  }

pub covers_marks : (shapes : List Shape) (k : Kind) (ps : List ℕ) (place : Key → Option ℕ) → Seen shapes k ps place (length shapes) → CoversMarks shapes k ps
covers_marks shapes k ps place seen i j d m hi hj is_i is_j =
    let q = seen.keyed i d m hi is_i in
    let a = seen.found i q.0 d hi (is_i ∙ ap (λ (x : Mark). Some x) (sym q.1)) in
    let b = seen.found j q.0 d hj (is_j ∙ ap (λ (x : Mark). Some x) (sym q.1)) in
    let one : b.0 ≡ a.0 = some_same b.0 a.0 (sym b.1 ∙ a.1) in
    tied_then (tied_back a.2) (subst (λ (x : ℕ). Tied ps x j) one b.2)

-- what touches, what one line gives and what has one name are all links
pub covers_so : (shapes : List Shape) (ps qs rs : List ℕ) → CoversTouching shapes ps → ((i j : ℕ) → Tied ps i j → Tied qs i j)
    → CoversMarks shapes kind.Line qs → ((i j : ℕ) → Tied qs i j → Tied rs i j) → CoversMarks shapes kind.Name rs → Covers shapes rs
covers_so shapes ps qs rs touches first lines second names i j d hi hj link = elim link [
  | touching metal meet ↦ second i j (first i j (touches i j d hi hj (metal, meet)))
  | one_line owner line ↦ second i j (lines i j d (record { owner = (get_or shapes i d).owner; sign = by_line (get_or shapes i d).line }) hi hj refl
      (ap (λ (o : Option (List ℕ)). Some (record { owner = o; sign = by_line (get_or shapes j d).line })) (sym owner)
      ∙ ap (λ (k : ℕ). Some (record { owner = (get_or shapes i d).owner; sign = by_line k })) (sym line)))
  | one_name owner name is_first is_second ↦ names i j d (record { owner = (get_or shapes i d).owner; sign = by_name name }) hi hj
      (ap (name_mark (get_or shapes i d).owner) is_first)
      (ap (name_mark (get_or shapes j d).owner) is_second ∙ ap (λ (o : Option (List ℕ)). Some (record { owner = o; sign = by_name name })) (sym owner))
]
