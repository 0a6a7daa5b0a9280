-- One more line, and the cells that lines use.
use Rattle.std.proofs.Common.{◌≡◌, ◌⊎◌, inl, inr, ◌==◌, ◌<◌, ◌≤◌, ℕ, ◌+◌, Bool, true, false, List, [], ◌∷◌, ◌++◌, length, codes, refl, sym, ap, ◌∙◌, subst, bytes_eq, arith, suc, if◌then◌else◌, Option, Some, IfSome}
use Rattle.std.proofs.lemmas.Bool.{eqb-true}
use Rattle.std.proofs.lemmas.List.{append-nil, append_assoc, length-append, length-map}
use Rattle.std.proofs.lemmas.Slice.Eq.{bytes_eq-Decides}
use Rattle.std.specs.Char.{to_ascii_lowercase}
use Rattle.vlsi_base.specs.Member.{In, here, there, AllDifferent}
use Rattle.vlsi_base.specs.declared.fault.LimitKind.TheVariants as kind
use Rattle.lexer_base.specs.declared.piece.TheConstants.{MOST_IDENTIFIER_BYTES}
use Rattle.catal.specs.declared.entry.Entry.{Entry}
use Rattle.catal.specs.declared.error.CatalError.{CatalError}
use Rattle.catal.specs.declared.error.CatalError.TheVariants as errors
use Rattle.catal.specs.declared.reader.Cells.{Cells}
use Rattle.catal.specs.declared.reader.TheConstants.{MOST_CELLS}
use Rattle.catal.specs.Line.{lower, IsEntry}
use Rattle.catal.specs.Read.{IsRead}
use Rattle.catal.specs.Used.{Holds}
use Rattle.catal.specs.Catal.{Gives, empty, used, unused, Lists, none, more, AreUsed, formless, again, IsLineRefusal, bad, ident, limit_error, at_line, too_many, IsCatalRefusal}
use Rattle.catal.specs.Lines.{AddsCell, Takes, IsRefusedAt, IsLinesRefusal}
use Rattle.vlsi_base.specs.Lines.{lines_of, put_before}
use Rattle.vlsi_base.specs.declared.limits.TheConstants.{MOST_SOURCE_BYTES}

-- ---- one line

pub no_bytes : (text : List ℕ) → (length text == 0) ≡ true → text ≡ []
no_bytes [] h = refl
no_bytes (b ∷ bs) h = let e : length (b ∷ bs) ≡ 0 = eqb-true (length (b ∷ bs)) 0 h in absurd (omega (arith, e))

some_bytes : (text : List ℕ) → (length text == 0) ≡ false → text ≡ [] → ⊥
some_bytes text h e = let k : true ≡ false = sym (ap (λ (t : List ℕ). length t == 0) e) ∙ h in absurd cc

pub takes_nothing : (line : List ℕ) (names : List (List ℕ)) → (length line == 0) ≡ true → Takes line names names
takes_nothing line names h = record { names = []; gives = empty (no_bytes line h); after_is = sym (append-nil names); new = λ n i k. elim i [ ] }

pub refuses_formless : (names : List (List ℕ)) (number : ℕ) (line : List ℕ) → (length line == 0) ≡ false → ((name word : List ℕ) → IsEntry line name word → ⊥)
    → IsLineRefusal names number line (errors.BadLine number)
refuses_formless names number line some other = bad (formless (some_bytes line some) other) refl

lower_length : (line : List ℕ) (e : Entry) (r : IsRead line e) → length e.name ≡ length r.name
lower_length line e r = ap length r.name_is ∙ length-map r.name to_ascii_lowercase

pub read_of : (line : List ℕ) (o : Option Entry) (e : Entry) → o ≡ Some e → IfSome o (λ r. IsRead line r) → IsRead line e
read_of line o e is h = subst (λ (x : Option Entry). IfSome x (λ r. IsRead line r)) is h

pub refuses_long : (names : List (List ℕ)) (number : ℕ) (line : List ℕ) (e : Entry) (error : CatalError) → IsRead line e → MOST_IDENTIFIER_BYTES < length e.name
    → error ≡ limit_error kind.Ident (length e.name) → IsRefusedAt names number line error
refuses_long names number line e error r long is =
    let n : length e.name ≡ length r.name = lower_length line e r in
    subst (λ (x : CatalError). IsRefusedAt names number line x) (sym is)
    (ident r.name r.word r.entry (subst (λ k. MOST_IDENTIFIER_BYTES < k) n long) (ap (limit_error kind.Ident) n))

-- the word is C, or another
is_c : (word : List ℕ) → bytes_eq word (codes "C") ≡ true → word ≡ codes "C"
is_c word h = (bytes_eq-Decides word (codes "C")).0 h

not_c : (word : List ℕ) → bytes_eq word (codes "C") ≡ false → word ≡ codes "C" → ⊥
not_c word h e = let k : true ≡ false = sym ((bytes_eq-Decides word (codes "C")).1 e) ∙ h in absurd cc

c_entry : (line : List ℕ) (e : Entry) (r : IsRead line e) → e.used ≡ true → IsEntry line r.name (codes "C")
c_entry line e r u = subst (λ (w : List ℕ). IsEntry line r.name w) (is_c r.word (sym r.used_is ∙ u)) r.entry

pub refuses_again : (names : List (List ℕ)) (number : ℕ) (line : List ℕ) (e : Entry) (added : Bool) (cells : Cells) → IsRead line e → e.used ≡ true → added ≡ false
    → AddsCell added names e.name cells → IsLineRefusal names number line (errors.BadLine number)
refuses_again names number line e false cells r u is h = bad (again r.name (c_entry line e r u) (subst (λ (n : List ℕ). In n names) r.name_is h)) refl
refuses_again names number line e true cells r u is h = absurd cc

pub takes_cell : (names : List (List ℕ)) (line : List ℕ) (e : Entry) (added : Bool) (cells : Cells) → IsRead line e → e.used ≡ true → added ≡ true
    → (MOST_IDENTIFIER_BYTES < length e.name → ⊥) → AddsCell added names e.name cells → Takes line names cells.names
takes_cell names line e true cells r u is short h =
    let n : length e.name ≡ length r.name = lower_length line e r in
    let name : e.name ≡ lower r.name = r.name_is in
    record {
      names = lower r.name ∷ [];
      gives = used r.name (c_entry line e r u) (omega (arith, n, short));
      after_is = h.1 ∙ ap (λ (x : List ℕ). names ++ x ∷ []) name;
      new = λ m i k. only m i k;
    } where
      only : (m : List ℕ) → In m (lower r.name ∷ []) → In m names → ⊥
      only m here k = h.0 (subst (λ (x : List ℕ). In x names) (sym r.name_is) k)
      only m (there i) k = elim i [ ]
takes_cell names line e false cells r u is short h = absurd cc

pub takes_unused : (names : List (List ℕ)) (line : List ℕ) (e : Entry) → IsRead line e → e.used ≡ false → (MOST_IDENTIFIER_BYTES < length e.name → ⊥)
    → Takes line names names
takes_unused names line e r u short =
    let n : length e.name ≡ length r.name = lower_length line e r in
    record {
      names = [];
      gives = unused r.name r.word r.entry (not_c r.word (sym r.used_is ∙ u)) (omega (arith, n, short));
      after_is = sym (append-nil names);
      new = λ m i k. elim i [ ];
    }

-- ---- lines one behind the other

-- these are the first lines, and the cells that they use
pub record HasRead (lines : List (List ℕ)) (number : ℕ) (left : List (List ℕ)) (cells : Cells) : Type 0 where
  pub front : List (List ℕ)
  pub lines_are : lines ≡ front ++ left
  pub count : number ≡ length front
  pub used : AreUsed front cells.names
  pub holds : Holds cells.used cells.names

pub nothing_read : (lines left : List (List ℕ)) (cells : Cells) → left ≡ lines → cells.names ≡ [] → Holds cells.used [] → HasRead lines 0 left cells
nothing_read lines left cells all is holds = record {
  front = [];
  lines_are = sym all;
  count = refl;
  used = record { lists = subst (λ (l : List (List ℕ)). Lists [] l) (sym is) none; different = subst (λ (l : List (List ℕ)). AllDifferent l) (sym is) tt };
  holds = subst (λ (l : List (List ℕ)). Holds cells.used l) (sym is) holds;
}

one_more : (lines names : List (List ℕ)) (line : List ℕ) (given : List (List ℕ)) → Lists lines names → Gives line given → Lists (lines ++ line ∷ []) (names ++ given)
one_more _ _ line given none g = subst (λ (l : List (List ℕ)). Lists (line ∷ []) l) (append-nil given) (more g none)
one_more _ _ line given (more {line = first} {lines = lines} {given = a} {names = b} h t) g =
    subst (λ (l : List (List ℕ)). Lists (first ∷ (lines ++ line ∷ [])) l) (sym (append_assoc a b given)) (more h (one_more lines b line given t g))

pub in_parts : {A : Type 0} (x : A) (xs ys : List A) → In x (xs ++ ys) → In x xs ⊎ In x ys
in_parts x [] ys h = inr h
in_parts x (y ∷ xs) ys here = inl here
in_parts x (y ∷ xs) ys (there h) = elim (in_parts x xs ys h) [ inl k ↦ inl (there k) | inr k ↦ inr k ]

different_parts : {A : Type 0} (xs ys : List A) → AllDifferent xs → AllDifferent ys → ((x : A) → In x ys → In x xs → ⊥) → AllDifferent (xs ++ ys)
different_parts [] ys a b apart = b
different_parts (x ∷ xs) ys a b apart =
    ((λ h. elim (in_parts x xs ys h) [ inl k ↦ a.0 k | inr k ↦ apart x k here ]), different_parts xs ys a.1 b (λ y k h. apart y k (there h)))

-- a line gives one name at most
one_given : (line : List ℕ) (given : List (List ℕ)) → Gives line given → AllDifferent given
one_given line _ (empty h) = tt
one_given line _ (used name e h) = ((λ i. elim i [ ]), tt)
one_given line _ (unused name word e n h) = tt

-- lines and one more line
pub used_more : (lines before after : List (List ℕ)) (line : List ℕ) → AreUsed lines before → Takes line before after → AreUsed (lines ++ line ∷ []) after
used_more lines before after line u t = subst (λ (l : List (List ℕ)). AreUsed (lines ++ line ∷ []) l) (sym t.after_is) (record {
  lists = one_more lines before line t.names u.lists t.gives;
  different = different_parts before t.names u.different (one_given line t.names t.gives) t.new;
})

split_on : (front left : List (List ℕ)) (line : List ℕ) → front ++ line ∷ left ≡ (front ++ line ∷ []) ++ left
split_on front left line = sym (append_assoc front (line ∷ []) left)

length_more : (front : List (List ℕ)) (line : List ℕ) → length (front ++ line ∷ []) ≡ length front + 1
length_more front line = length-append front (line ∷ [])

pub one_line_more : (lines left seen : List (List ℕ)) (number : ℕ) (line : List ℕ) (old cells : Cells) → HasRead lines number seen old → seen ≡ line ∷ left
    → Takes line old.names cells.names → Holds cells.used cells.names → HasRead lines (number + 1) left cells
one_line_more lines left seen number line old cells r is t holds = record {
  front = r.front ++ line ∷ [];
  lines_are = r.lines_are ∙ ap (λ (l : List (List ℕ)). r.front ++ l) is ∙ split_on r.front left line;
  count = ap (λ k. k + 1) r.count ∙ sym (length_more r.front line);
  used = used_more r.front old.names cells.names line r.used t;
  holds = holds;
}

-- a text has no more lines than bytes
few_lines : (text : List ℕ) → length (lines_of text) ≤ length text
unfolding lines_of
few_lines [] = omega arith
few_lines (b ∷ bs) = by (b == 10) (lines_of bs) (few_lines bs) where
  put : (b : ℕ) (ls : List (List ℕ)) (n : ℕ) → length ls ≤ n → length (put_before b ls) ≤ suc n
  put b [] n h = omega arith
  put b (l ∷ ls) n h = omega (arith, h)

  by : (e : Bool) (ls : List (List ℕ)) → length ls ≤ length bs → length (if e then [] ∷ ls else put_before b ls) ≤ length (b ∷ bs)
  by true ls h = omega (arith, h)
  by false ls h = put b ls (length bs) h

pub number_fits : (bytes : List ℕ) (left seen : List (List ℕ)) (number : ℕ) (line : List ℕ) (cells : Cells) → HasRead (lines_of bytes) number seen cells → seen ≡ line ∷ left
    → length bytes ≤ MOST_SOURCE_BYTES → number < MOST_SOURCE_BYTES
number_fits bytes left seen number line cells r is short =
    let all : length (lines_of bytes) ≡ length r.front + length (line ∷ left) =
    ap length (r.lines_are ∙ ap (λ (l : List (List ℕ)). r.front ++ l) is) ∙ length-append r.front (line ∷ left) in
    omega (arith, all, r.count, few_lines bytes, short)

pub refused_line : (bytes : List ℕ) (e : CatalError) → length bytes ≤ MOST_SOURCE_BYTES → IsLinesRefusal (lines_of bytes) e → IsCatalRefusal bytes e
refused_line bytes errors.Memory short h = tt
refused_line bytes (errors.BadLine n) short h = at_line short h
refused_line bytes (errors.Limit l) short h = at_line short h

pub refused_cells : (bytes : List ℕ) (names : List (List ℕ)) (e : CatalError) → length bytes ≤ MOST_SOURCE_BYTES → AreUsed (lines_of bytes) names → MOST_CELLS < length names
    → e ≡ limit_error kind.Cells (length names) → IsCatalRefusal bytes e
refused_cells bytes names e short u many is = subst (λ (x : CatalError). IsCatalRefusal bytes x) (sym is) (too_many names short u many refl)
