-- Lines one behind the other, and what they say.
use Rattle.std.proofs.Common.{◌≡◌, ◌==◌, ℕ, suc, ◌+◌, ◌<◌, ◌≤◌, Bool, true, false, List, [], ◌∷◌, ◌++◌, length, refl, sym, ap, ◌∙◌, subst, arith, All, Result, Ok, Err, IfErr, if◌then◌else◌}
use Rattle.std.proofs.lemmas.List.{append-nil, append_assoc, length-append}
use Rattle.std.proofs.lemmas.List.Elements.{All-nil, All-push}
use Rattle.vlsi_base.specs.Lines.{lines_of, put_before}
use Rattle.vlsi_base.specs.declared.limits.TheConstants.{MOST_SOURCE_BYTES}
use Rattle.vlsi_base.specs.declared.fault.FaultKind.TheVariants as kind
use Rattle.vlsi_base.specs.declared.fault.ReadError.{ReadError}
use Rattle.vlsi_base.specs.declared.fault.ReadError.TheVariants as errors
use Rattle.real_table.specs.declared.table.Head.{Head}
use Rattle.real_table.specs.declared.table.Entry.{Entry}
use Rattle.real_table.specs.Bounds.{IsEntryWithin}
use Rattle.real_table.specs.Lines.{IsEntry, IsNoEntry}
use Rattle.real_table.specs.Process.{AreEntries, none, more, IsHead, fault_on, bad_line, IsFault, IsProcessRefusalOf, too_long, long_file, at_line, IsProcessRefusal}
use Rattle.real_table.specs.Reading.{AreRead, IsFirstBad, IsLinesRefusal}

entries_more : (lines : List (List ℕ)) (entries : List Entry) (line : List ℕ) (e : Entry) → AreEntries lines entries → IsEntry line e
    → AreEntries (lines ++ line ∷ []) (entries ++ e ∷ [])
entries_more _ _ line e none h = more h none
entries_more _ _ line e (more {line = first} {lines = lines} {e = own} {entries = entries} h t) g = more h (entries_more lines entries line e t g)

-- these are the first lines, and what they say
pub record HasRead (lines : List (List ℕ)) (number : ℕ) (left : List (List ℕ)) (entries : List Entry) : Type 0 where
  pub front : List (List ℕ)
  pub lines_are : lines ≡ front ++ left
  pub count : number ≡ length front + 1
  pub read : AreRead front entries

pub nothing_read : (lines left : List (List ℕ)) (entries : List Entry) → left ≡ lines → entries ≡ [] → HasRead lines 1 left entries
nothing_read lines left entries all is = record {
  front = [];
  lines_are = sym all;
  count = refl;
  read = subst (λ (es : List Entry). AreRead [] es) (sym is) (record { are = none; within = All-nil IsEntryWithin });
}

split_on : (front left : List (List ℕ)) (line : List ℕ) → front ++ line ∷ left ≡ (front ++ line ∷ []) ++ left
split_on front left line = sym (append_assoc front (line ∷ []) left)

length_more : (front : List (List ℕ)) (line : List ℕ) → length (front ++ line ∷ []) ≡ length front + 1
length_more front line = length-append front (line ∷ [])

pub one_line_more : (lines left seen : List (List ℕ)) (number : ℕ) (line : List ℕ) (olds news : List Entry) (e : Entry) → HasRead lines number seen olds → seen ≡ line ∷ left
    → news ≡ olds ++ e ∷ [] → IsEntry line e → IsEntryWithin e → HasRead lines (number + 1) left news
one_line_more lines left seen number line olds news e r is made own within = record {
  front = r.front ++ line ∷ [];
  lines_are = r.lines_are ∙ ap (λ (l : List (List ℕ)). r.front ++ l) is ∙ split_on r.front left line;
  count = ap (λ k. k + 1) (r.count ∙ sym (length_more r.front line));
  read = subst (λ (es : List Entry). AreRead (r.front ++ line ∷ []) es) (sym made) (record {
    are = entries_more r.front olds line e r.read.are own;
    within = All-push IsEntryWithin olds e r.read.within within;
  });
}

pub first_bad : (lines left seen : List (List ℕ)) (number : ℕ) (line : List ℕ) (entries : List Entry) (e : ReadError) → HasRead lines number seen entries → seen ≡ line ∷ left
    → IsNoEntry line → e ≡ fault_on (number + 1) kind.BadLine → IsLinesRefusal lines e
first_bad lines left seen number line entries e r is bad fault =
    let place : number + 1 ≡ length r.front + 2 = let n = r.count in omega (arith, n) in
    subst (λ (x : ReadError). IsLinesRefusal lines x) (sym fault) (record {
      before = r.front;
      line = line;
      rest = left;
      entries = entries;
      lines_are = r.lines_are ∙ ap (λ (l : List (List ℕ)). r.front ++ l) is;
      read = r.read.are;
      bad = bad;
      fault = ap (λ n. fault_on n kind.BadLine) place;
    })

pub all_read : (lines left : List (List ℕ)) (number : ℕ) (entries : List Entry) → HasRead lines number left entries → left ≡ [] → AreRead lines entries
all_read lines left number entries r is =
    let same : r.front ≡ lines = sym (append-nil r.front) ∙ ap (λ (l : List (List ℕ)). r.front ++ l) (sym is) ∙ sym r.lines_are in
    subst (λ (l : List (List ℕ)). AreRead l entries) same r.read

pub number_fits : (lines left seen : List (List ℕ)) (number : ℕ) (line : List ℕ) (entries : List Entry) → HasRead lines number seen entries → seen ≡ line ∷ left
    → number ≤ length lines
number_fits lines left seen number line entries r is =
    let all : length lines ≡ length r.front + length (line ∷ left) =
    ap length (r.lines_are ∙ ap (λ (l : List (List ℕ)). r.front ++ l) is) ∙ length-append r.front (line ∷ left) in
    omega (arith, all, r.count)

-- a text has no more lines than bytes
pub few_lines : (text : List ℕ) → length (lines_of text) ≤ length text
unfolding lines_of
few_lines [] = omega arith
few_lines (b ∷ bs) = by (b == 10) (lines_of bs) (few_lines bs) where
  put : (b : ℕ) (ls : List (List ℕ)) (n : ℕ) → length ls ≤ n → length (put_before b ls) ≤ suc n
  put b [] n h = omega arith
  put b (l ∷ ls) n h = omega (arith, h)

  by : (e : Bool) (ls : List (List ℕ)) → length ls ≤ length bs → length (if e then [] ∷ ls else put_before b ls) ≤ length (b ∷ bs)
  by true ls h = omega (arith, h)
  by false ls h = put b ls (length bs) h

-- ---- refusals

pub bad_of : (lines rest : List (List ℕ)) (first : List ℕ) (h : Head) (e : ReadError) → lines ≡ first ∷ rest → IsHead first h → IsLinesRefusal rest e → IsProcessRefusalOf lines e
bad_of lines rest first h errors.Memory is head b = tt
bad_of lines rest first h (errors.Input fault) is head b =
    bad_line first b.line b.before b.rest h b.entries (is ∙ ap (λ (l : List (List ℕ)). first ∷ l) b.lines_are) head b.read b.bad b.fault
bad_of lines rest first h (errors.Limit limit) is head b =
    bad_line first b.line b.before b.rest h b.entries (is ∙ ap (λ (l : List (List ℕ)). first ∷ l) b.lines_are) head b.read b.bad b.fault

pub of_lines : (bytes : List ℕ) (e : ReadError) → length bytes ≤ MOST_SOURCE_BYTES → IsProcessRefusalOf (lines_of bytes) e → IsProcessRefusal bytes e
of_lines bytes errors.Memory short h = tt
of_lines bytes (errors.Input fault) short h = at_line short h
of_lines bytes (errors.Limit limit) short h = at_line short h

pub too_many : (bytes : List ℕ) (e : ReadError) → MOST_SOURCE_BYTES < length bytes → e ≡ too_long → IsProcessRefusal bytes e
too_many bytes e long is = subst (λ (x : ReadError). IsProcessRefusal bytes x) (sym is) (long_file long refl)

pub refused_lines : {A : Type 0} (x : Result A ReadError) (bytes : List ℕ) (lines : List (List ℕ)) → lines ≡ lines_of bytes → length bytes ≤ MOST_SOURCE_BYTES
    → IfErr x (λ e. IsProcessRefusalOf lines e) → IfErr x (λ e. IsProcessRefusal bytes e)
refused_lines (Ok a) bytes lines is short h = tt
refused_lines (Err e) bytes lines is short h = of_lines bytes e short (subst (λ (ls : List (List ℕ)). IsProcessRefusalOf ls e) is h)
