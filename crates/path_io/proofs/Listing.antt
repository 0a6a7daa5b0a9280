-- Lines that are read one behind the other.
use Rattle.std.proofs.Common.{◌≡◌, ◌<◌, ◌≤◌, ℕ, suc, ◌+◌, Bool, true, false, List, [], ◌∷◌, ◌++◌, length, sym, ap, ◌∙◌, subst, arith, append_assoc, length-append, if◌then◌else◌, ◌==◌}
use Rattle.std.specs.Prelude.{max}
use Rattle.std.proofs.lemmas.List.{append-nil}
use Rattle.vlsi_base.specs.declared.limits.TheConstants.{MOST_SOURCE_BYTES}
use Rattle.vlsi_base.specs.declared.fault.ReadError.{ReadError}
use Rattle.vlsi_base.specs.declared.fault.ReadError.TheVariants as errors
use Rattle.vlsi_base.specs.Lines.{lines_of, put_before, without_return}
use Rattle.path_io.specs.declared.reader.PathFile.{PathFile}
use Rattle.path_io.specs.PathText.{is_blank_line, IsNamed, Lists, ended, blank, named, IsPathText, IsFirstFault, at_line, IsLineRefusal, IsRefusedLine, IsPathTextRefusal, PushesName}

-- these lines were read, and their names are those of the file
pub record HasRead (lines left : List (List ℕ)) (f : PathFile) : Type 0 where
  pub front : List (List ℕ)
  pub lines_are : lines ≡ front ++ left
  pub count : f.last ≡ length front
  pub lists : Lists 1 front f.names.items f.lines.items

-- ---- one line more

more_blank : (k : ℕ) (lines names : List (List ℕ)) (numbers : List ℕ) (line : List ℕ) → Lists k lines names numbers → is_blank_line (without_return line) ≡ true
    → Lists k (lines ++ line ∷ []) names numbers
more_blank k _ _ _ line ended is = blank is ended
more_blank k _ _ _ line (blank {lines = lines} {names = names} {numbers = numbers} b rest) is = blank b (more_blank (k + 1) lines names numbers line rest is)
more_blank k _ _ _ line (named {lines = lines} {names = names} {numbers = numbers} n rest) is = named n (more_blank (k + 1) lines names numbers line rest is)

one_named : (k j : ℕ) (line name : List ℕ) → IsNamed line name → k ≡ j → Lists k (line ∷ []) (name ∷ []) (j ∷ [])
one_named k j line name n same = subst (λ (i : ℕ). Lists k (line ∷ []) (name ∷ []) (i ∷ [])) same (named n ended)

more_named : (k j : ℕ) (lines names : List (List ℕ)) (numbers : List ℕ) (line name : List ℕ) → Lists k lines names numbers → IsNamed line name → k + length lines ≡ j
    → Lists k (lines ++ line ∷ []) (names ++ name ∷ []) (numbers ++ j ∷ [])
more_named k j _ _ _ line name ended n at = one_named k j line name n (omega (arith, at))
more_named k j _ _ _ line name (blank {lines = lines} {names = names} {numbers = numbers} b rest) n at =
    blank b (more_named (k + 1) j lines names numbers line name rest n (omega (arith, at)))
more_named k j _ _ _ line name (named {lines = lines} {names = names} {numbers = numbers} m rest) n at =
    named m (more_named (k + 1) j lines names numbers line name rest n (omega (arith, at)))

split_on : (front left : List (List ℕ)) (line : List ℕ) → front ++ line ∷ left ≡ (front ++ line ∷ []) ++ left
split_on front left line = sym (append_assoc front (line ∷ []) left)

length_more : (front : List (List ℕ)) (line : List ℕ) → length (front ++ line ∷ []) ≡ length front + 1
length_more front line = length-append front (line ∷ [])

pub nothing_read : (lines left : List (List ℕ)) (f : PathFile) → left ≡ lines → f.last ≡ 0 → f.names.items ≡ [] → f.lines.items ≡ [] → HasRead lines left f
nothing_read lines left f all last names numbers = record {
  front = [];
  lines_are = sym all;
  count = last;
  lists = subst (λ (ns : List (List ℕ)). Lists 1 [] ns f.lines.items) (sym names) (subst (λ (ks : List ℕ). Lists 1 [] [] ks) (sym numbers) ended);
}

pub blank_read : (lines left seen : List (List ℕ)) (line : List ℕ) (old new : PathFile) → HasRead lines seen old → seen ≡ line ∷ left
    → is_blank_line (without_return line) ≡ true → new.last ≡ old.last + 1 → new.names.items ≡ old.names.items → new.lines.items ≡ old.lines.items → HasRead lines left new
blank_read lines left seen line old new r is white last names numbers = record {
  front = r.front ++ line ∷ [];
  lines_are = r.lines_are ∙ ap (λ (l : List (List ℕ)). r.front ++ l) is ∙ split_on r.front left line;
  count = last ∙ ap (λ k. k + 1) r.count ∙ sym (length_more r.front line);
  lists = subst (λ (ns : List (List ℕ)). Lists 1 (r.front ++ line ∷ []) ns new.lines.items) (sym names)
      (subst (λ (ks : List ℕ). Lists 1 (r.front ++ line ∷ []) old.names.items ks) (sym numbers) (more_blank 1 r.front old.names.items old.lines.items line r.lists white));
}

pub name_read : (lines left seen : List (List ℕ)) (line name : List ℕ) (old next new : PathFile) → HasRead lines seen old → seen ≡ line ∷ left
    → IsNamed line name → next.last ≡ old.last + 1 → next.names.items ≡ old.names.items → next.lines.items ≡ old.lines.items → PushesName next name new → HasRead lines left new
name_read lines left seen line name old next new r is said last names numbers put = record {
  front = r.front ++ line ∷ [];
  lines_are = r.lines_are ∙ ap (λ (l : List (List ℕ)). r.front ++ l) is ∙ split_on r.front left line;
  count = put.last ∙ last ∙ ap (λ k. k + 1) r.count ∙ sym (length_more r.front line);
  lists = subst (λ (ns : List (List ℕ)). Lists 1 (r.front ++ line ∷ []) ns new.lines.items) (sym (put.names ∙ ap (λ (ns : List (List ℕ)). ns ++ name ∷ []) names))
      (subst (λ (ks : List ℕ). Lists 1 (r.front ++ line ∷ []) (old.names.items ++ name ∷ []) ks) (sym (put.lines ∙ ap (λ (ks : List ℕ). ks ++ next.last ∷ []) numbers))
      (more_named 1 next.last r.front old.names.items old.lines.items line name r.lists said (let c = r.count in omega (arith, c, last))));
}

-- ---- how many lines there are

few_put : (b : ℕ) (lines : List (List ℕ)) (n : ℕ) → length lines ≤ n → length (put_before b lines) ≤ suc n
few_put b [] n few = omega arith
few_put b (line ∷ lines) n few = omega (arith, few)

few_lines : (text : List ℕ) → length (lines_of text) ≤ length text
unfolding lines_of
few_lines [] = omega arith
few_lines (b ∷ bs) = by (b == 10) (lines_of bs) (few_lines bs) where
  by : (e : Bool) (ls : List (List ℕ)) → length ls ≤ length bs → length (if e then [] ∷ ls else put_before b ls) ≤ length (b ∷ bs)
  by true ls h = omega (arith, h)
  by false ls h = few_put b ls (length bs) h

pub number_fits : (bytes : List ℕ) (left seen : List (List ℕ)) (line : List ℕ) (f : PathFile) → HasRead (lines_of bytes) seen f → seen ≡ line ∷ left
    → length bytes ≤ MOST_SOURCE_BYTES → f.last < MOST_SOURCE_BYTES
number_fits bytes left seen line f r is short =
    let all : length (lines_of bytes) ≡ length r.front + length (line ∷ left) =
    ap length (r.lines_are ∙ ap (λ (l : List (List ℕ)). r.front ++ l) is) ∙ length-append r.front (line ∷ left) in
    let count = r.count in
    let few = few_lines bytes in
    omega (arith, all, count, few, short)

-- ---- the end

pub all_read : (bytes : List ℕ) (left : List (List ℕ)) (old new : PathFile) → length bytes ≤ MOST_SOURCE_BYTES → HasRead (lines_of bytes) left old → left ≡ []
    → new.last ≡ max old.last 1 → new.names.items ≡ old.names.items → new.lines.items ≡ old.lines.items → IsPathText bytes new
all_read bytes left old new short r none last names numbers = record {
  short = short;
  lists = subst (λ (ns : List (List ℕ)). Lists 1 (lines_of bytes) ns new.lines.items) (sym names)
      (subst (λ (ks : List ℕ). Lists 1 (lines_of bytes) old.names.items ks) (sym numbers)
      (subst (λ (ls : List (List ℕ)). Lists 1 ls old.names.items old.lines.items) (sym all) r.lists));
  last = last ∙ ap (λ k. max k 1) (r.count ∙ ap length (sym all));
} where
  all : lines_of bytes ≡ r.front
  all = r.lines_are ∙ ap (λ (l : List (List ℕ)). r.front ++ l) none ∙ append-nil r.front

pub line_refused : (bytes : List ℕ) (left seen : List (List ℕ)) (line : List ℕ) (f : PathFile) (number : ℕ) (e : ReadError) → length bytes ≤ MOST_SOURCE_BYTES
    → HasRead (lines_of bytes) seen f → seen ≡ line ∷ left → number ≡ f.last + 1 → IsRefusedLine number line e → IsPathTextRefusal bytes e
line_refused bytes left seen line f number e short r is at h = by e h where
  first : (d : ReadError) → IsLineRefusal number line d → IsFirstFault (lines_of bytes) d
  first d k = record {
    before = r.front;
    line = line;
    behind = left;
    lines_are = r.lines_are ∙ ap (λ (l : List (List ℕ)). r.front ++ l) is;
    names = f.names.items;
    numbers = f.lines.items;
    fine = r.lists;
    refused = subst (λ (i : ℕ). IsLineRefusal i line d) (at ∙ ap (λ i. i + 1) r.count) k;
  }

  by : (d : ReadError) → IsRefusedLine number line d → IsPathTextRefusal bytes d
  by errors.Memory k = tt
  by (errors.Input f) k = at_line short (first (errors.Input f) k)
  by (errors.Limit l) k = at_line short (first (errors.Limit l) k)
