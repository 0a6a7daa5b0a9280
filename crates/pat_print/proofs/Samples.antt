-- Patterns of which the law speaks, and what is written of them.
use Rattle.std.proofs.Common.{◌≡◌, ℕ, ◌^◌, ◌<◌, Bool, true, false, ◌||◌, List, [], ◌∷◌, ◌++◌, None, Some, refl, ◌⊎◌, inr, arith, codes}
use Rattle.std.specs.Fmt.{digits}
use Rattle.std.specs.List.{All, list_any}
use Rattle.std.proofs.lemmas.List.Elements.{All-nil, All-cons}
use Rattle.vlsi_base.specs.declared.name.Name.{Name}
use Rattle.vlsi_base.specs.declared.name.Port.{Port}
use Rattle.vlsi_base.specs.declared.name.Dir.TheVariants as dir
use Rattle.machine_core.specs.Named.{is_same_name}
use Rattle.machine_core.proofs.Names.{same_name-itself}
use Rattle.machine_core.specs.Order.{In, here, there, AllDifferent}
use Rattle.pat_meaning.specs.declared.patterns.Column.{Column}
use Rattle.vlsi_base.specs.declared.radix.Radix.TheVariants.{Binary, Octal}
use Rattle.pat_meaning.specs.declared.patterns.Pattern.{Pattern}
use Rattle.pat_meaning.specs.declared.patterns.Patterns.{Patterns}
use Rattle.pat_meaning.specs.declared.patterns.TimeUnit.TheVariants.{Nanosecond}
use Rattle.pat_meaning.specs.declared.patterns.Value.TheVariants.{Digits, Any}
use Rattle.pat_meaning.specs.Columns.{listed, FitsColumns}
use Rattle.pat_meaning.specs.Answers.{IsSupplyColumn, IsOfPorts}
use Rattle.pat_io.specs.Spelling.{text_of}
use Rattle.vlsi_base.specs.Name.{is_supply}
use Rattle.pat_io.specs.PatternText.{IsPatternText}
use Rattle.pat_print.specs.WrittenAgain.{IsSmallWord, IsSmallLabel, HasSmallEnds, CanBeSpelled}
use Rattle.pat_print.proofs.Again.{written_is_read_again}

abbrev scalar : List ℕ → Name
scalar text = record { text = text; bit = None }

abbrev bit : List ℕ → ℕ → Name
bit text k = record { text = text; bit = Some k }

abbrev a_in : Port
a_in = record { name = scalar (codes "a"); dir = dir.In }

abbrev y_out : ℕ → Port
y_out k = record { name = bit (codes "y") k; dir = dir.Out }

abbrev ports : List Port
ports = a_in ∷ y_out 1 ∷ y_out 0 ∷ []

abbrev a_column : Column
a_column = record { name = codes "a"; dir = dir.In; range = None; format = Binary }

abbrev y_column : Column
y_column = record { name = codes "y"; dir = dir.Out; range = Some (record { left = 1; right = 0 }); format = Octal }

abbrev first : Pattern
first = record { time = record { is_added = false; number = 10; unit = Nanosecond }; label = Some (codes "start"); values = Digits (true ∷ []) ∷ Digits (true ∷ false ∷ []) ∷ [] }

abbrev second : Pattern
second = record { time = record { is_added = true; number = 5; unit = Nanosecond }; label = None; values = Digits (false ∷ []) ∷ Any ∷ [] }

abbrev sample : Patterns
sample = record { columns = a_column ∷ y_column ∷ []; patterns = first ∷ second ∷ [] }

abbrev line : List ℕ → List ℕ → List ℕ
line text rest = text ++ 10 ∷ rest

spelling : text_of sample ≡ line (codes "in a;") (line (codes "out y (1 downto 0) O;") (line (codes "begin") (line (codes "< 10 ns> start : 1 ?2;") (line (codes "< + 5 ns> : 0 ?*;") (line (codes "end;") [])))))
unfolding text_of digits
spelling = refl

abbrev IsRight : Column → Type 0
IsRight c = IsSupplyColumn c ⊎ IsOfPorts ports c

right : All IsRight sample.columns
right =
    let A : Name → Type 0 = λ n. In (record { name = n; dir = dir.In }) ports in
    let Y : Name → Type 0 = λ n. In (record { name = n; dir = dir.Out }) ports in
    All-cons IsRight a_column (y_column ∷ []) (inr (All-cons A (scalar (codes "a")) [] here (All-nil A)))
    (All-cons IsRight y_column [] (inr (All-cons Y (bit (codes "y") 1) (bit (codes "y") 0 ∷ []) (there here) (All-cons Y (bit (codes "y") 0) [] (there (there here)) (All-nil Y)))) (All-nil IsRight))

fits : All (λ q. FitsColumns sample.columns q.values) sample.patterns
fits =
    let F : Pattern → Type 0 = λ q. FitsColumns sample.columns q.values in
    All-cons F first (second ∷ []) (refl, (refl, tt)) (All-cons F second [] (refl, (refl, tt)) (All-nil F))

right_one : (a b : Bool) → b ≡ true → (a || b) ≡ true
right_one true b h = refl
right_one false b h = h

in_test : (n : Name) (ns : List Name) → In n ns → list_any (is_same_name n) ns ≡ true
in_test n (x ∷ xs) here = left (is_same_name n n) (list_any (is_same_name n) xs) (same_name-itself n) where
  left : (a b : Bool) → a ≡ true → (a || b) ≡ true
  left a b h = rw h refl
in_test n (x ∷ xs) (there i) = right_one (is_same_name n x) (list_any (is_same_name n) xs) (in_test n xs i)
in_test n [] i = elim i [ ]

absent : (n : Name) (ns : List Name) → list_any (is_same_name n) ns ≡ false → In n ns → ⊥
absent n ns h i = let e = in_test n ns i in absurd cc

different : AllDifferent (listed sample.columns)
different =
    let a = scalar (codes "a") in
    let y1 = bit (codes "y") 1 in
    let y0 = bit (codes "y") 0 in
    (absent a (y1 ∷ y0 ∷ []) refl, (absent y1 (y0 ∷ []) refl, (absent y0 [] refl, tt)))

free : All (λ port. is_supply port.name.text ≡ false) ports
free =
    let P : Port → Type 0 = λ port. is_supply port.name.text ≡ false in
    All-cons P a_in (y_out 1 ∷ y_out 0 ∷ []) refl (All-cons P (y_out 1) (y_out 0 ∷ []) refl (All-cons P (y_out 0) [] refl (All-nil P)))

spelled : CanBeSpelled sample
spelled =
    let N : Column → Type 0 = λ c. IsSmallWord c.name in
    let E : Column → Type 0 = λ c. HasSmallEnds c.range in
    let L : Pattern → Type 0 = λ q. IsSmallLabel q.label in
    let T : Pattern → Type 0 = λ q. q.time.number < 2 ^ 32 in
    record {
      names = All-cons N a_column (y_column ∷ []) (record { begins = refl; letters = refl; short = omega arith }) (All-cons N y_column [] (record { begins = refl; letters = refl; short = omega arith }) (All-nil N));
      ends = All-cons E a_column (y_column ∷ []) tt (All-cons E y_column [] (omega arith, omega arith) (All-nil E));
      labels = All-cons L first (second ∷ []) (record { begins = refl; letters = refl; short = omega arith }) (All-cons L second [] tt (All-nil L));
      numbers = All-cons T first (second ∷ []) (omega arith) (All-cons T second [] (omega arith) (All-nil T));
    }

-- The law speaks of them: their text is a pattern file of them.
pub sample_again : IsPatternText (text_of sample) ports sample
unfolding text_of digits
sample_again = written_is_read_again ports sample (record { columns = right; different = different; values = fits }) free spelled refl (omega arith)
