-- The values that the grammar gives match the columns.
use Rattle.std.proofs.Common.{ℕ, List, [], ◌∷◌, Option, Some, None, sym, subst}
use Rattle.std.specs.List.{All}
use Rattle.std.proofs.lemmas.List.Elements.{All-nil, All-cons}
use Rattle.vlsi_base.specs.declared.name.Dir.{Dir}
use Rattle.vlsi_base.specs.declared.name.Dir.TheVariants as dir
use Rattle.vhdl_token.specs.declared.token.PlacedToken.{PlacedToken}
use Rattle.grammar_theory.specs.Marks.{Item}
use Rattle.grammar_theory.specs.Grammar.{Grammar, list}
use Rattle.vlsi_base.specs.declared.radix.Radix.{Radix}
use Rattle.pat_text.specs.declared.parsed.ParsedColumn.{ParsedColumn}
use Rattle.pat_text.specs.declared.parsed.ParsedValue.{ParsedValue}
use Rattle.pat_text.specs.declared.parsed.ParsedPattern.{ParsedPattern}
use Rattle.pat_text.specs.declared.parsed.PatternFile.{PatternFile}
use Rattle.pat_text.specs.Patterns.{given, value_of, values, pattern, file_behind, file}
use Rattle.pat_text.specs.Answers.{IsFile}

-- an input has digits
abbrev pub Given : Dir → Option (List ℕ) → Type 0
Given dir.In None = ⊥
Given dir.In (Some digits) = Unit {0}
Given dir.Out digits = Unit {0}

-- a value for each column, with digits for an input
abbrev pub Matches : List ParsedColumn → List ParsedValue → Type 0
Matches [] [] = Unit {0}
Matches [] (v ∷ vs) = ⊥
Matches (c ∷ cs) [] = ⊥
Matches (c ∷ cs) (v ∷ vs) = Given c.dir v.digits × Matches cs vs

given_value : (d : Dir) (f : Radix) (items : List Item) (v : ParsedValue) → value_of d f items v → Given d v.digits
unfolding value_of given
given_value dir.In f items v h = let P : ParsedValue → Type 0 = λ x. Given dir.In x.digits in subst P (sym h.behind.1) tt
given_value dir.Out f items v h = tt

matching : (cs : List ParsedColumn) (items : List Item) (vs : List ParsedValue) → values cs items vs → Matches cs vs
unfolding values
matching [] items vs h = let P : List ParsedValue → Type 0 = λ x. Matches [] x in subst P (sym h.behind.1) tt
matching (c ∷ cs) items vs h =
    let P : List ParsedValue → Type 0 = λ x. Matches (c ∷ cs) x in
    subst P (sym h.behind.behind.1) (given_value c.dir c.format h.front h.value h.before, matching cs h.behind.front h.behind.value h.behind.before)

matching_pattern : (cs : List ParsedColumn) (items : List Item) (p : ParsedPattern) → pattern cs items p → Matches cs p.values
unfolding pattern
matching_pattern cs items p h =
    let P : ParsedPattern → Type 0 = λ x. Matches cs x.values in
    let last = h.behind.behind.behind in
    subst P (sym last.behind.1) (matching cs last.front last.value last.before)

all_of : {A : Type 0} (L : Grammar A) (P : A → Type 0) → ((items : List Item) (v : A) → L items v → P v) → (items : List Item) (vs : List A) → list L items vs → All P vs
all_of L P each items [] h = All-nil P
all_of L P each items (v ∷ vs) h = All-cons P v vs (each h.0 v h.3) (all_of L P each h.1 vs h.4)

matching_behind : (cs : List ParsedColumn) (items : List Item) (parsed : PatternFile) → file_behind cs items parsed → All (λ p. Matches parsed.columns p.values) parsed.patterns
unfolding file_behind
matching_behind cs items parsed h =
    let P : PatternFile → Type 0 = λ x. All (λ p. Matches x.columns p.values) x.patterns in
    let ps = h.behind in
    subst P (sym ps.behind.behind.behind.1) (all_of (pattern cs) (λ p. Matches cs p.values) (matching_pattern cs) ps.front ps.value ps.before)

pub matching_file : (ts : List PlacedToken) (parsed : PatternFile) → IsFile ts parsed → All (λ p. Matches parsed.columns p.values) parsed.patterns
unfolding file
matching_file ts parsed h = matching_behind h.sentence.value h.sentence.back parsed h.sentence.behind
