-- Loops that look for the first of what is found in things one behind another.
use Rattle.std.proofs.Common.{◌≡◌, ℕ, ◌+◌, ◌<◌, List, [], ◌∷◌, map, length, drop, get_or, Option, Some, None, refl, sym, ap, ◌∙◌}
use Rattle.std.specs.List.{flat_map}
use Rattle.std.proofs.lemmas.List.{at_drop_more}
use Rattle.vlsi_base.specs.declared.entity.NewName.{NewName}
use Rattle.source_checks.specs.declared.symbol_table.Symbol.{Symbol}
use Rattle.source_checks.specs.Lines.{first_line}
use Rattle.source_checks.specs.Places.{Use, first_unknown}
use Rattle.source_checks.proofs.Turns.{or_first}
use Rattle.source_checks.proofs.FirstLines.{first_line_append}
use Rattle.source_checks.proofs.Unknowns.{first_unknown_append}
use Rattle.fsm_io.specs.declared.mentions.Mention.{Mention as Held}
use Rattle.fsm_io.specs.Looks.{Mention, use_of}
use Rattle.fsm_io.specs.Drivers.{or_else, first_of}
use Rattle.fsm_io.specs.Pieces.{mention_of}

-- a turn: what `look` finds in x, and then what is found in the others
pub step : {X B : Type 0} (find : List X → Option B) (look : X → Option B) → ((x : X) (rest : List X) → find (x ∷ rest) ≡ or_first (look x) (find rest))
    → (xs : List X) (i : ℕ) (x : X) (total : Option B) → i < length xs → x ≡ get_or xs i x → find (drop i xs) ≡ total
    → (first : Option B) → first ≡ look x → or_first first (find (drop (i + 1) xs)) ≡ total
step {X} {B} find look unfolds xs i x total within is so_far first here =
    let rest = drop (i + 1) xs in
    ap (λ (o : Option B). or_first o (find rest)) here ∙ sym (unfolds x rest) ∙ ap (λ (y : X). find (y ∷ rest)) is ∙ sym (at_drop_more find xs i x within) ∙ so_far

-- over what stands in statements, where lines are looked for
pub line_step : (look : Mention → List ℕ) (ms : List Held) (i : ℕ) (x : Held) (total : Option ℕ) → i < length ms → x ≡ get_or ms i x
    → first_line (flat_map look (map mention_of (drop i ms))) ≡ total
    → (first : Option ℕ) → first ≡ first_line (look (mention_of x)) → or_first first (first_line (flat_map look (map mention_of (drop (i + 1) ms)))) ≡ total
line_step look ms i x total within is so_far first here =
    step (λ (xs : List Held). first_line (flat_map look (map mention_of xs))) (λ (y : Held). first_line (look (mention_of y)))
    (λ y rest. first_line_append (look (mention_of y)) (flat_map look (map mention_of rest))) ms i x total within is so_far first here

-- where names are looked for
pub use_step : (known : List Symbol) (look : Mention → List Use) (ms : List Held) (i : ℕ) (x : Held) (total : Option Use) → i < length ms → x ≡ get_or ms i x
    → first_unknown known (flat_map look (map mention_of (drop i ms))) ≡ total
    → (first : Option Use) → first ≡ first_unknown known (look (mention_of x)) → or_first first (first_unknown known (flat_map look (map mention_of (drop (i + 1) ms)))) ≡ total
use_step known look ms i x total within is so_far first here =
    step (λ (xs : List Held). first_unknown known (flat_map look (map mention_of xs))) (λ (y : Held). first_unknown known (look (mention_of y)))
    (λ y rest. first_unknown_append known (look (mention_of y)) (flat_map look (map mention_of rest))) ms i x total within is so_far first here

-- over names
pub name_step : (known : List Symbol) (ns : List NewName) (i : ℕ) (x : NewName) (total : Option Use) → i < length ns → x ≡ get_or ns i x
    → first_unknown known (map use_of (drop i ns)) ≡ total
    → (first : Option Use) → first ≡ first_unknown known (use_of x ∷ []) → or_first first (first_unknown known (map use_of (drop (i + 1) ns))) ≡ total
name_step known ns i x total within is so_far first here =
    step (λ (xs : List NewName). first_unknown known (map use_of xs)) (λ (y : NewName). first_unknown known (use_of y ∷ []))
    (λ y rest. first_unknown_append known (use_of y ∷ []) (map use_of rest)) ns i x total within is so_far first here

else_is : {A : Type 0} (a b : Option A) → or_else a b ≡ or_first a b
else_is None b = refl
else_is (Some x) b = refl

-- over declared names
pub symbol_step : {B : Type 0} (look : Symbol → Option B) (ss : List Symbol) (i : ℕ) (x : Symbol) (total : Option B) → i < length ss → x ≡ get_or ss i x
    → first_of look (drop i ss) ≡ total → (first : Option B) → first ≡ look x → or_first first (first_of look (drop (i + 1) ss)) ≡ total
symbol_step look ss i x total within is so_far first here =
    step (first_of look) look (λ y rest. else_is (look y) (first_of look rest)) ss i x total within is so_far first here
