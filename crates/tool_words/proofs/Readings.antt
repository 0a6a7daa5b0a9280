-- What words behind a tool's spell, by what was found wrong with them.
use Rattle.std.proofs.Common.{◌≡◌, ℕ, Bool, true, false, ◌&&◌, cond, List, [], ◌∷◌, Option, None, refl, sym, subst, ◌∙◌, ap, arith, ne_eqb}
use Rattle.std.specs.List.{list_all}
use Rattle.std.specs.Str.{is_utf8}
use Rattle.clap.specs.Words.{Kinds}
use Rattle.clap.specs.Walk.{is_empty}
use Rattle.tool_words.specs.Table.{Entry}
use Rattle.tool_words.specs.Arguments.{Given, faults, given}
use Rattle.tool_words.specs.Spelling.{are_taken, spelled}

abbrev spelled_if : {A : Type 0} → Entry → (Given → Option A) → List (List ℕ) → Bool → Option A
spelled_if e f words b = cond b (f (given e words)) None

pub taken : {A : Type 0} (e : Entry) (f : Given → Option A) (words : List (List ℕ)) → list_all is_utf8 words ≡ true → faults e words ≡ []
    → spelled e f words ≡ f (given e words)
taken e f words text fine =
    ap (λ (b : Bool). spelled_if e f words (b && is_empty (faults e words))) text ∙ ap (λ (kinds : Kinds). spelled_if e f words (is_empty kinds)) fine

pub no_text : {A : Type 0} (e : Entry) (f : Given → Option A) (words : List (List ℕ)) → list_all is_utf8 words ≡ false → spelled e f words ≡ None
no_text e f words text = ap (λ (b : Bool). spelled_if e f words (b && is_empty (faults e words))) text

false_behind : (a b : Bool) → b ≡ false → (a && b) ≡ false
false_behind true b h = h
false_behind false b h = refl

by_kinds : (e : Entry) (words : List (List ℕ)) (kinds : Kinds) → faults e words ≡ kinds → (kinds ≡ [] → ⊥) → are_taken e words ≡ false
by_kinds e words [] is wrong = absurd (wrong refl)
by_kinds e words (k ∷ ks) is wrong = ap (λ (kinds : Kinds). list_all is_utf8 words && is_empty kinds) is ∙ false_behind (list_all is_utf8 words) (is_empty (k ∷ ks)) (ne_eqb _ _ (λ e. omega arith))

pub wrong_words : {A : Type 0} (e : Entry) (f : Given → Option A) (words : List (List ℕ)) → (faults e words ≡ [] → ⊥) → spelled e f words ≡ None
wrong_words e f words wrong = ap (spelled_if e f words) (by_kinds e words (faults e words) refl wrong)

-- ---- for the tools' readers: the words as texts, and what they were taken for

pub spells : {A : Type 0} (e : Entry) (f : Given → Option A) (words texts : List (List ℕ)) (values : Given) → texts ≡ words → list_all is_utf8 words ≡ true → faults e texts ≡ []
    → values ≡ given e texts → spelled e f words ≡ f values
spells e f words texts values same text fine is =
    taken e f words text (subst (λ (ws : List (List ℕ)). faults e ws ≡ []) same fine) ∙ ap (λ (ws : List (List ℕ)). f (given e ws)) (sym same) ∙ ap f (sym is)

pub misspells : {A : Type 0} (e : Entry) (f : Given → Option A) (words texts : List (List ℕ)) → texts ≡ words → (faults e texts ≡ [] → ⊥) → spelled e f words ≡ None
misspells e f words texts same wrong = wrong_words e f words (λ fine. wrong (subst (λ (ws : List (List ℕ)). faults e ws ≡ []) (sym same) fine))
