-- Patterns from one of them on.
use Rattle.std.proofs.Common.{◌≡◌, ℕ, suc, ◌+◌, ◌<◌, Bool, false, List, [], ◌∷◌, ◌++◌, length, drop, replicate, refl, sym, ◌∙◌, ap, subst, add-one, drop-cons, append_assoc, append-nil}
use Rattle.std.specs.List.{slice_index_or}
use Rattle.vlsi_base.specs.declared.name.Name.{Name}
use Rattle.machine_core.specs.Named.{value_at}
use Rattle.machine_core.specs.Machine.{Machine}
use Rattle.machine_core.specs.Order.{IsOrdered, SettlesOnce}
use Rattle.pat_meaning.specs.declared.patterns.Column.{Column}
use Rattle.pat_meaning.specs.declared.patterns.Pattern.{Pattern}
use Rattle.pat_meaning.specs.declared.patterns.Patterns.{Patterns}
use Rattle.pat_meaning.specs.Circuit.{of_machine}
use Rattle.pat_meaning.specs.Simulation.{Observes, IsObserved, compared, compared_values, first_difference, filled}
use Rattle.pat_meaning.specs.Answers.{IsFilled, DiffersAt}
use Rattle.asimut_sim.specs.Answers.{Sees, Passes, Stops, StopsAt, IsRefusal}
use Rattle.asimut_sim.specs.declared.refusal.SimError.{SimError}
use Rattle.asimut_sim.specs.declared.refusal.SimError.TheVariants.{Memory, Differs}
use Rattle.asimut_sim.proofs.Once.{once}
use Rattle.asimut_sim.proofs.SimLemmas.{or_else, first-append}

-- these are observed, and show what was made so far and then what the rest shows
pub record Whole (m : Machine) (columns : List Column) (patterns : List Pattern) (k : ℕ) (made : List Pattern) (rest : List (List Bool)) : Type 0 where
  pub ws : List (List Bool)
  pub are : IsObserved (of_machine m) columns patterns ws
  pub shows : filled (of_machine m) columns patterns ws ≡ made ++ filled (of_machine m) columns (drop k patterns) rest
  pub first : first_difference (compared (of_machine m) columns 0 patterns ws) ≡ first_difference (compared (of_machine m) columns k (drop k patterns) rest)

-- whatever is observed of the patterns from number k on completes what was observed before
abbrev pub Leads : Machine → List Column → List Pattern → ℕ → List Bool → Bool → List Pattern → Type 0
Leads m columns patterns k s before made =
    (rest : List (List Bool)) → Observes (of_machine m) columns s before (drop k patterns) rest → Whole m columns patterns k made rest

pub leads-begin : (m : Machine) (columns : List Column) (patterns : List Pattern) → Leads m columns patterns 0 (replicate (length m.registers) false) false []
leads-begin m columns patterns rest h = record { ws = rest; are = h; shows = refl; first = refl }

pub patterns-cons : (patterns : List Pattern) (k : ℕ) (p : Pattern) → k < length patterns → p ≡ slice_index_or patterns k p
    → drop k patterns ≡ p ∷ drop (k + 1) patterns
patterns-cons patterns k p h is =
    drop-cons patterns k p h ∙ ap (λ x. x ∷ drop (suc k) patterns) (sym is) ∙ ap (λ j. p ∷ drop j patterns) (sym (add-one k))

sees-more : (m : Machine) (columns : List Column) (patterns : List Pattern) (k : ℕ) (p : Pattern) (s : List Bool) (before : Bool) (t : List Bool) (now : Bool) (w : List Bool)
    → drop k patterns ≡ p ∷ drop (k + 1) patterns → Sees m columns p s before t now w
    → (rest : List (List Bool)) → Observes (of_machine m) columns t now (drop (k + 1) patterns) rest → Observes (of_machine m) columns s before (drop k patterns) (w ∷ rest)
sees-more m columns patterns k p s before t now w cons sees rest h =
    let P : List Pattern → Type 0 = λ x. Observes (of_machine m) columns s before x (w ∷ rest) in
    let Q : Bool → Type 0 = λ b. Observes (of_machine m) columns t b (drop (k + 1) patterns) rest in
    subst P (sym cons) (w, t, sees.takes, (rest, refl, subst Q sees.clock h))

pub leads-next : (m : Machine) (columns : List Column) (patterns : List Pattern) (k : ℕ) (p : Pattern) (s : List Bool) (before : Bool) (t : List Bool) (now : Bool)
    (made : List Pattern) (one : Pattern) → k < length patterns → p ≡ slice_index_or patterns k p → Passes m columns p k s before t now one
    → Leads m columns patterns k s before made → Leads m columns patterns (k + 1) t now (made ++ one ∷ [])
leads-next m columns patterns k p s before t now made one h is passes leads rest o =
    let cons = patterns-cons patterns k p h is in
    let whole = leads (passes.w ∷ rest) (sees-more m columns patterns k p s before t now passes.w cons passes.sees rest o) in
    let x = first_difference (compared (of_machine m) columns (k + 1) (drop (k + 1) patterns) rest) in
    record {
      ws = whole.ws;
      are = whole.are;
      shows =
          whole.shows
          ∙ ap (λ y. made ++ filled (of_machine m) columns y (passes.w ∷ rest)) cons
          ∙ ap (λ y. made ++ y ∷ filled (of_machine m) columns (drop (k + 1) patterns) rest) (sym passes.agrees.answer)
          ∙ sym (append_assoc made (one ∷ []) (filled (of_machine m) columns (drop (k + 1) patterns) rest));
      first =
          whole.first
          ∙ ap (λ y. first_difference (compared (of_machine m) columns k y (passes.w ∷ rest))) cons
          ∙ first-append (compared_values (value_at m.vars passes.w) k columns p.values) (compared (of_machine m) columns (k + 1) (drop (k + 1) patterns) rest)
          ∙ ap (λ y. or_else y x) passes.agrees.none_differs;
    }

pub leads-end : (m : Machine) (columns : List Column) (patterns : List Pattern) (k : ℕ) (s : List Bool) (before : Bool) (made : List Pattern)
    → drop k patterns ≡ [] → Leads m columns patterns k s before made
    → IsFilled m (record { columns = columns; patterns = patterns }) (record { columns = columns; patterns = made })
leads-end m columns patterns k s before made none leads =
    let P : List Pattern → Type 0 = λ x. Observes (of_machine m) columns s before x [] in
    let whole = leads [] (subst P (sym none) refl) in
    let pair : List Pattern → Patterns = λ x. record { columns = columns; patterns = x } in
    record {
      observed = whole.ws;
      are_observed = whole.are;
      none_differs = whole.first ∙ ap (λ y. first_difference (compared (of_machine m) columns k y [])) none;
      answer = ap pair (sym (whole.shows ∙ ap (λ y. made ++ filled (of_machine m) columns y []) none ∙ append-nil made));
    }

pub leads-stops : SettlesOnce → (m : Machine) → IsOrdered m → (columns : List Column) (patterns : List Pattern) (k : ℕ) (p : Pattern) (s : List Bool) (before : Bool)
    (made : List Pattern) (number : ℕ) (bit : Name) → k < length patterns → p ≡ slice_index_or patterns k p → Stops m columns p k s before number bit
    → Leads m columns patterns k s before made → DiffersAt m (record { columns = columns; patterns = patterns }) number bit
leads-stops law m ordered columns patterns k p s before made number bit h is stops leads =
    let cons = patterns-cons patterns k p h is in
    let more = once law m ordered columns (drop (k + 1) patterns) stops.t stops.now stops.each in
    let whole = leads (stops.w ∷ more.all) (sees-more m columns patterns k p s before stops.t stops.now stops.w cons stops.sees more.all more.are) in
    let x = first_difference (compared (of_machine m) columns (k + 1) (drop (k + 1) patterns) more.all) in
    record {
      observed = whole.ws;
      are_observed = whole.are;
      at = stops.disagrees.at;
      first =
          whole.first
          ∙ ap (λ y. first_difference (compared (of_machine m) columns k y (stops.w ∷ more.all))) cons
          ∙ first-append (compared_values (value_at m.vars stops.w) k columns p.values) (compared (of_machine m) columns (k + 1) (drop (k + 1) patterns) more.all)
          ∙ ap (λ y. or_else y x) stops.disagrees.first;
      pattern = stops.disagrees.told;
      name = stops.disagrees.name;
    }

pub refusal : SettlesOnce → (m : Machine) → IsOrdered m → (columns : List Column) (patterns : List Pattern) (k : ℕ) (p : Pattern) (s : List Bool) (before : Bool)
    (made : List Pattern) (e : SimError) → k < length patterns → p ≡ slice_index_or patterns k p → StopsAt m columns p k s before e
    → Leads m columns patterns k s before made → IsRefusal m (record { columns = columns; patterns = patterns }) e
refusal law m ordered columns patterns k p s before made Memory h is stops leads = tt
refusal law m ordered columns patterns k p s before made (Differs number bit) h is stops leads =
    leads-stops law m ordered columns patterns k p s before made number bit h is stops leads
