-- Each state that is assigned or listed as it is written is one, and none is listed twice.
use Rattle.std.proofs.Common.{◌≡◌, inl, inr, ℕ, suc, ◌+◌, ◌<◌, ◌≤◌, ◌==◌, Bool, true, false, cond, not, ◌&&◌, ◌||◌, List, [], ◌∷◌, ◌++◌, map, length, bytes_eq, refl, sym, ap, subst, ◌∙◌, arith, append_assoc, append-nil}
use Rattle.std.specs.List.{list_any}
use Rattle.std.proofs.lemmas.Bool.{and_parts, eq-eqb}
use Rattle.std.proofs.lemmas.List.{map-append}
use Rattle.vlsi_base.specs.declared.name.Name.{Name}
use Rattle.vlsi_base.specs.declared.entity.NewName.{NewName}
use Rattle.vlsi_base.specs.Member.{In, here, there, AllDifferent}
use Rattle.vlsi_base.specs.Names.{scalar}
use Rattle.vlsi_base.specs.Tree.{name}
use Rattle.bool_expr.specs.Support.{among}
use Rattle.machine_core.proofs.Values.{In-split, In-map}
use Rattle.source_checks.specs.declared.symbol_table.Symbol.{Symbol}
use Rattle.source_checks.specs.Places.{Use}
use Rattle.vlsi_model.proofs.Members.{In-cases, In-map_back}
use Rattle.vlsi_model.proofs.Sorting.{In-at}
use Rattle.vbe_print.specs.Placed.{tree, placed_target}
use Rattle.vbe_print.proofs.Known.{all_in}
use Rattle.vbe_print.specs.Expressions.{name_of}
use Rattle.spell_theory.specs.Layout.{line_behind, line_of}
use Rattle.fsm_machine.specs.Statements as s
use Rattle.fsm_machine.specs.Fsm.{Fsm, fsm_outputs}
use Rattle.fsm_machine.specs.MachineOf.{all_states}
use Rattle.fsm_machine.specs.Signals.{without}
use Rattle.fsm_machine.specs.Sound.{IsSound, ArePartsSound, AreBranchesSound}
use Rattle.fsm_machine.proofs.Holding.{among_without}
use Rattle.fsm_core.specs.Checked.{IsBodyOf, ArePartsOf, AreBranchesOf, ListsStates, PartsListStates, BranchesListStates, cases_in, cases_in_parts, cases_in_branches}
use Rattle.fsm_io.specs.Known.{texts}
use Rattle.fsm_io.specs.Looks.{Mention, assigning, testing, selecting, listing, body_has_case, parts_have_case, in_body, in_parts, in_branches, use_of}
use Rattle.fsm_io.specs.Elaboration.{state_number}
use Rattle.fsm_io.specs.States.{is_one_of, bad_names, bad_value, bad_at, listed_after, bad_states}
use Rattle.fsm_io.proofs.StateNames.{or_second}
use Rattle.fsm_print.specs.declared.words.Words.{Words}
use Rattle.fsm_print.specs.Layout.{state_text, if_layout, case_layout}
use Rattle.fsm_print.specs.Pieces.{IsKnownBody, AreKnownParts, AreKnownBranches}
use Rattle.fsm_print.specs.Written.{texts_of}
use Rattle.fsm_print.specs.Placed.{named_at, kept_at, bare_at, behind_body, placed_body, placed_parts, placed_branches}
use Rattle.fsm_print.proofs.KnownRead.{contains_in}
use Rattle.fsm_print.proofs.Body.{itself, other, CanReadBody, state_again}

-- ---- lists

in_one_of : (ts : List (List ℕ)) (t : List ℕ) → In t ts → is_one_of ts t ≡ true
in_one_of (u ∷ ts) t here = ap (λ b. b || list_any (λ (x : List ℕ). bytes_eq x t) ts) (itself t)
in_one_of (u ∷ ts) t (there h) = or_second (bytes_eq u t) (is_one_of ts t) (in_one_of ts t h)
in_one_of [] t h = elim h [ ]

not_one_of : (ts : List (List ℕ)) (t : List ℕ) → (In t ts → ⊥) → is_one_of ts t ≡ false
not_one_of [] t lacks = refl
not_one_of (u ∷ ts) t lacks =
    ap (λ b. b || is_one_of ts t) (other u t (λ e. lacks (subst (λ (x : List ℕ). In t (x ∷ ts)) (sym e) here))) ∙ not_one_of ts t (λ h. lacks (there h))

in_among : (k : ℕ) (ks : List ℕ) → In k ks → among k ks ≡ true
in_among k (j ∷ ks) here = ap (λ b. b || among k ks) (eq-eqb k k refl)
in_among k (j ∷ ks) (there h) = or_second (j == k) (among k ks) (in_among k ks h)
in_among k [] h = elim h [ ]

true_or_not : (b : Bool) → b ≡ true → not b ≡ true → ⊥
true_or_not b e f = let no : true ≡ false = sym f ∙ ap not e in absurd cc

-- ---- places without a fault, and what was listed behind them

-- where these were listed before, these places have no fault; where they list nothing, no more was listed behind them
pub record Leads (w : Words) (count : ℕ) (before : List (List ℕ)) (ms : List Mention) : Type 0 where
  pub behind : List (List ℕ)
  pub same : count ≡ 0 → behind ≡ before
  pub good : (more : List Mention) → bad_states (texts_of w.states) w.next before (ms ++ more) ≡ bad_states (texts_of w.states) w.next behind more

leads_none : (w : Words) (before : List (List ℕ)) → Leads w 0 before []
leads_none w before = record { behind = before; same = λ e. refl; good = λ more. refl }

-- a place that lists nothing
leads_first : (w : Words) (count : ℕ) (before : List (List ℕ)) (x : Mention) (ms : List Mention) → bad_at (texts_of w.states) w.next before x ≡ [] → listed_after before x ≡ before → Leads w count before ms → Leads w count before (x ∷ ms)
leads_first w count before x ms none same p = record {
  behind = p.behind;
  same = p.same;
  good = λ more.
      ap (λ (us : List Use). us ++ bad_states (texts_of w.states) w.next (listed_after before x) (ms ++ more)) none
      ∙ ap (λ (b : List (List ℕ)). bad_states (texts_of w.states) w.next b (ms ++ more)) same ∙ p.good more;
}

leads_both : (w : Words) (c d : ℕ) (before : List (List ℕ)) (xs ys : List Mention) (p : Leads w c before xs) → Leads w d p.behind ys → Leads w (c + d) before (xs ++ ys)
leads_both w c d before xs ys p q = record {
  behind = q.behind;
  same = λ e. q.same (omega (arith, e)) ∙ p.same (omega (arith, e));
  good = λ more. ap (bad_states (texts_of w.states) w.next before) (append_assoc xs ys more) ∙ p.good (ys ++ more) ∙ q.good more;
}

-- nothing was listed before the one case
abbrev Begins : ℕ → List (List ℕ) → Type 0
Begins count before = 0 < count → before ≡ []

-- where no case follows
no_begin : (count : ℕ) (before : List (List ℕ)) → count ≡ 0 → Begins count before
no_begin count before none some = absurd (omega (arith, none, some))

one_not_none : (k : ℕ) {X : Type 0} → suc k ≡ 0 → X
one_not_none k e = absurd (omega (arith, e))

-- the same of places with a case, behind which something was listed
leads_some : (w : Words) (c k : ℕ) (before : List (List ℕ)) (ms : List Mention) → Leads w c before ms → Leads w (suc k) before ms
leads_some w c k before ms p = record { behind = p.behind; same = λ e. one_not_none k e; good = p.good }

-- states that are listed without a fault
leads_listed : (w : Words) (before : List (List ℕ)) (names : List NewName) (ms : List Mention) → bad_names (texts_of w.states) before names ≡ [] → Leads w 1 (before ++ texts names) ms → Leads w 1 before (listing names ∷ ms)
leads_listed w before names ms none p = record {
  behind = p.behind;
  same = λ e. one_not_none 0 e;
  good = λ more. ap (λ (us : List Use). us ++ bad_states (texts_of w.states) w.next (before ++ texts names) (ms ++ more)) none ∙ p.good more;
}

-- the first part of two, and the second
first_begins : (c d : ℕ) (before : List (List ℕ)) → Begins (c + d) before → Begins c before
first_begins c d before b l = b (omega (arith, l))

second_begins : (c d : ℕ) (before behind : List (List ℕ)) → c + d ≤ 1 → (c ≡ 0 → behind ≡ before) → Begins (c + d) before → Begins d behind
second_begins c d before behind few same b l = same (omega (arith, few, l)) ∙ b (omega (arith, l))

module _ (known : List Symbol) (clock : List ℕ) (w : Words) (f : Fsm) (can : CanReadBody known clock w f) where
  -- a state's text is one of all, and no other state's
  is_state : (k : ℕ) → k < length w.states → is_one_of (texts_of w.states) (state_text w k) ≡ true
  is_state k l = in_one_of (texts_of w.states) (state_text w k) (In-map (λ (n : Name). n.text) (name_of w.states k) w.states (In-at w.states k (scalar []) l))

  same_state : (j k : ℕ) → j < length w.states → k < length w.states → state_text w j ≡ state_text w k → j ≡ k
  same_state j k l m e = sym (state_again known clock w f can j l) ∙ ap (λ (t : List ℕ). number t) e ∙ state_again known clock w f can k m where
    number : List ℕ → ℕ
    number t = state_number (texts_of w.states) t

  abbrev AreNumbers : List ℕ → Type 0
  AreNumbers ks = (k : ℕ) → In k ks → k < length w.states

  not_listed : (ks : List ℕ) (k : ℕ) → AreNumbers ks → k < length w.states → (In k ks → ⊥) → is_one_of (map (state_text w) ks) (state_text w k) ≡ false
  not_listed ks k all l lacks =
      not_one_of (map (state_text w) ks) (state_text w k) (λ h.
      let b = In-map_back (state_text w) (state_text w k) ks h in
      lacks (subst (λ (j : ℕ). In j ks) (same_state b.0 k (all b.0 b.1) l b.2) b.1))

  one_more : (ks : List ℕ) (k : ℕ) → AreNumbers ks → k < length w.states → AreNumbers (ks ++ k ∷ [])
  one_more ks k all l j h = elim (In-split j ks (k ∷ []) h) [
    | inl a ↦ all j a
    | inr b ↦ elim (In-cases j k [] b) [
      | inl same ↦ subst (λ (i : ℕ). i < length w.states) same l
      | inr c ↦ absurd (elim c [ ])
    ]
  ]

  names_good : (line : ℕ) (ks these : List ℕ) → AllDifferent these → ((k : ℕ) → In k these → In k ks → ⊥) → AreNumbers ks → AreNumbers these
      → bad_names (texts_of w.states) (map (state_text w) ks) (map (λ k. named_at line (state_text w k)) these) ≡ []
  names_good line ks [] differ apart all more = refl
  names_good line ks (k ∷ rest) differ apart all more =
      let A = texts_of w.states in
      let l = more k here in
      let n = named_at line (state_text w k) in
      let R = map (λ j. named_at line (state_text w j)) rest in
      let B = map (state_text w) ks in
      ap (λ b. cond (b && not (is_one_of B n.text)) [] (use_of n ∷ []) ++ bad_names A (B ++ n.text ∷ []) R) (is_state k l)
      ∙ ap (λ b. cond (not b) [] (use_of n ∷ []) ++ bad_names A (B ++ n.text ∷ []) R) (not_listed ks k all l (apart k here))
      ∙ ap (λ (before : List (List ℕ)). bad_names A before R) (sym (map-append (state_text w) ks (k ∷ [])))
      ∙ names_good line (ks ++ k ∷ []) rest differ.1 later (one_more ks k all l) (λ j h. more j (there h)) where
        later : (j : ℕ) → In j rest → In j (ks ++ k ∷ []) → ⊥
        later j h g = elim (In-split j ks (k ∷ []) g) [
          | inl a ↦ apart j (there h) a
          | inr b ↦ elim (In-cases j k [] b) [
            | inl same ↦ differ.0 (subst (λ (i : ℕ). In i rest) (sym same) h)
            | inr c ↦ absurd (elim c [ ])
          ]
        ]

  texts_listed : (line : ℕ) (these : List ℕ) → texts (map (λ k. named_at line (state_text w k)) these) ≡ map (state_text w) these
  texts_listed line [] = refl
  texts_listed line (k ∷ these) = ap (λ (ts : List (List ℕ)). state_text w k ∷ ts) (texts_listed line these)

  later : (these left ks : List ℕ) → ((k : ℕ) → among k left ≡ true → In k ks → ⊥) → (k : ℕ) → among k (without these left) ≡ true → In k (ks ++ these) → ⊥
  later these left ks apart k e h =
      let p = and_parts (among k left) (not (among k these)) (sym (among_without k these left) ∙ e) in
      elim (In-split k ks these h) [
        | inl a ↦ apart k p.0 a
        | inr b ↦ true_or_not (among k these) (in_among k these b) p.1
      ]

  both_numbers : (ks these : List ℕ) → AreNumbers ks → AreNumbers these → AreNumbers (ks ++ these)
  both_numbers ks these all more k h = elim (In-split k ks these h) [
    | inl a ↦ all k a
    | inr b ↦ more k b
  ]

  mutual
    pub leads_body : (seen : Bool) (line : ℕ) (b : s.Statements) → IsBodyOf f b → IsKnownBody w b → IsSound (all_states f) b → ListsStates b → cases_in b ≤ 1 → (before : List (List ℕ)) → Begins (cases_in b) before
        → Leads w (cases_in b) before (in_body seen (placed_body w line b))
    leads_body seen line s.finish of is sound lists few before begins = leads_none w before
    leads_body seen line (s.assign (s.output x e) rest) of is sound lists few before begins =
        let l = line_behind line in
        let v = tree w.vars line e in
        leads_first w (cases_in rest) before (assigning (placed_target line x) (kept_at w line e) v) (in_body (seen || false) (placed_body w l rest))
        (ap (λ b. cond b (bad_value (texts_of w.states) v) []) (can.others x (contains_in (fsm_outputs f) x of.0.0))) refl
        (leads_body (seen || false) l rest of.1 is.1 sound.1 lists few before begins)
    leads_body seen line (s.assign (s.next k) rest) of is sound lists few before begins =
        let l = line_behind line in
        let v = name (state_text w k) line in
        let u : Use = record { text = state_text w k; line = line } in
        leads_first w (cases_in rest) before (assigning (placed_target line (scalar w.next)) (bare_at line) v) (in_body (seen || false) (placed_body w l rest))
        (ap (λ b. cond b (bad_value (texts_of w.states) v) []) (itself w.next) ∙ ap (λ b. cond b [] (u ∷ [])) (is_state k is.0)) refl
        (leads_body (seen || false) l rest of.1 is.1 sound.1 lists few before begins)
    leads_body seen line (s.choose ps rest) of is sound lists few before begins =
        let l = line_of line (if_layout w ps) in
        let has = parts_have_case (placed_parts w line ps) in
        let c = cases_in_parts ps in
        let d = cases_in rest in
        let p = leads_parts seen line ps of.0 is.0 sound.0 lists.0 (omega (arith, few)) before (first_begins c d before begins) in
        leads_both w c d before (in_parts seen (placed_parts w line ps)) (in_body (seen || has) (placed_body w l rest)) p
        (leads_body (seen || has) l rest of.1 is.1 sound.1 lists.1 (omega (arith, few)) p.behind (second_begins c d before p.behind few p.same begins))
    leads_body seen line (s.select bs rest) of is sound lists few before begins =
        let l = line_of line (case_layout w bs) in
        let c = cases_in_branches bs in
        let d = cases_in rest in
        let all = in_branches (placed_branches w (line_behind line) bs) in
        let fresh : before ≡ [] = begins (omega arith) in
        let p : Leads w 1 before all =
        subst (λ (b : List (List ℕ)). Leads w 1 b all) (sym fresh)
        (leads_branches (line_behind line) (all_states f) bs of.0 is.0 sound.0 lists.0 (omega (arith, few)) [] (λ k e h. elim h [ ]) (λ k h. elim h [ ])) in
        leads_first w (suc (c + d)) before (selecting seen line (named_at line w.current)) (all ++ in_body (seen || true) (placed_body w l rest)) refl refl
        (leads_some w (1 + d) (c + d) before (all ++ in_body (seen || true) (placed_body w l rest))
        (leads_both w 1 d before all (in_body (seen || true) (placed_body w l rest)) p
        (leads_body (seen || true) l rest of.1 is.1 sound.1 lists.1 (omega (arith, few)) p.behind (no_begin d p.behind (omega (arith, few))))))

    leads_parts : (seen : Bool) (line : ℕ) (ps : s.Parts) → ArePartsOf f ps → AreKnownParts w ps → ArePartsSound (all_states f) ps → PartsListStates ps → cases_in_parts ps ≤ 1 → (before : List (List ℕ)) → Begins (cases_in_parts ps) before
        → Leads w (cases_in_parts ps) before (in_parts seen (placed_parts w line ps))
    leads_parts seen line (s.only c a) of is sound lists few before begins =
        let A = placed_body w (line_behind line) a in
        leads_first w (cases_in a) before (testing line (tree w.vars line c)) (in_body seen A) refl refl
        (leads_body seen (line_behind line) a of.1 is.1 sound lists few before begins)
    leads_parts seen line (s.either c a b) of is sound lists few before begins =
        let A = placed_body w (line_behind line) a in
        let l = line_behind (behind_body w (line_behind line) a) in
        let x = cases_in a in
        let y = cases_in b in
        let seen_now = seen || body_has_case A in
        let p = leads_body seen (line_behind line) a of.1.0 is.0.1 sound.0 lists.0 (omega (arith, few)) before (first_begins x y before begins) in
        leads_first w (x + y) before (testing line (tree w.vars line c)) (in_body seen A ++ in_body seen_now (placed_body w l b)) refl refl
        (leads_both w x y before (in_body seen A) (in_body seen_now (placed_body w l b)) p
        (leads_body seen_now l b of.1.1 is.1 sound.1 lists.1 (omega (arith, few)) p.behind (second_begins x y before p.behind few p.same begins)))
    leads_parts seen line (s.further c a more) of is sound lists few before begins =
        let A = placed_body w (line_behind line) a in
        let l = behind_body w (line_behind line) a in
        let x = cases_in a in
        let y = cases_in_parts more in
        let seen_now = seen || body_has_case A in
        let p = leads_body seen (line_behind line) a of.1.0 is.0.1 sound.0 lists.0 (omega (arith, few)) before (first_begins x y before begins) in
        leads_first w (x + y) before (testing line (tree w.vars line c)) (in_body seen A ++ in_parts seen_now (placed_parts w l more)) refl refl
        (leads_both w x y before (in_body seen A) (in_parts seen_now (placed_parts w l more)) p
        (leads_parts seen_now l more of.1.1 is.1 sound.1 lists.1 (omega (arith, few)) p.behind (second_begins x y before p.behind few p.same begins)))

    -- where these states were listed before, and none of those that are left
    leads_branches : (line : ℕ) (left : List ℕ) (bs : s.Branches) → AreBranchesOf f bs → AreKnownBranches w bs → AreBranchesSound (all_states f) left bs → BranchesListStates bs → cases_in_branches bs ≡ 0
        → (ks : List ℕ) → ((k : ℕ) → among k left ≡ true → In k ks → ⊥) → AreNumbers ks → Leads w 1 (map (state_text w) ks) (in_branches (placed_branches w line bs))
    leads_branches line left s.closed of is sound lists none ks apart all = leads_some w 0 0 (map (state_text w) ks) [] (leads_none w (map (state_text w) ks))
    leads_branches line left (s.others a) of is sound lists none ks apart all =
        let before = map (state_text w) ks in
        leads_some w (cases_in a) 0 before (in_body true (placed_body w (line_behind line) a))
        (leads_body true (line_behind line) a of is sound lists (omega (arith, none)) before (no_begin (cases_in a) before (omega (arith, none))))
    leads_branches line left (s.listed these a more) of is sound lists none ks apart all =
        let A = texts_of w.states in
        let names = map (λ k. named_at line (state_text w k)) these in
        let before = map (state_text w) ks in
        let now = map (state_text w) (ks ++ these) in
        let own = in_body true (placed_body w (line_behind line) a) in
        let l = behind_body w (line_behind line) a in
        let rest = in_branches (placed_branches w l more) in
        let numbers : AreNumbers these = λ k h. all_in (λ (k : ℕ). k < length w.states) these is.0.0.1 k h in
        let good : bad_names A before names ≡ [] = names_good line ks these lists.0.1 (λ k h g. apart k (sound.0 k (in_among k these h)) g) all numbers in
        let listed : before ++ texts names ≡ now = ap (λ (ts : List (List ℕ)). before ++ ts) (texts_listed line these) ∙ sym (map-append (state_text w) ks these) in
        let p = leads_body true (line_behind line) a of.0 is.0.1 sound.1.0 lists.1.0 (omega (arith, none)) now (no_begin (cases_in a) now (omega (arith, none))) in
        let same : p.behind ≡ now = p.same (omega (arith, none)) in
        let q : Leads w 1 p.behind rest =
        subst (λ (b : List (List ℕ)). Leads w 1 b rest) (sym same)
        (leads_branches l (without these left) more of.1 is.1 sound.1.1 lists.1.1 (omega (arith, none)) (ks ++ these) (later these left ks apart) (both_numbers ks these all numbers)) in
        leads_listed w before names (own ++ rest) good
        (subst (λ (b : List (List ℕ)). Leads w 1 b (own ++ rest)) (sym listed)
        (leads_some w (cases_in a + 1) 0 now (own ++ rest) (leads_both w (cases_in a) 1 now own rest p q)))

  -- no place has a fault
  pub none_bad : (line : ℕ) (b : s.Statements) → IsBodyOf f b → IsKnownBody w b → IsSound (all_states f) b → ListsStates b → cases_in b ≤ 1 → bad_states (texts_of w.states) w.next [] (in_body false (placed_body w line b)) ≡ []
  none_bad line b of is sound lists few =
      let ms = in_body false (placed_body w line b) in
      ap (bad_states (texts_of w.states) w.next []) (sym (append-nil ms)) ∙ (leads_body false line b of is sound lists few [] (λ some. refl)).good []
