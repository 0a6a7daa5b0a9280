-- What stands in the statements as they are written: each name is declared, widths fit, no form is left out, and the clock isn't read.
use Rattle.std.proofs.Common.{◌≡◌, ℕ, suc, ◌+◌, ◌≤◌, Bool, true, false, cond, not, ◌||◌, List, [], ◌∷◌, ◌++◌, map, bytes_eq, is_none, Option, Some, refl, sym, ap, subst, ◌∙◌, arith}
use Rattle.std.specs.List.{flat_map}
use Rattle.std.proofs.lemmas.Grind.{flat_map-append}
use Rattle.vlsi_base.specs.declared.name.Name.{Name}
use Rattle.vlsi_base.specs.declared.entity.NewName.{NewName}
use Rattle.vlsi_base.specs.Names.{scalar}
use Rattle.vlsi_base.specs.Tree.{name}
use Rattle.bool_expr.specs.Expression.{Expression}
use Rattle.source_checks.specs.declared.symbol_table.Symbol.{Symbol}
use Rattle.source_checks.specs.Symbols.{find}
use Rattle.source_checks.specs.Places.{reads}
use Rattle.source_checks.specs.Widths.{width, differ, target_width, target_faults, width_faults, if_not}
use Rattle.source_checks.specs.Clock.{clock_lines}
use Rattle.spell_theory.specs.Layout.{line_behind, line_of}
use Rattle.vbe_print.specs.Placed.{tree, placed_target}
use Rattle.vbe_laws.proofs.Plain.{AreUsed, used_both, nothing, is_used}
use Rattle.fsm_machine.specs.Statements as s
use Rattle.fsm_machine.specs.Fsm.{Fsm, fsm_outputs}
use Rattle.fsm_core.specs.Checked.{ReadsInputs, IsAssignmentOf, IsBodyOf, ArePartsOf, AreBranchesOf, cases_in, cases_in_parts, cases_in_branches}
use Rattle.fsm_io.specs.Known.{Named}
use Rattle.fsm_io.specs.Drivers.{is_output}
use Rattle.fsm_io.specs.Looks.{Mention, assigning, testing, selecting, listing, body_has_case, parts_have_case, in_body, in_parts, in_branches, value_uses, uses_at}
use Rattle.fsm_io.specs.Widths.{wide_enough, widths_at}
use Rattle.fsm_io.specs.Unsupported.{may_assign, expression_forms, next_forms, forms_at}
use Rattle.fsm_io.specs.Clock.{clock_reads_at}
use Rattle.fsm_io.proofs.Sounds.{neither}
use Rattle.fsm_print.specs.declared.words.Words.{Words}
use Rattle.fsm_print.specs.Layout.{state_text, if_layout, case_layout}
use Rattle.fsm_print.specs.Writable.{IsPlain as HasNoChoice, IsPlainBody, ArePlainParts, ArePlainBranches}
use Rattle.fsm_print.specs.Placed.{named_at, kept_at, bare_at, behind_body, placed_body, placed_parts, placed_branches}
use Rattle.fsm_print.proofs.KnownRead.{contains_in}
use Rattle.fsm_print.proofs.Expressions.{IsSaid, said, width_is, faults_are}
use Rattle.fsm_print.proofs.Body.{itself, CanReadBody}

-- ---- places without a fault

pub record IsQuiet (known : List Symbol) (n : Named) (x : Mention) : Type 0 where
  pub uses : AreUsed known (uses_at n x)
  pub widths : widths_at known n x ≡ []
  pub forms : forms_at known n x ≡ []
  pub clocks : clock_reads_at n x ≡ []

pub record AreQuiet (known : List Symbol) (n : Named) (ms : List Mention) : Type 0 where
  pub uses : AreUsed known (flat_map (uses_at n) ms)
  pub widths : flat_map (widths_at known n) ms ≡ []
  pub forms : flat_map (forms_at known n) ms ≡ []
  pub clocks : flat_map (clock_reads_at n) ms ≡ []

quiet_none : (known : List Symbol) (n : Named) → AreQuiet known n []
quiet_none known n = record { uses = tt; widths = refl; forms = refl; clocks = refl }

quiet_first : (known : List Symbol) (n : Named) (x : Mention) (ms : List Mention) → IsQuiet known n x → AreQuiet known n ms → AreQuiet known n (x ∷ ms)
quiet_first known n x ms p q = record {
  uses = used_both known (uses_at n x) (flat_map (uses_at n) ms) p.uses q.uses;
  widths = nothing (widths_at known n x) (flat_map (widths_at known n) ms) p.widths q.widths;
  forms = nothing (forms_at known n x) (flat_map (forms_at known n) ms) p.forms q.forms;
  clocks = nothing (clock_reads_at n x) (flat_map (clock_reads_at n) ms) p.clocks q.clocks;
}

none_both : {A : Type 0} (look : Mention → List A) (xs ys : List Mention) → flat_map look xs ≡ [] → flat_map look ys ≡ [] → flat_map look (xs ++ ys) ≡ []
none_both look xs ys e f = flat_map-append look xs ys ∙ nothing (flat_map look xs) (flat_map look ys) e f

quiet_both : (known : List Symbol) (n : Named) (xs ys : List Mention) → AreQuiet known n xs → AreQuiet known n ys → AreQuiet known n (xs ++ ys)
quiet_both known n xs ys p q = record {
  uses = subst (AreUsed known) (sym (flat_map-append (uses_at n) xs ys)) (used_both known (flat_map (uses_at n) xs) (flat_map (uses_at n) ys) p.uses q.uses);
  widths = none_both (widths_at known n) xs ys p.widths q.widths;
  forms = none_both (forms_at known n) xs ys p.forms q.forms;
  clocks = none_both (clock_reads_at n) xs ys p.clocks q.clocks;
}

-- ---- the one case

abbrev pub ones : Bool → ℕ
ones b = cond b 1 0

one_of_two : (a b : Bool) → ones (a || b) ≤ ones a + ones b
one_of_two true b = omega arith
one_of_two false b = omega arith

mutual
  case_counted : (w : Words) (line : ℕ) (b : s.Statements) → ones (body_has_case (placed_body w line b)) ≤ cases_in b
  case_counted w line s.finish = omega arith
  case_counted w line (s.assign (s.output n e) rest) = case_counted w (line_behind line) rest
  case_counted w line (s.assign (s.next k) rest) = case_counted w (line_behind line) rest
  case_counted w line (s.choose ps rest) =
      let l = line_of line (if_layout w ps) in
      let x = one_of_two (parts_have_case (placed_parts w line ps)) (body_has_case (placed_body w l rest)) in
      omega (arith, x, parts_counted w line ps, case_counted w l rest)
  case_counted w line (s.select bs rest) = omega arith

  parts_counted : (w : Words) (line : ℕ) (ps : s.Parts) → ones (parts_have_case (placed_parts w line ps)) ≤ cases_in_parts ps
  parts_counted w line (s.only c a) = case_counted w (line_behind line) a
  parts_counted w line (s.either c a b) =
      let l = line_behind (behind_body w (line_behind line) a) in
      let x = one_of_two (body_has_case (placed_body w (line_behind line) a)) (body_has_case (placed_body w l b)) in
      omega (arith, x, case_counted w (line_behind line) a, case_counted w l b)
  parts_counted w line (s.further c a more) =
      let l = behind_body w (line_behind line) a in
      let x = one_of_two (body_has_case (placed_body w (line_behind line) a)) (parts_have_case (placed_parts w l more)) in
      omega (arith, x, case_counted w (line_behind line) a, parts_counted w l more)

mutual
  no_case : (w : Words) (line : ℕ) (b : s.Statements) → body_has_case (placed_body w line b) ≡ false → cases_in b ≡ 0
  no_case w line s.finish e = refl
  no_case w line (s.assign (s.output n e) rest) none = no_case w (line_behind line) rest none
  no_case w line (s.assign (s.next k) rest) none = no_case w (line_behind line) rest none
  no_case w line (s.choose ps rest) none =
      let l = line_of line (if_layout w ps) in
      let p = neither (parts_have_case (placed_parts w line ps)) (body_has_case (placed_body w l rest)) none in
      omega (arith, no_case_parts w line ps p.0, no_case w l rest p.1)
  no_case w line (s.select bs rest) none = absurd cc

  no_case_parts : (w : Words) (line : ℕ) (ps : s.Parts) → parts_have_case (placed_parts w line ps) ≡ false → cases_in_parts ps ≡ 0
  no_case_parts w line (s.only c a) none = no_case w (line_behind line) a none
  no_case_parts w line (s.either c a b) none =
      let l = line_behind (behind_body w (line_behind line) a) in
      let p = neither (body_has_case (placed_body w (line_behind line) a)) (body_has_case (placed_body w l b)) none in
      omega (arith, no_case w (line_behind line) a p.0, no_case w l b p.1)
  no_case_parts w line (s.further c a more) none =
      let l = behind_body w (line_behind line) a in
      let p = neither (body_has_case (placed_body w (line_behind line) a)) (parts_have_case (placed_parts w l more)) none in
      omega (arith, no_case w (line_behind line) a p.0, no_case_parts w l more p.1)

-- where there is a case, it is found
pub has_case : (w : Words) (line : ℕ) (b : s.Statements) → cases_in b ≡ 1 → body_has_case (placed_body w line b) ≡ true
has_case w line b one = by (body_has_case (placed_body w line b)) refl where
  by : (x : Bool) → body_has_case (placed_body w line b) ≡ x → body_has_case (placed_body w line b) ≡ true
  by true e = e
  by false e = let none = no_case w line b e in absurd (omega (arith, none, one))

unseen : (seen : Bool) (k : ℕ) → ones seen + suc k ≤ 1 → seen ≡ false
unseen true k h = absurd (omega (arith, h))
unseen false k h = refl

-- ---- the statements

-- the names of the pragmas
abbrev pub roles_with : Words → List ℕ → Named
roles_with w clock = record { current = w.current; next = w.next; clock = clock }

-- what is known where statements are looked at
pub record CanLook (known : List Symbol) (clock : List ℕ) (w : Words) (f : Fsm) : Type 0 where
  pub body : CanReadBody known clock w f
  pub current : is_none (find known w.current) ≡ false
  pub next : is_none (find known w.next) ≡ false

module _ (known : List Symbol) (clock : List ℕ) (w : Words) (f : Fsm) (can : CanLook known clock w f) where
  abbrev roles : Named
  roles = roles_with w clock

  fine : (e : Expression) → ReadsInputs f e → HasNoChoice e → (line : ℕ) → IsSaid known clock w.vars (tree w.vars line e) e
  fine e reads free line = said known clock w.vars f can.body.inputs e reads free line

  same_width : (a b : Option ℕ) (line : ℕ) → a ≡ Some 1 → b ≡ Some 1 → if_not (not (differ a b)) line ≡ []
  same_width a b line e g = ap (λ (o : Option ℕ). if_not (not (differ o b)) line) e ∙ ap (λ (o : Option ℕ). if_not (not (differ (Some 1) o)) line) g

  quiet_output : (x : Name) (e : Expression) → IsAssignmentOf f (s.output x e) → HasNoChoice e → (line : ℕ) → IsQuiet known roles (assigning (placed_target line x) (kept_at w line e) (tree w.vars line e))
  quiet_output x e of free line =
      let t = placed_target line x in
      let v = tree w.vars line e in
      let i = contains_in (fsm_outputs f) x of.0 in
      let r = can.body.outputs x i in
      let apart = can.body.others x i in
      let p = fine e of.1 free line in
      record {
        uses = (is_used known x r.declared, subst (λ b. AreUsed known (value_uses b (kept_at w line e) v)) (sym apart) p.plain.uses);
        widths =
            ap (λ b. wide_enough b (width known v) (target_width known t) line ++ (target_faults known t ++ width_faults known v)) apart
            ∙ nothing (if_not (not (differ (width known v) (target_width known t))) line) (target_faults known t ++ width_faults known v)
            (same_width (width known v) (target_width known t) line p.plain.width (width_is known x line r.declared))
            (nothing (target_faults known t) (width_faults known v) (faults_are known x line r.declared) p.plain.faults);
        forms =
            ap (λ b. cond b (next_forms (kept_at w line e) v) (if_not (may_assign (find known x.text)) line ++ expression_forms known v)) apart
            ∙ nothing (if_not (may_assign (find known x.text)) line) (expression_forms known v)
            (ap (λ b. if_not b line) (ap may_assign r.declared.found ∙ ap is_output r.role)) p.forms;
        clocks = ap (λ b. cond b [] (clock_lines (Some clock) v)) apart ∙ p.plain.clocks;
      }

  quiet_next : (k line : ℕ) → IsQuiet known roles (assigning (placed_target line (scalar w.next)) (bare_at line) (name (state_text w k) line))
  quiet_next k line =
      let t = placed_target line (scalar w.next) in
      let v = name (state_text w k) line in
      let is = itself w.next in
      record {
        uses = (can.next, subst (λ b. AreUsed known (value_uses b (bare_at line) v)) (sym is) tt);
        widths = ap (λ b. wide_enough b (width known v) (target_width known t) line ++ []) is;
        forms = ap (λ b. cond b (next_forms (bare_at line) v) (if_not (may_assign (find known w.next)) line ++ expression_forms known v)) is;
        clocks = ap (λ b. cond b [] (clock_lines (Some clock) v)) is;
      }

  quiet_test : (e : Expression) → ReadsInputs f e → HasNoChoice e → (line : ℕ) → IsQuiet known roles (testing line (tree w.vars line e))
  quiet_test e reads free line =
      let v = tree w.vars line e in
      let p = fine e reads free line in
      record {
        uses = p.plain.uses;
        widths = nothing (if_not (not (differ (width known v) (Some 1))) line) (width_faults known v) (same_width (width known v) (Some 1) line p.plain.width refl) p.plain.faults;
        forms = p.forms;
        clocks = p.plain.clocks;
      }

  quiet_case : (seen : Bool) (line : ℕ) → seen ≡ false → IsQuiet known roles (selecting seen line (named_at line w.current))
  quiet_case seen line e = record {
    uses = (can.current, tt);
    widths = refl;
    forms = nothing (if_not (not seen) line) (if_not (bytes_eq w.current w.current) line) (ap (λ b. if_not (not b) line) e) (ap (λ b. if_not b line) (itself w.current));
    clocks = refl;
  }

  quiet_list : (names : List NewName) → IsQuiet known roles (listing names)
  quiet_list names = record { uses = tt; widths = refl; forms = refl; clocks = refl }

  mutual
    pub quiet_body : (seen : Bool) (line : ℕ) (b : s.Statements) → IsBodyOf f b → IsPlainBody b → ones seen + cases_in b ≤ 1 → AreQuiet known roles (in_body seen (placed_body w line b))
    quiet_body seen line s.finish of free few = quiet_none known roles
    quiet_body seen line (s.assign (s.output x e) rest) of free few =
        let l = line_behind line in
        quiet_first known roles (assigning (placed_target line x) (kept_at w line e) (tree w.vars line e)) (in_body (seen || false) (placed_body w l rest)) (quiet_output x e of.0 free.0 line)
        (quiet_body (seen || false) l rest of.1 free.1 (let x = one_of_two seen false in omega (arith, x, few)))
    quiet_body seen line (s.assign (s.next k) rest) of free few =
        let l = line_behind line in
        quiet_first known roles (assigning (placed_target line (scalar w.next)) (bare_at line) (name (state_text w k) line)) (in_body (seen || false) (placed_body w l rest)) (quiet_next k line)
        (quiet_body (seen || false) l rest of.1 free.1 (let x = one_of_two seen false in omega (arith, x, few)))
    quiet_body seen line (s.choose ps rest) of free few =
        let l = line_of line (if_layout w ps) in
        let has = parts_have_case (placed_parts w line ps) in
        let x = one_of_two seen has in
        let y = parts_counted w line ps in
        quiet_both known roles (in_parts seen (placed_parts w line ps)) (in_body (seen || has) (placed_body w l rest))
        (quiet_parts seen line ps of.0 free.0 (omega (arith, few))) (quiet_body (seen || has) l rest of.1 free.1 (omega (arith, x, y, few)))
    quiet_body seen line (s.select bs rest) of free few =
        let l = line_of line (case_layout w bs) in
        let all = in_branches (placed_branches w (line_behind line) bs) in
        let x = one_of_two seen true in
        quiet_first known roles (selecting seen line (named_at line w.current)) (all ++ in_body (seen || true) (placed_body w l rest)) (quiet_case seen line (unseen seen (cases_in_branches bs + cases_in rest) few))
        (quiet_both known roles all (in_body (seen || true) (placed_body w l rest))
        (quiet_branches (line_behind line) bs of.0 free.0 (omega (arith, few))) (quiet_body (seen || true) l rest of.1 free.1 (omega (arith, x, few))))

    quiet_parts : (seen : Bool) (line : ℕ) (ps : s.Parts) → ArePartsOf f ps → ArePlainParts ps → ones seen + cases_in_parts ps ≤ 1 → AreQuiet known roles (in_parts seen (placed_parts w line ps))
    quiet_parts seen line (s.only c a) of free few =
        let A = placed_body w (line_behind line) a in
        quiet_first known roles (testing line (tree w.vars line c)) (in_body seen A) (quiet_test c of.0 free.0 line) (quiet_body seen (line_behind line) a of.1 free.1 few)
    quiet_parts seen line (s.either c a b) of free few =
        let A = placed_body w (line_behind line) a in
        let l = line_behind (behind_body w (line_behind line) a) in
        let x = one_of_two seen (body_has_case A) in
        let y = case_counted w (line_behind line) a in
        quiet_first known roles (testing line (tree w.vars line c)) (in_body seen A ++ in_body (seen || body_has_case A) (placed_body w l b)) (quiet_test c of.0 free.0 line)
        (quiet_both known roles (in_body seen A) (in_body (seen || body_has_case A) (placed_body w l b))
        (quiet_body seen (line_behind line) a of.1.0 free.1.0 (omega (arith, few))) (quiet_body (seen || body_has_case A) l b of.1.1 free.1.1 (omega (arith, x, y, few))))
    quiet_parts seen line (s.further c a more) of free few =
        let A = placed_body w (line_behind line) a in
        let l = behind_body w (line_behind line) a in
        let x = one_of_two seen (body_has_case A) in
        let y = case_counted w (line_behind line) a in
        quiet_first known roles (testing line (tree w.vars line c)) (in_body seen A ++ in_parts (seen || body_has_case A) (placed_parts w l more)) (quiet_test c of.0 free.0 line)
        (quiet_both known roles (in_body seen A) (in_parts (seen || body_has_case A) (placed_parts w l more))
        (quiet_body seen (line_behind line) a of.1.0 free.1.0 (omega (arith, few))) (quiet_parts (seen || body_has_case A) l more of.1.1 free.1.1 (omega (arith, x, y, few))))

    quiet_branches : (line : ℕ) (bs : s.Branches) → AreBranchesOf f bs → ArePlainBranches bs → cases_in_branches bs ≡ 0 → AreQuiet known roles (in_branches (placed_branches w line bs))
    quiet_branches line s.closed of free none = quiet_none known roles
    quiet_branches line (s.others a) of free none = quiet_body true (line_behind line) a of free (omega (arith, none))
    quiet_branches line (s.listed ks a more) of free none =
        let names = map (λ k. named_at line (state_text w k)) ks in
        let A = in_body true (placed_body w (line_behind line) a) in
        let l = behind_body w (line_behind line) a in
        quiet_first known roles (listing names) (A ++ in_branches (placed_branches w l more)) (quiet_list names)
        (quiet_both known roles A (in_branches (placed_branches w l more))
        (quiet_body true (line_behind line) a of.0 free.0 (omega (arith, none))) (quiet_branches l more of.1 free.1 (omega (arith, none))))
