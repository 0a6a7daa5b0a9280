-- Statements as they are written are read as the same.
use Rattle.std.proofs.Common.{◌≡◌, ℕ, zero, suc, ◌+◌, ◌<◌, Bool, true, false, cond, List, [], ◌∷◌, map, length, bytes_eq, get_or, refl, sym, ap, subst, ◌∙◌, arith}
use Rattle.std.specs.List.{All}
use Rattle.std.proofs.lemmas.List.{get_or-map, length-map}
use Rattle.std.proofs.lemmas.List.Elements.{All-head, All-tail}
use Rattle.std.proofs.lemmas.Slice.Eq.{bytes_eq-Decides}
use Rattle.vlsi_base.specs.declared.name.Name.{Name}
use Rattle.vlsi_base.specs.declared.entity.NewName.{NewName}
use Rattle.vlsi_base.specs.Member.{In, AllDifferent}
use Rattle.vlsi_base.specs.Names.{scalar}
use Rattle.vlsi_base.specs.Tree.{name}
use Rattle.bool_expr.specs.Expression.{Expression}
use Rattle.source_checks.specs.declared.symbol_table.Role.TheVariants as role
use Rattle.source_checks.specs.declared.symbol_table.Symbol.{Symbol}
use Rattle.source_checks.specs.Formula.{Formula, formulas, first_bit, numbered}
use Rattle.source_checks.specs.Drivers.{target_names}
use Rattle.source_checks.proofs.Lookups.{same_of}
use Rattle.vlsi_model.proofs.Sorting.{In-at}
use Rattle.vbe_print.specs.Placed.{tree, placed_target}
use Rattle.spell_theory.specs.Layout.{line_behind, line_of}
use Rattle.fsm_machine.specs.Statements as s
use Rattle.fsm_machine.specs.Fsm.{Fsm, fsm_outputs}
use Rattle.fsm_core.specs.Checked.{ReadsInputs, IsAssignmentOf, IsBodyOf, ArePartsOf, AreBranchesOf}
use Rattle.fsm_io.specs.Elaboration.{Frame, state_number, next_number, assign_bits, condition_of, body_bits, statement_bits, parts_bits, branches_bits}
use Rattle.fsm_print.specs.declared.words.Words.{Words}
use Rattle.fsm_print.specs.Layout.{state_text, if_layout, case_layout}
use Rattle.fsm_print.specs.Pieces.{IsKnownBody, AreKnownParts, AreKnownBranches}
use Rattle.fsm_print.specs.Writable.{IsPlain as HasNoChoice, IsPlainBody, ArePlainParts, ArePlainBranches}
use Rattle.fsm_print.specs.Written.{texts_of}
use Rattle.fsm_print.specs.Placed.{named_at, behind_body, placed_assignment, placed_body, placed_parts, placed_branches}
use Rattle.fsm_print.proofs.KnownRead.{InRole, contains_in}
use Rattle.fsm_print.proofs.Expressions.{InputsAreRead, said, names_are}

pub itself : (x : List ℕ) → bytes_eq x x ≡ true
itself x = (bytes_eq-Decides x x).1 refl

pub other : (x y : List ℕ) → (x ≡ y → ⊥) → bytes_eq x y ≡ false
other x y apart = by (bytes_eq x y) refl where
  by : (b : Bool) → bytes_eq x y ≡ b → bytes_eq x y ≡ false
  by true e = absurd (apart (same_of x y e))
  by false e = e

-- ---- states by their texts

pub number_at : (ts : List (List ℕ)) (k : ℕ) (d : List ℕ) → AllDifferent ts → k < length ts → state_number ts (get_or ts k d) ≡ k
number_at [] k d differ l = absurd (omega (arith, l))
number_at (t ∷ ts) zero d differ l = ap (λ b. cond b 0 (state_number ts t + 1)) (itself t)
number_at (t ∷ ts) (suc k) d differ l =
    let within : k < length ts = omega (arith, l) in
    let x = get_or ts k d in
    let apart : bytes_eq t x ≡ false = other t x (λ e. differ.0 (subst (λ (u : List ℕ). In u ts) (sym e) (In-at ts k d within))) in
    let rest = number_at ts k d differ.1 within in
    ap (λ b. cond b 0 (state_number ts x + 1)) apart ∙ ap (λ (n : ℕ). n + 1) rest ∙ omega arith

-- what is known where statements are read
pub record CanReadBody (known : List Symbol) (clock : List ℕ) (w : Words) (f : Fsm) : Type 0 where
  pub inputs : InputsAreRead known clock w.vars f
  pub outputs : (n : Name) → In n (fsm_outputs f) → InRole known role.Output n
  pub others : (n : Name) → In n (fsm_outputs f) → bytes_eq n.text w.next ≡ false
  pub states : AllDifferent (texts_of w.states)

-- the frame of the text
abbrev pub frame_with : List Symbol → Words → Frame
frame_with known w = record { vars = w.vars; known = known; states = texts_of w.states; next = w.next }

module _ (known : List Symbol) (clock : List ℕ) (w : Words) (f : Fsm) (can : CanReadBody known clock w f) where
  pub state_again : (k : ℕ) → k < length w.states → state_number (texts_of w.states) (state_text w k) ≡ k
  state_again k l =
      let many = length-map w.states (λ (n : Name). n.text) in
      ap (state_number (texts_of w.states)) (sym (get_or-map (λ (n : Name). n.text) w.states k (scalar []) [] l))
      ∙ number_at (texts_of w.states) k [] can.states (omega (arith, l, many))

  states_again : (line : ℕ) (ks : List ℕ) → All (λ k. k < length w.states) ks
      → map (λ (n : NewName). state_number (texts_of w.states) n.text) (map (λ k. named_at line (state_text w k)) ks) ≡ ks
  states_again line [] all = refl
  states_again line (k ∷ ks) all =
      let P : ℕ → Type 0 = λ k. k < length w.states in
      let rest = map (λ (n : NewName). state_number (texts_of w.states) n.text) (map (λ k. named_at line (state_text w k)) ks) in
      ap (λ (n : ℕ). n ∷ rest) (state_again k (All-head P k ks all)) ∙ ap (λ (ns : List ℕ). k ∷ ns) (states_again line ks (All-tail P k ks all))

  condition_again : (e : Expression) → ReadsInputs f e → HasNoChoice e → (line : ℕ) → condition_of (frame_with known w) (tree w.vars line e) ≡ e
  condition_again e reads free line =
      let x = said known clock w.vars f can.inputs e reads free line in
      ap (λ (fs : List Formula). numbered w.vars (first_bit fs)) x.plain.bits ∙ x.again

  output_again : (n : Name) (e : Expression) → IsAssignmentOf f (s.output n e) → HasNoChoice e → (line : ℕ) (rest : s.Statements)
      → statement_bits (frame_with known w) (placed_assignment w line (s.output n e)) rest ≡ s.assign (s.output n e) rest
  output_again n e of free line rest =
      let x = said known clock w.vars f can.inputs e of.1 free line in
      let i = contains_in (fsm_outputs f) n of.0 in
      let t = placed_target line n in
      let v = tree w.vars line e in
      ap (λ b. cond b (s.assign (s.next (next_number (texts_of w.states) v)) rest) (assign_bits w.vars (target_names known t) (formulas known v) rest)) (can.others n i)
      ∙ ap (λ (ns : List Name). assign_bits w.vars ns (formulas known v) rest) (names_are known n line (can.outputs n i).declared)
      ∙ ap (λ (fs : List Formula). assign_bits w.vars (n ∷ []) fs rest) x.plain.bits
      ∙ ap (λ (y : Expression). s.assign (s.output n y) rest) x.again

  next_again : (k : ℕ) → k < length w.states → (line : ℕ) (rest : s.Statements) → statement_bits (frame_with known w) (placed_assignment w line (s.next k)) rest ≡ s.assign (s.next k) rest
  next_again k l line rest =
      let t = placed_target line (scalar w.next) in
      let v = name (state_text w k) line in
      ap (λ b. cond b (s.assign (s.next (next_number (texts_of w.states) v)) rest) (assign_bits w.vars (target_names known t) (formulas known v) rest)) (itself w.next)
      ∙ ap (λ (j : ℕ). s.assign (s.next j) rest) (state_again k l)

  mutual
    pub body_again : (line : ℕ) (b : s.Statements) → IsBodyOf f b → IsPlainBody b → IsKnownBody w b → body_bits (frame_with known w) (placed_body w line b) ≡ b
    body_again line s.finish of free is = refl
    body_again line (s.assign (s.output n e) rest) of free is =
        output_again n e of.0 free.0 line (body_bits (frame_with known w) (placed_body w (line_behind line) rest))
        ∙ ap (λ (y : s.Statements). s.assign (s.output n e) y) (body_again (line_behind line) rest of.1 free.1 is.1)
    body_again line (s.assign (s.next k) rest) of free is =
        next_again k is.0 line (body_bits (frame_with known w) (placed_body w (line_behind line) rest))
        ∙ ap (λ (y : s.Statements). s.assign (s.next k) y) (body_again (line_behind line) rest of.1 free.1 is.1)
    body_again line (s.choose ps rest) of free is =
        let l = line_of line (if_layout w ps) in
        ap (λ (y : s.Parts). s.choose y (body_bits (frame_with known w) (placed_body w l rest))) (parts_again line ps of.0 free.0 is.0)
        ∙ ap (λ (y : s.Statements). s.choose ps y) (body_again l rest of.1 free.1 is.1)
    body_again line (s.select bs rest) of free is =
        let l = line_of line (case_layout w bs) in
        ap (λ (y : s.Branches). s.select y (body_bits (frame_with known w) (placed_body w l rest))) (branches_again (line_behind line) bs of.0 free.0 is.0)
        ∙ ap (λ (y : s.Statements). s.select bs y) (body_again l rest of.1 free.1 is.1)

    parts_again : (line : ℕ) (ps : s.Parts) → ArePartsOf f ps → ArePlainParts ps → AreKnownParts w ps → parts_bits (frame_with known w) (placed_parts w line ps) ≡ ps
    parts_again line (s.only c a) of free is =
        ap (λ (y : Expression). s.only y (body_bits (frame_with known w) (placed_body w (line_behind line) a))) (condition_again c of.0 free.0 line)
        ∙ ap (λ (y : s.Statements). s.only c y) (body_again (line_behind line) a of.1 free.1 is.1)
    parts_again line (s.either c a b) of free is =
        let F = frame_with known w in
        let l = line_behind (behind_body w (line_behind line) a) in
        let A = body_bits F (placed_body w (line_behind line) a) in
        let B = body_bits F (placed_body w l b) in
        ap (λ (y : Expression). s.either y A B) (condition_again c of.0 free.0 line)
        ∙ ap (λ (y : s.Statements). s.either c y B) (body_again (line_behind line) a of.1.0 free.1.0 is.0.1)
        ∙ ap (λ (y : s.Statements). s.either c a y) (body_again l b of.1.1 free.1.1 is.1)
    parts_again line (s.further c a more) of free is =
        let F = frame_with known w in
        let l = behind_body w (line_behind line) a in
        let A = body_bits F (placed_body w (line_behind line) a) in
        let M = parts_bits F (placed_parts w l more) in
        ap (λ (y : Expression). s.further y A M) (condition_again c of.0 free.0 line)
        ∙ ap (λ (y : s.Statements). s.further c y M) (body_again (line_behind line) a of.1.0 free.1.0 is.0.1)
        ∙ ap (λ (y : s.Parts). s.further c a y) (parts_again l more of.1.1 free.1.1 is.1)

    branches_again : (line : ℕ) (bs : s.Branches) → AreBranchesOf f bs → ArePlainBranches bs → AreKnownBranches w bs → branches_bits (frame_with known w) (placed_branches w line bs) ≡ bs
    branches_again line s.closed of free is = refl
    branches_again line (s.others a) of free is = ap (λ (y : s.Statements). s.others y) (body_again (line_behind line) a of free is)
    branches_again line (s.listed ks a more) of free is =
        let F = frame_with known w in
        let l = behind_body w (line_behind line) a in
        let A = body_bits F (placed_body w (line_behind line) a) in
        let M = branches_bits F (placed_branches w l more) in
        ap (λ (y : List ℕ). s.listed y A M) (states_again line ks is.0.0.1)
        ∙ ap (λ (y : s.Statements). s.listed ks y M) (body_again (line_behind line) a of.0 free.0 is.0.1)
        ∙ ap (λ (y : s.Branches). s.listed ks a y) (branches_again l more of.1 free.1 is.1)
