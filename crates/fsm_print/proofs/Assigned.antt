-- Each output bit that is assigned on each path is assigned somewhere in the text, and none is left out.
use Rattle.std.proofs.Common.{◌≡◌, ℕ, zero, suc, ◌+◌, ◌<◌, ◌≤◌, Bool, true, false, cond, not, ◌&&◌, ◌||◌, List, [], ◌∷◌, ◌++◌, filter, Option, None, refl, sym, ap, subst, ◌∙◌, arith}
use Rattle.std.specs.List.{flat_map, list_all}
use Rattle.std.proofs.lemmas.Bool.{and_parts}
use Rattle.std.proofs.lemmas.Grind.{flat_map-append}
use Rattle.vlsi_base.specs.declared.name.Name.{Name}
use Rattle.vlsi_base.specs.Member.{In, here, there}
use Rattle.vlsi_base.specs.Names.{scalar}
use Rattle.vlsi_base.specs.Range.{rising}
use Rattle.bool_expr.specs.Support.{among}
use Rattle.machine_core.specs.Named.{is_same_name}
use Rattle.machine_core.proofs.Names.{same_name-true, same_name-itself}
use Rattle.machine_core.proofs.Values.{In-left, In-right}
use Rattle.source_checks.specs.declared.symbol_table.Role.{Role}
use Rattle.source_checks.specs.declared.symbol_table.Role.TheVariants as role
use Rattle.source_checks.specs.declared.symbol_table.Symbol.{Symbol}
use Rattle.source_checks.specs.Symbols.{symbol_names}
use Rattle.source_checks.specs.Drivers.{is_among, target_names, least, fault_at}
use Rattle.spell_theory.specs.Layout.{line_behind, line_of}
use Rattle.vbe_print.specs.Placed.{placed_target}
use Rattle.fsm_machine.specs.Statements as s
use Rattle.fsm_machine.specs.Fsm.{Fsm, fsm_outputs}
use Rattle.fsm_machine.specs.Assigned.{sure, sure_parts, sure_branches, sets_output}
use Rattle.fsm_core.specs.Checked.{IsBodyOf, ArePartsOf, AreBranchesOf}
use Rattle.fsm_io.specs.Drivers.{is_output, names_at, unassigned_at, first_of, or_else}
use Rattle.fsm_io.specs.Looks.{Mention, body_has_case, parts_have_case, in_body, in_parts, in_branches}
use Rattle.fsm_io.specs.Assigned.{always}
use Rattle.fsm_io.proofs.StateNames.{or_second}
use Rattle.fsm_print.specs.declared.words.Words.{Words}
use Rattle.fsm_print.specs.Layout.{if_layout, case_layout}
use Rattle.fsm_print.specs.Placed.{behind_body, placed_body, placed_parts, placed_branches}
use Rattle.fsm_print.proofs.KnownRead.{contains_in}
use Rattle.fsm_print.proofs.Expressions.{names_are}
use Rattle.fsm_print.proofs.Body.{CanReadBody}

-- ---- what is assigned on each path stands in the text

either_way : {X : Type 0} (a b : Bool) → (a || b) ≡ true → (a ≡ true → X) → (b ≡ true → X) → X
either_way true b e f g = f refl
either_way false b e f g = g e

one_way : {X : Type 0} (c a b : Bool) → cond c a b ≡ true → (a ≡ true → X) → (b ≡ true → X) → X
one_way true a b e f g = f e
one_way false a b e f g = g e

module _ (known : List Symbol) (clock : List ℕ) (w : Words) (f : Fsm) (can : CanReadBody known clock w f) (n : Name) where
  -- the name is among those that these places assign
  abbrev IsNamed : List Mention → Type 0
  IsNamed ms = In n (flat_map (names_at known) ms)

  named_left : (xs ys : List Mention) → IsNamed xs → IsNamed (xs ++ ys)
  named_left xs ys h =
      let look = names_at known in
      subst (λ (ns : List Name). In n ns) (sym (flat_map-append look xs ys)) (In-left n (flat_map look xs) (flat_map look ys) h)

  named_right : (xs ys : List Mention) → IsNamed ys → IsNamed (xs ++ ys)
  named_right xs ys h =
      let look = names_at known in
      subst (λ (ns : List Name). In n ns) (sym (flat_map-append look xs ys)) (In-right n (flat_map look xs) (flat_map look ys) h)

  mutual
    pub named_body : (seen : Bool) (line q : ℕ) (b : s.Statements) → IsBodyOf f b → sure (sets_output n) q b ≡ true → IsNamed (in_body seen (placed_body w line b))
    named_body seen line q s.finish of e = absurd cc
    named_body seen line q (s.assign (s.output x v) rest) of e =
        let t = placed_target line x in
        let ms = in_body (seen || false) (placed_body w (line_behind line) rest) in
        let own : target_names known t ≡ x ∷ [] = names_are known x line (can.outputs x (contains_in (fsm_outputs f) x of.0.0)).declared in
        either_way (is_same_name x n) (sure (sets_output n) q rest) e
        (λ same. In-left n (target_names known t) (flat_map (names_at known) ms) (subst (λ (ns : List Name). In n ns) (sym own) (subst (λ (y : Name). In n (y ∷ [])) (sym (same_name-true x n same)) here)))
        (λ later. In-right n (target_names known t) (flat_map (names_at known) ms) (named_body (seen || false) (line_behind line) q rest of.1 later))
    named_body seen line q (s.assign (s.next k) rest) of e =
        let ms = in_body (seen || false) (placed_body w (line_behind line) rest) in
        In-right n (target_names known (placed_target line (scalar w.next))) (flat_map (names_at known) ms) (named_body (seen || false) (line_behind line) q rest of.1 e)
    named_body seen line q (s.choose ps rest) of e =
        let l = line_of line (if_layout w ps) in
        let P = in_parts seen (placed_parts w line ps) in
        let after = seen || parts_have_case (placed_parts w line ps) in
        let R = in_body after (placed_body w l rest) in
        either_way (sure_parts (sets_output n) q ps) (sure (sets_output n) q rest) e
        (λ a. named_left P R (named_parts seen line q ps of.0 a)) (λ b. named_right P R (named_body after l q rest of.1 b))
    named_body seen line q (s.select bs rest) of e =
        let l = line_of line (case_layout w bs) in
        let B = in_branches (placed_branches w (line_behind line) bs) in
        let R = in_body (seen || true) (placed_body w l rest) in
        either_way (sure_branches (sets_output n) q bs) (sure (sets_output n) q rest) e
        (λ a. named_left B R (named_branches (line_behind line) q bs of.0 a)) (λ b. named_right B R (named_body (seen || true) l q rest of.1 b))

    named_parts : (seen : Bool) (line q : ℕ) (ps : s.Parts) → ArePartsOf f ps → sure_parts (sets_output n) q ps ≡ true → IsNamed (in_parts seen (placed_parts w line ps))
    named_parts seen line q (s.only c a) of e = absurd cc
    named_parts seen line q (s.either c a b) of e =
        let A = placed_body w (line_behind line) a in
        let l = line_behind (behind_body w (line_behind line) a) in
        named_left (in_body seen A) (in_body (seen || body_has_case A) (placed_body w l b))
        (named_body seen (line_behind line) q a of.1.0 (and_parts (sure (sets_output n) q a) (sure (sets_output n) q b) e).0)
    named_parts seen line q (s.further c a more) of e =
        let A = placed_body w (line_behind line) a in
        let l = behind_body w (line_behind line) a in
        named_left (in_body seen A) (in_parts (seen || body_has_case A) (placed_parts w l more))
        (named_body seen (line_behind line) q a of.1.0 (and_parts (sure (sets_output n) q a) (sure_parts (sets_output n) q more) e).0)

    named_branches : (line q : ℕ) (bs : s.Branches) → AreBranchesOf f bs → sure_branches (sets_output n) q bs ≡ true → IsNamed (in_branches (placed_branches w line bs))
    named_branches line q s.closed of e = absurd cc
    named_branches line q (s.others a) of e = named_body true (line_behind line) q a of e
    named_branches line q (s.listed ks a more) of e =
        let A = in_body true (placed_body w (line_behind line) a) in
        let l = behind_body w (line_behind line) a in
        let M = in_branches (placed_branches w l more) in
        one_way (among q ks) (sure (sets_output n) q a) (sure_branches (sets_output n) q more) e
        (λ now. named_left A M (named_body true (line_behind line) q a of.0 now)) (λ later. named_right A M (named_branches l q more of.1 later))

-- ---- no bit of an output is left out

pub in_among : (names : List Name) (n : Name) → In n names → is_among names n ≡ true
in_among (m ∷ names) n here = ap (λ b. b || is_among names n) (same_name-itself m)
in_among (m ∷ names) n (there h) = or_second (is_same_name m n) (is_among names n) (in_among names n h)
in_among [] n h = elim h [ ]

none_pass : (p : Name → Bool) (names : List Name) → ((n : Name) → In n names → p n ≡ false) → filter p names ≡ []
none_pass p [] h = refl
none_pass p (n ∷ names) h = ap (λ b. cond b (n ∷ filter p names) (filter p names)) (h n here) ∙ none_pass p names (λ m i. h m (there i))

an_output : (r : Role) → is_output r ≡ true → r ≡ role.Output
an_output role.Input e = absurd cc
an_output role.Output e = refl
an_output role.Both e = absurd cc
an_output role.Inner e = absurd cc
an_output role.Register e = absurd cc

assigned_all : (assigned : Name → Bool) (x : Symbol) → (x.role ≡ role.Output → (n : Name) → In n (symbol_names x) → assigned n ≡ true) → unassigned_at assigned x ≡ None
assigned_all assigned x h = by (is_output x.role) refl where
  by : (b : Bool) → is_output x.role ≡ b → cond b (fault_at x.line (least (filter (λ (n : Name). not (assigned n)) (symbol_names x))) None) None ≡ None
  by true e = ap (λ (ns : List Name). fault_at x.line (least ns) None) (none_pass (λ (n : Name). not (assigned n)) (symbol_names x) (λ n i. ap not (h (an_output x.role e) n i)))
  by false e = refl

pub none_first : {A B : Type 0} (look : A → Option B) (xs : List A) → ((x : A) → In x xs → look x ≡ None) → first_of look xs ≡ None
none_first look [] h = refl
none_first {A} {B} look (x ∷ xs) h = ap (λ (o : Option B). or_else o (first_of look xs)) (h x here) ∙ none_first look xs (λ y i. h y (there i))

-- where each bit of each output is assigned
pub outputs_assigned : (assigned : Name → Bool) (known : List Symbol) (names : List Name) → ((x : Symbol) → In x known → x.role ≡ role.Output → (n : Name) → In n (symbol_names x) → In n names)
    → ((n : Name) → In n names → assigned n ≡ true) → first_of (unassigned_at assigned) known ≡ None
outputs_assigned assigned known names bits h = none_first (unassigned_at assigned) known (λ x i. assigned_all assigned x (λ e n j. h n (bits x i e n j)))

-- ---- on each path with each state

all_rising : (p : ℕ → Bool) (k n : ℕ) → ((q : ℕ) → k ≤ q → q < k + n → p q ≡ true) → list_all p (rising k n) ≡ true
all_rising p k zero h = refl
all_rising p k (suc n) h = ap (λ b. b && list_all p (rising (k + 1) n)) (h k (omega arith) (omega arith)) ∙ all_rising p (k + 1) n (λ q low high. h q (omega (arith, low)) (omega (arith, high)))

pub each_always : (count : ℕ) (sets : s.Assignment → Bool) (b : s.Statements) → ((q : ℕ) → q < count → sure sets q b ≡ true) → always count sets b ≡ true
each_always count sets b h = all_rising (λ q. sure sets q b) 0 count (λ q low high. h q (omega (arith, high)))
