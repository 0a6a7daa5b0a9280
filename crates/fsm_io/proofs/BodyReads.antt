-- The statements bit by bit assign outputs and read inputs other than the clock.
use Rattle.std.proofs.Common.{◌≡◌, Bool, true, false, cond, List, [], ◌∷◌, ◌++◌, Some, refl, sym, ap, ◌∙◌, bytes_eq}
use Rattle.std.specs.Prelude.{◌||◌, not, filter}
use Rattle.std.specs.List.{Contains}
use Rattle.std.proofs.lemmas.Option.{slice_get-get_or}
use Rattle.vlsi_base.specs.Tree.{Tree}
use Rattle.vlsi_base.specs.declared.name.Name.{Name}
use Rattle.vlsi_base.specs.declared.name.Port.{Port}
use Rattle.vlsi_base.specs.declared.name.Dir.TheVariants as dir
use Rattle.vlsi_base.specs.Member.{In, here, there}
use Rattle.machine_core.proofs.Values.{In-left, In-right, In-map}
use Rattle.machine_core.specs.Machine.{names_of, is_input}
use Rattle.machine_core.specs.Named.{is_same_name}
use Rattle.source_checks.specs.declared.statement.Target.{Target}
use Rattle.source_checks.specs.Symbols.{scalar}
use Rattle.source_checks.specs.Drivers.{target_names}
use Rattle.source_checks.specs.Formula.{Formula, fixed, named, opposite, joined, chosen as choosing, formulas, formula_names, first_bit, numbered, place}
use Rattle.source_checks.specs.Elaboration.{port_bits, port_of}
use Rattle.vlsi_model.proofs.Sorting.{place_of_In, same_name_decides}
use Rattle.vlsi_model.proofs.Numbering.{place_within, place_at}
use Rattle.vlsi_model.proofs.PortBits.{filter-In}
use Rattle.fsm_machine.specs.Fsm.{Fsm, fsm_inputs, fsm_outputs}
use Rattle.fsm_machine.specs.Statements as s
use Rattle.fsm_core.specs.Checked.{IsInput, ReadsInputs, IsBodyOf, ArePartsOf, AreBranchesOf}
use Rattle.fsm_text.specs.Written.{StatementTree, asserted, assigned, chosen, selected, BodyTree, finish, next, PartsTree, only, either, further, BranchesTree, closed, others, listed, MachineTree}
use Rattle.fsm_io.specs.Known.{Named, symbols}
use Rattle.fsm_io.specs.Looks.{Mention, asserting, assigning, testing, selecting, listing, body_has_case, holds_case, in_body, in_statement, in_parts, in_branches}
use Rattle.fsm_io.specs.Elaboration.{frame_of, next_number, assign_bits, body_bits, statement_bits, parts_bits, branches_bits}
use Rattle.fsm_io.proofs.Readable.{IsRead}
use Rattle.fsm_io.proofs.Facts.{ReadsPorts, IsFineAssignment}

pub contains_from_In : {A : Type 0} (xs : List A) (x : A) → In x xs → Contains xs x
contains_from_In xs x i = let r = place_of_In xs x i in (r.0, r.1, r.2 x)

-- the state machine has the text's port bits, in some order, and its clock
pub record HasPorts (m : MachineTree) (n : Named) (f : Fsm) : Type 0 where
  pub ports : (p : Port) → In p (port_bits (symbols m)) → In p f.ports
  pub clock : f.clock ≡ scalar n.clock

not_clock : (n : Named) (f : Fsm) (k : Name) → f.clock ≡ scalar n.clock → (k.text ≡ n.clock → ⊥) → not (is_same_name f.clock k) ≡ true
not_clock n f k is other = by (is_same_name f.clock k) refl where
  by : (b : Bool) → is_same_name f.clock k ≡ b → not b ≡ true
  by true e = let same : f.clock ≡ k = (same_name_decides f.clock k).0 e in absurd (other (ap (λ (x : Name). x.text) (sym same ∙ is)))
  by false e = refl

is_read : (m : MachineTree) (n : Named) (f : Fsm) → HasPorts m n f → (k : Name) → IsRead (symbols m) n.clock k → IsInput f (place (names_of f.ports) k)
is_read m n f h k r =
    let p = port_of dir.In k in
    let there = h.ports p r.port in
    let vars = names_of f.ports in
    let within = place_within vars k (In-map (λ (q : Port). q.name) p f.ports there) in
    let inputs = In-map (λ (q : Port). q.name) p (filter (λ (q : Port). is_input q.dir) f.ports) (filter-In (λ (q : Port). is_input q.dir) f.ports p there refl) in
    record {
      name = k;
      is = slice_get-get_or vars (place vars k) k within ∙ ap Some (place_at vars k k within);
      input = contains_from_In (fsm_inputs f) k (filter-In (λ (x : Name). not (is_same_name f.clock x)) (names_of (filter (λ (q : Port). is_input q.dir) f.ports)) k inputs (not_clock n f k h.clock r.no_clock));
    }

is_output : (m : MachineTree) (n : Named) (f : Fsm) → HasPorts m n f → (k : Name) → In (port_of dir.Out k) (port_bits (symbols m)) → Contains (fsm_outputs f) k
is_output m n f h k i =
    let p = port_of dir.Out k in
    contains_from_In (fsm_outputs f) k (In-map (λ (q : Port). q.name) p (filter (λ (q : Port). not (is_input q.dir)) f.ports) (filter-In (λ (q : Port). not (is_input q.dir)) f.ports p (h.ports p i) refl))

formula_reads : (m : MachineTree) (n : Named) (f : Fsm) → HasPorts m n f → (x : Formula) → ((k : Name) → In k (formula_names x) → IsRead (symbols m) n.clock k) → ReadsInputs f (numbered (names_of f.ports) x)
formula_reads m n f h (fixed b) r = tt
formula_reads m n f h (named k) r = is_read m n f h k (r k here)
formula_reads m n f h (opposite a) r = formula_reads m n f h a r
formula_reads m n f h (joined g a b) r =
    (formula_reads m n f h a (λ k i. r k (In-left k (formula_names a) (formula_names b) i)), formula_reads m n f h b (λ k i. r k (In-right k (formula_names a) (formula_names b) i)))
formula_reads m n f h (choosing c a b) r = (
  formula_reads m n f h c (λ k i. r k (In-left k (formula_names c) (formula_names a ++ formula_names b) i)),
  (
    formula_reads m n f h a (λ k i. r k (In-right k (formula_names c) (formula_names a ++ formula_names b) (In-left k (formula_names a) (formula_names b) i))),
    formula_reads m n f h b (λ k i. r k (In-right k (formula_names c) (formula_names a ++ formula_names b) (In-right k (formula_names a) (formula_names b) i))),
  ),
)

condition_in : (m : MachineTree) (n : Named) (f : Fsm) → HasPorts m n f → (xs : List Formula) → ((x : Formula) → In x xs → (k : Name) → In k (formula_names x) → IsRead (symbols m) n.clock k) → ReadsInputs f (numbered (names_of f.ports) (first_bit xs))
condition_in m n f h [] r = tt
condition_in m n f h (x ∷ xs) r = formula_reads m n f h x (r x here)

assigns : (m : MachineTree) (n : Named) (f : Fsm) → HasPorts m n f → (ks : List Name) (xs : List Formula) (rest : s.Statements) → ((k : Name) → In k ks → In (port_of dir.Out k) (port_bits (symbols m)))
    → ((x : Formula) → In x xs → (k : Name) → In k (formula_names x) → IsRead (symbols m) n.clock k) → IsBodyOf f rest → IsBodyOf f (assign_bits (names_of f.ports) ks xs rest)
assigns m n f h [] xs rest outs reads good = good
assigns m n f h (k ∷ ks) [] rest outs reads good = good
assigns m n f h (k ∷ ks) (x ∷ xs) rest outs reads good =
    ((is_output m n f h k (outs k here), formula_reads m n f h x (reads x here)), assigns m n f h ks xs rest (λ j i. outs j (there i)) (λ y i. reads y (there i)) good)

-- what stands in one place reads ports alone
abbrev pub Reads : MachineTree → Named → Mention → Type 0
Reads m n (asserting e) = Unit {0}
Reads m n (assigning t line e) = bytes_eq t.name n.next ≡ false → IsFineAssignment m n t e
Reads m n (testing line e) = ReadsPorts m n e
Reads m n (selecting seen line called) = Unit {0}
Reads m n (listing states) = Unit {0}

abbrev AllRead : MachineTree → Named → List Mention → Type 0
AllRead m n ms = (x : Mention) → In x ms → Reads m n x

left : (m : MachineTree) (n : Named) (xs ys : List Mention) → AllRead m n (xs ++ ys) → AllRead m n xs
left m n xs ys h x i = h x (In-left x xs ys i)

right : (m : MachineTree) (n : Named) (xs ys : List Mention) → AllRead m n (xs ++ ys) → AllRead m n ys
right m n xs ys h x i = h x (In-right x xs ys i)

behind : (m : MachineTree) (n : Named) (x : Mention) (ys : List Mention) → AllRead m n (x ∷ ys) → AllRead m n ys
behind m n y ys h x i = h x (there i)

assignment_reads : (m : MachineTree) (n : Named) (f : Fsm) → HasPorts m n f → (t : Target) (e : Tree) (rest : s.Statements) → (bytes_eq t.name n.next ≡ false → IsFineAssignment m n t e) → IsBodyOf f rest
    → (b : Bool) → bytes_eq t.name n.next ≡ b
    → IsBodyOf f (cond b (s.assign (s.next (next_number (frame_of m n (names_of f.ports)).states e)) rest) (assign_bits (names_of f.ports) (target_names (symbols m) t) (formulas (symbols m) e) rest))
assignment_reads m n f h t e rest fine good true is = (tt, good)
assignment_reads m n f h t e rest fine good false is =
    let a = fine is in assigns m n f h (target_names (symbols m) t) (formulas (symbols m) e) rest a.output a.read good

mutual
  pub body_reads : (m : MachineTree) (n : Named) (f : Fsm) → HasPorts m n f → (seen : Bool) (b : BodyTree) → AllRead m n (in_body seen b) → IsBodyOf f (body_bits (frame_of m n (names_of f.ports)) b)
  body_reads m n f h seen finish g = tt
  body_reads m n f h seen (next st rest) g =
      statement_reads m n f h seen st (body_bits (frame_of m n (names_of f.ports)) rest) (left m n (in_statement seen st) (in_body (seen || holds_case st) rest) g)
      (body_reads m n f h (seen || holds_case st) rest (right m n (in_statement seen st) (in_body (seen || holds_case st) rest) g))

  statement_reads : (m : MachineTree) (n : Named) (f : Fsm) → HasPorts m n f → (seen : Bool) (st : StatementTree) (rest : s.Statements) → AllRead m n (in_statement seen st) → IsBodyOf f rest
      → IsBodyOf f (statement_bits (frame_of m n (names_of f.ports)) st rest)
  statement_reads m n f h seen (asserted e) rest g good = good
  statement_reads m n f h seen (assigned t line e) rest g good = assignment_reads m n f h t e rest (g (assigning t line e) here) good (bytes_eq t.name n.next) refl
  statement_reads m n f h seen (chosen parts) rest g good = (parts_read m n f h seen parts g, good)
  statement_reads m n f h seen (selected line called branches) rest g good = (branches_read m n f h branches (behind m n (selecting seen line called) (in_branches branches) g), good)

  parts_read : (m : MachineTree) (n : Named) (f : Fsm) → HasPorts m n f → (seen : Bool) (p : PartsTree) → AllRead m n (in_parts seen p) → ArePartsOf f (parts_bits (frame_of m n (names_of f.ports)) p)
  parts_read m n f h seen (only line c a) g =
      (condition_in m n f h (formulas (symbols m) c) (g (testing line c) here), body_reads m n f h seen a (behind m n (testing line c) (in_body seen a) g))
  parts_read m n f h seen (either line c a b) g =
      let k = behind m n (testing line c) (in_body seen a ++ in_body (seen || body_has_case a) b) g in (
        condition_in m n f h (formulas (symbols m) c) (g (testing line c) here),
        (body_reads m n f h seen a (left m n (in_body seen a) (in_body (seen || body_has_case a) b) k), body_reads m n f h (seen || body_has_case a) b (right m n (in_body seen a) (in_body (seen || body_has_case a) b) k)),
      )
  parts_read m n f h seen (further line c a more) g =
      let k = behind m n (testing line c) (in_body seen a ++ in_parts (seen || body_has_case a) more) g in (
        condition_in m n f h (formulas (symbols m) c) (g (testing line c) here),
        (body_reads m n f h seen a (left m n (in_body seen a) (in_parts (seen || body_has_case a) more) k), parts_read m n f h (seen || body_has_case a) more (right m n (in_body seen a) (in_parts (seen || body_has_case a) more) k)),
      )

  branches_read : (m : MachineTree) (n : Named) (f : Fsm) → HasPorts m n f → (b : BranchesTree) → AllRead m n (in_branches b) → AreBranchesOf f (branches_bits (frame_of m n (names_of f.ports)) b)
  branches_read m n f h closed g = tt
  branches_read m n f h (others a) g = body_reads m n f h true a g
  branches_read m n f h (listed states a more) g =
      let k = behind m n (listing states) (in_body true a ++ in_branches more) g in
      (body_reads m n f h true a (left m n (in_body true a) (in_branches more) k), branches_read m n f h more (right m n (in_body true a) (in_branches more) k))
