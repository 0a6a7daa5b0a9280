-- What passes the checks can be encoded.
use Rattle.std.proofs.Common.{◌≡◌, ℕ, ◌<◌, true, false, cond, List, [], ◌∷◌, ◌++◌, map, length, Option, None, refl, sym, ap, subst, ◌∙◌, arith}
use Rattle.std.specs.Prelude.{not, filter}
use Rattle.std.specs.List.{Contains}
use Rattle.std.specs.List.Sorted.{IsPermutation}
use Rattle.std.proofs.lemmas.List.Sorted.{IsPermutation-sym, IsPermutation-map}
use Rattle.std.proofs.lemmas.List.{length-map}
use Rattle.vlsi_base.specs.declared.entity.NewName.{NewName}
use Rattle.vlsi_base.specs.declared.name.Name.{Name}
use Rattle.vlsi_base.specs.declared.name.Port.{Port}
use Rattle.vlsi_base.specs.declared.name.Dir.{Dir}
use Rattle.vlsi_base.specs.declared.name.Dir.TheVariants as dir
use Rattle.vlsi_base.specs.declared.range.Range.{Range}
use Rattle.vlsi_base.specs.Name.{is_supply}
use Rattle.vlsi_base.specs.Member.{In, here, there, AllDifferent}
use Rattle.machine_core.specs.Checked.{AreInOrder, IsNoSupply}
use Rattle.machine_core.proofs.Values.{In-map}
use Rattle.machine_core.specs.Machine.{names_of, is_input}
use Rattle.source_checks.specs.declared.symbol_table.Role.{Role}
use Rattle.source_checks.specs.declared.symbol_table.Role.TheVariants as role
use Rattle.source_checks.specs.declared.symbol_table.Symbol.{Symbol}
use Rattle.source_checks.specs.Symbols.{scalar, symbol_names, names_in, all_names, port_symbols}
use Rattle.source_checks.specs.Checks.{first_repeated}
use Rattle.source_checks.specs.Elaboration.{port_bits, port_of}
use Rattle.vlsi_model.proofs.Members.{In-map_back, different_left, different_right, different_Sub}
use Rattle.vlsi_model.proofs.Bits.{different_bits, text_in}
use Rattle.vlsi_model.proofs.Sorting.{In-at, different_names}
use Rattle.vlsi_model.proofs.PortBits.{role_of_dir, IsPortBit, port_is, is_port_bit, ports_sub, In-filter}
use Rattle.vlsi_model.proofs.Assembly.{In-permutation, All-from_In, supply_not}
use Rattle.fsm_machine.specs.Fsm.{Fsm, fsm_outputs}
use Rattle.fsm_machine.specs.Assigned.{sure, sets_next, sets_output}
use Rattle.fsm_machine.specs.MachineOf.{up}
use Rattle.fsm_machine.specs.Sound.{IsSound}
use Rattle.fsm_core.specs.Checked.{IsCheckedFsm, IsBodyOf, cases_in, ListsStates}
use Rattle.fsm_text.specs.Written.{MachineTree}
use Rattle.fsm_io.specs.Known.{Named, symbols, texts, inner_symbols, generic_symbols}
use Rattle.fsm_io.specs.Looks.{Mention, asserting, assigning, testing, selecting, listing, all_mentions, body_has_case, found}
use Rattle.fsm_io.specs.Listed.{HasStates}
use Rattle.fsm_io.specs.Drivers.{is_output}
use Rattle.fsm_io.specs.Unsupported.{forms_at, clock_forms}
use Rattle.source_checks.specs.Unsupported.{port_forms}
use Rattle.vlsi_model.proofs.Expressions.{empty_left, empty_right, no_line}
use Rattle.fsm_io.specs.Elaboration.{IsMachineOf}
use Rattle.fsm_machine.specs.Statements.{Statements}
use Rattle.fsm_io.specs.Pieces.{HasRoles, PassesBehind, body_over}
use Rattle.fsm_io.proofs.Fine.{EarlyFine, early_fine, late_fine, IsFine, each_fine}
use Rattle.fsm_io.proofs.Facts.{Facts, facts, condition_reads, fine_assignment}
use Rattle.fsm_io.proofs.BodyReads.{HasPorts, contains_from_In, Reads, body_reads}
use Rattle.fsm_io.proofs.Surely.{next_sure, output_sure}
use Rattle.fsm_io.proofs.Sounds.{body_sound}
use Rattle.fsm_io.proofs.Cases.{cases_body, once_body}
use Rattle.fsm_io.proofs.StateNames.{texts_inner}

-- what stands in one place reads ports alone
place_reads : (m : MachineTree) (n : Named) → Facts m n → (x : Mention) → IsFine (symbols m) n x → Reads m n x
place_reads m n f (asserting e) h = tt
place_reads m n f (assigning t line e) h = λ other. fine_assignment m n f t line e other h
place_reads m n f (testing line e) h = condition_reads m n f line e h
place_reads m n f (selecting seen line called) h = tt
place_reads m n f (listing states) h = tt

pub all_read : (m : MachineTree) (n : Named) → Facts m n → (x : Mention) → In x (all_mentions m) → Reads m n x
all_read m n f x i = place_reads m n f x (each_fine m n f.fine x i)

-- a port bit of a state machine
port_bit : (m : MachineTree) (n : Named) (f : Fsm) → IsMachineOf m n f → (p : Port) → In p f.ports → IsPortBit (symbols m) p
port_bit m n f is p i = port_is (symbols m) p (In-permutation f.ports (port_bits (symbols m)) p is.ports i)

no_supplies : (m : MachineTree) (n : Named) (f : Fsm) → IsMachineOf m n f → (k : Name) → In k (names_of f.ports) → IsNoSupply k
no_supplies m n f is k i =
    let b = In-map_back (λ (p : Port). p.name) k f.ports i in
    let h = port_bit m n f is b.0 b.1 in
    let text : b.0.name.text ≡ h.symbol.text = text_in h.symbol.text h.symbol.range b.0.name h.bit in
    subst IsNoSupply b.2 (supply_not b.0.name.text (ap is_supply text ∙ h.no_supply))

clock_port : (m : MachineTree) (n : Named) (f : Fsm) → Facts m n → IsMachineOf m n f → In (port_of dir.In (scalar n.clock)) f.ports
clock_port m n f fs is =
    let c = fs.clock in
    let s = c.symbol in
    let bits : In (scalar n.clock) (symbol_names s) = subst (λ (r : Option Range). In (scalar n.clock) (names_in s.text r)) (sym c.range) (subst (λ (t : List ℕ). In (scalar n.clock) (scalar t ∷ [])) (sym c.text) here) in
    In-permutation (port_bits (symbols m)) f.ports (port_of dir.In (scalar n.clock)) (IsPermutation-sym f.ports (port_bits (symbols m)) is.ports)
    (is_port_bit (symbols m) s (scalar n.clock) dir.In c.declared bits (ap is_supply c.text ∙ c.no_supply) c.role)

-- one name is that of one port
dir_once : (ps : List Port) → AllDifferent (names_of ps) → (p q : Port) → In p ps → In q ps → p.name ≡ q.name → p ≡ q
dir_once [] d p q i j e = elim i [ ]
dir_once (x ∷ ps) d p q here here e = refl
dir_once (x ∷ ps) d p q here (there j) e = absurd (d.0 (subst (λ (k : Name). In k (names_of ps)) (sym e) (In-map (λ (r : Port). r.name) q ps j)))
dir_once (x ∷ ps) d p q (there i) here e = absurd (d.0 (subst (λ (k : Name). In k (names_of ps)) e (In-map (λ (r : Port). r.name) p ps i)))
dir_once (x ∷ ps) d p q (there i) (there j) e = dir_once ps d.1 p q i j e

different_ports : (m : MachineTree) (n : Named) (f : Fsm) → Facts m n → IsMachineOf m n f → AllDifferent (names_of f.ports)
different_ports m n f fs is =
    different_names (names_of (port_bits (symbols m))) (names_of f.ports) (IsPermutation-map (λ (p : Port). p.name) (port_bits (symbols m)) f.ports (IsPermutation-sym f.ports (port_bits (symbols m)) is.ports))
    (different_Sub (names_of (port_bits (symbols m))) (all_names (symbols m)) (ports_sub (symbols m)) (different_bits (symbols m) fs.different))

In_from_contains : {A : Type 0} (xs : List A) (x : A) → Contains xs x → In x xs
In_from_contains xs x c = subst (λ y. In y xs) c.2 (In-at xs c.0 x c.1)

not_input : (d : Dir) → not (is_input d) ≡ true → d ≡ dir.Out
not_input dir.In e = absurd cc
not_input dir.Out e = refl

-- an output of a state machine is a port of it
output_of : (f : Fsm) (k : Name) → Contains (fsm_outputs f) k → (p : Port) × In p f.ports × (p.name ≡ k) × (p.dir ≡ dir.Out)
output_of f k c =
    let b = In-map_back (λ (p : Port). p.name) k (filter (λ (p : Port). not (is_input p.dir)) f.ports) (In_from_contains (fsm_outputs f) k c) in
    let g = In-filter (λ (p : Port). not (is_input p.dir)) f.ports b.0 b.1 in
    (b.0, g.0, b.2, not_input b.0.dir g.1)

in_out : dir.In ≡ dir.Out → ⊥
in_out e = absurd cc

unobserved : (m : MachineTree) (n : Named) (f : Fsm) → Facts m n → IsMachineOf m n f → Contains (fsm_outputs f) f.clock → ⊥
unobserved m n f fs is c =
    let o = output_of f f.clock c in
    let clock = port_of dir.In (scalar n.clock) in
    let same : clock ≡ o.0 = dir_once f.ports (different_ports m n f fs is) clock o.0 (clock_port m n f fs is) o.1 (sym (o.2 ∙ is.clock)) in
    in_out (ap (λ (p : Port). p.dir) same ∙ o.3)

-- ---- states differ

map-append : {A B : Type 0} (g : A → B) (xs ys : List A) → map g (xs ++ ys) ≡ map g xs ++ map g ys
map-append g [] ys = refl
map-append {A} {B} g (x ∷ xs) ys = ap (λ (zs : List B). g x ∷ zs) (map-append g xs ys)

-- the texts of the states differ
different_states : (m : MachineTree) → AllDifferent (map (λ (s : Symbol). s.text) (symbols m)) → AllDifferent (texts m.states.states)
different_states m d =
    let text = λ (s : Symbol). s.text in
    let ports = port_symbols m.entity.ports in
    let generics = generic_symbols m.entity.generics in
    let states = inner_symbols m.states.line (m.states.name ∷ m.states.states) in
    let signals = inner_symbols m.signals.line (m.signals.first ∷ m.signals.second ∷ []) in
    let a = different_right (map text ports) (map text (generics ++ (states ++ signals))) (subst (λ (ts : List (List ℕ)). AllDifferent ts) (map-append text ports (generics ++ (states ++ signals))) d) in
    let b = different_right (map text generics) (map text (states ++ signals)) (subst (λ (ts : List (List ℕ)). AllDifferent ts) (map-append text generics (states ++ signals)) a) in
    let c = different_left (map text states) (map text signals) (subst (λ (ts : List (List ℕ)). AllDifferent ts) (map-append text states signals) b) in
    (subst (λ (ts : List (List ℕ)). AllDifferent ts) (texts_inner m.states.line (m.states.name ∷ m.states.states)) c).1

scalar_states : (names : List NewName) → AllDifferent (texts names) → AllDifferent (map (λ (s : NewName). scalar s.text) names)
scalar_states [] d = tt
scalar_states (x ∷ names) d = (λ i. d.0 (back x names i), scalar_states names d.1) where
  back : (y : NewName) (ns : List NewName) → In (scalar y.text) (map (λ (s : NewName). scalar s.text) ns) → In y.text (texts ns)
  back y ns i =
      let b = In-map_back (λ (s : NewName). scalar s.text) (scalar y.text) ns i in
      let same : b.0.text ≡ y.text = ap (λ (k : Name). k.text) b.2 in
      subst (λ (t : List ℕ). In t (texts ns)) same (In-map (λ (s : NewName). s.text) b.0 ns b.1)

-- ---- the whole

-- a case stands in the statements
has_case : (m : MachineTree) (n : Named) → EarlyFine m n → body_has_case m.step.body ≡ true
has_case m n early =
    no_line (body_has_case m.step.body) m.step.end_line
    (empty_left _ (clock_forms n m.clock) (empty_right (found (forms_at (symbols m) n) m) _ (empty_right _ _ (empty_right (port_forms m.entity.ports) _ early.form))))

output_role : (r : Role) → r ≡ role.Output → is_output r ≡ true
output_role r e = ap is_output e

pub checked : (m : MachineTree) (n : Named) (f : Fsm) → first_repeated [] (symbols m) ≡ None → HasRoles m n → 0 < length m.states.states → HasStates m.step.body → PassesBehind m n → IsMachineOf m n f → IsCheckedFsm f
checked m n f once roles some lists passes is =
    let late = late_fine m n passes.no_fault in
    let early = early_fine m n late.0 in
    let fs = facts m n early once roles in
    let vars = names_of f.ports in
    let many : length f.states ≡ length m.states.states = ap length is.states ∙ length-map m.states.states (λ (s : NewName). scalar s.text) in
    let count : length (texts m.states.states) ≡ length f.states = length-map m.states.states (λ (s : NewName). s.text) ∙ sym many in
    let has : HasPorts m n f = record { ports = λ p i. In-permutation (port_bits (symbols m)) f.ports p (IsPermutation-sym f.ports (port_bits (symbols m)) is.ports) i; clock = is.clock } in
    record {
      ports = is.ordered;
      supplies = All-from_In IsNoSupply vars (no_supplies m n f is);
      clock = contains_from_In vars f.clock (subst (λ (k : Name). In k vars) (sym is.clock) (In-map (λ (p : Port). p.name) (port_of dir.In (scalar n.clock)) f.ports (clock_port m n f fs is)));
      scalar = ap (λ (k : Name). k.bit) is.clock;
      unobserved = unobserved m n f fs is;
      some_state = omega (arith, some, many);
      few_states = let few = passes.few_states in omega (arith, few, many);
      different = subst (λ (ks : List Name). AllDifferent ks) (sym is.states) (scalar_states m.states.states (different_states m fs.different));
      sound = subst (λ (k : ℕ). IsSound (up 0 k) f.body) count (subst (λ b. IsSound (up 0 (length (texts m.states.states))) b) (sym is.body)
          (body_sound m n vars false m.step.body [] (λ e. refl) early.state (λ x i. (each_fine m n early x i).forms)));
      one_case = ap cases_in is.body ∙ cases_body m n vars false m.step.body (λ x i. (each_fine m n early x i).forms) ∙ ap (λ b. cond b 1 0) (has_case m n early);
      listed = subst (λ b. ListsStates b) (sym is.body) (once_body m n vars false m.step.body ([], early.state) lists);
      reads = subst (λ b. IsBodyOf f b) (sym is.body) (body_reads m n f has false m.step.body (all_read m n fs));
      assigned = record {
        next_state = λ q h. ap (sure sets_next q) is.body ∙ next_sure m n vars late.1 q (omega (arith, h, many));
        outputs = λ q h k c.
            let o = output_of f k c in
            let b = port_bit m n f is o.0 o.1 in
            let out : b.symbol.role ≡ role.Output = b.role ∙ ap role_of_dir o.3 in
            ap (sure (sets_output k) q) is.body
            ∙ output_sure m n vars late.1 q (omega (arith, h, many)) b.symbol b.declared (output_role b.symbol.role out) k (subst (λ (j : Name). In j (symbol_names b.symbol)) o.2 b.bit);
      };
    }

-- the machine of these parts is that of the text
pub machine_is : (m : MachineTree) (n : Named) (name : List ℕ) (ports ps : List Port) (clock : Name) (states : List Name) (body : Statements) → name ≡ m.entity.name → ps ≡ ports
    → IsPermutation (port_bits (symbols m)) ports → AreInOrder (names_of ports) → clock ≡ scalar n.clock → states ≡ map (λ (s : NewName). scalar s.text) m.states.states → body ≡ body_over m n ports
    → IsMachineOf m n (record { name = name; ports = ps; clock = clock; states = states; body = body })
machine_is m n name ports ps clock states body a same moved ordered b c d = record {
  name = a;
  ports = subst (λ (qs : List Port). IsPermutation qs (port_bits (symbols m))) (sym same) (IsPermutation-sym (port_bits (symbols m)) ports moved);
  ordered = subst (λ (qs : List Port). AreInOrder (names_of qs)) (sym same) ordered;
  clock = b;
  states = c;
  body = d ∙ ap (λ (qs : List Port). body_over m n qs) (sym same);
}
